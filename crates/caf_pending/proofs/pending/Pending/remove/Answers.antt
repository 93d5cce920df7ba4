use Rattle.std.proofs.Common.{◌∙◌, sym}
use Rattle.caf_pending.proofs.Keeps.{without_kept, without_view}
use Rattle.caf_pending.proofs.pending.Pending.remove.Goals as goal

pub invariant_of-self : goal.invariant_of-self
invariant_of-self c =
    without_kept c.self.inside.operations.entries c.self.inside.counts c.self.invariant c.args.self.now c.self.view_is c.args.name c.in-Some.old c.open_accesses.result c.swap_remove.new.self.entries c.take.new.self
    c.swap_remove.ensures.entries (sym c.swap_remove.ensures.value ∙ c.in-Some.is) c.open_accesses.ensures c.take.ensures.reads c.take.ensures.writes

pub returns-in-Some : goal.returns-in-Some
returns-in-Some c = without_view c.self.inside.operations.entries c.self.inside.counts c.self.invariant c.args.self.now c.self.view_is c.args.name c.swap_remove.new.self.entries c.swap_remove.ensures.entries

pub returns-in_default : goal.returns-in_default
returns-in_default c = without_view c.self.inside.operations.entries c.self.inside.counts c.self.invariant c.args.self.now c.self.view_is c.args.name c.swap_remove.new.self.entries c.swap_remove.ensures.entries
