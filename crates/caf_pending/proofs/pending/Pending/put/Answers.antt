use Rattle.std.proofs.Common.{◌∙◌, ◌<◌, ◌^◌, sym, ap, length, arith}
use Rattle.std.specs.Map.{lookup}
use Rattle.indexmap.specs.IndexMap.{insert_entry}
use Rattle.caf_pending.specs.Kept.{name_key}
use Rattle.caf_pending.specs.Open.{same_key}
use Rattle.caf_pending.proofs.Named.{Entries}
use Rattle.caf_pending.proofs.Keeps.{few_reads, few_writes, put_view, put_new_kept, put_over_kept}
use Rattle.caf_pending.proofs.pending.Pending.put.Goals as goal

pub add-requires-clause-few_reads : goal.add-requires-clause-few_reads
add-requires-clause-few_reads c =
    let small : length c.self.inside.operations.entries < 2 ^ 63 = omega (arith, c.len-count.ensures.len, c.len-count.ensures.small) in
    few_reads c.self.inside.operations.entries c.self.inside.counts c.self.invariant c.args.self.now c.self.view_is c.reserve-2.new.self small c.reserve-2.ensures.reads _

pub add-requires-clause-few_writes : goal.add-requires-clause-few_writes
add-requires-clause-few_writes c =
    let small : length c.self.inside.operations.entries < 2 ^ 63 = omega (arith, c.len-count.ensures.len, c.len-count.ensures.small) in
    few_writes c.self.inside.operations.entries c.self.inside.counts c.self.invariant c.args.self.now c.self.view_is c.reserve-2.new.self small c.reserve-2.ensures.writes _

pub invariant_of-self-in-Some : goal.invariant_of-self-in-Some
invariant_of-self-in-Some c =
    put_over_kept c.self.inside.operations.entries c.self.inside.counts c.self.invariant c.args.self.now c.self.view_is c.args.operation c.in-Some.old c.open_accesses-more.result c.open_accesses.result
    c.insert.new.operations.entries c.reserve-2.new.self c.add.new.self c.take.new.self
    (c.insert.ensures.entries ∙ ap (λ (es : Entries). insert_entry same_key es (name_key c.args.operation) c.args.operation) c.reserve.ensures.entries)
    (ap (lookup (same_key (name_key c.args.operation))) (sym c.reserve.ensures.entries) ∙ sym c.insert.ensures.old ∙ c.in-Some.is)
    c.open_accesses-more.ensures c.open_accesses.ensures c.reserve-2.ensures.reads c.reserve-2.ensures.writes c.add.ensures.reads c.add.ensures.writes c.take.ensures.reads c.take.ensures.writes

pub invariant_of-self-in_default : goal.invariant_of-self-in_default
invariant_of-self-in_default c =
    put_new_kept c.self.inside.operations.entries c.self.inside.counts c.self.invariant c.args.self.now c.self.view_is c.args.operation c.open_accesses-more.result
    c.insert.new.operations.entries c.reserve-2.new.self c.add.new.self
    (c.insert.ensures.entries ∙ ap (λ (es : Entries). insert_entry same_key es (name_key c.args.operation) c.args.operation) c.reserve.ensures.entries)
    (ap (lookup (same_key (name_key c.args.operation))) (sym c.reserve.ensures.entries) ∙ sym c.insert.ensures.old ∙ c.in_default.is)
    c.open_accesses-more.ensures c.reserve-2.ensures.reads c.reserve-2.ensures.writes c.add.ensures.reads c.add.ensures.writes

pub returns-in-Some-clause-ok : goal.returns-in-Some-clause-ok
returns-in-Some-clause-ok c =
    put_view c.self.inside.operations.entries c.self.inside.counts c.self.invariant c.args.self.now c.self.view_is c.args.operation c.insert.new.operations.entries
    (c.insert.ensures.entries ∙ ap (λ (es : Entries). insert_entry same_key es (name_key c.args.operation) c.args.operation) c.reserve.ensures.entries)

pub returns-in_default-clause-ok : goal.returns-in_default-clause-ok
returns-in_default-clause-ok c =
    put_view c.self.inside.operations.entries c.self.inside.counts c.self.invariant c.args.self.now c.self.view_is c.args.operation c.insert.new.operations.entries
    (c.insert.ensures.entries ∙ ap (λ (es : Entries). insert_entry same_key es (name_key c.args.operation) c.args.operation) c.reserve.ensures.entries)
