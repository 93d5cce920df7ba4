use Rattle.std.proofs.Common.{ap, ◌∙◌, sym}
use Rattle.std.proofs.lemmas.Result.{on_ok_weaker, on_err_weaker}
use Rattle.caf_history.proofs.Entries.{found}
use Rattle.caf_history.proofs.Extends.{group_grown, group_left}
use Rattle.caf_history.proofs.index.Index.add.Goals as goal

pub add_group-requires : goal.add_group-requires
add_group-requires c = ap (λ m. found c.args.path.now m.entries) c.get_mut.follows.holds-at-none ∙ sym c.in-None.ensures.value

pub returns-in-Some-clause-ok : goal.returns-in-Some-clause-ok
returns-in-Some-clause-ok c =
    on_ok_weaker c.add.result
    (group_grown c.args.path.now c.args.number c.args.counted c.args.place c.args.self.now (record { groups = c.get_mut.follows.lender c.add.new.self }) c.in-Some.group.now c.add.new.self (sym c.in-Some.ensures.value) (c.get_mut.follows.holds c.add.new.self).0)
    c.add.ensures.ok

pub returns-in-Some-clause-err : goal.returns-in-Some-clause-err
returns-in-Some-clause-err c =
    on_err_weaker c.add.result
    (group_left c.args.path.now c.args.self.now (record { groups = c.get_mut.follows.lender c.add.new.self }) c.in-Some.group.now c.add.new.self (sym c.in-Some.ensures.value) (c.get_mut.follows.holds c.add.new.self).0)
    c.add.ensures.err
