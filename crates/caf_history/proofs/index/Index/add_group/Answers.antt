use Rattle.caf_history.proofs.Extends.{group_added}
use Rattle.caf_history.proofs.index.Index.add_group.Goals as goal

pub returns-clause-ok : goal.returns-clause-ok
returns-clause-ok c =
    group_added c.args.path.now c.args.number c.args.counted c.args.place c.args.self.now (record { groups = c.insert.new.self }) c.in_ok-key.key c.in_ok-group.group c.requires c.in_ok-key.ensures.items c.in_ok-insert.ensures.entries c.in_ok-group.ensures
