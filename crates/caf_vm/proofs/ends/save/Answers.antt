use Rattle.caf_vm.proofs.Saved.{saved_turn}
use Rattle.caf_vm.proofs.ends.save.Goals as goal

pub loop-write-preserved : goal.loop-write-preserved
loop-write-preserved c =
    saved_turn c.args.writes.now c.loop-write.write-index _ c.args.memory.now c.loop-write.memory c.put_one.new.memory c.loop-write-test.true c.loop-write.invariant c.put_one.ensures
