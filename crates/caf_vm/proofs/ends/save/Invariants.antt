use Rattle.std.proofs.Common.{◌≡◌, take}
use Rattle.caf_vm.specs.Draft.{saved}
use Rattle.caf_vm.proofs.ends.save.Given as goal

abbrev pub invariant-loop-write : goal.invariant-loop-write
invariant-loop-write l = l.memory ≡ saved (take l.write-index l.writes) l.fn.memory
