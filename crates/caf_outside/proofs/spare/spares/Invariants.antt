use Rattle.std.proofs.Common.{◌≡◌, vec_len}
use Rattle.std.specs.List.{All}
use Rattle.caf_outside.specs.Spare.{HasRoom}
use Rattle.caf_outside.proofs.spare.spares.Given as goal

abbrev pub invariant-loop-made : goal.invariant-loop-made
invariant-loop-made l = record {
  count : vec_len l.spare ≡ l._made;
  roomy : All (HasRoom l.room) l.spare.items;
}
