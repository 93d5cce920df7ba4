-- What the codes of the three small programs print.
use Rattle.std.proofs.Common.{◌≡◌, [], ◌∷◌, length, refl}
use Rattle.std.specs.Prelude.{codes, Some, slice_get}
use Rattle.std.specs.Fmt.{digits}
use Rattle.caf_base.specs.declared.effect.Effect.TheVariants as effect
use Rattle.caf_base.specs.declared.trap.Trap.TheVariants as trap
use Rattle.caf_codetrials.specs.Examples.{alone, sums_code, loops_code, calls_code}

pub sums_print : (alone 1 sums_code).memory.lines ≡ codes "-3 -1 -6" ∷ []
unfolding alone digits
sums_print = refl

pub loops_print : (alone 7 loops_code).memory.lines ≡ codes "5" ∷ codes "7" ∷ []
unfolding alone digits
loops_print = refl

pub calls_print : length (alone 401 calls_code).memory.lines ≡ 200
unfolding alone digits
calls_print = refl

pub calls_end : slice_get (alone 401 calls_code).memory.lines 199 ≡ Some (codes "200")
unfolding alone digits
calls_end = refl

pub calls_trap : (alone 401 calls_code).effect ≡ effect.Traps trap.Depth
unfolding alone digits
calls_trap = refl
