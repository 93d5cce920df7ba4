use Rattle.std.proofs.Common.{◌≡◌, ◌∙◌, ap, refl, arith, ℤ, pos, negsuc, ◌+ℤ◌, ◌-ℤ◌, ◌≤ℤ◌, to_z, of_z}
use Rattle.std.specs.Prelude.{unsigned_abs}
use Rattle.std.specs.Int.{w128}
use Rattle.std.proofs.lemmas.Int.{ints}
use Rattle.caf_base.specs.Arithmetic.{at_least_none}
use Rattle.caf_memory.proofs.span.length_of.Goals as goal

count : (z : ℤ) → pos 0 ≤ℤ z → unsigned_abs z ≡ at_least_none z
count (pos n) h = refl
count (negsuc n) h = absurd (omega (arith, ints))

pub returns : goal.returns
returns c =
    let n : ℤ = c.args.to -ℤ c.args.from +ℤ pos 1 in
    let kept : ℤ → ℤ = λ z. to_z w128 (of_z w128 z) in
    let exact : kept (kept (kept c.args.to -ℤ kept c.from.result) +ℤ pos 1) ≡ n = omega (arith, ints) in
    ap unsigned_abs exact ∙ count n (omega (arith, ints))
