-- At first the own part is missing.
use Rattle.std.proofs.Common.{◌≡◌, ℕ, ◌<◌, Some, refl, ap, ◌∙◌, sym, subst, eq-eqb, zero-add, length, arith, ◌||◌, cond, false}
use Rattle.std.specs.List.{slice_get}
use Rattle.std.proofs.lemmas.Option.{slice_get-get_or}
use Rattle.std.proofs.lemmas.List.FromFn.{get_or-map-range_with_len, length-map-range_with_len}
use Rattle.caf_reduce.specs.declared.part.Part.TheVariants.{Outside, Missing}
use Rattle.caf_reduce.specs.Tree.{first_part, first_parts, is_child}
use Rattle.caf_finish.specs.Progress.{IsOwn}

first_part-own : (size rank : ℕ) → first_part size rank rank ≡ Missing
first_part-own size rank = ap (λ b. cond (b || is_child size rank rank) Missing Outside) (eq-eqb rank rank refl)

first_parts-own : (size rank : ℕ) → rank < size → slice_get (first_parts size rank) rank ≡ Some Missing
first_parts-own size rank within =
    let long : rank < length (first_parts size rank) = omega (arith, length-map-range_with_len (first_part size rank) 0 size) in
    slice_get-get_or (first_parts size rank) rank Missing long ∙ ap Some (get_or-map-range_with_len (first_part size rank) 0 size rank rank Missing within (zero-add rank) ∙ first_part-own size rank)

pub own-first : (size rank : ℕ) → rank < size → IsOwn false (slice_get (first_parts size rank) rank)
own-first size rank within = subst (IsOwn false) (sym (first_parts-own size rank within)) refl
