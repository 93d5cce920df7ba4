-- That paths are the same is an equivalence.
use Rattle.std.proofs.Common.{◌≡◌, ℕ, ℤ, Bool, true, List, ◌∙◌}
use Rattle.std.specs.Cmp.{IsEquivalence}
use Rattle.std.specs.Ordering.{int_eq}
use Rattle.std.specs.Prelude.{nat_eq}
use Rattle.std.proofs.lemmas.Cmp.{nat_eq_equiv, int_eq_equiv, on_equiv, and_equiv, lists_equiv}
use Rattle.caf_base.specs.FinishRef.{same_split, same_path}
use Rattle.caf_history.specs.Index.{Path}

splits : IsEquivalence same_split
splits = and_equiv (on_equiv (λ (s : ℕ × ℤ). s.0) nat_eq_equiv) (on_equiv (λ (s : ℕ × ℤ). s.1) int_eq_equiv)

pub paths : IsEquivalence same_path
paths = lists_equiv splits

pub turned : (p q : Path) → same_path p q ≡ same_path q p
turned p q = paths.symm p q

-- what is the same as one of two that are the same is the same as the other
pub alike : (p q r : Path) → same_path q r ≡ true → same_path p q ≡ same_path p r
alike p q r is = paths.symm p q ∙ paths.congr q r p is ∙ paths.symm r p
