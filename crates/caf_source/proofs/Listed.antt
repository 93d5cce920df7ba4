-- Lists that are joined, and lists with an element set or taken out.
use Rattle.std.specs.List.{list_all, remove}
use Rattle.std.specs.Prelude.{slice_set}
use Rattle.std.proofs.lemmas.List.Folds.{list_all-append}
use Rattle.std.proofs.Common.{◌≡◌, ℕ, zero, suc, Bool, ◌&&◌, List, [], ◌∷◌, ◌++◌, ap, refl}

-- a test of all of two lists
pub all_both : {A : Type 0} (p : A → Bool) (xs ys : List A) → list_all p (xs ++ ys) ≡ (list_all p xs && list_all p ys)
all_both p xs ys = list_all-append p xs ys

-- an element that is taken out may be set before
pub remove_set : {A : Type 0} (xs : List A) (k : ℕ) (x : A) → remove (slice_set xs k x) k ≡ remove xs k
remove_set [] k x = refl
remove_set (y ∷ xs) zero x = refl
remove_set (y ∷ xs) (suc k) x = ap (λ l. y ∷ l) (remove_set xs k x)
