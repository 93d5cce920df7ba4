-- What an index answers of the list that it tells of.
use Rattle.std.proofs.Common.{◌≡◌, Bool, true, false, List, [], ◌∷◌, refl, ap, ◌∙◌, sym}
use Rattle.std.specs.Prelude.{ℕ, Option, Some, None, is_some, ◌&&◌, ◌||◌, find, nat_eq}
use Rattle.std.specs.List.{list_any}
use Rattle.std.proofs.lemmas.Cmp.{nat_eq_equiv}
use Rattle.caf_base.specs.declared.team.FinishRef.{FinishRef}
use Rattle.caf_base.specs.declared.team.Team.{Team}
use Rattle.caf_base.specs.FinishRef.{same_path, encloses}
use Rattle.caf_history.specs.declared.arrival.Arrival.{Arrival}
use Rattle.caf_history.specs.declared.index.Index.{Index}
use Rattle.caf_history.specs.Finishes.{is_program_finish}
use Rattle.caf_history.specs.Index.{Path, Tells, first_at}
use Rattle.caf_history.specs.Kept.{counts_finish, is_finish, counts_split, is_split_of}
use Rattle.caf_history.specs.Places.{place_of, at_place}
use Rattle.caf_history.specs.Splits.{is_split}
use Rattle.caf_history.proofs.Spots.{any_place, find_place}

-- the arrival at a split
pub found_at : (all : List Arrival) (index : Index) (team : Team) (number : ℕ) (o : Option ℕ) → Tells counts_split is_split_of all index → o ≡ first_at index team.path number → at_place all o ≡ find (is_split team number) all
found_at all index team number o tells is = ap (at_place all) (is ∙ tells.first team.path number) ∙ sym (find_place (is_split team number) all)

-- a finish of a path and a number
has_any : (all : List FinishRef) (index : Index) (path : Path) (number : ℕ) (o : Option ℕ) → Tells counts_finish is_finish all index → o ≡ first_at index path number → is_some o ≡ list_any (is_finish path number) all
has_any all index path number o tells is = ap is_some (is ∙ tells.first path number) ∙ any_place (is_finish path number) all

-- a finish of a name
pub has_named : (all : List FinishRef) (index : Index) (f : FinishRef) (o : Option ℕ) → Tells counts_finish is_finish all index → o ≡ first_at index f.team.path f.number → is_some o ≡ encloses f all
has_named all index f o tells is = has_any all index f.team.path f.number o tells is

as_program : (all : List FinishRef) → list_any (is_finish [] 0) all ≡ list_any is_program_finish all
as_program [] = refl
as_program (f ∷ all) = ap (λ b. (same_path [] f.team.path && b) || list_any (is_finish [] 0) all) (nat_eq_equiv.symm 0 f.number) ∙ ap (λ b. is_program_finish f || b) (as_program all)

-- the program's finish
pub has_body : (all : List FinishRef) (index : Index) (o : Option ℕ) → Tells counts_finish is_finish all index → o ≡ first_at index [] 0 → is_some o ≡ list_any is_program_finish all
has_body all index o tells is = has_any all index [] 0 o tells is ∙ as_program all
