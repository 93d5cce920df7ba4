-- What an index tells after a change.
use Rattle.std.proofs.Common.{◌≡◌, Bool, true, false, List, [], ◌∷◌, ◌++◌, length, refl, ap, ◌∙◌, sym, subst, arith}
use Rattle.std.specs.Prelude.{ℕ, ◌+◌, Option, Some, None, is_some, ◌&&◌, not, nat_eq, count_by, if◌then◌else◌}
use Rattle.std.specs.Map.{set_value}
use Rattle.std.specs.Option.{option_or}
use Rattle.indexmap.specs.IndexMap.{insert_entry}
use Rattle.caf_base.specs.declared.team.FinishRef.{FinishRef}
use Rattle.caf_base.specs.FinishRef.{same_path}
use Rattle.caf_history.specs.declared.arrival.Arrival.{Arrival}
use Rattle.caf_history.specs.declared.group.Group.{Group}
use Rattle.caf_history.specs.declared.index.Index.{Index}
use Rattle.caf_history.specs.Index.{Path, Joins, Stays, Gains, Keeps, Tells, count_of, first_of, group_of, count_at, first_at, one_if}
use Rattle.caf_history.specs.Kept.{counts_finish, is_finish, counts_split, is_split_of}
use Rattle.caf_history.specs.Places.{place_of, place_if}
use Rattle.caf_history.proofs.Entries.{Key, as_other, found, put, written}
use Rattle.std.proofs.lemmas.Cmp.{nat_eq_equiv}
use Rattle.caf_history.proofs.Paths.{turned}
use Rattle.caf_history.proofs.Spots.{or_none, place_more, count_more}

none_more : (n : ℕ) → n ≡ n + 0
none_more n = omega arith

-- the group of a path changed, and no other
abbrev pub Changes : Path → Index → Index → Group → Type 0
Changes path old new w = (p : Path) → group_of new p ≡ (if same_path p path then Some w else group_of old p)

gains_count : (path : Path) (number : ℕ) (counted : Bool) (at : ℕ) (old new : Index) (w : Group) → Changes path old new w → Joins number counted at (group_of old path) (Some w) → (p : Path) → count_at new p ≡ count_at old p + one_if (same_path p path && counted)
gains_count path number counted at old new w changes joins p = ap count_of (changes p) ∙ step (same_path p path) refl
  where
    step : (b : Bool) → same_path p path ≡ b → count_of (if b then Some w else group_of old p) ≡ count_at old p + one_if (b && counted)
    step true is = joins.count ∙ ap (λ o. count_of o + one_if counted) (sym (as_other p path old.groups.entries is))
    step false is = none_more (count_at old p)

gains_first : (path : Path) (number : ℕ) (counted : Bool) (at : ℕ) (old new : Index) (w : Group) → Changes path old new w → Joins number counted at (group_of old path) (Some w) → (p : Path) (k : ℕ) → first_at new p k ≡ option_or (first_at old p k) (place_if (same_path p path && nat_eq number k) at)
gains_first path number counted at old new w changes joins p k = ap (λ o. first_of o k) (changes p) ∙ step (same_path p path) refl
  where
    step : (b : Bool) → same_path p path ≡ b → first_of (if b then Some w else group_of old p) k ≡ option_or (first_at old p k) (place_if (b && nat_eq number k) at)
    step true is = joins.first k ∙ ap (λ o. option_or (first_of o k) (place_if (nat_eq number k) at)) (sym (as_other p path old.groups.entries is))
    step false is = sym (or_none (first_at old p k))

-- a name came to the group of its path
pub gains : (path : Path) (number : ℕ) (counted : Bool) (at : ℕ) (old new : Index) (w : Group) → Changes path old new w → Joins number counted at (group_of old path) (Some w) → Gains path number counted at old new
gains path number counted at old new w changes joins = record {
  count = gains_count path number counted at old new w changes joins;
  first = gains_first path number counted at old new w changes joins;
}

keeps_count : (path : Path) (old new : Index) (w : Group) → Changes path old new w → Stays (group_of old path) (Some w) → (p : Path) → count_at new p ≡ count_at old p
keeps_count path old new w changes stays p = ap count_of (changes p) ∙ step (same_path p path) refl
  where
    step : (b : Bool) → same_path p path ≡ b → count_of (if b then Some w else group_of old p) ≡ count_at old p
    step true is = stays.count ∙ ap count_of (sym (as_other p path old.groups.entries is))
    step false is = refl

keeps_first : (path : Path) (old new : Index) (w : Group) → Changes path old new w → Stays (group_of old path) (Some w) → (p : Path) (k : ℕ) → first_at new p k ≡ first_at old p k
keeps_first path old new w changes stays p k = ap (λ o. first_of o k) (changes p) ∙ step (same_path p path) refl
  where
    step : (b : Bool) → same_path p path ≡ b → first_of (if b then Some w else group_of old p) k ≡ first_at old p k
    step true is = stays.first k ∙ ap (λ o. first_of o k) (sym (as_other p path old.groups.entries is))
    step false is = refl

-- the group of a path says what it said
pub keeps : (path : Path) (old new : Index) (w : Group) → Changes path old new w → Stays (group_of old path) (Some w) → Keeps old new
keeps path old new w changes stays = record {
  count = keeps_count path old new w changes stays;
  first = keeps_first path old new w changes stays;
}

-- the same groups
pub keeps_all : (old new : Index) → new.groups.entries ≡ old.groups.entries → Keeps old new
keeps_all old new same = record {
  count = λ p. ap (λ es. count_of (found p es)) same;
  first = λ p k. ap (λ es. first_of (found p es) k) same;
}

module _ {A : Type 0} (counts : Path → A → Bool) (has : Path → ℕ → A → Bool) where
  -- an index that says the same tells of the same list
  pub still_tells : (all : List A) (old new : Index) → Keeps old new → Tells counts has all old → Tells counts has all new
  still_tells all old new keeps tells = record {
    count = λ p. keeps.count p ∙ tells.count p;
    first = λ p k. keeps.first p k ∙ tells.first p k;
  }

  -- an index with one name more tells of the list with one more
  pub tells_more : (all : List A) (x : A) (path : Path) (number : ℕ) (counted : Bool) (old new : Index) →
      ((p : Path) → (same_path p path && counted) ≡ counts p x) → ((p : Path) (k : ℕ) → (same_path p path && nat_eq number k) ≡ has p k x) →
      Gains path number counted (length all) old new → Tells counts has all old → Tells counts has (all ++ x ∷ []) new
  tells_more all x path number counted old new counts_as has_as gained tells = record {
    count = λ p. gained.count p ∙ ap (λ n. n + one_if (same_path p path && counted)) (tells.count p) ∙ ap (λ b. count_by (counts p) all + one_if b) (counts_as p) ∙ sym (count_more (counts p) all x);
    first = λ p k. gained.first p k ∙ ap (λ o. option_or o (place_if (same_path p path && nat_eq number k) (length all))) (tells.first p k) ∙ ap (λ b. option_or (place_of (has p k) all) (place_if b (length all))) (has_as p k) ∙ sym (place_more (has p k) all x);
  }

-- a finish more
pub one_finish_more : (all : List FinishRef) (f : FinishRef) (old new : Index) → Gains f.team.path f.number (not (nat_eq f.number 0)) (length all) old new → Tells counts_finish is_finish all old → Tells counts_finish is_finish (all ++ f ∷ []) new
one_finish_more all f old new gained tells =
    tells_more counts_finish is_finish all f f.team.path f.number (not (nat_eq f.number 0)) old new
    (λ p. ap (λ b. b && not (nat_eq f.number 0)) (turned p f.team.path))
    (λ p k. ap (λ b. same_path p f.team.path && b) (nat_eq_equiv.symm f.number k))
    gained tells

with_true : (b : Bool) → (b && true) ≡ b
with_true true = refl
with_true false = refl

-- an arrival more
pub one_arrival_more : (all : List Arrival) (a : Arrival) (old new : Index) → Gains a.team.path a.number true (length all) old new → Tells counts_split is_split_of all old → Tells counts_split is_split_of (all ++ a ∷ []) new
one_arrival_more all a old new gained tells =
    tells_more counts_split is_split_of all a a.team.path a.number true old new
    (λ p. with_true (same_path p a.team.path) ∙ turned p a.team.path)
    (λ p k. ap (λ b. b && nat_eq a.number k) (turned p a.team.path))
    gained tells

-- a path that had no group has one, under a key of its own
pub group_added : (path : Path) (number : ℕ) (counted : Bool) (at : ℕ) (old new : Index) (key : Key) (w : Group) → group_of old path ≡ None → key.items ≡ path →
    new.groups.entries ≡ insert_entry (λ (a b : Key). same_path a.items b.items) old.groups.entries key w → Joins number counted at None (Some w) → Gains path number counted at old new
group_added path number counted at old new key w none spelled comes joins =
    gains path number counted at old new w
    (λ p. ap (found p) comes ∙ put (λ (a b : Key). same_path a.items b.items) (λ a b. refl) key p old.groups.entries w (ap (λ q. found q old.groups.entries) spelled ∙ none) ∙ ap (λ q. if same_path p q then Some w else group_of old p) spelled)
    (subst (λ o. Joins number counted at o (Some w)) (sym none) joins)

-- a group was written where that of a path stood
pub group_written : (path : Path) (old new : Index) (g w : Group) → group_of old path ≡ Some g → new.groups.entries ≡ set_value (λ (key : Key). same_path path key.items) old.groups.entries w → Changes path old new w
group_written path old new g w is comes = λ p. ap (found p) comes ∙ written path p old.groups.entries w (ap is_some is)

-- it has a name more
pub group_grown : (path : Path) (number : ℕ) (counted : Bool) (at : ℕ) (old new : Index) (g w : Group) → group_of old path ≡ Some g → new.groups.entries ≡ set_value (λ (key : Key). same_path path key.items) old.groups.entries w →
    Joins number counted at (Some g) (Some w) → Gains path number counted at old new
group_grown path number counted at old new g w is comes joins = gains path number counted at old new w (group_written path old new g w is comes) (subst (λ o. Joins number counted at o (Some w)) (sym is) joins)

-- it says what it said
pub group_left : (path : Path) (old new : Index) (g w : Group) → group_of old path ≡ Some g → new.groups.entries ≡ set_value (λ (key : Key). same_path path key.items) old.groups.entries w → Stays (Some g) (Some w) → Keeps old new
group_left path old new g w is comes stays = keeps path old new w (group_written path old new g w is comes) (subst (λ o. Stays o (Some w)) (sym is) stays)
