-- The account of a finish in a list of those that are known, and how it changes with the list.
use Rattle.std.proofs.Common.{◌≡◌, ◌≢◌, ℕ, zero, suc, ◌<◌, Bool, true, false, not, cond, List, [], ◌∷◌, ◌++◌, length, get_or, Option, Some, None, is_some, IsSomeAnd, refl, ap, sym, ◌∙◌, subst, nat_lt, unwrap_or, inl, inr}
use Rattle.std.proofs.Math.ListN.{set}
use Rattle.std.specs.List.{find, filter, position, position_or_len, slice_get}
use Rattle.std.specs.Option.{option_map, option_or}
use Rattle.std.proofs.lemmas.Bool.{lt-ltb, le-ltb}
use Rattle.std.proofs.lemmas.Option.{slice_get-get_or, slice_get_cases}
use Rattle.std.proofs.lemmas.List.Folds.{find_at, find-set, find-append}
use Rattle.std.proofs.lemmas.List.Quantifiers.{position-Some}
use Rattle.caf_base.specs.declared.team.FinishRef.{FinishRef}
use Rattle.caf_base.proofs.Same.{same_finish-Decides}
use Rattle.caf_finish.specs.declared.known.Known.{Known}
use Rattle.caf_finish.specs.Account.{Account}
use Rattle.caf_finish.specs.Desk.{Desk, is_of, account_in, account_at, At, IsPlace, new_account, Puts, Changes}

-- an entry of one finish is of no other
is_of-other : (f g : FinishRef) (k : Known) → g ≢ f → is_of f k ≡ true → is_of g k ≡ false
is_of-other f g k ne e = go (is_of g k) refl
  where
    go : (b : Bool) → is_of g k ≡ b → b ≡ false
    go false h = refl
    go true h =
        absurd (ne (sym ((same_finish-Decides k.finish g (is_of g k) refl).0 h) ∙ (same_finish-Decides k.finish f (is_of f k) refl).0 e))

-- a finish is one with itself
is_of-same : (f : FinishRef) (k : Known) → k.finish ≡ f → is_of f k ≡ true
is_of-same f k e = (same_finish-Decides k.finish f (is_of f k) refl).1 e

-- what `place` answers
pub position-known : (ks : List Known) (f : FinishRef) → is_some (position (is_of f) ks) ≡ is_some (account_in ks f)
position-known ks f =
    let place = position_or_len (is_of f) ks in
    elim (slice_get_cases ks place).1 [
      | inl w ↦
          ap (λ b. is_some (cond b (Some place) None)) (lt-ltb place (length ks) w.1) ∙ sym (ap (λ o. is_some (option_map (λ (k : Known). k.progress) o)) (find_at (is_of f) ks ∙ w.2))
      | inr w ↦
          ap (λ b. is_some (cond b (Some place) None)) (le-ltb place (length ks) w.0) ∙ sym (ap (λ o. is_some (option_map (λ (k : Known). k.progress) o)) (find_at (is_of f) ks ∙ w.1))
    ]

pub position-at : (ks : List Known) (f : FinishRef) (at : ℕ) → position (is_of f) ks ≡ Some at → at ≡ position_or_len (is_of f) ks
position-at ks f at e = go (nat_lt (position_or_len (is_of f) ks) (length ks)) e
  where
    go : (b : Bool) → cond b (Some (position_or_len (is_of f) ks)) None ≡ Some at → at ≡ position_or_len (is_of f) ks
    go true h = cc
    go false h = cc

-- the account at the place
account-at : (ks : List Known) (f : FinishRef) (at : ℕ) (d : Known) → IsPlace ks f at → account_in ks f ≡ Some (get_or ks at d).progress
account-at ks f at d place =
    ap (option_map (λ (k : Known). k.progress)) (find_at (is_of f) ks ∙ ap (slice_get ks) (sym place.first) ∙ slice_get-get_or ks at d place.within)

-- a write of an element that fails the test, where one was that fails it
find-set_other : {X : Type 0} (p : X → Bool) (xs : List X) (i : ℕ) (y d : X) → p y ≡ false → p (get_or xs i d) ≡ false → find p (set xs i y) ≡ find p xs
find-set_other p [] i y d new old = refl
find-set_other p (x ∷ xs) zero y d new old = rw (new, old) refl
find-set_other p (x ∷ xs) (suc i) y d new old = ap (cond (p x) (Some x)) (find-set_other p xs i y d new old)

-- the account at the place is changed
puts-set : (image : ℕ) (ks : List Known) (f : FinishRef) (at : ℕ) (k d : Known) (a : Account) → IsPlace ks f at → k ≡ get_or ks at d → let old : Desk = record { image = image; known = ks } in let new : Desk = record { image = image; known = set ks at (record k { progress = a }) } in Puts old new f (Some a)
puts-set image ks f at k d a place is =
    let within : position_or_len (is_of f) ks < length ks = subst (λ n. n < length ks) place.first place.within in
    let y : Known = record k { progress = a } in
    let found = position-Some (is_of f) ks at d (ap (λ b. cond b (Some (position_or_len (is_of f) ks)) None) (lt-ltb (position_or_len (is_of f) ks) (length ks) within) ∙ ap Some (sym place.first)) in
    let this : is_of f k ≡ true = ap (is_of f) is ∙ found.1 in
    record {
      image = refl;
      here = ap (option_map (λ (e : Known). e.progress)) (find-set (is_of f) ks at y place.first place.within this);
      others = λ g ne.
          let not_g = is_of-other f g k ne this in
          ap (option_map (λ (e : Known). e.progress)) (find-set_other (is_of g) ks at y d not_g (ap (is_of g) (sym is) ∙ not_g));
    }

option_map-none : {A B : Type 0} (h : A → B) (o : Option A) → option_map h o ≡ None → o ≡ None
option_map-none h None e = refl
option_map-none h (Some x) e = cc

none_from : {A : Type 0} (o : Option A) → is_some o ≡ false → o ≡ None
none_from None e = refl
none_from (Some x) e = cc

option_or-none : {A : Type 0} (o : Option A) → option_or o None ≡ o
option_or-none None = refl
option_or-none (Some x) = refl

-- an entry is put at the end for a finish that wasn't known
puts-push : (image : ℕ) (ks : List Known) (f : FinishRef) (k : Known) → k.finish ≡ f → account_in ks f ≡ None → let old : Desk = record { image = image; known = ks } in let new : Desk = record { image = image; known = ks ++ k ∷ [] } in Puts old new f (Some k.progress)
puts-push image ks f k is unknown = record {
  image = refl;
  here =
      ap (option_map (λ (e : Known). e.progress)) (find-append (is_of f) ks (k ∷ []) ∙ ap (λ o. option_or o (cond (is_of f k) (Some k) None)) (option_map-none (λ (e : Known). e.progress) (find (is_of f) ks) unknown) ∙ ap (λ b. cond b (Some k) None) (is_of-same f k is));
  others = λ g ne.
      ap (option_map (λ (e : Known). e.progress)) (find-append (is_of g) ks (k ∷ []) ∙ ap (λ b. option_or (find (is_of g) ks) (cond b (Some k) None)) (is_of-other f g k ne (is_of-same f k is)) ∙ option_or-none (find (is_of g) ks));
}

-- the entries of a finish are taken off
find-filter_none : {X : Type 0} (p : X → Bool) (xs : List X) → find p (filter (λ x. not (p x)) xs) ≡ None
find-filter_none p [] = refl
find-filter_none p (x ∷ xs) = go (p x) refl (find-filter_none p xs)
  where
    go : (b : Bool) → p x ≡ b → find p (filter (λ y. not (p y)) xs) ≡ None → find p (cond (not b) (x ∷ filter (λ y. not (p y)) xs) (filter (λ y. not (p y)) xs)) ≡ None
    go true e rest = rest
    go false e rest = rw e rest

find-filter_other : {X : Type 0} (p q : X → Bool) → ((x : X) → p x ≡ true → q x ≡ false) → (xs : List X) → find q (filter (λ x. not (p x)) xs) ≡ find q xs
find-filter_other p q apart [] = refl
find-filter_other p q apart (x ∷ xs) = go (p x) refl (find-filter_other p q apart xs)
  where
    go : (b : Bool) → p x ≡ b → find q (filter (λ y. not (p y)) xs) ≡ find q xs → find q (cond (not b) (x ∷ filter (λ y. not (p y)) xs) (filter (λ y. not (p y)) xs)) ≡ cond (q x) (Some x) (find q xs)
    go true e rest = rest ∙ sym (ap (λ b. cond b (Some x) (find q xs)) (apart x e))
    go false e rest = ap (cond (q x) (Some x)) rest

puts-filter : (image : ℕ) (ks : List Known) (f : FinishRef) → let old : Desk = record { image = image; known = ks } in let new : Desk = record { image = image; known = filter (λ k. not (is_of f k)) ks } in Puts old new f None
puts-filter image ks f = record {
  image = refl;
  here = ap (option_map (λ (e : Known). e.progress)) (find-filter_none (is_of f) ks);
  others = λ g ne. ap (option_map (λ (e : Known). e.progress)) (find-filter_other (is_of f) (is_of g) (λ k. is_of-other f g k ne) ks);
}

-- Below, a desk is opened at its fields, and `slice` is its list as it is passed to `place_of`.

same_place : (slice ks : List Known) (f : FinishRef) (at : ℕ) → slice ≡ ks → IsPlace slice f at → IsPlace ks f at
same_place slice ks f at same place = subst (λ entries. IsPlace entries f at) same place

-- the account of the entry at the place
pub account_now : (now : Desk) (image : ℕ) (ks slice : List Known) (f : FinishRef) (at : ℕ) (k : Known) → let opened : Desk = record { image = image; known = ks } in opened ≡ now → slice ≡ ks → IsPlace slice f at → k ≡ get_or ks at k → account_at now f ≡ Some k.progress
account_now now image ks slice f at k is same place read =
    sym (ap (λ (d : Desk). account_at d f) is) ∙ account-at ks f at k (same_place slice ks f at same place) ∙ ap (λ (e : Known). Some e.progress) (sym read)

-- what is true of the account of a finish is true of the entry at the place
pub holds_at : (now : Desk) (image : ℕ) (ks slice : List Known) (f : FinishRef) (at : ℕ) (k : Known) (P : Account → Type 0) → let opened : Desk = record { image = image; known = ks } in opened ≡ now → slice ≡ ks → IsPlace slice f at → k ≡ get_or ks at k → At now f P → P k.progress
holds_at now image ks slice f at k P is same place read holds =
    subst (λ o. IsSomeAnd o P) (account_now now image ks slice f at k is same place read) holds

-- the account after the entry at the place was changed
pub account_then : (image : ℕ) (ks slice : List Known) (f : FinishRef) (at : ℕ) (k : Known) (a : Account) → slice ≡ ks → IsPlace slice f at → k ≡ get_or ks at k → account_in (set ks at (record k { progress = a })) f ≡ Some a
account_then image ks slice f at k a same place read =
    (puts-set image ks f at k k a (same_place slice ks f at same place) read).here

-- the entry at the place is changed
pub changes_at : (now : Desk) (image : ℕ) (ks slice : List Known) (f : FinishRef) (at : ℕ) (k : Known) (a : Account) (change : Account → Account) → let opened : Desk = record { image = image; known = ks } in let new : Desk = record { image = image; known = set ks at (record k { progress = a }) } in opened ≡ now → slice ≡ ks → IsPlace slice f at → k ≡ get_or ks at k → a ≡ change k.progress → Changes now new f change
changes_at now image ks slice f at k a change is same place read changed =
    let new : Desk = record { image = image; known = set ks at (record k { progress = a }) } in
    let account = ap Some changed ∙ sym (ap (option_map change) (account_now now image ks slice f at k is same place read)) in
    subst (Puts now new f) account (subst (λ (old : Desk). Puts old new f (Some a)) is (puts-set image ks f at k k a (same_place slice ks f at same place) read))

-- an entry is put at the end
pub puts_new : (now : Desk) (image : ℕ) (ks : List Known) (f : FinishRef) (k : Known) → let opened : Desk = record { image = image; known = ks } in let new : Desk = record { image = image; known = ks ++ k ∷ [] } in opened ≡ now → k.finish ≡ f → k.progress ≡ new_account image f → is_some (account_at now f) ≡ false → Puts now new f (Some (unwrap_or (account_at now f) (new_account now.image f)))
puts_new now image ks f k is finish progress unknown =
    let new : Desk = record { image = image; known = ks ++ k ∷ [] } in
    let none : account_at now f ≡ None = none_from (account_at now f) unknown in
    let account = ap Some (progress ∙ ap (λ (d : Desk). new_account d.image f) is ∙ sym (ap (λ o. unwrap_or o (new_account now.image f)) none)) in
    subst (Puts now new f) account (subst (λ (old : Desk). Puts old new f (Some k.progress)) is (puts-push image ks f k finish (ap (λ (d : Desk). account_at d f) is ∙ none)))

-- the entries of a finish are taken off
pub puts_none : (now : Desk) (image : ℕ) (ks after : List Known) (f : FinishRef) → let opened : Desk = record { image = image; known = ks } in let new : Desk = record { image = image; known = after } in opened ≡ now → after ≡ filter (λ k. not (is_of f k)) ks → Puts now new f None
puts_none now image ks after f is filtered =
    let new : Desk = record { image = image; known = after } in
    subst (λ (old : Desk). Puts old new f None) is (subst (λ entries. let then : Desk = record { image = image; known = entries } in Puts (record { image = image; known = ks }) then f None) (sym filtered) (puts-filter image ks f))
