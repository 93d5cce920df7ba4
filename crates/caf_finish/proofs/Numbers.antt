-- Messages by their numbers: no two have one, so that a mark set for a number counts one message more.
use Rattle.std.proofs.Common.{◌≡◌, ℕ, ◌+◌, ◌==◌, Bool, true, false, cond, ◌&&◌, ◌||◌, List, [], ◌∷◌, refl, ap, sym, ◌∙◌, arith, subst, Option, Some, None, IsSomeAnd, count_by}
use Rattle.std.proofs.lemmas.Bool.{eqb-true, eqb-false, eq-eqb, ne_eqb}
use Rattle.caf_finish.specs.declared.event.FinishEvent.{FinishEvent}
use Rattle.caf_finish.specs.declared.event.FinishEvent.TheVariants.{Send}
use Rattle.caf_finish.specs.Events.{Message, message_in, messages_of}
use Rattle.caf_finish.specs.Kept.{IsKept}
use Rattle.caf_finish.proofs.Lists.{bit, Each, count-cons}

-- Invariant: no two messages have one number.
abbrev pub AreApart : List Message → Type 0
AreApart [] = Unit {0}
AreApart (x ∷ xs) = (message_in xs x.number ≡ None) × AreApart xs

pub apart : (size : ℕ) (h : List FinishEvent) → IsKept size h → AreApart (messages_of h)
apart size [] k = tt
apart size (Send m o t by ∷ h) k = (k.0.is_new, apart size h k.1)
apart size (_ ∷ h) k = apart size h k.1

none_found : (b : Bool) (x : Message) (r : Option Message) → cond b (Some x) r ≡ None → (b ≡ false) × (r ≡ None)
none_found true x r e = absurd cc
none_found false x r e = (refl, e)

-- a mark for a number that isn't there changes no count
mark_other : (q b t : Bool) → b ≡ false → (q && (b || t)) ≡ (q && t)
mark_other q true t e = absurd cc
mark_other q false t e = refl

mark_here : (q b t : Bool) → b ≡ true → t ≡ false → bit (q && (b || t)) ≡ bit q + bit (q && t)
mark_here true true true e f = absurd cc
mark_here true true false e f = refl
mark_here false true t e f = refl
mark_here q false t e f = absurd cc

module _ (q : Message → Bool) (t : ℕ → Bool) (n : ℕ) where
  abbrev marked : Message → Bool
  marked m = q m && ((n == m.number) || t m.number)

  abbrev before : Message → Bool
  before m = q m && t m.number

  count-unmarked : (ms : List Message) → message_in ms n ≡ None → count_by marked ms ≡ count_by before ms
  count-unmarked [] e = refl
  count-unmarked (x ∷ xs) e =
      let p = none_found (x.number == n) x (message_in xs n) e in
      let other : (n == x.number) ≡ false = ne_eqb _ _ (λ s. eqb-false x.number n p.0 (sym s)) in
      let here = ap bit (mark_other (q x) (n == x.number) (t x.number) other) in
      omega (arith, count-cons marked x xs, count-cons before x xs, here, count-unmarked xs p.1)

  -- a mark for the number of a message counts that one more, if it counts
  module _ (y : Message) (unmarked : t n ≡ false) where
    marked_here : (x : Message) (xs : List Message) → x.number ≡ n → x ≡ y → message_in xs x.number ≡ None → count_by marked (x ∷ xs) ≡ bit (q y) + count_by before (x ∷ xs)
    marked_here x xs same is new =
        let others = count-unmarked xs (ap (message_in xs) (sym same) ∙ new) in
        let here = mark_here (q x) (n == x.number) (t x.number) (eq-eqb _ _ (sym same)) (ap t same ∙ unmarked) in
        let one = ap (λ z. bit (q z)) is in
        omega (arith, count-cons marked x xs, count-cons before x xs)

    marked_behind : (x : Message) (xs : List Message) → (x.number ≡ n → ⊥) → count_by marked xs ≡ bit (q y) + count_by before xs → count_by marked (x ∷ xs) ≡ bit (q y) + count_by before (x ∷ xs)
    marked_behind x xs differ rest =
        let other : (n == x.number) ≡ false = ne_eqb _ _ (λ s. differ (sym s)) in
        let here = ap bit (mark_other (q x) (n == x.number) (t x.number) other) in
        omega (arith, count-cons marked x xs, count-cons before x xs)

    pub count-marked : (ms : List Message) → AreApart ms → message_in ms n ≡ Some y → count_by marked ms ≡ bit (q y) + count_by before ms
    count-marked [] a e = absurd cc
    count-marked (x ∷ xs) a e = go (x.number == n) refl (λ r. count-marked xs a.1 r) e
      where
        go : (b : Bool) → (x.number == n) ≡ b → (message_in xs n ≡ Some y → count_by marked xs ≡ bit (q y) + count_by before xs)
            → cond b (Some x) (message_in xs n) ≡ Some y → count_by marked (x ∷ xs) ≡ bit (q y) + count_by before (x ∷ xs)
        go true p rest e = let is : x ≡ y = cc in marked_here x xs (eqb-true _ _ p) is a.0
        go false p rest e = marked_behind x xs (eqb-false x.number n p) (rest e)

-- what is true of each message is true of the one that is found, and that one has the number
pub found-holds : (P : Message → Type 0) (n : ℕ) (y : Message) → (ms : List Message) → message_in ms n ≡ Some y → Each P ms → (y.number ≡ n) × P y
found-holds P n y [] e k = absurd cc
found-holds P n y (x ∷ xs) e k = go (x.number == n) refl (λ r. found-holds P n y xs r k.1) e
  where
    go : (b : Bool) → (x.number == n) ≡ b → (message_in xs n ≡ Some y → (y.number ≡ n) × P y) → cond b (Some x) (message_in xs n) ≡ Some y → (y.number ≡ n) × P y
    go true p rest e = let is : x ≡ y = cc in (subst (λ z. z.number ≡ n) is (eqb-true x.number n p), subst P is k.0)
    go false p rest e = rest e

pub found-number : (n : ℕ) (y : Message) → (ms : List Message) → message_in ms n ≡ Some y → y.number ≡ n
found-number n y ms e = (found-holds (λ x. Unit {0}) n y ms e (each_one ms)).0
  where
    each_one : (xs : List Message) → Each (λ x. Unit {0}) xs
    each_one [] = tt
    each_one (x ∷ xs) = (tt, each_one xs)

-- what is true of the one that is found is true of each message with that number
pub found-only : (P : Message → Type 0) (n : ℕ) → (ms : List Message) → AreApart ms → IsSomeAnd (message_in ms n) P → Each (λ m. (n == m.number) ≡ true → P m) ms
found-only P n [] a e = tt
found-only P n (x ∷ xs) a e = go (x.number == n) refl (λ r. found-only P n xs a.1 r) e
  where
    none : (ys : List Message) → message_in ys n ≡ None → Each (λ m. (n == m.number) ≡ true → P m) ys
    none [] f = tt
    none (y ∷ ys) f =
        let p = none_found (y.number == n) y (message_in ys n) f in
        (λ t. absurd (cc (eq-eqb y.number n (sym (eqb-true n y.number t)), p.0)), none ys p.1)

    go : (b : Bool) → (x.number == n) ≡ b → (IsSomeAnd (message_in xs n) P → Each (λ m. (n == m.number) ≡ true → P m) xs)
        → IsSomeAnd (cond b (Some x) (message_in xs n)) P → ((n == x.number) ≡ true → P x) × Each (λ m. (n == m.number) ≡ true → P m) xs
    go true p rest e = (λ t. e, none xs (ap (message_in xs) (sym (eqb-true x.number n p)) ∙ a.0))
    go false p rest e = (λ t. absurd (cc (p, eq-eqb x.number n (sym (eqb-true n x.number t)))), rest e)

-- what is true of the one that is found, from either side
pub at-some : (o : Option Message) (x : Message) (P : Message → Type 0) → o ≡ Some x → IsSomeAnd o P → P x
at-some None x P e p = absurd p
at-some (Some y) x P e p = let is : y ≡ x = cc in subst P is p

pub from-some : (o : Option Message) (x : Message) (P : Message → Type 0) → o ≡ Some x → P x → IsSomeAnd o P
from-some None x P e p = absurd cc
from-some (Some y) x P e p = let is : x ≡ y = cc in subst P is p
