-- What is true of every message of a kept list.
use Rattle.std.proofs.Common.{◌≡◌, ℕ, ◌+◌, ◌*◌, ◌/◌, ◌<◌, ◌≤◌, ◌==◌, Bool, true, false, cond, List, [], ◌∷◌, ◌⊎◌, inl, inr, refl, ap, arith, subst, Option, Some, None, is_some, IsSomeAnd, zero, suc, ℤ, pos, negsuc}
use Rattle.std.proofs.lemmas.Bool.{eqb-true, or_cases, or_right, lt-ltb, le-ltb, false_from_ne_true}
use Rattle.caf_base.specs.Arithmetic.{is_zero}
use Rattle.caf_epochs.specs.declared.counters.Class.TheVariants.{Even, Odd}
use Rattle.caf_finish.specs.declared.event.FinishEvent.{FinishEvent}
use Rattle.caf_finish.specs.declared.event.FinishEvent.TheVariants.{Send, Take, Complete, Ack, Contribute}
use Rattle.caf_finish.specs.Events.{Message, message_in, messages_of, is_class_even, is_even, is_taken, is_completed, is_acked, wave_of, is_late}
use Rattle.caf_finish.specs.Kept.{IsKept}
use Rattle.caf_finish.proofs.Lists.{bit, Each, SomeOf, Each-weaker}
use Rattle.caf_finish.proofs.Waves.{contributes, contributes-is}

-- a message is Even in wave w exactly where its epoch is at most 2w
pub even-early : (w : ℕ) (m : Message) → m.epoch ≤ 2 * w → is_even w m ≡ true
even-early w m le = ap (λ b. is_class_even (cond b Even Odd)) (lt-ltb m.epoch (2 * w + 1) (omega arith))

pub even-late : (w : ℕ) (m : Message) → 2 * w < m.epoch → is_even w m ≡ false
even-late w m lt = ap (λ b. is_class_even (cond b Even Odd)) (le-ltb m.epoch (2 * w + 1) (omega arith))

-- the test of a sum
pub zero-is : (s : ℤ) → is_zero s ≡ true → s ≡ pos 0
zero-is (pos zero) e = refl
zero-is (pos (suc n)) e = absurd cc
zero-is (negsuc n) e = absurd cc

-- what is found by its number is one of the messages: a fact of the one and a fact of all meet there
pub found-some : (P Q R : Message → Type 0) (n : ℕ) → ((x : Message) → x.number ≡ n → P x → Q x → R x)
    → (ms : List Message) → IsSomeAnd (message_in ms n) P → Each Q ms → SomeOf R ms
found-some P Q R n f [] e k = absurd e
found-some P Q R n f (x ∷ xs) e k = go (x.number == n) refl (λ r. found-some P Q R n f xs r k.1) e
  where
    go : (b : Bool) → (x.number == n) ≡ b → (IsSomeAnd (message_in xs n) P → SomeOf R xs)
        → IsSomeAnd (cond b (Some x) (message_in xs n)) P → R x ⊎ SomeOf R xs
    go true is rest e = inl (f x (eqb-true _ _ is) e k.0)
    go false is rest e = inr (rest e)

-- Invariant: what was taken was sent.

is_some-from : (o : Option Message) (P : Message → Type 0) → IsSomeAnd o P → is_some o ≡ true
is_some-from None P p = absurd p
is_some-from (Some x) P p = refl

found_still : (b : Bool) (x : Message) (r : Option Message) → is_some r ≡ true → is_some (cond b (Some x) r) ≡ true
found_still true x r p = refl
found_still false x r p = p

pub taken-sent : (size : ℕ) (h : List FinishEvent) (m : ℕ) → IsKept size h → is_taken h m ≡ true → is_some (message_in (messages_of h) m) ≡ true
taken-sent size [] m k e = absurd cc
taken-sent size (Take n ∷ h) m k e =
    elim (or_cases (n == m) (is_taken h m) e) [
      | inl now ↦ subst (λ x. is_some (message_in (messages_of h) x) ≡ true) (eqb-true n m now) (is_some-from _ (λ x. x.epoch / 2 ≤ wave_of h x.target) k.0.sent)
      | inr before ↦ taken-sent size h m k.1 before
    ]
taken-sent size (Send n o t by ∷ h) m k e = found_still (n == m) _ _ (taken-sent size h m k.1 e)
taken-sent size (_ ∷ h) m k e = taken-sent size h m k.1 e

-- Invariant: what is completed was taken.

pub completed-taken : (size : ℕ) (h : List FinishEvent) (m : ℕ) → IsKept size h → is_completed h m ≡ true → is_taken h m ≡ true
completed-taken size [] m k e = absurd cc
completed-taken size (Complete n ∷ h) m k e =
    elim (or_cases (n == m) (is_completed h m) e) [
      | inl now ↦ subst (λ x. is_taken h x ≡ true) (eqb-true n m now) k.0.taken
      | inr before ↦ completed-taken size h m k.1 before
    ]
completed-taken size (Take n ∷ h) m k e = or_right _ _ (completed-taken size h m k.1 e)
completed-taken size (_ ∷ h) m k e = completed-taken size h m k.1 e

-- Invariant: what has an Ack was taken.

pub acked-taken : (size : ℕ) (h : List FinishEvent) (m : ℕ) → IsKept size h → is_acked h m ≡ true → is_taken h m ≡ true
acked-taken size [] m k e = absurd cc
acked-taken size (Ack n ∷ h) m k e =
    elim (or_cases (n == m) (is_acked h m) e) [
      | inl now ↦ subst (λ x. is_taken h x ≡ true) (eqb-true n m now) k.0.taken
      | inr before ↦ acked-taken size h m k.1 before
    ]
acked-taken size (Take n ∷ h) m k e = or_right _ _ (acked-taken size h m k.1 e)
acked-taken size (_ ∷ h) m k e = acked-taken size h m k.1 e

-- a message that wasn't sent isn't taken, completed or acked
module _ (size : ℕ) (h : List FinishEvent) (m : ℕ) (k : IsKept size h) (new : message_in (messages_of h) m ≡ None) where
  pub new-untaken : is_taken h m ≡ false
  new-untaken = false_from_ne_true _ (λ e. absurd (cc (taken-sent size h m k e, ap is_some new)))

  pub new-open : is_completed h m ≡ false
  new-open = false_from_ne_true _ (λ e. absurd (cc (completed-taken size h m k e, new-untaken)))

  pub new-unacked : is_acked h m ≡ false
  new-unacked = false_from_ne_true _ (λ e. absurd (cc (acked-taken size h m k e, new-untaken)))

-- Invariant: origins and targets are ranks of the team.

abbrev pub RanksIn : ℕ → Message → Type 0
RanksIn size m = (m.origin < size) × (m.target < size)

pub ranks : (size : ℕ) (h : List FinishEvent) → IsKept size h → Each (RanksIn size) (messages_of h)
ranks size [] k = tt
ranks size (Send m o t by ∷ h) k = ((k.0.origin_in, k.0.target_in), ranks size h k.1)
ranks size (_ ∷ h) k = ranks size h k.1

-- Invariant: an epoch is at most twice the contributions of the message's origin.

epoch_bound : (c w : ℕ) (l : Bool) → c ≡ w + bit l → 2 * w + bit l ≤ 2 * c
epoch_bound c w true e = omega arith
epoch_bound c w false e = omega arith

pub epochs : (size : ℕ) (h : List FinishEvent) → IsKept size h → Each (λ m. m.epoch ≤ 2 * contributes h m.origin) (messages_of h)
epochs size [] k = tt
epochs size (Send m o t by ∷ h) k =
    (epoch_bound _ _ (is_late h o) (contributes-is size h o k.1), epochs size h k.1)
epochs size (Contribute j four ∷ h) k =
    Each-weaker _ (λ m. m.epoch ≤ 2 * (bit (j == m.origin) + contributes h m.origin)) (λ m p. omega arith) (messages_of h) (epochs size h k.1)
epochs size (_ ∷ h) k = epochs size h k.1
