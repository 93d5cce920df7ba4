-- A journal with one entry more.
use Rattle.std.proofs.Common.{◌≡◌, ℕ, List, [], ◌∷◌, ◌++◌, Bool, true, false, ◌&&◌, Option, Some, None, ℤ, pos, ◌+ℤ◌, ◌-ℤ◌, append_assoc, append-nil, refl, sym, ap, ◌∙◌}
use Rattle.std.specs.Option.{option_map_or}
use Rattle.caf_journal.specs.declared.entry.Entry.{Entry}
use Rattle.caf_journal.specs.declared.entry.Entry.TheVariants.{Contribute, Result}
use Rattle.caf_program.specs.declared.program.Program.{Program}
use Rattle.caf_source.specs.declared.choice.Choice.{Choice}
use Rattle.caf_source.specs.Run.{state_from, then_next}
use Rattle.caf_source.specs.State.{State, first}
use Rattle.caf_check.specs.Choices.{choice_of, choices_of, state_of}
use Rattle.caf_solo.specs.Waves.{is_allowed, is_legal, is_legal_after, late_from, may_follow, result_from, share_from}

pub late_more : (b : Bool) (j : List Entry) (e : Entry) → late_from b (j ++ e ∷ []) ≡ late_from (late_from b j) (e ∷ [])
late_more b [] e = refl
late_more b (Contribute image four ∷ j) e = late_more true j e
late_more b (Result image sum ∷ j) e = late_more false j e
late_more b (other ∷ j) e = late_more b j e

pub result_more : (last : Option ℤ) (j : List Entry) (e : Entry) → result_from last (j ++ e ∷ []) ≡ result_from (result_from last j) (e ∷ [])
result_more last [] e = refl
result_more last (Result image sum ∷ j) e = result_more (Some sum) j e
result_more last (other ∷ j) e = result_more last j e

pub share_more : (z : ℤ) (j : List Entry) (e : Entry) → share_from z (j ++ e ∷ []) ≡ share_from (share_from z j) (e ∷ [])
share_more z [] e = refl
share_more z (Contribute image four ∷ j) e = share_more (z +ℤ (pos four.sent -ℤ pos four.completed)) j e
share_more z (Result image sum ∷ j) e = share_more (pos 0) j e
share_more z (other ∷ j) e = share_more z j e

choices_more : (j : List Entry) (e : Entry) → choices_of (j ++ e ∷ []) ≡ choices_of j ++ choice_of e
choices_more [] e = append-nil (choice_of e)
choices_more (x ∷ j) e = ap (λ l. choice_of x ++ l) (choices_more j e) ∙ sym (append_assoc (choice_of x) (choices_of j) (choice_of e))

states_more : (p : Program) (s : Option State) (cs ds : List Choice) → state_from p s (cs ++ ds) ≡ state_from p (state_from p s cs) ds
states_more p s [] ds = refl
states_more p s (c ∷ cs) ds = states_more p (then_next p s c) cs ds

-- the state after one entry more
pub state_more : (p : Program) (j : List Entry) (e : Entry) → state_of p 1 (j ++ e ∷ []) ≡ state_from p (state_of p 1 j) (choice_of e)
state_more p j e = ap (state_from p (Some (first p 1))) (choices_more j e) ∙ states_more p (Some (first p 1)) (choices_of j) (choice_of e)

and_true : (b : Bool) → (b && true) ≡ b
and_true true = refl
and_true false = refl

and_same : (a b c : Bool) → ((a && b) && c) ≡ (a && (b && c))
and_same true b c = refl
and_same false b c = refl

legal_after : (p : Program) (j es : List Entry) (e : Entry) → is_legal_after p j (es ++ e ∷ []) ≡ (is_legal_after p j es && is_allowed p (j ++ es) e)
legal_after p j [] e = and_true (is_allowed p j e) ∙ ap (λ l. is_allowed p l e) (sym (append-nil j))
legal_after p j (x ∷ es) e =
    ap (λ b. is_allowed p j x && b) (legal_after p (j ++ x ∷ []) es e)
    ∙ sym (and_same (is_allowed p j x) (is_legal_after p (j ++ x ∷ []) es) (is_allowed p ((j ++ x ∷ []) ++ es) e))
    ∙ ap (λ l. (is_allowed p j x && is_legal_after p (j ++ x ∷ []) es) && is_allowed p l e) (append_assoc j (x ∷ []) es)

both_true : (a b : Bool) → a ≡ true → b ≡ true → (a && b) ≡ true
both_true true b one other = other
both_true false b one other = one

-- an entry that may follow leaves a legal journal
pub legal_more : (p : Program) (j : List Entry) (s : State) (e : Entry) → is_legal p j ≡ true → state_of p 1 j ≡ Some s → may_follow p s j e ≡ true → is_legal p (j ++ e ∷ []) ≡ true
legal_more p j s e legal leads may =
    legal_after p [] j e ∙ both_true (is_legal p j) (is_allowed p j e) legal (ap (λ o. option_map_or (λ x. may_follow p x j e) o false) leads ∙ may)
