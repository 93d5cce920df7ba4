-- A journal with one entry more.
use Rattle.std.proofs.lemmas.List.{take_more}
use Rattle.std.proofs.Common.{◌≡◌, ℕ, ◌+◌, ◌<◌, ◌≤◌, ◌++◌, Bool, true, false, List, [], ◌∷◌, Option, Some, None, ap, append_assoc, append-nil, arith, get_or, length, refl, subst, sym, ◌∙◌, take}
use Rattle.caf_journal.specs.declared.entry.Entry.{Entry}
use Rattle.caf_program.specs.declared.program.Program.{Program}
use Rattle.caf_source.specs.declared.choice.Choice.{Choice}
use Rattle.caf_source.specs.Kept.{CanGoOn, Kept}
use Rattle.caf_source.specs.Run.{state_from, then_next}
use Rattle.caf_source.specs.State.{State, first}
use Rattle.caf_check.specs.Checked.{Follows, IsFirstRefused, Leads}
use Rattle.caf_check.specs.Choices.{choice_of, choices_of, state_of}

choices_more : (j : List Entry) (e : Entry) → choices_of (j ++ e ∷ []) ≡ choices_of j ++ choice_of e
choices_more [] e = append-nil (choice_of e)
choices_more (x ∷ j) e = ap (λ l. choice_of x ++ l) (choices_more j e) ∙ sym (append_assoc (choice_of x) (choices_of j) (choice_of e))

states_more : (p : Program) (s : Option State) (cs ds : List Choice) → state_from p s (cs ++ ds) ≡ state_from p (state_from p s cs) ds
states_more p s [] ds = refl
states_more p s (c ∷ cs) ds = states_more p (then_next p s c) cs ds

-- the state after one entry more
state_more : (p : Program) (images : ℕ) (j : List Entry) (e : Entry) (s : State) → state_of p images j ≡ Some s → state_of p images (j ++ e ∷ []) ≡ state_from p (Some s) (choice_of e)
state_more p images j e s is = ap (state_from p (Some (first p images))) (choices_more j e) ∙ states_more p (Some (first p images)) (choices_of j) (choice_of e) ∙ ap (λ o. state_from p o (choice_of e)) is

length_more : (l : List Entry) (x : Entry) → length (l ++ x ∷ []) ≡ length l + 1
length_more [] x = refl
length_more (y ∷ l) x = omega (arith, length_more l x)

-- an entry whose choice is defined, or that has none
pub leads_more : (p : Program) (images at : ℕ) (j : List Entry) (d : Entry) (k after : Kept) → at < length j → Leads p images (take at j) k → Follows p (get_or j at d) k after true → after.done ≤ k.done + 1 → CanGoOn after → Leads p images (take (at + 1) j) after
leads_more p images at j d k after within so_far follows few ready =
    let e : Entry = get_or j at d in
    subst (λ l. Leads p images l after) (sym (take_more j at d within)) (record {
      leads = state_more p images (take at j) e k.state so_far.leads ∙ follows;
      few = omega (arith, few, so_far.few, length_more (take at j) e);
      ready = ready;
    })

-- one whose choice isn't
pub refused_here : (p : Program) (images at : ℕ) (j : List Entry) (d : Entry) (k after : Kept) → at < length j → Leads p images (take at j) k → Follows p (get_or j at d) k after false → IsFirstRefused p images j at
refused_here p images at j d k after within so_far follows = record {
  within = within;
  state = k.state;
  leads = so_far.leads;
  refused = subst (λ l. state_of p images l ≡ None) (sym (take_more j at d within)) (state_more p images (take at j) (get_or j at d) k.state so_far.leads ∙ follows);
}

-- the same of a test
pub leads_as : (b : Bool) → b ≡ true → (p : Program) (images at : ℕ) (j : List Entry) (d : Entry) (k after : Kept) → at < length j → Leads p images (take at j) k → Follows p (get_or j at d) k after b → after.done ≤ k.done + 1 → CanGoOn after → Leads p images (take (at + 1) j) after
leads_as true e p images at j d k after within so_far follows few ready = leads_more p images at j d k after within so_far follows few ready
leads_as false e p images at j d k after within so_far follows few ready = cc

pub refused_as : (b : Bool) → b ≡ false → (p : Program) (images at : ℕ) (j : List Entry) (d : Entry) (k after : Kept) → at < length j → Leads p images (take at j) k → Follows p (get_or j at d) k after b → IsFirstRefused p images j at
refused_as true e p images at j d k after within so_far follows = cc
refused_as false e p images at j d k after within so_far follows = refused_here p images at j d k after within so_far follows
