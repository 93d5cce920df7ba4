-- How the state of one image stands, and what a report tells of it.
use Rattle.std.proofs.lemmas.Bool.{false≢true}
use Rattle.std.proofs.Common.{◌≡◌, ◌≤◌, ℕ, List, [], ◌∷◌, length, map, false, Some, IsTrue, ap, refl, subst, sym, ◌∙◌}
use Rattle.caf_base.specs.ImageMemory.{ImageMemory}
use Rattle.caf_base.specs.declared.effect.Effect.{Effect}
use Rattle.caf_base.specs.declared.effect.Effect.TheVariants as effect
use Rattle.caf_base.specs.declared.summary.Ending.TheVariants as ending
use Rattle.caf_base.specs.declared.summary.Summary.{Summary}
use Rattle.caf_code.specs.Task.{Task as CodeTask}
use Rattle.caf_code.specs.declared.listing.Listing.{Listing}
use Rattle.caf_journal.specs.declared.entry.Entry.{Entry}
use Rattle.caf_program.specs.declared.program.Program.{Program}
use Rattle.caf_source.specs.Built.{are_subs_built}
use Rattle.caf_source.specs.declared.choice.Choice.{Choice}
use Rattle.caf_source.specs.declared.choice.Choice.TheVariants as choice
use Rattle.caf_source.specs.Main.{IsMainTask}
use Rattle.caf_source.specs.Next.{next}
use Rattle.caf_source.specs.Plain.{all_clear, is_plain_effect}
use Rattle.caf_source.specs.Run.{Stands, Tells, summary_of}
use Rattle.caf_source.specs.State.{State}
use Rattle.caf_treestep.specs.declared.task.Task.{Task}
use Rattle.caf_treestep.specs.declared.todo.Todo.TheVariants as item
use Rattle.caf_treestep.specs.Step.{step}
use Rattle.caf_solo.specs.Followed.{AtEnd, Follows, image_in, state_in}
use Rattle.caf_solo.specs.Led.{ending_in, is_over}
use Rattle.caf_solo.specs.RunOf.{IsRunOf, told, told_alone}
use Rattle.caf_solo.specs.declared.phase.Phase.{Phase}
use Rattle.caf_solo.specs.declared.phase.Phase.TheVariants as phase
use Rattle.caf_solo.proofs.Alone.{next_leave, next_ran, next_traps}
use Rattle.caf_solo.proofs.Following.{Laws}

-- some choice is defined
abbrev GoesOn : Program → State → Type 0
GoesOn p s = (c : Choice) × (t : State) × (next p s c ≡ Some t)

-- a main task goes on, by its Step or by leaving the program's finish
goes_on : (p : Program) (m : ImageMemory) (t : Task) → Laws → IsTrue (are_subs_built p.subs) → IsMainTask t → GoesOn p (state_in phase.Running m t)
goes_on p m t laws built main = by (step p.subs all_clear t m).effect refl (laws.plain p.subs t m built main).effect
  where
    by : (e : Effect) → (step p.subs all_clear t m).effect ≡ e → IsTrue (is_plain_effect e) → GoesOn p (state_in phase.Running m t)
    by effect.Ran is plain = (choice.Step 0 0, state_in phase.Running (step p.subs all_clear t m).memory (step p.subs all_clear t m).task, next_ran p m t is)
    by (effect.Traps trap) is plain = (choice.Step 0 0, state_in (phase.Trapped trap) m t, next_traps p m t trap is)
    by (effect.Blocks n) is plain = (choice.Leave 0, state_in phase.Left m t, next_leave p m t main.plain.wait (laws.blocks p.subs t m n main is).0)
    by (effect.Ends event) is plain = absurd (false≢true plain)
    by (effect.Begins what) is plain = absurd (false≢true plain)
    by (effect.Enters team) is plain = absurd (false≢true plain)
    by (effect.Arrives team colour key new) is plain = absurd (false≢true plain)

pub stands_in : (p : Program) (f : Phase) (m : ImageMemory) (t : Task) → Laws → IsTrue (are_subs_built p.subs) → IsMainTask t → AtEnd f (t.frame.todo ≡ item.Closes ∷ []) → Stands p (state_in f m t) (ending_in f)
stands_in p (phase.Trapped trap) m t laws built main end = refl
stands_in p phase.Left m t laws built main end = (refl, refl)
stands_in p phase.Running m t laws built main end = (refl, refl, goes_on p m t laws built main)
stands_in p phase.Contributed m t laws built main end = (refl, refl, (choice.Leave 0, state_in phase.Left m t, next_leave p m t main.plain.wait end))
stands_in p phase.Ended m t laws built main end = (refl, refl, (choice.Leave 0, state_in phase.Left m t, next_leave p m t main.plain.wait end))

images_told : (f : Phase) (m : ImageMemory) (t : Task) → (told f m ∷ []) ≡ map summary_of (image_in f m t ∷ [])
images_told (phase.Trapped trap) m t = refl
images_told phase.Left m t = refl
images_told phase.Running m t = refl
images_told phase.Contributed m t = refl
images_told phase.Ended m t = refl

going : (f : Phase) → ending_in f ≡ ending.Going → is_over f ≡ false
going (phase.Trapped trap) is = absurd (cc)
going phase.Left is = absurd (cc)
going phase.Running is = refl
going phase.Contributed is = refl
going phase.Ended is = refl

-- what a run comes to, by where the machine stands at its end
pub comes_to : (p : Program) (code : Listing) (most : ℕ) (j : List Entry) (f : Phase) (m : ImageMemory) (c : CodeTask) (r : Summary) → Laws → IsTrue (are_subs_built p.subs) → Follows p code j f m c
    → length j ≤ most → (is_over f ≡ false → length j ≡ most) → r ≡ told_alone f m → IsRunOf p most j r
comes_to p code most j f m c r laws built follows within spent is = record {
  legal = follows.legal;
  last = state_in f m follows.tree;
  leads = follows.leads;
  tells = subst (λ x. Tells p (state_in f m follows.tree) x) (sym is) (record { images = images_told f m follows.tree; ending = stands_in p f m follows.tree laws built follows.main follows.stands });
  within = within;
  spent = λ ends. spent (going f (sym (ap (λ (x : Summary). x.ending) is) ∙ ends));
}
