-- The states of one image, and where choices lead from them.
use Rattle.std.proofs.lemmas.Bool.{false≢true}
use Rattle.std.proofs.Common.{◌≡◌, ℕ, List, [], ◌∷◌, Bool, true, false, ◌&&◌, not, Option, Some, None, IsTrue, ap, refl, subst, sym, ◌∙◌}
use Rattle.caf_base.specs.ImageMemory.{ImageMemory}
use Rattle.caf_base.specs.declared.effect.Effect.{Effect}
use Rattle.caf_base.specs.declared.effect.Effect.TheVariants as effect
use Rattle.caf_base.specs.declared.trap.Trap.{Trap}
use Rattle.caf_program.specs.declared.program.Program.{Program}
use Rattle.caf_source.specs.declared.choice.Choice.{Choice}
use Rattle.caf_source.specs.declared.choice.Choice.TheVariants as choice
use Rattle.caf_source.specs.Main.{IsMainTask}
use Rattle.caf_source.specs.Next.{by_effect, next}
use Rattle.caf_source.specs.Plain.{all_clear, is_plain_effect}
use Rattle.caf_source.specs.State.{State, world_finish}
use Rattle.caf_treestep.specs.declared.task.Task.{Task}
use Rattle.caf_treestep.specs.declared.todo.Todo.TheVariants as item
use Rattle.caf_treestep.specs.Step.{step}
use Rattle.caf_solo.specs.Followed.{image_with, state_in}
use Rattle.caf_solo.specs.Waves.{stands_at_end}
use Rattle.caf_solo.specs.declared.phase.Phase.TheVariants as phase

-- the state after the main task's Step, by its effect
abbrev by : Effect → Program → ImageMemory → Task → Option State
by e p m t =
    let x = step p.subs all_clear t m in
    by_effect e (state_in phase.Running m t) 0 (image_with m t None) (image_with x.memory t None) (record { number = 0; task = x.task; finishes = world_finish 1 ∷ []; ship = None })

step_is : (p : Program) (m : ImageMemory) (t : Task) → next p (state_in phase.Running m t) (choice.Step 0 0) ≡ by (step p.subs all_clear t m).effect p m t
step_is p m t = refl

pub next_ran : (p : Program) (m : ImageMemory) (t : Task) → (step p.subs all_clear t m).effect ≡ effect.Ran
    → next p (state_in phase.Running m t) (choice.Step 0 0) ≡ Some (state_in phase.Running (step p.subs all_clear t m).memory (step p.subs all_clear t m).task)
next_ran p m t ran = step_is p m t ∙ ap (λ e. by e p m t) ran

pub next_traps : (p : Program) (m : ImageMemory) (t : Task) (trap : Trap) → (step p.subs all_clear t m).effect ≡ effect.Traps trap
    → next p (state_in phase.Running m t) (choice.Step 0 0) ≡ Some (state_in (phase.Trapped trap) m t)
next_traps p m t trap traps = step_is p m t ∙ ap (λ e. by e p m t) traps

-- a task that waits for nothing at the end of the program
abbrev at_end : Task → Task
at_end t = record t { frame = record t.frame { todo = item.Closes ∷ [] }; wait = None }

is_at_end : (t : Task) → t.wait ≡ None → t.frame.todo ≡ item.Closes ∷ [] → t ≡ at_end t
is_at_end t wait todo = ap (λ w. record t { wait = w }) wait ∙ ap (λ l. record t { frame = record t.frame { todo = l }; wait = None }) todo

pub next_leave : (p : Program) (m : ImageMemory) (t : Task) → t.wait ≡ None → t.frame.todo ≡ item.Closes ∷ [] → next p (state_in phase.Ended m t) (choice.Leave 0) ≡ Some (state_in phase.Left m t)
next_leave p m t wait todo = subst (λ u. next p (state_in phase.Ended m u) (choice.Leave 0) ≡ Some (state_in phase.Left m u)) (sym (is_at_end t wait todo)) refl

pub stands : (m : ImageMemory) (t : Task) → t.wait ≡ None → t.frame.todo ≡ item.Closes ∷ [] → stands_at_end (state_in phase.Ended m t) ≡ true
stands m t wait todo = subst (λ u. stands_at_end (state_in phase.Ended m u) ≡ true) (sym (is_at_end t wait todo)) refl
