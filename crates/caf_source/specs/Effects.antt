-- What a Step does at its image, by its effect.
use Rattle.std.specs.Prelude.{ℕ, zero, suc, ◌+◌, List, [], ◌∷◌, ◌++◌, nat_eq, Option, Some, None, Result, Ok, Err, ℤ, slice_get, slice_set, if◌then◌else◌}
use Rattle.std.specs.List.{position, remove}
use Rattle.caf_base.specs.After.{After}
use Rattle.caf_base.specs.declared.effect.Effect.{Effect}
use Rattle.caf_base.specs.declared.effect.Effect.TheVariants as effect
use Rattle.caf_base.specs.declared.fence.FenceClear.{FenceClear}
use Rattle.caf_base.specs.declared.operation.OpSpec.{OpSpec}
use Rattle.caf_base.specs.declared.team.Team.{Team}
use Rattle.caf_base.specs.declared.trap.Trap.{Trap}
use Rattle.caf_base.specs.declared.trap.Trap.TheVariants as trap
use Rattle.caf_history.specs.declared.arrival.Arrival.{Arrival}
use Rattle.caf_history.specs.Finishes.{count_finishes}
use Rattle.caf_history.specs.Splits.{count_splits}
use Rattle.caf_program.specs.declared.program.SubR.{SubR}
use Rattle.caf_source.specs.Begun.{Noticed, is_outside, is_spent, notice_of, operation_of, with_one_more}
use Rattle.caf_source.specs.declared.outcome.Outcome.{Outcome}
use Rattle.caf_source.specs.declared.outcome.Outcome.TheVariants as outcome
use Rattle.caf_source.specs.declared.state.Image.{Image}
use Rattle.caf_source.specs.declared.state.Live.{Live}
use Rattle.caf_treestep.specs.declared.task.Task.{Task}
use Rattle.caf_treestep.specs.Step.{step}

-- what a Step leaves of its task and of the rest of its image, and what it does beyond it
pub record Lived : Type 0 where
  pub image : Image
  pub live : Live
  pub outcome : Outcome

abbrev pub lived : Image → Live → Outcome → Lived
lived im l o = record { image = im; live = l; outcome = o }

-- an image with a trap
abbrev pub stopped : Image → Trap → Image
stopped im t = record im { trap = Some t }

-- the number of the next finish of a team at an image, from 1: it follows those that were left and those entered
abbrev pub next_finish : Image → Live → Team → ℕ
next_finish im l team = suc (count_finishes team im.left + count_finishes team l.finishes)

-- the number of the next split of a team at an image, from 1
abbrev pub next_split : Image → Team → ℕ
next_split im team = suc (count_splits team im.arrived)

-- the task in the next finish of a team
abbrev pub entered : Image → Live → Team → Live
entered im l team = record l { finishes = record { team = team; number = next_finish im l team } ∷ l.finishes }

-- what the image brings to its next split of a team
abbrev pub arrival_of : Image → Team → ℤ → ℤ → Arrival
arrival_of im team colour key = record { team = team; number = next_split im team; colour = colour; key = key }

-- an operation is begun: trap `Outside`, and then `Operations`
abbrev pub begins : ℕ → Image → Live → Image → Live → OpSpec → Lived
begins i before was im l what =
    if is_outside l.finishes what then lived (stopped before trap.Outside) was outcome.Local
    else if is_spent before then lived (stopped before trap.Operations) was outcome.Local
    else lived (with_one_more im) l (outcome.Begun (operation_of i im.operations what l.finishes l.number))

-- the end of a shipped task, with the notice to its event
abbrev pub ends : Image → Live → Live → Result Noticed Trap → Lived
ends before was l (Err t) = lived (stopped before t) was outcome.Local
ends before was l (Ok n) = lived n.image l (outcome.Ended l.ship n.begun)

-- What the effect of a Step does, where these are the image and the task as they were, and the image and the task as the
-- Step leaves them. After a trap both are as they were, but for the trap.
abbrev pub live_did : Effect → ℕ → Image → Live → Image → Live → Lived
live_did effect.Ran i before was im l = lived im l outcome.Local
live_did (effect.Ends event) i before was im l = ends before was l (notice_of i im l.finishes l.number event)
live_did (effect.Begins what) i before was im l = begins i before was im l what
live_did (effect.Enters team) i before was im l = lived im (entered im l team) outcome.Local
live_did (effect.Arrives team colour key object) i before was im l = lived (record im { arrived = im.arrived ++ arrival_of im team colour key ∷ [] }) l outcome.Local
live_did (effect.Blocks n) i before was im l = lived before was outcome.Refused
live_did (effect.Traps t) i before was im l = lived (stopped before t) was outcome.Local

abbrev pub after_live : ℕ → Image → Live → After Task → Lived
after_live i im l a = live_did a.effect i im l (record im { memory = a.memory }) (record l { task = a.task })

-- a Step of a live task of an image
abbrev pub live_step : List SubR → FenceClear → ℕ → Image → Live → Lived
live_step subs clear i im l = after_live i im l (step subs clear l.task im.memory)

-- what a Step leaves of its image, and what it does beyond it
pub record Did : Type 0 where
  pub image : Image
  pub outcome : Outcome

abbrev pub did : Image → Outcome → Did
did im o = record { image = im; outcome = o }

-- the main task is put back
abbrev pub main_did : Lived → Did
main_did d = did (record d.image { main = d.live }) d.outcome

-- the live shipped tasks with the one at a place put back, or without it where it has ended
abbrev pub kept_at : Outcome → ℕ → Live → List Live → List Live
kept_at (outcome.Ended ship notice) k l all = remove all k
kept_at _ k l all = slice_set all k l

abbrev pub shipped_did : ℕ → List Live → Lived → Did
shipped_did k all d = did (record d.image { shipped = kept_at d.outcome k d.live all }) d.outcome

abbrev pub step_shipped : List SubR → FenceClear → ℕ → Image → ℕ → Option Live → Did
step_shipped subs clear i im k None = did im outcome.Refused
step_shipped subs clear i im k (Some l) = shipped_did k im.shipped (live_step subs clear i im l)

abbrev pub step_at_place : List SubR → FenceClear → ℕ → Image → Option ℕ → Did
step_at_place subs clear i im None = did im outcome.Refused
step_at_place subs clear i im (Some k) = step_shipped subs clear i im k (slice_get im.shipped k)

-- the place of a live shipped task, by its number
abbrev pub place_of_task : ℕ → List Live → Option ℕ
place_of_task number all = position (λ (l : Live). nat_eq l.number number) all

-- a Step of a task of an image, by its number: that of the main task is 0
abbrev pub image_step : List SubR → FenceClear → ℕ → Image → ℕ → Did
image_step subs clear i im zero = main_did (live_step subs clear i im im.main)
image_step subs clear i im (suc n) = step_at_place subs clear i im (place_of_task (suc n) im.shipped)
