-- A Step of a live task, from what the Step of its task leaves.
use Rattle.std.proofs.Common.{◌≡◌, ℕ, ℤ, List, [], ◌∷◌, ◌++◌, Result, Ok, Err, IfOk, ap, subst, sym, ◌∙◌}
use Rattle.caf_base.specs.declared.effect.Effect.{Effect}
use Rattle.caf_base.specs.declared.effect.Effect.TheVariants as effect
use Rattle.caf_base.specs.declared.fence.FenceClear.{FenceClear}
use Rattle.caf_base.specs.declared.memory.Memory.{Memory}
use Rattle.caf_base.specs.declared.operation.OpSpec.{OpSpec}
use Rattle.caf_base.specs.declared.team.Team.{Team}
use Rattle.caf_base.specs.ImageMemory.{ImageMemory}
use Rattle.caf_program.specs.declared.program.SubR.{SubR}
use Rattle.caf_source.specs.declared.outcome.Outcome.{Outcome}
use Rattle.caf_source.specs.declared.outcome.Outcome.TheVariants as outcome
use Rattle.caf_source.specs.declared.rewind.Saved.{Saved}
use Rattle.caf_source.specs.declared.state.Image.{Image}
use Rattle.caf_source.specs.declared.state.Live.{Live}
use Rattle.caf_source.specs.Effects.{after_live, arrival_of, begins, lived, live_did, live_step}
use Rattle.caf_source.specs.Rewound.{CanRewind, IsOrderly, rewound_live}
use Rattle.caf_treestep.specs.declared.task.Task.{Task}
use Rattle.caf_treestep.specs.Step.{step}
use Rattle.caf_treestep.specs.Stood.{Leaves}

abbrev with_memory : Image → ImageMemory → Image
with_memory im m = record im { memory = m }

abbrev with_task : Live → Task → Live
with_task l t = record l { task = t }

-- what the effect of the Step does
left_did : (subs : List SubR) (clear : FenceClear) (i : ℕ) (im : Image) (l : Live) (e : Effect) (t : Task) (m : ImageMemory)
    → Leaves e (step subs clear l.task im.memory) t m → live_step subs clear i im l ≡ live_did e i im l (record im { memory = m }) (record l { task = t })
left_did subs clear i im l e t m left = ap (after_live i im l) left

same_image : (im : Image) (m : ImageMemory) → m ≡ im.memory → with_memory im m ≡ im
same_image im m same = ap (with_memory im) same

-- an operation is begun, and where it traps the task is put back
left_begins : (subs : List SubR) (clear : FenceClear) (i : ℕ) (im : Image) (l : Live) (what : OpSpec) (s : Saved) (t : Task) (m : ImageMemory)
    → Leaves (effect.Begins what) (step subs clear l.task im.memory) t m → CanRewind s l.task im.memory t m
    → live_step subs clear i im l ≡ begins i (record im { memory = m }) (rewound_live s (record l { task = t })) (record im { memory = m }) (record l { task = t }) what
left_begins subs clear i im l what s t m left back =
    left_did subs clear i im l (effect.Begins what) t m left
    ∙ ap (λ (x : Image). begins i x l (with_memory im m) (with_task l t) what) (sym (same_image im m back.1))
    ∙ ap (λ (x : Live). begins i (with_memory im m) x (with_memory im m) (with_task l t) what) (sym (ap (with_task l) back.0))

-- what a call that begins the operation has left
pub begins_led : (subs : List SubR) (clear : FenceClear) (i : ℕ) (im : Image) (l : Live) (e : Effect) (what : OpSpec) (s : Saved) (t : Task) (m : ImageMemory) (new : Image) (live : Live) (r : Result Outcome Memory)
    → e ≡ effect.Begins what → Leaves e (step subs clear l.task im.memory) t m → IsOrderly e s l.task im.memory t m
    → IfOk r (λ o. begins i (record im { memory = m }) (rewound_live s (record l { task = t })) (record im { memory = m }) (record l { task = t }) what ≡ lived new live o)
    → IfOk r (λ o. live_step subs clear i im l ≡ lived new live o)
begins_led subs clear i im l e what s t m new live (Err x) is left back done = tt
begins_led subs clear i im l e what s t m new live (Ok o) is left back done =
    left_begins subs clear i im l what s t m (subst (λ x. Leaves x (step subs clear l.task im.memory) t m) is left) (subst (λ x. IsOrderly x s l.task im.memory t m) is back) ∙ done

-- an image arrives at a split
pub arrives_led : (subs : List SubR) (clear : FenceClear) (i : ℕ) (im : Image) (l : Live) (e : Effect) (team : Team) (colour key : ℤ) (object : ℕ) (t : Task) (m : ImageMemory) (new : Image) (c k : ℤ)
    → e ≡ effect.Arrives team colour key object → Leaves e (step subs clear l.task im.memory) t m → c ≡ colour → k ≡ key
    → new ≡ record im { memory = m; arrived = im.arrived ++ arrival_of (record im { memory = m }) team c k ∷ [] }
    → live_step subs clear i im l ≡ lived new (record l { task = t }) outcome.Local
arrives_led subs clear i im l e team colour key object t m new c k is left same_colour same_key done =
    left_did subs clear i im l e t m left
    ∙ ap (λ (x : Effect). live_did x i im l (with_memory im m) (with_task l t)) is
    ∙ ap (λ z. lived (arrived_with z key) (with_task l t) outcome.Local) (sym same_colour)
    ∙ ap (λ z. lived (arrived_with c z) (with_task l t) outcome.Local) (sym same_key)
    ∙ ap (λ (x : Image). lived x (with_task l t) outcome.Local) (sym done)
  where
    arrived_with : ℤ → ℤ → Image
    arrived_with x y = record im { memory = m; arrived = im.arrived ++ arrival_of (record im { memory = m }) team x y ∷ [] }
