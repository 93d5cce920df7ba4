-- A Step of a task leaves the places of the tasks of its image as they are.
use Rattle.std.proofs.Common.{◌≡◌, ℕ, Bool, true, false, List, [], Option, Some, None, Ok, Err, ap, refl, slice_get, sym, ◌∙◌, if◌then◌else◌}
use Rattle.caf_base.specs.declared.effect.Effect.{Effect}
use Rattle.caf_base.specs.declared.effect.Effect.TheVariants as effect
use Rattle.caf_base.specs.declared.fence.FenceClear.{FenceClear}
use Rattle.caf_base.specs.declared.operation.OpSpec.TheVariants as spec
use Rattle.caf_base.specs.declared.trap.Trap.TheVariants as trap
use Rattle.caf_base.specs.ImageMemory.{ImageMemory}
use Rattle.caf_program.specs.declared.program.SubR.{SubR}
use Rattle.caf_source.specs.Begun.{is_outside, is_spent, operation_of, with_one_more}
use Rattle.caf_source.specs.declared.outcome.Outcome.{Outcome}
use Rattle.caf_source.specs.declared.outcome.Outcome.TheVariants as outcome
use Rattle.caf_source.specs.declared.state.Image.{Image}
use Rattle.caf_source.specs.declared.state.Live.{Live}
use Rattle.caf_source.specs.Effects.{Lived, did, ends, kept_at, lived, live_did, live_step, main_did, shipped_did, step_shipped, step_at_place, stopped}
use Rattle.caf_treestep.specs.Step.{step}

-- an image with these tasks in the places of its own
abbrev with_tasks : Live → List Live → Image → Image
with_tasks x y im = record im { main = x; shipped = y }

abbrev over : Live → List Live → Lived → Lived
over x y d = record d { image = with_tasks x y d.image }

-- with other tasks in the places, a Step does the same
did_beside : (e : Effect) (i : ℕ) (x : Live) (y : List Live) (im : Image) (was : Live) (m : ImageMemory) (l : Live)
    → live_did e i (with_tasks x y im) was (record (with_tasks x y im) { memory = m }) l ≡ over x y (live_did e i im was (record im { memory = m }) l)
did_beside effect.Ran i x y im was m l = refl
did_beside (effect.Ends None) i x y im was m l = refl
did_beside (effect.Ends (Some event)) i x y im was m l = go (is_spent im)
  where
    go : (b : Bool)
        → ends (with_tasks x y im) was l (if b then Err trap.Operations else Ok (record { image = with_one_more (record (with_tasks x y im) { memory = m }); begun = Some (operation_of i im.operations (spec.Notice event) l.finishes l.number) }))
        ≡ over x y (ends im was l (if b then Err trap.Operations else Ok (record { image = with_one_more (record im { memory = m }); begun = Some (operation_of i im.operations (spec.Notice event) l.finishes l.number) })))
    go true = refl
    go false = refl
did_beside (effect.Begins what) i x y im was m l = go (is_outside l.finishes what) (is_spent im)
  where
    go : (b c : Bool)
        → (if b then lived (stopped (with_tasks x y im) trap.Outside) was outcome.Local else (if c then lived (stopped (with_tasks x y im) trap.Operations) was outcome.Local else lived (with_one_more (record (with_tasks x y im) { memory = m })) l (outcome.Begun (operation_of i im.operations what l.finishes l.number))))
        ≡ over x y (if b then lived (stopped im trap.Outside) was outcome.Local else (if c then lived (stopped im trap.Operations) was outcome.Local else lived (with_one_more (record im { memory = m })) l (outcome.Begun (operation_of i im.operations what l.finishes l.number))))
    go true c = refl
    go false true = refl
    go false false = refl
did_beside (effect.Enters team) i x y im was m l = refl
did_beside (effect.Arrives team colour key object) i x y im was m l = refl
did_beside (effect.Blocks n) i x y im was m l = refl
did_beside (effect.Traps t) i x y im was m l = refl

-- the same of the places as they are
did_keeps : (e : Effect) (i : ℕ) (im : Image) (was : Live) (m : ImageMemory) (l : Live)
    → live_did e i im was (record im { memory = m }) l ≡ over im.main im.shipped (live_did e i im was (record im { memory = m }) l)
did_keeps e i im was m l = did_beside e i im.main im.shipped im was m l

pub step_beside : (subs : List SubR) (clear : FenceClear) (i : ℕ) (x : Live) (y : List Live) (im : Image) (l : Live) → live_step subs clear i (with_tasks x y im) l ≡ over x y (live_step subs clear i im l)
step_beside subs clear i x y im l =
    let a = step subs clear l.task im.memory in
    did_beside a.effect i x y im l a.memory (record l { task = a.task })

step_keeps : (subs : List SubR) (clear : FenceClear) (i : ℕ) (im : Image) (l : Live) → live_step subs clear i im l ≡ over im.main im.shipped (live_step subs clear i im l)
step_keeps subs clear i im l = step_beside subs clear i im.main im.shipped im l

-- the main task is taken out of its image, makes its Step, and is put back
pub main_beside : (subs : List SubR) (clear : FenceClear) (i : ℕ) (im new : Image) (hole live : Live) (o : Outcome)
    → live_step subs clear i (record im { main = hole }) im.main ≡ lived new live o → main_did (live_step subs clear i im im.main) ≡ did (record new { main = live }) o
main_beside subs clear i im new hole live o is =
    let d = live_step subs clear i im im.main in
    ap (λ (y : List Live). did (record d.image { main = d.live; shipped = y }) d.outcome) (ap (λ (x : Lived). x.image.shipped) (step_keeps subs clear i im im.main))
    ∙ ap main_did (sym (step_beside subs clear i hole im.shipped im im.main) ∙ is)

-- the shipped tasks are taken out of their image, one makes its Step, and they are put back
pub shipped_beside : (subs : List SubR) (clear : FenceClear) (i k : ℕ) (im new : Image) (l live : Live) (o : Outcome)
    → live_step subs clear i (record im { shipped = [] }) l ≡ lived new live o → shipped_did k im.shipped (live_step subs clear i im l) ≡ did (record new { shipped = kept_at o k live im.shipped }) o
shipped_beside subs clear i k im new l live o is =
    let d = live_step subs clear i im l in
    ap (λ (x : Live). did (record d.image { main = x; shipped = kept_at d.outcome k d.live im.shipped }) d.outcome) (ap (λ (x : Lived). x.image.main) (step_keeps subs clear i im l))
    ∙ ap (shipped_did k im.shipped) (sym (step_beside subs clear i im.main [] im l) ∙ is)

-- the same of what calls have left
pub main_led : (subs : List SubR) (clear : FenceClear) (i : ℕ) (im new : Image) (hole l live : Live) (o : Outcome)
    → live_step subs clear i (record im { main = hole }) l ≡ lived new live o → l ≡ im.main → main_did (live_step subs clear i im im.main) ≡ did (record new { main = live }) o
main_led subs clear i im new hole l live o is same = main_beside subs clear i im new hole live o (ap (live_step subs clear i (record im { main = hole })) (sym same) ∙ is)

pub shipped_led : (subs : List SubR) (clear : FenceClear) (i k : ℕ) (im new : Image) (hole kept : List Live) (l live : Live) (o : Outcome) (place : Option ℕ)
    → live_step subs clear i (record im { shipped = hole }) l ≡ lived new live o → hole ≡ [] → Some k ≡ place → slice_get im.shipped k ≡ Some l → kept ≡ kept_at o k live im.shipped
    → step_at_place subs clear i im place ≡ did (record new { shipped = kept }) o
shipped_led subs clear i k im new hole kept l live o place is empty at found set =
    ap (step_at_place subs clear i im) (sym at)
    ∙ ap (step_shipped subs clear i im k) found
    ∙ shipped_beside subs clear i k im new l live o (ap (λ (y : List Live). live_step subs clear i (record im { shipped = y }) l) (sym empty) ∙ is)
    ∙ ap (λ (y : List Live). did (record new { shipped = y }) o) (sym set)
