use Rattle.std.proofs.Common.{◌≡◌, ◌∷◌, ◌-◌, ◌∙◌, ap, sym, subst, List, ℤ, SFits, w64, rules, arith}
use Rattle.std.specs.Prelude.{OnOk, slice_get}
use Rattle.std.proofs.lemmas.Int.{to_z-of_z}
use Rattle.caf_base.specs.After.{After}
use Rattle.caf_base.specs.ImageMemory.{ImageMemory}
use Rattle.caf_base.specs.Places.{posts_at, with_posts, within}
use Rattle.caf_base.specs.declared.effect.Effect.TheVariants as effect
use Rattle.caf_code.specs.Did.{Did, found, on_one, stops}
use Rattle.caf_code.specs.Operations.{does_event, takes_post}
use Rattle.caf_code.specs.Task.{Task}
use Rattle.caf_code.specs.declared.instr.EventUse.TheVariants as event
use Rattle.caf_vm.specs.Draft.{memory_in, task_in}
use Rattle.caf_vm.specs.Left.{after_of, left_by}
use Rattle.caf_vm.proofs.Outcome.{after_posts, posted, same_memory, stops_on, takes_one, trapped}
use Rattle.caf_vm.proofs.operations.wait.Goals as goal

pub returns-in_ok-effect-in-Ok : goal.returns-in_ok-effect-in-Ok
returns-in_ok-effect-in-Ok c =
    let o = c.args.object in
    let draft = c.args.draft in
    let last = c.pop-index.new.self in
    let t : Task = task_in draft c.args.task.now in
    let u : Task = task_in last c.args.task.now in
    let m : ImageMemory = memory_in draft c.args.memory.now in
    let v : ImageMemory = memory_in last c.args.memory.now in
    let rest = u.frame.stack in
    let index = c.pop-index.result in
    let n = c.in-Ok.posts in
    let fits : SFits w64 index = search rules in
    let waits : List ℤ → Did = λ stack. on_one stack m (λ i left. found (within (slice_get m.objects o) i) m (λ j. takes_post (posts_at m o j) o j left t m)) in
    let popped : t.frame.stack ≡ index ∷ rest = ap (λ (x : Task). x.frame.stack) c.pop-index.ensures.task in
    let same = same_memory draft last c.args.memory.now (sym c.pop-index.ensures.writes) in
    let posts = sym (simp to_z-of_z at c.posts.ensures) ∙ c.in-Ok.is in
    let did : does_event (event.Wait o) t m ≡ stops effect.Ran rest u (with_posts v o index (n - 1)) =
    ap waits popped ∙ posted m o index rest t ∙ ap (λ r. after_posts r o index rest t m) posts ∙ takes_one n (n - 1) o index rest t m (omega (arith, c.in-Ok.posts-test)) ∙ stops_on effect.Ran (index ∷ rest) rest t u (with_posts m o index (n - 1)) (with_posts v o index (n - 1)) c.pop-index.ensures.task (ap (λ (w : ImageMemory). with_posts w o index (n - 1)) same) in
    let took : c.set_posts.new.self ≡ with_posts c.finish.new.memory o index (n - 1) = subst (λ r. OnOk r (c.set_posts.new.self ≡ with_posts c.finish.new.memory o index (n - 1))) c.unwrap.ensures (simp to_z-of_z at c.set_posts.ensures.ok) in
    ap (after_of c.in_ok-effect-in-Ok.effect c.finish.new.task) took
    ∙ ap (λ (a : After Task). after_of a.effect a.task (with_posts a.memory o index (n - 1))) c.in_ok-effect-in-Ok.ensures
    ∙ sym (ap (λ d. left_by d c.args.task.now c.args.memory.now) did)

pub returns-in-Err : goal.returns-in-Err
returns-in-Err c =
    let o = c.args.object in
    let draft = c.args.draft in
    let last = c.pop-index.new.self in
    let t : Task = task_in draft c.args.task.now in
    let u : Task = task_in last c.args.task.now in
    let m : ImageMemory = memory_in draft c.args.memory.now in
    let rest = u.frame.stack in
    let index = c.pop-index.result in
    let fits : SFits w64 index = search rules in
    let waits : List ℤ → Did = λ stack. on_one stack m (λ i left. found (within (slice_get m.objects o) i) m (λ j. takes_post (posts_at m o j) o j left t m)) in
    let popped : t.frame.stack ≡ index ∷ rest = ap (λ (x : Task). x.frame.stack) c.pop-index.ensures.task in
    let same = same_memory draft last c.args.memory.now (sym c.pop-index.ensures.writes) in
    let posts = sym (simp to_z-of_z at c.posts.ensures) ∙ c.in-Err.is in
    trapped c.trap.result c.in-Err.cause c.args.task.now c.args.memory.now m c.trap.new.memory (does_event (event.Wait o) t m)
    (ap waits popped ∙ posted m o index rest t ∙ ap (λ r. after_posts r o index rest t m) posts)
    c.trap.ensures.effect (c.trap.ensures.memory ∙ sym same)
