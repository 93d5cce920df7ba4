-- How a Step ends, where an instruction was found to do this.
use Rattle.std.proofs.lemmas.Option.{slice_get-get_or}
use Rattle.std.proofs.Common.{◌≡◌, ◌<◌, get_or, length, ℕ, suc, if◌then◌else◌, Bool, true, false, List, Option, Some, None, Result, Ok, Err, refl, ap, sym, ◌∙◌, subst, ℤ}
use Rattle.std.specs.Prelude.{IfOk, Vec, reverse, slice_get}
use Rattle.std.specs.Global.{Global}
use Rattle.caf_base.specs.Element.{has_index}
use Rattle.caf_base.specs.ImageMemory.{ImageMemory}
use Rattle.caf_base.specs.Places.{bind, posts_at, with_posts, within}
use Rattle.caf_base.specs.declared.effect.Effect.{Effect}
use Rattle.caf_base.specs.declared.effect.Effect.TheVariants as effect
use Rattle.caf_base.specs.declared.memory.Memory.{Memory}
use Rattle.caf_base.specs.declared.object.Object.{Object}
use Rattle.caf_base.specs.declared.trap.Trap.{Trap}
use Rattle.caf_base.specs.declared.trap.Trap.TheVariants as trap
use Rattle.caf_code.specs.Did.{Did, Fails, found, stops}
use Rattle.caf_code.specs.Operations.{takes_post}
use Rattle.caf_code.specs.Task.{Task, with_stack}
use Rattle.caf_memory.specs.Bounds.{posts_of}
use Rattle.caf_vm.specs.Draft.{memory_in, written_cells}
use Rattle.caf_vm.specs.Left.{after_of, left_by}
use Rattle.caf_vm.specs.declared.draft.Draft.{Draft}
use Rattle.caf_vm.specs.declared.draft.Write.{Write}

-- by what was found
pub carried : (r : Result Effect Memory) (t u : Task) (m v : ImageMemory) (d d' : Did) → d ≡ d' → IfOk r (λ e. after_of e u v ≡ left_by d' t m) → IfOk r (λ e. after_of e u v ≡ left_by d t m)
carried r t u m v d d' e h = subst (λ x. IfOk r (λ f. after_of f u v ≡ left_by x t m)) (sym e) h

-- a trap
pub trapped : (e : Effect) (x : Trap) (t : Task) (m v w : ImageMemory) (d : Did) → d ≡ Fails x v → e ≡ effect.Traps x → w ≡ v → after_of e t w ≡ left_by d t m
trapped e x t m v w d fails is left = ap (λ f. after_of f t w) is ∙ ap (after_of (effect.Traps x) t) left ∙ sym (ap (λ y. left_by y t m) fails)

-- the end behind an instruction that left these operands
pub stops_on : (e : Effect) (stack rest : List ℤ) (t u : Task) (m v : ImageMemory) → t ≡ with_stack stack u → m ≡ v → stops e rest t m ≡ stops e rest u v
stops_on e stack rest t u m v popped same = ap (λ x. stops e rest x m) popped ∙ ap (stops e rest u) same

-- a `wait` of an event with these posts
abbrev pub after_posts : Result ℕ Trap → ℕ → ℤ → List ℤ → Task → ImageMemory → Did
after_posts (Err x) o index rest t m = Fails x m
after_posts (Ok n) o index rest t m = takes_post n o index rest t m

pub posted : (m : ImageMemory) (o : ℕ) (index : ℤ) (rest : List ℤ) (t : Task) → found (within (slice_get m.objects o) index) m (λ i. takes_post (posts_at m o i) o i rest t m) ≡ after_posts (posts_of m o index) o index rest t m
posted m o index rest t = go (slice_get m.objects o)
  where
    tested : (b : Bool) → found (if b then Ok index else Err trap.Index) m (λ i. takes_post (posts_at m o i) o i rest t m) ≡ after_posts (bind (if b then Ok index else Err trap.Index) (λ i. Ok (posts_at m o i))) o index rest t m
    tested true = refl
    tested false = refl

    go : (f : Option Object) → found (within f index) m (λ i. takes_post (posts_at m o i) o i rest t m) ≡ after_posts (bind (within f index) (λ i. Ok (posts_at m o i))) o index rest t m
    go None = refl
    go (Some q) = tested (has_index q index)

-- the memory, where nothing more was written
pub same_memory : (d d' : Draft) (m : ImageMemory) → d.writes ≡ d'.writes → memory_in d m ≡ memory_in d' m
same_memory d d' m e = ap (λ (ws : Vec Write Global). record m { cells = written_cells m.objects (reverse ws.items) m.cells }) e

-- the element at a place
pub at_place : {A : Type 0} (xs : List A) (k : ℕ) (x : A) → k < length xs → x ≡ get_or xs k x → slice_get xs k ≡ Some x
at_place xs k x h e = slice_get-get_or xs k x h ∙ ap Some (sym e)

-- a post is taken where there is one
pub takes_one : (n k o : ℕ) (index : ℤ) (rest : List ℤ) (t : Task) (m : ImageMemory) → n ≡ suc k → takes_post n o index rest t m ≡ stops effect.Ran rest t (with_posts m o index k)
takes_one n k o index rest t m e = ap (λ x. takes_post x o index rest t m) e
