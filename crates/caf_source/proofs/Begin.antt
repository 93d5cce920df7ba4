-- The state in which a run begins.
use Rattle.std.specs.List.{list_all}
use Rattle.std.proofs.Common.{◌≡◌, Bool, true, false, ℕ, zero, suc, List, [], ◌∷◌, ◌++◌, IsTrue, map, refl, subst, sym, ap, ◌∙◌, ◌+◌, arith}
use Rattle.caf_base.specs.declared.object.Object.{Object}
use Rattle.caf_base.specs.Places.{below}
use Rattle.caf_base.specs.Start.{start_memory}
use Rattle.caf_program.specs.Accepted.{IsAccepted, is_declared}
use Rattle.caf_program.specs.declared.program.Program.{Program}
use Rattle.caf_source.specs.declared.state.Image.{Image}
use Rattle.caf_source.specs.Kept.{IsReady}
use Rattle.caf_source.specs.Placed.{ArePlaceable}
use Rattle.caf_source.specs.State.{State, start_image}
use Rattle.caf_treestep.specs.Placeable.{IsPlaceable}

-- each index that a memory names fits as a run begins
abbrev pub BeginsPlaceable : Type 0
BeginsPlaceable = (objects : List Object) (images image : ℕ) → IsTrue (list_all is_declared objects) → IsPlaceable (start_memory objects images image)

begins_all : (p : Program) (images : ℕ) (l : List ℕ) → BeginsPlaceable → IsAccepted p → ArePlaceable (map (λ image. start_image p (start_memory p.objects images image)) l)
begins_all p images [] begins accepted i = tt
begins_all p images (n ∷ l) begins accepted zero = begins p.objects images n accepted.kinds.declared
begins_all p images (n ∷ l) begins accepted (suc i) = begins_all p images l begins accepted i

-- the images so far
pub first_more : (p q : Program) (images n : ℕ) (xs ys : List Image) (x : Image) → q ≡ p → xs ≡ map (λ image. start_image p (start_memory p.objects images image)) (below n) → x ≡ start_image q (start_memory q.objects images n) → ys ≡ xs ++ x ∷ []
    → ys ≡ map (λ image. start_image p (start_memory p.objects images image)) (below (n + 1))
first_more p q images n xs ys x same so_far is pushed =
    let one : suc n ≡ n + 1 = omega arith in
    pushed
    ∙ ap (λ l. l ++ x ∷ []) so_far
    ∙ ap (λ y. map begin (below n) ++ y ∷ []) (is ∙ ap (λ (r : Program). start_image r (start_memory r.objects images n)) same)
    ∙ sym (both begin (below n) (n ∷ []))
    ∙ ap (λ k. map begin (below k)) one
  where
    begin : ℕ → Image
    begin image = start_image p (start_memory p.objects images image)

    both : (f : ℕ → Image) (a b : List ℕ) → map f (a ++ b) ≡ map f a ++ map f b
    both f [] b = refl
    both f (k ∷ a) b = ap (λ l. f k ∷ l) (both f a b)

-- a Step can run on each of them
pub first_ready : (p q : Program) (images n : ℕ) (xs : List Image) → q ≡ p → xs ≡ map (λ image. start_image p (start_memory p.objects images image)) (below n) → BeginsPlaceable → IsAccepted q → ArePlaceable xs
first_ready p q images n xs same so_far begins accepted = subst ArePlaceable (sym so_far) (begins_all p images (below n) begins (subst IsAccepted same accepted))

-- a state whose memories a Step can run on
pub ready_when : (failed : Bool) (s : State) → ArePlaceable s.images → IsReady failed s
ready_when true s all = tt
ready_when false s all = all
