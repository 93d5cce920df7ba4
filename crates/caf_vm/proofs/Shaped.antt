-- What the rules say of a frame's shape is true of it, instruction by instruction.
use Rattle.std.proofs.Common.{◌≡◌, cond, if◌then◌else◌, ℕ, zero, suc, ◌+◌, Bool, true, false, List, [], ◌∷◌, ◌++◌, length, Option, Some, None, Result, Ok, Err, refl, ap, sym, ◌∙◌, subst, arith, ℤ, pos, unwrap_or}
use Rattle.std.specs.Prelude.{slice_get}
use Rattle.std.proofs.lemmas.List.{length-set, length-append, map-append}
use Rattle.caf_base.specs.Arithmetic.{Answer, is_zero, of_one, of_two}
use Rattle.caf_base.specs.Element.{element_of}
use Rattle.caf_base.specs.ImageMemory.{ImageMemory}
use Rattle.caf_base.specs.Line.{logical_text, number_text}
use Rattle.caf_base.specs.Places.{within, written}
use Rattle.caf_base.specs.declared.effect.Effect.{Effect}
use Rattle.caf_base.specs.declared.fence.FenceClear.{FenceClear}
use Rattle.caf_base.specs.declared.place.Place.{Place}
use Rattle.caf_base.specs.declared.place.Place.TheVariants as place
use Rattle.caf_base.specs.declared.place.SectionRange.{SectionRange}
use Rattle.caf_base.specs.declared.place.SectionRange.TheVariants as range
use Rattle.caf_base.specs.declared.place.SectionWanted.TheVariants as wanted
use Rattle.caf_base.specs.declared.trap.Trap.{Trap}
use Rattle.caf_base.specs.declared.trap.Trap.TheVariants as trap
use Rattle.caf_code.specs.Did.{Did, Goes, Stops, Blocks, Fails, answers, found, there, on_one, on_two, on_three, on_place, on_loop}
use Rattle.caf_code.specs.Operations.{lists, on_range}
use Rattle.caf_code.specs.Numbers.{Operator, One, Two, arithmetic_operator, does_operator, with_cell, logical_operator, relation_operator}
use Rattle.caf_code.specs.Shapes.{Part, Shape, next_shape, without, with_height, pops, pushes, then_shape, in_loop, lists_sort, only_if, operands, with_rank, numbers, sort_of}
use Rattle.caf_code.specs.Calls.{with_out}
use Rattle.caf_code.specs.Flow.{opens_loop}
use Rattle.caf_code.specs.Print.{with_part}
use Rattle.caf_code.specs.Step.{does}
use Rattle.caf_code.specs.Task.{Task, past}
use Rattle.caf_code.specs.Teams.{of_team}
use Rattle.caf_code.specs.declared.instr.CellUse.TheVariants as cell
use Rattle.caf_code.specs.declared.instr.Instr.{Instr}
use Rattle.caf_code.specs.declared.instr.Instr.TheVariants as instr
use Rattle.caf_code.specs.declared.instr.OutForm.TheVariants as out
use Rattle.caf_code.specs.declared.instr.PlaceForm.{PlaceForm}
use Rattle.caf_code.specs.declared.instr.PlaceForm.TheVariants as at
use Rattle.caf_code.specs.declared.instr.Printed.TheVariants as printed
use Rattle.caf_code.specs.declared.instr.RangeForm.{RangeForm}
use Rattle.caf_code.specs.declared.instr.RangeForm.TheVariants as form
use Rattle.caf_code.specs.declared.instr.Reach.TheVariants as reach
use Rattle.caf_code.specs.declared.instr.SectionForm.TheVariants as section
use Rattle.caf_code.specs.declared.listing.Listing.{Listing}
use Rattle.caf_code.specs.declared.task.CopyTarget.{CopyTarget}
use Rattle.caf_code.specs.declared.task.CopyTarget.TheVariants as target
use Rattle.caf_code.specs.declared.task.Listed.{Listed}
use Rattle.caf_code.specs.declared.task.Listed.TheVariants as listing
use Rattle.caf_code.specs.declared.task.Loop.{Loop}
use Rattle.caf_vm.specs.Ready.{ends_step}
use Rattle.caf_vm.specs.Shape.{Fits}

-- what is to be true of the task that goes on, of the effect of a Step that is over, and where a task can't go on
pub record Wish : Type 1 where
  pub goes : Task → Type 0
  pub stops : Effect → Type 0
  pub blocks : Type 0

-- this is true of the task that goes on
abbrev pub to : (Task → Type 0) → Wish
to P = record { goes = P; stops = λ e. Unit {0}; blocks = Unit {0} }

abbrev pub Shaped : Wish → Did → Type 0
Shaped P (Goes t m) = P.goes t
Shaped P (Stops e t m) = P.stops e
Shaped P (Blocks n) = P.blocks
Shaped P _ = Unit {0}

same_some : {A : Type 0} (a b : A) → Some a ≡ Some b → a ≡ b
same_some a b e = ap (λ o. unwrap_or o a) e

shaped_answers : (P : Wish) (r : Answer) (n : ℕ) (s : List ℤ) (t : Task) (m : ImageMemory) → ((z : ℤ) → P.goes (past n (z ∷ s) t)) → Shaped P (answers r n s t m)
shaped_answers P (Ok z) n s t m h = h z
shaped_answers P (Err e) n s t m h = tt

pub shaped_found : {A : Type 0} (P : Wish) (r : Result A Trap) (m : ImageMemory) (go : A → Did) → ((a : A) → Shaped P (go a)) → Shaped P (found r m go)
shaped_found P (Ok a) m go h = h a
shaped_found P (Err e) m go h = tt

pub shaped_one : (P : Wish) (s : List ℤ) (m : ImageMemory) (go : ℤ → List ℤ → Did) → ((x : ℤ) (rest : List ℤ) → s ≡ x ∷ rest → Shaped P (go x rest)) → Shaped P (on_one s m go)
shaped_one P [] m go h = tt
shaped_one P (x ∷ rest) m go h = h x rest refl

pub shaped_two : (P : Wish) (s : List ℤ) (m : ImageMemory) (go : ℤ → ℤ → List ℤ → Did) → ((x y : ℤ) (rest : List ℤ) → s ≡ y ∷ x ∷ rest → Shaped P (go x y rest)) → Shaped P (on_two s m go)
shaped_two P [] m go h = tt
shaped_two P (y ∷ []) m go h = tt
shaped_two P (y ∷ x ∷ rest) m go h = h x y rest refl

shaped_three : (P : Wish) (s : List ℤ) (m : ImageMemory) (go : ℤ → ℤ → ℤ → List ℤ → Did) → ((x y z : ℤ) (rest : List ℤ) → s ≡ z ∷ y ∷ x ∷ rest → Shaped P (go x y z rest)) → Shaped P (on_three s m go)
shaped_three P [] m go h = tt
shaped_three P (z ∷ []) m go h = tt
shaped_three P (z ∷ y ∷ []) m go h = tt
shaped_three P (z ∷ y ∷ x ∷ rest) m go h = h x y z rest refl

pub shaped_loop : (P : Wish) (ls : List Loop) (m : ImageMemory) (go : Loop → List Loop → Did) → ((l : Loop) (rest : List Loop) → ls ≡ l ∷ rest → Shaped P (go l rest)) → Shaped P (on_loop ls m go)
shaped_loop P [] m go h = tt
shaped_loop P (l ∷ rest) m go h = h l rest refl

pub shaped_place : (P : Wish) (f : PlaceForm) (s : List ℤ) (m : ImageMemory) (go : Place → List ℤ → Did) → ((p : Place) (rest : List ℤ) → length s ≡ with_rank f (length rest) → Shaped P (go p rest)) → Shaped P (on_place f s m go)
shaped_place P at.Own s m go h = h place.Own s refl
shaped_place P at.World s m go h = shaped_one P s m (λ x rest. go (place.World x) rest) (λ x rest e. h (place.World x) rest (omega (arith, ap length e)))
shaped_place P (at.Of o) s m go h = shaped_one P s m (λ x rest. go (place.Of o x) rest) (λ x rest e. h (place.Of o x) rest (omega (arith, ap length e)))

with_rank_more : (f : PlaceForm) (a b : ℕ) → with_rank f (a + b) ≡ with_rank f a + b
with_rank_more at.Own a b = refl
with_rank_more at.World a b = omega arith
with_rank_more (at.Of o) a b = omega arith

after_one : (s : List ℤ) (x : ℤ) (rest : List ℤ) → s ≡ x ∷ rest → length s ≡ 1 + length rest
after_one s x rest e = omega (arith, ap length e)

shaped_range : (P : Wish) (f : RangeForm) (s : List ℤ) (m : ImageMemory) (go : SectionRange → List ℤ → Did) → ((r : SectionRange) (rest : List ℤ) → length s ≡ numbers f + length rest → Shaped P (go r rest)) → Shaped P (on_range f s m go)
shaped_range P form.All s m go h = h range.All s (omega arith)
shaped_range P form.Cell s m go h = shaped_one P s m (λ x rest. go (range.Cell x) rest) (λ x rest e. h (range.Cell x) rest (omega (arith, ap length e)))
shaped_range P form.Between s m go h = shaped_two P s m (λ x y rest. go (range.Between x y) rest) (λ x y rest e. h (range.Between x y) rest (omega (arith, ap length e)))
shaped_range P form.From s m go h = shaped_one P s m (λ x rest. go (range.From x) rest) (λ x rest e. h (range.From x) rest (omega (arith, ap length e)))
shaped_range P form.UpTo s m go h = shaped_one P s m (λ x rest. go (range.UpTo x) rest) (λ x rest e. h (range.UpTo x) rest (omega (arith, ap length e)))

-- so many taken off a stack, which had them
without_is : (n left height : ℕ) → height ≡ n + left → without n height ≡ Some left
without_is zero left height e = ap Some (e ∙ omega arith)
without_is (suc n) left zero e = absurd (omega arith)
without_is (suc n) left (suc height) e = without_is n left height (omega arith)

without_has : (n height left : ℕ) → without n height ≡ Some left → height ≡ n + left
without_has zero height left e = same_some height left e ∙ omega arith
without_has (suc n) zero left e = cc
without_has (suc n) (suc height) left e = let h = without_has n height left e in omega (arith, h)

-- the next instruction's address, and a frame of this shape there
abbrev pub Next : Listing → Part → Shape → ℕ → Task → Type 0
Next code p h address t = Fits code p h t.frame × (t.address ≡ address + 1)

-- so many operands were taken
pops_is : (n left : ℕ) (h : Shape) → h.stack ≡ n + left → pops n h ≡ Some (record h { stack = left })
pops_is n left h e = ap (λ o. with_height o h) (without_is n left h.stack e)

after_pops : (n left : ℕ) (h k : Shape) → h.stack ≡ n + left → pops n h ≡ Some k → record h { stack = left } ≡ k
after_pops n left h k e is = same_some (record h { stack = left }) k (sym (pops_is n left h e) ∙ is)

-- and then something else
after_then : (n left : ℕ) (h k : Shape) (go : Shape → Option Shape) → h.stack ≡ n + left → then_shape (pops n h) go ≡ Some k → go (record h { stack = left }) ≡ Some k
after_then n left h k go e is = sym (ap (λ o. then_shape o go) (pops_is n left h e)) ∙ is

-- a frame with other operands
next_left : (code : Listing) (p : Part) (h : Shape) (t : Task) (rest : List ℤ) → Fits code p h t.frame → Next code p (record h { stack = length rest }) t.address (past 1 rest t)
next_left code p h t rest fits = (record { cells = fits.cells; stack = refl; held = fits.held; loops = fits.loops; listed = fits.listed; outs = fits.outs }, refl)

-- a number is left on operands
pushed : (code : Listing) (p : Part) (n : ℕ) (h k : Shape) (t : Task) (rest : List ℤ) (z : ℤ) → Fits code p h t.frame → then_shape (pops n h) pushes ≡ Some k → length t.frame.stack ≡ n + length rest → Next code p k t.address (past 1 (z ∷ rest) t)
pushed code p n h k t rest z fits e s =
    subst (λ q. Next code p q t.address (past 1 (z ∷ rest) t)) (same_some (record h { stack = suc (length rest) }) k (after_then n (length rest) h k pushes (sym fits.stack ∙ s) e)) (next_left code p h t (z ∷ rest) fits)

-- a number is left on all operands
pushed_on : (code : Listing) (p : Part) (h k : Shape) (t : Task) (z : ℤ) → Fits code p h t.frame → pushes h ≡ Some k → Next code p k t.address (past 1 (z ∷ t.frame.stack) t)
pushed_on code p h k t z fits e =
    subst (λ q. Next code p q t.address (past 1 (z ∷ t.frame.stack) t)) (same_some (record h { stack = suc h.stack }) k e) (record { cells = fits.cells; stack = ap suc fits.stack; held = fits.held; loops = fits.loops; listed = fits.listed; outs = fits.outs }, refl)

-- operands are taken
taken : (code : Listing) (p : Part) (n : ℕ) (h k : Shape) (t : Task) (rest : List ℤ) → Fits code p h t.frame → pops n h ≡ Some k → length t.frame.stack ≡ n + length rest → Next code p k t.address (past 1 rest t)
taken code p n h k t rest fits e s =
    subst (λ q. Next code p q t.address (past 1 rest t)) (after_pops n (length rest) h k (sym fits.stack ∙ s) e) (next_left code p h t rest fits)

only : (b : Bool) (o : Option Shape) (k : Shape) → only_if b o ≡ Some k → o ≡ Some k
only true o k e = e
only false o k e = cc

operator : (code : Listing) (p : Part) (w : Operator) (h k : Shape) (t : Task) (m : ImageMemory) → Fits code p h t.frame → then_shape (pops (operands w) h) pushes ≡ Some k → Shaped (to (Next code p k t.address)) (does_operator w t m)
operator code p (One w) h k t m fits e =
    shaped_one (to (Next code p k t.address)) t.frame.stack m (λ x rest. answers (of_one w x) 1 rest t m) (λ x rest s. shaped_answers (to (Next code p k t.address)) (of_one w x) 1 rest t m (λ z. pushed code p 1 h k t rest z fits e (omega (arith, ap length s))))
operator code p (Two w) h k t m fits e =
    shaped_two (to (Next code p k t.address)) t.frame.stack m (λ x y rest. answers (of_two w x y) 1 rest t m) (λ x y rest s. shaped_answers (to (Next code p k t.address)) (of_two w x y) 1 rest t m (λ z. pushed code p 2 h k t rest z fits e (omega (arith, ap length s))))

-- a section or an event is listed
listed : (code : Listing) (p : Part) (n : ℕ) (x : Listed) (h k : Shape) (t : Task) (rest : List ℤ) → Fits code p h t.frame → then_shape (pops n h) (lists_sort (sort_of x)) ≡ Some k → length t.frame.stack ≡ n + length rest → Next code p k t.address (lists x rest t)
listed code p n x h k t rest fits e s =
    let is = after_then n (length rest) h k (lists_sort (sort_of x)) (sym fits.stack ∙ s) e in
    subst (λ q. Next code p q t.address (lists x rest t)) (same_some (record h { stack = length rest; listed = h.listed ++ sort_of x ∷ [] }) k is) (record { cells = fits.cells; stack = refl; held = fits.held; loops = fits.loops; listed = map-append sort_of t.frame.listed (x ∷ []) ∙ ap (λ xs. xs ++ sort_of x ∷ []) fits.listed; outs = fits.outs }, refl)

-- a place for copy out is fixed
fixed : (code : Listing) (p : Part) (x : CopyTarget) (h : Shape) (t : Task) (rest : List ℤ) → Fits code p h t.frame → Next code p (record h { stack = length rest; outs = suc h.outs }) t.address (with_out x rest t)
fixed code p x h t rest fits =
    (record { cells = fits.cells; stack = refl; held = fits.held; loops = fits.loops; listed = fits.listed; outs = omega (arith, length-append t.frame.outs (x ∷ []), fits.outs) }, refl)

-- an instruction that doesn't end its Step goes on at the next address with the shape that the rules give it
pub shaped : (code : Listing) (clear : FenceClear) (p : Part) (i : Instr) (h k : Shape) (t : Task) (m : ImageMemory) → Fits code p h t.frame → next_shape code p i h ≡ Some k → ends_step i ≡ false → Shaped (to (Next code p k t.address)) (does code clear i t m)
shaped code clear p (instr.Push n) h k t m fits e ends = pushed_on code p h k t n fits e
shaped code clear p (instr.Load reach.Scalar o) h k t m fits e ends = shaped_answers (to (Next code p k t.address)) (element_of m.objects m.cells o (pos 1)) 1 t.frame.stack t m (λ z. pushed_on code p h k t z fits e)
shaped code clear p (instr.Load reach.Element o) h k t m fits e ends =
    shaped_one (to (Next code p k t.address)) t.frame.stack m (λ index rest. answers (element_of m.objects m.cells o index) 1 rest t m) (λ x rest s. shaped_answers (to (Next code p k t.address)) (element_of m.objects m.cells o x) 1 rest t m (λ z. pushed code p 1 h k t rest z fits e (omega (arith, ap length s))))
shaped code clear p (instr.Store reach.Scalar o) h k t m fits e ends =
    shaped_one (to (Next code p k t.address)) t.frame.stack m (λ value rest. found (written m o (pos 1) value) m (Goes (past 1 rest t))) (λ x rest s. shaped_found (to (Next code p k t.address)) (written m o (pos 1) x) m (Goes (past 1 rest t)) (λ a. taken code p 1 h k t rest fits e (omega (arith, ap length s))))
shaped code clear p (instr.Store reach.Element o) h k t m fits e ends =
    shaped_two (to (Next code p k t.address)) t.frame.stack m (λ index value rest. found (written m o index value) m (Goes (past 1 rest t))) (λ x y rest s. shaped_found (to (Next code p k t.address)) (written m o x y) m (Goes (past 1 rest t)) (λ a. taken code p 2 h k t rest fits e (omega (arith, ap length s))))
shaped code clear p (instr.Cell cell.Get c) h k t m fits e ends = pushed_on code p h k t _ fits (only _ (pushes h) k e)
shaped code clear p (instr.Cell cell.Set c) h k t m fits e ends =
    shaped_one (to (Next code p k t.address)) t.frame.stack m (λ value rest. Goes (with_cell c value rest t) m) (λ x rest s.
    let n = taken code p 1 h k t rest fits (only _ (pops 1 h) k e) (omega (arith, ap length s)) in
    (record { cells = length-set t.frame.cells c x ∙ n.0.cells; stack = n.0.stack; held = n.0.held; loops = n.0.loops; listed = n.0.listed; outs = n.0.outs }, refl))
shaped code clear p (instr.Held c) h k t m fits e ends = pushed_on code p h k t _ fits (only _ (pushes h) k e)
shaped code clear p (instr.Arithmetic w) h k t m fits e ends = operator code p (arithmetic_operator w) h k t m fits e
shaped code clear p (instr.Relation w) h k t m fits e ends = operator code p (relation_operator w) h k t m fits e
shaped code clear p (instr.Logical w) h k t m fits e ends = operator code p (logical_operator w) h k t m fits e
shaped code clear p (instr.Team q name) h k t m fits e ends = shaped_answers (to (Next code p k t.address)) (of_team q m name) 1 t.frame.stack t m (λ z. pushed_on code p h k t z fits e)
shaped code clear p (instr.Go a) h k t m fits e ends = cc
shaped code clear p instr.Loop h k t m fits e ends =
    shaped_three (to (Next code p k t.address)) t.frame.stack m (λ first last step rest. if is_zero step then Fails trap.Step m else Goes (opens_loop first last step rest t) m) (λ x y z rest s. opened x y z rest s (is_zero z))
  where
    opened : (x y z : ℤ) (rest : List ℤ) → t.frame.stack ≡ z ∷ y ∷ x ∷ rest → (b : Bool) → Shaped (to (Next code p k t.address)) (cond b (Fails trap.Step m) (Goes (opens_loop x y z rest t) m))
    opened x y z rest s true = tt
    opened x y z rest s false =
        let is = after_then 3 (length rest) h k (λ q. pushes (record q { loops = suc q.loops })) (omega (arith, fits.stack, ap length s)) e in
        subst (λ q. Next code p q t.address (opens_loop x y z rest t)) (same_some (record h { stack = suc (length rest); loops = suc h.loops }) k is) (record { cells = fits.cells; stack = refl; held = fits.held; loops = ap suc fits.loops; listed = fits.listed; outs = fits.outs }, refl)
shaped code clear p instr.StepBy h k t m fits e ends =
    shaped_loop (to (Next code p k t.address)) t.frame.loops m (λ l rest. Goes (past 1 (l.step ∷ t.frame.stack) t) m) (λ l rest s. pushed_on code p h k t l.step fits (looped h.loops (length rest) (sym fits.loops ∙ ap length s) e))
  where
    looped : (n r : ℕ) → n ≡ suc r → then_shape (in_loop n h) pushes ≡ Some k → pushes h ≡ Some k
    looped zero r z is = absurd (omega arith)
    looped (suc n) r z is = is
shaped code clear p (instr.Section (section.Region o f q)) h k t m fits e ends =
    shaped_place (to (Next code p k t.address)) q t.frame.stack m (λ place below. on_range f below m (λ r rest. Goes (lists (listing.Section (wanted.Region o r place)) rest t) m)) (λ place below s. shaped_range (to (Next code p k t.address)) f below m (λ r rest. Goes (lists (listing.Section (wanted.Region o r place)) rest t) m) (λ r rest s'. listed code p (with_rank q (numbers f)) (listing.Section (wanted.Region o r place)) h k t rest fits e (s ∙ ap (with_rank q) s' ∙ with_rank_more q (numbers f) (length rest))))
shaped code clear p (instr.Section (section.Pointed c f)) h k t m fits e ends =
    shaped_range (to (Next code p k t.address)) f t.frame.stack m (λ r rest. Goes (lists (listing.Section (wanted.Pointed c r)) rest t) m) (λ r rest s. listed code p (numbers f) (listing.Section (wanted.Pointed c r)) h k t rest fits e s)
shaped code clear p (instr.EventAt o q r) h k t m fits e ends =
    shaped_place (to (Next code p k t.address)) q t.frame.stack m (λ place below. on_one below m (λ index rest. Goes (lists (listing.Event r (record { object = o; index = index; place = place })) rest t) m)) (λ place below s. shaped_one (to (Next code p k t.address)) below m (λ index rest. Goes (lists (listing.Event r (record { object = o; index = index; place = place })) rest t) m) (λ x rest s'. listed code p (with_rank q 1) (listing.Event r (record { object = o; index = x; place = place })) h k t rest fits e (s ∙ ap (with_rank q) (after_one below x rest s') ∙ with_rank_more q 1 (length rest))))
shaped code clear p (instr.Out (out.Scalar o)) h k t m fits e ends =
    subst (λ q. Next code p q t.address (with_out (target.Scalar o) t.frame.stack t)) (ap (λ n. record h { stack = n; outs = suc h.outs }) fits.stack ∙ same_some (record h { outs = suc h.outs }) k e) (fixed code p (target.Scalar o) h t t.frame.stack fits)
shaped code clear p (instr.Out (out.Element o)) h k t m fits e ends =
    shaped_one (to (Next code p k t.address)) t.frame.stack m (λ index rest. found (within (slice_get m.objects o) index) m (λ i. Goes (with_out (target.Element o i) rest t) m)) (λ x rest s. shaped_found (to (Next code p k t.address)) (within (slice_get m.objects o) x) m (λ i. Goes (with_out (target.Element o i) rest t) m) (λ i.
    let is = after_then 1 (length rest) h k (λ q. Some (record q { outs = suc q.outs })) (omega (arith, fits.stack, ap length s)) e in
    subst (λ q. Next code p q t.address (with_out (target.Element o i) rest t)) (same_some (record h { stack = length rest; outs = suc h.outs }) k is) (fixed code p (target.Element o i) h t rest fits)))
shaped code clear p (instr.Out (out.Local c)) h k t m fits e ends =
    subst (λ q. Next code p q t.address (with_out (target.Local c) t.frame.stack t)) (ap (λ n. record h { stack = n; outs = suc h.outs }) fits.stack ∙ same_some (record h { outs = suc h.outs }) k (only _ (Some (record h { outs = suc h.outs })) k e)) (fixed code p (target.Local c) h t t.frame.stack fits)
shaped code clear p (instr.Print printed.Number) h k t m fits e ends =
    shaped_one (to (Next code p k t.address)) t.frame.stack m (λ z rest. Goes (with_part (number_text z) rest t) m) (λ x rest s. let n = taken code p 1 h k t rest fits e (omega (arith, ap length s)) in n)
shaped code clear p (instr.Print printed.Logical) h k t m fits e ends =
    shaped_one (to (Next code p k t.address)) t.frame.stack m (λ z rest. Goes (with_part (logical_text z) rest t) m) (λ x rest s. let n = taken code p 1 h k t rest fits e (omega (arith, ap length s)) in n)
shaped code clear p (instr.Print (printed.Text c)) h k t m fits e ends = texts (slice_get code.texts c)
  where
    texts : (o : Option (List ℕ)) → Shaped (to (Next code p k t.address)) (there o m (λ text. Goes (with_part text t.frame.stack t) m))
    texts None = tt
    texts (Some text) = subst (λ q. Next code p q t.address (with_part text t.frame.stack t)) (same_some h k e) (fits, refl)
shaped code clear p instr.Next h k t m fits e ends = cc
shaped code clear p (instr.Test a) h k t m fits e ends = cc
shaped code clear p (instr.Enter a) h k t m fits e ends = cc
shaped code clear p (instr.Again a) h k t m fits e ends = cc
shaped code clear p (instr.Ask x) h k t m fits e ends = cc
shaped code clear p (instr.Put x) h k t m fits e ends = cc
shaped code clear p (instr.Use u) h k t m fits e ends = cc
shaped code clear p (instr.Event u) h k t m fits e ends = cc
shaped code clear p (instr.Cofence d) h k t m fits e ends = cc
shaped code clear p (instr.Spawn f q) h k t m fits e ends = cc
shaped code clear p (instr.Finish name) h k t m fits e ends = cc
shaped code clear p instr.Close h k t m fits e ends = cc
shaped code clear p (instr.Split name o) h k t m fits e ends = cc
shaped code clear p (instr.Call f) h k t m fits e ends = cc
shaped code clear p instr.Ret h k t m fits e ends = cc
shaped code clear p instr.Line h k t m fits e ends = cc
shaped code clear p instr.Halt h k t m fits e ends = cc
