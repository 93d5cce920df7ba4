-- What a statement has listed.
use Rattle.std.proofs.Common.{◌≡◌, ℕ, zero, suc, ◌-◌, ◌<◌, ◌≤◌, Bool, true, false, cond, List, [], ◌∷◌, ◌++◌, length, map, Option, Some, None, refl, ap, ◌∙◌, arith}
use Rattle.std.specs.Prelude.{slice_get}
use Rattle.caf_base.specs.ImageMemory.{ImageMemory}
use Rattle.caf_base.specs.declared.place.EventWanted.{EventWanted}
use Rattle.caf_base.specs.declared.place.SectionWanted.{SectionWanted}
use Rattle.caf_code.specs.Did.{Did}
use Rattle.caf_code.specs.Operations.{event_for, on_section, same_role}
use Rattle.caf_code.specs.Shapes.{is_one_section, sort_of}
use Rattle.caf_code.specs.declared.instr.Role.{Role}
use Rattle.caf_code.specs.declared.task.Listed.{Listed}
use Rattle.caf_code.specs.declared.task.Listed.TheVariants as listed

-- an event in front, or else one behind
abbrev pub or_else : Option EventWanted → Option EventWanted → Option EventWanted
or_else (Some e) o = Some e
or_else None o = o

pub event_behind : (r : Role) (xs ys : List Listed) → event_for r (xs ++ ys) ≡ or_else (event_for r xs) (event_for r ys)
event_behind r [] ys = refl
event_behind r (listed.Section w ∷ xs) ys = event_behind r xs ys
event_behind r (listed.Event q e ∷ xs) ys = go (same_role q r) (event_behind r xs ys)
  where
    go : (b : Bool) → event_for r (xs ++ ys) ≡ or_else (event_for r xs) (event_for r ys) → cond b (Some e) (event_for r (xs ++ ys)) ≡ or_else (cond b (Some e) (event_for r xs)) (event_for r ys)
    go true rest = refl
    go false rest = rest

-- an event of a role at the front
pub event_first : (r : Role) (x : Listed) (xs : List Listed) (e : EventWanted) → event_for r (x ∷ []) ≡ Some e → event_for r (x ∷ xs) ≡ Some e
event_first r x xs e h = event_behind r (x ∷ []) xs ∙ ap (λ o. or_else o (event_for r xs)) h

pub event_later : (r : Role) (x : Listed) (xs : List Listed) → event_for r (x ∷ []) ≡ None → event_for r (x ∷ xs) ≡ event_for r xs
event_later r x xs h = event_behind r (x ∷ []) xs ∙ ap (λ o. or_else o (event_for r xs)) h

-- the element behind others
pub get_behind : (xs ys : List Listed) (k : ℕ) → length xs ≤ k → slice_get (xs ++ ys) k ≡ slice_get ys (k - length xs)
get_behind [] ys k h = ap (slice_get ys) (omega arith)
get_behind (x ∷ xs) ys zero h = absurd (omega arith)
get_behind (x ∷ xs) ys (suc k) h = get_behind xs ys k (omega arith) ∙ ap (slice_get ys) (omega arith)

pub get_before : (xs ys : List Listed) (k : ℕ) → k < length xs → slice_get (xs ++ ys) k ≡ slice_get xs k
get_before [] ys k h = absurd (omega arith)
get_before (x ∷ xs) ys zero h = refl
get_before (x ∷ xs) ys (suc k) h = get_before xs ys k (omega arith)

-- the one section
pub one_is : (xs : List Listed) (w : SectionWanted) (m : ImageMemory) (go : SectionWanted → Did) → is_one_section (map sort_of xs) ≡ true → slice_get xs 0 ≡ Some (listed.Section w) → on_section xs m go ≡ go w
one_is [] w m go h e = cc
one_is (listed.Section v ∷ []) w m go h e = ap go (same e)
  where
    section : Option Listed → SectionWanted
    section (Some (listed.Section u)) = u
    section _ = v

    same : Some (listed.Section v) ≡ Some (listed.Section w) → v ≡ w
    same is = ap section is
one_is (listed.Section v ∷ y ∷ ys) w m go h e = absurd (let f : false ≡ true = h in cc)
one_is (listed.Event r q ∷ ys) w m go h e = absurd (let f : false ≡ true = h in cc)
