-- Marks and paths.
use Rattle.std.proofs.Common.{ℕ, zero, suc, List, Bool, Contains, subst, refl, sym, ◌<◌, length, false, true≢false, replicate}
use Rattle.std.proofs.lemmas.Option.{slice_get_within}
use Rattle.caf_program.specs.Ships.{HasCall, Path, Reaches}
use Rattle.caf_teamcheck.specs.Marks.{Marked, AreClosed}

-- what calls is one of the subroutines
calls_within : (calls : List (List ℕ)) (a b : ℕ) → HasCall calls a b → a < length calls
calls_within calls a b h = slice_get_within calls a h.0 h.1

-- what is at the end of a path from a marked one is marked
along : (calls : List (List ℕ)) (starts : List ℕ) (marks : List Bool) → AreClosed calls starts marks → (n a b : ℕ) → (a < length calls → Marked marks a) → Path calls a b n → b < length calls → Marked marks b
along calls starts marks closed zero a b m p within = subst (Marked marks) p (m (subst (λ x. x < length calls) (sym p) within))
along calls starts marks closed (suc n) a b m p within =
    closed.more p.0 b (along calls starts marks closed n a p.0 m p.1 (calls_within calls p.0 b p.2)) p.2 within

-- closed marks hold all that is reached
pub all_marked : (calls : List (List ℕ)) (starts : List ℕ) (marks : List Bool) → AreClosed calls starts marks → (b : ℕ) → Reaches calls starts b → b < length calls → Marked marks b
all_marked calls starts marks closed b r within = along calls starts marks closed r.steps r.start b (closed.first r.start r.among) r.path within

-- a start is reached
pub reaches_start : (calls : List (List ℕ)) (starts : List ℕ) (a : ℕ) → Contains starts a → Reaches calls starts a
reaches_start calls starts a h = record { start = a; steps = 0; among = h; path = refl }

-- what a reached one calls is reached
pub reaches_call : (calls : List (List ℕ)) (starts : List ℕ) (a b : ℕ) → Reaches calls starts a → HasCall calls a b → Reaches calls starts b
reaches_call calls starts a b r h = record { start = r.start; steps = suc r.steps; among = r.among; path = (a, r.path, h) }

pub no_marks : (n b : ℕ) → Marked (replicate n false) b → ⊥
no_marks zero zero m = true≢false (sym m)
no_marks zero (suc b) m = true≢false (sym m)
no_marks (suc n) zero m = true≢false (sym m)
no_marks (suc n) (suc b) m = no_marks n b m
