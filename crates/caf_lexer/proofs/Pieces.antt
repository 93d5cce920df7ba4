-- The pieces of a line, one after another.
use Rattle.std.proofs.Common.{◌≡◌, ℕ, zero, suc, ◌-◌, ◌<◌, max, [], ◌∷◌, length, drop, refl, arith}
use Rattle.std.specs.Prelude.{slice_index}
use Rattle.caf_lexer.specs.Spelling.{Bytes, Cut, Begins, pieces, pieces_after, front}

pieces_after-drop : (n : ℕ) (z : Bytes) → pieces_after n z ≡ pieces (drop n z)
pieces_after-drop zero z = refl
pieces_after-drop (suc n) [] = refl
pieces_after-drop (suc n) (b ∷ z) = pieces_after-drop n z

drop-past : (n b : ℕ) (z : Bytes) → drop (n - 1) z ≡ drop (max n 1) (b ∷ z)
drop-past zero b z = refl
drop-past (suc n) b z =
    let less : suc n - 1 ≡ n = omega arith in
    let same : max (suc n) 1 ≡ suc n = omega arith in
    rw (less, same) refl

-- where a piece begins, the pieces are that one and those behind it
pub pieces-at : (z : Bytes) (cut : Cut) → 0 < length z → Begins (slice_index z 0) → cut ≡ front (slice_index z 0) z → pieces z ≡ cut.0 ∷ pieces (drop (max cut.1 1) z)
pieces-at [] cut some begins is = absurd (omega arith)
pieces-at (b ∷ z) cut some begins is = rw (begins.0, begins.1, pieces_after-drop ((front b (b ∷ z)).1 - 1) z, drop-past (front b (b ∷ z)).1 b z, is) refl
