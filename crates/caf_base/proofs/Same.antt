-- Teams and finishes that `==` takes for equal are equal.
use Rattle.std.proofs.Common.{◌≡◌, ℕ, ℤ, Bool, ap, refl, ◌∙◌}
use Rattle.std.specs.Bool.{Decides}
use Rattle.std.proofs.lemmas.Bool.Decides.{Decides-eqb, Decides-int_eq, Decides-and, Decides-like, Decides-at}
use Rattle.std.proofs.lemmas.Slice.Eq.{slice_eq-Decides}
use Rattle.caf_base.specs.declared.team.FinishRef.{FinishRef}
use Rattle.caf_base.specs.declared.team.Team.{Team}
use Rattle.caf_base.specs.FinishRef.{same_split, same_team, same_finish}

same_split-Decides : (a b : ℕ × ℤ) → Decides (same_split a b) (a ≡ b)
same_split-Decides a b =
    Decides-like (same_split a b) (λ (h : (a.0 ≡ b.0) × (a.1 ≡ b.1)). ap (λ x. (x, a.1)) h.0 ∙ ap (λ y. (b.0, y)) h.1) (λ e. (ap (λ (p : ℕ × ℤ). p.0) e, ap (λ (p : ℕ × ℤ). p.1) e)) (Decides-and _ _ (Decides-eqb a.0 b.0) (Decides-int_eq a.1 b.1))

same_team-Decides : (a b : Team) → Decides (same_team a b) (a ≡ b)
same_team-Decides a b =
    Decides-like (same_team a b) (λ (h : (a.path ≡ b.path) × (a.members ≡ b.members)). ap (λ x. record a { path = x }) h.0 ∙ ap (λ y. record b { members = y }) h.1) (λ e. (ap (λ (t : Team). t.path) e, ap (λ (t : Team). t.members) e)) (Decides-and _ _ (slice_eq-Decides same_split-Decides a.path b.path _ refl) (slice_eq-Decides Decides-eqb a.members b.members _ refl))

pub same_finish-Decides : (a b : FinishRef) (r : Bool) → r ≡ same_finish a b → Decides r (a ≡ b)
same_finish-Decides a b r is =
    Decides-at r _ is (Decides-like _ (λ (h : (a.team ≡ b.team) × (a.number ≡ b.number)). ap (λ x. record a { team = x }) h.0 ∙ ap (λ y. record b { number = y }) h.1) (λ e. (ap (λ (f : FinishRef). f.team) e, ap (λ (f : FinishRef). f.number) e)) (Decides-and _ _ (same_team-Decides a.team b.team) (Decides-eqb a.number b.number)))
