-- The line for the value: which passes have which tickets.
use Rattle.std.specs.Prelude.{◌≡◌, ℕ, ◌+◌, ◌<◌, ◌≤◌, List}
use Rattle.std.specs.List.{sum_by}
use mathlib.Core.Option.{some}
use lib.ListN.{get_elem?}
use Rattle.caf_seatlock.specs.declared.view.Standing.{Standing}
use Rattle.caf_seatlock.specs.declared.view.Standing.TheVariants.{Away, Waiting, Served}
use Rattle.caf_seatlock.specs.declared.view.View.{View}

-- this is true of each element
abbrev pub Each : {A : Type 0} → (A → Type 0) → List A → Type 0
Each {A} P xs = (i : ℕ) (x : A) → get_elem? xs i ≡ some x → P x

-- how many tickets someone has who stands so
abbrev pub tickets_of : Standing → ℕ
tickets_of Away = 0
tickets_of (Waiting number) = 1
tickets_of (Served number) = 1

-- who stands so has this ticket
abbrev pub HasTicket : Standing → ℕ → Type 0
HasTicket Away ticket = ⊥
HasTicket (Waiting number) ticket = number ≡ ticket
HasTicket (Served number) ticket = number ≡ ticket

-- who stands so has the turn of this ticket
abbrev pub HasTurn : Standing → ℕ → Type 0
HasTurn Away ticket = ⊥
HasTurn (Waiting number) ticket = ⊥
HasTurn (Served number) ticket = number ≡ ticket

module _ {W : Type 0} where
  -- how many tickets a pass has, by its view
  abbrev pub tickets : View W → ℕ
  tickets view = tickets_of view.standing

  -- how many seats it has
  abbrev pub seats : View W → ℕ
  seats view = view.seats

  -- no two passes have one ticket
  abbrev pub Apart : List (View W) → Type 0
  Apart views = (i j ticket : ℕ) (v w : View W) → get_elem? views i ≡ some v → get_elem? views j ≡ some w → HasTicket v.standing ticket → HasTicket w.standing ticket → i ≡ j

-- The tickets from `served` up to but not including `drawn` are in the line, each with one pass. No turn but that of the first is taken, and no pass has more tickets than seats.
pub record Line {W : Type 0} (all drawn served : ℕ) (views : List (View W)) : Type 0 where
  pub counted : served + sum_by tickets views ≡ drawn
  pub ranged : Each (λ (v : View W). (ticket : ℕ) → HasTicket v.standing ticket → (served ≤ ticket) × (ticket < drawn)) views
  pub apart : Apart views
  pub first : Each (λ (v : View W). (ticket : ℕ) → HasTurn v.standing ticket → ticket ≡ served) views
  pub seated : Each (λ (v : View W). tickets v ≤ seats v) views
  pub shared : sum_by seats views ≡ all
