-- Tickets and turns, by where a pass stands.
use Rattle.std.proofs.Common.{◌≡◌, ℕ, false, true≢false, [], refl, sym, ap, ◌∙◌, subst}
use Rattle.caf_seatlock.specs.declared.view.Standing.{Standing}
use Rattle.caf_seatlock.specs.declared.view.Standing.TheVariants.{Away, Waiting, Served}
use Rattle.caf_seatlock.specs.Line.{tickets_of, HasTicket, HasTurn}
use Rattle.caf_seatlock.specs.Told.{Own}
use Rattle.caf_seatlock.specs.Hands.{is_waiting, is_served, hand_of, InOrder}

-- a turn is that of a ticket
pub turn_has_ticket : (s : Standing) (ticket : ℕ) → HasTurn s ticket → HasTicket s ticket
turn_has_ticket Away ticket turn = turn
turn_has_ticket (Waiting number) ticket turn = absurd turn
turn_has_ticket (Served number) ticket turn = turn

-- who has a ticket has one
pub one_ticket : (s : Standing) (ticket : ℕ) → HasTicket s ticket → tickets_of s ≡ 1
one_ticket Away ticket has = absurd has
one_ticket (Waiting number) ticket has = refl
one_ticket (Served number) ticket has = refl

-- who has two tickets has the same twice
pub same_ticket : (s : Standing) (ticket other : ℕ) → HasTicket s ticket → HasTicket s other → ticket ≡ other
same_ticket Away ticket other has has' = absurd has
same_ticket (Waiting number) ticket other has has' = sym has ∙ has'
same_ticket (Served number) ticket other has has' = sym has ∙ has'

-- who isn't in the line has no ticket
pub away_no_ticket : (s : Standing) → s ≡ Away → (ticket : ℕ) → HasTicket s ticket → ⊥
away_no_ticket s away ticket has = subst (λ (z : Standing). HasTicket z ticket) away has

-- and no turn
pub away_no_turn : (s : Standing) → s ≡ Away → (ticket : ℕ) → HasTurn s ticket → ⊥
away_no_turn s away ticket turn = subst (λ (z : Standing). HasTurn z ticket) away turn

-- who waits has no turn yet
pub waiting_no_turn : (s : Standing) (number : ℕ) → s ≡ Waiting number → (ticket : ℕ) → HasTurn s ticket → ⊥
waiting_no_turn s number waits ticket turn = subst (λ (z : Standing). HasTurn z ticket) waits turn

-- who neither waits nor has its turn isn't in the line
away_by : (s : Standing) → is_served s ≡ false → is_waiting s ≡ false → s ≡ Away
away_by Away free still = refl
away_by (Waiting ticket) free still = absurd (true≢false still)
away_by (Served ticket) free still = absurd (true≢false free)

module _ {W : Type 0} (seats : ℕ) (own : Own W) (order : InOrder seats own) where
  -- a pass in order that hasn't the turn isn't in the line
  pub is_away : is_served own.0.standing ≡ false → own.0.standing ≡ Away
  is_away free = away_by own.0.standing free order.3

  -- and has nothing in its hand
  pub has_nothing : is_served own.0.standing ≡ false → own.1 ≡ []
  has_nothing free = order.4 ∙ ap hand_of (is_away free)
