-- The line of tickets, as what one pass knows changes.
use Rattle.std.proofs.Common.{◌≡◌, ◌≢◌, ℕ, ◌+◌, ◌<◌, ◌≤◌, List, [], ◌∷◌, ◌++◌, set, sym, ap, ◌∙◌, subst, ⊎_elim, arith}
use Rattle.std.proofs.lemmas.List.Sums.{sum_by_push}
use mathlib.Core.Option.{some}
use lib.ListN.{get_elem?}
use Rattle.atomic_table.proofs.Lists.{at_set, at_snoc}
use Rattle.caf_seatlock.specs.declared.view.Standing.{Standing}
use Rattle.caf_seatlock.specs.declared.view.Standing.TheVariants.{Away, Waiting}
use Rattle.caf_seatlock.specs.declared.view.View.{View}
use Rattle.caf_seatlock.specs.Line.{tickets_of, HasTicket, HasTurn, tickets, seats, Apart, Line}
use Rattle.caf_seatlock.proofs.Sums.{two_at_most_sum, sum_set, sum_at_most}
use Rattle.caf_seatlock.proofs.Elements.{each_else, each_set, each_more, each_alone}
use Rattle.caf_seatlock.proofs.Standings.{turn_has_ticket, one_ticket, away_no_ticket, away_no_turn}

module _ {W : Type 0} where
  -- the tickets of each are of the line
  abbrev Ranged : ℕ → ℕ → View W → Type 0
  Ranged served drawn v = (ticket : ℕ) → HasTicket v.standing ticket → (served ≤ ticket) × (ticket < drawn)

  -- the turn of each is that of the first ticket
  abbrev IsFirst : ℕ → View W → Type 0
  IsFirst served v = (ticket : ℕ) → HasTurn v.standing ticket → ticket ≡ served

  abbrev Seated : View W → Type 0
  Seated v = tickets v ≤ seats v

  -- tickets stay apart where the new view's ticket is none of the others
  apart_set : (views : List (View W)) (id : ℕ) (w : View W) → Apart views
      → ((j ticket : ℕ) (u : View W) → j ≢ id → get_elem? views j ≡ some u → HasTicket w.standing ticket → HasTicket u.standing ticket → ⊥) → Apart (set views id w)
  apart_set views id w apart clash i j ticket u v at at' has has' = ⊎_elim
      (λ (a : (i ≡ id) × (w ≡ u)). ⊎_elim
      (λ (b : (j ≡ id) × (w ≡ v)). a.0 ∙ sym b.0)
      (λ (b : (j ≢ id) × (get_elem? views j ≡ some v)). absurd (clash j ticket v b.0 b.1 (subst (λ (z : View W). HasTicket z.standing ticket) (sym a.1) has) has'))
      (at_set views id j w v at'))
      (λ (a : (i ≢ id) × (get_elem? views i ≡ some u)). ⊎_elim
      (λ (b : (j ≡ id) × (w ≡ v)). absurd (clash i ticket u a.0 a.1 (subst (λ (z : View W). HasTicket z.standing ticket) (sym b.1) has') has))
      (λ (b : (j ≢ id) × (get_elem? views j ≡ some v)). apart i j ticket u v a.1 b.1 has has')
      (at_set views id j w v at'))
      (at_set views id i w u at)

  -- a pass comes to know something else: it keeps its ticket, or its having none, and its seats change those of all
  pub line_set : (all all' drawn served : ℕ) (views : List (View W)) (id : ℕ) (v w : View W) → Line all drawn served views → get_elem? views id ≡ some v
      → tickets_of w.standing ≡ tickets_of v.standing → ((ticket : ℕ) → HasTicket w.standing ticket → HasTicket v.standing ticket) → IsFirst served w
      → tickets w ≤ w.seats → all' + v.seats ≡ all + w.seats → Line all' drawn served (set views id w)
  line_set all all' drawn served views id v w line at same own first seated sum = record {
    counted = let change = sum_set tickets views id v w at in let before = line.counted in omega arith;
    ranged = each_set (Ranged served drawn) views id w (λ ticket has. line.ranged id v at ticket (own ticket has)) line.ranged;
    apart = apart_set views id w line.apart (λ j ticket u apart at' has has'. apart (line.apart j id ticket u v at' at has' (own ticket has)));
    first = each_set (IsFirst served) views id w first line.first;
    seated = each_set Seated views id w seated line.seated;
    shared = let change = sum_set seats views id v w at in let before = line.shared in omega arith;
  }

  -- a pass that isn't in the line is added, with its seats
  pub line_more : (all drawn served : ℕ) (views : List (View W)) (w : View W) → Line all drawn served views → w.standing ≡ Away → Line (all + w.seats) drawn served (views ++ w ∷ [])
  line_more all drawn served views w line away = let none = away_no_ticket w.standing away in let zero : tickets w ≡ 0 = ap tickets_of away in record {
    counted = let more = sum_by_push tickets views w in let before = line.counted in omega arith;
    ranged = each_more (Ranged served drawn) views w (λ ticket has. absurd (none ticket has)) line.ranged;
    apart = λ i j ticket u v at at' has has'. ⊎_elim
        (λ (a : get_elem? views i ≡ some u). ⊎_elim
        (λ (b : get_elem? views j ≡ some v). line.apart i j ticket u v a b has has')
        (λ (b : w ≡ v). absurd (none ticket (subst (λ (z : View W). HasTicket z.standing ticket) (sym b) has')))
        (at_snoc views w v j at'))
        (λ (a : w ≡ u). absurd (none ticket (subst (λ (z : View W). HasTicket z.standing ticket) (sym a) has)))
        (at_snoc views w u i at);
    first = each_more (IsFirst served) views w (λ ticket turn. absurd (away_no_turn w.standing away ticket turn)) line.first;
    seated = each_more Seated views w (omega arith) line.seated;
    shared = let more = sum_by_push seats views w in let before = line.shared in omega arith;
  }

  -- a pass with a seat that isn't in the line draws the next ticket
  pub line_draws : (all drawn served : ℕ) (views : List (View W)) (id : ℕ) (v w : View W) → Line all drawn served views → get_elem? views id ≡ some v
      → v.standing ≡ Away → 0 < v.seats → w.standing ≡ Waiting drawn → w.seats ≡ v.seats → Line all (drawn + 1) served (set views id w)
  line_draws all drawn served views id v w line at away some_seat waits same =
      let is_new : (ticket : ℕ) → HasTicket w.standing ticket → drawn ≡ ticket = λ ticket has. subst (λ (z : Standing). HasTicket z ticket) waits has in
      let none : tickets v ≡ 0 = ap tickets_of away in let one : tickets w ≡ 1 = ap tickets_of waits in record {
        counted = let change = sum_set tickets views id v w at in let before = line.counted in omega arith;
        ranged = each_set (Ranged served (drawn + 1)) views id w (λ ticket has. let new = is_new ticket has in let before = line.counted in (omega arith, omega arith))
            (λ j u at' ticket has. let range = line.ranged j u at' ticket has in let below : ticket < drawn = range.1 in (range.0, omega arith));
        apart = apart_set views id w line.apart (λ j ticket u apart at' has has'. let range = line.ranged j u at' ticket has' in let below : ticket < drawn = range.1 in let new = is_new ticket has in absurd (omega arith));
        first = each_set (IsFirst served) views id w (λ ticket turn. absurd (subst (λ (z : Standing). HasTurn z ticket) waits turn)) line.first;
        seated = each_set Seated views id w (omega arith) line.seated;
        shared = let change = sum_set seats views id v w at in let before = line.shared in omega arith;
      }

  -- the pass with the first ticket gives it away: the next is served
  pub line_serves : (all drawn served : ℕ) (views : List (View W)) (id : ℕ) (v w : View W) → Line all drawn served views → get_elem? views id ≡ some v
      → HasTicket v.standing served → w.standing ≡ Away → w.seats ≡ v.seats → Line all drawn (served + 1) (set views id w)
  line_serves all drawn served views id v w line at mine away same =
      let none = away_no_ticket w.standing away in
      let one : tickets v ≡ 1 = one_ticket v.standing served mine in let zero : tickets w ≡ 0 = ap tickets_of away in record {
        counted = let change = sum_set tickets views id v w at in let before = line.counted in omega arith;
        ranged = each_else (Ranged (served + 1) drawn) views id w (λ ticket has. absurd (none ticket has)) (λ j u apart at' ticket has.
            let range = line.ranged j u at' ticket has in let least : served ≤ ticket = range.0 in
            let other : served ≢ ticket = λ is. apart (line.apart j id ticket u v at' at has (subst (HasTicket v.standing) is mine)) in (omega arith, range.1));
        apart = apart_set views id w line.apart (λ j ticket u apart at' has has'. none ticket has);
        first = each_else (IsFirst (served + 1)) views id w (λ ticket turn. absurd (away_no_turn w.standing away ticket turn)) (λ j u apart at' ticket turn.
            let is = line.first j u at' ticket turn in absurd (apart (line.apart j id ticket u v at' at (turn_has_ticket u.standing ticket turn) (subst (HasTicket v.standing) (sym is) mine))));
        seated = each_set Seated views id w (omega arith) line.seated;
        shared = let change = sum_set seats views id v w at in let before = line.shared in omega arith;
      }

  -- there are no more tickets in the line than seats
  pub line_short : (all drawn served : ℕ) (views : List (View W)) → Line all drawn served views → drawn ≤ served + all
  line_short all drawn served views line =
      let most = sum_at_most tickets seats views line.seated in let count = line.counted in let share = line.shared in omega arith

  -- where one pass has all seats, no other has a ticket
  pub line_alone : (all drawn served : ℕ) (views : List (View W)) (id : ℕ) (v : View W) → Line all drawn served views → get_elem? views id ≡ some v → v.seats ≡ all
      → (j ticket : ℕ) (u : View W) → j ≢ id → get_elem? views j ≡ some u → HasTicket u.standing ticket → ⊥
  line_alone all drawn served views id v line at has_all j ticket u apart at' has =
      let one : tickets u ≡ 1 = one_ticket u.standing ticket has in let seated : tickets u ≤ u.seats = line.seated j u at' in
      let both = two_at_most_sum seats views j id u v apart at' at in let share = line.shared in absurd (omega arith)

  -- the line at the start, with one pass that isn't in it
  pub line_begins : (v : View W) → v.standing ≡ Away → Line v.seats 0 0 (v ∷ [])
  line_begins v away = let none = away_no_ticket v.standing away in let zero : tickets v ≡ 0 = ap tickets_of away in record {
    counted = omega arith;
    ranged = each_alone (Ranged 0 0) v (λ ticket has. absurd (none ticket has));
    apart = λ i j ticket u w at at' has has'. absurd (each_alone (λ (z : View W). HasTicket z.standing ticket → ⊥) v (none ticket) i u at has);
    first = each_alone (IsFirst 0) v (λ ticket turn. absurd (away_no_turn v.standing away ticket turn));
    seated = each_alone Seated v (omega arith);
    shared = omega arith;
  }
