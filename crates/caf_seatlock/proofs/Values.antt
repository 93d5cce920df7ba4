-- Where the value is, as what one pass knows changes.
use Rattle.std.proofs.Common.{◌≡◌, ◌≢◌, ℕ, List, [], ◌∷◌, ◌++◌, set, sym, ap, ◌∙◌, subst, ⊎_elim, inl, inr}
use mathlib.Core.Option.{some, some-injective}
use lib.ListN.{get_elem?}
use Rattle.atomic_table.proofs.Lists.{at_longer, set_else}
use Rattle.caf_journal.specs.declared.entry.Entry.{Entry}
use Rattle.caf_seatlock.specs.declared.view.View.{View}
use Rattle.caf_seatlock.specs.Line.{HasTicket, HasTurn, Line}
use Rattle.caf_seatlock.specs.Rule.{Slots, NoTurn, InHand, AtHome, Value}
use Rattle.caf_seatlock.proofs.Elements.{each_set, each_more}
use Rattle.caf_seatlock.proofs.Standings.{turn_has_ticket}

module _ {W : Type 0} where
  -- two views that stand at one place are one
  pub same_view : (views : List (View W)) (i j : ℕ) (v w : View W) → get_elem? views i ≡ some v → get_elem? views j ≡ some w → i ≡ j → v ≡ w
  same_view views i j v w at at' same = some-injective v w (sym at ∙ (ap (get_elem? views) same ∙ at'))

  -- while the value is out, the pass with the first ticket is the one that has it
  pub is_holder : (all drawn served : ℕ) (list : List Entry) (slots : Slots W) (views : List (View W)) (id : ℕ) (v : View W) → Line all drawn served views → get_elem? views id ≡ some v
      → HasTicket v.standing served → (hand : InHand served list slots views) → hand.holder ≡ v
  is_holder all drawn served list slots views id v line at mine hand =
      same_view views hand.id id hand.holder v hand.at at (line.apart hand.id id served hand.holder v hand.at at (turn_has_ticket hand.holder.standing served hand.turn) mine)

module _ {W F : Type 0} (entries : W → List Entry) (fixed : W → F) (base : F) where
  -- the value stays where it is, if a pass that has no turn comes to know something else and still has none
  pub value_set : (served : ℕ) (list : List Entry) (slots : Slots W) (views : List (View W)) (id : ℕ) (v w : View W) → get_elem? views id ≡ some v → NoTurn v → NoTurn w
      → Value entries fixed base served list slots views → Value entries fixed base served list slots (set views id w)
  value_set served list slots views id v w at free free' value = ⊎_elim
      (λ (home : AtHome entries fixed base list slots views). inl record {
        value = home.value;
        slot = home.slot;
        list_is = home.list_is;
        fixed_is = home.fixed_is;
        no_turn = each_set NoTurn views id w free' home.no_turn;
      })
      (λ (hand : InHand served list slots views).
      let apart : hand.id ≢ id = λ same. free served (subst (λ (z : View W). HasTurn z.standing served) (same_view views hand.id id hand.holder v hand.at at same) hand.turn) in inr record {
        id = hand.id;
        holder = hand.holder;
        at = set_else views id hand.id w apart ∙ hand.at;
        turn = hand.turn;
        list_is = hand.list_is;
        slot = hand.slot;
      })
      value

  -- the same if a pass is added that has no turn
  pub value_more : (served : ℕ) (list : List Entry) (slots : Slots W) (views : List (View W)) (w : View W) → NoTurn w
      → Value entries fixed base served list slots views → Value entries fixed base served list slots (views ++ w ∷ [])
  value_more served list slots views w free value = ⊎_elim
      (λ (home : AtHome entries fixed base list slots views). inl record {
        value = home.value;
        slot = home.slot;
        list_is = home.list_is;
        fixed_is = home.fixed_is;
        no_turn = each_more NoTurn views w free home.no_turn;
      })
      (λ (hand : InHand served list slots views). inr record {
        id = hand.id;
        holder = hand.holder;
        at = at_longer views (w ∷ []) hand.id hand.holder hand.at;
        turn = hand.turn;
        list_is = hand.list_is;
        slot = hand.slot;
      })
      value
