-- How the rule begins, and what it gives at the end.
use Rattle.std.proofs.Common.{◌≡◌, ◌≢◌, ℕ, ◌^◌, ◌<◌, List, [], ◌∷◌, refl, sym, ap, ◌∙◌, subst, ⊎_elim, inl, Option, Some}
use mathlib.Core.Option.{some, some-injective}
use mathlib.Core.List.{IsPrefix}
use lib.ListN.{get_elem?}
use Rattle.atomic_table.specs.Table.{opening, Final, Seen}
use Rattle.caf_journal.specs.declared.entry.Entry.{Entry}
use Rattle.caf_seatlock.specs.declared.view.Standing.TheVariants.{Away}
use Rattle.caf_seatlock.specs.declared.view.View.{View}
use Rattle.caf_seatlock.specs.Line.{HasTurn}
use Rattle.caf_seatlock.specs.Rule.{NoTurn, Knows, InHand, AtHome, Kept, view}
use Rattle.caf_seatlock.proofs.Elements.{each_alone}
use Rattle.caf_seatlock.proofs.Fronts.{begins_same, begins_empty}
use Rattle.caf_seatlock.proofs.Standings.{turn_has_ticket, away_no_turn}
use Rattle.caf_seatlock.proofs.Lines.{line_alone, line_begins}
use Rattle.caf_seatlock.proofs.Values.{same_view}

module _ {W F : Type 0} (entries : W → List Entry) (fixed : W → F) where
  -- the rule is true of a lock with its value in the slot and one pass, which has all seats
  pub opens : (value : W) (all : ℕ) → all < 2 ^ 32 → Kept entries fixed (fixed value) all (opening (0 ∷ 0 ∷ []) (Some value ∷ []) (view Away all (entries value) [] (Some value)))
  opens value all few = let v : View W = view Away all (entries value) [] (Some value) in record {
    drawn = 0;
    served = 0;
    list = entries value;
    words = refl;
    few = few;
    line = line_begins v refl;
    known = each_alone (Knows entries fixed (fixed value) (entries value)) v record {
      seen = begins_same (entries value);
      joined = begins_empty (entries value);
      first = λ other is. let same : value ≡ other = cc in ap fixed (sym same);
    };
    value = inl record { value = value; slot = refl; list_is = refl; fixed_is = refl; no_turn = each_alone NoTurn v (λ ticket turn. turn) };
  }

  module _ (base : F) (all : ℕ) where
    -- what a lock's slot has at the end
    pub record Left (v : View W) (found : Option W) : Type 0 where
      pub value : W
      pub is : found ≡ Some value
      pub longer : IsPrefix v.seen (entries value)
      pub fixed_is : fixed value ≡ base

    -- where a pass that isn't in the line has all seats, the slot has the value
    pub ends : (id : ℕ) (v : View W) (words : List ℕ) (slots : List (Option W)) (found : Option W) → v.standing ≡ Away → v.seats ≡ all → Final (Seen (Kept entries fixed base all) id v) words slots
        → get_elem? slots 0 ≡ some found → Left v found
    ends id v words slots found away has_all final at_slot = let lock = final.0 in let kept : Kept entries fixed base all lock = final.1.0 in let at : get_elem? lock.views id ≡ some v = final.1.1 in ⊎_elim
        (λ (home : AtHome entries fixed base kept.list lock.homes lock.views). record {
          value = home.value;
          is = some-injective found (Some home.value) (sym at_slot ∙ final.4 0 (Some home.value) (ap (λ homes. get_elem? homes 0) home.slot));
          longer = subst (IsPrefix v.seen) (sym home.list_is) (kept.known id v at).seen;
          fixed_is = home.fixed_is;
        })
        (λ (hand : InHand kept.served kept.list lock.homes lock.views).
        let apart : hand.id ≢ id = λ same. away_no_turn v.standing away kept.served (subst (λ (z : View W). HasTurn z.standing kept.served) (same_view lock.views hand.id id hand.holder v hand.at at same) hand.turn) in
        absurd (line_alone all kept.drawn kept.served lock.views id v kept.line at has_all hand.id kept.served hand.holder apart hand.at (turn_has_ticket hand.holder.standing kept.served hand.turn)))
        kept.value
