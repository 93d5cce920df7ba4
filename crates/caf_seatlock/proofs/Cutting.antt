-- Cutting a pass in two keeps the rule.
use Rattle.std.proofs.Common.{◌≡◌, ℕ, ◌+◌, ◌-◌, ◌<◌, List, ◌∷◌, [], ◌++◌, set, refl, ap, subst, arith}
use Rattle.atomic_table.specs.Table.{Splits}
use Rattle.caf_journal.specs.declared.entry.Entry.{Entry}
use Rattle.caf_seatlock.specs.declared.view.Standing.TheVariants.{Away}
use Rattle.caf_seatlock.specs.declared.view.View.{View}
use Rattle.caf_seatlock.specs.Line.{tickets_of, tickets, seats, Line}
use Rattle.caf_seatlock.specs.Rule.{Knows, Kept}
use Rattle.caf_seatlock.specs.Told.{kept_half, new_half}
use Rattle.caf_seatlock.proofs.Sums.{at_most_sum}
use Rattle.caf_seatlock.proofs.Elements.{each_set, each_more}
use Rattle.caf_seatlock.proofs.Fronts.{begins_empty}
use Rattle.caf_seatlock.proofs.Standings.{away_no_turn}
use Rattle.caf_seatlock.proofs.Lines.{line_set, line_more}
use Rattle.caf_seatlock.proofs.Values.{value_set, value_more}

module _ {W F : Type 0} (entries : W → List Entry) (fixed : W → F) (base : F) (all : ℕ) where
  -- a pass with two seats or more that is not in the line may give one to a new pass
  pub splits : (id : ℕ) (v : View W) → v.standing ≡ Away → 1 < v.seats → Splits (Kept entries fixed base all) id v (kept_half v) (new_half v)
  splits id v away two lock kept at =
      let mine = kept.known id v at in let none : tickets v ≡ 0 = ap tickets_of away in
      let most = at_most_sum seats lock.views id v at in let share = kept.line.shared in
      let views = set lock.views id (kept_half v) in
      let less = line_set all (all - 1) kept.drawn kept.served lock.views id v (kept_half v) kept.line at refl (λ ticket has. has) (kept.line.first id v at) (omega arith) (omega arith) in
      let back : all - 1 + 1 ≡ all = omega arith in
      let free = away_no_turn v.standing away in
      record {
        drawn = kept.drawn;
        served = kept.served;
        list = kept.list;
        words = kept.words;
        few = kept.few;
        line = subst (λ n. Line n kept.drawn kept.served (views ++ new_half v ∷ [])) back (line_more (all - 1) kept.drawn kept.served views (new_half v) less refl);
        known = each_more (Knows entries fixed base kept.list) views (new_half v) record { seen = mine.seen; joined = begins_empty kept.list; first = mine.first }
            (each_set (Knows entries fixed base kept.list) lock.views id (kept_half v) record { seen = mine.seen; joined = mine.joined; first = mine.first } kept.known);
        value = value_more entries fixed base kept.served kept.list lock.homes views (new_half v) (λ ticket turn. turn)
            (value_set entries fixed base kept.served kept.list lock.homes lock.views id v (kept_half v) at free free kept.value);
      }
