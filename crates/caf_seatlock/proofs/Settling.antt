-- Seeing the whole list of the moment keeps the rule.
use Rattle.std.proofs.Common.{◌≡◌, ℕ, List, [], set, get_or, refl, ap, ◌∙◌, arith}
use mathlib.Core.Option.{none}
use Rattle.atomic_table.specs.Table.{step, keeps, Allows}
use Rattle.caf_journal.specs.declared.entry.Entry.{Entry}
use Rattle.caf_seatlock.specs.declared.view.Standing.TheVariants.{Away}
use Rattle.caf_seatlock.specs.declared.view.View.{View}
use Rattle.caf_seatlock.specs.Line.{seats}
use Rattle.caf_seatlock.specs.Rule.{Knows, Kept}
use Rattle.caf_seatlock.specs.Told.{Own, settled, united}
use Rattle.caf_seatlock.proofs.Sums.{at_most_sum}
use Rattle.caf_seatlock.proofs.Elements.{each_set}
use Rattle.caf_seatlock.proofs.Fronts.{begins_same, begins_empty}
use Rattle.caf_seatlock.proofs.Standings.{away_no_turn}
use Rattle.caf_seatlock.proofs.Lines.{line_set}
use Rattle.caf_seatlock.proofs.Values.{value_set}

module _ {W F : Type 0} (entries : W → List Entry) (fixed : W → F) (base : F) (all : ℕ) where
  -- a pass that is not in the line may see the list of the moment, which begins with what it has seen and with what the other had
  settles : (slots id : ℕ) (own : Own W) → own.0.standing ≡ Away → Allows (Kept entries fixed base all) slots id own 0 (λ n. n) (settled (step slots 0 0 0 none) own)
  settles slots id own away lock kept _ at _ =
      let w : View W = record own.0 { seen = kept.list; joined = [] } in let mine = kept.known id own.0 at in (
        w,
        keeps,
        tt,
        record {
          drawn = kept.drawn;
          served = kept.served;
          list = kept.list;
          words = ap (λ (ws : List ℕ). set ws 0 (get_or ws 0 0)) kept.words;
          few = kept.few;
          line = line_set all all kept.drawn kept.served lock.views id own.0 w kept.line at refl (λ ticket has. has) (kept.line.first id own.0 at) (kept.line.seated id own.0 at) refl;
          known = each_set (Knows entries fixed base kept.list) lock.views id w record { seen = begins_same kept.list; joined = begins_empty kept.list; first = mine.first } kept.known;
          value = value_set entries fixed base kept.served kept.list lock.homes lock.views id own.0 w at (away_no_turn own.0.standing away) (away_no_turn own.0.standing away) kept.value;
        },
        record {
          list = kept.list;
          seen = mine.seen;
          joined = mine.joined;
          knows = refl;
          hand = refl;
          few = let most = at_most_sum seats lock.views id own.0 at in let share = kept.line.shared in let few = kept.few in omega arith;
        },
      )

  -- the same, of a pass that has just taken in another
  pub settles_after : (slots id : ℕ) (before own : Own W) (other : View W) → own ≡ (united before.0 other, before.1) → before.0.standing ≡ Away
      → Allows (Kept entries fixed base all) slots id own 0 (λ n. n) (settled (step slots 0 0 0 none) own)
  settles_after slots id before own other is away = settles slots id own (ap (λ (o : Own W). o.0.standing) is ∙ away)
