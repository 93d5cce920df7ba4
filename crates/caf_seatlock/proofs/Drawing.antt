-- Drawing a ticket keeps the rule.
use Rattle.std.proofs.Common.{◌≡◌, ℕ, ◌+◌, ◌%◌, ◌^◌, ◌<◌, List, ◌∷◌, [], set, get_or, refl, ap, ◌∙◌, arith}
use mathlib.Core.Option.{none}
use Rattle.atomic_table.specs.Table.{step, keeps, Allows}
use Rattle.caf_journal.specs.declared.entry.Entry.{Entry}
use Rattle.caf_seatlock.specs.declared.view.Standing.TheVariants.{Away, Waiting}
use Rattle.caf_seatlock.specs.declared.view.View.{View}
use Rattle.caf_seatlock.specs.Rule.{Knows, Kept}
use Rattle.caf_seatlock.specs.Told.{Own, drew}
use Rattle.caf_seatlock.proofs.Elements.{each_set}
use Rattle.caf_seatlock.proofs.Standings.{away_no_turn}
use Rattle.caf_seatlock.proofs.Lines.{line_draws}
use Rattle.caf_seatlock.proofs.Values.{value_set}

-- a word that counts modulo 2^64 goes on counting
pub one_more : (n : ℕ) → (n % 2 ^ 64 + 1) % 2 ^ 64 ≡ (n + 1) % 2 ^ 64
one_more n = omega arith

module _ {W F : Type 0} (entries : W → List Entry) (fixed : W → F) (base : F) (all : ℕ) where
  -- a pass with a seat that is not in the line may draw the next ticket, and is told it.
  pub draws : (slots id : ℕ) (own : Own W) → own.0.standing ≡ Away → 0 < own.0.seats
      → Allows (Kept entries fixed base all) slots id own 0 (λ n. (n + 1) % 2 ^ 64) (drew (step slots 0 1 0 none) own)
  draws slots id own away some_seat lock kept _ at _ =
      let w : View W = record own.0 { standing = Waiting kept.drawn } in let mine = kept.known id own.0 at in (
        w,
        keeps,
        tt,
        record {
          drawn = kept.drawn + 1;
          served = kept.served;
          list = kept.list;
          words = ap (λ (ws : List ℕ). set ws 0 ((get_or ws 0 0 + 1) % 2 ^ 64)) kept.words ∙ ap (λ (n : ℕ). n ∷ (kept.served % 2 ^ 64) ∷ []) (one_more kept.drawn);
          few = kept.few;
          line = line_draws all kept.drawn kept.served lock.views id own.0 w kept.line at away some_seat refl refl;
          known = each_set (Knows entries fixed base kept.list) lock.views id w record { seen = mine.seen; joined = mine.joined; first = mine.first } kept.known;
          value = value_set entries fixed base kept.served kept.list lock.homes lock.views id own.0 w at (away_no_turn own.0.standing away) (λ ticket turn. turn) kept.value;
        },
        (refl, (kept.drawn, ap (λ (ws : List ℕ). get_or ws 0 0) kept.words, refl)),
      )
