-- Taking a pass in keeps the rule.
use Rattle.std.proofs.Common.{◌≡◌, ℕ, ◌+◌, List, set, refl, sym, ap, ◌∙◌, arith}
use Rattle.atomic_table.specs.Table.{Joins}
use Rattle.atomic_table.proofs.Lists.{set_else}
use Rattle.caf_journal.specs.declared.entry.Entry.{Entry}
use Rattle.caf_seatlock.specs.declared.view.Standing.TheVariants.{Away}
use Rattle.caf_seatlock.specs.declared.view.View.{View}
use Rattle.caf_seatlock.specs.Line.{tickets_of, tickets}
use Rattle.caf_seatlock.specs.Rule.{Knows, Kept}
use Rattle.caf_seatlock.specs.Told.{united, spent}
use Rattle.caf_seatlock.proofs.Elements.{each_set}
use Rattle.caf_seatlock.proofs.Fronts.{begins_empty}
use Rattle.caf_seatlock.proofs.Standings.{away_no_turn}
use Rattle.caf_seatlock.proofs.Lines.{line_set}
use Rattle.caf_seatlock.proofs.Values.{value_set}

module _ {W F : Type 0} (entries : W → List Entry) (fixed : W → F) (base : F) (all : ℕ) where
  -- a pass may take in another, if neither is in the line
  pub joins : (id : ℕ) (v : View W) (other : ℕ) (w : View W) → v.standing ≡ Away → w.standing ≡ Away → Joins (Kept entries fixed base all) id v other w (united v w) spent
  joins id v other w away away' lock kept at apart at' =
      let both = united v w in let views = set lock.views id both in
      let mine = kept.known id v at in let theirs = kept.known other w (sym (set_else lock.views id other both apart) ∙ at') in
      let none : tickets v ≡ 0 = ap tickets_of away in let none' : tickets w ≡ 0 = ap tickets_of away' in
      let more = line_set all (all + w.seats) kept.drawn kept.served lock.views id v both kept.line at refl (λ ticket has. has) (kept.line.first id v at) (omega arith) (omega arith) in
      record {
        drawn = kept.drawn;
        served = kept.served;
        list = kept.list;
        words = kept.words;
        few = kept.few;
        line = line_set (all + w.seats) all kept.drawn kept.served views other w spent more at' (sym none') (λ ticket has. absurd has) (λ ticket turn. absurd turn) (omega arith) (omega arith);
        known = each_set (Knows entries fixed base kept.list) views other spent record { seen = begins_empty kept.list; joined = begins_empty kept.list; first = λ value is. absurd cc }
            (each_set (Knows entries fixed base kept.list) lock.views id both record { seen = mine.seen; joined = theirs.seen; first = mine.first } kept.known);
        value = value_set entries fixed base kept.served kept.list lock.homes views other w spent at' (away_no_turn w.standing away') (λ ticket turn. turn)
            (value_set entries fixed base kept.served kept.list lock.homes lock.views id v both at (away_no_turn v.standing away) (away_no_turn v.standing away) kept.value);
      }
