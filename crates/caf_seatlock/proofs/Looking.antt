-- Looking which ticket is served keeps the rule, and gets the value where it is the pass's own.
use Rattle.std.proofs.Common.{◌≡◌, ◌≢◌, ℕ, ◌%◌, ◌^◌, ◌<◌, ◌≤◌, List, ◌∷◌, set, get_or, sym, refl, ap, ◌∙◌, subst, ⊎_elim, inr, arith, Option, Some}
use mathlib.Core.Option.{some, none}
use mathlib.Core.List.{IsPrefix}
use mathlib.Core.Logic.{dite}
use native.Mathlib.Decide.{ℕ_discrete}
use lib.ListN.{get_elem?}
use Rattle.atomic_table.specs.Table.{step, keeps, takes, rest, stepped, Allows}
use Rattle.atomic_table.proofs.Lists.{set_again, one_turn}
use Rattle.caf_journal.specs.declared.entry.Entry.{Entry}
use Rattle.caf_seatlock.specs.declared.view.Standing.{Standing}
use Rattle.caf_seatlock.specs.declared.view.Standing.TheVariants.{Waiting, Served}
use Rattle.caf_seatlock.specs.declared.view.View.{View}
use Rattle.caf_seatlock.specs.Line.{HasTicket, HasTurn, Line}
use Rattle.caf_seatlock.specs.Rule.{Lock, Knows, InHand, AtHome, Value, Kept}
use Rattle.caf_seatlock.specs.Told.{Own, Gets, looked}
use Rattle.caf_seatlock.proofs.Elements.{each_set, new_at}
use Rattle.caf_seatlock.proofs.Fronts.{begins_same}
use Rattle.caf_seatlock.proofs.Standings.{one_ticket, same_ticket, waiting_no_turn}
use Rattle.caf_seatlock.proofs.Lines.{line_set, line_short}
use Rattle.caf_seatlock.proofs.Values.{is_holder}

module _ {W F : Type 0} (entries : W → List Entry) (fixed : W → F) (base : F) (all : ℕ) where
  abbrev Rule : Lock W → Type 0
  Rule = Kept entries fixed base all

  -- a ticket that shows the word with those served is the first of the line
  is_first : (lock : Lock W) (kept : Rule lock) (id ticket : ℕ) (v : View W) → get_elem? lock.views id ≡ some v → HasTicket v.standing ticket → get_or lock.words 1 0 ≡ ticket % 2 ^ 64 → kept.served ≡ ticket
  is_first lock kept id ticket v at has shows =
      let range = kept.line.ranged id v at ticket has in let below : ticket < kept.drawn = range.1 in
      let short = line_short all kept.drawn kept.served lock.views kept.line in let few = kept.few in
      one_turn kept.served ticket (2 ^ 64) range.0 (omega arith) (sym (ap (λ (ws : List ℕ). get_or ws 1 0) kept.words) ∙ shows)

  -- a look that finds another's ticket changes nothing
  unmoved : (lock : Lock W) (id : ℕ) (own : Own W) → get_elem? lock.views id ≡ some own.0 → Rule lock → Rule (stepped lock 1 (get_or lock.words 1 0) id own.1 own.0 keeps)
  unmoved lock id own at kept = let same = set_again lock.views id own.0 at in record {
    drawn = kept.drawn;
    served = kept.served;
    list = kept.list;
    words = ap (λ (ws : List ℕ). set ws 1 (get_or ws 1 0)) kept.words;
    few = kept.few;
    line = subst (Line all kept.drawn kept.served) (sym same) kept.line;
    known = each_set (Knows entries fixed base kept.list) lock.views id own.0 (kept.known id own.0 at) kept.known;
    value = subst (Value entries fixed base kept.served kept.list lock.homes) (sym same) kept.value;
  }

  -- what a pass that waits with this ticket is told of a look
  abbrev Told : Own W → ℕ → ℕ → Own W → Type 0
  Told own found ticket after = (found ≡ ticket % 2 ^ 64 → Gets entries fixed own ticket after) × (found ≢ ticket % 2 ^ 64 → after ≡ own)

  -- it has no other ticket
  for_each : (own : Own W) (ticket : ℕ) → own.0.standing ≡ Waiting ticket → (found : ℕ) (after : Own W) → Told own found ticket after → looked entries fixed (step 1 1 0 0 none) own found after
  for_each own ticket waits found after told other waits' =
      let has : (number : ℕ) → own.0.standing ≡ Waiting number → HasTicket own.0.standing number = λ number is. subst (λ (z : Standing). HasTicket z number) (sym is) refl in
      subst (λ number. Told own found number after) (same_ticket own.0.standing ticket other (has ticket waits) (has other waits')) told

  -- a pass that waits may look at the word with those served. Where that is its ticket, it takes the slot with the value, which nobody has
  looks : (slots id : ℕ) (own : Own W) (ticket : ℕ) → own.0.standing ≡ Waiting ticket → Allows Rule slots id own 1 (λ n. n) (looked entries fixed (step slots 1 0 0 none) own)
  looks slots id own ticket waits lock kept _ at _ =
      let has : HasTicket own.0.standing ticket = subst (λ (z : Standing). HasTicket z ticket) (sym waits) refl in let mine = kept.known id own.0 at in
      dite (ℕ_discrete (get_or lock.words 1 0) (ticket % 2 ^ 64))
      (λ hit. let first = is_first lock kept id ticket own.0 at has hit in ⊎_elim
      (λ (home : AtHome entries fixed base kept.list lock.homes lock.views).
      let w : View W = record own.0 { standing = Served ticket; seen = entries home.value } in
      let front : (l : List Entry) → IsPrefix l kept.list → IsPrefix l (entries home.value) = λ l. subst (IsPrefix l) (sym home.list_is) in (
        w,
        takes 0 (Some home.value),
        ap (λ homes. get_elem? homes 0) home.slot,
        record {
          drawn = kept.drawn;
          served = kept.served;
          list = kept.list;
          words = ap (λ (ws : List ℕ). set ws 1 (get_or ws 1 0)) kept.words;
          few = kept.few;
          line = line_set all all kept.drawn kept.served lock.views id own.0 w kept.line at (sym (one_ticket own.0.standing ticket has)) (λ number is. subst (HasTicket own.0.standing) is has)
              (λ number is. sym is ∙ sym first) (subst (λ n. n ≤ own.0.seats) (one_ticket own.0.standing ticket has) (kept.line.seated id own.0 at)) refl;
          known = each_set (Knows entries fixed base kept.list) lock.views id w record { seen = subst (λ l. IsPrefix l kept.list) (sym home.list_is) (begins_same kept.list); joined = mine.joined; first = mine.first } kept.known;
          value = inr record {
            id = id;
            holder = w;
            at = new_at lock.views id own.0 w at;
            turn = sym first;
            list_is = home.list_is;
            slot = ap (λ homes. set homes 0 none) home.slot;
          };
        },
        for_each own ticket waits (get_or lock.words 1 0) (w, (0, Some home.value) ∷ own.1) (
          (λ _. record {
            value = home.value;
            hand = refl;
            knows = refl;
            longer = front own.0.seen mine.seen;
            fixed_part = λ value is. home.fixed_is ∙ sym (mine.first value is);
          }),
          (λ miss. absurd (miss hit)),
        ),
      ))
      (λ (hand : InHand kept.served kept.list lock.homes lock.views).
      let same = is_holder all kept.drawn kept.served kept.list lock.homes lock.views id own.0 kept.line at (subst (HasTicket own.0.standing) (sym first) has) hand in
      absurd (waiting_no_turn own.0.standing ticket waits kept.served (subst (λ (z : View W). HasTurn z.standing kept.served) same hand.turn)))
      kept.value)
      (λ miss. (own.0, keeps, tt, unmoved lock id own at kept, for_each own ticket waits (get_or lock.words 1 0) own ((λ hit. absurd (miss hit)), (λ _. refl))))

  -- the same, of a pass that has looked before and found other tickets
  pub looks_again : (slots id : ℕ) (before own : Own W) (ticket : ℕ) → own ≡ before → before.0.standing ≡ Waiting ticket → Allows Rule slots id own 1 (λ n. n) (looked entries fixed (step slots 1 0 0 none) own)
  looks_again slots id before own ticket same waits = looks slots id own ticket (ap (λ (o : Own W). o.0.standing) same ∙ waits)

module _ {W F : Type 0} (entries : W → List Entry) (fixed : W → F) where
  -- a pass that got the value has the slot first in its hand
  pub has_slot : (before : Own W) (ticket : ℕ) (after : Own W) → Gets entries fixed before ticket after → (held : Option W) × (after.1 ≡ (0, held) ∷ rest after.1)
  has_slot before ticket after got = (Some got.value, got.hand ∙ ap (λ (slots : List (ℕ × Option W)). (0, Some got.value) ∷ slots) (sym (ap rest got.hand)))
