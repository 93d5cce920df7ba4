-- Giving the value back and serving the next ticket keeps the rule: the list that is given back begins with the one at the taking.
use Rattle.std.proofs.Common.{◌≡◌, ℕ, ◌+◌, ◌%◌, ◌^◌, List, ◌∷◌, [], set, get_or, sym, refl, ap, ◌∙◌, subst, ⊎_elim, inl, Option, Some, None}
use mathlib.Core.Option.{some, none}
use mathlib.Core.List.{IsPrefix}
use Rattle.atomic_table.specs.Table.{step, gives, put_back, rest, Allows}
use Rattle.caf_journal.specs.declared.entry.Entry.{Entry}
use Rattle.caf_seatlock.specs.declared.view.Standing.{Standing}
use Rattle.caf_seatlock.specs.declared.view.Standing.TheVariants.{Away, Served}
use Rattle.caf_seatlock.specs.declared.view.View.{View}
use Rattle.caf_seatlock.specs.Line.{HasTicket, HasTurn}
use Rattle.caf_seatlock.specs.Rule.{NoTurn, Knows, InHand, AtHome, Kept}
use Rattle.caf_seatlock.specs.Told.{Own, list_held, passed_on}
use Rattle.caf_seatlock.proofs.Elements.{each_else}
use Rattle.caf_seatlock.proofs.Fronts.{begins_same, begins_through}
use Rattle.caf_seatlock.proofs.Standings.{turn_has_ticket}
use Rattle.caf_seatlock.proofs.Lines.{line_serves}
use Rattle.caf_seatlock.proofs.Values.{is_holder}
use Rattle.caf_seatlock.proofs.Drawing.{one_more}

module _ {W F : Type 0} (entries : W → List Entry) (fixed : W → F) (base : F) (all : ℕ) where
  -- a pass in its turn, with a value in hand whose list begins with the one taken, may put it back and serve the next
  passes_on : (slots id : ℕ) (own : Own W) (ticket : ℕ) (value : W) → own.0.standing ≡ Served ticket → own.1 ≡ (0, Some value) ∷ [] → IsPrefix own.0.seen (entries value) → fixed value ≡ base
      → Allows (Kept entries fixed base all) slots id own 1 (λ n. (n + 1) % 2 ^ 64) (passed_on entries (step slots 1 1 0 none) own)
  passes_on slots id own ticket value serves holds longer same lock kept _ at _ =
      let turn : HasTurn own.0.standing ticket = subst (λ (z : Standing). HasTurn z ticket) (sym serves) refl in
      let first : ticket ≡ kept.served = kept.line.first id own.0 at ticket turn in
      let mine : HasTicket own.0.standing kept.served = subst (HasTicket own.0.standing) first (turn_has_ticket own.0.standing ticket turn) in
      let w : View W = record own.0 { standing = Away; seen = list_held entries own.1 } in
      let given : list_held entries own.1 ≡ entries value = ap (list_held entries) holds in
      let known = kept.known id own.0 at in ⊎_elim
      (λ (home : AtHome entries fixed base kept.list lock.homes lock.views). absurd (home.no_turn id own.0 at ticket turn))
      (λ (hand : InHand kept.served kept.list lock.homes lock.views).
      let taken : own.0.seen ≡ kept.list = ap (λ (z : View W). z.seen) (sym (is_holder all kept.drawn kept.served kept.list lock.homes lock.views id own.0 kept.line at mine hand)) ∙ hand.list_is in
      let on : (l : List Entry) → IsPrefix l kept.list → IsPrefix l (entries value) = λ l front. begins_through l kept.list (entries value) front (subst (λ m. IsPrefix m (entries value)) taken longer) in (
        w,
        gives,
        tt,
        record {
          drawn = kept.drawn;
          served = kept.served + 1;
          list = entries value;
          words = ap (λ (ws : List ℕ). set ws 1 ((get_or ws 1 0 + 1) % 2 ^ 64)) kept.words ∙ ap (λ (n : ℕ). (kept.drawn % 2 ^ 64) ∷ n ∷ []) (one_more kept.served);
          few = kept.few;
          line = line_serves all kept.drawn kept.served lock.views id own.0 w kept.line at mine refl refl;
          known = each_else (Knows entries fixed base (entries value)) lock.views id w
              record { seen = subst (λ l. IsPrefix l (entries value)) (sym given) (begins_same (entries value)); joined = on own.0.joined known.joined; first = known.first }
              (λ j u apart at'. let theirs = kept.known j u at' in record { seen = on u.seen theirs.seen; joined = on u.joined theirs.joined; first = theirs.first });
          value = inl record {
            value = value;
            slot = ap (put_back lock.homes) holds ∙ ap (λ homes. set homes 0 (some (Some value))) hand.slot;
            list_is = refl;
            fixed_is = same;
            no_turn = each_else NoTurn lock.views id w (λ number turn'. turn') (λ j u apart at' number turn'.
                let is : number ≡ kept.served = kept.line.first j u at' number turn' in
                apart (kept.line.apart j id kept.served u own.0 at' at (subst (HasTicket u.standing) is (turn_has_ticket u.standing number turn')) mine));
          };
        },
        (refl, refl),
      ))
      kept.value

  -- the same, by what the pass had before it put the value into the empty slot in its hand
  pub passes_back : (slots id : ℕ) (before own : Own W) (ticket : ℕ) (value : W) → own ≡ (before.0, (0, Some value) ∷ rest before.1) → before.0.standing ≡ Served ticket → before.1 ≡ (0, None) ∷ []
      → IsPrefix before.0.seen (entries value) → fixed value ≡ base → Allows (Kept entries fixed base all) slots id own 1 (λ n. (n + 1) % 2 ^ 64) (passed_on entries (step slots 1 1 0 none) own)
  passes_back slots id before own ticket value put serves empty longer same = passes_on slots id own ticket value
      (ap (λ (o : Own W). o.0.standing) put ∙ serves)
      (ap (λ (o : Own W). o.1) put ∙ ap (λ (held : List (ℕ × Option W)). (0, Some value) ∷ rest held) empty)
      (subst (λ list. IsPrefix list (entries value)) (sym (ap (λ (o : Own W). o.0.seen) put)) longer)
      same
