-- The instructions of the reads of an expression.
use Rattle.std.proofs.Common.{◌≡◌, ℕ, zero, suc, ◌+◌, true, List, [], ◌∷◌, ◌++◌, length, map, Option, Some, refl, sym, ◌∙◌, subst, arith, append_assoc, length-append}
use Rattle.std.specs.Prelude.{◌&&◌, slice_get}
use Rattle.caf_base.specs.declared.arithmetic.BinaryOperator.{BinaryOperator}
use Rattle.caf_program.specs.Kinds.{Scope, chain_kind, coarray_kind, copointer_kind, has_kind, is_integer, kind_layer, kind_of, names_team, object_kind, operand_kind, provided, result_kind, unary_kind}
use Rattle.caf_program.specs.Value.{Meaning, Read, chain_reads as chain_asked, count, layer, meaning, operands, reads_at, value_at}
use Rattle.caf_program.specs.declared.expr.ExprR.{ExprR}
use Rattle.caf_program.specs.declared.expr.ExprR.TheOpen.{ExprR-F}
use Rattle.caf_program.specs.declared.expr.ExprR.TheFolds.{ind-ExprR, fold-roll-ExprR, map-ExprR}
use Rattle.caf_program.specs.declared.expr.ExprR.TheViews.{roll-ExprR}
use Rattle.caf_program.specs.declared.expr.TeamR.{TeamR}
use Rattle.caf_program.specs.declared.expr.TeamR.TheVariants as team
use Rattle.caf_program.specs.declared.program.ValueKind.{ValueKind}
use Rattle.caf_program.specs.declared.program.ValueKind.TheVariants.{Integer}
use Rattle.caf_code.specs.Shapes.{Part, Shape, next_shape}
use Rattle.caf_code.specs.declared.instr.ElementForm.TheVariants as element
use Rattle.caf_code.specs.declared.instr.Instr.{Instr}
use Rattle.caf_code.specs.declared.instr.Instr.TheVariants as instr
use Rattle.caf_code.specs.declared.listing.Listing.{Listing}
use Rattle.caf_exprgen.specs.Asks.{AllAsk, ReadsKeep, StraightRead, StraightReads, with_value}
use Rattle.caf_exprgen.specs.ExprCode.{Coded, chain_reads, code_layer, coded, coded_counts, coded_operands, expr_code, reads_code, team_place}
use Rattle.caf_exprgen.specs.Straight.{Serves, with_operand}
use Rattle.caf_exprgen.proofs.Gives.{coded_count, expr_leaves}
use Rattle.caf_exprgen.proofs.Puts.{first_has_kind, has_some, puts_one, straight_append}
use Rattle.caf_exprgen.proofs.Slots.{both_true, coarray_data, copointer_named, first_true, place_named, provided_kind, provided_test, second_true}
use Rattle.caf_exprgen.proofs.Within.{all_of_within, within, within_append}

ask_append : (rs qs : List Read) (xs ys : List (List Instr)) → AllAsk rs xs → AllAsk qs ys → AllAsk (rs ++ qs) (xs ++ ys)
ask_append [] qs [] ys a b = b
ask_append [] qs (x ∷ xs) ys a b = absurd a
ask_append (r ∷ rs) qs [] ys a b = absurd a
ask_append (r ∷ rs) qs (x ∷ xs) ys a b = (a.0, ask_append rs qs xs ys a.1 b)

-- each read of an expression has its instructions
record HasReads (x : Meaning) (c : Coded) : Type 0 where
  by : (k : ℕ) → AllAsk (x.reads k) (c.reads k)

abbrev AskKid : Type 0
AskKid = (e : ExprR) × HasReads (meaning e) (coded e)

abbrev ask_kids : List (BinaryOperator × AskKid) → List (BinaryOperator × ExprR)
ask_kids = map (λ p. (p.0, p.1.0))

rest_asks : (rest : List (BinaryOperator × AskKid)) (k : ℕ) → AllAsk (chain_asked (operands (ask_kids rest)) k) (chain_reads (coded_operands (ask_kids rest)) k)
rest_asks [] k = tt
rest_asks (p ∷ rest) k =
    let next = k + count p.1.0 in
    let asked = chain_asked (operands (ask_kids rest)) next in
    ask_append (reads_at p.1.0 k) asked (reads_code p.1.0 k) (chain_reads (coded_operands (ask_kids rest)) (k + (coded p.1.0).count)) (p.1.1.by k)
    (subst (λ n. AllAsk asked (chain_reads (coded_operands (ask_kids rest)) (k + n))) (sym (coded_count p.1.0)) (rest_asks rest next))

asks_layer : (y : ExprR-F AskKid) → HasReads (layer (map-ExprR ExprR Meaning meaning (map-ExprR AskKid ExprR (λ e. e.0) y))) (code_layer (map-ExprR ExprR Coded coded (map-ExprR AskKid ExprR (λ e. e.0) y)))
asks_layer (ExprR-F.Element o i) = record { by = i.1.by }
asks_layer (ExprR-F.Coindexed o i p) = record {
  by = λ k.
      let e = i.0 in
      let r = p.rank.0 in
      let next = k + count e in
      let last : Read = Read.Coindexed o p.team (value_at e k) (value_at r next) in
      let asked : ℕ → List Instr = λ n. expr_code e k ++ (expr_code r (k + n) ++ (instr.Ask (element.Coindexed o (team_place p.team)) ∷ [])) in
      let own : AllAsk (last ∷ []) (asked (count e) ∷ []) = (record { first = expr_code e k; second = expr_code r next; are = refl; leaves = expr_leaves e k; then_leaves = expr_leaves r next; within = within e k }, tt) in
      let whole : ℕ → List (List Instr) = λ n. reads_code e k ++ (reads_code r (k + n) ++ (asked n ∷ [])) in
      subst (λ l. AllAsk l (whole (coded e).count)) (sym (append_assoc (reads_at e k) (reads_at r next) (last ∷ [])))
      (subst (λ n. AllAsk (reads_at e k ++ (reads_at r next ++ (last ∷ []))) (whole n)) (sym (coded_count e))
      (ask_append (reads_at e k) (reads_at r next ++ (last ∷ [])) (reads_code e k) (reads_code r next ++ (asked (count e) ∷ [])) (i.1.by k)
      (ask_append (reads_at r next) (last ∷ []) (reads_code r next) (asked (count e) ∷ []) (p.rank.1.by next) own)));
}
asks_layer (ExprR-F.Pointed c i) = record {
  by = λ k.
      let e = i.0 in
      let last : Read = Read.Pointed c (value_at e k) in
      let asked = expr_code e k ++ (instr.Ask (element.Pointed c) ∷ []) in
      let own : AllAsk (last ∷ []) (asked ∷ []) = (record { first = expr_code e k; are = refl; leaves = expr_leaves e k; within = within e k }, tt) in
      ask_append (reads_at e k) (last ∷ []) (reads_code e k) (asked ∷ []) (i.1.by k) own;
}
asks_layer (ExprR-F.Unary w a) = record { by = a.1.by }
asks_layer (ExprR-F.Chain a rest) = record {
  by = λ k.
      let next = k + count a.0 in
      let asked = chain_asked (operands (ask_kids rest)) next in
      ask_append (reads_at a.0 k) asked (reads_code a.0 k) (chain_reads (coded_operands (ask_kids rest)) (k + (coded a.0).count)) (a.1.by k)
      (subst (λ n. AllAsk asked (chain_reads (coded_operands (ask_kids rest)) (k + n))) (sym (coded_count a.0)) (rest_asks rest next));
}
asks_layer _ = record { by = λ k. tt }

has_reads : (e : ExprR) → HasReads (meaning e) (coded e)
has_reads = ind-ExprR (λ e. HasReads (meaning e) (coded e)) (λ x y is.
    let P : ExprR-F ExprR → Type 0 = λ z. HasReads (meaning (roll-ExprR z)) (coded (roll-ExprR z)) in
    let z : ExprR-F ExprR = map-ExprR AskKid ExprR (λ e. e.0) y in
    let M : Meaning → Type 0 = λ v. HasReads v (coded (roll-ExprR z)) in
    let C : Coded → Type 0 = λ c. HasReads (layer (map-ExprR ExprR Meaning meaning z)) c in
    subst P is (subst M (sym (fold-roll-ExprR Meaning layer z)) (subst C (sym (fold-roll-ExprR Coded code_layer z)) (asks_layer y))))

pub expr_asks : (e : ExprR) (k : ℕ) → AllAsk (reads_at e k) (reads_code e k)
expr_asks e = (has_reads e).by

-- there are as many reads as values that are held
record HasCount (c : Coded) : Type 0 where
  by : (k : ℕ) → length (c.reads k) ≡ c.count

abbrev CountKid : Type 0
CountKid = (e : ExprR) × HasCount (coded e)

abbrev count_kids : List (BinaryOperator × CountKid) → List (BinaryOperator × ExprR)
count_kids = map (λ p. (p.0, p.1.0))

rest_counted : (rest : List (BinaryOperator × CountKid)) (k : ℕ) → length (chain_reads (coded_operands (count_kids rest)) k) ≡ coded_counts (coded_operands (count_kids rest))
rest_counted [] k = refl
rest_counted (p ∷ rest) k =
    let next = k + (coded p.1.0).count in
    omega (arith, length-append (reads_code p.1.0 k) (chain_reads (coded_operands (count_kids rest)) next), p.1.1.by k, rest_counted rest next)

count_layer : (y : ExprR-F CountKid) → HasCount (code_layer (map-ExprR ExprR Coded coded (map-ExprR CountKid ExprR (λ e. e.0) y)))
count_layer (ExprR-F.Element o i) = record { by = i.1.by }
count_layer (ExprR-F.Coindexed o i p) = record {
  by = λ k.
      let next = k + (coded i.0).count in
      let own : List (List Instr) = (expr_code i.0 k ++ (expr_code p.rank.0 next ++ (instr.Ask (element.Coindexed o (team_place p.team)) ∷ []))) ∷ [] in
      omega (arith, length-append (reads_code i.0 k) (reads_code p.rank.0 next ++ own), length-append (reads_code p.rank.0 next) own, i.1.by k, p.rank.1.by next);
}
count_layer (ExprR-F.Pointed c i) = record {
  by = λ k.
      let own : List (List Instr) = (expr_code i.0 k ++ (instr.Ask (element.Pointed c) ∷ [])) ∷ [] in
      omega (arith, length-append (reads_code i.0 k) own, i.1.by k);
}
count_layer (ExprR-F.Unary w a) = record { by = a.1.by }
count_layer (ExprR-F.Chain a rest) = record {
  by = λ k.
      let next = k + (coded a.0).count in
      omega (arith, length-append (reads_code a.0 k) (chain_reads (coded_operands (count_kids rest)) next), a.1.by k, rest_counted rest next);
}
count_layer _ = record { by = λ k. refl }

has_count : (e : ExprR) → HasCount (coded e)
has_count = ind-ExprR (λ e. HasCount (coded e)) (λ x y is.
    let P : ExprR-F ExprR → Type 0 = λ z. HasCount (coded (roll-ExprR z)) in
    let z : ExprR-F ExprR = map-ExprR CountKid ExprR (λ e. e.0) y in
    subst P is (subst HasCount (sym (fold-roll-ExprR Coded code_layer z)) (count_layer y)))

pub expr_counted : (e : ExprR) (k : ℕ) → length (reads_code e k) ≡ count e
expr_counted e k = (has_count e).by k ∙ coded_count e

-- the shape with so many held values more
abbrev with_values : ℕ → Shape → Shape
with_values zero h = h
with_values (suc n) h = with_values n (with_value h)

values_held : (n : ℕ) (h : Shape) → (with_values n h).held ≡ h.held + n
values_held zero h = omega arith
values_held (suc n) h = omega (arith, values_held n (with_value h))

ask_shape : (code : Listing) (p : Part) (o : ℕ) (t : TeamR) (h : Shape) → next_shape code p (instr.Ask (element.Coindexed o (team_place t))) (with_operand (with_operand h)) ≡ Some (with_value h)
ask_shape code p o team.World h = refl
ask_shape code p o (team.Object x) h = refl

module _ (code : Listing) (p : Part) (s : Scope) (serves : Serves code p s) where
  reads_append : (xs ys : List (List Instr)) (h : Shape) → StraightReads code p xs h → StraightReads code p ys (with_values (length xs) h) → StraightReads code p (xs ++ ys) h
  reads_append [] ys h a b = b
  reads_append (x ∷ xs) ys h a b = (a.0, reads_append xs ys (with_value h) a.1 b)

  record Keeps (kind : Option ValueKind) (c : Coded) : Type 0 where
    by : (k : ValueKind) → kind ≡ Some k → (at : ℕ) (h : Shape) → h.held ≡ at → StraightReads code p (c.reads at) h

  abbrev Kid : Type 0
  Kid = (e : ExprR) × Keeps (kind_of s e) (coded e)

  abbrev kids : List (BinaryOperator × Kid) → List (BinaryOperator × ExprR)
  kids = map (λ x. (x.0, x.1.0))

  abbrev kinds : List (BinaryOperator × Kid) → List (BinaryOperator × Option ValueKind)
  kinds rest = map (λ x. (x.0, kind_of s x.1)) (kids rest)

  -- as many values are held behind the reads of an expression as it holds more
  held_behind : (e : ExprR) (at : ℕ) (h : Shape) → h.held ≡ at → (with_values (length (reads_code e at)) h).held ≡ at + (coded e).count
  held_behind e at h is = omega (arith, values_held (length (reads_code e at)) h, (has_count e).by at, is)

  rest_keeps : (rest : List (BinaryOperator × Kid)) (o : Option ValueKind) (k : ValueKind) → chain_kind o (kinds rest) ≡ Some k → (at : ℕ) (h : Shape) → h.held ≡ at → StraightReads code p (chain_reads (coded_operands (kids rest)) at) h
  rest_keeps [] o k e at h is = tt
  rest_keeps (x ∷ rest) o k e at h is =
      let w = x.0 in
      let kind = kind_of s x.1.0 in
      let test = has_kind (operand_kind w) o && has_kind (operand_kind w) kind in
      let next = provided test (Some (result_kind w)) in
      let more = first_has_kind next (kinds rest) k e in
      let second = has_some (operand_kind w) kind (second_true (has_kind (operand_kind w) o) (has_kind (operand_kind w) kind) (provided_test test (Some (result_kind w)) more.0 more.1)) in
      reads_append (reads_code x.1.0 at) (chain_reads (coded_operands (kids rest)) (at + (coded x.1.0).count)) h (x.1.1.by second.0 second.1 at h is)
      (rest_keeps rest next k e (at + (coded x.1.0).count) (with_values (length (reads_code x.1.0 at)) h) (held_behind x.1.0 at h is))

  -- the read itself, where the values that its subscript and rank use are held
  own_at : (o : ℕ) (t : TeamR) (e r : ExprR) (at : ℕ) (h : Shape) (k : ValueKind) → h.held ≡ at + (coded e).count + (coded r).count
      → (a b : ValueKind) → kind_of s e ≡ Some a → kind_of s r ≡ Some b → names_team s t ≡ true → coarray_kind (slice_get s.objects o) ≡ Some k
      → StraightRead code p (expr_code e at ++ (expr_code r (at + (coded e).count) ++ (instr.Ask (element.Coindexed o (team_place t)) ∷ []))) h
  own_at o t e r at h k held a b first second team shared =
      let next = at + (coded e).count in
      let I = expr_code e at in
      let R = expr_code r next in
      let one = with_operand h in
      let ask = instr.Ask (element.Coindexed o (team_place t)) in
      record {
        numbers = I ++ R;
        element = element.Coindexed o (team_place t);
        top = with_operand one;
        are = sym (append_assoc I R (ask ∷ []));
        within = within_append I R (within e at) (all_of_within R (within r next));
        straight = straight_append code p I R h one (with_operand one) (puts_one e at code p s a h serves first (omega (arith, held, coded_count e))) (puts_one r next code p s b one serves second (omega (arith, held, coded_count r)));
        operands = both_true _ _ (coarray_data code p s o k serves shared) (place_named code p s t serves team);
        leads = ask_shape code p o t h;
      }

  own_behind : (c : ℕ) (e : ExprR) (at : ℕ) (h : Shape) (k : ValueKind) → h.held ≡ at + (coded e).count → (a : ValueKind) → kind_of s e ≡ Some a → copointer_kind (slice_get s.objects c) ≡ Some k
      → StraightRead code p (expr_code e at ++ (instr.Ask (element.Pointed c) ∷ [])) h
  own_behind c e at h k held a first aims = record {
    numbers = expr_code e at;
    element = element.Pointed c;
    top = with_operand h;
    are = refl;
    within = within e at;
    straight = puts_one e at code p s a h serves first (omega (arith, held, coded_count e));
    operands = copointer_named code p s c k serves aims;
    leads = refl;
  }

  keeps_layer : (y : ExprR-F Kid) → Keeps (kind_layer s (map-ExprR ExprR (Option ValueKind) (kind_of s) (map-ExprR Kid ExprR (λ e. e.0) y))) (code_layer (map-ExprR ExprR Coded coded (map-ExprR Kid ExprR (λ e. e.0) y)))
  keeps_layer (ExprR-F.Element o i) = record {
    by = λ k e at h is.
        let index = has_some Integer (kind_of s i.0) (provided_test (is_integer (kind_of s i.0)) (object_kind (slice_get s.objects o)) k e) in
        i.1.by index.0 index.1 at h is;
  }
  keeps_layer (ExprR-F.Coindexed o i q) = record {
    by = λ k e at h is.
        let x = i.0 in
        let r = q.rank.0 in
        let kx = is_integer (kind_of s x) in
        let kr = is_integer (kind_of s r) in
        let named = names_team s q.team in
        let all = provided_test (kx && kr && named) (coarray_kind (slice_get s.objects o)) k e in
        let both = first_true (kx && kr) named all in
        let first = has_some Integer (kind_of s x) (first_true kx kr both) in
        let second = has_some Integer (kind_of s r) (second_true kx kr both) in
        let next = at + (coded x).count in
        let behind = with_values (length (reads_code x at)) h in
        let held = held_behind x at h is in
        let last = with_values (length (reads_code r next)) behind in
        let own = own_at o q.team x r at last k (held_behind r next behind held) first.0 second.0 first.1 second.1 (second_true (kx && kr) named all) (provided_kind (kx && kr && named) (coarray_kind (slice_get s.objects o)) k e) in
        reads_append (reads_code x at) _ h (i.1.by first.0 first.1 at h is)
        (reads_append (reads_code r next) _ behind (q.rank.1.by second.0 second.1 next behind held) (own, tt));
  }
  keeps_layer (ExprR-F.Pointed c i) = record {
    by = λ k e at h is.
        let x = i.0 in
        let kx = is_integer (kind_of s x) in
        let first = has_some Integer (kind_of s x) (provided_test kx (copointer_kind (slice_get s.objects c)) k e) in
        let last = with_values (length (reads_code x at)) h in
        let own = own_behind c x at last k (held_behind x at h is) first.0 first.1 (provided_kind kx (copointer_kind (slice_get s.objects c)) k e) in
        reads_append (reads_code x at) _ h (i.1.by first.0 first.1 at h is) (own, tt);
  }
  keeps_layer (ExprR-F.Unary w a) = record {
    by = λ k e at h is.
        let operand = has_some (unary_kind w) (kind_of s a.0) (provided_test (has_kind (unary_kind w) (kind_of s a.0)) (Some (unary_kind w)) k e) in
        a.1.by operand.0 operand.1 at h is;
  }
  keeps_layer (ExprR-F.Chain a rest) = record {
    by = λ k e at h is.
        let first = first_has_kind (kind_of s a.0) (kinds rest) k e in
        reads_append (reads_code a.0 at) (chain_reads (coded_operands (kids rest)) (at + (coded a.0).count)) h (a.1.by first.0 first.1 at h is)
        (rest_keeps rest (kind_of s a.0) k e (at + (coded a.0).count) (with_values (length (reads_code a.0 at)) h) (held_behind a.0 at h is));
  }
  keeps_layer _ = record { by = λ k e at h is. tt }

  has_keeps : (e : ExprR) → Keeps (kind_of s e) (coded e)
  has_keeps = ind-ExprR (λ e. Keeps (kind_of s e) (coded e)) (λ x y is.
      let P : ExprR-F ExprR → Type 0 = λ z. Keeps (kind_of s (roll-ExprR z)) (coded (roll-ExprR z)) in
      let z : ExprR-F ExprR = map-ExprR Kid ExprR (λ e. e.0) y in
      let K : Option ValueKind → Type 0 = λ k. Keeps k (coded (roll-ExprR z)) in
      let C : Coded → Type 0 = λ c. Keeps (kind_layer s (map-ExprR ExprR (Option ValueKind) (kind_of s) z)) c in
      subst P is (subst K (sym (fold-roll-ExprR (Option ValueKind) (kind_layer s) z)) (subst C (sym (fold-roll-ExprR Coded code_layer z)) (keeps_layer y))))

pub expr_keeps : (e : ExprR) (held : ℕ) → ReadsKeep e held (reads_code e held)
expr_keeps e held code p s k h serves is same = (has_keeps code p s serves e).by k is held h same
