-- The instructions of an expression keep the rules on operands and heights, and put one operand onto the stack.
use Rattle.std.proofs.Common.{◌≡◌, ℕ, ◌+◌, ◌<◌, ◌≤◌, true, false, List, [], ◌∷◌, ◌++◌, map, Option, Some, refl, sym, subst, arith}
use Rattle.std.specs.Prelude.{◌&&◌, Bool, nat_lt, slice_get}
use Rattle.std.proofs.lemmas.Bool.{lt-ltb}
use Rattle.caf_base.specs.declared.arithmetic.BinaryOperator.{BinaryOperator}
use Rattle.caf_base.specs.declared.arithmetic.BinaryOperator.TheVariants as binary
use Rattle.caf_base.specs.declared.arithmetic.UnaryOperator.{UnaryOperator}
use Rattle.caf_base.specs.declared.arithmetic.UnaryOperator.TheVariants as unary
use Rattle.caf_base.specs.Arithmetic.{truth_of}
use Rattle.caf_program.specs.Kinds.{Scope, chain_kind, has_kind, is_integer, kind_layer, kind_of, names_team, object_kind, operand_kind, provided, result_kind, unary_kind}
use Rattle.caf_program.specs.declared.expr.ExprR.{ExprR}
use Rattle.caf_program.specs.declared.expr.ExprR.TheOpen.{ExprR-F}
use Rattle.caf_program.specs.declared.expr.ExprR.TheFolds.{ind-ExprR, fold-roll-ExprR, map-ExprR}
use Rattle.caf_program.specs.declared.expr.ExprR.TheViews.{roll-ExprR}
use Rattle.caf_program.specs.declared.program.ValueKind.{ValueKind}
use Rattle.caf_program.specs.declared.program.ValueKind.TheVariants.{Integer, Logical}
use Rattle.caf_code.specs.Numbers.{binary_instr, unary_instr}
use Rattle.caf_code.specs.Rules.{has_operands}
use Rattle.caf_code.specs.Shapes.{Part, Shape, next_shape, only_if, pushes}
use Rattle.caf_code.specs.declared.instr.CellUse.TheVariants as cell
use Rattle.caf_code.specs.declared.instr.Instr.{Instr}
use Rattle.caf_code.specs.declared.instr.Instr.TheVariants as instr
use Rattle.caf_code.specs.declared.instr.Reach.TheVariants as reach
use Rattle.caf_code.specs.declared.instr.TeamQuery.TheVariants as query
use Rattle.caf_code.specs.declared.listing.Listing.{Listing}
use Rattle.caf_exprgen.specs.ExprCode.{Coded, chain_code, code_layer, coded, coded_counts, coded_operands, expr_code, team_name}
use Rattle.caf_exprgen.specs.Straight.{PutsOne, Serves, Straight, with_operand}
use Rattle.caf_exprgen.proofs.Gives.{coded_count}
use Rattle.caf_exprgen.proofs.Slots.{cell_there, element_data, first_true, provided_kind, provided_test, scalar_data, second_true, team_named}

binary_shape : (code : Listing) (p : Part) (w : BinaryOperator) (h : Shape) → next_shape code p (binary_instr w) (with_operand (with_operand h)) ≡ Some (with_operand h)
binary_shape code p binary.Add h = refl
binary_shape code p binary.Subtract h = refl
binary_shape code p binary.Multiply h = refl
binary_shape code p binary.Divide h = refl
binary_shape code p binary.Modulo h = refl
binary_shape code p binary.Minimum h = refl
binary_shape code p binary.Maximum h = refl
binary_shape code p binary.Equal h = refl
binary_shape code p binary.NotEqual h = refl
binary_shape code p binary.Less h = refl
binary_shape code p binary.LessEqual h = refl
binary_shape code p binary.Greater h = refl
binary_shape code p binary.GreaterEqual h = refl
binary_shape code p binary.And h = refl
binary_shape code p binary.Or h = refl
binary_shape code p binary.Equivalent h = refl
binary_shape code p binary.NotEquivalent h = refl

binary_operands : (code : Listing) (w : BinaryOperator) → has_operands code (binary_instr w) ≡ true
binary_operands code binary.Add = refl
binary_operands code binary.Subtract = refl
binary_operands code binary.Multiply = refl
binary_operands code binary.Divide = refl
binary_operands code binary.Modulo = refl
binary_operands code binary.Minimum = refl
binary_operands code binary.Maximum = refl
binary_operands code binary.Equal = refl
binary_operands code binary.NotEqual = refl
binary_operands code binary.Less = refl
binary_operands code binary.LessEqual = refl
binary_operands code binary.Greater = refl
binary_operands code binary.GreaterEqual = refl
binary_operands code binary.And = refl
binary_operands code binary.Or = refl
binary_operands code binary.Equivalent = refl
binary_operands code binary.NotEquivalent = refl

unary_shape : (code : Listing) (p : Part) (w : UnaryOperator) (h : Shape) → next_shape code p (unary_instr w) (with_operand h) ≡ Some (with_operand h)
unary_shape code p unary.Negate h = refl
unary_shape code p unary.Absolute h = refl
unary_shape code p unary.Not h = refl

unary_operands : (code : Listing) (w : UnaryOperator) → has_operands code (unary_instr w) ≡ true
unary_operands code unary.Negate = refl
unary_operands code unary.Absolute = refl
unary_operands code unary.Not = refl

pub straight_append : (code : Listing) (p : Part) (is js : List Instr) (h g h' : Shape) → Straight code p is h g → Straight code p js g h' → Straight code p (is ++ js) h h'
straight_append code p [] js h g h' e s = subst (λ k. Straight code p js k h') (sym e) s
straight_append code p (i ∷ is) js h g h' s s' = (s.0, s.1, s.2, straight_append code p is js s.0 g h' s.3 s')

-- a kind that an operand has
pub has_some : (w : ValueKind) (o : Option ValueKind) → has_kind w o ≡ true → (k : ValueKind) × (o ≡ Some k)
has_some Integer (Some Integer) e = (Integer, refl)
has_some Logical (Some Logical) e = (Logical, refl)
has_some _ _ e = let h : false ≡ true = e in absurd (cc)

-- the first operand of a chain that has a kind has one
abbrev pub FirstHasKind : Option ValueKind → List (BinaryOperator × Option ValueKind) → Type 0
FirstHasKind o rest = (k : ValueKind) → chain_kind o rest ≡ Some k → (x : ValueKind) × (o ≡ Some x)

pub first_has_kind : (o : Option ValueKind) (rest : List (BinaryOperator × Option ValueKind)) → FirstHasKind o rest
first_has_kind o [] k e = (k, e)
first_has_kind o (p ∷ rest) k e =
    let test = has_kind (operand_kind p.0) o && has_kind (operand_kind p.0) p.1 in
    let more = first_has_kind (provided test (Some (result_kind p.0))) rest k e in
    has_some (operand_kind p.0) o (first_true (has_kind (operand_kind p.0) o) (has_kind (operand_kind p.0) p.1) (provided_test test (Some (result_kind p.0)) more.0 more.1))

module _ (code : Listing) (p : Part) (s : Scope) (serves : Serves code p s) where
  record Puts (kind : Option ValueKind) (c : Coded) : Type 0 where
    by : (k : ValueKind) → kind ≡ Some k → (at : ℕ) (h : Shape) → at + c.count ≤ h.held → Straight code p (c.code at) h (with_operand h)

  one : (i : Instr) (h g : Shape) → has_operands code i ≡ true → next_shape code p i h ≡ Some g → Straight code p (i ∷ []) h g
  one i h g e f = (g, e, f, refl)

  allowed : (b : Bool) (h : Shape) → b ≡ true → only_if b (pushes h) ≡ Some (with_operand h)
  allowed true h e = refl
  allowed false h e = let f : false ≡ true = e in absurd (cc)

  held_there : (n : ℕ) (h : Shape) → n < h.held → only_if (nat_lt n h.held) (pushes h) ≡ Some (with_operand h)
  held_there n h lt = allowed (nat_lt n h.held) h (lt-ltb n h.held lt)

  abbrev Kid : Type 0
  Kid = (e : ExprR) × Puts (kind_of s e) (coded e)

  abbrev kids : List (BinaryOperator × Kid) → List (BinaryOperator × ExprR)
  kids = map (λ x. (x.0, x.1.0))

  abbrev kinds : List (BinaryOperator × Kid) → List (BinaryOperator × Option ValueKind)
  kinds rest = map (λ x. (x.0, kind_of s x.1)) (kids rest)

  rest_puts : (rest : List (BinaryOperator × Kid)) (o : Option ValueKind) (k : ValueKind) → chain_kind o (kinds rest) ≡ Some k → (at : ℕ) (h : Shape) → at + coded_counts (coded_operands (kids rest)) ≤ h.held
      → Straight code p (chain_code (coded_operands (kids rest)) at) (with_operand h) (with_operand h)
  rest_puts [] o k e at h le = refl
  rest_puts (x ∷ rest) o k e at h le =
      let w = x.0 in
      let c = coded x.1.0 in
      let kind = kind_of s x.1.0 in
      let test = has_kind (operand_kind w) o && has_kind (operand_kind w) kind in
      let next = provided test (Some (result_kind w)) in
      let more = first_has_kind next (kinds rest) k e in
      let second = has_some (operand_kind w) kind (second_true (has_kind (operand_kind w) o) (has_kind (operand_kind w) kind) (provided_test test (Some (result_kind w)) more.0 more.1)) in
      straight_append code p (c.code at) _ (with_operand h) (with_operand (with_operand h)) (with_operand h)
      (x.1.1.by second.0 second.1 at (with_operand h) (omega (arith, le)))
      (with_operand h, binary_operands code w, binary_shape code p w h, rest_puts rest next k e (at + c.count) h (omega (arith, le)))

  puts_layer : (y : ExprR-F Kid) → Puts (kind_layer s (map-ExprR ExprR (Option ValueKind) (kind_of s) (map-ExprR Kid ExprR (λ e. e.0) y))) (code_layer (map-ExprR ExprR Coded coded (map-ExprR Kid ExprR (λ e. e.0) y)))
  puts_layer (ExprR-F.Number n) = record { by = λ k e at h le. one (instr.Push n) h (with_operand h) refl refl }
  puts_layer (ExprR-F.Truth b) = record { by = λ k e at h le. one (instr.Push (truth_of b)) h (with_operand h) refl refl }
  puts_layer (ExprR-F.Scalar o) = record { by = λ k e at h le. one (instr.Load reach.Scalar o) h (with_operand h) (scalar_data code p s o k serves e) refl }
  puts_layer (ExprR-F.Local n) = record { by = λ k e at h le. one (instr.Cell cell.Get n) h (with_operand h) refl (allowed _ h (cell_there code p s n k serves e)) }
  puts_layer (ExprR-F.Element o i) = record {
    by = λ k e at h le.
        let kind = object_kind (slice_get s.objects o) in
        let index = has_some Integer (kind_of s i.0) (provided_test (is_integer (kind_of s i.0)) kind k e) in
        straight_append code p (expr_code i.0 at) _ h (with_operand h) (with_operand h) (i.1.by index.0 index.1 at h le)
        (one (instr.Load reach.Element o) (with_operand h) (with_operand h) (element_data code p s o k serves (provided_kind (is_integer (kind_of s i.0)) kind k e)) refl);
  }
  puts_layer (ExprR-F.Coindexed o i q) = record { by = λ k e at h le. one (instr.Held (at + (coded i.0).count + (coded q.rank.0).count)) h (with_operand h) refl (held_there (at + (coded i.0).count + (coded q.rank.0).count) h (omega (arith, le))) }
  puts_layer (ExprR-F.Pointed c i) = record { by = λ k e at h le. one (instr.Held (at + (coded i.0).count)) h (with_operand h) refl (held_there (at + (coded i.0).count) h (omega (arith, le))) }
  puts_layer (ExprR-F.Unary w a) = record {
    by = λ k e at h le.
        let operand = has_some (unary_kind w) (kind_of s a.0) (provided_test (has_kind (unary_kind w) (kind_of s a.0)) (Some (unary_kind w)) k e) in
        straight_append code p (expr_code a.0 at) _ h (with_operand h) (with_operand h) (a.1.by operand.0 operand.1 at h le)
        (one (unary_instr w) (with_operand h) (with_operand h) (unary_operands code w) (unary_shape code p w h));
  }
  puts_layer (ExprR-F.Chain a rest) = record {
    by = λ k e at h le.
        let first = first_has_kind (kind_of s a.0) (kinds rest) k e in
        straight_append code p (expr_code a.0 at) _ h (with_operand h) (with_operand h) (a.1.by first.0 first.1 at h (omega (arith, le)))
        (rest_puts rest (kind_of s a.0) k e (at + (coded a.0).count) h (omega (arith, le)));
  }
  puts_layer (ExprR-F.Rank x) = record { by = λ k e at h le. one (instr.Team query.Rank (team_name x)) h (with_operand h) (team_named code p s x serves (provided_test (names_team s x) (Some Integer) k e)) refl }
  puts_layer (ExprR-F.Size x) = record { by = λ k e at h le. one (instr.Team query.Size (team_name x)) h (with_operand h) (team_named code p s x serves (provided_test (names_team s x) (Some Integer) k e)) refl }

  has_puts : (e : ExprR) → Puts (kind_of s e) (coded e)
  has_puts = ind-ExprR (λ e. Puts (kind_of s e) (coded e)) (λ x y is.
      let P : ExprR-F ExprR → Type 0 = λ z. Puts (kind_of s (roll-ExprR z)) (coded (roll-ExprR z)) in
      let z : ExprR-F ExprR = map-ExprR Kid ExprR (λ e. e.0) y in
      let K : Option ValueKind → Type 0 = λ k. Puts k (coded (roll-ExprR z)) in
      let C : Coded → Type 0 = λ c. Puts (kind_layer s (map-ExprR ExprR (Option ValueKind) (kind_of s) z)) c in
      subst P is (subst K (sym (fold-roll-ExprR (Option ValueKind) (kind_layer s) z)) (subst C (sym (fold-roll-ExprR Coded code_layer z)) (puts_layer y))))

pub puts_one : (e : ExprR) (held : ℕ) → PutsOne e held (expr_code e held)
puts_one e held code p s k h serves is le = (has_puts code p s serves e).by k is held h (subst (λ n. held + n ≤ h.held) (sym (coded_count e)) le)
