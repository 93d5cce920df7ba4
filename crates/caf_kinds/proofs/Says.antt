-- What chains of operators say.
use Rattle.std.proofs.Common.{◌≡◌, ◌∙◌, ℕ, List, [], ◌∷◌, map, Result, Ok, Err, sym, ap, subst}
use Rattle.caf_base.specs.declared.arithmetic.BinaryOperator.{BinaryOperator}
use Rattle.caf_base.specs.declared.arithmetic.BinaryOperator.TheVariants as binary
use Rattle.caf_tree.specs.declared.expr.Operator.{Operator}
use Rattle.caf_tree.specs.declared.expr.Expr.{Expr}
use Rattle.caf_tree.specs.declared.expr.Expr.TheVariants as V
use Rattle.caf_tree.specs.declared.expr.Expr.TheVariants.{rolls-Chain, rolls-Min, rolls-Max}
use Rattle.caf_tree.specs.declared.expr.Expr.TheOpen as open_of
use Rattle.caf_tree.specs.declared.expr.Expr.TheFolds.{fold-roll-Expr}
use Rattle.caf_program.specs.declared.program.ValueKind.{ValueKind}
use Rattle.caf_program.specs.declared.expr.ExprR.{ExprR}
use Rattle.caf_program.specs.declared.expr.ExprR.TheVariants as R
use Rattle.caf_declare.specs.declared.fault.Fault.{Fault}
use Rattle.caf_declare.specs.declared.fault.Stop.{Stop}
use Rattle.caf_declare.specs.declared.fault.Stop.TheVariants as stop
use Rattle.caf_declare.specs.Names.{after, Tells}
use Rattle.caf_kinds.specs.declared.scope.Scope.{Scope}
use Rattle.caf_kinds.specs.Expressions.{Sense, sense, layer, first_meant, operands, chain, leading, under, listed, some}

-- a fault of the first of two is that of both
pub stops : {A B : Type 0} (m : Result A Fault) (go : A → Result B Fault) (f : Stop) → Tells m (Err f) → Tells (after m go) (Err f)
stops m go stop.Memory told = tt
stops m go (stop.Broken g) told = ap (λ x. after x go) told

-- what the first of two gives goes on
pub goes : {A B : Type 0} (m : Result A Fault) (go : A → Result B Fault) (a : A) (s : Result B Stop) → m ≡ Ok a → Tells (go a) s → Tells (after m go) s
goes m go a s is told = subst (λ x. Tells (after x go) s) (sym is) told

abbrev Typed : Type 0
Typed = ValueKind × ExprR

abbrev Rest : Type 0
Rest = List (BinaryOperator × ExprR)

abbrev typed : ValueKind → ExprR → Result Typed Fault
typed k x = Ok (k, x)

module _ (scope : Scope) (line : ℕ) where
  abbrev pub pairs : List (Operator × Expr) → List (Operator × Sense)
  pairs others = map (λ p. (p.0, sense scope line p.1)) others

  moved : (P : Expr → List (Operator × Expr) → Type 0) (b a : Expr) (xs others : List (Operator × Expr)) → b ≡ a → xs ≡ others → P b xs → P a others
  moved P b a xs others eb ex p = subst (P a) ex (subst (λ x. P x xs) eb p)

  says_chain : (e a : Expr) (others : List (Operator × Expr)) → e ≡ V.Chain a others → (sense scope line e).says ≡ chain line (sense scope line a) (pairs others)
  says_chain e a others is = ap (λ x. (sense scope line x).says) (is ∙ sym (rolls-Chain a others)) ∙ ap (λ (x : Sense). x.says) (fold-roll-Expr Sense (layer scope line) (open_of.Chain a others))

  -- the first operand of a chain stops
  pub chain_stops : (e a b : Expr) (others xs : List (Operator × Expr)) (r s : Result Typed Stop) (f : Stop) → e ≡ V.Chain a others → b ≡ a → xs ≡ others →
      Tells (first_meant line (sense scope line b) (pairs xs)) r → r ≡ Err f → s ≡ Err f → Tells (sense scope line e).says s
  chain_stops e a b others xs r s f is eb ex told er es =
      let first : Result Typed Fault = first_meant line (sense scope line a) (pairs others) in
      let here : Tells first (Err f) = moved (λ x l. Tells (first_meant line (sense scope line x) (pairs l)) (Err f)) b a xs others eb ex (subst (Tells (first_meant line (sense scope line b) (pairs xs))) er told) in
      subst (λ m. Tells m s) (sym (says_chain e a others is)) (subst (Tells (chain line (sense scope line a) (pairs others))) (sym es) (stops first (λ t. after (operands line t.0 (pairs others)) (λ more. Ok (t.0, R.Chain t.1 more))) f here))

  first_is : (a b : Expr) (others xs : List (Operator × Expr)) (r : Result Typed Stop) (t : Typed) → b ≡ a → xs ≡ others → Tells (first_meant line (sense scope line b) (pairs xs)) r → r ≡ Ok t → first_meant line (sense scope line a) (pairs others) ≡ Ok t
  first_is a b others xs r t eb ex told er =
      moved (λ x l. first_meant line (sense scope line x) (pairs l) ≡ Ok t) b a xs others eb ex (subst (Tells (first_meant line (sense scope line b) (pairs xs))) er told)

  -- an operand behind it stops
  pub chain_rest_stops : (e a b : Expr) (others xs ys : List (Operator × Expr)) (r : Result Typed Stop) (t : Typed) (q : Result Rest Stop) (s : Result Typed Stop) (f : Stop) → e ≡ V.Chain a others → b ≡ a → xs ≡ others → ys ≡ others →
      Tells (first_meant line (sense scope line b) (pairs xs)) r → r ≡ Ok t → Tells (operands line t.0 (pairs ys)) q → q ≡ Err f → s ≡ Err f → Tells (sense scope line e).says s
  chain_rest_stops e a b others xs ys r t q s f is eb ex ey told er more eq es =
      let rest : Tells (operands line t.0 (pairs others)) (Err f) = subst (λ (l : List (Operator × Expr)). Tells (operands line t.0 (pairs l)) (Err f)) ey (subst (Tells (operands line t.0 (pairs ys))) eq more) in
      let both : Tells (after (operands line t.0 (pairs others)) (λ more. Ok (t.0, R.Chain t.1 more))) s = subst (Tells (after (operands line t.0 (pairs others)) (λ more. Ok (t.0, R.Chain t.1 more)))) (sym es) (stops (operands line t.0 (pairs others)) (λ more. Ok (t.0, R.Chain t.1 more)) f rest) in
      subst (λ m. Tells m s) (sym (says_chain e a others is))
      (goes (first_meant line (sense scope line a) (pairs others)) (λ u. after (operands line u.0 (pairs others)) (λ more. Ok (u.0, R.Chain u.1 more))) t s (first_is a b others xs r t eb ex told er) both)

  -- all operands are there
  pub chain_goes : (e a b : Expr) (others xs ys : List (Operator × Expr)) (r : Result Typed Stop) (t : Typed) (q : Result Rest Stop) (more : Rest) (s : Result Typed Stop) → e ≡ V.Chain a others → b ≡ a → xs ≡ others → ys ≡ others →
      Tells (first_meant line (sense scope line b) (pairs xs)) r → r ≡ Ok t → Tells (operands line t.0 (pairs ys)) q → q ≡ Ok more → Tells (typed t.0 (R.Chain t.1 more)) s → Tells (sense scope line e).says s
  chain_goes e a b others xs ys r t q more s is eb ex ey told er told_more eq last =
      let rest : operands line t.0 (pairs others) ≡ Ok more = subst (λ (l : List (Operator × Expr)). operands line t.0 (pairs l) ≡ Ok more) ey (subst (Tells (operands line t.0 (pairs ys))) eq told_more) in
      let first : first_meant line (sense scope line a) (pairs others) ≡ Ok t = first_is a b others xs r t eb ex told er in
      let all : chain line (sense scope line a) (pairs others) ≡ typed t.0 (R.Chain t.1 more) =
      ap (λ (m : Result Typed Fault). after m (λ u. after (operands line u.0 (pairs others)) (λ l. typed u.0 (R.Chain u.1 l)))) first
      ∙ ap (λ (m : Result Rest Fault). after m (λ l. typed t.0 (R.Chain t.1 l))) rest in
      subst (λ m. Tells m s) (sym (says_chain e a others is ∙ all)) last

  pub says_min : (e a b : Expr) (others : List Expr) → e ≡ V.Min a b others → (sense scope line e).says ≡ some line binary.Minimum (sense scope line a) (sense scope line b) (map (sense scope line) others)
  says_min e a b others is = ap (λ x. (sense scope line x).says) (is ∙ sym (rolls-Min a b others)) ∙ ap (λ (x : Sense). x.says) (fold-roll-Expr Sense (layer scope line) (open_of.Min a b others))

  pub says_max : (e a b : Expr) (others : List Expr) → e ≡ V.Max a b others → (sense scope line e).says ≡ some line binary.Maximum (sense scope line a) (sense scope line b) (map (sense scope line) others)
  says_max e a b others is = ap (λ x. (sense scope line x).says) (is ∙ sym (rolls-Max a b others)) ∙ ap (λ (x : Sense). x.says) (fold-roll-Expr Sense (layer scope line) (open_of.Max a b others))

  module _ (w : BinaryOperator) (e a b c d : Expr) (others ys : List Expr) (said : (sense scope line e).says ≡ some line w (sense scope line a) (sense scope line b) (map (sense scope line) others)) (ea : c ≡ a) (eb : d ≡ b) (ey : ys ≡ others)
      (r : Result Typed Stop) (t : Typed) (u : Result ExprR Stop) (x : ExprR) (q : Result Rest Stop) (first : Tells (leading line w (sense scope line c)) r) (er : r ≡ Ok t) (second : Tells (under line w (sense scope line d)) u) (eu : u ≡ Ok x)
      (rest : Tells (listed line w (map (sense scope line) ys)) q) where
    first_here : leading line w (sense scope line a) ≡ Ok t
    first_here = subst (λ y. leading line w (sense scope line y) ≡ Ok t) ea (subst (Tells (leading line w (sense scope line c))) er first)

    second_here : under line w (sense scope line b) ≡ Ok x
    second_here = subst (λ y. under line w (sense scope line y) ≡ Ok x) eb (subst (Tells (under line w (sense scope line d))) eu second)

    abbrev behind : Result Rest Fault
    behind = listed line w (map (sense scope line) others)

    two : some line w (sense scope line a) (sense scope line b) (map (sense scope line) others) ≡ after behind (λ more. Ok (t.0, R.Chain t.1 ((w, x) ∷ more)))
    two =
        ap (λ (m : Result Typed Fault). after m (λ y. after (under line w (sense scope line b)) (λ z. after behind (λ more. Ok (y.0, R.Chain y.1 ((w, z) ∷ more)))))) first_here
        ∙ ap (λ (m : Result ExprR Fault). after m (λ z. after behind (λ more. Ok (t.0, R.Chain t.1 ((w, z) ∷ more))))) second_here

    -- an operand behind the first two stops
    pub some_stops : (f : Stop) (s : Result Typed Stop) → q ≡ Err f → s ≡ Err f → Tells (sense scope line e).says s
    some_stops f s eq es =
        let here : Tells behind (Err f) = subst (λ (l : List Expr). Tells (listed line w (map (sense scope line) l)) (Err f)) ey (subst (Tells (listed line w (map (sense scope line) ys))) eq rest) in
        subst (λ m. Tells m s) (sym (said ∙ two)) (subst (Tells (after behind (λ more. Ok (t.0, R.Chain t.1 ((w, x) ∷ more))))) (sym es) (stops behind (λ more. Ok (t.0, R.Chain t.1 ((w, x) ∷ more))) f here))

    -- all operands are there
    pub some_goes : (more : Rest) (s : Result Typed Stop) → q ≡ Ok more → Tells (typed t.0 (R.Chain t.1 ((w, x) ∷ more))) s → Tells (sense scope line e).says s
    some_goes more s eq last =
        let here : behind ≡ Ok more = subst (λ (l : List Expr). listed line w (map (sense scope line) l) ≡ Ok more) ey (subst (Tells (listed line w (map (sense scope line) ys))) eq rest) in
        subst (λ m. Tells m s) (sym (said ∙ two ∙ ap (λ (m : Result Rest Fault). after m (λ l. typed t.0 (R.Chain t.1 ((w, x) ∷ l)))) here)) last
