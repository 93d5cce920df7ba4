-- What chains of operators are worth.
use Rattle.std.proofs.Common.{◌≡◌, ◌∙◌, ℕ, suc, ◌<◌, List, ◌∷◌, map, drop, get_or, length, drop-cons, Result, Ok, Err, sym, ap, subst}
use Rattle.caf_base.specs.declared.arithmetic.BinaryOperator.{BinaryOperator}
use Rattle.caf_tree.specs.declared.expr.Operator.{Operator}
use Rattle.caf_tree.specs.declared.expr.Expr.{Expr}
use Rattle.caf_tree.specs.declared.expr.Expr.TheVariants as V
use Rattle.caf_tree.specs.declared.expr.Expr.TheVariants.{rolls-Chain}
use Rattle.caf_tree.specs.declared.expr.Expr.TheOpen as open_of
use Rattle.caf_tree.specs.declared.expr.Expr.TheFolds.{fold-roll-Expr}
use Rattle.caf_declare.specs.declared.fault.Fault.{Fault}
use Rattle.caf_declare.specs.declared.fault.Stop.{Stop}
use Rattle.caf_declare.specs.declared.fault.Stop.TheVariants as stop
use Rattle.caf_declare.specs.declared.symbol.Constant.{Constant}
use Rattle.caf_declare.specs.Table.{Name}
use Rattle.caf_declare.specs.Names.{after, Tells}
use Rattle.caf_declare.specs.Constants.{Known, Worth, worth_bare, worth_layer, worth_of, first_worth, one_more_worth, chained}
use Rattle.caf_declare.specs.Operators.{of_operator}
use Rattle.caf_declare.specs.Globals.{all_in_turn}

-- a fault of the first of two is that of both
stops : {A B : Type 0} (m : Result A Fault) (go : A → Result B Fault) (f : Stop) → Tells m (Err f) → Tells (after m go) (Err f)
stops m go stop.Memory told = tt
stops m go (stop.Broken g) told = ap (λ x. after x go) told

-- what the first of two gives goes on
goes : {A B : Type 0} (m : Result A Fault) (go : A → Result B Fault) (a : A) (s : Result B Stop) → Tells m (Ok a) → Tells (go a) s → Tells (after m go) s
goes m go a s is told = subst (λ x. Tells (after x go) s) (sym is) told

-- what is declared one after another stops
pub turn_stops : {A S : Type 0} (go : A → S → Result S Fault) (xs : List A) (i : ℕ) (x : A) (s t : S) (r : Result S Stop) (f : Stop) → i < length xs → x ≡ get_or xs i x →
    all_in_turn go xs s ≡ all_in_turn go (drop i xs) t → Tells (go x t) (Err f) → r ≡ Err f → Tells (all_in_turn go xs s) r
turn_stops {A} {S} go xs i x s t r f lt is inv told er =
    let rest : List A = drop (suc i) xs in
    let all : all_in_turn go xs s ≡ after (go x t) (all_in_turn go rest) = inv ∙ ap (λ (l : List A). all_in_turn go l t) (drop-cons xs i x lt ∙ ap (λ (y : A). y ∷ rest) (sym is)) in
    subst (λ m. Tells m r) (sym all) (subst (Tells (after (go x t) (all_in_turn go rest))) (sym er) (stops (go x t) (all_in_turn go rest) f told))

module _ (names : Known) (line : ℕ) (item : Name) where
  abbrev pub worths : List (Operator × Expr) → List (Operator × Worth)
  worths others = map (λ p. (p.0, worth_of names line item p.1)) others

  worth_chain : (e a : Expr) (others : List (Operator × Expr)) → e ≡ V.Chain a others →
      (worth_of names line item e).worth ≡ after (first_worth line (worth_of names line item a) (worths others)) (λ c. chained line item c (worths others))
  worth_chain e a others is =
      ap (λ x. (worth_of names line item x).worth) (is ∙ sym (rolls-Chain a others))
      ∙ ap (λ (x : Worth). x.worth) (fold-roll-Expr Worth (λ y. record { bare = worth_bare y; worth = worth_layer names line item y }) (open_of.Chain a others))

  -- the first operand stops
  pub worth_stops : (e a b : Expr) (others xs : List (Operator × Expr)) (r s : Result Constant Stop) (f : Stop) → e ≡ V.Chain a others → b ≡ a → xs ≡ others →
      Tells (first_worth line (worth_of names line item b) (worths xs)) r → r ≡ Err f → s ≡ Err f → Tells (worth_of names line item e).worth s
  worth_stops e a b others xs r s f is eb ex told er es =
      let first : Result Constant Fault = first_worth line (worth_of names line item a) (worths others) in
      let here : Tells (first_worth line (worth_of names line item b) (worths xs)) (Err f) = subst (Tells (first_worth line (worth_of names line item b) (worths xs))) er told in
      let there : Tells (first_worth line (worth_of names line item a) (worths xs)) (Err f) = subst (λ (x : Expr). Tells (first_worth line (worth_of names line item x) (worths xs)) (Err f)) eb here in
      let all : Tells first (Err f) = subst (λ (ys : List (Operator × Expr)). Tells (first_worth line (worth_of names line item a) (worths ys)) (Err f)) ex there in
      subst (λ m. Tells m s) (sym (worth_chain e a others is)) (subst (Tells (after first (λ c. chained line item c (worths others)))) (sym es) (stops first (λ c. chained line item c (worths others)) f all))

  -- the first operand goes on
  pub worth_goes : (e a b : Expr) (others xs ys : List (Operator × Expr)) (r s : Result Constant Stop) (c : Constant) → e ≡ V.Chain a others → b ≡ a → xs ≡ others → ys ≡ others →
      Tells (first_worth line (worth_of names line item b) (worths xs)) r → r ≡ Ok c → Tells (chained line item c (worths ys)) s → Tells (worth_of names line item e).worth s
  worth_goes e a b others xs ys r s c is eb ex ey told er more =
      let first : Result Constant Fault = first_worth line (worth_of names line item a) (worths others) in
      let here : first_worth line (worth_of names line item b) (worths xs) ≡ Ok c = subst (Tells (first_worth line (worth_of names line item b) (worths xs))) er told in
      let there : first_worth line (worth_of names line item a) (worths xs) ≡ Ok c = subst (λ (x : Expr). first_worth line (worth_of names line item x) (worths xs) ≡ Ok c) eb here in
      let all : first ≡ Ok c = subst (λ (zs : List (Operator × Expr)). first_worth line (worth_of names line item a) (worths zs) ≡ Ok c) ex there in
      let rest : Tells (chained line item c (worths others)) s = subst (λ (zs : List (Operator × Expr)). Tells (chained line item c (worths zs)) s) ey more in
      subst (λ m. Tells m s) (sym (worth_chain e a others is)) (goes first (λ d. chained line item d (worths others)) c s all rest)

  -- an operator with its operand stops
  pub chained_stops : (others : List (Operator × Expr)) (i : ℕ) (p : Operator × Expr) (w : BinaryOperator) (c d : Constant) (r : Result Constant Stop) (f : Stop) → i < length others → p ≡ get_or others i p → w ≡ of_operator p.0 →
      chained line item c (worths others) ≡ chained line item d (worths (drop i others)) → Tells (one_more_worth line item w d (worth_of names line item p.1)) (Err f) → r ≡ Err f → Tells (chained line item c (worths others)) r
  chained_stops others i p w c d r f lt is ew inv told er =
      let rest : List (Operator × Expr) = drop (suc i) others in
      let more : Constant → Result Constant Fault = λ x. chained line item x (worths rest) in
      let first : Result Constant Fault = one_more_worth line item (of_operator p.0) d (worth_of names line item p.1) in
      let all : chained line item c (worths others) ≡ after first more = inv ∙ ap (λ (l : List (Operator × Expr)). chained line item d (worths l)) (drop-cons others i p lt ∙ ap (λ (y : Operator × Expr). y ∷ rest) (sym is)) in
      let here : Tells first (Err f) = subst (λ (o : BinaryOperator). Tells (one_more_worth line item o d (worth_of names line item p.1)) (Err f)) ew told in
      subst (λ m. Tells m r) (sym all) (subst (Tells (after first more)) (sym er) (stops first more f here))
