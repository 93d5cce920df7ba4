-- An expression is spelled again by the tokens that it is printed with.
use Rattle.std.proofs.Common.{◌≡◌, ℕ, zero, suc, Bool, true, false, List, [], ◌∷◌, ◌++◌, map, Option, Some, None, inl, inr, refl, ap, sym, ◌∙◌, subst, append_assoc}
use Rattle.std.specs.Prelude.{ℤ}
use Rattle.std.specs.List.{flat_map}
use Rattle.std.proofs.lemmas.List.{append-nil}
use Rattle.caf_lexer.specs.declared.token.Token.{Token}
use Rattle.caf_lexer.specs.declared.token.What.{What}
use Rattle.caf_lexer.specs.declared.token.What.TheVariants as what
use Rattle.caf_lexer.specs.declared.token.Sign.TheVariants as sign
use Rattle.caf_lexer.specs.declared.token.Word.TheVariants as word
use Rattle.caf_tree.specs.declared.expr.Operator.{Operator}
use Rattle.caf_tree.specs.declared.expr.Level.{Level}
use Rattle.caf_tree.specs.declared.expr.Level.TheVariants as level
use Rattle.caf_tree.specs.declared.expr.Relation.{Relation}
use Rattle.caf_tree.specs.declared.expr.FrontSign.{FrontSign}
use Rattle.caf_tree.specs.declared.expr.Team.{Team}
use Rattle.caf_tree.specs.declared.expr.Team.TheVariants as team
use Rattle.caf_tree.specs.declared.expr.Place.{Place}
use Rattle.caf_tree.specs.declared.expr.Variable.{Variable}
use Rattle.caf_tree.specs.declared.expr.Expr.{Expr}
use Rattle.caf_tree.specs.declared.expr.Expr.TheVariants as e
use Rattle.caf_tree.specs.declared.expr.Expr.TheOpen.{Expr-F}
use Rattle.caf_tree.specs.declared.expr.Expr.TheFolds.{fold-Expr, fold-roll-Expr}
use Rattle.caf_tree.specs.Forms.{Just, Sign', Word', Name, Maybe, Many, Both, Made, Either, ◌▸◌, InParentheses, InBrackets, Inside}
use Rattle.caf_tree.specs.Expressions.{operator_sign, relation_sign, front_sign, truth_sign, or_world, place_of, variable_of, chain_of, compared, team_what, OperatorOf, RelationSign, Front, TeamForm, PlaceIn, VariableIn, Two, TwoOrMore, TeamIn, Prim, number, truth, parenthesized, variable, remainder, absolute, least, greatest, rank, size, Chained, Term, FirstTerm, Sum, Rel, AndOp, OrOp, Equ, ExpressionIn, Inner, Expression, PlaceForm, VariableForm}
use Rattle.caf_tree.specs.Said.{if_any, each_after, listed, in_parentheses, in_brackets, of_sign, of_name, team_after, place_said, variable_said, two_or_more, expression_layer, expression_said}
use Rattle.caf_printer.proofs.Printable.{Said, whats, Printable, Fine, Each, each_append}
use Rattle.caf_printer.proofs.Told.{Told, none_left, head, takes, told_just, told_name, told_both, told_word, told_sign, told_parentheses, told_brackets, told_made, told_such, told_either, told_maybe, told_many, nothing}

-- ---- the equations of what is said

said-number : (n : ℤ) → expression_said (e.Number n) ≡ what.Number n ∷ []
said-number n = ap expression_said (sym (e.rolls-Number n)) ∙ fold-roll-Expr Said expression_layer (Expr-F.Number n)

said-truth : (b : Bool) → expression_said (e.Truth b) ≡ of_sign (truth_sign b)
said-truth b = ap expression_said (sym (e.rolls-Truth b)) ∙ fold-roll-Expr Said expression_layer (Expr-F.Truth b)

said-parenthesized : (x : Expr) → expression_said (e.Parenthesized x) ≡ in_parentheses (expression_said x)
said-parenthesized x = ap expression_said (sym (e.rolls-Parenthesized x)) ∙ fold-roll-Expr Said expression_layer (Expr-F.Parenthesized x)

said-variable : (x : List ℕ) (at : Option Expr) (place : Option (Place Expr)) → expression_said (e.Variable (record { name = x; subscript = at; place = place })) ≡ variable_said expression_said (record { name = x; subscript = at; place = place })
said-variable x None None = ap expression_said (sym (e.rolls-Variable (record { name = x; subscript = None; place = None }))) ∙ fold-roll-Expr Said expression_layer (Expr-F.Variable (record { name = x; subscript = None; place = None }))
said-variable x (Some i) None = ap expression_said (sym (e.rolls-Variable (record { name = x; subscript = Some i; place = None }))) ∙ fold-roll-Expr Said expression_layer (Expr-F.Variable (record { name = x; subscript = Some i; place = None }))
said-variable x None (Some p) = ap expression_said (sym (e.rolls-Variable (record { name = x; subscript = None; place = Some p }))) ∙ fold-roll-Expr Said expression_layer (Expr-F.Variable (record { name = x; subscript = None; place = Some p }))
said-variable x (Some i) (Some p) = ap expression_said (sym (e.rolls-Variable (record { name = x; subscript = Some i; place = Some p }))) ∙ fold-roll-Expr Said expression_layer (Expr-F.Variable (record { name = x; subscript = Some i; place = Some p }))

said-mod : (a b : Expr) → expression_said (e.Mod a b) ≡ what.Word word.Mod ∷ two_or_more (expression_said a) (expression_said b) []
said-mod a b = ap expression_said (sym (e.rolls-Mod a b)) ∙ fold-roll-Expr Said expression_layer (Expr-F.Mod a b)

said-abs : (a : Expr) → expression_said (e.Abs a) ≡ what.Word word.Abs ∷ in_parentheses (expression_said a)
said-abs a = ap expression_said (sym (e.rolls-Abs a)) ∙ fold-roll-Expr Said expression_layer (Expr-F.Abs a)

pub said-min : (a b : Expr) (others : List Expr) → expression_said (e.Min a b others) ≡ what.Word word.Min ∷ two_or_more (expression_said a) (expression_said b) (map expression_said others)
said-min a b others = ap expression_said (sym (e.rolls-Min a b others)) ∙ fold-roll-Expr Said expression_layer (Expr-F.Min a b others)

pub said-max : (a b : Expr) (others : List Expr) → expression_said (e.Max a b others) ≡ what.Word word.Max ∷ two_or_more (expression_said a) (expression_said b) (map expression_said others)
said-max a b others = ap expression_said (sym (e.rolls-Max a b others)) ∙ fold-roll-Expr Said expression_layer (Expr-F.Max a b others)

said-rank : (t : Team) → expression_said (e.TeamRank t) ≡ what.Word word.TeamRank ∷ in_parentheses (team_after [] t)
said-rank t = ap expression_said (sym (e.rolls-TeamRank t)) ∙ fold-roll-Expr Said expression_layer (Expr-F.TeamRank t)

said-size : (t : Team) → expression_said (e.TeamSize t) ≡ what.Word word.TeamSize ∷ in_parentheses (team_after [] t)
said-size t = ap expression_said (sym (e.rolls-TeamSize t)) ∙ fold-roll-Expr Said expression_layer (Expr-F.TeamSize t)

pub said-signed : (s : FrontSign) (a : Expr) → expression_said (e.Signed s a) ≡ what.Sign (front_sign s) ∷ expression_said a
said-signed s a = ap expression_said (sym (e.rolls-Signed s a)) ∙ fold-roll-Expr Said expression_layer (Expr-F.Signed s a)

pub said-not : (a : Expr) → expression_said (e.Not a) ≡ what.Sign sign.Not ∷ expression_said a
said-not a = ap expression_said (sym (e.rolls-Not a)) ∙ fold-roll-Expr Said expression_layer (Expr-F.Not a)

pub said-compare : (a : Expr) (r : Relation) (b : Expr) → expression_said (e.Compare a r b) ≡ expression_said a ++ what.Sign (relation_sign r) ∷ expression_said b
said-compare a r b = ap expression_said (sym (e.rolls-Compare a r b)) ∙ fold-roll-Expr Said expression_layer (Expr-F.Compare a r b)

abbrev pair_said : Operator × Expr → Said
pair_said p = what.Sign (operator_sign p.0) ∷ expression_said p.1

pairs_said : (ps : List (Operator × Expr)) → flat_map (λ (p : Operator × Said). what.Sign (operator_sign p.0) ∷ p.1) (map (λ (p : Operator × Expr). (p.0, expression_said p.1)) ps) ≡ flat_map pair_said ps
pairs_said [] = refl
pairs_said (p ∷ ps) = ap (λ us. pair_said p ++ us) (pairs_said ps)

said-chain : (x : Expr) (ps : List (Operator × Expr)) → expression_said (e.Chain x ps) ≡ expression_said x ++ flat_map pair_said ps
said-chain x ps = ap expression_said (sym (e.rolls-Chain x ps)) ∙ fold-roll-Expr Said expression_layer (Expr-F.Chain x ps) ∙ ap (λ us. expression_said x ++ us) (pairs_said ps)

said-chain_of : (c : Expr × List (Operator × Expr)) → expression_said (chain_of c) ≡ expression_said c.0 ++ flat_map pair_said c.1
said-chain_of (x, []) = sym (append-nil (expression_said x))
said-chain_of (x, p ∷ ps) = said-chain x (p ∷ ps)

said-compared : (c : Expr × Option (Relation × Expr)) → expression_said (compared c) ≡ expression_said c.0 ++ if_any (λ (r : Relation × Expr). what.Sign (relation_sign r.0) ∷ expression_said r.1) c.1
said-compared (x, None) = sym (append-nil (expression_said x))
said-compared (x, Some r) = said-compare x r.0 r.1

others_said : (others : List Expr) → each_after sign.Comma (λ (s : Said). s) (map expression_said others) ≡ each_after sign.Comma expression_said others
others_said [] = refl
others_said (x ∷ others) = ap (λ us. (what.Sign sign.Comma ∷ expression_said x) ++ us) (others_said others)

-- two operands, and others, as the form has them
abbrev operands_said : (Expr × Expr) × List Expr → Said
operands_said p = (expression_said p.0.0 ++ what.Sign sign.Comma ∷ expression_said p.0.1) ++ each_after sign.Comma expression_said p.1

operands : (a b : Expr) (others : List Expr) → two_or_more (expression_said a) (expression_said b) (map expression_said others) ≡ in_parentheses (operands_said ((a, b), others))
operands a b others = ap in_parentheses
    (ap (λ us. expression_said a ++ what.Sign sign.Comma ∷ (expression_said b ++ us)) (others_said others)
    ∙ sym (append_assoc (expression_said a) (what.Sign sign.Comma ∷ expression_said b) (each_after sign.Comma expression_said others)))

two_operands : (a b : Expr) → two_or_more (expression_said a) (expression_said b) [] ≡ in_parentheses (expression_said a ++ what.Sign sign.Comma ∷ expression_said b)
two_operands a b = ap (λ us. in_parentheses (expression_said a ++ what.Sign sign.Comma ∷ us)) (append-nil (expression_said b))

-- ---- teams

named_apart : (x : List ℕ) → team.Named x ≡ team.World → ⊥
named_apart x k = cc

-- a team that may be missing, which then is `team_world`
pub told_world : (Q : Team → List Token → List Token → Type 0) (q p : Team → Said) → Told Q q → p team.World ≡ [] → ((x : List ℕ) → p (team.Named x) ≡ q (team.Named x)) → Told (Made or_world (Maybe Q)) p
told_world Q q p h world named = record { again = again; fine = fine }
  where
    again : (t : Team) (ts rest : List Token) → Made or_world (Maybe Q) t ts rest → (front end : List Token) → whats front ≡ p t → Made or_world (Maybe Q) t (front ++ end) end
    again team.World ts rest m front end k = (None, refl, nothing front end (k ∙ world))
    again (team.Named x) ts rest (None, b, m) front end k = absurd (named_apart x b)
    again (team.Named x) ts rest (Some t, b, m) front end k = (Some (team.Named x), refl, h.again (team.Named x) ts rest (subst (λ u. Q u ts rest) (sym b) m) front end (k ∙ named x))

    of_named : (t : Team) → Each Printable (q t) → Each Printable (p t)
    of_named team.World b = subst (Each Printable) (sym world) tt
    of_named (team.Named x) b = subst (Each Printable) (sym (named x)) b

    fine : (t : Team) (ts rest : List Token) → Made or_world (Maybe Q) t ts rest → Each Fine (whats ts) → Each Printable (p t) × Each Fine (whats rest)
    fine t ts rest (None, b, m) k = (subst (λ u. Each Printable (p u)) (sym b) (subst (Each Printable) (sym world) tt), subst (λ us. Each Fine (whats us)) m k)
    fine t ts rest (Some u, b, m) k =
        let x = h.fine u ts rest m k in
        (subst (λ v. Each Printable (p v)) (sym b) (of_named u x.0), x.1)

team_fine : (t : Team) → Fine (team_what t) → Printable (team_what t)
team_fine team.World b = tt
team_fine (team.Named x) b = b

pub told_team : Told TeamForm (λ t. team_what t ∷ [])
told_team = told_just team_what team_fine

told_at : Told (Made or_world (Maybe (Sign' sign.At ▸ TeamForm))) (team_after (of_sign sign.At))
told_at = told_world _ _ (team_after (of_sign sign.At)) (told_sign sign.At TeamForm _ told_team) refl (λ x. refl)

told_any_team : (R : Expr → List Token → List Token → Type 0) (n : ℕ) → Told (TeamIn R n) (team_after [])
told_any_team R zero = record { again = λ a ts rest m. absurd m; fine = λ a ts rest m. absurd m }
told_any_team R (suc n) = told_world TeamForm _ (team_after []) told_team refl (λ x. refl)

-- ---- forms of expressions

truth_fine : (b : Bool) → Fine (what.Sign (truth_sign b)) → Printable (what.Sign (truth_sign b))
truth_fine b k = tt

module _ (R : Expr → List Token → List Token → Type 0) (h : Told R expression_said) where
  pub told_place_in : Told (PlaceIn R) (place_said expression_said)
  told_place_in = told_made place_of _ _ (place_said expression_said) (told_brackets _ _ (told_both R _ expression_said _ h told_at)) (λ p. refl)

  pub told_variable_in : Told (VariableIn R) (variable_said expression_said)
  told_variable_in = told_made variable_of _ _ (variable_said expression_said)
      (told_both _ _ _ _ (told_both _ _ _ _ told_name (told_maybe _ _ (told_parentheses R _ h))) (told_maybe _ _ told_place_in))
      (λ v. refl)

  told_two : Told (Two R) (λ p. expression_said p.0 ++ what.Sign sign.Comma ∷ expression_said p.1)
  told_two = told_both R _ expression_said _ h (told_sign sign.Comma R _ h)

  told_two_or_more : Told (TwoOrMore R) operands_said
  told_two_or_more = told_both _ _ _ _ told_two (told_many _ _ (told_sign sign.Comma R _ h))

  module _ (n : ℕ) where
    told_number : Told (Made e.Number (Just what.Number)) expression_said
    told_number = told_made e.Number _ _ expression_said (told_just what.Number (λ x k. k)) said-number

    told_truth : Told (Made e.Truth (Just (λ b. what.Sign (truth_sign b)))) expression_said
    told_truth = told_made e.Truth _ _ expression_said (told_just (λ b. what.Sign (truth_sign b)) truth_fine) said-truth

    told_parenthesized : Told (Made e.Parenthesized (InParentheses R)) expression_said
    told_parenthesized = told_made e.Parenthesized _ _ expression_said (told_parentheses R _ h) said-parenthesized

    told_variable : Told (Made e.Variable (VariableIn R)) expression_said
    told_variable = told_made e.Variable _ _ expression_said told_variable_in (λ v. said-variable v.name v.subscript v.place)

    told_mod : Told (Made (λ (p : Expr × Expr). e.Mod p.0 p.1) (Word' word.Mod ▸ InParentheses (Two R))) expression_said
    told_mod = told_made _ _ _ expression_said (told_word word.Mod _ _ (told_parentheses _ _ told_two)) (λ p. said-mod p.0 p.1 ∙ ap (λ us. what.Word word.Mod ∷ us) (two_operands p.0 p.1))

    told_abs : Told (Made e.Abs (Word' word.Abs ▸ InParentheses R)) expression_said
    told_abs = told_made e.Abs _ _ expression_said (told_word word.Abs _ _ (told_parentheses R _ h)) said-abs

    told_min : Told (Made (λ (p : (Expr × Expr) × List Expr). e.Min p.0.0 p.0.1 p.1) (Word' word.Min ▸ InParentheses (TwoOrMore R))) expression_said
    told_min = told_made _ _ _ expression_said (told_word word.Min _ _ (told_parentheses _ _ told_two_or_more)) (λ p. said-min p.0.0 p.0.1 p.1 ∙ ap (λ us. what.Word word.Min ∷ us) (operands p.0.0 p.0.1 p.1))

    told_max : Told (Made (λ (p : (Expr × Expr) × List Expr). e.Max p.0.0 p.0.1 p.1) (Word' word.Max ▸ InParentheses (TwoOrMore R))) expression_said
    told_max = told_made _ _ _ expression_said (told_word word.Max _ _ (told_parentheses _ _ told_two_or_more)) (λ p. said-max p.0.0 p.0.1 p.1 ∙ ap (λ us. what.Word word.Max ∷ us) (operands p.0.0 p.0.1 p.1))

    told_rank : Told (Made e.TeamRank (Word' word.TeamRank ▸ InParentheses (TeamIn R n))) expression_said
    told_rank = told_made e.TeamRank _ _ expression_said (told_word word.TeamRank _ _ (told_parentheses _ _ (told_any_team R n))) said-rank

    told_size : Told (Made e.TeamSize (Word' word.TeamSize ▸ InParentheses (TeamIn R n))) expression_said
    told_size = told_made e.TeamSize _ _ expression_said (told_word word.TeamSize _ _ (told_parentheses _ _ (told_any_team R n))) said-size

    told_prim : Told (Prim R n) expression_said
    told_prim = record { again = again; fine = fine }
      where
        again : (x : Expr) (ts rest : List Token) → Prim R n x ts rest → (front end : List Token) → whats front ≡ expression_said x → Prim R n x (front ++ end) end
        again x ts rest (number m) front end k = number (told_number.again x ts rest m front end k)
        again x ts rest (truth m) front end k = truth (told_truth.again x ts rest m front end k)
        again x ts rest (parenthesized m) front end k = parenthesized (told_parenthesized.again x ts rest m front end k)
        again x ts rest (variable m) front end k = variable (told_variable.again x ts rest m front end k)
        again x ts rest (remainder m) front end k = remainder (told_mod.again x ts rest m front end k)
        again x ts rest (absolute m) front end k = absolute (told_abs.again x ts rest m front end k)
        again x ts rest (least m) front end k = least (told_min.again x ts rest m front end k)
        again x ts rest (greatest m) front end k = greatest (told_max.again x ts rest m front end k)
        again x ts rest (rank m) front end k = rank (told_rank.again x ts rest m front end k)
        again x ts rest (size m) front end k = size (told_size.again x ts rest m front end k)

        fine : (x : Expr) (ts rest : List Token) → Prim R n x ts rest → Each Fine (whats ts) → Each Printable (expression_said x) × Each Fine (whats rest)
        fine x ts rest (number m) k = told_number.fine x ts rest m k
        fine x ts rest (truth m) k = told_truth.fine x ts rest m k
        fine x ts rest (parenthesized m) k = told_parenthesized.fine x ts rest m k
        fine x ts rest (variable m) k = told_variable.fine x ts rest m k
        fine x ts rest (remainder m) k = told_mod.fine x ts rest m k
        fine x ts rest (absolute m) k = told_abs.fine x ts rest m k
        fine x ts rest (least m) k = told_min.fine x ts rest m k
        fine x ts rest (greatest m) k = told_max.fine x ts rest m k
        fine x ts rest (rank m) k = told_rank.fine x ts rest m k
        fine x ts rest (size m) k = told_size.fine x ts rest m k

    told_chained : (l : Level) (P Q : Expr → List Token → List Token → Type 0) → Told P expression_said → Told Q expression_said → Told (Chained R n l P Q) expression_said
    told_chained l P Q a b = told_made chain_of _ _ expression_said
        (told_both P _ expression_said _ a (told_many _ _ (told_both _ Q _ expression_said (told_such _ _ _ (told_just (λ o. what.Sign (operator_sign o)) (λ o k. tt))) b))) said-chain_of

    told_term : Told (Term R n) expression_said
    told_term = told_chained level.Products _ _ told_prim told_prim

    told_first : Told (FirstTerm R n) expression_said
    told_first = told_either _ _ expression_said
        (told_made _ _ _ expression_said (told_both Front _ _ expression_said (told_just (λ s. what.Sign (front_sign s)) (λ s k. tt)) told_term) (λ (p : FrontSign × Expr). said-signed p.0 p.1)) told_term

    told_sum : Told (Sum R n) expression_said
    told_sum = told_chained level.Sums _ _ told_first told_term

    told_rel : Told (Rel R n) expression_said
    told_rel = told_made compared _ _ expression_said
        (told_both _ _ expression_said _ told_sum (told_maybe _ _ (told_both RelationSign _ _ expression_said (told_just (λ r. what.Sign (relation_sign r)) (λ r k. tt)) told_sum))) said-compared

    told_and : Told (AndOp R n) expression_said
    told_and = told_either _ _ expression_said (told_made e.Not _ _ expression_said (told_sign sign.Not _ expression_said told_rel) said-not) told_rel

    told_or : Told (OrOp R n) expression_said
    told_or = told_chained level.Conjunctions _ _ told_and told_and

    told_equ : Told (Equ R n) expression_said
    told_equ = told_chained level.Disjunctions _ _ told_or told_or

    told_in : Told (ExpressionIn R n) expression_said
    told_in = told_chained level.Equivalences _ _ told_equ told_equ

pub told_inner : (n : ℕ) → Told (Inner n) expression_said
told_inner zero = record { again = λ a ts rest m. absurd m; fine = λ a ts rest m. absurd m }
told_inner (suc n) = told_in (Inner n) (told_inner n) n

pub told_expression : (n : ℕ) → Told (Expression n) expression_said
told_expression n = told_in (Inner n) (told_inner n) n

pub told_place : (n : ℕ) → Told (PlaceForm n) (place_said expression_said)
told_place n = told_place_in (Inner n) (told_inner n)

pub told_event : (n : ℕ) → Told (VariableForm n) (variable_said expression_said)
told_event n = told_variable_in (Inner n) (told_inner n)
