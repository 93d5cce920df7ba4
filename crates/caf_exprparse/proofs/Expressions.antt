-- The reader of expressions reads the grammar of expressions.
use Rattle.std.proofs.Common.{◌≡◌, ℕ, zero, suc, ◌<◌, ◌≤◌, Bool, true, false, not, ◌&&◌, ◌||◌, nat_lt, List, [], ◌∷◌, length, Option, Some, None, Ok, Err, inl, inr, refl, ap, sym, ◌∙◌, arith}
use Rattle.std.specs.Prelude.{is_some}
use Rattle.caf_lexer.specs.declared.token.Token.{Token}
use Rattle.caf_lexer.specs.declared.token.What.{What}
use Rattle.caf_lexer.specs.declared.token.What.TheVariants as what
use Rattle.caf_lexer.specs.declared.token.Sign.TheVariants as sign
use Rattle.caf_lexer.specs.declared.token.Word.{Word}
use Rattle.caf_lexer.specs.declared.token.Word.TheVariants as word
use Rattle.caf_tree.specs.declared.expr.Level.{Level}
use Rattle.caf_tree.specs.declared.expr.Level.TheVariants as level
use Rattle.caf_tree.specs.declared.expr.Operator.{Operator}
use Rattle.caf_tree.specs.declared.expr.Relation.{Relation}
use Rattle.caf_tree.specs.declared.expr.FrontSign.{FrontSign}
use Rattle.caf_tree.specs.declared.expr.Team.{Team}
use Rattle.caf_tree.specs.declared.expr.Expr.{Expr}
use Rattle.caf_tree.specs.declared.expr.Expr.TheVariants as e'
use Rattle.caf_tree.specs.Forms.{Takes, Just, Sign', Word', Name, Maybe, Both, Made, ◌▸◌, InParentheses, InBrackets, Inside}
use Rattle.caf_tree.specs.Expressions.{relation_sign, front_sign, truth_sign, or_world, place_of, variable_of, chain_of, compared, team_what, OperatorOf, RelationSign, TeamForm, PlaceIn, VariableIn, Two, TwoOrMore, TeamIn, Prim, number, truth, parenthesized, variable, remainder, absolute, least, greatest, rank, size, Chained, Term, FirstTerm, Sum, Rel, AndOp, OrOp, Equ, ExpressionIn, Inner, Expression}
use Rattle.caf_exprparse.specs.Ends.{looser, ends_expression, in_statement, bracket, opened}
use Rattle.caf_exprparse.specs.Reading.{Syntax, Deep, Outcome, Reader, optional, both, make, lead, inside, ahead, one, by_next}
use Rattle.caf_exprparse.specs.Told.{is_sign, is_word, a_name, a_number, a_truth, an_operator, a_relation, a_front, a_team, word', in_parentheses, in_brackets}
use Rattle.caf_exprparse.specs.Reader as r
use Rattle.caf_exprparse.proofs.Eats.{Eats}
use Rattle.caf_exprparse.proofs.Good.{Fits, Good, good_made, good_both, good_choice}
use Rattle.caf_exprparse.proofs.Lists.{good_then, Start, Item, tail_maybe, tail_many, tail_made, item_made, make_strict, both_strict, either_strict}
use Rattle.caf_exprparse.proofs.OneToken.{any, any_stops, one_starts, one_strict, good_one, good_just, starts_bind, strict_bind, good_before, takes_stops, good_after, not_last, item_before, next_fits_at, ahead_takes, ahead_not}
use Rattle.caf_exprparse.proofs.Told as t'

-- a form of expressions that is read so, within one statement
abbrev pub Reads' : {A : Type 0} → Type 0 → ℕ → (What → Bool) → (A → List Token → List Token → Type 0) → (A → List Token → List Token → Type 0) → Reader A → Type 0
Reads' G n S P Q p = Good in_statement bracket G n S P Q p

-- ---- what ends a form

abbrev pub but : (What → Option (Unit {0})) → What → Bool
but f w = not (is_some (f w))

abbrev pub also_but : (What → Option (Unit {0})) → What → Bool
also_but f w = ends_expression w && not (is_some (f w))

pub and_first : (a b : Bool) → (a && b) ≡ true → a ≡ true
and_first true b e = refl
and_first false b e = e

pub not_so : (b : Bool) → not b ≡ true → b ≡ false
not_so true e = sym e
not_so false e = refl

-- ---- parentheses and brackets

pub good_parentheses : {A : Type 0} {G : Type 0} {n : ℕ} (Sp S : What → Bool) → Sp (what.Sign sign.RightParenthesis) ≡ true → (P Q : A → List Token → List Token → Type 0) (p : Reader A) → Reads' G n Sp P Q p
    → Reads' G (suc n) S (InParentheses P) (InParentheses Q) (in_parentheses p)
good_parentheses {A} {G} {n} Sp S s P Q p g =
    good_before (is_sign sign.LeftParenthesis) (what.Sign sign.LeftParenthesis) (t'.a_sign sign.LeftParenthesis) in_statement refl (suc n) (omega arith) S _ _ _
    (good_after (is_sign sign.RightParenthesis) (what.Sign sign.RightParenthesis) (t'.a_sign sign.RightParenthesis) in_statement refl Sp S s P Q p g)

pub item_parentheses : {A : Type 0} {G : Type 0} {n : ℕ} (Sp : What → Bool) → Sp (what.Sign sign.RightParenthesis) ≡ true → (P Q : A → List Token → List Token → Type 0) (p : Reader A) → Reads' G n Sp P Q p
    → Item in_statement bracket G (suc n) any (but (is_sign sign.LeftParenthesis)) (λ v. is_some (is_sign sign.LeftParenthesis v)) (InParentheses P) (InParentheses Q) (in_parentheses p)
item_parentheses {A} {G} {n} Sp s P Q p g =
    item_before (is_sign sign.LeftParenthesis) (what.Sign sign.LeftParenthesis) (t'.a_sign sign.LeftParenthesis) in_statement refl (suc n) (omega arith) any (but (is_sign sign.LeftParenthesis)) _ _ _
    (good_after (is_sign sign.RightParenthesis) (what.Sign sign.RightParenthesis) (t'.a_sign sign.RightParenthesis) in_statement refl Sp any s P Q p g) refl refl (λ v e. refl)

pub item_brackets : {A : Type 0} {G : Type 0} {n : ℕ} (Sp : What → Bool) → Sp (what.Sign sign.RightBracket) ≡ true → (P Q : A → List Token → List Token → Type 0) (p : Reader A) → Reads' G n Sp P Q p
    → Item in_statement bracket G (suc n) (but (is_sign sign.LeftParenthesis)) (looser 0) (λ v. is_some (is_sign sign.LeftBracket v)) (InBrackets P) (InBrackets Q) (in_brackets p)
item_brackets {A} {G} {n} Sp s P Q p g =
    item_before (is_sign sign.LeftBracket) (what.Sign sign.LeftBracket) (t'.a_sign sign.LeftBracket) in_statement refl (suc n) (omega arith) (but (is_sign sign.LeftParenthesis)) (looser 0) _ _ _
    (good_after (is_sign sign.RightBracket) (what.Sign sign.RightBracket) (t'.a_sign sign.RightBracket) in_statement refl Sp (but (is_sign sign.LeftParenthesis)) s P Q p g)
    refl refl (λ v e. ap not (not_last (is_sign sign.LeftParenthesis) (what.Sign sign.LeftParenthesis) (t'.a_sign sign.LeftParenthesis) (looser 0) refl v e))

-- where no level is left nothing stands inside
pub good_inside : {A : Type 0} {T : What → Bool} {W : What → ℕ} (G : Type 0) (S : What → Bool) (P Q : ℕ → A → List Token → List Token → Type 0) (p : ℕ → Reader A)
    → ((n m : ℕ) → (G → m ≤ n) → Good T W G (suc n) S (P n) (Q m) (p n)) → (n m : ℕ) → (G → m ≤ n) → Good T W G n S (Inside P n) (Inside Q m) (inside p n)
good_inside {A} G S P Q p h zero m reach = record {
  sound = λ ts a rest e. absurd (let no : ◌≡◌ {A = Outcome A} (Err Deep) (Ok (a, rest)) = e in cc);
  fits = fits m reach;
  eats = λ ts a rest e. absurd (let no : ◌≡◌ {A = Outcome A} (Err Deep) (Ok (a, rest)) = e in cc);
  digs = λ ts e. omega arith;
}
  where
    fits : (m : ℕ) → (G → m ≤ 0) → (a : A) (ts rest : List Token) → Inside Q m a ts rest → Fits {A = A} G S a rest (Err Deep)
    fits zero reach a ts rest x = absurd x
    fits (suc m) reach a ts rest x = λ g s. let no : suc m ≤ 0 = reach g in absurd (omega arith)
good_inside {A} {T} {W} G S P Q p h (suc n) zero reach =
    let x : Good T W G (suc n) S (P n) (Q 0) (p n) = h n 0 (λ g. omega arith) in
    record { sound = x.sound; fits = λ a ts rest m. absurd m; eats = x.eats; digs = x.digs }
good_inside {A} {T} {W} G S P Q p h (suc n) (suc m) reach =
    let x : Good T W G (suc n) S (P n) (Q m) (p n) = h n m (λ g. let k : suc m ≤ suc n = reach g in omega arith) in
    record { sound = x.sound; fits = x.fits; eats = x.eats; digs = x.digs }

-- ---- teams

pub good_team : {T : What → Bool} {W : What → ℕ} {G : Type 0} {n : ℕ} → ((x : List ℕ) → T (what.Name x) ≡ true) → T (what.Word word.TeamWorld) ≡ true → (S : What → Bool) → Good T W G n S TeamForm TeamForm r.team
good_team {T} h k S = good_just a_team team_what t'.team_self t'.team_only T (t'.team_passes T h k) S

abbrev no_team : What → Bool
no_team w = not (is_some (a_team w))

good_perhaps_team : {G : Type 0} {n : ℕ} → Reads' G n no_team (Made or_world (Maybe TeamForm)) (Made or_world (Maybe TeamForm)) r.perhaps_team
good_perhaps_team {G} {n} = good_made no_team or_world _ _ _
    (tail_maybe in_statement bracket G n any no_team (λ w. is_some (a_team w)) TeamForm TeamForm r.team (record {
      good = good_team (λ x. refl) refl any;
      starts = one_starts a_team;
      strict = one_strict a_team;
      next = λ w e. refl;
      last = λ w e. not_so (is_some (a_team w)) e;
      weaker = λ w e. refl;
    })).good

-- ---- one level

module _ (G : Type 0) (n m : ℕ) (reach : G → m ≤ n) (R Q : Expr → List Token → List Token → Type 0) (p : Reader Expr) (g : Reads' G n ends_expression R Q p) where
  pub good_subscript : (S : What → Bool) → Reads' G (suc n) S (InParentheses R) (InParentheses Q) (r.subscript p)
  unfolding r.subscript
  good_subscript S = good_parentheses ends_expression S refl R Q p g

  pub item_subscript : Item in_statement bracket G (suc n) any (but (is_sign sign.LeftParenthesis)) (λ v. is_some (is_sign sign.LeftParenthesis v)) (InParentheses R) (InParentheses Q) (r.subscript p)
  unfolding r.subscript
  item_subscript = item_parentheses ends_expression refl R Q p g

  item_at : Item in_statement bracket G n ends_expression (also_but (is_sign sign.At)) (λ v. is_some (is_sign sign.At v)) (Sign' sign.At ▸ TeamForm) (Sign' sign.At ▸ TeamForm) r.at_team
  item_at = item_before (is_sign sign.At) (what.Sign sign.At) (t'.a_sign sign.At) {n = n} in_statement refl n (omega arith) ends_expression (also_but (is_sign sign.At)) TeamForm TeamForm r.team
      (good_team (λ x. refl) refl ends_expression) refl refl (λ v e. and_first (ends_expression v) _ e)

  good_in_brackets : Reads' G n (also_but (is_sign sign.At)) (Both R (Made or_world (Maybe (Sign' sign.At ▸ TeamForm)))) (Both Q (Made or_world (Maybe (Sign' sign.At ▸ TeamForm)))) (both p (make or_world (optional r.at_team)))
  good_in_brackets = good_then in_statement bracket G n ends_expression (also_but (is_sign sign.At)) R Q _ _ p _ g
      (tail_made in_statement bracket G n ends_expression (also_but (is_sign sign.At)) or_world _ _ _
      (tail_maybe in_statement bracket G n ends_expression (also_but (is_sign sign.At)) (λ v. is_some (is_sign sign.At v)) _ _ _ item_at))

  pub item_place : Item in_statement bracket G (suc n) (but (is_sign sign.LeftParenthesis)) (looser 0) (λ v. is_some (is_sign sign.LeftBracket v)) (PlaceIn R) (PlaceIn Q) (r.place p)
  unfolding r.place
  item_place = item_made _ _ _ place_of _ _ _ (item_brackets (also_but (is_sign sign.At)) refl _ _ _ good_in_brackets)

  pub good_variable : Reads' G (suc n) (looser 0) (VariableIn R) (VariableIn Q) (r.variable p)
  unfolding r.variable
  good_variable = good_made (looser 0) variable_of _ _ _
      (good_then in_statement bracket G (suc n) (but (is_sign sign.LeftParenthesis)) (looser 0) _ _ (Maybe (PlaceIn R)) (Maybe (PlaceIn Q)) _ _
      (good_then in_statement bracket G (suc n) any (but (is_sign sign.LeftParenthesis)) Name Name (Maybe (InParentheses R)) (Maybe (InParentheses Q)) _ _
      (good_just a_name what.Name (λ x. refl) t'.name_only in_statement (λ x. refl) any)
      (tail_maybe in_statement bracket G (suc n) any (but (is_sign sign.LeftParenthesis)) _ _ _ _ item_subscript))
      (tail_maybe in_statement bracket G (suc n) (but (is_sign sign.LeftParenthesis)) (looser 0) _ _ _ _ item_place))

  good_next_one : Reads' G n ends_expression (Sign' sign.Comma ▸ R) (Sign' sign.Comma ▸ Q) (r.next_one p)
  good_next_one = good_before (is_sign sign.Comma) (what.Sign sign.Comma) (t'.a_sign sign.Comma) in_statement refl n (omega arith) ends_expression R Q p g

  good_two : Reads' G n ends_expression (Two R) (Two Q) (r.two p)
  unfolding r.two
  good_two = good_both ends_expression ends_expression R Q _ _ p _ g good_next_one
      (λ b mid rest m. takes_stops (is_sign sign.Comma) (what.Sign sign.Comma) (t'.a_sign sign.Comma) ends_expression refl mid m.0 m.1)

  good_two_or_more : Reads' G n (also_but (is_sign sign.Comma)) (TwoOrMore R) (TwoOrMore Q) (r.two_or_more p)
  unfolding r.two_or_more
  good_two_or_more = good_then in_statement bracket G n ends_expression (also_but (is_sign sign.Comma)) (Two R) (Two Q) _ _ (r.two p) _ good_two
      (tail_many in_statement bracket G n ends_expression (also_but (is_sign sign.Comma)) (λ v. is_some (is_sign sign.Comma v)) _ _ _
      (item_before (is_sign sign.Comma) (what.Sign sign.Comma) (t'.a_sign sign.Comma) in_statement refl n (omega arith) ends_expression (also_but (is_sign sign.Comma)) R Q p g
      refl refl (λ v e. and_first (ends_expression v) _ e)))

  good_team_in : (S : What → Bool) → Reads' G (suc n) S (InParentheses (TeamIn R n)) (InParentheses (TeamIn Q m)) (r.team_in p n)
  unfolding r.team_in
  good_team_in S = good_parentheses no_team S refl _ _ _ (good_inside G no_team _ _ _ (λ k l h. good_perhaps_team) n m reach)

  -- ---- the alternatives of a primary
  word_before : {A : Type 0} (w : Word) (S : What → Bool) (P V : A → List Token → List Token → Type 0) (q : Reader A) → Reads' G (suc n) S P V q → Reads' G (suc n) S (Word' w ▸ P) (Word' w ▸ V) (lead (word' w) q)
  word_before w S P V q h = good_before (is_word w) (what.Word w) (t'.a_word w) in_statement refl (suc n) (omega arith) S P V q h

  number_good : (S : What → Bool) → Reads' G (suc n) S (Made e'.Number (Just what.Number)) (Made e'.Number (Just what.Number)) (make e'.Number (one a_number))
  number_good S = good_made S e'.Number _ _ _ (good_just a_number what.Number (λ x. refl) t'.number_only in_statement (λ x. refl) S)

  truth_good : (S : What → Bool) → Reads' G (suc n) S (Made e'.Truth (Just (λ b. what.Sign (truth_sign b)))) (Made e'.Truth (Just (λ b. what.Sign (truth_sign b)))) (make e'.Truth (one a_truth))
  truth_good S = good_made S e'.Truth _ _ _ (good_just a_truth (λ b. what.Sign (truth_sign b)) t'.truth_self t'.truth_only in_statement (λ b. refl) S)

  parenthesized_good : (S : What → Bool) → Reads' G (suc n) S (Made e'.Parenthesized (InParentheses R)) (Made e'.Parenthesized (InParentheses Q)) (make e'.Parenthesized (r.subscript p))
  parenthesized_good S = good_made S e'.Parenthesized _ _ _ (good_subscript S)

  variable_good : Reads' G (suc n) (looser 0) (Made e'.Variable (VariableIn R)) (Made e'.Variable (VariableIn Q)) (make e'.Variable (r.variable p))
  variable_good = good_made (looser 0) e'.Variable _ _ _ good_variable

  mod_good : (S : What → Bool) → Reads' G (suc n) S (Made (λ (c : Expr × Expr). e'.Mod c.0 c.1) (Word' word.Mod ▸ InParentheses (Two R))) (Made (λ (c : Expr × Expr). e'.Mod c.0 c.1) (Word' word.Mod ▸ InParentheses (Two Q)))
      (make (λ c. e'.Mod c.0 c.1) (lead (word' word.Mod) (in_parentheses (r.two p))))
  mod_good S = good_made S _ _ _ _ (word_before word.Mod S _ _ _ (good_parentheses ends_expression S refl _ _ _ good_two))

  abs_good : (S : What → Bool) → Reads' G (suc n) S (Made e'.Abs (Word' word.Abs ▸ InParentheses R)) (Made e'.Abs (Word' word.Abs ▸ InParentheses Q)) (make e'.Abs (lead (word' word.Abs) (r.subscript p)))
  abs_good S = good_made S e'.Abs _ _ _ (word_before word.Abs S _ _ _ (good_subscript S))

  more_good : (w : Word) (f : (Expr × Expr) × List Expr → Expr) (S : What → Bool) → Reads' G (suc n) S (Made f (Word' w ▸ InParentheses (TwoOrMore R))) (Made f (Word' w ▸ InParentheses (TwoOrMore Q)))
      (make f (lead (word' w) (in_parentheses (r.two_or_more p))))
  more_good w f S = good_made S f _ _ _ (word_before w S _ _ _ (good_parentheses (also_but (is_sign sign.Comma)) S refl _ _ _ good_two_or_more))

  team_good : (w : Word) (f : Team → Expr) (S : What → Bool) → Reads' G (suc n) S (Made f (Word' w ▸ InParentheses (TeamIn R n))) (Made f (Word' w ▸ InParentheses (TeamIn Q m))) (make f (lead (word' w) (r.team_in p n)))
  team_good w f S = good_made S f _ _ _ (word_before w S _ _ _ (good_team_in S))

  prim_sound : (w : What) (ts : List Token) (x : Expr) (rest : List Token) → r.prim_by p n w ts ≡ Ok (x, rest) → Prim R n x ts rest × Eats in_statement ts rest
  prim_sound (what.Number c) ts x rest e = (number ((number_good (looser 0)).sound ts x rest e), (number_good (looser 0)).eats ts x rest e)
  prim_sound (what.Name c) ts x rest e = (variable (variable_good.sound ts x rest e), variable_good.eats ts x rest e)
  prim_sound (what.Sign sign.True) ts x rest e = (truth ((truth_good (looser 0)).sound ts x rest e), (truth_good (looser 0)).eats ts x rest e)
  prim_sound (what.Sign sign.False) ts x rest e = (truth ((truth_good (looser 0)).sound ts x rest e), (truth_good (looser 0)).eats ts x rest e)
  prim_sound (what.Sign sign.LeftParenthesis) ts x rest e = (parenthesized ((parenthesized_good (looser 0)).sound ts x rest e), (parenthesized_good (looser 0)).eats ts x rest e)
  prim_sound (what.Word word.Mod) ts x rest e = (remainder ((mod_good (looser 0)).sound ts x rest e), (mod_good (looser 0)).eats ts x rest e)
  prim_sound (what.Word word.Abs) ts x rest e = (absolute ((abs_good (looser 0)).sound ts x rest e), (abs_good (looser 0)).eats ts x rest e)
  prim_sound (what.Word word.Min) ts x rest e = (least ((more_good word.Min _ (looser 0)).sound ts x rest e), (more_good word.Min _ (looser 0)).eats ts x rest e)
  prim_sound (what.Word word.Max) ts x rest e = (greatest ((more_good word.Max _ (looser 0)).sound ts x rest e), (more_good word.Max _ (looser 0)).eats ts x rest e)
  prim_sound (what.Word word.TeamRank) ts x rest e = (rank ((team_good word.TeamRank e'.TeamRank (looser 0)).sound ts x rest e), (team_good word.TeamRank e'.TeamRank (looser 0)).eats ts x rest e)
  prim_sound (what.Word word.TeamSize) ts x rest e = (size ((team_good word.TeamSize e'.TeamSize (looser 0)).sound ts x rest e), (team_good word.TeamSize e'.TeamSize (looser 0)).eats ts x rest e)
  prim_sound _ ts x rest e = absurd (let no : ◌≡◌ {A = Outcome Expr} (Err Syntax) (Ok (x, rest)) = e in cc)

  prim_digs : (w : What) (ts : List Token) → r.prim_by p n w ts ≡ Err Deep → suc n ≤ opened in_statement bracket ts
  prim_digs (what.Number c) ts e = (number_good (looser 0)).digs ts e
  prim_digs (what.Name c) ts e = variable_good.digs ts e
  prim_digs (what.Sign sign.True) ts e = (truth_good (looser 0)).digs ts e
  prim_digs (what.Sign sign.False) ts e = (truth_good (looser 0)).digs ts e
  prim_digs (what.Sign sign.LeftParenthesis) ts e = (parenthesized_good (looser 0)).digs ts e
  prim_digs (what.Word word.Mod) ts e = (mod_good (looser 0)).digs ts e
  prim_digs (what.Word word.Abs) ts e = (abs_good (looser 0)).digs ts e
  prim_digs (what.Word word.Min) ts e = (more_good word.Min (λ c. e'.Min c.0.0 c.0.1 c.1) (looser 0)).digs ts e
  prim_digs (what.Word word.Max) ts e = (more_good word.Max (λ c. e'.Max c.0.0 c.0.1 c.1) (looser 0)).digs ts e
  prim_digs (what.Word word.TeamRank) ts e = (team_good word.TeamRank e'.TeamRank (looser 0)).digs ts e
  prim_digs (what.Word word.TeamSize) ts e = (team_good word.TeamSize e'.TeamSize (looser 0)).digs ts e
  prim_digs _ ts e = absurd (let no : ◌≡◌ {A = Outcome Expr} (Err Syntax) (Err Deep) = e in cc)

  next_sound : (ts : List Token) (x : Expr) (rest : List Token) → by_next (r.prim_by p n) ts ≡ Ok (x, rest) → Prim R n x ts rest × Eats in_statement ts rest
  next_sound [] x rest e = absurd (let no : ◌≡◌ {A = Outcome Expr} (Err Syntax) (Ok (x, rest)) = e in cc)
  next_sound (t ∷ ts) x rest e = prim_sound t.what (t ∷ ts) x rest e

  next_digs : (ts : List Token) → by_next (r.prim_by p n) ts ≡ Err Deep → suc n ≤ opened in_statement bracket ts
  next_digs [] e = absurd (let no : ◌≡◌ {A = Outcome Expr} (Err Syntax) (Err Deep) = e in cc)
  next_digs (t ∷ ts) e = prim_digs t.what (t ∷ ts) e

  truth_at : (b : Bool) (x : Expr) (ts rest us : List Token) → Takes (what.Sign (truth_sign b)) ts us → Fits G (looser 0) x rest (make e'.Truth (one a_truth) ts) → Fits G (looser 0) x rest (by_next (r.prim_by p n) ts)
  truth_at true x ts rest us m f = next_fits_at G (looser 0) (r.prim_by p n) (what.Sign sign.True) x ts rest us m f
  truth_at false x ts rest us m f = next_fits_at G (looser 0) (r.prim_by p n) (what.Sign sign.False) x ts rest us m f

  prim_fits : (x : Expr) (ts rest : List Token) → Prim Q m x ts rest → Fits G (looser 0) x rest (by_next (r.prim_by p n) ts)
  prim_fits x ts rest (number c) = next_fits_at G (looser 0) (r.prim_by p n) (what.Number c.0) x ts rest _ c.2 ((number_good (looser 0)).fits x ts rest c)
  prim_fits x ts rest (truth c) = truth_at c.0 x ts rest _ c.2 ((truth_good (looser 0)).fits x ts rest c)
  prim_fits x ts rest (parenthesized c) = next_fits_at G (looser 0) (r.prim_by p n) (what.Sign sign.LeftParenthesis) x ts rest _ c.2.1 ((parenthesized_good (looser 0)).fits x ts rest c)
  prim_fits x ts rest (variable c) = next_fits_at G (looser 0) (r.prim_by p n) (what.Name c.2.0.0.0) x ts rest _ c.2.2.1.1 (variable_good.fits x ts rest c)
  prim_fits x ts rest (remainder c) = next_fits_at G (looser 0) (r.prim_by p n) (what.Word word.Mod) x ts rest _ c.2.1 ((mod_good (looser 0)).fits x ts rest c)
  prim_fits x ts rest (absolute c) = next_fits_at G (looser 0) (r.prim_by p n) (what.Word word.Abs) x ts rest _ c.2.1 ((abs_good (looser 0)).fits x ts rest c)
  prim_fits x ts rest (least c) = next_fits_at G (looser 0) (r.prim_by p n) (what.Word word.Min) x ts rest _ c.2.1 ((more_good word.Min _ (looser 0)).fits x ts rest c)
  prim_fits x ts rest (greatest c) = next_fits_at G (looser 0) (r.prim_by p n) (what.Word word.Max) x ts rest _ c.2.1 ((more_good word.Max _ (looser 0)).fits x ts rest c)
  prim_fits x ts rest (rank c) = next_fits_at G (looser 0) (r.prim_by p n) (what.Word word.TeamRank) x ts rest _ c.2.1 ((team_good word.TeamRank _ (looser 0)).fits x ts rest c)
  prim_fits x ts rest (size c) = next_fits_at G (looser 0) (r.prim_by p n) (what.Word word.TeamSize) x ts rest _ c.2.1 ((team_good word.TeamSize _ (looser 0)).fits x ts rest c)

  good_prim : Reads' G (suc n) (looser 0) (Prim R n) (Prim Q m) (r.prim p n)
  unfolding r.prim
  good_prim = record {
    sound = λ ts x rest e. (next_sound ts x rest e).0;
    fits = prim_fits;
    eats = λ ts x rest e. (next_sound ts x rest e).1;
    digs = next_digs;
  }

  -- a primary takes a token at least
  prim_by_strict : (w : What) (ts : List Token) (x : Expr) (rest : List Token) → r.prim_by p n w ts ≡ Ok (x, rest) → length rest < length ts
  unfolding r.variable r.subscript
  prim_by_strict (what.Number c) = make_strict e'.Number _ (one_strict a_number)
  prim_by_strict (what.Name c) = make_strict e'.Variable _ (make_strict variable_of _ (both_strict in_statement _ _ (both_strict in_statement _ _ (one_strict a_name)
      (tail_maybe in_statement bracket G (suc n) any (but (is_sign sign.LeftParenthesis)) _ _ _ _ item_subscript).good.eats)
      (tail_maybe in_statement bracket G (suc n) (but (is_sign sign.LeftParenthesis)) (looser 0) _ _ _ _ item_place).good.eats))
  prim_by_strict (what.Sign sign.True) = make_strict e'.Truth _ (one_strict a_truth)
  prim_by_strict (what.Sign sign.False) = make_strict e'.Truth _ (one_strict a_truth)
  prim_by_strict (what.Sign sign.LeftParenthesis) = make_strict e'.Parenthesized _ item_subscript.strict
  prim_by_strict (what.Word word.Mod) = make_strict _ _ (strict_bind in_statement (is_word word.Mod) _ (λ _. (good_parentheses ends_expression any refl _ _ _ good_two).eats))
  prim_by_strict (what.Word word.Abs) = make_strict _ _ (strict_bind in_statement (is_word word.Abs) _ (λ _. (good_subscript any).eats))
  prim_by_strict (what.Word word.Min) = make_strict _ _ (strict_bind in_statement (is_word word.Min) _ (λ _. (good_parentheses (also_but (is_sign sign.Comma)) any refl _ _ _ good_two_or_more).eats))
  prim_by_strict (what.Word word.Max) = make_strict _ _ (strict_bind in_statement (is_word word.Max) _ (λ _. (good_parentheses (also_but (is_sign sign.Comma)) any refl _ _ _ good_two_or_more).eats))
  prim_by_strict (what.Word word.TeamRank) = make_strict _ _ (strict_bind in_statement (is_word word.TeamRank) _ (λ _. (good_team_in any).eats))
  prim_by_strict (what.Word word.TeamSize) = make_strict _ _ (strict_bind in_statement (is_word word.TeamSize) _ (λ _. (good_team_in any).eats))
  prim_by_strict _ = λ ts x rest e. absurd (let no : ◌≡◌ {A = Outcome Expr} (Err Syntax) (Ok (x, rest)) = e in cc)

  prim_strict : (ts : List Token) (x : Expr) (rest : List Token) → r.prim p n ts ≡ Ok (x, rest) → length rest < length ts
  unfolding r.prim
  prim_strict [] x rest e = absurd (let no : ◌≡◌ {A = Outcome Expr} (Err Syntax) (Ok (x, rest)) = e in cc)
  prim_strict (t ∷ ts) x rest e = prim_by_strict t.what (t ∷ ts) x rest e

-- ---- operators

operator_reads : (l : Level) (o : Operator) (ts rest : List Token) → OperatorOf l o ts rest → (t : Token) × (ts ≡ t ∷ rest) × (an_operator l t.what ≡ Some o)
operator_reads l o [] rest m = absurd m.1
operator_reads l o (t ∷ ts) rest m = (t, ap (λ us. t ∷ us) m.1.1, ap (an_operator l) m.1.0 ∙ t'.operator_is l o m.0)

good_operator : {G : Type 0} {n : ℕ} (l : Level) (S : What → Bool) → Reads' G n S (OperatorOf l) (OperatorOf l) (one (an_operator l))
good_operator l S = good_one (an_operator l) in_statement (OperatorOf l) (t'.operator_passes in_statement (λ s. refl) l)
    (λ t ts a e. let k = t'.operator_only l t.what a e in (k.1, (k.0, refl))) (operator_reads l) S

operator_next : (l : Level) (k : ℕ) → k < t'.rank l → (w : What) → is_some (an_operator l w) ≡ true → looser k w ≡ true
operator_next l k h w e = go (an_operator l w) refl
  where
    go : (o : Option Operator) → an_operator l w ≡ o → looser k w ≡ true
    go (Some o) f = ap (nat_lt k) (t'.operator_rank l w o f) ∙ t'.below_is (t'.rank l) k h
    go None f = absurd (let no : ◌≡◌ {A = Bool} false true = sym (ap is_some f) ∙ e in cc)

operator_last : (l : Level) (w : What) → looser (t'.rank l) w ≡ true → is_some (an_operator l w) ≡ false
operator_last l w e = go (an_operator l w) refl
  where
    go : (o : Option Operator) → an_operator l w ≡ o → is_some (an_operator l w) ≡ false
    go (Some o) f = absurd (t'.not_below_itself (t'.rank l) (sym (ap (nat_lt (t'.rank l)) (t'.operator_rank l w o f)) ∙ e))
    go None f = ap is_some f

relation_next : (w : What) → is_some (a_relation w) ≡ true → looser 2 w ≡ true
relation_next w e = go (a_relation w) refl
  where
    go : (o : Option Relation) → a_relation w ≡ o → looser 2 w ≡ true
    go (Some o) f = ap (nat_lt 2) (t'.relation_rank w o f)
    go None f = absurd (let no : ◌≡◌ {A = Bool} false true = sym (ap is_some f) ∙ e in cc)

relation_last : (w : What) → looser 3 w ≡ true → is_some (a_relation w) ≡ false
relation_last w e = go (a_relation w) refl
  where
    go : (o : Option Relation) → a_relation w ≡ o → is_some (a_relation w) ≡ false
    go (Some o) f = absurd (let no : ◌≡◌ {A = Bool} false true = sym (ap (nat_lt 3) (t'.relation_rank w o f)) ∙ e in cc)
    go None f = ap is_some f

-- ---- with what an expression begins

abbrev pub begins_prim : What → Bool
begins_prim (what.Number c) = true
begins_prim (what.Name c) = true
begins_prim (what.Sign sign.True) = true
begins_prim (what.Sign sign.False) = true
begins_prim (what.Sign sign.LeftParenthesis) = true
begins_prim (what.Word word.Mod) = true
begins_prim (what.Word word.Abs) = true
begins_prim (what.Word word.Min) = true
begins_prim (what.Word word.Max) = true
begins_prim (what.Word word.TeamRank) = true
begins_prim (what.Word word.TeamSize) = true
begins_prim _ = false

abbrev pub begins_rel : What → Bool
begins_rel w = begins_prim w || is_some (a_front w)

no_front : (w : What) → begins_prim w ≡ true → is_some (a_front w) ≡ false
no_front (what.Sign sign.Plus) e = cc
no_front (what.Sign sign.Minus) e = cc
no_front _ e = refl

no_not : (w : What) → begins_rel w ≡ true → is_some (is_sign sign.Not w) ≡ false
no_not (what.Sign sign.Not) e = cc
no_not _ e = refl

or_first : (a b : Bool) → a ≡ true → (a || b) ≡ true
or_first a b e = ap (λ x. x || b) e

or_second : (a b : Bool) → b ≡ true → (a || b) ≡ true
or_second true b e = refl
or_second false b e = e

truth_begins : (b : Bool) → begins_prim (what.Sign (truth_sign b)) ≡ true
truth_begins true = refl
truth_begins false = refl

wider : (ts : List Token) → ahead begins_prim ts ≡ true → ahead begins_rel ts ≡ true
wider [] e = e
wider (t ∷ ts) e = or_first (begins_prim t.what) _ e

front_ahead : (s : FrontSign) (ts rest : List Token) → Takes (what.Sign (front_sign s)) ts rest → ahead (λ w. is_some (a_front w)) ts ≡ true
front_ahead s ts rest m = ahead_takes (λ w. is_some (a_front w)) (what.Sign (front_sign s)) ts rest (ap is_some (t'.front_self s)) m

front_begins : (ts : List Token) → ahead (λ w. is_some (a_front w)) ts ≡ true → ahead begins_rel ts ≡ true
front_begins [] e = e
front_begins (t ∷ ts) e = or_second (begins_prim t.what) _ e

module _ (n : ℕ) (R : Expr → List Token → List Token → Type 0) where
  prim_begins : (x : Expr) (ts rest : List Token) → Prim R n x ts rest → ahead begins_prim ts ≡ true
  prim_begins x ts rest (number m) = ahead_takes begins_prim (what.Number m.0) ts _ refl m.2
  prim_begins x ts rest (truth m) = ahead_takes begins_prim (what.Sign (truth_sign m.0)) ts _ (truth_begins m.0) m.2
  prim_begins x ts rest (parenthesized m) = ahead_takes begins_prim (what.Sign sign.LeftParenthesis) ts _ refl m.2.1
  prim_begins x ts rest (variable m) = ahead_takes begins_prim (what.Name m.2.0.0.0) ts _ refl m.2.2.1.1
  prim_begins x ts rest (remainder m) = ahead_takes begins_prim (what.Word word.Mod) ts _ refl m.2.1
  prim_begins x ts rest (absolute m) = ahead_takes begins_prim (what.Word word.Abs) ts _ refl m.2.1
  prim_begins x ts rest (least m) = ahead_takes begins_prim (what.Word word.Min) ts _ refl m.2.1
  prim_begins x ts rest (greatest m) = ahead_takes begins_prim (what.Word word.Max) ts _ refl m.2.1
  prim_begins x ts rest (rank m) = ahead_takes begins_prim (what.Word word.TeamRank) ts _ refl m.2.1
  prim_begins x ts rest (size m) = ahead_takes begins_prim (what.Word word.TeamSize) ts _ refl m.2.1

  term_begins : (x : Expr) (ts rest : List Token) → Term R n x ts rest → ahead begins_prim ts ≡ true
  term_begins x ts rest m = prim_begins m.0.0 ts _ m.2.1

  first_begins : (x : Expr) (ts rest : List Token) → FirstTerm R n x ts rest → ahead begins_rel ts ≡ true
  first_begins x ts rest (inl m) = front_begins ts (front_ahead m.0.0 ts _ m.2.1)
  first_begins x ts rest (inr m) = wider ts (term_begins x ts rest m)

  rel_begins : (x : Expr) (ts rest : List Token) → Rel R n x ts rest → ahead begins_rel ts ≡ true
  rel_begins x ts rest m = first_begins m.2.1.0.0 ts _ m.2.1.2.1

module _ (G : Type 0) (n m : ℕ) (reach : G → m ≤ n) (R Q : Expr → List Token → List Token → Type 0) (p : Reader Expr) (g : Reads' G n ends_expression R Q p) where
  item_operand : (l : Level) (k : ℕ) → k < t'.rank l → (Next Next' : Expr → List Token → List Token → Type 0) (q : Reader Expr) → Reads' G (suc n) (looser k) Next Next' q
      → Item in_statement bracket G (suc n) (looser k) (looser (t'.rank l)) (λ w. is_some (an_operator l w)) (Both (OperatorOf l) Next) (Both (OperatorOf l) Next') (r.operand p n l q)
  item_operand l k h Next Next' q gn = record {
    good = good_both any (looser k) (OperatorOf l) (OperatorOf l) Next Next' _ q (good_operator l any) gn (λ b mid rest x. any_stops mid);
    starts = starts_bind (an_operator l) _;
    strict = strict_bind in_statement (an_operator l) _ (λ o. (good_made (looser k) (λ x. (o, x)) Next Next' q gn).eats);
    next = operator_next l k h;
    last = operator_last l;
    weaker = t'.lower (t'.rank l) k h;
  }

  good_chained : (l : Level) (k : ℕ) → k < t'.rank l → (First First' Next Next' : Expr → List Token → List Token → Type 0) (f q : Reader Expr)
      → Reads' G (suc n) (looser k) First First' f → Reads' G (suc n) (looser k) Next Next' q
      → Reads' G (suc n) (looser (t'.rank l)) (Chained R n l First Next) (Chained Q m l First' Next') (r.chained p n l f q)
  unfolding r.chained
  good_chained l k h First First' Next Next' f q gf gn =
      good_made (looser (t'.rank l)) chain_of _ _ _ (good_then in_statement bracket G (suc n) (looser k) (looser (t'.rank l)) First First' _ _ f _ gf
      (tail_many in_statement bracket G (suc n) (looser k) (looser (t'.rank l)) (λ w. is_some (an_operator l w)) _ _ _ (item_operand l k h Next Next' q gn)))

  good_term : Reads' G (suc n) (looser 1) (Term R n) (Term Q m) (r.term p n)
  unfolding r.term
  good_term = good_chained level.Products 0 (omega arith) _ _ _ _ _ _ (good_prim G n m reach R Q p g) (good_prim G n m reach R Q p g)

  good_first_term : Reads' G (suc n) (looser 1) (FirstTerm R n) (FirstTerm Q m) (r.first_term p n)
  unfolding r.first_term
  good_first_term = good_choice (looser 1) (ahead (λ w. is_some (a_front w))) _ _ _ _ _ _
      (good_made (looser 1) (λ c. e'.Signed c.0 c.1) _ _ _
      (good_both any (looser 1) _ _ _ _ _ (r.term p n) (good_just a_front (λ s. what.Sign (front_sign s)) t'.front_self t'.front_only in_statement (λ s. refl) any) good_term (λ b mid rest x. any_stops mid)))
      good_term (λ x ts rest c. front_ahead c.0.0 ts _ c.2.1) (λ x ts rest c. ahead_not begins_prim _ no_front ts (term_begins m Q x ts rest c))

  good_sum : Reads' G (suc n) (looser 2) (Sum R n) (Sum Q m) (r.sum p n)
  unfolding r.sum
  good_sum = good_chained level.Sums 1 (omega arith) _ _ _ _ _ _ good_first_term good_term

  item_compared : Item in_statement bracket G (suc n) (looser 2) (looser 3) (λ w. is_some (a_relation w)) (Both RelationSign (Sum R n)) (Both RelationSign (Sum Q m)) (both (one a_relation) (r.sum p n))
  item_compared = record {
    good = good_both any (looser 2) _ _ _ _ _ (r.sum p n) (good_just a_relation (λ s. what.Sign (relation_sign s)) t'.relation_self t'.relation_only in_statement (λ s. refl) any) good_sum (λ b mid rest x. any_stops mid);
    starts = starts_bind a_relation _;
    strict = strict_bind in_statement a_relation _ (λ o. (good_made (looser 2) (λ x. (o, x)) _ _ (r.sum p n) good_sum).eats);
    next = relation_next;
    last = relation_last;
    weaker = t'.lower 3 2 (omega arith);
  }

  good_rel : Reads' G (suc n) (looser 3) (Rel R n) (Rel Q m) (r.rel p n)
  unfolding r.rel
  good_rel = good_made (looser 3) compared _ _ _ (good_then in_statement bracket G (suc n) (looser 2) (looser 3) _ _ _ _ (r.sum p n) _ good_sum
      (tail_maybe in_statement bracket G (suc n) (looser 2) (looser 3) (λ w. is_some (a_relation w)) _ _ (both (one a_relation) (r.sum p n)) item_compared))

  good_and_op : Reads' G (suc n) (looser 3) (AndOp R n) (AndOp Q m) (r.and_op p n)
  unfolding r.and_op
  good_and_op = good_choice (looser 3) (ahead (λ w. is_some (is_sign sign.Not w))) _ _ _ _ _ _
      (good_made (looser 3) e'.Not _ _ _ (good_before (is_sign sign.Not) (what.Sign sign.Not) (t'.a_sign sign.Not) in_statement refl (suc n) (omega arith) (looser 3) _ _ (r.rel p n) good_rel))
      good_rel (λ x ts rest c. ahead_takes (λ w. is_some (is_sign sign.Not w)) (what.Sign sign.Not) ts _ refl c.2.1)
      (λ x ts rest c. ahead_not begins_rel _ no_not ts (rel_begins m Q x ts rest c))

  good_or_op : Reads' G (suc n) (looser 4) (OrOp R n) (OrOp Q m) (r.or_op p n)
  unfolding r.or_op
  good_or_op = good_chained level.Conjunctions 3 (omega arith) _ _ _ _ _ _ good_and_op good_and_op

  good_equ : Reads' G (suc n) (looser 5) (Equ R n) (Equ Q m) (r.equ p n)
  unfolding r.equ
  good_equ = good_chained level.Disjunctions 4 (omega arith) _ _ _ _ _ _ good_or_op good_or_op

  pub good_expression_in : Reads' G (suc n) ends_expression (ExpressionIn R n) (ExpressionIn Q m) (r.expression_in p n)
  unfolding r.expression_in
  good_expression_in = good_chained level.Equivalences 5 (omega arith) _ _ _ _ _ _ good_equ good_equ

  -- ---- an expression takes a token at least

  chained_strict : (l : Level) (k : ℕ) → k < t'.rank l → (Next Next' : Expr → List Token → List Token → Type 0) (f q : Reader Expr)
      → ((ts : List Token) (x : Expr) (rest : List Token) → f ts ≡ Ok (x, rest) → length rest < length ts) → Reads' G (suc n) (looser k) Next Next' q
      → (ts : List Token) (x : Expr) (rest : List Token) → r.chained p n l f q ts ≡ Ok (x, rest) → length rest < length ts
  unfolding r.chained
  chained_strict l k h Next Next' f q s gn = make_strict chain_of _ (both_strict in_statement f _ s
      (tail_many in_statement bracket G (suc n) (looser k) (looser (t'.rank l)) (λ w. is_some (an_operator l w)) _ _ _ (item_operand l k h Next Next' q gn)).good.eats)

  term_strict : (ts : List Token) (x : Expr) (rest : List Token) → r.term p n ts ≡ Ok (x, rest) → length rest < length ts
  unfolding r.term
  term_strict = chained_strict level.Products 0 (omega arith) _ _ _ _ (prim_strict G n m reach R Q p g) (good_prim G n m reach R Q p g)

  first_strict : (ts : List Token) (x : Expr) (rest : List Token) → r.first_term p n ts ≡ Ok (x, rest) → length rest < length ts
  unfolding r.first_term
  first_strict = either_strict (λ w. is_some (a_front w)) _ _ (make_strict _ _ (strict_bind in_statement a_front _ (λ o. (good_made (looser 1) (λ x. (o, x)) _ _ (r.term p n) good_term).eats))) term_strict

  sum_strict : (ts : List Token) (x : Expr) (rest : List Token) → r.sum p n ts ≡ Ok (x, rest) → length rest < length ts
  unfolding r.sum
  sum_strict = chained_strict level.Sums 1 (omega arith) _ _ _ _ first_strict good_term

  rel_strict : (ts : List Token) (x : Expr) (rest : List Token) → r.rel p n ts ≡ Ok (x, rest) → length rest < length ts
  unfolding r.rel
  rel_strict = make_strict compared _ (both_strict in_statement _ _ sum_strict (tail_maybe in_statement bracket G (suc n) (looser 2) (looser 3) (λ w. is_some (a_relation w)) _ _ _ item_compared).good.eats)

  and_strict : (ts : List Token) (x : Expr) (rest : List Token) → r.and_op p n ts ≡ Ok (x, rest) → length rest < length ts
  unfolding r.and_op
  and_strict = either_strict (λ w. is_some (is_sign sign.Not w)) _ _ (make_strict _ _ (strict_bind in_statement (is_sign sign.Not) _ (λ _. good_rel.eats))) rel_strict

  or_strict : (ts : List Token) (x : Expr) (rest : List Token) → r.or_op p n ts ≡ Ok (x, rest) → length rest < length ts
  unfolding r.or_op
  or_strict = chained_strict level.Conjunctions 3 (omega arith) _ _ _ _ and_strict good_and_op

  equ_strict : (ts : List Token) (x : Expr) (rest : List Token) → r.equ p n ts ≡ Ok (x, rest) → length rest < length ts
  unfolding r.equ
  equ_strict = chained_strict level.Disjunctions 4 (omega arith) _ _ _ _ or_strict good_or_op

  pub expression_in_strict : (ts : List Token) (x : Expr) (rest : List Token) → r.expression_in p n ts ≡ Ok (x, rest) → length rest < length ts
  unfolding r.expression_in
  expression_in_strict = chained_strict level.Equivalences 5 (omega arith) _ _ _ _ equ_strict good_equ

-- ---- with what an expression begins, for its reader

abbrev pub begins_expression : What → Bool
begins_expression w = begins_rel w || is_some (is_sign sign.Not w)

neither : (a b : Bool) → (a || b) ≡ false → (a ≡ false) × (b ≡ false)
neither true b e = absurd (let no : ◌≡◌ {A = Bool} true false = e in cc)
neither false b e = (refl, e)

neither_ahead : (A B : What → Bool) (ts : List Token) → ahead (λ w. A w || B w) ts ≡ false → (ahead A ts ≡ false) × (ahead B ts ≡ false)
neither_ahead A B [] e = (refl, refl)
neither_ahead A B (t ∷ ts) e = neither (A t.what) (B t.what) e

module _ (p : Reader Expr) (n : ℕ) where
  prim_by_starts : (w : What) (ts : List Token) → begins_prim w ≡ false → r.prim_by p n w ts ≡ Err Syntax
  prim_by_starts (what.Number c) ts e = cc
  prim_by_starts (what.Name c) ts e = cc
  prim_by_starts (what.Sign sign.True) ts e = cc
  prim_by_starts (what.Sign sign.False) ts e = cc
  prim_by_starts (what.Sign sign.LeftParenthesis) ts e = cc
  prim_by_starts (what.Word word.Mod) ts e = cc
  prim_by_starts (what.Word word.Abs) ts e = cc
  prim_by_starts (what.Word word.Min) ts e = cc
  prim_by_starts (what.Word word.Max) ts e = cc
  prim_by_starts (what.Word word.TeamRank) ts e = cc
  prim_by_starts (what.Word word.TeamSize) ts e = cc
  prim_by_starts _ ts e = refl

  prim_starts : (ts : List Token) → ahead begins_prim ts ≡ false → r.prim p n ts ≡ Err Syntax
  unfolding r.prim
  prim_starts [] e = refl
  prim_starts (t ∷ ts) e = prim_by_starts t.what (t ∷ ts) e

  chained_starts : (l : Level) (f q : Reader Expr) (ts : List Token) → f ts ≡ Err Syntax → r.chained p n l f q ts ≡ Err Syntax
  unfolding r.chained
  chained_starts l f q ts e = rw e refl

  term_starts : (ts : List Token) → ahead begins_prim ts ≡ false → r.term p n ts ≡ Err Syntax
  unfolding r.term
  term_starts ts e = chained_starts level.Products _ _ ts (prim_starts ts e)

  sum_starts : (ts : List Token) → ahead begins_rel ts ≡ false → r.sum p n ts ≡ Err Syntax
  unfolding r.sum r.first_term
  sum_starts ts e =
      let k = neither_ahead begins_prim (λ w. is_some (a_front w)) ts e in
      chained_starts level.Sums _ _ ts (rw k.1 (term_starts ts k.0))

  rel_starts : (ts : List Token) → ahead begins_rel ts ≡ false → r.rel p n ts ≡ Err Syntax
  unfolding r.rel
  rel_starts ts e = rw (sum_starts ts e) refl

  pub expression_in_starts : (ts : List Token) → ahead begins_expression ts ≡ false → r.expression_in p n ts ≡ Err Syntax
  unfolding r.expression_in r.equ r.or_op r.and_op
  expression_in_starts ts e =
      let k = neither_ahead begins_rel (λ w. is_some (is_sign sign.Not w)) ts e in
      chained_starts level.Equivalences _ _ ts (chained_starts level.Disjunctions _ _ ts (chained_starts level.Conjunctions _ _ ts (rw k.1 (rel_starts ts k.0))))

-- ---- the knot

-- What is read is spelled to the reader's depth. What is spelled to any depth is read where nothing that comes next
-- could go on, unless it needs more levels than the reader has.
pub good_inner : (G : Type 0) (n m : ℕ) → (G → m ≤ n) → Reads' G n ends_expression (Inner n) (Inner m) (r.inner n)
unfolding r.inner
good_inner G zero m reach = record {
  sound = λ ts a rest e. absurd (let no : ◌≡◌ {A = Outcome Expr} (Err Deep) (Ok (a, rest)) = e in cc);
  fits = fits m reach;
  eats = λ ts a rest e. absurd (let no : ◌≡◌ {A = Outcome Expr} (Err Deep) (Ok (a, rest)) = e in cc);
  digs = λ ts e. omega arith;
}
  where
    fits : (m : ℕ) → (G → m ≤ 0) → (a : Expr) (ts rest : List Token) → Inner m a ts rest → Fits {A = Expr} G ends_expression a rest (Err Deep)
    fits zero reach a ts rest x = absurd x
    fits (suc m) reach a ts rest x = λ g s. let no : suc m ≤ 0 = reach g in absurd (omega arith)
good_inner G (suc n) zero reach =
    let x : Reads' G (suc n) ends_expression (ExpressionIn (Inner n) n) (ExpressionIn (Inner 0) 0) (r.expression_in (r.inner n) n) =
    good_expression_in G n 0 (λ g. omega arith) (Inner n) (Inner 0) (r.inner n) (good_inner G n 0 (λ g. omega arith)) in
    record { sound = x.sound; fits = λ a ts rest m. absurd m; eats = x.eats; digs = x.digs }
good_inner G (suc n) (suc m) reach =
    let less : G → m ≤ n = λ g. let k : suc m ≤ suc n = reach g in omega arith in
    good_expression_in G n m less (Inner n) (Inner m) (r.inner n) (good_inner G n m less)

pub good_expression : (G : Type 0) (n m : ℕ) → (G → m ≤ n) → Reads' G (suc n) ends_expression (Expression n) (Expression m) (r.expression n)
good_expression G n m reach = good_expression_in G n m reach (Inner n) (Inner m) (r.inner n) (good_inner G n m reach)

-- an expression that may be there or not, where S is what comes behind it
pub start_expression : (G : Type 0) (n m : ℕ) → (G → m ≤ n) → (S : What → Bool) → ((w : What) → S w ≡ true → begins_expression w ≡ false) → ((w : What) → S w ≡ true → ends_expression w ≡ true)
    → Start in_statement bracket G (suc n) ends_expression S begins_expression (Expression n) (Expression m) (r.expression n)
start_expression G n m reach S last weak = record {
  good = good_expression G n m reach;
  starts = expression_in_starts (r.inner n) n;
  strict = expression_in_strict G n m reach (Inner n) (Inner m) (r.inner n) (good_inner G n m reach);
  last = last;
  weaker = weak;
}
