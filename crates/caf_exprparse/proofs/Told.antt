-- Which token each test is passed by.
use Rattle.std.proofs.Common.{◌≡◌, ℕ, ℤ, ◌<◌, Bool, true, false, nat_lt, List, Option, Some, None, refl, ap, sym, ◌∙◌, arith}
use Rattle.std.proofs.lemmas.Bool.Decides.{nat_tests}
use denote.Enum.Bare.{sameb, same_true, true_same}
use Rattle.caf_lexer.specs.contracts.token.Sign as signs
use Rattle.caf_lexer.specs.contracts.token.Word as words
use Rattle.caf_lexer.specs.declared.token.What.{What}
use Rattle.caf_lexer.specs.declared.token.What.TheVariants as what
use Rattle.caf_lexer.specs.declared.token.Sign.{Sign}
use Rattle.caf_lexer.specs.declared.token.Sign.TheVariants as sign
use Rattle.caf_lexer.specs.declared.token.Word.{Word}
use Rattle.caf_lexer.specs.declared.token.Word.TheVariants as word
use Rattle.caf_tree.specs.contracts.expr.Level as levels
use Rattle.caf_tree.specs.declared.expr.Level.{Level}
use Rattle.caf_tree.specs.declared.expr.Level.TheVariants as level
use Rattle.caf_tree.specs.declared.expr.Operator.{Operator}
use Rattle.caf_tree.specs.declared.expr.Operator.TheVariants as operator
use Rattle.caf_tree.specs.declared.expr.Relation.{Relation}
use Rattle.caf_tree.specs.declared.expr.Relation.TheVariants as relation
use Rattle.caf_tree.specs.declared.expr.FrontSign.{FrontSign}
use Rattle.caf_tree.specs.declared.expr.FrontSign.TheVariants as front
use Rattle.caf_tree.specs.declared.expr.Team.{Team}
use Rattle.caf_tree.specs.declared.expr.Team.TheVariants as team
use Rattle.caf_tree.specs.Expressions.{level_of, operator_sign, relation_sign, front_sign, truth_sign, team_what}
use Rattle.caf_exprparse.specs.Ends.{looseness, looseness_of, looser}
use Rattle.caf_exprparse.specs.Told.{found, is_sign, is_word, a_name, a_number, a_truth, operator_of, chosen, at_level, an_operator, a_relation, a_front, a_team}
use Rattle.caf_exprparse.proofs.OneToken.{Is}

found_true : (b : Bool) → found b ≡ Some tt → b ≡ true
found_true true e = refl
found_true false e = absurd (let no : ◌≡◌ {A = Option (Unit {0})} None (Some tt) = e in cc)

sign_only : (s : Sign) (v : What) → is_sign s v ≡ Some tt → v ≡ what.Sign s
sign_only s (what.Sign u) e = ap what.Sign (same_true signs.the_type tt u s (found_true (sameb signs.the_type u s) e))
sign_only s _ e = cc

word_only : (s : Word) (v : What) → is_word s v ≡ Some tt → v ≡ what.Word s
word_only s (what.Word u) e = ap what.Word (same_true words.the_type tt u s (found_true (sameb words.the_type u s) e))
word_only s _ e = cc

pub a_sign : (s : Sign) → Is (is_sign s) (what.Sign s)
a_sign s = record { self = ap found (true_same signs.the_type s s refl); only = sign_only s }

pub a_word : (s : Word) → Is (is_word s) (what.Word s)
a_word s = record { self = ap found (true_same words.the_type s s refl); only = word_only s }

pub name_only : (w : What) (x : List ℕ) → a_name w ≡ Some x → w ≡ what.Name x
name_only (what.Name y) x e = let k : y ≡ x = cc in ap what.Name k
name_only _ x e = cc

pub number_only : (w : What) (x : ℤ) → a_number w ≡ Some x → w ≡ what.Number x
number_only (what.Number y) x e = let k : y ≡ x = cc in ap what.Number k
number_only _ x e = cc

pub truth_self : (b : Bool) → a_truth (what.Sign (truth_sign b)) ≡ Some b
truth_self true = refl
truth_self false = refl

pub truth_only : (w : What) (b : Bool) → a_truth w ≡ Some b → w ≡ what.Sign (truth_sign b)
truth_only (what.Sign sign.True) b e = let k : true ≡ b = cc in ap (λ b. what.Sign (truth_sign b)) k
truth_only (what.Sign sign.False) b e = let k : false ≡ b = cc in ap (λ b. what.Sign (truth_sign b)) k
truth_only _ b e = cc

pub team_self : (t : Team) → a_team (team_what t) ≡ Some t
team_self team.World = refl
team_self (team.Named x) = refl

pub team_only : (w : What) (t : Team) → a_team w ≡ Some t → w ≡ team_what t
team_only (what.Name y) t e = let k : team.Named y ≡ t = cc in ap team_what k
team_only (what.Word word.TeamWorld) t e = let k : team.World ≡ t = cc in ap team_what k
team_only _ t e = cc

-- a test that a team's token passes, where each name and `team_world` do
pub team_passes : (T : What → Bool) → ((x : List ℕ) → T (what.Name x) ≡ true) → T (what.Word word.TeamWorld) ≡ true → (t : Team) → T (team_what t) ≡ true
team_passes T h k team.World = k
team_passes T h k (team.Named x) = h x

pub front_self : (s : FrontSign) → a_front (what.Sign (front_sign s)) ≡ Some s
front_self front.Plus = refl
front_self front.Minus = refl

pub front_only : (w : What) (s : FrontSign) → a_front w ≡ Some s → w ≡ what.Sign (front_sign s)
front_only (what.Sign sign.Plus) s e = let k : front.Plus ≡ s = cc in ap (λ s. what.Sign (front_sign s)) k
front_only (what.Sign sign.Minus) s e = let k : front.Minus ≡ s = cc in ap (λ s. what.Sign (front_sign s)) k
front_only _ s e = cc

pub relation_self : (s : Relation) → a_relation (what.Sign (relation_sign s)) ≡ Some s
relation_self relation.Equal = refl
relation_self relation.NotEqual = refl
relation_self relation.Less = refl
relation_self relation.LessEqual = refl
relation_self relation.Greater = refl
relation_self relation.GreaterEqual = refl

pub relation_only : (w : What) (s : Relation) → a_relation w ≡ Some s → w ≡ what.Sign (relation_sign s)
relation_only (what.Sign sign.Equal) s e = let k : relation.Equal ≡ s = cc in ap (λ s. what.Sign (relation_sign s)) k
relation_only (what.Sign sign.NotEqual) s e = let k : relation.NotEqual ≡ s = cc in ap (λ s. what.Sign (relation_sign s)) k
relation_only (what.Sign sign.Less) s e = let k : relation.Less ≡ s = cc in ap (λ s. what.Sign (relation_sign s)) k
relation_only (what.Sign sign.LessEqual) s e = let k : relation.LessEqual ≡ s = cc in ap (λ s. what.Sign (relation_sign s)) k
relation_only (what.Sign sign.Greater) s e = let k : relation.Greater ≡ s = cc in ap (λ s. what.Sign (relation_sign s)) k
relation_only (what.Sign sign.GreaterEqual) s e = let k : relation.GreaterEqual ≡ s = cc in ap (λ s. what.Sign (relation_sign s)) k
relation_only _ s e = cc

operator_self : (o : Operator) → operator_of (operator_sign o) ≡ Some o
operator_self operator.Multiply = refl
operator_self operator.Divide = refl
operator_self operator.Add = refl
operator_self operator.Subtract = refl
operator_self operator.And = refl
operator_self operator.Or = refl
operator_self operator.Equivalent = refl
operator_self operator.NotEquivalent = refl

operator_of_only : (s : Sign) (o : Operator) → operator_of s ≡ Some o → s ≡ operator_sign o
operator_of_only sign.Asterisk o e = let k : operator.Multiply ≡ o = cc in ap operator_sign k
operator_of_only sign.Slash o e = let k : operator.Divide ≡ o = cc in ap operator_sign k
operator_of_only sign.Plus o e = let k : operator.Add ≡ o = cc in ap operator_sign k
operator_of_only sign.Minus o e = let k : operator.Subtract ≡ o = cc in ap operator_sign k
operator_of_only sign.And o e = let k : operator.And ≡ o = cc in ap operator_sign k
operator_of_only sign.Or o e = let k : operator.Or ≡ o = cc in ap operator_sign k
operator_of_only sign.Equivalent o e = let k : operator.Equivalent ≡ o = cc in ap operator_sign k
operator_of_only sign.NotEquivalent o e = let k : operator.NotEquivalent ≡ o = cc in ap operator_sign k
operator_of_only _ o e = cc

-- how loosely the operators of a level hold
abbrev pub rank : Level → ℕ
rank level.Products = 1
rank level.Sums = 2
rank level.Conjunctions = 4
rank level.Disjunctions = 5
rank level.Equivalences = 6

operator_loose : (o : Operator) → looseness_of (operator_sign o) ≡ rank (level_of o)
operator_loose operator.Multiply = refl
operator_loose operator.Divide = refl
operator_loose operator.Add = refl
operator_loose operator.Subtract = refl
operator_loose operator.And = refl
operator_loose operator.Or = refl
operator_loose operator.Equivalent = refl
operator_loose operator.NotEquivalent = refl

chosen_only : (b : Bool) (y o : Operator) → chosen b y ≡ Some o → (y ≡ o) × (b ≡ true)
chosen_only true y o e = (let k : y ≡ o = cc in k, refl)
chosen_only false y o e = absurd (let no : ◌≡◌ {A = Option Operator} None (Some o) = e in cc)

level_only : (l : Level) (x : Option Operator) (o : Operator) → at_level l x ≡ Some o → (x ≡ Some o) × (level_of o ≡ l)
level_only l None o e = absurd (let no : ◌≡◌ {A = Option Operator} None (Some o) = e in cc)
level_only l (Some y) o e =
    let k = chosen_only (sameb levels.the_type (level_of y) l) y o e in
    (ap Some k.0, ap level_of (sym k.0) ∙ same_true levels.the_type tt (level_of y) l k.1)

pub operator_only : (l : Level) (w : What) (o : Operator) → an_operator l w ≡ Some o → (w ≡ what.Sign (operator_sign o)) × (level_of o ≡ l)
operator_only l (what.Sign s) o e = let k = level_only l (operator_of s) o e in (ap what.Sign (operator_of_only s o k.0), k.1)
operator_only l _ o e = absurd (let no : ◌≡◌ {A = Option Operator} None (Some o) = e in cc)

pub operator_is : (l : Level) (o : Operator) → level_of o ≡ l → an_operator l (what.Sign (operator_sign o)) ≡ Some o
operator_is l o e = ap (at_level l) (operator_self o) ∙ ap (λ b. chosen b o) (true_same levels.the_type (level_of o) l e)

pub operator_rank : (l : Level) (w : What) (o : Operator) → an_operator l w ≡ Some o → looseness w ≡ rank l
operator_rank l w o e = let k = operator_only l w o e in ap looseness k.0 ∙ operator_loose o ∙ ap rank k.1

relation_loose : (x : Relation) → looseness_of (relation_sign x) ≡ 3
relation_loose relation.Equal = refl
relation_loose relation.NotEqual = refl
relation_loose relation.Less = refl
relation_loose relation.LessEqual = refl
relation_loose relation.Greater = refl
relation_loose relation.GreaterEqual = refl

pub relation_rank : (w : What) (x : Relation) → a_relation w ≡ Some x → looseness w ≡ 3
relation_rank w x e = ap looseness (relation_only w x e) ∙ relation_loose x

-- a sign never ends a statement
pub operator_passes : (T : What → Bool) → ((s : Sign) → T (what.Sign s) ≡ true) → (l : Level) (w : What) (o : Operator) → an_operator l w ≡ Some o → T w ≡ true
operator_passes T h l w o e = ap T (operator_only l w o e).0 ∙ h (operator_sign o)

-- ---- stops

pub lower : (j k : ℕ) → k < j → (w : What) → looser j w ≡ true → looser k w ≡ true
lower j k h w e = go (looseness w) e
  where
    go : (l : ℕ) → nat_lt j l ≡ true → nat_lt k l ≡ true
    go l f = grind (arith, nat_tests)

pub below_is : (j k : ℕ) → k < j → nat_lt k j ≡ true
below_is j k h = grind (arith, nat_tests)

pub not_below_itself : (j : ℕ) → nat_lt j j ≡ true → ⊥
not_below_itself j e = grind (arith, nat_tests)
