-- The readers of statements without a block.
use Rattle.std.proofs.Common.{◌≡◌, ℕ, zero, suc, ◌+◌, ◌<◌, ◌≤◌, Bool, true, false, not, cond, ◌&&◌, ◌||◌, List, [], ◌∷◌, length, Option, Some, None, Result, Ok, Err, ◌⊎◌, inl, inr, refl, ap, sym, ◌∙◌, subst, arith}
use Rattle.std.specs.Prelude.{is_some, codes, bytes_eq}
use Rattle.std.proofs.lemmas.Slice.Eq.{bytes_eq-Decides}
use Rattle.caf_lexer.specs.declared.token.Token.{Token}
use Rattle.caf_lexer.specs.declared.token.What.{What}
use Rattle.caf_lexer.specs.declared.token.What.TheVariants as what
use Rattle.caf_lexer.specs.declared.token.Sign.TheVariants as sign
use Rattle.caf_lexer.specs.declared.token.Word.{Word}
use Rattle.caf_lexer.specs.declared.token.Word.TheVariants as word
use Rattle.caf_tree.specs.declared.expr.Team.{Team}
use Rattle.caf_tree.specs.declared.expr.Place.{Place}
use Rattle.caf_tree.specs.declared.expr.Variable.{Variable}
use Rattle.caf_tree.specs.declared.expr.Expr.{Expr}
use Rattle.caf_tree.specs.declared.stmt.Section.{Section}
use Rattle.caf_tree.specs.declared.stmt.OwnEvent.{OwnEvent}
use Rattle.caf_tree.specs.declared.stmt.Printed.{Printed}
use Rattle.caf_tree.specs.declared.stmt.Printed.TheVariants as printed'
use Rattle.caf_tree.specs.declared.stmt.Key.{Key}
use Rattle.caf_tree.specs.declared.stmt.FenceClass.{FenceClass}
use Rattle.caf_tree.specs.declared.stmt.FenceClass.TheVariants as class
use Rattle.caf_tree.specs.declared.stmt.Fence.{Fence}
use Rattle.caf_tree.specs.declared.stmt.Fence.TheVariants as fence'
use Rattle.caf_tree.specs.declared.stmt.Simple.{Simple}
use Rattle.caf_tree.specs.declared.stmt.Simple.TheVariants as s
use Rattle.caf_tree.specs.Forms.{Takes, Just, Token', Sign', Word', End, Name, Called, ◌⨟◌, Maybe, Many, Both, Made, Such, Either, ◌▸◌, ◌◂◌, Perhaps, Joined, Listed, or_none, InParentheses, InBrackets, Lined, Inside}
use Rattle.caf_tree.specs.Expressions.{Inner, Expression, PlaceIn, PlaceForm, VariableIn, VariableForm, TeamForm}
use Rattle.caf_tree.specs.Statements.{section_of, own_of, no_two, same_key, same_way, class_name, ClassForm, FenceForm, RangeForm, OwnForm, SectionForm, KeyForm, KeysForm, CopyIn, SplitIn, FencesIn, ArgumentsIn, List', PerhapsList, PrintedForm, PerhapsCall, Assign, Aim, Print, Call, Spawn, Notify, Wait, Copy, Cofence, Split, SimpleForm, assign, aim, print, call, spawn, notify, wait, copy, cofence, split}
use Rattle.caf_exprparse.specs.Ends.{Stops, ends_expression, looser, in_statement, bracket, opened}
use Rattle.caf_exprparse.specs.Reading.{Refusal, Syntax, Deep, Outcome, Reader, and_then, ◌>>=◌, pure, optional, many, both, make, lead, trail, inside, ahead, either, one, by_next, next_of, second_of}
use Rattle.caf_exprparse.specs.Told.{found, is_sign, is_word, is_name, a_name, a_text, a_class, chosen_class, is_end, sign', word', end', named, in_parentheses, in_brackets}
use Rattle.caf_exprparse.specs.Reader as r
use Rattle.caf_exprparse.proofs.Eats.{Eats}
use Rattle.caf_exprparse.proofs.Good.{Fits, Good, good_made, good_both, good_lead, good_trail, good_choice, good_same, good_narrow}
use Rattle.caf_exprparse.proofs.Lists.{Tail, good_then, Start, Item, good_maybe, start_of, tail_maybe, tail_many, tail_made, tail_perhaps, item_made, make_strict, both_strict}
use Rattle.caf_exprparse.proofs.OneToken.{any, any_stops, one_starts, one_strict, good_just, starts_bind, strict_bind, Is, good_is, good_before, takes_stops, not_last, then_next, item_before, next_fits_at, ahead_takes, ahead_not}
use Rattle.caf_exprparse.proofs.Told as told
use Rattle.caf_exprparse.proofs.Expressions.{but, begins_expression, good_inside, good_team}
use Rattle.caf_simpleparse.specs.Opening.{opening, each}
use Rattle.caf_simpleparse.specs.Choices.{such, next_behind, listed, list_in, perhaps_list, second_passes, passes}
use Rattle.caf_simpleparse.specs.Reader as p
use Rattle.caf_simpleparse.proofs.Keeps.{Keeps, closes, follows, at_close, at_follow, good_sign, good_word, good_end, good_name, sign_lead, word_lead, sign_trail, in_parens, start_sign, next_sign, tail_behind, good_behind, good_listed, good_such, good_list_in, good_perhaps_list, start_list_in, such_strict, parens_item, by_next_good}
use Rattle.caf_simpleparse.proofs.PartsRead.{CopyParts, good_value, expression_begins, good_event, place_item, good_place, good_section, good_own, good_of_event, good_copy_in, good_split_in, good_arguments, arguments_begin}

-- ---- names

name_found : (x : List ℕ) (v : What) → is_name x v ≡ Some tt → v ≡ what.Name x
name_found x (what.Name y) e = ap what.Name ((bytes_eq-Decides y x).0 (found_true (bytes_eq y x) e))
  where
    found_true : (b : Bool) → found b ≡ Some tt → b ≡ true
    found_true true f = refl
    found_true false f = absurd (let no : ◌≡◌ {A = Option (Unit {0})} None (Some tt) = f in cc)
name_found x _ e = cc

-- this name
pub a_named : (x : List ℕ) → Is (is_name x) (what.Name x)
a_named x = record { self = ap found ((bytes_eq-Decides x x).1 refl); only = name_found x }

pub good_named : {G : Type 0} {n : ℕ} (x : List ℕ) (S : What → Bool) → Keeps G n S (Called x) (Called x) (named x)
good_named x S = good_is (is_name x) (what.Name x) (a_named x) each refl S

named_lead : {A : Type 0} {G : Type 0} {n : ℕ} (S : What → Bool) (P Q : A → List Token → List Token → Type 0) (p : Reader A) → Keeps G n S P Q p → (x : List ℕ) → Keeps G n S (Called x ▸ P) (Called x ▸ Q) (lead (named x) p)
named_lead {A} {G} {n} S P Q p g x = good_before (is_name x) (what.Name x) (a_named x) each refl n (omega arith) S P Q p g

-- ---- the classes of a fence

class_self : (c : FenceClass) → a_class (what.Name (class_name c)) ≡ Some c
class_self class.Read = refl
class_self class.Write = refl
class_self class.Any = refl

class_named : (x : List ℕ) (c : FenceClass) (a b d : Bool) → bytes_eq x (codes "read") ≡ a → bytes_eq x (codes "write") ≡ b → bytes_eq x (codes "any") ≡ d → chosen_class a b d ≡ Some c → x ≡ class_name c
class_named x c true b d e f h k = let is : class.Read ≡ c = cc in (bytes_eq-Decides x (codes "read")).0 e ∙ ap class_name is
class_named x c false true d e f h k = let is : class.Write ≡ c = cc in (bytes_eq-Decides x (codes "write")).0 f ∙ ap class_name is
class_named x c false false true e f h k = let is : class.Any ≡ c = cc in (bytes_eq-Decides x (codes "any")).0 h ∙ ap class_name is
class_named x c false false false e f h k = absurd (let no : ◌≡◌ {A = Option FenceClass} None (Some c) = k in cc)

class_only : (w : What) (c : FenceClass) → a_class w ≡ Some c → w ≡ what.Name (class_name c)
class_only (what.Name x) c e = ap what.Name (class_named x c (bytes_eq x (codes "read")) (bytes_eq x (codes "write")) (bytes_eq x (codes "any")) refl refl refl e)
class_only _ c e = absurd (let no : ◌≡◌ {A = Option FenceClass} None (Some c) = e in cc)

good_class : {G : Type 0} {n : ℕ} (S : What → Bool) → Keeps G n S (Sign' sign.Assign ▸ ClassForm) (Sign' sign.Assign ▸ ClassForm) p.fence_class
good_class S = sign_lead S _ _ _ (good_just a_class (λ c. what.Name (class_name c)) class_self class_only each (λ c. refl) S) sign.Assign

called_ahead : (x : List ℕ) (ts rest : List Token) → Takes (what.Name x) ts rest → ahead (λ w. is_some (is_name x w)) ts ≡ true
called_ahead x ts rest m = ahead_takes (λ w. is_some (is_name x w)) (what.Name x) ts rest (ap is_some ((a_named x).self)) m

not_called : (x y : List ℕ) (ts rest : List Token) → is_some (is_name x (what.Name y)) ≡ false → Takes (what.Name y) ts rest → ahead (λ w. is_some (is_name x w)) ts ≡ false
not_called x y [] rest e m = refl
not_called x y (t ∷ ts) rest e m = ap (λ w. is_some (is_name x w)) m.0 ∙ e

good_fence : {G : Type 0} {n : ℕ} → Keeps G n follows FenceForm FenceForm p.fence
unfolding p.fence
good_fence = good_choice follows (ahead (λ w. is_some (is_name (codes "down") w))) _ _ _ _ _ _
    (good_made follows fence'.Down _ _ _ (named_lead follows _ _ _ (good_class follows) (codes "down")))
    (good_made follows fence'.Up _ _ _ (named_lead follows _ _ _ (good_class follows) (codes "up")))
    (λ a ts rest c. called_ahead (codes "down") ts _ c.2.1)
    (λ a ts rest c. not_called (codes "down") (codes "up") ts _ refl c.2.1)

fence_begins : (a : Fence) (ts rest : List Token) → FenceForm a ts rest → ahead (λ v. is_some (is_sign sign.RightParenthesis v)) ts ≡ false
fence_begins a [] rest c = refl
fence_begins a (t ∷ ts) rest (inl c) = ap (λ v. is_some (is_sign sign.RightParenthesis v)) c.2.1.0
fence_begins a (t ∷ ts) rest (inr c) = ap (λ v. is_some (is_sign sign.RightParenthesis v)) c.2.1.0

-- ---- what is printed

text_only : (w : What) (x : List ℕ) → a_text w ≡ Some x → w ≡ what.Text x
text_only (what.Text y) x e = let k : y ≡ x = cc in ap what.Text k
text_only _ x e = cc

-- a text, or an expression, in the order of the tests
abbrev Printing : ℕ → Printed → List Token → List Token → Type 0
Printing n = Either (Made printed'.Text (Just what.Text)) (Made printed'.Value (Expression n))

printing_there : (n : ℕ) (a : Printed) (ts rest : List Token) → Printing n a ts rest → PrintedForm n a ts rest
printing_there n a ts rest (inl c) = inr c
printing_there n a ts rest (inr c) = inl c

printing_back : (n : ℕ) (a : Printed) (ts rest : List Token) → PrintedForm n a ts rest → Printing n a ts rest
printing_back n a ts rest (inl c) = inr c
printing_back n a ts rest (inr c) = inl c

-- `call`, and what comes behind it
abbrev pub Calling : ℕ → Simple → List Token → List Token → Type 0
Calling n = Made (λ (c : List ℕ × List Expr). s.Call c.0 c.1) (Both Name (PerhapsList ArgumentsIn n))

-- The same without `call`, which may stand before them.
abbrev pub Notifying : ℕ → Simple → List Token → List Token → Type 0
Notifying n = Made s.Notify (Word' word.EventNotify ▸ InParentheses (Inside VariableForm n))

abbrev pub Waiting : ℕ → Simple → List Token → List Token → Type 0
Waiting n = Made s.Wait (Word' word.EventWait ▸ InParentheses (Inside OwnForm n))

abbrev Copied : ℕ → (Section × Section) × List Key → List Token → List Token → Type 0
Copied n = Such (λ c. no_two same_key c.1 ≡ true) (Word' word.CopyAsync ▸ InParentheses (Inside CopyParts n))

abbrev copy_made : (Section × Section) × List Key → Simple
copy_made c = s.Copy c.0.0 c.0.1 c.1

abbrev pub Copying : ℕ → Simple → List Token → List Token → Type 0
Copying n = Made copy_made (Word' word.CopyAsync ▸ InParentheses (Inside CopyIn n))

abbrev pub Splitting : ℕ → Simple → List Token → List Token → Type 0
Splitting n = Made (λ (c : ((Team × Expr) × Expr) × List ℕ). s.Split c.0.0.0 c.0.0.1 c.0.1 c.1) (Word' word.TeamSplit ▸ InParentheses (Inside SplitIn n))

copied_there : (n : ℕ) (a : Simple) (ts rest : List Token) → Made copy_made (Copied n) a ts rest → Copying n a ts rest
copied_there zero a ts rest (c, e, (ok, (mid, t, (at, u, (next, v, w))))) = absurd v
copied_there (suc n) a ts rest (c, e, (ok, (mid, t, (at, u, (next, (keys, v, k), w))))) = (c, e, (mid, t, (at, u, (next, (keys, v, (ok, k)), w))))

copied_back : (n : ℕ) (a : Simple) (ts rest : List Token) → Copying n a ts rest → Made copy_made (Copied n) a ts rest
copied_back zero a ts rest (c, e, (mid, t, (at, u, (next, v, w)))) = absurd v
copied_back (suc n) a ts rest (c, e, (mid, t, (at, u, (next, (keys, v, k), w)))) = (c, e, (k.0, (mid, t, (at, u, (next, (keys, v, k.1), w)))))

-- fences before it is looked whether one stands twice
abbrev FenceList : ℕ → List Fence → List Token → List Token → Type 0
FenceList _ = Listed FenceForm

abbrev Fenced : ℕ → List Fence → List Token → List Token → Type 0
Fenced n = Such (λ c. no_two same_way c ≡ true) (List' FenceList n)

fence_list_there : (n : ℕ) (a : List Fence) (ts rest : List Token) → no_two same_way a ≡ true → List' FenceList n a ts rest → List' FencesIn n a ts rest
fence_list_there zero a ts rest ok (inl (mid, t, (at, u, v))) = absurd u
fence_list_there (suc n) a ts rest ok (inl (mid, t, (at, u, v))) = inl (mid, t, (at, (ok, u), v))
fence_list_there n a ts rest ok (inr c) = inr c

fence_list_back : (n : ℕ) (a : List Fence) (ts rest : List Token) → List' FencesIn n a ts rest → (no_two same_way a ≡ true) × List' FenceList n a ts rest
fence_list_back zero a ts rest (inl (mid, t, (at, u, v))) = absurd u
fence_list_back (suc n) a ts rest (inl (mid, t, (at, u, v))) = (u.0, inl (mid, t, (at, u.1, v)))
fence_list_back n a ts rest (inr c) = (ap (no_two same_way) c.1, inr c)

fences_there : (n : ℕ) (a : List Fence) (ts rest : List Token) → Made or_none (Maybe (Fenced n)) a ts rest → PerhapsList FencesIn n a ts rest
fences_there n a ts rest (None, e, c) = (None, e, c)
fences_there n a ts rest (Some b, e, c) = (Some b, e, fence_list_there n b ts rest c.0 c.1)

fences_back : (n : ℕ) (a : List Fence) (ts rest : List Token) → PerhapsList FencesIn n a ts rest → Made or_none (Maybe (Fenced n)) a ts rest
fences_back n a ts rest (None, e, c) = (None, e, c)
fences_back n a ts rest (Some b, e, c) = (Some b, e, fence_list_back n b ts rest c)

list_begins : (m : ℕ) (a : List Expr) (ts rest : List Token) → ArgumentsIn m a ts rest → ahead (λ v. is_some (is_sign sign.RightParenthesis v)) ts ≡ false
list_begins m a ts rest c = arguments_begin ⊥ m m (λ g. absurd g) a ts rest c

fences_begin : (m : ℕ) (a : List Fence) (ts rest : List Token) → FenceList m a ts rest → ahead (λ v. is_some (is_sign sign.RightParenthesis v)) ts ≡ false
fences_begin m a ts rest c = fence_begins c.0.0 ts _ c.2.1

passes_ahead : (f : What → Bool) (ts : List Token) → ahead f ts ≡ passes f (next_of ts)
passes_ahead f [] = refl
passes_ahead f (t ∷ ts) = refl

-- what the token behind the next one is
pub second_is : (f : What → Bool) (b : Bool) (w : What) (ts us : List Token) → Takes w ts us → ahead f us ≡ b → second_passes f ts ≡ b
second_is f b w [] us m e = absurd m
second_is f b w (t ∷ ts) us m e = sym (passes_ahead f ts) ∙ ap (ahead f) m.1 ∙ e

pub ahead_is : (f : What → Bool) (b : Bool) (w : What) (ts us : List Token) → Takes w ts us → f w ≡ b → ahead f ts ≡ b
ahead_is f b w [] us m e = absurd m
ahead_is f b w (t ∷ ts) us m e = ap f m.0 ∙ e

-- behind the name of a variable
after_name : (R : Expr → List Token → List Token → Type 0) (sub : Option Expr) (place : Option (Place Expr)) (a b mid next : List Token) → Maybe (InParentheses R) sub a b → Maybe (PlaceIn R) place b mid → Takes (what.Sign sign.Assign) mid next
    → ahead (λ x. is_some (is_sign sign.Arrow x)) a ≡ false
after_name R (Some i) place a b mid next s' p' t = ahead_is _ false (what.Sign sign.LeftParenthesis) a _ s'.1 refl
after_name R None (Some q) a b mid next s' p' t = ap (ahead (λ x. is_some (is_sign sign.Arrow x))) s' ∙ ahead_is _ false (what.Sign sign.LeftBracket) b _ p'.2.1 refl
after_name R None None a b mid next s' p' t = ap (ahead (λ x. is_some (is_sign sign.Arrow x))) (s' ∙ p') ∙ ahead_is _ false (what.Sign sign.Assign) mid _ t refl

-- with what a statement without a block begins
abbrev pub begins_simple : What → Bool
begins_simple (what.Name x) = true
begins_simple (what.Word word.Print) = true
begins_simple (what.Word word.Call) = true
begins_simple (what.Word word.Spawn) = true
begins_simple (what.Word word.EventNotify) = true
begins_simple (what.Word word.EventWait) = true
begins_simple (what.Word word.CopyAsync) = true
begins_simple (what.Word word.Cofence) = true
begins_simple (what.Word word.TeamSplit) = true
begins_simple _ = false

perhaps_begins : (w : Word) → begins_simple (what.Word w) ≡ true → (ts mid us : List Token) → PerhapsCall tt ts mid → Takes (what.Word w) mid us → ahead begins_simple ts ≡ true
perhaps_begins w e ts mid us (inl t) u = ahead_takes begins_simple (what.Word word.Call) ts _ refl t
perhaps_begins w e ts mid us (inr f) u = ap (ahead begins_simple) f ∙ ahead_takes begins_simple (what.Word w) mid _ e u

pub simple_begins : (m : ℕ) (x : Simple) (ts rest : List Token) → SimpleForm m x ts rest → ahead begins_simple ts ≡ true
simple_begins m x ts rest (assign c) = ahead_takes begins_simple (what.Name c.2.1.0.0.0) ts _ refl c.2.1.2.1.1
simple_begins m x ts rest (aim c) = ahead_takes begins_simple (what.Name c.0.0) ts _ refl c.2.1
simple_begins m x ts rest (print c) = ahead_takes begins_simple (what.Word word.Print) ts _ refl c.2.1
simple_begins m x ts rest (call c) = ahead_takes begins_simple (what.Word word.Call) ts _ refl c.2.1
simple_begins m x ts rest (spawn c) = ahead_takes begins_simple (what.Word word.Spawn) ts _ refl c.2.1
simple_begins m x ts rest (notify c) = perhaps_begins word.EventNotify refl ts _ _ c.2.1 c.2.2.1
simple_begins m x ts rest (wait c) = perhaps_begins word.EventWait refl ts _ _ c.2.1 c.2.2.1
simple_begins m x ts rest (copy c) = perhaps_begins word.CopyAsync refl ts _ _ c.2.1 c.2.2.1
simple_begins m x ts rest (cofence c) = ahead_takes begins_simple (what.Word word.Cofence) ts _ refl c.2.1
simple_begins m x ts rest (split c) = perhaps_begins word.TeamSplit refl ts _ _ c.2.1 c.2.2.1

-- ---- statements

module _ (G : Type 0) (n m : ℕ) (reach : G → m ≤ n) where
  no_text : (ts : List Token) → ahead begins_expression ts ≡ true → ahead (λ v. is_some (a_text v)) ts ≡ false
  no_text ts e = ahead_not begins_expression (λ v. is_some (a_text v)) none ts e
    where
      none : (w : What) → begins_expression w ≡ true → is_some (a_text w) ≡ false
      none (what.Text x) f = cc
      none _ f = refl

  good_printed : Keeps G (suc n) follows (PrintedForm n) (PrintedForm m) (p.printed n)
  unfolding p.printed
  good_printed = good_same follows _ _ _ _ _ (printing_there n) (printing_back m)
      (good_choice follows (ahead (λ v. is_some (a_text v))) _ _ _ _ _ _
      (good_made follows printed'.Text _ _ _ (good_just a_text what.Text (λ x. refl) text_only each (λ x. refl) follows))
      (good_made follows printed'.Value _ _ _ (good_value G n m reach follows (at_follow ends_expression true refl refl refl)))
      (λ a ts rest c. ahead_takes _ (what.Text c.0) ts _ refl c.2)
      (λ a ts rest c. no_text ts (expression_begins G n m reach c.0 ts _ c.2)))

  close_value : Keeps G (suc n) closes (Expression n) (Expression m) (r.expression n)
  close_value = good_value G n m reach closes (at_close ends_expression true refl refl)

  sign_stops : {A : Type 0} (u : _) (S : What → Bool) → S (what.Sign u) ≡ true → (P : A → List Token → List Token → Type 0) (a : A) (mid rest : List Token) → (Sign' u ▸ P) a mid rest → Stops S mid
  sign_stops u S e P a mid rest c = takes_stops (is_sign u) (what.Sign u) (told.a_sign u) S e mid c.0 c.1

  pub good_assign : Keeps G (suc n) closes (Assign n) (Assign m) (p.assign n)
  unfolding p.assign
  good_assign = good_made closes _ _ _ _ (good_both (looser 0) closes _ _ _ _ _ _ (good_event G n m reach (looser 0) (λ w e. e)) (sign_lead closes _ _ _ close_value sign.Assign) (sign_stops sign.Assign (looser 0) refl (Expression m)))

  pub good_aim : Keeps G (suc n) closes (Aim n) (Aim m) (p.aim n)
  unfolding p.aim
  good_aim = good_made closes _ _ _ _ (good_both any closes _ _ _ _ _ _ (good_name any)
      (sign_lead closes _ _ _ (good_narrow follows closes (at_close follows true refl refl) _ _ _ (good_section G n m reach)) sign.Arrow) (λ b mid rest c. any_stops mid))

  good_print : Keeps G (suc n) closes (Print n) (Print m) (p.print n)
  unfolding p.print
  good_print = good_made closes _ _ _ _ (word_lead closes _ _ _ (sign_lead closes _ _ _ (tail_behind _ _ _ good_printed).good sign.Asterisk) word.Print)

  good_calling : Keeps G (suc n) closes (Calling n) (Calling m) (p.call_named n)
  unfolding p.call_named
  good_calling = good_made closes _ _ _ _ (good_both any closes _ _ _ _ _ _ (good_name any)
      (good_perhaps_list G ArgumentsIn ArgumentsIn p.arguments (good_arguments G) list_begins n m reach) (λ b mid rest c. any_stops mid))

  spawn_head : Keeps G (suc n) any (Both (Both (Maybe (InParentheses (Inside VariableForm n))) Name) (List' ArgumentsIn n)) (Both (Both (Maybe (InParentheses (Inside VariableForm m))) Name) (List' ArgumentsIn m))
      (both (both (optional (in_parentheses (inside p.event n))) r.name) (list_in p.arguments n))
  spawn_head = good_both any any _ _ _ _ _ _
      (good_both (but (is_sign sign.LeftParenthesis)) any _ _ _ _ _ _
      (good_maybe each opening G (suc n) any (but (is_sign sign.LeftParenthesis)) (λ v. is_some (is_sign sign.LeftParenthesis v)) _ _ _
      (start_of (parens_item _ _ _ (good_inside G closes VariableForm VariableForm p.event (λ k l h. good_of_event G k l h closes (at_close (looser 0) true refl refl)) n m reach) refl)))
      (good_name any) (λ b mid rest c. name_stops b mid rest c))
      (good_list_in G ArgumentsIn ArgumentsIn p.arguments (good_arguments G) list_begins n m reach any) (λ b mid rest c. any_stops mid)
    where
      name_stops : (x : List ℕ) (mid rest : List Token) → Takes (what.Name x) mid rest → Stops (but (is_sign sign.LeftParenthesis)) mid
      name_stops x [] rest c = tt
      name_stops x (t ∷ ts) rest c = ap (but (is_sign sign.LeftParenthesis)) c.0

  good_spawn : Keeps G (suc n) closes (Spawn n) (Spawn m) (p.spawn n)
  unfolding p.spawn
  good_spawn = good_made closes _ _ _ _ (word_lead closes _ _ _ (good_both any closes _ _ _ _ _ _ spawn_head
      (good_place G n m reach closes (at_close (but (is_sign sign.LeftParenthesis)) true refl refl)) (λ b mid rest c. any_stops mid)) word.Spawn)

  good_notify : (S : What → Bool) → Keeps G (suc n) S (Notifying n) (Notifying m) (p.notify n)
  unfolding p.notify
  good_notify S = good_made S _ _ _ _ (word_lead S _ _ _
      (in_parens closes _ _ _ (good_inside G closes VariableForm VariableForm p.event (λ k l h. good_of_event G k l h closes (at_close (looser 0) true refl refl)) n m reach) S refl) word.EventNotify)

  good_wait : (S : What → Bool) → Keeps G (suc n) S (Waiting n) (Waiting m) (p.wait n)
  unfolding p.wait
  good_wait S = good_made S _ _ _ _ (word_lead S _ _ _
      (in_parens closes _ _ _ (good_inside G closes OwnForm OwnForm p.own (λ k l h. good_narrow follows closes (at_close follows true refl refl) _ _ _ (good_own G k l h)) n m reach) S refl) word.EventWait)

  good_copied : Keeps G (suc n) any (Made copy_made (Copied n)) (Made copy_made (Copied m)) (p.copy n)
  unfolding p.copy
  good_copied = good_made any copy_made _ _ _ (good_such (λ c. no_two same_key c.1) _ _ _ (word_lead any _ _ _
      (in_parens closes _ _ _ (good_inside G closes CopyParts CopyParts p.copy_in (good_copy_in G) n m reach) any refl) word.CopyAsync))

  good_copy : (S : What → Bool) → Keeps G (suc n) S (Copying n) (Copying m) (p.copy n)
  good_copy S = good_narrow any S (λ w e. refl) _ _ _ (good_same any _ _ _ _ _ (copied_there n) (copied_back m) good_copied)

  good_split : (S : What → Bool) → Keeps G (suc n) S (Splitting n) (Splitting m) (p.split n)
  unfolding p.split
  good_split S = good_made S _ _ _ _ (word_lead S _ _ _ (in_parens closes _ _ _ (good_inside G closes SplitIn SplitIn p.split_in (good_split_in G) n m reach) S refl) word.TeamSplit)

  start_fences : Start each opening G (suc n) closes closes (λ v. is_some (is_sign sign.LeftParenthesis v)) (Fenced n) (Fenced m) (p.fences_once n)
  start_fences =
      let i = start_list_in G FenceList FenceList p.fences (λ k l h. good_listed _ _ _ good_fence) fences_begin n m reach in
      record {
        good = good_narrow any closes (λ w e. refl) _ _ _ (good_such (no_two same_way) _ _ _ (good_list_in G FenceList FenceList p.fences (λ k l h. good_listed _ _ _ good_fence) fences_begin n m reach any));
        starts = λ ts e. rw (i.starts ts e) refl;
        strict = such_strict (no_two same_way) _ i.strict;
        last = i.last;
        weaker = i.weaker;
      }

  good_cofence : Keeps G (suc n) closes (Cofence n) (Cofence m) (p.cofence n)
  unfolding p.cofence
  good_cofence = good_made closes _ _ _ _ (word_lead closes _ _ _ (good_same closes _ _ _ _ _ (fences_there n) (fences_back m)
      (good_made closes or_none _ _ _ (good_maybe each opening G (suc n) closes closes (λ v. is_some (is_sign sign.LeftParenthesis v)) _ _ _ start_fences))) word.Cofence)

  -- ---- behind `call`, and without it

  -- what each form is behind `call`
  abbrev Behind : ℕ → Simple → List Token → List Token → Type 0
  Behind k a ts rest = Calling k a ts rest ⊎ (Notifying k a ts rest ⊎ (Waiting k a ts rest ⊎ (Copying k a ts rest ⊎ Splitting k a ts rest)))

  called_sound : (w : What) (ts : List Token) (x : Simple) (rest : List Token) → p.called_by n w ts ≡ Ok (x, rest) → Behind n x ts rest × Eats each ts rest
  called_sound (what.Name c) ts x rest e = (inl (good_calling.sound ts x rest e), good_calling.eats ts x rest e)
  called_sound (what.Word word.EventNotify) ts x rest e = (inr (inl ((good_notify closes).sound ts x rest e)), (good_notify closes).eats ts x rest e)
  called_sound (what.Word word.EventWait) ts x rest e = (inr (inr (inl ((good_wait closes).sound ts x rest e))), (good_wait closes).eats ts x rest e)
  called_sound (what.Word word.CopyAsync) ts x rest e = (inr (inr (inr (inl ((good_copy closes).sound ts x rest e)))), (good_copy closes).eats ts x rest e)
  called_sound (what.Word word.TeamSplit) ts x rest e = (inr (inr (inr (inr ((good_split closes).sound ts x rest e)))), (good_split closes).eats ts x rest e)
  called_sound _ ts x rest e = absurd (let no : ◌≡◌ {A = Outcome Simple} (Err Syntax) (Ok (x, rest)) = e in cc)

  called_digs : (w : What) (ts : List Token) → p.called_by n w ts ≡ Err Deep → suc n ≤ opened each opening ts
  called_digs (what.Name c) ts e = good_calling.digs ts e
  called_digs (what.Word word.EventNotify) ts e = (good_notify closes).digs ts e
  called_digs (what.Word word.EventWait) ts e = (good_wait closes).digs ts e
  called_digs (what.Word word.CopyAsync) ts e = (good_copy closes).digs ts e
  called_digs (what.Word word.TeamSplit) ts e = (good_split closes).digs ts e
  called_digs _ ts e = absurd (let no : ◌≡◌ {A = Outcome Simple} (Err Syntax) (Err Deep) = e in cc)

  called_fits : (x : Simple) (ts rest : List Token) → Behind m x ts rest → Fits G closes x rest (by_next (p.called_by n) ts)
  called_fits x ts rest (inl c) = next_fits_at G closes (p.called_by n) (what.Name c.0.0) x ts rest _ c.2.1 (good_calling.fits x ts rest c)
  called_fits x ts rest (inr (inl c)) = next_fits_at G closes (p.called_by n) (what.Word word.EventNotify) x ts rest _ c.2.1 ((good_notify closes).fits x ts rest c)
  called_fits x ts rest (inr (inr (inl c))) = next_fits_at G closes (p.called_by n) (what.Word word.EventWait) x ts rest _ c.2.1 ((good_wait closes).fits x ts rest c)
  called_fits x ts rest (inr (inr (inr (inl c)))) = next_fits_at G closes (p.called_by n) (what.Word word.CopyAsync) x ts rest _ c.2.1 ((good_copy closes).fits x ts rest c)
  called_fits x ts rest (inr (inr (inr (inr c)))) = next_fits_at G closes (p.called_by n) (what.Word word.TeamSplit) x ts rest _ c.2.1 ((good_split closes).fits x ts rest c)

  good_called : Keeps G (suc n) closes (Word' word.Call ▸ Behind n) (Word' word.Call ▸ Behind m) (p.called n)
  unfolding p.called
  good_called = word_lead closes _ _ _ (by_next_good closes _ _ (p.called_by n) called_sound called_fits called_digs) word.Call

  good_assign_or_aim : Keeps G (suc n) closes (Either (Aim n) (Assign n)) (Either (Aim m) (Assign m)) (p.assign_or_aim n)
  unfolding p.assign_or_aim
  good_assign_or_aim = good_choice closes (second_passes (λ w. is_some (is_sign sign.Arrow w))) _ _ _ _ _ _ good_aim good_assign
      (λ a ts rest c. second_is _ true (what.Name c.0.0) ts _ c.2.1 (ahead_is _ true (what.Sign sign.Arrow) c.2.0 _ c.2.2.1 refl))
      (λ a ts rest c. second_is _ false (what.Name c.2.1.0.0.0) ts _ c.2.1.2.1.1 (after_name (Inner m) c.2.1.0.0.1 c.2.1.0.1 _ _ _ _ c.2.1.2.1.2 c.2.1.2.2 c.2.2.1))

  either_simple : (x : Simple) (ts rest : List Token) → Either (Aim n) (Assign n) x ts rest → SimpleForm n x ts rest
  either_simple x ts rest (inl c) = aim c
  either_simple x ts rest (inr c) = assign c

  behind_simple : (x : Simple) (ts rest : List Token) → (Word' word.Call ▸ Behind n) x ts rest → SimpleForm n x ts rest
  behind_simple x ts rest (mid, t, inl c) = call (c.0, c.1, (mid, t, c.2))
  behind_simple x ts rest (mid, t, inr (inl c)) = notify (c.0, c.1, (mid, inl t, c.2))
  behind_simple x ts rest (mid, t, inr (inr (inl c))) = wait (c.0, c.1, (mid, inl t, c.2))
  behind_simple x ts rest (mid, t, inr (inr (inr (inl c)))) = copy (c.0, c.1, (mid, inl t, c.2))
  behind_simple x ts rest (mid, t, inr (inr (inr (inr c)))) = split (c.0, c.1, (mid, inl t, c.2))

  simple_sound : (w : What) (ts : List Token) (x : Simple) (rest : List Token) → p.simple_by n w ts ≡ Ok (x, rest) → SimpleForm n x ts rest × Eats each ts rest
  simple_sound (what.Name c) ts x rest e = (either_simple x ts rest (good_assign_or_aim.sound ts x rest e), good_assign_or_aim.eats ts x rest e)
  simple_sound (what.Word word.Print) ts x rest e = (print (good_print.sound ts x rest e), good_print.eats ts x rest e)
  simple_sound (what.Word word.Call) ts x rest e = (behind_simple x ts rest (good_called.sound ts x rest e), good_called.eats ts x rest e)
  simple_sound (what.Word word.Spawn) ts x rest e = (spawn (good_spawn.sound ts x rest e), good_spawn.eats ts x rest e)
  simple_sound (what.Word word.EventNotify) ts x rest e = let c = (good_notify closes).sound ts x rest e in (notify (c.0, c.1, (ts, inr refl, c.2)), (good_notify closes).eats ts x rest e)
  simple_sound (what.Word word.EventWait) ts x rest e = let c = (good_wait closes).sound ts x rest e in (wait (c.0, c.1, (ts, inr refl, c.2)), (good_wait closes).eats ts x rest e)
  simple_sound (what.Word word.CopyAsync) ts x rest e = let c = (good_copy closes).sound ts x rest e in (copy (c.0, c.1, (ts, inr refl, c.2)), (good_copy closes).eats ts x rest e)
  simple_sound (what.Word word.Cofence) ts x rest e = (cofence (good_cofence.sound ts x rest e), good_cofence.eats ts x rest e)
  simple_sound (what.Word word.TeamSplit) ts x rest e = let c = (good_split closes).sound ts x rest e in (split (c.0, c.1, (ts, inr refl, c.2)), (good_split closes).eats ts x rest e)
  simple_sound _ ts x rest e = absurd (let no : ◌≡◌ {A = Outcome Simple} (Err Syntax) (Ok (x, rest)) = e in cc)

  simple_digs : (w : What) (ts : List Token) → p.simple_by n w ts ≡ Err Deep → suc n ≤ opened each opening ts
  simple_digs (what.Name c) ts e = good_assign_or_aim.digs ts e
  simple_digs (what.Word word.Print) ts e = good_print.digs ts e
  simple_digs (what.Word word.Call) ts e = good_called.digs ts e
  simple_digs (what.Word word.Spawn) ts e = good_spawn.digs ts e
  simple_digs (what.Word word.EventNotify) ts e = (good_notify closes).digs ts e
  simple_digs (what.Word word.EventWait) ts e = (good_wait closes).digs ts e
  simple_digs (what.Word word.CopyAsync) ts e = (good_copy closes).digs ts e
  simple_digs (what.Word word.Cofence) ts e = good_cofence.digs ts e
  simple_digs (what.Word word.TeamSplit) ts e = (good_split closes).digs ts e
  simple_digs _ ts e = absurd (let no : ◌≡◌ {A = Outcome Simple} (Err Syntax) (Err Deep) = e in cc)

  fits_called : (x : Simple) (ts rest : List Token) → (Word' word.Call ▸ Behind m) x ts rest → Fits G closes x rest (by_next (p.simple_by n) ts)
  fits_called x ts rest c = next_fits_at G closes (p.simple_by n) (what.Word word.Call) x ts rest _ c.1 (good_called.fits x ts rest c)

  simple_fits : (x : Simple) (ts rest : List Token) → SimpleForm m x ts rest → Fits G closes x rest (by_next (p.simple_by n) ts)
  simple_fits x ts rest (assign c) = next_fits_at G closes (p.simple_by n) (what.Name c.2.1.0.0.0) x ts rest _ c.2.1.2.1.1 (good_assign_or_aim.fits x ts rest (inr c))
  simple_fits x ts rest (aim c) = next_fits_at G closes (p.simple_by n) (what.Name c.0.0) x ts rest _ c.2.1 (good_assign_or_aim.fits x ts rest (inl c))
  simple_fits x ts rest (print c) = next_fits_at G closes (p.simple_by n) (what.Word word.Print) x ts rest _ c.2.1 (good_print.fits x ts rest c)
  simple_fits x ts rest (call c) = fits_called x ts rest (c.2.0, c.2.1, inl (c.0, c.1, c.2.2))
  simple_fits x ts rest (spawn c) = next_fits_at G closes (p.simple_by n) (what.Word word.Spawn) x ts rest _ c.2.1 (good_spawn.fits x ts rest c)
  simple_fits x ts rest (notify (v, e, (mid, inl t, u))) = fits_called x ts rest (mid, t, inr (inl (v, e, u)))
  simple_fits x ts rest (notify (v, e, (mid, inr f, u))) =
      let w = subst (λ us. (Word' word.EventNotify ▸ InParentheses (Inside VariableForm m)) v us rest) (sym f) u in
      next_fits_at G closes (p.simple_by n) (what.Word word.EventNotify) x ts rest _ w.1 ((good_notify closes).fits x ts rest (v, e, w))
  simple_fits x ts rest (wait (v, e, (mid, inl t, u))) = fits_called x ts rest (mid, t, inr (inr (inl (v, e, u))))
  simple_fits x ts rest (wait (v, e, (mid, inr f, u))) =
      let w = subst (λ us. (Word' word.EventWait ▸ InParentheses (Inside OwnForm m)) v us rest) (sym f) u in
      next_fits_at G closes (p.simple_by n) (what.Word word.EventWait) x ts rest _ w.1 ((good_wait closes).fits x ts rest (v, e, w))
  simple_fits x ts rest (copy (v, e, (mid, inl t, u))) = fits_called x ts rest (mid, t, inr (inr (inr (inl (v, e, u)))))
  simple_fits x ts rest (copy (v, e, (mid, inr f, u))) =
      let w = subst (λ us. (Word' word.CopyAsync ▸ InParentheses (Inside CopyIn m)) v us rest) (sym f) u in
      next_fits_at G closes (p.simple_by n) (what.Word word.CopyAsync) x ts rest _ w.1 ((good_copy closes).fits x ts rest (v, e, w))
  simple_fits x ts rest (cofence c) = next_fits_at G closes (p.simple_by n) (what.Word word.Cofence) x ts rest _ c.2.1 (good_cofence.fits x ts rest c)
  simple_fits x ts rest (split (v, e, (mid, inl t, u))) = fits_called x ts rest (mid, t, inr (inr (inr (inr (v, e, u)))))
  simple_fits x ts rest (split (v, e, (mid, inr f, u))) =
      let w = subst (λ us. (Word' word.TeamSplit ▸ InParentheses (Inside SplitIn m)) v us rest) (sym f) u in
      next_fits_at G closes (p.simple_by n) (what.Word word.TeamSplit) x ts rest _ w.1 ((good_split closes).fits x ts rest (v, e, w))

  pub good_simple : Keeps G (suc n) closes (SimpleForm n) (SimpleForm m) (p.simple n)
  unfolding p.simple
  good_simple = by_next_good closes _ _ (p.simple_by n) simple_sound simple_fits simple_digs

module _ (n : ℕ) where
  simple_by_starts : (w : What) (ts : List Token) → begins_simple w ≡ false → p.simple_by n w ts ≡ Err Syntax
  simple_by_starts (what.Name c) ts e = cc
  simple_by_starts (what.Word word.Print) ts e = cc
  simple_by_starts (what.Word word.Call) ts e = cc
  simple_by_starts (what.Word word.Spawn) ts e = cc
  simple_by_starts (what.Word word.EventNotify) ts e = cc
  simple_by_starts (what.Word word.EventWait) ts e = cc
  simple_by_starts (what.Word word.CopyAsync) ts e = cc
  simple_by_starts (what.Word word.Cofence) ts e = cc
  simple_by_starts (what.Word word.TeamSplit) ts e = cc
  simple_by_starts _ ts e = refl

  pub simple_starts : (ts : List Token) → ahead begins_simple ts ≡ false → p.simple n ts ≡ Err Syntax
  unfolding p.simple
  simple_starts [] e = refl
  simple_starts (t ∷ ts) e = simple_by_starts t.what (t ∷ ts) e
