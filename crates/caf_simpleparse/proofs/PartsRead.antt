-- The readers of the parts of statements, and of statements without a block.
use Rattle.std.proofs.Common.{◌≡◌, ℕ, zero, suc, ◌+◌, ◌<◌, ◌≤◌, Bool, true, false, not, cond, ◌&&◌, ◌||◌, List, [], ◌∷◌, length, Option, Some, None, Result, Ok, Err, ◌⊎◌, inl, inr, refl, ap, sym, ◌∙◌, subst, arith}
use Rattle.std.specs.Prelude.{is_some, codes, bytes_eq}
use Rattle.caf_lexer.specs.declared.token.Token.{Token}
use Rattle.caf_lexer.specs.declared.token.What.{What}
use Rattle.caf_lexer.specs.declared.token.What.TheVariants as what
use Rattle.caf_lexer.specs.declared.token.Sign.TheVariants as sign
use Rattle.caf_lexer.specs.declared.token.Word.{Word}
use Rattle.caf_lexer.specs.declared.token.Word.TheVariants as word
use Rattle.caf_tree.specs.declared.expr.Team.{Team}
use Rattle.caf_tree.specs.declared.expr.Place.{Place}
use Rattle.caf_tree.specs.declared.expr.Variable.{Variable}
use Rattle.caf_tree.specs.declared.expr.Expr.{Expr}
use Rattle.caf_tree.specs.declared.stmt.Range.{Range}
use Rattle.caf_tree.specs.declared.stmt.Range.TheVariants as range'
use Rattle.caf_tree.specs.declared.stmt.Section.{Section}
use Rattle.caf_tree.specs.declared.stmt.OwnEvent.{OwnEvent}
use Rattle.caf_tree.specs.declared.stmt.Printed.{Printed}
use Rattle.caf_tree.specs.declared.stmt.Printed.TheVariants as printed'
use Rattle.caf_tree.specs.declared.stmt.Key.{Key}
use Rattle.caf_tree.specs.declared.stmt.Key.TheVariants as key'
use Rattle.caf_tree.specs.declared.stmt.FenceClass.{FenceClass}
use Rattle.caf_tree.specs.declared.stmt.FenceClass.TheVariants as class
use Rattle.caf_tree.specs.declared.stmt.Fence.{Fence}
use Rattle.caf_tree.specs.declared.stmt.Fence.TheVariants as fence'
use Rattle.caf_tree.specs.declared.stmt.Simple.{Simple}
use Rattle.caf_tree.specs.declared.stmt.Simple.TheVariants as s
use Rattle.caf_tree.specs.Forms.{Takes, Just, Token', Sign', Word', End, Name, Called, ◌⨟◌, Maybe, Many, Both, Made, Such, Either, ◌▸◌, ◌◂◌, Perhaps, Joined, Listed, or_none, InParentheses, InBrackets, Lined, Inside}
use Rattle.caf_tree.specs.Expressions.{Inner, Expression, PlaceIn, PlaceForm, VariableIn, VariableForm, TeamForm}
use Rattle.caf_tree.specs.Statements.{section_of, own_of, no_two, same_key, same_way, class_name, ClassForm, FenceForm, RangeForm, OwnForm, SectionForm, KeyForm, KeysForm, CopyIn, SplitIn, FencesIn, ArgumentsIn, List', PerhapsList, PrintedForm, PerhapsCall, Assign, Aim, Print, Call, Spawn, Notify, Wait, Copy, Cofence, Split, SimpleForm, assign, aim, print, call, spawn, notify, wait, copy, cofence, split}
use Rattle.caf_exprparse.specs.Ends.{Stops, ends_expression, looser, in_statement, bracket, opened}
use Rattle.caf_exprparse.specs.Reading.{Refusal, Syntax, Deep, Outcome, Reader, and_then, ◌>>=◌, pure, optional, many, both, make, lead, trail, inside, ahead, either, one, by_next}
use Rattle.caf_exprparse.specs.Told.{found, is_sign, is_word, is_name, a_name, a_text, a_class, is_end, sign', word', end', named, in_parentheses, in_brackets}
use Rattle.caf_exprparse.specs.Reader as r
use Rattle.caf_exprparse.proofs.Eats.{Eats}
use Rattle.caf_exprparse.proofs.Good.{Fits, Good, good_made, good_both, good_lead, good_trail, good_choice, good_same, good_narrow}
use Rattle.caf_exprparse.proofs.Lists.{Tail, good_then, Start, Item, good_maybe, start_of, begins, tail_maybe, tail_many, tail_made, tail_perhaps, item_made, make_strict, both_strict}
use Rattle.caf_exprparse.proofs.OneToken.{any, any_stops, one_starts, one_strict, good_just, starts_bind, strict_bind, Is, good_is, good_before, takes_stops, not_last, then_next, item_before, next_fits_at, ahead_takes, ahead_not}
use Rattle.caf_exprparse.proofs.Told as told
use Rattle.caf_exprparse.proofs.Expressions.{but, begins_expression, good_inside, good_inner, good_expression, start_expression, good_team, good_variable, good_subscript, item_subscript, item_place}
use Rattle.caf_simpleparse.specs.Opening.{opening, each}
use Rattle.caf_simpleparse.specs.Choices.{such, next_behind, listed, list_in, perhaps_list, second_passes, passes}
use Rattle.caf_simpleparse.specs.Reader as p
use Rattle.caf_simpleparse.proofs.Keeps.{Keeps, lift, lift_item, lift_start, closes, follows, at_close, at_follow, good_sign, good_word, good_end, good_name, sign_lead, word_lead, sign_trail, in_parens, start_sign, next_sign, tail_behind, good_behind, good_listed, good_such, good_list_in, good_perhaps_list, parens_item, by_next_good}

-- what a copy is given, before it is looked whether a key stands twice
abbrev pub CopyParts : ℕ → (Section × Section) × List Key → List Token → List Token → Type 0
CopyParts n = Both (Both (SectionForm n) (Sign' sign.Comma ▸ SectionForm n)) (Many (Sign' sign.Comma ▸ KeyForm n))

-- a range, by whether `:` stands first
abbrev Ranged : ℕ → Range → List Token → List Token → Type 0
Ranged n = Either (Made (λ (j : Option Expr). range'.Between None j) (Sign' sign.Colon ▸ Maybe (Expression n))) (Made p.range_of (Both (Expression n) (Maybe (Sign' sign.Colon ▸ Maybe (Expression n)))))

-- ---- what is made of expressions

module _ (G : Type 0) (n m : ℕ) (reach : G → m ≤ n) where
  pub good_value : (S : What → Bool) → ((w : What) → S w ≡ true → ends_expression w ≡ true) → Keeps G (suc n) S (Expression n) (Expression m) (r.expression n)
  good_value S h = good_narrow ends_expression S h _ _ _ (lift ends_expression _ _ _ (good_expression G n m reach))

  pub start_value : (S : What → Bool) → ((w : What) → S w ≡ true → begins_expression w ≡ false) → ((w : What) → S w ≡ true → ends_expression w ≡ true) → Start each opening G (suc n) ends_expression S begins_expression (Expression n) (Expression m) (r.expression n)
  start_value S h k = lift_start ends_expression S begins_expression _ _ _ (start_expression G n m reach S h k)

  pub good_event : (S : What → Bool) → ((w : What) → S w ≡ true → looser 0 w ≡ true) → Keeps G (suc n) S (VariableForm n) (VariableForm m) (r.variable (r.inner n))
  good_event S h = good_narrow (looser 0) S h _ _ _ (lift (looser 0) _ _ _ (good_variable G n m reach (Inner n) (Inner m) (r.inner n) (good_inner G n m reach)))

  pub place_item : Item each opening G (suc n) (but (is_sign sign.LeftParenthesis)) (looser 0) (λ v. is_some (is_sign sign.LeftBracket v)) (PlaceForm n) (PlaceForm m) (r.place (r.inner n))
  place_item = lift_item _ _ _ _ _ _ (item_place G n m reach (Inner n) (Inner m) (r.inner n) (good_inner G n m reach))

  pub good_place : (S : What → Bool) → ((w : What) → S w ≡ true → but (is_sign sign.LeftParenthesis) w ≡ true) → Keeps G (suc n) S (PlaceForm n) (PlaceForm m) (r.place (r.inner n))
  good_place S h = good_narrow (but (is_sign sign.LeftParenthesis)) S h _ _ _ place_item.good

  subscript_item : Item each opening G (suc n) any (but (is_sign sign.LeftParenthesis)) (λ v. is_some (is_sign sign.LeftParenthesis v)) (InParentheses (Inner n)) (InParentheses (Inner m)) (r.subscript (r.inner n))
  subscript_item = lift_item _ _ _ _ _ _ (item_subscript G n m reach (Inner n) (Inner m) (r.inner n) (good_inner G n m reach))

  pub good_condition : (S : What → Bool) → Keeps G (suc n) S (InParentheses (Inner n)) (InParentheses (Inner m)) (r.subscript (r.inner n))
  good_condition S = lift S _ _ _ (good_subscript G n m reach (Inner n) (Inner m) (r.inner n) (good_inner G n m reach) S)

  -- ---- ranges

  good_range_end : Keeps G (suc n) closes (Sign' sign.Colon ▸ Maybe (Expression n)) (Sign' sign.Colon ▸ Maybe (Expression m)) (p.range_end n)
  good_range_end = sign_lead closes _ _ _
      (good_maybe each opening G (suc n) ends_expression closes begins_expression _ _ _ (start_value closes (at_close begins_expression false refl refl) (at_close ends_expression true refl refl))) sign.Colon

  start_range_end : Start each opening G (suc n) closes closes (λ v. is_some (is_sign sign.Colon v)) (Sign' sign.Colon ▸ Maybe (Expression n)) (Sign' sign.Colon ▸ Maybe (Expression m)) (p.range_end n)
  start_range_end = start_sign closes _ _ _ sign.Colon good_range_end
      (good_maybe each opening G (suc n) ends_expression closes begins_expression _ _ _ (start_value closes (at_close begins_expression false refl refl) (at_close ends_expression true refl refl))).eats refl

  colon_not : (ts : List Token) → ahead begins_expression ts ≡ true → ahead (λ v. is_some (is_sign sign.Colon v)) ts ≡ false
  colon_not ts e = ahead_not begins_expression (λ v. is_some (is_sign sign.Colon v)) no_colon ts e
    where
      no_colon : (w : What) → begins_expression w ≡ true → is_some (is_sign sign.Colon w) ≡ false
      no_colon (what.Sign sign.Colon) f = cc
      no_colon _ f = refl

  pub expression_begins : (x : Expr) (ts rest : List Token) → Expression m x ts rest → ahead begins_expression ts ≡ true
  expression_begins x ts rest c = begins each opening G (suc n) ends_expression closes begins_expression _ _ _ (start_value closes (at_close begins_expression false refl refl) (at_close ends_expression true refl refl)) x ts rest c

  good_ranged : Keeps G (suc n) closes (Ranged n) (Ranged m) (p.range n)
  unfolding p.range
  good_ranged = good_choice closes (ahead (λ v. is_some (is_sign sign.Colon v))) _ _ _ _ _ _
      (good_made closes (λ (j : Option Expr). range'.Between None j) _ _ _ good_range_end)
      (good_made closes p.range_of _ _ _ (good_then each opening G (suc n) ends_expression closes _ _ _ _ _ _ (good_value ends_expression (λ w e. e))
      (tail_perhaps each opening G (suc n) ends_expression closes closes (λ v. is_some (is_sign sign.Colon v)) _ _ _ start_range_end
      (next_sign sign.Colon ends_expression refl) (at_close ends_expression true refl refl))))
      (λ a ts rest c. ahead_takes _ (what.Sign sign.Colon) ts _ refl c.2.1)
      (λ a ts rest c. colon_not ts (expression_begins c.0.0 ts _ c.2.1))

range_there : (n : ℕ) (a : Range) (ts rest : List Token) → Ranged n a ts rest → RangeForm n a ts rest
range_there n a ts rest (inl c) = inr ((None, c.0), c.1, (c.2.0, (ts, refl, c.2.1), c.2.2))
range_there n a ts rest (inr ((x, None), e, (mid, v, f))) = inl (x, e, subst (λ us. Expression n x ts us) f v)
range_there n a ts rest (inr ((x, Some j), e, (mid, v, (next, t, w)))) = inr ((Some x, j), e, (next, (mid, v, t), w))

range_back : (m : ℕ) (a : Range) (ts rest : List Token) → RangeForm m a ts rest → Ranged m a ts rest
range_back m a ts rest (inl (x, e, v)) = inr ((x, None), e, (rest, v, refl))
range_back m a ts rest (inr ((None, j), e, (mid, (at, f, t), w))) = inl (j, e, (mid, subst (λ us. Takes (what.Sign sign.Colon) us mid) (sym f) t, w))
range_back m a ts rest (inr ((Some x, j), e, (mid, (at, v, t), w))) = inr ((x, Some j), e, (at, v, (mid, t, w)))

pub good_range : (G : Type 0) (n m : ℕ) → (G → m ≤ n) → Keeps G (suc n) closes (RangeForm n) (RangeForm m) (p.range n)
good_range G n m reach = good_same closes _ _ _ _ _ (range_there n) (range_back m) (good_ranged G n m reach)

module _ (G : Type 0) (n m : ℕ) (reach : G → m ≤ n) where
  range_item : Item each opening G (suc n) any (but (is_sign sign.LeftParenthesis)) (λ v. is_some (is_sign sign.LeftParenthesis v)) (InParentheses (Inside RangeForm n)) (InParentheses (Inside RangeForm m)) (in_parentheses (inside p.range n))
  range_item = parens_item _ _ _ (good_inside G closes RangeForm RangeForm p.range (good_range G) n m reach) refl

  pub good_section : Keeps G (suc n) follows (SectionForm n) (SectionForm m) (p.section n)
  unfolding p.section
  good_section = good_narrow (looser 0) follows (at_follow (looser 0) true refl refl refl) _ _ _ (good_made (looser 0) section_of _ _ _
      (good_then each opening G (suc n) (but (is_sign sign.LeftParenthesis)) (looser 0) _ _ (Maybe (PlaceForm n)) (Maybe (PlaceForm m)) _ _
      (good_then each opening G (suc n) any (but (is_sign sign.LeftParenthesis)) Name Name _ _ _ _ (good_name any)
      (tail_maybe each opening G (suc n) any (but (is_sign sign.LeftParenthesis)) (λ v. is_some (is_sign sign.LeftParenthesis v)) _ _ _ range_item))
      (tail_maybe each opening G (suc n) (but (is_sign sign.LeftParenthesis)) (looser 0) (λ v. is_some (is_sign sign.LeftBracket v)) _ _ _ (place_item G n m reach))))

  pub good_own : Keeps G (suc n) follows (OwnForm n) (OwnForm m) (p.own n)
  unfolding p.own
  good_own = good_narrow (but (is_sign sign.LeftParenthesis)) follows (at_follow (but (is_sign sign.LeftParenthesis)) true refl refl refl) _ _ _ (good_made (but (is_sign sign.LeftParenthesis)) own_of _ _ _
      (good_then each opening G (suc n) any (but (is_sign sign.LeftParenthesis)) Name Name _ _ _ _ (good_name any)
      (tail_maybe each opening G (suc n) any (but (is_sign sign.LeftParenthesis)) (λ v. is_some (is_sign sign.LeftParenthesis v)) _ _ _ (subscript_item G n m reach))))

  pub good_of_event : (S : What → Bool) → ((w : What) → S w ≡ true → looser 0 w ≡ true) → Keeps G (suc n) S (VariableForm n) (VariableForm m) (p.event n)
  unfolding p.event
  good_of_event S h = good_event G n m reach S h

  -- ---- keys

  pre_good : Keeps G (suc n) follows (Made key'.Pre (Word' word.Pre ▸ (Sign' sign.Assign ▸ OwnForm n))) (Made key'.Pre (Word' word.Pre ▸ (Sign' sign.Assign ▸ OwnForm m))) (make key'.Pre (lead (word' word.Pre) (lead (sign' sign.Assign) (p.own n))))
  pre_good = good_made follows key'.Pre _ _ _ (word_lead follows _ _ _ (sign_lead follows _ _ _ good_own sign.Assign) word.Pre)

  event_key_good : (w : Word) (f : Variable Expr → Key) → Keeps G (suc n) follows (Made f (Word' w ▸ (Sign' sign.Assign ▸ VariableForm n))) (Made f (Word' w ▸ (Sign' sign.Assign ▸ VariableForm m))) (make f (lead (word' w) (lead (sign' sign.Assign) (p.event n))))
  event_key_good w f = good_made follows f _ _ _ (word_lead follows _ _ _ (sign_lead follows _ _ _ (good_of_event follows (at_follow (looser 0) true refl refl refl)) sign.Assign) w)

  key_sound : (w : What) (ts : List Token) (x : Key) (rest : List Token) → p.key_by n w ts ≡ Ok (x, rest) → KeyForm n x ts rest × Eats each ts rest
  key_sound (what.Word word.Pre) ts x rest e = (inl (pre_good.sound ts x rest e), pre_good.eats ts x rest e)
  key_sound (what.Word word.Srce) ts x rest e = (inr (inl ((event_key_good word.Srce key'.Srce).sound ts x rest e)), (event_key_good word.Srce key'.Srce).eats ts x rest e)
  key_sound (what.Word word.Deste) ts x rest e = (inr (inr ((event_key_good word.Deste key'.Deste).sound ts x rest e)), (event_key_good word.Deste key'.Deste).eats ts x rest e)
  key_sound _ ts x rest e = absurd (let no : ◌≡◌ {A = Outcome Key} (Err Syntax) (Ok (x, rest)) = e in cc)

  key_digs : (w : What) (ts : List Token) → p.key_by n w ts ≡ Err Deep → suc n ≤ opened each opening ts
  key_digs (what.Word word.Pre) ts e = pre_good.digs ts e
  key_digs (what.Word word.Srce) ts e = (event_key_good word.Srce key'.Srce).digs ts e
  key_digs (what.Word word.Deste) ts e = (event_key_good word.Deste key'.Deste).digs ts e
  key_digs _ ts e = absurd (let no : ◌≡◌ {A = Outcome Key} (Err Syntax) (Err Deep) = e in cc)

  key_fits : (x : Key) (ts rest : List Token) → KeyForm m x ts rest → Fits G follows x rest (by_next (p.key_by n) ts)
  key_fits x ts rest (inl c) = next_fits_at G follows (p.key_by n) (what.Word word.Pre) x ts rest _ c.2.1 (pre_good.fits x ts rest c)
  key_fits x ts rest (inr (inl c)) = next_fits_at G follows (p.key_by n) (what.Word word.Srce) x ts rest _ c.2.1 ((event_key_good word.Srce key'.Srce).fits x ts rest c)
  key_fits x ts rest (inr (inr c)) = next_fits_at G follows (p.key_by n) (what.Word word.Deste) x ts rest _ c.2.1 ((event_key_good word.Deste key'.Deste).fits x ts rest c)

  pub good_key : Keeps G (suc n) follows (KeyForm n) (KeyForm m) (p.key n)
  unfolding p.key
  good_key = by_next_good follows _ _ (p.key_by n) key_sound key_fits key_digs

  -- ---- what stands within the parentheses of a statement

  comma_stops : {A : Type 0} (P : A → List Token → List Token → Type 0) (a : A) (mid rest : List Token) → (Sign' sign.Comma ▸ P) a mid rest → Stops follows mid
  comma_stops P a mid rest c = takes_stops (is_sign sign.Comma) (what.Sign sign.Comma) (told.a_sign sign.Comma) follows refl mid c.0 c.1

  pub good_copy_in : Keeps G (suc n) closes (CopyParts n) (CopyParts m) (p.copy_in n)
  unfolding p.copy_in
  good_copy_in = good_then each opening G (suc n) follows closes _ _ _ _ _ _
      (good_both follows follows _ _ _ _ _ _ good_section (good_behind _ _ _ good_section) (comma_stops (SectionForm m)))
      (tail_behind _ _ _ good_key)

  follow_value : Keeps G (suc n) follows (Expression n) (Expression m) (r.expression n)
  follow_value = good_value G n m reach follows (at_follow ends_expression true refl refl refl)

  pub good_split_in : Keeps G (suc n) closes (SplitIn n) (SplitIn m) (p.split_in n)
  unfolding p.split_in
  good_split_in = good_both follows closes _ _ _ _ _ _
      (good_both follows follows _ _ _ _ _ _
      (good_both follows follows _ _ _ _ _ _ (good_team (λ x. refl) refl follows) (good_behind _ _ _ follow_value) (comma_stops (Expression m)))
      (good_behind _ _ _ follow_value) (comma_stops (Expression m)))
      (good_narrow follows closes (at_close follows true refl refl) _ _ _ (good_behind _ _ _ (good_name follows))) (comma_stops Name)

  pub good_arguments : Keeps G (suc n) closes (ArgumentsIn n) (ArgumentsIn m) (p.arguments n)
  good_arguments = good_listed _ _ _ follow_value

  no_close : (ts : List Token) → ahead begins_expression ts ≡ true → ahead (λ v. is_some (is_sign sign.RightParenthesis v)) ts ≡ false
  no_close ts e = ahead_not begins_expression (λ v. is_some (is_sign sign.RightParenthesis v)) none ts e
    where
      none : (w : What) → begins_expression w ≡ true → is_some (is_sign sign.RightParenthesis w) ≡ false
      none (what.Sign sign.RightParenthesis) f = cc
      none _ f = refl

  pub arguments_begin : (a : List Expr) (ts rest : List Token) → ArgumentsIn m a ts rest → ahead (λ v. is_some (is_sign sign.RightParenthesis v)) ts ≡ false
  arguments_begin a ts rest c = no_close ts (expression_begins G n m reach c.0.0 ts _ c.2.1)
