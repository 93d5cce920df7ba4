-- The readers of declarations, subroutines and units.
use Rattle.std.proofs.Common.{◌≡◌, ℕ, zero, suc, ◌+◌, ◌<◌, ◌≤◌, Bool, true, false, not, cond, ◌&&◌, ◌||◌, List, [], ◌∷◌, length, Option, Some, None, Result, Ok, Err, ◌⊎◌, inl, inr, refl, ap, sym, ◌∙◌, subst, arith}
use Rattle.std.specs.Prelude.{is_some}
use Rattle.caf_lexer.specs.declared.token.Token.{Token}
use Rattle.caf_lexer.specs.declared.token.What.{What}
use Rattle.caf_lexer.specs.declared.token.What.TheVariants as what
use Rattle.caf_lexer.specs.declared.token.Sign.TheVariants as sign
use Rattle.caf_lexer.specs.declared.token.Word.{Word}
use Rattle.caf_lexer.specs.declared.token.Word.TheVariants as word
use Rattle.caf_tree.specs.declared.expr.Expr.{Expr}
use Rattle.caf_tree.specs.declared.stmt.Stmt.{Stmt}
use Rattle.caf_tree.specs.declared.unit.ValueKind.{ValueKind}
use Rattle.caf_tree.specs.declared.unit.ValueKind.TheVariants as kind
use Rattle.caf_tree.specs.declared.unit.Intent.{Intent}
use Rattle.caf_tree.specs.declared.unit.Intent.TheVariants as intent'
use Rattle.caf_tree.specs.declared.unit.Bounds.{Bounds}
use Rattle.caf_tree.specs.declared.unit.Item.{Item as Declared}
use Rattle.caf_tree.specs.declared.unit.Decl.{Decl}
use Rattle.caf_tree.specs.declared.unit.Decl.TheVariants as decl
use Rattle.caf_tree.specs.declared.unit.Sub.{Sub}
use Rattle.caf_tree.specs.declared.unit.Unit.{Unit as Program}
use Rattle.caf_tree.specs.Forms.{Takes, Just, Token', Sign', Word', End, Name, Called, ◌⨟◌, Maybe, Many, Both, Made, Either, ◌▸◌, ◌◂◌, Perhaps, Listed, or_none, InParentheses, InBrackets, Lined, Inside}
use Rattle.caf_tree.specs.Expressions.{Expression}
use Rattle.caf_tree.specs.Statements.{Statement, InnerBlock, InnerBranches, StatementsForm, PerhapsList}
use Rattle.caf_tree.specs.Units.{kind_word, KindForm, IntentForm, is_there, item_of, BoundsIn, MarkIn, ItemForm, ValueForm, PointerForm, KindWith, KindIntent, Declaration, parameters, copointers, dummies, variables, events, teams, ImplicitNone, EndOf, Body, Heading, sub_of, Closed, SubForm, SubsForm, program_of, UnitForm}
use Rattle.caf_exprparse.specs.Ends.{Stops, ends_expression, opened}
use Rattle.caf_exprparse.specs.Reading.{Refusal, Syntax, Deep, Outcome, Reader, and_then, ◌>>=◌, pure, optional, many, both, make, lead, trail, inside, ahead, either, one, by_some, by_next, next_of, second_of, third_of}
use Rattle.caf_exprparse.specs.Told.{is_sign, is_word, is_name, a_kind, is_end, sign', word', end', named, in_parentheses, in_brackets}
use Rattle.caf_exprparse.specs.Reader as r
use Rattle.caf_exprparse.proofs.Eats.{Eats}
use Rattle.caf_exprparse.proofs.Good.{Fits, Good, good_made, good_both, good_lead, good_trail, good_choice, good_same, good_narrow, good_closed}
use Rattle.caf_exprparse.proofs.Lists.{Tail, good_then, Start, Item, good_maybe, start_of, tail_maybe, tail_many, tail_made, tail_perhaps, tail_then, make_strict}
use Rattle.caf_exprparse.proofs.OneToken.{any, any_stops, one_starts, one_strict, good_just, starts_bind, strict_bind, takes_stops, not_last, next_fits_at, ahead_takes, ahead_not}
use Rattle.caf_exprparse.proofs.Told as told
use Rattle.caf_exprparse.proofs.Expressions.{but, not_so, and_first, good_inside}
use Rattle.caf_simpleparse.specs.Opening.{opening, each}
use Rattle.caf_simpleparse.specs.Choices.{perhaps, lined, either_by, passes, second_passes}
use Rattle.caf_parser.specs.Reader as p
use Rattle.caf_simpleparse.proofs.Keeps.{Keeps, closes, follows, at_close, at_follow, an_end, good_sign, good_word, good_end, good_name, sign_lead, word_lead, end_lead, sign_trail, word_trail, end_trail, in_parens, in_brackets', start_sign, start_word, next_sign, next_word, good_listed, good_perhaps, good_lined, lined_strict, lined_starts, trail_strict, either_by_strict, parens_item, by_next_good, good_perhaps_list}
use Rattle.caf_simpleparse.proofs.PartsRead.{good_value}
use Rattle.caf_simpleparse.proofs.SimpleRead.{good_named, second_is, ahead_is}
use Rattle.caf_parser.proofs.Blocks.{begins_statement, in_block, item_statements}

-- ---- bounds

-- bounds, by whether `:` comes behind the first value
abbrev Bounded : ℕ → Bounds → List Token → List Token → Type 0
Bounded n = Made p.bounds_of (Both (Expression n) (Maybe (Sign' sign.Colon ▸ Expression n)))

bounds_there : (n : ℕ) (a : Bounds) (ts rest : List Token) → Bounded n a ts rest → BoundsIn n a ts rest
bounds_there n a ts rest ((x, None), e, (mid, v, f)) = ((None, x), e, (ts, refl, subst (λ us. Expression n x ts us) f v))
bounds_there n a ts rest ((x, Some y), e, (mid, v, (next, t, w))) = ((Some x, y), e, (next, (mid, v, t), w))

bounds_back : (n : ℕ) (a : Bounds) (ts rest : List Token) → BoundsIn n a ts rest → Bounded n a ts rest
bounds_back n a ts rest ((None, y), e, (mid, f, w)) = ((y, None), e, (rest, subst (λ us. Expression n y us rest) (sym f) w, refl))
bounds_back n a ts rest ((Some x, y), e, (next, (mid, v, t), w)) = ((x, Some y), e, (mid, v, (next, t, w)))

good_bounds : (G : Type 0) (n m : ℕ) → (G → m ≤ n) → Keeps G (suc n) closes (BoundsIn n) (BoundsIn m) (p.bounds n)
unfolding p.bounds
good_bounds G n m reach = good_same closes _ _ _ _ _ (bounds_there n) (bounds_back m)
    (good_made closes p.bounds_of _ _ _ (good_then each opening G (suc n) ends_expression closes _ _ _ _ _ _ (good_value G n m reach ends_expression (λ w e. e))
    (tail_perhaps each opening G (suc n) ends_expression closes closes (λ v. is_some (is_sign sign.Colon v)) _ _ _
    (start_sign closes _ _ _ sign.Colon (sign_lead closes _ _ _ (good_value G n m reach closes (at_close ends_expression true refl refl)) sign.Colon) (good_value G n m reach closes (at_close ends_expression true refl refl)).eats refl)
    (next_sign sign.Colon ends_expression refl) (at_close ends_expression true refl refl))))

-- ---- intents

abbrev Intended : Intent → List Token → List Token → Type 0
Intended = Either (Made (λ (_ : Unit {0}). intent'.InOut) (Word' word.InOut)) (Word' word.In ▸ Made p.intent_of (Maybe (Word' word.Out)))

intent_there : (a : Intent) (ts rest : List Token) → Intended a ts rest → IntentForm a ts rest
intent_there a ts rest (inl (u, e, t)) = inr (tt, e, inr t)
intent_there a ts rest (inr (mid, t, (None, e, f))) = inl (tt, e, subst (λ us. Takes (what.Word word.In) ts us) f t)
intent_there a ts rest (inr (mid, t, (Some u, e, v))) = inr (tt, e, inl (mid, t, v))

intent_back : (a : Intent) (ts rest : List Token) → IntentForm a ts rest → Intended a ts rest
intent_back a ts rest (inl (u, e, t)) = inr (rest, t, (None, e, refl))
intent_back a ts rest (inr (u, e, inl (mid, t, v))) = inr (mid, t, (Some tt, e, v))
intent_back a ts rest (inr (u, e, inr t)) = inl (tt, e, t)

good_intent : {G : Type 0} {n : ℕ} → Keeps G n closes IntentForm IntentForm p.intent
unfolding p.intent
good_intent {G} {n} = good_same closes _ _ _ _ _ intent_there intent_back
    (good_choice closes (ahead (λ w. is_some (is_word word.InOut w))) _ _ _ _ _ _
    (good_made closes (λ (_ : Unit {0}). intent'.InOut) _ _ _ (good_word word.InOut closes))
    (word_lead closes _ _ _ (good_made closes p.intent_of _ _ _ (good_maybe each opening G n closes closes (λ v. is_some (is_word word.Out v)) _ _ _ (record {
      good = good_word word.Out closes;
      starts = one_starts (is_word word.Out);
      strict = one_strict (is_word word.Out);
      last = at_close (λ v. is_some (is_word word.Out v)) false refl refl;
      weaker = λ w e. e;
    }))) word.In)
    (λ a ts rest c. ahead_is (λ w. is_some (is_word word.InOut w)) true (what.Word word.InOut) ts rest c.2 refl)
    (λ a ts rest c. ahead_is (λ w. is_some (is_word word.InOut w)) false (what.Word word.In) ts _ c.1 refl))

-- ---- kinds

kind_self : (k : ValueKind) → a_kind (what.Word (kind_word k)) ≡ Some k
kind_self kind.Integer = refl
kind_self kind.Logical = refl

kind_only : (w : What) (k : ValueKind) → a_kind w ≡ Some k → w ≡ what.Word (kind_word k)
kind_only (what.Word word.Integer) k e = let is : kind.Integer ≡ k = cc in ap (λ k. what.Word (kind_word k)) is
kind_only (what.Word word.Logical) k e = let is : kind.Logical ≡ k = cc in ap (λ k. what.Word (kind_word k)) is
kind_only _ k e = absurd (let no : ◌≡◌ {A = Option ValueKind} None (Some k) = e in cc)

good_kind : {G : Type 0} {n : ℕ} (S : What → Bool) → Keeps G n S KindForm KindForm (one a_kind)
good_kind S = good_just a_kind (λ k. what.Word (kind_word k)) kind_self kind_only each (λ k. refl) S

good_kind_with : {G : Type 0} {n : ℕ} (w : Word) → Keeps G n any (KindWith w) (KindWith w) (p.kind_with w)
good_kind_with w = word_trail any _ _ _ (sign_trail any _ _ _ (good_kind any) sign.Comma any refl) w any refl

-- ---- declared names

module _ (G : Type 0) (n m : ℕ) (reach : G → m ≤ n) where
  start_shared : Start each opening G (suc n) follows follows (λ v. is_some (is_sign sign.LeftBracket v)) (InBrackets (MarkIn (Sign' sign.Asterisk) n)) (InBrackets (MarkIn (Sign' sign.Asterisk) m)) (in_brackets (inside (λ _. sign' sign.Asterisk) n))
  start_shared =
      let g : Keeps G n any (Inside (λ _. Sign' sign.Asterisk) n) (Inside (λ _. Sign' sign.Asterisk) m) (inside (λ _. sign' sign.Asterisk) n) =
      good_inside G any (λ _. Sign' sign.Asterisk) (λ _. Sign' sign.Asterisk) (λ _. sign' sign.Asterisk) (λ k l h. good_sign sign.Asterisk any) n m reach in
      record {
        good = in_brackets' any _ _ _ g follows refl;
        starts = starts_bind (is_sign sign.LeftBracket) _;
        strict = strict_bind each (is_sign sign.LeftBracket) _ (λ _. (sign_trail any _ _ _ g sign.RightBracket any refl).eats);
        last = at_follow (λ v. is_some (is_sign sign.LeftBracket v)) false refl refl refl;
        weaker = λ w e. e;
      }

  pub good_item : Keeps G (suc n) follows (ItemForm n) (ItemForm m) (p.item n)
  unfolding p.item
  good_item = good_made follows item_of _ _ _ (good_then each opening G (suc n) (but (is_sign sign.LeftParenthesis)) follows _ _ _ _ _ _
      (good_then each opening G (suc n) any (but (is_sign sign.LeftParenthesis)) Name Name _ _ _ _ (good_name any)
      (tail_maybe each opening G (suc n) any (but (is_sign sign.LeftParenthesis)) (λ v. is_some (is_sign sign.LeftParenthesis v)) _ _ _
      (parens_item _ _ _ (good_inside G closes BoundsIn BoundsIn p.bounds (good_bounds G) n m reach) refl)))
      (tail_made each opening G (suc n) (but (is_sign sign.LeftParenthesis)) follows is_there _ _ _
      (tail_perhaps each opening G (suc n) (but (is_sign sign.LeftParenthesis)) follows follows (λ v. is_some (is_sign sign.LeftBracket v)) _ _ _ start_shared
      (next_sign sign.LeftBracket (but (is_sign sign.LeftParenthesis)) refl) (at_follow (but (is_sign sign.LeftParenthesis)) true refl refl refl))))

  good_valued : Keeps G (suc n) follows (ValueForm n) (ValueForm m) (p.value n)
  good_valued = good_both any follows _ _ _ _ _ _ (good_name any) (sign_lead follows _ _ _ (good_value G n m reach follows (at_follow ends_expression true refl refl refl)) sign.Assign) (λ c mid rest k. any_stops mid)

  good_pointer : Keeps G (suc n) follows (PointerForm n) (PointerForm m) (p.pointer n)
  good_pointer = good_trail any follows _ _ _ _ _ _ (good_name any)
      (in_parens any _ _ _ (good_inside G any (λ _. Sign' sign.Colon) (λ _. Sign' sign.Colon) (λ _. sign' sign.Colon) (λ k l h. good_sign sign.Colon any) n m reach) follows refl) (λ mid rest k. any_stops mid)

  -- ---- declarations

  good_parameters : Keeps G (suc n) any (Made (λ (c : ℕ × (ValueKind × List (List ℕ × Expr))). decl.Parameters c.0 c.1.0 c.1.1) (Lined (Both (KindWith word.Parameter ◂ Sign' sign.DoubleColon) (Listed (ValueForm n)) ◂ End)))
      (Made (λ (c : ℕ × (ValueKind × List (List ℕ × Expr))). decl.Parameters c.0 c.1.0 c.1.1) (Lined (Both (KindWith word.Parameter ◂ Sign' sign.DoubleColon) (Listed (ValueForm m)) ◂ End))) (p.parameters n)
  unfolding p.parameters
  good_parameters = good_made any _ _ _ _ (good_lined any _ _ _ (end_trail closes _ _ _ (good_both any closes _ _ _ _ _ _ (sign_trail any _ _ _ (good_kind_with word.Parameter) sign.DoubleColon any refl) (good_listed _ _ _ good_valued) (λ c mid rest k. any_stops mid)) any refl) refl)

  good_copointers : Keeps G (suc n) any (Made (λ (c : ℕ × (ValueKind × List (List ℕ))). decl.Copointers c.0 c.1.0 c.1.1) (Lined (Both (KindWith word.Copointer ◂ Sign' sign.DoubleColon) (Listed (PointerForm n)) ◂ End)))
      (Made (λ (c : ℕ × (ValueKind × List (List ℕ))). decl.Copointers c.0 c.1.0 c.1.1) (Lined (Both (KindWith word.Copointer ◂ Sign' sign.DoubleColon) (Listed (PointerForm m)) ◂ End))) (p.copointers n)
  unfolding p.copointers
  good_copointers = good_made any _ _ _ _ (good_lined any _ _ _ (end_trail closes _ _ _ (good_both any closes _ _ _ _ _ _ (sign_trail any _ _ _ (good_kind_with word.Copointer) sign.DoubleColon any refl) (good_listed _ _ _ good_pointer) (λ c mid rest k. any_stops mid)) any refl) refl)

  good_kind_intent : Keeps G (suc n) any (KindIntent n) (KindIntent m) (p.kind_intent n)
  good_kind_intent = good_both any any _ _ _ _ _ _ (good_kind_with word.Intent) (in_parens closes _ _ _ (good_inside G closes (λ _. IntentForm) (λ _. IntentForm) (λ _. p.intent) (λ k l h. good_intent) n m reach) any refl) (λ c mid rest k. any_stops mid)

  good_dummies : Keeps G (suc n) any (Made (λ (c : ℕ × ((ValueKind × Intent) × List (List ℕ))). decl.Dummies c.0 c.1.0.0 c.1.0.1 c.1.1) (Lined (Both (KindIntent n ◂ Sign' sign.DoubleColon) (Listed Name) ◂ End)))
      (Made (λ (c : ℕ × ((ValueKind × Intent) × List (List ℕ))). decl.Dummies c.0 c.1.0.0 c.1.0.1 c.1.1) (Lined (Both (KindIntent m ◂ Sign' sign.DoubleColon) (Listed Name) ◂ End))) (p.dummies n)
  unfolding p.dummies
  good_dummies = good_made any _ _ _ _ (good_lined any _ _ _ (end_trail closes _ _ _ (good_both any closes _ _ _ _ _ _ (sign_trail any _ _ _ good_kind_intent sign.DoubleColon any refl) (good_listed _ _ _ (good_name follows)) (λ c mid rest k. any_stops mid)) any refl) refl)

  abbrev no_colons : What → Bool
  no_colons = but (is_sign sign.DoubleColon)

  name_stops : (x : List ℕ) (mid rest : List Token) → Takes (what.Name x) mid rest → Stops no_colons mid
  name_stops x [] rest c = tt
  name_stops x (t ∷ ts) rest c = ap no_colons c.0

  good_variables_inner : Keeps G (suc n) closes (Both (KindForm ◂ Perhaps (Sign' sign.DoubleColon)) (Listed (ItemForm n))) (Both (KindForm ◂ Perhaps (Sign' sign.DoubleColon)) (Listed (ItemForm m)))
      (both (trail (one a_kind) (perhaps (sign' sign.DoubleColon))) (p.items n))
  good_variables_inner = good_both no_colons closes _ _ _ _ _ _
      (good_trail any no_colons _ _ _ _ _ _ (good_kind any)
      (good_perhaps no_colons (λ v. is_some (is_sign sign.DoubleColon v)) _ _ _ (record {
        good = good_sign sign.DoubleColon no_colons;
        starts = one_starts (is_sign sign.DoubleColon);
        strict = one_strict (is_sign sign.DoubleColon);
        last = λ w e. not_so (is_some (is_sign sign.DoubleColon w)) e;
        weaker = λ w e. e;
      })) (λ mid rest k. any_stops mid))
      (good_listed _ _ _ good_item) (λ c mid rest k. name_stops _ mid _ k.2.1.2.1.1)

  good_variables : Keeps G (suc n) any (Made (λ (c : ℕ × (ValueKind × List Declared)). decl.Variables c.0 c.1.0 c.1.1) (Lined (Both (KindForm ◂ Perhaps (Sign' sign.DoubleColon)) (Listed (ItemForm n)) ◂ End)))
      (Made (λ (c : ℕ × (ValueKind × List Declared)). decl.Variables c.0 c.1.0 c.1.1) (Lined (Both (KindForm ◂ Perhaps (Sign' sign.DoubleColon)) (Listed (ItemForm m)) ◂ End))) (p.variables n)
  unfolding p.variables
  good_variables = good_made any _ _ _ _ (good_lined any _ _ _ (end_trail closes _ _ _ good_variables_inner any refl) refl)

  good_events : Keeps G (suc n) any (Made (λ (c : ℕ × List Declared). decl.Events c.0 c.1) (Lined (Word' word.Event ▸ (Sign' sign.DoubleColon ▸ Listed (ItemForm n)) ◂ End)))
      (Made (λ (c : ℕ × List Declared). decl.Events c.0 c.1) (Lined (Word' word.Event ▸ (Sign' sign.DoubleColon ▸ Listed (ItemForm m)) ◂ End))) (p.events n)
  unfolding p.events
  good_events = good_made any _ _ _ _ (good_lined any _ _ _ (word_lead any _ _ _ (end_trail closes _ _ _ (sign_lead closes _ _ _ (good_listed _ _ _ good_item) sign.DoubleColon) any refl) word.Event) refl)

  good_teams : Keeps G (suc n) any (Made (λ (c : ℕ × List (List ℕ)). decl.Teams c.0 c.1) (Lined (Word' word.Team ▸ (Sign' sign.DoubleColon ▸ Listed Name) ◂ End)))
      (Made (λ (c : ℕ × List (List ℕ)). decl.Teams c.0 c.1) (Lined (Word' word.Team ▸ (Sign' sign.DoubleColon ▸ Listed Name) ◂ End))) (p.teams n)
  unfolding p.teams
  good_teams = good_made any _ _ _ _ (good_lined any _ _ _ (word_lead any _ _ _ (end_trail closes _ _ _ (sign_lead closes _ _ _ (good_listed _ _ _ (good_name follows)) sign.DoubleColon) any refl) word.Team) refl)

-- ---- a declaration, by its first tokens

third_is : (a b c : What) (ts us vs ws : List Token) → Takes a ts us → Takes b us vs → Takes c vs ws → third_of ts ≡ Some c
third_is a b c [] us vs ws k l o = absurd k
third_is a b c (t ∷ ts) us vs ws k l o = ap second_of k.1 ∙ second us vs l o
  where
    next : (vs : List Token) → Takes c vs ws → next_of vs ≡ Some c
    next [] o = absurd o
    next (v ∷ vs) o = ap Some o.0

    second : (us vs : List Token) → Takes b us vs → Takes c vs ws → second_of us ≡ Some c
    second [] vs l o = absurd l
    second (u ∷ us) vs l o = ap next_of l.1 ∙ next vs o

kind_with_third : (w : Word) (k : ValueKind) (ts rest : List Token) → KindWith w k ts rest → third_of ts ≡ Some (what.Word w)
kind_with_third w k ts rest (b, (a, x, y), z) = third_is (what.Word (kind_word k)) (what.Sign sign.Comma) (what.Word w) ts a b rest x y z

kind_with_comma : (w : Word) (k : ValueKind) (ts rest : List Token) → KindWith w k ts rest → second_passes (λ v. is_some (is_sign sign.Comma v)) ts ≡ true
kind_with_comma w k ts rest (b, (a, x, y), z) = second_is (λ v. is_some (is_sign sign.Comma v)) true (what.Word (kind_word k)) ts a x (ahead_is (λ v. is_some (is_sign sign.Comma v)) true (what.Sign sign.Comma) a b y refl)

abbrev Parameters : ℕ → Decl → List Token → List Token → Type 0
Parameters n = Made (λ (c : ℕ × (ValueKind × List (List ℕ × Expr))). decl.Parameters c.0 c.1.0 c.1.1) (Lined (Both (KindWith word.Parameter ◂ Sign' sign.DoubleColon) (Listed (ValueForm n)) ◂ End))

abbrev Copointers : ℕ → Decl → List Token → List Token → Type 0
Copointers n = Made (λ (c : ℕ × (ValueKind × List (List ℕ))). decl.Copointers c.0 c.1.0 c.1.1) (Lined (Both (KindWith word.Copointer ◂ Sign' sign.DoubleColon) (Listed (PointerForm n)) ◂ End))

abbrev Dummies : ℕ → Decl → List Token → List Token → Type 0
Dummies n = Made (λ (c : ℕ × ((ValueKind × Intent) × List (List ℕ))). decl.Dummies c.0 c.1.0.0 c.1.0.1 c.1.1) (Lined (Both (KindIntent n ◂ Sign' sign.DoubleColon) (Listed Name) ◂ End))

abbrev Variables : ℕ → Decl → List Token → List Token → Type 0
Variables n = Made (λ (c : ℕ × (ValueKind × List Declared)). decl.Variables c.0 c.1.0 c.1.1) (Lined (Both (KindForm ◂ Perhaps (Sign' sign.DoubleColon)) (Listed (ItemForm n)) ◂ End))

-- behind a kind and a comma
abbrev Attributed : ℕ → Decl → List Token → List Token → Type 0
Attributed n x ts rest = Parameters n x ts rest ⊎ (Copointers n x ts rest ⊎ Dummies n x ts rest)

parameters_third : (n : ℕ) (x : Decl) (ts rest : List Token) → Parameters n x ts rest → (third_of ts ≡ Some (what.Word word.Parameter)) × (second_passes (λ v. is_some (is_sign sign.Comma v)) ts ≡ true)
parameters_third n x [] rest (c, e, k) = absurd k
parameters_third n x (t ∷ ts) rest (c, e, (l, (d, (b, (a, k, colons), listed'), end''))) = (kind_with_third word.Parameter c.1.0 (t ∷ ts) a k, kind_with_comma word.Parameter c.1.0 (t ∷ ts) a k)

copointers_third : (n : ℕ) (x : Decl) (ts rest : List Token) → Copointers n x ts rest → (third_of ts ≡ Some (what.Word word.Copointer)) × (second_passes (λ v. is_some (is_sign sign.Comma v)) ts ≡ true)
copointers_third n x [] rest (c, e, k) = absurd k
copointers_third n x (t ∷ ts) rest (c, e, (l, (d, (b, (a, k, colons), listed'), end''))) = (kind_with_third word.Copointer c.1.0 (t ∷ ts) a k, kind_with_comma word.Copointer c.1.0 (t ∷ ts) a k)

dummies_third : (n : ℕ) (x : Decl) (ts rest : List Token) → Dummies n x ts rest → (third_of ts ≡ Some (what.Word word.Intent)) × (second_passes (λ v. is_some (is_sign sign.Comma v)) ts ≡ true)
dummies_third n x [] rest (c, e, k) = absurd k
dummies_third n x (t ∷ ts) rest (c, e, (l, (d, (b, (a, (f, k, i), colons), listed'), end''))) = (kind_with_third word.Intent c.1.0.0 (t ∷ ts) f k, kind_with_comma word.Intent c.1.0.0 (t ∷ ts) f k)

perhaps_colons : (n : ℕ) (c : List Declared) (mid next rest : List Token) → Perhaps (Sign' sign.DoubleColon) tt mid next → Listed (ItemForm n) c next rest → ahead (λ v. is_some (is_sign sign.Comma v)) mid ≡ false
perhaps_colons n c mid next rest (inl t) k = ahead_is (λ v. is_some (is_sign sign.Comma v)) false (what.Sign sign.DoubleColon) mid next t refl
perhaps_colons n c mid next rest (inr f) k = ap (ahead (λ v. is_some (is_sign sign.Comma v))) f ∙ ahead_is (λ v. is_some (is_sign sign.Comma v)) false (what.Name _) next _ k.2.1.2.1.1 refl

variables_second : (n : ℕ) (x : Decl) (ts rest : List Token) → Variables n x ts rest → second_passes (λ v. is_some (is_sign sign.Comma v)) ts ≡ false
variables_second n x [] rest (c, e, k) = absurd k
variables_second n x (t ∷ ts) rest (c, e, (l, (d, (b, (a, k, colons), listed'), end''))) =
    second_is (λ v. is_some (is_sign sign.Comma v)) false (what.Word (kind_word c.1.0)) (t ∷ ts) a k (perhaps_colons n c.1.1 a b d colons listed')

module _ (G : Type 0) (n m : ℕ) (reach : G → m ≤ n) where
  attributed_sound : (w : What) (ts : List Token) (x : Decl) (rest : List Token) → p.attributed_by n w ts ≡ Ok (x, rest) → Attributed n x ts rest × Eats each ts rest
  attributed_sound (what.Word word.Parameter) ts x rest e = (inl ((good_parameters G n m reach).sound ts x rest e), (good_parameters G n m reach).eats ts x rest e)
  attributed_sound (what.Word word.Copointer) ts x rest e = (inr (inl ((good_copointers G n m reach).sound ts x rest e)), (good_copointers G n m reach).eats ts x rest e)
  attributed_sound (what.Word word.Intent) ts x rest e = (inr (inr ((good_dummies G n m reach).sound ts x rest e)), (good_dummies G n m reach).eats ts x rest e)
  attributed_sound _ ts x rest e = absurd (let no : ◌≡◌ {A = Outcome Decl} (Err Syntax) (Ok (x, rest)) = e in cc)

  attributed_digs : (w : What) (ts : List Token) → p.attributed_by n w ts ≡ Err Deep → suc n ≤ opened each opening ts
  attributed_digs (what.Word word.Parameter) ts e = (good_parameters G n m reach).digs ts e
  attributed_digs (what.Word word.Copointer) ts e = (good_copointers G n m reach).digs ts e
  attributed_digs (what.Word word.Intent) ts e = (good_dummies G n m reach).digs ts e
  attributed_digs _ ts e = absurd (let no : ◌≡◌ {A = Outcome Decl} (Err Syntax) (Err Deep) = e in cc)

  third_sound : (o : Option What) (ts : List Token) (x : Decl) (rest : List Token) → by_some (p.attributed_by n) o ts ≡ Ok (x, rest) → Attributed n x ts rest × Eats each ts rest
  third_sound None ts x rest e = absurd (let no : ◌≡◌ {A = Outcome Decl} (Err Syntax) (Ok (x, rest)) = e in cc)
  third_sound (Some w) ts x rest e = attributed_sound w ts x rest e

  third_digs : (o : Option What) (ts : List Token) → by_some (p.attributed_by n) o ts ≡ Err Deep → suc n ≤ opened each opening ts
  third_digs None ts e = absurd (let no : ◌≡◌ {A = Outcome Decl} (Err Syntax) (Err Deep) = e in cc)
  third_digs (Some w) ts e = attributed_digs w ts e

  attributed_fits : (x : Decl) (ts rest : List Token) → Attributed m x ts rest → Fits G any x rest (by_some (p.attributed_by n) (third_of ts) ts)
  attributed_fits x ts rest (inl c) = subst (λ o. Fits G any x rest (by_some (p.attributed_by n) o ts)) (sym (parameters_third m x ts rest c).0) ((good_parameters G n m reach).fits x ts rest c)
  attributed_fits x ts rest (inr (inl c)) = subst (λ o. Fits G any x rest (by_some (p.attributed_by n) o ts)) (sym (copointers_third m x ts rest c).0) ((good_copointers G n m reach).fits x ts rest c)
  attributed_fits x ts rest (inr (inr c)) = subst (λ o. Fits G any x rest (by_some (p.attributed_by n) o ts)) (sym (dummies_third m x ts rest c).0) ((good_dummies G n m reach).fits x ts rest c)

  good_attributed : Keeps G (suc n) any (Attributed n) (Attributed m) (p.attributed n)
  unfolding p.attributed
  good_attributed = record {
    sound = λ ts x rest e. (third_sound (third_of ts) ts x rest e).0;
    fits = attributed_fits;
    eats = λ ts x rest e. (third_sound (third_of ts) ts x rest e).1;
    digs = λ ts e. third_digs (third_of ts) ts e;
  }

  attributed_comma : (x : Decl) (ts rest : List Token) → Attributed m x ts rest → second_passes (λ v. is_some (is_sign sign.Comma v)) ts ≡ true
  attributed_comma x ts rest (inl c) = (parameters_third m x ts rest c).1
  attributed_comma x ts rest (inr (inl c)) = (copointers_third m x ts rest c).1
  attributed_comma x ts rest (inr (inr c)) = (dummies_third m x ts rest c).1

  good_of_kind : Keeps G (suc n) any (Either (Attributed n) (Variables n)) (Either (Attributed m) (Variables m)) (p.of_kind n)
  unfolding p.of_kind
  good_of_kind = good_choice any (second_passes (λ v. is_some (is_sign sign.Comma v))) _ _ _ _ _ _ good_attributed (good_variables G n m reach) attributed_comma (variables_second m)

  of_kind_is : (x : Decl) (ts rest : List Token) → Either (Attributed n) (Variables n) x ts rest → Declaration n x ts rest
  of_kind_is x ts rest (inl (inl c)) = parameters c
  of_kind_is x ts rest (inl (inr (inl c))) = copointers c
  of_kind_is x ts rest (inl (inr (inr c))) = dummies c
  of_kind_is x ts rest (inr c) = variables c

  declaration_sound : (w : What) (ts : List Token) (x : Decl) (rest : List Token) → p.declaration_by n w ts ≡ Ok (x, rest) → Declaration n x ts rest × Eats each ts rest
  declaration_sound (what.Word word.Integer) ts x rest e = (of_kind_is x ts rest (good_of_kind.sound ts x rest e), good_of_kind.eats ts x rest e)
  declaration_sound (what.Word word.Logical) ts x rest e = (of_kind_is x ts rest (good_of_kind.sound ts x rest e), good_of_kind.eats ts x rest e)
  declaration_sound (what.Word word.Event) ts x rest e = (events ((good_events G n m reach).sound ts x rest e), (good_events G n m reach).eats ts x rest e)
  declaration_sound (what.Word word.Team) ts x rest e = (teams ((good_teams G n m reach).sound ts x rest e), (good_teams G n m reach).eats ts x rest e)
  declaration_sound _ ts x rest e = absurd (let no : ◌≡◌ {A = Outcome Decl} (Err Syntax) (Ok (x, rest)) = e in cc)

  declaration_digs : (w : What) (ts : List Token) → p.declaration_by n w ts ≡ Err Deep → suc n ≤ opened each opening ts
  declaration_digs (what.Word word.Integer) ts e = good_of_kind.digs ts e
  declaration_digs (what.Word word.Logical) ts e = good_of_kind.digs ts e
  declaration_digs (what.Word word.Event) ts e = (good_events G n m reach).digs ts e
  declaration_digs (what.Word word.Team) ts e = (good_teams G n m reach).digs ts e
  declaration_digs _ ts e = absurd (let no : ◌≡◌ {A = Outcome Decl} (Err Syntax) (Err Deep) = e in cc)

  by_kind : (k : ValueKind) (x : Decl) (ts us rest : List Token) → Takes (what.Word (kind_word k)) ts us → Either (Attributed m) (Variables m) x ts rest → Fits G any x rest (by_next (p.declaration_by n) ts)
  by_kind kind.Integer x ts us rest t c = next_fits_at G any (p.declaration_by n) (what.Word word.Integer) x ts rest us t (good_of_kind.fits x ts rest c)
  by_kind kind.Logical x ts us rest t c = next_fits_at G any (p.declaration_by n) (what.Word word.Logical) x ts rest us t (good_of_kind.fits x ts rest c)

  declaration_fits : (x : Decl) (ts rest : List Token) → Declaration m x ts rest → Fits G any x rest (by_next (p.declaration_by n) ts)
  declaration_fits x [] rest (parameters (c, e, k)) = absurd k
  declaration_fits x (t ∷ ts) rest (parameters (c, e, (l, (d, (b, (a, (g, (f, k, o), z), colons), listed'), end'')))) = by_kind c.1.0 x (t ∷ ts) f rest k (inl (inl (c, e, (l, (d, (b, (a, (g, (f, k, o), z), colons), listed'), end'')))))
  declaration_fits x [] rest (copointers (c, e, k)) = absurd k
  declaration_fits x (t ∷ ts) rest (copointers (c, e, (l, (d, (b, (a, (g, (f, k, o), z), colons), listed'), end'')))) = by_kind c.1.0 x (t ∷ ts) f rest k (inl (inr (inl (c, e, (l, (d, (b, (a, (g, (f, k, o), z), colons), listed'), end''))))))
  declaration_fits x [] rest (dummies (c, e, k)) = absurd k
  declaration_fits x (t ∷ ts) rest (dummies (c, e, (l, (d, (b, (a, (h, (g, (f, k, o), z), i), colons), listed'), end'')))) = by_kind c.1.0.0 x (t ∷ ts) f rest k (inl (inr (inr (c, e, (l, (d, (b, (a, (h, (g, (f, k, o), z), i), colons), listed'), end''))))))
  declaration_fits x [] rest (variables (c, e, k)) = absurd k
  declaration_fits x (t ∷ ts) rest (variables (c, e, (l, (d, (b, (a, k, colons), listed'), end'')))) = by_kind c.1.0 x (t ∷ ts) a rest k (inr (c, e, (l, (d, (b, (a, k, colons), listed'), end''))))
  declaration_fits x [] rest (events (c, e, k)) = absurd k
  declaration_fits x (t ∷ ts) rest (events (c, e, (l, (a, k, u)))) = next_fits_at G any (p.declaration_by n) (what.Word word.Event) x (t ∷ ts) rest a k ((good_events G n m reach).fits x (t ∷ ts) rest (c, e, (l, (a, k, u))))
  declaration_fits x [] rest (teams (c, e, k)) = absurd k
  declaration_fits x (t ∷ ts) rest (teams (c, e, (l, (a, k, u)))) = next_fits_at G any (p.declaration_by n) (what.Word word.Team) x (t ∷ ts) rest a k ((good_teams G n m reach).fits x (t ∷ ts) rest (c, e, (l, (a, k, u))))

  good_declaration : Keeps G (suc n) any (Declaration n) (Declaration m) (p.declaration n)
  unfolding p.declaration
  good_declaration = by_next_good any _ _ (p.declaration_by n) declaration_sound declaration_fits declaration_digs

  -- ---- a declaration takes a token at least, and begins with one of these

  parameters_strict : (ts : List Token) (x : Decl) (rest : List Token) → p.parameters n ts ≡ Ok (x, rest) → length rest < length ts
  unfolding p.parameters
  parameters_strict = make_strict _ _ (lined_strict _ (trail_strict _ end'
      (good_both any closes _ _ _ _ _ _ (sign_trail any _ _ _ (good_kind_with word.Parameter) sign.DoubleColon any refl) (good_listed _ _ _ (good_valued G n m reach)) (λ c mid rest k. any_stops mid)).eats (one_strict is_end)))

  copointers_strict : (ts : List Token) (x : Decl) (rest : List Token) → p.copointers n ts ≡ Ok (x, rest) → length rest < length ts
  unfolding p.copointers
  copointers_strict = make_strict _ _ (lined_strict _ (trail_strict _ end'
      (good_both any closes _ _ _ _ _ _ (sign_trail any _ _ _ (good_kind_with word.Copointer) sign.DoubleColon any refl) (good_listed _ _ _ (good_pointer G n m reach)) (λ c mid rest k. any_stops mid)).eats (one_strict is_end)))

  dummies_strict : (ts : List Token) (x : Decl) (rest : List Token) → p.dummies n ts ≡ Ok (x, rest) → length rest < length ts
  unfolding p.dummies
  dummies_strict = make_strict _ _ (lined_strict _ (trail_strict _ end'
      (good_both any closes _ _ _ _ _ _ (sign_trail any _ _ _ (good_kind_intent G n m reach) sign.DoubleColon any refl) (good_listed _ _ _ (good_name follows)) (λ c mid rest k. any_stops mid)).eats (one_strict is_end)))

  variables_strict : (ts : List Token) (x : Decl) (rest : List Token) → p.variables n ts ≡ Ok (x, rest) → length rest < length ts
  unfolding p.variables
  variables_strict = make_strict _ _ (lined_strict _ (trail_strict _ end' (good_variables_inner G n m reach).eats (one_strict is_end)))

  events_strict : (ts : List Token) (x : Decl) (rest : List Token) → p.events n ts ≡ Ok (x, rest) → length rest < length ts
  unfolding p.events
  events_strict = make_strict _ _ (lined_strict _ (strict_bind each (is_word word.Event) _ (λ _. (end_trail closes _ _ _ (sign_lead closes _ _ _ (good_listed _ _ _ (good_item G n m reach)) sign.DoubleColon) any refl).eats)))

  teams_strict : (ts : List Token) (x : Decl) (rest : List Token) → p.teams n ts ≡ Ok (x, rest) → length rest < length ts
  unfolding p.teams
  teams_strict = make_strict _ _ (lined_strict _ (strict_bind each (is_word word.Team) _ (λ _. (end_trail {G = G} {n = n} closes _ _ _ (sign_lead closes _ _ _ (good_listed _ _ _ (good_name follows)) sign.DoubleColon) any refl).eats)))

  attributed_by_strict : (w : What) (ts : List Token) (x : Decl) (rest : List Token) → p.attributed_by n w ts ≡ Ok (x, rest) → length rest < length ts
  attributed_by_strict (what.Word word.Parameter) = parameters_strict
  attributed_by_strict (what.Word word.Copointer) = copointers_strict
  attributed_by_strict (what.Word word.Intent) = dummies_strict
  attributed_by_strict _ = λ ts x rest e. absurd (let no : ◌≡◌ {A = Outcome Decl} (Err Syntax) (Ok (x, rest)) = e in cc)

  third_strict : (o : Option What) (ts : List Token) (x : Decl) (rest : List Token) → by_some (p.attributed_by n) o ts ≡ Ok (x, rest) → length rest < length ts
  third_strict None ts x rest e = absurd (let no : ◌≡◌ {A = Outcome Decl} (Err Syntax) (Ok (x, rest)) = e in cc)
  third_strict (Some w) ts x rest e = attributed_by_strict w ts x rest e

  of_kind_strict : (ts : List Token) (x : Decl) (rest : List Token) → p.of_kind n ts ≡ Ok (x, rest) → length rest < length ts
  unfolding p.of_kind p.attributed
  of_kind_strict = either_by_strict (second_passes (λ v. is_some (is_sign sign.Comma v))) _ _ (λ ts. third_strict (third_of ts) ts) variables_strict

  declaration_by_strict : (w : What) (ts : List Token) (x : Decl) (rest : List Token) → p.declaration_by n w ts ≡ Ok (x, rest) → length rest < length ts
  declaration_by_strict (what.Word word.Integer) = of_kind_strict
  declaration_by_strict (what.Word word.Logical) = of_kind_strict
  declaration_by_strict (what.Word word.Event) = events_strict
  declaration_by_strict (what.Word word.Team) = teams_strict
  declaration_by_strict _ = λ ts x rest e. absurd (let no : ◌≡◌ {A = Outcome Decl} (Err Syntax) (Ok (x, rest)) = e in cc)

  declaration_strict : (ts : List Token) (x : Decl) (rest : List Token) → p.declaration n ts ≡ Ok (x, rest) → length rest < length ts
  unfolding p.declaration
  declaration_strict [] x rest e = absurd (let no : ◌≡◌ {A = Outcome Decl} (Err Syntax) (Ok (x, rest)) = e in cc)
  declaration_strict (t ∷ ts) x rest e = declaration_by_strict t.what (t ∷ ts) x rest e

-- with what a declaration begins
abbrev pub begins_declaration : What → Bool
begins_declaration (what.Word word.Integer) = true
begins_declaration (what.Word word.Logical) = true
begins_declaration (what.Word word.Event) = true
begins_declaration (what.Word word.Team) = true
begins_declaration _ = false

module _ (n : ℕ) where
  declaration_by_starts : (w : What) (ts : List Token) → begins_declaration w ≡ false → p.declaration_by n w ts ≡ Err Syntax
  declaration_by_starts (what.Word word.Integer) ts e = cc
  declaration_by_starts (what.Word word.Logical) ts e = cc
  declaration_by_starts (what.Word word.Event) ts e = cc
  declaration_by_starts (what.Word word.Team) ts e = cc
  declaration_by_starts _ ts e = refl

  declaration_starts : (ts : List Token) → ahead begins_declaration ts ≡ false → p.declaration n ts ≡ Err Syntax
  unfolding p.declaration
  declaration_starts [] e = refl
  declaration_starts (t ∷ ts) e = declaration_by_starts t.what (t ∷ ts) e

-- ---- bodies

abbrev no_implicit : What → Bool
no_implicit = but (is_word word.Implicit)

abbrev no_declaration : What → Bool
no_declaration w = not (begins_declaration w) && no_implicit w

-- what comes behind the statements of a body
abbrev pub ends_body : What → Bool
ends_body (what.Word word.End) = true
ends_body (what.Word word.EndProgram) = true
ends_body (what.Word word.EndSubroutine) = true
ends_body (what.Word word.Contains) = true
ends_body _ = false

at_body_end : (f : What → Bool) (b : Bool) → f (what.Word word.End) ≡ b → f (what.Word word.EndProgram) ≡ b → f (what.Word word.EndSubroutine) ≡ b → f (what.Word word.Contains) ≡ b → (w : What) → ends_body w ≡ true → f w ≡ b
at_body_end f b h i k l (what.Word word.End) e = h
at_body_end f b h i k l (what.Word word.EndProgram) e = i
at_body_end f b h i k l (what.Word word.EndSubroutine) e = k
at_body_end f b h i k l (what.Word word.Contains) e = l
at_body_end f b h i k l _ e = absurd (let no : ◌≡◌ {A = Bool} false true = e in cc)

and_second : (a b : Bool) → (a && b) ≡ true → b ≡ true
and_second true b e = e
and_second false b e = absurd (let no : ◌≡◌ {A = Bool} false true = e in cc)

declaration_next : (w : What) → begins_declaration w ≡ true → no_implicit w ≡ true
declaration_next (what.Word word.Integer) e = refl
declaration_next (what.Word word.Logical) e = refl
declaration_next (what.Word word.Event) e = refl
declaration_next (what.Word word.Team) e = refl
declaration_next _ e = absurd (let no : ◌≡◌ {A = Bool} false true = e in cc)

statement_next : (w : What) → begins_statement w ≡ true → no_declaration w ≡ true
statement_next (what.Word word.If) e = refl
statement_next (what.Word word.Do) e = refl
statement_next (what.Word word.Finish) e = refl
statement_next (what.Name x) e = refl
statement_next (what.Word word.Print) e = refl
statement_next (what.Word word.Call) e = refl
statement_next (what.Word word.Spawn) e = refl
statement_next (what.Word word.EventNotify) e = refl
statement_next (what.Word word.EventWait) e = refl
statement_next (what.Word word.CopyAsync) e = refl
statement_next (what.Word word.Cofence) e = refl
statement_next (what.Word word.TeamSplit) e = refl
statement_next _ e = absurd (let no : ◌≡◌ {A = Bool} false true = e in cc)

module _ (G : Type 0) (n m : ℕ) (reach : G → m ≤ n) where
  item_declaration : Item each opening G (suc n) no_implicit no_declaration begins_declaration (Declaration n) (Declaration m) (p.declaration n)
  item_declaration = record {
    good = good_narrow any no_implicit (λ w e. refl) _ _ _ (good_declaration G n m reach);
    starts = declaration_starts n;
    strict = declaration_strict G n m reach;
    next = declaration_next;
    last = λ w e. not_so (begins_declaration w) (and_first (not (begins_declaration w)) _ e);
    weaker = λ w e. and_second (not (begins_declaration w)) _ e;
  }

  item_body : Item each opening G (suc n) no_declaration ends_body begins_statement (Statement n (InnerBlock n) (InnerBranches n)) (Statement m (InnerBlock m) (InnerBranches m)) (p.statement n (p.inner_block n) (p.inner_branches n))
  item_body =
      let i = item_statements G n m reach in
      record {
        good = good_narrow any no_declaration (λ w e. refl) _ _ _ i.good;
        starts = i.starts;
        strict = i.strict;
        next = statement_next;
        last = at_body_end begins_statement false refl refl refl refl;
        weaker = at_body_end no_declaration true refl refl refl refl;
      }

  good_implicit : Keeps G (suc n) no_implicit ImplicitNone ImplicitNone p.implicit_none
  unfolding p.implicit_none
  good_implicit = good_perhaps no_implicit (λ v. is_some (is_word word.Implicit v)) _ _ _
      (start_word no_implicit _ _ _ word.Implicit (word_lead no_implicit _ _ _ (word_lead no_implicit _ _ _ (good_end no_implicit) word.None) word.Implicit) (word_lead {G = G} {n = n} no_implicit _ _ _ (good_end no_implicit) word.None).eats refl)

  abbrev BodyPair : ℕ → Unit {0} × (List Decl × List Stmt) → List Token → List Token → Type 0
  BodyPair k = Both ImplicitNone (Both (Many (Declaration k)) (StatementsForm k))

  body_there : (a : List Decl × List Stmt) (ts rest : List Token) → Made (λ (c : Unit {0} × (List Decl × List Stmt)). c.1) (BodyPair n) a ts rest → Body n a ts rest
  body_there a ts rest (c, e, (mid, i, k)) = (mid, i, subst (λ x. Both (Many (Declaration n)) (StatementsForm n) x mid rest) (sym e) k)

  body_back : (a : List Decl × List Stmt) (ts rest : List Token) → Body m a ts rest → Made (λ (c : Unit {0} × (List Decl × List Stmt)). c.1) (BodyPair m) a ts rest
  body_back a ts rest (mid, i, k) = ((tt, a), refl, (mid, i, k))

  pub good_body : Keeps G (suc n) ends_body (Body n) (Body m) (p.body n)
  unfolding p.body
  good_body = good_same ends_body _ _ _ _ _ body_there body_back (good_made ends_body (λ (c : Unit {0} × (List Decl × List Stmt)). c.1) _ _ _
      (good_then each opening G (suc n) no_implicit ends_body _ _ _ _ _ _ good_implicit
      (tail_then each opening G (suc n) no_implicit no_declaration ends_body _ _ _ _ _ _
      (tail_many each opening G (suc n) no_implicit no_declaration begins_declaration _ _ _ item_declaration)
      (tail_many each opening G (suc n) no_declaration ends_body begins_statement _ _ _ item_body))))

-- ---- ends

abbrev ends : What → Bool
ends what.End = true
ends _ = false

at_end : (f : What → Bool) (b : Bool) → f what.End ≡ b → (w : What) → ends w ≡ true → f w ≡ b
at_end f b h what.End e = h
at_end f b h _ e = absurd (let no : ◌≡◌ {A = Bool} false true = e in cc)

good_name_after : {G : Type 0} {n : ℕ} (x : List ℕ) → Keeps G n ends (Perhaps (Called x)) (Perhaps (Called x)) (perhaps (named x))
good_name_after {G} {n} x = good_perhaps ends (λ v. is_some (is_name x v)) _ _ _ (record {
  good = good_named x ends;
  starts = one_starts (is_name x);
  strict = one_strict (is_name x);
  last = at_end (λ v. is_some (is_name x v)) false refl;
  weaker = λ w e. e;
})

good_end_of : {G : Type 0} {n : ℕ} (w together : Word) → is_some (is_word word.End (what.Word together)) ≡ false → (x : List ℕ) → Keeps G n ends (EndOf w together x) (EndOf w together x) (p.end_of w together x)
unfolding p.end_of
good_end_of {G} {n} w together e x = good_choice ends (ahead (λ v. is_some (is_word word.End v))) _ _ _ _ _ _
    (word_lead ends _ _ _ (good_perhaps ends (λ v. is_some (is_word w v)) _ _ _
    (start_word ends _ _ _ w (word_lead ends _ _ _ (good_name_after x) w) (good_name_after {G = G} {n = n} x).eats refl)) word.End)
    (word_lead ends _ _ _ (good_name_after x) together)
    (λ u ts rest c. ahead_is (λ v. is_some (is_word word.End v)) true (what.Word word.End) ts _ c.1 refl)
    (λ u ts rest c. ahead_is (λ v. is_some (is_word word.End v)) false (what.Word together) ts _ c.1 e)

to_stops : (S : What → Bool) (ts : List Token) → ahead S ts ≡ true → Stops S ts
to_stops S [] e = tt
to_stops S (t ∷ ts) e = e

end_of_stops : (S : What → Bool) (w together : Word) (x : List ℕ) → S (what.Word word.End) ≡ true → S (what.Word together) ≡ true → (mid rest : List Token) → EndOf w together x tt mid rest → Stops S mid
end_of_stops S w together x h k mid rest (inl c) = to_stops S mid (ahead_is S true (what.Word word.End) mid _ c.1 h)
end_of_stops S w together x h k mid rest (inr c) = to_stops S mid (ahead_is S true (what.Word together) mid _ c.1 k)

-- ---- subroutines and units

-- what comes behind the subroutines
abbrev ends_program : What → Bool
ends_program (what.Word word.End) = true
ends_program (what.Word word.EndProgram) = true
ends_program _ = false

at_program_end : (f : What → Bool) (b : Bool) → f (what.Word word.End) ≡ b → f (what.Word word.EndProgram) ≡ b → (w : What) → ends_program w ≡ true → f w ≡ b
at_program_end f b h i (what.Word word.End) e = h
at_program_end f b h i (what.Word word.EndProgram) e = i
at_program_end f b h i _ e = absurd (let no : ◌≡◌ {A = Bool} false true = e in cc)

names_begin : (m : ℕ) (a : List (List ℕ)) (ts rest : List Token) → Listed Name a ts rest → ahead (λ v. is_some (is_sign sign.RightParenthesis v)) ts ≡ false
names_begin m a ts rest c = ahead_is (λ v. is_some (is_sign sign.RightParenthesis v)) false (what.Name c.0.0) ts _ c.2.1 refl

module _ (G : Type 0) (n m : ℕ) (reach : G → m ≤ n) where
  good_heading : Keeps G (suc n) any (Heading n) (Heading m) (p.heading n)
  unfolding p.heading
  good_heading = end_trail closes _ _ _ (good_both any closes _ _ _ _ _ _ (good_name any)
      (good_perhaps_list G (λ _. Listed Name) (λ _. Listed Name) p.names (λ k l h. good_listed _ _ _ (good_name follows)) names_begin n m reach) (λ c mid rest k. any_stops mid)) any refl

  abbrev SubParts : Type 0
  SubParts = (List ℕ × List (List ℕ)) × (List Decl × List Stmt)

  sub_inner : Keeps G (suc n) any (Closed (λ (c : SubParts). EndOf word.Subroutine word.EndSubroutine c.0.0) (Both (Heading n) (Body n)) ◂ End) (Closed (λ (c : SubParts). EndOf word.Subroutine word.EndSubroutine c.0.0) (Both (Heading m) (Body m)) ◂ End)
      (trail (both (p.heading n) (p.body n) >>= (λ a. p.end_of word.Subroutine word.EndSubroutine a.0.0 >>= (λ _. pure a))) end')
  sub_inner = end_trail ends _ _ _ (good_closed ends_body ends _ _ _ _ _
      (good_both any ends_body _ _ _ _ _ _ good_heading (good_body G n m reach) (λ c mid rest k. any_stops mid))
      (λ a. good_end_of word.Subroutine word.EndSubroutine refl a.0.0) (λ a mid rest k. end_of_stops ends_body word.Subroutine word.EndSubroutine a.0.0 refl refl mid rest k)) any refl

  good_sub : Keeps G (suc n) any (SubForm n) (SubForm m) (p.sub n)
  unfolding p.sub
  good_sub = good_made any sub_of _ _ _ (good_lined any _ _ _ (word_lead any _ _ _ sub_inner word.Subroutine) refl)

  sub_starts : (ts : List Token) → ahead (λ v. is_some (is_word word.Subroutine v)) ts ≡ false → p.sub n ts ≡ Err Syntax
  unfolding p.sub
  sub_starts ts e = rw (lined_starts _ ts (starts_bind (is_word word.Subroutine) _ ts e)) refl

  sub_strict : (ts : List Token) (x : Sub) (rest : List Token) → p.sub n ts ≡ Ok (x, rest) → length rest < length ts
  unfolding p.sub
  sub_strict = make_strict _ _ (lined_strict _ (strict_bind each (is_word word.Subroutine) _ (λ _. sub_inner.eats)))

  item_sub : Item each opening G (suc n) any ends_program (λ v. is_some (is_word word.Subroutine v)) (SubForm n) (SubForm m) (p.sub n)
  item_sub = record {
    good = good_sub;
    starts = sub_starts;
    strict = sub_strict;
    next = λ w e. refl;
    last = at_program_end (λ v. is_some (is_word word.Subroutine v)) false refl refl;
    weaker = λ w e. refl;
  }

  many_subs : Keeps G (suc n) ends_program (End ▸ Many (SubForm n)) (End ▸ Many (SubForm m)) (lead end' (many (p.sub n)))
  many_subs = end_lead ends_program _ _ _ (tail_many each opening G (suc n) any ends_program (λ v. is_some (is_word word.Subroutine v)) _ _ _ item_sub).good

  tail_subs : Tail each opening G (suc n) ends_body ends_program (SubsForm n) (SubsForm m) (p.subs n)
  unfolding p.subs
  tail_subs = tail_made each opening G (suc n) ends_body ends_program or_none _ _ _
      (tail_perhaps each opening G (suc n) ends_body ends_program ends_program (λ v. is_some (is_word word.Contains v)) _ _ _
      (start_word ends_program _ _ _ word.Contains (word_lead ends_program _ _ _ many_subs word.Contains) many_subs.eats refl)
      (next_word word.Contains ends_body refl) (at_program_end ends_body true refl refl))

  abbrev UnitParts : Type 0
  UnitParts = (List ℕ × (List Decl × List Stmt)) × List Sub

  pub good_unit : Keeps G (suc n) any (UnitForm n) (UnitForm m) (p.unit_in n)
  unfolding p.unit_in
  good_unit = good_made any program_of _ _ _ (word_lead any _ _ _ (end_trail ends _ _ _ (good_closed ends_program ends _ _ (λ (c : UnitParts). EndOf word.Program word.EndProgram c.0.0) _ _
      (good_then each opening G (suc n) ends_body ends_program _ _ _ _ _ _
      (good_both any ends_body _ _ _ _ _ _ (end_trail any _ _ _ (good_name any) any refl) (good_body G n m reach) (λ c mid rest k. any_stops mid)) tail_subs)
      (λ a. good_end_of word.Program word.EndProgram refl a.0.0) (λ a mid rest k. end_of_stops ends_program word.Program word.EndProgram a.0.0 refl refl mid rest k)) any refl) word.Program)
