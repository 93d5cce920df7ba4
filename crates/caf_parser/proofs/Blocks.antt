-- The readers of statements with blocks.
use Rattle.std.proofs.Common.{◌≡◌, ℕ, zero, suc, ◌+◌, ◌<◌, ◌≤◌, Bool, true, false, not, cond, ◌&&◌, ◌||◌, List, [], ◌∷◌, length, Option, Some, None, Result, Ok, Err, ◌⊎◌, inl, inr, refl, ap, sym, ◌∙◌, subst, arith}
use Rattle.std.specs.Prelude.{is_some}
use Rattle.caf_lexer.specs.declared.token.Token.{Token}
use Rattle.caf_lexer.specs.declared.token.What.{What}
use Rattle.caf_lexer.specs.declared.token.What.TheVariants as what
use Rattle.caf_lexer.specs.declared.token.Sign.TheVariants as sign
use Rattle.caf_lexer.specs.declared.token.Word.{Word}
use Rattle.caf_lexer.specs.declared.token.Word.TheVariants as word
use Rattle.caf_tree.specs.declared.expr.Team.{Team}
use Rattle.caf_tree.specs.declared.expr.Expr.{Expr}
use Rattle.caf_tree.specs.declared.stmt.Simple.{Simple}
use Rattle.caf_tree.specs.declared.stmt.Stmt.{Stmt}
use Rattle.caf_tree.specs.declared.stmt.Stmt.TheVariants as stmt
use Rattle.caf_tree.specs.Forms.{Takes, Just, Token', Sign', Word', End, Name, ◌⨟◌, Maybe, Many, Both, Made, Either, ◌▸◌, ◌◂◌, Joined, or_none, InParentheses, Lined, Inside}
use Rattle.caf_tree.specs.Expressions.{Inner, Expression, TeamForm, or_world}
use Rattle.caf_tree.specs.Statements.{SimpleForm, Branches, if_at, EndDo, EndIf, EndFinish, Condition, Rest, BranchesIn, Guarded, Counted, Statement, simple, if_line, if_block, counted, while_true, finish, InnerBlock, InnerBranches, StatementsForm}
use Rattle.caf_exprparse.specs.Ends.{Stops, ends_expression, opened}
use Rattle.caf_exprparse.specs.Reading.{Refusal, Syntax, Deep, Outcome, Reader, and_then, ◌>>=◌, pure, optional, many, both, make, lead, trail, ahead, either, one, by_next}
use Rattle.caf_exprparse.specs.Told.{is_sign, is_word, is_end, sign', word', end', in_parentheses}
use Rattle.caf_exprparse.specs.Reader as r
use Rattle.caf_exprparse.proofs.Eats.{Eats}
use Rattle.caf_exprparse.proofs.Good.{Fits, Good, good_made, good_both, good_lead, good_trail, good_choice, good_same, good_narrow}
use Rattle.caf_exprparse.proofs.Lists.{Tail, good_then, Start, Item, good_maybe, start_of, tail_maybe, tail_many, tail_perhaps, item_made, make_strict, both_strict, either_strict}
use Rattle.caf_exprparse.proofs.OneToken.{any, any_stops, one_strict, starts_bind, strict_bind, takes_stops, not_last, next_fits_at, ahead_takes, ahead_not}
use Rattle.caf_exprparse.proofs.Told as told
use Rattle.caf_exprparse.proofs.Expressions.{but, not_so, good_team}
use Rattle.caf_simpleparse.specs.Opening.{opening, each}
use Rattle.caf_simpleparse.specs.Choices.{joined, lined, either_by, next_behind, passes, second_passes, at_else_if}
use Rattle.caf_parser.specs.Reader as p
use Rattle.caf_simpleparse.specs.Reader as q
use Rattle.caf_simpleparse.proofs.Keeps.{Keeps, closes, follows, at_close, at_follow, an_end, good_sign, good_word, good_end, good_name, sign_lead, word_lead, end_lead, word_open, sign_trail, end_trail, in_parens, start_sign, start_word, next_sign, good_behind, good_joined, joined_trail, good_lined, lined_strict, lined_starts, trail_strict, either_by_strict, parens_item, by_next_good}
use Rattle.caf_simpleparse.proofs.PartsRead.{good_value, good_condition}
use Rattle.caf_simpleparse.proofs.SimpleRead.{begins_simple, simple_begins, second_is, ahead_is, good_simple, simple_starts}

-- fewer levels are told ahead
pub good_less : {A : Type 0} {G : Type 0} {n : ℕ} (k : ℕ) → k ≤ n → (S : What → Bool) (P Q : A → List Token → List Token → Type 0) (p : Reader A) → Keeps G n S P Q p → Keeps G k S P Q p
good_less {A} {G} {n} k le S P Q p g = record { sound = g.sound; fits = g.fits; eats = g.eats; digs = λ ts e. let h : n ≤ opened each opening ts = g.digs ts e in omega arith }

-- ---- what comes behind a block

abbrev pub begins_statement : What → Bool
begins_statement (what.Word word.If) = true
begins_statement (what.Word word.Do) = true
begins_statement (what.Word word.Finish) = true
begins_statement w = begins_simple w

abbrev pub in_block : What → Bool
in_block w = not (begins_statement w)

-- the words that end a block, but for those of an else part
abbrev ends_block : What → Bool
ends_block (what.Word word.End) = true
ends_block (what.Word word.EndIf) = true
ends_block (what.Word word.EndDo) = true
ends_block (what.Word word.EndFinish) = true
ends_block _ = false

at_block_end : (f : What → Bool) (b : Bool) → f (what.Word word.End) ≡ b → f (what.Word word.EndIf) ≡ b → f (what.Word word.EndDo) ≡ b → f (what.Word word.EndFinish) ≡ b → (w : What) → ends_block w ≡ true → f w ≡ b
at_block_end f b h i k l (what.Word word.End) e = h
at_block_end f b h i k l (what.Word word.EndIf) e = i
at_block_end f b h i k l (what.Word word.EndDo) e = k
at_block_end f b h i k l (what.Word word.EndFinish) e = l
at_block_end f b h i k l _ e = absurd (let no : ◌≡◌ {A = Bool} false true = e in cc)

-- ---- `else if`

or_false : (a b : Bool) → a ≡ false → b ≡ false → (a || b) ≡ false
or_false a b e f = ap (λ x. x || b) e ∙ f

or_true_first : (a b : Bool) → a ≡ true → (a || b) ≡ true
or_true_first a b e = ap (λ x. x || b) e

or_true_second : (a b : Bool) → b ≡ true → (a || b) ≡ true
or_true_second true b e = refl
or_true_second false b e = e

and_true : (a b : Bool) → a ≡ true → b ≡ true → (a && b) ≡ true
and_true a b e f = ap (λ x. x && b) e ∙ f

and_false_first : (a b : Bool) → a ≡ false → (a && b) ≡ false
and_false_first a b e = ap (λ x. x && b) e

and_false_second : (a b : Bool) → b ≡ false → (a && b) ≡ false
and_false_second true b e = e
and_false_second false b e = refl

abbrev is_the : Word → What → Bool
is_the w v = is_some (is_word w v)

else_if_two : (ts : List Token) → ahead (is_the word.Else) ts ≡ true → second_passes (is_the word.If) ts ≡ true → at_else_if ts ≡ true
else_if_two ts e f = or_true_second (ahead (is_the word.ElseIf) ts) (ahead (is_the word.Else) ts && second_passes (is_the word.If) ts) (and_true (ahead (is_the word.Else) ts) (second_passes (is_the word.If) ts) e f)

else_if_one : (ts : List Token) → ahead (is_the word.ElseIf) ts ≡ true → at_else_if ts ≡ true
else_if_one ts e = or_true_first (ahead (is_the word.ElseIf) ts) (ahead (is_the word.Else) ts && second_passes (is_the word.If) ts) e

else_if_is : {A : Type 0} (I : A → List Token → List Token → Type 0) (c : ℕ × A) (ts rest : List Token) → Lined (Joined word.Else word.If word.ElseIf ▸ I) c ts rest → at_else_if ts ≡ true
else_if_is I c [] rest m = absurd m
else_if_is I c (t ∷ ts) rest (l, (mid, inl (at, d, e), i)) =
    else_if_two (t ∷ ts) (ahead_is (is_the word.Else) true (what.Word word.Else) (t ∷ ts) at d refl) (second_is (is_the word.If) true (what.Word word.Else) (t ∷ ts) at d (ahead_is (is_the word.If) true (what.Word word.If) at mid e refl))
else_if_is I c (t ∷ ts) rest (l, (mid, inr d, i)) = else_if_one (t ∷ ts) (ahead_is (is_the word.ElseIf) true (what.Word word.ElseIf) (t ∷ ts) mid d refl)

-- a first token that is neither of the words
not_else_if : (w : What) → is_some (is_word word.ElseIf w) ≡ false → is_some (is_word word.Else w) ≡ false → (ts us : List Token) → Takes w ts us → at_else_if ts ≡ false
not_else_if w e f ts us m = or_false _ _ (ahead_is _ false w ts us m e) (and_false_first _ _ (ahead_is _ false w ts us m f))

end_if_not : (ts rest : List Token) → EndIf tt ts rest → at_else_if ts ≡ false
end_if_not ts rest (inl (at, d, e)) = not_else_if (what.Word word.End) refl refl ts at d
end_if_not ts rest (inr d) = not_else_if (what.Word word.EndIf) refl refl ts rest d

else_not : {A : Type 0} (B : A → List Token → List Token → Type 0) (o : Option A) (ts mid rest : List Token) → Maybe (Word' word.Else ▸ (End ▸ B)) o ts mid → EndIf tt mid rest → at_else_if ts ≡ false
else_not B None ts mid rest m d = ap at_else_if m ∙ end_if_not mid rest d
else_not B (Some a) ts mid rest (at, t, (next, e, v)) d =
    or_false _ _ (ahead_is _ false (what.Word word.Else) ts at t refl) (and_false_second _ _ (second_is _ false (what.Word word.Else) ts at t (ahead_is _ false what.End at next e refl)))

joined_ahead : (f : What → Bool) (x : Bool) (a b c : Word) → f (what.Word a) ≡ x → f (what.Word c) ≡ x → (ts rest : List Token) → Joined a b c tt ts rest → ahead f ts ≡ x
joined_ahead f x a b c h k ts rest (inl (at, d, e)) = ahead_is f x (what.Word a) ts at d h
joined_ahead f x a b c h k ts rest (inr d) = ahead_is f x (what.Word c) ts rest d k

ahead_to_stops : (S : What → Bool) (ts : List Token) → ahead S ts ≡ true → Stops S ts
ahead_to_stops S [] e = tt
ahead_to_stops S (t ∷ ts) e = e

lined_ahead : {A : Type 0} (P : A → List Token → List Token → Type 0) (f : What → Bool) (x : Bool) → ((a : A) (ts rest : List Token) → P a ts rest → ahead f ts ≡ x) → (a : ℕ × A) (ts rest : List Token) → Lined P a ts rest → ahead f ts ≡ x
lined_ahead P f x h a [] rest m = absurd m
lined_ahead P f x h a (t ∷ ts) rest m = h a.1 (t ∷ ts) rest m.1

else_ahead : {A : Type 0} (B : A → List Token → List Token → Type 0) (o : Option A) (ts mid rest : List Token) → Maybe (Word' word.Else ▸ (End ▸ B)) o ts mid → EndIf tt mid rest → ahead in_block ts ≡ true
else_ahead B None ts mid rest m d = ap (ahead in_block) m ∙ joined_ahead in_block true word.End word.If word.EndIf refl refl mid rest d
else_ahead B (Some a) ts mid rest (at, t, u) d = ahead_is in_block true (what.Word word.Else) ts at t refl

rest_ahead : (n : ℕ) (B : List Stmt → List Token → List Token → Type 0) (I : Branches → List Token → List Token → Type 0) (c : List Stmt) (ts rest : List Token) → Rest n B I c ts rest → ahead in_block ts ≡ true
rest_ahead n B I c ts rest (inl m) = lined_ahead (Joined word.Else word.If word.ElseIf ▸ I) in_block true (λ a us end k. joined_ahead in_block true word.Else word.If word.ElseIf refl refl us _ k.1) m.0 ts rest m.2
rest_ahead n B I c ts rest (inr (mid2, (mid1, m, d), e)) = else_ahead B m.0 ts mid1 mid2 m.2 d

rest_not : (n : ℕ) (B : List Stmt → List Token → List Token → Type 0) (c : List Stmt) (ts rest : List Token) → (Made or_none (Maybe (Word' word.Else ▸ (End ▸ B))) ◂ EndIf ◂ End) c ts rest → at_else_if ts ≡ false
rest_not n B c ts rest (mid2, (mid1, m, d), e) = else_not B m.0 ts mid1 mid2 m.2 d

-- ---- `if`, by what comes behind the condition

abbrev IfTail : ℕ → (List Stmt → List Token → List Token → Type 0) → (Branches → List Token → List Token → Type 0) → p.Made' → List Token → List Token → Type 0
IfTail n B I = Either (Made p.with_block (Word' word.Then ▸ (End ▸ Both B (Rest n B I)))) (Made p.with_action (Lined (SimpleForm n) ◂ End))

abbrev IfForm : ℕ → (List Stmt → List Token → List Token → Type 0) → (Branches → List Token → List Token → Type 0) → Stmt → List Token → List Token → Type 0
IfForm n B I = Made p.if_made (Lined (Word' word.If ▸ Both (Condition n) (IfTail n B I)))

if_there : (n : ℕ) (B : List Stmt → List Token → List Token → Type 0) (I : Branches → List Token → List Token → Type 0) (x : Stmt) (ts rest : List Token) → IfForm n B I x ts rest → Statement n B I x ts rest
if_there n B I x [] rest (c, e, m) = absurd m
if_there n B I x (t ∷ ts) rest (c, e, (l, (mid, w, (at, v, inl (q, f, th))))) = if_block ((c.0, (c.1.0, q)), e ∙ ap (λ (g : p.Made'). g c.1.0 c.0) f, (l, (mid, w, (at, v, th))))
if_there n B I x (t ∷ ts) rest (c, e, (l, (mid, w, (at, v, inr (q, f, (next, u, d)))))) = if_line ((c.0, (c.1.0, q)), e ∙ ap (λ (g : p.Made'). g c.1.0 c.0) f, (l, (mid, w, (next, (at, v, u), d))))

line_back : (n : ℕ) (B : List Stmt → List Token → List Token → Type 0) (I : Branches → List Token → List Token → Type 0) (x : Stmt) (ts rest : List Token)
    → Made (λ (c : ℕ × (Expr × (ℕ × Simple))). stmt.IfLine c.0 c.1.0 c.1.1.0 c.1.1.1) (Lined (Word' word.If ▸ Guarded n B I)) x ts rest → IfForm n B I x ts rest
line_back n B I x [] rest (c, e, m) = absurd m
line_back n B I x (t ∷ ts) rest (c, e, (l, (mid, w, (next, (at, v, u), d)))) = ((c.0, (c.1.0, p.with_action c.1.1)), e, (l, (mid, w, (at, v, inr (c.1.1, refl, (next, u, d))))))

block_back : (n : ℕ) (B : List Stmt → List Token → List Token → Type 0) (I : Branches → List Token → List Token → Type 0) (x : Stmt) (ts rest : List Token)
    → Made if_at (Lined (Word' word.If ▸ BranchesIn n B I)) x ts rest → IfForm n B I x ts rest
block_back n B I x [] rest (c, e, m) = absurd m
block_back n B I x (t ∷ ts) rest (c, e, (l, (mid, w, (at, v, th)))) = ((c.0, (c.1.0, p.with_block c.1.1)), e, (l, (mid, w, (at, v, inl (c.1.1, refl, th)))))

-- ---- one level

module _ (G : Type 0) (n m : ℕ) (reach : G → m ≤ n) (B C : List Stmt → List Token → List Token → Type 0) (I J : Branches → List Token → List Token → Type 0) (b : Reader (List Stmt)) (i : Reader Branches)
    (gb : Keeps G n in_block B C b) (gi : Keeps G n any I J i) where
  good_else_block : Keeps G n ends_block (Word' word.Else ▸ (End ▸ B)) (Word' word.Else ▸ (End ▸ C)) (p.else_block n b i)
  good_else_block = good_narrow in_block ends_block (at_block_end in_block true refl refl refl refl) _ _ _ (word_lead in_block _ _ _ (end_lead in_block _ _ _ gb) word.Else)

  good_else_if : Keeps G n any (Made (λ (c : ℕ × Branches). if_at c ∷ []) (Lined (Joined word.Else word.If word.ElseIf ▸ I))) (Made (λ (c : ℕ × Branches). if_at c ∷ []) (Lined (Joined word.Else word.If word.ElseIf ▸ J))) (p.else_if n b i)
  unfolding p.else_if
  good_else_if = good_made any _ _ _ _ (good_lined any _ _ _ (good_lead any any _ _ _ _ _ _ (good_joined word.Else word.If word.ElseIf refl refl any) gi (λ a mid rest c. any_stops mid)) refl)

  good_last_part : Keeps G n any (Made or_none (Maybe (Word' word.Else ▸ (End ▸ B))) ◂ EndIf ◂ End) (Made or_none (Maybe (Word' word.Else ▸ (End ▸ C))) ◂ EndIf ◂ End) (p.last_part n b i)
  unfolding p.last_part
  good_last_part = end_trail any _ _ _ (joined_trail ends_block any _ _ _ word.End word.If word.EndIf
      (good_made ends_block or_none _ _ _ (good_maybe each opening G n ends_block ends_block (λ v. is_some (is_word word.Else v)) _ _ _
      (start_word ends_block _ _ _ word.Else good_else_block (end_lead in_block _ _ _ gb).eats refl)))
      refl refl refl refl) any refl

  good_rest : Keeps G n any (Rest n B I) (Rest m C J) (p.rest n b i)
  unfolding p.rest
  good_rest = good_choice any at_else_if _ _ _ _ _ _ good_else_if good_last_part (λ a ts rest c. else_if_is J c.0 ts rest c.2) (rest_not n C)

  good_then_block : Keeps G (suc n) any (Word' word.Then ▸ (End ▸ Both B (Rest n B I))) (Word' word.Then ▸ (End ▸ Both C (Rest m C J))) (p.then_block n b i)
  unfolding p.then_block
  good_then_block = word_open any _ _ _ (end_lead any _ _ _ (good_both in_block any _ _ _ _ _ _ gb good_rest (λ c mid rest k. ahead_to_stops in_block mid (rest_ahead m C J c mid rest k)))) word.Then refl

  pub good_branches : Keeps G (suc n) any (BranchesIn n B I) (BranchesIn m C J) (p.branches n b i)
  unfolding p.branches
  good_branches = good_both any any _ _ _ _ _ _ (good_condition G n m reach any) good_then_block (λ c mid rest k. any_stops mid)

  no_then : (ts : List Token) → ahead begins_simple ts ≡ true → ahead (λ v. is_some (is_word word.Then v)) ts ≡ false
  no_then ts e = ahead_not begins_simple (λ v. is_some (is_word word.Then v)) none ts e
    where
      none : (w : What) → begins_simple w ≡ true → is_some (is_word word.Then w) ≡ false
      none (what.Word word.Then) f = cc
      none _ f = refl

  good_if_tail : Keeps G (suc n) any (IfTail n B I) (IfTail m C J) (p.if_tail n b i)
  unfolding p.if_tail
  good_if_tail = good_choice any (ahead (λ w. is_some (is_word word.Then w))) _ _ _ _ _ _
      (good_made any p.with_block _ _ _ good_then_block)
      (good_made any p.with_action _ _ _ (end_trail closes _ _ _ (good_lined closes _ _ _ (good_simple G n m reach) (simple_starts n [] refl)) any refl))
      (λ a ts rest c. ahead_is _ true (what.Word word.Then) ts _ c.2.1 refl)
      (λ a ts rest c. lined_ahead (SimpleForm m) _ false (λ x us end k. no_then us (simple_begins m x us end k)) c.0 ts _ c.2.1)

  good_if : Keeps G (suc n) any (IfForm n B I) (IfForm m C J) (p.if_statement n b i)
  unfolding p.if_statement
  good_if = good_made any p.if_made _ _ _ (good_lined any _ _ _ (word_lead any _ _ _
      (good_both any any _ _ _ _ _ _ (good_condition G n m reach any) good_if_tail (λ c mid rest k. any_stops mid)) word.If) refl)

  follow_value : Keeps G (suc n) follows (Expression n) (Expression m) (r.expression n)
  follow_value = good_value G n m reach follows (at_follow ends_expression true refl refl refl)

  close_value : Keeps G (suc n) closes (Expression n) (Expression m) (r.expression n)
  close_value = good_value G n m reach closes (at_close ends_expression true refl refl)

  comma_stops : {A : Type 0} (P : A → List Token → List Token → Type 0) (a : A) (mid rest : List Token) → (Sign' sign.Comma ▸ P) a mid rest → Stops follows mid
  comma_stops P a mid rest c = takes_stops (is_sign sign.Comma) (what.Sign sign.Comma) (told.a_sign sign.Comma) follows refl mid c.0 c.1

  end_stops : (S : What → Bool) → S what.End ≡ true → {A : Type 0} (P : A → List Token → List Token → Type 0) (a : A) (mid rest : List Token) → (End ▸ P) a mid rest → Stops S mid
  end_stops S e P a mid rest c = takes_stops is_end what.End an_end S e mid c.0 c.1

  -- the first value, the last and the step
  abbrev Bounds : ℕ → Expr × Option Expr → List Token → List Token → Type 0
  Bounds k = Both (Expression k) (Maybe (Sign' sign.Comma ▸ Expression k))

  good_bounds : Keeps G (suc n) closes (Bounds n) (Bounds m) (both (r.expression n) (optional (next_behind (r.expression n))))
  good_bounds = good_then each opening G (suc n) follows closes _ _ _ _ _ _ follow_value
      (tail_perhaps each opening G (suc n) follows closes closes (λ v. is_some (is_sign sign.Comma v)) _ _ _
      (start_sign closes _ _ _ sign.Comma (sign_lead closes _ _ _ close_value sign.Comma) close_value.eats refl)
      (next_sign sign.Comma follows refl) (at_close follows true refl refl))

  abbrev CountsForm : ℕ → (List ℕ × Expr) × (Expr × Option Expr) → List Token → List Token → Type 0
  CountsForm k = Both (Both Name (Sign' sign.Assign ▸ Expression k)) (Sign' sign.Comma ▸ Bounds k)

  abbrev DoBody : (List Stmt → List Token → List Token → Type 0) → List Stmt → List Token → List Token → Type 0
  DoBody D = (End ▸ D) ◂ EndDo ◂ End

  body_stops : (a : List Stmt) (mid rest : List Token) → DoBody C a mid rest → Stops closes mid
  body_stops a mid rest (p', (q, (at, e, k), d), f) = takes_stops is_end what.End an_end closes refl mid at e

  counted_inner : Keeps G n any (Both (CountsForm n) (DoBody B)) (Both (CountsForm m) (DoBody C)) (both (p.counts n b i) (p.do_body n b i))
  counted_inner = good_both closes any _ _ _ _ _ _
      (good_less n (omega arith) closes _ _ _ (good_both follows closes _ _ _ _ _ _
      (good_both any follows _ _ _ _ _ _ (good_name any) (sign_lead follows _ _ _ follow_value sign.Assign) (λ c mid rest k. any_stops mid))
      (sign_lead closes _ _ _ good_bounds sign.Comma) (comma_stops (Bounds m))))
      (end_trail any _ _ _ (joined_trail in_block any _ _ _ word.End word.Do word.EndDo (end_lead in_block _ _ _ gb) refl refl refl refl) any refl)
      body_stops

  abbrev CountedParts : ℕ → (List Stmt → List Token → List Token → Type 0) → Stmt → List Token → List Token → Type 0
  CountedParts k D = Made p.counted_made (Lined (Word' word.Do ▸ Both (CountsForm k) (DoBody D)))

  counted_there : (x : Stmt) (ts rest : List Token) → CountedParts n B x ts rest → Made p.counted_made (Lined (Word' word.Do ▸ Counted n B I)) x ts rest
  counted_there x [] rest (c, e, k) = absurd k
  counted_there x (t ∷ ts) rest (c, e, (l, (mid, w, (q, k, (y, (z, v, d), f))))) = (c, e, (l, (mid, w, (y, (z, (q, k, v), d), f))))

  counted_back : (x : Stmt) (ts rest : List Token) → Made p.counted_made (Lined (Word' word.Do ▸ Counted m C J)) x ts rest → CountedParts m C x ts rest
  counted_back x [] rest (c, e, k) = absurd k
  counted_back x (t ∷ ts) rest (c, e, (l, (mid, w, (y, (z, (q, k, v), d), f)))) = (c, e, (l, (mid, w, (q, k, (y, (z, v, d), f)))))

  good_counted : Keeps G (suc n) any (Made p.counted_made (Lined (Word' word.Do ▸ Counted n B I))) (Made p.counted_made (Lined (Word' word.Do ▸ Counted m C J))) (p.counted n b i)
  unfolding p.counted
  good_counted = good_same any _ _ _ _ _ counted_there counted_back (good_made any p.counted_made _ _ _ (good_lined any _ _ _ (word_open any _ _ _ counted_inner word.Do refl) refl))

  while_inner : Keeps G n any (Word' word.While ▸ (Both (Condition n) (End ▸ B) ◂ EndDo ◂ End)) (Word' word.While ▸ (Both (Condition m) (End ▸ C) ◂ EndDo ◂ End)) (lead (word' word.While) (trail (trail (both (p.condition n b i) (lead end' b)) p.end_do) end'))
  while_inner = word_lead any _ _ _ (end_trail any _ _ _ (joined_trail in_block any _ _ _ word.End word.Do word.EndDo
      (good_both any in_block _ _ _ _ _ _ (good_less n (omega arith) any _ _ _ (good_condition G n m reach any)) (end_lead in_block _ _ _ gb) (λ c mid rest k. any_stops mid))
      refl refl refl refl) any refl) word.While

  abbrev WhileForm : ℕ → (List Stmt → List Token → List Token → Type 0) → Stmt → List Token → List Token → Type 0
  WhileForm k D = Made (λ (c : ℕ × (Expr × List Stmt)). stmt.While c.0 c.1.0 c.1.1) (Lined (Word' word.Do ▸ (Word' word.While ▸ (Both (Condition k) (End ▸ D) ◂ EndDo ◂ End))))

  good_while : Keeps G (suc n) any (WhileForm n B) (WhileForm m C) (p.while_true n b i)
  unfolding p.while_true
  good_while = good_made any _ _ _ _ (good_lined any _ _ _ (word_open any _ _ _ while_inner word.Do refl) refl)

  abbrev FinishForm : (List Stmt → List Token → List Token → Type 0) → Stmt → List Token → List Token → Type 0
  FinishForm D = Made (λ (c : ℕ × (Team × List Stmt)). stmt.Finish c.0 c.1.0 c.1.1) (Lined (Word' word.Finish ▸ (Both (Made or_world (Maybe (InParentheses TeamForm))) (End ▸ D) ◂ EndFinish ◂ End)))

  abbrev FinishInner : (List Stmt → List Token → List Token → Type 0) → Team × List Stmt → List Token → List Token → Type 0
  FinishInner D = Both (Made or_world (Maybe (InParentheses TeamForm))) (End ▸ D) ◂ EndFinish ◂ End

  finish_inner : Keeps G n any (FinishInner B) (FinishInner C) (trail (trail (both (make or_world (optional (in_parentheses r.team))) (lead end' b)) p.end_finish) end')
  finish_inner = end_trail any _ _ _ (joined_trail in_block any _ _ _ word.End word.Finish word.EndFinish
      (good_both (but (is_sign sign.LeftParenthesis)) in_block _ _ _ _ _ _
      (good_made (but (is_sign sign.LeftParenthesis)) or_world _ _ _ (good_less n (omega arith) (but (is_sign sign.LeftParenthesis)) _ _ _
      (good_maybe each opening G (suc n) any (but (is_sign sign.LeftParenthesis)) (λ v. is_some (is_sign sign.LeftParenthesis v)) _ _ _ (start_of (parens_item {S = any} TeamForm TeamForm r.team (good_team (λ x. refl) refl any) refl)))))
      (end_lead in_block _ _ _ gb) (end_stops (but (is_sign sign.LeftParenthesis)) refl C))
      refl refl refl refl) any refl

  good_finish : Keeps G (suc n) any (FinishForm B) (FinishForm C) (p.finish n b i)
  unfolding p.finish
  good_finish = good_made any _ _ _ _ (good_lined any _ _ _ (word_open any _ _ _ finish_inner word.Finish refl) refl)

  good_line : Keeps G (suc n) any (Made (λ (c : ℕ × Simple). stmt.Simple c.0 c.1) (Lined (SimpleForm n ◂ End))) (Made (λ (c : ℕ × Simple). stmt.Simple c.0 c.1) (Lined (SimpleForm m ◂ End))) (p.line n b i)
  unfolding p.line
  good_line = good_made any _ _ _ _ (good_lined any _ _ _ (end_trail closes _ _ _ (good_simple G n m reach) any refl) (rw (simple_starts n [] refl) refl))

  do_second : (D : List Stmt → List Token → List Token → Type 0) (x : Stmt) (ts rest : List Token) → WhileForm m D x ts rest → second_passes (is_the word.While) ts ≡ true
  do_second D x [] rest (c, e, k) = absurd k
  do_second D x (t ∷ ts) rest (c, e, (l, (mid, w, k))) = second_is (is_the word.While) true (what.Word word.Do) (t ∷ ts) mid w (ahead_is (is_the word.While) true (what.Word word.While) mid _ k.1 refl)

  counted_second : (x : Stmt) (ts rest : List Token) → Made p.counted_made (Lined (Word' word.Do ▸ Counted m C J)) x ts rest → second_passes (is_the word.While) ts ≡ false
  counted_second x [] rest (c, e, k) = absurd k
  counted_second x (t ∷ ts) rest (c, e, (l, (mid, w, k))) =
      second_is (is_the word.While) false (what.Word word.Do) (t ∷ ts) mid w (ahead_is (is_the word.While) false (what.Name c.1.0.0.0) mid _ k.1.1.1.1.1 refl)

  good_do : Keeps G (suc n) any (Either (WhileForm n B) (Made p.counted_made (Lined (Word' word.Do ▸ Counted n B I)))) (Either (WhileForm m C) (Made p.counted_made (Lined (Word' word.Do ▸ Counted m C J))))
      (either_by (second_passes (is_the word.While)) (p.while_true n b i) (p.counted n b i))
  good_do = good_choice any (second_passes (is_the word.While)) _ _ _ _ _ _ good_while good_counted (do_second C) counted_second

  -- ---- a statement, by its first token

  do_statement : (x : Stmt) (ts rest : List Token) → Either (WhileForm n B) (Made p.counted_made (Lined (Word' word.Do ▸ Counted n B I))) x ts rest → Statement n B I x ts rest
  do_statement x ts rest (inl c) = while_true c
  do_statement x ts rest (inr c) = counted c

  statement_sound : (w : What) (ts : List Token) (x : Stmt) (rest : List Token) → p.statement_by n b i w ts ≡ Ok (x, rest) → Statement n B I x ts rest × Eats each ts rest
  statement_sound (what.Word word.If) ts x rest e = (if_there n B I x ts rest (good_if.sound ts x rest e), good_if.eats ts x rest e)
  statement_sound (what.Word word.Do) ts x rest e = (do_statement x ts rest (good_do.sound ts x rest e), good_do.eats ts x rest e)
  statement_sound (what.Word word.Finish) ts x rest e = (finish (good_finish.sound ts x rest e), good_finish.eats ts x rest e)
  statement_sound _ ts x rest e = (simple (good_line.sound ts x rest e), good_line.eats ts x rest e)

  statement_digs : (w : What) (ts : List Token) → p.statement_by n b i w ts ≡ Err Deep → suc n ≤ opened each opening ts
  statement_digs (what.Word word.If) ts e = good_if.digs ts e
  statement_digs (what.Word word.Do) ts e = good_do.digs ts e
  statement_digs (what.Word word.Finish) ts e = good_finish.digs ts e
  statement_digs _ ts e = good_line.digs ts e

  by_line : (w : What) → begins_simple w ≡ true → (ts : List Token) → p.statement_by n b i w ts ≡ p.line n b i ts
  by_line (what.Word word.If) e ts = absurd (let no : ◌≡◌ {A = Bool} false true = e in cc)
  by_line (what.Word word.Do) e ts = absurd (let no : ◌≡◌ {A = Bool} false true = e in cc)
  by_line (what.Word word.Finish) e ts = absurd (let no : ◌≡◌ {A = Bool} false true = e in cc)
  by_line _ e ts = refl

  line_fits : (x : Stmt) (ts rest : List Token) → ahead begins_simple ts ≡ true → Fits G any x rest (p.line n b i ts) → Fits G any x rest (by_next (p.statement_by n b i) ts)
  line_fits x [] rest e f = absurd (let no : ◌≡◌ {A = Bool} false true = e in cc)
  line_fits x (t ∷ ts) rest e f = subst (Fits G any x rest) (sym (by_line t.what e (t ∷ ts))) f

  -- a statement whose line begins with this word
  by_word : {A : Type 0} (w : Word) (f : ℕ × A → Stmt) (P : A → List Token → List Token → Type 0) (x : Stmt) (ts rest : List Token) → Made f (Lined (Word' w ▸ P)) x ts rest → Fits G any x rest (p.statement_by n b i (what.Word w) ts)
      → Fits G any x rest (by_next (p.statement_by n b i) ts)
  by_word w f P x [] rest (c, e, k) h = absurd k
  by_word w f P x (t ∷ ts) rest (c, e, (l, k)) h = next_fits_at G any (p.statement_by n b i) (what.Word w) x (t ∷ ts) rest _ k.1 h

  statement_fits : (x : Stmt) (ts rest : List Token) → Statement m C J x ts rest → Fits G any x rest (by_next (p.statement_by n b i) ts)
  statement_fits x ts rest (simple c) = line_fits x ts rest (lined_ahead (SimpleForm m ◂ End) begins_simple true (λ a us end k. simple_begins m a us _ k.1) c.0 ts rest c.2) (good_line.fits x ts rest c)
  statement_fits x ts rest (if_line c) = by_word word.If _ _ x ts rest c (good_if.fits x ts rest (line_back m C J x ts rest c))
  statement_fits x ts rest (if_block c) = by_word word.If _ _ x ts rest c (good_if.fits x ts rest (block_back m C J x ts rest c))
  statement_fits x ts rest (counted c) = by_word word.Do _ _ x ts rest c (good_do.fits x ts rest (inr c))
  statement_fits x ts rest (while_true c) = by_word word.Do _ _ x ts rest c (good_do.fits x ts rest (inl c))
  statement_fits x ts rest (finish c) = by_word word.Finish _ _ x ts rest c (good_finish.fits x ts rest c)

  good_statement : Keeps G (suc n) any (Statement n B I) (Statement m C J) (p.statement n b i)
  unfolding p.statement
  good_statement = by_next_good any _ _ (p.statement_by n b i) statement_sound statement_fits statement_digs

  -- ---- a statement takes a token at least, and begins with one of these

  line_strict : (ts : List Token) (x : Stmt) (rest : List Token) → p.line n b i ts ≡ Ok (x, rest) → length rest < length ts
  unfolding p.line
  line_strict = make_strict _ _ (lined_strict _ (trail_strict (q.simple n) end' (good_simple G n m reach).eats (one_strict is_end)))

  if_strict : (ts : List Token) (x : Stmt) (rest : List Token) → p.if_statement n b i ts ≡ Ok (x, rest) → length rest < length ts
  unfolding p.if_statement
  if_strict = make_strict _ _ (lined_strict _ (strict_bind each (is_word word.If) _ (λ _. (good_both any any _ _ _ _ _ _ (good_condition G n m reach any) good_if_tail (λ c mid rest k. any_stops mid)).eats)))

  counted_strict : (ts : List Token) (x : Stmt) (rest : List Token) → p.counted n b i ts ≡ Ok (x, rest) → length rest < length ts
  unfolding p.counted
  counted_strict = make_strict _ _ (lined_strict _ (strict_bind each (is_word word.Do) _ (λ _. counted_inner.eats)))

  while_strict : (ts : List Token) (x : Stmt) (rest : List Token) → p.while_true n b i ts ≡ Ok (x, rest) → length rest < length ts
  unfolding p.while_true
  while_strict = make_strict _ _ (lined_strict _ (strict_bind each (is_word word.Do) _ (λ _. while_inner.eats)))

  finish_strict : (ts : List Token) (x : Stmt) (rest : List Token) → p.finish n b i ts ≡ Ok (x, rest) → length rest < length ts
  unfolding p.finish
  finish_strict = make_strict _ _ (lined_strict _ (strict_bind each (is_word word.Finish) _ (λ _. finish_inner.eats)))

  statement_by_strict : (w : What) (ts : List Token) (x : Stmt) (rest : List Token) → p.statement_by n b i w ts ≡ Ok (x, rest) → length rest < length ts
  statement_by_strict (what.Word word.If) = if_strict
  statement_by_strict (what.Word word.Do) = either_by_strict (second_passes (is_the word.While)) _ _ while_strict counted_strict
  statement_by_strict (what.Word word.Finish) = finish_strict
  statement_by_strict _ = line_strict

  line_starts : (ts : List Token) → ahead begins_simple ts ≡ false → p.line n b i ts ≡ Err Syntax
  unfolding p.line
  line_starts ts e = rw (lined_starts (trail (q.simple n) end') ts (rw (simple_starts n ts e) refl)) refl

  statement_by_starts : (w : What) (ts : List Token) → begins_statement w ≡ false → p.line n b i ts ≡ Err Syntax → p.statement_by n b i w ts ≡ Err Syntax
  statement_by_starts (what.Word word.If) ts e f = cc
  statement_by_starts (what.Word word.Do) ts e f = cc
  statement_by_starts (what.Word word.Finish) ts e f = cc
  statement_by_starts _ ts e f = f

  simple_too : (w : What) → begins_statement w ≡ false → begins_simple w ≡ false
  simple_too (what.Word word.If) e = refl
  simple_too (what.Word word.Do) e = refl
  simple_too (what.Word word.Finish) e = refl
  simple_too _ e = e

  statement_starts : (ts : List Token) → ahead begins_statement ts ≡ false → p.statement n b i ts ≡ Err Syntax
  unfolding p.statement
  statement_starts [] e = refl
  statement_starts (t ∷ ts) e = statement_by_starts t.what (t ∷ ts) e (line_starts (t ∷ ts) (simple_too t.what e))

  statement_strict : (ts : List Token) (x : Stmt) (rest : List Token) → p.statement n b i ts ≡ Ok (x, rest) → length rest < length ts
  unfolding p.statement
  statement_strict [] x rest e = absurd (let no : ◌≡◌ {A = Outcome Stmt} (Err Syntax) (Ok (x, rest)) = e in cc)
  statement_strict (t ∷ ts) x rest e = statement_by_strict t.what (t ∷ ts) x rest e

  -- statements, before what begins none
  pub item_statement : Item each opening G (suc n) any in_block begins_statement (Statement n B I) (Statement m C J) (p.statement n b i)
  item_statement = record {
    good = good_statement;
    starts = statement_starts;
    strict = statement_strict;
    next = λ w e. refl;
    last = λ w e. not_so (begins_statement w) e;
    weaker = λ w e. refl;
  }

-- ---- the knot

nothing_read : {A : Type 0} (G : Type 0) (m : ℕ) → (G → m ≤ 0) → (S : What → Bool) (P : A → List Token → List Token → Type 0) (Q : ℕ → A → List Token → List Token → Type 0) → ((a : A) (ts rest : List Token) → Q 0 a ts rest → ⊥)
    → Keeps G 0 S P (Q m) (λ ts. Err Deep)
nothing_read {A} G m reach S P Q none = record {
  sound = λ ts a rest e. absurd (let no : ◌≡◌ {A = Outcome A} (Err Deep) (Ok (a, rest)) = e in cc);
  fits = fits m reach;
  eats = λ ts a rest e. absurd (let no : ◌≡◌ {A = Outcome A} (Err Deep) (Ok (a, rest)) = e in cc);
  digs = λ ts e. omega arith;
}
  where
    fits : (m : ℕ) → (G → m ≤ 0) → (a : A) (ts rest : List Token) → Q m a ts rest → Fits {A = A} G S a rest (Err Deep)
    fits zero reach a ts rest x = absurd (none a ts rest x)
    fits (suc m) reach a ts rest x = λ g s. let no : suc m ≤ 0 = reach g in absurd (omega arith)

mutual
  pub good_inner_block : (G : Type 0) (n m : ℕ) → (G → m ≤ n) → Keeps G n in_block (InnerBlock n) (InnerBlock m) (p.inner_block n)
  good_inner_block G zero m reach = nothing_read G m reach in_block _ InnerBlock (λ a ts rest x. x)
  good_inner_block G (suc n) zero reach =
      let x = (tail_many each opening G (suc n) any in_block begins_statement _ _ _ (item_statement G n 0 (λ g. omega arith) (InnerBlock n) (InnerBlock 0) (InnerBranches n) (InnerBranches 0) (p.inner_block n) (p.inner_branches n)
      (good_inner_block G n 0 (λ g. omega arith)) (good_inner_branches G n 0 (λ g. omega arith)))).good in
      record { sound = x.sound; fits = λ a ts rest m. absurd m; eats = x.eats; digs = x.digs }
  good_inner_block G (suc n) (suc m) reach =
      let less : G → m ≤ n = λ g. let k : suc m ≤ suc n = reach g in omega arith in
      (tail_many each opening G (suc n) any in_block begins_statement _ _ _ (item_statement G n m less (InnerBlock n) (InnerBlock m) (InnerBranches n) (InnerBranches m) (p.inner_block n) (p.inner_branches n)
      (good_inner_block G n m less) (good_inner_branches G n m less))).good

  pub good_inner_branches : (G : Type 0) (n m : ℕ) → (G → m ≤ n) → Keeps G n any (InnerBranches n) (InnerBranches m) (p.inner_branches n)
  good_inner_branches G zero m reach = nothing_read G m reach any _ InnerBranches (λ a ts rest x. x)
  good_inner_branches G (suc n) zero reach =
      let x = good_branches G n 0 (λ g. omega arith) (InnerBlock n) (InnerBlock 0) (InnerBranches n) (InnerBranches 0) (p.inner_block n) (p.inner_branches n)
      (good_inner_block G n 0 (λ g. omega arith)) (good_inner_branches G n 0 (λ g. omega arith)) in
      record { sound = x.sound; fits = λ a ts rest m. absurd m; eats = x.eats; digs = x.digs }
  good_inner_branches G (suc n) (suc m) reach =
      let less : G → m ≤ n = λ g. let k : suc m ≤ suc n = reach g in omega arith in
      good_branches G n m less (InnerBlock n) (InnerBlock m) (InnerBranches n) (InnerBranches m) (p.inner_block n) (p.inner_branches n) (good_inner_block G n m less) (good_inner_branches G n m less)

pub item_statements : (G : Type 0) (n m : ℕ) → (G → m ≤ n)
    → Item each opening G (suc n) any in_block begins_statement (Statement n (InnerBlock n) (InnerBranches n)) (Statement m (InnerBlock m) (InnerBranches m)) (p.statement n (p.inner_block n) (p.inner_branches n))
item_statements G n m reach = item_statement G n m reach (InnerBlock n) (InnerBlock m) (InnerBranches n) (InnerBranches m) (p.inner_block n) (p.inner_branches n) (good_inner_block G n m reach) (good_inner_branches G n m reach)
