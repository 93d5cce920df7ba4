-- Readers within a unit, and how they are put together.
use Rattle.std.proofs.Common.{◌≡◌, ℕ, zero, suc, ◌+◌, ◌<◌, ◌≤◌, Bool, true, false, not, cond, ◌&&◌, ◌||◌, List, [], ◌∷◌, length, Option, Some, None, Result, Ok, Err, ◌⊎◌, inl, inr, refl, ap, sym, ◌∙◌, subst, arith}
use Rattle.std.specs.Prelude.{is_some}
use Rattle.caf_lexer.specs.declared.token.Token.{Token}
use Rattle.caf_lexer.specs.declared.token.What.{What}
use Rattle.caf_lexer.specs.declared.token.What.TheVariants as what
use Rattle.caf_lexer.specs.declared.token.Sign.{Sign}
use Rattle.caf_lexer.specs.declared.token.Sign.TheVariants as sign
use Rattle.caf_lexer.specs.declared.token.Word.{Word}
use Rattle.caf_lexer.specs.declared.token.Word.TheVariants as word
use Rattle.caf_tree.specs.Forms.{Takes, Just, Token', Sign', Word', End, Name, ◌⨟◌, Maybe, Many, Both, Made, Such, Either, ◌▸◌, ◌◂◌, Perhaps, Joined, Listed, or_none, InParentheses, InBrackets, Lined, Inside}
use Rattle.caf_tree.specs.Statements.{List', PerhapsList, Nothing}
use Rattle.caf_exprparse.specs.Ends.{Stops, ends_expression, in_statement, bracket, opened}
use Rattle.caf_exprparse.specs.Reading.{Refusal, Syntax, Deep, Outcome, Reader, and_then, ◌>>=◌, pure, optional, many, both, make, lead, trail, inside, ahead, either, one, by_next, line_at}
use Rattle.caf_exprparse.specs.Told.{found, is_sign, is_word, is_name, a_name, is_end, sign', word', end', named, in_parentheses, in_brackets}
use Rattle.caf_exprparse.specs.Reader.{name}
use Rattle.caf_exprparse.proofs.Eats.{Eats, eats_shorter}
use Rattle.caf_exprparse.proofs.Good.{Fits, Good, bind_ok, bind_deep, same_pair, bind_fits, made_fits, good_made, good_both, good_lead, good_trail, good_choice, good_same, good_narrow, good_wider}
use Rattle.caf_exprparse.proofs.Lists.{Tail, good_then, Start, Item, good_maybe, start_of, tail_maybe, tail_many, tail_made, tail_perhaps, item_made, make_strict, both_strict}
use Rattle.caf_exprparse.proofs.OneToken.{any, any_stops, one_starts, one_strict, good_just, starts_bind, strict_bind, Is, good_is, good_before, takes_stops, good_after, not_last, then_next, item_before, next_fits_at, ahead_takes, ahead_not}
use Rattle.caf_exprparse.proofs.Told as told
use Rattle.caf_exprparse.proofs.Expressions.{Reads', but, good_inside}
use Rattle.caf_simpleparse.specs.Opening.{opening, each}
use Rattle.caf_simpleparse.specs.Choices.{perhaps, joined, lined, either_by, kept, such, next_behind, listed, list_in, perhaps_list}

-- a form within a unit is read so
abbrev pub Keeps : {A : Type 0} → Type 0 → ℕ → (What → Bool) → (A → List Token → List Token → Type 0) → (A → List Token → List Token → Type 0) → Reader A → Type 0
Keeps G n S P Q p = Good each opening G n S P Q p

bracket_opens : (w : What) → bracket w ≤ opening w
bracket_opens (what.Sign sign.LeftParenthesis) = omega arith
bracket_opens (what.Sign sign.LeftBracket) = omega arith
bracket_opens _ = omega arith

-- what is read within a statement is read so within a unit
pub lift : {A : Type 0} {G : Type 0} {n : ℕ} (S : What → Bool) (P Q : A → List Token → List Token → Type 0) (p : Reader A) → Reads' G n S P Q p → Keeps G n S P Q p
lift S P Q p g = good_wider in_statement each bracket opening (λ w e. refl) bracket_opens S P Q p g

pub lift_item : {A : Type 0} {G : Type 0} {n : ℕ} (Sp S B : What → Bool) (P Q : A → List Token → List Token → Type 0) (p : Reader A) → Item in_statement bracket G n Sp S B P Q p → Item each opening G n Sp S B P Q p
lift_item Sp S B P Q p i = record { good = lift Sp P Q p i.good; starts = i.starts; strict = i.strict; next = i.next; last = i.last; weaker = i.weaker }

pub lift_start : {A : Type 0} {G : Type 0} {n : ℕ} (Sp S B : What → Bool) (P Q : A → List Token → List Token → Type 0) (p : Reader A) → Start in_statement bracket G n Sp S B P Q p → Start each opening G n Sp S B P Q p
lift_start Sp S B P Q p i = record { good = lift Sp P Q p i.good; starts = i.starts; strict = i.strict; last = i.last; weaker = i.weaker }

-- ---- what comes behind

-- behind a list: the end of a statement, or `)`
abbrev pub closes : What → Bool
closes what.End = true
closes (what.Sign sign.RightParenthesis) = true
closes _ = false

-- behind an element of a list
abbrev pub follows : What → Bool
follows what.End = true
follows (what.Sign sign.Comma) = true
follows (what.Sign sign.RightParenthesis) = true
follows _ = false

pub at_close : (f : What → Bool) (b : Bool) → f what.End ≡ b → f (what.Sign sign.RightParenthesis) ≡ b → (w : What) → closes w ≡ true → f w ≡ b
at_close f b h k what.End e = h
at_close f b h k (what.Sign sign.RightParenthesis) e = k
at_close f b h k _ e = absurd (let no : ◌≡◌ {A = Bool} false true = e in cc)

pub at_follow : (f : What → Bool) (b : Bool) → f what.End ≡ b → f (what.Sign sign.Comma) ≡ b → f (what.Sign sign.RightParenthesis) ≡ b → (w : What) → follows w ≡ true → f w ≡ b
at_follow f b h k l what.End e = h
at_follow f b h k l (what.Sign sign.Comma) e = k
at_follow f b h k l (what.Sign sign.RightParenthesis) e = l
at_follow f b h k l _ e = absurd (let no : ◌≡◌ {A = Bool} false true = e in cc)

-- ---- tokens

end_only : (v : What) → is_end v ≡ Some tt → v ≡ what.End
end_only what.End e = refl
end_only _ e = cc

pub an_end : Is is_end what.End
an_end = record { self = refl; only = end_only }

-- one sign, one word
pub good_sign : {G : Type 0} {n : ℕ} (s : Sign) (S : What → Bool) → Keeps G n S (Sign' s) (Sign' s) (sign' s)
good_sign s S = good_is (is_sign s) (what.Sign s) (told.a_sign s) each refl S

pub good_word : {G : Type 0} {n : ℕ} (w : Word) (S : What → Bool) → Keeps G n S (Word' w) (Word' w) (word' w)
good_word w S = good_is (is_word w) (what.Word w) (told.a_word w) each refl S

pub good_end : {G : Type 0} {n : ℕ} (S : What → Bool) → Keeps G n S End End end'
good_end S = good_is is_end what.End an_end each refl S

pub good_name : {G : Type 0} {n : ℕ} (S : What → Bool) → Keeps G n S Name Name name
good_name S = good_just a_name what.Name (λ x. refl) told.name_only each (λ x. refl) S

module _ {A : Type 0} {G : Type 0} {n : ℕ} (S : What → Bool) (P Q : A → List Token → List Token → Type 0) (p : Reader A) (g : Keeps G n S P Q p) where
  pub sign_lead : (s : Sign) → Keeps G n S (Sign' s ▸ P) (Sign' s ▸ Q) (lead (sign' s) p)
  sign_lead s = good_before (is_sign s) (what.Sign s) (told.a_sign s) each refl n (omega arith) S P Q p g

  pub word_lead : (w : Word) → Keeps G n S (Word' w ▸ P) (Word' w ▸ Q) (lead (word' w) p)
  word_lead w = good_before (is_word w) (what.Word w) (told.a_word w) each refl n (omega arith) S P Q p g

  pub end_lead : Keeps G n S (End ▸ P) (End ▸ Q) (lead end' p)
  end_lead = good_before is_end what.End an_end each refl n (omega arith) S P Q p g

  -- a word that opens a level
  pub word_open : (w : Word) → opening (what.Word w) ≡ 1 → Keeps G (suc n) S (Word' w ▸ P) (Word' w ▸ Q) (lead (word' w) p)
  word_open w e = good_before (is_word w) (what.Word w) (told.a_word w) each refl (suc n) (omega arith) S P Q p g

  pub sign_trail : (s : Sign) (R : What → Bool) → S (what.Sign s) ≡ true → Keeps G n R (P ◂ Sign' s) (Q ◂ Sign' s) (trail p (sign' s))
  sign_trail s R e = good_after (is_sign s) (what.Sign s) (told.a_sign s) each refl S R e P Q p g

  pub word_trail : (w : Word) (R : What → Bool) → S (what.Word w) ≡ true → Keeps G n R (P ◂ Word' w) (Q ◂ Word' w) (trail p (word' w))
  word_trail w R e = good_after (is_word w) (what.Word w) (told.a_word w) each refl S R e P Q p g

  pub end_trail : (R : What → Bool) → S what.End ≡ true → Keeps G n R (P ◂ End) (Q ◂ End) (trail p end')
  end_trail R e = good_after is_end what.End an_end each refl S R e P Q p g

  pub in_parens : (R : What → Bool) → S (what.Sign sign.RightParenthesis) ≡ true → Keeps G (suc n) R (InParentheses P) (InParentheses Q) (in_parentheses p)
  in_parens R e = good_before (is_sign sign.LeftParenthesis) (what.Sign sign.LeftParenthesis) (told.a_sign sign.LeftParenthesis) each refl (suc n) (omega arith) R _ _ _ (sign_trail sign.RightParenthesis R e)

  pub in_brackets' : (R : What → Bool) → S (what.Sign sign.RightBracket) ≡ true → Keeps G (suc n) R (InBrackets P) (InBrackets Q) (in_brackets p)
  in_brackets' R e = good_before (is_sign sign.LeftBracket) (what.Sign sign.LeftBracket) (told.a_sign sign.LeftBracket) each refl (suc n) (omega arith) R _ _ _ (sign_trail sign.RightBracket R e)

-- what begins with a token, as what may come or not
module _ {A : Type 0} {G : Type 0} {n : ℕ} (S : What → Bool) (P Q : A → List Token → List Token → Type 0) (p : Reader A) where
  pub start_sign : (s : Sign) → Keeps G n S (Sign' s ▸ P) (Sign' s ▸ Q) (lead (sign' s) p) → ((ts : List Token) (a : A) (rest : List Token) → p ts ≡ Ok (a, rest) → Eats each ts rest) → S (what.Sign s) ≡ false
      → Start each opening G n S S (λ v. is_some (is_sign s v)) (Sign' s ▸ P) (Sign' s ▸ Q) (lead (sign' s) p)
  start_sign s g e l = record {
    good = g;
    starts = starts_bind (is_sign s) (λ _. p);
    strict = strict_bind each (is_sign s) (λ _. p) (λ _. e);
    last = not_last (is_sign s) (what.Sign s) (told.a_sign s) S l;
    weaker = λ w e. e;
  }

  pub start_word : (w : Word) → Keeps G n S (Word' w ▸ P) (Word' w ▸ Q) (lead (word' w) p) → ((ts : List Token) (a : A) (rest : List Token) → p ts ≡ Ok (a, rest) → Eats each ts rest) → S (what.Word w) ≡ false
      → Start each opening G n S S (λ v. is_some (is_word w v)) (Word' w ▸ P) (Word' w ▸ Q) (lead (word' w) p)
  start_word w g e l = record {
    good = g;
    starts = starts_bind (is_word w) (λ _. p);
    strict = strict_bind each (is_word w) (λ _. p) (λ _. e);
    last = not_last (is_word w) (what.Word w) (told.a_word w) S l;
    weaker = λ v e. e;
  }

-- what stands within parentheses, behind what can't go on with `(`
pub parens_item : {A : Type 0} {G : Type 0} {n : ℕ} {S : What → Bool} (P Q : A → List Token → List Token → Type 0) (p : Reader A) → Keeps G n S P Q p → S (what.Sign sign.RightParenthesis) ≡ true
    → Item each opening G (suc n) any (but (is_sign sign.LeftParenthesis)) (λ v. is_some (is_sign sign.LeftParenthesis v)) (InParentheses P) (InParentheses Q) (in_parentheses p)
parens_item {A} {G} {n} {S} P Q p g e = item_before (is_sign sign.LeftParenthesis) (what.Sign sign.LeftParenthesis) (told.a_sign sign.LeftParenthesis) each refl (suc n) (omega arith) any (but (is_sign sign.LeftParenthesis)) _ _ _
    (sign_trail S P Q p g sign.RightParenthesis any e) refl refl (λ v h. refl)

-- a reader for each next token
pub by_next_good : {A : Type 0} {G : Type 0} {n : ℕ} (S : What → Bool) (P Q : A → List Token → List Token → Type 0) (pick : What → Reader A)
    → ((w : What) (ts : List Token) (x : A) (rest : List Token) → pick w ts ≡ Ok (x, rest) → P x ts rest × Eats each ts rest) → ((x : A) (ts rest : List Token) → Q x ts rest → Fits G S x rest (by_next pick ts))
    → ((w : What) (ts : List Token) → pick w ts ≡ Err Deep → n ≤ opened each opening ts) → Keeps G n S P Q (by_next pick)
by_next_good {A} {G} {n} S P Q pick s f d = record {
  sound = λ ts x rest e. (sound ts x rest e).0;
  fits = f;
  eats = λ ts x rest e. (sound ts x rest e).1;
  digs = digs;
}
  where
    sound : (ts : List Token) (x : A) (rest : List Token) → by_next pick ts ≡ Ok (x, rest) → P x ts rest × Eats each ts rest
    sound [] x rest e = absurd (let no : ◌≡◌ {A = Outcome A} (Err Syntax) (Ok (x, rest)) = e in cc)
    sound (t ∷ ts) x rest e = s t.what (t ∷ ts) x rest e

    digs : (ts : List Token) → by_next pick ts ≡ Err Deep → n ≤ opened each opening ts
    digs [] e = absurd (let no : ◌≡◌ {A = Outcome A} (Err Syntax) (Err Deep) = e in cc)
    digs (t ∷ ts) e = d t.what (t ∷ ts) e

-- behind what can't go on with this sign
pub next_sign : (s : Sign) (Sp : What → Bool) → Sp (what.Sign s) ≡ true → (v : What) → is_some (is_sign s v) ≡ true → Sp v ≡ true
next_sign s Sp e = then_next (is_sign s) (what.Sign s) (told.a_sign s) Sp e

pub next_word : (s : Word) (Sp : What → Bool) → Sp (what.Word s) ≡ true → (v : What) → is_some (is_word s v) ≡ true → Sp v ≡ true
next_word s Sp e = then_next (is_word s) (what.Word s) (told.a_word s) Sp e

-- ---- lists

module _ {A : Type 0} {G : Type 0} {n : ℕ} (P Q : A → List Token → List Token → Type 0) (p : Reader A) (g : Keeps G n follows P Q p) where
  item_behind : Item each opening G n follows closes (λ v. is_some (is_sign sign.Comma v)) (Sign' sign.Comma ▸ P) (Sign' sign.Comma ▸ Q) (next_behind p)
  item_behind = item_before (is_sign sign.Comma) (what.Sign sign.Comma) (told.a_sign sign.Comma) each refl n (omega arith) follows closes P Q p g refl refl (at_close follows true refl refl)

  pub tail_behind : Tail each opening G n follows closes (Many (Sign' sign.Comma ▸ P)) (Many (Sign' sign.Comma ▸ Q)) (many (next_behind p))
  tail_behind = tail_many each opening G n follows closes (λ v. is_some (is_sign sign.Comma v)) _ _ _ item_behind

  pub good_behind : Keeps G n follows (Sign' sign.Comma ▸ P) (Sign' sign.Comma ▸ Q) (next_behind p)
  good_behind = item_behind.good

  pub good_listed : Keeps G n closes (Listed P) (Listed Q) (listed p)
  good_listed = good_made closes (λ (c : A × List A). c.0 ∷ c.1) _ _ _ (good_then each opening G n follows closes P Q _ _ p _ g tail_behind)

-- ---- marks

-- a mark or nothing
pub good_perhaps : {G : Type 0} {n : ℕ} (S B : What → Bool) (D E : Unit {0} → List Token → List Token → Type 0) (d : Reader (Unit {0})) → Start each opening G n S S B D E d → Keeps G n S (Perhaps D) (Perhaps E) (perhaps d)
good_perhaps {G} {n} S B D E d i = good_same S (Made (λ _. tt) (Maybe D)) (Made (λ _. tt) (Maybe E)) (Perhaps D) (Perhaps E) _ there back
    (good_made S (λ _. tt) (Maybe D) (Maybe E) (optional d) (good_maybe each opening G n S S B D E d i))
  where
    some : (o : Option (Unit {0})) (ts rest : List Token) → Maybe D o ts rest → D tt ts rest ⊎ (ts ≡ rest)
    some None ts rest m = inr m
    some (Some u) ts rest m = inl m

    there : (a : Unit {0}) (ts rest : List Token) → Made (λ (_ : Option (Unit {0})). tt) (Maybe D) a ts rest → Perhaps D a ts rest
    there a ts rest m = some m.0 ts rest m.2

    back : (a : Unit {0}) (ts rest : List Token) → Perhaps E a ts rest → Made (λ (_ : Option (Unit {0})). tt) (Maybe E) a ts rest
    back a ts rest (inl m) = (Some tt, refl, m)
    back a ts rest (inr m) = (None, refl, m)

word_not : (w : Word) (v : Word) (ts us : List Token) → is_some (is_word w (what.Word v)) ≡ false → Takes (what.Word v) ts us → ahead (λ x. is_some (is_word w x)) ts ≡ false
word_not w v [] us e m = refl
word_not w v (t ∷ ts) us e m = ap (λ x. is_some (is_word w x)) m.0 ∙ e

-- two words, or the one that they make
pub good_joined : {G : Type 0} {n : ℕ} (a b c : Word) → is_some (is_word a (what.Word a)) ≡ true → is_some (is_word a (what.Word c)) ≡ false → (S : What → Bool) → Keeps G n S (Joined a b c) (Joined a b c) (joined a b c)
good_joined a b c self other S = good_choice S (ahead (λ v. is_some (is_word a v))) _ _ _ _ _ _ (word_lead S (Word' b) (Word' b) (word' b) (good_word b S) a) (good_word c S)
    (λ u ts rest m. ahead_takes _ (what.Word a) ts _ self m.1) (λ u ts rest m. word_not a c ts rest other m)

joined_stops : (S : What → Bool) (a b c : Word) → S (what.Word a) ≡ true → S (what.Word c) ≡ true → (ts rest : List Token) → Joined a b c tt ts rest → Stops S ts
joined_stops S a b c h k [] rest m = tt
joined_stops S a b c h k (t ∷ ts) rest (inl m) = ap S m.1.0 ∙ h
joined_stops S a b c h k (t ∷ ts) rest (inr m) = ap S m.0 ∙ k

-- what such words end
pub joined_trail : {A : Type 0} {G : Type 0} {n : ℕ} (S R : What → Bool) (P Q : A → List Token → List Token → Type 0) (p : Reader A) (a b c : Word) → Keeps G n S P Q p
    → is_some (is_word a (what.Word a)) ≡ true → is_some (is_word a (what.Word c)) ≡ false → S (what.Word a) ≡ true → S (what.Word c) ≡ true → Keeps G n R (P ◂ Joined a b c) (Q ◂ Joined a b c) (trail p (joined a b c))
joined_trail S R P Q p a b c g self other h k = good_trail S R P Q _ _ p (joined a b c) g (good_joined a b c self other R) (λ mid rest m. joined_stops S a b c h k mid rest m)

-- ---- lines

module _ {A : Type 0} {G : Type 0} {n : ℕ} (S : What → Bool) (P Q : A → List Token → List Token → Type 0) (p : Reader A) (g : Keeps G n S P Q p) (none : p [] ≡ Err Syntax) where
  at_line : (t : Token) → let f : A → ℕ × A = λ a. (t.line, a) in Keeps G n S (Made f P) (Made f Q) (make f p)
  at_line t = let f : A → ℕ × A = λ a. (t.line, a) in good_made S f P Q p g

  none_lined : lined p [] ≡ Err Syntax
  none_lined = ap (λ (o : Outcome A). and_then {B = ℕ × A} o (λ a. pure (0, a))) none

  lined_sound : (ts : List Token) (a : ℕ × A) (rest : List Token) → lined p ts ≡ Ok (a, rest) → Lined P a ts rest
  lined_sound [] a rest e = absurd (let no : ◌≡◌ {A = Outcome (ℕ × A)} (Err Syntax) (Ok (a, rest)) = sym none_lined ∙ e in cc)
  lined_sound (t ∷ ts) a rest e =
      let m = (at_line t).sound (t ∷ ts) a rest e in
      (ap (λ (c : ℕ × A). c.0) m.1, subst (λ x. P x (t ∷ ts) rest) (sym (ap (λ (c : ℕ × A). c.1) m.1)) m.2)

  lined_fits : (a : ℕ × A) (ts rest : List Token) → Lined Q a ts rest → Fits G S a rest (lined p ts)
  lined_fits a [] rest m = absurd m
  lined_fits a (t ∷ ts) rest m = (at_line t).fits a (t ∷ ts) rest (a.1, ap (λ l. (l, a.1)) m.0, m.1)

  lined_eats : (ts : List Token) (a : ℕ × A) (rest : List Token) → lined p ts ≡ Ok (a, rest) → Eats each ts rest
  lined_eats [] a rest e = absurd (let no : ◌≡◌ {A = Outcome (ℕ × A)} (Err Syntax) (Ok (a, rest)) = sym none_lined ∙ e in cc)
  lined_eats (t ∷ ts) a rest e = (at_line t).eats (t ∷ ts) a rest e

  lined_digs : (ts : List Token) → lined p ts ≡ Err Deep → n ≤ opened each opening ts
  lined_digs [] e = absurd (let no : ◌≡◌ {A = Outcome (ℕ × A)} (Err Syntax) (Err Deep) = sym none_lined ∙ e in cc)
  lined_digs (t ∷ ts) e = (at_line t).digs (t ∷ ts) e

  pub good_lined : Keeps G n S (Lined P) (Lined Q) (lined p)
  good_lined = record { sound = lined_sound; fits = lined_fits; eats = lined_eats; digs = lined_digs }

pub lined_strict : {A : Type 0} (p : Reader A) → ((ts : List Token) (a : A) (rest : List Token) → p ts ≡ Ok (a, rest) → length rest < length ts) → (ts : List Token) (a : ℕ × A) (rest : List Token) → lined p ts ≡ Ok (a, rest) → length rest < length ts
lined_strict {A} p h ts a rest e = let f : A → ℕ × A = λ a. (line_at ts, a) in make_strict f p h ts a rest e

pub lined_starts : {A : Type 0} (p : Reader A) (ts : List Token) → p ts ≡ Err Syntax → lined p ts ≡ Err Syntax
lined_starts {A} p ts e = ap (λ (o : Outcome A). and_then {B = ℕ × A} o (λ a. pure (line_at ts, a))) e

pub trail_strict : {A : Type 0} (p : Reader A) (d : Reader (Unit {0})) → ((ts : List Token) (a : A) (rest : List Token) → p ts ≡ Ok (a, rest) → Eats each ts rest)
    → ((ts : List Token) (u : Unit {0}) (rest : List Token) → d ts ≡ Ok (u, rest) → length rest < length ts) → (ts : List Token) (a : A) (rest : List Token) → trail p d ts ≡ Ok (a, rest) → length rest < length ts
trail_strict p d h k ts a rest e =
    let (x, mid, u, v) = bind_ok (p ts) _ a rest e in
    let (y, end, c, w) = bind_ok (d mid) _ a rest v in
    let same = same_pair w in
    let l : length mid ≤ length ts = eats_shorter each ts mid (h ts x mid u) in
    let o : length end < length mid = k mid y end c in
    subst (λ r. length r < length ts) same.1 (omega arith)

pub either_by_strict : {A : Type 0} (test : List Token → Bool) (p q : Reader A) → ((ts : List Token) (a : A) (rest : List Token) → p ts ≡ Ok (a, rest) → length rest < length ts)
    → ((ts : List Token) (a : A) (rest : List Token) → q ts ≡ Ok (a, rest) → length rest < length ts) → (ts : List Token) (a : A) (rest : List Token) → either_by test p q ts ≡ Ok (a, rest) → length rest < length ts
either_by_strict {A} test p q h k ts a rest e = go (test ts) e
  where
    go : (b : Bool) → cond b (p ts) (q ts) ≡ Ok (a, rest) → length rest < length ts
    go true f = h ts a rest f
    go false f = k ts a rest f

-- ---- tests on a value

-- where anything may come behind
module _ {A : Type 0} {G : Type 0} {n : ℕ} (test : A → Bool) (P Q : A → List Token → List Token → Type 0) (p : Reader A) (g : Keeps G n any P Q p) where
  kept_ok : (b : Bool) (a c : A) (mid rest : List Token) → kept b a mid ≡ Ok (c, rest) → (a ≡ c) × (mid ≡ rest) × (b ≡ true)
  kept_ok true a c mid rest e = let k = same_pair e in (k.0, k.1, refl)
  kept_ok false a c mid rest e = absurd (let no : ◌≡◌ {A = Outcome A} (Err Syntax) (Ok (c, rest)) = e in cc)

  kept_deep : (b : Bool) (a : A) (mid : List Token) → kept b a mid ≡ Err Deep → ⊥
  kept_deep true a mid e = let no : ◌≡◌ {A = Outcome A} (Ok (a, mid)) (Err Deep) = e in cc
  kept_deep false a mid e = let no : ◌≡◌ {A = Outcome A} (Err Syntax) (Err Deep) = e in cc

  such_fits : (a : A) (rest : List Token) (r : Outcome A) → test a ≡ true → Fits G any a rest r → Fits G any a rest (and_then r (λ x. kept (test x) x))
  such_fits a rest (Ok c) h f =
      let k = f.1 (any_stops rest) in
      subst (λ x. Fits G any a rest (kept (test x) x c.1)) (sym k.0) (subst (λ us. Fits G any a rest (kept (test a) a us)) (sym k.1) (subst (λ b. Fits G any a rest (kept b a rest)) (sym h) (omega arith, λ s. (refl, refl))))
  such_fits a rest (Err Deep) h f = f
  such_fits a rest (Err Syntax) h f = f

  pub good_such : Keeps G n any (Such (λ a. test a ≡ true) P) (Such (λ a. test a ≡ true) Q) (such test p)
  good_such = record {
    sound = λ ts a rest e.
        let (x, mid, u, v) = bind_ok (p ts) _ a rest e in
        let k = kept_ok (test x) x a mid rest v in
        (ap test (sym k.0) ∙ k.2, subst (λ z. P z ts rest) k.0 (subst (λ r. P x ts r) k.1 (g.sound ts x mid u)));
    fits = λ a ts rest m. such_fits a rest (p ts) m.0 (g.fits a ts rest m.1);
    eats = λ ts a rest e.
        let (x, mid, u, v) = bind_ok (p ts) _ a rest e in
        let k = kept_ok (test x) x a mid rest v in
        subst (Eats each ts) k.1 (g.eats ts x mid u);
    digs = λ ts e. digs ts (bind_deep (p ts) _ e);
  }
    where
      digs : (ts : List Token) → (p ts ≡ Err Deep) ⊎ ((a : A) × (mid : List Token) × (p ts ≡ Ok (a, mid)) × (kept (test a) a mid ≡ Err Deep)) → n ≤ opened each opening ts
      digs ts (inl e) = g.digs ts e
      digs ts (inr (a, mid, x, y)) = absurd (kept_deep (test a) a mid y)

pub such_strict : {A : Type 0} (test : A → Bool) (p : Reader A) → ((ts : List Token) (a : A) (rest : List Token) → p ts ≡ Ok (a, rest) → length rest < length ts) → (ts : List Token) (a : A) (rest : List Token) → such test p ts ≡ Ok (a, rest) → length rest < length ts
such_strict {A} test p h ts a rest e =
    let (x, mid, u, v) = bind_ok (p ts) _ a rest e in
    subst (λ r. length r < length ts) (at (test x) x mid v) (h ts x mid u)
  where
    at : (b : Bool) (x : A) (mid : List Token) → kept b x mid ≡ Ok (a, rest) → mid ≡ rest
    at true x mid f = (same_pair f).1
    at false x mid f = absurd (let no : ◌≡◌ {A = Outcome A} (Err Syntax) (Ok (a, rest)) = f in cc)

-- ---- lists within parentheses

module _ {A : Type 0} (G : Type 0) (P Q : ℕ → List A → List Token → List Token → Type 0) (p : ℕ → Reader (List A)) (h : (n m : ℕ) → (G → m ≤ n) → Keeps G (suc n) closes (P n) (Q m) (p n))
    (begins : (m : ℕ) (a : List A) (ts rest : List Token) → Q m a ts rest → ahead (λ v. is_some (is_sign sign.RightParenthesis v)) ts ≡ false) (n m : ℕ) (reach : G → m ≤ n) where
  inside_begins : (m : ℕ) (a : List A) (ts rest : List Token) → (Inside Q m ◂ Sign' sign.RightParenthesis) a ts rest → ahead (λ v. is_some (is_sign sign.RightParenthesis v)) ts ≡ false
  inside_begins zero a ts rest c = absurd c.1
  inside_begins (suc m) a ts rest c = begins m a ts c.0 c.1

  abbrev Factored : (ℕ → List A → List Token → List Token → Type 0) → ℕ → List A → List Token → List Token → Type 0
  Factored P n = Sign' sign.LeftParenthesis ▸ Either (Made (λ (_ : Unit {0}). []) (Sign' sign.RightParenthesis)) (Inside P n ◂ Sign' sign.RightParenthesis)

  there : (P : ℕ → List A → List Token → List Token → Type 0) (n : ℕ) (a : List A) (ts rest : List Token) → Factored P n a ts rest → List' P n a ts rest
  there P n a ts rest (mid, t, inl c) = inr (c.0, c.1, (mid, t, (mid, refl, c.2)))
  there P n a ts rest (mid, t, inr c) = inl (mid, t, c)

  back : (Q : ℕ → List A → List Token → List Token → Type 0) (n : ℕ) (a : List A) (ts rest : List Token) → List' Q n a ts rest → Factored Q n a ts rest
  back Q n a ts rest (inl c) = (c.0, c.1, inr c.2)
  back Q n a ts rest (inr c) = (c.2.0, c.2.1, inl (c.0, c.1, subst (λ us. Takes (what.Sign sign.RightParenthesis) us rest) (sym c.2.2.1) c.2.2.2))

  good_factored : (S : What → Bool) → Keeps G (suc n) S (Factored P n) (Factored Q m) (list_in p n)
  unfolding list_in
  good_factored S = good_before (is_sign sign.LeftParenthesis) (what.Sign sign.LeftParenthesis) (told.a_sign sign.LeftParenthesis) each refl (suc n) (omega arith) S _ _ _
      (good_choice S (ahead (λ v. is_some (is_sign sign.RightParenthesis v))) _ _ _ _ _ _
      (good_made S (λ (_ : Unit {0}). []) _ _ _ (good_sign sign.RightParenthesis S))
      (sign_trail closes _ _ _ (good_inside G closes P Q p h n m reach) sign.RightParenthesis S refl)
      (λ a ts rest c. ahead_takes _ (what.Sign sign.RightParenthesis) ts _ refl c.2)
      (inside_begins m))

  pub good_list_in : (S : What → Bool) → Keeps G (suc n) S (List' P n) (List' Q m) (list_in p n)
  good_list_in S = good_same S _ _ _ _ _ (there P n) (back Q m) (good_factored S)

  pub start_list_in : Start each opening G (suc n) closes closes (λ v. is_some (is_sign sign.LeftParenthesis v)) (List' P n) (List' Q m) (list_in p n)
  unfolding list_in
  start_list_in = record {
    good = good_list_in closes;
    starts = starts_bind (is_sign sign.LeftParenthesis) _;
    strict = strict_bind each (is_sign sign.LeftParenthesis) _ (λ _. (good_choice {G = G} {n = n} closes (ahead (λ v. is_some (is_sign sign.RightParenthesis v))) _ _ _ _ _ _
        (good_made closes (λ (_ : Unit {0}). []) _ _ _ (good_sign sign.RightParenthesis closes))
        (sign_trail closes _ _ _ (good_inside G closes P Q p h n m reach) sign.RightParenthesis closes refl)
        (λ a ts rest c. ahead_takes _ (what.Sign sign.RightParenthesis) ts _ refl c.2)
        (inside_begins m)).eats);
    last = not_last (is_sign sign.LeftParenthesis) (what.Sign sign.LeftParenthesis) (told.a_sign sign.LeftParenthesis) closes refl;
    weaker = λ w e. e;
  }

  pub good_perhaps_list : Keeps G (suc n) closes (PerhapsList P n) (PerhapsList Q m) (perhaps_list p n)
  good_perhaps_list = good_made closes or_none _ _ _ (good_maybe each opening G (suc n) closes closes (λ v. is_some (is_sign sign.LeftParenthesis v)) _ _ _ start_list_in)
