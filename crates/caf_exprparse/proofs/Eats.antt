-- Tokens that a reader takes.
use Rattle.std.proofs.Common.{◌≡◌, ℕ, ◌+◌, ◌-◌, ◌≤◌, Bool, true, false, cond, List, [], ◌∷◌, ◌++◌, length, drop, append_assoc, refl, ap, sym, ◌∙◌, subst, arith}
use Rattle.std.proofs.lemmas.List.{length-append, drop_at}
use Rattle.caf_lexer.specs.declared.token.Token.{Token}
use Rattle.caf_lexer.specs.declared.token.What.{What}
use Rattle.caf_exprparse.specs.Ends.{opened}

-- each of them passes
abbrev pub Free : (What → Bool) → List Token → Type 0
Free T [] = Unit {0}
Free T (t ∷ ts) = (T t.what ≡ true) × Free T ts

-- these tokens are some that pass, and then those
pub record Eats (T : What → Bool) (ts rest : List Token) : Type 0 where
  pub front : List Token
  pub same : ts ≡ front ++ rest
  pub free : Free T front

pub eats_none : (T : What → Bool) (ts : List Token) → Eats T ts ts
eats_none T ts = record { front = []; same = refl; free = tt }

pub eats_one : (T : What → Bool) (t : Token) (ts : List Token) → T t.what ≡ true → Eats T (t ∷ ts) ts
eats_one T t ts e = record { front = t ∷ []; same = refl; free = (e, tt) }

free_both : (T : What → Bool) (a b : List Token) → Free T a → Free T b → Free T (a ++ b)
free_both T [] b f g = g
free_both T (t ∷ a) b f g = (f.0, free_both T a b f.1 g)

pub eats_more : (T : What → Bool) (ts us rest : List Token) → Eats T ts us → Eats T us rest → Eats T ts rest
eats_more T ts us rest x y = record {
  front = x.front ++ y.front;
  same = x.same ∙ ap (λ r. x.front ++ r) y.same ∙ sym (append_assoc x.front y.front rest);
  free = free_both T x.front y.front x.free y.free;
}

pub eats_shorter : (T : What → Bool) (ts rest : List Token) → Eats T ts rest → length rest ≤ length ts
eats_shorter T ts rest x =
    let e : length ts ≡ length (x.front ++ rest) = ap length x.same in
    let f : length (x.front ++ rest) ≡ length x.front + length rest = length-append x.front rest in
    omega arith

-- what is left is what comes behind as many as are taken
pub eats_drop : (T : What → Bool) (ts rest : List Token) → Eats T ts rest → drop (length ts - length rest) ts ≡ rest
eats_drop T ts rest x =
    let e : length ts ≡ length (x.front ++ rest) = ap length x.same in
    let f : length (x.front ++ rest) ≡ length x.front + length rest = length-append x.front rest in
    let n : length ts - length rest ≡ length x.front = omega arith in
    ap (λ k. drop k ts) n ∙ ap (drop (length x.front)) x.same ∙ drop_at x.front rest (length x.front) refl

opened_behind : (T : What → Bool) (W : What → ℕ) (front rest : List Token) → Free T front → opened T W rest ≤ opened T W (front ++ rest)
opened_behind T W [] rest f = omega arith
opened_behind T W (t ∷ front) rest f =
    let h : opened T W rest ≤ opened T W (front ++ rest) = opened_behind T W front rest f.1 in
    rw f.0 (omega arith)

-- what is opened behind tokens that are taken is opened ahead of them
pub eats_opened : (T : What → Bool) (W : What → ℕ) (ts rest : List Token) → Eats T ts rest → opened T W rest ≤ opened T W ts
eats_opened T W ts rest x = subst (λ us. opened T W rest ≤ opened T W us) (sym x.same) (opened_behind T W x.front rest x.free)

free_wider : (T U : What → Bool) → ((w : What) → T w ≡ true → U w ≡ true) → (ts : List Token) → Free T ts → Free U ts
free_wider T U h [] f = tt
free_wider T U h (t ∷ ts) f = (h t.what f.0, free_wider T U h ts f.1)

pub eats_wider : (T U : What → Bool) → ((w : What) → T w ≡ true → U w ≡ true) → (ts rest : List Token) → Eats T ts rest → Eats U ts rest
eats_wider T U h ts rest x = record { front = x.front; same = x.same; free = free_wider T U h x.front x.free }

-- more tokens pass, and each weighs as much at least
opened_at : (T U : Bool) (v w x y : ℕ) → (T ≡ true → U ≡ true) → v ≤ w → x ≤ y → cond T (v + x) 0 ≤ cond U (w + y) 0
opened_at true true v w x y h k l = omega arith
opened_at true false v w x y h k l = absurd (let no : ◌≡◌ {A = Bool} false true = h refl in cc)
opened_at false U v w x y h k l = omega arith

pub opened_wider : (T U : What → Bool) (V W : What → ℕ) → ((w : What) → T w ≡ true → U w ≡ true) → ((w : What) → V w ≤ W w) → (ts : List Token) → opened T V ts ≤ opened U W ts
opened_wider T U V W h k [] = omega arith
opened_wider T U V W h k (t ∷ ts) = opened_at (T t.what) (U t.what) (V t.what) (W t.what) (opened T V ts) (opened U W ts) (h t.what) (k t.what) (opened_wider T U V W h k ts)
