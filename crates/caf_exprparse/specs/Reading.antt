-- Readers of tokens, and how they are put together: one for each way in which forms are.
use Rattle.std.specs.Prelude.{ℕ, zero, suc, List, [], ◌∷◌, length, Option, Some, None, Bool, false, Result, Ok, Err, if◌then◌else◌}
use Rattle.caf_lexer.specs.declared.token.Token.{Token}
use Rattle.caf_lexer.specs.declared.token.What.{What}

-- why nothing is read
pub data Refusal : Type 0 where
  Syntax : Refusal
  Deep : Refusal

abbrev pub Outcome : Type 0 → Type 0
Outcome A = Result (A × List Token) Refusal

abbrev pub Reader : Type 0 → Type 0
Reader A = List Token → Outcome A

abbrev pub and_then : {A B : Type 0} → Outcome A → (A → Reader B) → Outcome B
and_then (Ok p) f = f p.0 p.1
and_then (Err e) f = Err e

infixl 10 ◌>>=◌
abbrev pub ◌>>=◌ : {A B : Type 0} → Reader A → (A → Reader B) → Reader B
p >>= f = λ ts. and_then (p ts) f

abbrev pub pure : {A : Type 0} → A → Reader A
pure a = λ ts. Ok (a, ts)

abbrev pub both : {A B : Type 0} → Reader A → Reader B → Reader (A × B)
both p q = p >>= (λ a. q >>= (λ b. pure (a, b)))

abbrev pub make : {A B : Type 0} → (A → B) → Reader A → Reader B
make f p = p >>= (λ a. pure (f a))

-- a mark, and then a value
abbrev pub lead : {A : Type 0} → Reader (Unit {0}) → Reader A → Reader A
lead d p = d >>= (λ _. p)

-- a value, and then a mark
abbrev pub trail : {A : Type 0} → Reader A → Reader (Unit {0}) → Reader A
trail p d = p >>= (λ a. d >>= (λ _. pure a))

-- where the syntax doesn't fit, nothing is taken
abbrev pub or_nothing : {A : Type 0} → List Token → Outcome A → Outcome (Option A)
or_nothing ts (Ok p) = Ok (Some p.0, p.1)
or_nothing ts (Err Syntax) = Ok (None, ts)
or_nothing ts (Err Deep) = Err Deep

abbrev pub optional : {A : Type 0} → Reader A → Reader (Option A)
optional p = λ ts. or_nothing ts (p ts)

abbrev pub onto : {A : Type 0} → A → Outcome (List A) → Outcome (List A)
onto a (Ok p) = Ok (a ∷ p.0, p.1)
onto a (Err e) = Err e

-- as many as there are, where the number of tokens bounds the turns
abbrev pub more_from : {A : Type 0} → List Token → Outcome A → Reader (List A) → Outcome (List A)
more_from ts (Ok p) others = onto p.0 (others p.1)
more_from ts (Err Syntax) others = Ok ([], ts)
more_from ts (Err Deep) others = Err Deep

abbrev pub many_from : {A : Type 0} → Reader A → ℕ → Reader (List A)
many_from p zero ts = Ok ([], ts)
many_from p (suc n) ts = more_from ts (p ts) (many_from p n)

abbrev pub many : {A : Type 0} → Reader A → Reader (List A)
many p = λ ts. many_from p (length ts) ts

-- where so many levels are left, what stands inside one of them has one less
abbrev pub inside : {A : Type 0} → (ℕ → Reader A) → ℕ → Reader A
inside p zero = λ ts. Err Deep
inside p (suc n) = p n

-- ---- tokens

abbrev pub picked : {A : Type 0} → Option A → List Token → Outcome A
picked (Some a) ts = Ok (a, ts)
picked None ts = Err Syntax

-- the next token, if it is one of these
abbrev pub one : {A : Type 0} → (What → Option A) → Reader A
one f [] = Err Syntax
one f (t ∷ ts) = picked (f t.what) ts

-- whether the next token passes
abbrev pub ahead : (What → Bool) → List Token → Bool
ahead test [] = false
ahead test (t ∷ ts) = test t.what

abbrev pub either : {A : Type 0} → (What → Bool) → Reader A → Reader A → Reader A
either test p q = λ ts. if ahead test ts then p ts else q ts

abbrev pub next_of : List Token → Option What
next_of [] = None
next_of (t ∷ ts) = Some t.what

-- the line of the next token, or 0
abbrev pub line_at : List Token → ℕ
line_at [] = 0
line_at (t ∷ ts) = t.line

abbrev pub second_of : List Token → Option What
second_of [] = None
second_of (t ∷ ts) = next_of ts

abbrev pub third_of : List Token → Option What
third_of [] = None
third_of (t ∷ ts) = second_of ts

abbrev pub by_some : {A : Type 0} → (What → Reader A) → Option What → Reader A
by_some pick None ts = Err Syntax
by_some pick (Some w) ts = pick w ts

-- a reader for each next token
abbrev pub by_next : {A : Type 0} → (What → Reader A) → Reader A
by_next pick = λ ts. by_some pick (next_of ts) ts
