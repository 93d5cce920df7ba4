-- Forms of a grammar. A form of A says which tokens spell a value of A: these tokens spell it, up to those that come
-- after it. A form has no cursor and looks at no token that it doesn't take.
use Rattle.std.specs.Prelude.{◌⊎◌, ◌≡◌, ℕ, zero, suc, Bool, true, false, List, [], ◌∷◌, Option, Some, None}
use Rattle.caf_lexer.specs.declared.token.Token.{Token}
use Rattle.caf_lexer.specs.declared.token.What.{What}
use Rattle.caf_lexer.specs.declared.token.What.TheVariants as what
use Rattle.caf_lexer.specs.declared.token.Word.{Word}
use Rattle.caf_lexer.specs.declared.token.Sign.{Sign}
use Rattle.caf_lexer.specs.declared.token.Sign.TheVariants as sign

-- these tokens, up to those
abbrev pub Span : Type 1
Span = List Token → List Token → Type 0

abbrev pub Form : Type 0 → Type 1
Form A = A → List Token → List Token → Type 0

-- what leaves no trace in the tree
abbrev pub Mark : Type 1
Mark = Unit {0} → List Token → List Token → Type 0

-- ---- tokens

-- this token
abbrev pub Takes : What → List Token → List Token → Type 0
Takes w [] rest = ⊥
Takes w (t ∷ ts) rest = (t.what ≡ w) × (ts ≡ rest)

-- the token of a value
abbrev pub Just : {A : Type 0} → (A → What) → A → List Token → List Token → Type 0
Just g a ts rest = Takes (g a) ts rest

abbrev pub Token' : What → Mark
Token' w = Just (λ _. w)

abbrev pub Word' : Word → Mark
Word' w = Token' (what.Word w)

abbrev pub Sign' : Sign → Mark
Sign' s = Token' (what.Sign s)

-- the end of a statement
abbrev pub End : Mark
End = Token' what.End

-- a name
abbrev pub Name : Form (List ℕ)
Name = Just what.Name

-- this name, which is there already
abbrev pub Called : List ℕ → Mark
Called name = Token' (what.Name name)

-- ---- one after another

infixr 6 ◌⨟◌
abbrev pub ◌⨟◌ : Span → Span → Span
(P ⨟ Q) ts rest = (mid : List Token) × P ts mid × Q mid rest

-- two values, one after the other
abbrev pub Both : {A B : Type 0} → Form A → Form B → Form (A × B)
Both P Q p ts rest = (P p.0 ⨟ Q p.1) ts rest

-- what is made of a value
abbrev pub Made : {A B : Type 0} → (A → B) → Form A → Form B
Made {A} f P b ts rest = (a : A) × (b ≡ f a) × P a ts rest

-- a value of which something holds
abbrev pub Such : {A : Type 0} → (A → Type 0) → Form A → Form A
Such T P a ts rest = T a × P a ts rest

abbrev pub Either : {A : Type 0} → Form A → Form A → Form A
Either P Q a ts rest = P a ts rest ⊎ Q a ts rest

-- at most one
abbrev pub Maybe : {A : Type 0} → Form A → Form (Option A)
Maybe P None ts rest = ts ≡ rest
Maybe P (Some a) ts rest = P a ts rest

-- any number
abbrev pub Many : {A : Type 0} → Form A → Form (List A)
Many P [] ts rest = ts ≡ rest
Many P (a ∷ others) ts rest = (P a ⨟ Many P others) ts rest

infixr 7 ◌▸◌
-- a mark, and then a value
abbrev pub ◌▸◌ : {A : Type 0} → Mark → Form A → Form A
(D ▸ P) a ts rest = (D tt ⨟ P a) ts rest

infixl 8 ◌◂◌
-- a value, and then a mark
abbrev pub ◌◂◌ : {A : Type 0} → Form A → Mark → Form A
(P ◂ D) a ts rest = (P a ⨟ D tt) ts rest

-- a mark or nothing
abbrev pub Perhaps : Mark → Mark
Perhaps D a ts rest = D tt ts rest ⊎ (ts ≡ rest)

-- two words, or the one that they make, as "end" "if" or "endif"
abbrev pub Joined : Word → Word → Word → Mark
Joined first second together = Either (Word' first ▸ Word' second) (Word' together)

-- ---- lists

-- one, and any number behind commas
abbrev pub Listed : {A : Type 0} → Form A → Form (List A)
Listed {A} P = Made (λ (p : A × List A). p.0 ∷ p.1) (Both P (Many (Sign' sign.Comma ▸ P)))

abbrev pub or_none : {A : Type 0} → Option (List A) → List A
or_none None = []
or_none (Some items) = items

-- ---- parentheses and brackets

abbrev pub InParentheses : {A : Type 0} → Form A → Form A
InParentheses P = Sign' sign.LeftParenthesis ▸ (P ◂ Sign' sign.RightParenthesis)

abbrev pub InBrackets : {A : Type 0} → Form A → Form A
InBrackets P = Sign' sign.LeftBracket ▸ (P ◂ Sign' sign.RightBracket)

-- ---- lines and depth

-- a value, with the line of its first token
abbrev pub Lined : {A : Type 0} → Form A → Form (ℕ × A)
Lined P a [] rest = ⊥
Lined P a (t ∷ ts) rest = (a.0 ≡ t.line) × P a.1 (t ∷ ts) rest

-- Where so many levels are left, what stands inside one of them has one less. Where none is left nothing stands inside.
abbrev pub Inside : {A : Type 0} → (ℕ → Form A) → ℕ → Form A
Inside P zero a ts rest = ⊥
Inside P (suc n) a ts rest = P n a ts rest
