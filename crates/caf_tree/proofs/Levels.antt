-- The levels that a form is spelled to are those that its value is deep.
use Rattle.std.proofs.Common.{◌≡◌, ℕ, zero, suc, max, ◌≤◌, Bool, true, false, List, [], ◌∷◌, Option, Some, None, ◌⊎◌, inl, inr, refl, ap, sym, ◌∙◌, subst, arith}
use Rattle.caf_lexer.specs.declared.token.Token.{Token}
use Rattle.caf_lexer.specs.declared.token.Sign.TheVariants as sign
use Rattle.caf_tree.specs.Forms.{Form, Mark, ◌⨟◌, Both, Made, Such, Either, Maybe, Many, Sign', ◌▸◌, ◌◂◌, InParentheses, InBrackets, Lined, Inside}
use Rattle.caf_tree.specs.Depth.{deepest, if_any, around}

-- What is spelled with so many levels is no deeper, and is spelled with any number of levels that it is no deeper than.
pub record Levels {A : Type 0} (P : ℕ → A → List Token → List Token → Type 0) (d : A → ℕ) (n : ℕ) : Type 0 where
  pub within : (a : A) (ts rest : List Token) → P n a ts rest → d a ≤ n
  pub again : (m : ℕ) (a : A) (ts rest : List Token) → P n a ts rest → d a ≤ m → P m a ts rest

pub max_least : (a b n : ℕ) → a ≤ n → b ≤ n → max a b ≤ n
max_least a b n h k = omega arith

pub max_left : (a b n : ℕ) → max a b ≤ n → a ≤ n
max_left a b n h = omega arith

pub max_right : (a b n : ℕ) → max a b ≤ n → b ≤ n
max_right a b n h = omega arith

-- a form that opens no level
pub levels_flat : {A : Type 0} (P : A → List Token → List Token → Type 0) (n : ℕ) → Levels (λ _. P) (λ _. 0) n
levels_flat P n = record { within = λ a ts rest x. omega arith; again = λ m a ts rest x h. x }

pub levels_both : {A B : Type 0} (P : ℕ → A → List Token → List Token → Type 0) (Q : ℕ → B → List Token → List Token → Type 0) (d : A → ℕ) (e : B → ℕ) (n : ℕ) → Levels P d n → Levels Q e n
    → Levels (λ k. Both (P k) (Q k)) (λ c. max (d c.0) (e c.1)) n
levels_both P Q d e n g h = record {
  within = λ c ts rest x. max_least (d c.0) (e c.1) n (g.within c.0 ts x.0 x.1) (h.within c.1 x.0 rest x.2);
  again = λ m c ts rest x le. (x.0, g.again m c.0 ts x.0 x.1 (max_left (d c.0) (e c.1) m le), h.again m c.1 x.0 rest x.2 (max_right (d c.0) (e c.1) m le));
}

pub levels_made : {A B : Type 0} (f : A → B) (P : ℕ → A → List Token → List Token → Type 0) (d : A → ℕ) (e : B → ℕ) (n : ℕ) → ((a : A) → e (f a) ≡ d a) → Levels P d n → Levels (λ k. Made f (P k)) e n
levels_made f P d e n same g = record {
  within = λ b ts rest x. let k : d x.0 ≤ n = g.within x.0 ts rest x.2 in let s : e b ≡ d x.0 = ap e x.1 ∙ same x.0 in omega arith;
  again = λ m b ts rest x le. let s : e b ≡ d x.0 = ap e x.1 ∙ same x.0 in (x.0, x.1, g.again m x.0 ts rest x.2 (omega arith));
}

pub levels_either : {A : Type 0} (P Q : ℕ → A → List Token → List Token → Type 0) (d : A → ℕ) (n : ℕ) → Levels P d n → Levels Q d n → Levels (λ k. Either (P k) (Q k)) d n
levels_either {A} P Q d n g h = record { within = within; again = again }
  where
    within : (a : A) (ts rest : List Token) → Either (P n) (Q n) a ts rest → d a ≤ n
    within a ts rest (inl x) = g.within a ts rest x
    within a ts rest (inr x) = h.within a ts rest x

    again : (m : ℕ) (a : A) (ts rest : List Token) → Either (P n) (Q n) a ts rest → d a ≤ m → Either (P m) (Q m) a ts rest
    again m a ts rest (inl x) le = inl (g.again m a ts rest x le)
    again m a ts rest (inr x) le = inr (h.again m a ts rest x le)

pub levels_maybe : {A : Type 0} (P : ℕ → A → List Token → List Token → Type 0) (d : A → ℕ) (n : ℕ) → Levels P d n → Levels (λ k. Maybe (P k)) (if_any d) n
levels_maybe {A} P d n g = record { within = within; again = again }
  where
    within : (o : Option A) (ts rest : List Token) → Maybe (P n) o ts rest → if_any d o ≤ n
    within None ts rest x = omega arith
    within (Some a) ts rest x = g.within a ts rest x

    again : (m : ℕ) (o : Option A) (ts rest : List Token) → Maybe (P n) o ts rest → if_any d o ≤ m → Maybe (P m) o ts rest
    again m None ts rest x le = x
    again m (Some a) ts rest x le = g.again m a ts rest x le

pub levels_many : {A : Type 0} (P : ℕ → A → List Token → List Token → Type 0) (d : A → ℕ) (n : ℕ) → Levels P d n → Levels (λ k. Many (P k)) (deepest d) n
levels_many {A} P d n g = record { within = within; again = again }
  where
    within : (c : List A) (ts rest : List Token) → Many (P n) c ts rest → deepest d c ≤ n
    within [] ts rest x = omega arith
    within (a ∷ c) ts rest x = max_least (d a) (deepest d c) n (g.within a ts x.0 x.1) (within c x.0 rest x.2)

    again : (m : ℕ) (c : List A) (ts rest : List Token) → Many (P n) c ts rest → deepest d c ≤ m → Many (P m) c ts rest
    again m [] ts rest x le = x
    again m (a ∷ c) ts rest x le = (x.0, g.again m a ts x.0 x.1 (max_left (d a) (deepest d c) m le), again m c x.0 rest x.2 (max_right (d a) (deepest d c) m le))

pub levels_lead : {A : Type 0} (D : Unit {0} → List Token → List Token → Type 0) (P : ℕ → A → List Token → List Token → Type 0) (d : A → ℕ) (n : ℕ) → Levels P d n → Levels (λ k. D ▸ P k) d n
levels_lead D P d n g = record { within = λ a ts rest x. g.within a x.0 rest x.2; again = λ m a ts rest x le. (x.0, x.1, g.again m a x.0 rest x.2 le) }

pub levels_trail : {A : Type 0} (D : Unit {0} → List Token → List Token → Type 0) (P : ℕ → A → List Token → List Token → Type 0) (d : A → ℕ) (n : ℕ) → Levels P d n → Levels (λ k. P k ◂ D) d n
levels_trail D P d n g = record { within = λ a ts rest x. g.within a ts x.0 x.1; again = λ m a ts rest x le. (x.0, g.again m a ts x.0 x.1 le, x.2) }

pub levels_such : {A : Type 0} (T : A → Type 0) (P : ℕ → A → List Token → List Token → Type 0) (d : A → ℕ) (n : ℕ) → Levels P d n → Levels (λ k. Such T (P k)) d n
levels_such T P d n g = record { within = λ a ts rest x. g.within a ts rest x.1; again = λ m a ts rest x le. (x.0, g.again m a ts rest x.1 le) }

pub levels_lined : {A : Type 0} (P : ℕ → A → List Token → List Token → Type 0) (d : A → ℕ) (n : ℕ) → Levels P d n → Levels (λ k. Lined (P k)) (λ a. d a.1) n
levels_lined {A} P d n g = record { within = within; again = again }
  where
    within : (a : ℕ × A) (ts rest : List Token) → Lined (P n) a ts rest → d a.1 ≤ n
    within a [] rest x = absurd x
    within a (t ∷ ts) rest x = g.within a.1 (t ∷ ts) rest x.1

    again : (m : ℕ) (a : ℕ × A) (ts rest : List Token) → Lined (P n) a ts rest → d a.1 ≤ m → Lined (P m) a ts rest
    again m a [] rest x le = absurd x
    again m a (t ∷ ts) rest x le = (x.0, g.again m a.1 (t ∷ ts) rest x.1 le)

-- inside a level
pub levels_inside : {A : Type 0} (P : ℕ → A → List Token → List Token → Type 0) (d : A → ℕ) → ((n : ℕ) → Levels P d n) → (n : ℕ) → Levels (Inside P) (λ a. around (d a)) n
levels_inside P d g zero = record { within = λ a ts rest x. absurd x; again = λ m a ts rest x le. absurd x }
levels_inside {A} P d g (suc n) = record {
  within = λ a ts rest x. let k : d a ≤ n = (g n).within a ts rest x in omega arith;
  again = again;
}
  where
    again : (m : ℕ) (a : A) (ts rest : List Token) → Inside P (suc n) a ts rest → around (d a) ≤ m → Inside P m a ts rest
    again zero a ts rest x le = absurd (omega arith)
    again (suc m) a ts rest x le = (g n).again m a ts rest x (omega arith)

-- within parentheses, and within brackets
pub levels_parens : {A : Type 0} (P : ℕ → A → List Token → List Token → Type 0) (d : A → ℕ) (n : ℕ) → Levels P d n → Levels (λ k. InParentheses (P k)) d n
levels_parens P d n g = levels_lead (Sign' sign.LeftParenthesis) _ d n (levels_trail (Sign' sign.RightParenthesis) P d n g)

pub levels_brackets : {A : Type 0} (P : ℕ → A → List Token → List Token → Type 0) (d : A → ℕ) (n : ℕ) → Levels P d n → Levels (λ k. InBrackets (P k)) d n
levels_brackets P d n g = levels_lead (Sign' sign.LeftBracket) _ d n (levels_trail (Sign' sign.RightBracket) P d n g)

-- behind a comma
pub levels_comma : {A : Type 0} (P : ℕ → A → List Token → List Token → Type 0) (d : A → ℕ) (n : ℕ) → Levels P d n → Levels (λ k. Sign' sign.Comma ▸ P k) d n
levels_comma P d n g = levels_lead (Sign' sign.Comma) P d n g

-- where the depths agree of what is spelled
pub levels_made_of : {A B : Type 0} (f : A → B) (P : ℕ → A → List Token → List Token → Type 0) (d : A → ℕ) (e : B → ℕ) (n : ℕ) → ((a : A) (ts rest : List Token) → P n a ts rest → e (f a) ≡ d a) → Levels P d n → Levels (λ k. Made f (P k)) e n
levels_made_of f P d e n same g = record {
  within = λ b ts rest x. let k : d x.0 ≤ n = g.within x.0 ts rest x.2 in let s : e b ≡ d x.0 = ap e x.1 ∙ same x.0 ts rest x.2 in omega arith;
  again = λ m b ts rest x le. let s : e b ≡ d x.0 = ap e x.1 ∙ same x.0 ts rest x.2 in (x.0, x.1, g.again m x.0 ts rest x.2 (omega arith));
}

-- another word for the depth
pub levels_as : {A : Type 0} (P : ℕ → A → List Token → List Token → Type 0) (d e : A → ℕ) (n : ℕ) → ((a : A) → e a ≡ d a) → Levels P d n → Levels P e n
levels_as P d e n same g = record {
  within = λ a ts rest x. let k : d a ≤ n = g.within a ts rest x in let s : e a ≡ d a = same a in omega arith;
  again = λ m a ts rest x le. let s : e a ≡ d a = same a in g.again m a ts rest x (omega arith);
}
