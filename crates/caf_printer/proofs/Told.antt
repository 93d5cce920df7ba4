-- Forms whose values are spelled again by the tokens that they are printed with.
use Rattle.std.proofs.Common.{◌≡◌, ℕ, zero, suc, List, [], ◌∷◌, ◌++◌, map, Option, Some, None, ◌⊎◌, inl, inr, refl, ap, sym, ◌∙◌, subst, append_assoc}
use Rattle.std.specs.List.{flat_map}
use Rattle.caf_lexer.specs.declared.token.Token.{Token}
use Rattle.caf_lexer.specs.declared.token.What.{What}
use Rattle.caf_lexer.specs.declared.token.What.TheVariants as what
use Rattle.caf_lexer.specs.declared.token.Sign.{Sign}
use Rattle.caf_lexer.specs.declared.token.Sign.TheVariants as sign
use Rattle.caf_lexer.specs.declared.token.Word.{Word}
use Rattle.caf_tree.specs.Forms.{Takes, Just, Token', Word', Sign', Name, ◌⨟◌, Both, Made, Such, Either, Maybe, Many, ◌▸◌, ◌◂◌, Listed, InParentheses, InBrackets, Inside}
use Rattle.caf_tree.specs.Said.{if_any, each_after, listed, in_parentheses, in_brackets}
use Rattle.caf_printer.proofs.Printable.{Said, whats, Printable, Fine, Each, each_append}

-- What is spelled at all is spelled by the tokens that sp says, whatever comes behind them. Where the tokens that
-- spell it are fine, those that sp says can be printed.
pub record Told {A : Type 0} (P : A → List Token → List Token → Type 0) (sp : A → Said) : Type 0 where
  pub again : (a : A) (ts rest : List Token) → P a ts rest → (front end : List Token) → whats front ≡ sp a → P a (front ++ end) end
  pub fine : (a : A) (ts rest : List Token) → P a ts rest → Each Fine (whats ts) → Each Printable (sp a) × Each Fine (whats rest)

-- the same of a mark, which is made of tokens that don't depend on what stood there
pub record Marked (D : Unit {0} → List Token → List Token → Type 0) (d : Said) : Type 0 where
  pub made : (front end : List Token) → whats front ≡ d → D tt (front ++ end) end
  pub sound : Each Printable d
  pub past : (ts rest : List Token) → D tt ts rest → Each Fine (whats ts) → Each Fine (whats rest)

-- ---- tokens

pub split : (ts : List Token) (xs ys : Said) → whats ts ≡ xs ++ ys → (f : List Token) × (g : List Token) × (ts ≡ f ++ g) × (whats f ≡ xs) × (whats g ≡ ys)
split ts [] ys h = ([], ts, refl, refl, h)
split [] (x ∷ xs) ys h = absurd (let z : ◌≡◌ {A = Said} [] (x ∷ (xs ++ ys)) = h in cc)
split (t ∷ ts) (x ∷ xs) ys h =
    let k : whats ts ≡ xs ++ ys = cc in
    let w : t.what ≡ x = cc in
    let (f, g, a, b, c) = split ts xs ys k in
    (t ∷ f, g, ap (λ us. t ∷ us) a, ap (λ v. v ∷ whats f) w ∙ ap (λ us. x ∷ us) b, c)

pub none_left : (ts : List Token) → whats ts ≡ [] → ts ≡ []
none_left [] h = refl
none_left (t ∷ ts) h = absurd (let z : ◌≡◌ {A = Said} (t.what ∷ whats ts) [] = h in cc)

-- one token, and others behind it
pub head : (ts : List Token) (x : What) (xs : Said) (end : List Token) → whats ts ≡ x ∷ xs → (g : List Token) × Takes x (ts ++ end) (g ++ end) × (whats g ≡ xs)
head [] x xs end h = absurd (let z : ◌≡◌ {A = Said} [] (x ∷ xs) = h in cc)
head (t ∷ ts) x xs end h =
    let w : t.what ≡ x = cc in
    let k : whats ts ≡ xs = cc in
    (ts, (w, refl), k)

pub takes : (front end : List Token) (x : What) → whats front ≡ x ∷ [] → Takes x (front ++ end) end
takes front end x h =
    let (k, t, n) = head front x [] end h in
    subst (λ us. Takes x (front ++ end) (us ++ end)) (none_left k n) t

-- what was taken is fine, and so is what is left
pub taken : (x : What) (ts rest : List Token) → Takes x ts rest → Each Fine (whats ts) → Fine x × Each Fine (whats rest)
taken x [] rest m e = absurd m
taken x (t ∷ ts) rest m e = (subst Fine m.0 e.0, subst (λ us. Each Fine (whats us)) m.1 e.1)

pub joined : {A : Type 0} (P : A → List Token → List Token → Type 0) (a : A) (ts f g end : List Token) → ts ≡ f ++ g → P a (f ++ (g ++ end)) (g ++ end) → P a (ts ++ end) (g ++ end)
joined P a ts f g end e m = subst (λ us. P a us (g ++ end)) (sym (ap (λ us. us ++ end) e ∙ append_assoc f g end)) m

-- ---- marks

pub marked_word : (w : Word) → Marked (Word' w) (what.Word w ∷ [])
marked_word w = record {
  made = λ front end h. takes front end (what.Word w) h;
  sound = (tt, tt);
  past = λ ts rest m e. (taken (what.Word w) ts rest m e).1;
}

pub marked_sign : (s : Sign) → Marked (Sign' s) (what.Sign s ∷ [])
marked_sign s = record {
  made = λ front end h. takes front end (what.Sign s) h;
  sound = (tt, tt);
  past = λ ts rest m e. (taken (what.Sign s) ts rest m e).1;
}

-- ---- forms

pub told_just : {A : Type 0} (g : A → What) → ((a : A) → Fine (g a) → Printable (g a)) → Told (Just g) (λ a. g a ∷ [])
told_just g kept = record {
  again = λ a ts rest m front end h. takes front end (g a) h;
  fine = λ a ts rest m e. let t = taken (g a) ts rest m e in ((kept a t.0, tt), t.1);
}

pub told_name : Told Name (λ x. what.Name x ∷ [])
told_name = told_just what.Name (λ x h. h)

pub told_both : {A B : Type 0} (P : A → List Token → List Token → Type 0) (Q : B → List Token → List Token → Type 0) (p : A → Said) (q : B → Said)
    → Told P p → Told Q q → Told (Both P Q) (λ c. p c.0 ++ q c.1)
told_both P Q p q h k = record {
  again = λ c ts rest m front end s.
      let (f, g, a, b, d) = split front (p c.0) (q c.1) s in
      (g ++ end, joined P c.0 front f g end a (h.again c.0 ts m.0 m.1 f (g ++ end) b), k.again c.1 m.0 rest m.2 g end d);
  fine = λ c ts rest m e.
      let x = h.fine c.0 ts m.0 m.1 e in
      let y = k.fine c.1 m.0 rest m.2 x.1 in
      (each_append Printable (p c.0) (q c.1) x.0 y.0, y.1);
}

pub told_before : {A : Type 0} (D : Unit {0} → List Token → List Token → Type 0) (P : A → List Token → List Token → Type 0) (d : Said) (p : A → Said)
    → Marked D d → Told P p → Told (D ▸ P) (λ a. d ++ p a)
told_before D P d p h k = record {
  again = λ c ts rest m front end s.
      let (f, g, a, b, n) = split front d (p c) s in
      (g ++ end, joined D tt front f g end a (h.made f (g ++ end) b), k.again c m.0 rest m.2 g end n);
  fine = λ c ts rest m e.
      let y = k.fine c m.0 rest m.2 (h.past ts m.0 m.1 e) in
      (each_append Printable d (p c) h.sound y.0, y.1);
}

pub told_after : {A : Type 0} (P : A → List Token → List Token → Type 0) (D : Unit {0} → List Token → List Token → Type 0) (p : A → Said) (d : Said)
    → Told P p → Marked D d → Told (P ◂ D) (λ a. p a ++ d)
told_after P D p d h k = record {
  again = λ c ts rest m front end s.
      let (f, g, a, b, n) = split front (p c) d s in
      (g ++ end, joined P c front f g end a (h.again c ts m.0 m.1 f (g ++ end) b), k.made g end n);
  fine = λ c ts rest m e.
      let x = h.fine c ts m.0 m.1 e in
      (each_append Printable (p c) d x.0 k.sound, k.past m.0 rest m.2 x.1);
}

pub told_word : {A : Type 0} (w : Word) (P : A → List Token → List Token → Type 0) (p : A → Said) → Told P p → Told (Word' w ▸ P) (λ a. what.Word w ∷ p a)
told_word w P p h = told_before (Word' w) P (what.Word w ∷ []) p (marked_word w) h

pub told_sign : {A : Type 0} (s : Sign) (P : A → List Token → List Token → Type 0) (p : A → Said) → Told P p → Told (Sign' s ▸ P) (λ a. what.Sign s ∷ p a)
told_sign s P p h = told_before (Sign' s) P (what.Sign s ∷ []) p (marked_sign s) h

pub told_parentheses : {A : Type 0} (P : A → List Token → List Token → Type 0) (p : A → Said) → Told P p → Told (InParentheses P) (λ a. in_parentheses (p a))
told_parentheses P p h = told_sign sign.LeftParenthesis _ _ (told_after P (Sign' sign.RightParenthesis) p _ h (marked_sign sign.RightParenthesis))

pub told_brackets : {A : Type 0} (P : A → List Token → List Token → Type 0) (p : A → Said) → Told P p → Told (InBrackets P) (λ a. in_brackets (p a))
told_brackets P p h = told_sign sign.LeftBracket _ _ (told_after P (Sign' sign.RightBracket) p _ h (marked_sign sign.RightBracket))

pub told_made : {A B : Type 0} (f : A → B) (P : A → List Token → List Token → Type 0) (p : A → Said) (q : B → Said)
    → Told P p → ((a : A) → q (f a) ≡ p a) → Told (Made f P) q
told_made f P p q h same = record {
  again = λ b ts rest m front end s. (m.0, m.1, h.again m.0 ts rest m.2 front end (s ∙ ap q m.1 ∙ same m.0));
  fine = λ b ts rest m e.
      let x = h.fine m.0 ts rest m.2 e in
      (subst (Each Printable) (sym (ap q m.1 ∙ same m.0)) x.0, x.1);
}

-- the same, where the equation needs what is spelled
pub told_where : {A B : Type 0} (f : A → B) (P : A → List Token → List Token → Type 0) (p : A → Said) (q : B → Said)
    → Told P p → ((a : A) (ts rest : List Token) → P a ts rest → q (f a) ≡ p a) → Told (Made f P) q
told_where f P p q h same = record {
  again = λ b ts rest m front end s. (m.0, m.1, h.again m.0 ts rest m.2 front end (s ∙ ap q m.1 ∙ same m.0 ts rest m.2));
  fine = λ b ts rest m e.
      let x = h.fine m.0 ts rest m.2 e in
      (subst (Each Printable) (sym (ap q m.1 ∙ same m.0 ts rest m.2)) x.0, x.1);
}

pub told_such : {A : Type 0} (T : A → Type 0) (P : A → List Token → List Token → Type 0) (p : A → Said) → Told P p → Told (Such T P) p
told_such T P p h = record {
  again = λ a ts rest m front end s. (m.0, h.again a ts rest m.1 front end s);
  fine = λ a ts rest m e. h.fine a ts rest m.1 e;
}

pub told_either : {A : Type 0} (P Q : A → List Token → List Token → Type 0) (p : A → Said) → Told P p → Told Q p → Told (Either P Q) p
told_either {A = A} P Q p h k = record { again = again; fine = fine }
  where
    again : (a : A) (ts rest : List Token) → Either P Q a ts rest → (front end : List Token) → whats front ≡ p a → Either P Q a (front ++ end) end
    again a ts rest (inl m) front end s = inl (h.again a ts rest m front end s)
    again a ts rest (inr m) front end s = inr (k.again a ts rest m front end s)

    fine : (a : A) (ts rest : List Token) → Either P Q a ts rest → Each Fine (whats ts) → Each Printable (p a) × Each Fine (whats rest)
    fine a ts rest (inl m) e = h.fine a ts rest m e
    fine a ts rest (inr m) e = k.fine a ts rest m e

pub nothing : (front end : List Token) → whats front ≡ [] → ◌≡◌ {A = List Token} (front ++ end) end
nothing front end s = ap (λ us. us ++ end) (none_left front s)

pub told_maybe : {A : Type 0} (P : A → List Token → List Token → Type 0) (p : A → Said) → Told P p → Told (Maybe P) (if_any p)
told_maybe {A = A} P p h = record { again = again; fine = fine }
  where
    again : (a : Option A) (ts rest : List Token) → Maybe P a ts rest → (front end : List Token) → whats front ≡ if_any p a → Maybe P a (front ++ end) end
    again None ts rest m front end s = nothing front end s
    again (Some a) ts rest m front end s = h.again a ts rest m front end s

    fine : (a : Option A) (ts rest : List Token) → Maybe P a ts rest → Each Fine (whats ts) → Each Printable (if_any p a) × Each Fine (whats rest)
    fine None ts rest m e = (tt, subst (λ us. Each Fine (whats us)) m e)
    fine (Some a) ts rest m e = h.fine a ts rest m e

pub told_many : {A : Type 0} (P : A → List Token → List Token → Type 0) (p : A → Said) → Told P p → Told (Many P) (flat_map p)
told_many {A = A} P p h = record { again = again; fine = fine }
  where
    again : (a : List A) (ts rest : List Token) → Many P a ts rest → (front end : List Token) → whats front ≡ flat_map p a → Many P a (front ++ end) end
    again [] ts rest m front end s = nothing front end s
    again (a ∷ c) ts rest m front end s =
        let (f, g, x, b, d) = split front (p a) (flat_map p c) s in
        (g ++ end, joined P a front f g end x (h.again a ts m.0 m.1 f (g ++ end) b), again c m.0 rest m.2 g end d)

    fine : (a : List A) (ts rest : List Token) → Many P a ts rest → Each Fine (whats ts) → Each Printable (flat_map p a) × Each Fine (whats rest)
    fine [] ts rest m e = (tt, subst (λ us. Each Fine (whats us)) m e)
    fine (a ∷ c) ts rest m e =
        let x = h.fine a ts m.0 m.1 e in
        let y = fine c m.0 rest m.2 x.1 in
        (each_append Printable (p a) (flat_map p c) x.0 y.0, y.1)

pub told_listed : {A : Type 0} (P : A → List Token → List Token → Type 0) (p : A → Said) → Told P p → Told (Listed P) (listed p)
told_listed {A} P p h = told_made (λ (c : A × List A). c.0 ∷ c.1) _ (λ c. p c.0 ++ each_after sign.Comma p c.1) (listed p)
    (told_both P _ p _ h (told_many _ _ (told_sign sign.Comma P p h))) (λ c. refl)

-- inside one level more
pub told_inside : {A : Type 0} (P : ℕ → A → List Token → List Token → Type 0) (p : A → Said) → ((n : ℕ) → Told (P n) p) → (n : ℕ) → Told (Inside P n) p
told_inside P p h zero = record { again = λ a ts rest m. absurd m; fine = λ a ts rest m. absurd m }
told_inside P p h (suc n) = h n
