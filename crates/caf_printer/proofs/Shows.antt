-- Forms whose values are spelled again, up to their lines, by the tokens that they are printed with.
use Rattle.std.proofs.Common.{◌≡◌, ℕ, zero, suc, ◌+◌, ◌≤◌, Bool, true, false, List, [], ◌∷◌, ◌++◌, map, Option, Some, None, inl, inr, refl, ap, sym, ◌∙◌, subst, append_assoc}
use Rattle.std.specs.List.{flat_map}
use Rattle.caf_lexer.specs.declared.token.Token.{Token}
use Rattle.caf_lexer.specs.declared.token.What.{What}
use Rattle.caf_lexer.specs.declared.token.What.TheVariants as what
use Rattle.caf_lexer.specs.declared.token.Word.{Word}
use Rattle.caf_tree.specs.Forms.{Takes, End, Word', ◌⨟◌, Both, Made, Many, ◌▸◌, ◌◂◌, Joined, Lined}
use Rattle.caf_tree.specs.Said.{SaidLine}
use Rattle.caf_printer.proofs.Printable.{Said, whats, Printable, Fine, Each, each_append}
use Rattle.caf_printer.proofs.Told as t
use Rattle.caf_printer.proofs.Told.{Told, Marked}
use Rattle.caf_printer.proofs.Rows.{IsLine, ended_row}

-- What is spelled at all is spelled by the tokens that `said` says, up to what `kept` keeps, and where the tokens that
-- spell it are fine, `ok` holds.
pub record Shows {A B : Type 0} (kept : A → B) (P : A → List Token → List Token → Type 0) (said : A → Said) (ok : A → Type 0) : Type 0 where
  pub again : (a : A) (ts rest : List Token) → P a ts rest → (front end : List Token) → whats front ≡ said a → (b : A) × (kept b ≡ kept a) × P b (front ++ end) end
  pub fine : (a : A) (ts rest : List Token) → P a ts rest → Each Fine (whats ts) → ok a × Each Fine (whats rest)

pub record Stands (D : Unit {0} → List Token → List Token → Type 0) (d : Said) : Type 0 where
  pub made : (front end : List Token) → whats front ≡ d → D tt (front ++ end) end
  pub past : (ts rest : List Token) → D tt ts rest → Each Fine (whats ts) → Each Fine (whats rest)

pub stands_marked : {D : Unit {0} → List Token → List Token → Type 0} {d : Said} → Marked D d → Stands D d
stands_marked m = record { made = m.made; past = m.past }

pub stands_end : Stands End (what.End ∷ [])
stands_end = record { made = λ front end h. t.takes front end what.End h; past = λ ts rest m e. (t.taken what.End ts rest m e).1 }

pub stands_word : (w : Word) → Stands (Word' w) (what.Word w ∷ [])
stands_word w = stands_marked (t.marked_word w)

-- the two words are printed
pub stands_joined : (first second together : Word) → Stands (Joined first second together) (what.Word first ∷ what.Word second ∷ [])
stands_joined first second together = record { made = made; past = past }
  where
    made : (front end : List Token) → whats front ≡ what.Word first ∷ what.Word second ∷ [] → Joined first second together tt (front ++ end) end
    made front end h = let (g, m, k) = t.head front (what.Word first) (what.Word second ∷ []) end h in inl (g ++ end, m, t.takes g end (what.Word second) k)

    past : (ts rest : List Token) → Joined first second together tt ts rest → Each Fine (whats ts) → Each Fine (whats rest)
    past ts rest (inl m) e = (t.taken (what.Word second) m.0 rest m.2 (t.taken (what.Word first) ts m.0 m.1 e).1).1
    past ts rest (inr m) e = (t.taken (what.Word together) ts rest m e).1

-- ---- forms

pub shows_told : {A : Type 0} (P : A → List Token → List Token → Type 0) (p : A → Said) → Told P p → Shows (λ (a : A). a) P p (λ a. Each Printable (p a))
shows_told P p h = record { again = λ a ts rest m front end s. (a, refl, h.again a ts rest m front end s); fine = h.fine }

pair_same : {A B : Type 0} (x y : A) (z w : B) → x ≡ y → z ≡ w → ◌≡◌ {A = A × B} (x, z) (y, w)
pair_same x y z w e f = rw (e, f) refl

pub shows_both : {A B C D : Type 0} (u : A → C) (v : B → D) (P : A → List Token → List Token → Type 0) (Q : B → List Token → List Token → Type 0) (p : A → Said) (q : B → Said) (f : A → Type 0) (g : B → Type 0)
    → Shows u P p f → Shows v Q q g → Shows {B = C × D} (λ (c : A × B). (u c.0, v c.1)) (Both P Q) (λ c. p c.0 ++ q c.1) (λ c. f c.0 × g c.1)
shows_both u v P Q p q f g h k = record {
  again = λ c ts rest m front end s.
      let (x, y, a, b, d) = t.split front (p c.0) (q c.1) s in
      let one = h.again c.0 ts m.0 m.1 x (y ++ end) b in
      let two = k.again c.1 m.0 rest m.2 y end d in
      ((one.0, two.0), pair_same (u one.0) (u c.0) (v two.0) (v c.1) one.1 two.1, (y ++ end, t.joined P one.0 front x y end a one.2, two.2));
  fine = λ c ts rest m e.
      let one = h.fine c.0 ts m.0 m.1 e in
      let two = k.fine c.1 m.0 rest m.2 one.1 in
      ((one.0, two.0), two.1);
}

pub shows_before : {A C : Type 0} (u : A → C) (D : Unit {0} → List Token → List Token → Type 0) (P : A → List Token → List Token → Type 0) (d : Said) (p : A → Said) (f : A → Type 0)
    → Stands D d → Shows u P p f → Shows u (D ▸ P) (λ a. d ++ p a) f
shows_before u D P d p f h k = record {
  again = λ c ts rest m front end s.
      let (x, y, a, b, n) = t.split front d (p c) s in
      let one = k.again c m.0 rest m.2 y end n in
      (one.0, one.1, (y ++ end, t.joined D tt front x y end a (h.made x (y ++ end) b), one.2));
  fine = λ c ts rest m e. k.fine c m.0 rest m.2 (h.past ts m.0 m.1 e);
}

pub shows_after : {A C : Type 0} (u : A → C) (P : A → List Token → List Token → Type 0) (D : Unit {0} → List Token → List Token → Type 0) (p : A → Said) (d : Said) (f : A → Type 0)
    → Shows u P p f → Stands D d → Shows u (P ◂ D) (λ a. p a ++ d) f
shows_after u P D p d f h k = record {
  again = λ c ts rest m front end s.
      let (x, y, a, b, n) = t.split front (p c) d s in
      let one = h.again c ts m.0 m.1 x (y ++ end) b in
      (one.0, one.1, (y ++ end, t.joined P one.0 front x y end a one.2, k.made y end n));
  fine = λ c ts rest m e.
      let one = h.fine c ts m.0 m.1 e in
      (one.0, k.past m.0 rest m.2 one.1);
}

pub shows_made : {A B C D : Type 0} (g : A → B) (u : A → C) (v : B → D) (P : A → List Token → List Token → Type 0) (p : A → Said) (q : B → Said) (f : A → Type 0) (ok : B → Type 0)
    → Shows u P p f → ((a : A) → q (g a) ≡ p a) → ((a b : A) → u b ≡ u a → v (g b) ≡ v (g a)) → ((a : A) → f a → ok (g a)) → Shows v (Made g P) q ok
shows_made g u v P p q f ok h said up good = record {
  again = λ b ts rest m front end s.
      let one = h.again m.0 ts rest m.2 front end (s ∙ ap q m.1 ∙ said m.0) in
      (g one.0, up m.0 one.0 one.1 ∙ ap v (sym m.1), (one.0, refl, one.2));
  fine = λ b ts rest m e.
      let one = h.fine m.0 ts rest m.2 e in
      (subst ok (sym m.1) (good m.0 one.0), one.1);
}

-- something is said
abbrev pub IsSome : Said → Type 0
IsSome [] = ⊥
IsSome (w ∷ ws) = Unit {0}

pub shows_lined : {A C : Type 0} (u : A → C) (P : A → List Token → List Token → Type 0) (p : A → Said) (f : A → Type 0)
    → Shows u P p f → ((a : A) → IsSome (p a)) → Shows (λ (c : ℕ × A). u c.1) (Lined P) (λ c. p c.1) (λ c. f c.1)
shows_lined {A = A} u P p f h some = record { again = again; fine = fine }
  where
    nothing_said : (a : A) → [] ≡ p a → ⊥
    nothing_said a s = subst IsSome (sym s) (some a)

    again : (c : ℕ × A) (ts rest : List Token) → Lined P c ts rest → (front end : List Token) → whats front ≡ p c.1 → (b : ℕ × A) × (u b.1 ≡ u c.1) × Lined P b (front ++ end) end
    again c [] rest m front end s = absurd m
    again c (t ∷ ts) rest m [] end s = absurd (nothing_said c.1 s)
    again c (t ∷ ts) rest m (t' ∷ front) end s =
        let one = h.again c.1 (t ∷ ts) rest m.1 (t' ∷ front) end s in
        ((t'.line, one.0), one.1, (refl, one.2))

    fine : (c : ℕ × A) (ts rest : List Token) → Lined P c ts rest → Each Fine (whats ts) → f c.1 × Each Fine (whats rest)
    fine c [] rest m e = absurd m
    fine c (t ∷ ts) rest m e = h.fine c.1 (t ∷ ts) rest m.1 e

list_same : {C : Type 0} (x y : C) (xs ys : List C) → x ≡ y → xs ≡ ys → x ∷ xs ≡ y ∷ ys
list_same x y xs ys e f = rw (e, f) refl

pub shows_many : {A C : Type 0} (u : A → C) (P : A → List Token → List Token → Type 0) (p : A → Said) (f : A → Type 0) → Shows u P p f → Shows (map u) (Many P) (flat_map p) (Each f)
shows_many {A = A} u P p f h = record { again = again; fine = fine }
  where
    again : (c : List A) (ts rest : List Token) → Many P c ts rest → (front end : List Token) → whats front ≡ flat_map p c → (b : List A) × (map u b ≡ map u c) × Many P b (front ++ end) end
    again [] ts rest m front end s = ([], refl, t.nothing front end s)
    again (a ∷ c) ts rest m front end s =
        let (x, y, e, b, d) = t.split front (p a) (flat_map p c) s in
        let one = h.again a ts m.0 m.1 x (y ++ end) b in
        let two = again c m.0 rest m.2 y end d in
        (one.0 ∷ two.0, list_same (u one.0) (u a) (map u two.0) (map u c) one.1 two.1, (y ++ end, t.joined P one.0 front x y end e one.2, two.2))

    fine : (c : List A) (ts rest : List Token) → Many P c ts rest → Each Fine (whats ts) → Each f c × Each Fine (whats rest)
    fine [] ts rest m e = (tt, subst (λ us. Each Fine (whats us)) m e)
    fine (a ∷ c) ts rest m e =
        let one = h.fine a ts m.0 m.1 e in
        let two = fine c m.0 rest m.2 one.1 in
        ((one.0, two.0), two.1)

-- ---- lines

abbrev pub row_tokens : List SaidLine → Said
row_tokens ls = flat_map ended_row ls

pub rows_append : (xs ys : List SaidLine) → row_tokens (xs ++ ys) ≡ row_tokens xs ++ row_tokens ys
rows_append [] ys = refl
rows_append (l ∷ xs) ys = ap (λ us. ended_row l ++ us) (rows_append xs ys) ∙ sym (append_assoc (ended_row l) (row_tokens xs) (row_tokens ys))

pub rows_flat : {A : Type 0} (f : A → List SaidLine) (xs : List A) → row_tokens (flat_map f xs) ≡ flat_map (λ x. row_tokens (f x)) xs
rows_flat f [] = refl
rows_flat f (x ∷ xs) = rows_append (f x) (flat_map f xs) ∙ ap (λ us. row_tokens (f x) ++ us) (rows_flat f xs)

pub each_flat : {A : Type 0} (f : A → List SaidLine) (xs : List A) → Each (λ x. Each IsLine (f x)) xs → Each IsLine (flat_map f xs)
each_flat f [] h = tt
each_flat f (x ∷ xs) h = each_append IsLine (f x) (flat_map f xs) h.0 (each_flat f xs h.1)
