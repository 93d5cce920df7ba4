-- What a function answers where the syntax doesn't fit, and a turn of a loop that reads one after another.
use Rattle.std.proofs.Common.{◌≡◌, ℕ, suc, ◌+◌, ◌-◌, ◌<◌, List, [], ◌∷◌, ◌++◌, Option, Some, None, Ok, Err, append_assoc, refl, ap, sym, ◌∙◌, arith}
use Rattle.std.proofs.lemmas.List.{append-nil}
use Rattle.caf_lexer.specs.declared.token.Token.{Token}
use Rattle.caf_exprparse.specs.Reading.{Refusal, Syntax, Outcome, Reader, or_nothing, many_from, more_from, onto, and_then, pure}

pub nothing_here : {A : Type 0} (r : Outcome A) (ts new : List Token) → ((x : Refusal) → Some Syntax ≡ Some x → r ≡ Err x) → new ≡ ts → or_nothing ts r ≡ Ok (None, new)
nothing_here r ts new f e = ap (or_nothing ts) (f Syntax refl) ∙ ap (λ us. Ok (None, us)) (sym e)

pub nothing_made : {A B : Type 0} (f : Option A → B) (r : Outcome A) (ts new : List Token) → ((x : Refusal) → Some Syntax ≡ Some x → r ≡ Err x) → new ≡ ts
    → and_then (or_nothing ts r) (λ o. pure (f o)) ≡ Ok (f None, new)
nothing_made f r ts new g e = ap (λ x. and_then x (λ o. pure (f o))) (nothing_here r ts new g e)

-- what comes before a list that is read
abbrev pub with_front : {A : Type 0} → List A → Outcome (List A) → Outcome (List A)
with_front front (Ok p) = Ok (front ++ p.0, p.1)
with_front front (Err e) = Err e

one_turn : {A : Type 0} (p : Reader A) (found : List A) (n at : ℕ) (ts : List Token) (x : Outcome (List A)) → at < n → x ≡ with_front found (many_from p (n - at) ts)
    → x ≡ with_front found (more_from ts (p ts) (many_from p (n - (at + 1))))
one_turn p found n at ts x h e = let k : n - at ≡ suc (n - (at + 1)) = omega arith in e ∙ ap (λ m. with_front found (many_from p m ts)) k

pub ends_here : {A : Type 0} (p : Reader A) (found : List A) (n at : ℕ) (ts new : List Token) (x : Outcome (List A)) → at < n → x ≡ with_front found (many_from p (n - at) ts)
    → ((y : Refusal) → Some Syntax ≡ Some y → p ts ≡ Err y) → new ≡ ts → x ≡ Ok (found, new)
ends_here p found n at ts new x h e f k =
    one_turn p found n at ts x h e ∙ ap (λ r. with_front found (more_from ts r (many_from p (n - (at + 1))))) (f Syntax refl)
    ∙ ap (λ l. Ok (l, ts)) (append-nil found) ∙ ap (λ us. Ok (found, us)) (sym k)

front_onto : {A : Type 0} (found : List A) (a : A) (r : Outcome (List A)) → with_front found (onto a r) ≡ with_front (found ++ a ∷ []) r
front_onto found a (Ok p) = ap (λ l. Ok (l, p.1)) (sym (append_assoc found (a ∷ []) p.0))
front_onto found a (Err e) = refl

pub goes_on : {A : Type 0} (p : Reader A) (found more : List A) (a : A) (n at : ℕ) (ts us : List Token) (x : Outcome (List A)) → at < n → x ≡ with_front found (many_from p (n - at) ts)
    → p ts ≡ Ok (a, us) → more ≡ found ++ a ∷ [] → x ≡ with_front more (many_from p (n - (at + 1)) us)
goes_on p found more a n at ts us x h e f k =
    one_turn p found n at ts x h e ∙ ap (λ r. with_front found (more_from ts r (many_from p (n - (at + 1))))) f
    ∙ front_onto found a (many_from p (n - (at + 1)) us) ∙ ap (λ l. with_front l (many_from p (n - (at + 1)) us)) (sym k)

pub deeper : {X : Type 0} (f : ℕ → X) (n : ℕ) → 0 < n → f n ≡ f (suc (n - 1))
deeper f n some = let e : n ≡ suc (n - 1) = omega arith in ap f e
