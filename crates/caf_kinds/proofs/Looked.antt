-- What is true of all that names stand for.
use Rattle.std.proofs.Common.{◌≡◌, ◌+◌, ℕ, Bool, true, false, List, [], ◌∷◌, ◌++◌, Option, Some, None, length, suc, zero, refl, sym, subst, ap, bytes_eq, slice_get, if◌then◌else◌, arith}
use Rattle.std.proofs.lemmas.Slice.Eq.{bytes_eq-Decides}
use Rattle.caf_declare.specs.declared.symbol.Symbol.{Symbol}
use Rattle.caf_declare.specs.Table.{Name, Names, found}
use Rattle.caf_declare.specs.Names.{otherwise}

pub same_name : (a b : Name) → bytes_eq a b ≡ true → a ≡ b
same_name a b h = (bytes_eq-Decides a b).0 h

pub is_same : (a : Name) → bytes_eq a a ≡ true
is_same a = (bytes_eq-Decides a a).1 refl

pub found_more : {A : Type 0} (xs : List (Name × A)) (n : Name) (a : A) (name : Name) →
    found (xs ++ (n, a) ∷ []) name ≡ otherwise (found xs name) (if bytes_eq name n then Some a else None)
found_more [] n a name = refl
found_more (e ∷ xs) n a name = step (bytes_eq name e.0) (found_more xs n a name)
  where
    step : (b : Bool) → found (xs ++ (n, a) ∷ []) name ≡ otherwise (found xs name) (if bytes_eq name n then Some a else None) →
        (if b then Some e.1 else found (xs ++ (n, a) ∷ []) name) ≡ otherwise (if b then Some e.1 else found xs name) (if bytes_eq name n then Some a else None)
    step true more = refl
    step false more = more

-- of what stands under a name, if anything does
abbrev pub Opt : (Name → Symbol → Type 0) → Name → Option Symbol → Type 0
Opt P name None = Unit {0}
Opt P name (Some s) = P name s

abbrev pub Holds : (Name → Symbol → Type 0) → Names → Type 0
Holds P names = (name : Name) → Opt P name (found names name)

pub holds_none : (P : Name → Symbol → Type 0) → Holds P []
holds_none P name = tt

last : (P : Name → Symbol → Type 0) (n name : Name) (s : Symbol) → P n s → (b : Bool) → bytes_eq name n ≡ b → Opt P name (if b then Some s else None)
last P n name s p true e = subst (λ x. P x s) (sym (same_name name n e)) p
last P n name s p false e = tt

either : (P : Name → Symbol → Type 0) (name : Name) (o q : Option Symbol) → Opt P name o → Opt P name q → Opt P name (otherwise o q)
either P name (Some s) q h k = h
either P name None q h k = k

-- one name more
pub holds_more : (P : Name → Symbol → Type 0) (names : Names) (n : Name) (s : Symbol) → Holds P names → P n s → Holds P (names ++ (n, s) ∷ [])
holds_more P names n s all p name =
    subst (Opt P name) (sym (found_more names n s name)) (either P name (found names name) (if bytes_eq name n then Some s else None) (all name) (last P n name s p (bytes_eq name n) refl))

-- names that hide others
pub holds_looked : (P : Name → Symbol → Type 0) (own main : Names) → Holds P own → Holds P main → (name : Name) → Opt P name (otherwise (found own name) (found main name))
holds_looked P own main a b name = either P name (found own name) (found main name) (a name) (b name)

weaker : (P Q : Name → Symbol → Type 0) (name : Name) (o : Option Symbol) → ((s : Symbol) → P name s → Q name s) → Opt P name o → Opt Q name o
weaker P Q name None go h = tt
weaker P Q name (Some s) go h = go s h

pub holds_weaker : (P Q : Name → Symbol → Type 0) (names : Names) → ((name : Name) (s : Symbol) → P name s → Q name s) → Holds P names → Holds Q names
holds_weaker P Q names go all name = weaker P Q name (found names name) (go name) (all name)

-- places in lists that grow
pub get_front : {A : Type 0} (xs ys : List A) (i : ℕ) (x : A) → slice_get xs i ≡ Some x → slice_get (xs ++ ys) i ≡ Some x
get_front [] ys i x h = absurd (cc)
get_front (a ∷ xs) ys zero x h = h
get_front (a ∷ xs) ys (suc i) x h = get_front xs ys i x h

pub get_last : {A : Type 0} (xs : List A) (x : A) → slice_get (xs ++ x ∷ []) (length xs) ≡ Some x
get_last [] x = refl
get_last (a ∷ xs) x = get_last xs x

pub one_place : {A : Type 0} (xs : List A) (i : ℕ) (a b : A) → slice_get xs i ≡ Some a → slice_get xs i ≡ Some b → a ≡ b
one_place xs i a b h k = cc
