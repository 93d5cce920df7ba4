-- Readers of one token.
use Rattle.std.proofs.Common.{◌≡◌, ℕ, ◌+◌, ◌<◌, ◌≤◌, Bool, true, false, List, [], ◌∷◌, length, Option, Some, None, Ok, Err, ◌⊎◌, inl, inr, refl, ap, sym, ◌∙◌, subst, arith}
use Rattle.std.specs.Prelude.{is_some}
use Rattle.caf_lexer.specs.declared.token.Token.{Token}
use Rattle.caf_lexer.specs.declared.token.What.{What}
use Rattle.caf_tree.specs.Forms.{Takes, Just, Token', ◌▸◌, ◌◂◌}
use Rattle.caf_exprparse.specs.Ends.{Stops, opened}
use Rattle.caf_exprparse.specs.Reading.{Syntax, Deep, Outcome, Reader, and_then, ◌>>=◌, lead, trail, ahead, picked, one, by_next}
use Rattle.caf_exprparse.proofs.Eats.{Eats, eats_one, eats_more, eats_shorter}
use Rattle.caf_exprparse.proofs.Good.{Fits, Good, bind_ok, bind_deep, ok_not_deep, same_pair, bind_fits, good_trail}
use Rattle.caf_exprparse.proofs.Lists.{Item}

-- each token passes
abbrev pub any : What → Bool
any w = true

pub any_stops : (ts : List Token) → Stops any ts
any_stops [] = tt
any_stops (t ∷ ts) = refl

picked_ok : {A : Type 0} (o : Option A) (ts : List Token) (a : A) (rest : List Token) → picked o ts ≡ Ok (a, rest) → (o ≡ Some a) × (ts ≡ rest)
picked_ok (Some x) ts a rest e = let k = same_pair e in (ap Some k.0, k.1)
picked_ok {A} None ts a rest e = absurd (let no : ◌≡◌ {A = Outcome A} (Err Syntax) (Ok (a, rest)) = e in cc)

picked_deep : {A : Type 0} (o : Option A) (ts : List Token) → picked o ts ≡ Err Deep → ⊥
picked_deep (Some x) ts e = ok_not_deep (x, ts) e
picked_deep {A} None ts e = let no : ◌≡◌ {A = Outcome A} (Err Syntax) (Err Deep) = e in cc

module _ {A : Type 0} (f : What → Option A) where
  pub one_strict : (ts : List Token) (a : A) (rest : List Token) → one f ts ≡ Ok (a, rest) → length rest < length ts
  one_strict [] a rest e = absurd (let no : ◌≡◌ {A = Outcome A} (Err Syntax) (Ok (a, rest)) = e in cc)
  one_strict (t ∷ ts) a rest e = let k = picked_ok (f t.what) ts a rest e in let l : length ts ≡ length rest = ap length k.1 in omega arith

  not_some : (o : Option A) (ts : List Token) → is_some o ≡ false → picked o ts ≡ Err Syntax
  not_some (Some a) ts e = absurd (let no : ◌≡◌ {A = Bool} true false = e in cc)
  not_some None ts e = refl

  pub one_starts : (ts : List Token) → ahead (λ w. is_some (f w)) ts ≡ false → one f ts ≡ Err Syntax
  one_starts [] e = refl
  one_starts (t ∷ ts) e = not_some (f t.what) ts e

  pub one_deep : (ts : List Token) → one f ts ≡ Err Deep → ⊥
  one_deep [] e = let no : ◌≡◌ {A = Outcome A} (Err Syntax) (Err Deep) = e in cc
  one_deep (t ∷ ts) e = picked_deep (f t.what) ts e

  module _ (T : What → Bool) (P : A → List Token → List Token → Type 0)
      (free : (w : What) (a : A) → f w ≡ Some a → T w ≡ true)
      (gives : (t : Token) (ts : List Token) (a : A) → f t.what ≡ Some a → P a (t ∷ ts) ts)
      (reads : (a : A) (ts rest : List Token) → P a ts rest → (t : Token) × (ts ≡ t ∷ rest) × (f t.what ≡ Some a)) where
    pub one_sound : (ts : List Token) (a : A) (rest : List Token) → one f ts ≡ Ok (a, rest) → P a ts rest
    one_sound [] a rest e = absurd (let no : ◌≡◌ {A = Outcome A} (Err Syntax) (Ok (a, rest)) = e in cc)
    one_sound (t ∷ ts) a rest e = let k = picked_ok (f t.what) ts a rest e in subst (P a (t ∷ ts)) k.1 (gives t ts a k.0)

    pub one_eats : (ts : List Token) (a : A) (rest : List Token) → one f ts ≡ Ok (a, rest) → Eats T ts rest
    one_eats [] a rest e = absurd (let no : ◌≡◌ {A = Outcome A} (Err Syntax) (Ok (a, rest)) = e in cc)
    one_eats (t ∷ ts) a rest e = let k = picked_ok (f t.what) ts a rest e in subst (Eats T (t ∷ ts)) k.1 (eats_one T t ts (free t.what a k.0))

    pub one_exact : (a : A) (ts rest : List Token) → P a ts rest → one f ts ≡ Ok (a, rest)
    one_exact a ts rest m = let k = reads a ts rest m in ap (one f) k.1 ∙ ap (λ o. picked o rest) k.2

    pub good_one : {W : What → ℕ} {G : Type 0} {n : ℕ} (S : What → Bool) → Good T W G n S P P (one f)
    good_one {W} {G} S = record {
      sound = one_sound;
      fits = λ a ts rest m. subst (Fits G S a rest) (sym (one_exact a ts rest m)) (omega arith, λ s. (refl, refl));
      eats = one_eats;
      digs = λ ts e. absurd (one_deep ts e);
    }

-- the token of a value
module _ {A : Type 0} (f : What → Option A) (g : A → What) (self : (a : A) → f (g a) ≡ Some a) (only : (w : What) (a : A) → f w ≡ Some a → w ≡ g a) where
  just_reads : (a : A) (ts rest : List Token) → Takes (g a) ts rest → (t : Token) × (ts ≡ t ∷ rest) × (f t.what ≡ Some a)
  just_reads a [] rest m = absurd m
  just_reads a (t ∷ ts) rest m = (t, ap (λ us. t ∷ us) m.1, ap f m.0 ∙ self a)

  just_gives : (t : Token) (ts : List Token) (a : A) → f t.what ≡ Some a → Takes (g a) (t ∷ ts) ts
  just_gives t ts a e = (only t.what a e, refl)

  pub good_just : {W : What → ℕ} {G : Type 0} {n : ℕ} (T : What → Bool) → ((a : A) → T (g a) ≡ true) → (S : What → Bool) → Good T W G n S (Just g) (Just g) (one f)
  good_just T free S = good_one f T (Just g) (λ w a e. ap T (only w a e) ∙ free a) just_gives just_reads S

pub starts_bind : {A B : Type 0} (f : What → Option A) (k : A → Reader B) (ts : List Token) → ahead (λ w. is_some (f w)) ts ≡ false → (one f >>= k) ts ≡ Err Syntax
starts_bind f k ts e = ap (λ r. and_then r k) (one_starts f ts e)

pub strict_bind : {A B : Type 0} (T : What → Bool) (f : What → Option A) (k : A → Reader B) → ((a : A) (ts : List Token) (b : B) (rest : List Token) → k a ts ≡ Ok (b, rest) → Eats T ts rest)
    → (ts : List Token) (b : B) (rest : List Token) → (one f >>= k) ts ≡ Ok (b, rest) → length rest < length ts
strict_bind T f k short ts b rest e =
    let (a, mid, x, y) = bind_ok (one f ts) k b rest e in
    let l : length mid < length ts = one_strict f ts a mid x in
    let m : length rest ≤ length mid = eats_shorter T mid rest (short a mid b rest y) in
    omega arith

-- one token, which is told by its test
pub record Is (f : What → Option (Unit {0})) (w : What) : Type 0 where
  pub self : f w ≡ Some tt
  pub only : (v : What) → f v ≡ Some tt → v ≡ w

deep_behind : (T : What → Bool) (W : What → ℕ) (w : What) (k n : ℕ) → T w ≡ true → k ≤ W w + n → (ts mid : List Token) → Takes w ts mid → n ≤ opened T W mid → k ≤ opened T W ts
deep_behind T W w k n free le [] mid m h = absurd m
deep_behind T W w k n free le (t ∷ ts) mid m h =
    let e : opened T W ts ≡ opened T W mid = ap (opened T W) m.1 in
    let v : W t.what ≡ W w = ap W m.0 in
    let f : T t.what ≡ true = ap T m.0 ∙ free in
    rw f (omega arith)

module _ (f : What → Option (Unit {0})) (w : What) (is : Is f w) where
  unit_only : (v : What) (a : Unit {0}) → f v ≡ Some a → v ≡ w
  unit_only v a e = is.only v e

  -- the token alone
  pub good_is : {W : What → ℕ} {G : Type 0} {n : ℕ} (T : What → Bool) → T w ≡ true → (S : What → Bool) → Good T W G n S (Token' w) (Token' w) (one f)
  good_is T free S = good_just f (λ _. w) (λ a. is.self) unit_only T (λ a. free) S

  -- The token, and then a value. Where it opens a level, so many more are told ahead.
  pub good_before : {A : Type 0} {W : What → ℕ} {G : Type 0} {n : ℕ} (T : What → Bool) → T w ≡ true → (k : ℕ) → k ≤ W w + n → (S : What → Bool) (P Q : A → List Token → List Token → Type 0) (p : Reader A)
      → Good T W G n S P Q p → Good T W G k S (Token' w ▸ P) (Token' w ▸ Q) (lead (one f) p)
  good_before {A} {W} {G} {n} T free k le S P Q p g = record {
    sound = λ ts a rest e. let (u, mid, x, y) = bind_ok (one f ts) _ a rest e in (mid, token.sound ts u mid x, g.sound mid a rest y);
    fits = λ a ts rest m. bind_fits G any S (λ _. p) tt a m.0 rest (one f ts) (token.fits tt ts m.0 m.1) (any_stops m.0) (g.fits a m.0 rest m.2);
    eats = λ ts a rest e. let (u, mid, x, y) = bind_ok (one f ts) _ a rest e in eats_more T ts mid rest (token.eats ts u mid x) (g.eats mid a rest y);
    digs = digs;
  }
    where
      token : Good T W G n any (Token' w) (Token' w) (one f)
      token = good_is {W = W} {G = G} {n = n} T free any

      digs : (ts : List Token) → lead (one f) p ts ≡ Err Deep → k ≤ opened T W ts
      digs ts e = go (bind_deep (one f ts) _ e)
        where
          go : (one f ts ≡ Err Deep) ⊎ ((u : Unit {0}) × (mid : List Token) × (one f ts ≡ Ok (u, mid)) × (p mid ≡ Err Deep)) → k ≤ opened T W ts
          go (inl x) = absurd (one_deep f ts x)
          go (inr (u, mid, x, y)) = deep_behind T W w k n free le ts mid (token.sound ts u mid x) (g.digs mid y)

  pub takes_stops : (S : What → Bool) → S w ≡ true → (ts rest : List Token) → Takes w ts rest → Stops S ts
  takes_stops S s [] rest m = tt
  takes_stops S s (t ∷ ts) rest m = ap S m.0 ∙ s

  -- a value, and then the token
  pub good_after : {A : Type 0} {W : What → ℕ} {G : Type 0} {n : ℕ} (T : What → Bool) → T w ≡ true → (Sp S : What → Bool) → Sp w ≡ true → (P Q : A → List Token → List Token → Type 0) (p : Reader A)
      → Good T W G n Sp P Q p → Good T W G n S (P ◂ Token' w) (Q ◂ Token' w) (trail p (one f))
  good_after T free Sp S s P Q p g = good_trail Sp S P Q (Token' w) (Token' w) p (one f) g (good_is T free S) (λ mid rest m. takes_stops Sp s mid rest m)

  -- the test fails where S holds
  pub not_last : (S : What → Bool) → S w ≡ false → (v : What) → S v ≡ true → is_some (f v) ≡ false
  not_last S s v e = go (f v) refl
    where
      go : (o : Option (Unit {0})) → f v ≡ o → is_some (f v) ≡ false
      go None h = ap is_some h
      go (Some u) h = absurd (let no : ◌≡◌ {A = Bool} true false = sym e ∙ ap S (is.only v h) ∙ s in cc)

  pub then_next : (S : What → Bool) → S w ≡ true → (v : What) → is_some (f v) ≡ true → S v ≡ true
  then_next S s v e = go (f v) refl
    where
      go : (o : Option (Unit {0})) → f v ≡ o → S v ≡ true
      go (Some u) h = ap S (is.only v h) ∙ s
      go None h = absurd (let no : ◌≡◌ {A = Bool} false true = sym (ap is_some h) ∙ e in cc)

  pub item_before : {A : Type 0} {W : What → ℕ} {G : Type 0} {n : ℕ} (T : What → Bool) → T w ≡ true → (k : ℕ) → k ≤ W w + n → (Sp S : What → Bool) (P Q : A → List Token → List Token → Type 0) (p : Reader A) → Good T W G n Sp P Q p
      → Sp w ≡ true → S w ≡ false → ((v : What) → S v ≡ true → Sp v ≡ true) → Item T W G k Sp S (λ v. is_some (f v)) (Token' w ▸ P) (Token' w ▸ Q) (lead (one f) p)
  item_before T free k le Sp S P Q p g n l weak = record {
    good = good_before T free k le Sp P Q p g;
    starts = starts_bind f (λ _. p);
    strict = strict_bind T f (λ _. p) (λ _. g.eats);
    next = then_next Sp n;
    last = not_last S l;
    weaker = weak;
  }

-- ---- by the next token

pub next_fits_at : {A : Type 0} (G : Type 0) (S : What → Bool) (pick : What → Reader A) (w : What) (a : A) (ts rest us : List Token)
    → Takes w ts us → Fits G S a rest (pick w ts) → Fits G S a rest (by_next pick ts)
next_fits_at G S pick w a [] rest us m f = absurd m
next_fits_at G S pick w a (t ∷ ts) rest us m f = subst (λ v. Fits G S a rest (pick v (t ∷ ts))) (sym m.0) f

pub ahead_takes : (B : What → Bool) (w : What) (ts us : List Token) → B w ≡ true → Takes w ts us → ahead B ts ≡ true
ahead_takes B w [] us b m = absurd m
ahead_takes B w (t ∷ ts) us b m = ap B m.0 ∙ b

pub ahead_not : (B C : What → Bool) → ((w : What) → B w ≡ true → C w ≡ false) → (ts : List Token) → ahead B ts ≡ true → ahead C ts ≡ false
ahead_not B C f [] e = refl
ahead_not B C f (t ∷ ts) e = f t.what e
