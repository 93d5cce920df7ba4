-- When a reader reads a form, and that it still does where readers are put together.
use Rattle.std.proofs.Common.{◌≡◌, ℕ, ◌≤◌, Bool, true, false, cond, List, [], ◌∷◌, length, Ok, Err, ◌⊎◌, inl, inr, refl, ap, sym, subst, arith}
use Rattle.caf_lexer.specs.declared.token.Token.{Token}
use Rattle.caf_lexer.specs.declared.token.What.{What}
use Rattle.caf_tree.specs.Forms.{◌⨟◌, Both, Made, Either, ◌▸◌, ◌◂◌}
use Rattle.caf_exprparse.specs.Ends.{Stops, opened}
use Rattle.caf_exprparse.specs.Reading.{Syntax, Deep, Outcome, Reader, and_then, ◌>>=◌, pure, both, make, lead, trail}
use Rattle.caf_exprparse.proofs.Eats.{Eats, eats_more, eats_opened, eats_wider, opened_wider}

-- How an outcome stands to a value that is spelled here, and ends before these tokens. What is read is as long. It is
-- this value where the form can't go on. A refusal for the depth comes only where the value needs more levels than the
-- reader has (G says that it doesn't) or the form could go on.
abbrev pub Fits : {A : Type 0} → Type 0 → (What → Bool) → A → List Token → Outcome A → Type 0
Fits G S a rest (Ok p) = (length p.1 ≤ length rest) × (Stops S rest → (p.0 ≡ a) × (p.1 ≡ rest))
Fits G S a rest (Err Deep) = G → Stops S rest → ⊥
Fits G S a rest (Err Syntax) = ⊥

-- What is read is spelled in P. What is spelled in Q is read, as `Fits` says. Only tokens of T are taken, and where the
-- depth is refused tokens ahead open at least n levels.
pub record Good {A : Type 0} (T : What → Bool) (W : What → ℕ) (G : Type 0) (n : ℕ) (S : What → Bool) (P Q : A → List Token → List Token → Type 0) (p : Reader A) : Type 0 where
  pub sound : (ts : List Token) (a : A) (rest : List Token) → p ts ≡ Ok (a, rest) → P a ts rest
  pub fits : (a : A) (ts rest : List Token) → Q a ts rest → Fits G S a rest (p ts)
  pub eats : (ts : List Token) (a : A) (rest : List Token) → p ts ≡ Ok (a, rest) → Eats T ts rest
  pub digs : (ts : List Token) → p ts ≡ Err Deep → n ≤ opened T W ts

-- ---- outcomes

pub bind_ok : {A B : Type 0} (r : Outcome A) (f : A → Reader B) (b : B) (rest : List Token) → and_then r f ≡ Ok (b, rest)
    → (a : A) × (mid : List Token) × (r ≡ Ok (a, mid)) × (f a mid ≡ Ok (b, rest))
bind_ok (Ok p) f b rest e = (p.0, p.1, refl, e)
bind_ok (Err x) f b rest e = absurd (let no : Err x ≡ Ok (b, rest) = e in cc)

pub bind_deep : {A B : Type 0} (r : Outcome A) (f : A → Reader B) → and_then r f ≡ Err Deep
    → (r ≡ Err Deep) ⊎ ((a : A) × (mid : List Token) × (r ≡ Ok (a, mid)) × (f a mid ≡ Err Deep))
bind_deep (Ok p) f e = inr (p.0, p.1, refl, e)
bind_deep {A} {B} (Err x) f e = inl (let k : ◌≡◌ {A = Outcome B} (Err x) (Err Deep) = e in let l : x ≡ Deep = cc in ap Err l)

pub ok_not_deep : {A : Type 0} (p : A × List Token) → ◌≡◌ {A = Outcome A} (Ok p) (Err Deep) → ⊥
ok_not_deep p e = cc

pub make_deep : {A B : Type 0} (f : A → B) (r : Outcome A) → and_then r (λ a. pure (f a)) ≡ Err Deep → r ≡ Err Deep
make_deep f (Ok p) e = absurd (ok_not_deep (f p.0, p.1) e)
make_deep f (Err Deep) e = refl
make_deep {A} {B} f (Err Syntax) e = absurd (let no : ◌≡◌ {A = Outcome B} (Err Syntax) (Err Deep) = e in cc)

ok_one : {A : Type 0} {x y : A × List Token} → ◌≡◌ {A = Outcome A} (Ok x) (Ok y) → x ≡ y
ok_one e = cc

pub same_pair : {A : Type 0} {a b : A} {ts us : List Token} → ◌≡◌ {A = Outcome A} (Ok (a, ts)) (Ok (b, us)) → (a ≡ b) × (ts ≡ us)
same_pair {A} {a} {b} {ts} {us} e =
    let k : ◌≡◌ {A = A × List Token} (a, ts) (b, us) = ok_one e in
    (ap (λ (p : A × List Token). p.0) k, ap (λ (p : A × List Token). p.1) k)

-- ---- one after the other

pub made_fits : {A B : Type 0} (G : Type 0) (S : What → Bool) (f : A → B) (a : A) (rest : List Token) (r : Outcome A) → Fits G S a rest r → Fits G S (f a) rest (and_then r (λ x. pure (f x)))
made_fits G S f a rest (Ok p) h = (h.0, λ s. let k = h.1 s in (ap f k.0, k.1))
made_fits G S f a rest (Err Deep) h = h
made_fits G S f a rest (Err Syntax) h = absurd h

pub bind_fits : {A B : Type 0} (G : Type 0) (Sp S : What → Bool) (f : A → Reader B) (a : A) (b : B) (mid rest : List Token) (r : Outcome A)
    → Fits G Sp a mid r → Stops Sp mid → Fits G S b rest (f a mid) → Fits G S b rest (and_then r f)
bind_fits G Sp S f a b mid rest (Ok p) h s k =
    let e = h.1 s in
    subst (λ x. Fits G S b rest (f x p.1)) (sym e.0) (subst (λ m. Fits G S b rest (f a m)) (sym e.1) k)
bind_fits G Sp S f a b mid rest (Err Deep) h s k = λ g t. h g s
bind_fits G Sp S f a b mid rest (Err Syntax) h s k = absurd h

pub good_made : {A B : Type 0} {T : What → Bool} {W : What → ℕ} {G : Type 0} {n : ℕ} (S : What → Bool) (f : A → B) (P Q : A → List Token → List Token → Type 0) (p : Reader A)
    → Good T W G n S P Q p → Good T W G n S (Made f P) (Made f Q) (make f p)
good_made {A} {B} {T} {W} {G} {n} S f P Q p g = record {
  sound = λ ts b rest e. let (a, mid, x, y) = bind_ok (p ts) _ b rest e in let k = same_pair y in (a, sym k.0, subst (λ r. P a ts r) k.1 (g.sound ts a mid x));
  fits = λ b ts rest h. subst (λ v. Fits G S v rest (make f p ts)) (sym h.1) (made_fits G S f h.0 rest (p ts) (g.fits h.0 ts rest h.2));
  eats = λ ts b rest e. let (a, mid, x, y) = bind_ok (p ts) _ b rest e in let k = same_pair y in subst (Eats T ts) k.1 (g.eats ts a mid x);
  digs = λ ts e. g.digs ts (make_deep f (p ts) e);
}

-- where what comes behind is told more narrowly
pub good_narrow : {A : Type 0} {T : What → Bool} {W : What → ℕ} {G : Type 0} {n : ℕ} (R S : What → Bool) → ((w : What) → S w ≡ true → R w ≡ true) → (P Q : A → List Token → List Token → Type 0) (p : Reader A)
    → Good T W G n R P Q p → Good T W G n S P Q p
good_narrow {A} {T} {W} {G} {n} R S h P Q p g = record {
  sound = g.sound;
  fits = λ a ts rest m. narrow_fits a rest (p ts) (g.fits a ts rest m);
  eats = g.eats;
  digs = g.digs;
}
  where
    stops : (ts : List Token) → Stops S ts → Stops R ts
    stops [] s = tt
    stops (t ∷ ts) s = h t.what s

    narrow_fits : (a : A) (rest : List Token) (r : Outcome A) → Fits G R a rest r → Fits G S a rest r
    narrow_fits a rest (Ok c) f = (f.0, λ s. f.1 (stops rest s))
    narrow_fits a rest (Err Deep) f = λ g s. f g (stops rest s)
    narrow_fits a rest (Err Syntax) f = f

-- a value, and then a mark that depends on it
pub good_closed : {A : Type 0} {T : What → Bool} {W : What → ℕ} {G : Type 0} {n : ℕ} (Sp S : What → Bool) (P Q : A → List Token → List Token → Type 0) (D : A → Unit {0} → List Token → List Token → Type 0)
    (p : Reader A) (d : A → Reader (Unit {0})) → Good T W G n Sp P Q p → ((a : A) → Good T W G n S (D a) (D a) (d a)) → ((a : A) (mid rest : List Token) → D a tt mid rest → Stops Sp mid)
    → Good T W G n S (λ a ts rest. (P a ⨟ D a tt) ts rest) (λ a ts rest. (Q a ⨟ D a tt) ts rest) (p >>= (λ a. d a >>= (λ _. pure a)))
good_closed {A} {T} {W} {G} {n} Sp S P Q D p d g h stops = record {
  sound = λ ts a rest e.
      let (x, mid, u, v) = bind_ok (p ts) _ a rest e in
      let (y, end, c, w) = bind_ok (d x mid) _ a rest v in
      let k = same_pair w in
      (mid, subst (λ z. P z ts mid) k.0 (g.sound ts x mid u), subst (λ z. D z tt mid rest) k.0 (subst (D x tt mid) k.1 ((h x).sound mid y end c)));
  fits = λ a ts rest m. bind_fits G Sp S (λ x. d x >>= (λ _. pure x)) a a m.0 rest (p ts) (g.fits a ts m.0 m.1) (stops a m.0 rest m.2)
      (made_fits G S (λ _. a) tt rest (d a m.0) ((h a).fits tt m.0 rest m.2));
  eats = λ ts a rest e.
      let (x, mid, u, v) = bind_ok (p ts) _ a rest e in
      let (y, end, c, w) = bind_ok (d x mid) _ a rest v in
      let k = same_pair w in
      subst (Eats T ts) k.1 (eats_more T ts mid end (g.eats ts x mid u) ((h x).eats mid y end c));
  digs = digs;
}
  where
    digs : (ts : List Token) → (p >>= (λ a. d a >>= (λ _. pure a))) ts ≡ Err Deep → n ≤ opened T W ts
    digs ts e = go (bind_deep (p ts) _ e)
      where
        go : (p ts ≡ Err Deep) ⊎ ((a : A) × (mid : List Token) × (p ts ≡ Ok (a, mid)) × (and_then (d a mid) (λ u. pure a) ≡ Err Deep)) → n ≤ opened T W ts
        go (inl x) = g.digs ts x
        go (inr (a, mid, x, y)) =
            let k : n ≤ opened T W mid = (h a).digs mid (make_deep (λ _. a) (d a mid) y) in
            let l : opened T W mid ≤ opened T W ts = eats_opened T W ts mid (g.eats ts a mid x) in
            omega arith

-- what is spelled in forms that say the same
pub good_same : {A : Type 0} {T : What → Bool} {W : What → ℕ} {G : Type 0} {n : ℕ} (S : What → Bool) (P Q U V : A → List Token → List Token → Type 0) (p : Reader A)
    → ((a : A) (ts rest : List Token) → P a ts rest → U a ts rest) → ((a : A) (ts rest : List Token) → V a ts rest → Q a ts rest)
    → Good T W G n S P Q p → Good T W G n S U V p
good_same S P Q U V p h k g = record {
  sound = λ ts a rest e. h a ts rest (g.sound ts a rest e);
  fits = λ a ts rest m. g.fits a ts rest (k a ts rest m);
  eats = g.eats;
  digs = g.digs;
}

-- where more tokens may be taken, and each opens as much at least
pub good_wider : {A : Type 0} {G : Type 0} {n : ℕ} (T U : What → Bool) (V W : What → ℕ) → ((w : What) → T w ≡ true → U w ≡ true) → ((w : What) → V w ≤ W w)
    → (S : What → Bool) (P Q : A → List Token → List Token → Type 0) (p : Reader A) → Good T V G n S P Q p → Good U W G n S P Q p
good_wider {A} {G} {n} T U V W h k S P Q p g = record {
  sound = g.sound;
  fits = g.fits;
  eats = λ ts a rest e. eats_wider T U h ts rest (g.eats ts a rest e);
  digs = λ ts e.
      let a : n ≤ opened T V ts = g.digs ts e in
      let b : opened T V ts ≤ opened U W ts = opened_wider T U V W h k ts in
      omega arith;
}

module _ {A B : Type 0} (T : What → Bool) (W : What → ℕ) (n : ℕ) (p : Reader A) (q : Reader B)
    (pe : (ts : List Token) (a : A) (rest : List Token) → p ts ≡ Ok (a, rest) → Eats T ts rest)
    (pd : (ts : List Token) → p ts ≡ Err Deep → n ≤ opened T W ts)
    (qd : (ts : List Token) → q ts ≡ Err Deep → n ≤ opened T W ts) where
  -- a refusal of the second for the depth
  pub digs_on : (ts : List Token) (a : A) (mid : List Token) → p ts ≡ Ok (a, mid) → q mid ≡ Err Deep → n ≤ opened T W ts
  digs_on ts a mid x y =
      let k : n ≤ opened T W mid = qd mid y in
      let l : opened T W mid ≤ opened T W ts = eats_opened T W ts mid (pe ts a mid x) in
      omega arith

  pub digs_both : (ts : List Token) → both p q ts ≡ Err Deep → n ≤ opened T W ts
  digs_both ts e = go (bind_deep (p ts) _ e)
    where
      go : (p ts ≡ Err Deep) ⊎ ((a : A) × (mid : List Token) × (p ts ≡ Ok (a, mid)) × (and_then {B = A × B} (q mid) (λ b. pure (a, b)) ≡ Err Deep)) → n ≤ opened T W ts
      go (inl x) = pd ts x
      go (inr (a, mid, x, y)) = digs_on ts a mid x (make_deep (λ b. (a, b)) (q mid) y)

pub eats_both : {A B : Type 0} {T : What → Bool} (p : Reader A) (q : Reader B)
    → ((ts : List Token) (a : A) (rest : List Token) → p ts ≡ Ok (a, rest) → Eats T ts rest) → ((ts : List Token) (b : B) (rest : List Token) → q ts ≡ Ok (b, rest) → Eats T ts rest)
    → (ts : List Token) (c : A × B) (rest : List Token) → both p q ts ≡ Ok (c, rest) → Eats T ts rest
eats_both {A} {B} {T} p q pe qe ts c rest e =
    let (a, mid, x, y) = bind_ok (p ts) _ c rest e in
    let (b, end, u, v) = bind_ok (q mid) _ c rest y in
    let k = same_pair v in
    subst (Eats T ts) k.1 (eats_more T ts mid end (pe ts a mid x) (qe mid b end u))

pub sound_both : {A B : Type 0} (P : A → List Token → List Token → Type 0) (U : B → List Token → List Token → Type 0) (p : Reader A) (q : Reader B)
    → ((ts : List Token) (a : A) (rest : List Token) → p ts ≡ Ok (a, rest) → P a ts rest) → ((ts : List Token) (b : B) (rest : List Token) → q ts ≡ Ok (b, rest) → U b ts rest)
    → (ts : List Token) (c : A × B) (rest : List Token) → both p q ts ≡ Ok (c, rest) → Both P U c ts rest
sound_both P U p q ps qs ts c rest e =
    let (a, mid, x, y) = bind_ok (p ts) _ c rest e in
    let (b, end, u, v) = bind_ok (q mid) _ c rest y in
    let k = same_pair v in
    subst (λ c. Both P U c ts rest) k.0 (mid, ps ts a mid x, qs mid b rest (subst (λ r. q mid ≡ Ok (b, r)) k.1 u))

pub good_both : {A B : Type 0} {T : What → Bool} {W : What → ℕ} {G : Type 0} {n : ℕ} (Sp S : What → Bool) (P Q : A → List Token → List Token → Type 0) (U V : B → List Token → List Token → Type 0)
    (p : Reader A) (q : Reader B) → Good T W G n Sp P Q p → Good T W G n S U V q → ((b : B) (mid rest : List Token) → V b mid rest → Stops Sp mid) → Good T W G n S (Both P U) (Both Q V) (both p q)
good_both {A} {B} {T} {W} {G} {n} Sp S P Q U V p q g h stops = record {
  sound = sound_both P U p q g.sound h.sound;
  fits = λ c ts rest m. bind_fits G Sp S (λ a. q >>= (λ b. pure (a, b))) c.0 c m.0 rest (p ts) (g.fits c.0 ts m.0 m.1) (stops c.1 m.0 rest m.2)
      (made_fits G S (λ b. (c.0, b)) c.1 rest (q m.0) (h.fits c.1 m.0 rest m.2));
  eats = eats_both p q g.eats h.eats;
  digs = digs_both T W n p q g.eats g.digs h.digs;
}

-- a mark, and then a value
pub good_lead : {A : Type 0} {T : What → Bool} {W : What → ℕ} {G : Type 0} {n : ℕ} (Sp S : What → Bool) (C D : Unit {0} → List Token → List Token → Type 0) (P Q : A → List Token → List Token → Type 0)
    (d : Reader (Unit {0})) (p : Reader A) → Good T W G n Sp C D d → Good T W G n S P Q p → ((a : A) (mid rest : List Token) → Q a mid rest → Stops Sp mid) → Good T W G n S (C ▸ P) (D ▸ Q) (lead d p)
good_lead {A} {T} {W} {G} {n} Sp S C D P Q d p g h stops = record {
  sound = λ ts a rest e. let (u, mid, x, y) = bind_ok (d ts) _ a rest e in (mid, g.sound ts u mid x, h.sound mid a rest y);
  fits = λ a ts rest m. bind_fits G Sp S (λ _. p) tt a m.0 rest (d ts) (g.fits tt ts m.0 m.1) (stops a m.0 rest m.2) (h.fits a m.0 rest m.2);
  eats = λ ts a rest e. let (u, mid, x, y) = bind_ok (d ts) _ a rest e in eats_more T ts mid rest (g.eats ts u mid x) (h.eats mid a rest y);
  digs = digs;
}
  where
    digs : (ts : List Token) → lead d p ts ≡ Err Deep → n ≤ opened T W ts
    digs ts e = go (bind_deep (d ts) _ e)
      where
        go : (d ts ≡ Err Deep) ⊎ ((u : Unit {0}) × (mid : List Token) × (d ts ≡ Ok (u, mid)) × (p mid ≡ Err Deep)) → n ≤ opened T W ts
        go (inl x) = g.digs ts x
        go (inr (u, mid, x, y)) = digs_on T W n d p g.eats g.digs h.digs ts u mid x y

-- a value, and then a mark
pub good_trail : {A : Type 0} {T : What → Bool} {W : What → ℕ} {G : Type 0} {n : ℕ} (Sp S : What → Bool) (P Q : A → List Token → List Token → Type 0) (C D : Unit {0} → List Token → List Token → Type 0)
    (p : Reader A) (d : Reader (Unit {0})) → Good T W G n Sp P Q p → Good T W G n S C D d → ((mid rest : List Token) → D tt mid rest → Stops Sp mid) → Good T W G n S (P ◂ C) (Q ◂ D) (trail p d)
good_trail {A} {T} {W} {G} {n} Sp S P Q C D p d g h stops = record {
  sound = λ ts a rest e.
      let (x, mid, u, v) = bind_ok (p ts) _ a rest e in
      let (y, end, c, w) = bind_ok (d mid) _ a rest v in
      let k = same_pair w in
      (mid, subst (λ z. P z ts mid) k.0 (g.sound ts x mid u), subst (C tt mid) k.1 (h.sound mid y end c));
  fits = λ a ts rest m. bind_fits G Sp S (λ x. d >>= (λ _. pure x)) a a m.0 rest (p ts) (g.fits a ts m.0 m.1) (stops m.0 rest m.2)
      (made_fits G S (λ _. a) tt rest (d m.0) (h.fits tt m.0 rest m.2));
  eats = λ ts a rest e.
      let (x, mid, u, v) = bind_ok (p ts) _ a rest e in
      let (y, end, c, w) = bind_ok (d mid) _ a rest v in
      let k = same_pair w in
      subst (Eats T ts) k.1 (eats_more T ts mid end (g.eats ts x mid u) (h.eats mid y end c));
  digs = digs;
}
  where
    digs : (ts : List Token) → trail p d ts ≡ Err Deep → n ≤ opened T W ts
    digs ts e = go (bind_deep (p ts) _ e)
      where
        go : (p ts ≡ Err Deep) ⊎ ((a : A) × (mid : List Token) × (p ts ≡ Ok (a, mid)) × (and_then (d mid) (λ u. pure a) ≡ Err Deep)) → n ≤ opened T W ts
        go (inl x) = g.digs ts x
        go (inr (a, mid, x, y)) = digs_on T W n p d g.eats g.digs h.digs ts a mid x (make_deep (λ _. a) (d mid) y)

-- ---- a choice by a test

module _ {A : Type 0} {T : What → Bool} {W : What → ℕ} {G : Type 0} {n : ℕ} (S : What → Bool) (test : List Token → Bool) (P Q U V : A → List Token → List Token → Type 0) (p q : Reader A)
    (g : Good T W G n S P Q p) (h : Good T W G n S U V q)
    (is_p : (a : A) (ts rest : List Token) → Q a ts rest → test ts ≡ true) (is_q : (a : A) (ts rest : List Token) → V a ts rest → test ts ≡ false) where
  either_sound : (ts : List Token) (a : A) (rest : List Token) (b : Bool) → cond b (p ts) (q ts) ≡ Ok (a, rest) → Either P U a ts rest
  either_sound ts a rest true e = inl (g.sound ts a rest e)
  either_sound ts a rest false e = inr (h.sound ts a rest e)

  either_fits : (a : A) (ts rest : List Token) → Either Q V a ts rest → Fits G S a rest (cond (test ts) (p ts) (q ts))
  either_fits a ts rest (inl m) = subst (λ b. Fits G S a rest (cond b (p ts) (q ts))) (sym (is_p a ts rest m)) (g.fits a ts rest m)
  either_fits a ts rest (inr m) = subst (λ b. Fits G S a rest (cond b (p ts) (q ts))) (sym (is_q a ts rest m)) (h.fits a ts rest m)

  either_eats : (ts : List Token) (a : A) (rest : List Token) (b : Bool) → cond b (p ts) (q ts) ≡ Ok (a, rest) → Eats T ts rest
  either_eats ts a rest true e = g.eats ts a rest e
  either_eats ts a rest false e = h.eats ts a rest e

  either_digs : (ts : List Token) (b : Bool) → cond b (p ts) (q ts) ≡ Err Deep → n ≤ opened T W ts
  either_digs ts true e = g.digs ts e
  either_digs ts false e = h.digs ts e

  pub good_choice : Good T W G n S (Either P U) (Either Q V) (λ ts. cond (test ts) (p ts) (q ts))
  good_choice = record {
    sound = λ ts a rest. either_sound ts a rest (test ts);
    fits = either_fits;
    eats = λ ts a rest. either_eats ts a rest (test ts);
    digs = λ ts. either_digs ts (test ts);
  }
