-- What may follow a form or be nothing, and what may stand any number of times.
use Rattle.std.proofs.Common.{◌≡◌, ℕ, zero, suc, ◌<◌, ◌≤◌, Bool, true, false, cond, List, [], ◌∷◌, length, Option, Some, None, Ok, Err, ◌⊎◌, inl, inr, refl, ap, sym, ◌∙◌, subst, arith}
use Rattle.caf_lexer.specs.declared.token.Token.{Token}
use Rattle.caf_lexer.specs.declared.token.What.{What}
use Rattle.caf_tree.specs.Forms.{Maybe, Many, Both, Made}
use Rattle.caf_exprparse.specs.Ends.{Stops, opened}
use Rattle.caf_exprparse.specs.Reading.{Syntax, Deep, Outcome, Reader, and_then, ◌>>=◌, pure, or_nothing, optional, onto, many_from, more_from, many, both, make, ahead, either}
use Rattle.caf_exprparse.proofs.Eats.{Eats, eats_none, eats_more, eats_shorter, eats_opened}
use Rattle.caf_exprparse.proofs.Good.{Fits, Good, bind_ok, ok_not_deep, same_pair, made_fits, bind_fits, good_made, sound_both, eats_both, digs_both}

pub stops_weaker : (S R : What → Bool) → ((w : What) → S w ≡ true → R w ≡ true) → (ts : List Token) → Stops S ts → Stops R ts
stops_weaker S R f [] s = tt
stops_weaker S R f (t ∷ ts) s = f t.what s

pub ahead_stops : (B R : What → Bool) → ((w : What) → B w ≡ true → R w ≡ true) → (ts : List Token) → ahead B ts ≡ true → Stops R ts
ahead_stops B R f [] s = tt
ahead_stops B R f (t ∷ ts) s = f t.what s

pub stops_ahead : (S B : What → Bool) → ((w : What) → S w ≡ true → B w ≡ false) → (ts : List Token) → Stops S ts → ahead B ts ≡ false
stops_ahead S B f [] s = refl
stops_ahead S B f (t ∷ ts) s = f t.what s

-- what follows a form: it is never refused for the syntax, and is nothing or begins with what the form can't go on with
pub record Tail {B : Type 0} (T : What → Bool) (W : What → ℕ) (G : Type 0) (n : ℕ) (Sp S : What → Bool) (P Q : B → List Token → List Token → Type 0) (q : Reader B) : Type 0 where
  pub good : Good T W G n S P Q q
  pub total : (ts : List Token) → q ts ≡ Err Syntax → ⊥
  pub splits : (b : B) (mid rest : List Token) → Q b mid rest → Stops Sp mid ⊎ (mid ≡ rest)
  pub weaker : (w : What) → S w ≡ true → Sp w ≡ true

module _ {A B : Type 0} (T : What → Bool) (W : What → ℕ) (G : Type 0) (n : ℕ) (Sp S : What → Bool) (P Q : A → List Token → List Token → Type 0) (U V : B → List Token → List Token → Type 0)
    (p : Reader A) (q : Reader B) (g : Good T W G n Sp P Q p) (h : Tail T W G n Sp S U V q) where
  read_on : (a x : A) (b : B) (rest more : List Token) → V b rest rest → length more ≤ length rest → (Stops Sp rest → (x ≡ a) × (more ≡ rest))
      → (r : Outcome B) → q more ≡ r → Fits {A = A × B} G S (a, b) rest (and_then r (λ y. pure (x, y)))
  read_on a x b rest more t le same (Ok c) e =
      let k : length c.1 ≤ length more = eats_shorter T more c.1 (h.good.eats more c.0 c.1 e) in (
        omega arith,
        λ s.
            let at = same (stops_weaker S Sp h.weaker rest s) in
            let f : Fits G S b rest (Ok c) = subst (Fits G S b rest) (ap q (sym at.1) ∙ e) (h.good.fits b rest rest t) in
            let i = f.1 s in
            (ap (λ u. (u, c.0)) at.0 ∙ ap (λ u. (a, u)) i.0, i.1),
      )
  read_on a x b rest more t le same (Err Syntax) e = h.total more e
  read_on a x b rest more t le same (Err Deep) e = λ reach s.
      let at = same (stops_weaker S Sp h.weaker rest s) in
      let f : Fits G S b rest (Err Deep) = subst (Fits G S b rest) (ap q (sym at.1) ∙ e) (h.good.fits b rest rest t) in
      f reach s

  after_fits : (a : A) (b : B) (rest : List Token) → V b rest rest → (r : Outcome A) → Fits G Sp a rest r → Fits {A = A × B} G S (a, b) rest (and_then r (λ x. q >>= (λ y. pure (x, y))))
  after_fits a b rest t (Ok c) f = read_on a c.0 b rest c.1 t f.0 f.1 (q c.1) refl
  after_fits a b rest t (Err Syntax) f = absurd f
  after_fits a b rest t (Err Deep) f = λ reach s. f reach (stops_weaker S Sp h.weaker rest s)

  either_way : (a : A) (b : B) (ts mid rest : List Token) → Q a ts mid → V b mid rest → Stops Sp mid ⊎ (mid ≡ rest) → Fits {A = A × B} G S (a, b) rest (both p q ts)
  either_way a b ts mid rest m t (inl s) =
      bind_fits G Sp S (λ x. q >>= (λ y. pure (x, y))) a (a, b) mid rest (p ts) (g.fits a ts mid m) s (made_fits G S (λ y. (a, y)) b rest (q mid) (h.good.fits b mid rest t))
  either_way a b ts mid rest m t (inr e) =
      after_fits a b rest (subst (λ u. V b u rest) e t) (p ts) (subst (λ u. Fits G Sp a u (p ts)) e (g.fits a ts mid m))

  pub good_then : Good T W G n S (Both P U) (Both Q V) (both p q)
  good_then = record {
    sound = sound_both P U p q g.sound h.good.sound;
    fits = λ c ts rest m. either_way c.0 c.1 ts m.0 rest m.1 m.2 (h.splits c.1 m.0 rest m.2);
    eats = eats_both p q g.eats h.good.eats;
    digs = digs_both T W n p q g.eats g.digs h.good.digs;
  }

-- What may come or not: B tells with what it begins.
pub record Start {A : Type 0} (T : What → Bool) (W : What → ℕ) (G : Type 0) (n : ℕ) (Sp S B : What → Bool) (P Q : A → List Token → List Token → Type 0) (p : Reader A) : Type 0 where
  pub good : Good T W G n Sp P Q p
  pub starts : (ts : List Token) → ahead B ts ≡ false → p ts ≡ Err Syntax
  pub strict : (ts : List Token) (a : A) (rest : List Token) → p ts ≡ Ok (a, rest) → length rest < length ts
  pub last : (w : What) → S w ≡ true → B w ≡ false
  pub weaker : (w : What) → S w ≡ true → Sp w ≡ true

-- What may come once or more, so that what comes before it can't go on with what it begins with.
pub record Item {A : Type 0} (T : What → Bool) (W : What → ℕ) (G : Type 0) (n : ℕ) (Sp S B : What → Bool) (P Q : A → List Token → List Token → Type 0) (p : Reader A) : Type 0 where
  pub good : Good T W G n Sp P Q p
  pub starts : (ts : List Token) → ahead B ts ≡ false → p ts ≡ Err Syntax
  pub strict : (ts : List Token) (a : A) (rest : List Token) → p ts ≡ Ok (a, rest) → length rest < length ts
  pub next : (w : What) → B w ≡ true → Sp w ≡ true
  pub last : (w : What) → S w ≡ true → B w ≡ false
  pub weaker : (w : What) → S w ≡ true → Sp w ≡ true

module _ {A : Type 0} (T : What → Bool) (W : What → ℕ) (G : Type 0) (m' : ℕ) (Sp S B : What → Bool) (P Q : A → List Token → List Token → Type 0) (p : Reader A) (i : Start T W G m' Sp S B P Q p) where
  pub stopped : (ts : List Token) → Stops S ts → p ts ≡ Err Syntax
  stopped ts s = i.starts ts (stops_ahead S B i.last ts s)

  begins_at : (a : A) (ts rest : List Token) → Q a ts rest → (b : Bool) → ahead B ts ≡ b → ahead B ts ≡ true
  begins_at a ts rest m true e = e
  begins_at a ts rest m false e = absurd (subst (Fits G Sp a rest) (i.starts ts e) (i.good.fits a ts rest m))

  pub begins : (a : A) (ts rest : List Token) → Q a ts rest → ahead B ts ≡ true
  begins a ts rest m = begins_at a ts rest m (ahead B ts) refl

  -- nothing is spelled here
  none_fits : (ts : List Token) (r : Outcome A) → p ts ≡ r → Fits G S None ts (or_nothing ts r)
  none_fits ts (Ok c) e =
      let k : length c.1 < length ts = i.strict ts c.0 c.1 e in
      (omega arith, λ s. absurd (let no : ◌≡◌ {A = Outcome A} (Err Syntax) (Ok c) = sym (stopped ts s) ∙ e in cc))
  none_fits ts (Err Syntax) e = (omega arith, λ s. (refl, refl))
  none_fits ts (Err Deep) e = λ reach s. let no : ◌≡◌ {A = Outcome A} (Err Syntax) (Err Deep) = sym (stopped ts s) ∙ e in cc

  some_fits : (a : A) (ts rest : List Token) (r : Outcome A) → Fits G Sp a rest r → Fits G S (Some a) rest (or_nothing ts r)
  some_fits a ts rest (Ok c) f = (f.0, λ s. let k = f.1 (stops_weaker S Sp i.weaker rest s) in (ap Some k.0, k.1))
  some_fits a ts rest (Err Syntax) f = absurd f
  some_fits a ts rest (Err Deep) f = λ reach s. f reach (stops_weaker S Sp i.weaker rest s)

  maybe_fits : (o : Option A) (ts rest : List Token) → Maybe Q o ts rest → Fits G S o rest (optional p ts)
  maybe_fits None ts rest m = subst (λ r. Fits G S None r (optional p ts)) m (none_fits ts (p ts) refl)
  maybe_fits (Some a) ts rest m = some_fits a ts rest (p ts) (i.good.fits a ts rest m)

  maybe_sound : (ts : List Token) (o : Option A) (rest : List Token) (r : Outcome A) → p ts ≡ r → or_nothing ts r ≡ Ok (o, rest) → Maybe P o ts rest
  maybe_sound ts o rest (Ok c) e f = let k = same_pair f in subst (λ o. Maybe P o ts rest) k.0 (subst (λ r. P c.0 ts r) k.1 (i.good.sound ts c.0 c.1 e))
  maybe_sound ts o rest (Err Syntax) e f = let k = same_pair f in subst (λ o. Maybe P o ts rest) k.0 k.1
  maybe_sound ts o rest (Err Deep) e f = absurd (let no : Err Deep ≡ Ok (o, rest) = f in cc)

  maybe_eats : (ts : List Token) (o : Option A) (rest : List Token) (r : Outcome A) → p ts ≡ r → or_nothing ts r ≡ Ok (o, rest) → Eats T ts rest
  maybe_eats ts o rest (Ok c) e f = let k = same_pair f in subst (Eats T ts) k.1 (i.good.eats ts c.0 c.1 e)
  maybe_eats ts o rest (Err Syntax) e f = let k = same_pair f in subst (Eats T ts) k.1 (eats_none T ts)
  maybe_eats ts o rest (Err Deep) e f = absurd (let no : Err Deep ≡ Ok (o, rest) = f in cc)

  maybe_digs : (ts : List Token) (r : Outcome A) → p ts ≡ r → or_nothing ts r ≡ Err Deep → m' ≤ opened T W ts
  maybe_digs ts (Ok c) e f = absurd (ok_not_deep (Some c.0, c.1) f)
  maybe_digs ts (Err Syntax) e f = absurd (ok_not_deep {A = Option A} (None, ts) f)
  maybe_digs ts (Err Deep) e f = i.good.digs ts e

  pub never_syntax : (ts : List Token) (r : Outcome A) → or_nothing ts r ≡ Err Syntax → ⊥
  never_syntax ts (Ok c) f = let no : ◌≡◌ {A = Outcome (Option A)} (Ok (Some c.0, c.1)) (Err Syntax) = f in cc
  never_syntax ts (Err Syntax) f = let no : ◌≡◌ {A = Outcome (Option A)} (Ok (None, ts)) (Err Syntax) = f in cc
  never_syntax ts (Err Deep) f = let no : ◌≡◌ {A = Outcome (Option A)} (Err Deep) (Err Syntax) = f in cc

  pub good_maybe : Good T W G m' S (Maybe P) (Maybe Q) (optional p)
  good_maybe = record {
    sound = λ ts o rest e. maybe_sound ts o rest (p ts) refl e;
    fits = maybe_fits;
    eats = λ ts o rest e. maybe_eats ts o rest (p ts) refl e;
    digs = λ ts e. maybe_digs ts (p ts) refl e;
  }

pub start_of : {A : Type 0} {T : What → Bool} {W : What → ℕ} {G : Type 0} {n : ℕ} {Sp S B : What → Bool} {P Q : A → List Token → List Token → Type 0} {p : Reader A} → Item T W G n Sp S B P Q p → Start T W G n Sp S B P Q p
start_of i = record { good = i.good; starts = i.starts; strict = i.strict; last = i.last; weaker = i.weaker }

module _ {A : Type 0} (T : What → Bool) (W : What → ℕ) (G : Type 0) (m' : ℕ) (Sp S B : What → Bool) (P Q : A → List Token → List Token → Type 0) (p : Reader A) (i : Item T W G m' Sp S B P Q p) where
  maybe_splits : (o : Option A) (mid rest : List Token) → Maybe Q o mid rest → Stops Sp mid ⊎ (mid ≡ rest)
  maybe_splits None mid rest m = inr m
  maybe_splits (Some a) mid rest m = inl (ahead_stops B Sp i.next mid (begins T W G m' Sp S B P Q p (start_of i) a mid rest m))

  pub tail_maybe : Tail T W G m' Sp S (Maybe P) (Maybe Q) (optional p)
  tail_maybe = record {
    good = good_maybe T W G m' Sp S B P Q p (start_of i);
    total = λ ts e. never_syntax T W G m' Sp S B P Q p (start_of i) ts (p ts) e;
    splits = maybe_splits;
    weaker = i.weaker;
  }

  -- ---- any number

  onto_ok : (a : A) (r : Outcome (List A)) (c : List A) (rest : List Token) → onto a r ≡ Ok (c, rest) → (others : List A) × (r ≡ Ok (others, rest)) × (c ≡ a ∷ others)
  onto_ok a (Ok q) c rest e = let k = same_pair e in (q.0, ap (λ r. Ok (q.0, r)) k.1, sym k.0)
  onto_ok a (Err x) c rest e = absurd (let no : ◌≡◌ {A = Outcome (List A)} (Err x) (Ok (c, rest)) = e in cc)

  onto_deep : (a : A) (r : Outcome (List A)) → onto a r ≡ Err Deep → r ≡ Err Deep
  onto_deep a (Ok q) e = absurd (ok_not_deep (a ∷ q.0, q.1) e)
  onto_deep a (Err x) e = e

  onto_fits : (a : A) (c : List A) (rest : List Token) (r : Outcome (List A)) → Fits G S c rest r → Fits G S (a ∷ c) rest (onto a r)
  onto_fits a c rest (Ok q) f = (f.0, λ s. let k = f.1 s in (ap (λ x. a ∷ x) k.0, k.1))
  onto_fits a c rest (Err Syntax) f = absurd f
  onto_fits a c rest (Err Deep) f = f

  many_stopped : (n : ℕ) (ts : List Token) → Stops S ts → many_from p n ts ≡ Ok ([], ts)
  many_stopped zero ts s = refl
  many_stopped (suc n) ts s = ap (λ r. more_from ts r (many_from p n)) (stopped T W G m' Sp S B P Q p (start_of i) ts s)

  many_eats : (n : ℕ) (ts : List Token) (c : List A) (rest : List Token) → many_from p n ts ≡ Ok (c, rest) → Eats T ts rest
  many_eats zero ts c rest e = let k = same_pair e in subst (Eats T ts) k.1 (eats_none T ts)
  many_eats (suc n) ts c rest e = at (many_eats n) (p ts) refl e
    where
      at : ((us : List Token) (c : List A) (rest : List Token) → many_from p n us ≡ Ok (c, rest) → Eats T us rest)
          → (r : Outcome A) → p ts ≡ r → more_from ts r (many_from p n) ≡ Ok (c, rest) → Eats T ts rest
      at ih (Ok x) e f =
          let (others, u, v) = onto_ok x.0 (many_from p n x.1) c rest f in
          eats_more T ts x.1 rest (i.good.eats ts x.0 x.1 e) (ih x.1 others rest u)
      at ih (Err Syntax) e f = let k = same_pair f in subst (Eats T ts) k.1 (eats_none T ts)
      at ih (Err Deep) e f = absurd (let no : ◌≡◌ {A = Outcome (List A)} (Err Deep) (Ok (c, rest)) = f in cc)

  many_shorter : (n : ℕ) (ts : List Token) (c : List A) (rest : List Token) → many_from p n ts ≡ Ok (c, rest) → length rest ≤ length ts
  many_shorter n ts c rest e = eats_shorter T ts rest (many_eats n ts c rest e)

  many_digs : (n : ℕ) (ts : List Token) → many_from p n ts ≡ Err Deep → m' ≤ opened T W ts
  many_digs zero ts e = absurd (ok_not_deep {A = List A} ([], ts) e)
  many_digs (suc n) ts e = at (many_digs n) (p ts) refl e
    where
      at : ((us : List Token) → many_from p n us ≡ Err Deep → m' ≤ opened T W us)
          → (r : Outcome A) → p ts ≡ r → more_from ts r (many_from p n) ≡ Err Deep → m' ≤ opened T W ts
      at ih (Ok x) e f =
          let k : m' ≤ opened T W x.1 = ih x.1 (onto_deep x.0 (many_from p n x.1) f) in
          let l : opened T W x.1 ≤ opened T W ts = eats_opened T W ts x.1 (i.good.eats ts x.0 x.1 e) in
          omega arith
      at ih (Err Syntax) e f = absurd (ok_not_deep {A = List A} ([], ts) f)
      at ih (Err Deep) e f = i.good.digs ts e

  onto_total : (a : A) (r : Outcome (List A)) → (r ≡ Err Syntax → ⊥) → onto a r ≡ Err Syntax → ⊥
  onto_total a (Ok c) f e = let no : ◌≡◌ {A = Outcome (List A)} (Ok (a ∷ c.0, c.1)) (Err Syntax) = e in cc
  onto_total a (Err x) f e = f e

  more_total : (ts : List Token) (r : Outcome A) (k : Reader (List A)) → ((us : List Token) → k us ≡ Err Syntax → ⊥) → more_from ts r k ≡ Err Syntax → ⊥
  more_total ts (Ok x) k f e = onto_total x.0 (k x.1) (f x.1) e
  more_total ts (Err Syntax) k f e = let no : ◌≡◌ {A = Outcome (List A)} (Ok ([], ts)) (Err Syntax) = e in cc
  more_total ts (Err Deep) k f e = let no : ◌≡◌ {A = Outcome (List A)} (Err Deep) (Err Syntax) = e in cc

  many_total : (n : ℕ) (ts : List Token) → many_from p n ts ≡ Err Syntax → ⊥
  many_total zero ts e = let no : ◌≡◌ {A = Outcome (List A)} (Ok ([], ts)) (Err Syntax) = e in cc
  many_total (suc n) ts e = more_total ts (p ts) (many_from p n) (many_total n) e

  many_sound : (n : ℕ) (ts : List Token) (c : List A) (rest : List Token) → many_from p n ts ≡ Ok (c, rest) → Many P c ts rest
  many_sound zero ts c rest e = let k = same_pair e in subst (λ c. Many P c ts rest) k.0 k.1
  many_sound (suc n) ts c rest e = at (many_sound n) (p ts) refl e
    where
      at : ((us : List Token) (c : List A) (rest : List Token) → many_from p n us ≡ Ok (c, rest) → Many P c us rest)
          → (r : Outcome A) → p ts ≡ r → more_from ts r (many_from p n) ≡ Ok (c, rest) → Many P c ts rest
      at ih (Ok x) e f =
          let (others, u, v) = onto_ok x.0 (many_from p n x.1) c rest f in
          subst (λ c. Many P c ts rest) (sym v) (x.1, i.good.sound ts x.0 x.1 e, ih x.1 others rest u)
      at ih (Err Syntax) e f = let k = same_pair f in subst (λ c. Many P c ts rest) k.0 k.1
      at ih (Err Deep) e f = absurd (let no : ◌≡◌ {A = Outcome (List A)} (Err Deep) (Ok (c, rest)) = f in cc)

  -- nothing more is spelled here
  nil_on : (ts : List Token) (x : A × List Token) (n : ℕ) → p ts ≡ Ok x → (r : Outcome (List A)) → many_from p n x.1 ≡ r → Fits G S [] ts (onto x.0 r)
  nil_on ts x n e (Ok c) f =
      let k : length x.1 < length ts = i.strict ts x.0 x.1 e in
      let l : length c.1 ≤ length x.1 = many_shorter n x.1 c.0 c.1 f in
      (omega arith, λ s. absurd (let no : ◌≡◌ {A = Outcome A} (Err Syntax) (Ok x) = sym (stopped T W G m' Sp S B P Q p (start_of i) ts s) ∙ e in cc))
  nil_on ts x n e (Err Syntax) f = many_total n x.1 f
  nil_on ts x n e (Err Deep) f = λ reach s. let no : ◌≡◌ {A = Outcome A} (Err Syntax) (Ok x) = sym (stopped T W G m' Sp S B P Q p (start_of i) ts s) ∙ e in cc

  nil_at : (n : ℕ) (ts : List Token) (r : Outcome A) → p ts ≡ r → Fits G S [] ts (more_from ts r (many_from p n))
  nil_at n ts (Ok x) e = nil_on ts x n e (many_from p n x.1) refl
  nil_at n ts (Err Syntax) e = (omega arith, λ s. (refl, refl))
  nil_at n ts (Err Deep) e = λ reach s. let no : ◌≡◌ {A = Outcome A} (Err Syntax) (Err Deep) = sym (stopped T W G m' Sp S B P Q p (start_of i) ts s) ∙ e in cc

  nil_fits : (n : ℕ) (ts : List Token) → Fits G S [] ts (many_from p n ts)
  nil_fits zero ts = (omega arith, λ s. (refl, refl))
  nil_fits (suc n) ts = nil_at n ts (p ts) refl

  -- after the last that is spelled
  last_on : (a b : A) (rest more : List Token) (n : ℕ) → length more ≤ length rest → (Stops Sp rest → (b ≡ a) × (more ≡ rest))
      → (r : Outcome (List A)) → many_from p n more ≡ r → Fits G S (a ∷ []) rest (onto b r)
  last_on a b rest more n le same (Ok c) f =
      let k : length c.1 ≤ length more = many_shorter n more c.0 c.1 f in (
        omega arith,
        λ s.
            let at = same (stops_weaker S Sp i.weaker rest s) in
            let g = same_pair (sym f ∙ ap (many_from p n) at.1 ∙ many_stopped n rest s) in
            (ap (λ x. x ∷ c.0) at.0 ∙ ap (λ x. a ∷ x) g.0, g.1),
      )
  last_on a b rest more n le same (Err Syntax) f = many_total n more f
  last_on a b rest more n le same (Err Deep) f = λ reach s.
      let at = same (stops_weaker S Sp i.weaker rest s) in
      let no : ◌≡◌ {A = Outcome (List A)} (Err Deep) (Ok ([], rest)) = sym f ∙ ap (many_from p n) at.1 ∙ many_stopped n rest s in
      cc

  last_at : (a : A) (ts rest : List Token) (n : ℕ) (r : Outcome A) → Fits G Sp a rest r → Fits G S (a ∷ []) rest (more_from ts r (many_from p n))
  last_at a ts rest n (Ok x) f = last_on a x.0 rest x.1 n f.0 f.1 (many_from p n x.1) refl
  last_at a ts rest n (Err Syntax) f = absurd f
  last_at a ts rest n (Err Deep) f = λ reach s. f reach (stops_weaker S Sp i.weaker rest s)

  -- one of which more are spelled behind it
  next_fits : (a : A) (c : List A) (ts mid rest : List Token) (n : ℕ) → Stops Sp mid → (length mid < length ts → Fits G S c rest (many_from p n mid))
      → (r : Outcome A) → p ts ≡ r → Fits G Sp a mid r → Fits G S (a ∷ c) rest (more_from ts r (many_from p n))
  next_fits a c ts mid rest n s k (Ok x) e f =
      let same = f.1 s in
      let l : length x.1 < length ts = i.strict ts x.0 x.1 e in
      let o : length mid < length ts = subst (λ u. length u < length ts) same.1 l in
      subst (λ y. Fits G S (a ∷ c) rest (onto y (many_from p n x.1))) (sym same.0)
      (subst (λ u. Fits G S (a ∷ c) rest (onto a (many_from p n u))) (sym same.1) (onto_fits a c rest (many_from p n mid) (k o)))
  next_fits a c ts mid rest n s k (Err Syntax) e f = absurd f
  next_fits a c ts mid rest n s k (Err Deep) e f = λ reach t. f reach s

  some_token : (ts : List Token) → ahead B ts ≡ true → length ts ≤ 0 → ⊥
  some_token [] e le = let no : ◌≡◌ {A = Bool} false true = e in cc
  some_token (t ∷ ts) e le = omega arith

  many_fits : (c : List A) (n : ℕ) (ts rest : List Token) → length ts ≤ n → Many Q c ts rest → Fits G S c rest (many_from p n ts)
  many_fits [] n ts rest le m = subst (λ r. Fits G S [] r (many_from p n ts)) m (nil_fits n ts)
  many_fits (a ∷ c) zero ts rest le m = absurd (some_token ts (begins T W G m' Sp S B P Q p (start_of i) a ts m.0 m.1) le)
  many_fits (a ∷ []) (suc n) ts rest le m = last_at a ts rest n (p ts) (subst (λ r. Fits G Sp a r (p ts)) m.2 (i.good.fits a ts m.0 m.1))
  many_fits (a ∷ b ∷ c) (suc n) ts rest le m =
      next_fits a (b ∷ c) ts m.0 rest n (ahead_stops B Sp i.next m.0 (begins T W G m' Sp S B P Q p (start_of i) b m.0 m.2.0 m.2.1)) (λ k. many_fits (b ∷ c) n m.0 rest (omega arith) m.2) (p ts) refl (i.good.fits a ts m.0 m.1)

  many_splits : (c : List A) (mid rest : List Token) → Many Q c mid rest → Stops Sp mid ⊎ (mid ≡ rest)
  many_splits [] mid rest m = inr m
  many_splits (a ∷ c) mid rest m = inl (ahead_stops B Sp i.next mid (begins T W G m' Sp S B P Q p (start_of i) a mid m.0 m.1))

  pub tail_many : Tail T W G m' Sp S (Many P) (Many Q) (many p)
  tail_many = record {
    good = record {
      sound = λ ts c rest e. many_sound (length ts) ts c rest e;
      fits = λ c ts rest m. many_fits c (length ts) ts rest (omega arith) m;
      eats = λ ts c rest e. many_eats (length ts) ts c rest e;
      digs = λ ts e. many_digs (length ts) ts e;
    };
    total = λ ts e. many_total (length ts) ts e;
    splits = many_splits;
    weaker = i.weaker;
  }

-- what may come or not, behind what can't go on with what it begins with
pub tail_perhaps : {A : Type 0} (T : What → Bool) (W : What → ℕ) (G : Type 0) (n : ℕ) (Sp Sg S B : What → Bool) (P Q : A → List Token → List Token → Type 0) (p : Reader A)
    → Start T W G n Sg S B P Q p → ((w : What) → B w ≡ true → Sp w ≡ true) → ((w : What) → S w ≡ true → Sp w ≡ true) → Tail T W G n Sp S (Maybe P) (Maybe Q) (optional p)
tail_perhaps {A} T W G n Sp Sg S B P Q p i next weaker = record {
  good = good_maybe T W G n Sg S B P Q p i;
  total = λ ts e. never_syntax T W G n Sg S B P Q p i ts (p ts) e;
  splits = splits;
  weaker = weaker;
}
  where
    splits : (o : Option A) (mid rest : List Token) → Maybe Q o mid rest → Stops Sp mid ⊎ (mid ≡ rest)
    splits None mid rest m = inr m
    splits (Some a) mid rest m = inl (ahead_stops B Sp next mid (begins T W G n Sg S B P Q p i a mid rest m))

-- what may be nothing, and then what may be nothing
pub tail_then : {A B : Type 0} (T : What → Bool) (W : What → ℕ) (G : Type 0) (n : ℕ) (Sp Sm S : What → Bool) (P Q : A → List Token → List Token → Type 0) (U V : B → List Token → List Token → Type 0)
    (p : Reader A) (q : Reader B) → Tail T W G n Sp Sm P Q p → Tail T W G n Sm S U V q → Tail T W G n Sp S (Both P U) (Both Q V) (both p q)
tail_then {A} {B} T W G n Sp Sm S P Q U V p q g h = record {
  good = good_then T W G n Sm S P Q U V p q g.good h;
  total = λ ts e. total ts (p ts) refl e;
  splits = λ c mid rest m. splits c mid m.0 rest m.2 (g.splits c.0 mid m.0 m.1);
  weaker = λ w e. g.weaker w (h.weaker w e);
}
  where
    pure_total : (a : A) (r : Outcome B) → and_then {B = A × B} r (λ b. pure (a, b)) ≡ Err Syntax → r ≡ Err Syntax
    pure_total a (Ok c) e = absurd (let no : ◌≡◌ {A = Outcome (A × B)} (Ok ((a, c.0), c.1)) (Err Syntax) = e in cc)
    pure_total a (Err Syntax) e = refl
    pure_total a (Err Deep) e = absurd (let no : ◌≡◌ {A = Outcome (A × B)} (Err Deep) (Err Syntax) = e in cc)

    total : (ts : List Token) (r : Outcome A) → p ts ≡ r → and_then {B = A × B} r (λ a. q >>= (λ b. pure (a, b))) ≡ Err Syntax → ⊥
    total ts (Ok c) e f = h.total c.1 (pure_total c.0 (q c.1) f)
    total ts (Err Syntax) e f = g.total ts e
    total ts (Err Deep) e f = let no : ◌≡◌ {A = Outcome (A × B)} (Err Deep) (Err Syntax) = f in cc

    splits : (c : A × B) (mid end rest : List Token) → V c.1 end rest → Stops Sp mid ⊎ (mid ≡ end) → Stops Sp mid ⊎ (mid ≡ rest)
    splits c mid end rest m (inl s) = inl s
    splits c mid end rest m (inr e) = on (h.splits c.1 end rest m)
      where
        on : Stops Sm end ⊎ (end ≡ rest) → Stops Sp mid ⊎ (mid ≡ rest)
        on (inl s) = inl (subst (Stops Sp) (sym e) (stops_weaker Sm Sp g.weaker end s))
        on (inr f) = inr (e ∙ f)

make_syntax : {A B : Type 0} (f : A → B) (r : Outcome A) → and_then r (λ a. pure (f a)) ≡ Err Syntax → r ≡ Err Syntax
make_syntax {A} {B} f (Ok c) e = absurd (let no : ◌≡◌ {A = Outcome B} (Ok (f c.0, c.1)) (Err Syntax) = e in cc)
make_syntax f (Err Syntax) e = refl
make_syntax {A} {B} f (Err Deep) e = absurd (let no : ◌≡◌ {A = Outcome B} (Err Deep) (Err Syntax) = e in cc)

pub tail_made : {A B : Type 0} (T : What → Bool) (W : What → ℕ) (G : Type 0) (n : ℕ) (Sp S : What → Bool) (f : A → B) (P Q : A → List Token → List Token → Type 0) (q : Reader A)
    → Tail T W G n Sp S P Q q → Tail T W G n Sp S (Made f P) (Made f Q) (make f q)
tail_made T W G n Sp S f P Q q h = record {
  good = good_made S f P Q q h.good;
  total = λ ts e. h.total ts (make_syntax f (q ts) e);
  splits = λ b mid rest m. h.splits m.0 mid rest m.2;
  weaker = h.weaker;
}

pub item_made : {A B : Type 0} {T : What → Bool} {W : What → ℕ} {G : Type 0} {n : ℕ} (Sp S C : What → Bool) (f : A → B) (P Q : A → List Token → List Token → Type 0) (p : Reader A)
    → Item T W G n Sp S C P Q p → Item T W G n Sp S C (Made f P) (Made f Q) (make f p)
item_made {A} {B} Sp S C f P Q p i = record {
  good = good_made Sp f P Q p i.good;
  starts = λ ts e. ap (λ o. and_then o (λ a. pure (f a))) (i.starts ts e);
  strict = λ ts b rest e. let (a, mid, x, y) = bind_ok (p ts) _ b rest e in let k = same_pair y in subst (λ r. length r < length ts) k.1 (i.strict ts a mid x);
  next = i.next;
  last = i.last;
  weaker = i.weaker;
}

-- ---- readers that take a token at least

pub make_strict : {A B : Type 0} (f : A → B) (p : Reader A) → ((ts : List Token) (a : A) (rest : List Token) → p ts ≡ Ok (a, rest) → length rest < length ts)
    → (ts : List Token) (b : B) (rest : List Token) → make f p ts ≡ Ok (b, rest) → length rest < length ts
make_strict f p h ts b rest e = let (a, mid, x, y) = bind_ok (p ts) _ b rest e in let k = same_pair y in subst (λ r. length r < length ts) k.1 (h ts a mid x)

pub both_strict : {A B : Type 0} (T : What → Bool) (p : Reader A) (q : Reader B) → ((ts : List Token) (a : A) (rest : List Token) → p ts ≡ Ok (a, rest) → length rest < length ts)
    → ((ts : List Token) (b : B) (rest : List Token) → q ts ≡ Ok (b, rest) → Eats T ts rest) → (ts : List Token) (c : A × B) (rest : List Token) → both p q ts ≡ Ok (c, rest) → length rest < length ts
both_strict T p q h k ts c rest e =
    let (a, mid, x, y) = bind_ok (p ts) _ c rest e in
    let (b, end, u, v) = bind_ok (q mid) _ c rest y in
    let same = same_pair v in
    let l : length mid < length ts = h ts a mid x in
    let o : length end ≤ length mid = eats_shorter T mid end (k mid b end u) in
    subst (λ r. length r < length ts) same.1 (omega arith)

pub either_strict : {A : Type 0} (test : What → Bool) (p q : Reader A) → ((ts : List Token) (a : A) (rest : List Token) → p ts ≡ Ok (a, rest) → length rest < length ts)
    → ((ts : List Token) (a : A) (rest : List Token) → q ts ≡ Ok (a, rest) → length rest < length ts) → (ts : List Token) (a : A) (rest : List Token) → either test p q ts ≡ Ok (a, rest) → length rest < length ts
either_strict test p q h k ts a rest e = go (ahead test ts) e
  where
    go : (b : Bool) → cond b (p ts) (q ts) ≡ Ok (a, rest) → length rest < length ts
    go true f = h ts a rest f
    go false f = k ts a rest f
