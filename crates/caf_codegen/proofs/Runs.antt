-- Shapes of instructions that stand one after another, and what the rules ask of each of them.
use Rattle.std.proofs.Common.{◌≡◌, ℕ, zero, suc, ◌+◌, ◌<◌, ◌≤◌, true, false, List, [], ◌∷◌, ◌++◌, length, Option, Some, None, refl, sym, ap, ◌∙◌, subst, arith, length-append}
use Rattle.std.specs.Prelude.{Bool, not, nat_eq, is_none, slice_get, if◌then◌else◌}
use Rattle.std.proofs.lemmas.Bool.{eq-eqb, eqb-true, lt-ltb}
use Rattle.std.proofs.lemmas.Option.{slice_get_within}
use Rattle.caf_code.specs.Rules.{IsRight, LeadOn, Shapes, goes_on, has_operands, is_address, is_followed, is_marked, is_steady, meets_at, meets_mark, way_on, unless_marked}
use Rattle.caf_code.specs.Shapes.{Part, Main, Sub, Shape, leads, next_shape, way}
use Rattle.caf_code.specs.Step.{followed, go_of, settled}
use Rattle.caf_code.specs.declared.instr.Instr.{Instr}
use Rattle.caf_code.specs.declared.instr.Instr.TheVariants as instr
use Rattle.caf_code.specs.declared.listing.Listing.{Listing}
use Rattle.caf_exprgen.specs.Placed.{HasAt}
use Rattle.caf_exprgen.specs.Straight.{Straight, all_inner, is_inner}
use Rattle.caf_codegen.specs.StmtCode.{StandsAt}
use Rattle.caf_codegen.proofs.Places.{has_back, has_front}
use Rattle.caf_codegen.proofs.Both.{first_true, second_true}

-- a part of the code, and the shape with which it comes to an address
abbrev pub Entry : Type 0
Entry = Part × Shape

abbrev pub same_part : Part → Part → Bool
same_part Main Main = true
same_part (Sub f) (Sub g) = nat_eq f g
same_part _ _ = false

pub same_self : (p : Part) → same_part p p ≡ true
same_self Main = refl
same_self (Sub f) = eq-eqb f f refl

pub same_parts : (p q : Part) → same_part p q ≡ true → p ≡ q
same_parts Main Main e = refl
same_parts (Sub f) (Sub g) e = ap Sub (eqb-true f g e)
same_parts Main (Sub g) e = let h : false ≡ true = e in absurd (cc)
same_parts (Sub f) Main e = let h : false ≡ true = e in absurd (cc)

-- the shape of an entry, for its own part
abbrev pub in_part : Part → Option Entry → Option Shape
in_part p None = None
in_part p (Some x) = if same_part x.0 p then Some x.1 else None

abbrev pub shapes_in : List Entry → Shapes
shapes_in all p a = in_part p (slice_get all a)

-- the next instruction has the shape that this one leads to, and the same where it leads to none
abbrev pub shape_or : Shape → Option Shape → Shape
shape_or h None = h
shape_or h (Some g) = g

abbrev pub next_or : Listing → Part → Instr → Shape → Shape
next_or code p i h = shape_or h (next_shape code p i h)

-- the shape behind these instructions
abbrev pub after_all : Listing → Part → List Instr → Shape → Shape
after_all code p [] h = h
after_all code p (i ∷ is) h = after_all code p is (next_or code p i h)

-- an entry for each of these instructions
abbrev pub entries : Listing → Part → List Instr → Shape → List Entry
entries code p [] h = []
entries code p (i ∷ is) h = (p, h) ∷ entries code p is (next_or code p i h)

pub entries_length : (code : Listing) (p : Part) (is : List Instr) (h : Shape) → length (entries code p is h) ≡ length is
entries_length code p [] h = refl
entries_length code p (i ∷ is) h = ap suc (entries_length code p is (next_or code p i h))

pub after_append : (code : Listing) (p : Part) (is js : List Instr) (h : Shape) → after_all code p (is ++ js) h ≡ after_all code p js (after_all code p is h)
after_append code p [] js h = refl
after_append code p (i ∷ is) js h = after_append code p is js (next_or code p i h)

-- what is known of an instruction of the code and of the shape that stands at it
pub record Fine (code : Listing) (all : List Entry) (a : ℕ) (i : Instr) : Type 0 where
  pub part : Part
  pub shape : Shape
  pub stands : slice_get all a ≡ Some (part, shape)
  pub right : IsRight code a i
  pub leading : LeadOn (shapes_in all) part (leads code part a i shape)

abbrev pub AllFine : Listing → List Entry → ℕ → List Instr → Type 0
AllFine code all a [] = Unit {0}
AllFine code all a (i ∷ is) = Fine code all a i × AllFine code all (a + 1) is

pub fine_append : (code : Listing) (all : List Entry) (a b : ℕ) (is js : List Instr) → b ≡ a + length is → AllFine code all a is → AllFine code all b js → AllFine code all a (is ++ js)
fine_append code all a b [] js e f g = let e' : b ≡ a = omega arith in subst (λ n. AllFine code all n js) e' g
fine_append code all a b (i ∷ is) js e f g = (f.0, fine_append code all (a + 1) b is js (omega arith) f.1 g)

pub fine_at : (code : Listing) (all : List Entry) (is : List Instr) (a n : ℕ) (i : Instr) → AllFine code all a is → slice_get is n ≡ Some i → Fine code all (a + n) i
fine_at code all [] a zero i f e = absurd (cc)
fine_at code all [] a (suc n) i f e = absurd (cc)
fine_at code all (j ∷ is) a zero i f e =
    let same : j ≡ i = cc in
    let e' : a ≡ a + 0 = omega arith in
    subst (λ x. Fine code all (a + 0) x) same (subst (λ b. Fine code all b j) e' f.0)
fine_at code all (j ∷ is) a (suc n) i f e =
    let e' : a + 1 + n ≡ a + suc n = omega arith in
    subst (λ b. Fine code all b i) e' (fine_at code all is (a + 1) n i f.1 e)

module _ (code : Listing) (all : List Entry) where
  -- following every `go` from here comes to an end
  abbrev pub Rests : ℕ → Type 0
  Rests a = (n : ℕ) → length code.instrs ≤ n + a → is_none (go_of (slice_get code.instrs (settled code.instrs n a))) ≡ true

  -- the way from here meets a mark
  abbrev pub Meets : ℕ → Type 0
  Meets a = (n : ℕ) → length code.instrs ≤ n + a → meets_mark code.instrs n a ≡ true

  abbrev pub MeetsIf : Bool → ℕ → Type 0
  MeetsIf true a = Meets a
  MeetsIf false a = Unit {0}

  -- an address of a part with its shape
  pub record Target (p : Part) (a : ℕ) (h : Shape) : Type 0 where
    pub inside : a < length code.instrs
    pub stands : slice_get all a ≡ Some (p, h)

  -- one from which the code goes on
  pub record Spot (strict : Bool) (p : Part) (a : ℕ) (h : Shape) : Type 0 where
    pub target : Target p a h
    pub rests : Rests a
    pub meets : MeetsIf strict a

  -- shapes stand at each of these instructions as they follow from the first one
  abbrev pub HasRun : Part → ℕ → List Instr → Shape → Type 0
  HasRun p a [] h = Unit {0}
  HasRun p a (i ∷ is) h = (slice_get all a ≡ Some (p, h)) × HasRun p (a + 1) is (next_or code p i h)

  pub run_of : (p : Part) (a : ℕ) (is : List Instr) (h : Shape) → StandsAt all a (entries code p is h) → HasRun p a is h
  run_of p a [] h s = tt
  run_of p a (i ∷ is) h s = (s.0, run_of p (a + 1) is (next_or code p i h) s.1)

  pub run_front : (p : Part) (a : ℕ) (is js : List Instr) (h : Shape) → HasRun p a (is ++ js) h → HasRun p a is h
  run_front p a [] js h r = tt
  run_front p a (i ∷ is) js h r = (r.0, run_front p (a + 1) is js (next_or code p i h) r.1)

  pub run_behind : (p : Part) (a b : ℕ) (is js : List Instr) (h g : Shape) → b ≡ a + length is → after_all code p is h ≡ g → HasRun p a (is ++ js) h → HasRun p b js g
  run_behind p a b [] js h g e f r = let e' : a ≡ b = omega arith in subst (λ x. HasRun p b js x) f (subst (λ n. HasRun p n js h) e' r)
  run_behind p a b (i ∷ is) js h g e f r = run_behind p (a + 1) b is js (next_or code p i h) g (omega arith) f r.1

  -- the shapes of entries, seen by their part
  pub stand_in : (p : Part) (a : ℕ) (h : Shape) → slice_get all a ≡ Some (p, h) → shapes_in all p a ≡ Some h
  stand_in p a h e = ap (in_part p) e ∙ ap (λ (b : Bool). if b then Some h else None) (same_self p)

  pub is_there : (a : ℕ) → a < length code.instrs → is_address code a ≡ true
  is_there a lt = lt-ltb a (length code.instrs) lt

  settled_same : (n a : ℕ) → go_of (slice_get code.instrs a) ≡ None → settled code.instrs n a ≡ a
  settled_same zero a h = refl
  settled_same (suc n) a h = ap (λ o. followed o a (settled code.instrs n)) h

  -- an instruction that is no `go`
  pub rests_here : (a : ℕ) (i : Instr) → slice_get code.instrs a ≡ Some i → go_of (Some i) ≡ None → Rests a
  rests_here a i at still n le =
      let h : go_of (slice_get code.instrs a) ≡ None = ap go_of at ∙ still in
      ap (λ b. is_none (go_of (slice_get code.instrs b))) (settled_same n a h) ∙ ap is_none h

  -- a `go` to an address behind it, and one to an address at which there is none
  pub rests_on : (a b : ℕ) → slice_get code.instrs a ≡ Some (instr.Go b) → a < b → Rests b → Rests a
  rests_on a b at lt r zero le = absurd (omega (arith, slice_get_within code.instrs a (instr.Go b) at))
  rests_on a b at lt r (suc n) le =
      let e : settled code.instrs (suc n) a ≡ settled code.instrs n b = ap (λ o. followed (go_of o) a (settled code.instrs n)) at in
      ap (λ c. is_none (go_of (slice_get code.instrs c))) e ∙ r n (omega arith)

  pub rests_back : (a b : ℕ) (i : Instr) → slice_get code.instrs a ≡ Some (instr.Go b) → slice_get code.instrs b ≡ Some i → go_of (Some i) ≡ None → Rests a
  rests_back a b i at there still zero le = absurd (omega (arith, slice_get_within code.instrs a (instr.Go b) at))
  rests_back a b i at there still (suc n) le =
      let h : go_of (slice_get code.instrs b) ≡ None = ap go_of there ∙ still in
      let e : settled code.instrs (suc n) a ≡ b = ap (λ o. followed (go_of o) a (settled code.instrs n)) at ∙ settled_same n b h in
      ap (λ c. is_none (go_of (slice_get code.instrs c))) e ∙ ap is_none h

  -- a marked instruction, and one from which the Step goes on
  pub meets_here : (a : ℕ) (i : Instr) → slice_get code.instrs a ≡ Some i → is_marked i ≡ true → goes_on a i ≡ None → Meets a
  meets_here a i at marked over zero le = absurd (omega (arith, slice_get_within code.instrs a i at))
  meets_here a i at marked over (suc n) le =
      ap (λ o. meets_at a o (meets_mark code.instrs n)) at ∙ ap (λ o. way_on (is_marked i) o (meets_mark code.instrs n)) over ∙ marked

  pub meets_on : (a : ℕ) (i : Instr) → slice_get code.instrs a ≡ Some i → goes_on a i ≡ Some (a + 1) → Meets (a + 1) → Meets a
  meets_on a i at on m zero le = absurd (omega (arith, slice_get_within code.instrs a i at))
  meets_on a i at on m (suc n) le =
      ap (λ o. meets_at a o (meets_mark code.instrs n)) at ∙ ap (λ o. way_on (is_marked i) o (meets_mark code.instrs n)) on ∙ m n (omega arith)

  -- an instruction of which all is known
  pub is_fine : (p : Part) (a : ℕ) (i : Instr) (h : Shape) → slice_get all a ≡ Some (p, h) → has_operands code i ≡ true → is_followed code a i ≡ true → is_steady code a i ≡ true → Rests a → LeadOn (shapes_in all) p (leads code p a i h) → Fine code all a i
  is_fine p a i h stands operands followed steady rests leading = record {
    part = p;
    shape = h;
    stands = stands;
    right = record { operands = operands; followed = followed; steady = steady; rests = rests (length code.instrs) (omega arith) };
    leading = leading;
  }

not_true : (b : Bool) → not b ≡ true → b ≡ false
not_true true e = let h : false ≡ true = e in absurd (cc)
not_true false e = refl

inner_unmarked : (i : Instr) → is_inner i ≡ true → is_marked i ≡ false
inner_unmarked (instr.Go b) e = refl
inner_unmarked instr.Close e = refl
inner_unmarked instr.Halt e = refl
inner_unmarked i e = not_true (is_marked i) e

inner_on : (a : ℕ) (i : Instr) → is_inner i ≡ true → goes_on a i ≡ Some (a + 1)
inner_on a (instr.Go b) e = let h : false ≡ true = e in absurd (cc)
inner_on a instr.Close e = let h : false ≡ true = e in absurd (cc)
inner_on a instr.Halt e = let h : false ≡ true = e in absurd (cc)
inner_on a i e = ap (λ b. unless_marked b a) (inner_unmarked i e)

pub inner_still : (i : Instr) → is_inner i ≡ true → go_of (Some i) ≡ None
inner_still (instr.Go b) e = let h : false ≡ true = e in absurd (cc)
inner_still _ e = refl

inner_leads : (code : Listing) (p : Part) (a : ℕ) (i : Instr) (h : Shape) → is_inner i ≡ true → leads code p a i h ≡ way (a + 1) (next_shape code p i h)
inner_leads code p a (instr.Go b) h e = let f : false ≡ true = e in absurd (cc)
inner_leads code p a (instr.Test b) h e = let f : false ≡ true = e in absurd (cc)
inner_leads code p a (instr.Enter b) h e = let f : false ≡ true = e in absurd (cc)
inner_leads code p a (instr.Again b) h e = let f : false ≡ true = e in absurd (cc)
inner_leads code p a instr.Ret h e = let f : false ≡ true = e in absurd (cc)
inner_leads code p a instr.Halt h e = let f : false ≡ true = e in absurd (cc)
inner_leads code p a _ h e = refl

inner_followed : (code : Listing) (a : ℕ) (i : Instr) → is_inner i ≡ true → is_followed code a i ≡ is_address code (a + 1)
inner_followed code a (instr.Go b) e = let f : false ≡ true = e in absurd (cc)
inner_followed code a instr.Ret e = let f : false ≡ true = e in absurd (cc)
inner_followed code a instr.Halt e = let f : false ≡ true = e in absurd (cc)
inner_followed code a _ e = refl

inner_steady : (code : Listing) (a : ℕ) (i : Instr) → is_inner i ≡ true → is_steady code a i ≡ meets_mark code.instrs (length code.instrs) a
inner_steady code a (instr.Go b) e = let f : false ≡ true = e in absurd (cc)
inner_steady code a instr.Close e = let f : false ≡ true = e in absurd (cc)
inner_steady code a instr.Halt e = let f : false ≡ true = e in absurd (cc)
inner_steady code a _ e = refl

module _ (code : Listing) (all : List Entry) (p : Part) where
  -- Instructions of a part that lead from a shape to another. Where the code goes on behind them they are right, and the
  -- code goes on from their beginning; `gives` says that a mark is met from there, and `needs` that it is behind them.
  pub record Piece (needs gives : Bool) (is : List Instr) (a : ℕ) (h g : Shape) : Type 0 where
    pub after : after_all code p is h ≡ g
    pub fine : HasAt code.instrs a is → HasRun code all p a is h → Spot code all needs p (a + length is) g → Spot code all gives p a h × AllFine code all a is

  pub piece_none : (b : Bool) (a : ℕ) (h : Shape) → Piece b b [] a h h
  piece_none b a h = record { after = refl; fine = λ has run end. (let e : a + 0 ≡ a = omega arith in subst (λ n. Spot code all b p n h) e end, tt) }

  pub piece_seq : (n m q : Bool) (is js : List Instr) (a b : ℕ) (h g k : Shape) → b ≡ a + length is → Piece m q is a h g → Piece n m js b g k → Piece n q (is ++ js) a h k
  piece_seq n m q is js a b h g k e x y = record {
    after = after_append code p is js h ∙ ap (λ s. after_all code p js s) x.after ∙ y.after;
    fine = λ has run end.
        let has_js = subst (λ c. HasAt code.instrs c js) (sym e) (has_back code.instrs a is js has) in
        let e' : a + length (is ++ js) ≡ b + length js = omega (arith, length-append is js) in
        let second = y.fine has_js (run_behind code all p a b is js h g e x.after run) (subst (λ c. Spot code all n p c k) e' end) in
        let first = x.fine (has_front code.instrs a is js has) (run_front code all p a is js h run) (subst (λ c. Spot code all m p c g) e second.0) in
        (first.0, fine_append code all a b is js e first.1 second.1);
  }

  pub piece_weaker : (n : Bool) (is : List Instr) (a : ℕ) (h g : Shape) → Piece n true is a h g → Piece n false is a h g
  piece_weaker n is a h g x = record {
    after = x.after;
    fine = λ has run end.
        let f = x.fine has run end in
        (record { target = f.0.target; rests = f.0.rests; meets = tt }, f.1);
  }

  -- one instruction within a Step
  pub inner_piece : (i : Instr) (a : ℕ) (h g : Shape) → is_inner i ≡ true → has_operands code i ≡ true → next_shape code p i h ≡ Some g → Piece true true (i ∷ []) a h g
  inner_piece i a h g inner operands next = record {
    after = ap (shape_or h) next;
    fine = λ has run end.
        let rests = rests_here code all a i has.0 (inner_still i inner) in
        let meets = meets_on code all a i has.0 (inner_on a i inner) end.meets in
        let leading : LeadOn (shapes_in all) p (way (a + 1) (Some g)) = (stand_in code all p (a + 1) g end.target.stands, tt) in (
          record { target = record { inside = slice_get_within code.instrs a i has.0; stands = run.0 }; rests = rests; meets = meets },
          (
            is_fine code all p a i h run.0 operands (inner_followed code a i inner ∙ is_there code all (a + 1) end.target.inside) (inner_steady code a i inner ∙ meets (length code.instrs) (omega arith)) rests
                (subst (LeadOn (shapes_in all) p) (sym (inner_leads code p a i h inner ∙ ap (way (a + 1)) next)) leading),
            tt,
          ),
        );
  }

  -- several of them
  pub straight_piece : (is : List Instr) (a : ℕ) (h g : Shape) → all_inner is ≡ true → Straight code p is h g → Piece true true is a h g
  straight_piece [] a h g inner s = subst (λ k. Piece true true [] a h k) s (piece_none true a h)
  straight_piece (i ∷ is) a h g inner s =
      piece_seq true true true (i ∷ []) is a (a + 1) h s.0 g refl
      (inner_piece i a h s.0 (first_true (is_inner i) (all_inner is) inner) s.1 s.2)
      (straight_piece is (a + 1) s.0 g (second_true (is_inner i) (all_inner is) inner) s.3)
