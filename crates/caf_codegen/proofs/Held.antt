-- The reads that stand in front of a statement's last Step keep the rules of a code.
use Rattle.std.proofs.Common.{◌≡◌, ℕ, suc, ◌+◌, true, false, List, [], ◌∷◌, ◌++◌, length, Some, None, refl, sym, ap, ◌∙◌, subst, arith, append_assoc}
use Rattle.std.specs.Prelude.{slice_get}
use Rattle.std.proofs.lemmas.Option.{slice_get_within}
use Rattle.caf_program.specs.Expressions.{count_all}
use Rattle.caf_program.specs.Kinds.{Scope}
use Rattle.caf_program.specs.Value.{count}
use Rattle.caf_program.specs.declared.expr.ExprR.{ExprR}
use Rattle.caf_code.specs.Rules.{LeadOn, goes_on, has_operands, is_address, is_followed, is_marked, is_steady, meets_mark}
use Rattle.caf_code.specs.Shapes.{Part, Shape, leads, next_shape, way}
use Rattle.caf_code.specs.Step.{go_of}
use Rattle.caf_code.specs.declared.instr.Instr.{Instr}
use Rattle.caf_code.specs.declared.instr.Instr.TheVariants as instr
use Rattle.caf_code.specs.declared.listing.Listing.{Listing}
use Rattle.caf_exprgen.specs.Asks.{StraightRead, StraightReads, with_value}
use Rattle.caf_exprgen.specs.ExprCode.{joined, reads_code}
use Rattle.caf_exprgen.specs.Placed.{HasAt}
use Rattle.caf_exprgen.specs.Straight.{Serves, all_inner, is_inner, is_within_step}
use Rattle.caf_exprgen.specs.Words.{CodesLeaveValues}
use Rattle.caf_codegen.specs.StmtCode.{asked}
use Rattle.caf_codegen.proofs.Both.{first_true}
use Rattle.caf_codegen.proofs.Kinded.{AreKinded}
use Rattle.caf_codegen.proofs.Runs.{Entry, HasRun, Piece, Spot, Target, inner_still, is_fine, is_there, meets_here, piece_none, piece_seq, piece_weaker, rests_here, shape_or, shapes_in, stand_in, straight_piece}

-- between statements: some loops and some finishes are open
abbrev pub plain : ℕ → ℕ → Shape
plain l f = record { stack = 0; held = 0; loops = l; listed = []; outs = 0; finishes = f }

-- within a statement, before its last Step: so many values are held
abbrev pub waiting : ℕ → ℕ → ℕ → Shape
waiting v l f = record { stack = 0; held = v; loops = l; listed = []; outs = 0; finishes = f }

pub all_of_within : (is : List Instr) → is_within_step is ≡ true → all_inner is ≡ true
all_of_within [] e = refl
all_of_within (i ∷ is) e = e

-- an instruction within a Step stands at the beginning
abbrev pub Begins : List Instr → Type 0
Begins [] = ⊥
Begins (i ∷ is) = is_inner i ≡ true

pub begins_front : (is js : List Instr) → Begins is → Begins (is ++ js)
begins_front [] js h = absurd h
begins_front (i ∷ is) js h = h

pub begins_within : (is : List Instr) → is_within_step is ≡ true → Begins is
begins_within [] e = let h : false ≡ true = e in absurd (cc)
begins_within (i ∷ is) e = first_true (is_inner i) (all_inner is) e

module _ (code : Listing) (p : Part) where
  -- reads in front of such instructions
  begins_reads : (reads : List (List Instr)) (is : List Instr) (h : Shape) → StraightReads code p reads h → Begins is → Begins (joined reads ++ is)
  begins_reads [] is h straight begins = begins
  begins_reads (r ∷ reads) is h straight begins =
      let read = straight.0 in
      let first = begins_front read.numbers (instr.Ask read.element ∷ []) (begins_within read.numbers read.within) in
      let of_read = subst Begins (sym read.are) first in
      begins_front (r ++ joined reads) is (begins_front r (joined reads) of_read)

module _ (code : Listing) (all : List Entry) (p : Part) where
  -- a marked instruction that leads to the next address alone
  pub marked_piece : (i : Instr) (a : ℕ) (h g : Shape) → is_marked i ≡ true → goes_on a i ≡ None → go_of (Some i) ≡ None → has_operands code i ≡ true → is_followed code a i ≡ is_address code (a + 1) → is_steady code a i ≡ meets_mark code.instrs (length code.instrs) a
      → leads code p a i h ≡ way (a + 1) (next_shape code p i h) → next_shape code p i h ≡ Some g → Piece code all p false true (i ∷ []) a h g
  marked_piece i a h g marked over still operands followed steady on next = record {
    after = ap (shape_or h) next;
    fine = λ has run end.
        let rests = rests_here code all a i has.0 still in
        let meets = meets_here code all a i has.0 marked over in
        let leading : LeadOn (shapes_in all) p (way (a + 1) (Some g)) = (stand_in code all p (a + 1) g end.target.stands, tt) in (
          record { target = record { inside = slice_get_within code.instrs a i has.0; stands = run.0 }; rests = rests; meets = meets },
          (
            is_fine code all p a i h run.0 operands (followed ∙ is_there code all (a + 1) end.target.inside) (steady ∙ meets (length code.instrs) (omega arith)) rests (subst (LeadOn (shapes_in all) p) (sym (on ∙ ap (way (a + 1)) next)) leading),
            tt,
          ),
        );
  }

  pub weaker : (a : ℕ) (h : Shape) → Spot code all true p a h → Spot code all false p a h
  weaker a h x = record { target = x.target; rests = x.rests; meets = tt }

  -- a mark behind is known of where none is needed
  sooner : (is : List Instr) (a : ℕ) (h g : Shape) → Piece code all p false true is a h g → Piece code all p true true is a h g
  sooner is a h g x = record { after = x.after; fine = λ has run end. x.fine has run (weaker (a + length is) g end) }

  -- one read
  read_piece : (is : List Instr) (a : ℕ) (h : Shape) → StraightRead code p is h → Piece code all p true true is a h (with_value h)
  read_piece is a h r =
      let ask = instr.Ask r.element in
      let b = a + length r.numbers in
      let numbers = straight_piece code all p r.numbers a h r.top (all_of_within r.numbers r.within) r.straight in
      let last = marked_piece ask b r.top (with_value h) refl refl refl r.operands refl refl refl r.leads in
      let whole = piece_seq code all p false true true r.numbers (ask ∷ []) a b h r.top (with_value h) refl numbers last in
      subst (λ js. Piece code all p true true js a h (with_value h)) (sym r.are) (sooner (r.numbers ++ ask ∷ []) a h (with_value h) whole)

  reads_piece : (reads : List (List Instr)) (a v l f : ℕ) → StraightReads code p reads (waiting v l f) → Piece code all p true true (joined reads) a (waiting v l f) (waiting (length reads + v) l f)
  reads_piece [] a v l f straight = let e : v ≡ 0 + v = omega arith in subst (λ n. Piece code all p true true [] a (waiting v l f) (waiting n l f)) e (piece_none code all p true a (waiting v l f))
  reads_piece (is ∷ reads) a v l f straight =
      let n : length reads + suc v ≡ suc (length reads) + v = omega arith in
      let h = waiting v l f in
      let g = waiting (suc v) l f in
      subst (λ n. Piece code all p true true (is ++ joined reads) a h (waiting n l f)) n
      (piece_seq code all p true true true is (joined reads) a (a + length is) h g (waiting (length reads + suc v) l f) refl (read_piece is a h straight.0) (reads_piece reads (a + length is) (suc v) l f straight.1))

  -- from an address with a shape the code goes on, and no `go` stands there
  abbrev pub GoesOnAt : ℕ → Shape → Type 0
  GoesOnAt a h = Target code all p a h × ((i : Instr) × (slice_get code.instrs a ≡ Some i) × (go_of (Some i) ≡ None))

  pub goes_on_there : (is : List Instr) (a : ℕ) (h : Shape) → Begins is → HasAt code.instrs a is → HasRun code all p a is h → GoesOnAt a h
  goes_on_there [] a h begins has run = absurd begins
  goes_on_there (i ∷ is) a h begins has run = (record { inside = slice_get_within code.instrs a i has.0; stands = run.0 }, (i, has.0, inner_still i begins))

  module _ (laws : CodesLeaveValues) (s : Scope) (serves : Serves code p s) where
    -- the reads of expressions
    asked_piece : (es : List ExprR) (at a l f : ℕ) → AreKinded s es → Piece code all p true true (asked es at) a (waiting at l f) (waiting (at + count_all es) l f)
    asked_piece [] at a l f kinded = let e : at ≡ at + 0 = omega arith in subst (λ n. Piece code all p true true [] a (waiting at l f) (waiting n l f)) e (piece_none code all p true a (waiting at l f))
    asked_piece (e ∷ es) at a l f kinded =
        let reads = reads_code e at in
        let is = joined reads in
        let next = at + count e in
        let b = a + length is in
        let h = waiting at l f in
        let here : length reads + at ≡ next = omega (arith, laws.counted e at) in
        let behind : next + count_all es ≡ at + count_all (e ∷ es) = omega arith in
        let straight = laws.keep e at code p s kinded.0.0 h serves kinded.0.1 refl in
        let one = subst (λ n. Piece code all p true true is a h (waiting n l f)) here (reads_piece reads a at l f straight) in
        subst (λ n. Piece code all p true true (is ++ asked es next) a h (waiting n l f)) behind
        (piece_seq code all p true true true is (asked es next) a b h (waiting next l f) (waiting (next + count_all es) l f) refl one (asked_piece es next b l f kinded.1))

    -- from the beginning of a statement
    pub first_reads : (es : List ExprR) (a l f : ℕ) → AreKinded s es → Piece code all p true true (asked es 0) a (plain l f) (waiting (count_all es) l f)
    first_reads es a l f kinded = let n : 0 + count_all es ≡ count_all es = omega arith in subst (λ n. Piece code all p true true (asked es 0) a (plain l f) (waiting n l f)) n (asked_piece es 0 a l f kinded)

    -- reads in front of the last Step
    pub whole_piece : (es : List ExprR) (is : List Instr) (a l f : ℕ) → AreKinded s es → Piece code all p false true is (a + length (asked es 0)) (waiting (count_all es) l f) (plain l f) → Piece code all p false false (asked es 0 ++ is) a (plain l f) (plain l f)
    whole_piece es is a l f kinded last =
        let b = a + length (asked es 0) in
        piece_weaker code all p false (asked es 0 ++ is) a (plain l f) (plain l f) (piece_seq code all p false true true (asked es 0) is a b (plain l f) (waiting (count_all es) l f) (plain l f) refl (first_reads es a l f kinded) last)

    pub begins_asked : (es : List ExprR) (is : List Instr) (at : ℕ) → AreKinded s es → Begins is → Begins (asked es at ++ is)
    begins_asked [] is at kinded begins = begins
    begins_asked (e ∷ es) is at kinded begins =
        let reads = reads_code e at in
        let more = asked es (at + count e) in
        let h = waiting at 0 0 in
        let straight = laws.keep e at code p s kinded.0.0 h serves kinded.0.1 refl in
        subst Begins (sym (append_assoc (joined reads) more is)) (begins_reads code p reads (more ++ is) h straight (begins_asked es is (at + count e) kinded.1 begins))
