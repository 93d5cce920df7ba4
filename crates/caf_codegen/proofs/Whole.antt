-- The code of a program that keeps the rules keeps those of a code.
use Rattle.std.proofs.Common.{◌≡◌, ℕ, zero, suc, ◌+◌, ◌<◌, true, false, List, [], ◌∷◌, ◌++◌, map, length, Option, Some, None, refl, sym, ap, ◌∙◌, subst, arith, length-append}
use Rattle.std.specs.Prelude.{Bool, ◌&&◌, not, nat_le, slice_get, if◌then◌else◌}
use Rattle.std.specs.List.{list_all}
use Rattle.std.proofs.lemmas.List.{length-map}
use Rattle.std.proofs.lemmas.Option.{slice_get_within}
use Rattle.caf_base.specs.declared.object.Object.{Object}
use Rattle.caf_program.specs.Accepted.{IsAccepted, cell_of, cells_of as frame_cells, is_declared, main_scope, sub_keeps_rules, sub_scope}
use Rattle.caf_program.specs.Rules.{block_keeps_rules}
use Rattle.caf_program.specs.Kinds.{FrameCell}
use Rattle.caf_program.specs.Ships.{is_in}
use Rattle.caf_program.specs.declared.program.DummyR.{DummyR}
use Rattle.caf_program.specs.declared.program.ValueKind.{ValueKind}
use Rattle.caf_program.specs.declared.program.Program.{Program}
use Rattle.caf_program.specs.declared.program.SubR.{SubR}
use Rattle.caf_code.specs.Rules.{AreShapes, KeepsRules, LeadOn, has_last_index}
use Rattle.caf_code.specs.Shapes.{Part, Main, Sub, Shape, cells_in, leads}
use Rattle.caf_code.specs.declared.instr.Instr.TheVariants as instr
use Rattle.caf_code.specs.declared.listing.Listing.{Listing}
use Rattle.caf_code.specs.declared.listing.SubCode.{SubCode}
use Rattle.caf_exprgen.specs.Placed.{HasAt}
use Rattle.caf_exprgen.specs.Straight.{Serves}
use Rattle.caf_exprgen.specs.Words.{CodesLeaveValues}
use Rattle.caf_codegen.specs.Compiled.{copied_dummies}
use Rattle.caf_codegen.specs.ProgramCode.{main_code, main_size, program_code, sub_code, sub_entries, sub_size, subs_code, subs_texts}
use Rattle.caf_codegen.specs.StmtCode.{StandsAt, block, codes, sizes, texts_in}
use Rattle.caf_codegen.proofs.Agree.{sub_sized}
use Rattle.caf_codegen.proofs.Both.{first_true, second_true}
use Rattle.caf_codegen.proofs.Places.{has_all, has_behind, has_front, stands_all, stands_back, stands_front}
use Rattle.caf_codegen.proofs.Runs.{AllFine, Entry, Fine, HasRun, Spot, Target, entries, entries_length, fine_append, fine_at, in_part, is_fine, is_there, meets_here, rests_here, run_behind, run_front, run_of, same_part, same_parts, shapes_in, stand_in}
use Rattle.caf_codegen.proofs.Sized.{sized_block}
use Rattle.caf_codegen.proofs.Held.{plain}
use Rattle.caf_codegen.proofs.Ending.{SubsListed}
use Rattle.caf_codegen.proofs.Valid.{body_piece}

-- the entries of subroutines one after another, of which the first has this number
abbrev sub_rows : Listing → List SubR → ℕ → ℕ → ℕ → List Entry
sub_rows code [] i a k = []
sub_rows code (f ∷ subs) i a k = entries code (Sub i) (sub_code f a k) (plain 0 0) ++ sub_rows code subs (suc i) (a + sub_size f) (k + length (texts_in (codes f.body)))

rows_length : (code : Listing) (subs : List SubR) (i a k : ℕ) → length (sub_rows code subs i a k) ≡ length (subs_code subs a k)
rows_length code [] i a k = refl
rows_length code (f ∷ subs) i a k =
    let more = k + length (texts_in (codes f.body)) in
    omega (
      arith,
      length-append (entries code (Sub i) (sub_code f a k) (plain 0 0)) (sub_rows code subs (suc i) (a + sub_size f) more),
      length-append (sub_code f a k) (subs_code subs (a + sub_size f) more),
      entries_length code (Sub i) (sub_code f a k) (plain 0 0),
      rows_length code subs (suc i) (a + sub_size f) more,
    )

-- an entry that is seen by a part is its own
in_part_own : (p : Part) (o : Option Entry) (h : Shape) → in_part p o ≡ Some h → o ≡ Some (p, h)
in_part_own p None h e = let f : None ≡ Some h = e in absurd (cc)
in_part_own p (Some x) h e = own (same_part x.0 p) refl e
  where
    own : (b : Bool) → same_part x.0 p ≡ b → (if b then Some x.1 else None) ≡ Some h → Some x ≡ Some (p, h)
    own true same e =
        let first : x.0 ≡ p = same_parts x.0 p same in
        let second : x.1 ≡ h = cc in
        ap (λ q. Some (q, x.1)) first ∙ ap (λ g. Some (p, g)) second
    own false same e = let f : None ≡ Some h = e in absurd (cc)

abbrev entry_or : Option Entry → Entry → Entry
entry_or None x = x
entry_or (Some y) x = y

abbrev address_of : Option SubCode → ℕ → ℕ
address_of None a = a
address_of (Some s) a = s.address

subs_listed : (subs : List SubR) (a at : ℕ) (f : SubR) → slice_get subs at ≡ Some f → (x : SubCode) × (slice_get (sub_entries subs a) at ≡ Some x) × (x.dummies ≡ copied_dummies f)
subs_listed [] a zero f e = absurd (cc)
subs_listed [] a (suc at) f e = absurd (cc)
subs_listed (x ∷ subs) a zero f e =
    let same : x ≡ f = cc in
    let entry : SubCode = record { address = a; dummies = copied_dummies x; locals = length x.locals } in
    (entry, refl, ap copied_dummies same)
subs_listed (x ∷ subs) a (suc at) f e = subs_listed subs (a + sub_size x) at f e

module _ (laws : CodesLeaveValues) (code : Listing) (all : List Entry) where
  -- the main program
  main_fine : (p : Program) → SubsListed code p.subs → Serves code Main (main_scope p) → block_keeps_rules (main_scope p) p.body ≡ true → StandsAt code.texts 0 (texts_in (codes p.body)) → HasAt code.instrs 0 (main_code p.body) → HasRun code all Main 0 (main_code p.body) (plain 0 1)
      → Target code all Main 0 (plain 0 1) × AllFine code all 0 (main_code p.body)
  main_fine p listed serves keeps texts has run =
      let is = block (codes p.body) 0 0 in
      let ends = instr.Close ∷ instr.Halt ∷ [] in
      let q = sizes (codes p.body) in
      let here : q ≡ 0 + length is = omega (arith, sized_block p.body 0 0) in
      let piece = body_piece laws code all Main (main_scope p) serves listed p.body keeps 0 0 0 1 texts in
      let has_ends = has_behind code.instrs 0 q is ends here has in
      let run_ends = run_behind code all Main 0 q is ends (plain 0 1) (plain 0 1) here piece.after run in
      let halts = slice_get_within code.instrs (q + 1) instr.Halt has_ends.1.0 in
      let rests = rests_here code all q instr.Close has_ends.0 refl in
      let close = is_fine code all Main q instr.Close (plain 0 1) run_ends.0 refl (is_there code all (q + 1) halts) refl rests (stand_in code all Main (q + 1) (plain 0 0) run_ends.1.0, tt) in
      let halt = is_fine code all Main (q + 1) instr.Halt (plain 0 0) run_ends.1.0 refl refl refl (rests_here code all (q + 1) instr.Halt has_ends.1.0 refl) tt in
      let end : Spot code all false Main q (plain 0 1) = record { target = record { inside = slice_get_within code.instrs q instr.Close has_ends.0; stands = run_ends.0 }; rests = rests; meets = tt } in
      let body = piece.fine (has_front code.instrs 0 is ends has) (run_front code all Main 0 is ends (plain 0 1) run) (subst (λ b. Spot code all false Main b (plain 0 1)) here end) in
      (body.0.target, fine_append code all 0 q is ends here body.1 (close, (halt, tt)))

  -- a subroutine
  sub_fine : (p : Program) → SubsListed code p.subs → (f : SubR) (i a k : ℕ) → Serves code (Sub i) (sub_scope p f) → block_keeps_rules (sub_scope p f) f.body ≡ true → StandsAt code.texts k (texts_in (codes f.body)) → HasAt code.instrs a (sub_code f a k) → HasRun code all (Sub i) a (sub_code f a k) (plain 0 0)
      → Target code all (Sub i) a (plain 0 0) × AllFine code all a (sub_code f a k)
  sub_fine p listed f i a k serves keeps texts has run =
      let is = block (codes f.body) a k in
      let ends = instr.Ret ∷ [] in
      let q = a + sizes (codes f.body) in
      let here : q ≡ a + length is = omega (arith, sized_block f.body a k) in
      let piece = body_piece laws code all (Sub i) (sub_scope p f) serves listed f.body keeps a k 0 0 texts in
      let has_ends = has_behind code.instrs a q is ends here has in
      let run_ends = run_behind code all (Sub i) a q is ends (plain 0 0) (plain 0 0) here piece.after run in
      let rests = rests_here code all q instr.Ret has_ends.0 refl in
      let ret = is_fine code all (Sub i) q instr.Ret (plain 0 0) run_ends.0 refl refl (meets_here code all q instr.Ret has_ends.0 refl refl (length code.instrs) (omega arith)) rests tt in
      let end : Spot code all false (Sub i) q (plain 0 0) = record { target = record { inside = slice_get_within code.instrs q instr.Ret has_ends.0; stands = run_ends.0 }; rests = rests; meets = tt } in
      let body = piece.fine (has_front code.instrs a is ends has) (run_front code all (Sub i) a is ends (plain 0 0) run) (subst (λ b. Spot code all false (Sub i) b (plain 0 0)) here end) in
      (body.0.target, fine_append code all a q is ends here body.1 (ret, tt))

  -- what is known of the entries of subroutines, of which the first has this number
  abbrev SubsStand : List SubR → ℕ → ℕ → Type 0
  SubsStand subs i a = (j : ℕ) (s : SubCode) → slice_get (sub_entries subs a) j ≡ Some s → Target code all (Sub (i + j)) s.address (plain 0 0)

  sub_serves : (p : Program) (f : SubR) (i a : ℕ) → code.objects ≡ p.objects → slice_get code.subs i ≡ Some (record { address = a; dummies = copied_dummies f; locals = length f.locals }) → Serves code (Sub i) (sub_scope p f)
  sub_serves p f i a objects there = record {
    objects = objects;
    cells =
        let local : ValueKind → FrameCell = λ k. record { kind = k; writable = true } in
        let copied : DummyR → Bool = λ d. not (is_in d.intent) in
        let sum : length (copied_dummies f) + length f.locals ≡ length (frame_cells f) =
        omega (arith, length-append (map cell_of f.dummies) (map local f.locals), length-map f.dummies cell_of, length-map f.locals local, length-map f.dummies copied) in
        ap cells_in there ∙ sum;
  }

  subs_fine : (p : Program) → SubsListed code p.subs → code.objects ≡ p.objects → (subs : List SubR) (i a k : ℕ) → ((j : ℕ) → slice_get code.subs (i + j) ≡ slice_get (sub_entries subs a) j) → list_all (sub_keeps_rules p) subs ≡ true
      → StandsAt code.texts k (subs_texts subs) → HasAt code.instrs a (subs_code subs a k) → StandsAt all a (sub_rows code subs i a k) → SubsStand subs i a × AllFine code all a (subs_code subs a k)
  subs_fine p listed objects [] i a k there keeps texts has rows = (none, tt)
    where
      none : SubsStand [] i a
      none zero s e = let f : None ≡ Some s = e in absurd (cc)
      none (suc j) s e = let f : None ≡ Some s = e in absurd (cc)
  subs_fine p listed objects (f ∷ subs) i a k there keeps texts has rows =
      let is = sub_code f a k in
      let b = a + sub_size f in
      let ts = texts_in (codes f.body) in
      let more = k + length ts in
      let here : b ≡ a + length is = omega (arith, sub_sized f a k) in
      let here' : a + length (entries code (Sub i) is (plain 0 0)) ≡ b = omega (arith, sub_sized f a k, entries_length code (Sub i) is (plain 0 0)) in
      let at_i : i + 0 ≡ i = omega arith in
      let entry = subst (λ n. slice_get code.subs n ≡ Some (record { address = a; dummies = copied_dummies f; locals = length f.locals })) at_i (there 0) in
      let own = first_true (sub_keeps_rules p f) (list_all (sub_keeps_rules p) subs) keeps in
      let body = second_true (nat_le (length f.dummies + length f.locals) 64) (block_keeps_rules (sub_scope p f) f.body) own in
      let first = sub_fine p listed f i a k (sub_serves p f i a objects entry) body (stands_front code.texts k ts (subs_texts subs) texts) (has_front code.instrs a is _ has)
      (run_of code all (Sub i) a is (plain 0 0) (stands_front all a (entries code (Sub i) is (plain 0 0)) _ rows)) in
      let next : (j : ℕ) → slice_get code.subs (suc i + j) ≡ slice_get (sub_entries subs b) j = λ j. (let e : suc i + j ≡ i + suc j = omega arith in subst (λ n. slice_get code.subs n ≡ slice_get (sub_entries subs b) j) (sym e) (there (suc j))) in
      let rest = subs_fine p listed objects subs (suc i) b more next (second_true (sub_keeps_rules p f) (list_all (sub_keeps_rules p) subs) keeps)
      (stands_back code.texts k ts (subs_texts subs) texts) (has_behind code.instrs a b is _ here has) (subst (λ n. StandsAt all n (sub_rows code subs (suc i) b more)) here' (stands_back all a (entries code (Sub i) is (plain 0 0)) _ rows)) in
      (each f subs i a first.0 rest.0, fine_append code all a b is _ here first.1 rest.1)
    where
      each : (f : SubR) (subs : List SubR) (i a : ℕ) → Target code all (Sub i) a (plain 0 0) → SubsStand subs (suc i) (a + sub_size f) → SubsStand (f ∷ subs) i a
      each f subs i a first rest zero s e =
          let at : a ≡ s.address = ap (λ (o : Option SubCode). address_of o a) e in
          let i' : i ≡ i + 0 = omega arith in
          subst (λ n. Target code all (Sub n) s.address (plain 0 0)) i' (subst (λ b. Target code all (Sub i) b (plain 0 0)) at first)
      each f subs i a first rest (suc j) s e = let i' : suc i + j ≡ i + suc j = omega arith in subst (λ n. Target code all (Sub n) s.address (plain 0 0)) i' (rest j s e)

  -- the shapes of entries
  are_shapes : length all ≡ length code.instrs → Target code all Main 0 (plain 0 1) → ((f : ℕ) (s : SubCode) → slice_get code.subs f ≡ Some s → Target code all (Sub f) s.address (plain 0 0)) → AllFine code all 0 code.instrs → AreShapes code (shapes_in all)
  are_shapes sized main subs fine = record {
    main = stand_in code all Main 0 (plain 0 1) main.stands;
    subs = λ f s e. stand_in code all (Sub f) s.address (plain 0 0) (subs f s e).stands;
    inside = λ p a h e. subst (λ n. a < n) sized (slice_get_within all a (p, h) (in_part_own p (slice_get all a) h e));
    leading = λ p a h i e at.
        let zero_a : 0 + a ≡ a = omega arith in
        let x = subst (λ n. Fine code all n i) zero_a (fine_at code all code.instrs 0 a i fine at) in
        let same : Some (x.part, x.shape) ≡ Some (p, h) = sym x.stands ∙ in_part_own p (slice_get all a) h e in
        let pair : Entry = (x.part, x.shape) in
        let same_pair : pair ≡ (p, h) = ap (λ (o : Option Entry). entry_or o pair) same in
        subst (λ (y : Entry). LeadOn (shapes_in all) y.0 (leads code y.0 a i y.1)) same_pair x.leading;
    agreeing = λ p q a h k e f.
        let same : Some (p, h) ≡ Some (q, k) = sym (in_part_own p (slice_get all a) h e) ∙ in_part_own q (slice_get all a) k f in
        let pair : Entry = (p, h) in
        ap (λ (o : Option Entry). (entry_or o pair).1) same;
  }

declared_last : (os : List Object) → list_all is_declared os ≡ true → list_all has_last_index os ≡ true
declared_last [] e = refl
declared_last (o ∷ os) e =
    let rest = declared_last os (second_true (is_declared o) (list_all is_declared os) e) in
    let first = first_true (has_last_index o) _ (first_true (is_declared o) (list_all is_declared os) e) in
    both first rest
  where
    both : has_last_index o ≡ true → list_all has_last_index os ≡ true → (has_last_index o && list_all has_last_index os) ≡ true
    both e f = ap (λ b. b && list_all has_last_index os) e ∙ f

pub keeps_rules_of : CodesLeaveValues → (p : Program) → IsAccepted p → KeepsRules (program_code p)
keeps_rules_of laws p accepted =
    let code = program_code p in
    let body = p.body in
    let main = main_code body in
    let n = main_size body in
    let ts = texts_in (codes body) in
    let k = length ts in
    let subs = subs_code p.subs n k in
    let front = entries code Main main (plain 0 1) in
    let back = sub_rows code p.subs 0 n k in
    let all : List Entry = front ++ back in
    let main_sized : n ≡ 0 + length main = omega (arith, length-append (block (codes body) 0 0) (instr.Close ∷ instr.Halt ∷ []), sized_block body 0 0) in
    let sized : length all ≡ length code.instrs = omega (arith, length-append front back, length-append main subs, entries_length code Main main (plain 0 1), rows_length code p.subs 0 n k) in
    let to_back : 0 + length front ≡ n = omega (arith, entries_length code Main main (plain 0 1), main_sized) in
    let has : HasAt code.instrs 0 (main ++ subs) = has_all (main ++ subs) [] in
    let stand : StandsAt all 0 (front ++ back) = stands_all (front ++ back) [] in
    let texts : StandsAt code.texts 0 (ts ++ subs_texts p.subs) = stands_all (ts ++ subs_texts p.subs) [] in
    let to_texts : 0 + k ≡ k = omega arith in
    let of_main = main_fine laws code all p (subs_listed p.subs n) (record { objects = refl; cells = refl }) accepted.kinds.main (stands_front code.texts 0 ts (subs_texts p.subs) texts)
    (has_front code.instrs 0 main subs has) (run_of code all Main 0 main (plain 0 1) (stands_front all 0 front back stand)) in
    let these : (j : ℕ) → slice_get code.subs (0 + j) ≡ slice_get (sub_entries p.subs n) j = λ j. (let e : 0 + j ≡ j = omega arith in ap (slice_get code.subs) e) in
    let of_subs = subs_fine laws code all p (subs_listed p.subs n) refl p.subs 0 n k these accepted.kinds.subs (subst (λ i. StandsAt code.texts i (subs_texts p.subs)) to_texts (stands_back code.texts 0 ts (subs_texts p.subs) texts))
    (has_behind code.instrs 0 n main subs main_sized has) (subst (λ i. StandsAt all i back) to_back (stands_back all 0 front back stand)) in
    let fine : AllFine code all 0 code.instrs = fine_append code all 0 n main subs main_sized of_main.1 of_subs.1 in
    record {
      objects = declared_last p.objects accepted.kinds.declared;
      instrs = λ a i e. (let zero_a : 0 + a ≡ a = omega arith in (subst (λ m. Fine code all m i) zero_a (fine_at code all code.instrs 0 a i fine e)).right);
      shapes = shapes_in all;
      shaped = are_shapes laws code all sized of_main.0 (λ f s e. (let zero_f : 0 + f ≡ f = omega arith in subst (λ m. Target code all (Sub m) s.address (plain 0 0)) zero_f (of_subs.0 f s e))) fine;
    }
