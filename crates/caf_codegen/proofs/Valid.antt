-- The code of statements that keep the rules keeps those of a code.
use Rattle.std.proofs.Common.{◌≡◌, ℕ, suc, ◌+◌, ◌≤◌, true, false, List, [], ◌∷◌, ◌++◌, map, length, Some, refl, sym, ap, ◌∙◌, subst, arith, length-append}
use Rattle.std.specs.Prelude.{◌&&◌, slice_get}
use Rattle.std.specs.List.{flat_map, list_all}
use Rattle.std.proofs.lemmas.Option.{slice_get_within}
use Rattle.caf_program.specs.Expressions.{count_all, of_actual, of_part, of_variable, of_copy_event, of_done, of_event, of_region, of_section}
use Rattle.caf_program.specs.Kinds.{Scope, agree_in_kind, cell_kind, copointer_kind, holds_team, is_coarray, is_integer, is_logical, kind_of, names_team, scalar_kind}
use Rattle.caf_program.specs.Rules.{Keeps, Loops, all_keep, fits_copy_event, fits_done, fits_place, once_each, region_kind, section_kind, free_cell, free_object, keeps_rules, may_assign, may_count, rule_layer, variable_kind, fits_sub}
use Rattle.caf_program.specs.Value.{count}
use Rattle.caf_program.specs.declared.expr.ExprR.{ExprR}
use Rattle.caf_program.specs.declared.expr.TeamR.{TeamR}
use Rattle.caf_program.specs.declared.program.ValueKind.TheVariants.{Integer, Logical}
use Rattle.caf_program.specs.declared.stmt.LoopVariableR.{LoopVariableR}
use Rattle.caf_program.specs.declared.stmt.LoopVariableR.TheVariants as counter
use Rattle.caf_program.specs.declared.stmt.StmtR.{StmtR}
use Rattle.caf_program.specs.declared.stmt.StmtR.TheOpen.{StmtR-F}
use Rattle.caf_program.specs.declared.stmt.StmtR.TheFolds.{ind-StmtR, fold-roll-StmtR, map-StmtR}
use Rattle.caf_program.specs.declared.stmt.StmtR.TheViews.{roll-StmtR}
use Rattle.caf_code.specs.Rules.{has_operands}
use Rattle.caf_code.specs.Shapes.{Part, Shape, next_shape}
use Rattle.caf_code.specs.declared.instr.Arithmetic.TheVariants as arithmetic
use Rattle.caf_code.specs.declared.instr.Instr.{Instr}
use Rattle.caf_code.specs.declared.instr.Instr.TheVariants as instr
use Rattle.caf_code.specs.declared.listing.Listing.{Listing}
use Rattle.caf_exprgen.specs.ExprCode.{expr_code, team_name}
use Rattle.caf_exprgen.specs.Placed.{HasAt}
use Rattle.caf_exprgen.specs.Straight.{Serves, is_inner, with_operand}
use Rattle.caf_exprgen.specs.Words.{CodesLeaveValues}
use Rattle.caf_codegen.specs.StmtCode.{StandsAt, StmtCode, aim_code, asked, assign_code, copy_code, block, bounds_code, codes, do_code, finish_code, if_code, load_of, notify_code, parts_code, sizes, spawn_code, split_code, stmt_code, stmt_layer, store_of, texts_in, turn_code, wait_code, while_code, call_code}
use Rattle.caf_codegen.proofs.Places.{has_back, has_behind, has_front, stands_back, stands_front}
use Rattle.caf_codegen.proofs.Runs.{AllFine, Entry, Fine, HasRun, Piece, Rests, Spot, after_append, Target, after_all, fine_append, inner_piece, is_fine, is_there, meets_here, piece_none, piece_seq, piece_weaker, rests_back, rests_here, rests_on, run_behind, run_front, shape_or, stand_in}
use Rattle.caf_codegen.proofs.Sized.{sized, sized_block}
use Rattle.caf_codegen.proofs.Held.{GoesOnAt, begins_asked, begins_front, begins_within, first_reads, goes_on_there, marked_piece, plain, waiting, weaker, whole_piece}
use Rattle.caf_codegen.proofs.Kinded.{AreKinded, has_some, kinded}
use Rattle.caf_codegen.proofs.Both.{first_true, second_true}
use Rattle.caf_codegen.proofs.Ending.{SubsListed, aim_piece, assign_piece, cell_there, copy_piece, get_shape, notify_piece, parts_piece, scalar_there, set_shape, spawn_piece, split_piece, team_named, value_piece, wait_piece, whole_call}

module _ (laws : CodesLeaveValues) (code : Listing) (all : List Entry) (p : Part) (s : Scope) (serves : Serves code p s) (listed : SubsListed code s.subs) where
  -- a statement between others
  abbrev Good : StmtCode → Keeps → Type 0
  Good c keeps = (loops : Loops) → keeps loops ≡ true → (a k l f : ℕ) → StandsAt code.texts k c.texts → Piece code all p false false (c.code a k) a (plain l f) (plain l f)

  abbrev Kid : Type 0
  Kid = (x : StmtR) × Good (stmt_code x) (keeps_rules s x)

  abbrev kids : List Kid → List StmtR
  kids = map (λ x. x.0)

  abbrev keep : List StmtR → List Keeps
  keep = map (keeps_rules s)

  good_block : (x : List Kid) (loops : Loops) → all_keep (keep (kids x)) loops ≡ true → (a k l f : ℕ) → StandsAt code.texts k (texts_in (codes (kids x))) → Piece code all p false false (block (codes (kids x)) a k) a (plain l f) (plain l f)
  good_block [] loops keeps a k l f texts = piece_none code all p false a (plain l f)
  good_block (x ∷ more) loops keeps a k l f texts =
      let c = stmt_code x.0 in
      piece_seq code all p false false false (c.code a k) _ a (a + c.size) (plain l f) (plain l f) (plain l f) (omega (arith, sized x.0 a k))
      (x.1 loops (first_true (keeps_rules s x.0 loops) (all_keep (keep (kids more)) loops) keeps) a k l f (stands_front code.texts k c.texts (texts_in (codes (kids more))) texts))
      (good_block more loops (second_true (keeps_rules s x.0 loops) (all_keep (keep (kids more)) loops) keeps) (a + c.size) (k + length c.texts) l f (stands_back code.texts k c.texts (texts_in (codes (kids more))) texts))

  -- a test that leads to two addresses
  test_fine : (a b v l f : ℕ) → slice_get code.instrs a ≡ Some (instr.Test b) → slice_get all a ≡ Some (p, with_operand (waiting v l f)) → Target code all p b (plain l f) → Target code all p (a + 1) (plain l f)
      → Spot code all true p a (with_operand (waiting v l f)) × Fine code all a (instr.Test b)
  test_fine a b v l f has stands far near =
      let rests = rests_here code all a (instr.Test b) has refl in
      let meets = meets_here code all a (instr.Test b) has refl refl in (
        record { target = record { inside = slice_get_within code.instrs a (instr.Test b) has; stands = stands }; rests = rests; meets = meets },
        is_fine code all p a (instr.Test b) (with_operand (waiting v l f)) stands (is_there code all b far.inside) (is_there code all (a + 1) near.inside) (meets (length code.instrs) (omega arith)) rests
            (stand_in code all p b (plain l f) far.stands, (stand_in code all p (a + 1) (plain l f) near.stands, tt)),
      )

  go_fine : (a b l f : ℕ) → slice_get code.instrs a ≡ Some (instr.Go b) → slice_get all a ≡ Some (p, plain l f) → Target code all p b (plain l f) → Rests code all a → Spot code all false p a (plain l f) × Fine code all a (instr.Go b)
  go_fine a b l f has stands there rests = (
    record { target = record { inside = slice_get_within code.instrs a (instr.Go b) has; stands = stands }; rests = rests; meets = tt },
    is_fine code all p a (instr.Go b) (plain l f) stands (is_there code all b there.inside) refl refl rests (stand_in code all p b (plain l f) there.stands, tt),
  )

  -- the test of a choice or a loop
  test_piece : (e : ExprR) (a v l f : ℕ) → count_all (e ∷ []) ≤ v → is_logical (kind_of s e) ≡ true → Piece code all p true true (expr_code e 0) a (waiting v l f) (with_operand (waiting v l f))
  test_piece e a v l f le logical = let kind = has_some Logical (kind_of s e) logical in value_piece laws code all p s serves listed e 0 a kind.0 (waiting v l f) kind.1 (omega (arith, le))

  -- a choice between two blocks
  if_piece : (e : ExprR) (x y : List Kid) (loops : Loops) (a k v l f : ℕ) → count_all (e ∷ []) ≤ v → is_logical (kind_of s e) ≡ true → all_keep (keep (kids x)) loops ≡ true → all_keep (keep (kids y)) loops ≡ true
      → StandsAt code.texts k (texts_in (codes (kids x)) ++ texts_in (codes (kids y))) → Piece code all p false true ((if_code (expr_code e 0) (codes (kids x)) (codes (kids y))).code a k) a (waiting v l f) (plain l f)
  if_piece e x y loops a k v l f le logical keeps_x keeps_y texts =
      let xs = kids x in
      let ys = kids y in
      let h = plain l f in
      let h0 = waiting v l f in
      let h1 = with_operand h0 in
      let E = expr_code e 0 in
      let n = length E in
      let first = a + n + 1 in
      let behind = first + sizes (codes xs) in
      let second = behind + 1 in
      let end = second + sizes (codes ys) in
      let bx = block (codes xs) first k in
      let j = k + length (texts_in (codes xs)) in
      let by = block (codes ys) second j in
      let tail = bx ++ (instr.Go end ∷ by) in
      let value = test_piece e a v l f le logical in
      let px = good_block x loops keeps_x first k l f (stands_front code.texts k (texts_in (codes xs)) (texts_in (codes ys)) texts) in
      let py = good_block y loops keeps_y second j l f (stands_back code.texts k (texts_in (codes xs)) (texts_in (codes ys)) texts) in
      let lx : behind ≡ first + length bx = omega (arith, sized_block xs first k) in
      let ly : end ≡ second + length by = omega (arith, sized_block ys second j) in
      let whole : a + length (E ++ (instr.Test second ∷ tail)) ≡ end = omega (arith, length-append E (instr.Test second ∷ tail), length-append bx (instr.Go end ∷ by), sized_block xs first k, sized_block ys second j) in
      record {
        after = after_append code p E (instr.Test second ∷ tail) h0 ∙ ap (λ g. after_all code p (instr.Test second ∷ tail) g) value.after
            ∙ after_append code p bx (instr.Go end ∷ by) h ∙ ap (λ g. after_all code p (instr.Go end ∷ by) g) px.after ∙ py.after;
        fine = λ has run spot.
            let has_test = has_back code.instrs a E (instr.Test second ∷ tail) has in
            let run_test = run_behind code all p a (a + n) E (instr.Test second ∷ tail) h0 h1 refl value.after run in
            let has_go = has_behind code.instrs first behind bx (instr.Go end ∷ by) lx has_test.1 in
            let run_go = run_behind code all p first behind bx (instr.Go end ∷ by) h h lx px.after run_test.1 in
            let out = subst (λ b. Spot code all false p b h) whole spot in
            let of_y = py.fine has_go.1 run_go.1 (subst (λ b. Spot code all false p b h) ly out) in
            let go = go_fine behind end l f has_go.0 run_go.0 out.target (rests_on code all behind end has_go.0 (omega arith) out.rests) in
            let of_x = px.fine (has_front code.instrs first bx _ has_test.1) (run_front code all p first bx _ h run_test.1) (subst (λ b. Spot code all false p b h) lx go.0) in
            let test = test_fine (a + n) second v l f has_test.0 run_test.0 of_y.0.target of_x.0.target in
            let of_e = value.fine (has_front code.instrs a E _ has) (run_front code all p a E _ h0 run) test.0 in
            (of_e.0, fine_append code all a (a + n) E _ refl of_e.1 (test.1, fine_append code all first behind bx (instr.Go end ∷ by) lx of_x.1 (go.1, of_y.1)));
      }

  -- a loop with a test, where its statement begins at an address from which the code goes on
  while_after : (e : ExprR) (x : List Kid) (loops : Loops) (start a k v l f : ℕ) → count_all (e ∷ []) ≤ v → is_logical (kind_of s e) ≡ true → all_keep (keep (kids x)) loops ≡ true → StandsAt code.texts k (texts_in (codes (kids x)))
      → after_all code p ((while_code start (expr_code e 0) (codes (kids x))).code a k) (waiting v l f) ≡ plain l f
  while_after e x loops start a k v l f le logical keeps texts =
      let E = expr_code e 0 in
      let first = a + length E + 1 in
      let bx = block (codes (kids x)) first k in
      let back = instr.Go start ∷ [] in
      let tail = instr.Test (first + sizes (codes (kids x)) + 1) ∷ (bx ++ back) in
      after_append code p E tail (waiting v l f) ∙ ap (λ g. after_all code p tail g) (test_piece e a v l f le logical).after
      ∙ after_append code p bx back (plain l f) ∙ ap (λ g. after_all code p back g) (good_block x loops keeps first k l f texts).after

  while_piece : (e : ExprR) (x : List Kid) (loops : Loops) (start a k v l f : ℕ) → count_all (e ∷ []) ≤ v → is_logical (kind_of s e) ≡ true → all_keep (keep (kids x)) loops ≡ true → StandsAt code.texts k (texts_in (codes (kids x))) → GoesOnAt code all p start (plain l f)
      → Piece code all p false true ((while_code start (expr_code e 0) (codes (kids x))).code a k) a (waiting v l f) (plain l f)
  while_piece e x loops start a k v l f le logical keeps texts begin =
      let xs = kids x in
      let h = plain l f in
      let h0 = waiting v l f in
      let h1 = with_operand h0 in
      let E = expr_code e 0 in
      let n = length E in
      let first = a + n + 1 in
      let behind = first + sizes (codes xs) in
      let out = behind + 1 in
      let bx = block (codes xs) first k in
      let tail = bx ++ (instr.Go start ∷ []) in
      let value = test_piece e a v l f le logical in
      let px = good_block x loops keeps first k l f texts in
      let lx : behind ≡ first + length bx = omega (arith, sized_block xs first k) in
      let whole : a + length (E ++ (instr.Test out ∷ tail)) ≡ out = omega (arith, length-append E (instr.Test out ∷ tail), length-append bx (instr.Go start ∷ []), sized_block xs first k) in
      record {
        after = while_after e x loops start a k v l f le logical keeps texts;
        fine = λ has run spot.
            let has_test = has_back code.instrs a E (instr.Test out ∷ tail) has in
            let run_test = run_behind code all p a (a + n) E (instr.Test out ∷ tail) h0 h1 refl value.after run in
            let has_go = has_behind code.instrs first behind bx (instr.Go start ∷ []) lx has_test.1 in
            let run_go = run_behind code all p first behind bx (instr.Go start ∷ []) h h lx px.after run_test.1 in
            let over = subst (λ b. Spot code all false p b h) whole spot in
            let go = go_fine behind start l f has_go.0 run_go.0 begin.0 (rests_back code all behind start begin.1.0 has_go.0 begin.1.1 begin.1.2) in
            let of_x = px.fine (has_front code.instrs first bx _ has_test.1) (run_front code all p first bx _ h run_test.1) (subst (λ b. Spot code all false p b h) lx go.0) in
            let test = test_fine (a + n) out v l f has_test.0 run_test.0 over.target of_x.0.target in
            let of_e = value.fine (has_front code.instrs a E _ has) (run_front code all p a E _ h0 run) test.0 in
            (of_e.0, fine_append code all a (a + n) E _ refl of_e.1 (test.1, fine_append code all first behind bx (instr.Go start ∷ []) lx of_x.1 (go.1, tt)));
      }

  good_while : (e : ExprR) (x : List Kid) (line : ℕ) → Good (stmt_layer (StmtR-F.While line e (codes (kids x)))) (rule_layer s (StmtR-F.While line e (keep (kids x))))
  good_while e x line loops keeps a k l f texts =
      let xs = kids x in
      let h = plain l f in
      let es = e ∷ [] in
      let v = count_all es in
      let h0 = waiting v l f in
      let R = asked es 0 in
      let b = a + length R in
      let E = expr_code e 0 in
      let W = (while_code a E (codes xs)).code b k in
      let le : count_all es ≤ v = omega arith in
      let logical = first_true (is_logical (kind_of s e)) (all_keep (keep xs) loops) keeps in
      let block_keeps = second_true (is_logical (kind_of s e)) (all_keep (keep xs) loops) keeps in
      let kinds = kinded s (StmtR-F.While line e (keep xs)) loops keeps in
      let front = first_reads code all p laws s serves es a l f kinds in
      record {
        after = after_append code p R W h ∙ ap (λ g. after_all code p W g) front.after ∙ while_after e x loops a b k v l f le logical block_keeps texts;
        fine = λ has run end.
            let begins = begins_asked code all p laws s serves es W 0 kinds (begins_front E _ (begins_within E (laws.within e 0))) in
            let begin = goes_on_there code all p (R ++ W) a h begins has run in
            let last = while_piece e x loops a b k v l f le logical block_keeps texts begin in
            (piece_weaker code all p false (R ++ W) a h h (piece_seq code all p false true true R W a b h h0 h refl front last)).fine has run end;
      }

  -- the instructions of a loop's variable
  load_inner : (v : LoopVariableR) → is_inner (load_of v) ≡ true
  load_inner (counter.Scalar o) = refl
  load_inner (counter.Local n) = refl

  store_inner : (v : LoopVariableR) → is_inner (store_of v) ≡ true
  store_inner (counter.Scalar o) = refl
  store_inner (counter.Local n) = refl

  load_operands : (v : LoopVariableR) (loops : Loops) → may_count s loops v ≡ true → has_operands code (load_of v) ≡ true
  load_operands (counter.Scalar o) loops e = let kind = has_some Integer (scalar_kind (slice_get s.objects o)) (first_true (is_integer (scalar_kind (slice_get s.objects o))) (free_object loops o) e) in scalar_there laws code all p s serves listed o kind.0 kind.1
  load_operands (counter.Local n) loops e = refl

  store_operands : (v : LoopVariableR) (loops : Loops) → may_count s loops v ≡ true → has_operands code (store_of v) ≡ true
  store_operands (counter.Scalar o) loops e = load_operands (counter.Scalar o) loops e
  store_operands (counter.Local n) loops e = refl

  load_shape : (v : LoopVariableR) (loops : Loops) (w l f : ℕ) → may_count s loops v ≡ true → next_shape code p (load_of v) (waiting w l f) ≡ Some (with_operand (waiting w l f))
  load_shape (counter.Scalar o) loops w l f e = refl
  load_shape (counter.Local n) loops w l f e = let kind = has_some Integer (cell_kind (slice_get s.cells n)) (first_true (is_integer (cell_kind (slice_get s.cells n))) (free_cell s loops n) e) in get_shape laws code all p s serves listed n w l f (cell_there laws code all p s serves listed n kind.0 kind.1)

  store_shape : (v : LoopVariableR) (loops : Loops) (w l f : ℕ) → may_count s loops v ≡ true → next_shape code p (store_of v) (with_operand (waiting w l f)) ≡ Some (waiting w l f)
  store_shape (counter.Scalar o) loops w l f e = refl
  store_shape (counter.Local n) loops w l f e = let kind = has_some Integer (cell_kind (slice_get s.cells n)) (first_true (is_integer (cell_kind (slice_get s.cells n))) (free_cell s loops n) e) in set_shape laws code all p s serves listed n w l f (cell_there laws code all p s serves listed n kind.0 kind.1)

  -- the end of an iteration: it leads back to the body, and out of the loop
  turn_piece : (v : LoopVariableR) (loops : Loops) (a top l f : ℕ) → may_count s loops v ≡ true → Target code all p top (plain (suc l) f) → Piece code all p false true (turn_code v top) a (plain (suc l) f) (plain l f)
  turn_piece v loops a top l f counts there =
      let h = plain (suc l) f in
      let h1 = with_operand h in
      let h2 = with_operand h1 in
      let loads = load_shape v loops 0 (suc l) f counts in
      let stores = store_shape v loops 0 (suc l) f counts in
      piece_seq code all p false true true (load_of v ∷ []) (instr.StepBy ∷ instr.Arithmetic arithmetic.Add ∷ store_of v ∷ instr.Again top ∷ []) a (a + 1) h h1 (plain l f) refl (inner_piece code all p (load_of v) a h h1 (load_inner v) (load_operands v loops counts) loads)
      (piece_seq code all p false true true (instr.StepBy ∷ []) (instr.Arithmetic arithmetic.Add ∷ store_of v ∷ instr.Again top ∷ []) (a + 1) (a + 1 + 1) h1 h2 (plain l f) refl (inner_piece code all p instr.StepBy (a + 1) h1 h2 refl refl refl)
      (piece_seq code all p false true true (instr.Arithmetic arithmetic.Add ∷ []) (store_of v ∷ instr.Again top ∷ []) (a + 1 + 1) (a + 1 + 1 + 1) h2 h1 (plain l f) refl (inner_piece code all p (instr.Arithmetic arithmetic.Add) (a + 1 + 1) h2 h1 refl refl refl)
      (piece_seq code all p false true true (store_of v ∷ []) (instr.Again top ∷ []) (a + 1 + 1 + 1) (a + 1 + 1 + 1 + 1) h1 h (plain l f) refl (inner_piece code all p (store_of v) (a + 1 + 1 + 1) h1 h (store_inner v) (store_operands v loops counts) stores)
      (record {
        after = refl;
        fine = λ has run end.
            let b = a + 1 + 1 + 1 + 1 in
            let rests = rests_here code all b (instr.Again top) has.0 refl in
            let meets = meets_here code all b (instr.Again top) has.0 refl refl in (
              record { target = record { inside = slice_get_within code.instrs b (instr.Again top) has.0; stands = run.0 }; rests = rests; meets = meets },
              (
                is_fine code all p b (instr.Again top) h run.0 (is_there code all top there.inside) (is_there code all (b + 1) end.target.inside) (meets (length code.instrs) (omega arith)) rests
                    (stand_in code all p top h there.stands, (stand_in code all p (b + 1) (plain l f) end.target.stands, tt)),
                tt,
              ),
            );
      }))))

  -- the first of these instructions, where there is one behind
  begins_there : (is : List Instr) (i : Instr) (js : List Instr) (a : ℕ) (h : Shape) → HasAt code.instrs a (is ++ i ∷ js) → HasRun code all p a (is ++ i ∷ js) h → Target code all p a h
  begins_there [] i js a h has run = record { inside = slice_get_within code.instrs a i has.0; stands = run.0 }
  begins_there (j ∷ is) i js a h has run = record { inside = slice_get_within code.instrs a j has.0; stands = run.0 }

  -- the beginning of a loop: it leads to the body, and out of the loop
  enter_fine : (a b w l f : ℕ) → slice_get code.instrs a ≡ Some (instr.Enter b) → slice_get all a ≡ Some (p, waiting w (suc l) f) → Target code all p b (plain l f) → Target code all p (a + 1) (plain (suc l) f)
      → Spot code all true p a (waiting w (suc l) f) × Fine code all a (instr.Enter b)
  enter_fine a b w l f has stands far near =
      let rests = rests_here code all a (instr.Enter b) has refl in
      let meets = meets_here code all a (instr.Enter b) has refl refl in (
        record { target = record { inside = slice_get_within code.instrs a (instr.Enter b) has; stands = stands }; rests = rests; meets = meets },
        is_fine code all p a (instr.Enter b) (waiting w (suc l) f) stands (is_there code all b far.inside) (is_there code all (a + 1) near.inside) (meets (length code.instrs) (omega arith)) rests
            (stand_in code all p b (plain l f) far.stands, (stand_in code all p (a + 1) (plain (suc l) f) near.stands, tt)),
      )

  turn_after : (v : LoopVariableR) (loops : Loops) (top l f : ℕ) → may_count s loops v ≡ true → after_all code p (turn_code v top) (plain (suc l) f) ≡ plain l f
  turn_after v loops top l f counts =
      let h = plain (suc l) f in
      ap (λ g. after_all code p (instr.StepBy ∷ instr.Arithmetic arithmetic.Add ∷ store_of v ∷ instr.Again top ∷ []) g) (ap (shape_or h) (load_shape v loops 0 (suc l) f counts))
      ∙ ap (λ g. after_all code p (instr.Again top ∷ []) g) (ap (shape_or (with_operand h)) (store_shape v loops 0 (suc l) f counts))

  -- the three numbers of a loop
  bounds_piece : (e1 e2 e3 : ExprR) (a v l f : ℕ) → count_all (e1 ∷ e2 ∷ e3 ∷ []) ≤ v → is_integer (kind_of s e1) ≡ true → is_integer (kind_of s e2) ≡ true → is_integer (kind_of s e3) ≡ true
      → Piece code all p true true (bounds_code e1 e2 e3) a (waiting v l f) (with_operand (with_operand (with_operand (waiting v l f))))
  bounds_piece e1 e2 e3 a v l f le i1 i2 i3 =
      let h = waiting v l f in
      let h1 = with_operand h in
      let h2 = with_operand h1 in
      let h3 = with_operand h2 in
      let k1 = has_some Integer (kind_of s e1) i1 in
      let k2 = has_some Integer (kind_of s e2) i2 in
      let k3 = has_some Integer (kind_of s e3) i3 in
      let n2 = 0 + count e1 in
      let n3 = 0 + count e1 + count e2 in
      let b = a + length (expr_code e1 0) in
      let c = b + length (expr_code e2 n2) in
      piece_seq code all p true true true (expr_code e1 0) (expr_code e2 n2 ++ expr_code e3 n3) a b h h1 h3 refl (value_piece laws code all p s serves listed e1 0 a k1.0 h k1.1 (omega (arith, le)))
      (piece_seq code all p true true true (expr_code e2 n2) (expr_code e3 n3) b c h1 h2 h3 refl (value_piece laws code all p s serves listed e2 n2 b k2.0 h1 k2.1 (omega (arith, le))) (value_piece laws code all p s serves listed e3 n3 c k3.0 h2 k3.1 (omega (arith, le))))

  do_piece : (v : LoopVariableR) (e1 e2 e3 : ExprR) (x : List Kid) (loops : Loops) (a k w l f : ℕ) → count_all (e1 ∷ e2 ∷ e3 ∷ []) ≤ w → may_count s loops v ≡ true → is_integer (kind_of s e1) ≡ true → is_integer (kind_of s e2) ≡ true → is_integer (kind_of s e3) ≡ true
      → all_keep (keep (kids x)) (v ∷ loops) ≡ true → StandsAt code.texts k (texts_in (codes (kids x))) → Piece code all p false true ((do_code v (bounds_code e1 e2 e3) (codes (kids x))).code a k) a (waiting w l f) (plain l f)
  do_piece v e1 e2 e3 x loops a k w l f le counts i1 i2 i3 keeps texts =
      let xs = kids x in
      let h = plain l f in
      let i = plain (suc l) f in
      let h0 = waiting w l f in
      let h3 = with_operand (with_operand (with_operand h0)) in
      let i0 = waiting w (suc l) f in
      let B = bounds_code e1 e2 e3 in
      let n = length B in
      let c = a + n in
      let top = a + n + 3 in
      let behind = top + sizes (codes xs) in
      let out = behind + 5 in
      let bx = block (codes xs) top k in
      let turn = turn_code v top in
      let two = instr.Loop ∷ store_of v ∷ [] in
      let rest = instr.Enter out ∷ (bx ++ turn) in
      let tail = instr.Loop ∷ store_of v ∷ rest in
      let bounds = bounds_piece e1 e2 e3 a w l f le i1 i2 i3 in
      let px = good_block x (v ∷ loops) keeps top k (suc l) f texts in
      let opening = piece_seq code all p true true true (instr.Loop ∷ []) (store_of v ∷ []) c (c + 1) h3 (with_operand i0) i0 refl (inner_piece code all p instr.Loop c h3 (with_operand i0) refl refl refl)
      (inner_piece code all p (store_of v) (c + 1) (with_operand i0) i0 (store_inner v) (store_operands v loops counts) (store_shape v loops w (suc l) f counts)) in
      let lx : behind ≡ top + length bx = omega (arith, sized_block xs top k) in
      let to_top : c + 1 + 1 + 1 ≡ top = omega arith in
      let to_enter : c + 1 + 1 ≡ c + length two = omega arith in
      let whole : a + length (B ++ tail) ≡ out = omega (arith, length-append B tail, length-append bx turn, sized_block xs top k) in
      record {
        after = after_append code p B tail h0 ∙ ap (λ g. after_all code p tail g) bounds.after ∙ after_append code p two rest h3 ∙ ap (λ g. after_all code p rest g) opening.after
            ∙ after_append code p bx turn i ∙ ap (λ g. after_all code p turn g) px.after ∙ turn_after v loops top l f counts;
        fine = λ has run spot.
            let has_tail = has_back code.instrs a B tail has in
            let run_tail = run_behind code all p a c B tail h0 h3 refl bounds.after run in
            let run_enter = run_behind code all p c (c + 1 + 1) two rest h3 i0 to_enter opening.after run_tail in
            let has_body = subst (λ b. HasAt code.instrs b (bx ++ turn)) to_top has_tail.1.1.1 in
            let run_body = subst (λ b. HasRun code all p b (bx ++ turn) i) to_top run_enter.1 in
            let there = begins_there bx (load_of v) (instr.StepBy ∷ instr.Arithmetic arithmetic.Add ∷ store_of v ∷ instr.Again top ∷ []) top i has_body run_body in
            let over = subst (λ b. Spot code all false p b h) whole spot in
            let of_turn = (turn_piece v loops behind top l f counts there).fine (has_behind code.instrs top behind bx turn lx has_body) (run_behind code all p top behind bx turn i i lx px.after run_body) over in
            let of_x = px.fine (has_front code.instrs top bx turn has_body) (run_front code all p top bx turn i run_body) (subst (λ b. Spot code all false p b i) lx (weaker code all p behind i of_turn.0)) in
            let enter = enter_fine (c + 1 + 1) out w l f has_tail.1.1.0 run_enter.0 over.target (subst (λ b. Target code all p b i) (sym to_top) of_x.0.target) in
            let of_two = opening.fine (has_front code.instrs c two rest has_tail) (run_front code all p c two rest h3 run_tail) (subst (λ b. Spot code all true p b i0) to_enter enter.0) in
            let of_bounds = bounds.fine (has_front code.instrs a B tail has) (run_front code all p a B tail h0 run) of_two.0 in (
              of_bounds.0,
              fine_append code all a c B tail refl of_bounds.1
                  (fine_append code all c (c + 1 + 1) two rest to_enter of_two.1 (enter.1, subst (λ b. AllFine code all b (bx ++ turn)) (sym to_top) (fine_append code all top behind bx turn lx of_x.1 of_turn.1))),
            );
      }

  -- the end of a finish
  close_fine : (a l f : ℕ) → slice_get code.instrs a ≡ Some instr.Close → slice_get all a ≡ Some (p, plain l (suc f)) → Target code all p (a + 1) (plain l f) → Spot code all false p a (plain l (suc f)) × Fine code all a instr.Close
  close_fine a l f has stands near =
      let rests = rests_here code all a instr.Close has refl in (
        record { target = record { inside = slice_get_within code.instrs a instr.Close has; stands = stands }; rests = rests; meets = tt },
        is_fine code all p a instr.Close (plain l (suc f)) stands refl (is_there code all (a + 1) near.inside) refl rests (stand_in code all p (a + 1) (plain l f) near.stands, tt),
      )

  finish_piece : (t : TeamR) (x : List Kid) (loops : Loops) (a k v l f : ℕ) → names_team s t ≡ true → all_keep (keep (kids x)) loops ≡ true → StandsAt code.texts k (texts_in (codes (kids x)))
      → Piece code all p false true ((finish_code (team_name t) (codes (kids x))).code a k) a (waiting v l f) (plain l f)
  finish_piece t x loops a k v l f named keeps texts =
      let xs = kids x in
      let h = plain l f in
      let h0 = waiting v l f in
      let inside = plain l (suc f) in
      let i = instr.Finish (team_name t) in
      let bx = block (codes xs) (a + 1) k in
      let behind = a + 1 + sizes (codes xs) in
      let lx : behind ≡ a + 1 + length bx = omega (arith, sized_block xs (a + 1) k) in
      let whole : a + length (i ∷ (bx ++ (instr.Close ∷ []))) ≡ behind + 1 = omega (arith, length-append bx (instr.Close ∷ []), sized_block xs (a + 1) k) in
      let px = good_block x loops keeps (a + 1) k l (suc f) texts in
      let first = marked_piece code all p i a h0 inside refl refl refl (team_named laws code all p s serves listed t named) refl refl refl refl in
      record {
        after = after_append code p bx (instr.Close ∷ []) inside ∙ ap (λ g. after_all code p (instr.Close ∷ []) g) px.after;
        fine = λ has run spot.
            let has_close = has_behind code.instrs (a + 1) behind bx (instr.Close ∷ []) lx has.1 in
            let run_close = run_behind code all p (a + 1) behind bx (instr.Close ∷ []) inside inside lx px.after run.1 in
            let out = subst (λ b. Spot code all false p b h) whole spot in
            let close = close_fine behind l f has_close.0 run_close.0 out.target in
            let of_x = px.fine (has_front code.instrs (a + 1) bx _ has.1) (run_front code all p (a + 1) bx _ inside run.1) (subst (λ b. Spot code all false p b inside) lx close.0) in
            let of_i = first.fine (has.0, tt) (run.0, tt) of_x.0 in
            (of_i.0, (of_i.1.0, fine_append code all (a + 1) behind bx (instr.Close ∷ []) lx of_x.1 (close.1, tt)));
      }

  -- the reads of expressions, and a last Step that keeps the rules wherever it stands and as many values are held
  with_reads : (es : List ExprR) (is : ℕ → List Instr) (a l f : ℕ) → AreKinded s es → ((b v : ℕ) → count_all es ≤ v → Piece code all p false true (is b) b (waiting v l f) (plain l f)) → Piece code all p false false (asked es 0 ++ is (a + length (asked es 0))) a (plain l f) (plain l f)
  with_reads es is a l f kinds last = let b = a + length (asked es 0) in whole_piece code all p laws s serves es (is b) a l f kinds (last b (count_all es) (omega arith))

  -- any statement
  good_layer : (y : StmtR-F Kid) → Good (stmt_layer (map-StmtR StmtR StmtCode stmt_code (map-StmtR Kid StmtR (λ x. x.0) y))) (rule_layer s (map-StmtR StmtR Keeps (keeps_rules s) (map-StmtR Kid StmtR (λ x. x.0) y)))
  good_layer (StmtR-F.Assign line x e) = λ loops keeps a k l f texts.
      let agree = first_true (agree_in_kind (variable_kind s x) (kind_of s e)) (may_assign s loops x) keeps in
      with_reads (of_variable x ++ (e ∷ [])) (λ b. assign_code x e) a l f (kinded s (StmtR-F.Assign line x e) loops keeps) (λ b v le. assign_piece laws code all p s serves listed x e b v l f le agree)
  good_layer (StmtR-F.Print line parts) = λ loops keeps a k l f texts.
      with_reads (flat_map of_part parts) (λ b. parts_code parts 0 k) a l f (kinded s (StmtR-F.Print line parts) loops keeps) (λ b v le. parts_piece laws code all p s serves listed parts 0 k b v l f (omega (arith, le)) keeps texts)
  good_layer (StmtR-F.If line e x y) = λ loops keeps a k l f texts.
      let xs = kids x in
      let ys = kids y in
      let test = is_logical (kind_of s e) in
      let front = first_true (test && all_keep (keep xs) loops) (all_keep (keep ys) loops) keeps in
      let logical = first_true test (all_keep (keep xs) loops) front in
      let keeps_x = second_true test (all_keep (keep xs) loops) front in
      let keeps_y = second_true (test && all_keep (keep xs) loops) (all_keep (keep ys) loops) keeps in
      with_reads (e ∷ []) (λ b. (if_code (expr_code e 0) (codes xs) (codes ys)).code b k) a l f (kinded s (StmtR-F.If line e (keep xs) (keep ys)) loops keeps) (λ b v le. if_piece e x y loops b k v l f le logical keeps_x keeps_y texts)
  good_layer (StmtR-F.Do line c e1 e2 e3 x) = λ loops keeps a k l f texts.
      let xs = kids x in
      let counts = may_count s loops c in
      let i1 = is_integer (kind_of s e1) in
      let i2 = is_integer (kind_of s e2) in
      let i3 = is_integer (kind_of s e3) in
      let more = all_keep (keep xs) (c ∷ loops) in
      let k3 = first_true (counts && i1 && i2 && i3) more keeps in
      let k2 = first_true (counts && i1 && i2) i3 k3 in
      let k1 = first_true (counts && i1) i2 k2 in
      let keeps_x = second_true (counts && i1 && i2 && i3) more keeps in
      with_reads (e1 ∷ e2 ∷ e3 ∷ []) (λ b. (do_code c (bounds_code e1 e2 e3) (codes xs)).code b k) a l f (kinded s (StmtR-F.Do line c e1 e2 e3 (keep xs)) loops keeps)
      (λ b v le. do_piece c e1 e2 e3 x loops b k v l f le (first_true counts i1 k1) (second_true counts i1 k1) (second_true (counts && i1) i2 k2) (second_true (counts && i1 && i2) i3 k3) keeps_x texts)
  good_layer (StmtR-F.While line e x) = good_while e x line
  good_layer (StmtR-F.Call line i xs) = λ loops keeps a k l f texts.
      with_reads (flat_map of_actual xs) (λ b. call_code i xs) a l f (kinded s (StmtR-F.Call line i xs) loops keeps) (λ b v le. whole_call laws code all p s serves listed loops i (slice_get s.subs i) xs b v l f refl le keeps)
  good_layer (StmtR-F.Aim line c r) = λ loops keeps a k l f texts.
      let agree = first_true (agree_in_kind (copointer_kind (slice_get s.objects c)) (region_kind s r)) (is_coarray (slice_get s.objects r.object)) keeps in
      with_reads (of_region r) (λ b. aim_code c r) a l f (kinded s (StmtR-F.Aim line c r) loops keeps) (λ b v le. aim_piece laws code all p s serves listed c r b v l f le agree)
  good_layer (StmtR-F.Spawn line e i ys q) = λ loops keeps a k l f texts.
      let sub = slice_get s.subs i in
      let front = first_true (fits_done s e && fits_sub s loops sub ys) (fits_place s q) keeps in
      let fits_e = first_true (fits_done s e) (fits_sub s loops sub ys) front in
      let fits_ys = second_true (fits_done s e) (fits_sub s loops sub ys) front in
      let fits_q = second_true (fits_done s e && fits_sub s loops sub ys) (fits_place s q) keeps in
      with_reads (of_done e ++ flat_map of_actual ys ++ (q.rank ∷ [])) (λ b. spawn_code e i ys q) a l f (kinded s (StmtR-F.Spawn line e i ys q) loops keeps) (λ b v le. spawn_piece laws code all p s serves listed loops e i ys q sub b v l f refl le fits_e fits_ys fits_q)
  good_layer (StmtR-F.Copy line dest source es) = λ loops keeps a k l f texts.
      let agree = agree_in_kind (section_kind s dest) (section_kind s source) in
      let timed = list_all (fits_copy_event s) es in
      let front = first_true (agree && timed) (once_each es) keeps in
      let once = second_true (agree && timed) (once_each es) keeps in
      with_reads (of_section dest ++ of_section source ++ flat_map of_copy_event es) (λ b. copy_code dest source es) a l f (kinded s (StmtR-F.Copy line dest source es) loops keeps)
      (λ b v le. copy_piece laws code all p s serves listed dest source es b v l f le once (first_true agree timed front) (second_true agree timed front))
  good_layer (StmtR-F.Notify line e) = λ loops keeps a k l f texts. with_reads (of_event e) (λ b. notify_code e) a l f (kinded s (StmtR-F.Notify line e) loops keeps) (λ b v le. notify_piece laws code all p s serves listed e b v l f le keeps)
  good_layer (StmtR-F.Wait line e) = λ loops keeps a k l f texts. with_reads (e.index ∷ []) (λ b. wait_code e) a l f (kinded s (StmtR-F.Wait line e) loops keeps) (λ b v le. wait_piece laws code all p s serves listed e b v l f le keeps)
  good_layer (StmtR-F.Cofence line down) = λ loops keeps a k l f texts.
      with_reads [] (λ b. instr.Cofence down ∷ []) a l f tt (λ b v le. marked_piece code all p (instr.Cofence down) b (waiting v l f) (plain l f) refl refl refl refl refl refl refl refl)
  good_layer (StmtR-F.Split line t colour key o) = λ loops keeps a k l f texts.
      let named = names_team s t in
      let i1 = is_integer (kind_of s colour) in
      let i2 = is_integer (kind_of s key) in
      let k2 = first_true (named && i1 && i2) (holds_team (slice_get s.objects o)) keeps in
      let k1 = first_true (named && i1) i2 k2 in
      let new = second_true (named && i1 && i2) (holds_team (slice_get s.objects o)) keeps in
      with_reads (colour ∷ key ∷ []) (λ b. split_code t colour key o) a l f (kinded s (StmtR-F.Split line t colour key o) loops keeps)
      (λ b v le. split_piece laws code all p s serves listed t colour key o b v l f le (first_true named i1 k1) (second_true named i1 k1) (second_true (named && i1) i2 k2) new)
  good_layer (StmtR-F.Finish line t x) = λ loops keeps a k l f texts.
      let xs = kids x in
      let named = first_true (names_team s t) (all_keep (keep xs) loops) keeps in
      let keeps_x = second_true (names_team s t) (all_keep (keep xs) loops) keeps in
      with_reads [] (λ b. (finish_code (team_name t) (codes xs)).code b k) a l f tt (λ b v le. finish_piece t x loops b k v l f named keeps_x texts)

  good : (x : StmtR) → Good (stmt_code x) (keeps_rules s x)
  good = ind-StmtR (λ x. Good (stmt_code x) (keeps_rules s x)) (λ x y is.
      let P : StmtR-F StmtR → Type 0 = λ z. Good (stmt_code (roll-StmtR z)) (keeps_rules s (roll-StmtR z)) in
      let z : StmtR-F StmtR = map-StmtR Kid StmtR (λ x. x.0) y in
      let A : StmtCode → Type 0 = λ c. Good c (keeps_rules s (roll-StmtR z)) in
      let B : Keeps → Type 0 = λ r. Good (stmt_layer (map-StmtR StmtR StmtCode stmt_code z)) r in
      subst P is (subst A (sym (fold-roll-StmtR StmtCode stmt_layer z)) (subst B (sym (fold-roll-StmtR Keeps (rule_layer s) z)) (good_layer y))))

  -- the statements of a part
  pub body_piece : (x : List StmtR) → list_all (λ statement. keeps_rules s statement []) x ≡ true → (a k l f : ℕ) → StandsAt code.texts k (texts_in (codes x)) → Piece code all p false false (block (codes x) a k) a (plain l f) (plain l f)
  body_piece [] keeps a k l f texts = piece_none code all p false a (plain l f)
  body_piece (x ∷ more) keeps a k l f texts =
      let c = stmt_code x in
      let rest = list_all (λ statement. keeps_rules s statement []) more in
      piece_seq code all p false false false (c.code a k) _ a (a + c.size) (plain l f) (plain l f) (plain l f) (omega (arith, sized x a k))
      (good x [] (first_true (keeps_rules s x []) rest keeps) a k l f (stands_front code.texts k c.texts (texts_in (codes more)) texts))
      (body_piece more (second_true (keeps_rules s x []) rest keeps) (a + c.size) (k + length c.texts) l f (stands_back code.texts k c.texts (texts_in (codes more)) texts))
