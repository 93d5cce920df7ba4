-- The code of an expression leaves its value, or meets its trap.
use Rattle.std.proofs.Common.{◌≡◌, ℕ, zero, suc, ◌+◌, true, List, [], ◌∷◌, ◌++◌, length, map, Option, Some, None, Ok, Err, ℤ, pos, refl, sym, ap, ◌∙◌, subst, arith, length-append}
use Rattle.std.specs.Prelude.{slice_get, slice_index_or}
use Rattle.caf_base.specs.declared.arithmetic.BinaryOperator.{BinaryOperator}
use Rattle.caf_base.specs.declared.arithmetic.BinaryOperator.TheVariants as binary
use Rattle.caf_base.specs.declared.arithmetic.UnaryOperator.{UnaryOperator}
use Rattle.caf_base.specs.declared.arithmetic.UnaryOperator.TheVariants as unary
use Rattle.caf_base.specs.declared.fence.FenceClear.{FenceClear}
use Rattle.caf_base.specs.declared.team.Team.{Team}
use Rattle.caf_base.specs.Arithmetic.{Answer, of_one, of_two, truth_of}
use Rattle.caf_base.specs.ImageMemory.{ImageMemory}
use Rattle.caf_base.specs.Orders.{team_set}
use Rattle.caf_base.specs.Places.{bind}
use Rattle.caf_base.specs.Team.{rank_or_first}
use Rattle.caf_program.specs.declared.expr.ExprR.{ExprR}
use Rattle.caf_program.specs.declared.expr.ExprR.TheOpen.{ExprR-F}
use Rattle.caf_program.specs.declared.expr.ExprR.TheFolds.{ind-ExprR, fold-roll-ExprR, map-ExprR}
use Rattle.caf_program.specs.declared.expr.ExprR.TheViews.{roll-ExprR}
use Rattle.caf_program.specs.declared.expr.TeamR.{TeamR}
use Rattle.caf_program.specs.declared.expr.TeamR.TheVariants as team
use Rattle.caf_program.specs.Seen.{element, held, local, rank_among, scalar, size_of, team_rank, team_size}
use Rattle.caf_program.specs.Value.{Meaning, after, chain, counts, count, layer, meaning, operands, value_at}
use Rattle.caf_code.specs.Did.{Did, Goes, Stops, Blocks, Fails, Lacks, answers}
use Rattle.caf_code.specs.Numbers.{One, Two, binary_instr, does_operator, unary_instr}
use Rattle.caf_code.specs.Step.{does, does_at, exec, then_run}
use Rattle.caf_code.specs.Task.{Task, past}
use Rattle.caf_code.specs.Teams.{of_team}
use Rattle.caf_code.specs.declared.instr.Instr.{Instr}
use Rattle.caf_code.specs.declared.instr.TeamQuery.TheVariants as query
use Rattle.caf_code.specs.declared.listing.Listing.{Listing}
use Rattle.caf_exprgen.specs.ExprCode.{Coded, chain_code, code_layer, coded, coded_counts, coded_operands, expr_code, team_name}
use Rattle.caf_exprgen.specs.Leaves.{Appends, Leaves, seen_by}
use Rattle.caf_exprgen.specs.Placed.{HasAt}
use Rattle.caf_exprgen.proofs.Placed.{has_back, has_front}

then_run_split : (d : Did) (f g h : Task → ImageMemory → Did) → ((t : Task) (m : ImageMemory) → h t m ≡ then_run (f t m) g) → then_run d h ≡ then_run (then_run d f) g
then_run_split (Goes t m) f g h e = e t m
then_run_split (Stops x t m) f g h e = refl
then_run_split (Blocks n) f g h e = refl
then_run_split (Fails trap m) f g h e = refl
then_run_split (Lacks m) f g h e = refl

two_does : (code : Listing) (clear : FenceClear) (w : BinaryOperator) (t : Task) (m : ImageMemory) → does code clear (binary_instr w) t m ≡ does_operator (Two w) t m
two_does code clear binary.Add t m = refl
two_does code clear binary.Subtract t m = refl
two_does code clear binary.Multiply t m = refl
two_does code clear binary.Divide t m = refl
two_does code clear binary.Modulo t m = refl
two_does code clear binary.Minimum t m = refl
two_does code clear binary.Maximum t m = refl
two_does code clear binary.Equal t m = refl
two_does code clear binary.NotEqual t m = refl
two_does code clear binary.Less t m = refl
two_does code clear binary.LessEqual t m = refl
two_does code clear binary.Greater t m = refl
two_does code clear binary.GreaterEqual t m = refl
two_does code clear binary.And t m = refl
two_does code clear binary.Or t m = refl
two_does code clear binary.Equivalent t m = refl
two_does code clear binary.NotEquivalent t m = refl

one_does : (code : Listing) (clear : FenceClear) (w : UnaryOperator) (t : Task) (m : ImageMemory) → does code clear (unary_instr w) t m ≡ does_operator (One w) t m
one_does code clear unary.Negate t m = refl
one_does code clear unary.Absolute t m = refl
one_does code clear unary.Not t m = refl

-- a team's rank and size, as instructions and as expressions see them
rank_set : (o : Option Team) (image : ℕ) → bind (team_set o) (λ x. Ok (pos (rank_or_first x.members image))) ≡ rank_among o image
rank_set None image = refl
rank_set (Some x) image = refl

size_set : (o : Option Team) → bind (team_set o) (λ x. Ok (pos (length x.members))) ≡ size_of o
size_set None = refl
size_set (Some x) = refl

rank_same : (x : TeamR) (t : Task) (m : ImageMemory) → of_team query.Rank m (team_name x) ≡ team_rank (seen_by t m) x
rank_same team.World t m = refl
rank_same (team.Object o) t m = rank_set (slice_index_or m.teams o None) m.image

size_same : (x : TeamR) (t : Task) (m : ImageMemory) → of_team query.Size m (team_name x) ≡ team_size (seen_by t m) x
size_same team.World t m = refl
size_same (team.Object o) t m = size_set (slice_index_or m.teams o None)

-- past m and then n instructions
past_past : (m n : ℕ) (st st' : List ℤ) (t : Task) → past n st (past m st' t) ≡ past (m + n) st t
past_past m n st st' t = let e : t.address + m + n ≡ t.address + (m + n) = omega arith in ap (λ a. record t { address = a; frame = record t.frame { stack = st } }) e

answers_past : (a : Answer) (m n : ℕ) (st st' : List ℤ) (t : Task) (mem : ImageMemory) → answers a n st (past m st' t) mem ≡ answers a (m + n) st t mem
answers_past (Err trap) m n st st' t mem = refl
answers_past (Ok z) m n st st' t mem = ap (λ u. Goes u mem) (past_past m n (z ∷ st) st' t)

goes_on : (a : Answer) (n : ℕ) (st : List ℤ) (t : Task) (m : ImageMemory) → then_run (answers a n st t m) Goes ≡ answers a n st t m
goes_on (Err trap) n st t m = refl
goes_on (Ok z) n st t m = refl

module _ (code : Listing) (clear : FenceClear) where
  exec_split : (m n : ℕ) (t : Task) (mem : ImageMemory) → exec code clear (m + n) t mem ≡ then_run (exec code clear m t mem) (exec code clear n)
  exec_split zero n t mem = let e : 0 + n ≡ n = omega arith in ap (λ i. exec code clear i t mem) e
  exec_split (suc m) n t mem =
      let e : suc m + n ≡ suc (m + n) = omega arith in
      ap (λ i. exec code clear i t mem) e ∙ then_run_split (does_at code clear (slice_get code.instrs t.address) t mem) (exec code clear m) (exec code clear n) (exec code clear (m + n)) (exec_split m n)

  -- a value, and what is done with it
  then_gives : (m n : ℕ) (t : Task) (mem : ImageMemory) (a : Answer) (f : ℤ → Answer) (st1 st : List ℤ) → exec code clear m t mem ≡ answers a m st1 t mem
      → ((z : ℤ) → exec code clear n (past m (z ∷ st1) t) mem ≡ answers (f z) n st (past m (z ∷ st1) t) mem) → exec code clear (m + n) t mem ≡ answers (after a f) (m + n) st t mem
  then_gives m n t mem (Err trap) f st1 st e g = exec_split m n t mem ∙ ap (λ d. then_run d (exec code clear n)) e
  then_gives m n t mem (Ok z) f st1 st e g = exec_split m n t mem ∙ ap (λ d. then_run d (exec code clear n)) e ∙ g z ∙ answers_past (f z) m n st (z ∷ st1) t mem

  -- the instructions give the answer from this task
  record Gives (is : List Instr) (a : Answer) (st : List ℤ) (t : Task) (m : ImageMemory) : Type 0 where
    by : HasAt code.instrs t.address is → exec code clear (length is) t m ≡ answers a (length is) st t m

  gives_one : (i : Instr) (a : Answer) (st : List ℤ) (t : Task) (m : ImageMemory) → does code clear i t m ≡ answers a 1 st t m → Gives (i ∷ []) a st t m
  gives_one i a st t m e = record { by = λ has. ap (λ o. then_run (does_at code clear o t m) Goes) has.0 ∙ ap (λ d. then_run d Goes) e ∙ goes_on a 1 st t m }

  gives_seq : (is js : List Instr) (a : Answer) (f : ℤ → Answer) (st1 st : List ℤ) (t : Task) (m : ImageMemory) → Gives is a st1 t m → ((z : ℤ) → Gives js (f z) st (past (length is) (z ∷ st1) t) m) → Gives (is ++ js) (after a f) st t m
  gives_seq is js a f st1 st t m g h = record {
    by = λ has.
        let e : length is + length js ≡ length (is ++ js) = sym (length-append is js) in
        subst (λ n. exec code clear n t m ≡ answers (after a f) n st t m) e
        (then_gives (length is) (length js) t m a f st1 st (g.by (has_front code.instrs t.address is js has)) (λ z. (h z).by (has_back code.instrs t.address is js has)));
  }

  gives_none : (z : ℤ) (st : List ℤ) (n : ℕ) (t : Task) (m : ImageMemory) → Gives [] (Ok z) st (past n (z ∷ st) t) m
  gives_none z st n t m = record {
    by = λ has.
        let e : t.address + n ≡ t.address + n + 0 = omega arith in
        ap (λ a. Goes (record t { address = a; frame = record t.frame { stack = z ∷ st } }) m) e;
  }

  -- the code of an expression gives its value or trap, from any operand stack
  record Fits (x : Meaning) (c : Coded) : Type 0 where
    count : c.count ≡ x.count
    gives : (k k' : ℕ) (t : Task) (m : ImageMemory) → k ≡ k' → Gives (c.code k) (x.value k' (seen_by t m)) t.frame.stack t m

  abbrev HasFit : ExprR → Type 0
  HasFit e = Fits (meaning e) (coded e)

  abbrev Kid : Type 0
  Kid = (e : ExprR) × HasFit e

  abbrev kids : List (BinaryOperator × Kid) → List (BinaryOperator × ExprR)
  kids = map (λ p. (p.0, p.1.0))

  counts_rest : (rest : List (BinaryOperator × Kid)) → coded_counts (coded_operands (kids rest)) ≡ counts (operands (kids rest))
  counts_rest [] = refl
  counts_rest (p ∷ rest) = omega (arith, p.1.1.count, counts_rest rest)

  -- further operands
  rest_gives : (rest : List (BinaryOperator × Kid)) (k k' : ℕ) (z : ℤ) (st : List ℤ) (n : ℕ) (t : Task) (m : ImageMemory) → k ≡ k'
      → Gives (chain_code (coded_operands (kids rest)) k) (chain (operands (kids rest)) k' (seen_by t m) z) st (past n (z ∷ st) t) m
  rest_gives [] k k' z st n t m e = gives_none z st n t m
  rest_gives (p ∷ rest) k k' z st n t m e =
      let w = p.0 in
      let c = coded p.1.0 in
      let x = meaning p.1.0 in
      let next : k + c.count ≡ k' + x.count = omega (arith, p.1.1.count) in
      let others = chain_code (coded_operands (kids rest)) (k + c.count) in
      let values = chain (operands (kids rest)) (k' + x.count) (seen_by t m) in
      let t1 = past n (z ∷ st) t in
      gives_seq (c.code k) (binary_instr w ∷ others) (x.value k' (seen_by t m)) (λ b. after (of_two w z b) values) (z ∷ st) st t1 m
      (p.1.1.gives k k' t1 m e)
      (λ b.
      let t2 = past (length (c.code k)) (b ∷ z ∷ st) t1 in
      gives_seq (binary_instr w ∷ []) others (of_two w z b) values st st t2 m (gives_one (binary_instr w) (of_two w z b) st t2 m (two_does code clear w t2 m))
      (λ y. rest_gives rest (k + c.count) (k' + x.count) y st 1 t2 m next))

  held_same : (k k' : ℕ) (t : Task) (m : ImageMemory) → k ≡ k' → Goes (past 1 (held (seen_by t m) k ∷ t.frame.stack) t) m ≡ Goes (past 1 (held (seen_by t m) k' ∷ t.frame.stack) t) m
  held_same k k' t m e = ap (λ n. Goes (past 1 (held (seen_by t m) n ∷ t.frame.stack) t) m) e

  fits_layer : (y : ExprR-F Kid) → Fits (layer (map-ExprR ExprR Meaning meaning (map-ExprR Kid ExprR (λ e. e.0) y))) (code_layer (map-ExprR ExprR Coded coded (map-ExprR Kid ExprR (λ e. e.0) y)))
  fits_layer (ExprR-F.Number n) = record { count = refl; gives = λ k k' t m e. gives_one _ (Ok n) t.frame.stack t m refl }
  fits_layer (ExprR-F.Truth b) = record { count = refl; gives = λ k k' t m e. gives_one _ (Ok (truth_of b)) t.frame.stack t m refl }
  fits_layer (ExprR-F.Scalar o) = record { count = refl; gives = λ k k' t m e. gives_one _ (scalar (seen_by t m) o) t.frame.stack t m refl }
  fits_layer (ExprR-F.Local n) = record { count = refl; gives = λ k k' t m e. gives_one _ (Ok (local (seen_by t m) n)) t.frame.stack t m refl }
  fits_layer (ExprR-F.Element o i) = record {
    count = i.1.count;
    gives = λ k k' t m e.
        gives_seq (expr_code i.0 k) _ (value_at i.0 k' (seen_by t m)) (element (seen_by t m) o) t.frame.stack t.frame.stack t m (i.1.gives k k' t m e) (λ z. gives_one _ (element (seen_by t m) o z) t.frame.stack _ m refl);
  }
  fits_layer (ExprR-F.Coindexed o i p) = record {
    count = omega (arith, p.rank.1.count, i.1.count);
    gives = λ k k' t m e.
        let same : k + (coded i.0).count + (coded p.rank.0).count ≡ k' + count i.0 + count p.rank.0 = omega (arith, p.rank.1.count, i.1.count) in
        gives_one _ (Ok (held (seen_by t m) (k' + count i.0 + count p.rank.0))) t.frame.stack t m (held_same (k + (coded i.0).count + (coded p.rank.0).count) (k' + count i.0 + count p.rank.0) t m same);
  }
  fits_layer (ExprR-F.Pointed c i) = record {
    count = omega (arith, i.1.count);
    gives = λ k k' t m e.
        let same : k + (coded i.0).count ≡ k' + count i.0 = omega (arith, i.1.count) in
        gives_one _ (Ok (held (seen_by t m) (k' + count i.0))) t.frame.stack t m (held_same (k + (coded i.0).count) (k' + count i.0) t m same);
  }
  fits_layer (ExprR-F.Unary w a) = record {
    count = a.1.count;
    gives = λ k k' t m e.
        gives_seq (expr_code a.0 k) _ (value_at a.0 k' (seen_by t m)) (of_one w) t.frame.stack t.frame.stack t m (a.1.gives k k' t m e) (λ z. gives_one _ (of_one w z) t.frame.stack _ m (one_does code clear w _ m));
  }
  fits_layer (ExprR-F.Chain a rest) = record {
    count = omega (arith, a.1.count, counts_rest rest);
    gives = λ k k' t m e.
        let st = t.frame.stack in
        let next : k + (coded a.0).count ≡ k' + count a.0 = omega (arith, a.1.count) in
        gives_seq (expr_code a.0 k) (chain_code (coded_operands (kids rest)) (k + (coded a.0).count)) (value_at a.0 k' (seen_by t m)) (chain (operands (kids rest)) (k' + count a.0) (seen_by t m)) st st t m (a.1.gives k k' t m e)
        (λ x. rest_gives rest (k + (coded a.0).count) (k' + count a.0) x st (length (expr_code a.0 k)) t m next);
  }
  fits_layer (ExprR-F.Rank x) = record { count = refl; gives = λ k k' t m e. gives_one _ (team_rank (seen_by t m) x) t.frame.stack t m (ap (λ a. answers a 1 t.frame.stack t m) (rank_same x t m)) }
  fits_layer (ExprR-F.Size x) = record { count = refl; gives = λ k k' t m e. gives_one _ (team_size (seen_by t m) x) t.frame.stack t m (ap (λ a. answers a 1 t.frame.stack t m) (size_same x t m)) }

  has_fit : (e : ExprR) → HasFit e
  has_fit = ind-ExprR HasFit (λ x y is.
      let P : ExprR-F ExprR → Type 0 = λ z. HasFit (roll-ExprR z) in
      let z : ExprR-F ExprR = map-ExprR Kid ExprR (λ e. e.0) y in
      let M : Meaning → Type 0 = λ v. Fits v (coded (roll-ExprR z)) in
      let C : Coded → Type 0 = λ c. Fits (layer (map-ExprR ExprR Meaning meaning z)) c in
      subst P is (subst M (sym (fold-roll-ExprR Meaning layer z)) (subst C (sym (fold-roll-ExprR Coded code_layer z)) (fits_layer y))))

abbrev empty_code : Listing
empty_code = record { objects = []; subs = []; texts = []; instrs = [] }

-- both count the values that are held alike
pub coded_count : (e : ExprR) → (coded e).count ≡ count e
coded_count e = (has_fit empty_code (record { reads = true; writes = true }) e).count

-- from any operand stack the code leaves the value on the stack, or meets the trap
pub expr_leaves : (e : ExprR) (k : ℕ) → Leaves e k (expr_code e k)
expr_leaves e k code clear t m has = ((has_fit code clear e).gives k k t m refl).by has

pub appends : (e : ExprR) (k : ℕ) (before whole : List Instr) → whole ≡ before ++ expr_code e k → Appends e k before whole
appends e k before whole is = record { code = expr_code e k; is = is; leaves = expr_leaves e k }
