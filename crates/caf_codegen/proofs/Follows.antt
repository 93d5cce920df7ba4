-- What a code has still to do from an address on.
use Rattle.std.proofs.Common.{◌≡◌, ℕ, zero, suc, ◌+◌, ◌<◌, ◌≤◌, true, List, [], ◌∷◌, ◌++◌, length, Some, None, ℤ, refl, sym, ap, ◌∙◌, subst, arith}
use Rattle.std.specs.Prelude.{slice_get}
use Rattle.std.proofs.lemmas.Option.{slice_get_within}
use Rattle.caf_program.specs.declared.stmt.LoopVariableR.{LoopVariableR}
use Rattle.caf_program.specs.declared.stmt.LoopVariableR.TheVariants as loop_variable
use Rattle.caf_program.specs.declared.stmt.StmtR.{StmtR}
use Rattle.caf_treestep.specs.Task.{all_of}
use Rattle.caf_program.specs.declared.program.Program.{Program}
use Rattle.caf_treestep.specs.declared.todo.CopyOut.{CopyOut}
use Rattle.caf_treestep.specs.declared.todo.Todo.{Todo}
use Rattle.caf_treestep.specs.declared.todo.Todo.TheVariants as item
use Rattle.caf_code.specs.Step.{followed, go_of, settled}
use Rattle.caf_code.specs.declared.instr.Instr.{Instr}
use Rattle.caf_code.specs.declared.instr.Instr.TheVariants as instr
use Rattle.caf_code.specs.declared.listing.Listing.{Listing}
use Rattle.caf_code.specs.declared.task.Loop.{Loop}
use Rattle.caf_exprgen.specs.ExprCode.{joined}
use Rattle.caf_exprgen.specs.Placed.{HasAt}
use Rattle.caf_exprgen.specs.Words.{CodesLeaveValues}
use Rattle.caf_codegen.proofs.Fits.{is_block_fit, is_fit}
use Rattle.caf_codegen.specs.StmtCode.{StandsAt, block, codes, sizes, stmt_code, texts_in, turn_code}
use Rattle.caf_codegen.proofs.Places.{has_behind, has_front, stands_back, stands_front}
use Rattle.caf_codegen.proofs.Sized.{sized}
use Rattle.caf_codegen.proofs.Parts.{pieces_of}
use Rattle.caf_codegen.proofs.Pieces.{IsStill}
use Rattle.caf_codegen.proofs.Still.{stmt_still}
use Rattle.caf_codegen.proofs.Both.{first_true, second_true}

-- no `go` stands at the address
abbrev pub IsSettledAt : Listing → ℕ → Type 0
IsSettledAt code a = go_of (slice_get code.instrs a) ≡ None

-- how a frame ends: with the program, with a shipped task, or with a call that copies these dummies out
pub data FrameEnd : Type 0 where
  OfMain : FrameEnd
  OfShip : FrameEnd
  OfCall : List CopyOut → FrameEnd

abbrev pub IsMain : FrameEnd → Type 0
IsMain OfMain = Unit {0}
IsMain _ = ⊥

abbrev pub IsShip : FrameEnd → Type 0
IsShip OfShip = Unit {0}
IsShip _ = ⊥

-- From this address on the code does this, with these loops open, up to the end of a frame that ends so.
pub data Continues (code : Listing) (p : Program) (end : FrameEnd) : ℕ → List Todo → List Loop → Type 0 where
  past_end : (a : ℕ) → IsMain end → slice_get code.instrs a ≡ Some instr.Halt → Continues code p end a [] []
  at_close : (a : ℕ) (rest : List Todo) (loops : List Loop) → slice_get code.instrs a ≡ Some instr.Close → Continues code p end (a + 1) rest loops → Continues code p end a (item.Closes ∷ rest) loops
  at_ret : (a : ℕ) → IsShip end → slice_get code.instrs a ≡ Some instr.Ret → Continues code p end a (item.Ends ∷ []) []
  at_return : (a : ℕ) (outs : List CopyOut) → end ≡ OfCall outs → slice_get code.instrs a ≡ Some instr.Ret → Continues code p end a (item.Returns outs ∷ []) []
  at_statement : (a k : ℕ) (s : StmtR) (rest : List Todo) (loops : List Loop) → is_fit p.subs s ≡ true → HasAt code.instrs a ((stmt_code s).code a k) → StandsAt code.texts k (stmt_code s).texts
      → Continues code p end (a + (stmt_code s).size) rest loops → Continues code p end a (item.Does s ∷ rest) loops
  at_turn : (a top k : ℕ) (v : LoopVariableR) (step : ℤ) (n : ℕ) (body : List StmtR) (rest : List Todo) (loops : List Loop) → is_block_fit p.subs body ≡ true
      → HasAt code.instrs a (turn_code v top) → HasAt code.instrs top (block (codes body) top k) → StandsAt code.texts k (texts_in (codes body)) → a ≡ top + sizes (codes body)
      → Continues code p end (a + 5) rest loops → Continues code p end a (item.Turns v step n body ∷ rest) (record { iterations = n; step = step } ∷ loops)
  jumps : (a b : ℕ) (todo : List Todo) (loops : List Loop) → slice_get code.instrs a ≡ Some (instr.Go b) → a < b → Continues code p end b todo loops → Continues code p end a todo loops
  goes_back : (a b : ℕ) (todo : List Todo) (loops : List Loop) → slice_get code.instrs a ≡ Some (instr.Go b) → IsSettledAt code b → Continues code p end b todo loops → Continues code p end a todo loops

-- the same, and no `go` stands there
abbrev pub Settles : Listing → Program → FrameEnd → ℕ → List Todo → List Loop → Type 0
Settles code p end a todo loops = Continues code p end a todo loops × IsSettledAt code a

-- Where a task stands that holds these values: between two statements, where it holds none, or within a statement, where it
-- has done as many reads as it holds values.
pub data Stands (code : Listing) (p : Program) (end : FrameEnd) : List ℤ → ℕ → List Todo → List Loop → Type 0 where
  between : (a : ℕ) (todo : List Todo) (loops : List Loop) → Settles code p end a todo loops → Stands code p end [] a todo loops
  within : (held : List ℤ) (a start k : ℕ) (s : StmtR) (rest : List Todo) (loops : List Loop) (done left : List (List Instr)) → pieces_of s ≡ done ++ left → length done ≡ length held → a ≡ start + length (joined done)
      → is_fit p.subs s ≡ true → HasAt code.instrs start ((stmt_code s).code start k) → StandsAt code.texts k (stmt_code s).texts → Continues code p end (start + (stmt_code s).size) rest loops
      → Stands code p end held a (item.Does s ∷ rest) loops

pub settled_same : (instrs : List Instr) (n a : ℕ) → go_of (slice_get instrs a) ≡ None → settled instrs n a ≡ a
settled_same instrs zero a h = refl
settled_same instrs (suc n) a h = ap (λ o. followed o a (settled instrs n)) h

turn_still : (v : LoopVariableR) (top : ℕ) → IsStill (turn_code v top)
turn_still (loop_variable.Scalar o) top = refl
turn_still (loop_variable.Local k) top = refl

pub still_at : (code : Listing) (a : ℕ) (is : List Instr) → IsStill is → HasAt code.instrs a is → IsSettledAt code a
still_at code a [] still has = absurd still
still_at code a (i ∷ is) still has = ap go_of has.0 ∙ still

module _ (laws : CodesLeaveValues) (code : Listing) (p : Program) (end : FrameEnd) where
  pub stays : (a : ℕ) (todo : List Todo) (loops : List Loop) → Continues code p end a todo loops → IsSettledAt code a → (n : ℕ) → Settles code p end (settled code.instrs n a) todo loops
  stays a todo loops c h n = subst (λ b. Settles code p end b todo loops) (sym (settled_same code.instrs n a h)) (c, h)

  pub settle : (a : ℕ) (todo : List Todo) (loops : List Loop) → Continues code p end a todo loops → (n : ℕ) → length code.instrs ≤ n + a → Settles code p end (settled code.instrs n a) todo loops
  settle a _ _ (past_end _ main at) n le = stays a [] [] (past_end a main at) (ap go_of at) n
  settle a _ _ (at_close _ rest loops at c) n le = stays a (item.Closes ∷ rest) loops (at_close a rest loops at c) (ap go_of at) n
  settle a _ _ (at_ret _ ship at) n le = stays a (item.Ends ∷ []) [] (at_ret a ship at) (ap go_of at) n
  settle a _ _ (at_return _ outs call at) n le = stays a (item.Returns outs ∷ []) [] (at_return a outs call at) (ap go_of at) n
  settle a _ _ (at_statement _ k s rest loops simple has texts c) n le =
      stays a (item.Does s ∷ rest) loops (at_statement a k s rest loops simple has texts c) (still_at code a ((stmt_code s).code a k) (stmt_still laws s a k) has) n
  settle a _ _ (at_turn _ top k v step i body rest loops simple has under texts e c) n le =
      stays a (item.Turns v step i body ∷ rest) (record { iterations = i; step = step } ∷ loops) (at_turn a top k v step i body rest loops simple has under texts e c) (still_at code a (turn_code v top) (turn_still v top) has) n
  settle a todo loops (jumps _ b _ _ at lt c) zero le = absurd (omega (arith, slice_get_within code.instrs a (instr.Go b) at))
  settle a todo loops (jumps _ b _ _ at lt c) (suc n) le =
      let e : settled code.instrs n b ≡ settled code.instrs (suc n) a = sym (ap (λ o. followed (go_of o) a (settled code.instrs n)) at) in
      subst (λ d. Settles code p end d todo loops) e (settle b todo loops c n (omega arith))
  settle a todo loops (goes_back _ b _ _ at h c) zero le = absurd (omega (arith, slice_get_within code.instrs a (instr.Go b) at))
  settle a todo loops (goes_back _ b _ _ at h c) (suc n) le =
      let e : b ≡ settled code.instrs (suc n) a = sym (ap (λ o. followed (go_of o) a (settled code.instrs n)) at ∙ settled_same code.instrs n b h) in
      subst (λ d. Settles code p end d todo loops) e (c, h)

  -- a block, and then the rest
  pub block_continues : (l : List StmtR) (rest : List Todo) (loops : List Loop) (a b k : ℕ) → is_block_fit p.subs l ≡ true → b ≡ a + sizes (codes l) → HasAt code.instrs a (block (codes l) a k) → StandsAt code.texts k (texts_in (codes l))
      → Continues code p end b rest loops → Continues code p end a (all_of l ++ rest) loops
  block_continues [] rest loops a b k simple e has texts c = let e' : b ≡ a = omega arith in subst (λ n. Continues code p end n rest loops) e' c
  block_continues (s ∷ l) rest loops a b k simple e has texts c =
      let x = stmt_code s in
      let others = block (codes l) (a + x.size) (k + length x.texts) in
      let behind : a + x.size ≡ a + length (x.code a k) = omega (arith, sized s a k) in
      let back = has_behind code.instrs a (a + x.size) (x.code a k) others behind has in
      at_statement a k s (all_of l ++ rest) loops (first_true (is_fit p.subs s) (is_block_fit p.subs l) simple) (has_front code.instrs a (x.code a k) others has) (stands_front code.texts k x.texts (texts_in (codes l)) texts)
      (block_continues l rest loops (a + x.size) b (k + length x.texts) (second_true (is_fit p.subs s) (is_block_fit p.subs l) simple) (omega arith) back (stands_back code.texts k x.texts (texts_in (codes l)) texts) c)
