-- What an expression is worth: a number, where a truth value is 0 or 1, or the first trap in post-order and written
-- order. Each result is computed in exact numbers and then tested against 64 bits. An element of another image, and
-- one behind a copointer, is read before the value is taken: its value is held, in post-order and written order.
use Rattle.std.specs.Prelude.{ℕ, ◌+◌, List, [], ◌∷◌, ◌++◌, map, Ok, Err, ℤ}
use Rattle.caf_base.specs.declared.arithmetic.BinaryOperator.{BinaryOperator}
use Rattle.caf_base.specs.Arithmetic.{Answer, of_one, of_two, truth_of}
use Rattle.caf_program.specs.Seen.{Seen, element, scalar, local, held, team_rank, team_size}
use Rattle.caf_program.specs.declared.expr.TeamR.{TeamR}
use Rattle.caf_program.specs.declared.expr.ExprR.{ExprR}
use Rattle.caf_program.specs.declared.expr.ExprR.TheOpen.{ExprR-F}
use Rattle.caf_program.specs.declared.expr.ExprR.TheFolds.{fold-ExprR}

-- goes on with a number, or traps
abbrev pub after : Answer → (ℤ → Answer) → Answer
after (Err trap) go = Err trap
after (Ok z) go = go z

-- an element that is read in a Step of its own, before the statement's last Step: how its subscript and its rank are
-- evaluated
pub data Read : Type 0 where
  -- an object, a team, a subscript and a rank
  Coindexed : ℕ → TeamR → (Seen → Answer) → (Seen → Answer) → Read
  -- a copointer and a subscript
  Pointed : ℕ → (Seen → Answer) → Read

-- what an expression means, where its first held value stands at a given place in the list of held values
pub record Meaning : Type 0 where
  -- how many values it holds
  pub count : ℕ
  pub value : ℕ → Seen → Answer
  -- its reads, in post-order and written order
  pub reads : ℕ → List Read

abbrev pub Operand : Type 0
Operand = BinaryOperator × Meaning

abbrev pub counts : List Operand → ℕ
counts [] = 0
counts (p ∷ rest) = p.1.count + counts rest

-- a number and, from the left, each operator with its operand
abbrev pub chain : List Operand → ℕ → Seen → ℤ → Answer
chain [] at s a = Ok a
chain (p ∷ rest) at s a = after (p.1.value at s) (λ b. after (of_two p.0 a b) (chain rest (at + p.1.count) s))

abbrev pub chain_reads : List Operand → ℕ → List Read
chain_reads [] at = []
chain_reads (p ∷ rest) at = p.1.reads at ++ chain_reads rest (at + p.1.count)

-- a value that needs no read
abbrev pub plain : (Seen → Answer) → Meaning
plain value = record { count = 0; value = λ at s. value s; reads = λ at. [] }

abbrev pub layer : ExprR-F Meaning → Meaning
layer (ExprR-F.Number n) = plain (λ s. Ok n)
layer (ExprR-F.Truth b) = plain (λ s. Ok (truth_of b))
layer (ExprR-F.Scalar o) = plain (λ s. scalar s o)
layer (ExprR-F.Local k) = plain (λ s. Ok (local s k))
layer (ExprR-F.Element o i) = record { count = i.count; value = λ at s. after (i.value at s) (element s o); reads = i.reads }
layer (ExprR-F.Coindexed o i p) = record {
  count = i.count + p.rank.count + 1;
  value = λ at s. Ok (held s (at + i.count + p.rank.count));
  reads = λ at. i.reads at ++ p.rank.reads (at + i.count) ++ (Read.Coindexed o p.team (i.value at) (p.rank.value (at + i.count)) ∷ []);
}
layer (ExprR-F.Pointed c i) = record {
  count = i.count + 1;
  value = λ at s. Ok (held s (at + i.count));
  reads = λ at. i.reads at ++ (Read.Pointed c (i.value at) ∷ []);
}
layer (ExprR-F.Unary w a) = record { count = a.count; value = λ at s. after (a.value at s) (of_one w); reads = a.reads }
layer (ExprR-F.Chain a rest) = record {
  count = a.count + counts rest;
  value = λ at s. after (a.value at s) (chain rest (at + a.count) s);
  reads = λ at. a.reads at ++ chain_reads rest (at + a.count);
}
layer (ExprR-F.Rank t) = plain (λ s. team_rank s t)
layer (ExprR-F.Size t) = plain (λ s. team_size s t)

abbrev pub meaning : ExprR → Meaning
meaning = fold-ExprR Meaning layer

-- the value of an expression whose first held value stands at a place
abbrev pub value_at : ExprR → ℕ → Seen → Answer
value_at e = (meaning e).value

-- the value of an expression that is alone in its statement
abbrev pub value : ExprR → Seen → Answer
value e = value_at e 0

-- how many values an expression holds
abbrev pub count : ExprR → ℕ
count e = (meaning e).count

-- the reads of an expression whose first held value stands at a place
abbrev pub reads_at : ExprR → ℕ → List Read
reads_at e = (meaning e).reads

-- operators with what their operands mean
abbrev pub operands : List (BinaryOperator × ExprR) → List Operand
operands = map (λ p. (p.0, meaning p.1))
