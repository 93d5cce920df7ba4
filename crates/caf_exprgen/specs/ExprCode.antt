-- The instructions of an expression: its operands from the left, and then its operator. What it reads of another image,
-- and behind a copointer, is read before, and held: each such read has instructions of its own.
use Rattle.std.specs.Prelude.{ℕ, ◌+◌, List, [], ◌∷◌, ◌++◌, map}
use Rattle.caf_base.specs.declared.arithmetic.BinaryOperator.{BinaryOperator}
use Rattle.caf_base.specs.Arithmetic.{truth_of}
use Rattle.caf_program.specs.declared.expr.TeamR.{TeamR}
use Rattle.caf_program.specs.declared.expr.TeamR.TheVariants as team
use Rattle.caf_program.specs.declared.expr.ExprR.{ExprR}
use Rattle.caf_program.specs.declared.expr.ExprR.TheOpen.{ExprR-F}
use Rattle.caf_program.specs.declared.expr.ExprR.TheFolds.{fold-ExprR}
use Rattle.caf_code.specs.Numbers.{binary_instr, unary_instr}
use Rattle.caf_code.specs.declared.instr.CellUse.TheVariants as cell
use Rattle.caf_code.specs.declared.instr.ElementForm.TheVariants as element
use Rattle.caf_code.specs.declared.instr.Instr.{Instr}
use Rattle.caf_code.specs.declared.instr.Instr.TheVariants as instr
use Rattle.caf_code.specs.declared.instr.PlaceForm.{PlaceForm}
use Rattle.caf_code.specs.declared.instr.PlaceForm.TheVariants as place
use Rattle.caf_code.specs.declared.instr.Reach.TheVariants as reach
use Rattle.caf_code.specs.declared.instr.TeamName.{TeamName}
use Rattle.caf_code.specs.declared.instr.TeamName.TheVariants as name
use Rattle.caf_code.specs.declared.instr.TeamQuery.TheVariants as query

abbrev pub team_name : TeamR → TeamName
team_name team.World = name.World
team_name (team.Object o) = name.Object o

-- a rank of a team as instructions name it
abbrev pub team_place : TeamR → PlaceForm
team_place team.World = place.World
team_place (team.Object o) = place.Of o

-- how many values an expression holds, and its instructions where the first of them is held at this place
pub record Coded : Type 0 where
  pub count : ℕ
  pub code : ℕ → List Instr
  -- the instructions of each of its reads, in post-order and written order
  pub reads : ℕ → List (List Instr)

-- an operator and its second operand
abbrev pub CodedOperand : Type 0
CodedOperand = BinaryOperator × Coded

abbrev pub coded_counts : List CodedOperand → ℕ
coded_counts [] = 0
coded_counts (p ∷ rest) = p.1.count + coded_counts rest

-- further operands, each before its operator
abbrev pub chain_code : List CodedOperand → ℕ → List Instr
chain_code [] at = []
chain_code (p ∷ rest) at = p.1.code at ++ binary_instr p.0 ∷ chain_code rest (at + p.1.count)

abbrev pub chain_reads : List CodedOperand → ℕ → List (List Instr)
chain_reads [] at = []
chain_reads (p ∷ rest) at = p.1.reads at ++ chain_reads rest (at + p.1.count)

-- one instruction, which needs no value that is held
abbrev pub alone : Instr → Coded
alone i = record { count = 0; code = λ at. i ∷ []; reads = λ at. [] }

-- a read of an element at a place: its subscript, its rank, and the read with its tests
abbrev pub asked_at : ℕ → TeamR → Coded → Coded → ℕ → List Instr
asked_at o t index rank at = index.code at ++ (rank.code (at + index.count) ++ (instr.Ask (element.Coindexed o (team_place t)) ∷ []))

-- a read of an element behind a copointer
abbrev pub asked_behind : ℕ → Coded → ℕ → List Instr
asked_behind c index at = index.code at ++ (instr.Ask (element.Pointed c) ∷ [])

abbrev pub code_layer : ExprR-F Coded → Coded
code_layer (ExprR-F.Number n) = alone (instr.Push n)
code_layer (ExprR-F.Truth b) = alone (instr.Push (truth_of b))
code_layer (ExprR-F.Scalar o) = alone (instr.Load reach.Scalar o)
code_layer (ExprR-F.Local k) = alone (instr.Cell cell.Get k)
code_layer (ExprR-F.Element o i) = record { count = i.count; code = λ at. i.code at ++ instr.Load reach.Element o ∷ []; reads = i.reads }
code_layer (ExprR-F.Coindexed o i p) = record {
  count = i.count + p.rank.count + 1;
  code = λ at. instr.Held (at + i.count + p.rank.count) ∷ [];
  reads = λ at. i.reads at ++ (p.rank.reads (at + i.count) ++ (asked_at o p.team i p.rank at ∷ []));
}
code_layer (ExprR-F.Pointed c i) = record {
  count = i.count + 1;
  code = λ at. instr.Held (at + i.count) ∷ [];
  reads = λ at. i.reads at ++ (asked_behind c i at ∷ []);
}
code_layer (ExprR-F.Unary w a) = record { count = a.count; code = λ at. a.code at ++ unary_instr w ∷ []; reads = a.reads }
code_layer (ExprR-F.Chain a rest) = record {
  count = a.count + coded_counts rest;
  code = λ at. a.code at ++ chain_code rest (at + a.count);
  reads = λ at. a.reads at ++ chain_reads rest (at + a.count);
}
code_layer (ExprR-F.Rank t) = alone (instr.Team query.Rank (team_name t))
code_layer (ExprR-F.Size t) = alone (instr.Team query.Size (team_name t))

abbrev pub coded : ExprR → Coded
coded = fold-ExprR Coded code_layer

-- the instructions of an expression whose first held value stands at a place
abbrev pub expr_code : ExprR → ℕ → List Instr
expr_code e = (coded e).code

-- the instructions of its reads, one list for each
abbrev pub reads_code : ExprR → ℕ → List (List Instr)
reads_code e = (coded e).reads

-- lists of instructions one after another
abbrev pub joined : List (List Instr) → List Instr
joined [] = []
joined (is ∷ rest) = is ++ joined rest

-- operators with what their operands become
abbrev pub coded_operands : List (BinaryOperator × ExprR) → List CodedOperand
coded_operands = map (λ p. (p.0, coded p.1))
