-- The operations that are pending, as a list. Its order has no meaning, and no two have one name in a run.
use Rattle.std.specs.Prelude.{ℕ, ℤ, Bool, true, false, not, ◌&&◌, List, [], ◌∷◌, nat_eq, find, Option, Some, None, if◌then◌else◌}
use Rattle.std.specs.List.{list_any}
use Rattle.indexmap.specs.IndexMap.{swap_remove_by}
use Rattle.caf_base.specs.declared.fence.FenceClear.{FenceClear}
use Rattle.caf_base.specs.declared.operation.OpName.{OpName}
use Rattle.caf_base.specs.declared.operation.OpSpec.{OpSpec}
use Rattle.caf_base.specs.declared.operation.OpSpec.TheVariants as spec
use Rattle.caf_base.specs.declared.operation.Stage.{Stage}
use Rattle.caf_base.specs.declared.operation.Stage.TheVariants as stage
use Rattle.caf_base.specs.Operations.{same_op, is_implicit}
use Rattle.caf_pending.specs.declared.operation.Operation.{Operation}

-- whether it is the operation of this name
abbrev pub is_named : OpName → Operation → Bool
is_named name op = same_op op.name name

-- the pending operation of a name
abbrev pub operation_named : OpName → List Operation → Option Operation
operation_named name ops = find (is_named name) ops

-- with one more: it takes the place of one of its name, if there is one, and else goes last
abbrev pub with_operation : Operation → List Operation → List Operation
with_operation op [] = op ∷ []
with_operation op (first ∷ ops) = if is_named op.name first then op ∷ ops else first ∷ with_operation op ops

-- without the one of a name: the last takes its place
abbrev pub without : OpName → List Operation → List Operation
without name ops = swap_remove_by (is_named name) ops

abbrev pub without_first : {A : Type 0} → List A → List A
without_first [] = []
without_first (first ∷ rest) = rest

-- an operation with its first stage done, and with the values that it read
abbrev pub passed : Option (List ℤ) → Operation → Operation
passed None op = record op { stages = without_first op.stages }
passed (Some values) op = record op { stages = without_first op.stages; values = values }

-- a stage of the one of a name is over, and these values were read in it, if it read
abbrev pub passed_by : Option (List ℤ) → OpName → List Operation → List Operation
passed_by values name [] = []
passed_by values name (op ∷ ops) = if is_named name op then passed values op ∷ ops else op ∷ passed_by values name ops

abbrev pub is_start : Stage → Bool
is_start stage.Start = true
is_start _ = false

abbrev pub is_store : Stage → Bool
is_store stage.Store = true
is_store _ = false

-- the source is the initiator's memory, and its Start hasn't been touched
abbrev pub reads_here : ℕ → OpSpec → List Stage → Bool
reads_here i (spec.Copy o) stages = nat_eq o.source.image i && list_any is_start stages
reads_here i _ stages = false

-- the destination is the initiator's memory, and its Store hasn't been touched
abbrev pub writes_here : ℕ → OpSpec → List Stage → Bool
writes_here i (spec.Copy o) stages = nat_eq o.dest.image i && list_any is_store stages
writes_here i _ stages = false

-- whether the task began it, and it is an implicit copy
abbrev pub begun_by : ℕ → ℕ → Operation → Bool
begun_by i t op = nat_eq op.name.image i && nat_eq op.task t && is_implicit op.spec

-- what a task's implicit copies have done of their accesses to its own image
abbrev pub clear_of : List Operation → ℕ → ℕ → FenceClear
clear_of ops i t = record {
  reads = not (list_any (λ (op : Operation). begun_by i t op && reads_here i op.spec op.stages) ops);
  writes = not (list_any (λ (op : Operation). begun_by i t op && writes_here i op.spec op.stages) ops);
}
