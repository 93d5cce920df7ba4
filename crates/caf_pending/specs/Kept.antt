-- What holds of the operations that are pending, as they are kept: each stands under its name, and the counts of open
-- accesses are right.
use Rattle.std.specs.Prelude.{◌≡◌, ℕ, ◌+◌, Bool, ◌&&◌, List, [], ◌∷◌, map}
use Rattle.std.specs.Map.{values_of}
use Rattle.caf_pending.specs.declared.open.Open.{Open}
use Rattle.caf_pending.specs.declared.operation.Operation.{Operation}
use Rattle.caf_pending.specs.declared.tally.Tally.{Tally}
use Rattle.caf_pending.specs.Open.{one, same_key, accesses_of, counted}

-- how many of a list pass a test
abbrev pub how_many : {A : Type 0} → (A → Bool) → List A → ℕ
how_many test [] = 0
how_many test (x ∷ xs) = one (test x) + how_many test xs

abbrev pub name_key : Operation → ℕ × ℕ
name_key op = (op.name.image, op.name.number)

abbrev pub task_key : Operation → ℕ × ℕ
task_key op = (op.name.image, op.task)

-- whether the task began it, and it has an open read
abbrev pub has_read : ℕ × ℕ → Operation → Bool
has_read k op = (accesses_of op).reads && same_key (task_key op) k

abbrev pub has_write : ℕ × ℕ → Operation → Bool
has_write k op = (accesses_of op).writes && same_key (task_key op) k

-- an operation under its name
abbrev pub with_name : Operation → (ℕ × ℕ) × Operation
with_name op = (name_key op, op)

-- under each key it counts those of a list that pass the key's test
abbrev pub Counts : Tally → (ℕ × ℕ → Operation → Bool) → List Operation → Type 0
Counts tally test ops = (k : ℕ × ℕ) → counted tally k ≡ how_many (test k) ops

pub record IsKept (entries : List ((ℕ × ℕ) × Operation)) (counts : Open) : Type 0 where
  pub named : entries ≡ map with_name (values_of entries)
  pub reads : Counts counts.reads has_read (values_of entries)
  pub writes : Counts counts.writes has_write (values_of entries)
