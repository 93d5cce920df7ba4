-- The names of the operations that are pending.
use Rattle.std.specs.Prelude.{◌≡◌, ℕ, suc, ◌<◌, ◌≤◌, List, Option, Some, None, count_by, slice_get}
use Rattle.caf_base.specs.declared.operation.OpName.{OpName}
use Rattle.caf_pending.specs.declared.operation.Operation.{Operation}
use Rattle.caf_pending.specs.Pending.{is_named, operation_named}
use Rattle.caf_source.specs.declared.state.Image.{Image}

-- no two have one name
abbrev pub AreApart : List Operation → Type 0
AreApart ops = (name : OpName) → count_by (is_named name) ops ≤ 1

-- how many operations an image has begun, which is the last number that it has given out
abbrev pub begun_by : Option Image → ℕ
begun_by None = 0
begun_by (Some im) = im.operations

-- none has a number that its image hasn't given out
abbrev pub AreGiven : List Image → List Operation → Type 0
AreGiven images ops = (name : OpName) → begun_by (slice_get images name.image) < name.number → count_by (is_named name) ops ≡ 0

-- the name that an image gives next, where it has begun so many
abbrev pub next_name : ℕ → ℕ → OpName
next_name i begun = record { image = i; number = suc begun }

-- none has the name that an image gives next
abbrev pub IsNextNew : List Image → List Operation → Type 0
IsNextNew images ops = (i : ℕ) (im : Image) → slice_get images i ≡ Some im → operation_named (next_name i im.operations) ops ≡ None

-- how names stand after each choice
pub record AreNamed (images : List Image) (ops : List Operation) : Type 0 where
  pub apart : AreApart ops
  pub given : AreGiven images ops
