-- Room that is kept for a save.
use Rattle.std.specs.Prelude.{ℕ, ◌≤◌, vec_capacity}
use Rattle.caf_outside.specs.declared.spare.Spare.{Spare}

-- room for a name and for a text, as many bytes for each
abbrev pub HasRoom : ℕ → Spare → Type 0
HasRoom room one = (room ≤ vec_capacity one.name) × (room ≤ vec_capacity one.bytes)
