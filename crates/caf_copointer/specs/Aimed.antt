-- What a copointer reaches.
use Rattle.std.specs.Prelude.{ℕ, ◌^◌, ◌&&◌, Result, Ok, Err, ℤ, pos, ◌+ℤ◌, ◌-ℤ◌, ◌≤ℤ◌, int_le, if◌then◌else◌}
use Rattle.caf_base.specs.declared.operation.Section.{Section}
use Rattle.caf_base.specs.declared.trap.Trap.{Trap}
use Rattle.caf_base.specs.declared.trap.Trap.TheVariants as trap
use Rattle.caf_copointer.specs.declared.copointer.CoPtr.{CoPtr}

abbrev pub aimed_at : Section → CoPtr
aimed_at s = record { image = s.image; object = s.object; from = s.from; extent = s.extent }

-- the index of the last of so many elements from an index on, if there is one, fits 64 bits with a sign
abbrev pub EndsWithin : ℤ → ℕ → Type 0
EndsWithin from extent = (from +ℤ pos extent) ≤ℤ pos (2 ^ 63)

-- the object's index of an element, counted from 1; trap `Index` outside the extent
abbrev pub index_at : CoPtr → ℤ → Result ℤ Trap
index_at p index = if int_le (pos 1) index && int_le index (pos p.extent) then Ok (p.from +ℤ index -ℤ pos 1) else Err trap.Index
