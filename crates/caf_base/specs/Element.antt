-- Elements of objects: what expressions and statements read alike.
use Rattle.std.specs.Prelude.{ℕ, Bool, ◌&&◌, List, [], Option, Some, None, Ok, Err, ℤ, pos, ◌+ℤ◌, ◌-ℤ◌, int_lt, int_le, unsigned_abs, slice_get, slice_index_or, if◌then◌else◌}
use Rattle.caf_base.specs.declared.object.Object.{Object}
use Rattle.caf_base.specs.declared.trap.Trap.TheVariants as trap
use Rattle.caf_base.specs.Arithmetic.{Answer}

-- whether the object has an element at the index
abbrev pub has_index : Object → ℤ → Bool
has_index o index = int_le o.lower index && int_lt index (o.lower +ℤ pos o.extent)

-- the place, from 0, of the element at an index
abbrev pub offset_of : Object → ℤ → ℕ
offset_of o index = unsigned_abs (index -ℤ o.lower)

-- the element at an index, where these are the object's cells; trap `Index` outside the bounds
abbrev pub element_at : Option Object → List ℤ → ℤ → Answer
element_at None row index = Err trap.Index
element_at (Some o) row index = if has_index o index then Ok (slice_index_or row (offset_of o index) (pos 0)) else Err trap.Index

-- the element of an object at an index, where these are the objects and their cells
abbrev pub element_of : List Object → List (List ℤ) → ℕ → ℤ → Answer
element_of objects cells object index = element_at (slice_get objects object) (slice_index_or cells object []) index
