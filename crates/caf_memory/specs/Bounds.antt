-- The tests of sections and of events by their objects.
use Rattle.std.specs.Prelude.{◌≡◌, ℕ, Bool, true, false, ◌&&◌, ◌||◌, List, [], take, drop, Option, Some, None, Result, Ok, Err, ℤ, pos, ◌+ℤ◌, int_le, nat_lt, slice_get, if◌then◌else◌, IsSomeAnd}
use Rattle.caf_base.specs.declared.object.Kind.{Kind}
use Rattle.caf_base.specs.declared.object.Kind.TheVariants as kind
use Rattle.caf_base.specs.declared.object.Object.{Object}
use Rattle.caf_base.specs.declared.operation.Section.{Section}
use Rattle.caf_base.specs.declared.trap.Trap.{Trap}
use Rattle.caf_base.specs.declared.trap.Trap.TheVariants as trap
use Rattle.caf_base.specs.Element.{offset_of}
use Rattle.caf_base.specs.ImageMemory.{ImageMemory}
use Rattle.caf_base.specs.Places.{bind, within, posts_at}

-- whether the elements from an index on, so many, are all the object's
abbrev pub has_span : Object → ℤ → ℕ → Bool
has_span o from extent = int_le o.lower from && int_le (from +ℤ pos extent) (o.lower +ℤ pos o.extent)

abbrev pub is_inside : Option Object → ℤ → ℕ → Bool
is_inside None from extent = nat_lt extent 1
is_inside (Some o) from extent = nat_lt extent 1 || has_span o from extent

-- the trap of a section that is read or written whole: `Index` where it isn't empty and leaves the bounds, and then
-- `Section` above 256 elements
abbrev pub section_trap : Option Object → ℤ → ℕ → Result (Unit {0}) Trap
section_trap o from extent = if is_inside o from extent then (if nat_lt 256 extent then Err trap.Section else Ok tt) else Err trap.Index

-- a section of the image's own memory
abbrev pub own_section : ImageMemory → ℕ → ℤ → ℕ → Section
own_section m object from extent = record { image = m.image; object = object; from = from; extent = extent }

-- whether an object of this kind has cells
abbrev pub has_cells : Kind → Bool
has_cells kind.Integer = true
has_cells kind.Logical = true
has_cells _ = false

-- the object is there, and is integer or logical
abbrev pub HasCells : List Object → ℕ → Type 0
HasCells objects object = IsSomeAnd (slice_get objects object) (λ (o : Object). has_cells o.kind ≡ true)

-- the posts of an event; trap `Index` outside its bounds
abbrev pub posts_of : ImageMemory → ℕ → ℤ → Result ℕ Trap
posts_of m object index = bind (within (slice_get m.objects object) index) (λ i. Ok (posts_at m object i))

-- trap `Index` where the object has no element at the index
abbrev pub index_trap : Option Object → ℤ → Result (Unit {0}) Trap
index_trap o index = bind (within o index) (λ i. Ok tt)

-- the numbers of a section of an object with these cells
abbrev pub values_in : Option Object → List ℤ → ℤ → ℕ → List ℤ
values_in None row from extent = []
values_in (Some o) row from extent = take extent (drop (offset_of o from) row)
