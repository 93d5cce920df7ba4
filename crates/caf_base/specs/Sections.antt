-- The elements of a section.
use Rattle.std.specs.Prelude.{ℕ, ◌+◌, List, [], ◌++◌, length, take, drop, Option, Some, None, ℤ, slice_get, slice_set, slice_index_or}
use Rattle.caf_base.specs.declared.object.Object.{Object}
use Rattle.caf_base.specs.declared.operation.Section.{Section}
use Rattle.caf_base.specs.Element.{offset_of}
use Rattle.caf_base.specs.ImageMemory.{ImageMemory}

abbrev pub section_values_in : ImageMemory → Option Object → Section → List ℤ
section_values_in m None s = []
section_values_in m (Some o) s = take s.extent (drop (offset_of o s.from) (slice_index_or m.cells s.object []))

-- the numbers in a section
abbrev pub section_values : ImageMemory → Section → List ℤ
section_values m s = section_values_in m (slice_get m.objects s.object) s

-- a list with these numbers from a place on
abbrev pub spliced : List ℤ → ℕ → List ℤ → List ℤ
spliced row at values = take at row ++ values ++ drop (at + length values) row

abbrev pub with_section_in : ImageMemory → Option Object → Section → List ℤ → ImageMemory
with_section_in m None s values = m
with_section_in m (Some o) s values = record m { cells = slice_set m.cells s.object (spliced (slice_index_or m.cells s.object []) (offset_of o s.from) values) }

-- the memory with these numbers in a section
abbrev pub with_section : ImageMemory → Section → List ℤ → ImageMemory
with_section m s values = with_section_in m (slice_get m.objects s.object) s values
