-- Sections and objects whose indices fit 64 bits.
use Rattle.std.specs.Prelude.{ℕ, ◌^◌, ℤ, pos, ◌+ℤ◌, ◌≤ℤ◌, IfSome}
use Rattle.caf_base.specs.declared.operation.Section.{Section}
use Rattle.caf_base.specs.declared.place.SectionWanted.{SectionWanted}
use Rattle.caf_base.specs.declared.place.SectionWanted.TheVariants as wanted
use Rattle.caf_base.specs.ImageMemory.{ImageMemory}
use Rattle.caf_base.specs.Places.{copointer_at}

-- the index of the last of so many elements from an index on, if there is one, fits 64 bits with a sign
abbrev pub EndsWithin : ℤ → ℕ → Type 0
EndsWithin from extent = (from +ℤ pos extent) ≤ℤ pos (2 ^ 63)

-- each index of what the copointer aims at fits, if it is set
abbrev pub IsAimed : ImageMemory → ℕ → Type 0
IsAimed m copointer = IfSome (copointer_at m copointer) (λ (s : Section). EndsWithin s.from s.extent)

-- the same of the copointer of a section that is wanted, if it names one
abbrev pub CanFind : ImageMemory → SectionWanted → Type 0
CanFind m (wanted.Region object r p) = Unit {0}
CanFind m (wanted.Pointed copointer r) = IsAimed m copointer
