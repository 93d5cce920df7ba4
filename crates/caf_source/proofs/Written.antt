-- Sections of an image's own memory, and what a notice leaves of a memory.
use Rattle.std.proofs.Common.{◌≡◌, ℕ, List, Option, Some, None, ℤ, refl, slice_get}
use Rattle.caf_base.specs.declared.object.Object.{Object}
use Rattle.caf_base.specs.declared.operation.Section.{Section}
use Rattle.caf_base.specs.ImageMemory.{ImageMemory}
use Rattle.caf_base.specs.Sections.{with_section, with_section_in}
use Rattle.caf_memory.specs.Bounds.{own_section}

same_in : (o : Option Object) (m : ImageMemory) (s : Section) (n : ℕ) (values : List ℤ) → with_section_in m o (own_section m s.object s.from n) values ≡ with_section_in m o s values
same_in None m s n values = refl
same_in (Some o) m s n values = refl

-- where a section stands depends on its object and its first index alone
pub same_section : (m : ImageMemory) (s : Section) (n : ℕ) (values : List ℤ) → with_section m (own_section m s.object s.from n) values ≡ with_section m s values
same_section m s n values = same_in (slice_get m.objects s.object) m s n values
