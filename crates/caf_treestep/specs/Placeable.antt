-- Memories in which each index that a section or a copointer names fits 64 bits.
use Rattle.std.specs.Prelude.{ℕ, pos, ◌+ℤ◌, ◌≤ℤ◌, ◌^◌, All, IfSome, slice_get}
use Rattle.caf_base.specs.ImageMemory.{ImageMemory}
use Rattle.caf_base.specs.declared.object.Object.{Object}
use Rattle.caf_memory.specs.Placed.{EndsWithin, IsAimed}

pub record IsPlaceable (m : ImageMemory) : Type 0 where
  -- the last index of each object
  pub objects : (object : ℕ) → IfSome (slice_get m.objects object) (λ (o : Object). EndsWithin o.lower o.extent)
  -- the last index of what each copointer aims at
  pub aims : (copointer : ℕ) → IsAimed m copointer
