-- A post that a Start takes.
use Rattle.std.specs.Prelude.{◌≡◌, suc, Option, Some, None, Ok}
use Rattle.caf_base.specs.ImageMemory.{ImageMemory}
use Rattle.caf_base.specs.Places.{with_posts}
use Rattle.caf_memory.specs.Bounds.{posts_of}
use Rattle.caf_source.specs.declared.section.Taken.{Taken}
use Rattle.caf_source.specs.declared.state.Image.{Image}

-- the memory once the post is taken
abbrev pub with_taken : Option Taken → ImageMemory → ImageMemory
with_taken None m = m
with_taken (Some t) m = with_posts m t.event.object t.event.index t.left

-- the event has that post, and these besides
abbrev pub CanTake : Option Taken → ImageMemory → Type 0
CanTake None m = Unit {0}
CanTake (Some t) m = posts_of m t.event.object t.event.index ≡ Ok (suc t.left)

abbrev pub image_taken : Option Taken → Image → Image
image_taken t im = record im { memory = with_taken t im.memory }
