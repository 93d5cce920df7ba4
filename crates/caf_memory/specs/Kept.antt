-- A memory as its fields show it.
use Rattle.std.specs.Prelude.{◌≡◌}
use Rattle.caf_base.specs.ImageMemory.{ImageMemory}
use Rattle.caf_memory.specs.declared.memory.ImageMemory.TheInside.{Inside}
use Rattle.caf_memory.specs.Sized.{IsSized, bytes_of}

abbrev pub seen : Inside → ImageMemory
seen a = record {
  image = a.image;
  images = a.images;
  objects = a.objects;
  cells = a.cells.items;
  posts = a.posts.items;
  teams = a.teams.items;
  copointers = a.copointers.items;
  lines = a.lines.items;
}

pub record IsKept (a : Inside) : Type 0 where
  pub sized : IsSized (seen a)
  -- the number beside the lines is their bytes
  pub printed : a.printed ≡ bytes_of a.lines.items
