-- The memory with which an image begins: 0, false, no post, unset.
use Rattle.std.specs.Prelude.{ℕ, List, [], map, replicate, None, ℤ, pos}
use Rattle.caf_base.specs.declared.object.Object.{Object}
use Rattle.caf_base.specs.declared.object.Kind.{Kind}
use Rattle.caf_base.specs.declared.object.Kind.TheVariants as kind
use Rattle.caf_base.specs.ImageMemory.{ImageMemory}

-- the cells of an object of a kind, with so many elements
abbrev pub start_cells : Kind → ℕ → List ℤ
start_cells kind.Integer n = replicate n (pos 0)
start_cells kind.Logical n = replicate n (pos 0)
start_cells _ n = []

abbrev pub start_posts : Kind → ℕ → List ℕ
start_posts kind.Event n = replicate n 0
start_posts _ n = []

-- the memory of an image among so many
abbrev pub start_memory : List Object → ℕ → ℕ → ImageMemory
start_memory objects images image = record {
  image = image;
  images = images;
  objects = objects;
  cells = map (λ (o : Object). start_cells o.kind o.extent) objects;
  posts = map (λ (o : Object). start_posts o.kind o.extent) objects;
  teams = map (λ (o : Object). None) objects;
  copointers = map (λ (o : Object). None) objects;
  lines = [];
}
