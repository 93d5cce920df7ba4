-- States whose images have memories that a Step can run on, and what a choice does at one image.
use Rattle.std.specs.Prelude.{◌≡◌, ℕ, List, IfSome, Some, slice_get, slice_set}
use Rattle.caf_source.specs.declared.outcome.Outcome.{Outcome}
use Rattle.caf_source.specs.declared.outcome.Touched.{Touched}
use Rattle.caf_source.specs.declared.state.Image.{Image}
use Rattle.caf_source.specs.Effects.{Did, did}
use Rattle.caf_source.specs.Stages.{Reached, reached}
use Rattle.caf_treestep.specs.Placeable.{IsPlaceable}

-- each image's memory is one that a Step can run on
abbrev pub ArePlaceable : List Image → Type 0
ArePlaceable images = (i : ℕ) → IfSome (slice_get images i) (λ (im : Image). IsPlaceable im.memory)

-- what was done at the image at a place, and that the others are as before
pub record IsDoneAt (f : Image → Did) (i : ℕ) (old : List Image) (new : List Image) (o : Outcome) : Type 0 where
  pub before : Image
  pub after : Image
  pub found : slice_get old i ≡ Some before
  pub done : f before ≡ did after o
  pub set : new ≡ slice_set old i after

-- the same of a stage
pub record IsReachedAt (f : Image → Reached) (i : ℕ) (old : List Image) (new : List Image) (t : Touched) : Type 0 where
  pub before : Image
  pub after : Image
  pub found : slice_get old i ≡ Some before
  pub done : f before ≡ reached after t
  pub set : new ≡ slice_set old i after
