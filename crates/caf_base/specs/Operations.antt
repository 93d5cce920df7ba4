-- Operations: their stages and places, and the images that they name.
use Rattle.std.specs.Prelude.{ℕ, Bool, true, false, ◌&&◌, List, [], ◌∷◌, ◌++◌, nat_eq, Option, Some, None, if◌then◌else◌}
use Rattle.std.specs.List.{list_any, list_all}
use Rattle.caf_base.specs.declared.operation.CopyOrder.{CopyOrder}
use Rattle.caf_base.specs.declared.operation.EventAt.{EventAt}
use Rattle.caf_base.specs.declared.operation.OpName.{OpName}
use Rattle.caf_base.specs.declared.operation.OpSpec.{OpSpec}
use Rattle.caf_base.specs.declared.operation.OpSpec.TheVariants as spec
use Rattle.caf_base.specs.declared.operation.Stage.{Stage}
use Rattle.caf_base.specs.declared.operation.Stage.TheVariants as stage
use Rattle.caf_base.specs.declared.team.FinishRef.{FinishRef}

abbrev pub same_op : OpName → OpName → Bool
same_op a b = nat_eq a.image b.image && nat_eq a.number b.number

-- the stages of an operation that an image begins: a copy is fetched where its source is elsewhere
abbrev pub stages_of : ℕ → OpSpec → List Stage
stages_of image (spec.Ship target sub arguments event) = stage.Ship ∷ []
stages_of image (spec.Notice event) = stage.Notice ∷ []
stages_of image (spec.Copy o) = stage.Start ∷ (if nat_eq o.source.image image then [] else stage.Fetch ∷ []) ++ (stage.Store ∷ [])
stages_of image (spec.Read s) = stage.Read ∷ []
stages_of image (spec.Write s z) = stage.Write ∷ []

-- the image at which a stage of a copy is performed
abbrev pub copy_place : ℕ → CopyOrder → Stage → ℕ
copy_place initiator o stage.Fetch = o.source.image
copy_place initiator o stage.Store = o.dest.image
copy_place initiator o _ = initiator

-- the image at which a stage is performed
abbrev pub place_of_stage : ℕ → OpSpec → Stage → ℕ
place_of_stage initiator (spec.Ship target sub arguments event) s = target
place_of_stage initiator (spec.Notice event) s = event.image
place_of_stage initiator (spec.Copy o) s = copy_place initiator o s
place_of_stage initiator (spec.Read section) s = section.image
place_of_stage initiator (spec.Write section z) s = section.image

-- ships, notices and copies are counted by the innermost finish that encloses them
abbrev pub is_counted : OpSpec → Bool
is_counted (spec.Read s) = false
is_counted (spec.Write s z) = false
is_counted _ = true

abbrev pub image_of_event : Option EventAt → List ℕ
image_of_event None = []
image_of_event (Some e) = e.image ∷ []

-- the images that a counted operation names
abbrev pub images_named : OpSpec → List ℕ
images_named (spec.Ship target sub arguments event) = image_of_event event ++ target ∷ []
images_named (spec.Notice e) = e.image ∷ []
images_named (spec.Copy o) = o.dest.image ∷ o.source.image ∷ image_of_event o.srce ++ image_of_event o.deste
images_named (spec.Read s) = []
images_named (spec.Write s z) = []

-- whether all images are members of the innermost finish's team
abbrev pub are_inside : List FinishRef → List ℕ → Bool
are_inside [] images = true
are_inside (f ∷ rest) images = list_all (λ i. list_any (nat_eq i) f.team.members) images

abbrev pub is_absent : Option EventAt → Bool
is_absent None = true
is_absent (Some e) = false

-- a copy with neither `srce` nor `deste` is implicit
abbrev pub is_implicit : OpSpec → Bool
is_implicit (spec.Copy o) = is_absent o.srce && is_absent o.deste
is_implicit _ = false
