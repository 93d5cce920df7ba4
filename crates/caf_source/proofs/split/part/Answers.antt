use Rattle.std.proofs.Common.{◌≡◌, ◌<◌, ◌∙◌, List, None, Some, ap, arith, length, refl, slice_get, sym}
use Rattle.std.specs.Option.{option_copied}
use Rattle.caf_source.specs.declared.state.Image.{Image}
use Rattle.caf_source.specs.Next.{last_arrival, part_in, running_in, team_of_split}
use Rattle.caf_source.specs.Splits.{awaited_object}
use Rattle.caf_source.specs.Stepping.{of_images}
use Rattle.caf_source.proofs.AtImage.{found_at, parted_fits, part_early, part_makes, part_nowhere, placeable_at, placeable_set, runs_within, some_runs}
use Rattle.caf_source.proofs.split.part.Goals as goal

pub returns-in_default-clause-made : goal.returns-in_default-clause-made
returns-in_default-clause-made c pending =
    let none : running_in (slice_get c.args.images.now.items c.args.image) ≡ None = sym (c.running.ensures ∙ ap (λ (l : List Image). running_in (slice_get l c.args.image)) c.as_slice.ensures.value) ∙ ap option_copied c.in_default.is in
    (ap (part_in (of_images c.args.images.now.items pending) c.args.image) none, refl)

pub returns-in_default-awaited_object-clause-made : goal.returns-in_default-awaited_object-clause-made
returns-in_default-awaited_object-clause-made c pending =
    let runs : Some c.in-Some.found.now ≡ running_in (slice_get c.args.images.now.items c.args.image) = sym (ap option_copied c.in-Some.is) ∙ c.running.ensures ∙ ap (λ (l : List Image). running_in (slice_get l c.args.image)) c.as_slice.ensures.value in
    let none : None ≡ awaited_object c.in-Some.found.now.main.task.wait = cc in
    (part_nowhere (of_images c.args.images.now.items pending) c.args.image (running_in (slice_get c.args.images.now.items c.args.image)) c.in-Some.found.now runs none, refl)

pub returns-in_default-2-clause-made : goal.returns-in_default-2-clause-made
returns-in_default-2-clause-made c pending =
    let runs : Some c.in-Some.found.now ≡ running_in (slice_get c.args.images.now.items c.args.image) = sym (ap option_copied c.in-Some.is) ∙ c.running.ensures ∙ ap (λ (l : List Image). running_in (slice_get l c.args.image)) c.as_slice.ensures.value in
    let waits : Some c.in-Some-awaited_object.object ≡ awaited_object c.in-Some.found.now.main.task.wait = cc in
    let none : None ≡ team_of_split c.args.images.now.items (last_arrival c.in-Some.found.now) = sym c.in_default-2.is ∙ c.in_ok-team.ensures ∙ ap (λ (l : List Image). team_of_split l (last_arrival c.in-Some.found.now)) c.as_slice-2.ensures.value in
    (part_early (of_images c.args.images.now.items pending) c.args.image c.in-Some-awaited_object.object (running_in (slice_get c.args.images.now.items c.args.image)) c.in-Some.found.now runs waits none, refl)

pub index_mut-requires : goal.index_mut-requires
index_mut-requires c =
    let runs : Some c.in-Some.found.now ≡ running_in (slice_get c.args.images.now.items c.args.image) = sym (ap option_copied c.in-Some.is) ∙ c.running.ensures ∙ ap (λ (l : List Image). running_in (slice_get l c.args.image)) c.as_slice.ensures.value in
    let within : c.args.image < length c.args.images.now.items = runs_within c.args.images.now.items c.args.image (some_runs (running_in (slice_get c.args.images.now.items c.args.image)) c.in-Some.found.now runs) in
    omega (arith, within, c.args.images.now.ok.0)

pub returns-clause-made : goal.returns-clause-made
returns-clause-made c pending =
    let runs : Some c.in-Some.found.now ≡ running_in (slice_get c.args.images.now.items c.args.image) = sym (ap option_copied c.in-Some.is) ∙ c.running.ensures ∙ ap (λ (l : List Image). running_in (slice_get l c.args.image)) c.as_slice.ensures.value in
    let waits : Some c.in-Some-awaited_object.object ≡ awaited_object c.in-Some.found.now.main.task.wait = cc in
    let met : Some c.in-Some-2.team ≡ team_of_split c.args.images.now.items (last_arrival c.in-Some.found.now) = sym c.in-Some-2.is ∙ c.in_ok-team.ensures ∙ ap (λ (l : List Image). team_of_split l (last_arrival c.in-Some.found.now)) c.as_slice-2.ensures.value in
    part_makes c.args.images.now.items _ pending c.args.image c.in-Some-awaited_object.object c.in-Some.found.now c.index_mut.result.now c.part_image.new.image c.in-Some-2.team runs waits met c.index_mut.ensures.value c.part_image.ensures refl

pub returns-clause-memory : goal.returns-clause-memory
returns-clause-memory c =
    let runs : Some c.in-Some.found.now ≡ running_in (slice_get c.args.images.now.items c.args.image) = sym (ap option_copied c.in-Some.is) ∙ c.running.ensures ∙ ap (λ (l : List Image). running_in (slice_get l c.args.image)) c.as_slice.ensures.value in
    let found = found_at c.args.images.now.items c.args.image c.index_mut.result.now (runs_within c.args.images.now.items c.args.image (some_runs (running_in (slice_get c.args.images.now.items c.args.image)) c.in-Some.found.now runs)) c.index_mut.ensures.value in
    placeable_set c.args.images.now.items c.args.image c.part_image.new.image c.requires (parted_fits c.index_mut.result.now c.part_image.new.image c.in-Some-awaited_object.object c.in-Some-2.team c.part_image.ensures (placeable_at c.args.images.now.items c.args.image c.index_mut.result.now c.requires found))
