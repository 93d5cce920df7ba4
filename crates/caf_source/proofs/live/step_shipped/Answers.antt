use Rattle.std.proofs.Common.{◌≡◌, ◌<◌, ◌∙◌, [], List, Some, ap, get_or, length, nat_eq, slice_get, slice_set, sym}
use Rattle.std.proofs.lemmas.List.Quantifiers.{position-Some}
use Rattle.caf_source.proofs.AtImage.{found_at}
use Rattle.caf_source.proofs.Beside.{shipped_led}
use Rattle.caf_source.specs.declared.state.Live.{Live}
use Rattle.caf_source.specs.Effects.{kept_at, place_of_task}
use Rattle.caf_source.proofs.live.step_shipped.Goals as goal

pub returns-clause-step : goal.returns-clause-step
returns-clause-step c =
    let shipped = c.args.image.now.shipped in
    let all : c.into_vec-all.result.items ≡ shipped = cc in
    let at : Some c.in-Some.at ≡ place_of_task c.args.task shipped = cc in
    let empty : c.replace.new.dest ≡ [] = cc in
    let within : c.in-Some.at < length shipped = (position-Some (λ (x : Live). nat_eq x.number c.args.task) shipped c.in-Some.at c.index_mut.result.now (sym at)).0 in
    let found : slice_get shipped c.in-Some.at ≡ Some c.index_mut.result.now =
    found_at shipped c.in-Some.at c.index_mut.result.now within (c.index_mut.ensures.value ∙ ap (λ (xs : List Live). get_or xs c.in-Some.at c.index_mut.result.now) all) in
    let kept : c.from_vec.result ≡ kept_at c.in_ok-outcome.outcome c.in-Some.at c.step_live.new.live shipped =
    c.from_vec.ensures ∙ c.keep.ensures shipped c.step_live.new.live (ap (λ (xs : List Live). slice_set xs c.in-Some.at c.step_live.new.live) all) in
    shipped_led c.args.subs.now c.args.clear c.args.number c.in-Some.at c.args.image.now c.step_live.new.image _ c.from_vec.result c.index_mut.result.now c.step_live.new.live c.in_ok-outcome.outcome (place_of_task c.args.task shipped) c.in_ok-outcome.ensures.step empty at found kept
