use Rattle.std.proofs.Common.{◌≡◌, SFits, w64, rules}
use Rattle.std.proofs.lemmas.Int.{to_z-of_z}
use Rattle.caf_base.specs.declared.effect.Effect.TheVariants as effect
use Rattle.caf_source.proofs.LiveStep.{arrives_led, begins_led}
use Rattle.caf_source.proofs.live.step_live.Goals as goal

pub returns-in-Begins-clause-step : goal.returns-in-Begins-clause-step
returns-in-Begins-clause-step c =
    let is : c.in_ok-effect.effect ≡ effect.Begins c.in-Begins.what = cc in
    begins_led c.args.subs.now c.args.clear c.args.number c.args.image.now c.args.live.now c.in_ok-effect.effect c.in-Begins.what c.in_ok-effect.saved c.step_saved.new.task c.step_saved.new.memory c.begins.new.image c.begins.new.live c.begins.result is c.in_ok-effect.ensures.step c.in_ok-effect.ensures.orderly c.begins.ensures.step

pub returns-in_ok-arrives-in-Arrives-clause-step : goal.returns-in_ok-arrives-in-Arrives-clause-step
returns-in_ok-arrives-in-Arrives-clause-step c =
    let is : c.in_ok-effect.effect ≡ effect.Arrives c.in-Arrives.team c.in-Arrives.colour c.in-Arrives.key c.in-Arrives.new = cc in
    let colour : SFits w64 c.in-Arrives.colour = search rules in
    let key : SFits w64 c.in-Arrives.key = search rules in
    arrives_led c.args.subs.now c.args.clear c.args.number c.args.image.now c.args.live.now c.in_ok-effect.effect c.in-Arrives.team c.in-Arrives.colour c.in-Arrives.key c.in-Arrives.new c.step_saved.new.task c.step_saved.new.memory c.arrives.new.image _ _ is c.in_ok-effect.ensures.step (to_z-of_z w64 c.in-Arrives.colour colour) (to_z-of_z w64 c.in-Arrives.key key) c.in_ok-arrives-in-Arrives.ensures.arrived
