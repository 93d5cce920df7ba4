use Rattle.caf_source.proofs.Beside.{main_led}
use Rattle.caf_source.proofs.live.step_main.Goals as goal

pub returns-clause-step : goal.returns-clause-step
returns-clause-step c =
    main_led c.args.subs.now c.args.clear c.args.number c.args.image.now c.step_live.new.image _ _ c.step_live.new.live c.in_ok-outcome.outcome c.in_ok-outcome.ensures.step c.replace-live.ensures.value
