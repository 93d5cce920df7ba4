use Rattle.std.proofs.Common.{rules}
use Rattle.caf_teamcheck.proofs.Broken.{keeps_ships}
use Rattle.caf_teamcheck.proofs.check.check_program.Goals as goal

pub returns-clause-ok : goal.returns-clause-ok
returns-clause-ok c =
    keeps_ships c.args.program.now c.in_ok-marks.marks (search rules) c.in_ok-check_main.ensures.ok (search rules)
