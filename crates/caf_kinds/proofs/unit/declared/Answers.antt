use Rattle.std.proofs.Common.{rules}
use Rattle.caf_kinds.proofs.Declared.{declared_stops, declared_goes}
use Rattle.caf_kinds.proofs.unit.declared.Goals as goal

pub returns-in_err-frame : goal.returns-in_err-frame
returns-in_err-frame c =
    declared_stops c.args.heads.now c.args.main.now c.args.f.now c.as_slice-header.result.now c.as_slice.result.now c.in_ok-check_dummies.field-0 c.as_slice-header.ensures c.as_slice.ensures c.in_ok-check_dummies.ensures
    c.from_residual-in_err-frame.result c.in_err-frame.field-0.0 c.in_err-frame.ensures (search rules)

pub returns : goal.returns
returns c =
    declared_goes c.args.heads.now c.args.main.now c.args.f.now c.as_slice-header.result.now c.as_slice.result.now c.in_ok-check_dummies.field-0 c.as_slice-header.ensures c.as_slice.ensures c.in_ok-check_dummies.ensures
    c.in_ok-frame.frame c.in_ok-dummies.dummies c.in_ok-frame.ensures c.in_ok-dummies.ensures
