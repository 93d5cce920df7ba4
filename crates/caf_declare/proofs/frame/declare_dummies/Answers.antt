use Rattle.std.proofs.Common.{rules, Err, subst}
use Rattle.caf_declare.specs.Table.{Name}
use Rattle.caf_declare.specs.Names.{Tells}
use Rattle.caf_declare.specs.Frames.{declare_dummy}
use Rattle.caf_declare.proofs.Chains.{turn_stops}
use Rattle.caf_declare.proofs.frame.declare_dummies.Goals as goal

pub returns-in_err-f : goal.returns-in_err-f
returns-in_err-f c =
    turn_stops (declare_dummy c.args.line c.args.around.now.header.now c.args.around.now.heads.now) c.args.names.now c.loop-name.name-index c.name-item.result c.args.f c.loop-name.f c.from_residual.result c.in_err-f.field-0.0
    c.loop-name-test.true c.name-item.is c.loop-name.invariant
    (subst (λ (n : Name). Tells (declare_dummy c.args.line c.args.around.now.header.now c.args.around.now.heads.now n c.loop-name.f) (Err c.in_err-f.field-0.0)) c.as_str.ensures c.in_err-f.ensures) (search rules)
