use Rattle.std.proofs.Common.{rules}
use Rattle.caf_declare.specs.Constants.{known_in}
use Rattle.caf_declare.proofs.Chains.{worth_stops, worth_goes, chained_stops}
use Rattle.caf_declare.proofs.constant.+values.Goals as goal

pub chained-returns-in_err-so_far : goal.chained-returns-in_err-so_far
chained-returns-in_err-so_far t c =
    chained_stops (known_in c.args.at.now) c.args.at.now.line c.args.at.now.item.now c.args.others.now c.loop-operator.operator-index c.loop-operator-item.result c.of_operator.result c.args.first c.loop-operator.so_far c.from_residual.result
    c.in_err-so_far.field-0.0 c.loop-operator-test.true c.loop-operator-item.is c.of_operator.ensures c.loop-operator.invariant c.in_err-so_far.ensures (search rules)

pub worth-returns-in_err-first-in-Chain : goal.worth-returns-in_err-first-in-Chain
worth-returns-in_err-first-in-Chain t c =
    worth_stops (known_in c.args.at.now) c.args.at.now.line c.args.at.now.item.now c.args.e.now c.in-Chain.a c.get-in-Chain.result.now c.in-Chain.others c.as_slice.result.now c.first.result c.from_residual-in_err-first-in-Chain.result
    c.in_err-first-in-Chain.field-0.0 c.in-Chain.is c.get-in-Chain.ensures c.as_slice.ensures c.first.ensures c.in_err-first-in-Chain.was (search rules)

pub worth-returns-in_ok-first-in-Chain : goal.worth-returns-in_ok-first-in-Chain
worth-returns-in_ok-first-in-Chain t c =
    worth_goes (known_in c.args.at.now) c.args.at.now.line c.args.at.now.item.now c.args.e.now c.in-Chain.a c.get-in-Chain.result.now c.in-Chain.others c.as_slice.result.now c.as_slice-in-Chain.result.now c.first.result c.chained.result
    c.in_ok-first-in-Chain.first c.in-Chain.is c.get-in-Chain.ensures c.as_slice.ensures c.as_slice-in-Chain.ensures c.first.ensures c.in_ok-first-in-Chain.was c.chained.ensures
