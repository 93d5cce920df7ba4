use Rattle.std.proofs.Common.{rules}
use Rattle.caf_base.specs.declared.arithmetic.BinaryOperator.TheVariants as binary
use Rattle.caf_kinds.proofs.Says.{chain_stops, chain_rest_stops, chain_goes, says_min, says_max, some_stops, some_goes}
use Rattle.caf_kinds.proofs.expr.+exprs.Goals as goal

pub expr-returns-in_err-first-in-Chain : goal.expr-returns-in_err-first-in-Chain
expr-returns-in_err-first-in-Chain t c =
    chain_stops c.args.scope.now c.args.line c.args.e.now c.in-Chain.a c.get-in-Chain.result.now c.in-Chain.others c.as_slice-in-Chain.result.now c.first_meant.result c.from_residual-in_err-first-in-Chain.result c.in_err-first-in-Chain.field-0.0
    c.in-Chain.is c.get-in-Chain.ensures c.as_slice-in-Chain.ensures c.first_meant.ensures c.in_err-first-in-Chain.was (search rules)

pub expr-returns-in_err-others-in-Chain : goal.expr-returns-in_err-others-in-Chain
expr-returns-in_err-others-in-Chain t c =
    chain_rest_stops c.args.scope.now c.args.line c.args.e.now c.in-Chain.a c.get-in-Chain.result.now c.in-Chain.others c.as_slice-in-Chain.result.now c.as_slice-in-Chain-2.result.now c.first_meant.result c.in_ok-first-in-Chain.first c.operands.result
    c.from_residual-in_err-others-in-Chain.result c.in_err-others-in-Chain.field-0.0 c.in-Chain.is c.get-in-Chain.ensures c.as_slice-in-Chain.ensures c.as_slice-in-Chain-2.ensures c.first_meant.ensures c.in_ok-first-in-Chain.was c.operands.ensures
    c.in_err-others-in-Chain.was (search rules)

pub expr-returns-in_ok-others-in-Chain : goal.expr-returns-in_ok-others-in-Chain
expr-returns-in_ok-others-in-Chain t c =
    chain_goes c.args.scope.now c.args.line c.args.e.now c.in-Chain.a c.get-in-Chain.result.now c.in-Chain.others c.as_slice-in-Chain.result.now c.as_slice-in-Chain-2.result.now c.first_meant.result c.in_ok-first-in-Chain.first c.operands.result
    c.in_ok-others-in-Chain.others c.chained.result c.in-Chain.is c.get-in-Chain.ensures c.as_slice-in-Chain.ensures c.as_slice-in-Chain-2.ensures c.first_meant.ensures c.in_ok-first-in-Chain.was c.operands.ensures c.in_ok-others-in-Chain.was c.chained.ensures

pub expr-returns-in_err-others-in-Min : goal.expr-returns-in_err-others-in-Min
expr-returns-in_err-others-in-Min t c =
    some_stops c.args.scope.now c.args.line binary.Minimum c.args.e.now c.in-Min.a c.in-Min.b c.get-in-Min.result.now c.get-in-Min-2.result.now c.in-Min.others c.as_slice.result.now
    (says_min c.args.scope.now c.args.line c.args.e.now c.in-Min.a c.in-Min.b c.in-Min.others c.in-Min.is) c.get-in-Min.ensures c.get-in-Min-2.ensures c.as_slice.ensures
    c.leading-in-Min.result c.in_ok-first-in-Min.first c.under-in-Min.result c.in_ok-second-in-Min.second c.listed.result c.leading-in-Min.ensures c.in_ok-first-in-Min.was c.under-in-Min.ensures c.in_ok-second-in-Min.was c.listed.ensures
    c.in_err-others-in-Min.field-0.0 c.from_residual-in_err-others-in-Min.result c.in_err-others-in-Min.was (search rules)

pub expr-returns-in_ok-others-in-Min : goal.expr-returns-in_ok-others-in-Min
expr-returns-in_ok-others-in-Min t c =
    some_goes c.args.scope.now c.args.line binary.Minimum c.args.e.now c.in-Min.a c.in-Min.b c.get-in-Min.result.now c.get-in-Min-2.result.now c.in-Min.others c.as_slice.result.now
    (says_min c.args.scope.now c.args.line c.args.e.now c.in-Min.a c.in-Min.b c.in-Min.others c.in-Min.is) c.get-in-Min.ensures c.get-in-Min-2.ensures c.as_slice.ensures
    c.leading-in-Min.result c.in_ok-first-in-Min.first c.under-in-Min.result c.in_ok-second-in-Min.second c.listed.result c.leading-in-Min.ensures c.in_ok-first-in-Min.was c.under-in-Min.ensures c.in_ok-second-in-Min.was c.listed.ensures
    c.in_ok-others-in-Min.others c.joined.result c.in_ok-others-in-Min.was c.joined.ensures

pub expr-returns-in_err-others-in-Max : goal.expr-returns-in_err-others-in-Max
expr-returns-in_err-others-in-Max t c =
    some_stops c.args.scope.now c.args.line binary.Maximum c.args.e.now c.in-Max.a c.in-Max.b c.get-in-Max.result.now c.get-in-Max-2.result.now c.in-Max.others c.as_slice-in-Max.result.now
    (says_max c.args.scope.now c.args.line c.args.e.now c.in-Max.a c.in-Max.b c.in-Max.others c.in-Max.is) c.get-in-Max.ensures c.get-in-Max-2.ensures c.as_slice-in-Max.ensures
    c.leading-in-Max.result c.in_ok-first-in-Max.first c.under-in-Max.result c.in_ok-second-in-Max.second c.listed-in-Max.result c.leading-in-Max.ensures c.in_ok-first-in-Max.was c.under-in-Max.ensures c.in_ok-second-in-Max.was c.listed-in-Max.ensures
    c.in_err-others-in-Max.field-0.0 c.from_residual-in_err-others-in-Max.result c.in_err-others-in-Max.was (search rules)

pub expr-returns-in_ok-others-in-Max : goal.expr-returns-in_ok-others-in-Max
expr-returns-in_ok-others-in-Max t c =
    some_goes c.args.scope.now c.args.line binary.Maximum c.args.e.now c.in-Max.a c.in-Max.b c.get-in-Max.result.now c.get-in-Max-2.result.now c.in-Max.others c.as_slice-in-Max.result.now
    (says_max c.args.scope.now c.args.line c.args.e.now c.in-Max.a c.in-Max.b c.in-Max.others c.in-Max.is) c.get-in-Max.ensures c.get-in-Max-2.ensures c.as_slice-in-Max.ensures
    c.leading-in-Max.result c.in_ok-first-in-Max.first c.under-in-Max.result c.in_ok-second-in-Max.second c.listed-in-Max.result c.leading-in-Max.ensures c.in_ok-first-in-Max.was c.under-in-Max.ensures c.in_ok-second-in-Max.was c.listed-in-Max.ensures
    c.in_ok-others-in-Max.others c.joined-in-Max.result c.in_ok-others-in-Max.was c.joined-in-Max.ensures
