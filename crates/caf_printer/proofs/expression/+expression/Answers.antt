use Rattle.caf_printer.proofs.Layers.{not_layer, signed_layer, chain_layer, compare_layer, min_layer, max_layer}
use Rattle.caf_printer.proofs.expression.+expression.Goals as goal

pub add_expression-returns-in_ok-add_expression-in-Not : goal.add_expression-returns-in_ok-add_expression-in-Not
add_expression-returns-in_ok-add_expression-in-Not t c =
    not_layer _ _ _ _ _ _ c.in-Not.is c.get-in-Not.ensures c.in_ok-sign-in-Not.ensures c.in_ok-add_expression-in-Not.ensures

pub add_expression-returns-in_ok-add_expression-in-Signed : goal.add_expression-returns-in_ok-add_expression-in-Signed
add_expression-returns-in_ok-add_expression-in-Signed t c =
    signed_layer _ _ _ _ _ _ _ _ c.in-Signed.is c.get-in-Signed.ensures c.front_sign.ensures c.in_ok-sign-in-Signed.ensures c.in_ok-add_expression-in-Signed.ensures

pub add_expression-returns-in_ok-add_chain-in-Chain : goal.add_expression-returns-in_ok-add_chain-in-Chain
add_expression-returns-in_ok-add_chain-in-Chain t c =
    chain_layer _ _ _ _ _ _ _ _ c.in-Chain.is c.get-in-Chain.ensures c.as_slice-in-Chain.ensures c.in_ok-add_expression-in-Chain.ensures c.in_ok-add_chain-in-Chain.ensures

pub add_expression-returns-in_ok-add_expression-in-Compare-2 : goal.add_expression-returns-in_ok-add_expression-in-Compare-2
add_expression-returns-in_ok-add_expression-in-Compare-2 t c =
    compare_layer _ _ _ _ _ _ _ _ _ _ _ c.in-Compare.is c.get-in-Compare.ensures c.get-in-Compare-2.ensures c.relation_sign.ensures
    c.in_ok-add_expression-in-Compare.ensures c.in_ok-sign-in-Compare.ensures c.in_ok-add_expression-in-Compare-2.ensures

pub add_expression-returns-in_ok-sign-in-Min : goal.add_expression-returns-in_ok-sign-in-Min
add_expression-returns-in_ok-sign-in-Min t c =
    min_layer _ _ _ _ _ _ _ _ _ _ _ _ c.in-Min.is c.get-in-Min.ensures c.get-in-Min-2.ensures c.as_slice.ensures
    c.in_ok-add_first-in-Min.ensures c.in_ok-add_next-in-Min.ensures c.in_ok-add_others-in-Min.ensures c.in_ok-sign-in-Min.ensures

pub add_expression-returns-in_ok-sign-in-Max : goal.add_expression-returns-in_ok-sign-in-Max
add_expression-returns-in_ok-sign-in-Max t c =
    max_layer _ _ _ _ _ _ _ _ _ _ _ _ c.in-Max.is c.get-in-Max.ensures c.get-in-Max-2.ensures c.as_slice-in-Max.ensures
    c.in_ok-add_first-in-Max.ensures c.in_ok-add_next-in-Max.ensures c.in_ok-add_others-in-Max.ensures c.in_ok-sign-in-Max.ensures
