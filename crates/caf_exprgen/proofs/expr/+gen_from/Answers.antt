use Rattle.std.proofs.Common.{refl, rules, arith, ap, sym, ◌∙◌, ◌+◌, ◌++◌, [], ◌∷◌}
use Rattle.std.proofs.lemmas.Result.{on_ok_weaker}
use Rattle.caf_program.specs.Value.{count}
use Rattle.caf_code.specs.declared.instr.Instr.TheVariants as instr
use Rattle.caf_exprgen.proofs.Seq.{begins_more}
use Rattle.caf_exprgen.proofs.Layers.{chain_begins, coindexed_held, element_behind, pointed_held, unary_behind}
use Rattle.caf_exprgen.proofs.expr.+gen_from.Goals as goal

pub skip_held-requires : goal.skip_held-requires
skip_held-requires t c =
    let x = c.get-in-Coindexed.result.now in
    let h = coindexed_held c.args.e.now c.in-Coindexed.index x c.in-Coindexed.place.rank c.in-Coindexed.object c.in-Coindexed.place c.args.at.now c.in-Coindexed.is c.get-in-Coindexed.ensures refl in
    omega (arith, c.requires, h.0)

pub skip_held-requires-in-Coindexed : goal.skip_held-requires-in-Coindexed
skip_held-requires-in-Coindexed t c =
    let x = c.get-in-Coindexed.result.now in
    let y = c.get-in-Coindexed-2.result.now in
    let h = coindexed_held c.args.e.now c.in-Coindexed.index x y c.in-Coindexed.object c.in-Coindexed.place c.args.at.now c.in-Coindexed.is c.get-in-Coindexed.ensures c.get-in-Coindexed-2.ensures in
    omega (arith, c.requires, h.0, c.skip_held.ensures)

pub put_held-requires : goal.put_held-requires
put_held-requires t c =
    let x = c.get-in-Coindexed.result.now in
    let y = c.get-in-Coindexed-2.result.now in
    let h = coindexed_held c.args.e.now c.in-Coindexed.index x y c.in-Coindexed.object c.in-Coindexed.place c.args.at.now c.in-Coindexed.is c.get-in-Coindexed.ensures c.get-in-Coindexed-2.ensures in
    omega (arith, c.requires, h.0, c.skip_held.ensures, c.skip_held-in-Coindexed.ensures)

pub skip_held-requires-in-Pointed : goal.skip_held-requires-in-Pointed
skip_held-requires-in-Pointed t c =
    let h = pointed_held c.args.e.now c.in-Pointed.index c.get-in-Pointed.result.now c.in-Pointed.field-0 c.args.at.now c.in-Pointed.is c.get-in-Pointed.ensures in
    omega (arith, c.requires, h.0)

pub put_held-requires-in-Pointed : goal.put_held-requires-in-Pointed
put_held-requires-in-Pointed t c =
    let h = pointed_held c.args.e.now c.in-Pointed.index c.get-in-Pointed.result.now c.in-Pointed.field-0 c.args.at.now c.in-Pointed.is c.get-in-Pointed.ensures in
    omega (arith, c.requires, h.0, c.skip_held-in-Pointed.ensures)

pub loop-operator-init : goal.loop-operator-init
loop-operator-init t c =
    let h = chain_begins c.args.e.now c.in-Chain.first c.get-in-Chain.result.now c.in-Chain.rest c.as_slice-operator-items.result.now c.args.at.now c.gen_from-in-Chain.new.at c.args.out.now.items c.gen_from-in-Chain.new.out.items
    c.in-Chain.is c.get-in-Chain.ensures c.as_slice-operator-items.ensures c.in_ok-gen_from-in-Chain.ensures.code c.in_ok-gen_from-in-Chain.ensures.at in
    record { count = h.0; code = h.1; begins = begins_more _ _ _ c.in_ok-gen_from-in-Chain.ensures.code }

pub returns-in_ok-gen_from-in-Element-clause-code : goal.returns-in_ok-gen_from-in-Element-clause-code
returns-in_ok-gen_from-in-Element-clause-code t c =
    on_ok_weaker c.put-in-Element.result
    (element_behind c.args.e.now c.in-Element.index c.get.result.now c.in-Element.object c.args.at.now c.args.out.now.items c.gen_from.new.out.items c.put-in-Element.new.out.items c.in-Element.is c.get.ensures c.in_ok-gen_from-in-Element.ensures.code)
    c.put-in-Element.ensures.ok

pub returns-in-Coindexed-clause-code : goal.returns-in-Coindexed-clause-code
returns-in-Coindexed-clause-code t c =
    let x = c.get-in-Coindexed.result.now in
    let y = c.get-in-Coindexed-2.result.now in
    let h = coindexed_held c.args.e.now c.in-Coindexed.index x y c.in-Coindexed.object c.in-Coindexed.place c.args.at.now c.in-Coindexed.is c.get-in-Coindexed.ensures c.get-in-Coindexed-2.ensures in
    on_ok_weaker c.put_held.result
    (λ e. e ∙ ap (λ n. c.args.out.now.items ++ instr.Held n ∷ []) (c.skip_held-in-Coindexed.ensures ∙ ap (λ n. n + count y) c.skip_held.ensures) ∙ ap (λ l. c.args.out.now.items ++ l) (sym h.1))
    c.put_held.ensures.code

pub returns-in-Coindexed-clause-at : goal.returns-in-Coindexed-clause-at
returns-in-Coindexed-clause-at t c =
    let x = c.get-in-Coindexed.result.now in
    let y = c.get-in-Coindexed-2.result.now in
    let h = coindexed_held c.args.e.now c.in-Coindexed.index x y c.in-Coindexed.object c.in-Coindexed.place c.args.at.now c.in-Coindexed.is c.get-in-Coindexed.ensures c.get-in-Coindexed-2.ensures in
    search (rules, arith, h.0, c.skip_held.ensures, c.skip_held-in-Coindexed.ensures, c.put_held.ensures.at)

pub returns-in-Pointed-clause-code : goal.returns-in-Pointed-clause-code
returns-in-Pointed-clause-code t c =
    let x = c.get-in-Pointed.result.now in
    let h = pointed_held c.args.e.now c.in-Pointed.index x c.in-Pointed.field-0 c.args.at.now c.in-Pointed.is c.get-in-Pointed.ensures in
    on_ok_weaker c.put_held-in-Pointed.result
    (λ e. e ∙ ap (λ n. c.args.out.now.items ++ instr.Held n ∷ []) c.skip_held-in-Pointed.ensures ∙ ap (λ l. c.args.out.now.items ++ l) (sym h.1))
    c.put_held-in-Pointed.ensures.code

pub returns-in-Pointed-clause-at : goal.returns-in-Pointed-clause-at
returns-in-Pointed-clause-at t c =
    let h = pointed_held c.args.e.now c.in-Pointed.index c.get-in-Pointed.result.now c.in-Pointed.field-0 c.args.at.now c.in-Pointed.is c.get-in-Pointed.ensures in
    search (rules, arith, h.0, c.skip_held-in-Pointed.ensures, c.put_held-in-Pointed.ensures.at)

pub returns-in_ok-gen_from-in-Unary-clause-code : goal.returns-in_ok-gen_from-in-Unary-clause-code
returns-in_ok-gen_from-in-Unary-clause-code t c =
    on_ok_weaker c.put-in-Unary.result
    (unary_behind c.args.e.now c.in-Unary.operand c.get-in-Unary.result.now c.in-Unary.operator c.unary.result c.args.at.now c.args.out.now.items c.gen_from-in-Unary.new.out.items c.put-in-Unary.new.out.items c.in-Unary.is c.get-in-Unary.ensures c.unary.ensures.same
    c.in_ok-gen_from-in-Unary.ensures.code)
    c.put-in-Unary.ensures.ok
