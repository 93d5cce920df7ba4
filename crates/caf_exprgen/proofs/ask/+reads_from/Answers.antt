use Rattle.std.proofs.Common.{arith, ap, sym, ◌∙◌, ◌+◌, ◌++◌, drop}
use Rattle.std.proofs.lemmas.Result.{on_ok_weaker}
use Rattle.caf_exprgen.specs.ExprCode.{chain_reads, coded_counts, coded_operands, joined}
use Rattle.caf_exprgen.proofs.Seq.{begins_more, begins_on}
use Rattle.caf_exprgen.proofs.Layers.{chain_reads_begin, chain_reads_on, coindexed_asked, drop_item, pointed_asked}
use Rattle.caf_exprgen.proofs.ask.+reads_from.Goals as goal

pub loop-operand-init : goal.loop-operand-init
loop-operand-init t c =
    let h = chain_reads_begin c.args.e.now c.in-Chain.first c.get-in-Chain.result.now c.in-Chain.rest c.as_slice-operand-items.result.now c.args.at.now c.reads_from-in-Chain.new.at c.args.out.now.items c.reads_from-in-Chain.new.out.items
    c.in-Chain.is c.get-in-Chain.ensures c.as_slice-operand-items.ensures c.in_ok-reads_from-in-Chain.ensures.code c.in_ok-reads_from-in-Chain.ensures.at in
    record { count = h.0; code = h.1; begins = begins_more _ _ _ c.in_ok-reads_from-in-Chain.ensures.code }

pub loop-operand-preserved : goal.loop-operand-preserved
loop-operand-preserved t c =
    let items = c.as_slice-operand-items.result.now in
    let n = c.loop-operand.operand-index in
    let item = drop_item items n c.loop-operand-item.result c.loop-operand-test.true c.loop-operand-item.is in
    record {
      count = omega (arith, c.in_ok-reads_from-in-Chain-2.ensures.at, c.loop-operand.invariant.count, ap (λ l. coded_counts (coded_operands l)) item);
      code =
          chain_reads_on c.loop-operand-item.result (drop (n + 1) items) c.loop-operand.at c.reads_from-in-loop-operand.new.at c.loop-operand.out.items c.reads_from-in-loop-operand.new.out.items c.in_ok-reads_from-in-Chain-2.ensures.code c.in_ok-reads_from-in-Chain-2.ensures.at
          ∙ ap (λ l. c.loop-operand.out.items ++ joined (chain_reads (coded_operands l) c.loop-operand.at)) (sym item)
          ∙ c.loop-operand.invariant.code;
      begins = begins_on _ _ _ c.loop-operand.invariant.begins (begins_more _ _ _ c.in_ok-reads_from-in-Chain-2.ensures.code);
    }

pub returns-in_ok-reads_from-in-Coindexed-2-clause-code : goal.returns-in_ok-reads_from-in-Coindexed-2-clause-code
returns-in_ok-reads_from-in-Coindexed-2-clause-code t c =
    on_ok_weaker c.ask_at.result
    (coindexed_asked c.args.e.now c.in-Coindexed.index c.get-index.result.now c.get-rank.result.now c.in-Coindexed.object c.in-Coindexed.place c.args.at.now c.reads_from-in-Coindexed.new.at c.args.out.now.items c.reads_from-in-Coindexed.new.out.items
    c.reads_from-in-Coindexed-2.new.out.items c.ask_at.new.out.items c.in-Coindexed.is c.get-index.ensures c.get-rank.ensures c.in_ok-reads_from-in-Coindexed.ensures.code c.in_ok-reads_from-in-Coindexed.ensures.at c.in_ok-reads_from-in-Coindexed-2.ensures.code)
    c.ask_at.ensures.code

pub returns-in_ok-reads_from-in-Pointed-clause-code : goal.returns-in_ok-reads_from-in-Pointed-clause-code
returns-in_ok-reads_from-in-Pointed-clause-code t c =
    on_ok_weaker c.ask_behind.result
    (pointed_asked c.args.e.now c.in-Pointed.index c.get-index-in-Pointed.result.now c.in-Pointed.copointer c.args.at.now c.args.out.now.items c.reads_from-in-Pointed.new.out.items c.ask_behind.new.out.items c.in-Pointed.is c.get-index-in-Pointed.ensures
    c.in_ok-reads_from-in-Pointed.ensures.code)
    c.ask_behind.ensures.code
