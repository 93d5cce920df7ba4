use Rattle.std.proofs.Common.{◌≡◌, ◌+◌, ◌<◌, None, Some, drop, arith, length, sym, ap, refl, subst, ◌∙◌}
use Rattle.caf_program.specs.declared.expr.ExprR.TheVariants as V
use Rattle.caf_program.specs.Value.{Read, chain_reads, count, counts, operands, value_at}
use Rattle.caf_treestep.specs.Reading.{next_read}
use Rattle.caf_program.specs.View.{seen}
use Rattle.caf_treestep.proofs.Upcoming.{by_first, chain_count, chain_next, coindexed_next, coindexed_same, drop_item, found_by, next_here, next_past, operands_next, or_else, pointed_next, pointed_same}
use Rattle.caf_treestep.proofs.reading.+read_from.Goals as goal

pub returns-in-Some-clause-read : goal.returns-in-Some-clause-read
returns-in-Some-clause-read t c =
    by_first _ _ _ (Some c.in-Some.read) (coindexed_next c.each_held_value_has_its_read.ensures.listed c.args.e.now c.in-Coindexed.object c.in-Coindexed.index c.in-Coindexed.place c.args.at.now (seen c.args.view.now) c.args.memory.now (c.in-Coindexed.is ∙ sym (V.rolls-Coindexed c.in-Coindexed.object c.in-Coindexed.index c.in-Coindexed.place))) (found_by c.get-in-Coindexed.result.now c.in-Coindexed.index c.args.at.now c.args.at.now (seen c.args.view.now) c.args.memory.now c.read_from-in-Coindexed.result (Some c.in-Some.read) c.get-in-Coindexed.ensures refl c.read_from-in-Coindexed.ensures.read c.in-Some.is)

pub returns-in-Some-read_from-clause-read : goal.returns-in-Some-read_from-clause-read
returns-in-Some-read_from-clause-read t c =
    by_first _ _ _ (Some c.in-Some-read_from.read) refl (found_by c.get-in-Coindexed-2.result.now c.in-Coindexed.place.rank c.read_from-in-Coindexed.new.at (c.args.at.now + count c.in-Coindexed.index) (seen c.args.view.now) c.args.memory.now c.read_from-in-Coindexed-2.result (Some c.in-Some-read_from.read) c.get-in-Coindexed-2.ensures (c.in_default.ensures.at ∙ ap (λ x. c.args.at.now + count x) c.get-in-Coindexed.ensures) c.read_from-in-Coindexed-2.ensures.read c.in-Some-read_from.is)
    ∙ by_first _ _ _ None (coindexed_next c.each_held_value_has_its_read.ensures.listed c.args.e.now c.in-Coindexed.object c.in-Coindexed.index c.in-Coindexed.place c.args.at.now (seen c.args.view.now) c.args.memory.now (c.in-Coindexed.is ∙ sym (V.rolls-Coindexed c.in-Coindexed.object c.in-Coindexed.index c.in-Coindexed.place))) (found_by c.get-in-Coindexed.result.now c.in-Coindexed.index c.args.at.now c.args.at.now (seen c.args.view.now) c.args.memory.now c.read_from-in-Coindexed.result None c.get-in-Coindexed.ensures refl c.read_from-in-Coindexed.ensures.read c.in_default.is)

pub returns-then-at-view-clause-read : goal.returns-then-at-view-clause-read
returns-then-at-view-clause-read t c =
    let end : c.read_from-in-Coindexed-2.new.at ≡ c.args.at.now + count c.in-Coindexed.index + count c.in-Coindexed.place.rank = c.in_default-read_from.ensures.at ∙ ap (λ x. c.read_from-in-Coindexed.new.at + count x) c.get-in-Coindexed-2.ensures ∙ ap (λ n. n + count c.in-Coindexed.place.rank) (c.in_default.ensures.at ∙ ap (λ x. c.args.at.now + count x) c.get-in-Coindexed.ensures) in
    sym (next_past (Read.Coindexed c.in-Coindexed.object c.in-Coindexed.place.team (value_at c.in-Coindexed.index c.args.at.now) (value_at c.in-Coindexed.place.rank (c.args.at.now + count c.in-Coindexed.index))) (c.args.at.now + count c.in-Coindexed.index + count c.in-Coindexed.place.rank) (seen c.args.view.now) c.args.memory.now (subst (λ n. n < length c.args.view.now.held.now) end c.if-at-view.true))
    ∙ by_first _ _ _ None refl (found_by c.get-in-Coindexed-2.result.now c.in-Coindexed.place.rank c.read_from-in-Coindexed.new.at (c.args.at.now + count c.in-Coindexed.index) (seen c.args.view.now) c.args.memory.now c.read_from-in-Coindexed-2.result None c.get-in-Coindexed-2.ensures (c.in_default.ensures.at ∙ ap (λ x. c.args.at.now + count x) c.get-in-Coindexed.ensures) c.read_from-in-Coindexed-2.ensures.read c.in_default-read_from.is)
    ∙ by_first _ _ _ None (coindexed_next c.each_held_value_has_its_read.ensures.listed c.args.e.now c.in-Coindexed.object c.in-Coindexed.index c.in-Coindexed.place c.args.at.now (seen c.args.view.now) c.args.memory.now (c.in-Coindexed.is ∙ sym (V.rolls-Coindexed c.in-Coindexed.object c.in-Coindexed.index c.in-Coindexed.place))) (found_by c.get-in-Coindexed.result.now c.in-Coindexed.index c.args.at.now c.args.at.now (seen c.args.view.now) c.args.memory.now c.read_from-in-Coindexed.result None c.get-in-Coindexed.ensures refl c.read_from-in-Coindexed.ensures.read c.in_default.is)

pub returns-else-at-view-clause-read : goal.returns-else-at-view-clause-read
returns-else-at-view-clause-read t c =
    let end : c.read_from-in-Coindexed-2.new.at ≡ c.args.at.now + count c.in-Coindexed.index + count c.in-Coindexed.place.rank = c.in_default-read_from.ensures.at ∙ ap (λ x. c.read_from-in-Coindexed.new.at + count x) c.get-in-Coindexed-2.ensures ∙ ap (λ n. n + count c.in-Coindexed.place.rank) (c.in_default.ensures.at ∙ ap (λ x. c.args.at.now + count x) c.get-in-Coindexed.ensures) in
    let here : c.args.at.now + count c.in-Coindexed.index + count c.in-Coindexed.place.rank ≡ length c.args.view.now.held.now = omega (arith, end, c.if-at-view.false, c.in_default-read_from.ensures.held) in
    ap Some (c.coindexed.ensures ∙ coindexed_same c.in-Coindexed.object c.in-Coindexed.place.team c.in-Coindexed.index c.get-in-Coindexed-3.result.now c.in-Coindexed.place.rank c.get-in-Coindexed-4.result.now c.args.at.now (seen c.args.view.now) c.args.memory.now c.get-in-Coindexed-3.ensures c.get-in-Coindexed-4.ensures)
    ∙ sym (next_here (Read.Coindexed c.in-Coindexed.object c.in-Coindexed.place.team (value_at c.in-Coindexed.index c.args.at.now) (value_at c.in-Coindexed.place.rank (c.args.at.now + count c.in-Coindexed.index))) (c.args.at.now + count c.in-Coindexed.index + count c.in-Coindexed.place.rank) (seen c.args.view.now) c.args.memory.now here)
    ∙ by_first _ _ _ None refl (found_by c.get-in-Coindexed-2.result.now c.in-Coindexed.place.rank c.read_from-in-Coindexed.new.at (c.args.at.now + count c.in-Coindexed.index) (seen c.args.view.now) c.args.memory.now c.read_from-in-Coindexed-2.result None c.get-in-Coindexed-2.ensures (c.in_default.ensures.at ∙ ap (λ x. c.args.at.now + count x) c.get-in-Coindexed.ensures) c.read_from-in-Coindexed-2.ensures.read c.in_default-read_from.is)
    ∙ by_first _ _ _ None (coindexed_next c.each_held_value_has_its_read.ensures.listed c.args.e.now c.in-Coindexed.object c.in-Coindexed.index c.in-Coindexed.place c.args.at.now (seen c.args.view.now) c.args.memory.now (c.in-Coindexed.is ∙ sym (V.rolls-Coindexed c.in-Coindexed.object c.in-Coindexed.index c.in-Coindexed.place))) (found_by c.get-in-Coindexed.result.now c.in-Coindexed.index c.args.at.now c.args.at.now (seen c.args.view.now) c.args.memory.now c.read_from-in-Coindexed.result None c.get-in-Coindexed.ensures refl c.read_from-in-Coindexed.ensures.read c.in_default.is)

pub returns-in-Some-read_from-2-clause-read : goal.returns-in-Some-read_from-2-clause-read
returns-in-Some-read_from-2-clause-read t c =
    by_first _ _ _ (Some c.in-Some-read_from-2.read) (pointed_next c.each_held_value_has_its_read.ensures.listed c.args.e.now c.in-Pointed.copointer c.in-Pointed.index c.args.at.now (seen c.args.view.now) c.args.memory.now (c.in-Pointed.is ∙ sym (V.rolls-Pointed c.in-Pointed.copointer c.in-Pointed.index))) (found_by c.get-in-Pointed.result.now c.in-Pointed.index c.args.at.now c.args.at.now (seen c.args.view.now) c.args.memory.now c.read_from-in-Pointed.result (Some c.in-Some-read_from-2.read) c.get-in-Pointed.ensures refl c.read_from-in-Pointed.ensures.read c.in-Some-read_from-2.is)

pub returns-then-at-view-2-clause-read : goal.returns-then-at-view-2-clause-read
returns-then-at-view-2-clause-read t c =
    sym (next_past (Read.Pointed c.in-Pointed.copointer (value_at c.in-Pointed.index c.args.at.now)) (c.args.at.now + count c.in-Pointed.index) (seen c.args.view.now) c.args.memory.now (subst (λ n. n < length c.args.view.now.held.now) (c.in_default-read_from-2.ensures.at ∙ ap (λ x. c.args.at.now + count x) c.get-in-Pointed.ensures) c.if-at-view-2.true))
    ∙ by_first _ _ _ None (pointed_next c.each_held_value_has_its_read.ensures.listed c.args.e.now c.in-Pointed.copointer c.in-Pointed.index c.args.at.now (seen c.args.view.now) c.args.memory.now (c.in-Pointed.is ∙ sym (V.rolls-Pointed c.in-Pointed.copointer c.in-Pointed.index))) (found_by c.get-in-Pointed.result.now c.in-Pointed.index c.args.at.now c.args.at.now (seen c.args.view.now) c.args.memory.now c.read_from-in-Pointed.result None c.get-in-Pointed.ensures refl c.read_from-in-Pointed.ensures.read c.in_default-read_from-2.is)

pub returns-else-at-view-2-clause-read : goal.returns-else-at-view-2-clause-read
returns-else-at-view-2-clause-read t c =
    let end : c.read_from-in-Pointed.new.at ≡ c.args.at.now + count c.in-Pointed.index = (c.in_default-read_from-2.ensures.at ∙ ap (λ x. c.args.at.now + count x) c.get-in-Pointed.ensures) in
    let here : c.args.at.now + count c.in-Pointed.index ≡ length c.args.view.now.held.now = omega (arith, end, c.if-at-view-2.false, c.in_default-read_from-2.ensures.held) in
    ap Some (c.pointed.ensures ∙ pointed_same c.in-Pointed.copointer c.in-Pointed.index c.get-in-Pointed-2.result.now c.args.at.now (seen c.args.view.now) c.args.memory.now c.get-in-Pointed-2.ensures)
    ∙ sym (next_here (Read.Pointed c.in-Pointed.copointer (value_at c.in-Pointed.index c.args.at.now)) (c.args.at.now + count c.in-Pointed.index) (seen c.args.view.now) c.args.memory.now here)
    ∙ by_first _ _ _ None (pointed_next c.each_held_value_has_its_read.ensures.listed c.args.e.now c.in-Pointed.copointer c.in-Pointed.index c.args.at.now (seen c.args.view.now) c.args.memory.now (c.in-Pointed.is ∙ sym (V.rolls-Pointed c.in-Pointed.copointer c.in-Pointed.index))) (found_by c.get-in-Pointed.result.now c.in-Pointed.index c.args.at.now c.args.at.now (seen c.args.view.now) c.args.memory.now c.read_from-in-Pointed.result None c.get-in-Pointed.ensures refl c.read_from-in-Pointed.ensures.read c.in_default-read_from-2.is)

pub returns-in-Some-read_from-3-clause-read : goal.returns-in-Some-read_from-3-clause-read
returns-in-Some-read_from-3-clause-read t c =
    by_first _ _ _ (Some c.in-Some-read_from-3.read) (chain_next c.each_held_value_has_its_read.ensures.listed c.args.e.now c.in-Chain.first c.in-Chain.rest c.args.at.now (seen c.args.view.now) c.args.memory.now (c.in-Chain.is ∙ sym (V.rolls-Chain c.in-Chain.first c.in-Chain.rest))) (found_by c.get-in-Chain.result.now c.in-Chain.first c.args.at.now c.args.at.now (seen c.args.view.now) c.args.memory.now c.read_from-in-Chain.result (Some c.in-Some-read_from-3.read) c.get-in-Chain.ensures refl c.read_from-in-Chain.ensures.read c.in-Some-read_from-3.is)

pub loop-operand-init : goal.loop-operand-init
loop-operand-init t c =
    let at_is : c.read_from-in-Chain.new.at ≡ c.args.at.now + count c.in-Chain.first = c.in_default-read_from-3.ensures.at ∙ ap (λ x. c.args.at.now + count x) c.get-in-Chain.ensures in
    record {
      count = omega (arith, at_is, chain_count c.args.e.now c.in-Chain.first c.in-Chain.rest (c.in-Chain.is ∙ sym (V.rolls-Chain c.in-Chain.first c.in-Chain.rest)), ap (λ l. counts (operands l)) c.as_slice-operand-items.ensures);
      held = c.in_default-read_from-3.ensures.held;
      read =
          ap (λ l. next_read (chain_reads (operands l) c.read_from-in-Chain.new.at) c.read_from-in-Chain.new.at (seen c.args.view.now) c.args.memory.now) c.as_slice-operand-items.ensures
          ∙ ap (λ n. next_read (chain_reads (operands c.in-Chain.rest) n) n (seen c.args.view.now) c.args.memory.now) at_is
          ∙ by_first _ _ _ None (chain_next c.each_held_value_has_its_read.ensures.listed c.args.e.now c.in-Chain.first c.in-Chain.rest c.args.at.now (seen c.args.view.now) c.args.memory.now (c.in-Chain.is ∙ sym (V.rolls-Chain c.in-Chain.first c.in-Chain.rest))) (found_by c.get-in-Chain.result.now c.in-Chain.first c.args.at.now c.args.at.now (seen c.args.view.now) c.args.memory.now c.read_from-in-Chain.result None c.get-in-Chain.ensures refl c.read_from-in-Chain.ensures.read c.in_default-read_from-3.is);
    }

pub returns-in-Some-read_from-4-clause-read : goal.returns-in-Some-read_from-4-clause-read
returns-in-Some-read_from-4-clause-read t c =
    by_first _ _ _ (Some c.in-Some-read_from-4.read)
    (ap (λ l. next_read (chain_reads (operands l) c.loop-operand.at) c.loop-operand.at (seen c.args.view.now) c.args.memory.now) (drop_item c.as_slice-operand-items.result.now c.loop-operand.operand-index c.loop-operand-item.result c.loop-operand-test.true c.loop-operand-item.is)
    ∙ operands_next c.each_held_value_has_its_read.ensures.listed c.loop-operand-item.result (drop (c.loop-operand.operand-index + 1) c.as_slice-operand-items.result.now) c.loop-operand.at (seen c.args.view.now) c.args.memory.now)
    (sym c.read_from-in-loop-operand.ensures.read ∙ c.in-Some-read_from-4.is)
    ∙ c.loop-operand.invariant.read

pub loop-operand-preserved : goal.loop-operand-preserved
loop-operand-preserved t c =
    let item = drop_item c.as_slice-operand-items.result.now c.loop-operand.operand-index c.loop-operand-item.result c.loop-operand-test.true c.loop-operand-item.is in
    record {
      count = omega (arith, c.in_default-read_from-4.ensures.at, c.loop-operand.invariant.count, ap (λ l. counts (operands l)) item);
      held = c.in_default-read_from-4.ensures.held;
      read =
          ap (λ n. next_read (chain_reads (operands (drop (c.loop-operand.operand-index + 1) c.as_slice-operand-items.result.now)) n) n (seen c.args.view.now) c.args.memory.now) c.in_default-read_from-4.ensures.at
          ∙ by_first _ _ _ None
          (ap (λ l. next_read (chain_reads (operands l) c.loop-operand.at) c.loop-operand.at (seen c.args.view.now) c.args.memory.now) item
          ∙ operands_next c.each_held_value_has_its_read.ensures.listed c.loop-operand-item.result (drop (c.loop-operand.operand-index + 1) c.as_slice-operand-items.result.now) c.loop-operand.at (seen c.args.view.now) c.args.memory.now)
          (sym c.read_from-in-loop-operand.ensures.read ∙ c.in_default-read_from-4.is)
          ∙ c.loop-operand.invariant.read;
    }
