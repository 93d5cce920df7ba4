use Rattle.std.proofs.Common.{◌+◌, None, Some, arith, drop, map, sym, ap, ◌∙◌}
use Rattle.caf_program.specs.Expressions.{count_all, reads_all}
use Rattle.caf_program.specs.View.{seen}
use Rattle.caf_treestep.specs.Reading.{next_read}
use Rattle.caf_treestep.proofs.Upcoming.{all_next, by_first, drop_item}
use Rattle.caf_treestep.proofs.reading.next_read.Goals as goal

pub returns-in-Some-clause-read : goal.returns-in-Some-clause-read
returns-in-Some-clause-read c =
    by_first _ _ _ (Some c.in-Some.read)
    (ap (λ l. next_read (reads_all l c.loop-e.at) c.loop-e.at (seen c.args.view.now) c.args.memory.now) (ap (λ l. map (λ x. x.now) l) (drop_item c.args.expressions.now c.loop-e.e-index c.e-item.result c.loop-e-test.true c.e-item.is)) ∙ all_next c.each_held_value_has_its_read.ensures.listed c.e-item.result.now (map (λ x. x.now) (drop (c.loop-e.e-index + 1) c.args.expressions.now)) c.loop-e.at (seen c.args.view.now) c.args.memory.now)
    (sym c.read_from.ensures.read ∙ c.in-Some.is)
    ∙ c.loop-e.invariant.read

pub loop-e-preserved : goal.loop-e-preserved
loop-e-preserved c =
    let item = ap (λ l. map (λ x. x.now) l) (drop_item c.args.expressions.now c.loop-e.e-index c.e-item.result c.loop-e-test.true c.e-item.is) in
    record {
      count = omega (arith, c.in_default.ensures.at, c.loop-e.invariant.count, ap count_all item);
      held = c.in_default.ensures.held;
      read =
          ap (λ n. next_read (reads_all (map (λ x. x.now) (drop (c.loop-e.e-index + 1) c.args.expressions.now)) n) n (seen c.args.view.now) c.args.memory.now) c.in_default.ensures.at
          ∙ by_first _ _ _ None
          (ap (λ l. next_read (reads_all l c.loop-e.at) c.loop-e.at (seen c.args.view.now) c.args.memory.now) item ∙ all_next c.each_held_value_has_its_read.ensures.listed c.e-item.result.now (map (λ x. x.now) (drop (c.loop-e.e-index + 1) c.args.expressions.now)) c.loop-e.at (seen c.args.view.now) c.args.memory.now)
          (sym c.read_from.ensures.read ∙ c.in_default.is)
          ∙ c.loop-e.invariant.read;
    }
