use Rattle.std.proofs.Common.{◌≡◌, ap, ◌∙◌}
use Rattle.std.proofs.lemmas.List.{take_all}
use Rattle.caf_journal.specs.Trace.{trace_text}
use Rattle.caf_journal.proofs.Traces.{one_journal, trace_short}
use Rattle.caf_journal.proofs.print.print_trace.Goals as goal

pub returns-clause-only : goal.returns-clause-only
returns-clause-only c =
    let whole : c.loop-entry.text.items ≡ trace_text c.args.journal.now = c.loop-entry.invariant ∙ ap trace_text (take_all c.loop-entry.entry-index c.args.journal.now c.loop-entry-test.false) in
    λ other spells. one_journal c.loop-entry.text.items other c.args.journal.now spells (c.requires, whole)

pub returns-clause-short : goal.returns-clause-short
returns-clause-short c = trace_short c.args.journal.now c.loop-entry.text.items c.requires (c.loop-entry.invariant ∙ ap trace_text (take_all c.loop-entry.entry-index c.args.journal.now c.loop-entry-test.false))
