use Rattle.caf_journal.proofs.Traces.{read_whole, read_bad}
use Rattle.caf_journal.proofs.read.read_trace.Goals as goal

pub returns-clause-trace : goal.returns-clause-trace
returns-clause-trace c = read_whole c.args.bytes.now c.read_lines.result c.read_lines.ensures.found c.read_lines.ensures.fault

pub returns-clause-bad_line : goal.returns-clause-bad_line
returns-clause-bad_line c = read_bad c.args.bytes.now c.read_lines.result c.read_lines.ensures.found c.read_lines.ensures.fault
