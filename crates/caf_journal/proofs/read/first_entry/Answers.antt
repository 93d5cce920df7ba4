use Rattle.std.proofs.Common.{sym}
use Rattle.caf_journal.proofs.Traces.{no_line, bad_line, good_line}
use Rattle.caf_journal.proofs.read.first_entry.Goals as goal

pub returns-in_err-line : goal.returns-in_err-line
returns-in_err-line c = record { line = rw c.from_residual.ensures (no_line c.args.text.now (sym c.in_err-line.ensures)) }

pub returns-in_err-entry_of : goal.returns-in_err-entry_of
returns-in_err-entry_of c =
    record { line = rw c.from_residual-in_err-entry_of.ensures (bad_line c.args.text.now c.in_ok-line.line.now c.in_ok-line.after.now (sym c.in_ok-line.ensures) (sym c.in_err-entry_of.ensures)) }

pub returns : goal.returns
returns c =
    record { line = good_line c.args.text.now c.in_ok-line.line.now c.in_ok-line.after.now c.in_ok-entry_of.field-0 (sym c.in_ok-line.ensures) (sym c.in_ok-entry_of.ensures) }
