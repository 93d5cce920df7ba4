use Rattle.std.proofs.Common.{◌≡◌, ◌++◌, drop}
use Rattle.caf_code.specs.Listing.{numbered, instr_line}
use Rattle.caf_code.proofs.print.push_instrs.Given as goal

abbrev pub invariant-loop-address : goal.invariant-loop-address
invariant-loop-address l = l.text.items ++ numbered instr_line l.address (drop l.address l.instrs) ≡ l.initial.text.items ++ numbered instr_line 0 l.instrs
