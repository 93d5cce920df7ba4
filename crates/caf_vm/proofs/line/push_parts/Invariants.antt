use Rattle.std.proofs.Common.{◌≡◌, ◌++◌, drop, string_bytes}
use Rattle.caf_base.specs.Line.{with_blanks}
use Rattle.caf_vm.proofs.line.push_parts.Given as goal

-- what is there, and then what is left
abbrev pub invariant-loop-part : goal.invariant-loop-part
invariant-loop-part l = string_bytes l.line ++ with_blanks (drop l.part-index l.parts) ≡ string_bytes l.fn.line ++ with_blanks l.parts
