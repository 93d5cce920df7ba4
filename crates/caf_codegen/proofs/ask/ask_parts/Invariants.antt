use Rattle.std.proofs.Common.{◌≡◌, ◌++◌, drop}
use Rattle.std.specs.List.{flat_map}
use Rattle.caf_program.specs.Expressions.{of_part}
use Rattle.caf_codegen.specs.StmtCode.{asked}
use Rattle.caf_codegen.proofs.ask.ask_parts.Given as goal

-- what is there, with the reads of what is left, are all reads
abbrev pub invariant-loop-part : goal.invariant-loop-part
invariant-loop-part l = record {
  code : l.code.items ++ asked (flat_map of_part (drop l.part-index l.parts)) l.next ≡ l.fn.code.items ++ asked (flat_map of_part l.fn.parts) 0;
}
