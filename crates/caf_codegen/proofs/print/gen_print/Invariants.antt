use Rattle.std.proofs.Common.{◌≡◌, ◌++◌, drop, length}
use Rattle.caf_codegen.specs.StmtCode.{part_texts, parts_code}
use Rattle.caf_codegen.proofs.print.gen_print.Given as goal

-- what is there, and then what is left, is the whole
abbrev pub invariant-loop-part : goal.invariant-loop-part
invariant-loop-part l = record {
  code : l.code.items ++ parts_code (drop l.part-index l.parts) l.held (length l.texts) ≡ l.fn.code.items ++ parts_code l.fn.parts 0 (length l.fn.texts);
  texts : l.texts ++ part_texts (drop l.part-index l.parts) ≡ l.fn.texts ++ part_texts l.fn.parts;
}
