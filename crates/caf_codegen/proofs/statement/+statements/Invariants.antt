use Rattle.std.proofs.Common.{◌≡◌, ◌++◌, drop, length}
use Rattle.caf_codegen.specs.StmtCode.{block, codes, texts_in}
use Rattle.caf_codegen.proofs.statement.+statements.Given as goal

-- what is there, and then what is left, is the whole
abbrev pub invariant-gen_block-loop-statement : goal.invariant-gen_block-loop-statement
invariant-gen_block-loop-statement l = record {
  code : l.code.items ++ block (codes (drop l.statement-index l.block)) (length l.code.items) (length l.texts) ≡ l.fn.code.items ++ block (codes l.fn.block) (length l.fn.code.items) (length l.fn.texts);
  texts : l.texts ++ texts_in (codes (drop l.statement-index l.block)) ≡ l.fn.texts ++ texts_in (codes l.fn.block);
}
