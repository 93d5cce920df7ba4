use Rattle.std.proofs.Common.{◌≡◌, ◌++◌, drop, length}
use Rattle.caf_codegen.specs.ProgramCode.{sub_entries, subs_code, subs_texts}
use Rattle.caf_codegen.proofs.program.gen_subs.Given as goal

-- what is there, and then what is left, is the whole
abbrev pub invariant-loop-sub : goal.invariant-loop-sub
invariant-loop-sub l = record {
  entries : l.entries ++ sub_entries (drop l.sub-index l.subs) (length l.code.items) ≡ sub_entries l.fn.subs (length l.fn.code.items);
  code : l.code.items ++ subs_code (drop l.sub-index l.subs) (length l.code.items) (length l.texts) ≡ l.fn.code.items ++ subs_code l.fn.subs (length l.fn.code.items) (length l.fn.texts);
  texts : l.texts ++ subs_texts (drop l.sub-index l.subs) ≡ l.fn.texts ++ subs_texts l.fn.subs;
}
