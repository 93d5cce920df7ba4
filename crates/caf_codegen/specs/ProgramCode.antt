-- The code of a program: the main program at address 0, and then each subroutine.
use Rattle.std.specs.Prelude.{ℕ, ◌+◌, List, [], ◌∷◌, ◌++◌, length}
use Rattle.caf_program.specs.declared.program.Program.{Program}
use Rattle.caf_program.specs.declared.program.SubR.{SubR}
use Rattle.caf_program.specs.declared.stmt.StmtR.{StmtR}
use Rattle.caf_code.specs.declared.instr.Instr.{Instr}
use Rattle.caf_code.specs.declared.instr.Instr.TheVariants as instr
use Rattle.caf_code.specs.declared.listing.Listing.{Listing}
use Rattle.caf_code.specs.declared.listing.SubCode.{SubCode}
use Rattle.caf_codegen.specs.Compiled.{copied_dummies}
use Rattle.caf_codegen.specs.StmtCode.{block, codes, sizes, texts_in}

-- the main program, and the end of its finish
abbrev pub main_code : List StmtR → List Instr
main_code body = block (codes body) 0 0 ++ (instr.Close ∷ instr.Halt ∷ [])

abbrev pub main_size : List StmtR → ℕ
main_size body = sizes (codes body) + 2

abbrev pub sub_code : SubR → ℕ → ℕ → List Instr
sub_code f a k = block (codes f.body) a k ++ instr.Ret ∷ []

abbrev pub sub_size : SubR → ℕ
sub_size f = sizes (codes f.body) + 1

-- subroutines one after another, by the address of the first and the number of its first text
abbrev pub subs_code : List SubR → ℕ → ℕ → List Instr
subs_code [] a k = []
subs_code (f ∷ rest) a k = sub_code f a k ++ subs_code rest (a + sub_size f) (k + length (texts_in (codes f.body)))

abbrev pub sub_entries : List SubR → ℕ → List SubCode
sub_entries [] a = []
sub_entries (f ∷ rest) a = record { address = a; dummies = copied_dummies f; locals = length f.locals } ∷ sub_entries rest (a + sub_size f)

abbrev pub subs_texts : List SubR → List (List ℕ)
subs_texts [] = []
subs_texts (f ∷ rest) = texts_in (codes f.body) ++ subs_texts rest

abbrev pub program_code : Program → Listing
program_code p = record {
  objects = p.objects;
  subs = sub_entries p.subs (main_size p.body);
  texts = texts_in (codes p.body) ++ subs_texts p.subs;
  instrs = main_code p.body ++ subs_code p.subs (main_size p.body) (length (texts_in (codes p.body)));
}
