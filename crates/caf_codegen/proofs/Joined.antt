-- The parts of a listing, one after another.
use Rattle.std.proofs.Common.{◌≡◌, ℕ, ◌+◌, List, [], ◌∷◌, ◌++◌, length, ap, ◌∙◌, arith, append_assoc, length-append}
use Rattle.caf_base.specs.declared.object.Object.{Object}
use Rattle.caf_program.specs.declared.program.Program.{Program}
use Rattle.caf_program.specs.declared.program.SubR.{SubR}
use Rattle.caf_program.specs.declared.stmt.StmtR.{StmtR}
use Rattle.caf_code.specs.declared.instr.Instr.{Instr}
use Rattle.caf_code.specs.declared.instr.Instr.TheVariants as instr
use Rattle.caf_code.specs.declared.listing.Listing.{Listing}
use Rattle.caf_code.specs.declared.listing.SubCode.{SubCode}
use Rattle.caf_codegen.specs.Compiled.{copied_dummies}
use Rattle.caf_codegen.specs.ProgramCode.{main_code, main_size, program_code, sub_code, sub_entries, sub_size, subs_code, subs_texts}
use Rattle.caf_codegen.specs.StmtCode.{block, codes, texts_in}
use Rattle.caf_codegen.proofs.Agree.{sub_sized}
use Rattle.caf_codegen.proofs.Sized.{sized_block}

-- one subroutine more
pub subs_step : (f : SubR) (rest : List SubR) (entries more : List SubCode) (entry : SubCode) (code next : List Instr) (texts ahead : List (List ℕ))
    → entry ≡ record { address = length code; dummies = copied_dummies f; locals = length f.locals } → more ≡ entries ++ entry ∷ [] → next ≡ code ++ sub_code f (length code) (length texts) → ahead ≡ texts ++ texts_in (codes f.body)
    → (more ++ sub_entries rest (length next) ≡ entries ++ sub_entries (f ∷ rest) (length code)) × (next ++ subs_code rest (length next) (length ahead) ≡ code ++ subs_code (f ∷ rest) (length code) (length texts))
    × (ahead ++ subs_texts rest ≡ texts ++ subs_texts (f ∷ rest))
subs_step f rest entries more entry code next texts ahead e1 e2 e3 e4 =
    let a = length code in
    let k = length texts in
    let ts = texts_in (codes f.body) in
    let here = sub_code f a k in
    let b : length next ≡ a + sub_size f = omega (arith, ap length e3, length-append code here, sub_sized f a k) in
    let j : length ahead ≡ k + length ts = ap length e4 ∙ length-append texts ts in
    let others = subs_code rest (a + sub_size f) (k + length ts) in (
      ap (λ n. more ++ sub_entries rest n) b ∙ ap (λ l. l ++ sub_entries rest (a + sub_size f)) e2 ∙ append_assoc entries (entry ∷ []) (sub_entries rest (a + sub_size f)) ∙ ap (λ x. entries ++ x ∷ sub_entries rest (a + sub_size f)) e1,
      ap (λ n. next ++ subs_code rest n (length ahead)) b ∙ ap (λ n. next ++ subs_code rest (a + sub_size f) n) j ∙ ap (λ l. l ++ others) e3 ∙ append_assoc code here others,
      ap (λ l. l ++ subs_texts rest) e4 ∙ append_assoc texts ts (subs_texts rest),
    )

main_sized : (body : List StmtR) → length (main_code body) ≡ main_size body
main_sized body = omega (arith, length-append (block (codes body) 0 0) (instr.Close ∷ instr.Halt ∷ []), sized_block body 0 0)

-- the listing of a program
pub listing_joined : (p : Program) (objects : List Object) (subs : List SubCode) (first texts : List (List ℕ)) (main all : List Instr) → objects ≡ p.objects → main ≡ main_code p.body → first ≡ texts_in (codes p.body) → subs ≡ sub_entries p.subs (length main)
    → all ≡ main ++ subs_code p.subs (length main) (length first) → texts ≡ first ++ subs_texts p.subs → (let listing : Listing = record { objects = objects; subs = subs; texts = texts; instrs = all } in listing) ≡ program_code p
listing_joined p objects subs first texts main all e1 e2 e3 e4 e5 e6 =
    let n = main_size p.body in
    let ts = texts_in (codes p.body) in
    let main' = main_code p.body in
    let m : length main ≡ n = ap length e2 ∙ main_sized p.body in
    let Make : List Object → List SubCode → List (List ℕ) → List Instr → Listing = λ o s t i. record { objects = o; subs = s; texts = t; instrs = i } in
    ap (λ o. Make o subs texts all) e1
    ∙ ap (λ s. Make p.objects s texts all) (e4 ∙ ap (sub_entries p.subs) m)
    ∙ ap (λ t. Make p.objects (sub_entries p.subs n) t all) (e6 ∙ ap (λ f. f ++ subs_texts p.subs) e3)
    ∙ ap (λ i. Make p.objects (sub_entries p.subs n) (ts ++ subs_texts p.subs) i)
    (e5 ∙ ap (λ x. main ++ subs_code p.subs x (length first)) m ∙ ap (λ f. main ++ subs_code p.subs n (length f)) e3 ∙ ap (λ l. l ++ subs_code p.subs n (length ts)) e2)
