use Rattle.std.proofs.Common.{◌++◌, length, ap, ◌∙◌}
use Rattle.caf_codegen.specs.ProgramCode.{main_code, sub_entries, subs_code, subs_texts}
use Rattle.caf_codegen.specs.StmtCode.{codes, texts_in}
use Rattle.caf_codegen.proofs.Joined.{listing_joined}
use Rattle.caf_codegen.proofs.program.gen_program.Goals as goal

pub returns : goal.returns
returns c =
    let main = c.gen_main.new.code.items in
    let first = c.gen_main.new.texts in
    listing_joined c.args.program.now c.in_ok-objects.objects c.in_ok-subs.subs first c.gen_subs.new.texts main c.from_vec.result
    (c.in_ok-objects.ensures ∙ c.as_slice.ensures)
    (c.in_ok-gen_main.ensures.code ∙ ap main_code c.as_slice-2.ensures)
    (c.in_ok-gen_main.ensures.texts ∙ ap (λ l. texts_in (codes l)) c.as_slice-2.ensures)
    (c.in_ok-subs.ensures.entries ∙ ap (λ l. sub_entries l (length main)) c.as_slice-3.ensures)
    (c.from_vec.ensures ∙ c.in_ok-subs.ensures.code ∙ ap (λ l. main ++ subs_code l (length main) (length first)) c.as_slice-3.ensures)
    (c.in_ok-subs.ensures.texts ∙ ap (λ l. first ++ subs_texts l) c.as_slice-3.ensures)
