use Rattle.std.proofs.Common.{◌≡◌, ◌+◌, ◌++◌, ◌∷◌, drop, length, sym, ap, ◌∙◌, arith}
use Rattle.std.proofs.lemmas.Grind.{common_steps}
use Rattle.caf_codegen.specs.ProgramCode.{sub_entries, subs_code, subs_texts}
use Rattle.caf_codegen.proofs.Joined.{subs_step}
use Rattle.caf_codegen.proofs.program.gen_subs.Goals as goal

pub loop-sub-preserved : goal.loop-sub-preserved
loop-sub-preserved c =
    let subs = c.args.subs.now in
    let i = c.loop-sub.sub-index in
    let code = c.loop-sub.code.items in
    let texts = c.loop-sub.texts in
    let entries = c.loop-sub.entries in
    let f = c.sub-item.result in
    let here : drop i subs ≡ f ∷ drop (i + 1) subs = grind (arith, common_steps) in
    let step = subs_step f (drop (i + 1) subs) entries c.push.new.self c.in_ok-entry.entry code c.gen_sub.new.code.items texts c.gen_sub.new.texts
    c.in_ok-entry.ensures.entry c.in_ok-push.ensures.ok c.in_ok-entry.ensures.code c.in_ok-entry.ensures.texts in
    record {
      entries = step.0 ∙ ap (λ l. entries ++ sub_entries l (length code)) (sym here) ∙ c.loop-sub.invariant.entries;
      code = step.1 ∙ ap (λ l. code ++ subs_code l (length code) (length texts)) (sym here) ∙ c.loop-sub.invariant.code;
      texts = step.2 ∙ ap (λ l. texts ++ subs_texts l) (sym here) ∙ c.loop-sub.invariant.texts;
    }
