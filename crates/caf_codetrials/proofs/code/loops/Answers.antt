use Rattle.std.proofs.Common.{◌≡◌, ℕ, List, [], ◌∷◌, ◌++◌, ap, ◌∙◌}
use Rattle.std.specs.Prelude.{codes}
use Rattle.caf_codetrials.specs.Examples.{loops_code, loops_main, loops_subs}
use Rattle.caf_codetrials.proofs.Examples.{kept_as, loops_kept}
use Rattle.caf_codetrials.proofs.code.loops.Goals as goal

pub of-requires : goal.of-requires
of-requires c =
    let texts : c.push.new.self ≡ codes "never" ∷ [] =
    c.in_ok-push.ensures.ok ∙ ap (λ (xs : List (List ℕ)). xs ++ c.in_ok-copy_of.field-0 ∷ []) c.new-texts.ensures ∙ ap (λ text. text ∷ []) c.in_ok-copy_of.ensures in
    kept_as loops_code (c.tables_show_rules.ensures loops_code loops_main loops_subs loops_kept) c.in_ok-objects.objects c.new.result c.push.new.self c.in_ok-instrs.instrs c.in_ok-objects.ensures c.new.ensures texts c.in_ok-instrs.ensures
