use Rattle.std.proofs.Common.{◌≡◌, ℕ, Bool, false, List, [], ◌∷◌, ◌++◌, ap, ◌∙◌}
use Rattle.std.specs.Prelude.{codes}
use Rattle.caf_code.specs.declared.listing.SubCode.{SubCode}
use Rattle.caf_vmtrials.specs.Examples.{programs_code, programs_main, programs_subs}
use Rattle.caf_vmtrials.proofs.Cases.{kept_as, programs_kept}
use Rattle.caf_vmtrials.proofs.steps.programs.Goals as goal

pub of-requires : goal.of-requires
of-requires c =
    let sub : List Bool → SubCode = λ dummies. record { address = 148; dummies = dummies; locals = 0 } in
    let subs : c.push.new.self ≡ sub (false ∷ []) ∷ [] =
    c.in_ok-push.ensures.ok ∙ ap (λ (xs : List SubCode). xs ++ sub c.in_ok-from_slice.field-0 ∷ []) c.new-subs.ensures ∙ ap (λ dummies. sub dummies ∷ []) c.in_ok-from_slice.ensures in
    let one : c.push-2.new.self ≡ codes "never" ∷ [] =
    c.in_ok-push-2.ensures.ok ∙ ap (λ (xs : List (List ℕ)). xs ++ c.in_ok-copy_of.field-0 ∷ []) c.new-texts.ensures ∙ ap (λ text. text ∷ []) c.in_ok-copy_of.ensures in
    let texts = c.in_ok-push-3.ensures.ok ∙ ap (λ (xs : List (List ℕ)). xs ++ c.in_ok-copy_of-2.field-0 ∷ []) one ∙ ap (λ text. codes "never" ∷ text ∷ []) c.in_ok-copy_of-2.ensures in
    kept_as programs_code (c.tables_show_rules.ensures programs_code programs_main programs_subs programs_kept) _ _ _ _ c.in_ok-objects.ensures subs texts c.in_ok-instrs.ensures
