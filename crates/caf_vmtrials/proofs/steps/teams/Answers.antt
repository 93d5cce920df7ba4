use Rattle.std.proofs.Common.{◌≡◌, ℕ, Bool, true, List, [], ◌∷◌, ◌++◌, ap, ◌∙◌}
use Rattle.caf_code.specs.declared.listing.SubCode.{SubCode}
use Rattle.caf_vmtrials.specs.Examples.{teams_code, teams_main, teams_subs}
use Rattle.caf_vmtrials.proofs.Cases.{kept_as, teams_kept}
use Rattle.caf_vmtrials.proofs.steps.teams.Goals as goal

pub of-requires : goal.of-requires
of-requires c =
    let first : List Bool → SubCode = λ dummies. record { address = 98; dummies = dummies; locals = 0 } in
    let second : List Bool → SubCode = λ dummies. record { address = 104; dummies = dummies; locals = 1 } in
    let one : c.push.new.self ≡ first (true ∷ []) ∷ [] =
    c.in_ok-push.ensures.ok ∙ ap (λ (xs : List SubCode). xs ++ first c.in_ok-from_slice.field-0 ∷ []) c.new-subs.ensures ∙ ap (λ dummies. first dummies ∷ []) c.in_ok-from_slice.ensures in
    let subs : c.push-2.new.self ≡ first (true ∷ []) ∷ second (true ∷ []) ∷ [] =
    c.in_ok-push-2.ensures.ok ∙ ap (λ (xs : List SubCode). xs ++ second c.in_ok-from_slice-2.field-0 ∷ []) one ∙ ap (λ dummies. first (true ∷ []) ∷ second dummies ∷ []) c.in_ok-from_slice-2.ensures in
    kept_as teams_code (c.tables_show_rules.ensures teams_code teams_main teams_subs teams_kept) _ _ _ _ c.in_ok-objects.ensures subs c.new.ensures c.in_ok-instrs.ensures
