use Rattle.std.proofs.Common.{◌≡◌, Bool, false, List, [], ◌∷◌, ◌++◌, ap, ◌∙◌}
use Rattle.caf_code.specs.declared.listing.SubCode.{SubCode}
use Rattle.caf_vmtrials.specs.Traps.{refusals_code, refusals_main, refusals_subs}
use Rattle.caf_vmtrials.proofs.Cases.{kept_as}
use Rattle.caf_vmtrials.proofs.TrapsKept.{refusals_kept}
use Rattle.caf_vmtrials.proofs.traps.refusals.Goals as goal

pub of-requires : goal.of-requires
of-requires c =
    let sub : List Bool → SubCode = λ dummies. record { address = 129; dummies = dummies; locals = 0 } in
    let subs : c.push.new.self ≡ sub (false ∷ []) ∷ [] =
    c.in_ok-push.ensures.ok ∙ ap (λ (xs : List SubCode). xs ++ sub c.in_ok-from_slice.field-0 ∷ []) c.new-subs.ensures ∙ ap (λ dummies. sub dummies ∷ []) c.in_ok-from_slice.ensures in
    kept_as refusals_code (c.tables_show_rules.ensures refusals_code refusals_main refusals_subs refusals_kept) _ _ _ _ c.in_ok-objects.ensures subs c.new.ensures c.in_ok-instrs.ensures
