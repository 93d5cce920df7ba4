use Rattle.std.proofs.Common.{◌≡◌, Bool, List, [], ◌∷◌, ◌++◌, ap, ◌∙◌}
use Rattle.caf_codetrials.specs.Examples.{calls_code, calls_main, calls_subs, with_value}
use Rattle.caf_code.specs.declared.listing.SubCode.{SubCode}
use Rattle.caf_codetrials.proofs.Examples.{kept_as, calls_kept}
use Rattle.caf_codetrials.proofs.code.calls.Goals as goal

pub of-requires : goal.of-requires
of-requires c =
    let sub : List Bool → SubCode = λ dummies. record { address = 4; dummies = dummies; locals = 0 } in
    let subs : c.push.new.self ≡ with_value 4 ∷ [] =
    c.in_ok-push.ensures.ok ∙ ap (λ (xs : List SubCode). xs ++ sub c.in_ok-from_slice.field-0 ∷ []) c.new-subs.ensures ∙ ap (λ dummies. sub dummies ∷ []) c.in_ok-from_slice.ensures in
    kept_as calls_code (c.tables_show_rules.ensures calls_code calls_main calls_subs calls_kept) c.new.result c.push.new.self c.new-2.result c.in_ok-instrs.instrs c.new.ensures subs c.new-2.ensures c.in_ok-instrs.ensures
