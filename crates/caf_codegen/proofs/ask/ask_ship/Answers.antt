use Rattle.std.proofs.Common.{◌++◌, [], ◌∷◌, append-nil, ap, sym, ◌∙◌}
use Rattle.std.specs.List.{flat_map}
use Rattle.caf_program.specs.Expressions.{of_actual, of_done}
use Rattle.caf_exprgen.specs.ExprCode.{joined, reads_code}
use Rattle.caf_codegen.proofs.Counts.{asked_then, count_then}
use Rattle.caf_codegen.proofs.ask.ask_ship.Goals as goal

pub returns : goal.returns
returns c =
    let first = of_done c.args.done.now in
    let second = flat_map of_actual c.args.actuals.now in
    let out = c.args.code.now.items in
    let mid = c.ask_actuals.new.code.items in
    let held = c.in_ok-held-2.held in
    let rank = c.args.rank.now in
    let both = asked_then first second 0 c.in_ok-held.held out c.ask_done.new.code.items mid c.in_ok-held.ensures.code c.in_ok-held.ensures.next c.in_ok-held-2.ensures.code in
    let counted = count_then first second 0 c.in_ok-held.held held c.in_ok-held.ensures.next c.in_ok-held-2.ensures.next in
    asked_then (first ++ second) (rank ∷ []) 0 held out mid c.ask.new.code.items both counted (c.in_ok-ask.ensures.code ∙ ap (λ l. mid ++ l) (sym (append-nil (joined (reads_code rank held)))))
