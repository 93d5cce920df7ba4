use Rattle.std.proofs.Common.{rules, ◌<◌, ◌^◌, ◌∷◌, [], Some, sym, ap, ◌∙◌, subst}
use Rattle.atomic_table.specs.Table.{opening}
use Rattle.caf_seatlock.specs.Rule.{Kept, view}
use Rattle.caf_seatlock.specs.declared.view.Standing.TheVariants.{Away}
use Rattle.caf_seatlock.proofs.Ends.{opens}
use Rattle.caf_seatlock.proofs.lock.SeatLock.new.Goals as goal

pub new-requires : goal.new-requires
new-requires g c = let value = c.of.result.value in let few : c.args.seats < 2 ^ 32 = search rules in
    let slots = c.in_ok-slots.ensures ∙ ap (λ x. Some x ∷ []) (sym c.of.ensures) in
    subst (λ xs. Kept g.W.Keeps.entries g.W.Keeps.fixed (g.W.Keeps.fixed value) c.args.seats (opening (0 ∷ 0 ∷ []) xs (view Away c.args.seats (g.W.Keeps.entries value) [] (Some value)))) (sym slots)
    (opens g.W.Keeps.entries g.W.Keeps.fixed value c.args.seats few)
