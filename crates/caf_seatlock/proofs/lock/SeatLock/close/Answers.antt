use Rattle.std.proofs.Common.{◌≡◌, Some, None, sym, ap, ◌∙◌, subst}
use mathlib.Core.List.{IsPrefix}
use Rattle.caf_seatlock.proofs.Standings.{is_away}
use Rattle.caf_seatlock.proofs.Ends.{ends}
use Rattle.caf_seatlock.proofs.lock.SeatLock.close.Goals as goal

pub unreachable-requires : goal.unreachable-requires
unreachable-requires g c = let pass = c.args.pass in
    let last = ends g.W.Keeps.entries g.W.Keeps.fixed _ _ _ _ _ _ _ (is_away pass.seats pass.seat.me pass.in_order c.requires.free) (pass.in_order.0 ∙ c.requires.joined) c.close_with-closed.ensures.values.2 c.take-slot.ensures.value in
    let none : Some last.value ≡ None = sym last.is ∙ c.in-None.is in absurd cc

pub returns-clause-seen : goal.returns-clause-seen
returns-clause-seen g c = let pass = c.args.pass in
    let last = ends g.W.Keeps.entries g.W.Keeps.fixed _ _ _ _ _ _ _ (is_away pass.seats pass.seat.me pass.in_order c.requires.free) (pass.in_order.0 ∙ c.requires.joined) c.close_with-closed.ensures.values.2 c.take-slot.ensures.value in
    let is : Some last.value ≡ Some c.in-Some.value = sym last.is ∙ c.in-Some.is in let same : last.value ≡ c.in-Some.value = cc in
    subst (λ value. IsPrefix pass.seat.me.0.seen (g.W.Keeps.entries value)) same last.longer

pub returns-clause-fixed : goal.returns-clause-fixed
returns-clause-fixed g c = let pass = c.args.pass in
    let last = ends g.W.Keeps.entries g.W.Keeps.fixed _ _ _ _ _ _ _ (is_away pass.seats pass.seat.me pass.in_order c.requires.free) (pass.in_order.0 ∙ c.requires.joined) c.close_with-closed.ensures.values.2 c.take-slot.ensures.value in
    let is : Some last.value ≡ Some c.in-Some.value = sym last.is ∙ c.in-Some.is in let same : last.value ≡ c.in-Some.value = cc in
    ap g.W.Keeps.fixed (sym same) ∙ last.fixed_is
