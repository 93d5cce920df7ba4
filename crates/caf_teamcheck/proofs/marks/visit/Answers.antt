use Rattle.std.proofs.Common.{◌≡◌, arith, rules, inl, inr, subst, Contains, refl, slice_get, Some}
use Rattle.std.proofs.lemmas.Option.{slice_get_read}
use Rattle.caf_program.specs.Ships.{Reaches}
use Rattle.caf_teamcheck.proofs.Paths.{reaches_call}
use Rattle.caf_teamcheck.proofs.marks.visit.Goals as goal

pub returns-then-as_slice-sub-clause-sound : goal.returns-then-as_slice-sub-clause-sound
returns-then-as_slice-sub-clause-sound c = λ starts old k m. elim (c.mark_row.ensures.new k m) as (λ _. Reaches c.args.calls.now starts k)
    [ inl h ↦ old k h | inr h ↦ reaches_call c.args.calls.now starts c.args.sub k (old c.args.sub (search rules)) (c.index-calls-sub.result, slice_get_read _ _ _ _ refl c.requires.within c.index-calls-sub.is, subst (λ l. Contains l k) c.as_slice-then-as_slice-sub.ensures h) ]

pub returns-then-as_slice-sub-clause-closed : goal.returns-then-as_slice-sub-clause-closed
returns-then-as_slice-sub-clause-closed c = λ b m hc within.
    let at : slice_get c.args.calls.now c.args.sub ≡ Some c.index-calls-sub.result = slice_get_read _ _ _ _ refl c.requires.within c.index-calls-sub.is in
    let e : hc.0 ≡ c.as_slice-then-as_slice-sub.result.now = cc (at, hc.1, c.as_slice-then-as_slice-sub.ensures) in
    c.mark_row.ensures.marked b (subst (λ l. Contains l b) e hc.2) (omega arith)
