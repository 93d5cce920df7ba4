use Rattle.std.proofs.Common.{◌≡◌, arith, inl, inr, subst, ◌∙◌, ◌<◌, count_by, not}
use borrow.Author.Count.{below_more}
use Rattle.caf_program.specs.Ships.{HasCall}
use Rattle.caf_teamcheck.specs.Marks.{Marked}
use Rattle.caf_teamcheck.proofs.marks.pass.Goals as goal

pub loop-sub-preserved : goal.loop-sub-preserved
loop-sub-preserved c = record {
  size = c.visit-fresh.ensures.size ∙ c.loop-sub.invariant.size;
  kept = λ k h. c.visit-fresh.ensures.kept k (c.loop-sub.invariant.kept k h);
  sound = λ starts old k m. c.visit-fresh.ensures.sound starts (c.loop-sub.invariant.sound starts old) k m;
  closed = λ h x b lt m hc within.
      let e : c.visit-fresh.new.marks ≡ c.loop-sub.marks = c.visit-fresh.ensures.same (c.either-changed.ensures.no h).1 in
      below_more (λ y. Marked c.visit-fresh.new.marks y → HasCall c.args.calls.now y b → Marked c.visit-fresh.new.marks b) c.loop-sub.sub
      (λ y below my hy. c.visit-fresh.ensures.kept b (c.loop-sub.invariant.closed (c.either-changed.ensures.no h).0 y b below (subst (λ l. Marked l y) e my) hy within))
      (λ my hy. c.visit-fresh.ensures.closed b (subst (λ l. Marked l c.loop-sub.sub) e my) hy within) x lt m hc;
  no_more = omega (arith, c.visit-fresh.ensures.no_more, c.loop-sub.invariant.no_more);
  fewer = λ h. elim (c.either-changed.ensures.yes h) as (λ _. count_by not c.visit-fresh.new.marks < count_by not c.args.marks.now) [ inl a ↦ omega (arith, c.visit-fresh.ensures.no_more, c.loop-sub.invariant.fewer a) | inr b ↦ omega (arith, c.visit-fresh.ensures.fewer b, c.loop-sub.invariant.no_more) ];
  same = λ h. c.visit-fresh.ensures.same (c.either-changed.ensures.no h).1 ∙ c.loop-sub.invariant.same (c.either-changed.ensures.no h).0;
}
