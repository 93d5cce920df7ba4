use Rattle.std.proofs.Common.{◌≡◌, arith, rules, inl, inr, ◌⊎◌, get_or, subst, sym, ◌∙◌, length, ◌<◌, count_by, not, Contains}
use Rattle.std.proofs.lemmas.Grind.{common_steps}
use Rattle.std.proofs.lemmas.List.{get_or_default}
use borrow.Author.Count.{below_more}
use Rattle.caf_teamcheck.specs.Marks.{Marked}
use Rattle.caf_teamcheck.proofs.marks.mark_row.Goals as goal

pub loop-sub-preserved : goal.loop-sub-preserved
loop-sub-preserved c = record {
  size = omega arith;
  marked = below_more (λ j. get_or c.args.row.now j 0 < length c.args.marks.now → Marked c.mark-fresh.new.marks (get_or c.args.row.now j 0)) c.loop-sub.sub-index
      (λ j lt within. c.mark-fresh.ensures.kept _ (c.loop-sub.invariant.marked j lt within))
      (λ within. c.mark-fresh.ensures.marked (omega arith));
  kept = λ k h. c.mark-fresh.ensures.kept k (c.loop-sub.invariant.kept k h);
  new = λ k h. elim (c.mark-fresh.ensures.new k h) as (λ _. Marked c.args.marks.now k ⊎ Contains c.args.row.now k) [ inl m ↦ c.loop-sub.invariant.new k m | inr e ↦ inr (subst (λ x. Contains c.args.row.now x) (sym e) (search rules)) ];
  no_more = omega (arith, c.mark-fresh.ensures.no_more);
  fewer = λ h. elim (c.either-changed.ensures.yes h) as (λ _. count_by not c.mark-fresh.new.marks < count_by not c.args.marks.now) [ inl a ↦ omega (arith, c.mark-fresh.ensures.no_more, c.loop-sub.invariant.fewer a) | inr b ↦ omega (arith, c.mark-fresh.ensures.fewer b, c.loop-sub.invariant.no_more) ];
  same = λ h. c.mark-fresh.ensures.same (c.either-changed.ensures.no h).1 ∙ c.loop-sub.invariant.same (c.either-changed.ensures.no h).0;
}

pub returns-clause-marked : goal.returns-clause-marked
returns-clause-marked c = λ k h within.
    let e : get_or c.args.row.now h.0 0 ≡ k = grind (arith, common_steps, get_or_default) in
    subst (Marked c.loop-sub.marks) e (c.loop-sub.invariant.marked h.0 (omega (arith, h.1)) (subst (λ x. x < length c.args.marks.now) (sym e) within))
