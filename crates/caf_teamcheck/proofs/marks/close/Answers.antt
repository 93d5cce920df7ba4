use Rattle.std.proofs.Common.{rules, inl, inr, ◌∙◌, subst, sym, ◌<◌}
use Rattle.caf_program.specs.Ships.{Reaches}
use Rattle.caf_teamcheck.proofs.Paths.{all_marked, reaches_start}
use Rattle.caf_teamcheck.proofs.marks.close.Goals as goal

pub loop-init : goal.loop-init
loop-init c = record {
  size = c.mark_row.ensures.size ∙ c.requires.each;
  first = λ a h within. c.mark_row.ensures.marked a h (subst (λ n. a < n) (sym c.requires.each) within);
  sound = λ b m. elim (c.mark_row.ensures.new b m) as (λ _. Reaches c.args.calls.now c.args.starts.now b) [ inl o ↦ absurd (c.requires.none b o) | inr h ↦ reaches_start c.args.calls.now c.args.starts.now b h ];
}

pub returns : goal.returns
returns c = record {
  each = c.pass.ensures.size ∙ c.loop.invariant.size;
  sound = c.pass.ensures.sound c.args.starts.now c.loop.invariant.sound;
  whole = all_marked c.args.calls.now c.args.starts.now c.pass.new.marks (record {
    each = c.pass.ensures.size ∙ c.loop.invariant.size;
    first = λ a h within. c.pass.ensures.kept a (c.loop.invariant.first a h within);
    more = c.pass.ensures.closed (search rules);
  });
}
