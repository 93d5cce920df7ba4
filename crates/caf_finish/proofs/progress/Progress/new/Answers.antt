use Rattle.std.proofs.Common.{arith, subst, sym, false}
use Rattle.std.specs.List.{slice_get}
use Rattle.caf_finish.specs.Progress.{IsOwn}
use Rattle.caf_finish.proofs.Own.{own-first}
use Rattle.caf_finish.proofs.progress.Progress.new.Goals as goal

pub invariant_of-result : goal.invariant_of-result
invariant_of-result c = record {
  own =
      subst (λ parts. IsOwn false (slice_get parts c.args.rank)) (sym c.in_ok-summer.ensures) (own-first c.args.size c.args.rank c.requires);
  small = omega arith;
}
