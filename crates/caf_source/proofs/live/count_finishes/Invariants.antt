use Rattle.std.proofs.Common.{◌≡◌, ◌≤◌, ◌&&◌, not, nat_eq, take}
use Rattle.std.specs.List.{count_by}
use Rattle.caf_base.specs.declared.team.FinishRef.{FinishRef}
use Rattle.caf_base.specs.FinishRef.{same_path}
use Rattle.caf_source.proofs.live.count_finishes.Given as goal

-- those of the team so far
abbrev pub invariant-loop-finish : goal.invariant-loop-finish
invariant-loop-finish l = record {
  count : l.count ≡ count_by (λ (f : FinishRef). same_path f.team.path l.team.path && not (nat_eq f.number 0)) (take l.finish-index l.finishes);
  few : l.count ≤ l.finish-index;
}
