use Rattle.caf_vmtrials.specs.Traps.{copies_code, copies_main, copies_subs}
use Rattle.caf_vmtrials.proofs.Cases.{kept_as}
use Rattle.caf_vmtrials.proofs.TrapsKept.{copies_kept}
use Rattle.caf_vmtrials.proofs.traps.copies.Goals as goal

pub of-requires : goal.of-requires
of-requires c =
    kept_as copies_code (c.tables_show_rules.ensures copies_code copies_main copies_subs copies_kept) _ _ _ _ c.in_ok-objects.ensures c.new.ensures c.new-2.ensures c.in_ok-instrs.ensures
