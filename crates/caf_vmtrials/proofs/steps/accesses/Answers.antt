use Rattle.caf_vmtrials.specs.Examples.{accesses_code, accesses_main, accesses_subs}
use Rattle.caf_vmtrials.proofs.Cases.{accesses_kept, kept_as}
use Rattle.caf_vmtrials.proofs.steps.accesses.Goals as goal

pub of-requires : goal.of-requires
of-requires c =
    kept_as accesses_code (c.tables_show_rules.ensures accesses_code accesses_main accesses_subs accesses_kept) _ _ _ _ c.in_ok-objects.ensures c.new.ensures c.new-2.ensures c.in_ok-instrs.ensures
