use Rattle.caf_codetrials.specs.Examples.{sums_code, sums_main, sums_subs}
use Rattle.caf_codetrials.proofs.Examples.{kept_as, sums_kept}
use Rattle.caf_codetrials.proofs.code.sums.Goals as goal

pub of-requires : goal.of-requires
of-requires c = kept_as sums_code (c.tables_show_rules.ensures sums_code sums_main sums_subs sums_kept) c.new.result c.new-2.result c.new-3.result c.in_ok-instrs.instrs c.new.ensures c.new-2.ensures c.new-3.ensures c.in_ok-instrs.ensures
