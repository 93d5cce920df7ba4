use Rattle.std.proofs.Common.{rules}
use Rattle.caf_teamcheck.specs.Faults.{Breaks}
use Rattle.caf_teamcheck.proofs.Broken.{sub_plain, sub_wrong}
use Rattle.caf_teamcheck.proofs.check.check_sub.Goals as goal

pub returns-clause-ok : goal.returns-clause-ok
returns-clause-ok c =
    sub_plain c.args.program.now c.args.marks.now c.args.at c.as_slice-subs.result.now c.index-subs-at.result c.as_slice-2.result.now
    c.as_slice-subs.ensures c.requires.within c.index-subs-at.is (cc (c.in_ok-sites.ensures, c.as_slice-2.ensures, c.as_slice.ensures)) c.in_ok-check.ensures.ok

pub returns-in_err-check-clause-err : goal.returns-in_err-check-clause-err
returns-in_err-check-clause-err c =
    let b : Breaks c.args.program.now c.in_err-check.field-0.0 =
    sub_wrong c.args.program.now c.args.marks.now c.args.at c.as_slice-subs.result.now c.index-subs-at.result c.as_slice-2.result.now c.as_str.result.now c.in_err-check.field-0.0
    c.requires.reached c.as_slice-subs.ensures c.requires.within c.index-subs-at.is (cc (c.in_ok-sites.ensures, c.as_slice-2.ensures, c.as_slice.ensures)) c.as_str.ensures c.in_err-check.ensures.err in
    search rules
