use Rattle.std.proofs.Common.{arith, rules}
use Rattle.caf_teamcheck.specs.Sites.{BreaksIn}
use Rattle.caf_teamcheck.proofs.Plain.{plain_next, breaks_at}
use Rattle.caf_teamcheck.proofs.part.Part.check.Goals as goal

pub loop-site-preserved : goal.loop-site-preserved
loop-site-preserved c =
    plain_next c.args.self.now.subs.now c.args.self.now.reached c.args.sites.now c.loop-site.site-index _ (omega arith) c.loop-site.invariant c.in_ok-check_site.ensures.ok

pub returns-in_err-check_site-clause-err : goal.returns-in_err-check_site-clause-err
returns-in_err-check_site-clause-err c =
    let b : BreaksIn c.args.self.now.subs.now c.args.self.now.reached c.args.self.now.name.now c.args.sites.now c.in_err-check_site.field-0.0 =
    breaks_at c.args.self.now.subs.now c.args.self.now.reached c.args.self.now.name.now c.args.sites.now c.loop-site.site-index _ c.in_err-check_site.field-0.0 (omega arith) c.in_err-check_site.ensures.err in
    search rules
