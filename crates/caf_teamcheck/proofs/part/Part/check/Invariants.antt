use Rattle.std.proofs.Common.{take}
use Rattle.caf_teamcheck.specs.Sites.{IsPlain}
use Rattle.caf_teamcheck.proofs.part.Part.check.Given as goal

-- what stands at those so far may stand there
abbrev pub invariant-loop-site : goal.invariant-loop-site
invariant-loop-site l = IsPlain l.self.subs.now l.self.reached (take l.site-index l.sites)
