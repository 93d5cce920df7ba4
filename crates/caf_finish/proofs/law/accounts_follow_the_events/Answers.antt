use Rattle.caf_finish.proofs.Followed.{first, followed, asked, may-contribute}
use Rattle.caf_finish.proofs.law.accounts_follow_the_events.Goals as goal

pub returns-clause-first : goal.returns-clause-first
returns-clause-first c = first

pub returns-clause-next : goal.returns-clause-next
returns-clause-next c = λ size h i sum event account k is. followed size h i account is sum event k

pub returns-clause-asked : goal.returns-clause-asked
returns-clause-asked c = λ size h i event account few k is. asked size h i account is few event k

pub returns-clause-contribute : goal.returns-clause-contribute
returns-clause-contribute c = λ size h i account k is within stands may. may-contribute size h i account k is within stands may
