use Rattle.caf_codegen.proofs.Agree.{compiled}
use Rattle.caf_codegen.proofs.Fits.{program_follows}
use Rattle.caf_codegen.proofs.Whole.{keeps_rules_of}
use Rattle.caf_codegen.proofs.law.made_codes_do_what_programs_say.Goals as goal

pub returns-clause-compiled : goal.returns-clause-compiled
returns-clause-compiled c = λ p accepted. (let follows = program_follows p accepted in compiled c.codes_leave_values.ensures p follows.0 follows.1)

pub returns-clause-keeps : goal.returns-clause-keeps
returns-clause-keeps c = λ p accepted. keeps_rules_of c.codes_leave_values.ensures p accepted
