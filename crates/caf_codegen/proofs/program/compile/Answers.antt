use Rattle.std.proofs.Common.{sym, subst}
use Rattle.caf_code.specs.Rules.{KeepsRules}
use Rattle.caf_codegen.proofs.program.compile.Goals as goal

pub of-requires : goal.of-requires
of-requires c = subst KeepsRules (sym c.in_ok-listing.ensures) (c.made_codes_do_what_programs_say.ensures.keeps c.program.result.now c.program.ensures.accepted)
