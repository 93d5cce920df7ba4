-- The codes of small cases keep the rules.
use Rattle.std.proofs.Common.{◌≡◌, ℕ, List, refl, subst, sym}
use Rattle.caf_base.specs.declared.object.Object.{Object}
use Rattle.caf_code.specs.Rules.{KeepsRules}
use Rattle.caf_code.specs.Tables.{KeepsByTables}
use Rattle.caf_code.specs.declared.instr.Instr.{Instr}
use Rattle.caf_code.specs.declared.listing.Listing.{Listing}
use Rattle.caf_code.specs.declared.listing.SubCode.{SubCode}
use Rattle.caf_vmtrials.specs.Examples.{accesses_code, accesses_main, accesses_subs, messages_code, messages_main, messages_subs, programs_code, programs_main, programs_subs, teams_code, teams_main, teams_subs}

pub accesses_kept : KeepsByTables accesses_code accesses_main accesses_subs
accesses_kept = record {
  objects = refl;
  instrs = (record { operands = refl; followed = refl; steady = refl; rests = refl }, (record { operands = refl; followed = refl; steady = refl; rests = refl }, (record { operands = refl; followed = refl; steady = refl; rests = refl }, (record { operands = refl; followed = refl; steady = refl; rests = refl }, (record { operands = refl; followed = refl; steady = refl; rests = refl }, (record { operands = refl; followed = refl; steady = refl; rests = refl }, (record { operands = refl; followed = refl; steady = refl; rests = refl }, (record { operands = refl; followed = refl; steady = refl; rests = refl }, (record { operands = refl; followed = refl; steady = refl; rests = refl }, (record { operands = refl; followed = refl; steady = refl; rests = refl }, (record { operands = refl; followed = refl; steady = refl; rests = refl }, (record { operands = refl; followed = refl; steady = refl; rests = refl }, (record { operands = refl; followed = refl; steady = refl; rests = refl }, (record { operands = refl; followed = refl; steady = refl; rests = refl }, (record { operands = refl; followed = refl; steady = refl; rests = refl }, (record { operands = refl; followed = refl; steady = refl; rests = refl }, (record { operands = refl; followed = refl; steady = refl; rests = refl }, (record { operands = refl; followed = refl; steady = refl; rests = refl }, (record { operands = refl; followed = refl; steady = refl; rests = refl }, (record { operands = refl; followed = refl; steady = refl; rests = refl }, (record { operands = refl; followed = refl; steady = refl; rests = refl }, (record { operands = refl; followed = refl; steady = refl; rests = refl }, (record { operands = refl; followed = refl; steady = refl; rests = refl }, (record { operands = refl; followed = refl; steady = refl; rests = refl }, (record { operands = refl; followed = refl; steady = refl; rests = refl }, (record { operands = refl; followed = refl; steady = refl; rests = refl }, (record { operands = refl; followed = refl; steady = refl; rests = refl }, (record { operands = refl; followed = refl; steady = refl; rests = refl }, (record { operands = refl; followed = refl; steady = refl; rests = refl }, (record { operands = refl; followed = refl; steady = refl; rests = refl }, (record { operands = refl; followed = refl; steady = refl; rests = refl }, (record { operands = refl; followed = refl; steady = refl; rests = refl }, (record { operands = refl; followed = refl; steady = refl; rests = refl }, (record { operands = refl; followed = refl; steady = refl; rests = refl }, (record { operands = refl; followed = refl; steady = refl; rests = refl }, (record { operands = refl; followed = refl; steady = refl; rests = refl }, (record { operands = refl; followed = refl; steady = refl; rests = refl }, (record { operands = refl; followed = refl; steady = refl; rests = refl }, (record { operands = refl; followed = refl; steady = refl; rests = refl }, (record { operands = refl; followed = refl; steady = refl; rests = refl }, (record { operands = refl; followed = refl; steady = refl; rests = refl }, (record { operands = refl; followed = refl; steady = refl; rests = refl }, (record { operands = refl; followed = refl; steady = refl; rests = refl }, (record { operands = refl; followed = refl; steady = refl; rests = refl }, (record { operands = refl; followed = refl; steady = refl; rests = refl }, (record { operands = refl; followed = refl; steady = refl; rests = refl }, (record { operands = refl; followed = refl; steady = refl; rests = refl }, (record { operands = refl; followed = refl; steady = refl; rests = refl }, (record { operands = refl; followed = refl; steady = refl; rests = refl }, (record { operands = refl; followed = refl; steady = refl; rests = refl }, (record { operands = refl; followed = refl; steady = refl; rests = refl }, (record { operands = refl; followed = refl; steady = refl; rests = refl }, (record { operands = refl; followed = refl; steady = refl; rests = refl }, (record { operands = refl; followed = refl; steady = refl; rests = refl }, (record { operands = refl; followed = refl; steady = refl; rests = refl }, (record { operands = refl; followed = refl; steady = refl; rests = refl }, (record { operands = refl; followed = refl; steady = refl; rests = refl }, (record { operands = refl; followed = refl; steady = refl; rests = refl }, (record { operands = refl; followed = refl; steady = refl; rests = refl }, (record { operands = refl; followed = refl; steady = refl; rests = refl }, (record { operands = refl; followed = refl; steady = refl; rests = refl }, (record { operands = refl; followed = refl; steady = refl; rests = refl }, (record { operands = refl; followed = refl; steady = refl; rests = refl }, (record { operands = refl; followed = refl; steady = refl; rests = refl }, (record { operands = refl; followed = refl; steady = refl; rests = refl }, (record { operands = refl; followed = refl; steady = refl; rests = refl }, (record { operands = refl; followed = refl; steady = refl; rests = refl }, (record { operands = refl; followed = refl; steady = refl; rests = refl }, (record { operands = refl; followed = refl; steady = refl; rests = refl }, (record { operands = refl; followed = refl; steady = refl; rests = refl }, (record { operands = refl; followed = refl; steady = refl; rests = refl }, (record { operands = refl; followed = refl; steady = refl; rests = refl }, (record { operands = refl; followed = refl; steady = refl; rests = refl }, (record { operands = refl; followed = refl; steady = refl; rests = refl }, (record { operands = refl; followed = refl; steady = refl; rests = refl }, (record { operands = refl; followed = refl; steady = refl; rests = refl }, (record { operands = refl; followed = refl; steady = refl; rests = refl }, (record { operands = refl; followed = refl; steady = refl; rests = refl }, (record { operands = refl; followed = refl; steady = refl; rests = refl }, (record { operands = refl; followed = refl; steady = refl; rests = refl }, (record { operands = refl; followed = refl; steady = refl; rests = refl }, (record { operands = refl; followed = refl; steady = refl; rests = refl }, (record { operands = refl; followed = refl; steady = refl; rests = refl }, (record { operands = refl; followed = refl; steady = refl; rests = refl }, (record { operands = refl; followed = refl; steady = refl; rests = refl }, (record { operands = refl; followed = refl; steady = refl; rests = refl }, (record { operands = refl; followed = refl; steady = refl; rests = refl }, (record { operands = refl; followed = refl; steady = refl; rests = refl }, (record { operands = refl; followed = refl; steady = refl; rests = refl }, (record { operands = refl; followed = refl; steady = refl; rests = refl }, (record { operands = refl; followed = refl; steady = refl; rests = refl }, (record { operands = refl; followed = refl; steady = refl; rests = refl }, (record { operands = refl; followed = refl; steady = refl; rests = refl }, (record { operands = refl; followed = refl; steady = refl; rests = refl }, tt))))))))))))))))))))))))))))))))))))))))))))))))))))))))))))))))))))))))))))))))))))))))))))));
  start = refl;
  starts = tt;
  of_main = ((refl, tt), ((refl, tt), ((refl, tt), ((refl, (refl, tt)), ((refl, tt), ((refl, tt), ((refl, tt), ((refl, tt), ((refl, tt), ((refl, tt), ((refl, tt), ((refl, tt), ((refl, tt), ((refl, tt), ((refl, tt), ((refl, tt), ((refl, (refl, tt)), ((refl, tt), ((refl, tt), ((refl, tt), ((refl, tt), ((refl, tt), ((refl, tt), ((refl, tt), ((refl, tt), ((refl, (refl, tt)), ((refl, tt), ((refl, tt), ((refl, tt), ((refl, tt), ((refl, tt), ((refl, tt), ((refl, tt), ((refl, tt), ((refl, (refl, tt)), ((refl, tt), ((refl, tt), ((refl, tt), ((refl, tt), ((refl, tt), ((refl, tt), ((refl, tt), ((refl, tt), ((refl, (refl, tt)), ((refl, tt), ((refl, tt), ((refl, tt), ((refl, tt), ((refl, tt), ((refl, tt), ((refl, tt), ((refl, tt), ((refl, tt), ((refl, (refl, tt)), ((refl, tt), ((refl, tt), ((refl, tt), ((refl, tt), ((refl, tt), ((refl, tt), ((refl, tt), ((refl, (refl, tt)), ((refl, tt), ((refl, tt), ((refl, tt), ((refl, tt), ((refl, tt), ((refl, tt), ((refl, tt), ((refl, tt), ((refl, tt), ((refl, tt), ((refl, tt), ((refl, tt), ((refl, tt), ((refl, tt), ((refl, tt), ((refl, tt), ((refl, tt), ((refl, (refl, tt)), ((refl, tt), ((refl, tt), ((refl, tt), ((refl, tt), ((refl, tt), ((refl, tt), ((refl, tt), ((refl, (refl, tt)), ((refl, tt), ((refl, tt), ((refl, tt), ((refl, tt), ((refl, tt), (tt, tt))))))))))))))))))))))))))))))))))))))))))))))))))))))))))))))))))))))))))))))))))))))))))))));
  of_subs = tt;
  apart = tt;
  between = tt;
}

pub messages_kept : KeepsByTables messages_code messages_main messages_subs
messages_kept = record {
  objects = refl;
  instrs = (record { operands = refl; followed = refl; steady = refl; rests = refl }, (record { operands = refl; followed = refl; steady = refl; rests = refl }, (record { operands = refl; followed = refl; steady = refl; rests = refl }, (record { operands = refl; followed = refl; steady = refl; rests = refl }, (record { operands = refl; followed = refl; steady = refl; rests = refl }, (record { operands = refl; followed = refl; steady = refl; rests = refl }, (record { operands = refl; followed = refl; steady = refl; rests = refl }, (record { operands = refl; followed = refl; steady = refl; rests = refl }, (record { operands = refl; followed = refl; steady = refl; rests = refl }, (record { operands = refl; followed = refl; steady = refl; rests = refl }, (record { operands = refl; followed = refl; steady = refl; rests = refl }, (record { operands = refl; followed = refl; steady = refl; rests = refl }, (record { operands = refl; followed = refl; steady = refl; rests = refl }, (record { operands = refl; followed = refl; steady = refl; rests = refl }, (record { operands = refl; followed = refl; steady = refl; rests = refl }, (record { operands = refl; followed = refl; steady = refl; rests = refl }, (record { operands = refl; followed = refl; steady = refl; rests = refl }, (record { operands = refl; followed = refl; steady = refl; rests = refl }, (record { operands = refl; followed = refl; steady = refl; rests = refl }, (record { operands = refl; followed = refl; steady = refl; rests = refl }, (record { operands = refl; followed = refl; steady = refl; rests = refl }, (record { operands = refl; followed = refl; steady = refl; rests = refl }, (record { operands = refl; followed = refl; steady = refl; rests = refl }, (record { operands = refl; followed = refl; steady = refl; rests = refl }, (record { operands = refl; followed = refl; steady = refl; rests = refl }, (record { operands = refl; followed = refl; steady = refl; rests = refl }, (record { operands = refl; followed = refl; steady = refl; rests = refl }, (record { operands = refl; followed = refl; steady = refl; rests = refl }, (record { operands = refl; followed = refl; steady = refl; rests = refl }, (record { operands = refl; followed = refl; steady = refl; rests = refl }, (record { operands = refl; followed = refl; steady = refl; rests = refl }, (record { operands = refl; followed = refl; steady = refl; rests = refl }, (record { operands = refl; followed = refl; steady = refl; rests = refl }, (record { operands = refl; followed = refl; steady = refl; rests = refl }, (record { operands = refl; followed = refl; steady = refl; rests = refl }, (record { operands = refl; followed = refl; steady = refl; rests = refl }, (record { operands = refl; followed = refl; steady = refl; rests = refl }, (record { operands = refl; followed = refl; steady = refl; rests = refl }, (record { operands = refl; followed = refl; steady = refl; rests = refl }, (record { operands = refl; followed = refl; steady = refl; rests = refl }, (record { operands = refl; followed = refl; steady = refl; rests = refl }, (record { operands = refl; followed = refl; steady = refl; rests = refl }, (record { operands = refl; followed = refl; steady = refl; rests = refl }, (record { operands = refl; followed = refl; steady = refl; rests = refl }, (record { operands = refl; followed = refl; steady = refl; rests = refl }, (record { operands = refl; followed = refl; steady = refl; rests = refl }, (record { operands = refl; followed = refl; steady = refl; rests = refl }, (record { operands = refl; followed = refl; steady = refl; rests = refl }, (record { operands = refl; followed = refl; steady = refl; rests = refl }, (record { operands = refl; followed = refl; steady = refl; rests = refl }, (record { operands = refl; followed = refl; steady = refl; rests = refl }, (record { operands = refl; followed = refl; steady = refl; rests = refl }, (record { operands = refl; followed = refl; steady = refl; rests = refl }, (record { operands = refl; followed = refl; steady = refl; rests = refl }, (record { operands = refl; followed = refl; steady = refl; rests = refl }, (record { operands = refl; followed = refl; steady = refl; rests = refl }, (record { operands = refl; followed = refl; steady = refl; rests = refl }, (record { operands = refl; followed = refl; steady = refl; rests = refl }, (record { operands = refl; followed = refl; steady = refl; rests = refl }, (record { operands = refl; followed = refl; steady = refl; rests = refl }, (record { operands = refl; followed = refl; steady = refl; rests = refl }, (record { operands = refl; followed = refl; steady = refl; rests = refl }, (record { operands = refl; followed = refl; steady = refl; rests = refl }, (record { operands = refl; followed = refl; steady = refl; rests = refl }, (record { operands = refl; followed = refl; steady = refl; rests = refl }, (record { operands = refl; followed = refl; steady = refl; rests = refl }, (record { operands = refl; followed = refl; steady = refl; rests = refl }, (record { operands = refl; followed = refl; steady = refl; rests = refl }, (record { operands = refl; followed = refl; steady = refl; rests = refl }, (record { operands = refl; followed = refl; steady = refl; rests = refl }, (record { operands = refl; followed = refl; steady = refl; rests = refl }, (record { operands = refl; followed = refl; steady = refl; rests = refl }, (record { operands = refl; followed = refl; steady = refl; rests = refl }, (record { operands = refl; followed = refl; steady = refl; rests = refl }, (record { operands = refl; followed = refl; steady = refl; rests = refl }, (record { operands = refl; followed = refl; steady = refl; rests = refl }, (record { operands = refl; followed = refl; steady = refl; rests = refl }, (record { operands = refl; followed = refl; steady = refl; rests = refl }, (record { operands = refl; followed = refl; steady = refl; rests = refl }, (record { operands = refl; followed = refl; steady = refl; rests = refl }, (record { operands = refl; followed = refl; steady = refl; rests = refl }, (record { operands = refl; followed = refl; steady = refl; rests = refl }, (record { operands = refl; followed = refl; steady = refl; rests = refl }, (record { operands = refl; followed = refl; steady = refl; rests = refl }, (record { operands = refl; followed = refl; steady = refl; rests = refl }, (record { operands = refl; followed = refl; steady = refl; rests = refl }, (record { operands = refl; followed = refl; steady = refl; rests = refl }, (record { operands = refl; followed = refl; steady = refl; rests = refl }, (record { operands = refl; followed = refl; steady = refl; rests = refl }, (record { operands = refl; followed = refl; steady = refl; rests = refl }, (record { operands = refl; followed = refl; steady = refl; rests = refl }, (record { operands = refl; followed = refl; steady = refl; rests = refl }, (record { operands = refl; followed = refl; steady = refl; rests = refl }, (record { operands = refl; followed = refl; steady = refl; rests = refl }, (record { operands = refl; followed = refl; steady = refl; rests = refl }, (record { operands = refl; followed = refl; steady = refl; rests = refl }, (record { operands = refl; followed = refl; steady = refl; rests = refl }, (record { operands = refl; followed = refl; steady = refl; rests = refl }, (record { operands = refl; followed = refl; steady = refl; rests = refl }, (record { operands = refl; followed = refl; steady = refl; rests = refl }, (record { operands = refl; followed = refl; steady = refl; rests = refl }, (record { operands = refl; followed = refl; steady = refl; rests = refl }, (record { operands = refl; followed = refl; steady = refl; rests = refl }, (record { operands = refl; followed = refl; steady = refl; rests = refl }, (record { operands = refl; followed = refl; steady = refl; rests = refl }, (record { operands = refl; followed = refl; steady = refl; rests = refl }, (record { operands = refl; followed = refl; steady = refl; rests = refl }, (record { operands = refl; followed = refl; steady = refl; rests = refl }, tt))))))))))))))))))))))))))))))))))))))))))))))))))))))))))))))))))))))))))))))))))))))))))))))))))))))))))));
  start = refl;
  starts = (refl, tt);
  of_main = ((refl, tt), ((refl, tt), ((refl, tt), ((refl, (refl, tt)), ((refl, tt), ((refl, tt), ((refl, tt), ((refl, tt), ((refl, tt), ((refl, tt), ((refl, tt), ((refl, (refl, tt)), ((refl, tt), ((refl, tt), ((refl, tt), ((refl, tt), ((refl, tt), ((refl, tt), ((refl, tt), ((refl, (refl, tt)), ((refl, tt), ((refl, tt), ((refl, tt), ((refl, tt), ((refl, tt), ((refl, tt), ((refl, tt), ((refl, tt), ((refl, tt), ((refl, (refl, tt)), ((refl, tt), ((refl, tt), ((refl, tt), ((refl, tt), ((refl, tt), ((refl, tt), ((refl, (refl, tt)), ((refl, tt), ((refl, tt), ((refl, tt), ((refl, tt), ((refl, tt), ((refl, tt), ((refl, tt), ((refl, tt), ((refl, tt), ((refl, tt), ((refl, tt), ((refl, tt), ((refl, tt), ((refl, tt), ((refl, (refl, tt)), ((refl, tt), ((refl, tt), ((refl, tt), ((refl, tt), ((refl, tt), ((refl, tt), ((refl, tt), ((refl, tt), ((refl, (refl, tt)), ((refl, tt), ((refl, tt), ((refl, tt), ((refl, tt), ((refl, tt), ((refl, tt), ((refl, tt), ((refl, (refl, tt)), ((refl, tt), ((refl, tt), ((refl, tt), ((refl, tt), ((refl, tt), ((refl, tt), ((refl, tt), ((refl, tt), ((refl, tt), ((refl, tt), ((refl, tt), ((refl, (refl, tt)), ((refl, tt), ((refl, tt), ((refl, tt), ((refl, tt), ((refl, tt), ((refl, tt), ((refl, tt), ((refl, (refl, tt)), ((refl, tt), ((refl, tt), ((refl, tt), ((refl, tt), ((refl, tt), ((refl, tt), ((refl, tt), ((refl, tt), ((refl, tt), ((refl, (refl, tt)), ((refl, tt), ((refl, tt), ((refl, tt), ((refl, tt), (tt, tt))))))))))))))))))))))))))))))))))))))))))))))))))))))))))))))))))))))))))))))))))))))))))))))))))))))));
  of_subs = (((refl, tt), ((refl, tt), ((refl, tt), (tt, tt)))), tt);
  apart = (tt, tt);
  between = (((refl, (refl, (refl, (refl, tt)))), tt), tt);
}

pub teams_kept : KeepsByTables teams_code teams_main teams_subs
teams_kept = record {
  objects = refl;
  instrs = (record { operands = refl; followed = refl; steady = refl; rests = refl }, (record { operands = refl; followed = refl; steady = refl; rests = refl }, (record { operands = refl; followed = refl; steady = refl; rests = refl }, (record { operands = refl; followed = refl; steady = refl; rests = refl }, (record { operands = refl; followed = refl; steady = refl; rests = refl }, (record { operands = refl; followed = refl; steady = refl; rests = refl }, (record { operands = refl; followed = refl; steady = refl; rests = refl }, (record { operands = refl; followed = refl; steady = refl; rests = refl }, (record { operands = refl; followed = refl; steady = refl; rests = refl }, (record { operands = refl; followed = refl; steady = refl; rests = refl }, (record { operands = refl; followed = refl; steady = refl; rests = refl }, (record { operands = refl; followed = refl; steady = refl; rests = refl }, (record { operands = refl; followed = refl; steady = refl; rests = refl }, (record { operands = refl; followed = refl; steady = refl; rests = refl }, (record { operands = refl; followed = refl; steady = refl; rests = refl }, (record { operands = refl; followed = refl; steady = refl; rests = refl }, (record { operands = refl; followed = refl; steady = refl; rests = refl }, (record { operands = refl; followed = refl; steady = refl; rests = refl }, (record { operands = refl; followed = refl; steady = refl; rests = refl }, (record { operands = refl; followed = refl; steady = refl; rests = refl }, (record { operands = refl; followed = refl; steady = refl; rests = refl }, (record { operands = refl; followed = refl; steady = refl; rests = refl }, (record { operands = refl; followed = refl; steady = refl; rests = refl }, (record { operands = refl; followed = refl; steady = refl; rests = refl }, (record { operands = refl; followed = refl; steady = refl; rests = refl }, (record { operands = refl; followed = refl; steady = refl; rests = refl }, (record { operands = refl; followed = refl; steady = refl; rests = refl }, (record { operands = refl; followed = refl; steady = refl; rests = refl }, (record { operands = refl; followed = refl; steady = refl; rests = refl }, (record { operands = refl; followed = refl; steady = refl; rests = refl }, (record { operands = refl; followed = refl; steady = refl; rests = refl }, (record { operands = refl; followed = refl; steady = refl; rests = refl }, (record { operands = refl; followed = refl; steady = refl; rests = refl }, (record { operands = refl; followed = refl; steady = refl; rests = refl }, (record { operands = refl; followed = refl; steady = refl; rests = refl }, (record { operands = refl; followed = refl; steady = refl; rests = refl }, (record { operands = refl; followed = refl; steady = refl; rests = refl }, (record { operands = refl; followed = refl; steady = refl; rests = refl }, (record { operands = refl; followed = refl; steady = refl; rests = refl }, (record { operands = refl; followed = refl; steady = refl; rests = refl }, (record { operands = refl; followed = refl; steady = refl; rests = refl }, (record { operands = refl; followed = refl; steady = refl; rests = refl }, (record { operands = refl; followed = refl; steady = refl; rests = refl }, (record { operands = refl; followed = refl; steady = refl; rests = refl }, (record { operands = refl; followed = refl; steady = refl; rests = refl }, (record { operands = refl; followed = refl; steady = refl; rests = refl }, (record { operands = refl; followed = refl; steady = refl; rests = refl }, (record { operands = refl; followed = refl; steady = refl; rests = refl }, (record { operands = refl; followed = refl; steady = refl; rests = refl }, (record { operands = refl; followed = refl; steady = refl; rests = refl }, (record { operands = refl; followed = refl; steady = refl; rests = refl }, (record { operands = refl; followed = refl; steady = refl; rests = refl }, (record { operands = refl; followed = refl; steady = refl; rests = refl }, (record { operands = refl; followed = refl; steady = refl; rests = refl }, (record { operands = refl; followed = refl; steady = refl; rests = refl }, (record { operands = refl; followed = refl; steady = refl; rests = refl }, (record { operands = refl; followed = refl; steady = refl; rests = refl }, (record { operands = refl; followed = refl; steady = refl; rests = refl }, (record { operands = refl; followed = refl; steady = refl; rests = refl }, (record { operands = refl; followed = refl; steady = refl; rests = refl }, (record { operands = refl; followed = refl; steady = refl; rests = refl }, (record { operands = refl; followed = refl; steady = refl; rests = refl }, (record { operands = refl; followed = refl; steady = refl; rests = refl }, (record { operands = refl; followed = refl; steady = refl; rests = refl }, (record { operands = refl; followed = refl; steady = refl; rests = refl }, (record { operands = refl; followed = refl; steady = refl; rests = refl }, (record { operands = refl; followed = refl; steady = refl; rests = refl }, (record { operands = refl; followed = refl; steady = refl; rests = refl }, (record { operands = refl; followed = refl; steady = refl; rests = refl }, (record { operands = refl; followed = refl; steady = refl; rests = refl }, (record { operands = refl; followed = refl; steady = refl; rests = refl }, (record { operands = refl; followed = refl; steady = refl; rests = refl }, (record { operands = refl; followed = refl; steady = refl; rests = refl }, (record { operands = refl; followed = refl; steady = refl; rests = refl }, (record { operands = refl; followed = refl; steady = refl; rests = refl }, (record { operands = refl; followed = refl; steady = refl; rests = refl }, (record { operands = refl; followed = refl; steady = refl; rests = refl }, (record { operands = refl; followed = refl; steady = refl; rests = refl }, (record { operands = refl; followed = refl; steady = refl; rests = refl }, (record { operands = refl; followed = refl; steady = refl; rests = refl }, (record { operands = refl; followed = refl; steady = refl; rests = refl }, (record { operands = refl; followed = refl; steady = refl; rests = refl }, (record { operands = refl; followed = refl; steady = refl; rests = refl }, (record { operands = refl; followed = refl; steady = refl; rests = refl }, (record { operands = refl; followed = refl; steady = refl; rests = refl }, (record { operands = refl; followed = refl; steady = refl; rests = refl }, (record { operands = refl; followed = refl; steady = refl; rests = refl }, (record { operands = refl; followed = refl; steady = refl; rests = refl }, (record { operands = refl; followed = refl; steady = refl; rests = refl }, (record { operands = refl; followed = refl; steady = refl; rests = refl }, (record { operands = refl; followed = refl; steady = refl; rests = refl }, (record { operands = refl; followed = refl; steady = refl; rests = refl }, (record { operands = refl; followed = refl; steady = refl; rests = refl }, (record { operands = refl; followed = refl; steady = refl; rests = refl }, (record { operands = refl; followed = refl; steady = refl; rests = refl }, (record { operands = refl; followed = refl; steady = refl; rests = refl }, (record { operands = refl; followed = refl; steady = refl; rests = refl }, (record { operands = refl; followed = refl; steady = refl; rests = refl }, (record { operands = refl; followed = refl; steady = refl; rests = refl }, (record { operands = refl; followed = refl; steady = refl; rests = refl }, (record { operands = refl; followed = refl; steady = refl; rests = refl }, (record { operands = refl; followed = refl; steady = refl; rests = refl }, (record { operands = refl; followed = refl; steady = refl; rests = refl }, (record { operands = refl; followed = refl; steady = refl; rests = refl }, (record { operands = refl; followed = refl; steady = refl; rests = refl }, (record { operands = refl; followed = refl; steady = refl; rests = refl }, (record { operands = refl; followed = refl; steady = refl; rests = refl }, (record { operands = refl; followed = refl; steady = refl; rests = refl }, (record { operands = refl; followed = refl; steady = refl; rests = refl }, (record { operands = refl; followed = refl; steady = refl; rests = refl }, (record { operands = refl; followed = refl; steady = refl; rests = refl }, (record { operands = refl; followed = refl; steady = refl; rests = refl }, (record { operands = refl; followed = refl; steady = refl; rests = refl }, tt)))))))))))))))))))))))))))))))))))))))))))))))))))))))))))))))))))))))))))))))))))))))))))))))))))))))))))))))));
  start = refl;
  starts = (refl, (refl, tt));
  of_main = ((refl, tt), ((refl, tt), ((refl, tt), ((refl, (refl, tt)), ((refl, tt), ((refl, tt), ((refl, tt), ((refl, tt), ((refl, tt), ((refl, tt), ((refl, tt), ((refl, tt), ((refl, tt), ((refl, tt), ((refl, (refl, tt)), ((refl, tt), ((refl, tt), ((refl, tt), ((refl, tt), ((refl, tt), ((refl, tt), ((refl, tt), ((refl, (refl, tt)), ((refl, tt), ((refl, tt), ((refl, tt), ((refl, tt), ((refl, tt), ((refl, tt), ((refl, tt), ((refl, tt), ((refl, tt), ((refl, tt), ((refl, tt), ((refl, tt), ((refl, tt), ((refl, tt), ((refl, tt), ((refl, (refl, tt)), ((refl, tt), ((refl, tt), ((refl, tt), ((refl, tt), ((refl, tt), ((refl, tt), ((refl, tt), ((refl, (refl, tt)), ((refl, tt), ((refl, tt), ((refl, tt), ((refl, tt), ((refl, tt), ((refl, tt), ((refl, tt), ((refl, (refl, tt)), ((refl, tt), ((refl, tt), ((refl, tt), ((refl, tt), ((refl, tt), ((refl, tt), ((refl, tt), ((refl, tt), ((refl, tt), ((refl, tt), ((refl, tt), ((refl, tt), ((refl, (refl, tt)), ((refl, tt), ((refl, tt), ((refl, tt), ((refl, tt), ((refl, tt), ((refl, tt), ((refl, tt), ((refl, tt), ((refl, tt), ((refl, tt), ((refl, tt), ((refl, tt), ((refl, (refl, tt)), ((refl, tt), ((refl, tt), ((refl, tt), ((refl, tt), ((refl, tt), ((refl, tt), ((refl, tt), ((refl, tt), ((refl, (refl, tt)), ((refl, tt), ((refl, tt), ((refl, tt), ((refl, tt), ((refl, tt), ((refl, tt), ((refl, tt), (tt, tt))))))))))))))))))))))))))))))))))))))))))))))))))))))))))))))))))))))))))))))))))))))))))))))))));
  of_subs = (((refl, tt), ((refl, tt), ((refl, tt), ((refl, tt), ((refl, tt), (tt, tt)))))), (((refl, tt), ((refl, tt), ((refl, tt), ((refl, tt), ((refl, tt), ((refl, tt), ((refl, tt), ((refl, tt), (tt, tt))))))))), tt));
  apart = (tt, (tt, tt));
  between = (((refl, (refl, (refl, (refl, (refl, (refl, tt)))))), (tt, tt)), ((tt, ((refl, (refl, (refl, (refl, (refl, (refl, (refl, (refl, (refl, tt))))))))), tt)), tt));
}

pub programs_kept : KeepsByTables programs_code programs_main programs_subs
programs_kept = record {
  objects = refl;
  instrs = (record { operands = refl; followed = refl; steady = refl; rests = refl }, (record { operands = refl; followed = refl; steady = refl; rests = refl }, (record { operands = refl; followed = refl; steady = refl; rests = refl }, (record { operands = refl; followed = refl; steady = refl; rests = refl }, (record { operands = refl; followed = refl; steady = refl; rests = refl }, (record { operands = refl; followed = refl; steady = refl; rests = refl }, (record { operands = refl; followed = refl; steady = refl; rests = refl }, (record { operands = refl; followed = refl; steady = refl; rests = refl }, (record { operands = refl; followed = refl; steady = refl; rests = refl }, (record { operands = refl; followed = refl; steady = refl; rests = refl }, (record { operands = refl; followed = refl; steady = refl; rests = refl }, (record { operands = refl; followed = refl; steady = refl; rests = refl }, (record { operands = refl; followed = refl; steady = refl; rests = refl }, (record { operands = refl; followed = refl; steady = refl; rests = refl }, (record { operands = refl; followed = refl; steady = refl; rests = refl }, (record { operands = refl; followed = refl; steady = refl; rests = refl }, (record { operands = refl; followed = refl; steady = refl; rests = refl }, (record { operands = refl; followed = refl; steady = refl; rests = refl }, (record { operands = refl; followed = refl; steady = refl; rests = refl }, (record { operands = refl; followed = refl; steady = refl; rests = refl }, (record { operands = refl; followed = refl; steady = refl; rests = refl }, (record { operands = refl; followed = refl; steady = refl; rests = refl }, (record { operands = refl; followed = refl; steady = refl; rests = refl }, (record { operands = refl; followed = refl; steady = refl; rests = refl }, (record { operands = refl; followed = refl; steady = refl; rests = refl }, (record { operands = refl; followed = refl; steady = refl; rests = refl }, (record { operands = refl; followed = refl; steady = refl; rests = refl }, (record { operands = refl; followed = refl; steady = refl; rests = refl }, (record { operands = refl; followed = refl; steady = refl; rests = refl }, (record { operands = refl; followed = refl; steady = refl; rests = refl }, (record { operands = refl; followed = refl; steady = refl; rests = refl }, (record { operands = refl; followed = refl; steady = refl; rests = refl }, (record { operands = refl; followed = refl; steady = refl; rests = refl }, (record { operands = refl; followed = refl; steady = refl; rests = refl }, (record { operands = refl; followed = refl; steady = refl; rests = refl }, (record { operands = refl; followed = refl; steady = refl; rests = refl }, (record { operands = refl; followed = refl; steady = refl; rests = refl }, (record { operands = refl; followed = refl; steady = refl; rests = refl }, (record { operands = refl; followed = refl; steady = refl; rests = refl }, (record { operands = refl; followed = refl; steady = refl; rests = refl }, (record { operands = refl; followed = refl; steady = refl; rests = refl }, (record { operands = refl; followed = refl; steady = refl; rests = refl }, (record { operands = refl; followed = refl; steady = refl; rests = refl }, (record { operands = refl; followed = refl; steady = refl; rests = refl }, (record { operands = refl; followed = refl; steady = refl; rests = refl }, (record { operands = refl; followed = refl; steady = refl; rests = refl }, (record { operands = refl; followed = refl; steady = refl; rests = refl }, (record { operands = refl; followed = refl; steady = refl; rests = refl }, (record { operands = refl; followed = refl; steady = refl; rests = refl }, (record { operands = refl; followed = refl; steady = refl; rests = refl }, (record { operands = refl; followed = refl; steady = refl; rests = refl }, (record { operands = refl; followed = refl; steady = refl; rests = refl }, (record { operands = refl; followed = refl; steady = refl; rests = refl }, (record { operands = refl; followed = refl; steady = refl; rests = refl }, (record { operands = refl; followed = refl; steady = refl; rests = refl }, (record { operands = refl; followed = refl; steady = refl; rests = refl }, (record { operands = refl; followed = refl; steady = refl; rests = refl }, (record { operands = refl; followed = refl; steady = refl; rests = refl }, (record { operands = refl; followed = refl; steady = refl; rests = refl }, (record { operands = refl; followed = refl; steady = refl; rests = refl }, (record { operands = refl; followed = refl; steady = refl; rests = refl }, (record { operands = refl; followed = refl; steady = refl; rests = refl }, (record { operands = refl; followed = refl; steady = refl; rests = refl }, (record { operands = refl; followed = refl; steady = refl; rests = refl }, (record { operands = refl; followed = refl; steady = refl; rests = refl }, (record { operands = refl; followed = refl; steady = refl; rests = refl }, (record { operands = refl; followed = refl; steady = refl; rests = refl }, (record { operands = refl; followed = refl; steady = refl; rests = refl }, (record { operands = refl; followed = refl; steady = refl; rests = refl }, (record { operands = refl; followed = refl; steady = refl; rests = refl }, (record { operands = refl; followed = refl; steady = refl; rests = refl }, (record { operands = refl; followed = refl; steady = refl; rests = refl }, (record { operands = refl; followed = refl; steady = refl; rests = refl }, (record { operands = refl; followed = refl; steady = refl; rests = refl }, (record { operands = refl; followed = refl; steady = refl; rests = refl }, (record { operands = refl; followed = refl; steady = refl; rests = refl }, (record { operands = refl; followed = refl; steady = refl; rests = refl }, (record { operands = refl; followed = refl; steady = refl; rests = refl }, (record { operands = refl; followed = refl; steady = refl; rests = refl }, (record { operands = refl; followed = refl; steady = refl; rests = refl }, (record { operands = refl; followed = refl; steady = refl; rests = refl }, (record { operands = refl; followed = refl; steady = refl; rests = refl }, (record { operands = refl; followed = refl; steady = refl; rests = refl }, (record { operands = refl; followed = refl; steady = refl; rests = refl }, (record { operands = refl; followed = refl; steady = refl; rests = refl }, (record { operands = refl; followed = refl; steady = refl; rests = refl }, (record { operands = refl; followed = refl; steady = refl; rests = refl }, (record { operands = refl; followed = refl; steady = refl; rests = refl }, (record { operands = refl; followed = refl; steady = refl; rests = refl }, (record { operands = refl; followed = refl; steady = refl; rests = refl }, (record { operands = refl; followed = refl; steady = refl; rests = refl }, (record { operands = refl; followed = refl; steady = refl; rests = refl }, (record { operands = refl; followed = refl; steady = refl; rests = refl }, (record { operands = refl; followed = refl; steady = refl; rests = refl }, (record { operands = refl; followed = refl; steady = refl; rests = refl }, (record { operands = refl; followed = refl; steady = refl; rests = refl }, (record { operands = refl; followed = refl; steady = refl; rests = refl }, (record { operands = refl; followed = refl; steady = refl; rests = refl }, (record { operands = refl; followed = refl; steady = refl; rests = refl }, (record { operands = refl; followed = refl; steady = refl; rests = refl }, (record { operands = refl; followed = refl; steady = refl; rests = refl }, (record { operands = refl; followed = refl; steady = refl; rests = refl }, (record { operands = refl; followed = refl; steady = refl; rests = refl }, (record { operands = refl; followed = refl; steady = refl; rests = refl }, (record { operands = refl; followed = refl; steady = refl; rests = refl }, (record { operands = refl; followed = refl; steady = refl; rests = refl }, (record { operands = refl; followed = refl; steady = refl; rests = refl }, (record { operands = refl; followed = refl; steady = refl; rests = refl }, (record { operands = refl; followed = refl; steady = refl; rests = refl }, (record { operands = refl; followed = refl; steady = refl; rests = refl }, (record { operands = refl; followed = refl; steady = refl; rests = refl }, (record { operands = refl; followed = refl; steady = refl; rests = refl }, (record { operands = refl; followed = refl; steady = refl; rests = refl }, (record { operands = refl; followed = refl; steady = refl; rests = refl }, (record { operands = refl; followed = refl; steady = refl; rests = refl }, (record { operands = refl; followed = refl; steady = refl; rests = refl }, (record { operands = refl; followed = refl; steady = refl; rests = refl }, (record { operands = refl; followed = refl; steady = refl; rests = refl }, (record { operands = refl; followed = refl; steady = refl; rests = refl }, (record { operands = refl; followed = refl; steady = refl; rests = refl }, (record { operands = refl; followed = refl; steady = refl; rests = refl }, (record { operands = refl; followed = refl; steady = refl; rests = refl }, (record { operands = refl; followed = refl; steady = refl; rests = refl }, (record { operands = refl; followed = refl; steady = refl; rests = refl }, (record { operands = refl; followed = refl; steady = refl; rests = refl }, (record { operands = refl; followed = refl; steady = refl; rests = refl }, (record { operands = refl; followed = refl; steady = refl; rests = refl }, (record { operands = refl; followed = refl; steady = refl; rests = refl }, (record { operands = refl; followed = refl; steady = refl; rests = refl }, (record { operands = refl; followed = refl; steady = refl; rests = refl }, (record { operands = refl; followed = refl; steady = refl; rests = refl }, (record { operands = refl; followed = refl; steady = refl; rests = refl }, (record { operands = refl; followed = refl; steady = refl; rests = refl }, (record { operands = refl; followed = refl; steady = refl; rests = refl }, (record { operands = refl; followed = refl; steady = refl; rests = refl }, (record { operands = refl; followed = refl; steady = refl; rests = refl }, (record { operands = refl; followed = refl; steady = refl; rests = refl }, (record { operands = refl; followed = refl; steady = refl; rests = refl }, (record { operands = refl; followed = refl; steady = refl; rests = refl }, (record { operands = refl; followed = refl; steady = refl; rests = refl }, (record { operands = refl; followed = refl; steady = refl; rests = refl }, (record { operands = refl; followed = refl; steady = refl; rests = refl }, (record { operands = refl; followed = refl; steady = refl; rests = refl }, (record { operands = refl; followed = refl; steady = refl; rests = refl }, (record { operands = refl; followed = refl; steady = refl; rests = refl }, (record { operands = refl; followed = refl; steady = refl; rests = refl }, (record { operands = refl; followed = refl; steady = refl; rests = refl }, (record { operands = refl; followed = refl; steady = refl; rests = refl }, (record { operands = refl; followed = refl; steady = refl; rests = refl }, (record { operands = refl; followed = refl; steady = refl; rests = refl }, (record { operands = refl; followed = refl; steady = refl; rests = refl }, (record { operands = refl; followed = refl; steady = refl; rests = refl }, (record { operands = refl; followed = refl; steady = refl; rests = refl }, (record { operands = refl; followed = refl; steady = refl; rests = refl }, (record { operands = refl; followed = refl; steady = refl; rests = refl }, (record { operands = refl; followed = refl; steady = refl; rests = refl }, tt))))))))))))))))))))))))))))))))))))))))))))))))))))))))))))))))))))))))))))))))))))))))))))))))))))))))))))))))))))))))))))))))))))))))))))))))))))))))))));
  start = refl;
  starts = (refl, tt);
  of_main = ((refl, tt), ((refl, tt), ((refl, tt), ((refl, (refl, tt)), ((refl, tt), ((refl, tt), ((refl, tt), ((refl, tt), ((refl, tt), ((refl, tt), ((refl, tt), ((refl, tt), ((refl, tt), ((refl, tt), ((refl, tt), ((refl, tt), ((refl, tt), ((refl, tt), ((refl, tt), ((refl, tt), ((refl, tt), ((refl, tt), ((refl, tt), ((refl, tt), ((refl, (refl, tt)), ((refl, tt), ((refl, tt), ((refl, tt), ((refl, tt), ((refl, tt), ((refl, (refl, tt)), ((refl, tt), ((refl, tt), ((refl, tt), ((refl, tt), ((refl, tt), ((refl, tt), ((refl, (refl, tt)), ((refl, tt), ((refl, tt), ((refl, tt), ((refl, tt), ((refl, tt), ((refl, tt), ((refl, tt), ((refl, tt), ((refl, (refl, tt)), ((refl, tt), ((refl, tt), ((refl, tt), ((refl, tt), ((refl, (refl, tt)), ((refl, tt), ((refl, tt), ((refl, tt), ((refl, tt), ((refl, tt), ((refl, tt), ((refl, tt), ((refl, (refl, tt)), ((refl, tt), ((refl, tt), ((refl, tt), ((refl, tt), ((refl, tt), ((refl, tt), ((refl, (refl, tt)), ((refl, tt), ((refl, tt), ((refl, tt), ((refl, tt), ((refl, tt), ((refl, (refl, tt)), ((refl, tt), ((refl, tt), ((refl, tt), ((refl, tt), ((refl, tt), ((refl, tt), ((refl, (refl, tt)), ((refl, tt), ((refl, tt), ((refl, tt), ((refl, tt), ((refl, tt), ((refl, (refl, tt)), ((refl, tt), ((refl, tt), ((refl, tt), ((refl, tt), ((refl, tt), ((refl, tt), ((refl, tt), ((refl, tt), ((refl, tt), ((refl, tt), ((refl, tt), ((refl, tt), ((refl, tt), ((refl, (refl, tt)), ((refl, tt), ((refl, tt), ((refl, tt), ((refl, tt), ((refl, tt), ((refl, tt), ((refl, tt), ((refl, tt), ((refl, tt), ((refl, (refl, tt)), ((refl, tt), ((refl, tt), ((refl, tt), ((refl, tt), ((refl, tt), ((refl, tt), ((refl, tt), ((refl, tt), ((refl, tt), ((refl, (refl, tt)), ((refl, tt), ((refl, tt), ((refl, tt), ((refl, tt), ((refl, tt), ((refl, (refl, tt)), ((refl, (refl, tt)), ((refl, tt), ((refl, tt), ((refl, tt), ((refl, tt), ((refl, tt), ((refl, (refl, tt)), ((refl, tt), ((refl, tt), ((refl, tt), ((refl, tt), ((refl, tt), ((refl, tt), ((refl, tt), ((refl, tt), ((refl, (refl, tt)), ((refl, tt), ((refl, tt), ((refl, tt), ((refl, tt), ((refl, tt), (tt, tt))))))))))))))))))))))))))))))))))))))))))))))))))))))))))))))))))))))))))))))))))))))))))))))))))))))))))))))))))))))))))))))))))))))))))))))))))));
  of_subs = (((refl, tt), ((refl, tt), ((refl, tt), ((refl, tt), ((refl, tt), ((refl, tt), ((refl, tt), (tt, tt)))))))), tt);
  apart = (tt, tt);
  between = (((refl, (refl, (refl, (refl, (refl, (refl, (refl, (refl, tt)))))))), tt), tt);
}

-- a listing with equal parts
pub kept_as : (code : Listing) → KeepsRules code → (objects : List Object) (subs : List SubCode) (texts : List (List ℕ)) (instrs : List Instr)
    → objects ≡ code.objects → subs ≡ code.subs → texts ≡ code.texts → instrs ≡ code.instrs
    → KeepsRules (record { objects = objects; subs = subs; texts = texts; instrs = instrs })
kept_as code keeps objects subs texts instrs same_objects same_subs same_texts same_instrs =
    subst (λ x. KeepsRules (record { objects = x; subs = subs; texts = texts; instrs = instrs })) (sym same_objects)
    (subst (λ x. KeepsRules (record { objects = code.objects; subs = x; texts = texts; instrs = instrs })) (sym same_subs)
    (subst (λ x. KeepsRules (record { objects = code.objects; subs = code.subs; texts = x; instrs = instrs })) (sym same_texts)
    (subst (λ x. KeepsRules (record { objects = code.objects; subs = code.subs; texts = code.texts; instrs = x })) (sym same_instrs) keeps)))
