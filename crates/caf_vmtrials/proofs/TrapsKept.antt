-- The codes of statements that trap keep the rules.
use Rattle.std.proofs.Common.{refl}
use Rattle.caf_code.specs.Tables.{KeepsByTables}
use Rattle.caf_vmtrials.specs.Traps.{copies_code, copies_main, copies_subs, refusals_code, refusals_main, refusals_subs}

pub refusals_kept : KeepsByTables refusals_code refusals_main refusals_subs
refusals_kept = record {
  objects = refl;
  instrs = (record { operands = refl; followed = refl; steady = refl; rests = refl }, (record { operands = refl; followed = refl; steady = refl; rests = refl }, (record { operands = refl; followed = refl; steady = refl; rests = refl }, (record { operands = refl; followed = refl; steady = refl; rests = refl }, (record { operands = refl; followed = refl; steady = refl; rests = refl }, (record { operands = refl; followed = refl; steady = refl; rests = refl }, (record { operands = refl; followed = refl; steady = refl; rests = refl }, (record { operands = refl; followed = refl; steady = refl; rests = refl }, (record { operands = refl; followed = refl; steady = refl; rests = refl }, (record { operands = refl; followed = refl; steady = refl; rests = refl }, (record { operands = refl; followed = refl; steady = refl; rests = refl }, (record { operands = refl; followed = refl; steady = refl; rests = refl }, (record { operands = refl; followed = refl; steady = refl; rests = refl }, (record { operands = refl; followed = refl; steady = refl; rests = refl }, (record { operands = refl; followed = refl; steady = refl; rests = refl }, (record { operands = refl; followed = refl; steady = refl; rests = refl }, (record { operands = refl; followed = refl; steady = refl; rests = refl }, (record { operands = refl; followed = refl; steady = refl; rests = refl }, (record { operands = refl; followed = refl; steady = refl; rests = refl }, (record { operands = refl; followed = refl; steady = refl; rests = refl }, (record { operands = refl; followed = refl; steady = refl; rests = refl }, (record { operands = refl; followed = refl; steady = refl; rests = refl }, (record { operands = refl; followed = refl; steady = refl; rests = refl }, (record { operands = refl; followed = refl; steady = refl; rests = refl }, (record { operands = refl; followed = refl; steady = refl; rests = refl }, (record { operands = refl; followed = refl; steady = refl; rests = refl }, (record { operands = refl; followed = refl; steady = refl; rests = refl }, (record { operands = refl; followed = refl; steady = refl; rests = refl }, (record { operands = refl; followed = refl; steady = refl; rests = refl }, (record { operands = refl; followed = refl; steady = refl; rests = refl }, (record { operands = refl; followed = refl; steady = refl; rests = refl }, (record { operands = refl; followed = refl; steady = refl; rests = refl }, (record { operands = refl; followed = refl; steady = refl; rests = refl }, (record { operands = refl; followed = refl; steady = refl; rests = refl }, (record { operands = refl; followed = refl; steady = refl; rests = refl }, (record { operands = refl; followed = refl; steady = refl; rests = refl }, (record { operands = refl; followed = refl; steady = refl; rests = refl }, (record { operands = refl; followed = refl; steady = refl; rests = refl }, (record { operands = refl; followed = refl; steady = refl; rests = refl }, (record { operands = refl; followed = refl; steady = refl; rests = refl }, (record { operands = refl; followed = refl; steady = refl; rests = refl }, (record { operands = refl; followed = refl; steady = refl; rests = refl }, (record { operands = refl; followed = refl; steady = refl; rests = refl }, (record { operands = refl; followed = refl; steady = refl; rests = refl }, (record { operands = refl; followed = refl; steady = refl; rests = refl }, (record { operands = refl; followed = refl; steady = refl; rests = refl }, (record { operands = refl; followed = refl; steady = refl; rests = refl }, (record { operands = refl; followed = refl; steady = refl; rests = refl }, (record { operands = refl; followed = refl; steady = refl; rests = refl }, (record { operands = refl; followed = refl; steady = refl; rests = refl }, (record { operands = refl; followed = refl; steady = refl; rests = refl }, (record { operands = refl; followed = refl; steady = refl; rests = refl }, (record { operands = refl; followed = refl; steady = refl; rests = refl }, (record { operands = refl; followed = refl; steady = refl; rests = refl }, (record { operands = refl; followed = refl; steady = refl; rests = refl }, (record { operands = refl; followed = refl; steady = refl; rests = refl }, (record { operands = refl; followed = refl; steady = refl; rests = refl }, (record { operands = refl; followed = refl; steady = refl; rests = refl }, (record { operands = refl; followed = refl; steady = refl; rests = refl }, (record { operands = refl; followed = refl; steady = refl; rests = refl }, (record { operands = refl; followed = refl; steady = refl; rests = refl }, (record { operands = refl; followed = refl; steady = refl; rests = refl }, (record { operands = refl; followed = refl; steady = refl; rests = refl }, (record { operands = refl; followed = refl; steady = refl; rests = refl }, (record { operands = refl; followed = refl; steady = refl; rests = refl }, (record { operands = refl; followed = refl; steady = refl; rests = refl }, (record { operands = refl; followed = refl; steady = refl; rests = refl }, (record { operands = refl; followed = refl; steady = refl; rests = refl }, (record { operands = refl; followed = refl; steady = refl; rests = refl }, (record { operands = refl; followed = refl; steady = refl; rests = refl }, (record { operands = refl; followed = refl; steady = refl; rests = refl }, (record { operands = refl; followed = refl; steady = refl; rests = refl }, (record { operands = refl; followed = refl; steady = refl; rests = refl }, (record { operands = refl; followed = refl; steady = refl; rests = refl }, (record { operands = refl; followed = refl; steady = refl; rests = refl }, (record { operands = refl; followed = refl; steady = refl; rests = refl }, (record { operands = refl; followed = refl; steady = refl; rests = refl }, (record { operands = refl; followed = refl; steady = refl; rests = refl }, (record { operands = refl; followed = refl; steady = refl; rests = refl }, (record { operands = refl; followed = refl; steady = refl; rests = refl }, (record { operands = refl; followed = refl; steady = refl; rests = refl }, (record { operands = refl; followed = refl; steady = refl; rests = refl }, (record { operands = refl; followed = refl; steady = refl; rests = refl }, (record { operands = refl; followed = refl; steady = refl; rests = refl }, (record { operands = refl; followed = refl; steady = refl; rests = refl }, (record { operands = refl; followed = refl; steady = refl; rests = refl }, (record { operands = refl; followed = refl; steady = refl; rests = refl }, (record { operands = refl; followed = refl; steady = refl; rests = refl }, (record { operands = refl; followed = refl; steady = refl; rests = refl }, (record { operands = refl; followed = refl; steady = refl; rests = refl }, (record { operands = refl; followed = refl; steady = refl; rests = refl }, (record { operands = refl; followed = refl; steady = refl; rests = refl }, (record { operands = refl; followed = refl; steady = refl; rests = refl }, (record { operands = refl; followed = refl; steady = refl; rests = refl }, (record { operands = refl; followed = refl; steady = refl; rests = refl }, (record { operands = refl; followed = refl; steady = refl; rests = refl }, (record { operands = refl; followed = refl; steady = refl; rests = refl }, (record { operands = refl; followed = refl; steady = refl; rests = refl }, (record { operands = refl; followed = refl; steady = refl; rests = refl }, (record { operands = refl; followed = refl; steady = refl; rests = refl }, (record { operands = refl; followed = refl; steady = refl; rests = refl }, (record { operands = refl; followed = refl; steady = refl; rests = refl }, (record { operands = refl; followed = refl; steady = refl; rests = refl }, (record { operands = refl; followed = refl; steady = refl; rests = refl }, (record { operands = refl; followed = refl; steady = refl; rests = refl }, (record { operands = refl; followed = refl; steady = refl; rests = refl }, (record { operands = refl; followed = refl; steady = refl; rests = refl }, (record { operands = refl; followed = refl; steady = refl; rests = refl }, (record { operands = refl; followed = refl; steady = refl; rests = refl }, (record { operands = refl; followed = refl; steady = refl; rests = refl }, (record { operands = refl; followed = refl; steady = refl; rests = refl }, (record { operands = refl; followed = refl; steady = refl; rests = refl }, (record { operands = refl; followed = refl; steady = refl; rests = refl }, (record { operands = refl; followed = refl; steady = refl; rests = refl }, (record { operands = refl; followed = refl; steady = refl; rests = refl }, (record { operands = refl; followed = refl; steady = refl; rests = refl }, (record { operands = refl; followed = refl; steady = refl; rests = refl }, (record { operands = refl; followed = refl; steady = refl; rests = refl }, (record { operands = refl; followed = refl; steady = refl; rests = refl }, (record { operands = refl; followed = refl; steady = refl; rests = refl }, (record { operands = refl; followed = refl; steady = refl; rests = refl }, (record { operands = refl; followed = refl; steady = refl; rests = refl }, (record { operands = refl; followed = refl; steady = refl; rests = refl }, (record { operands = refl; followed = refl; steady = refl; rests = refl }, (record { operands = refl; followed = refl; steady = refl; rests = refl }, (record { operands = refl; followed = refl; steady = refl; rests = refl }, (record { operands = refl; followed = refl; steady = refl; rests = refl }, (record { operands = refl; followed = refl; steady = refl; rests = refl }, (record { operands = refl; followed = refl; steady = refl; rests = refl }, (record { operands = refl; followed = refl; steady = refl; rests = refl }, (record { operands = refl; followed = refl; steady = refl; rests = refl }, (record { operands = refl; followed = refl; steady = refl; rests = refl }, (record { operands = refl; followed = refl; steady = refl; rests = refl }, tt)))))))))))))))))))))))))))))))))))))))))))))))))))))))))))))))))))))))))))))))))))))))))))))))))))))))))))))))))))))))))))))))))))));
  start = refl;
  starts = (refl, tt);
  of_main = ((refl, tt), ((refl, tt), ((refl, tt), ((refl, (refl, tt)), ((refl, tt), ((refl, tt), ((refl, tt), ((refl, tt), ((refl, tt), ((refl, tt), ((refl, tt), ((refl, (refl, tt)), ((refl, tt), ((refl, tt), ((refl, tt), ((refl, tt), ((refl, tt), ((refl, tt), ((refl, tt), ((refl, (refl, tt)), ((refl, tt), ((refl, tt), ((refl, tt), ((refl, tt), ((refl, tt), ((refl, tt), ((refl, (refl, tt)), ((refl, tt), ((refl, tt), ((refl, tt), ((refl, tt), ((refl, tt), ((refl, tt), ((refl, tt), ((refl, tt), ((refl, tt), ((refl, tt), ((refl, (refl, tt)), ((refl, tt), ((refl, tt), ((refl, tt), ((refl, tt), ((refl, tt), ((refl, tt), ((refl, (refl, tt)), ((refl, tt), ((refl, tt), ((refl, tt), ((refl, tt), ((refl, tt), ((refl, tt), ((refl, (refl, tt)), ((refl, tt), ((refl, tt), ((refl, tt), ((refl, tt), ((refl, tt), ((refl, tt), ((refl, tt), ((refl, (refl, tt)), ((refl, tt), ((refl, tt), ((refl, tt), ((refl, tt), ((refl, tt), ((refl, tt), ((refl, tt), ((refl, (refl, tt)), ((refl, tt), ((refl, tt), ((refl, tt), ((refl, tt), ((refl, tt), ((refl, (refl, tt)), ((refl, tt), ((refl, tt), ((refl, tt), ((refl, tt), ((refl, tt), ((refl, tt), ((refl, tt), ((refl, tt), ((refl, tt), ((refl, tt), ((refl, (refl, tt)), ((refl, tt), ((refl, tt), ((refl, tt), ((refl, tt), ((refl, tt), ((refl, tt), ((refl, (refl, tt)), ((refl, tt), ((refl, tt), ((refl, tt), ((refl, tt), ((refl, tt), ((refl, tt), ((refl, tt), ((refl, tt), ((refl, (refl, tt)), ((refl, tt), ((refl, tt), ((refl, tt), ((refl, tt), ((refl, tt), ((refl, tt), ((refl, (refl, tt)), ((refl, tt), ((refl, tt), ((refl, tt), ((refl, tt), ((refl, tt), ((refl, tt), ((refl, tt), ((refl, tt), ((refl, tt), ((refl, (refl, tt)), ((refl, tt), ((refl, tt), ((refl, tt), ((refl, tt), ((refl, tt), ((refl, tt), ((refl, tt), ((refl, tt), ((refl, tt), ((refl, tt), (tt, tt)))))))))))))))))))))))))))))))))))))))))))))))))))))))))))))))))))))))))))))))))))))))))))))))))))))))))))))))))))))))))))))))));
  of_subs = (((refl, tt), ((refl, tt), ((refl, tt), (tt, tt)))), tt);
  apart = (tt, tt);
  between = (((refl, (refl, (refl, (refl, tt)))), tt), tt);
}

pub copies_kept : KeepsByTables copies_code copies_main copies_subs
copies_kept = record {
  objects = refl;
  instrs = (record { operands = refl; followed = refl; steady = refl; rests = refl }, (record { operands = refl; followed = refl; steady = refl; rests = refl }, (record { operands = refl; followed = refl; steady = refl; rests = refl }, (record { operands = refl; followed = refl; steady = refl; rests = refl }, (record { operands = refl; followed = refl; steady = refl; rests = refl }, (record { operands = refl; followed = refl; steady = refl; rests = refl }, (record { operands = refl; followed = refl; steady = refl; rests = refl }, (record { operands = refl; followed = refl; steady = refl; rests = refl }, (record { operands = refl; followed = refl; steady = refl; rests = refl }, (record { operands = refl; followed = refl; steady = refl; rests = refl }, (record { operands = refl; followed = refl; steady = refl; rests = refl }, (record { operands = refl; followed = refl; steady = refl; rests = refl }, (record { operands = refl; followed = refl; steady = refl; rests = refl }, (record { operands = refl; followed = refl; steady = refl; rests = refl }, (record { operands = refl; followed = refl; steady = refl; rests = refl }, (record { operands = refl; followed = refl; steady = refl; rests = refl }, (record { operands = refl; followed = refl; steady = refl; rests = refl }, (record { operands = refl; followed = refl; steady = refl; rests = refl }, (record { operands = refl; followed = refl; steady = refl; rests = refl }, (record { operands = refl; followed = refl; steady = refl; rests = refl }, (record { operands = refl; followed = refl; steady = refl; rests = refl }, (record { operands = refl; followed = refl; steady = refl; rests = refl }, (record { operands = refl; followed = refl; steady = refl; rests = refl }, (record { operands = refl; followed = refl; steady = refl; rests = refl }, (record { operands = refl; followed = refl; steady = refl; rests = refl }, (record { operands = refl; followed = refl; steady = refl; rests = refl }, (record { operands = refl; followed = refl; steady = refl; rests = refl }, (record { operands = refl; followed = refl; steady = refl; rests = refl }, (record { operands = refl; followed = refl; steady = refl; rests = refl }, (record { operands = refl; followed = refl; steady = refl; rests = refl }, (record { operands = refl; followed = refl; steady = refl; rests = refl }, (record { operands = refl; followed = refl; steady = refl; rests = refl }, (record { operands = refl; followed = refl; steady = refl; rests = refl }, (record { operands = refl; followed = refl; steady = refl; rests = refl }, (record { operands = refl; followed = refl; steady = refl; rests = refl }, (record { operands = refl; followed = refl; steady = refl; rests = refl }, (record { operands = refl; followed = refl; steady = refl; rests = refl }, (record { operands = refl; followed = refl; steady = refl; rests = refl }, (record { operands = refl; followed = refl; steady = refl; rests = refl }, (record { operands = refl; followed = refl; steady = refl; rests = refl }, (record { operands = refl; followed = refl; steady = refl; rests = refl }, (record { operands = refl; followed = refl; steady = refl; rests = refl }, (record { operands = refl; followed = refl; steady = refl; rests = refl }, (record { operands = refl; followed = refl; steady = refl; rests = refl }, (record { operands = refl; followed = refl; steady = refl; rests = refl }, (record { operands = refl; followed = refl; steady = refl; rests = refl }, (record { operands = refl; followed = refl; steady = refl; rests = refl }, (record { operands = refl; followed = refl; steady = refl; rests = refl }, (record { operands = refl; followed = refl; steady = refl; rests = refl }, (record { operands = refl; followed = refl; steady = refl; rests = refl }, (record { operands = refl; followed = refl; steady = refl; rests = refl }, (record { operands = refl; followed = refl; steady = refl; rests = refl }, (record { operands = refl; followed = refl; steady = refl; rests = refl }, (record { operands = refl; followed = refl; steady = refl; rests = refl }, (record { operands = refl; followed = refl; steady = refl; rests = refl }, (record { operands = refl; followed = refl; steady = refl; rests = refl }, (record { operands = refl; followed = refl; steady = refl; rests = refl }, (record { operands = refl; followed = refl; steady = refl; rests = refl }, (record { operands = refl; followed = refl; steady = refl; rests = refl }, (record { operands = refl; followed = refl; steady = refl; rests = refl }, (record { operands = refl; followed = refl; steady = refl; rests = refl }, (record { operands = refl; followed = refl; steady = refl; rests = refl }, (record { operands = refl; followed = refl; steady = refl; rests = refl }, (record { operands = refl; followed = refl; steady = refl; rests = refl }, (record { operands = refl; followed = refl; steady = refl; rests = refl }, (record { operands = refl; followed = refl; steady = refl; rests = refl }, (record { operands = refl; followed = refl; steady = refl; rests = refl }, (record { operands = refl; followed = refl; steady = refl; rests = refl }, (record { operands = refl; followed = refl; steady = refl; rests = refl }, (record { operands = refl; followed = refl; steady = refl; rests = refl }, (record { operands = refl; followed = refl; steady = refl; rests = refl }, (record { operands = refl; followed = refl; steady = refl; rests = refl }, (record { operands = refl; followed = refl; steady = refl; rests = refl }, (record { operands = refl; followed = refl; steady = refl; rests = refl }, (record { operands = refl; followed = refl; steady = refl; rests = refl }, (record { operands = refl; followed = refl; steady = refl; rests = refl }, (record { operands = refl; followed = refl; steady = refl; rests = refl }, (record { operands = refl; followed = refl; steady = refl; rests = refl }, (record { operands = refl; followed = refl; steady = refl; rests = refl }, (record { operands = refl; followed = refl; steady = refl; rests = refl }, (record { operands = refl; followed = refl; steady = refl; rests = refl }, (record { operands = refl; followed = refl; steady = refl; rests = refl }, (record { operands = refl; followed = refl; steady = refl; rests = refl }, (record { operands = refl; followed = refl; steady = refl; rests = refl }, (record { operands = refl; followed = refl; steady = refl; rests = refl }, (record { operands = refl; followed = refl; steady = refl; rests = refl }, (record { operands = refl; followed = refl; steady = refl; rests = refl }, (record { operands = refl; followed = refl; steady = refl; rests = refl }, (record { operands = refl; followed = refl; steady = refl; rests = refl }, (record { operands = refl; followed = refl; steady = refl; rests = refl }, (record { operands = refl; followed = refl; steady = refl; rests = refl }, (record { operands = refl; followed = refl; steady = refl; rests = refl }, (record { operands = refl; followed = refl; steady = refl; rests = refl }, (record { operands = refl; followed = refl; steady = refl; rests = refl }, (record { operands = refl; followed = refl; steady = refl; rests = refl }, (record { operands = refl; followed = refl; steady = refl; rests = refl }, (record { operands = refl; followed = refl; steady = refl; rests = refl }, (record { operands = refl; followed = refl; steady = refl; rests = refl }, (record { operands = refl; followed = refl; steady = refl; rests = refl }, (record { operands = refl; followed = refl; steady = refl; rests = refl }, (record { operands = refl; followed = refl; steady = refl; rests = refl }, (record { operands = refl; followed = refl; steady = refl; rests = refl }, (record { operands = refl; followed = refl; steady = refl; rests = refl }, (record { operands = refl; followed = refl; steady = refl; rests = refl }, (record { operands = refl; followed = refl; steady = refl; rests = refl }, (record { operands = refl; followed = refl; steady = refl; rests = refl }, (record { operands = refl; followed = refl; steady = refl; rests = refl }, (record { operands = refl; followed = refl; steady = refl; rests = refl }, (record { operands = refl; followed = refl; steady = refl; rests = refl }, (record { operands = refl; followed = refl; steady = refl; rests = refl }, (record { operands = refl; followed = refl; steady = refl; rests = refl }, (record { operands = refl; followed = refl; steady = refl; rests = refl }, (record { operands = refl; followed = refl; steady = refl; rests = refl }, (record { operands = refl; followed = refl; steady = refl; rests = refl }, (record { operands = refl; followed = refl; steady = refl; rests = refl }, (record { operands = refl; followed = refl; steady = refl; rests = refl }, (record { operands = refl; followed = refl; steady = refl; rests = refl }, (record { operands = refl; followed = refl; steady = refl; rests = refl }, (record { operands = refl; followed = refl; steady = refl; rests = refl }, (record { operands = refl; followed = refl; steady = refl; rests = refl }, (record { operands = refl; followed = refl; steady = refl; rests = refl }, (record { operands = refl; followed = refl; steady = refl; rests = refl }, (record { operands = refl; followed = refl; steady = refl; rests = refl }, (record { operands = refl; followed = refl; steady = refl; rests = refl }, tt))))))))))))))))))))))))))))))))))))))))))))))))))))))))))))))))))))))))))))))))))))))))))))))))))))))))))))))))))))))))))));
  start = refl;
  starts = tt;
  of_main = ((refl, tt), ((refl, tt), ((refl, tt), ((refl, (refl, tt)), ((refl, tt), ((refl, tt), ((refl, tt), ((refl, tt), ((refl, tt), ((refl, tt), ((refl, tt), ((refl, tt), ((refl, tt), ((refl, (refl, tt)), ((refl, tt), ((refl, tt), ((refl, tt), ((refl, tt), ((refl, tt), ((refl, tt), ((refl, tt), ((refl, (refl, tt)), ((refl, tt), ((refl, tt), ((refl, tt), ((refl, tt), ((refl, tt), ((refl, tt), ((refl, tt), ((refl, (refl, tt)), ((refl, tt), ((refl, tt), ((refl, tt), ((refl, tt), ((refl, tt), ((refl, tt), ((refl, tt), ((refl, tt), ((refl, (refl, tt)), ((refl, tt), ((refl, tt), ((refl, tt), ((refl, tt), ((refl, tt), ((refl, tt), ((refl, tt), ((refl, tt), ((refl, tt), ((refl, (refl, tt)), ((refl, tt), ((refl, tt), ((refl, tt), ((refl, tt), ((refl, tt), ((refl, tt), ((refl, tt), ((refl, tt), ((refl, tt), ((refl, tt), ((refl, tt), ((refl, (refl, tt)), ((refl, tt), ((refl, tt), ((refl, tt), ((refl, tt), ((refl, tt), ((refl, tt), ((refl, tt), ((refl, tt), ((refl, tt), ((refl, tt), ((refl, tt), ((refl, tt), ((refl, tt), ((refl, (refl, tt)), ((refl, tt), ((refl, tt), ((refl, tt), ((refl, tt), ((refl, tt), ((refl, tt), ((refl, tt), ((refl, (refl, tt)), ((refl, tt), ((refl, tt), ((refl, tt), ((refl, tt), ((refl, tt), ((refl, tt), ((refl, tt), ((refl, tt), ((refl, tt), ((refl, tt), ((refl, tt), ((refl, tt), ((refl, (refl, tt)), ((refl, tt), ((refl, tt), ((refl, tt), ((refl, tt), ((refl, tt), ((refl, tt), ((refl, tt), ((refl, tt), ((refl, tt), ((refl, tt), ((refl, tt), ((refl, tt), ((refl, tt), ((refl, tt), ((refl, tt), ((refl, tt), ((refl, tt), ((refl, (refl, tt)), ((refl, tt), ((refl, tt), ((refl, tt), ((refl, tt), ((refl, tt), ((refl, tt), ((refl, tt), ((refl, tt), ((refl, tt), (tt, tt))))))))))))))))))))))))))))))))))))))))))))))))))))))))))))))))))))))))))))))))))))))))))))))))))))))))))))))))))))))))))));
  of_subs = tt;
  apart = tt;
  between = tt;
}
