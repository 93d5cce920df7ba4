-- The codes of three small programs keep the rules.
use Rattle.std.proofs.Common.{◌≡◌, ℕ, List, refl, sym, subst}
use Rattle.caf_base.specs.declared.object.Object.{Object}
use Rattle.caf_codetrials.specs.Examples.{sums_code, sums_main, sums_subs, loops_code, loops_main, loops_subs, calls_code, calls_main, calls_subs}
use Rattle.caf_code.specs.Rules.{KeepsRules}
use Rattle.caf_code.specs.declared.instr.Instr.{Instr}
use Rattle.caf_code.specs.declared.listing.Listing.{Listing}
use Rattle.caf_code.specs.declared.listing.SubCode.{SubCode}
use Rattle.caf_code.specs.Tables.{KeepsByTables}

-- a listing with equal parts
pub kept_as : (code : Listing) → KeepsRules code → (objects : List Object) (subs : List SubCode) (texts : List (List ℕ)) (instrs : List Instr)
    → objects ≡ code.objects → subs ≡ code.subs → texts ≡ code.texts → instrs ≡ code.instrs
    → KeepsRules (record { objects = objects; subs = subs; texts = texts; instrs = instrs })
kept_as code keeps objects subs texts instrs same_objects same_subs same_texts same_instrs =
    subst (λ x. KeepsRules (record { objects = x; subs = subs; texts = texts; instrs = instrs })) (sym same_objects)
    (subst (λ x. KeepsRules (record { objects = code.objects; subs = x; texts = texts; instrs = instrs })) (sym same_subs)
    (subst (λ x. KeepsRules (record { objects = code.objects; subs = code.subs; texts = x; instrs = instrs })) (sym same_texts)
    (subst (λ x. KeepsRules (record { objects = code.objects; subs = code.subs; texts = code.texts; instrs = x })) (sym same_instrs) keeps)))

pub sums_kept : KeepsByTables sums_code sums_main sums_subs
sums_kept = record {
  objects = refl;
  instrs = (record { operands = refl; followed = refl; steady = refl; rests = refl }, (record { operands = refl; followed = refl; steady = refl; rests = refl }, (record { operands = refl; followed = refl; steady = refl; rests = refl }, (record { operands = refl; followed = refl; steady = refl; rests = refl }, (record { operands = refl; followed = refl; steady = refl; rests = refl }, (record { operands = refl; followed = refl; steady = refl; rests = refl }, (record { operands = refl; followed = refl; steady = refl; rests = refl }, (record { operands = refl; followed = refl; steady = refl; rests = refl }, (record { operands = refl; followed = refl; steady = refl; rests = refl }, (record { operands = refl; followed = refl; steady = refl; rests = refl }, (record { operands = refl; followed = refl; steady = refl; rests = refl }, (record { operands = refl; followed = refl; steady = refl; rests = refl }, (record { operands = refl; followed = refl; steady = refl; rests = refl }, (record { operands = refl; followed = refl; steady = refl; rests = refl }, (record { operands = refl; followed = refl; steady = refl; rests = refl }, (record { operands = refl; followed = refl; steady = refl; rests = refl }, (record { operands = refl; followed = refl; steady = refl; rests = refl }, (record { operands = refl; followed = refl; steady = refl; rests = refl }, tt))))))))))))))))));
  start = refl;
  starts = tt;
  of_main = ((refl, tt), ((refl, tt), ((refl, tt), ((refl, tt), ((refl, tt), ((refl, tt), ((refl, tt), ((refl, tt), ((refl, tt), ((refl, tt), ((refl, tt), ((refl, tt), ((refl, tt), ((refl, tt), ((refl, tt), ((refl, tt), ((refl, tt), (tt, tt))))))))))))))))));
  of_subs = tt;
  apart = tt;
  between = tt;
}

pub loops_kept : KeepsByTables loops_code loops_main loops_subs
loops_kept = record {
  objects = refl;
  instrs = (record { operands = refl; followed = refl; steady = refl; rests = refl }, (record { operands = refl; followed = refl; steady = refl; rests = refl }, (record { operands = refl; followed = refl; steady = refl; rests = refl }, (record { operands = refl; followed = refl; steady = refl; rests = refl }, (record { operands = refl; followed = refl; steady = refl; rests = refl }, (record { operands = refl; followed = refl; steady = refl; rests = refl }, (record { operands = refl; followed = refl; steady = refl; rests = refl }, (record { operands = refl; followed = refl; steady = refl; rests = refl }, (record { operands = refl; followed = refl; steady = refl; rests = refl }, (record { operands = refl; followed = refl; steady = refl; rests = refl }, (record { operands = refl; followed = refl; steady = refl; rests = refl }, (record { operands = refl; followed = refl; steady = refl; rests = refl }, (record { operands = refl; followed = refl; steady = refl; rests = refl }, (record { operands = refl; followed = refl; steady = refl; rests = refl }, (record { operands = refl; followed = refl; steady = refl; rests = refl }, (record { operands = refl; followed = refl; steady = refl; rests = refl }, (record { operands = refl; followed = refl; steady = refl; rests = refl }, (record { operands = refl; followed = refl; steady = refl; rests = refl }, (record { operands = refl; followed = refl; steady = refl; rests = refl }, (record { operands = refl; followed = refl; steady = refl; rests = refl }, (record { operands = refl; followed = refl; steady = refl; rests = refl }, (record { operands = refl; followed = refl; steady = refl; rests = refl }, (record { operands = refl; followed = refl; steady = refl; rests = refl }, (record { operands = refl; followed = refl; steady = refl; rests = refl }, (record { operands = refl; followed = refl; steady = refl; rests = refl }, (record { operands = refl; followed = refl; steady = refl; rests = refl }, (record { operands = refl; followed = refl; steady = refl; rests = refl }, (record { operands = refl; followed = refl; steady = refl; rests = refl }, (record { operands = refl; followed = refl; steady = refl; rests = refl }, (record { operands = refl; followed = refl; steady = refl; rests = refl }, (record { operands = refl; followed = refl; steady = refl; rests = refl }, (record { operands = refl; followed = refl; steady = refl; rests = refl }, tt))))))))))))))))))))))))))))))));
  start = refl;
  starts = tt;
  of_main = ((refl, tt), ((refl, tt), ((refl, tt), ((refl, tt), ((refl, tt), ((refl, (refl, tt)), ((refl, tt), ((refl, tt), ((refl, tt), ((refl, tt), ((refl, tt), ((refl, tt), ((refl, (refl, tt)), ((refl, tt), ((refl, tt), ((refl, tt), ((refl, tt), ((refl, tt), ((refl, tt), ((refl, tt), ((refl, tt), ((refl, (refl, tt)), ((refl, tt), ((refl, tt), ((refl, tt), ((refl, tt), ((refl, (refl, tt)), ((refl, tt), ((refl, tt), ((refl, tt), ((refl, tt), (tt, tt))))))))))))))))))))))))))))))));
  of_subs = tt;
  apart = tt;
  between = tt;
}

pub calls_kept : KeepsByTables calls_code calls_main calls_subs
calls_kept = record {
  objects = refl;
  instrs = (record { operands = refl; followed = refl; steady = refl; rests = refl }, (record { operands = refl; followed = refl; steady = refl; rests = refl }, (record { operands = refl; followed = refl; steady = refl; rests = refl }, (record { operands = refl; followed = refl; steady = refl; rests = refl }, (record { operands = refl; followed = refl; steady = refl; rests = refl }, (record { operands = refl; followed = refl; steady = refl; rests = refl }, (record { operands = refl; followed = refl; steady = refl; rests = refl }, (record { operands = refl; followed = refl; steady = refl; rests = refl }, (record { operands = refl; followed = refl; steady = refl; rests = refl }, (record { operands = refl; followed = refl; steady = refl; rests = refl }, (record { operands = refl; followed = refl; steady = refl; rests = refl }, (record { operands = refl; followed = refl; steady = refl; rests = refl }, tt))))))))))));
  start = refl;
  starts = (refl, tt);
  of_main = ((refl, tt), ((refl, tt), ((refl, tt), (tt, tt))));
  of_subs = (((refl, tt), ((refl, tt), ((refl, tt), ((refl, tt), ((refl, tt), ((refl, tt), ((refl, tt), (tt, tt)))))))), tt);
  apart = (tt, tt);
  between = (((refl, (refl, (refl, (refl, (refl, (refl, (refl, (refl, tt)))))))), tt), tt);
}
