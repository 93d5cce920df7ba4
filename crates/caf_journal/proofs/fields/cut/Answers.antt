use Rattle.std.proofs.Common.{sym, ◌∙◌, refl}
use Rattle.caf_journal.proofs.Cutting.{cut-from_none, cut-from_some}
use Rattle.caf_journal.proofs.fields.cut.Goals as goal

pub returns-in_err-end : goal.returns-in_err-end
returns-in_err-end c =
    let none = cut-from_none c.args.mark c.args.text.now (sym c.place_of.ensures ∙ c.in_err-end.was) in
    rw (c.from_residual.ensures, none) refl

pub returns : goal.returns
returns c = sym (cut-from_some c.args.mark c.args.text.now c.in_ok-end.end (sym c.place_of.ensures ∙ c.in_ok-end.was))
