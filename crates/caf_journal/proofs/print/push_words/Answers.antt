use Rattle.std.proofs.Common.{◌∷◌, ◌++◌, List, ℕ, sym, ap, ◌∙◌, append_assoc}
use Rattle.std.specs.Prelude.{codes}
use Rattle.std.specs.Fmt.{decimal}
use Rattle.std.specs.List.{join_with_byte}
use Rattle.std.proofs.lemmas.Result.{on_ok_weaker}
use Rattle.caf_journal.specs.Trace.{count_words, line_of}
use Rattle.caf_journal.proofs.print.push_words.Goals as goal

pub returns-in_ok-push_start-in-Contribute : goal.returns-in_ok-push_start-in-Contribute
returns-in_ok-push_start-in-Contribute c =
    on_ok_weaker c.push_four.result
    (λ pushed. pushed
    ∙ ap (λ (x : List ℕ). x ++ 32 ∷ join_with_byte 32 (count_words c.in-Contribute.four)) c.in_ok-push_start-in-Contribute.ensures
    ∙ append_assoc c.args.text.now.items (codes "contribute" ++ 32 ∷ decimal c.in-Contribute.image) (32 ∷ join_with_byte 32 (count_words c.in-Contribute.four))
    ∙ ap (λ e. c.args.text.now.items ++ line_of e) (sym c.in-Contribute.is))
    c.push_four.ensures
