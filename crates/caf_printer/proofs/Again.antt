-- The print of a unit is read as the same unit, up to the lines.
use Rattle.std.proofs.Common.{◌≡◌, List, ◌++◌, [], Ok, refl, ap, sym, ◌∙◌, subst}
use Rattle.std.specs.List.{flat_map}
use Rattle.std.proofs.lemmas.List.{append-nil}
use Rattle.caf_lexer.specs.declared.token.Token.{Token}
use Rattle.caf_lexer.specs.Tokens.{Answer, tokens_of}
use Rattle.caf_tree.specs.declared.unit.Unit.{Unit as Program}
use Rattle.caf_tree.specs.Units.{UnitForm}
use Rattle.caf_tree.specs.Said.{SaidLine, unit_said}
use Rattle.caf_tree.specs.Text.{line_text, unit_text}
use Rattle.caf_printer.specs.Readable.{IsReadable, ReadsAs}
use Rattle.caf_printer.proofs.Printable.{whats, Fine, Each}
use Rattle.caf_printer.proofs.Rows.{IsLine, ended_row, IsRead, rows_read}
use Rattle.caf_printer.proofs.Found.{tokens_fine}
use Rattle.caf_printer.proofs.Shows.{row_tokens}
use Rattle.caf_printer.proofs.Programs.{shows_unit}
use Rattle.caf_printer.proofs.Bare.{same_lines}

same_text : (u v : Program) → unit_said u ≡ unit_said v → unit_text u ≡ unit_text v
same_text u v e = ap (λ (ls : List SaidLine). flat_map line_text ls) e

pub read_again : (u : Program) → IsReadable u → ReadsAs (unit_text u) u
read_again u h =
    let r = h.1 in
    let other = r.spells.0 in
    let n = r.spells.2.0 in
    let m : UnitForm n other r.tokens [] = r.spells.2.1 in
    let fine : Each Fine (whats r.tokens) = tokens_fine h.0 r.tokens r.is in
    let good : Each IsLine (unit_said other) = ((shows_unit n).fine other r.tokens [] m fine).0 in
    let printed : IsRead (flat_map line_text (unit_said other)) (flat_map ended_row (unit_said other)) = rows_read (unit_said other) good in
    let one = (shows_unit n).again other r.tokens [] m printed.tokens [] printed.says in
    record {
      tokens = printed.tokens;
      is = ap tokens_of (sym (same_text other u (same_lines other u r.spells.1))) ∙ printed.is;
      spells = (one.0, one.1 ∙ r.spells.1, (n, subst (λ (ts : List Token). UnitForm n one.0 ts []) (append-nil printed.tokens) one.2));
    }
