-- What the parts of a line mean.
use Rattle.std.specs.List.{flat_map}
use Rattle.caf_lexer.specs.declared.token.What.{What}
use Rattle.caf_lexer.specs.declared.token.What.TheVariants as what
use Rattle.caf_tree.specs.declared.unit.Sub.{Sub as Subroutine}
use Rattle.caf_tree.specs.Said.{sub_said}
use Rattle.caf_tree.specs.Text.{Bytes, line_text}
use Rattle.caf_printer.specs.declared.piece.Piece.{Piece}
use Rattle.caf_printer.specs.declared.piece.Piece.TheVariants as piece

-- the token of a part
abbrev pub token_of : Piece → What
token_of (piece.Name x) = what.Name x.now
token_of (piece.Word w) = what.Word w
token_of (piece.Number n) = what.Number n
token_of (piece.Text content) = what.Text content.now
token_of (piece.Sign s) = what.Sign s

-- the text of a subroutine
unfoldable pub sub_text : Subroutine → Bytes
sub_text f = flat_map line_text (sub_said f)
