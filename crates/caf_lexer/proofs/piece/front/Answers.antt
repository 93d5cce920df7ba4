use Rattle.std.proofs.Common.{sym, subst, take}
use Rattle.std.specs.Str.{IsAscii}
use Rattle.caf_lexer.proofs.Ascii.{name_is_ascii}
use Rattle.caf_lexer.proofs.piece.front.Goals as goal

pub name-requires : goal.name-requires
name-requires c = subst (λ n. IsAscii (take n c.args.bytes.now)) (sym c.name_length-length.ensures.value) (name_is_ascii c.args.bytes.now)
