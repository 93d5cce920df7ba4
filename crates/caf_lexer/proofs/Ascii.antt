-- The bytes of a name are ASCII.
use Rattle.std.proofs.Common.{◌≡◌, ℕ, suc, ◌+◌, ◌<◌, Bool, true, false, [], ◌∷◌, take, refl, arith}
use Rattle.std.specs.List.{prefix_len}
use Rattle.std.specs.Str.{IsAscii}
use Rattle.std.proofs.lemmas.Str.Ascii.{IsAscii-nil, IsAscii-cons}
use Rattle.std.proofs.lemmas.Bool.Decides.{nat_tests}
use Rattle.caf_lexer.specs.Spelling.{Bytes, is_name_byte}

name_byte_is_ascii : (b : ℕ) → is_name_byte b ≡ true → b < 128
name_byte_is_ascii b is = grind (arith, nat_tests)

pub name_is_ascii : (z : Bytes) → IsAscii (take (prefix_len is_name_byte z) z)
name_is_ascii [] = IsAscii-nil
name_is_ascii (b ∷ z) = by_first (is_name_byte b) refl (name_is_ascii z)
  where
    by_first : (is : Bool) → is_name_byte b ≡ is → IsAscii (take (prefix_len is_name_byte z) z) → IsAscii (take (prefix_len is_name_byte (b ∷ z)) (b ∷ z))
    by_first true e others = let one : 1 + prefix_len is_name_byte z ≡ suc (prefix_len is_name_byte z) = omega arith in rw (e, one) (IsAscii-cons b _ (name_byte_is_ascii b e) others)
    by_first false e others = rw e IsAscii-nil
