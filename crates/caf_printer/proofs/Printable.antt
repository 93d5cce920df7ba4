-- Which tokens can be printed so that they are read again.
use Rattle.std.proofs.Common.{◌≡◌, ℕ, ◌<◌, ◌≤◌, ◌^◌, List, [], ◌∷◌, ◌++◌, map, length, true}
use Rattle.std.specs.Prelude.{ℤ, pos}
use Rattle.std.specs.List.{list_all}
use Rattle.std.specs.Char.{is_ascii_alphabetic}
use Rattle.caf_lexer.specs.declared.token.Token.{Token}
use Rattle.caf_lexer.specs.declared.token.What.{What}
use Rattle.caf_lexer.specs.declared.token.What.TheVariants as what
use Rattle.caf_lexer.specs.declared.piece.Piece.TheVariants as piece
use Rattle.caf_lexer.specs.Spelling.{Bytes, is_name_byte, name_of, can_stand}
use Rattle.caf_tree.specs.Text.{quote_for, doubled}

abbrev pub Said : Type 0
Said = List What

abbrev pub whats : List Token → Said
whats ts = map (λ t. t.what) ts

abbrev pub begins_letter : Bytes → Type 0
begins_letter [] = ⊥
begins_letter (b ∷ z) = is_ascii_alphabetic b ≡ true

-- a name as the lexer gives it: in small letters, short, and no reserved word
pub record IsName (x : Bytes) : Type 0 where
  pub begins : begins_letter x
  pub all : list_all is_name_byte x ≡ true
  pub short : length x ≤ 63
  pub named : name_of x ≡ piece.Token (what.Name x)

pub record IsNumber (n : ℤ) : Type 0 where
  pub count : ℕ
  pub is : n ≡ pos count
  pub fits : count < 2 ^ 63

-- at most 120 bytes between the quotes as it is printed
pub record IsText (content : Bytes) : Type 0 where
  pub all : list_all can_stand content ≡ true
  pub short : length (doubled (quote_for content) content) ≤ 120

-- a token of a line that can be printed so that it is read again
abbrev pub Printable : What → Type 0
Printable (what.Name x) = IsName x
Printable (what.Word w) = Unit {0}
Printable (what.Number n) = IsNumber n
Printable (what.Text content) = IsText content
Printable (what.Sign s) = Unit {0}
Printable what.End = ⊥

-- the same, or the end of a statement
abbrev pub Fine : What → Type 0
Fine (what.Name x) = IsName x
Fine (what.Word w) = Unit {0}
Fine (what.Number n) = IsNumber n
Fine (what.Text content) = IsText content
Fine (what.Sign s) = Unit {0}
Fine what.End = Unit {0}

-- true of each of a list
abbrev pub Each : {A : Type 0} → (A → Type 0) → List A → Type 0
Each G [] = Unit {0}
Each G (x ∷ others) = G x × Each G others

pub each_append : {A : Type 0} (G : A → Type 0) (xs ys : List A) → Each G xs → Each G ys → Each G (xs ++ ys)
each_append G [] ys a b = b
each_append G (x ∷ xs) ys a b = (a.0, each_append G xs ys a.1 b)
