-- Where the ends of statements stand in the list of a text.
use Rattle.std.proofs.Common.{◌≡◌, ℕ, suc, ◌+◌, ◌-◌, Bool, true, false, not, ◌&&◌, nat_lt, List, [], ◌∷◌, ◌++◌, length, Ok, Err, refl, ap, sym, ◌∙◌, subst, arith}
use Rattle.caf_lexer.specs.declared.token.Token.{Token}
use Rattle.caf_lexer.specs.declared.fault.LexFault.{LexFault}
use Rattle.caf_lexer.specs.declared.piece.Piece.{Piece}
use Rattle.caf_lexer.specs.declared.piece.Piece.TheVariants as piece
use Rattle.caf_lexer.specs.Spelling.{Bytes, pieces}
use Rattle.caf_lexer.specs.Lines.{lines}
use Rattle.caf_lexer.specs.Tokens.{Given, Answer, is_end, is_ended, with_token, with_tokens, with_answer, after_token, token_at, rest_of, joined, line_of, lines_of, in_front, followed_by, tokens_of}
use Rattle.caf_lexer.specs.Ends.{ended_after, is_apart}

-- the last of a list that isn't empty
is_ended-cons : (first second : Token) (others : List Token) → is_ended (first ∷ second ∷ others) ≡ is_ended (second ∷ others)
is_ended-cons first second others =
    let outer : length (first ∷ second ∷ others) - 1 ≡ suc (length others) = omega arith in
    let inner : length (second ∷ others) - 1 ≡ length others = omega arith in
    rw (outer, inner) refl

is_ended-is : (tokens : List Token) → is_ended tokens ≡ ended_after true tokens
is_ended-is [] = refl
is_ended-is (token ∷ []) = refl
is_ended-is (token ∷ second ∷ others) = is_ended-cons token second others ∙ is_ended-is (second ∷ others)

ended_after-append : (ended : Bool) (tokens others : List Token) → ended_after ended (tokens ++ others) ≡ ended_after (ended_after ended tokens) others
ended_after-append ended [] others = refl
ended_after-append ended (token ∷ tokens) others = ended_after-append (is_end token.what) tokens others

apart-add : (ended : Bool) (tokens : List Token) (token : Token) → is_apart ended tokens ≡ true → (is_end token.what && ended_after ended tokens) ≡ false → is_apart ended (tokens ++ token ∷ []) ≡ true
apart-add ended [] token apart free = by_end (is_end token.what) ended free
  where
    by_end : (end ended : Bool) → (end && ended) ≡ false → (not (end && ended) && true) ≡ true
    by_end true true e = cc
    by_end true false e = refl
    by_end false ended e = refl
apart-add ended (first ∷ tokens) token apart free = both (not (is_end first.what && ended)) (is_apart (is_end first.what) tokens) _ apart (λ rest. apart-add (is_end first.what) tokens token rest free)
  where
    both : (a b c : Bool) → (a && b) ≡ true → (b ≡ true → c ≡ true) → (a && c) ≡ true
    both true b c e goes = goes e
    both false b c e goes = e

apart-with : (tokens : List Token) (token : Token) → is_apart true tokens ≡ true → is_apart true (with_token tokens token) ≡ true
apart-with tokens token apart = by_both (is_end token.what && is_ended tokens) refl
  where
    by_both : (idle : Bool) → (is_end token.what && is_ended tokens) ≡ idle → is_apart true (with_token tokens token) ≡ true
    by_both true e = rw e apart
    by_both false e = rw e (apart-add true tokens token apart (ap (λ ended. is_end token.what && ended) (sym (is_ended-is tokens)) ∙ e))

apart-all : (others tokens : List Token) → is_apart true tokens ≡ true → is_apart true (with_tokens tokens others) ≡ true
apart-all [] tokens apart = apart
apart-all (token ∷ others) tokens apart = apart-all others (with_token tokens token) (apart-with tokens token apart)

ended-with : (tokens : List Token) (token : Token) → ended_after true (with_token tokens token) ≡ is_end token.what
ended-with tokens token = by_end (is_end token.what) refl (is_ended tokens) refl
  where
    by_end : (end : Bool) → is_end token.what ≡ end → (ended : Bool) → is_ended tokens ≡ ended → ended_after true (with_token tokens token) ≡ is_end token.what
    by_end true e true k = rw (e, k) (sym (is_ended-is tokens) ∙ k)
    by_end true e false k = rw (e, k) (ended_after-append true tokens (token ∷ []) ∙ e)
    by_end false e ended k = rw e (ended_after-append true tokens (token ∷ []) ∙ e)

ended-all : (others tokens : List Token) → ended_after true (with_tokens tokens others) ≡ ended_after (ended_after true tokens) others
ended-all [] tokens = refl
ended-all (token ∷ others) tokens = ended-all others (with_token tokens token) ∙ ap (λ ended. ended_after ended others) (ended-with tokens token)

-- ---- what lines give

-- a list that ends with `End` whatever stands before it
later : (ended : Bool) (tokens : List Token) → ended_after false tokens ≡ true → ended_after ended tokens ≡ true
later ended [] e = cc
later ended (token ∷ tokens) e = e

-- what a line gives ends with `End` where the statement doesn't go on
abbrev pub IsClosed : Given → Type 0
IsClosed (Ok given) = given.1 ≡ false → ended_after false given.0 ≡ true
IsClosed (Err fault) = Unit {0}

after-closed : (token : Token) (given : Given) → IsClosed given → IsClosed (after_token token given)
after-closed token (Ok given) closed = λ e. later (is_end token.what) given.0 (closed e)
after-closed token (Err fault) closed = tt

rest-closed : (n : ℕ) (found : List Piece) → IsClosed (rest_of n found)
rest-closed n [] = λ e. refl
rest-closed n (piece.Token w ∷ others) = after-closed (token_at n w) (rest_of n others) (rest-closed n others)
rest-closed n (piece.Mistake m ∷ others) = tt
rest-closed n (piece.Ampersand ∷ []) = λ e. cc
rest-closed n (piece.Ampersand ∷ second ∷ others) = tt

joined-closed : (goes_on : Bool) (n : ℕ) (found : List Piece) → IsClosed (joined goes_on n found)
joined-closed true n [] = λ e. cc
joined-closed false n [] = λ e. refl
joined-closed goes_on n (piece.Token w ∷ others) = rest-closed n (piece.Token w ∷ others)
joined-closed goes_on n (piece.Mistake m ∷ others) = tt
joined-closed goes_on n (piece.Ampersand ∷ []) = tt
joined-closed true n (piece.Ampersand ∷ second ∷ others) = rest-closed n (second ∷ others)
joined-closed false n (piece.Ampersand ∷ second ∷ others) = tt

line-closed : (goes_on : Bool) (n : ℕ) (line : Bytes) → IsClosed (line_of goes_on n line)
unfolding line_of
line-closed goes_on n line = by_length (nat_lt 132 (length line)) refl
  where
    by_length : (long : Bool) → nat_lt 132 (length line) ≡ long → IsClosed (line_of goes_on n line)
    by_length true k = rw k tt
    by_length false k = rw k (joined-closed goes_on n (pieces line))

-- what lines give ends with `End`, or is nothing where no statement goes on before them
abbrev pub AreClosed : Bool → Answer → Type 0
AreClosed goes_on (Ok tokens) = ended_after (not goes_on) tokens ≡ true
AreClosed goes_on (Err fault) = Unit {0}

behind : (goes_on : Bool) (given : List Token × Bool) → IsClosed (Ok given) → (rest : Answer) → AreClosed given.1 rest → AreClosed goes_on (in_front given.0 rest)
behind goes_on given closed (Err fault) rest_closed = tt
behind goes_on given closed (Ok rest) rest_closed = ended_after-append (not goes_on) given.0 rest ∙ by_on given.1 closed rest_closed
  where
    by_on : (on : Bool) → (on ≡ false → ended_after false given.0 ≡ true) → ended_after (not on) rest ≡ true → ended_after (ended_after (not goes_on) given.0) rest ≡ true
    by_on true closed e = later (ended_after (not goes_on) given.0) rest e
    by_on false closed e = ap (λ ended. ended_after ended rest) (later (not goes_on) given.0 (closed refl)) ∙ e

lines-closed : (text : List Bytes) (goes_on : Bool) (n : ℕ) → AreClosed goes_on (lines_of goes_on n text)
lines-closed [] true n = tt
lines-closed [] false n = refl
lines-closed (line ∷ others) goes_on n = by_line (line_of goes_on n line) (line-closed goes_on n line) (λ on. lines-closed others on (n + 1))
  where
    by_line : (given : Given) → IsClosed given → ((on : Bool) → AreClosed on (lines_of on (n + 1) others)) → AreClosed goes_on (followed_by given (λ on. lines_of on (n + 1) others))
    by_line (Ok given) closed rest = behind goes_on given closed (lines_of given.1 (n + 1) others) (rest given.1)
    by_line (Err fault) closed rest = tt

pub ends-are-placed : (text : Bytes) (tokens : List Token) → tokens_of text ≡ Ok tokens → (is_apart true tokens ≡ true) × (ended_after true tokens ≡ true)
unfolding tokens_of
ends-are-placed text tokens e = by_answer (lines_of false 1 (lines text)) (lines-closed (lines text) false 1) e
  where
    by_answer : (answer : Answer) → AreClosed false answer → with_answer [] answer ≡ Ok tokens → (is_apart true tokens ≡ true) × (ended_after true tokens ≡ true)
    by_answer (Ok given) closed e =
        let same : with_tokens [] given ≡ tokens = same-tokens (with_tokens [] given) tokens e in
        (subst (λ ts. is_apart true ts ≡ true) same (apart-all given [] refl), subst (λ ts. ended_after true ts ≡ true) same (ended-all given [] ∙ closed))
      where
        same-tokens : (xs ys : List Token) → ◌≡◌ {A = Answer} (Ok xs) (Ok ys) → xs ≡ ys
        same-tokens xs ys same = cc
    by_answer (Err fault) closed e = absurd (apart fault tokens e)
      where
        apart : (f : LexFault) (xs : List Token) → ◌≡◌ {A = Answer} (Err f) (Ok xs) → ⊥
        apart f xs same = cc
