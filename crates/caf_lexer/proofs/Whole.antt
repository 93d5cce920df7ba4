-- A text has tokens, or a first fault, and they are those that are computed.
use Rattle.std.proofs.Common.{◌≡◌, ℕ, ◌+◌, Bool, true, false, nat_lt, ◌⊎◌, inl, inr, List, [], ◌∷◌, length, Ok, Err, refl, ap, sym, ◌∙◌, subst}
use Rattle.std.specs.List.{list_all}
use Rattle.std.proofs.lemmas.Bool.{ltb-false, le-ltb}
use Rattle.caf_lexer.specs.declared.token.Token.{Token}
use Rattle.caf_lexer.specs.declared.fault.LexFault.{LexFault}
use Rattle.caf_lexer.specs.declared.fault.LexFault.TheVariants.{LongLine}
use Rattle.caf_lexer.specs.declared.piece.Piece.{Piece}
use Rattle.caf_lexer.specs.declared.piece.Piece.TheVariants as piece
use Rattle.caf_lexer.specs.Spelling.{Bytes, pieces}
use Rattle.caf_lexer.specs.Lines.{lines}
use Rattle.caf_lexer.specs.Tokens.{Given, Answer, rest_of, joined, after_token, line_of, lines_of, in_front, followed_by, with_tokens, tokens_of, token_at}
use Rattle.caf_lexer.specs.Longest.{is_sound}
use Rattle.caf_lexer.specs.HasTokens.{LineGives, LinesGive, LinesFail, HasTokens, HasFault}
use Rattle.caf_lexer.proofs.Longest.{pieces_after-cut, cut-once}

abbrev pub IsGiven : Given → Type 0
IsGiven (Ok given) = Unit {0}
IsGiven (Err fault) = ⊥

after-given : (token : Token) (given : Given) → IsGiven (after_token token given) → IsGiven given
after-given token (Ok given) h = tt
after-given token (Err fault) h = h

rest-sound : (n : ℕ) (found : List Piece) → IsGiven (rest_of n found) → list_all is_sound found ≡ true
rest-sound n [] h = refl
rest-sound n (piece.Token w ∷ others) h = rest-sound n others (after-given (token_at n w) (rest_of n others) h)
rest-sound n (piece.Mistake m ∷ others) h = absurd h
rest-sound n (piece.Ampersand ∷ []) h = refl
rest-sound n (piece.Ampersand ∷ second ∷ others) h = absurd h

joined-sound : (goes_on : Bool) (n : ℕ) (found : List Piece) → IsGiven (joined goes_on n found) → list_all is_sound found ≡ true
joined-sound goes_on n [] h = refl
joined-sound goes_on n (piece.Token w ∷ others) h = rest-sound n (piece.Token w ∷ others) h
joined-sound goes_on n (piece.Mistake m ∷ others) h = absurd h
joined-sound goes_on n (piece.Ampersand ∷ []) h = absurd h
joined-sound true n (piece.Ampersand ∷ second ∷ others) h = rest-sound n (second ∷ others) h
joined-sound false n (piece.Ampersand ∷ second ∷ others) h = absurd h

line-gives : (goes_on : Bool) (n : ℕ) (line : Bytes) (tokens : List Token) (on : Bool) → line_of goes_on n line ≡ Ok (tokens, on) → LineGives goes_on n line tokens on
unfolding line_of
line-gives goes_on n line tokens on e = by_length (nat_lt 132 (length line)) refl
  where
    by_length : (long : Bool) → nat_lt 132 (length line) ≡ long → LineGives goes_on n line tokens on
    by_length true k = absurd (let no : ◌≡◌ {A = Given} (Err (LongLine n)) (Ok (tokens, on)) = rw k at e in cc)
    by_length false k =
        let gives : joined goes_on n (pieces line) ≡ Ok (tokens, on) = rw k at e in
        record {
          short = ltb-false 132 (length line) k;
          found = pieces line;
          cut = pieces_after-cut 0 line (joined-sound goes_on n (pieces line) (subst IsGiven (sym gives) tt));
          gives = gives;
        }

line-given : (goes_on : Bool) (n : ℕ) (line : Bytes) (tokens : List Token) (on : Bool) → LineGives goes_on n line tokens on → line_of goes_on n line ≡ Ok (tokens, on)
unfolding line_of
line-given goes_on n line tokens on given = rw (le-ltb 132 (length line) given.short) (ap (joined goes_on n) (sym (cut-once given.found line given.cut)) ∙ given.gives)

abbrev pub Told : Bool → ℕ → List Bytes → Answer → Type 0
Told goes_on n text (Ok tokens) = LinesGive goes_on n text tokens
Told goes_on n text (Err fault) = LinesFail goes_on n text fault

lines-told : (text : List Bytes) (goes_on : Bool) (n : ℕ) → Told goes_on n text (lines_of goes_on n text)
lines-told [] true n = (refl, refl)
lines-told [] false n = (refl, refl)
lines-told (line ∷ others) goes_on n = by_line (line_of goes_on n line) refl (λ on. lines-told others on (n + 1))
  where
    behind : (first : List Token) (on : Bool) → LineGives goes_on n line first on → (answer : Answer) → Told on (n + 1) others answer → Told goes_on n (line ∷ others) (in_front first answer)
    behind first on gives (Ok rest) told = (first, on, rest, gives, told, refl)
    behind first on gives (Err fault) told = inr (first, on, gives, told)

    by_line : (given : Given) → line_of goes_on n line ≡ given → ((on : Bool) → Told on (n + 1) others (lines_of on (n + 1) others)) → Told goes_on n (line ∷ others) (lines_of goes_on n (line ∷ others))
    by_line (Ok given) e rest = subst (λ first. Told goes_on n (line ∷ others) (followed_by first (λ on. lines_of on (n + 1) others))) (sym e) (behind given.0 given.1 (line-gives goes_on n line given.0 given.1 e) (lines_of given.1 (n + 1) others) (rest given.1))
    by_line (Err fault) e rest = subst (λ first. Told goes_on n (line ∷ others) (followed_by first (λ on. lines_of on (n + 1) others))) (sym e) (inl e)

lines-given : (text : List Bytes) (goes_on : Bool) (n : ℕ) (tokens : List Token) → LinesGive goes_on n text tokens → lines_of goes_on n text ≡ Ok tokens
lines-given [] goes_on n tokens (ended, none) = rw (ended, none) refl
lines-given (line ∷ others) goes_on n tokens given =
    ap (λ first. followed_by first (λ on. lines_of on (n + 1) others)) (line-given goes_on n line given.0 given.1 given.3)
    ∙ ap (in_front given.0) (lines-given others given.1 (n + 1) given.2 given.4)
    ∙ ap Ok (sym given.5)

lines-failed : (text : List Bytes) (goes_on : Bool) (n : ℕ) (fault : LexFault) → LinesFail goes_on n text fault → lines_of goes_on n text ≡ Err fault
lines-failed [] goes_on n fault (open_end, is) = rw (open_end, is) refl
lines-failed (line ∷ others) goes_on n fault (inl here) = ap (λ first. followed_by first (λ on. lines_of on (n + 1) others)) here
lines-failed (line ∷ others) goes_on n fault (inr later) =
    ap (λ first. followed_by first (λ on. lines_of on (n + 1) others)) (line-given goes_on n line later.0 later.1 later.2)
    ∙ ap (in_front later.0) (lines-failed others later.1 (n + 1) fault later.3)

pub one-or-other : (text : Bytes) → ((tokens : List Token) × HasTokens text tokens) ⊎ ((fault : LexFault) × HasFault text fault)
one-or-other text = by_answer (lines_of false 1 (lines text)) (lines-told (lines text) false 1)
  where
    by_answer : (answer : Answer) → Told false 1 (lines text) answer → ((tokens : List Token) × HasTokens text tokens) ⊎ ((fault : LexFault) × HasFault text fault)
    by_answer (Ok given) told = inl (with_tokens [] given, (given, told, refl))
    by_answer (Err fault) told = inr (fault, told)

pub has-tokens : (text : Bytes) (tokens : List Token) → HasTokens text tokens → tokens_of text ≡ Ok tokens
unfolding tokens_of
has-tokens text tokens has = rw (lines-given (lines text) false 1 has.0 has.1) (ap Ok (sym has.2))

pub has-fault : (text : Bytes) (fault : LexFault) → HasFault text fault → tokens_of text ≡ Err fault
unfolding tokens_of
has-fault text fault has = rw (lines-failed (lines text) false 1 fault has) refl

pub tokens-had : (text : Bytes) (tokens : List Token) → tokens_of text ≡ Ok tokens → HasTokens text tokens
tokens-had text tokens e = elim (one-or-other text) [ inl has ↦ subst (HasTokens text) (same-tokens _ _ (sym (has-tokens text has.0 has.1) ∙ e)) has.1 | inr has ↦ absurd (apart _ _ (sym (has-fault text has.0 has.1) ∙ e)) ]
  where
    same-tokens : (xs ys : List Token) → ◌≡◌ {A = Answer} (Ok xs) (Ok ys) → xs ≡ ys
    same-tokens xs ys same = cc

    apart : (fault : LexFault) (xs : List Token) → ◌≡◌ {A = Answer} (Err fault) (Ok xs) → ⊥
    apart fault xs same = cc

pub fault-had : (text : Bytes) (fault : LexFault) → tokens_of text ≡ Err fault → HasFault text fault
fault-had text fault e = elim (one-or-other text) [ inl has ↦ absurd (apart _ _ (sym e ∙ has-tokens text has.0 has.1)) | inr has ↦ subst (HasFault text) (same-fault _ _ (sym (has-fault text has.0 has.1) ∙ e)) has.1 ]
  where
    same-fault : (f g : LexFault) → ◌≡◌ {A = Answer} (Err f) (Err g) → f ≡ g
    same-fault f g same = cc

    apart : (f : LexFault) (xs : List Token) → ◌≡◌ {A = Answer} (Err f) (Ok xs) → ⊥
    apart f xs same = cc
