-- The lines that are printed are read as their tokens.
use Rattle.std.proofs.Common.{◌≡◌, ℕ, zero, suc, ◌+◌, ◌-◌, ◌<◌, ◌≤◌, Bool, true, false, not, ◌&&◌, ◌==◌, nat_lt, List, [], ◌∷◌, ◌++◌, length, map, fold, Option, Some, None, Ok, Err, refl, ap, sym, ◌∙◌, subst, append_assoc, arith}
use Rattle.std.specs.Prelude.{slice_index, slice_get, replicate}
use Rattle.std.specs.List.{list_all, flat_map}
use Rattle.std.proofs.lemmas.List.{append-nil}
use Rattle.std.proofs.lemmas.Bool.Decides.{nat_tests}
use Rattle.caf_lexer.specs.declared.token.Token.{Token}
use Rattle.caf_lexer.specs.declared.token.What.{What}
use Rattle.caf_lexer.specs.declared.token.What.TheVariants as what
use Rattle.caf_lexer.specs.declared.piece.Piece.{Piece}
use Rattle.caf_lexer.specs.declared.piece.Piece.TheVariants as piece
use Rattle.caf_lexer.specs.Spelling.{Bytes, front, pieces}
use Rattle.caf_lexer.specs.Lines.{lines, onto_first}
use Rattle.caf_lexer.specs.Tokens.{Given, Answer, token_at, rest_of, joined, line_of, lines_of, in_front, followed_by, is_end, is_ended, is_end_if_any, with_token, with_tokens, with_answer, tokens_of}
use Rattle.caf_tree.specs.Said.{SaidLine}
use Rattle.caf_tree.specs.Text.{token_text, after_column, tokens_text, line_text}
use Rattle.caf_printer.proofs.Printable.{Said, whats, Printable, IsName, Each}
use Rattle.caf_printer.proofs.Lexed.{Ends, is_inner, Spelled, spelled, spelled_name, spelled_word, token_pieces, blank_pieces, and_left, and_right, all_append, length_append}

-- what a line may begin with
abbrev pub IsStart : What → Type 0
IsStart (what.Name x) = IsName x
IsStart (what.Word w) = Unit {0}
IsStart (what.Number n) = ⊥
IsStart (what.Text content) = ⊥
IsStart (what.Sign s) = ⊥
IsStart what.End = ⊥

abbrev pub IsRow : Said → Type 0
IsRow [] = ⊥
IsRow (w ∷ ws) = IsStart w × Each Printable ws

-- a line that can be printed so that it is read again
abbrev pub IsLine : SaidLine → Type 0
IsLine l = (l.0 ≤ 40) × IsRow l.1

abbrev pub ended_row : SaidLine → Said
ended_row l = l.1 ++ what.End ∷ []

-- ---- the lines of a text

and_false : (a : Bool) → (a && false) ≡ false
and_false true = refl
and_false false = refl

lines_cut : (x rest : Bytes) → list_all is_inner x ≡ true → lines (x ++ 10 ∷ rest) ≡ x ∷ lines rest
lines_cut [] rest all = refl
lines_cut (b ∷ x) rest all =
    let inner : is_inner b ≡ true = and_left (is_inner b) _ all in
    let ten : (b == 10) ≡ false = not_ten (b == 10) (b == 13) inner in
    let thirteen : (b == 13) ≡ false = not_thirteen (b == 10) (b == 13) inner in
    rw (ten, thirteen, and_false (slice_index (x ++ 10 ∷ rest) 0 == 10)) (ap (onto_first b) (lines_cut x rest (and_right (is_inner b) _ all)))
  where
    not_ten : (a b : Bool) → (not a && not b) ≡ true → a ≡ false
    not_ten true b e = sym e
    not_ten false b e = refl

    not_thirteen : (a b : Bool) → (not a && not b) ≡ true → b ≡ false
    not_thirteen true b e = absurd (let z : ◌≡◌ {A = Bool} false true = e in cc)
    not_thirteen false true e = sym e
    not_thirteen false false e = refl

-- ---- what a line gives

abbrev tokens_at : ℕ → Said → List Token
tokens_at n ws = map (token_at n) ws

abbrev pieces_of : Said → List Piece
pieces_of ws = map (λ w. piece.Token w) ws

says_at : (n : ℕ) (ws : Said) (ts : List Token) → whats (tokens_at n ws ++ ts) ≡ ws ++ whats ts
says_at n [] ts = refl
says_at n (w ∷ ws) ts = ap (λ us. w ∷ us) (says_at n ws ts)

pieces_append : (ws vs : Said) → pieces_of (ws ++ vs) ≡ pieces_of ws ++ pieces_of vs
pieces_append [] vs = refl
pieces_append (w ∷ ws) vs = ap (λ us. piece.Token w ∷ us) (pieces_append ws vs)

rest_ends : (n : ℕ) (ws : Said) → rest_of n (pieces_of ws) ≡ Ok (tokens_at n ws ++ token_at n what.End ∷ [], false)
rest_ends n [] = refl
rest_ends n (w ∷ ws) = rw (rest_ends n ws) refl

rest_on : (n : ℕ) (ws : Said) → rest_of n (pieces_of ws ++ piece.Ampersand ∷ []) ≡ Ok (tokens_at n ws, true)
rest_on n [] = refl
rest_on n (w ∷ ws) = rw (rest_on n ws) refl

no_longer : (a b : ℕ) → a ≤ b → nat_lt b a ≡ false
no_longer a b e = grind (arith, nat_tests)

line_ends : (on : Bool) (n : ℕ) (x : Bytes) (w : What) (ws : Said) → length x ≤ 132 → pieces x ≡ pieces_of (w ∷ ws) → line_of on n x ≡ Ok (tokens_at n (w ∷ ws) ++ token_at n what.End ∷ [], false)
unfolding line_of
line_ends on n x w ws short e = let k : nat_lt 132 (length x) ≡ false = no_longer (length x) 132 short in rw (k, e) (rest_ends n (w ∷ ws))

line_on : (on : Bool) (n : ℕ) (x : Bytes) (w : What) (ws : Said) → length x ≤ 132 → pieces x ≡ pieces_of (w ∷ ws) ++ piece.Ampersand ∷ [] → line_of on n x ≡ Ok (tokens_at n (w ∷ ws), true)
unfolding line_of
line_on on n x w ws short e = let k : nat_lt 132 (length x) ≡ false = no_longer (length x) 132 short in rw (k, e) (rest_on n (w ∷ ws))

-- ---- lines one after another

-- These lines give tokens that say this, and then what the others give.
pub record Gives (on : Bool) (n : ℕ) (text : List Bytes) (said : Said) (others : List Bytes) : Type 0 where
  pub tokens : List Token
  pub next : ℕ
  pub says : whats tokens ≡ said
  pub is : lines_of on n text ≡ in_front tokens (lines_of false next others)

front_append : (xs ys : List Token) (answer : Answer) → in_front xs (in_front ys answer) ≡ in_front (xs ++ ys) answer
front_append xs ys (Ok others) = ap (λ us. Ok us) (sym (append_assoc xs ys others))
front_append xs ys (Err fault) = refl

last_line : (on : Bool) (n : ℕ) (x : Bytes) (w : What) (ws : Said) (rest : Bytes) → length x ≤ 132 → list_all is_inner x ≡ true → pieces x ≡ pieces_of (w ∷ ws)
    → Gives on n (lines (x ++ 10 ∷ rest)) ((w ∷ ws) ++ what.End ∷ []) (lines rest)
last_line on n x w ws rest short inner e = record {
  tokens = tokens_at n (w ∷ ws) ++ token_at n what.End ∷ [];
  next = n + 1;
  says = says_at n (w ∷ ws) (token_at n what.End ∷ []);
  is = rw (lines_cut x rest inner, line_ends on n x w ws short e) refl;
}

broken_line : (on : Bool) (n : ℕ) (x : Bytes) (w : What) (ws : Said) (text : Bytes) (said : Said) (others : List Bytes) → length x ≤ 132 → list_all is_inner x ≡ true → pieces x ≡ pieces_of (w ∷ ws) ++ piece.Ampersand ∷ []
    → Gives true (n + 1) (lines text) said others → Gives on n (lines (x ++ 10 ∷ text)) ((w ∷ ws) ++ said) others
broken_line on n x w ws text said others short inner e g = record {
  tokens = tokens_at n (w ∷ ws) ++ g.tokens;
  next = g.next;
  says = says_at n (w ∷ ws) g.tokens ∙ ap (λ us. (w ∷ ws) ++ us) g.says;
  is = rw (lines_cut x text inner, line_on on n x w ws short e) (ap (in_front (tokens_at n (w ∷ ws))) g.is ∙ front_append (tokens_at n (w ∷ ws)) g.tokens (lines_of false g.next others));
}

ampersand : pieces (32 ∷ 38 ∷ []) ≡ piece.Ampersand ∷ []
unfolding front
ampersand = refl

-- these bytes are pieces of these tokens, whatever line end or blank follows
abbrev Reads : Bytes → Said → Type 0
Reads x ws = (r : Bytes) → Ends r → pieces (x ++ r) ≡ pieces_of ws ++ pieces r

read_more : (x : Bytes) (w : What) (ws : Said) (v : What) (t : Bytes) → Reads x (w ∷ ws) → Spelled v 122 t → Reads (x ++ 32 ∷ t) (w ∷ (ws ++ v ∷ []))
read_more x w ws v t h s r e =
    ap pieces (append_assoc x (32 ∷ t) r)
    ∙ h (32 ∷ (t ++ r)) refl
    ∙ ap (λ us. pieces_of (w ∷ ws) ++ us) (token_pieces v 122 t r s e)
    ∙ sym (append_assoc (pieces_of (w ∷ ws)) (piece.Token v ∷ []) (pieces r))
    ∙ ap (λ us. (piece.Token w ∷ us) ++ pieces r) (sym (pieces_append ws (v ∷ [])))

read_one : (v : What) (t : Bytes) → Spelled v 122 t → Reads t (v ∷ [])
read_one v t s r e = token_pieces v 122 t r s e

line_goes : (others : Said) → Each Printable others → (x : Bytes) (w : What) (ws : Said) (column : ℕ) (on : Bool) (n : ℕ) (rest : Bytes)
    → length x ≡ column → column ≤ 130 → list_all is_inner x ≡ true → Reads x (w ∷ ws)
    → Gives on n (lines (x ++ (after_column column (map token_text others) ++ 10 ∷ rest))) ((w ∷ ws) ++ (others ++ what.End ∷ [])) (lines rest)
line_goes [] all x w ws column on n rest size short inner h =
    last_line on n x w ws rest (omega arith) inner (ap pieces (sym (append-nil x)) ∙ h [] tt ∙ append-nil (pieces_of (w ∷ ws)))
line_goes (v ∷ others) all x w ws column on n rest size short inner h = by_fit (nat_lt 130 (column + 1 + length (token_text v))) refl (line_goes others all.1)
  where
    s : Spelled v 122 (token_text v)
    s = spelled v all.0

    after : ℕ → Bytes
    after c = after_column c (map token_text others) ++ 10 ∷ rest

    Goes : Type 0
    Goes = (x : Bytes) (w : What) (ws : Said) (column : ℕ) (on : Bool) (n : ℕ) (rest : Bytes)
        → length x ≡ column → column ≤ 130 → list_all is_inner x ≡ true → Reads x (w ∷ ws)
        → Gives on n (lines (x ++ (after_column column (map token_text others) ++ 10 ∷ rest))) ((w ∷ ws) ++ (others ++ what.End ∷ [])) (lines rest)

    broken : Goes → Gives on n (lines (x ++ ((32 ∷ 38 ∷ 10 ∷ (token_text v ++ after_column (length (token_text v)) (map token_text others))) ++ 10 ∷ rest))) ((w ∷ ws) ++ ((v ∷ others) ++ what.End ∷ [])) (lines rest)
    broken ih =
        let k : length (token_text v) ≤ 122 = s.short in
        let g = ih (token_text v) v [] (length (token_text v)) true (n + 1) rest refl (omega arith) s.inner (read_one v (token_text v) s) in
        let size_more : length (x ++ 32 ∷ 38 ∷ []) ≡ length x + 2 = length_append x (32 ∷ 38 ∷ []) in
        let read : pieces (x ++ 32 ∷ 38 ∷ []) ≡ pieces_of (w ∷ ws) ++ piece.Ampersand ∷ [] = h (32 ∷ 38 ∷ []) refl ∙ ap (λ us. pieces_of (w ∷ ws) ++ us) ampersand in
        let b = broken_line on n (x ++ 32 ∷ 38 ∷ []) w ws (token_text v ++ after (length (token_text v))) ((v ∷ []) ++ (others ++ what.End ∷ [])) (lines rest)
        (omega arith) (all_append is_inner x (32 ∷ 38 ∷ []) inner refl) read g in
        subst (λ z. Gives on n (lines z) ((w ∷ ws) ++ ((v ∷ others) ++ what.End ∷ [])) (lines rest))
        (append_assoc x (32 ∷ 38 ∷ []) (10 ∷ (token_text v ++ after (length (token_text v))))
        ∙ ap (λ z. x ++ 32 ∷ 38 ∷ 10 ∷ z) (sym (append_assoc (token_text v) (after_column (length (token_text v)) (map token_text others)) (10 ∷ rest)))) b

    going : Goes → column + 1 + length (token_text v) ≤ 130 → Gives on n (lines (x ++ ((32 ∷ (token_text v ++ after_column (column + 1 + length (token_text v)) (map token_text others))) ++ 10 ∷ rest))) ((w ∷ ws) ++ ((v ∷ others) ++ what.End ∷ [])) (lines rest)
    going ih fits =
        let c = column + 1 + length (token_text v) in
        let size_more : length (x ++ 32 ∷ token_text v) ≡ length x + suc (length (token_text v)) = length_append x (32 ∷ token_text v) in
        let g = ih (x ++ 32 ∷ token_text v) w (ws ++ v ∷ []) c on n rest (omega arith) fits (all_append is_inner x (32 ∷ token_text v) inner s.inner) (read_more x w ws v (token_text v) h s) in
        let said : (w ∷ (ws ++ v ∷ [])) ++ (others ++ what.End ∷ []) ≡ (w ∷ ws) ++ ((v ∷ others) ++ what.End ∷ []) = ap (λ us. w ∷ us) (append_assoc ws (v ∷ []) (others ++ what.End ∷ [])) in
        let same : (x ++ 32 ∷ token_text v) ++ after c ≡ x ++ ((32 ∷ (token_text v ++ after_column c (map token_text others))) ++ 10 ∷ rest)
        = append_assoc x (32 ∷ token_text v) (after c) ∙ ap (λ z. x ++ 32 ∷ z) (sym (append_assoc (token_text v) (after_column c (map token_text others)) (10 ∷ rest))) in
        subst (λ z. Gives on n (lines z) ((w ∷ ws) ++ ((v ∷ others) ++ what.End ∷ [])) (lines rest)) same
        (subst (λ us. Gives on n (lines ((x ++ 32 ∷ token_text v) ++ after c)) us (lines rest)) said g)

    by_fit : (far : Bool) → nat_lt 130 (column + 1 + length (token_text v)) ≡ far → Goes
        → Gives on n (lines (x ++ (after_column column (map token_text (v ∷ others)) ++ 10 ∷ rest))) ((w ∷ ws) ++ ((v ∷ others) ++ what.End ∷ [])) (lines rest)
    by_fit true e ih = rw e (broken ih)
    by_fit false e ih = rw e (going ih (fits_in e))
      where
        fits_in : nat_lt 130 (column + 1 + length (token_text v)) ≡ false → column + 1 + length (token_text v) ≤ 130
        fits_in e = grind (arith, nat_tests)

-- ---- a whole line

start_spelled : (w : What) → IsStart w → Spelled w 63 (token_text w)
start_spelled (what.Name x) h = spelled_name x h
start_spelled (what.Word w) h = spelled_word w
start_spelled (what.Number n) h = absurd h
start_spelled (what.Text content) h = absurd h
start_spelled (what.Sign s) h = absurd h
start_spelled what.End h = absurd h

blank_inner : (n : ℕ) → list_all is_inner (replicate n 32) ≡ true
blank_inner zero = refl
blank_inner (suc n) = blank_inner n

blank_length : (n : ℕ) → length {A = ℕ} (replicate n 32) ≡ n
blank_length zero = refl
blank_length (suc n) = ap suc (blank_length n)

read_first : (indent : ℕ) (w : What) (t : Bytes) → Spelled w 63 t → Reads (replicate indent 32 ++ t) (w ∷ [])
read_first indent w t s r e = ap pieces (append_assoc (replicate indent 32) t r) ∙ blank_pieces indent (t ++ r) ∙ token_pieces w 63 t r s e

line_gives : (indent : ℕ) (row : Said) → indent ≤ 40 → IsRow row → (rest : Bytes) (n : ℕ) → Gives false n (lines (line_text (indent, row) ++ rest)) (row ++ what.End ∷ []) (lines rest)
line_gives indent [] fits h rest n = absurd h
line_gives indent (w ∷ ws) fits h rest n =
    let t = token_text w in
    let s = start_spelled w h.0 in
    let k : length t ≤ 63 = s.short in
    let a = after_column (indent + length t) (map token_text ws) in
    let blanks : length {A = ℕ} (replicate indent 32) ≡ indent = blank_length indent in
    let size : length {A = ℕ} (replicate indent 32 ++ t) ≡ length {A = ℕ} (replicate indent 32) + length {A = ℕ} t = length_append (replicate indent 32) t in
    let g = line_goes ws h.1 (replicate indent 32 ++ t) w [] (indent + length t) false n rest (omega arith) (omega arith) (all_append is_inner (replicate indent 32) t (blank_inner indent) s.inner) (read_first indent w t s) in
    let same : (replicate indent 32 ++ t) ++ (a ++ 10 ∷ rest) ≡ ((replicate indent 32 ++ (t ++ a)) ++ 10 ∷ []) ++ rest
    = append_assoc (replicate indent 32) t (a ++ 10 ∷ rest)
    ∙ ap (λ z. replicate indent 32 ++ z) (sym (append_assoc t a (10 ∷ rest)))
    ∙ sym (append_assoc (replicate indent 32) (t ++ a) (10 ∷ rest))
    ∙ sym (append_assoc (replicate indent 32 ++ (t ++ a)) (10 ∷ []) rest) in
    subst (λ z. Gives false n (lines z) ((w ∷ ws) ++ what.End ∷ []) (lines rest)) same g

-- ---- all lines

pub record AllGive (n : ℕ) (text : List Bytes) (said : Said) : Type 0 where
  pub tokens : List Token
  pub says : whats tokens ≡ said
  pub is : lines_of false n text ≡ Ok tokens

whats_append : (xs ys : List Token) → whats (xs ++ ys) ≡ whats xs ++ whats ys
whats_append [] ys = refl
whats_append (x ∷ xs) ys = ap (λ us. x.what ∷ us) (whats_append xs ys)

lines_give : (ls : List SaidLine) → Each IsLine ls → (n : ℕ) → AllGive n (lines (flat_map line_text ls)) (flat_map ended_row ls)
lines_give [] all n = record { tokens = []; says = refl; is = refl }
lines_give (l ∷ ls) all n =
    let g = line_gives l.0 l.1 all.0.0 all.0.1 (flat_map line_text ls) n in
    let h = lines_give ls all.1 g.next in
    record {
      tokens = g.tokens ++ h.tokens;
      says = whats_append g.tokens h.tokens ∙ ap (λ us. us ++ whats h.tokens) g.says ∙ ap (λ us. ended_row l ++ us) h.says;
      is = g.is ∙ ap (in_front g.tokens) h.is;
    }

-- ---- no `End` is left out

abbrev apart_said : Bool → Said → Bool
apart_said ended [] = true
apart_said ended (w ∷ ws) = not (is_end w && ended) && apart_said (is_end w) ws

inner_apart : (ws : Said) (more : Said) (ended : Bool) → Each Printable ws → apart_said true more ≡ true → apart_said false (ws ++ what.End ∷ more) ≡ true
inner_apart [] more ended all e = e
inner_apart (what.Name x ∷ ws) more ended all e = inner_apart ws more ended all.1 e
inner_apart (what.Word w ∷ ws) more ended all e = inner_apart ws more ended all.1 e
inner_apart (what.Number n ∷ ws) more ended all e = inner_apart ws more ended all.1 e
inner_apart (what.Text content ∷ ws) more ended all e = inner_apart ws more ended all.1 e
inner_apart (what.Sign s ∷ ws) more ended all e = inner_apart ws more ended all.1 e
inner_apart (what.End ∷ ws) more ended all e = absurd all.0

row_apart : (row : Said) (more : Said) → IsRow row → apart_said true more ≡ true → apart_said true (row ++ what.End ∷ more) ≡ true
row_apart [] more h e = absurd h
row_apart (what.Name x ∷ ws) more h e = inner_apart ws more true h.1 e
row_apart (what.Word w ∷ ws) more h e = inner_apart ws more true h.1 e
row_apart (what.Number n ∷ ws) more h e = absurd h.0
row_apart (what.Text content ∷ ws) more h e = absurd h.0
row_apart (what.Sign s ∷ ws) more h e = absurd h.0
row_apart (what.End ∷ ws) more h e = absurd h.0

rows_apart : (ls : List SaidLine) → Each IsLine ls → apart_said true (flat_map ended_row ls) ≡ true
rows_apart [] all = refl
rows_apart (l ∷ ls) all = ap (apart_said true) (append_assoc l.1 (what.End ∷ []) (flat_map ended_row ls)) ∙ row_apart l.1 (flat_map ended_row ls) all.0.1 (rows_apart ls all.1)

last_behind : (a : Token) (acc : List Token) (t : Token) → is_ended (a ∷ acc ++ t ∷ []) ≡ is_end t.what
last_behind a [] t = refl
last_behind a (b ∷ acc) t =
    let outer : length (a ∷ b ∷ acc ++ t ∷ []) - 1 ≡ suc (length (acc ++ t ∷ [])) = omega arith in
    let inner : length (b ∷ acc ++ t ∷ []) - 1 ≡ length (acc ++ t ∷ []) = omega arith in
    let ih : is_ended (b ∷ acc ++ t ∷ []) ≡ is_end t.what = last_behind b acc t in
    rw outer (rw inner at ih)

last_is : (acc : List Token) (t : Token) → is_ended (acc ++ t ∷ []) ≡ is_end t.what
last_is [] t = refl
last_is (a ∷ acc) t = last_behind a acc t

all_kept : (ts acc : List Token) (ended : Bool) → is_ended acc ≡ ended → apart_said ended (whats ts) ≡ true → with_tokens acc ts ≡ acc ++ ts
all_kept [] acc ended e apart = sym (append-nil acc)
all_kept (t ∷ ts) acc ended e apart =
    let free : (is_end t.what && is_ended acc) ≡ false = ap (λ b. is_end t.what && b) e ∙ not_so (is_end t.what && ended) (and_left (not (is_end t.what && ended)) _ apart) in
    let rest : with_tokens (acc ++ t ∷ []) ts ≡ (acc ++ t ∷ []) ++ ts = all_kept ts (acc ++ t ∷ []) (is_end t.what) (last_is acc t) (and_right (not (is_end t.what && ended)) _ apart) in
    rw free (rest ∙ append_assoc acc (t ∷ []) ts)
  where
    not_so : (b : Bool) → not b ≡ true → b ≡ false
    not_so true e = sym e
    not_so false e = refl

pub record IsRead (text : Bytes) (said : Said) : Type 0 where
  pub tokens : List Token
  pub says : whats tokens ≡ said
  pub is : tokens_of text ≡ Ok tokens

-- The tokens of the text of lines are those of the lines, each line with an `End`.
pub rows_read : (ls : List SaidLine) → Each IsLine ls → IsRead (flat_map line_text ls) (flat_map ended_row ls)
unfolding tokens_of
rows_read ls all =
    let g = lines_give ls all 1 in
    let apart : apart_said true (whats g.tokens) ≡ true = ap (apart_said true) g.says ∙ rows_apart ls all in
    record {
      tokens = g.tokens;
      says = g.says;
      is = ap (with_answer []) g.is ∙ ap (λ us. Ok us) (all_kept g.tokens [] true refl apart);
    }
