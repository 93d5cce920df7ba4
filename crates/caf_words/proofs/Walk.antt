-- What clap's walk over words that may stand comes to.
use Rattle.std.proofs.Common.{◌≡◌, ◌∙◌, sym, ap, subst, refl, ℕ, Bool, true, false, not, cond, ◌&&◌, List, [], ◌∷◌, ◌++◌, codes, if◌then◌else◌, fold, Option, Some, None, is_some, unwrap_or, option_map, option_and_then, slice_get, slice_index_or, append_assoc, append-nil, ap₂}
use Rattle.std.specs.Str.{bytes_eq}
use Rattle.std.specs.List.{list_all}
use Rattle.clap.specs.Lexer.{long_of, long_of_rest, short_of, short_of_rest, strip_byte}
use Rattle.clap.specs.Kinds.{Kinds, or_else}
use Rattle.clap.specs.Faults.{check_fault, default_fault, defaults_fault, fault_of, is_simple_and_free, settle_fault, turn_fault, walk_fault}
use Rattle.clap.proofs.FaultLemmas.{leaf_fault}
use Rattle.clap.specs.Simple.{Shape, built, matches_of, new_rule}
use Rattle.clap.specs.Walk.{Held, Row, Rule, Waiting, Walk, all_of, finished, first_of, has_row, idle, nothing_held, option, positional, settled, walk, walk_from, walked, with_default, with_values, without}
use Rattle.clap.specs.declared.error.kind.ErrorKind.TheVariants as kind
use Rattle.clap.specs.declared.builder.value_parser.Reading.TheVariants.{AsWritten}
use Rattle.clap.specs.declared.parser.matches.ValueSource.TheVariants.{CommandLine}
use Rattle.caf_words.specs.Numbers.{Text}
use Rattle.caf_words.specs.Sorted.{Sorted, any_from, begins_with_dash, is_trace, attached, may_stand, nothing, with_trace, with_word}
use Rattle.caf_words.specs.Clap.{sorted_in, sorter, words_in}
use Rattle.caf_words.proofs.Rows.{first_is, values_added, values_kept, row_is_there, without_none}
use Rattle.caf_words.proofs.Words.{Class, bare, flag, tied, and_true, class_of, plain_is_none}

abbrev pub shape : Shape
shape = (built sorter).top

abbrev rules_ : List Rule
rules_ = shape.rules

abbrev words_id : Text
words_id = codes "words"

abbrev trace_id : Text
trace_id = codes "trace"

-- the walk between two words
abbrev at : List Row → Option (Text × List Text) → Waiting → Walk
at rows pending waiting = record { held = record { rows = rows; pending = pending; skip = 0 }; waiting = waiting; position = 1; is_trailing = false; stopped = None }

abbrev kinds_of : Walk → List Text → Kinds
kinds_of w words = or_else (walk_fault shape [] w words) (settle_fault rules_ false (fold (walked rules_ []) w words).held)

abbrev end_of : Walk → List Text → List Row
end_of w words = (settled rules_ (fold (walked rules_ []) w words).held).rows

-- the rows hold these words, and this name behind `--trace`
abbrev Holds : List Row → List Text → Option Text → Type 0
Holds rows words trace = (words_in rows ≡ words) × (all_of trace_id rows ≡ option_map (λ (n : Text). n ∷ []) trace)

abbrev Comes : Kinds → List Row → Option Sorted → Type 0
Comes kinds rows None = kinds ≡ [] → ⊥
Comes kinds rows (Some s) = (kinds ≡ []) × Holds rows s.positional s.trace

-- ---- one word

abbrev before : Kinds → Walk → List Text → Kinds
before fault w rest = or_else (or_else fault (walk_fault shape [] w rest)) (settle_fault rules_ false (fold (walked rules_ []) w rest).held)

kinds_step : (w : Walk) (x : Text) (rest : List Text) → kinds_of w (x ∷ rest) ≡ before (turn_fault shape [] w x) (walked rules_ [] w x) rest
unfolding walk_fault
kinds_step w x rest = refl

moved : (k k2 : Kinds) (r r2 : List Row) (s : Option Sorted) → k ≡ k2 → r ≡ r2 → Comes k2 r2 s → Comes k r s
moved k k2 r r2 s same_k same_r h = subst (λ x. Comes x r s) (sym same_k) (subst (λ x. Comes k2 x s) (sym same_r) h)

onward : (w next : Walk) (x : Text) (rest : List Text) (s : Option Sorted) → turn_fault shape [] w x ≡ [] → walked rules_ [] w x ≡ next
    → Comes (kinds_of next rest) (end_of next rest) s → Comes (kinds_of w (x ∷ rest)) (end_of w (x ∷ rest)) s
onward w next x rest s no_fault leads h =
    moved (kinds_of w (x ∷ rest)) (kinds_of next rest) (end_of w (x ∷ rest)) (end_of next rest) s
    (kinds_step w x rest ∙ ap₂ (λ f v. before f v rest) no_fault leads)
    (ap (λ v. end_of v rest) leads) h

-- a walk is as another one where their next steps are
alike : (w other : Walk) (x : Text) (rest : List Text) (s : Option Sorted) → turn_fault shape [] w x ≡ turn_fault shape [] other x → walked rules_ [] w x ≡ walked rules_ [] other x
    → Comes (kinds_of other (x ∷ rest)) (end_of other (x ∷ rest)) s → Comes (kinds_of w (x ∷ rest)) (end_of w (x ∷ rest)) s
alike w other x rest s same leads h =
    moved (kinds_of w (x ∷ rest)) (kinds_of other (x ∷ rest)) (end_of w (x ∷ rest)) (end_of other (x ∷ rest)) s
    (kinds_step w x rest ∙ (ap₂ (λ f v. before f v rest) same leads ∙ sym (kinds_step other x rest)))
    (ap (λ v. end_of v rest) leads) h

-- a fault at the next word
stops : (w : Walk) (x : Text) (rest : List Text) (k : _) (ks : Kinds) → turn_fault shape [] w x ≡ k ∷ ks → kinds_of w (x ∷ rest) ≡ [] → ⊥
stops w x rest k ks e none =
    let bad : before (k ∷ ks) (walked rules_ [] w x) rest ≡ [] = sym (kinds_step w x rest ∙ ap (λ f. before f (walked rules_ [] w x) rest) e) ∙ none in cc

-- ---- a word without a dash in front is no option

no_strip : (x : Text) → begins_with_dash x ≡ false → strip_byte 45 x ≡ None
no_strip [] e = refl
no_strip (b ∷ bs) e = rw e refl

no_long : (x : Text) → begins_with_dash x ≡ false → long_of x ≡ None
no_long x e = ap (λ (o : Option Text). option_and_then long_of_rest (option_and_then (strip_byte 45) o)) (no_strip x e)

no_short : (x : Text) → begins_with_dash x ≡ false → short_of x ≡ None
no_short x e = ap (λ (o : Option Text). option_and_then short_of_rest o) (no_strip x e)

no_dashes : (x : Text) → begins_with_dash x ≡ false → bytes_eq x (codes "--") ≡ false
no_dashes [] e = refl
no_dashes (b ∷ bs) e = rw e refl

bare_turn : (rows : List Row) (x : Text) → begins_with_dash x ≡ false → turn_fault shape [] (at rows None idle) x ≡ []
bare_turn rows x e = simp (no_dashes x e, no_long x e, no_short x e) refl

bare_walked : (rows : List Row) (x : Text) → begins_with_dash x ≡ false → walked rules_ [] (at rows None idle) x ≡ at rows (Some (words_id, x ∷ [])) positional
unfolding walked
bare_walked rows x e = simp (no_dashes x e, no_long x e, no_short x e) refl

-- after a word that waits to be taken as one of the words, or as the trace's name, the walk is as after it was
abbrev more_words : List Row → Text → List Row
more_words rows v = with_values words_id AsWritten CommandLine (v ∷ []) rows

abbrev with_name : List Row → Text → List Row
with_name rows n = with_values trace_id AsWritten CommandLine (n ∷ []) (without trace_id rows)

word_turn : (rows : List Row) (v x : Text) → begins_with_dash x ≡ false → turn_fault shape [] (at rows (Some (words_id, v ∷ [])) positional) x ≡ turn_fault shape [] (at (more_words rows v) None idle) x
word_turn rows v x e = simp (no_dashes x e, no_long x e, no_short x e) refl

word_walked : (rows : List Row) (v x : Text) → begins_with_dash x ≡ false → walked rules_ [] (at rows (Some (words_id, v ∷ [])) positional) x ≡ walked rules_ [] (at (more_words rows v) None idle) x
unfolding walked
word_walked rows v x e = simp (no_dashes x e, no_long x e, no_short x e) refl

name_turn : (rows : List Row) (n x : Text) → has_row trace_id rows ≡ false → begins_with_dash x ≡ false → turn_fault shape [] (at rows (Some (trace_id, n ∷ [])) idle) x ≡ turn_fault shape [] (at (with_name rows n) None idle) x
name_turn rows n x fresh e = simp (no_dashes x e, no_long x e, no_short x e, fresh) refl

name_walked : (rows : List Row) (n x : Text) → begins_with_dash x ≡ false → walked rules_ [] (at rows (Some (trace_id, n ∷ [])) idle) x ≡ walked rules_ [] (at (with_name rows n) None idle) x
unfolding walked
name_walked rows n x e = simp (no_dashes x e, no_long x e, no_short x e) refl

-- `--trace`
flag_walked : (rows : List Row) → walked rules_ [] (at rows None idle) (codes "--trace") ≡ at rows (Some (trace_id, [])) (option trace_id)
unfolding walked
flag_walked rows = refl

flag_turn : (rows : List Row) → turn_fault shape [] (at rows None idle) (codes "--trace") ≡ []
flag_turn rows = refl

-- `--trace=NAME`
tied_walked : (rows : List Row) (n : Text) → walked rules_ [] (at rows None idle) (codes "--trace=" ++ n) ≡ at (with_name rows n) None idle
unfolding walked
tied_walked rows n = refl

tied_turn : (rows : List Row) (n : Text) → has_row trace_id rows ≡ false → turn_fault shape [] (at rows None idle) (codes "--trace=" ++ n) ≡ []
tied_turn rows n fresh = rw fresh refl

-- ---- other words while a name is waited for

names_walked : (rows : List Row) (x : Text) → begins_with_dash x ≡ false → walked rules_ [] (at rows (Some (trace_id, [])) (option trace_id)) x ≡ at rows (Some (trace_id, x ∷ [])) idle
unfolding walked
names_walked rows x e = simp (no_dashes x e, no_long x e, no_short x e) refl

names_turn : (rows : List Row) (x : Text) → begins_with_dash x ≡ false → turn_fault shape [] (at rows (Some (trace_id, [])) (option trace_id)) x ≡ []
names_turn rows x e = simp (no_dashes x e, no_long x e, no_short x e) refl

names_flag : (rows : List Row) → turn_fault shape [] (at rows (Some (trace_id, [])) (option trace_id)) (codes "--trace") ≡ kind.InvalidValue ∷ []
names_flag rows = refl

names_tied : (rows : List Row) (n : Text) → turn_fault shape [] (at rows (Some (trace_id, [])) (option trace_id)) (codes "--trace=" ++ n) ≡ kind.InvalidValue ∷ []
names_tied rows n = refl

-- ---- a second name

again_turn : (rows : List Row) (n x : Text) → has_row trace_id rows ≡ true → begins_with_dash x ≡ false → turn_fault shape [] (at rows (Some (trace_id, n ∷ [])) idle) x ≡ kind.ArgumentConflict ∷ []
again_turn rows n x there e = simp (no_dashes x e, no_long x e, no_short x e, there) refl

again_flag : (rows : List Row) (n : Text) → has_row trace_id rows ≡ true → turn_fault shape [] (at rows (Some (trace_id, n ∷ [])) idle) (codes "--trace") ≡ kind.ArgumentConflict ∷ []
again_flag rows n there = rw there refl

again_tied : (rows : List Row) (n m : Text) → has_row trace_id rows ≡ true → turn_fault shape [] (at rows (Some (trace_id, n ∷ [])) idle) (codes "--trace=" ++ m) ≡ kind.ArgumentConflict ∷ []
again_tied rows n m there = rw there refl

tied_again : (rows : List Row) (m : Text) → has_row trace_id rows ≡ true → turn_fault shape [] (at rows None idle) (codes "--trace=" ++ m) ≡ kind.ArgumentConflict ∷ []
tied_again rows m there = rw there refl

-- ---- what the rows hold

word_held : (rows : List Row) (ps : List Text) (t : Option Text) (v : Text) → Holds rows ps t → Holds (more_words rows v) (ps ++ v ∷ []) t
word_held rows ps t v h = (
  ap (λ (o : Option (List Text)). unwrap_or o []) (values_added words_id AsWritten CommandLine (v ∷ []) rows) ∙ ap (λ (xs : List Text). xs ++ v ∷ []) h.0,
  values_kept words_id trace_id AsWritten CommandLine (v ∷ []) rows refl ∙ h.1,
)

name_held : (rows : List Row) (ps : List Text) (n : Text) → Holds rows ps None → Holds (with_name rows n) ps (Some n)
name_held rows ps n h =
    let same = without_none trace_id rows h.1 in (
      ap (λ (o : Option (List Text)). unwrap_or o []) (values_kept trace_id words_id AsWritten CommandLine (n ∷ []) (without trace_id rows) refl ∙ ap (all_of words_id) same) ∙ h.0,
      values_added trace_id AsWritten CommandLine (n ∷ []) (without trace_id rows) ∙ ap (λ (o : Option (List Text)). Some (unwrap_or o [] ++ n ∷ [])) (ap (all_of trace_id) same ∙ h.1),
    )

fresh : (rows : List Row) (ps : List Text) → Holds rows ps None → has_row trace_id rows ≡ false
fresh rows ps h = row_is_there trace_id rows ∙ ap is_some h.1

there_is : (rows : List Row) (ps : List Text) (m : Text) → Holds rows ps (Some m) → has_row trace_id rows ≡ true
there_is rows ps m h = row_is_there trace_id rows ∙ ap is_some h.1

-- ---- what is sorted so far, and then the rest

abbrev joins : List Text → Option Text → Option Sorted → Option Sorted
joins ps t None = None
joins ps None (Some s) = Some (record { positional = ps ++ s.positional; trace = s.trace })
joins ps (Some n) (Some s) = if is_some s.trace then None else Some (record { positional = ps ++ s.positional; trace = Some n })

joins_nothing : (ps : List Text) (t : Option Text) → joins ps t (Some nothing) ≡ Some (record { positional = ps; trace = t })
joins_nothing ps None = rw (append-nil ps) refl
joins_nothing ps (Some n) = rw (append-nil ps) refl

joins_word : (ps : List Text) (t : Option Text) (x : Text) (s : Option Sorted) → joins ps t (with_word x s) ≡ joins (ps ++ x ∷ []) t s
joins_word ps t x None = refl
joins_word ps None x (Some s) = rw (append_assoc ps (x ∷ []) s.positional) refl
joins_word ps (Some n) x (Some s) = rw (append_assoc ps (x ∷ []) s.positional) refl

joins_name : (ps : List Text) (n : Text) (s : Option Sorted) → joins ps None (with_trace n s) ≡ joins ps (Some n) s
joins_name ps n None = refl
joins_name ps n (Some s) = go s.trace refl
  where
    go : (o : Option Text) → s.trace ≡ o → joins ps None (with_trace n (Some s)) ≡ joins ps (Some n) (Some s)
    go None e = simp e refl
    go (Some m) e = simp e refl

joins_again : (ps : List Text) (m n : Text) (s : Option Sorted) → joins ps (Some m) (with_trace n s) ≡ None
joins_again ps m n None = refl
joins_again ps m n (Some s) = go s.trace refl
  where
    go : (o : Option Text) → s.trace ≡ o → joins ps (Some m) (with_trace n (Some s)) ≡ None
    go None e = simp e refl
    go (Some m2) e = simp e refl

-- ---- the end of the words

kinds_end : (w : Walk) → kinds_of w [] ≡ settle_fault rules_ false w.held
unfolding walk_fault
kinds_end w = refl

-- ---- a word that waits may be taken at once

word_flag : (rows : List Row) (v : Text) → walked rules_ [] (at rows (Some (words_id, v ∷ [])) positional) (codes "--trace") ≡ walked rules_ [] (at (more_words rows v) None idle) (codes "--trace")
unfolding walked
word_flag rows v = refl

word_tied : (rows : List Row) (v n : Text) → walked rules_ [] (at rows (Some (words_id, v ∷ [])) positional) (codes "--trace=" ++ n) ≡ walked rules_ [] (at (more_words rows v) None idle) (codes "--trace=" ++ n)
unfolding walked
word_tied rows v n = refl

name_flag : (rows : List Row) (m : Text) → walked rules_ [] (at rows (Some (trace_id, m ∷ [])) idle) (codes "--trace") ≡ walked rules_ [] (at (with_name rows m) None idle) (codes "--trace")
unfolding walked
name_flag rows m = refl

name_tied : (rows : List Row) (m n : Text) → walked rules_ [] (at rows (Some (trace_id, m ∷ [])) idle) (codes "--trace=" ++ n) ≡ walked rules_ [] (at (with_name rows m) None idle) (codes "--trace=" ++ n)
unfolding walked
name_tied rows m n = refl

name_flag_turn : (rows : List Row) (m : Text) → has_row trace_id rows ≡ false → turn_fault shape [] (at rows (Some (trace_id, m ∷ [])) idle) (codes "--trace") ≡ turn_fault shape [] (at (with_name rows m) None idle) (codes "--trace")
name_flag_turn rows m none = rw none refl

name_tied_turn : (rows : List Row) (m n : Text) → has_row trace_id rows ≡ false → turn_fault shape [] (at rows (Some (trace_id, m ∷ [])) idle) (codes "--trace=" ++ n) ≡ turn_fault shape [] (at (with_name rows m) None idle) (codes "--trace=" ++ n)
name_tied_turn rows m n none = rw none refl

name_settles : (rows : List Row) (m : Text) → has_row trace_id rows ≡ false → settle_fault rules_ false (at rows (Some (trace_id, m ∷ [])) idle).held ≡ []
name_settles rows m none = rw none refl

word_first : (rows : List Row) (v x : Text) (rest : List Text) (s : Option Sorted) → Class x
    → Comes (kinds_of (at (more_words rows v) None idle) (x ∷ rest)) (end_of (at (more_words rows v) None idle) (x ∷ rest)) s
    → Comes (kinds_of (at rows (Some (words_id, v ∷ [])) positional) (x ∷ rest)) (end_of (at rows (Some (words_id, v ∷ [])) positional) (x ∷ rest)) s
word_first rows v x rest s (bare e) h = alike (at rows (Some (words_id, v ∷ [])) positional) (at (more_words rows v) None idle) x rest s (word_turn rows v x e) (word_walked rows v x e) h
word_first rows v x rest s (flag e) h =
    subst (λ y. Comes (kinds_of (at (more_words rows v) None idle) (y ∷ rest)) (end_of (at (more_words rows v) None idle) (y ∷ rest)) s
    → Comes (kinds_of (at rows (Some (words_id, v ∷ [])) positional) (y ∷ rest)) (end_of (at rows (Some (words_id, v ∷ [])) positional) (y ∷ rest)) s) (sym e)
    (alike (at rows (Some (words_id, v ∷ [])) positional) (at (more_words rows v) None idle) (codes "--trace") rest s refl (word_flag rows v)) h
word_first rows v x rest s (tied n e) h =
    subst (λ y. Comes (kinds_of (at (more_words rows v) None idle) (y ∷ rest)) (end_of (at (more_words rows v) None idle) (y ∷ rest)) s
    → Comes (kinds_of (at rows (Some (words_id, v ∷ [])) positional) (y ∷ rest)) (end_of (at rows (Some (words_id, v ∷ [])) positional) (y ∷ rest)) s) (sym e)
    (alike (at rows (Some (words_id, v ∷ [])) positional) (at (more_words rows v) None idle) (codes "--trace=" ++ n) rest s refl (word_tied rows v n)) h

name_first : (rows : List Row) (m x : Text) (rest : List Text) (s : Option Sorted) → has_row trace_id rows ≡ false → Class x
    → Comes (kinds_of (at (with_name rows m) None idle) (x ∷ rest)) (end_of (at (with_name rows m) None idle) (x ∷ rest)) s
    → Comes (kinds_of (at rows (Some (trace_id, m ∷ [])) idle) (x ∷ rest)) (end_of (at rows (Some (trace_id, m ∷ [])) idle) (x ∷ rest)) s
name_first rows m x rest s none (bare e) h = alike (at rows (Some (trace_id, m ∷ [])) idle) (at (with_name rows m) None idle) x rest s (name_turn rows m x none e) (name_walked rows m x e) h
name_first rows m x rest s none (flag e) h =
    subst (λ y. Comes (kinds_of (at (with_name rows m) None idle) (y ∷ rest)) (end_of (at (with_name rows m) None idle) (y ∷ rest)) s
    → Comes (kinds_of (at rows (Some (trace_id, m ∷ [])) idle) (y ∷ rest)) (end_of (at rows (Some (trace_id, m ∷ [])) idle) (y ∷ rest)) s) (sym e)
    (alike (at rows (Some (trace_id, m ∷ [])) idle) (at (with_name rows m) None idle) (codes "--trace") rest s (name_flag_turn rows m none) (name_flag rows m)) h
name_first rows m x rest s none (tied n e) h =
    subst (λ y. Comes (kinds_of (at (with_name rows m) None idle) (y ∷ rest)) (end_of (at (with_name rows m) None idle) (y ∷ rest)) s
    → Comes (kinds_of (at rows (Some (trace_id, m ∷ [])) idle) (y ∷ rest)) (end_of (at rows (Some (trace_id, m ∷ [])) idle) (y ∷ rest)) s) (sym e)
    (alike (at rows (Some (trace_id, m ∷ [])) idle) (at (with_name rows m) None idle) (codes "--trace=" ++ n) rest s (name_tied_turn rows m n none) (name_tied rows m n)) h

word_at_once : (rows : List Row) (v : Text) (words : List Text) (s : Option Sorted) → list_all may_stand words ≡ true
    → Comes (kinds_of (at (more_words rows v) None idle) words) (end_of (at (more_words rows v) None idle) words) s
    → Comes (kinds_of (at rows (Some (words_id, v ∷ [])) positional) words) (end_of (at rows (Some (words_id, v ∷ [])) positional) words) s
word_at_once rows v [] s all h =
    moved (kinds_of (at rows (Some (words_id, v ∷ [])) positional) []) (kinds_of (at (more_words rows v) None idle) []) (end_of (at rows (Some (words_id, v ∷ [])) positional) []) (end_of (at (more_words rows v) None idle) []) s
    (kinds_end (at rows (Some (words_id, v ∷ [])) positional) ∙ sym (kinds_end (at (more_words rows v) None idle))) refl h
word_at_once rows v (x ∷ rest) s all h = word_first rows v x rest s (class_of x (and_true (may_stand x) (list_all may_stand rest) all).0) h

name_at_once : (rows : List Row) (m : Text) (words : List Text) (s : Option Sorted) → has_row trace_id rows ≡ false → list_all may_stand words ≡ true
    → Comes (kinds_of (at (with_name rows m) None idle) words) (end_of (at (with_name rows m) None idle) words) s
    → Comes (kinds_of (at rows (Some (trace_id, m ∷ [])) idle) words) (end_of (at rows (Some (trace_id, m ∷ [])) idle) words) s
name_at_once rows m [] s none all h =
    moved (kinds_of (at rows (Some (trace_id, m ∷ [])) idle) []) (kinds_of (at (with_name rows m) None idle) []) (end_of (at rows (Some (trace_id, m ∷ [])) idle) []) (end_of (at (with_name rows m) None idle) []) s
    (kinds_end (at rows (Some (trace_id, m ∷ [])) idle) ∙ (name_settles rows m none ∙ sym (kinds_end (at (with_name rows m) None idle)))) refl h
name_at_once rows m (x ∷ rest) s none all h = name_first rows m x rest s none (class_of x (and_true (may_stand x) (list_all may_stand rest) all).0) h

-- ---- a second name is refused, whatever follows

spoiled-end : (rows : List Row) (n : Text) → has_row trace_id rows ≡ true → settle_fault rules_ false (at rows (Some (trace_id, n ∷ [])) idle).held ≡ kind.ArgumentConflict ∷ []
spoiled-end rows n there = rw there refl

spoiled-first : (rows : List Row) (n x : Text) (rest : List Text) → has_row trace_id rows ≡ true → Class x → kinds_of (at rows (Some (trace_id, n ∷ [])) idle) (x ∷ rest) ≡ [] → ⊥
spoiled-first rows n x rest there (bare e) = stops (at rows (Some (trace_id, n ∷ [])) idle) x rest kind.ArgumentConflict [] (again_turn rows n x there e)
spoiled-first rows n x rest there (flag e) =
    subst (λ y. kinds_of (at rows (Some (trace_id, n ∷ [])) idle) (y ∷ rest) ≡ [] → ⊥) (sym e)
    (stops (at rows (Some (trace_id, n ∷ [])) idle) (codes "--trace") rest kind.ArgumentConflict [] (again_flag rows n there))
spoiled-first rows n x rest there (tied m e) =
    subst (λ y. kinds_of (at rows (Some (trace_id, n ∷ [])) idle) (y ∷ rest) ≡ [] → ⊥) (sym e)
    (stops (at rows (Some (trace_id, n ∷ [])) idle) (codes "--trace=" ++ m) rest kind.ArgumentConflict [] (again_tied rows n m there))

spoiled : (rows : List Row) (n : Text) (words : List Text) → has_row trace_id rows ≡ true → list_all may_stand words ≡ true → kinds_of (at rows (Some (trace_id, n ∷ [])) idle) words ≡ [] → ⊥
spoiled rows n [] there all none =
    let bad : kind.ArgumentConflict ∷ [] ≡ [] = sym (kinds_end (at rows (Some (trace_id, n ∷ [])) idle) ∙ spoiled-end rows n there) ∙ none in cc
spoiled rows n (x ∷ rest) there all none = spoiled-first rows n x rest there (class_of x (and_true (may_stand x) (list_all may_stand rest) all).0) none

-- ---- the whole walk

-- where the walk stands: behind `--trace`, or not
abbrev stand : Bool → List Row → Walk
stand true rows = at rows (Some (trace_id, [])) (option trace_id)
stand false rows = at rows None idle

abbrev Rest : List Text → Type 0
Rest words = (names : Bool) (rows : List Row) (ps : List Text) (t : Option Text) → Holds rows ps t → Comes (kinds_of (stand names rows) words) (end_of (stand names rows) words) (joins ps t (any_from names words))

any_bare : (x : Text) (rest : List Text) → begins_with_dash x ≡ false → any_from false (x ∷ rest) ≡ with_word x (any_from false rest)
any_bare x rest e = let none = plain_is_none x e in rw (none.0, none.1) refl

any_name : (x : Text) (rest : List Text) → begins_with_dash x ≡ false → any_from true (x ∷ rest) ≡ with_trace x (any_from false rest)
any_name x rest e = rw e refl

turn_bare : (x : Text) (rest : List Text) (rows : List Row) (ps : List Text) (t : Option Text) → Holds rows ps t → begins_with_dash x ≡ false → list_all may_stand rest ≡ true → Rest rest
    → Comes (kinds_of (at rows None idle) (x ∷ rest)) (end_of (at rows None idle) (x ∷ rest)) (joins ps t (any_from false (x ∷ rest)))
turn_bare x rest rows ps t h e all ih =
    subst (λ s. Comes (kinds_of (at rows None idle) (x ∷ rest)) (end_of (at rows None idle) (x ∷ rest)) s)
    (sym (ap (joins ps t) (any_bare x rest e) ∙ joins_word ps t x (any_from false rest)))
    (onward (at rows None idle) (at rows (Some (words_id, x ∷ [])) positional) x rest (joins (ps ++ x ∷ []) t (any_from false rest)) (bare_turn rows x e) (bare_walked rows x e)
    (word_at_once rows x rest (joins (ps ++ x ∷ []) t (any_from false rest)) all (ih false (more_words rows x) (ps ++ x ∷ []) t (word_held rows ps t x h))))

turn_flag : (rest : List Text) (rows : List Row) (ps : List Text) (t : Option Text) → Holds rows ps t → Rest rest
    → Comes (kinds_of (at rows None idle) (codes "--trace" ∷ rest)) (end_of (at rows None idle) (codes "--trace" ∷ rest)) (joins ps t (any_from false (codes "--trace" ∷ rest)))
turn_flag rest rows ps t h ih =
    onward (at rows None idle) (stand true rows) (codes "--trace") rest (joins ps t (any_from true rest)) (flag_turn rows) (flag_walked rows) (ih true rows ps t h)

turn_tied : (n : Text) (rest : List Text) (rows : List Row) (ps : List Text) (t : Option Text) → Holds rows ps t → Rest rest
    → Comes (kinds_of (at rows None idle) ((codes "--trace=" ++ n) ∷ rest)) (end_of (at rows None idle) ((codes "--trace=" ++ n) ∷ rest)) (joins ps t (any_from false ((codes "--trace=" ++ n) ∷ rest)))
turn_tied n rest rows ps None h ih =
    subst (λ s. Comes (kinds_of (at rows None idle) ((codes "--trace=" ++ n) ∷ rest)) (end_of (at rows None idle) ((codes "--trace=" ++ n) ∷ rest)) s)
    (sym (joins_name ps n (any_from false rest)))
    (onward (at rows None idle) (at (with_name rows n) None idle) (codes "--trace=" ++ n) rest (joins ps (Some n) (any_from false rest)) (tied_turn rows n (fresh rows ps h)) (tied_walked rows n)
    (ih false (with_name rows n) ps (Some n) (name_held rows ps n h)))
turn_tied n rest rows ps (Some m) h ih =
    subst (λ s. Comes (kinds_of (at rows None idle) ((codes "--trace=" ++ n) ∷ rest)) (end_of (at rows None idle) ((codes "--trace=" ++ n) ∷ rest)) s)
    (sym (joins_again ps m n (any_from false rest)))
    (stops (at rows None idle) (codes "--trace=" ++ n) rest kind.ArgumentConflict [] (tied_again rows n (there_is rows ps m h)))

turn_name : (x : Text) (rest : List Text) (rows : List Row) (ps : List Text) (t : Option Text) → Holds rows ps t → begins_with_dash x ≡ false → list_all may_stand rest ≡ true → Rest rest
    → Comes (kinds_of (stand true rows) (x ∷ rest)) (end_of (stand true rows) (x ∷ rest)) (joins ps t (any_from true (x ∷ rest)))
turn_name x rest rows ps None h e all ih =
    subst (λ s. Comes (kinds_of (stand true rows) (x ∷ rest)) (end_of (stand true rows) (x ∷ rest)) s)
    (sym (ap (joins ps None) (any_name x rest e) ∙ joins_name ps x (any_from false rest)))
    (onward (stand true rows) (at rows (Some (trace_id, x ∷ [])) idle) x rest (joins ps (Some x) (any_from false rest)) (names_turn rows x e) (names_walked rows x e)
    (name_at_once rows x rest (joins ps (Some x) (any_from false rest)) (fresh rows ps h) all (ih false (with_name rows x) ps (Some x) (name_held rows ps x h))))
turn_name x rest rows ps (Some m) h e all ih =
    subst (λ s. Comes (kinds_of (stand true rows) (x ∷ rest)) (end_of (stand true rows) (x ∷ rest)) s)
    (sym (ap (joins ps (Some m)) (any_name x rest e) ∙ joins_again ps m x (any_from false rest)))
    (onward (stand true rows) (at rows (Some (trace_id, x ∷ [])) idle) x rest None (names_turn rows x e) (names_walked rows x e)
    (spoiled rows x rest (there_is rows ps m h) all))

turn : (names : Bool) (x : Text) (rest : List Text) (rows : List Row) (ps : List Text) (t : Option Text) → Holds rows ps t → Class x → list_all may_stand rest ≡ true → Rest rest
    → Comes (kinds_of (stand names rows) (x ∷ rest)) (end_of (stand names rows) (x ∷ rest)) (joins ps t (any_from names (x ∷ rest)))
turn false x rest rows ps t h (bare e) all ih = turn_bare x rest rows ps t h e all ih
turn false x rest rows ps t h (flag e) all ih =
    subst (λ y. Comes (kinds_of (at rows None idle) (y ∷ rest)) (end_of (at rows None idle) (y ∷ rest)) (joins ps t (any_from false (y ∷ rest)))) (sym e) (turn_flag rest rows ps t h ih)
turn false x rest rows ps t h (tied n e) all ih =
    subst (λ y. Comes (kinds_of (at rows None idle) (y ∷ rest)) (end_of (at rows None idle) (y ∷ rest)) (joins ps t (any_from false (y ∷ rest)))) (sym e) (turn_tied n rest rows ps t h ih)
turn true x rest rows ps t h (bare e) all ih = turn_name x rest rows ps t h e all ih
turn true x rest rows ps t h (flag e) all ih =
    subst (λ y. Comes (kinds_of (stand true rows) (y ∷ rest)) (end_of (stand true rows) (y ∷ rest)) (joins ps t (any_from true (y ∷ rest)))) (sym e)
    (stops (stand true rows) (codes "--trace") rest kind.InvalidValue [] (names_flag rows))
turn true x rest rows ps t h (tied n e) all ih =
    subst (λ y. Comes (kinds_of (stand true rows) (y ∷ rest)) (end_of (stand true rows) (y ∷ rest)) (joins ps t (any_from true (y ∷ rest)))) (sym e)
    (stops (stand true rows) (codes "--trace=" ++ n) rest kind.InvalidValue [] (names_tied rows n))

pub walk_comes : (words : List Text) → list_all may_stand words ≡ true → Rest words
walk_comes [] all true rows ps t h = λ none. let bad : kind.InvalidValue ∷ [] ≡ [] = sym (kinds_end (stand true rows)) ∙ none in cc
walk_comes [] all false rows ps t h = subst (λ s. Comes (kinds_of (at rows None idle) []) (end_of (at rows None idle) []) s) (sym (joins_nothing ps t)) (kinds_end (at rows None idle), h)
walk_comes (x ∷ rest) all names rows ps t h =
    let parts = and_true (may_stand x) (list_all may_stand rest) all in
    turn names x rest rows ps t h (class_of x parts.0) parts.1 (walk_comes rest parts.1)

-- ---- the matches

or_nothing : (k : Kinds) → or_else k [] ≡ k
or_nothing [] = refl
or_nothing (x ∷ xs) = refl

no_default : (rows : List Row) (a : Rule) (b : Bool) → has_row a.id rows ≡ b → a.defaults ≡ [] → default_fault rows a ≡ []
no_default rows a true e d = simp (e, d) refl
no_default rows a false e d = simp (e, d) refl

same_rows : (rows : List Row) (a : Rule) (b : Bool) → has_row a.id rows ≡ b → a.defaults ≡ [] → with_default rows a ≡ rows
same_rows rows a true e d = simp (e, d) refl
same_rows rows a false e d = simp (e, d) refl

abbrev first_rule : Rule
first_rule = slice_index_or rules_ 0 (new_rule [])

abbrev second_rule : Rule
second_rule = slice_index_or rules_ 1 (new_rule [])

no_defaults : (rows : List Row) → defaults_fault rows rules_ ≡ []
unfolding defaults_fault
no_defaults rows = rw (no_default rows first_rule (has_row trace_id rows) refl refl, same_rows rows first_rule (has_row trace_id rows) refl refl, no_default rows second_rule (has_row words_id rows) refl refl) refl

finished_is : (h : Held) → finished rules_ h ≡ (settled rules_ h).rows
finished_is h =
    ap (λ rows. with_default rows second_rule) (same_rows (settled rules_ h).rows first_rule (has_row trace_id (settled rules_ h).rows) refl refl)
    ∙ same_rows (settled rules_ h).rows second_rule (has_row words_id (settled rules_ h).rows) refl refl

pub fault_is : (words : List Text) → fault_of sorter words ≡ kinds_of (at [] None idle) words
fault_is words =
    let last = (walk rules_ [] nothing_held words).held in
    leaf_fault (built sorter) nothing_held words refl
    ∙ (ap (λ k. or_else (walk_fault shape [] (walk_from nothing_held) words) (or_else (settle_fault rules_ false last) (or_else k (check_fault shape (finished rules_ last) false)))) (no_defaults (settled rules_ last).rows)
    ∙ ap (λ k. or_else (walk_fault shape [] (walk_from nothing_held) words) k) (or_nothing (settle_fault rules_ false last)))

pub rows_are : (words : List Text) → matches_of sorter words ≡ end_of (at [] None idle) words
rows_are words = finished_is (walk rules_ [] nothing_held words).held

pub is_simple_sorter : is_simple_and_free sorter ≡ true
is_simple_sorter = refl

-- the words sorted by clap are the words sorted
pub sorted_is : (words : List Text) → list_all may_stand words ≡ true → fault_of sorter words ≡ [] → any_from false words ≡ Some (sorted_in (matches_of sorter words))
sorted_is words all none = go (any_from false words) (walk_comes words all false [] [] None (refl, refl))
  where
    go : (s : Option Sorted) → Comes (kinds_of (at [] None idle) words) (end_of (at [] None idle) words) (joins [] None s) → s ≡ Some (sorted_in (matches_of sorter words))
    go None h = absurd (h (sym (fault_is words) ∙ none))
    go (Some s) h = ap Some (record_is s h.1)
      where
        first_one : (t : Option Text) (o : Option (List Text)) → o ≡ option_map (λ (n : Text). n ∷ []) t → option_and_then (λ (vs : List Text). slice_get vs 0) o ≡ t
        first_one None o e = rw e refl
        first_one (Some n) o e = rw e refl

        record_is : (s2 : Sorted) → Holds (end_of (at [] None idle) words) s2.positional s2.trace → s2 ≡ sorted_in (matches_of sorter words)
        record_is s2 held =
            ap₂ (λ ps t. record { positional = ps; trace = t })
            (sym (ap words_in (rows_are words) ∙ held.0))
            (sym (ap (first_of trace_id) (rows_are words) ∙ (first_is trace_id (end_of (at [] None idle) words) ∙ first_one s2.trace (all_of trace_id (end_of (at [] None idle) words)) held.1)))

pub unsorted_is : (words : List Text) → list_all may_stand words ≡ true → (fault_of sorter words ≡ [] → ⊥) → any_from false words ≡ None
unsorted_is words all some = go (any_from false words) (walk_comes words all false [] [] None (refl, refl))
  where
    go : (s : Option Sorted) → Comes (kinds_of (at [] None idle) words) (end_of (at [] None idle) words) (joins [] None s) → s ≡ None
    go None h = refl
    go (Some s) h = absurd (some (fault_is words ∙ h.0))
