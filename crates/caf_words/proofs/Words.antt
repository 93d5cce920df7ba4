-- Of which class a word is that may stand, and what follows for the words sorted.
use Rattle.std.proofs.Common.{◌≡◌, ◌∙◌, sym, ap, subst, refl, ℕ, Bool, true, false, not, cond, ◌==◌, ◌&&◌, ◌||◌, List, [], ◌∷◌, ◌++◌, take, drop, map, codes, Option, Some, None, is_some, arith, ◌⊎◌, inl, inr, append_assoc, ◌<◌}
use Rattle.std.proofs.lemmas.List.{take-append-drop}
use Rattle.std.proofs.lemmas.Grind.{common_steps}
use Rattle.std.specs.Str.{bytes_eq}
use Rattle.std.specs.List.{list_all}
use Rattle.std.specs.Borrow.{Bor}
use Rattle.std.proofs.lemmas.Slice.Eq.{bytes_eq-Decides}
use Rattle.caf_words.specs.Numbers.{Text}
use Rattle.caf_words.specs.Sorted.{Sorted, all_stand, any_from, any_word, attached, begins_with_dash, if_named, is_name, is_trace, may_name, may_stand, named, nothing, other_word, sorted_from, with_trace, with_word}

-- a word without a dash in front, `--trace`, or `--trace=` with a name
pub data Class (word : Text) : Type 0 where
  bare : begins_with_dash word ≡ false → Class word
  flag : word ≡ codes "--trace" → Class word
  tied : (name : Text) → word ≡ codes "--trace=" ++ name → Class word

if-some : {X : Type 0} (b : Bool) (x : X) → is_some (cond b (Some x) None) ≡ true → b ≡ true
if-some true x e = refl
if-some false x e = cc

class-attached : (word : Text) → is_some (attached word) ≡ true → Class word
class-attached word e =
    let same : take 8 word ≡ codes "--trace=" = (bytes_eq-Decides (take 8 word) (codes "--trace=")).0 (if-some (bytes_eq (take 8 word) (codes "--trace=")) (drop 8 word) e) in
    tied (drop 8 word) (sym (take-append-drop 8 word) ∙ ap (λ front. front ++ drop 8 word) same)

class-go : (word : Text) (a b c : Bool) → begins_with_dash word ≡ a → is_trace word ≡ b → is_some (attached word) ≡ c → (not a || (b || c)) ≡ true → Class word
class-go word false b c ea eb ec h = bare ea
class-go word true true c ea eb ec h = flag ((bytes_eq-Decides word (codes "--trace")).0 eb)
class-go word true false true ea eb ec h = class-attached word ec
class-go word true false false ea eb ec h = cc

pub class_of : (word : Text) → may_stand word ≡ true → Class word
class_of word h = class-go word (begins_with_dash word) (is_trace word) (is_some (attached word)) refl refl refl h

-- a word without a dash in front is no option
pub plain_is_none : (word : Text) → begins_with_dash word ≡ false → (is_trace word ≡ false) × (attached word ≡ None)
plain_is_none [] e = (refl, refl)
plain_is_none (b ∷ bs) e = (rw e refl, rw e refl)

-- behind references or not
pub stand_behind : (words : List (Bor Text)) → list_all may_stand (map (λ word. word.now) words) ≡ all_stand words
stand_behind [] = refl
stand_behind (word ∷ rest) = ap (λ b. may_stand word.now && b) (stand_behind rest)

-- ---- words that may not stand can't be sorted

unsorted-word : (word : Text) (a b c : Bool) → begins_with_dash word ≡ a → is_trace word ≡ b → is_some (attached word) ≡ c → (not a || (b || c)) ≡ false → (begins_with_dash word ≡ true) × (is_trace word ≡ false) × (attached word ≡ None)
unsorted-word word true false false ea eb ec h = (ea, eb, if-none (attached word) ec)
  where
    if-none : (o : Option Text) → is_some o ≡ false → o ≡ None
    if-none None e = refl
    if-none (Some x) e = cc
unsorted-word word true true c ea eb ec h = cc
unsorted-word word true false true ea eb ec h = cc
unsorted-word word false b c ea eb ec h = cc

pub no_name : (word : Text) → begins_with_dash word ≡ true → is_name word ≡ false
no_name [] e = cc
no_name (b ∷ bs) e = rw e (grind (arith, common_steps))

named-none : (word : Text) (b : Bool) → is_name word ≡ b → named word None ≡ None
named-none word true e = rw e refl
named-none word false e = rw e refl

other-none : (word : Text) (o : Option Text) → other_word word o None ≡ None
other-none word (Some name) = named-none name (is_name name) refl
other-none word None = go (begins_with_dash word) refl
  where
    go : (b : Bool) → begins_with_dash word ≡ b → other_word word None None ≡ None
    go true e = rw e refl
    go false e = rw e refl

and-false : (a b : Bool) → (a && b) ≡ false → (a ≡ false) ⊎ (b ≡ false)
and-false false b e = inl refl
and-false true b e = inr e

here : (names : Bool) (word : Text) (rest : List Text) → may_stand word ≡ false → sorted_from names (word ∷ rest) ≡ None
here true word rest e =
    let parts = unsorted-word word (begins_with_dash word) (is_trace word) (is_some (attached word)) refl refl refl e in
    rw (no_name word parts.0) refl
here false word rest e =
    let parts = unsorted-word word (begins_with_dash word) (is_trace word) (is_some (attached word)) refl refl refl e in
    rw (parts.1, parts.2, parts.0) refl

past-trace : (word : Text) (rest : List Text) (b : Bool) → is_trace word ≡ b → ((names : Bool) → sorted_from names rest ≡ None) → sorted_from false (word ∷ rest) ≡ None
past-trace word rest true t ih = rw t (ih true)
past-trace word rest false t ih = rw (t, ih false) (other-none word (attached word))

behind : (names : Bool) (word : Text) (rest : List Text) → ((b : Bool) → sorted_from b rest ≡ None) → sorted_from names (word ∷ rest) ≡ None
behind true word rest ih = rw (ih false) (named-none word (is_name word) refl)
behind false word rest ih = past-trace word rest (is_trace word) refl ih

pub none_sorted : (names : Bool) (words : List Text) → list_all may_stand words ≡ false → sorted_from names words ≡ None
none_sorted names [] h = cc
none_sorted names (word ∷ rest) h = elim (and-false (may_stand word) (list_all may_stand rest) h) [
  | inl e ↦ here names word rest e
  | inr e ↦ behind names word rest (λ b. none_sorted b rest e)
]

-- ---- the names may be looked at last

named-last : (name : Text) (s : Option Sorted) → named name (if_named s) ≡ if_named (with_trace name s)
named-last name None = named-none name (is_name name) refl
named-last name (Some s) = go s.trace refl
  where
    with-none : s.trace ≡ None → named name (if_named (Some s)) ≡ if_named (with_trace name (Some s))
    with-none t = simp t refl

    with-some : (m : Text) (b c : Bool) → is_name m ≡ b → is_name name ≡ c → s.trace ≡ Some m → named name (if_named (Some s)) ≡ if_named (with_trace name (Some s))
    with-some m true true e f t = simp (t, e, f) refl
    with-some m true false e f t = simp (t, f) refl
    with-some m false true e f t = simp (t, e, f) refl
    with-some m false false e f t = simp (t, f) refl

    go : (o : Option Text) → s.trace ≡ o → named name (if_named (Some s)) ≡ if_named (with_trace name (Some s))
    go None t = with-none t
    go (Some m) t = with-some m (is_name m) (is_name name) refl refl t

word-last : (word : Text) (s : Option Sorted) → with_word word (if_named s) ≡ if_named (with_word word s)
word-last word None = refl
word-last word (Some s) = go (may_name s.trace) refl
  where
    go : (b : Bool) → may_name s.trace ≡ b → with_word word (if_named (Some s)) ≡ if_named (with_word word (Some s))
    go true e = simp e refl
    go false e = simp e refl

first-name : (word : Text) (b : Bool) (s : Option Sorted) → begins_with_dash word ≡ b → named word (if_named s) ≡ if_named (cond b None (with_trace word s))
first-name word true s e = rw (no_name word e) refl
first-name word false s e = named-last word s

pub and_true : (a b : Bool) → (a && b) ≡ true → (a ≡ true) × (b ≡ true)
and_true true b e = (refl, e)
and_true false b e = cc

by_class : (word : Text) (rest : List Text) → ((names : Bool) → sorted_from names rest ≡ if_named (any_from names rest)) → Class word
    → sorted_from false (word ∷ rest) ≡ if_named (any_from false (word ∷ rest))
by_class word rest ih (bare e) =
    let none = plain_is_none word e in
    rw (none.0, none.1, e, ih false) (word-last word (any_from false rest))
by_class word rest ih (flag e) = subst (λ w. sorted_from false (w ∷ rest) ≡ if_named (any_from false (w ∷ rest))) (sym e) (ih true)
by_class word rest ih (tied name e) = subst (λ w. sorted_from false (w ∷ rest) ≡ if_named (any_from false (w ∷ rest))) (sym e)
    (rw (ih false) (named-last name (any_from false rest)))

pub names_are_last : (names : Bool) (words : List Text) → list_all may_stand words ≡ true → sorted_from names words ≡ if_named (any_from names words)
names_are_last true [] h = refl
names_are_last false [] h = refl
names_are_last true (word ∷ rest) h =
    rw (names_are_last false rest (and_true (may_stand word) (list_all may_stand rest) h).1) (first-name word (begins_with_dash word) (any_from false rest) refl)
names_are_last false (word ∷ rest) h =
    let parts = and_true (may_stand word) (list_all may_stand rest) h in
    by_class word rest (λ b. names_are_last b rest parts.1) (class_of word parts.0)
