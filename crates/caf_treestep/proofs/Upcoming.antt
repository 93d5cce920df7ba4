-- The element that lists of reads read next, one list after another.
use Rattle.std.proofs.Common.{◌≡◌, ℕ, zero, suc, ◌+◌, ◌-◌, ◌<◌, List, [], ◌∷◌, ◌++◌, length, length-append, drop, get_or, Option, Some, None, Result, refl, sym, ap, ◌∙◌, subst, arith, slice_get}
use Rattle.std.proofs.Math.Seq.{drop-cons}
use Rattle.caf_base.specs.ImageMemory.{ImageMemory}
use Rattle.caf_base.specs.declared.operation.Section.{Section}
use Rattle.caf_base.specs.declared.trap.Trap.{Trap}
use Rattle.caf_program.specs.Seen.{Seen}
use Rattle.caf_program.specs.Value.{Meaning, Read, chain_reads, count, counts, layer, meaning, operands, reads_at, value_at}
use Rattle.caf_program.specs.declared.expr.ExprR.{ExprR}
use Rattle.caf_program.specs.declared.expr.ExprR.TheOpen.{ExprR-F}
use Rattle.caf_program.specs.declared.expr.ExprR.TheFolds.{fold-roll-ExprR}
use Rattle.caf_program.specs.declared.expr.ExprR.TheViews.{roll-ExprR}
use Rattle.caf_program.specs.declared.expr.PlaceR.{PlaceR}
use Rattle.caf_program.specs.declared.expr.TeamR.{TeamR}
use Rattle.caf_base.specs.declared.arithmetic.BinaryOperator.{BinaryOperator}
use Rattle.caf_program.specs.Expressions.{count_all, reads_all}
use Rattle.caf_treestep.specs.Reading.{next_read, section_if}
use Rattle.caf_treestep.specs.Step.{read_section}

-- the first, or else the second
abbrev pub or_else : {A : Type 0} → Option A → Option A → Option A
or_else (Some x) y = Some x
or_else None y = y

from_start : (ys : List Read) (n : ℕ) → slice_get ys n ≡ slice_get ys (n - 0)
from_start ys n = let e : n ≡ n - 0 = omega arith in ap (λ k. slice_get ys k) e

get_both : (xs ys : List Read) (n : ℕ) → slice_get (xs ++ ys) n ≡ or_else (slice_get xs n) (slice_get ys (n - length xs))
get_both [] ys n = from_start ys n
get_both (x ∷ xs) ys zero = refl
get_both (x ∷ xs) ys (suc n) =
    let e : n - length xs ≡ suc n - suc (length xs) = omega arith in
    get_both xs ys n ∙ ap (λ k. or_else (slice_get xs n) (slice_get ys k)) e

section_both : (a b : Option Read) (s : Seen) (m : ImageMemory) → section_if (or_else a b) s m ≡ or_else (section_if a s m) (section_if b s m)
section_both None b s m = refl
section_both (Some r) b s m = refl

-- the next of two lists
pub next_both : (xs ys : List Read) (at n : ℕ) (s : Seen) (m : ImageMemory) → length xs ≡ n → next_read (xs ++ ys) at s m ≡ or_else (next_read xs at s m) (next_read ys (at + n) s m)
next_both xs ys at n s m counted =
    let k = length s.held - at in
    let e : k - length xs ≡ length s.held - (at + n) = omega (arith, counted) in
    ap (λ r. section_if r s m) (get_both xs ys k)
    ∙ section_both (slice_get xs k) (slice_get ys (k - length xs)) s m
    ∙ ap (λ j. or_else (next_read xs at s m) (section_if (slice_get ys j) s m)) e

first_two : {A : Type 0} (a b c : Option A) → or_else (or_else a b) c ≡ or_else a (or_else b c)
first_two None b c = refl
first_two (Some x) b c = refl

-- one read, whose value is the next that isn't held
pub next_here : (r : Read) (at : ℕ) (s : Seen) (m : ImageMemory) → at ≡ length s.held → next_read (r ∷ []) at s m ≡ Some (read_section r s m)
next_here r at s m here =
    let e : length s.held - at ≡ 0 = omega (arith, here) in
    ap (λ j. section_if (slice_get (r ∷ []) j) s m) e

-- one read, whose value is held
pub next_past : (r : Read) (at : ℕ) (s : Seen) (m : ImageMemory) → at < length s.held → next_read (r ∷ []) at s m ≡ None
next_past r at s m past =
    let k = length s.held - at - 1 in
    let e : length s.held - at ≡ suc k = omega (arith, past) in
    ap (λ j. section_if (slice_get (r ∷ []) j) s m) e

-- each expression has a read for each value that it holds
abbrev pub AreListed : Type 0
AreListed = (es : List ExprR) (at : ℕ) → length (reads_all es at) ≡ count_all es

listed : AreListed → (e : ExprR) (at : ℕ) → length (reads_at e at) ≡ count e
listed all e at = omega (arith, all (e ∷ []) at, length-append (reads_at e at) (reads_all [] (at + count e)))

-- what an expression reads next, by its parts
pub coindexed_next : AreListed → (e : ExprR) (o : ℕ) (i : ExprR) (p : PlaceR ExprR) (at : ℕ) (s : Seen) (m : ImageMemory) → e ≡ roll-ExprR (ExprR-F.Coindexed o i p)
    → next_read (reads_at e at) at s m ≡ or_else (next_read (reads_at i at) at s m) (or_else (next_read (reads_at p.rank (at + count i)) (at + count i) s m) (next_read (Read.Coindexed o p.team (value_at i at) (value_at p.rank (at + count i)) ∷ []) (at + count i + count p.rank) s m))
coindexed_next all e o i p at s m is =
    let a = reads_at i at in
    let b = reads_at p.rank (at + count i) in
    let c : List Read = Read.Coindexed o p.team (value_at i at) (value_at p.rank (at + count i)) ∷ [] in
    let reads : reads_at e at ≡ a ++ b ++ c = ap (λ x. reads_at x at) is ∙ ap (λ (x : Meaning). x.reads at) (fold-roll-ExprR Meaning layer (ExprR-F.Coindexed o i p)) in
    let two : length (a ++ b) ≡ count i + count p.rank = length-append a b ∙ ap (λ n. n + length b) (listed all i at) ∙ ap (λ n. count i + n) (listed all p.rank (at + count i)) in
    ap (λ r. next_read r at s m) reads
    ∙ next_both (a ++ b) c at (count i + count p.rank) s m two
    ∙ ap (λ x. or_else x (next_read c (at + (count i + count p.rank)) s m)) (next_both a b at (count i) s m (listed all i at))
    ∙ first_two (next_read a at s m) (next_read b (at + count i) s m) (next_read c (at + (count i + count p.rank)) s m)
    ∙ (let e : at + (count i + count p.rank) ≡ at + count i + count p.rank = omega arith in ap (λ n. or_else (next_read a at s m) (or_else (next_read b (at + count i) s m) (next_read c n s m))) e)

pub pointed_next : AreListed → (e : ExprR) (c : ℕ) (i : ExprR) (at : ℕ) (s : Seen) (m : ImageMemory) → e ≡ roll-ExprR (ExprR-F.Pointed c i)
    → next_read (reads_at e at) at s m ≡ or_else (next_read (reads_at i at) at s m) (next_read (Read.Pointed c (value_at i at) ∷ []) (at + count i) s m)
pointed_next all e c i at s m is =
    let here : List Read = Read.Pointed c (value_at i at) ∷ [] in
    let reads : reads_at e at ≡ reads_at i at ++ here = ap (λ x. reads_at x at) is ∙ ap (λ (x : Meaning). x.reads at) (fold-roll-ExprR Meaning layer (ExprR-F.Pointed c i)) in
    ap (λ r. next_read r at s m) reads ∙ next_both (reads_at i at) here at (count i) s m (listed all i at)

pub chain_next : AreListed → (e a : ExprR) (rest : List (BinaryOperator × ExprR)) (at : ℕ) (s : Seen) (m : ImageMemory) → e ≡ roll-ExprR (ExprR-F.Chain a rest)
    → next_read (reads_at e at) at s m ≡ or_else (next_read (reads_at a at) at s m) (next_read (chain_reads (operands rest) (at + count a)) (at + count a) s m)
chain_next all e a rest at s m is =
    let reads : reads_at e at ≡ reads_at a at ++ chain_reads (operands rest) (at + count a) = ap (λ x. reads_at x at) is ∙ ap (λ (x : Meaning). x.reads at) (fold-roll-ExprR Meaning layer (ExprR-F.Chain a rest)) in
    ap (λ r. next_read r at s m) reads ∙ next_both (reads_at a at) (chain_reads (operands rest) (at + count a)) at (count a) s m (listed all a at)

-- how many values operators with their operands hold
pub chain_count : (e a : ExprR) (rest : List (BinaryOperator × ExprR)) → e ≡ roll-ExprR (ExprR-F.Chain a rest) → count e ≡ count a + counts (operands rest)
chain_count e a rest is = ap count is ∙ ap (λ (x : Meaning). x.count) (fold-roll-ExprR Meaning layer (ExprR-F.Chain a rest))

pub operands_next : AreListed → (p : BinaryOperator × ExprR) (rest : List (BinaryOperator × ExprR)) (at : ℕ) (s : Seen) (m : ImageMemory)
    → next_read (chain_reads (operands (p ∷ rest)) at) at s m ≡ or_else (next_read (reads_at p.1 at) at s m) (next_read (chain_reads (operands rest) (at + count p.1)) (at + count p.1) s m)
operands_next all p rest at s m = next_both (reads_at p.1 at) (chain_reads (operands rest) (at + count p.1)) at (count p.1) s m (listed all p.1 at)

pub all_next : AreListed → (e : ExprR) (rest : List ExprR) (at : ℕ) (s : Seen) (m : ImageMemory)
    → next_read (reads_all (e ∷ rest) at) at s m ≡ or_else (next_read (reads_at e at) at s m) (next_read (reads_all rest (at + count e)) (at + count e) s m)
all_next all e rest at s m = next_both (reads_at e at) (reads_all rest (at + count e)) at (count e) s m (listed all e at)

-- what is found by a part that is `got` is what the part reads next
pub found_by : (got i : ExprR) (at n : ℕ) (s : Seen) (m : ImageMemory) (found x : Option (Result Section Trap)) → got ≡ i → at ≡ n → found ≡ next_read (reads_at got at) at s m → found ≡ x → next_read (reads_at i n) n s m ≡ x
found_by got i at n s m found x got_is at_is read is = sym (ap (λ e. next_read (reads_at e n) n s m) got_is) ∙ sym (ap (λ k. next_read (reads_at got k) k s m) at_is) ∙ sym read ∙ is

-- the first of two reads, and the second where the first finds none
pub by_first : {A : Type 0} (x a b : Option A) (r : Option A) → x ≡ or_else a b → a ≡ r → or_else r b ≡ x
by_first x a b r is first = ap (λ y. or_else y b) (sym first) ∙ sym is

-- the section of an element, by the parts of its expression
pub coindexed_same : (o : ℕ) (t : TeamR) (i j k l : ExprR) (at : ℕ) (s : Seen) (m : ImageMemory) → j ≡ i → l ≡ k → read_section (Read.Coindexed o t (value_at j at) (value_at l (at + count j))) s m ≡ read_section (Read.Coindexed o t (value_at i at) (value_at k (at + count i))) s m
coindexed_same o t i j k l at s m first second =
    ap (λ x. read_section (Read.Coindexed o t (value_at x at) (value_at l (at + count x))) s m) first
    ∙ ap (λ x. read_section (Read.Coindexed o t (value_at i at) (value_at x (at + count i))) s m) second

pub pointed_same : (c : ℕ) (i j : ExprR) (at : ℕ) (s : Seen) (m : ImageMemory) → j ≡ i → read_section (Read.Pointed c (value_at j at)) s m ≡ read_section (Read.Pointed c (value_at i at)) s m
pointed_same c i j at s m is = ap (λ x. read_section (Read.Pointed c (value_at x at)) s m) is

-- the first of what is left of a list
pub drop_item : {A : Type 0} (l : List A) (i : ℕ) (x : A) → i < length l → x ≡ get_or l i x → drop i l ≡ x ∷ drop (i + 1) l
drop_item l i x within is =
    let e : suc i ≡ i + 1 = omega arith in
    drop-cons l i x within ∙ ap (λ y. y ∷ drop (suc i) l) (sym is) ∙ ap (λ n. x ∷ drop n l) e
