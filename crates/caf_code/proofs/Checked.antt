-- A code whose shapes stand in rows, one for each part, keeps the rules if each row and each instruction does.
use Rattle.std.proofs.Common.{◌≡◌, ℕ, zero, suc, ◌+◌, ◌<◌, List, [], ◌∷◌, length, Some, None, sym, ap, subst, ◌∙◌, arith}
use Rattle.std.specs.Prelude.{slice_get, slice_index_or, unwrap_or}
use Rattle.std.specs.List.{AllByRecursion}
use Rattle.std.proofs.lemmas.Option.{none-some}
use Rattle.caf_code.specs.Rules.{IsRight, KeepsRules, LeadOn}
use Rattle.caf_code.specs.Shapes.{Part, Main, Sub, Shape, leads, start_shape}
use Rattle.caf_code.specs.Tables.{Agree, EachInstr, EachRow, EachStart, EachSub, KeepsByTables, Leads, Row, in_rows}
use Rattle.caf_code.specs.declared.instr.Instr.{Instr}
use Rattle.caf_code.specs.declared.listing.Listing.{Listing}
use Rattle.caf_code.specs.declared.listing.SubCode.{SubCode}

same_some : {A : Type 0} (a b : A) → Some a ≡ Some b → a ≡ b
same_some a b e = ap (λ o. unwrap_or o a) e

at_row : (P : ℕ → Instr → Shape → Type 0) (k : ℕ) (row : Row) (is : List Instr) → EachRow P k row is → (a : ℕ) (i : Instr) (h : Shape) → slice_index_or row a None ≡ Some h → slice_get is a ≡ Some i → P (k + a) i h
at_row P k [] is each a i h stands at = absurd (none-some h stands)
at_row P k (x ∷ row) [] each a i h stands at = absurd (none-some i at)
at_row P k (None ∷ row) (j ∷ is) each zero i h stands at = absurd (none-some h stands)
at_row P k (None ∷ row) (j ∷ is) each (suc a) i h stands at = let e : suc k + a ≡ k + suc a = omega arith in subst (λ n. P n i h) e (at_row P (suc k) row is each a i h stands at)
at_row P k (Some g ∷ row) (j ∷ is) each zero i h stands at =
    let e : k ≡ k + zero = omega arith in
    subst (λ n. P n i h) e (subst (λ x. P k i x) (same_some g h stands) (subst (λ x. P k x g) (same_some j i at) each.0))
at_row P k (Some g ∷ row) (j ∷ is) each (suc a) i h stands at = let e : suc k + a ≡ k + suc a = omega arith in subst (λ n. P n i h) e (at_row P (suc k) row is each.1 a i h stands at)

-- the same, where the first address is 0
at_row_of : (P : ℕ → Instr → Shape → Type 0) (row : Row) (is : List Instr) → EachRow P 0 row is → (a : ℕ) (i : Instr) (h : Shape) → slice_index_or row a None ≡ Some h → slice_get is a ≡ Some i → P a i h
at_row_of P row is each a i h stands at = let e : 0 + a ≡ a = omega arith in subst (λ n. P n i h) e (at_row P 0 row is each a i h stands at)

in_row : (P : ℕ → Instr → Shape → Type 0) (k : ℕ) (row : Row) (is : List Instr) → EachRow P k row is → (a : ℕ) (h : Shape) → slice_index_or row a None ≡ Some h → a < length is
in_row P k [] is each a h stands = absurd (none-some h stands)
in_row P k (None ∷ row) [] each zero h stands = absurd (none-some h stands)
in_row P k (None ∷ row) [] each (suc a) h stands = let lt : a < 0 = in_row P (suc k) row [] each a h stands in absurd (omega (arith, lt))
in_row P k (Some g ∷ row) [] each a h stands = absurd each
in_row P k (None ∷ row) (j ∷ is) each zero h stands = omega arith
in_row P k (None ∷ row) (j ∷ is) each (suc a) h stands = let lt : a < length is = in_row P (suc k) row is each a h stands in omega (arith, lt)
in_row P k (Some g ∷ row) (j ∷ is) each zero h stands = omega arith
in_row P k (Some g ∷ row) (j ∷ is) each (suc a) h stands = let lt : a < length is = in_row P (suc k) row is each.1 a h stands in omega (arith, lt)

at_sub : (P : Part → ℕ → Instr → Shape → Type 0) (f : ℕ) (rows : List Row) (is : List Instr) → EachSub P f rows is → (g : ℕ) → EachRow (P (Sub (f + g))) 0 (slice_index_or rows g []) is
at_sub P f [] is each g = tt
at_sub P f (row ∷ rows) is each zero = let e : f ≡ f + zero = omega arith in subst (λ n. EachRow (P (Sub n)) 0 row is) e each.0
at_sub P f (row ∷ rows) is each (suc g) = let e : suc f + g ≡ f + suc g = omega arith in subst (λ n. EachRow (P (Sub n)) 0 (slice_index_or rows g []) is) e (at_sub P (suc f) rows is each.1 g)

at_sub_of : (P : Part → ℕ → Instr → Shape → Type 0) (rows : List Row) (is : List Instr) → EachSub P 0 rows is → (g : ℕ) → EachRow (P (Sub g)) 0 (slice_index_or rows g []) is
at_sub_of P rows is each g = let e : 0 + g ≡ g = omega arith in subst (λ n. EachRow (P (Sub n)) 0 (slice_index_or rows g []) is) e (at_sub P 0 rows is each g)

at_start : (subs : List SubCode) (rows : List Row) → EachStart subs rows → (f : ℕ) (sub : SubCode) → slice_get subs f ≡ Some sub → slice_index_or (slice_index_or rows f []) sub.address None ≡ Some (start_shape 0)
at_start [] rows each f sub at = absurd (none-some sub at)
at_start (s ∷ subs) [] each f sub at = absurd each
at_start (s ∷ subs) (row ∷ rows) each zero sub at = subst (λ (x : SubCode). slice_index_or row x.address None ≡ Some (start_shape 0)) (same_some s sub at) each.0
at_start (s ∷ subs) (row ∷ rows) each (suc f) sub at = at_start subs rows each.1 f sub at

agree_at : (row other : Row) → Agree row other → (a : ℕ) (h k : Shape) → slice_index_or row a None ≡ Some h → slice_index_or other a None ≡ Some k → h ≡ k
agree_at row [] agree a h k stands too = absurd (none-some k too)
agree_at [] (y ∷ other) agree a h k stands too = absurd (none-some h stands)
agree_at (None ∷ row) (y ∷ other) agree zero h k stands too = absurd (none-some h stands)
agree_at (None ∷ row) (y ∷ other) agree (suc a) h k stands too = agree_at row other agree a h k stands too
agree_at (Some g ∷ row) (None ∷ other) agree zero h k stands too = absurd (none-some k too)
agree_at (Some g ∷ row) (None ∷ other) agree (suc a) h k stands too = agree_at row other agree a h k stands too
agree_at (Some g ∷ row) (Some j ∷ other) agree zero h k stands too = sym (same_some g h stands) ∙ agree.0 ∙ same_some j k too
agree_at (Some g ∷ row) (Some j ∷ other) agree (suc a) h k stands too = agree_at row other agree.1 a h k stands too

empty_agrees : (other : Row) → Agree [] other
empty_agrees [] = tt
empty_agrees (y ∷ other) = tt

-- what holds of each row of a list, and of the empty one
of_each : (P : Row → Type 0) → P [] → (rows : List Row) → AllByRecursion P rows → (f : ℕ) → P (slice_index_or rows f [])
of_each P none [] each f = none
of_each P none (row ∷ rows) each zero = each.0
of_each P none (row ∷ rows) each (suc f) = of_each P none rows each.1 f

all_empty : (rows : List Row) → AllByRecursion (Agree []) rows
all_empty [] = tt
all_empty (row ∷ rows) = (empty_agrees row, all_empty rows)

at_instr : (P : ℕ → Instr → Type 0) (k : ℕ) (is : List Instr) → EachInstr P k is → (a : ℕ) (i : Instr) → slice_get is a ≡ Some i → P (k + a) i
at_instr P k [] each a i at = absurd (none-some i at)
at_instr P k (j ∷ is) each zero i at = let e : k ≡ k + zero = omega arith in subst (λ n. P n i) e (subst (P k) (same_some j i at) each.0)
at_instr P k (j ∷ is) each (suc a) i at = let e : suc k + a ≡ k + suc a = omega arith in subst (λ n. P n i) e (at_instr P (suc k) is each.1 a i at)

at_instr_of : (P : ℕ → Instr → Type 0) (is : List Instr) → EachInstr P 0 is → (a : ℕ) (i : Instr) → slice_get is a ≡ Some i → P a i
at_instr_of P is each a i at = let e : 0 + a ≡ a = omega arith in subst (λ n. P n i) e (at_instr P 0 is each a i at)

pub by_tables : (code : Listing) (main : Row) (subs : List Row) → KeepsByTables code main subs → KeepsRules code
by_tables code main subs kept = record {
  objects = kept.objects;
  instrs = at_instr_of (IsRight code) code.instrs kept.instrs;
  shapes = in_rows main subs;
  shaped = record {
    main = kept.start;
    subs = at_start code.subs subs kept.starts;
    inside = inside;
    leading = leading;
    agreeing = agreeing;
  };
} where
  inside : (p : Part) (a : ℕ) (h : Shape) → in_rows main subs p a ≡ Some h → a < length code.instrs
  inside Main a h stands = in_row (Leads code main subs Main) 0 main code.instrs kept.of_main a h stands
  inside (Sub f) a h stands = in_row (Leads code main subs (Sub f)) 0 (slice_index_or subs f []) code.instrs (at_sub_of (Leads code main subs) subs code.instrs kept.of_subs f) a h stands

  leading : (p : Part) (a : ℕ) (h : Shape) (i : Instr) → in_rows main subs p a ≡ Some h → slice_get code.instrs a ≡ Some i → LeadOn (in_rows main subs) p (leads code p a i h)
  leading Main a h i stands at = at_row_of (Leads code main subs Main) main code.instrs kept.of_main a i h stands at
  leading (Sub f) a h i stands at = at_row_of (Leads code main subs (Sub f)) (slice_index_or subs f []) code.instrs (at_sub_of (Leads code main subs) subs code.instrs kept.of_subs f) a i h stands at

  agreeing : (p q : Part) (a : ℕ) (h k : Shape) → in_rows main subs p a ≡ Some h → in_rows main subs q a ≡ Some k → h ≡ k
  agreeing Main Main a h k stands too = same_some h k (sym stands ∙ too)
  agreeing Main (Sub f) a h k stands too = agree_at main (slice_index_or subs f []) (of_each (Agree main) tt subs kept.apart f) a h k stands too
  agreeing (Sub f) Main a h k stands too = sym (agree_at main (slice_index_or subs f []) (of_each (Agree main) tt subs kept.apart f) a k h too stands)
  agreeing (Sub f) (Sub g) a h k stands too =
      agree_at (slice_index_or subs f []) (slice_index_or subs g [])
      (of_each (Agree (slice_index_or subs f [])) tt subs (of_each (λ row. AllByRecursion (Agree row) subs) (all_empty subs) subs kept.between f) g) a h k stands too
