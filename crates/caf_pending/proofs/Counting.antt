-- How many operations pass a test, before a change and after it.
use Rattle.std.proofs.Common.{◌≡◌, ◌∙◌, ℕ, ℤ, suc, ◌+◌, ◌-◌, ◌<◌, ◌≤◌, Bool, true, false, not, cond, ◌&&◌, ◌||◌, nat_eq, nat_lt, is_some, List, [], ◌∷◌, length, find, position, Option, Some, None, refl, sym, ap, subst, true≢false, arith}
use Rattle.std.proofs.Math.ListN.{get_or}
use Rattle.std.proofs.lemmas.Bool.{ne_eqb, ltb-false}
use Rattle.std.proofs.lemmas.List.Quantifiers.{position-Some}
use Rattle.std.proofs.lemmas.List.Recursion.{is_sum_by, found_at}
use Rattle.std.proofs.lemmas.List.Sums.{sum_by-swap_remove}
use Rattle.std.specs.List.{list_any, sum_by, swap_remove, position_or_len}
use Rattle.std.specs.Option.{option_map_or}
use Rattle.indexmap.specs.IndexMap.{swap_remove_by}
use Rattle.caf_base.specs.declared.operation.OpName.{OpName}
use Rattle.caf_pending.specs.declared.operation.Operation.{Operation}
use Rattle.caf_pending.specs.Pending.{is_named, with_operation, without, passed, passed_by}
use Rattle.caf_pending.specs.Open.{one}
use Rattle.caf_pending.specs.Kept.{how_many}

-- one, if there is an operation and it passes
abbrev pub one_in : (Operation → Bool) → Option Operation → ℕ
one_in p None = 0
one_in p (Some op) = one (p op)

pub no_more : {A : Type 0} (p : A → Bool) (xs : List A) → how_many p xs ≤ length xs
no_more p [] = omega arith
no_more p (x ∷ xs) = go (p x) (no_more p xs)
  where
    go : (b : Bool) → how_many p xs ≤ length xs → one b + how_many p xs ≤ suc (length xs)
    go true more = omega arith
    go false more = omega arith

-- none is counted where none passes
pub none_counted : {A : Type 0} (p : A → Bool) (xs : List A) → nat_eq (how_many p xs) 0 ≡ not (list_any p xs)
none_counted p [] = refl
none_counted p (x ∷ xs) = go (p x) (none_counted p xs)
  where
    go : (b : Bool) → nat_eq (how_many p xs) 0 ≡ not (list_any p xs) → nat_eq (one b + how_many p xs) 0 ≡ not (b || list_any p xs)
    go true more = ne_eqb (1 + how_many p xs) 0 (λ e. absurd (omega arith))
    go false more =
        let same : 0 + how_many p xs ≡ how_many p xs = omega arith in
        ap (λ n. nat_eq n 0) same ∙ more

module _ (p : Operation → Bool) where
  put_counts : (op : Operation) (ops : List Operation) → how_many p (with_operation op ops) + one_in p (find (is_named op.name) ops) ≡ how_many p ops + one (p op)
  put_counts op [] = omega arith
  put_counts op (x ∷ ops) = go (is_named op.name x) (put_counts op ops)
    where
      go : (b : Bool) → how_many p (with_operation op ops) + one_in p (find (is_named op.name) ops) ≡ how_many p ops + one (p op) →
          how_many p (cond b (op ∷ ops) (x ∷ with_operation op ops)) + one_in p (cond b (Some x) (find (is_named op.name) ops)) ≡ (one (p x) + how_many p ops) + one (p op)
      go true more = omega arith
      go false more = omega arith

  summed : (ops : List Operation) → how_many p ops ≡ sum_by (λ op. one (p op)) ops
  summed = is_sum_by (how_many p) (λ op. one (p op)) refl (λ _ _. refl)

  none_passes : (t : Operation → Bool) (ops : List Operation) → length ops ≤ position_or_len t ops → find t ops ≡ None
  none_passes t [] far = refl
  none_passes t (x ∷ xs) far = go (t x) far (none_passes t xs)
    where
      go : (b : Bool) → suc (length xs) ≤ cond (not b) (1 + position_or_len t xs) 0 → (length xs ≤ position_or_len t xs → find t xs ≡ None) → cond b (Some x) (find t xs) ≡ None
      go true far more = absurd (omega arith)
      go false far more = more (omega arith)

  absent : (t : Operation → Bool) (ops : List Operation) → position t ops ≡ None → find t ops ≡ None
  absent t ops is = none_passes t ops (go (nat_lt (position_or_len t ops) (length ops)) refl is)
    where
      go : (b : Bool) → nat_lt (position_or_len t ops) (length ops) ≡ b → cond b (Some (position_or_len t ops)) None ≡ None → length ops ≤ position_or_len t ops
      go true e is = absurd (true≢false (ap is_some is))
      go false e is = ltb-false (position_or_len t ops) (length ops) e

  present : (t : Operation → Bool) (ops : List Operation) (i : ℕ) (d : Operation) → position t ops ≡ Some i → (i < length ops) × (find t ops ≡ Some (get_or ops i d))
  present t ops i d is =
      let parts = position-Some t ops i d is in
      (parts.0, found_at (find t) t Some None refl (λ _ _. refl) ops i d parts.0 parts.2 parts.1)

  without_counts : (t : Operation → Bool) (ops : List Operation) → how_many p (swap_remove_by t ops) + one_in p (find t ops) ≡ how_many p ops
  without_counts t [] = omega arith
  without_counts t (x ∷ xs) = go (position t (x ∷ xs)) refl
    where
      all : List Operation
      all = x ∷ xs

      go : (r : Option ℕ) → position t (x ∷ xs) ≡ r → how_many p (option_map_or (λ i. swap_remove (x ∷ xs) i x) r (x ∷ xs)) + one_in p (find t (x ∷ xs)) ≡ how_many p (x ∷ xs)
      go None is = omega (arith, ap (one_in p) (absent t (x ∷ xs) is))
      go (Some i) is =
          let at = present t (x ∷ xs) i x is in
          omega (arith, ap (one_in p) at.1, sum_by-swap_remove (λ op. one (p op)) (x ∷ xs) i x at.0, summed (swap_remove (x ∷ xs) i x), summed (x ∷ xs))

  -- whether it passes now, and doesn't any more once it has gone on
  abbrev pub ends : Option (List ℤ) → Operation → Bool
  ends values op = p op && not (p (passed values op))

  module _ (values : Option (List ℤ)) (falls : (op : Operation) → p (passed values op) ≡ true → p op ≡ true) where
    ends_one : (op : Operation) → one (p (passed values op)) + one (ends values op) ≡ one (p op)
    ends_one op = go (p op) (p (passed values op)) (falls op)
      where
        go : (b a : Bool) → (a ≡ true → b ≡ true) → one a + one (b && not a) ≡ one b
        go true true f = omega arith
        go true false f = omega arith
        go false true f = absurd (true≢false (sym (f refl)))
        go false false f = omega arith

    pass_counts : (name : OpName) (ops : List Operation) → how_many p (passed_by values name ops) + one_in (ends values) (find (is_named name) ops) ≡ how_many p ops
    pass_counts name [] = omega arith
    pass_counts name (x ∷ ops) = go (is_named name x) (pass_counts name ops)
      where
        go : (b : Bool) → how_many p (passed_by values name ops) + one_in (ends values) (find (is_named name) ops) ≡ how_many p ops →
            how_many p (cond b (passed values x ∷ ops) (x ∷ passed_by values name ops)) + one_in (ends values) (cond b (Some x) (find (is_named name) ops)) ≡ one (p x) + how_many p ops
        go true more = omega (arith, ends_one x)
        go false more = omega arith

-- counts by key, before a change and after it
module _ (p : ℕ × ℕ → Operation → Bool) (ops : List Operation) (before : ℕ × ℕ → ℕ) (right : (k : ℕ × ℕ) → before k ≡ how_many (p k) ops) where
  pub put_new : (op : Operation) (after : ℕ × ℕ → ℕ) → ((k : ℕ × ℕ) → after k ≡ before k + one (p k op)) → find (is_named op.name) ops ≡ None → (k : ℕ × ℕ) → after k ≡ how_many (p k) (with_operation op ops)
  put_new op after more none k = omega (arith, put_counts (p k) op ops, right k, more k, ap (one_in (p k)) none)

  pub put_over : (op old : Operation) (middle after : ℕ × ℕ → ℕ) → ((k : ℕ × ℕ) → middle k ≡ before k + one (p k op)) → ((k : ℕ × ℕ) → after k ≡ middle k - one (p k old)) → find (is_named op.name) ops ≡ Some old →
      (k : ℕ × ℕ) → after k ≡ how_many (p k) (with_operation op ops)
  put_over op old middle after more less some k = omega (arith, put_counts (p k) op ops, right k, more k, less k, ap (one_in (p k)) some)

  pub taken : (name : OpName) (old : Operation) (after : ℕ × ℕ → ℕ) → ((k : ℕ × ℕ) → after k ≡ before k - one (p k old)) → find (is_named name) ops ≡ Some old → (k : ℕ × ℕ) → after k ≡ how_many (p k) (without name ops)
  taken name old after less some k = omega (arith, without_counts (p k) (is_named name) ops, right k, less k, ap (one_in (p k)) some)

  pub gone_on : (values : Option (List ℤ)) (name : OpName) (old : Operation) (after : ℕ × ℕ → ℕ) → ((k : ℕ × ℕ) (op : Operation) → p k (passed values op) ≡ true → p k op ≡ true) →
      ((k : ℕ × ℕ) → after k ≡ before k - one (ends (p k) values old)) → find (is_named name) ops ≡ Some old → (k : ℕ × ℕ) → after k ≡ how_many (p k) (passed_by values name ops)
  gone_on values name old after falls less some k = omega (arith, pass_counts (p k) values (falls k) name ops, right k, less k, ap (one_in (ends (p k) values)) some)
