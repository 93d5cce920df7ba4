-- How many operations of a name there are, before a change and after it.
use Rattle.std.proofs.Common.{◌≡◌, ℕ, ℤ, ◌+◌, ◌≤◌, Bool, true, false, cond, List, [], ◌∷◌, count_by, position, Option, Some, None, refl, arith}
use Rattle.std.proofs.lemmas.List.Quantifiers.{position-Some}
use Rattle.std.proofs.lemmas.List.Sums.{sum_by-cons, sum_by-swap_remove}
use Rattle.std.specs.List.{swap_remove}
use Rattle.std.specs.Option.{option_map_or}
use Rattle.caf_base.specs.declared.operation.OpName.{OpName}
use Rattle.caf_pending.specs.declared.operation.Operation.{Operation}
use Rattle.caf_pending.specs.Pending.{is_named, operation_named, passed, passed_by, with_operation, without}
use Rattle.caf_source.specs.Next.{without_ship}

-- one, where the operation has the name
abbrev pub one_of : OpName → Operation → ℕ
one_of name op = cond (is_named name op) 1 0

abbrev pub how_many : OpName → List Operation → ℕ
how_many name ops = count_by (is_named name) ops

module _ (name : OpName) where
  first : (op : Operation) (ops : List Operation) → how_many name (op ∷ ops) ≡ one_of name op + how_many name ops
  first = sum_by-cons (one_of name)

  -- at most one more
  pub put : (op : Operation) (ops : List Operation) → how_many name (with_operation op ops) ≤ one_of name op + how_many name ops
  put op [] = omega (arith, first op [])
  put op (x ∷ ops) = go (is_named op.name x) (put op ops)
    where
      go : (b : Bool) → how_many name (with_operation op ops) ≤ one_of name op + how_many name ops →
          how_many name (cond b (op ∷ ops) (x ∷ with_operation op ops)) ≤ one_of name op + how_many name (x ∷ ops)
      go true more = omega (arith, first op ops, first x ops)
      go false more = omega (arith, more, first x (with_operation op ops), first x ops)

  pub taken : (other : OpName) (ops : List Operation) → how_many name (without other ops) ≤ how_many name ops
  taken other [] = omega arith
  taken other (x ∷ ops) = go (position (is_named other) (x ∷ ops)) refl
    where
      go : (r : Option ℕ) → position (is_named other) (x ∷ ops) ≡ r → how_many name (option_map_or (λ i. swap_remove (x ∷ ops) i x) r (x ∷ ops)) ≤ how_many name (x ∷ ops)
      go None is = omega arith
      go (Some i) is = omega (arith, sum_by-swap_remove (one_of name) (x ∷ ops) i x (position-Some (is_named other) (x ∷ ops) i x is).0)

  pub ship_taken : (ship : Option OpName) (ops : List Operation) → how_many name (without_ship ship ops) ≤ how_many name ops
  ship_taken None ops = omega arith
  ship_taken (Some other) ops = taken other ops

  named_as_before : (values : Option (List ℤ)) (op : Operation) → one_of name (passed values op) ≡ one_of name op
  named_as_before None op = refl
  named_as_before (Some values) op = refl

  pub gone_on : (values : Option (List ℤ)) (other : OpName) (ops : List Operation) → how_many name (passed_by values other ops) ≤ how_many name ops
  gone_on values other [] = omega arith
  gone_on values other (x ∷ ops) = go (is_named other x) (gone_on values other ops)
    where
      go : (b : Bool) → how_many name (passed_by values other ops) ≤ how_many name ops →
          how_many name (cond b (passed values x ∷ ops) (x ∷ passed_by values other ops)) ≤ how_many name (x ∷ ops)
      go true more = omega (arith, first (passed values x) ops, first x ops, named_as_before values x)
      go false more = omega (arith, more, first x (passed_by values other ops), first x ops)

  -- where none is counted, none is found
  pub none_found : (ops : List Operation) → how_many name ops ≡ 0 → operation_named name ops ≡ None
  none_found [] none = refl
  none_found (x ∷ ops) none = go (is_named name x) (omega (arith, none, first x ops)) (none_found ops)
    where
      go : (b : Bool) → cond b 1 0 + how_many name ops ≡ 0 → (how_many name ops ≡ 0 → operation_named name ops ≡ None) → cond b (Some x) (operation_named name ops) ≡ None
      go true is more = absurd (omega (arith, is))
      go false is more = more (omega (arith, is))
