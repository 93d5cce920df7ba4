-- Operations under their names: what is done to the entries of a map is done to the list of operations.
use Rattle.std.proofs.Common.{◌≡◌, ◌∙◌, ℕ, ℤ, suc, ◌+◌, ◌-◌, ◌<◌, Bool, true, false, not, cond, ◌&&◌, nat_eq, nat_lt, is_some, List, [], ◌∷◌, length, map, take, find, position, slice_get, Option, Some, None, refl, sym, ap, subst, true≢false}
use Rattle.std.proofs.Math.ListN.{set, get_or, get_or-map}
use Rattle.std.proofs.lemmas.Bool.{eqb-true, and_parts}
use Rattle.std.proofs.lemmas.List.{length-map, map-set, take-map}
use Rattle.std.proofs.lemmas.Option.{slice_get-map}
use Rattle.std.specs.Cmp.{nat_eq_equiv}
use Rattle.std.specs.List.{position_or_len, swap_remove}
use Rattle.std.specs.Map.{keys_of, values_of, lookup, set_value}
use Rattle.std.specs.Option.{option_map_or}
use Rattle.indexmap.specs.IndexMap.{insert_entry, swap_remove_entry}
use Rattle.caf_base.specs.declared.operation.OpName.{OpName}
use Rattle.caf_pending.specs.declared.operation.Operation.{Operation}
use Rattle.caf_pending.specs.Pending.{is_named, operation_named, with_operation, without, passed, passed_by}
use Rattle.caf_pending.specs.Open.{same_key}
use Rattle.caf_pending.specs.Kept.{name_key, with_name}

abbrev pub key_of : OpName → ℕ × ℕ
key_of name = (name.image, name.number)

abbrev pub Entries : Type 0
Entries = List ((ℕ × ℕ) × Operation)

key_is : (a b : ℕ × ℕ) → same_key a b ≡ true → a ≡ b
key_is a b same =
    let parts = and_parts (nat_eq a.0 b.0) (nat_eq a.1 b.1) same in
    let e0 : a.0 ≡ b.0 = eqb-true a.0 b.0 parts.0 in
    let e1 : a.1 ≡ b.1 = eqb-true a.1 b.1 parts.1 in
    λ j. (e0 j, e1 j)

-- a look-up's test of a key is that of the name
pub test_is : (name : OpName) (op : Operation) → same_key (key_of name) (name_key op) ≡ is_named name op
test_is name op =
    let image : nat_eq name.image op.name.image ≡ nat_eq op.name.image name.image = nat_eq_equiv.symm name.image op.name.image in
    let number : nat_eq name.number op.name.number ≡ nat_eq op.name.number name.number = nat_eq_equiv.symm name.number op.name.number in
    λ j. image j && number j

found : (name : OpName) (ops : List Operation) → lookup (same_key (key_of name)) (map with_name ops) ≡ find (is_named name) ops
found name [] = refl
found name (op ∷ ops) =
    ap (λ b. cond b (Some op) (lookup (same_key (key_of name)) (map with_name ops))) (test_is name op)
    ∙ ap (λ r. cond (is_named name op) (Some op) r) (found name ops)

first_place : (name : OpName) (ops : List Operation) → position_or_len (same_key (key_of name)) (keys_of (map with_name ops)) ≡ position_or_len (is_named name) ops
first_place name [] = refl
first_place name (op ∷ ops) =
    ap (λ b. cond (not b) (1 + position_or_len (same_key (key_of name)) (keys_of (map with_name ops))) 0) (test_is name op)
    ∙ ap (λ n. cond (not (is_named name op)) (1 + n) 0) (first_place name ops)

place : (name : OpName) (ops : List Operation) → position (same_key (key_of name)) (keys_of (map with_name ops)) ≡ position (is_named name) ops
place name ops =
    let many : length (keys_of (map with_name ops)) ≡ length ops = length-map (map with_name ops) (λ e. e.0) ∙ length-map ops with_name in
    let first = first_place name ops in
    λ j. cond (nat_lt (first j) (many j)) (Some (first j)) None

out : (all : List Operation) (d : Operation) (r : Option ℕ) → option_map_or (λ i. swap_remove (map with_name all) i (with_name d)) r (map with_name all) ≡ map with_name (option_map_or (λ i. swap_remove all i d) r all)
out all d None = refl
out all d (Some i) =
    ap (λ n. take (n - 1) (set (map with_name all) i (get_or (map with_name all) (n - 1) (with_name d)))) (length-map all with_name)
    ∙ ap (λ e. take (length all - 1) (set (map with_name all) i e)) (get_or-map with_name all (length all - 1) d)
    ∙ ap (take (length all - 1)) (sym (map-set with_name all i (get_or all (length all - 1) d)))
    ∙ take-map with_name (length all - 1) (set all i (get_or all (length all - 1) d))

swapped : (name : OpName) (ops : List Operation) → swap_remove_entry (same_key (key_of name)) (map with_name ops) ≡ map with_name (without name ops)
swapped name [] = refl
swapped name (op ∷ ops) =
    let all : List Operation = op ∷ ops in
    ap (λ r. option_map_or (λ i. swap_remove (map with_name all) i (with_name op)) r (map with_name all)) (place name all)
    ∙ out all op (position (is_named name) all)

inserted : (op : Operation) (ops : List Operation) → insert_entry same_key (map with_name ops) (name_key op) op ≡ map with_name (with_operation op ops)
inserted op [] = refl
inserted op (x ∷ ops) = go (same_key (name_key op) (name_key x)) refl (is_named op.name x) (test_is op.name x) (inserted op ops)
  where
    go : (b : Bool) → same_key (name_key op) (name_key x) ≡ b → (c : Bool) → b ≡ c → insert_entry same_key (map with_name ops) (name_key op) op ≡ map with_name (with_operation op ops) →
        cond b ((name_key x, op) ∷ map with_name ops) (with_name x ∷ insert_entry same_key (map with_name ops) (name_key op) op) ≡ map with_name (cond c (op ∷ ops) (x ∷ with_operation op ops))
    go true is true e more = ap (λ k. (k, op) ∷ map with_name ops) (sym (key_is (name_key op) (name_key x) is))
    go true is false e more = absurd (true≢false e)
    go false is true e more = absurd (true≢false (sym e))
    go false is false e more = ap (λ l. with_name x ∷ l) more

-- a stage leaves the name
name_stays : (values : Option (List ℤ)) (op : Operation) → name_key (passed values op) ≡ name_key op
name_stays None op = refl
name_stays (Some values) op = refl

written : (values : Option (List ℤ)) (name : OpName) (ops : List Operation) (old : Operation) → find (is_named name) ops ≡ Some old →
    set_value (same_key (key_of name)) (map with_name ops) (passed values old) ≡ map with_name (passed_by values name ops)
written values name [] old at = refl
written values name (op ∷ ops) old at = go (same_key (key_of name) (name_key op)) (is_named name op) (test_is name op) at (written values name ops old)
  where
    go : (b c : Bool) → b ≡ c → cond c (Some op) (find (is_named name) ops) ≡ Some old →
        (find (is_named name) ops ≡ Some old → set_value (same_key (key_of name)) (map with_name ops) (passed values old) ≡ map with_name (passed_by values name ops)) →
        cond b ((name_key op, passed values old) ∷ map with_name ops) (with_name op ∷ set_value (same_key (key_of name)) (map with_name ops) (passed values old))
        ≡ map with_name (cond c (passed values op ∷ ops) (op ∷ passed_by values name ops))
    go true true e is more =
        let same : op ≡ old = cc in
        ap (λ o. (name_key op, passed values o) ∷ map with_name ops) (sym same) ∙ ap (λ k. (k, passed values op) ∷ map with_name ops) (sym (name_stays values op))
    go true false e is more = absurd (true≢false e)
    go false true e is more = absurd (true≢false (sym e))
    go false false e is more = ap (λ l. with_name op ∷ l) (more is)

unpassed : (values : Option (List ℤ)) (name : OpName) (ops : List Operation) → find (is_named name) ops ≡ None → passed_by values name ops ≡ ops
unpassed values name [] none = refl
unpassed values name (op ∷ ops) none = go (is_named name op) none (unpassed values name ops)
  where
    go : (b : Bool) → cond b (Some op) (find (is_named name) ops) ≡ None → (find (is_named name) ops ≡ None → passed_by values name ops ≡ ops) → cond b (passed values op ∷ ops) (op ∷ passed_by values name ops) ≡ op ∷ ops
    go true is more = absurd (true≢false (ap is_some is))
    go false is more = ap (λ l. op ∷ l) (more is)

-- the operations of entries that stand under their names
pub values-with_name : (ops : List Operation) → values_of (map with_name ops) ≡ ops
values-with_name [] = refl
values-with_name (op ∷ ops) = ap (λ l. op ∷ l) (values-with_name ops)

-- entries that stand under their names
abbrev pub AreNamed : Entries → List Operation → Type 0
AreNamed es ops = es ≡ map with_name ops

pub named_by : (es : Entries) (ops : List Operation) → es ≡ map with_name (values_of es) → values_of es ≡ ops → AreNamed es ops
named_by es ops named view = named ∙ ap (map with_name) view

module _ (name : OpName) (es : Entries) (ops : List Operation) (named : AreNamed es ops) where
  pub found_in : lookup (same_key (key_of name)) es ≡ operation_named name ops
  found_in = ap (lookup (same_key (key_of name))) named ∙ found name ops

  pub swapped_in : swap_remove_entry (same_key (key_of name)) es ≡ map with_name (without name ops)
  swapped_in = ap (swap_remove_entry (same_key (key_of name))) named ∙ swapped name ops

  pub written_in : (values : Option (List ℤ)) (old : Operation) → lookup (same_key (key_of name)) es ≡ Some old → set_value (same_key (key_of name)) es (passed values old) ≡ map with_name (passed_by values name ops)
  written_in values old at =
      ap (λ l. set_value (same_key (key_of name)) l (passed values old)) named ∙ written values name ops old (sym found_in ∙ at)

  pub unpassed_in : (values : Option (List ℤ)) → lookup (same_key (key_of name)) es ≡ None → passed_by values name ops ≡ ops
  unpassed_in values none = unpassed values name ops (sym found_in ∙ none)

pub inserted_in : (op : Operation) (es : Entries) (ops : List Operation) → AreNamed es ops → insert_entry same_key es (name_key op) op ≡ map with_name (with_operation op ops)
inserted_in op es ops named = ap (λ l. insert_entry same_key l (name_key op) op) named ∙ inserted op ops
