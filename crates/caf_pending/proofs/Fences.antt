-- What a fence asks, and the counts of open accesses.
use Rattle.std.proofs.Common.{◌≡◌, ◌∙◌, ℕ, ℤ, Bool, true, false, not, ◌&&◌, ◌||◌, nat_eq, List, [], ◌∷◌, Option, Some, None, refl, sym, ap, subst}
use Rattle.std.proofs.lemmas.Bool.{eqb-true, and_parts, and_from}
use Rattle.std.specs.List.{list_any}
use Rattle.caf_base.specs.declared.fence.FenceClear.{FenceClear}
use Rattle.caf_base.specs.declared.operation.OpSpec.{OpSpec}
use Rattle.caf_base.specs.declared.operation.OpSpec.TheVariants as spec
use Rattle.caf_base.specs.declared.operation.Stage.{Stage}
use Rattle.caf_base.specs.Operations.{is_implicit}
use Rattle.caf_pending.specs.declared.operation.Operation.{Operation}
use Rattle.caf_pending.specs.declared.open.Open.{Open}
use Rattle.caf_pending.specs.Pending.{begun_by, clear_of, is_start, is_store, passed, reads_here, writes_here, without_first}
use Rattle.caf_pending.specs.Open.{accesses_of, closed, none_open, one, one_if, reads_of, same_key, writes_of}
use Rattle.caf_pending.specs.Kept.{has_read, has_write, how_many, task_key}
use Rattle.caf_pending.proofs.Counting.{ends, none_counted}

any_falls : {A : Type 0} (p : A → Bool) (xs : List A) → list_any p (without_first xs) ≡ true → list_any p xs ≡ true
any_falls p [] some = some
any_falls p (x ∷ xs) some = go (p x)
  where
    go : (b : Bool) → (b || list_any p xs) ≡ true
    go true = refl
    go false = some

-- a stage that is over opens no access
reads_fall : (i : ℕ) (what : OpSpec) (stages : List Stage) → reads_here i what (without_first stages) ≡ true → reads_here i what stages ≡ true
reads_fall i (spec.Copy o) stages h =
    let parts = and_parts (nat_eq o.source.image i) (list_any is_start (without_first stages)) h in
    and_from (nat_eq o.source.image i) (list_any is_start stages) parts.0 (any_falls is_start stages parts.1)
reads_fall i _ stages h = h

writes_fall : (i : ℕ) (what : OpSpec) (stages : List Stage) → writes_here i what (without_first stages) ≡ true → writes_here i what stages ≡ true
writes_fall i (spec.Copy o) stages h =
    let parts = and_parts (nat_eq o.dest.image i) (list_any is_store (without_first stages)) h in
    and_from (nat_eq o.dest.image i) (list_any is_store stages) parts.0 (any_falls is_store stages parts.1)
writes_fall i _ stages h = h

middle : (x r s t : Bool) → (r ≡ true → t ≡ true) → ((x && r) && s) ≡ true → ((x && t) && s) ≡ true
middle x r s t up h =
    let outer = and_parts (x && r) s h in
    let inner = and_parts x r outer.0 in
    and_from (x && t) s (and_from x t inner.0 (up inner.1)) outer.1

pub has_read_falls : (values : Option (List ℤ)) (k : ℕ × ℕ) (op : Operation) → has_read k (passed values op) ≡ true → has_read k op ≡ true
has_read_falls None k op = middle (is_implicit op.spec) (reads_here op.name.image op.spec (without_first op.stages)) (same_key (task_key op) k) (reads_here op.name.image op.spec op.stages) (reads_fall op.name.image op.spec op.stages)
has_read_falls (Some values) k op = middle (is_implicit op.spec) (reads_here op.name.image op.spec (without_first op.stages)) (same_key (task_key op) k) (reads_here op.name.image op.spec op.stages) (reads_fall op.name.image op.spec op.stages)

pub has_write_falls : (values : Option (List ℤ)) (k : ℕ × ℕ) (op : Operation) → has_write k (passed values op) ≡ true → has_write k op ≡ true
has_write_falls None k op = middle (is_implicit op.spec) (writes_here op.name.image op.spec (without_first op.stages)) (same_key (task_key op) k) (writes_here op.name.image op.spec op.stages) (writes_fall op.name.image op.spec op.stages)
has_write_falls (Some values) k op = middle (is_implicit op.spec) (writes_here op.name.image op.spec (without_first op.stages)) (same_key (task_key op) k) (writes_here op.name.image op.spec op.stages) (writes_fall op.name.image op.spec op.stages)

-- the test of a list, and that of the counts
one_test : (im i : ℕ) (s x : Bool) (r : ℕ → Bool) → (((nat_eq im i && s) && x) && r i) ≡ ((x && r im) && (nat_eq im i && s))
one_test im i s x r = go (nat_eq im i) refl
  where
    turned : (s x y : Bool) → ((s && x) && y) ≡ ((x && y) && s)
    turned true true true = refl
    turned true true false = refl
    turned true false y = refl
    turned false true true = refl
    turned false true false = refl
    turned false false y = refl

    never : (x y : Bool) → false ≡ ((x && y) && false)
    never true true = refl
    never true false = refl
    never false y = refl

    go : (b : Bool) → nat_eq im i ≡ b → (((b && s) && x) && r i) ≡ ((x && r im) && (b && s))
    go true e = turned s x (r i) ∙ ap (λ y. (x && y) && s) (ap r (sym (eqb-true im i e)))
    go false e = never x (r im)

any_alike : {A : Type 0} (p q : A → Bool) → ((x : A) → p x ≡ q x) → (xs : List A) → list_any p xs ≡ list_any q xs
any_alike p q same [] = refl
any_alike p q same (x ∷ xs) =
    let rest = any_alike p q same xs in
    λ j. same x j || rest j

pub clear_by : (counts : Open) (ops : List Operation) (i t : ℕ) → ((k : ℕ × ℕ) → reads_of counts k ≡ how_many (has_read k) ops) → ((k : ℕ × ℕ) → writes_of counts k ≡ how_many (has_write k) ops) →
    none_open counts (i, t) ≡ clear_of ops i t
clear_by counts ops i t reads writes =
    let r : nat_eq (reads_of counts (i, t)) 0 ≡ not (list_any (λ (op : Operation). begun_by i t op && reads_here i op.spec op.stages) ops) =
    ap (λ n. nat_eq n 0) (reads (i, t)) ∙ none_counted (has_read (i, t)) ops
    ∙ ap not (sym (any_alike (λ (op : Operation). begun_by i t op && reads_here i op.spec op.stages) (has_read (i, t)) (λ op. one_test op.name.image i (nat_eq op.task t) (is_implicit op.spec) (λ im. reads_here im op.spec op.stages)) ops)) in
    let w : nat_eq (writes_of counts (i, t)) 0 ≡ not (list_any (λ (op : Operation). begun_by i t op && writes_here i op.spec op.stages) ops) =
    ap (λ n. nat_eq n 0) (writes (i, t)) ∙ none_counted (has_write (i, t)) ops
    ∙ ap not (sym (any_alike (λ (op : Operation). begun_by i t op && writes_here i op.spec op.stages) (has_write (i, t)) (λ op. one_test op.name.image i (nat_eq op.task t) (is_implicit op.spec) (λ im. writes_here im op.spec op.stages)) ops)) in
    λ j. record { reads = r j; writes = w j }

-- what is closed is what ends
shared : (b a s : Bool) → ((b && not a) && s) ≡ ((b && s) && not (a && s))
shared true true true = refl
shared true true false = refl
shared true false true = refl
shared true false false = refl
shared false a s = refl

-- the task of an operation stays
pub task_stays : (values : Option (List ℤ)) (op : Operation) → task_key (passed values op) ≡ task_key op
task_stays None op = refl
task_stays (Some values) op = refl

pub read_ends : (values : Option (List ℤ)) (op : Operation) (k : ℕ × ℕ) → one_if (closed (accesses_of op) (accesses_of (passed values op))).reads (task_key op) k ≡ one (ends (has_read k) values op)
read_ends None op k = ap one (shared (accesses_of op).reads (accesses_of (passed None op)).reads (same_key (task_key op) k))
read_ends (Some values) op k = ap one (shared (accesses_of op).reads (accesses_of (passed (Some values) op)).reads (same_key (task_key op) k))

pub write_ends : (values : Option (List ℤ)) (op : Operation) (k : ℕ × ℕ) → one_if (closed (accesses_of op) (accesses_of (passed values op))).writes (task_key op) k ≡ one (ends (has_write k) values op)
write_ends None op k = ap one (shared (accesses_of op).writes (accesses_of (passed None op)).writes (same_key (task_key op) k))
write_ends (Some values) op k = ap one (shared (accesses_of op).writes (accesses_of (passed (Some values) op)).writes (same_key (task_key op) k))
