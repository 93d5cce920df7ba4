-- What is kept of the operations stays right, whatever is done to them.
use Rattle.std.proofs.Common.{◌≡◌, ◌∙◌, ℕ, ℤ, ◌+◌, ◌-◌, ◌*◌, ◌^◌, ◌<◌, ◌≤◌, List, length, map, find, Option, Some, None, sym, ap, subst, arith}
use Rattle.std.proofs.lemmas.List.{length-map}
use Rattle.std.specs.Map.{lookup, set_value, values_of}
use Rattle.indexmap.specs.IndexMap.{insert_entry, swap_remove_entry}
use Rattle.caf_base.specs.declared.operation.OpName.{OpName}
use Rattle.caf_pending.specs.declared.access.Accesses.{Accesses}
use Rattle.caf_pending.specs.declared.open.Open.{Open}
use Rattle.caf_pending.specs.declared.operation.Operation.{Operation}
use Rattle.caf_pending.specs.Pending.{is_named, passed, passed_by, with_operation, without}
use Rattle.caf_pending.specs.Open.{accesses_of, closed, one_if, reads_of, same_key, writes_of}
use Rattle.caf_pending.specs.Kept.{IsKept, has_read, has_write, how_many, name_key, task_key, with_name}
use Rattle.caf_pending.proofs.Counting.{gone_on, no_more, put_new, put_over, taken}
use Rattle.caf_pending.proofs.Fences.{has_read_falls, has_write_falls, read_ends, task_stays, write_ends}
use Rattle.caf_pending.proofs.Named.{AreNamed, Entries, found_in, inserted_in, key_of, named_by, swapped_in, unpassed_in, values-with_name, written_in}

view_of : (es : Entries) (ops : List Operation) → AreNamed es ops → values_of es ≡ ops
view_of es ops named = ap values_of named ∙ values-with_name ops

kept : (es : Entries) (counts : Open) (ops : List Operation) → AreNamed es ops → ((k : ℕ × ℕ) → reads_of counts k ≡ how_many (has_read k) ops) → ((k : ℕ × ℕ) → writes_of counts k ≡ how_many (has_write k) ops) → IsKept es counts
kept es counts ops named reads writes =
    let view : values_of es ≡ ops = view_of es ops named in
    record {
      named = named ∙ ap (map with_name) (sym view);
      reads = λ k. reads k ∙ ap (how_many (has_read k)) (sym view);
      writes = λ k. writes k ∙ ap (how_many (has_write k)) (sym view);
    }

module _ (es : Entries) (counts : Open) (is_kept : IsKept es counts) (ops : List Operation) (view : values_of es ≡ ops) where
  named : AreNamed es ops
  named = named_by es ops is_kept.named view

  reads : (k : ℕ × ℕ) → reads_of counts k ≡ how_many (has_read k) ops
  reads k = is_kept.reads k ∙ ap (how_many (has_read k)) view

  writes : (k : ℕ × ℕ) → writes_of counts k ≡ how_many (has_write k) ops
  writes k = is_kept.writes k ∙ ap (how_many (has_write k)) view

  -- no count is greater than the number of operations
  pub few_reads : (now : Open) → length es < 2 ^ 63 → ((k : ℕ × ℕ) → reads_of now k ≡ reads_of counts k) → (k : ℕ × ℕ) → reads_of now k + 1 < 2 ^ 64
  few_reads now small same k =
      let many : length (values_of es) ≡ length es = length-map es (λ e. e.1) in
      omega (arith, same k, reads k, no_more (has_read k) ops, ap length view)

  pub few_writes : (now : Open) → length es < 2 ^ 63 → ((k : ℕ × ℕ) → writes_of now k ≡ writes_of counts k) → (k : ℕ × ℕ) → writes_of now k + 1 < 2 ^ 64
  few_writes now small same k =
      let many : length (values_of es) ≡ length es = length-map es (λ e. e.1) in
      omega (arith, same k, writes k, no_more (has_write k) ops, ap length view)

  pub put_view : (op : Operation) (new : Entries) → new ≡ insert_entry same_key es (name_key op) op → values_of new ≡ with_operation op ops
  put_view op new is = view_of new (with_operation op ops) (is ∙ inserted_in op es ops named)

  pub put_new_kept : (op : Operation) (more : Accesses) (new : Entries) (room now : Open) → new ≡ insert_entry same_key es (name_key op) op → lookup (same_key (name_key op)) es ≡ None → more ≡ accesses_of op →
      ((k : ℕ × ℕ) → reads_of room k ≡ reads_of counts k) → ((k : ℕ × ℕ) → writes_of room k ≡ writes_of counts k) →
      ((k : ℕ × ℕ) → reads_of now k ≡ reads_of room k + one_if more.reads (task_key op) k) → ((k : ℕ × ℕ) → writes_of now k ≡ writes_of room k + one_if more.writes (task_key op) k) → IsKept new now
  put_new_kept op more new room now is none has same_reads same_writes reads_more writes_more =
      let at : find (is_named op.name) ops ≡ None = sym (found_in op.name es ops named) ∙ none in
      kept new now (with_operation op ops) (is ∙ inserted_in op es ops named)
      (put_new has_read ops (reads_of counts) reads op (reads_of now) (λ k. reads_more k ∙ ap (λ n. n + one_if more.reads (task_key op) k) (same_reads k) ∙ ap (λ (a : Accesses). reads_of counts k + one_if a.reads (task_key op) k) has) at)
      (put_new has_write ops (writes_of counts) writes op (writes_of now) (λ k. writes_more k ∙ ap (λ n. n + one_if more.writes (task_key op) k) (same_writes k) ∙ ap (λ (a : Accesses). writes_of counts k + one_if a.writes (task_key op) k) has) at)

  pub put_over_kept : (op old : Operation) (more done : Accesses) (new : Entries) (room middle now : Open) → new ≡ insert_entry same_key es (name_key op) op → lookup (same_key (name_key op)) es ≡ Some old → more ≡ accesses_of op → done ≡ accesses_of old →
      ((k : ℕ × ℕ) → reads_of room k ≡ reads_of counts k) → ((k : ℕ × ℕ) → writes_of room k ≡ writes_of counts k) →
      ((k : ℕ × ℕ) → reads_of middle k ≡ reads_of room k + one_if more.reads (task_key op) k) → ((k : ℕ × ℕ) → writes_of middle k ≡ writes_of room k + one_if more.writes (task_key op) k) →
      ((k : ℕ × ℕ) → reads_of now k ≡ reads_of middle k - one_if done.reads (task_key old) k) → ((k : ℕ × ℕ) → writes_of now k ≡ writes_of middle k - one_if done.writes (task_key old) k) → IsKept new now
  put_over_kept op old more done new room middle now is some has gives same_reads same_writes reads_more writes_more reads_less writes_less =
      let at : find (is_named op.name) ops ≡ Some old = sym (found_in op.name es ops named) ∙ some in
      kept new now (with_operation op ops) (is ∙ inserted_in op es ops named)
      (put_over has_read ops (reads_of counts) reads op old (reads_of middle) (reads_of now)
      (λ k. reads_more k ∙ ap (λ n. n + one_if more.reads (task_key op) k) (same_reads k) ∙ ap (λ (a : Accesses). reads_of counts k + one_if a.reads (task_key op) k) has)
      (λ k. reads_less k ∙ ap (λ (a : Accesses). reads_of middle k - one_if a.reads (task_key old) k) gives) at)
      (put_over has_write ops (writes_of counts) writes op old (writes_of middle) (writes_of now)
      (λ k. writes_more k ∙ ap (λ n. n + one_if more.writes (task_key op) k) (same_writes k) ∙ ap (λ (a : Accesses). writes_of counts k + one_if a.writes (task_key op) k) has)
      (λ k. writes_less k ∙ ap (λ (a : Accesses). writes_of middle k - one_if a.writes (task_key old) k) gives) at)

  pub without_view : (name : OpName) (new : Entries) → new ≡ swap_remove_entry (same_key (key_of name)) es → values_of new ≡ without name ops
  without_view name new is = view_of new (without name ops) (is ∙ swapped_in name es ops named)

  pub without_kept : (name : OpName) (old : Operation) (done : Accesses) (new : Entries) (now : Open) → new ≡ swap_remove_entry (same_key (key_of name)) es → lookup (same_key (key_of name)) es ≡ Some old → done ≡ accesses_of old →
      ((k : ℕ × ℕ) → reads_of now k ≡ reads_of counts k - one_if done.reads (task_key old) k) → ((k : ℕ × ℕ) → writes_of now k ≡ writes_of counts k - one_if done.writes (task_key old) k) → IsKept new now
  without_kept name old done new now is some gives reads_less writes_less =
      let at : find (is_named name) ops ≡ Some old = sym (found_in name es ops named) ∙ some in
      kept new now (without name ops) (is ∙ swapped_in name es ops named)
      (taken has_read ops (reads_of counts) reads name old (reads_of now) (λ k. reads_less k ∙ ap (λ (a : Accesses). reads_of counts k - one_if a.reads (task_key old) k) gives) at)
      (taken has_write ops (writes_of counts) writes name old (writes_of now) (λ k. writes_less k ∙ ap (λ (a : Accesses). writes_of counts k - one_if a.writes (task_key old) k) gives) at)

  pass_view : (values : Option (List ℤ)) (name : OpName) (old : Operation) (new : Entries) → lookup (same_key (key_of name)) es ≡ Some old → new ≡ set_value (same_key (key_of name)) es (passed values old) → values_of new ≡ passed_by values name ops
  pass_view values name old new some is = view_of new (passed_by values name ops) (is ∙ written_in name es ops named values old some)

  pass_kept : (values : Option (List ℤ)) (name : OpName) (old : Operation) (done : Accesses) (new : Entries) (now : Open) → new ≡ set_value (same_key (key_of name)) es (passed values old) → lookup (same_key (key_of name)) es ≡ Some old →
      done ≡ closed (accesses_of old) (accesses_of (passed values old)) →
      ((k : ℕ × ℕ) → reads_of now k ≡ reads_of counts k - one_if done.reads (task_key (passed values old)) k) → ((k : ℕ × ℕ) → writes_of now k ≡ writes_of counts k - one_if done.writes (task_key (passed values old)) k) → IsKept new now
  pass_kept values name old done new now is some gives reads_less writes_less =
      let at : find (is_named name) ops ≡ Some old = sym (found_in name es ops named) ∙ some in
      let task : task_key (passed values old) ≡ task_key old = task_stays values old in
      kept new now (passed_by values name ops) (is ∙ written_in name es ops named values old some)
      (gone_on has_read ops (reads_of counts) reads values name old (reads_of now) (has_read_falls values)
      (λ k. reads_less k ∙ ap (λ (a : Accesses). reads_of counts k - one_if a.reads (task_key (passed values old)) k) gives ∙ ap (λ t. reads_of counts k - one_if (closed (accesses_of old) (accesses_of (passed values old))).reads t k) task ∙ ap (λ n. reads_of counts k - n) (read_ends values old k)) at)
      (gone_on has_write ops (writes_of counts) writes values name old (writes_of now) (has_write_falls values)
      (λ k. writes_less k ∙ ap (λ (a : Accesses). writes_of counts k - one_if a.writes (task_key (passed values old)) k) gives ∙ ap (λ t. writes_of counts k - one_if (closed (accesses_of old) (accesses_of (passed values old))).writes t k) task ∙ ap (λ n. writes_of counts k - n) (write_ends values old k)) at)

  pub passed_kept : (values : Option (List ℤ)) (name : OpName) (old after : Operation) (done : Accesses) (new : Entries) (now : Open) → after ≡ passed values old → new ≡ set_value (same_key (key_of name)) es after → lookup (same_key (key_of name)) es ≡ Some old →
      done ≡ closed (accesses_of old) (accesses_of after) →
      ((k : ℕ × ℕ) → reads_of now k ≡ reads_of counts k - one_if done.reads (task_key after) k) → ((k : ℕ × ℕ) → writes_of now k ≡ writes_of counts k - one_if done.writes (task_key after) k) → IsKept new now
  passed_kept values name old after done new now has is some gives reads_less writes_less =
      pass_kept values name old done new now (is ∙ ap (set_value (same_key (key_of name)) es) has) some (gives ∙ ap (λ (o : Operation). closed (accesses_of old) (accesses_of o)) has)
      (λ k. reads_less k ∙ ap (λ (o : Operation). reads_of counts k - one_if done.reads (task_key o) k) has)
      (λ k. writes_less k ∙ ap (λ (o : Operation). writes_of counts k - one_if done.writes (task_key o) k) has)

  pub passed_view : (values : Option (List ℤ)) (name : OpName) (old after : Operation) (new : Entries) → after ≡ passed values old → new ≡ set_value (same_key (key_of name)) es after → lookup (same_key (key_of name)) es ≡ Some old → values_of new ≡ passed_by values name ops
  passed_view values name old after new has is some = pass_view values name old new some (is ∙ ap (set_value (same_key (key_of name)) es) has)

  -- where there is none of the name, nothing changes
  pub none_passed : (values : Option (List ℤ)) (name : OpName) → lookup (same_key (key_of name)) es ≡ None → passed_by values name ops ≡ ops
  none_passed values name none = unpassed_in name es ops named values none
