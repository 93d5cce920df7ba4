-- The memory with which an image begins: each index that it names fits.
use Rattle.std.specs.List.{list_all}
use Rattle.std.specs.Prelude.{int_le}
use Rattle.std.proofs.lemmas.Bool.{false≢true}
use Rattle.std.proofs.Common.{◌≡◌, ◌^◌, ℕ, zero, suc, Bool, true, false, ◌&&◌, List, [], ◌∷◌, None, ℤ, pos, ◌+ℤ◌, ◌≤ℤ◌, IfSome, IsTrue, arith, map, refl, slice_get, slice_index_or}
use Rattle.caf_base.specs.Start.{start_memory}
use Rattle.caf_base.specs.declared.object.Object.{Object}
use Rattle.caf_base.specs.declared.operation.Section.{Section}
use Rattle.caf_memory.specs.Placed.{EndsWithin}
use Rattle.caf_program.specs.Accepted.{is_declared}
use Rattle.caf_treestep.specs.Placeable.{IsPlaceable}

and_first : (a b : Bool) → IsTrue (a && b) → IsTrue a
and_first true b h = refl
and_first false b h = h

and_second : (a b : Bool) → IsTrue (a && b) → IsTrue b
and_second true b h = h
and_second false b h = absurd (false≢true h)

le_of : (a b : ℤ) → int_le a b ≡ true → a ≤ℤ b
le_of a b e = grind (arith, e)

-- no copointer is set as a run begins
no_aim : (l : List Object) (c : ℕ) → IfSome (slice_index_or (map (λ (o : Object). None) l) c None) (λ (s : Section). EndsWithin s.from s.extent)
no_aim [] c = tt
no_aim (x ∷ l) zero = tt
no_aim (x ∷ l) (suc c) = no_aim l c

-- each index of what is declared fits
declared_fits : (l : List Object) (i : ℕ) → IsTrue (list_all is_declared l) → IfSome (slice_get l i) (λ (o : Object). EndsWithin o.lower o.extent)
declared_fits [] i declared = tt
declared_fits (x ∷ l) zero declared = le_of (x.lower +ℤ pos x.extent) (pos (2 ^ 63)) (and_first (int_le (x.lower +ℤ pos x.extent) (pos (2 ^ 63))) _ (and_first (is_declared x) _ declared))
declared_fits (x ∷ l) (suc i) declared = declared_fits l i (and_second (is_declared x) _ declared)

pub begins_placeable : (objects : List Object) (images image : ℕ) → IsTrue (list_all is_declared objects) → IsPlaceable (start_memory objects images image)
begins_placeable objects images image declared = record { objects = λ o. declared_fits objects o declared; aims = no_aim objects }
