-- Images give out numbers and take none back.
use Rattle.std.proofs.Common.{◌≡◌, ℕ, zero, suc, ◌≤◌, List, [], ◌∷◌, Some, refl, sym, subst, slice_get, slice_set, arith}
use Rattle.std.proofs.lemmas.Option.{none-some, same_Some}
use Rattle.caf_source.specs.declared.state.Image.{Image}
use Rattle.caf_sourcelaws.specs.Named.{begun_by}

abbrev pub number_at : List Image → ℕ → ℕ
number_at images i = begun_by (slice_get images i)

abbrev pub Grow : List Image → List Image → Type 0
Grow before after = (i : ℕ) → number_at before i ≤ number_at after i

pub grow_more : (a b c : List Image) → Grow a b → Grow b c → Grow a c
grow_more a b c first second i = omega (arith, first i, second i)

-- an image is put in the place of one that has begun no more
pub grows_at : (images : List Image) (i : ℕ) (im new : Image) → slice_get images i ≡ Some im → im.operations ≤ new.operations → Grow images (slice_set images i new)
grows_at [] i im new is more k = omega arith
grows_at (x ∷ images) zero im new is more zero = subst (λ (y : Image). y.operations ≤ new.operations) (sym (same_Some x im is)) more
grows_at (x ∷ images) zero im new is more (suc k) = omega arith
grows_at (x ∷ images) (suc i) im new is more zero = omega arith
grows_at (x ∷ images) (suc i) im new is more (suc k) = grows_at images i im new is more k

-- and it stands there
pub stands_at : (images : List Image) (i : ℕ) (im new : Image) → slice_get images i ≡ Some im → number_at (slice_set images i new) i ≡ new.operations
stands_at [] i im new is = absurd (none-some im is)
stands_at (x ∷ images) zero im new is = refl
stands_at (x ∷ images) (suc i) im new is = stands_at images i im new is
