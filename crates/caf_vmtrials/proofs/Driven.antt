-- What a test does between the steps of a task keeps the memory sound.
use Rattle.std.proofs.Common.{◌≡◌, ◌<◌, ℕ, List, [], ◌∷◌, Option, Some, None, Result, Ok, Err, ℤ, false, refl, subst, sym, arith}
use Rattle.std.specs.Prelude.{OnErr, OnOk, slice_get}
use Rattle.std.specs.List.{IsDistinct}
use Rattle.std.proofs.lemmas.List.Elements.{All-cons}
use Rattle.caf_base.specs.ImageMemory.{ImageMemory}
use Rattle.caf_base.specs.Places.{with_posts, with_posts_in}
use Rattle.caf_base.specs.declared.object.Object.{Object}
use Rattle.caf_base.specs.declared.team.Team.{Team}
use Rattle.caf_base.specs.declared.trap.Trap.{Trap}
use Rattle.caf_code.specs.Kept.{KeepsTask, ends_run}
use Rattle.caf_code.specs.Sound.{IsSoundMemory, IsSoundTeam}
use Rattle.caf_code.specs.declared.listing.Listing.{Listing}
use Rattle.caf_base.specs.declared.effect.Effect.{Effect}
use Rattle.caf_base.specs.declared.effect.Effect.TheVariants as effect

posts_in : (code : Listing) (m : ImageMemory) (o : ℕ) (x : Option Object) (index : ℤ) (posts : ℕ) → IsSoundMemory code m → IsSoundMemory code (with_posts_in m o x index posts) × ((with_posts_in m o x index posts).images ≡ m.images)
posts_in code m o None index posts sound = (sound, refl)
posts_in code m o (Some y) index posts sound = (record { objects = sound.objects; image = sound.image; team_objects = sound.team_objects; teams = sound.teams; copointer_objects = sound.copointer_objects; copointers = sound.copointers }, refl)

-- posts are set, or nothing changes
pub posted : (code : Listing) (m n : ImageMemory) (r : Result (Unit {0}) Trap) (o : ℕ) (index : ℤ) (posts : ℕ) → OnOk r (n ≡ with_posts m o index posts) → OnErr r (n ≡ m) → IsSoundMemory code m → IsSoundMemory code n × (n.images ≡ m.images)
posted code m n (Ok x) o index posts ok err sound = subst (λ (k : ImageMemory). IsSoundMemory code k × (k.images ≡ m.images)) (sym ok) (posts_in code m o (slice_get m.objects o) index posts sound)
posted code m n (Err t) o index posts ok err sound = subst (λ (k : ImageMemory). IsSoundMemory code k × (k.images ≡ m.images)) (sym err) (sound, refl)

-- an image alone is a team
pub alone : (image images : ℕ) (path : List (ℕ × ℤ)) → image < images → IsSoundTeam image images (record { path = path; members = image ∷ [] })
unfolding IsDistinct
alone image images path below = record {
  members = All-cons (λ i. i < images) image [] below (λ k d lt. absurd (omega (arith, lt)));
  distinct = (tt, tt);
  member = (0, omega arith, refl);
}

-- a task that isn't over stays as it should
pub goes_on : (e : Effect) (X : Type 0) → KeepsTask e X → ends_run e ≡ false → X
goes_on (effect.Ends event) X kept e = cc
goes_on (effect.Traps trap) X kept e = cc
goes_on _ X kept e = kept
