-- What is done between the Steps of two tasks keeps each and its memory as they should be.
use Rattle.std.proofs.Common.{◌≡◌, ◌≢◌, ◌<◌, ℕ, List, [], ◌∷◌, Option, Some, None, Result, Ok, Err, ℤ, Bool, true, false, refl, subst, sym, arith}
use Rattle.std.specs.Prelude.{OnErr, OnOk, nat_eq, slice_get}
use Rattle.std.specs.List.{IsDistinct}
use Rattle.std.proofs.lemmas.Bool.{eqb-true}
use Rattle.std.proofs.lemmas.List.Elements.{All-cons}
use Rattle.caf_base.specs.ImageMemory.{ImageMemory}
use Rattle.caf_base.specs.Orders.{with_team}
use Rattle.caf_base.specs.Places.{with_posts, with_posts_in}
use Rattle.caf_base.specs.declared.effect.Effect.{Effect}
use Rattle.caf_base.specs.declared.effect.Effect.TheVariants as effect
use Rattle.caf_base.specs.declared.object.Object.{Object}
use Rattle.caf_base.specs.declared.team.Team.{Team}
use Rattle.caf_base.specs.declared.trap.Trap.{Trap}
use Rattle.caf_code.specs.Kept.{KeepsTask, ends_run}
use Rattle.caf_code.specs.Sound.{IsSound, IsSoundTeam}
use Rattle.caf_code.specs.Task.{Task}
use Rattle.caf_code.specs.declared.listing.Listing.{Listing}
use Rattle.caf_treestep.specs.Placeable.{IsPlaceable}

posts_in : (code : Listing) (t : Task) (m : ImageMemory) (o : ℕ) (x : Option Object) (index : ℤ) (posts : ℕ) → IsSound code t m → IsSound code t (with_posts_in m o x index posts)
posts_in code t m o None index posts sound = sound
posts_in code t m o (Some y) index posts sound = record {
  memory = record { objects = sound.memory.objects; image = sound.memory.image; team_objects = sound.memory.team_objects; teams = sound.memory.teams; copointer_objects = sound.memory.copointer_objects; copointers = sound.memory.copointers };
  task = sound.task;
}

-- posts are set, or nothing changes
pub posted : (code : Listing) (t : Task) (m n : ImageMemory) (r : Result (Unit {0}) Trap) (o : ℕ) (index : ℤ) (posts : ℕ) → OnOk r (n ≡ with_posts m o index posts) → OnErr r (n ≡ m) → IsSound code t m → IsSound code t n
posted code t m n (Ok x) o index posts ok err sound = subst (IsSound code t) (sym ok) (posts_in code t m o (slice_get m.objects o) index posts sound)
posted code t m n (Err e) o index posts ok err sound = subst (IsSound code t) (sym err) sound

placed_in : (m : ImageMemory) (o : ℕ) (x : Option Object) (index : ℤ) (posts : ℕ) → IsPlaceable m → IsPlaceable (with_posts_in m o x index posts)
placed_in m o None index posts placeable = placeable
placed_in m o (Some y) index posts placeable = record { objects = placeable.objects; aims = placeable.aims }

-- the same of the memory of a task over trees
pub placed : (m n : ImageMemory) (r : Result (Unit {0}) Trap) (o : ℕ) (index : ℤ) (posts : ℕ) → OnOk r (n ≡ with_posts m o index posts) → OnErr r (n ≡ m) → IsPlaceable m → IsPlaceable n
placed m n (Ok x) o index posts ok err placeable = subst IsPlaceable (sym ok) (placed_in m o (slice_get m.objects o) index posts placeable)
placed m n (Err e) o index posts ok err placeable = subst IsPlaceable (sym err) placeable

-- a team is set
pub teamed : (m : ImageMemory) (o : ℕ) (t : Team) → IsPlaceable m → IsPlaceable (with_team m o t)
teamed m o t placeable = record { objects = placeable.objects; aims = placeable.aims }

-- an image alone is a team
pub alone : (image images : ℕ) (path : List (ℕ × ℤ)) → image < images → IsSoundTeam image images (record { path = path; members = image ∷ [] })
unfolding IsDistinct
alone image images path below = record {
  members = All-cons (λ i. i < images) image [] below (λ k d lt. absurd (omega (arith, lt)));
  distinct = (tt, tt);
  member = (0, omega arith, refl);
}

differs : (image : ℕ) → image ≢ 2 → nat_eq 2 image ≡ false
differs image other = step (nat_eq 2 image) refl
  where
    step : (b : Bool) → nat_eq 2 image ≡ b → b ≡ false
    step false e = refl
    step true e = absurd (other (sym (eqb-true 2 image e)))

-- and so it is behind the last of three
pub behind : (image images : ℕ) (path : List (ℕ × ℤ)) → image < images → images ≡ 3 → image ≢ 2 → IsSoundTeam image images (record { path = path; members = 2 ∷ image ∷ [] })
unfolding IsDistinct
behind image images path below three other = record {
  members = All-cons (λ i. i < images) 2 (image ∷ []) (omega (arith, three)) (All-cons (λ i. i < images) image [] below (λ k d lt. absurd (omega (arith, lt))));
  distinct = ((differs image other, tt), (tt, tt));
  member = (1, omega arith, refl);
}

-- a task that isn't over stays as it should
pub goes_on : (e : Effect) (X : Type 0) → KeepsTask e X → ends_run e ≡ false → X
goes_on (effect.Ends event) X kept e = cc
goes_on (effect.Traps trap) X kept e = cc
goes_on _ X kept e = kept
