-- What is true of each account that is kept.
use Rattle.std.specs.Prelude.{◌≡◌, ◌<◌, ◌^◌, Bool, true, false, Option, Some, None, slice_get}
use Rattle.caf_reduce.specs.declared.part.Part.{Part}
use Rattle.caf_reduce.specs.declared.part.Part.TheVariants.{Outside, Missing, Present}
use Rattle.caf_finish.specs.Account.{Account}

-- the image's own part is there exactly while it is late
abbrev pub IsOwn : Bool → Option Part → Type 0
IsOwn late None = ⊥
IsOwn late (Some Outside) = ⊥
IsOwn late (Some Missing) = late ≡ false
IsOwn late (Some (Present sum)) = late ≡ true

pub record IsProgress (account : Account) : Type 0 where
  pub own : IsOwn account.late (slice_get account.parts account.rank)
  pub small : account.wave < 2 ^ 31
