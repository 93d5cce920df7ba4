-- The finishes that an image knows, as a finite map from finishes to accounts.
use Rattle.std.specs.Prelude.{◌≡◌, ◌≢◌, ℕ, ◌<◌, Bool, List, length, Option, IsSomeAnd}
use Rattle.std.specs.List.{find, position_or_len}
use Rattle.std.specs.Option.{option_map}
use Rattle.caf_base.specs.declared.team.FinishRef.{FinishRef}
use Rattle.caf_base.specs.FinishRef.{same_finish}
use Rattle.caf_base.specs.Team.{rank_or_first}
use Rattle.caf_finish.specs.declared.known.Known.{Known}
use Rattle.caf_finish.specs.Account.{Account, first_account}

pub record Desk : Type 0 where
  -- the image's number
  pub image : ℕ
  pub known : List Known

-- whether the entry is of this finish
abbrev pub is_of : FinishRef → Known → Bool
is_of f known = same_finish known.finish f

abbrev pub account_in : List Known → FinishRef → Option Account
account_in known f = option_map (λ (entry : Known). entry.progress) (find (is_of f) known)

-- the first place of an entry of the finish
pub record IsPlace (known : List Known) (f : FinishRef) (at : ℕ) : Type 0 where
  pub first : at ≡ position_or_len (is_of f) known
  pub within : at < length known

-- the account of a finish, and nothing where it isn't known
abbrev pub account_at : Desk → FinishRef → Option Account
account_at desk f = account_in desk.known f

-- the finish is known, and this is true of its account
abbrev pub At : Desk → FinishRef → (Account → Type 0) → Type 0
At desk f P = IsSomeAnd (account_at desk f) P

-- the account of a finish that becomes known
abbrev pub new_account : ℕ → FinishRef → Account
new_account image f = first_account (length f.team.members) (rank_or_first f.team.members image)

-- the finish has this account now, or none, and all else is as before
pub record Puts (old new : Desk) (f : FinishRef) (account : Option Account) : Type 0 where
  pub image : new.image ≡ old.image
  pub here : account_at new f ≡ account
  pub others : (g : FinishRef) → g ≢ f → account_at new g ≡ account_at old g

-- the account of the finish is changed, and all else is as before
abbrev pub Changes : Desk → Desk → FinishRef → (Account → Account) → Type 0
Changes old new f change = Puts old new f (option_map change (account_at old f))
