-- What is checked of a whole program.
use Rattle.std.specs.Prelude.{◌≡◌, ℕ, ◌<◌, Bool, false, List, Some, slice_get, slice_index_or}
use Rattle.std.specs.List.{flat_map}
use Rattle.caf_program.specs.declared.program.SubR.{SubR}
use Rattle.caf_program.specs.declared.program.Program.{Program}
use Rattle.caf_teamcheck.specs.Sites.{IsPlain, sites_in}

-- the main program is plain
abbrev pub IsMainPlain : Program → Type 0
IsMainPlain p = IsPlain p.subs false (flat_map sites_in p.body)

-- the subroutine at the place is plain, where the marks tell what a ship reaches
pub record IsSubPlain (p : Program) (marks : List Bool) (at : ℕ) : Type 0 where
  pub plain : (f : SubR) → slice_get p.subs at ≡ Some f → IsPlain p.subs (slice_index_or marks at false) (flat_map sites_in f.body)

-- so many subroutines are
abbrev pub AreSubsPlain : Program → List Bool → ℕ → Type 0
AreSubsPlain p marks n = (at : ℕ) → at < n → IsSubPlain p marks at
