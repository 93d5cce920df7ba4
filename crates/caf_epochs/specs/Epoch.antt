-- The epoch that a message of a finish is stamped with, and its class.
use Rattle.std.specs.Prelude.{ℕ, ◌+◌, ◌*◌, Bool, nat_lt, if◌then◌else◌}
use Rattle.caf_epochs.specs.declared.counters.Class.{Class}
use Rattle.caf_epochs.specs.declared.counters.Class.TheVariants.{Even, Odd}

-- the stamp of a message that is sent in this wave: one more where its sender has contributed in the wave
abbrev pub epoch_of : ℕ → Bool → ℕ
epoch_of wave late = 2 * wave + (if late then 1 else 0)

-- the class of a message at an image in this wave: Even below the epoch of those that are late in the wave
abbrev pub class_of : ℕ → ℕ → Class
class_of epoch wave = if nat_lt epoch (2 * wave + 1) then Even else Odd
