-- What a wave's Contributes have given so far.
use Rattle.std.specs.Prelude.{ℕ, ◌+◌, ◌==◌, if◌then◌else◌, List, [], ◌∷◌}
use Rattle.caf_finish.specs.declared.event.FinishEvent.{FinishEvent}
use Rattle.caf_finish.specs.declared.event.FinishEvent.TheVariants.{Contribute, Relay}
use Rattle.caf_finish.specs.Events.{wave_of}

-- the sum of sent
abbrev pub sent_in_wave : List FinishEvent → ℕ → ℕ
sent_in_wave [] w = 0
sent_in_wave (Contribute j four ∷ h) w = (if wave_of h j == w then four.sent else 0) + sent_in_wave h w
sent_in_wave (_ ∷ h) w = sent_in_wave h w

-- the sum of completed
abbrev pub completed_in_wave : List FinishEvent → ℕ → ℕ
completed_in_wave [] w = 0
completed_in_wave (Contribute j four ∷ h) w = (if wave_of h j == w then four.completed else 0) + completed_in_wave h w
completed_in_wave (_ ∷ h) w = completed_in_wave h w

-- how many they are
abbrev pub contributes_in_wave : List FinishEvent → ℕ → ℕ
contributes_in_wave [] w = 0
contributes_in_wave (Contribute j four ∷ h) w = (if wave_of h j == w then 1 else 0) + contributes_in_wave h w
contributes_in_wave (_ ∷ h) w = contributes_in_wave h w

-- how many ranks were relayed in the wave
abbrev pub relays_in_wave : List FinishEvent → ℕ → ℕ
relays_in_wave [] w = 0
relays_in_wave (Relay p c ∷ h) w = (if wave_of h c == w then 1 else 0) + relays_in_wave h w
relays_in_wave (_ ∷ h) w = relays_in_wave h w
