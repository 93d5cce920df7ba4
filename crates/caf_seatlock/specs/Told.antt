-- What each step tells the pass that makes it: of what it knew and had in hand before, the word that it found, and what it knows and has in hand after.
use Rattle.std.specs.Prelude.{◌≡◌, ◌≢◌, ℕ, ◌+◌, ◌-◌, ◌%◌, ◌^◌, ◌<◌, List, [], ◌∷◌, Option, Some, None}
use mathlib.Core.List.{IsPrefix}
use Rattle.atomic_table.specs.Table.{Me, Step, rest}
use Rattle.caf_journal.specs.declared.entry.Entry.{Entry}
use Rattle.caf_seatlock.specs.declared.view.Standing.TheVariants.{Away, Waiting, Served}
use Rattle.caf_seatlock.specs.declared.view.View.{View}
use Rattle.caf_seatlock.specs.Rule.{view}

-- what a pass knows, and the slots that it has in hand with their values
abbrev pub Own : Type 0 → Type 0
Own W = Me (Option W) (View W)

module _ {W : Type 0} where
  -- a ticket was drawn, which the word found shows
  abbrev pub drew : Step (Option W) → Own W → ℕ → Own W → Type 0
  drew what before found after = (after.1 ≡ before.1) × ((ticket : ℕ) × (found ≡ ticket % 2 ^ 64) × (after.0 ≡ record before.0 { standing = Waiting ticket }))

  -- the list of the value in hand
  abbrev pub list_held : (W → List Entry) → List (ℕ × Option W) → List Entry
  list_held entries [] = []
  list_held entries (slot ∷ slots) = list_in slot.1
    where
      list_in : Option W → List Entry
      list_in None = []
      list_in (Some value) = entries value

  -- the value is back in the slot, the turn is over, and the list that was given back is seen
  abbrev pub passed_on : (W → List Entry) → Step (Option W) → Own W → ℕ → Own W → Type 0
  passed_on entries what before found after = (after.1 ≡ rest before.1) × (after.0 ≡ record before.0 { standing = Away; seen = list_held entries before.1 })

  module _ {F : Type 0} (entries : W → List Entry) (fixed : W → F) where
    -- the turn of the ticket has come, and the pass has the slot with a value whose list begins with all that it had seen
    pub record Gets (before : Own W) (ticket : ℕ) (after : Own W) : Type 0 where
      pub value : W
      pub hand : after.1 ≡ (0, Some value) ∷ before.1
      pub knows : after.0 ≡ record before.0 { standing = Served ticket; seen = entries value }
      pub longer : IsPrefix before.0.seen (entries value)
      pub fixed_part : (first : W) → before.0.first ≡ Some first → fixed value ≡ fixed first

    -- where the word found shows its ticket, a pass in the line gets the value; else nothing changed
    abbrev pub looked : Step (Option W) → Own W → ℕ → Own W → Type 0
    looked what before found after = (ticket : ℕ) → before.0.standing ≡ Waiting ticket → (found ≡ ticket % 2 ^ 64 → Gets before ticket after) × (found ≢ ticket % 2 ^ 64 → after ≡ before)

  -- one list was seen that begins with both lists, and seats are few
  pub record Settled (before after : Own W) : Type 0 where
    pub list : List Entry
    pub seen : IsPrefix before.0.seen list
    pub joined : IsPrefix before.0.joined list
    pub knows : after.0 ≡ record before.0 { seen = list; joined = [] }
    pub hand : after.1 ≡ before.1
    pub few : before.0.seats < 2 ^ 32

  abbrev pub settled : Step (Option W) → Own W → ℕ → Own W → Type 0
  settled what before found after = Settled before after

  -- what a pass knows that gave one of its seats away
  abbrev pub kept_half : View W → View W
  kept_half v = record v { seats = v.seats - 1 }

  -- what the new pass with that seat knows
  abbrev pub new_half : View W → View W
  new_half v = view Away 1 v.seen [] v.first

  -- what a pass knows that has just taken another in
  abbrev pub united : View W → View W → View W
  united v other = record v { seats = v.seats + other.seats; joined = other.seen }

  -- what is left of the other
  abbrev pub spent : View W
  spent = view Away 0 [] [] None
