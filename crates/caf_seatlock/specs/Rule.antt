-- What is true of the lock between any two steps: of its words, of its slot, and of what the passes know.
use Rattle.std.specs.Prelude.{◌≡◌, ℕ, ◌%◌, ◌^◌, ◌<◌, List, [], ◌∷◌, Option, Some, ◌⊎◌}
use mathlib.Core.Option.{Option as Slot, some, none}
use mathlib.Core.List.{IsPrefix}
use lib.ListN.{get_elem?}
use Rattle.atomic_table.specs.Table.{State}
use Rattle.caf_journal.specs.declared.entry.Entry.{Entry}
use Rattle.caf_seatlock.specs.declared.view.Standing.{Standing}
use Rattle.caf_seatlock.specs.declared.view.View.{View}
use Rattle.caf_seatlock.specs.Line.{Each, HasTurn, Line}

-- the words, the slot and the views of a lock over values of this type
abbrev pub Lock : Type 0 → Type 0
Lock W = State (Option W) (View W)

-- its slot: none while a pass has it in hand
abbrev pub Slots : Type 0 → Type 0
Slots W = List (Slot (Option W))

-- what a pass knows, by its parts
abbrev pub view : {W : Type 0} → Standing → ℕ → List Entry → List Entry → Option W → View W
view standing seats seen joined first = record { standing = standing; seats = seats; seen = seen; joined = joined; first = first }

-- no pass has its turn
abbrev pub NoTurn : {W : Type 0} → View W → Type 0
NoTurn v = (ticket : ℕ) → HasTurn v.standing ticket → ⊥

-- the slot is empty, and the pass that has the turn of this ticket has seen the list
pub record InHand {W : Type 0} (served : ℕ) (list : List Entry) (slots : Slots W) (views : List (View W)) : Type 0 where
  pub id : ℕ
  pub holder : View W
  pub at : get_elem? views id ≡ some holder
  pub turn : HasTurn holder.standing served
  pub list_is : holder.seen ≡ list
  pub slot : slots ≡ none ∷ []

module _ {W F : Type 0} (entries : W → List Entry) (fixed : W → F) (base : F) where
  -- what a pass has seen begins the list, and the value that it remembers has the part that stays
  pub record Knows (list : List Entry) (v : View W) : Type 0 where
    pub seen : IsPrefix v.seen list
    pub joined : IsPrefix v.joined list
    pub first : (value : W) → v.first ≡ Some value → fixed value ≡ base

  -- the slot has a value with this list and the part that stays, and nobody has the turn
  pub record AtHome (list : List Entry) (slots : Slots W) (views : List (View W)) : Type 0 where
    pub value : W
    pub slot : slots ≡ some (Some value) ∷ []
    pub list_is : entries value ≡ list
    pub fixed_is : fixed value ≡ base
    pub no_turn : Each NoTurn views

  -- where the value is
  abbrev pub Value : ℕ → List Entry → Slots W → List (View W) → Type 0
  Value served list slots views = AtHome list slots views ⊎ InHand served list slots views

  -- The words are how many tickets were drawn and served, modulo 2^64. There is one list: that of the value, or, while it is out, the one that it had as it was taken. Each pass has seen a front of it.
  pub record Kept (all : ℕ) (lock : Lock W) : Type 0 where
    pub drawn : ℕ
    pub served : ℕ
    pub list : List Entry
    pub words : lock.words ≡ (drawn % 2 ^ 64) ∷ (served % 2 ^ 64) ∷ []
    pub few : all < 2 ^ 32
    pub line : Line all drawn served lock.views
    pub known : Each (Knows list) lock.views
    pub value : Value served list lock.homes lock.views
