-- Where a statement's accesses go: ranks, sections and events, with the traps of their tests.
use Rattle.std.specs.Prelude.{ℕ, zero, suc, Bool, ◌&&◌, List, [], ◌∷◌, ◌++◌, Option, Some, None, Result, Ok, Err, ℤ, pos, ◌+ℤ◌, ◌-ℤ◌, int_lt, int_le, nat_lt, unsigned_abs, length, slice_get, slice_index_or, slice_set, if◌then◌else◌}
use Rattle.caf_base.specs.declared.object.Object.{Object}
use Rattle.caf_base.specs.declared.operation.Section.{Section}
use Rattle.caf_base.specs.declared.operation.EventAt.{EventAt}
use Rattle.caf_base.specs.declared.place.Place.{Place}
use Rattle.caf_base.specs.declared.place.Place.TheVariants as place
use Rattle.caf_base.specs.declared.place.SectionRange.{SectionRange}
use Rattle.caf_base.specs.declared.place.SectionRange.TheVariants as range
use Rattle.caf_base.specs.declared.place.SectionWanted.{SectionWanted}
use Rattle.caf_base.specs.declared.place.SectionWanted.TheVariants as wanted
use Rattle.caf_base.specs.declared.team.Team.{Team}
use Rattle.caf_base.specs.declared.trap.Trap.{Trap}
use Rattle.caf_base.specs.declared.trap.Trap.TheVariants as trap
use Rattle.caf_base.specs.Arithmetic.{at_least_none}
use Rattle.caf_base.specs.Element.{has_index, offset_of}
use Rattle.caf_base.specs.ImageMemory.{ImageMemory}

-- goes on with what was found, or traps
abbrev pub bind : {A B : Type 0} → Result A Trap → (A → Result B Trap) → Result B Trap
bind (Err t) go = Err t
bind (Ok a) go = go a

-- the numbers below a number
abbrev pub below : ℕ → List ℕ
below zero = []
below (suc n) = below n ++ n ∷ []

-- the team of all images
abbrev pub world : ImageMemory → Team
world m = record { path = []; members = below m.images }

abbrev pub team_at : ImageMemory → ℕ → Option Team
team_at m object = slice_index_or m.teams object None

abbrev pub copointer_at : ImageMemory → ℕ → Option Section
copointer_at m object = slice_index_or m.copointers object None

abbrev pub is_rank : ℕ → ℤ → Bool
is_rank size rank = int_le (pos 0) rank && int_lt rank (pos size)

-- the member with a rank; trap `Team` where the team is unset, and then `Rank`
abbrev pub member_of : Option Team → ℤ → Result ℕ Trap
member_of None rank = Err trap.Team
member_of (Some t) rank = if is_rank (length t.members) rank then Ok (slice_index_or t.members (unsigned_abs rank) 0) else Err trap.Rank

-- the image of a place
abbrev pub image_of : ImageMemory → Place → Result ℕ Trap
image_of m place.Own = Ok m.image
image_of m (place.World rank) = if is_rank m.images rank then Ok (unsigned_abs rank) else Err trap.Rank
image_of m (place.Of object rank) = member_of (team_at m object) rank

-- an index of an object; trap `Index` outside its bounds
abbrev pub within : Option Object → ℤ → Result ℤ Trap
within None index = Err trap.Index
within (Some o) index = if has_index o index then Ok index else Err trap.Index

-- one element of an object at a place
abbrev pub element_section : ImageMemory → ℕ → ℤ → Place → Result Section Trap
element_section m object index p =
    bind (within (slice_get m.objects object) index) (λ i. bind (image_of m p) (λ image. Ok (record { image = image; object = object; from = i; extent = 1 })))

-- one element of what a copointer aims at, counted from 1
abbrev pub pointed_in : Option Section → ℤ → Result Section Trap
pointed_in None index = Err trap.Copointer
pointed_in (Some s) index = if int_le (pos 1) index && int_le index (pos s.extent) then Ok (record s { from = s.from +ℤ index -ℤ pos 1; extent = 1 }) else Err trap.Index

abbrev pub pointed_section : ImageMemory → ℕ → ℤ → Result Section Trap
pointed_section m copointer index = pointed_in (copointer_at m copointer) index

-- the first and the last index, where these are the variable's
abbrev pub ends_of : ℤ → ℤ → SectionRange → ℤ × ℤ
ends_of first last range.All = (first, last)
ends_of first last (range.Cell i) = (i, i)
ends_of first last (range.Between i j) = (i, j)
ends_of first last (range.From i) = (i, last)
ends_of first last (range.UpTo j) = (first, j)

-- a section's first index and length; an empty one begins at the variable's first index, whatever its bounds; else
-- trap `Index` where it leaves the variable's bounds
abbrev pub spanned : ℤ → ℤ → ℤ × ℤ → Result (ℤ × ℕ) Trap
spanned first last ends =
    if int_lt ends.1 ends.0 then Ok (first, 0) else if int_le first ends.0 && int_le ends.1 last then Ok (ends.0, at_least_none (ends.1 -ℤ ends.0 +ℤ pos 1)) else Err trap.Index

abbrev pub span_of : ℤ → ℕ → SectionRange → Result (ℤ × ℕ) Trap
span_of lower extent r = let last = lower +ℤ pos extent -ℤ pos 1 in spanned lower last (ends_of lower last r)

-- a section before its place is looked at: the variable, the first index and the length
abbrev pub region_span : Option Object → SectionRange → Result (ℤ × ℕ) Trap
region_span None r = Err trap.Index
region_span (Some o) r = span_of o.lower o.extent r

abbrev pub limited : Bool → ℤ × ℕ → Result (ℤ × ℕ) Trap
limited copied span = if copied && nat_lt 256 span.1 then Err trap.Section else Ok span

abbrev pub pointed_range : Bool → Option Section → SectionRange → Result Section Trap
pointed_range copied None r = Err trap.Copointer
pointed_range copied (Some s) r =
    bind (span_of (pos 1) s.extent r) (λ span. bind (limited copied span) (λ t. Ok (record s { from = s.from +ℤ t.0 -ℤ pos 1; extent = t.1 })))

-- a section: trap `Copointer`, `Index`, `Section` above 256 elements if it is copied, `Team`, `Rank`, in this order
abbrev pub section_of : Bool → ImageMemory → SectionWanted → Result Section Trap
section_of copied m (wanted.Region object r p) =
    bind (region_span (slice_get m.objects object) r) (λ span. bind (limited copied span) (λ t. bind (image_of m p) (λ image. Ok (record { image = image; object = object; from = t.0; extent = t.1 }))))
section_of copied m (wanted.Pointed copointer r) = pointed_range copied (copointer_at m copointer) r

-- an event: trap `Index`, `Team`, `Rank`, in this order
abbrev pub event_of : ImageMemory → ℕ → ℤ → Place → Result EventAt Trap
event_of m object index p =
    bind (within (slice_get m.objects object) index) (λ i. bind (image_of m p) (λ image. Ok (record { image = image; object = object; index = i })))

-- the memory with a number in an element of an object, at an index within its bounds
abbrev pub set_element : ImageMemory → ℕ → Object → ℤ → ℤ → ImageMemory
set_element m object o index value =
    record m { cells = slice_set m.cells object (slice_set (slice_index_or m.cells object []) (offset_of o index) value) }

abbrev pub written_in : ImageMemory → ℕ → Option Object → ℤ → ℤ → Result ImageMemory Trap
written_in m object None index value = Err trap.Index
written_in m object (Some o) index value = if has_index o index then Ok (set_element m object o index value) else Err trap.Index

-- the memory with a number in an element of an object; trap `Index` outside its bounds
abbrev pub written : ImageMemory → ℕ → ℤ → ℤ → Result ImageMemory Trap
written m object index value = written_in m object (slice_get m.objects object) index value

-- the posts of an event at an index within its bounds
abbrev pub posts_in : ImageMemory → ℕ → Option Object → ℤ → ℕ
posts_in m object None index = 0
posts_in m object (Some o) index = slice_index_or (slice_index_or m.posts object []) (offset_of o index) 0

abbrev pub posts_at : ImageMemory → ℕ → ℤ → ℕ
posts_at m object index = posts_in m object (slice_get m.objects object) index

abbrev pub with_posts_in : ImageMemory → ℕ → Option Object → ℤ → ℕ → ImageMemory
with_posts_in m object None index posts = m
with_posts_in m object (Some o) index posts =
    record m { posts = slice_set m.posts object (slice_set (slice_index_or m.posts object []) (offset_of o index) posts) }

abbrev pub with_posts : ImageMemory → ℕ → ℤ → ℕ → ImageMemory
with_posts m object index posts = with_posts_in m object (slice_get m.objects object) index posts
