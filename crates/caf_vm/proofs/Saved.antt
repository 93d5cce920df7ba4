-- Writes that are made one after another.
use Rattle.std.proofs.Common.{◌≡◌, ℕ, ℤ, ◌+◌, ◌<◌, Bool, true, false, cond, List, [], ◌∷◌, length, get_or, take, Option, Some, None, Result, Ok, Err, refl, ap, sym, ◌∙◌}
use Rattle.std.specs.Prelude.{MatchResult, OnErr, slice_get, slice_set, slice_index_or}
use Rattle.std.proofs.lemmas.List.{reverse-append, take_more}
use Rattle.caf_base.specs.Element.{has_index, offset_of}
use Rattle.caf_base.specs.ImageMemory.{ImageMemory}
use Rattle.caf_base.specs.Places.{set_element, written, written_in}
use Rattle.caf_base.specs.declared.object.Object.{Object}
use Rattle.caf_base.specs.declared.trap.Trap.{Trap}
use Rattle.caf_base.specs.declared.trap.Trap.TheVariants as trap
use Rattle.caf_vm.specs.Draft.{put, put_in, saved, saved_from}
use Rattle.caf_vm.specs.declared.draft.Write.{Write}

-- a memory, or what was there
abbrev pub or_else : Result ImageMemory Trap → ImageMemory → ImageMemory
or_else (Ok n) m = n
or_else (Err t) m = m

abbrev here : ImageMemory → Write → Object → List (List ℤ)
here m w o = slice_set m.cells w.object (slice_set (slice_index_or m.cells w.object []) (offset_of o w.index) w.value)

tested : (m : ImageMemory) (w : Write) (o : Object) (b : Bool) → record m { cells = cond b (here m w o) m.cells } ≡ or_else (cond b (Ok (set_element m w.object o w.index w.value)) (Err trap.Index)) m
tested m w o true = refl
tested m w o false = refl

found : (m : ImageMemory) (w : Write) (f : Option Object) → record m { cells = put_in f w m.cells } ≡ or_else (written_in m w.object f w.index w.value) m
found m w None = refl
found m w (Some o) = tested m w o (has_index o w.index)

-- one write
pub put_is : (m : ImageMemory) (w : Write) → put m w ≡ or_else (written m w.object w.index w.value) m
put_is m w = found m w (slice_get m.objects w.object)

pub put_ok : (m n : ImageMemory) (w : Write) → written m w.object w.index w.value ≡ Ok n → n ≡ put m w
put_ok m n w e = sym (put_is m w ∙ ap (λ r. or_else r m) e)

pub put_err : (m : ImageMemory) (w : Write) (t : Trap) → written m w.object w.index w.value ≡ Err t → m ≡ put m w
put_err m w t e = sym (put_is m w ∙ ap (λ r. or_else r m) e)

-- what a write left
pub put_any : (m n : ImageMemory) (w : Write) (r : Result (Unit {0}) Trap) → MatchResult r (λ x. written m w.object w.index w.value ≡ Ok n) (λ t. written m w.object w.index w.value ≡ Err t) → OnErr r (n ≡ m) → n ≡ put m w
put_any m n w (Ok x) h e = put_ok m n w h
put_any m n w (Err t) h e = e ∙ put_err m w t h

-- one write more
pub saved_more : (ws : List Write) (i : ℕ) (d : Write) (m : ImageMemory) → i < length ws → put (saved (take i ws) m) (get_or ws i d) ≡ saved (take (i + 1) ws) m
saved_more ws i d m h =
    sym (ap (λ xs. saved xs m) (take_more ws i d h) ∙ ap (λ xs. saved_from xs m) (reverse-append (take i ws) (get_or ws i d ∷ [])))

pub saved_turn : (ws : List Write) (i : ℕ) (d : Write) (first m n : ImageMemory) → i < length ws → m ≡ saved (take i ws) first → n ≡ put m (get_or ws i d) → n ≡ saved (take (i + 1) ws) first
saved_turn ws i d first m n h before e = e ∙ ap (λ (s : ImageMemory). put s (get_or ws i d)) before ∙ saved_more ws i d first h
