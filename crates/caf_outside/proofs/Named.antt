-- Texts under names, with one entry more.
use Rattle.std.proofs.Common.{◌≡◌, ◌≢◌, ℕ, ◌+◌, ◌<◌, Bool, true, false, List, [], ◌∷◌, ◌++◌, Option, Some, None, cond, length, take, get_or, refl, ap, ◌∙◌}
use Rattle.std.specs.Str.{bytes_eq}
use Rattle.std.proofs.lemmas.List.{take_more}
use Rattle.caf_outside.proofs.Counts.{bytes_eq-same, bytes_eq-other}
use Rattle.caf_outside.specs.Held.{text_of, or_else}
use Rattle.caf_outside.specs.declared.held.Held.{Held}

or_else-cond : (b : Bool) (bytes : List ℕ) (o p : Option (List ℕ)) → or_else (cond b (Some bytes) o) p ≡ cond b (Some bytes) (or_else o p)
or_else-cond true bytes o p = refl
or_else-cond false bytes o p = refl

-- the entry counts before all others
text_of-append : (held : List Held) (entry : Held) (name : List ℕ) → text_of (held ++ entry ∷ []) name ≡ cond (bytes_eq entry.name name) (Some entry.bytes) (text_of held name)
text_of-append [] entry name = refl
text_of-append (first ∷ rest) entry name =
    ap (λ o. or_else o (cond (bytes_eq first.name name) (Some first.bytes) None)) (text_of-append rest entry name) ∙ or_else-cond (bytes_eq entry.name name) entry.bytes (text_of rest name) (cond (bytes_eq first.name name) (Some first.bytes) None)

pub text_of_same : (held : List Held) (entry : Held) (name : List ℕ) → entry.name ≡ name → text_of (held ++ entry ∷ []) name ≡ Some entry.bytes
text_of_same held entry name is = text_of-append held entry name ∙ rw is (rw (bytes_eq-same name) refl)

pub text_of_other : (held : List Held) (entry : Held) (other : List ℕ) → other ≢ entry.name → text_of (held ++ entry ∷ []) other ≡ text_of held other
text_of_other held entry other apart = text_of-append held entry other ∙ rw (bytes_eq-other entry.name other apart) refl

-- one entry more is looked at
pub text_of_more : (held : List Held) (i : ℕ) (d : Held) (name : List ℕ) → i < length held → text_of (take (i + 1) held) name ≡ cond (bytes_eq (get_or held i d).name name) (Some (get_or held i d).bytes) (text_of (take i held) name)
text_of_more held i d name lt = rw (take_more held i d lt) (text_of-append (take i held) (get_or held i d) name)
