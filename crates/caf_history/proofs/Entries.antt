-- The groups of an index after a change.
use Rattle.std.proofs.Common.{◌≡◌, Bool, true, false, List, [], ◌∷◌, refl, ap, ◌∙◌, sym, true≢false}
use Rattle.std.specs.Prelude.{ℕ, ℤ, Option, Some, None, is_some, if◌then◌else◌}
use Rattle.std.specs.Global.{Vec}
use Rattle.std.specs.Map.{lookup, set_value}
use Rattle.indexmap.specs.IndexMap.{insert_entry}
use Rattle.caf_base.specs.FinishRef.{same_path}
use Rattle.caf_history.specs.declared.group.Group.{Group}
use Rattle.caf_history.specs.Index.{Path}
use Rattle.caf_history.proofs.Paths.{paths, turned, alike}

abbrev pub Key : Type 0
Key = Vec (ℕ × ℤ)

abbrev pub Entries : Type 0
Entries = List (Key × Group)

-- the group of a path
abbrev pub found : Path → Entries → Option Group
found path es = lookup (λ (key : Key). same_path path key.items) es

some : (g : Group) (o : Option Group) → o ≡ Some g → o ≡ None → ⊥
some g o is none = true≢false (sym (ap is_some is) ∙ ap is_some none)

-- two tests of which one fails can be asked in either order
either : {A : Type 0} (a b : Bool) (x y : A) (o : A) → (a ≡ true → b ≡ true → ⊥) → (if b then y else (if a then x else o)) ≡ (if a then x else (if b then y else o))
either true true x y o apart = absurd (apart refl refl)
either true false x y o apart = refl
either false true x y o apart = refl
either false false x y o apart = refl

-- a test of one that is alike decides first
shadow : {A : Type 0} (a b : Bool) (x y : A) (o : A) → b ≡ a → (if b then x else o) ≡ (if a then x else (if b then y else o))
shadow true true x y o is = refl
shadow true false x y o is = absurd (true≢false (sym is))
shadow false true x y o is = absurd (true≢false is)
shadow false false x y o is = refl

-- a path is not the same as two that differ
apart : (p path key : Path) → same_path path key ≡ false → same_path p path ≡ true → same_path p key ≡ true → ⊥
apart p path key other one two = true≢false (sym two ∙ paths.congr p path key one ∙ other)

-- a group was written where one stood
pub written : (path p : Path) (es : Entries) (w : Group) → is_some (found path es) ≡ true →
    found p (set_value (λ (key : Key). same_path path key.items) es w) ≡ (if same_path p path then Some w else found p es)
written path p [] w there = absurd (true≢false (sym there))
written path p (e ∷ es) w there = step (same_path path e.0.items) refl there (written path p es w)
  where
    step : (b : Bool) → same_path path e.0.items ≡ b → is_some (if b then Some e.1 else found path es) ≡ true →
        (is_some (found path es) ≡ true → found p (set_value (λ (key : Key). same_path path key.items) es w) ≡ (if same_path p path then Some w else found p es)) →
        found p (if b then (e.0, w) ∷ es else e ∷ set_value (λ (key : Key). same_path path key.items) es w) ≡ (if same_path p path then Some w else (if same_path p e.0.items then Some e.1 else found p es))
    step true is has more = shadow (same_path p path) (same_path p e.0.items) (Some w) (Some e.1) (found p es) (sym (alike p path e.0.items is))
    step false is has more =
        ap (λ o. if same_path p e.0.items then Some e.1 else o) (more has) ∙ either (same_path p path) (same_path p e.0.items) (Some w) (Some e.1) (found p es) (apart p path e.0.items is)

-- a group came under a new key
pub put : (eq : Key → Key → Bool) → ((a b : Key) → eq a b ≡ same_path a.items b.items) → (key : Key) (p : Path) (es : Entries) (w : Group) → found key.items es ≡ None →
    found p (insert_entry eq es key w) ≡ (if same_path p key.items then Some w else found p es)
put eq is key p [] w new = refl
put eq is key p (e ∷ es) w new = step (same_path key.items e.0.items) refl (is key e.0) new (put eq is key p es w)
  where
    step : (b : Bool) → same_path key.items e.0.items ≡ b → eq key e.0 ≡ same_path key.items e.0.items → (if b then Some e.1 else found key.items es) ≡ None →
        (found key.items es ≡ None → found p (insert_entry eq es key w) ≡ (if same_path p key.items then Some w else found p es)) →
        found p (if eq key e.0 then (e.0, w) ∷ es else e ∷ insert_entry eq es key w) ≡ (if same_path p key.items then Some w else (if same_path p e.0.items then Some e.1 else found p es))
    step true tells by none more = absurd (some e.1 (Some e.1) refl none)
    step false tells by none more =
        let not_here : eq key e.0 ≡ false = by ∙ tells in
        ap (λ (b : Bool). found p (if b then (e.0, w) ∷ es else e ∷ insert_entry eq es key w)) not_here
        ∙ ap (λ o. if same_path p e.0.items then Some e.1 else o) (more none)
        ∙ either (same_path p key.items) (same_path p e.0.items) (Some w) (Some e.1) (found p es) (apart p key.items e.0.items tells)

-- one path's groups are those of another that is the same
pub as_other : (p path : Path) (es : Entries) → same_path p path ≡ true → found p es ≡ found path es
as_other p path [] is = refl
as_other p path (e ∷ es) is = step _ _ (paths.congr p path e.0.items is) (as_other p path es is)
  where
    step : (a b : Bool) → a ≡ b → found p es ≡ found path es → (if a then Some e.1 else found p es) ≡ (if b then Some e.1 else found path es)
    step a b same rest = ap (λ (c : Bool). if c then Some e.1 else found p es) same ∙ ap (λ o. if b then Some e.1 else o) rest
