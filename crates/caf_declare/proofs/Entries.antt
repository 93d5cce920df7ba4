-- What a map's entries say of the table.
use Rattle.std.proofs.Common.{◌≡◌, Bool, true, false, List, [], ◌∷◌, ◌++◌, String, string_bytes, bytes_eq, is_some, refl, ap, subst, ◌∙◌, sym, true≢false}
use Rattle.std.specs.declared.alloc.Global.{Global}
use Rattle.std.specs.Map.{lookup}
use Rattle.std.specs.String.{string_eq}
use Rattle.indexmap.specs.IndexMap.{insert_entry}
use Rattle.caf_declare.specs.Table.{found, as_bytes, Name}

pub found_as_bytes : {A : Type 0} (es : List (String Global × A)) (name : Name) → found (as_bytes es) name ≡ lookup (λ k. bytes_eq name (string_bytes k)) es
found_as_bytes [] name = refl
found_as_bytes (e ∷ others) name = rw (found_as_bytes others name) refl

-- an entry under a new key stands last
put : {A : Type 0} (es : List (String Global × A)) (key : String Global) (s : A) → is_some (lookup (λ k. bytes_eq (string_bytes key) (string_bytes k)) es) ≡ false → as_bytes (insert_entry string_eq es key s) ≡ as_bytes es ++ (string_bytes key, s) ∷ []
put [] key s none = refl
put (e ∷ others) key s none = step (string_eq key e.0) refl (put others key s)
  where
    step : (b : Bool) → string_eq key e.0 ≡ b → (is_some (lookup (λ k. bytes_eq (string_bytes key) (string_bytes k)) others) ≡ false → as_bytes (insert_entry string_eq others key s) ≡ as_bytes others ++ (string_bytes key, s) ∷ []) → as_bytes (insert_entry string_eq (e ∷ others) key s) ≡ (string_bytes e.0, e.1) ∷ (as_bytes others ++ (string_bytes key, s) ∷ [])
    step true is more = absurd (true≢false (rw is at none))
    step false is more = rw is (ap (λ l. (string_bytes e.0, e.1) ∷ l) (more (rw is at none)))

pub added : {A : Type 0} (es : List (String Global × A)) (names : List (Name × A)) (key : String Global) (name : Name) (s : A) → as_bytes es ≡ names → string_bytes key ≡ name → is_some (lookup (λ k. bytes_eq name (string_bytes k)) es) ≡ false →
    as_bytes (insert_entry string_eq es key s) ≡ names ++ (name, s) ∷ []
added es names key name s same spelled none =
    let new : is_some (lookup (λ k. bytes_eq (string_bytes key) (string_bytes k)) es) ≡ false = subst (λ n. is_some (lookup (λ k. bytes_eq n (string_bytes k)) es) ≡ false) (sym spelled) none in
    put es key s new ∙ ap (λ t. t ++ (string_bytes key, s) ∷ []) same ∙ ap (λ n. names ++ (n, s) ∷ []) spelled
