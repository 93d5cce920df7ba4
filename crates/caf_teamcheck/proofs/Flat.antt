-- What blocks hold together, and the places of what is shipped.
use Rattle.std.proofs.Common.{◌≡◌, ℕ, List, ◌++◌, [], ◌∷◌, map, ap, sym, ◌∙◌, append_assoc}
use Rattle.std.specs.List.{flat_map}
use Rattle.std.proofs.lemmas.List.{map-append, append-nil}
use Rattle.std.proofs.lemmas.List.Folds.{flat_map-map}
use Rattle.caf_program.specs.declared.stmt.StmtR.{StmtR}
use Rattle.caf_program.specs.declared.program.SubR.{SubR}
use Rattle.caf_program.specs.declared.program.Program.{Program}
use Rattle.caf_program.specs.Ships.{Shipped, calls_in, spawns_in, shipped_in}
use Rattle.caf_teamcheck.specs.Sites.{sites_in}
use Rattle.caf_teamcheck.specs.Spawned.{place, spawns_by}

pub flat_blocks : {A : Type 0} (f : StmtR → List A) (block : List StmtR) → flat_map (λ found. found) (map f block) ≡ flat_map f block
flat_blocks f block = flat_map-map (λ found. found) f block

pub called_blocks : (block : List StmtR) → flat_map (λ found. found) (map calls_in block) ≡ flat_map calls_in block
called_blocks block = flat_blocks calls_in block

pub spawn_blocks : (block : List StmtR) → flat_map (λ found. found) (map spawns_in block) ≡ flat_map spawns_in block
spawn_blocks block = flat_blocks spawns_in block

pub site_blocks : (block : List StmtR) → flat_map (λ found. found) (map sites_in block) ≡ flat_map sites_in block
site_blocks block = flat_blocks sites_in block

pub places_of_two : (before : List ℕ) (xs ys : List Shipped) → (before ++ map place xs) ++ map place ys ≡ before ++ map place (xs ++ ys)
places_of_two before xs ys = append_assoc before (map place xs) (map place ys) ∙ ap (λ rest. before ++ rest) (sym (map-append place xs ys))

more : (block : List StmtR) (s : StmtR) → flat_map (λ found. found) (map spawns_in block) ++ spawns_in s ≡ flat_map (λ found. found) (map spawns_in (block ++ s ∷ []))
more [] s = sym (append-nil (spawns_in s))
more (b ∷ rest) s = append_assoc (spawns_in b) (flat_map (λ found. found) (map spawns_in rest)) (spawns_in s) ∙ ap (λ xs. spawns_in b ++ xs) (more rest s)

-- one statement more
pub places_of_more : (before : List ℕ) (block : List StmtR) (s : StmtR) →
    (before ++ map place (flat_map (λ found. found) (map spawns_in block))) ++ map place (spawns_in s) ≡ before ++ map place (flat_map (λ found. found) (map spawns_in (block ++ s ∷ [])))
places_of_more before block s = places_of_two before (flat_map (λ found. found) (map spawns_in block)) (spawns_in s) ∙ ap (λ (xs : List Shipped). before ++ map place xs) (more block s)

more_by : (subs : List SubR) (f : SubR) → flat_map spawns_by subs ++ spawns_by f ≡ flat_map spawns_by (subs ++ f ∷ [])
more_by [] f = sym (append-nil (spawns_by f))
more_by (b ∷ rest) f = append_assoc (spawns_by b) (flat_map spawns_by rest) (spawns_by f) ∙ ap (λ xs. spawns_by b ++ xs) (more_by rest f)

-- one subroutine more
pub places_by_more : (before : List ℕ) (subs : List SubR) (f : SubR) →
    (before ++ map place (flat_map spawns_by subs)) ++ map place (spawns_by f) ≡ before ++ map place (flat_map spawns_by (subs ++ f ∷ []))
places_by_more before subs f = places_of_two before (flat_map spawns_by subs) (spawns_by f) ∙ ap (λ (xs : List Shipped). before ++ map place xs) (more_by subs f)

pub shipped_is : (p : Program) → map place (flat_map (λ found. found) (map spawns_in p.body)) ++ map place (flat_map spawns_by p.subs) ≡ shipped_in p
shipped_is p =
    ap (λ (xs : List Shipped). map place xs ++ map place (flat_map spawns_by p.subs)) (spawn_blocks p.body)
    ∙ sym (map-append place (flat_map spawns_in p.body) (flat_map spawns_by p.subs))
