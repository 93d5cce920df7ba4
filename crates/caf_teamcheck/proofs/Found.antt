-- The places of a statement hold its spawns, and the lines of its `finish` and `team_split` statements.
use Rattle.std.proofs.Common.{◌≡◌, ℕ, List, [], ◌∷◌, ◌++◌, map, refl, sym, subst, ap, ◌∙◌}
use Rattle.std.specs.List.{flat_map}
use Rattle.std.proofs.lemmas.Grind.{flat_map-append}
use Rattle.caf_program.specs.declared.stmt.StmtR.{StmtR}
use Rattle.caf_program.specs.declared.stmt.StmtR.TheOpen.{StmtR-F}
use Rattle.caf_program.specs.declared.stmt.StmtR.TheFolds.{ind-StmtR, fold-roll-StmtR, map-StmtR}
use Rattle.caf_program.specs.declared.stmt.StmtR.TheViews.{roll-StmtR}
use Rattle.caf_program.specs.Ships.{Shipped, spawns_in, collectives_in, spawn_layer, collective_layer}
use Rattle.caf_teamcheck.specs.declared.site.Site.{Site}
use Rattle.caf_teamcheck.specs.Sites.{site_layer, sites_in, spawn_at, line_at}

-- two ways to find something in statements agree
abbrev Agree : {A : Type 0} → (Site → List A) → (StmtR → List A) → StmtR → Type 0
Agree h g s = flat_map h (sites_in s) ≡ g s

joined : {A : Type 0} (h : Site → List A) (g : StmtR → List A) (block : List ((s : StmtR) × Agree h g s)) →
    flat_map h (flat_map (λ found. found) (map sites_in (map (λ s. s.0) block))) ≡ flat_map (λ found. found) (map g (map (λ s. s.0) block))
joined h g [] = refl
joined h g (s ∷ rest) =
    let front = sites_in s.0 in
    let back = flat_map (λ (found : List Site). found) (map sites_in (map (λ (s : (s : StmtR) × Agree h g s). s.0) rest)) in
    flat_map-append h front back ∙ ap (λ xs. xs ++ flat_map h back) s.1 ∙ ap (λ xs. g s.0 ++ xs) (joined h g rest)

abbrev Spawns : Type 0
Spawns = (s : StmtR) × Agree spawn_at spawns_in s

two : {A : Type 0} (h : Site → List A) (g : StmtR → List A) (block otherwise : List ((s : StmtR) × Agree h g s)) →
    flat_map h (flat_map (λ found. found) (map sites_in (map (λ s. s.0) block)) ++ flat_map (λ found. found) (map sites_in (map (λ s. s.0) otherwise)))
    ≡ flat_map (λ found. found) (map g (map (λ s. s.0) block)) ++ flat_map (λ found. found) (map g (map (λ s. s.0) otherwise))
two h g block otherwise =
    let front = flat_map (λ (found : List Site). found) (map sites_in (map (λ (s : (s : StmtR) × Agree h g s). s.0) block)) in
    let back = flat_map (λ (found : List Site). found) (map sites_in (map (λ (s : (s : StmtR) × Agree h g s). s.0) otherwise)) in
    let first = flat_map (λ (found : List _). found) (map g (map (λ (s : (s : StmtR) × Agree h g s). s.0) block)) in
    flat_map-append h front back ∙ ap (λ xs. xs ++ flat_map h back) (joined h g block) ∙ ap (λ xs. first ++ xs) (joined h g otherwise)

spawns_layer : (y : StmtR-F Spawns) →
    flat_map spawn_at (site_layer (map-StmtR StmtR (List Site) sites_in (map-StmtR Spawns StmtR (λ s. s.0) y)))
    ≡ spawn_layer (map-StmtR StmtR (List Shipped) spawns_in (map-StmtR Spawns StmtR (λ s. s.0) y))
spawns_layer (StmtR-F.If line e block otherwise) = two spawn_at spawns_in block otherwise
spawns_layer (StmtR-F.Do line v first last step body) = joined spawn_at spawns_in body
spawns_layer (StmtR-F.While line e body) = joined spawn_at spawns_in body
spawns_layer (StmtR-F.Finish line t body) = joined spawn_at spawns_in body
spawns_layer (StmtR-F.Assign line v e) = refl
spawns_layer (StmtR-F.Aim line c r) = refl
spawns_layer (StmtR-F.Print line parts) = refl
spawns_layer (StmtR-F.Call line f actuals) = refl
spawns_layer (StmtR-F.Spawn line event f actuals p) = refl
spawns_layer (StmtR-F.Notify line e) = refl
spawns_layer (StmtR-F.Wait line e) = refl
spawns_layer (StmtR-F.Copy line dest source events) = refl
spawns_layer (StmtR-F.Cofence line down) = refl
spawns_layer (StmtR-F.Split line t colour key o) = refl

abbrev Lines : Type 0
Lines = (s : StmtR) × Agree line_at collectives_in s

lines_layer : (y : StmtR-F Lines) →
    flat_map line_at (site_layer (map-StmtR StmtR (List Site) sites_in (map-StmtR Lines StmtR (λ s. s.0) y)))
    ≡ collective_layer (map-StmtR StmtR (List ℕ) collectives_in (map-StmtR Lines StmtR (λ s. s.0) y))
lines_layer (StmtR-F.If line e block otherwise) = two line_at collectives_in block otherwise
lines_layer (StmtR-F.Do line v first last step body) = joined line_at collectives_in body
lines_layer (StmtR-F.While line e body) = joined line_at collectives_in body
lines_layer (StmtR-F.Finish line t body) = ap (λ xs. line ∷ xs) (joined line_at collectives_in body)
lines_layer (StmtR-F.Assign line v e) = refl
lines_layer (StmtR-F.Aim line c r) = refl
lines_layer (StmtR-F.Print line parts) = refl
lines_layer (StmtR-F.Call line f actuals) = refl
lines_layer (StmtR-F.Spawn line event f actuals p) = refl
lines_layer (StmtR-F.Notify line e) = refl
lines_layer (StmtR-F.Wait line e) = refl
lines_layer (StmtR-F.Copy line dest source events) = refl
lines_layer (StmtR-F.Cofence line down) = refl
lines_layer (StmtR-F.Split line t colour key o) = refl

spawns_agree : (s : StmtR) → Agree spawn_at spawns_in s
spawns_agree = ind-StmtR (Agree spawn_at spawns_in) (λ x y is.
    let z : StmtR-F StmtR = map-StmtR Spawns StmtR (λ s. s.0) y in
    subst (λ w. Agree spawn_at spawns_in (roll-StmtR w)) is
    (ap (flat_map spawn_at) (fold-roll-StmtR (List Site) site_layer z) ∙ spawns_layer y ∙ sym (fold-roll-StmtR (List Shipped) spawn_layer z)))

lines_agree : (s : StmtR) → Agree line_at collectives_in s
lines_agree = ind-StmtR (Agree line_at collectives_in) (λ x y is.
    let z : StmtR-F StmtR = map-StmtR Lines StmtR (λ s. s.0) y in
    subst (λ w. Agree line_at collectives_in (roll-StmtR w)) is
    (ap (flat_map line_at) (fold-roll-StmtR (List Site) site_layer z) ∙ lines_layer y ∙ sym (fold-roll-StmtR (List ℕ) collective_layer z)))

block_agrees : {A : Type 0} (h : Site → List A) (g : StmtR → List A) → ((s : StmtR) → Agree h g s) → (block : List StmtR) → flat_map h (flat_map sites_in block) ≡ flat_map g block
block_agrees h g agrees [] = refl
block_agrees h g agrees (s ∷ rest) =
    flat_map-append h (sites_in s) (flat_map sites_in rest) ∙ ap (λ xs. xs ++ flat_map h (flat_map sites_in rest)) (agrees s) ∙ ap (λ xs. g s ++ xs) (block_agrees h g agrees rest)

-- the spawns of a block are those at its places
pub spawns_found : (block : List StmtR) → flat_map spawn_at (flat_map sites_in block) ≡ flat_map spawns_in block
spawns_found block = block_agrees spawn_at spawns_in spawns_agree block

-- the lines of a block's `finish` and `team_split` statements are those at its places
pub lines_found : (block : List StmtR) → flat_map line_at (flat_map sites_in block) ≡ flat_map collectives_in block
lines_found block = block_agrees line_at collectives_in lines_agree block
