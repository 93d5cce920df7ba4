-- Which subroutines are shipped, and what they reach by calls.
use Rattle.std.specs.Prelude.{◌≡◌, ℕ, zero, suc, Bool, true, false, List, [], ◌∷◌, ◌++◌, map, Some, slice_get, Contains, IsTrue}
use Rattle.std.specs.List.{flat_map, list_all}
use Rattle.caf_program.specs.declared.program.Intent.{Intent}
use Rattle.caf_program.specs.declared.program.Intent.TheVariants.{In, InOut}
use Rattle.caf_program.specs.declared.program.SubR.{SubR}
use Rattle.caf_program.specs.declared.program.Program.{Program}
use Rattle.caf_program.specs.declared.stmt.StmtR.{StmtR}
use Rattle.caf_program.specs.declared.stmt.StmtR.TheOpen.{StmtR-F}
use Rattle.caf_program.specs.declared.stmt.StmtR.TheFolds.{fold-StmtR}

-- what the blocks of a statement hold together
abbrev pub in_blocks : {A : Type 0} → StmtR-F (List A) → List A
in_blocks (StmtR-F.If line e block otherwise) = flat_map (λ found. found) block ++ flat_map (λ found. found) otherwise
in_blocks (StmtR-F.Do line v first last step body) = flat_map (λ found. found) body
in_blocks (StmtR-F.While line e body) = flat_map (λ found. found) body
in_blocks (StmtR-F.Finish line t body) = flat_map (λ found. found) body
in_blocks _ = []

abbrev pub call_layer : StmtR-F (List ℕ) → List ℕ
call_layer (StmtR-F.Call line f actuals) = f ∷ []
call_layer s = in_blocks s

-- the subroutines that a statement calls
abbrev pub calls_in : StmtR → List ℕ
calls_in = fold-StmtR (List ℕ) call_layer

-- a `spawn`: its line and its subroutine
pub record Shipped : Type 0 where
  pub line : ℕ
  pub sub : ℕ

abbrev pub spawn_layer : StmtR-F (List Shipped) → List Shipped
spawn_layer (StmtR-F.Spawn line event f actuals p) = record { line = line; sub = f } ∷ []
spawn_layer s = in_blocks s

-- the spawns in a statement
abbrev pub spawns_in : StmtR → List Shipped
spawns_in = fold-StmtR (List Shipped) spawn_layer

abbrev pub collective_layer : StmtR-F (List ℕ) → List ℕ
collective_layer (StmtR-F.Finish line t body) = line ∷ flat_map (λ found. found) body
collective_layer (StmtR-F.Split line t colour key o) = line ∷ []
collective_layer s = in_blocks s

-- the lines of the `finish` and `team_split` statements in a statement
abbrev pub collectives_in : StmtR → List ℕ
collectives_in = fold-StmtR (List ℕ) collective_layer

-- the subroutines that each subroutine calls
abbrev pub calls_of : Program → List (List ℕ)
calls_of p = map (λ f. flat_map calls_in f.body) p.subs

-- the spawns of the main program and of its subroutines
abbrev pub spawns_of : Program → List Shipped
spawns_of p = flat_map spawns_in p.body ++ flat_map (λ f. flat_map spawns_in f.body) p.subs

-- the subroutines that are shipped
abbrev pub shipped_in : Program → List ℕ
shipped_in p = map (λ s. s.sub) (spawns_of p)

-- whether subroutine a calls subroutine b
abbrev pub HasCall : List (List ℕ) → ℕ → ℕ → Type 0
HasCall calls a b = (row : List ℕ) × (slice_get calls a ≡ Some row) × Contains row b

-- a way from a to b by so many calls
abbrev pub Path : List (List ℕ) → ℕ → ℕ → ℕ → Type 0
Path calls a b zero = a ≡ b
Path calls a b (suc n) = (c : ℕ) × Path calls a c n × HasCall calls c b

-- a subroutine is among those that ship, or is reached from one by calls
pub record Reaches (calls : List (List ℕ)) (starts : List ℕ) (b : ℕ) : Type 0 where
  pub start : ℕ
  pub steps : ℕ
  pub among : Contains starts start
  pub path : Path calls start b steps

abbrev pub is_in : Intent → Bool
is_in In = true
is_in InOut = false

-- whether all dummies are `intent(in)`
abbrev pub takes_values : SubR → Bool
takes_values f = list_all (λ d. is_in d.intent) f.dummies

-- a shipped subroutine, and what it reaches by calls, holds no `finish` and no `team_split`; its dummies are all
-- `intent(in)`
pub record KeepsShips (p : Program) : Type 0 where
  pub values : (at : ℕ) (f : SubR) → Contains (shipped_in p) at → slice_get p.subs at ≡ Some f → IsTrue (takes_values f)
  pub plain : (at : ℕ) (f : SubR) → Reaches (calls_of p) (shipped_in p) at → slice_get p.subs at ≡ Some f → flat_map collectives_in f.body ≡ []
