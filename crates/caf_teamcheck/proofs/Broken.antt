-- From the parts of a program to the rule on its ships.
use Rattle.std.proofs.Common.{◌≡◌, ℕ, ◌<◌, Bool, true, false, List, [], ◌∷◌, map, length, slice_get, slice_index_or, Some, Contains, IsTrue, refl, sym, subst, ◌∙◌, arith, inl, inr, zero, suc, ◌&&◌, get_or, true≢false}
use Rattle.std.specs.List.{flat_map, list_all}
use Rattle.std.proofs.lemmas.List.{length-map}
use Rattle.std.proofs.lemmas.Option.{slice_get_read, slice_get_within}
use Rattle.std.proofs.lemmas.List.Elements.{Contains-append_cases, Contains-append_left, Contains-append_right, Contains-push_cases}
use Rattle.caf_program.specs.declared.program.DummyR.{DummyR}
use Rattle.caf_program.specs.declared.program.SubR.{SubR}
use Rattle.caf_program.specs.declared.program.Program.{Program}
use Rattle.caf_program.specs.declared.stmt.StmtR.{StmtR}
use Rattle.caf_program.specs.Ships.{calls_in, Shipped, KeepsShips, spawns_in, collectives_in, spawns_of, calls_of, shipped_in, is_in, takes_values}
use Rattle.caf_teamcheck.specs.declared.fault.ShipFault.{ShipFault}
use Rattle.caf_teamcheck.specs.declared.fault.ShipFault.TheVariants as fault
use Rattle.caf_teamcheck.specs.declared.site.Site.{Site}
use Rattle.caf_teamcheck.specs.declared.site.Site.TheVariants as site
use Rattle.caf_teamcheck.specs.Faults.{Breaks, IsMemory, HoldsCollective}
use Rattle.caf_teamcheck.specs.Marks.{AreReached, Marked}
use Rattle.caf_teamcheck.specs.Sites.{IsPlain, BreaksIn, IsWrong, MayStand, MayShip, sites_in, spawn_at, line_at}
use Rattle.caf_teamcheck.specs.Whole.{IsMainPlain, IsSubPlain, AreSubsPlain}
use Rattle.caf_teamcheck.proofs.Found.{spawns_found, lines_found}

none : {X : Type 0} (x : X) → Contains [] x → ⊥
none x h = absurd (omega (arith, h.1))

only : {X : Type 0} (a b : X) → Contains (a ∷ []) b → a ≡ b
only a b h = elim (Contains-push_cases [] a b h) as (λ _. a ≡ b) [ inl x ↦ absurd (none b x) | inr e ↦ e ]

first : {X : Type 0} (a : X) (rest : List X) → Contains (a ∷ rest) a
first a rest = (0, omega arith, refl)

-- what a `flat_map` holds comes of an element, and the other way round
source : {X Y : Type 0} (h : X → List Y) (xs : List X) (y : Y) → Contains (flat_map h xs) y → (x : X) × Contains xs x × Contains (h x) y
source h [] y c = absurd (none y c)
source h (x ∷ rest) y c = elim (Contains-append_cases (h x) (flat_map h rest) y c) [
  | inl here ↦ (x, first x rest, here)
  | inr there ↦ let s = source h rest y there in (s.0, Contains-append_right (x ∷ []) rest s.0 s.1, s.2)
]

sink : {X Y : Type 0} (h : X → List Y) (xs : List X) (x : X) (y : Y) → Contains xs x → Contains (h x) y → Contains (flat_map h xs) y
sink h [] x y among c = absurd (none x among)
sink h (z ∷ rest) x y among c = elim (Contains-append_cases (z ∷ []) rest x among) as (λ _. Contains (flat_map h (z ∷ rest)) y) [
  | inl here ↦ Contains-append_left (h z) (flat_map h rest) y (subst (λ w. Contains (h w) y) (sym (only z x here)) c)
  | inr there ↦ Contains-append_right (h z) (flat_map h rest) y (sink h rest x y there c)
]

mapped : {X Y : Type 0} (h : X → Y) (xs : List X) (y : Y) → Contains (map h xs) y → (x : X) × Contains xs x × (h x ≡ y)
mapped h [] y c = absurd (none y c)
mapped h (x ∷ rest) y c = elim (Contains-append_cases (h x ∷ []) (map h rest) y c) [
  | inl here ↦ (x, first x rest, only (h x) y here)
  | inr there ↦ let s = mapped h rest y there in (s.0, Contains-append_right (x ∷ []) rest s.0 s.1, s.2)
]

-- the spawns of plain places ship what takes values alone
spawned_values : (subs : List SubR) (reached : Bool) (sites : List Site) (s : Shipped) → IsPlain subs reached sites → Contains (flat_map spawn_at sites) s → MayShip subs s.sub
spawned_values subs reached sites s plain c = let from = source spawn_at sites s c in at_site from.0 (plain.may from.0 from.1) from.2
  where
    at_site : (x : Site) → MayStand subs reached x → Contains (spawn_at x) s → MayShip subs s.sub
    at_site (site.Spawn line f) may h = subst (λ (w : Shipped). MayShip subs w.sub) (only _ s h) may
    at_site (site.Collective line) may h = absurd (none s h)

-- plain places where a ship reaches hold no `finish` and no `team_split`
no_lines : (subs : List SubR) (reached : Bool) (sites : List Site) → IsPlain subs reached sites → IsTrue reached → flat_map line_at sites ≡ []
no_lines subs reached sites plain r = empty (flat_map line_at sites) (λ l c. let from = source line_at sites l c in at_site l from.0 (plain.may from.0 from.1) from.2)
  where
    at_site : (l : ℕ) (x : Site) → MayStand subs reached x → Contains (line_at x) l → ⊥
    at_site l (site.Spawn line f) may h = none l h
    at_site l (site.Collective line) may h = may r

    empty : (ls : List ℕ) → ((l : ℕ) → Contains ls l → ⊥) → ls ≡ []
    empty [] no_one = refl
    empty (l ∷ rest) no_one = absurd (no_one l (first l rest))

mapped_back : {X Y : Type 0} (h : X → Y) (xs : List X) (x : X) → Contains xs x → Contains (map h xs) (h x)
mapped_back h [] x c = absurd (none x c)
mapped_back h (z ∷ rest) x c = elim (Contains-append_cases (z ∷ []) rest x c) as (λ _. Contains (map h (z ∷ rest)) (h x)) [
  | inl here ↦ subst (λ w. Contains (h z ∷ map h rest) (h w)) (only z x here) (first (h z) (map h rest))
  | inr there ↦ Contains-append_right (h z ∷ []) (map h rest) (h x) (mapped_back h rest x there)
]

element : (subs : List SubR) (f : SubR) → Contains subs f → (at : ℕ) × (slice_get subs at ≡ Some f)
element subs f c = (c.0, slice_get_read subs (length subs) c.0 f refl c.1 (sym c.2))

abbrev in_body : SubR → List Shipped
in_body f = flat_map spawns_in f.body

-- a spawn of a plain block ships what takes values alone
block_values : (subs : List SubR) (reached : Bool) (block : List StmtR) (s : Shipped) → IsPlain subs reached (flat_map sites_in block) → Contains (flat_map spawns_in block) s → MayShip subs s.sub
block_values subs reached block s plain c = spawned_values subs reached (flat_map sites_in block) s plain (subst (λ (xs : List Shipped). Contains xs s) (sym (spawns_found block)) c)

program_values : (p : Program) (marks : List Bool) → IsMainPlain p → AreSubsPlain p marks (length p.subs) → (s : Shipped) → Contains (spawns_of p) s → MayShip p.subs s.sub
program_values p marks main subs s c = elim (Contains-append_cases (flat_map spawns_in p.body) (flat_map in_body p.subs) s c) as (λ _. MayShip p.subs s.sub) [
  | inl here ↦ block_values p.subs false p.body s main here
  | inr there ↦
      let from = source in_body p.subs s there in
      let e = element p.subs from.0 from.1 in
      block_values p.subs (slice_index_or marks e.0 false) (from.0).body s ((subs e.0 (slice_get_within p.subs e.0 from.0 e.1)).plain from.0 e.1) from.2
]

pub keeps_ships : (p : Program) (marks : List Bool) → AreReached (calls_of p) (shipped_in p) marks → IsMainPlain p → AreSubsPlain p marks (length p.subs) → KeepsShips p
keeps_ships p marks reached main subs = record {
  values = λ at f c is. let m = mapped (λ (s : Shipped). s.sub) (spawns_of p) at c in program_values p marks main subs m.0 m.1 f (subst (λ n. slice_get p.subs n ≡ Some f) (sym m.2) is);
  plain = λ at f reach is.
      let within : at < length p.subs = slice_get_within p.subs at f is in
      let size : length (calls_of p) ≡ length p.subs = length-map p.subs (λ (f : SubR). flat_map calls_in f.body) in
      let marked : Marked marks at = reached.whole at reach (subst (λ n. at < n) (sym size) within) in
      sym (lines_found f.body) ∙ no_lines p.subs (slice_index_or marks at false) (flat_map sites_in f.body) ((subs at within).plain f is) marked;
}

wrong_breaks : (p : Program) (reached : Bool) (holder : List ℕ) (block : List StmtR) →
    ((s : Shipped) → Contains (flat_map spawns_in block) s → Contains (spawns_of p) s) →
    (IsTrue reached → (line : ℕ) → Contains (flat_map collectives_in block) line → HoldsCollective p line holder) →
    (f : ShipFault) → BreaksIn p.subs reached holder (flat_map sites_in block) f → Breaks p f
wrong_breaks p reached holder block spawns lines f b = at_site f b.site b.among b.wrong
  where
    at_site : (f : ShipFault) (x : Site) → Contains (flat_map sites_in block) x → IsWrong p.subs reached holder x f → Breaks p f
    at_site (fault.InoutInShip l name) (site.Spawn line g) among wrong =
        let s : Shipped = record { line = line; sub = g } in
        record {
          spawn = s;
          sub = wrong.sub;
          dummy = wrong.inout.dummy;
          among = spawns s (subst (λ (xs : List Shipped). Contains xs s) (spawns_found block) (sink spawn_at (flat_map sites_in block) (site.Spawn line g) s among (first s [])));
          stands = sym wrong.inout.inout.0;
          is = wrong.is;
          has = wrong.inout.has;
          inout = wrong.inout.inout.1;
          named = wrong.inout.inout.2;
        }
    at_site (fault.InoutInShip l name) (site.Collective line) among wrong = absurd wrong
    at_site (fault.CollectiveInShip l name) (site.Spawn line g) among wrong = absurd wrong.inout.inout
    at_site (fault.CollectiveInShip l name) (site.Collective line) among wrong =
        let holds : Contains (flat_map collectives_in block) line = subst (λ (xs : List ℕ). Contains xs line) (lines_found block) (sink line_at (flat_map sites_in block) (site.Collective line) line among (first line [])) in
        subst (λ n. HoldsCollective p n name) (sym wrong.0) (subst (λ n. HoldsCollective p line n) (sym wrong.2) (lines wrong.1 line holds))
    at_site fault.Memory x among wrong = tt

pub main_breaks : (p : Program) (f : ShipFault) → BreaksIn p.subs false [] (flat_map sites_in p.body) f → Breaks p f
main_breaks p f b = wrong_breaks p false [] p.body (λ s h. Contains-append_left (flat_map spawns_in p.body) (flat_map in_body p.subs) s h) (λ r. absurd (true≢false (sym r))) f b

sub_breaks : (p : Program) (marks : List Bool) (at : ℕ) (sub : SubR) (f : ShipFault) → AreReached (calls_of p) (shipped_in p) marks → slice_get p.subs at ≡ Some sub →
    BreaksIn p.subs (slice_index_or marks at false) sub.name (flat_map sites_in sub.body) f → Breaks p f
sub_breaks p marks at sub f reached is b =
    let among : Contains p.subs sub = (at, slice_get_within p.subs at sub is, held p.subs at sub is) in
    wrong_breaks p (slice_index_or marks at false) sub.name sub.body
    (λ s h. Contains-append_right (flat_map spawns_in p.body) (flat_map in_body p.subs) s (sink in_body p.subs sub s among h))
    (λ r line h. record { at = at; sub = sub; is = is; reached = reached.sound at r; holds = h; named = refl })
    f b
  where
    held : (subs : List SubR) (at : ℕ) (sub : SubR) → slice_get subs at ≡ Some sub → slice_index_or subs at sub ≡ sub
    held [] at sub e = cc
    held (f ∷ rest) zero sub e = cc
    held (f ∷ rest) (suc n) sub e = held rest n sub e

-- what the code finds of the subroutine at a place, as the facts stand there
pub sub_plain : (p : Program) (marks : List Bool) (at : ℕ) (subs : List SubR) (f : SubR) (sites : List Site) →
    subs ≡ p.subs → at < length p.subs → f ≡ get_or subs at f → sites ≡ flat_map sites_in f.body → IsPlain subs (slice_index_or marks at false) sites → IsSubPlain p marks at
sub_plain p marks at subs f sites same within is found plain =
    let there : slice_get p.subs at ≡ Some f = slice_get_read p.subs (length p.subs) at f refl within (subst (λ (xs : List SubR). f ≡ get_or xs at f) same is) in
    let whole : IsPlain p.subs (slice_index_or marks at false) (flat_map sites_in f.body) =
    subst (λ (xs : List Site). IsPlain p.subs (slice_index_or marks at false) xs) found (subst (λ (xs : List SubR). IsPlain xs (slice_index_or marks at false) sites) same plain) in
    record { plain = λ g e. let h : f ≡ g = cc (there, e) in subst (λ (g : SubR). IsPlain p.subs (slice_index_or marks at false) (flat_map sites_in g.body)) h whole }

pub sub_wrong : (p : Program) (marks : List Bool) (at : ℕ) (subs : List SubR) (f : SubR) (sites : List Site) (name : List ℕ) (w : ShipFault) → AreReached (calls_of p) (shipped_in p) marks →
    subs ≡ p.subs → at < length p.subs → f ≡ get_or subs at f → sites ≡ flat_map sites_in f.body → name ≡ f.name →
    BreaksIn subs (slice_index_or marks at false) name sites w → Breaks p w
sub_wrong p marks at subs f sites name w reached same within is found called b =
    let there : slice_get p.subs at ≡ Some f = slice_get_read p.subs (length p.subs) at f refl within (subst (λ (xs : List SubR). f ≡ get_or xs at f) same is) in
    sub_breaks p marks at f w reached there
    (subst (λ (n : List ℕ). BreaksIn p.subs (slice_index_or marks at false) n (flat_map sites_in f.body) w) called
    (subst (λ (xs : List Site). BreaksIn p.subs (slice_index_or marks at false) name xs w) found
    (subst (λ (xs : List SubR). BreaksIn xs (slice_index_or marks at false) name sites w) same b)))

all_are : (ds : List DummyR) (d : DummyR) → IsTrue (list_all (λ d. is_in d.intent) ds) → Contains ds d → IsTrue (is_in d.intent)
all_are [] d all c = absurd (none d c)
all_are (x ∷ rest) d all c = elim (Contains-append_cases (x ∷ []) rest d c) as (λ _. IsTrue (is_in d.intent)) [
  | inl here ↦ subst (λ (w : DummyR). IsTrue (is_in w.intent)) (only x d here) (both (is_in x.intent) (list_all (λ d. is_in d.intent) rest) all).0
  | inr there ↦ all_are rest d (both (is_in x.intent) (list_all (λ d. is_in d.intent) rest) all).1 there
]
  where
    both : (a b : Bool) → IsTrue (a && b) → IsTrue a × IsTrue b
    both true b h = (refl, h)
    both false b h = absurd (true≢false (sym h))

pub fault_breaks : (p : Program) (f : ShipFault) → Breaks p f → (IsMemory f → ⊥) → KeepsShips p → ⊥
fault_breaks p (fault.CollectiveInShip line name) broken told keeps =
    none line (subst (λ (xs : List ℕ). Contains xs line) (keeps.plain broken.at broken.sub broken.reached broken.is) broken.holds)
fault_breaks p (fault.InoutInShip line name) broken told keeps =
    let values : IsTrue (takes_values broken.sub) = keeps.values broken.spawn.sub broken.sub (mapped_back (λ (s : Shipped). s.sub) (spawns_of p) broken.spawn broken.among) broken.is in
    true≢false (sym (all_are broken.sub.dummies broken.dummy values broken.has) ∙ broken.inout)
fault_breaks p fault.Memory broken told keeps = told tt
