-- The rank of a place, and the place as the next instruction pops it.
use Rattle.std.proofs.Common.{◌≡◌, ℕ, ◌+◌, List, ◌∷◌, ◌++◌, length, Option, Some, None, ℤ, refl, sym, ap, subst, arith}
use Rattle.caf_base.specs.ImageMemory.{ImageMemory}
use Rattle.caf_base.specs.declared.place.Place.{Place}
use Rattle.caf_base.specs.declared.place.Place.TheVariants as place
use Rattle.caf_program.specs.Value.{value_at}
use Rattle.caf_program.specs.declared.expr.ExprR.{ExprR}
use Rattle.caf_program.specs.declared.expr.PlaceR.{PlaceR}
use Rattle.caf_program.specs.declared.expr.TeamR.{TeamR}
use Rattle.caf_program.specs.declared.expr.TeamR.TheVariants as team
use Rattle.caf_treestep.specs.Evaluated.{place_if, place_in}
use Rattle.caf_code.specs.Did.{Did, found, on_place}
use Rattle.caf_code.specs.Task.{Task, past}
use Rattle.caf_code.specs.declared.instr.Instr.{Instr}
use Rattle.caf_code.specs.declared.instr.PlaceForm.{PlaceForm}
use Rattle.caf_exprgen.specs.ExprCode.{team_place}
use Rattle.caf_exprgen.specs.Leaves.{seen_by}
use Rattle.caf_codegen.specs.StmtCode.{place_code, place_form}
use Rattle.caf_codegen.proofs.Related.{Leads, Setting, found_map, leads_value}

-- the next instruction pops this place off the one list of operands, and leaves the other
abbrev pub Pops : PlaceForm → Place → List ℤ → List ℤ → Type 0
Pops form q stack below = (m : ImageMemory) (go : Place → List ℤ → Did) → on_place form stack m go ≡ go q below

pub pops_rank : (t : TeamR) (z : ℤ) (below : List ℤ) → Pops (team_place t) (place_in t z) (z ∷ below) below
pops_rank team.World z below m go = refl
pops_rank (team.Object o) z below m go = refl

past_none : (t : Task) → t ≡ past 0 t.frame.stack t
past_none t = let e : t.address ≡ t.address + 0 = omega arith in ap (λ (n : ℕ). (let u : Task = record t { address = n } in u)) e

-- the rank, if there is one, and what follows it
pub leads_place : (g : Setting) (p : Option (PlaceR ExprR)) (at : ℕ) (js : List Instr) (t : Task) (m : ImageMemory) (d : Place → Did)
    → ((q : Place) (stack : List ℤ) → Pops (place_form p) q stack t.frame.stack → Leads g js (d q) (past (length (place_code p at)) stack t) m) → Leads g (place_code p at ++ js) (found (place_if p at (seen_by t m)) m d) t m
leads_place g None at js t m d more = subst (λ (u : Task). Leads g js (d place.Own) u m) (sym (past_none t)) (more place.Own t.frame.stack (λ n go. refl))
leads_place g (Some p) at js t m d more =
    let v = value_at p.rank at (seen_by t m) in
    subst (λ x. Leads g (place_code (Some p) at ++ js) x t m) (sym (found_map v (place_in p.team) m d))
    (leads_value g p.rank at js t m (λ z. d (place_in p.team z)) (λ z. more (place_in p.team z) (z ∷ t.frame.stack) (pops_rank p.team z t.frame.stack)))
