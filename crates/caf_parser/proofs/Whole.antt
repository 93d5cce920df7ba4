-- What a function promises that gives the outcome of the reader of units.
use Rattle.std.proofs.Common.{◌≡◌, ◌↔◌, ℕ, suc, ◌<◌, ◌≤◌, List, [], ◌∷◌, length, Result, Ok, Err, ap, sym, ◌∙◌, subst, refl, arith}
use Rattle.caf_lexer.specs.declared.token.Token.{Token}
use Rattle.caf_tree.specs.declared.unit.Unit.{Unit as Program}
use Rattle.caf_tree.specs.Depth.{depth}
use Rattle.caf_tree.specs.Units.{UnitForm, SpellsWithin, Spells}
use Rattle.caf_exprparse.specs.declared.fault.ParseFault.{ParseFault}
use Rattle.caf_exprparse.specs.declared.fault.ParseFault.TheVariants as fault
use Rattle.caf_exprparse.specs.Reading.{Refusal, Syntax, Deep, Outcome}
use Rattle.caf_exprparse.specs.Reads.{Reads}
use Rattle.caf_exprparse.proofs.Good.{Fits, Good}
use Rattle.caf_exprparse.proofs.OneToken.{any}
use Rattle.caf_simpleparse.specs.Opening.{openings}
use Rattle.caf_simpleparse.proofs.Keeps.{Keeps}
use Rattle.caf_parser.specs.Answer.{SpellsShallow, WhyRefused}
use Rattle.caf_parser.specs.Reader.{unit_in}
use Rattle.caf_parser.proofs.Units.{good_unit}

pub good_at : (n m : ℕ) → Keeps (m ≤ n) (suc n) any (UnitForm n) (UnitForm m) (unit_in n)
good_at n m = good_unit (m ≤ n) n m (λ g. g)

-- A number that doesn't compute, so that no form is opened so many levels deep.
unfoldable most : ℕ
most = 100

is_most : 100 ≡ most
unfolding most
is_most = refl

-- as many levels are needed as a unit is deep
abbrev NeedsLevels : Type 0
NeedsLevels = (levels : ℕ) (tokens : List Token) (unit : Program) → SpellsWithin levels tokens unit ↔ (Spells tokens unit × (depth unit ≤ levels))

module _ (ts : List Token) where
  at_most : (r : Outcome Program) → unit_in 100 ts ≡ r → unit_in most ts ≡ r
  at_most r e = subst (λ n. unit_in n ts ≡ r) is_most e

  shallow : NeedsLevels → (u : Program) → SpellsWithin most ts u → SpellsShallow ts u
  shallow law u h = let k = (law most ts u).0 h in (k.0, subst (λ n. depth u ≤ n) (sym is_most) k.1)

  within : NeedsLevels → (u : Program) → SpellsShallow ts u → SpellsWithin most ts u
  within law u h = (law most ts u).1 (h.0, subst (λ n. depth u ≤ n) is_most h.1)

  pub spelled_by : NeedsLevels → (u : Program) (new : List Token) → unit_in 100 ts ≡ Ok (u, new) → new ≡ [] → SpellsShallow ts u
  spelled_by law u new e f = shallow law u ((good_at most most).sound ts u [] (at_most _ e ∙ ap (λ us. Ok (u, us)) f))

  pub only_by : (u : Program) (new : List Token) → unit_in 100 ts ≡ Ok (u, new) → (v : Program) → Spells ts v → u ≡ v
  only_by u new e v d = ((subst (Fits (d.0 ≤ most) any v []) (at_most _ e) ((good_at most d.0).fits v ts [] d.1)).1 tt).0

  -- a unit, and more behind it
  pub more_by : (u : Program) (new : List Token) → unit_in 100 ts ≡ Ok (u, new) → 0 < length new → (v : Program) → Spells ts v → ⊥
  more_by u new e more v d =
      let k : length new ≤ 0 = (subst (Fits (d.0 ≤ most) any v []) (at_most _ e) ((good_at most d.0).fits v ts [] d.1)).0 in
      omega arith

  pub refused_by : NeedsLevels → (f : ParseFault) (new : List Token) → Reads (unit_in 100 ts) (Err f) new → WhyRefused ts f
  refused_by law (fault.Syntax line) new h = λ v d. subst (Fits (d.0 ≤ most) any v []) (at_most _ (h Syntax refl)) ((good_at most d.0).fits v ts [] d.1)
  refused_by law (fault.Deep line) new h = (
    let k : suc most ≤ openings ts = (good_at most most).digs ts (at_most _ (h Deep refl)) in
        let l : 100 ≡ most = is_most in
        omega arith,
    λ v d. (subst (Fits (most ≤ most) any v []) (at_most _ (h Deep refl)) ((good_at most most).fits v ts [] (within law v d))) (omega arith) tt,
  )
  refused_by law fault.Memory new h = tt

pub no_length : (ts : List Token) → length ts ≤ 0 → ts ≡ []
no_length [] h = refl
no_length (t ∷ ts) h = absurd (omega arith)
