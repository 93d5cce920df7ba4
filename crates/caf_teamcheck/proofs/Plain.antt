-- One place more of a part that is plain.
use Rattle.std.proofs.lemmas.List.{take_more}
use Rattle.std.proofs.Common.{ℕ, ◌+◌, ◌<◌, length, take, get_or, Bool, List, [], ◌∷◌, ◌++◌, inl, inr, subst}
use Rattle.std.proofs.lemmas.List.Elements.{Contains-push_cases, Contains-get_or}
use Rattle.caf_program.specs.declared.program.SubR.{SubR}
use Rattle.caf_teamcheck.specs.declared.fault.ShipFault.{ShipFault}
use Rattle.caf_teamcheck.specs.declared.site.Site.{Site}
use Rattle.caf_teamcheck.specs.Sites.{IsPlain, MayStand, IsWrong, BreaksIn}

pub plain_more : (subs : List SubR) (reached : Bool) (sites : List Site) (s : Site) → IsPlain subs reached sites → MayStand subs reached s → IsPlain subs reached (sites ++ s ∷ [])
plain_more subs reached sites s plain may = record {
  may = λ x h. elim (Contains-push_cases sites s x h) as (λ _. MayStand subs reached x) [ inl before ↦ plain.may x before | inr e ↦ subst (MayStand subs reached) e may ];
}

pub plain_next : (subs : List SubR) (reached : Bool) (sites : List Site) (i : ℕ) (d : Site) → i < length sites →
    IsPlain subs reached (take i sites) → MayStand subs reached (get_or sites i d) → IsPlain subs reached (take (i + 1) sites)
plain_next subs reached sites i d within plain may = rw (take_more sites i d within) (plain_more subs reached (take i sites) (get_or sites i d) plain may)

pub breaks_at : (subs : List SubR) (reached : Bool) (holder : List ℕ) (sites : List Site) (i : ℕ) (d : Site) (f : ShipFault) → i < length sites →
    IsWrong subs reached holder (get_or sites i d) f → BreaksIn subs reached holder sites f
breaks_at subs reached holder sites i d f within wrong = record { site = get_or sites i d; among = Contains-get_or sites i d within; wrong = wrong }
