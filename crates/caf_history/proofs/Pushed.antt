-- The index beside a list after a push.
use Rattle.std.proofs.Common.{◌≡◌, ℕ, Bool, true, List, [], ◌∷◌, ◌++◌, length, sym, subst}
use Rattle.std.specs.Prelude.{not, nat_eq}
use Rattle.caf_base.specs.declared.team.FinishRef.{FinishRef}
use Rattle.caf_history.specs.declared.arrival.Arrival.{Arrival}
use Rattle.caf_history.specs.declared.index.Index.{Index}
use Rattle.caf_history.specs.Index.{Path, Gains, Tells}
use Rattle.caf_history.specs.Kept.{counts_finish, is_finish, counts_split, is_split_of}
use Rattle.caf_history.proofs.Extends.{one_finish_more, one_arrival_more}

pub arrival_pushed : (all items : List Arrival) (a : Arrival) (old new : Index) (path : Path) (at : ℕ) → items ≡ all ++ a ∷ [] → path ≡ a.team.path → at ≡ length all →
    Gains path a.number true at old new → Tells counts_split is_split_of all old → Tells counts_split is_split_of items new
arrival_pushed all items a old new path at pushed led long gained tells =
    subst (λ l. Tells counts_split is_split_of l new) (sym pushed) (one_arrival_more all a old new (subst (λ n. Gains a.team.path a.number true n old new) long (subst (λ p. Gains p a.number true at old new) led gained)) tells)

pub finish_pushed : (all items : List FinishRef) (f : FinishRef) (old new : Index) (path : Path) (counted : Bool) (at : ℕ) → items ≡ all ++ f ∷ [] → path ≡ f.team.path → counted ≡ not (nat_eq f.number 0) → at ≡ length all →
    Gains path f.number counted at old new → Tells counts_finish is_finish all old → Tells counts_finish is_finish items new
finish_pushed all items f old new path counted at pushed led counting long gained tells =
    subst (λ l. Tells counts_finish is_finish l new) (sym pushed) (one_finish_more all f old new
    (subst (λ n. Gains f.team.path f.number (not (nat_eq f.number 0)) n old new) long (subst (λ b. Gains f.team.path f.number b at old new) counting (subst (λ p. Gains p f.number counted at old new) led gained))) tells)
