-- What the indices say of the lists beside them.
use Rattle.std.specs.Prelude.{ℕ, Bool, not, ◌&&◌, nat_eq}
use Rattle.caf_base.specs.declared.team.FinishRef.{FinishRef}
use Rattle.caf_base.specs.FinishRef.{same_path}
use Rattle.caf_history.specs.declared.arrival.Arrival.{Arrival}
use Rattle.caf_history.specs.declared.arrivals.Arrivals.TheInside.{Inside as ArrivalsInside}
use Rattle.caf_history.specs.declared.finishes.FinishesLeft.TheInside.{Inside as FinishesInside}
use Rattle.caf_history.specs.Index.{Path, Tells}

abbrev pub counts_finish : Path → FinishRef → Bool
counts_finish path f = same_path f.team.path path && not (nat_eq f.number 0)

abbrev pub is_finish : Path → ℕ → FinishRef → Bool
is_finish path number f = same_path path f.team.path && nat_eq number f.number

abbrev pub counts_split : Path → Arrival → Bool
counts_split path a = same_path a.team.path path

abbrev pub is_split_of : Path → ℕ → Arrival → Bool
is_split_of path number a = same_path a.team.path path && nat_eq a.number number

abbrev pub FinishesKept : FinishesInside → Type 0
FinishesKept a = Tells counts_finish is_finish a.all.items a.index

abbrev pub ArrivalsKept : ArrivalsInside → Type 0
ArrivalsKept a = Tells counts_split is_split_of a.all.items a.index
