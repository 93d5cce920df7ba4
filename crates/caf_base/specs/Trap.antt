-- The numbers and words of the traps.
use Rattle.std.specs.Prelude.{ℕ, List, codes}
use Rattle.caf_base.specs.declared.trap.Trap.{Trap}
use Rattle.caf_base.specs.declared.trap.Trap.TheVariants.{Index, Number, Divisor, Rank, Outside, Section, Depth, Operations, Step, Posts, Team, Copointer, Output, Tasks}

abbrev pub trap_number : Trap → ℕ
trap_number Index = 1
trap_number Number = 2
trap_number Divisor = 3
trap_number Rank = 4
trap_number Outside = 5
trap_number Section = 6
trap_number Depth = 7
trap_number Operations = 8
trap_number Step = 9
trap_number Posts = 10
trap_number Team = 11
trap_number Copointer = 12
trap_number Output = 13
trap_number Tasks = 14

abbrev pub trap_word : Trap → List ℕ
trap_word Index = codes "index"
trap_word Number = codes "number"
trap_word Divisor = codes "divisor"
trap_word Rank = codes "rank"
trap_word Outside = codes "outside"
trap_word Section = codes "section"
trap_word Depth = codes "depth"
trap_word Operations = codes "operations"
trap_word Step = codes "step"
trap_word Posts = codes "posts"
trap_word Team = codes "team"
trap_word Copointer = codes "copointer"
trap_word Output = codes "output"
trap_word Tasks = codes "tasks"
