-- What a task over trees has to do.
use Rattle.std.specs.Prelude.{ℕ, List, [], map}
use Rattle.caf_base.specs.Places.{below}
use Rattle.caf_base.specs.declared.team.Team.{Team}
use Rattle.caf_program.specs.declared.stmt.StmtR.{StmtR}
use Rattle.caf_treestep.specs.declared.todo.Todo.{Todo}
use Rattle.caf_treestep.specs.declared.todo.Todo.TheVariants as item

-- a block of statements as what is to do
abbrev pub all_of : List StmtR → List Todo
all_of = map item.Does

-- the team of so many images
abbrev pub team_of_all : ℕ → Team
team_of_all images = record { path = []; members = below images }
