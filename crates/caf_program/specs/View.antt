-- A view as what an expression sees.
use Rattle.caf_program.specs.Seen.{Seen}
use Rattle.caf_program.specs.declared.view.View.{View}

abbrev pub seen : View → Seen
seen v = record { objects = v.objects.now; cells = v.cells.now; locals = v.locals.now; held = v.held.now; image = v.image; images = v.images; teams = v.teams.now }
