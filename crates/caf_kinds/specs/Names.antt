-- What names stand for in a part of the program.
use Rattle.std.specs.Prelude.{Option}
use Rattle.caf_declare.specs.declared.symbol.Symbol.{Symbol}
use Rattle.caf_declare.specs.Table.{Name, found}
use Rattle.caf_declare.specs.Names.{otherwise}
use Rattle.caf_kinds.specs.declared.scope.Scope.{Scope}

-- a subroutine's dummies and locals hide the main program's names
abbrev pub look : Scope → Name → Option Symbol
look s name = otherwise (found s.own name) (found s.main name)
