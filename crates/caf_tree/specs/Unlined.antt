-- A unit without its lines. Two units are the same up to the lines where they are the same without them.
use Rattle.std.specs.Prelude.{◌≡◌, ℕ, List, map}
use Rattle.caf_lexer.specs.declared.token.Token.{Token}
use Rattle.caf_tree.specs.declared.stmt.Stmt.{Stmt}
use Rattle.caf_tree.specs.declared.stmt.Stmt.TheVariants as stmt
use Rattle.caf_tree.specs.declared.stmt.Stmt.TheOpen.{Stmt-F}
use Rattle.caf_tree.specs.declared.stmt.Stmt.TheFolds.{fold-Stmt}
use Rattle.caf_tree.specs.declared.unit.Decl.{Decl}
use Rattle.caf_tree.specs.declared.unit.Decl.TheVariants as decl
use Rattle.caf_tree.specs.declared.unit.Sub.{Sub}
use Rattle.caf_tree.specs.declared.unit.Unit.{Unit as Program}
use Rattle.caf_tree.specs.Units.{Spells}

abbrev pub unlined_layer : Stmt-F Stmt → Stmt
unlined_layer (Stmt-F.Simple line a) = stmt.Simple 0 a
unlined_layer (Stmt-F.IfLine line e inner a) = stmt.IfLine 0 e 0 a
unlined_layer (Stmt-F.If line e block otherwise) = stmt.If 0 e block otherwise
unlined_layer (Stmt-F.Do line v first last step body) = stmt.Do 0 v first last step body
unlined_layer (Stmt-F.While line e body) = stmt.While 0 e body
unlined_layer (Stmt-F.Finish line t body) = stmt.Finish 0 t body

abbrev pub unlined_statement : Stmt → Stmt
unlined_statement = fold-Stmt Stmt unlined_layer

abbrev pub unlined_declaration : Decl → Decl
unlined_declaration (decl.Parameters line k values) = decl.Parameters 0 k values
unlined_declaration (decl.Copointers line k names) = decl.Copointers 0 k names
unlined_declaration (decl.Dummies line k i names) = decl.Dummies 0 k i names
unlined_declaration (decl.Variables line k items) = decl.Variables 0 k items
unlined_declaration (decl.Events line items) = decl.Events 0 items
unlined_declaration (decl.Teams line names) = decl.Teams 0 names

abbrev pub unlined_sub : Sub → Sub
unlined_sub f = record { line = 0; name = f.name; dummies = f.dummies; declarations = map unlined_declaration f.declarations; body = map unlined_statement f.body }

abbrev pub unlined : Program → Program
unlined u = record { name = u.name; declarations = map unlined_declaration u.declarations; body = map unlined_statement u.body; subs = map unlined_sub u.subs }

-- These tokens spell this unit, up to the lines.
abbrev pub SpellsButLines : List Token → Program → Type 0
SpellsButLines ts u = (other : Program) × (unlined other ≡ unlined u) × Spells ts other
