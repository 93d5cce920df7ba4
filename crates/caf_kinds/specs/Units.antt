-- What a unit means: the program with slots in place of names, numbered in the order of their declarations; or the first
-- rule on names and kinds that it breaks, in written order.
use Rattle.std.specs.Prelude.{◌≡◌, ℕ, ◌+◌, Bool, false, List, [], ◌∷◌, ◌++◌, map, Option, Some, None, is_some, Result, Ok, Err, if◌then◌else◌, nat_eq}
use Rattle.caf_tree.specs.declared.stmt.Stmt.{Stmt}
use Rattle.caf_tree.specs.declared.unit.Sub.{Sub}
use Rattle.caf_tree.specs.declared.unit.Unit.{Unit as Written}
use Rattle.caf_program.specs.declared.program.DummyR.{DummyR}
use Rattle.caf_program.specs.declared.program.SubR.{SubR}
use Rattle.caf_program.specs.declared.program.Program.{Program}
use Rattle.caf_program.specs.declared.stmt.StmtR.{StmtR}
use Rattle.caf_declare.specs.declared.fault.Rule.TheVariants as rule
use Rattle.caf_declare.specs.declared.fault.Fault.{Fault}
use Rattle.caf_declare.specs.declared.symbol.Symbol.{Symbol}
use Rattle.caf_declare.specs.declared.symbol.Symbol.TheVariants as symbol
use Rattle.caf_declare.specs.declared.symbol.Taken.{Taken}
use Rattle.caf_declare.specs.declared.frame.Frame.{Frame}
use Rattle.caf_declare.specs.declared.globals.Globals.{Globals}
use Rattle.caf_declare.specs.Table.{Name, Names, found}
use Rattle.caf_declare.specs.Names.{breaks, after}
use Rattle.caf_declare.specs.Constants.{Heads}
use Rattle.caf_declare.specs.Globals.{globals_of}
use Rattle.caf_declare.specs.Frames.{heads_of, signature, listed, dummies_meant, frame_of}
use Rattle.caf_kinds.specs.declared.scope.Scope.{Scope}
use Rattle.caf_kinds.specs.Statements.{block, statement}

-- subroutine names belong to the main program's names; the first declaration of a name says what it stands for
abbrev pub with_sub : ℕ → Name → Names → Names
with_sub at name names = if is_some (found names name) then names else names ++ (name, symbol.Subroutine at) ∷ []

abbrev pub with_subs : ℕ → List Sub → Names → Names
with_subs at [] names = names
with_subs at (f ∷ others) names = with_subs (at + 1) others (with_sub at f.name names)

-- what each subroutine takes for its dummies
abbrev pub signature_of : Sub → List (Option Taken)
signature_of f = signature (heads_of f.declarations) f.dummies

-- a subroutine's name is declared once: what it stands for is the subroutine itself
abbrev pub is_own : ℕ → Option Symbol → Bool
is_own at (Some (symbol.Subroutine k)) = nat_eq k at
is_own at _ = false

abbrev pub named : ℕ → Name → ℕ → Names → Result (Unit {0}) Fault
named line name at main = if is_own at (found main name) then Ok tt else Err (breaks rule.Twice line name)

-- the statements of a part, with no loop around them
abbrev pub body_meant : Scope → List Stmt → Result (List StmtR) Fault
body_meant scope body = block [] (map (statement scope) body)

-- what a subroutine declares: its frame, and its dummies
abbrev pub declared_meant : Heads → Names → Sub → Result (Frame × List DummyR) Fault
declared_meant heads main f =
    after (listed f.line heads f.dummies) (λ _.
    after (frame_of f.dummies heads main f.declarations) (λ frame.
    after (dummies_meant f.line heads f.dummies) (λ dummies. Ok (frame, dummies))))

-- its name comes first
abbrev pub head_meant : Names → ℕ → Sub → Result (Frame × List DummyR) Fault
head_meant main at f = after (named f.line f.name at main) (λ _. declared_meant (heads_of f.declarations) main f)

-- a subroutine at a place: its name, its dummies, its declarations, its statements
abbrev pub sub_meant : List (List (Option Taken)) → Names → ℕ → Sub → Result SubR Fault
sub_meant signatures main at f =
    after (head_meant main at f) (λ h.
    after (body_meant (record { own = h.0.names; main = main; subs = signatures }) f.body) (λ body.
    Ok (record { name = f.name; dummies = h.1; locals = h.0.locals; body = body })))

-- the subroutines in order, of which the first stands at a place
abbrev pub subs_meant : List (List (Option Taken)) → Names → ℕ → List Sub → Result (List SubR) Fault
subs_meant signatures main at [] = Ok []
subs_meant signatures main at (f ∷ others) =
    after (sub_meant signatures main at f) (λ g. after (subs_meant signatures main (at + 1) others) (λ more. Ok (g ∷ more)))

-- the statements of the main program, then its subroutines
abbrev pub parts_meant : Written → Scope → Result (List StmtR × List SubR) Fault
parts_meant u scope = after (body_meant scope u.body) (λ body. after (subs_meant scope.subs scope.main 0 u.subs) (λ subs. Ok (body, subs)))

abbrev pub bodies_meant : Written → Scope → Globals → Result Program Fault
bodies_meant u scope m = after (parts_meant u scope) (λ t. Ok (record { objects = m.objects; names = m.labels; subs = t.1; body = t.0 }))

-- what the main program sees
abbrev pub scope_of : Written → Names → Scope
scope_of u names = record { own = []; main = with_subs 0 u.subs names; subs = map signature_of u.subs }

abbrev pub main_scope : Written → Globals → Scope
main_scope u m = scope_of u m.names

-- what a unit means: its declarations, then its bodies
abbrev pub meaning : Written → Result Program Fault
meaning u = after (globals_of u.declarations) (λ m. bodies_meant u (main_scope u m) m)

-- a unit means a program: it keeps the rules on names and kinds, and the program has slots in place of names
abbrev pub Means : Written → Program → Type 0
Means u p = meaning u ≡ Ok p
