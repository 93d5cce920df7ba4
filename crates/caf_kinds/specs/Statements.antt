-- What a statement means in a part of the program, inside the loops that are open around it; or the first rule that it
-- breaks, in written order.
use Rattle.std.specs.Prelude.{ℕ, pos, Bool, true, false, List, [], ◌∷◌, Option, Some, None, unwrap_or, Result, Ok, Err, if◌then◌else◌, codes, nat_eq, length, slice_get}
use Rattle.caf_base.specs.declared.fence.Down.{Down}
use Rattle.caf_base.specs.declared.fence.Down.TheVariants as down
use Rattle.caf_tree.specs.declared.expr.Place.{Place}
use Rattle.caf_tree.specs.declared.expr.Variable.{Variable}
use Rattle.caf_tree.specs.declared.expr.Team.{Team}
use Rattle.caf_tree.specs.declared.expr.Expr.{Expr}
use Rattle.caf_tree.specs.declared.expr.Expr.TheViews.{out-Expr}
use Rattle.caf_tree.specs.declared.expr.Expr.TheOpen.{Expr-F}
use Rattle.caf_tree.specs.declared.stmt.Range.{Range}
use Rattle.caf_tree.specs.declared.stmt.Range.TheVariants as written
use Rattle.caf_tree.specs.declared.stmt.Section.{Section}
use Rattle.caf_tree.specs.declared.stmt.OwnEvent.{OwnEvent}
use Rattle.caf_tree.specs.declared.stmt.Printed.{Printed}
use Rattle.caf_tree.specs.declared.stmt.Printed.TheVariants as printed
use Rattle.caf_tree.specs.declared.stmt.Key.{Key}
use Rattle.caf_tree.specs.declared.stmt.Key.TheVariants as key
use Rattle.caf_tree.specs.declared.stmt.FenceClass.TheVariants as class
use Rattle.caf_tree.specs.declared.stmt.FenceClass.{FenceClass}
use Rattle.caf_tree.specs.declared.stmt.Fence.{Fence}
use Rattle.caf_tree.specs.declared.stmt.Fence.TheVariants as fence
use Rattle.caf_tree.specs.declared.stmt.Simple.{Simple}
use Rattle.caf_tree.specs.declared.stmt.Simple.TheVariants as s
use Rattle.caf_tree.specs.declared.stmt.Stmt.{Stmt}
use Rattle.caf_tree.specs.declared.stmt.Stmt.TheOpen.{Stmt-F}
use Rattle.caf_tree.specs.declared.stmt.Stmt.TheFolds.{fold-Stmt}
use Rattle.caf_program.specs.declared.program.ValueKind.{ValueKind}
use Rattle.caf_program.specs.declared.program.ValueKind.TheVariants.{Integer, Logical}
use Rattle.caf_program.specs.declared.program.Intent.{Intent}
use Rattle.caf_program.specs.declared.program.Intent.TheVariants.{In, InOut}
use Rattle.caf_program.specs.declared.expr.PlaceR.{PlaceR}
use Rattle.caf_program.specs.declared.expr.ExprR.{ExprR}
use Rattle.caf_program.specs.declared.expr.ExprR.TheVariants as R
use Rattle.caf_program.specs.declared.parts.VariableR.{VariableR}
use Rattle.caf_program.specs.declared.parts.VariableR.TheVariants as V
use Rattle.caf_program.specs.declared.parts.ActualR.{ActualR}
use Rattle.caf_program.specs.declared.parts.ActualR.TheVariants as actual
use Rattle.caf_program.specs.declared.parts.PrintR.{PrintR}
use Rattle.caf_program.specs.declared.parts.PrintR.TheVariants as part
use Rattle.caf_program.specs.declared.parts.RangeR.{RangeR}
use Rattle.caf_program.specs.declared.parts.RangeR.TheVariants as range
use Rattle.caf_program.specs.declared.parts.RegionR.{RegionR}
use Rattle.caf_program.specs.declared.parts.SectionR.{SectionR}
use Rattle.caf_program.specs.declared.parts.SectionR.TheVariants as section
use Rattle.caf_program.specs.declared.parts.OwnEventR.{OwnEventR}
use Rattle.caf_program.specs.declared.parts.EventR.{EventR}
use Rattle.caf_program.specs.declared.parts.CopyEventR.{CopyEventR}
use Rattle.caf_program.specs.declared.parts.CopyEventR.TheVariants as role
use Rattle.caf_program.specs.declared.stmt.LoopVariableR.{LoopVariableR}
use Rattle.caf_program.specs.declared.stmt.LoopVariableR.TheVariants as counter
use Rattle.caf_program.specs.declared.stmt.StmtR.{StmtR}
use Rattle.caf_program.specs.declared.stmt.StmtR.TheVariants as T
use Rattle.caf_program.specs.Rules.{once_each}
use Rattle.caf_declare.specs.declared.fault.Rule.TheVariants as rule
use Rattle.caf_declare.specs.declared.fault.Fault.{Fault}
use Rattle.caf_declare.specs.declared.symbol.Symbol.{Symbol}
use Rattle.caf_declare.specs.declared.symbol.Symbol.TheVariants as symbol
use Rattle.caf_declare.specs.declared.symbol.Taken.{Taken}
use Rattle.caf_kinds.specs.declared.scope.Scope.{Scope}
use Rattle.caf_declare.specs.Table.{Name}
use Rattle.caf_declare.specs.Names.{breaks, after, among}
use Rattle.caf_declare.specs.Operators.{is_kind}
use Rattle.caf_kinds.specs.Names.{look}
use Rattle.caf_kinds.specs.Expressions.{Sense, sense, of_kind, operand, team_meant, place_meant, coarray, variable_as, if_said, place_said}

-- an expression where a kind is wanted
abbrev pub wanted : Scope → ℕ → Name → ValueKind → Expr → Result ExprR Fault
wanted scope line name k e = operand line name k (sense scope line e)

-- ---- what is assigned

-- what is assigned is no `intent(in)` dummy
abbrev pub writable : ℕ → Name → Option Symbol → Result (Unit {0}) Fault
writable line name (Some (symbol.Local k c false)) = Err (breaks rule.ReadOnly line name)
writable line name s = Ok tt

-- what is assigned is no variable of a loop around it in the same part
abbrev pub free : ℕ → List Name → Name → Result (Unit {0}) Fault
free line loops name = if among loops name then Err (breaks rule.DoVariable line name) else Ok tt

abbrev pub may_write : ℕ → List Name → Name → Option Symbol → Result (Unit {0}) Fault
may_write line loops name s = after (writable line name s) (λ _. free line loops name)

abbrev pub target_as : Scope → ℕ → List Name → Name → Option Symbol → Option Sense → Option (Place Sense) → Result (ValueKind × VariableR) Fault
target_as scope line loops name s i p = after (variable_as scope line name s i p) (λ t. after (may_write line loops name s) (λ _. Ok t))

abbrev pub target : Scope → ℕ → List Name → Variable Expr → Result (ValueKind × VariableR) Fault
target scope line loops v = target_as scope line loops v.name (look scope v.name) (if_said scope line v.subscript) (place_said scope line v.place)

-- the variable of a `do` is a scalar integer
abbrev pub counter_as : ℕ → Name → Option Symbol → Result LoopVariableR Fault
counter_as line name None = Err (breaks rule.Undeclared line name)
counter_as line name (Some (symbol.Constant c)) = Err (breaks rule.ReadOnly line name)
counter_as line name (Some (symbol.Scalar Integer o shared)) = Ok (counter.Scalar o)
counter_as line name (Some (symbol.Local Integer c w)) = Ok (counter.Local c)
counter_as line name (Some _) = Err (breaks rule.WrongKind line name)

abbrev pub counts : Scope → ℕ → List Name → Name → Result LoopVariableR Fault
counts scope line loops name = after (counter_as line name (look scope name)) (λ v. after (may_write line loops name (look scope name)) (λ _. Ok v))

-- ---- arguments

-- an actual for `intent(inout)` is a scalar variable or an array element without place
abbrev pub lent : ℕ → Name → VariableR → Result ActualR Fault
lent line name (V.Scalar o) = Ok (actual.Scalar o)
lent line name (V.Local c) = Ok (actual.Local c)
lent line name (V.Element o i) = Ok (actual.Element o i)
lent line name _ = Err (breaks rule.WrongKind line name)

abbrev pub lent_of_kind : ℕ → Name → ValueKind → ValueKind × VariableR → Result ActualR Fault
lent_of_kind line name k t = if is_kind t.0 k then lent line name t.1 else Err (breaks rule.WrongKind line name)

abbrev pub lent_variable : Scope → ℕ → List Name → ValueKind → Variable Expr → Result ActualR Fault
lent_variable scope line loops k v = after (target scope line loops v) (lent_of_kind line v.name k)

abbrev pub lent_form : Scope → ℕ → List Name → Name → ValueKind → Expr-F Expr → Result ActualR Fault
lent_form scope line loops sign k (Expr-F.Variable v) = lent_variable scope line loops k v
lent_form scope line loops sign k e = Err (breaks rule.WrongKind line sign)

-- an actual has the kind of its dummy
abbrev pub argument_for : Scope → ℕ → List Name → Name → Intent → ValueKind → Expr → Result ActualR Fault
argument_for scope line loops sign In k e = after (wanted scope line sign k e) (λ x. Ok (actual.Value x))
argument_for scope line loops sign InOut k e = lent_form scope line loops sign k (out-Expr e)

-- of a dummy that isn't declared, or has no intent, nothing is asked
abbrev pub argument : Scope → ℕ → List Name → Name → Option Taken → Expr → Result ActualR Fault
argument scope line loops sign None e = after (sense scope line e).says (λ t. Ok (actual.Value t.1))
argument scope line loops sign (Some d) e = argument_for scope line loops sign d.intent d.kind e

abbrev pub arguments : Scope → ℕ → List Name → Name → List (Option Taken) → List Expr → Result (List ActualR) Fault
arguments scope line loops sign (d ∷ dummies) (e ∷ others) =
    after (argument scope line loops sign d e) (λ a. after (arguments scope line loops sign dummies others) (λ more. Ok (a ∷ more)))
arguments scope line loops sign _ _ = Ok []

-- as many arguments as the subroutine has dummies
abbrev pub counted : ℕ → Name → ℕ → ℕ → Result (Unit {0}) Fault
counted line name n m = if nat_eq n m then Ok tt else Err (breaks rule.WrongCount line name)

abbrev pub or_none : Option (List (Option Taken)) → List (Option Taken)
or_none None = []
or_none (Some dummies) = dummies

-- `call` and `spawn` name a subroutine
abbrev pub subroutine_as : ℕ → Name → Option Symbol → Result ℕ Fault
subroutine_as line name None = Err (breaks rule.Undeclared line name)
subroutine_as line name (Some (symbol.Subroutine f)) = Ok f
subroutine_as line name (Some _) = Err (breaks rule.WrongKind line name)

-- what a subroutine takes for its dummies
abbrev pub dummies_at : Scope → ℕ → List (Option Taken)
dummies_at scope f = or_none (slice_get scope.subs f)

abbrev pub passed : Scope → ℕ → List Name → Name → Name → ℕ → List Expr → Result (List ActualR) Fault
passed scope line loops sign name f given =
    after (counted line name (length given) (length (dummies_at scope f))) (λ _. arguments scope line loops sign (dummies_at scope f) given)

-- ---- events

-- an event takes a subscript exactly where it is an array; a scalar event is the element at index 1
abbrev pub event_index : ℕ → Name → Bool → Option Sense → Result ExprR Fault
event_index line name true (Some i) = operand line name Integer i
event_index line name false None = Ok (R.Number (pos 1))
event_index line name array i = Err (breaks rule.WrongKind line name)

abbrev pub own_event_as : ℕ → Name → Option Symbol → Option Sense → Result OwnEventR Fault
own_event_as line name None i = Err (breaks rule.Undeclared line name)
own_event_as line name (Some (symbol.Event o array shared)) i = after (event_index line name array i) (λ x. Ok (record { object = o; index = x }))
own_event_as line name (Some _) i = Err (breaks rule.WrongKind line name)

abbrev pub own_event : Scope → ℕ → OwnEvent → Result OwnEventR Fault
own_event scope line v = own_event_as line v.name (look scope v.name) (if_said scope line v.subscript)

-- whether what the name stands for is shared with other images
abbrev pub is_shared : Option Symbol → Bool
is_shared (Some (symbol.Scalar k o shared)) = shared
is_shared (Some (symbol.Array k o shared)) = shared
is_shared (Some (symbol.Event o array shared)) = shared
is_shared _ = false

-- a place stands on a coarray
abbrev pub place_at : Scope → ℕ → Name → Option Symbol → Place Sense → Result (PlaceR ExprR) Fault
place_at scope line name s p = after (coarray line name (is_shared s)) (λ _. place_meant scope line name p)

abbrev pub place_on : Scope → ℕ → Name → Option Symbol → Option (Place Sense) → Result (Option (PlaceR ExprR)) Fault
place_on scope line name s None = Ok None
place_on scope line name s (Some p) = after (place_at scope line name s p) (λ q. Ok (Some q))

abbrev pub event : Scope → ℕ → Variable Expr → Result EventR Fault
event scope line v =
    after (own_event_as line v.name (look scope v.name) (if_said scope line v.subscript)) (λ own.
    after (place_on scope line v.name (look scope v.name) (place_said scope line v.place)) (λ p. Ok (record { own = own; place = p })))

abbrev pub done_event : Scope → ℕ → Option (Variable Expr) → Result (Option EventR) Fault
done_event scope line None = Ok None
done_event scope line (Some v) = after (event scope line v) (λ e. Ok (Some e))

-- ---- sections

-- a bound of a section is an integer
abbrev pub between : Scope → ℕ → Name → Option Expr → Option Expr → Result RangeR Fault
between scope line name None None = Ok range.All
between scope line name (Some i) None = after (wanted scope line name Integer i) (λ x. Ok (range.From x))
between scope line name None (Some j) = after (wanted scope line name Integer j) (λ y. Ok (range.UpTo y))
between scope line name (Some i) (Some j) = after (wanted scope line name Integer i) (λ x. after (wanted scope line name Integer j) (λ y. Ok (range.Between x y)))

abbrev pub elements : Scope → ℕ → Name → Range → Result RangeR Fault
elements scope line name written.Whole = Ok range.All
elements scope line name (written.Element i) = after (wanted scope line name Integer i) (λ x. Ok (range.Cell x))
elements scope line name (written.Between i j) = between scope line name i j

abbrev pub region_of : Scope → ℕ → ValueKind → ℕ → Section → Result (ValueKind × SectionR) Fault
region_of scope line k o c =
    after (elements scope line c.name c.range) (λ r.
    after (place_on scope line c.name (look scope c.name) (place_said scope line c.place)) (λ p. Ok (k, section.Region (record { object = o; range = r; place = p }))))

-- a section of a scalar is the scalar
abbrev pub scalar_region : Scope → ℕ → ValueKind → ℕ → Section → Range → Result (ValueKind × SectionR) Fault
scalar_region scope line k o c written.Whole = region_of scope line k o c
scalar_region scope line k o c _ = Err (breaks rule.WrongKind line c.name)

-- a section by a copointer has no place
abbrev pub pointed_at : ℕ → Name → ValueKind → ℕ → RangeR → Option (Place Expr) → Result (ValueKind × SectionR) Fault
pointed_at line name k o r None = Ok (k, section.Pointed o r)
pointed_at line name k o r (Some p) = Err (breaks rule.NotCoarray line name)

abbrev pub pointed_section : Scope → ℕ → ValueKind → ℕ → Section → Result (ValueKind × SectionR) Fault
pointed_section scope line k o c = after (elements scope line c.name c.range) (λ r. pointed_at line c.name k o r c.place)

-- a section names an integer or logical variable of the main program, or a copointer
abbrev pub section_as : Scope → ℕ → Section → Option Symbol → Result (ValueKind × SectionR) Fault
section_as scope line c None = Err (breaks rule.Undeclared line c.name)
section_as scope line c (Some (symbol.Scalar k o shared)) = scalar_region scope line k o c c.range
section_as scope line c (Some (symbol.Array k o shared)) = region_of scope line k o c
section_as scope line c (Some (symbol.Copointer k o)) = pointed_section scope line k o c
section_as scope line c (Some (symbol.Local k cell w)) = Err (breaks rule.NotCoarray line c.name)
section_as scope line c (Some _) = Err (breaks rule.WrongKind line c.name)

abbrev pub section_meant : Scope → ℕ → Section → Result (ValueKind × SectionR) Fault
section_meant scope line c = section_as scope line c (look scope c.name)

-- both sections of a copy have one kind
abbrev pub section_of_kind : ℕ → Name → ValueKind → ValueKind × SectionR → Result SectionR Fault
section_of_kind line name k t = if is_kind t.0 k then Ok t.1 else Err (breaks rule.WrongKind line name)

-- what a copointer aims at: a region
abbrev pub region_in : ℕ → Name → SectionR → Result RegionR Fault
region_in line name (section.Region r) = Ok r
region_in line name (section.Pointed o r) = Err (breaks rule.NotCoarray line name)

-- the name before `=>` is a copointer
abbrev pub copointer_as : ℕ → Name → Option Symbol → Result (ValueKind × ℕ) Fault
copointer_as line name None = Err (breaks rule.Undeclared line name)
copointer_as line name (Some (symbol.Copointer k o)) = Ok (k, o)
copointer_as line name (Some _) = Err (breaks rule.WrongKind line name)

-- a copointer aims at a coarray only, of its own kind
abbrev pub aimed : Scope → ℕ → ValueKind → Section → Result RegionR Fault
aimed scope line k c =
    after (section_meant scope line c) (λ t.
    after (coarray line c.name (is_shared (look scope c.name))) (λ _.
    after (section_of_kind line c.name k t) (region_in line c.name)))

-- ---- copies

abbrev pub key_meant : Scope → ℕ → Key → Result CopyEventR Fault
key_meant scope line (key.Pre v) = after (own_event scope line v) (λ e. Ok (role.Pre e))
key_meant scope line (key.Srce v) = after (event scope line v) (λ e. Ok (role.Srce e))
key_meant scope line (key.Deste v) = after (event scope line v) (λ e. Ok (role.Deste e))

abbrev pub keys_meant : Scope → ℕ → List Key → Result (List CopyEventR) Fault
keys_meant scope line [] = Ok []
keys_meant scope line (k ∷ others) = after (key_meant scope line k) (λ e. after (keys_meant scope line others) (λ more. Ok (e ∷ more)))

-- each kind of event stands at most once in a copy
abbrev pub each_once : ℕ → List CopyEventR → Result (Unit {0}) Fault
each_once line events = if once_each events then Ok tt else Err (breaks rule.WrongKind line (codes "copy_async"))

-- ---- lines, fences and statements without a block

abbrev pub part_of : ValueKind → ExprR → PrintR
part_of Integer e = part.Number e
part_of Logical e = part.Logical e

abbrev pub printed_meant : Scope → ℕ → Printed → Result PrintR Fault
printed_meant scope line (printed.Value e) = after (sense scope line e).says (λ t. Ok (part_of t.0 t.1))
printed_meant scope line (printed.Text t) = Ok (part.Text t)

abbrev pub all_printed : Scope → ℕ → List Printed → Result (List PrintR) Fault
all_printed scope line [] = Ok []
all_printed scope line (p ∷ others) = after (printed_meant scope line p) (λ x. after (all_printed scope line others) (λ more. Ok (x ∷ more)))

abbrev pub class_of : FenceClass → Down
class_of class.Read = down.Read
class_of class.Write = down.Write
class_of class.Any = down.Any

-- what a fence lets pass downward; what it lets pass upward has no effect
abbrev pub down_of : List Fence → Down
down_of [] = down.Nothing
down_of (fence.Down c ∷ others) = class_of c
down_of (fence.Up c ∷ others) = down_of others

-- the last name of a `team_split` names a team
abbrev pub team_as : ℕ → Name → Option Symbol → Result ℕ Fault
team_as line name None = Err (breaks rule.Undeclared line name)
team_as line name (Some (symbol.Team o)) = Ok o
team_as line name (Some _) = Err (breaks rule.WrongKind line name)

-- both sides of an assignment have one kind
abbrev pub assigned : Scope → ℕ → List Name → Variable Expr → Expr → Result StmtR Fault
assigned scope line loops v e = after (target scope line loops v) (λ t. after (wanted scope line (codes "=") t.0 e) (λ x. Ok (T.Assign line t.1 x)))

abbrev pub aims : Scope → ℕ → Name → Section → Result StmtR Fault
aims scope line name c = after (copointer_as line name (look scope name)) (λ p. after (aimed scope line p.0 c) (λ r. Ok (T.Aim line p.1 r)))

abbrev pub call_meant : Scope → ℕ → List Name → Name → List Expr → Result StmtR Fault
call_meant scope line loops name given =
    after (subroutine_as line name (look scope name)) (λ f. after (passed scope line loops (codes "call") name f given) (λ actuals. Ok (T.Call line f actuals)))

abbrev pub spawn_meant : Scope → ℕ → List Name → Option (Variable Expr) → Name → List Expr → Place Expr → Result StmtR Fault
spawn_meant scope line loops done name given p =
    after (done_event scope line done) (λ d.
    after (subroutine_as line name (look scope name)) (λ f.
    after (passed scope line loops (codes "spawn") name f given) (λ actuals.
    after (place_meant scope line (codes "spawn") (record { rank = sense scope line p.rank; team = p.team })) (λ q. Ok (T.Spawn line d f actuals q)))))

abbrev pub copied : Scope → ℕ → Section → Section → List Key → Result StmtR Fault
copied scope line dest source keys =
    after (section_meant scope line dest) (λ d.
    after (section_meant scope line source) (λ c.
    after (section_of_kind line source.name d.0 c) (λ r.
    after (keys_meant scope line keys) (λ events.
    after (each_once line events) (λ _. Ok (T.Copy line d.1 r events))))))

abbrev pub split_meant : Scope → ℕ → Team → Expr → Expr → Name → Result StmtR Fault
split_meant scope line t colour key name =
    after (team_meant scope line t) (λ x.
    after (wanted scope line (codes "team_split") Integer colour) (λ c.
    after (wanted scope line (codes "team_split") Integer key) (λ k.
    after (team_as line name (look scope name)) (λ o. Ok (T.Split line x c k o)))))

abbrev pub action : Scope → ℕ → List Name → Simple → Result StmtR Fault
action scope line loops (s.Assign v e) = assigned scope line loops v e
action scope line loops (s.Aim name c) = aims scope line name c
action scope line loops (s.Print items) = after (all_printed scope line items) (λ parts. Ok (T.Print line parts))
action scope line loops (s.Call name given) = call_meant scope line loops name given
action scope line loops (s.Spawn done name given p) = spawn_meant scope line loops done name given p
action scope line loops (s.Notify v) = after (event scope line v) (λ e. Ok (T.Notify line e))
action scope line loops (s.Wait v) = after (own_event scope line v) (λ e. Ok (T.Wait line e))
action scope line loops (s.Copy dest source keys) = copied scope line dest source keys
action scope line loops (s.Cofence fences) = Ok (T.Cofence line (down_of fences))
action scope line loops (s.Split t colour key name) = split_meant scope line t colour key name

-- ---- statements

-- what a statement means, with the names of the loops that are open around it
abbrev pub Meaning : Type 0
Meaning = List Name → Result StmtR Fault

abbrev pub block : List Name → List Meaning → Result (List StmtR) Fault
block loops [] = Ok []
block loops (m ∷ others) = after (m loops) (λ c. after (block loops others) (λ more. Ok (c ∷ more)))

-- the step of a `do` is 1 where none is written
abbrev pub step_meant : Scope → ℕ → Option Expr → Result ExprR Fault
step_meant scope line None = Ok (R.Number (pos 1))
step_meant scope line (Some e) = wanted scope line (codes "do") Integer e

abbrev pub statement_layer : Scope → Stmt-F Meaning → Meaning
statement_layer scope (Stmt-F.Simple line a) loops = action scope line loops a
statement_layer scope (Stmt-F.IfLine line e inner a) loops =
    after (wanted scope line (codes "if") Logical e) (λ c. after (action scope inner loops a) (λ x. Ok (T.If line c (x ∷ []) [])))
statement_layer scope (Stmt-F.If line e first second) loops =
    after (wanted scope line (codes "if") Logical e) (λ c. after (block loops first) (λ x. after (block loops second) (λ y. Ok (T.If line c x y))))
statement_layer scope (Stmt-F.Do line v first last step body) loops =
    after (counts scope line loops v) (λ c.
    after (wanted scope line (codes "do") Integer first) (λ f.
    after (wanted scope line (codes "do") Integer last) (λ l.
    after (step_meant scope line step) (λ s.
    after (block (v ∷ loops) body) (λ b. Ok (T.Do line c f l s b))))))
statement_layer scope (Stmt-F.While line e body) loops =
    after (wanted scope line (codes "do") Logical e) (λ c. after (block loops body) (λ b. Ok (T.While line c b)))
statement_layer scope (Stmt-F.Finish line t body) loops =
    after (team_meant scope line t) (λ x. after (block loops body) (λ b. Ok (T.Finish line x b)))

abbrev pub statement : Scope → Stmt → Meaning
statement scope = fold-Stmt Meaning (statement_layer scope)
