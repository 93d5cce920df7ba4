-- What the declarations of a subroutine declare: its dummies and locals, and its names with what they stand for; or the first
-- rule that they break, in written order.
use Rattle.std.specs.Prelude.{ℕ, ◌+◌, Bool, true, false, not, ◌||◌, List, [], ◌∷◌, ◌++◌, map, length, Option, Some, None, is_some, Result, Ok, Err, if◌then◌else◌, bytes_eq, nat_lt, position}
use Rattle.caf_tree.specs.declared.expr.Expr.{Expr}
use Rattle.caf_tree.specs.declared.unit.Intent.{Intent as Asked}
use Rattle.caf_tree.specs.declared.unit.Intent.TheVariants as asked
use Rattle.caf_tree.specs.declared.unit.Item.{Item}
use Rattle.caf_tree.specs.declared.unit.Decl.{Decl}
use Rattle.caf_tree.specs.declared.unit.Decl.TheVariants as decl
use Rattle.caf_program.specs.declared.program.ValueKind.{ValueKind}
use Rattle.caf_program.specs.declared.program.Intent.{Intent}
use Rattle.caf_program.specs.declared.program.Intent.TheVariants.{In, InOut}
use Rattle.caf_program.specs.declared.program.DummyR.{DummyR}
use Rattle.caf_declare.specs.declared.fault.Rule.TheVariants as rule
use Rattle.caf_declare.specs.declared.fault.Fault.{Fault}
use Rattle.caf_declare.specs.declared.symbol.Symbol.{Symbol}
use Rattle.caf_declare.specs.declared.symbol.Symbol.TheVariants as symbol
use Rattle.caf_declare.specs.declared.symbol.Taken.{Taken}
use Rattle.caf_declare.specs.declared.frame.Frame.{Frame}
use Rattle.caf_declare.specs.Table.{Name, Names, found}
use Rattle.caf_declare.specs.Names.{breaks, after, among, declared, refused}
use Rattle.caf_declare.specs.Operators.{kind_meant}
use Rattle.caf_declare.specs.Constants.{Heads, known}
use Rattle.caf_declare.specs.Globals.{all_in_turn, parameter}

abbrev pub intent_meant : Asked → Intent
intent_meant asked.In = In
intent_meant asked.InOut = InOut

-- ---- the names that the declarations declare, and what they say of dummies

-- the first declaration of a name says what it is
abbrev pub noted : Option Taken → List Name → Heads → Heads
noted t [] heads = heads
noted t (name ∷ others) heads = noted t others (if is_some (found heads name) then heads else heads ++ (name, t) ∷ [])

abbrev pub noted_by : Decl → Heads → Heads
noted_by (decl.Parameters line k values) heads = noted None (map (λ (p : Name × Expr). p.0) values) heads
noted_by (decl.Copointers line k names) heads = noted None names heads
noted_by (decl.Dummies line k i names) heads = noted (Some (record { kind = kind_meant k; intent = intent_meant i })) names heads
noted_by (decl.Variables line k items) heads = noted None (map (λ (i : Item). i.name) items) heads
noted_by (decl.Events line items) heads = noted None (map (λ (i : Item). i.name) items) heads
noted_by (decl.Teams line names) heads = noted None names heads

abbrev pub heads_behind : Heads → List Decl → Heads
heads_behind heads [] = heads
heads_behind heads (d ∷ others) = heads_behind (noted_by d heads) others

abbrev pub heads_of : List Decl → Heads
heads_of = heads_behind []

-- what a subroutine takes for a dummy; none where the dummy isn't declared, or has no intent
abbrev pub or_none : Option (Option Taken) → Option Taken
or_none None = None
or_none (Some t) = t

abbrev pub signature : Heads → List Name → List (Option Taken)
signature heads = map (λ name. or_none (found heads name))

-- ---- the dummies

-- a dummy stands once in the list, is declared, and is one of at most 64
abbrev pub listed_dummy : ℕ → Heads → List Name → Name → Result (Unit {0}) Fault
listed_dummy line heads before name =
    if among before name then Err (breaks rule.Twice line name)
    else (if not (is_some (found heads name)) then Err (breaks rule.Undeclared line name)
    else (if nat_lt (length before) 64 then Ok tt else Err (breaks rule.TooManyCells line name)))

abbrev pub listed_behind : ℕ → Heads → List Name → List Name → Result (Unit {0}) Fault
listed_behind line heads before [] = Ok tt
listed_behind line heads before (name ∷ others) = after (listed_dummy line heads before name) (λ _. listed_behind line heads (before ++ name ∷ []) others)

abbrev pub listed : ℕ → Heads → List Name → Result (Unit {0}) Fault
listed line heads = listed_behind line heads []

-- each dummy has an intent
abbrev pub dummy_meant : ℕ → Name → Option Taken → Result DummyR Fault
dummy_meant line name None = Err (breaks rule.WrongKind line name)
dummy_meant line name (Some t) = Ok (record { name = name; kind = t.kind; intent = t.intent })

abbrev pub dummies_meant : ℕ → Heads → List Name → Result (List DummyR) Fault
dummies_meant line heads [] = Ok []
dummies_meant line heads (name ∷ others) =
    after (dummy_meant line name (or_none (found heads name))) (λ d. after (dummies_meant line heads others) (λ more. Ok (d ∷ more)))

-- ---- the declarations

abbrev pub no_frame : Frame
no_frame = record { names = []; locals = [] }

abbrev pub is_writable : Intent → Bool
is_writable In = false
is_writable InOut = true

-- one name more
abbrev pub with_name : ℕ → Name → Symbol → Frame → Result Frame Fault
with_name line name s f = after (declared line f.names name s) (λ names. Ok (record { names = names; locals = f.locals }))

-- no name but a dummy has an intent; the first declaration of a dummy says its kind and intent
abbrev pub dummy_at : ℕ → Name → Option ℕ → Option Taken → Frame → Result Frame Fault
dummy_at line name (Some at) (Some t) f = with_name line name (symbol.Local t.kind at (is_writable t.intent)) f
dummy_at line name at t f = Err (breaks rule.WrongKind line name)

abbrev pub declare_dummy : ℕ → List Name → Heads → Name → Frame → Result Frame Fault
declare_dummy line header heads name f = dummy_at line name (position (bytes_eq name) header) (or_none (found heads name)) f

-- a dummy isn't declared without an intent
abbrev pub no_dummy : ℕ → List Name → Name → Result (Unit {0}) Fault
no_dummy line header name = if among header name then Err (breaks rule.WrongKind line name) else Ok tt

-- a local is a scalar
abbrev pub plain : ℕ → Item → Result (Unit {0}) Fault
plain line i = if is_some i.bounds || i.shared then Err (breaks rule.WrongKind line i.name) else Ok tt

-- one local more, of at most 64 dummies and locals in all
abbrev pub with_local : ℕ → ℕ → ValueKind → Name → Frame → Result Frame Fault
with_local line dummies k name f =
    if nat_lt (dummies + length f.locals) 64 then Ok (record { names = f.names; locals = f.locals ++ k ∷ [] }) else Err (breaks rule.TooManyCells line name)

abbrev pub declare_local : ℕ → List Name → ValueKind → Item → Frame → Result Frame Fault
declare_local line header k i f =
    after (with_name line i.name (symbol.Local k (length header + length f.locals) true) f) (λ g.
    after (no_dummy line header i.name) (λ _.
    after (plain line i) (λ _. with_local line (length header) k i.name g)))

abbrev pub own_parameter : ℕ → List Name → Heads → Names → ValueKind → Name → Expr → Frame → Result Symbol Fault
own_parameter line header heads main k name e f = after (no_dummy line header name) (λ _. parameter f.names (known f.names heads main) line name k e)

abbrev pub declare_own_parameter : ℕ → List Name → Heads → Names → ValueKind → Name × Expr → Frame → Result Frame Fault
declare_own_parameter line header heads main k p f =
    after (own_parameter line header heads main k p.0 p.1 f) (λ s. with_name line p.0 s f)

abbrev pub refused_items : ℕ → List Item → Result (Unit {0}) Fault
refused_items line [] = Ok tt
refused_items line (i ∷ others) = Err (breaks rule.WrongKind line i.name)

-- a subroutine declares scalar integers and logicals and parameters
abbrev pub declare_in : List Name → Heads → Names → Decl → Frame → Result Frame Fault
declare_in header heads main (decl.Parameters line k values) f = all_in_turn (declare_own_parameter line header heads main (kind_meant k)) values f
declare_in header heads main (decl.Dummies line k i names) f = all_in_turn (declare_dummy line header heads) names f
declare_in header heads main (decl.Variables line k items) f = all_in_turn (declare_local line header (kind_meant k)) items f
declare_in header heads main (decl.Copointers line k names) f = after (refused line names) (λ _. Ok f)
declare_in header heads main (decl.Events line items) f = after (refused_items line items) (λ _. Ok f)
declare_in header heads main (decl.Teams line names) f = after (refused line names) (λ _. Ok f)

-- what the declarations of a subroutine with the dummies of its header declare
abbrev pub frame_of : List Name → Heads → Names → List Decl → Result Frame Fault
frame_of header heads main declarations = all_in_turn (declare_in header heads main) declarations no_frame
