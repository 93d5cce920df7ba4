-- The text of a listing.
use Rattle.std.specs.Prelude.{ℕ, suc, Bool, true, false, List, [], ◌∷◌, ◌++◌, map, codes, decimal, flat_map, ◌==◌, if◌then◌else◌}
use Rattle.std.specs.Fmt.{signed_decimal}
use Rattle.caf_base.specs.declared.fence.Down.{Down}
use Rattle.caf_base.specs.declared.fence.Down.TheVariants as down
use Rattle.caf_base.specs.declared.object.Kind.{Kind}
use Rattle.caf_base.specs.declared.object.Kind.TheVariants as kind
use Rattle.caf_base.specs.declared.object.Object.{Object}
use Rattle.caf_code.specs.declared.instr.Arithmetic.{Arithmetic}
use Rattle.caf_code.specs.declared.instr.Arithmetic.TheVariants as arithmetic
use Rattle.caf_code.specs.declared.instr.CellUse.{CellUse}
use Rattle.caf_code.specs.declared.instr.CellUse.TheVariants as cell
use Rattle.caf_code.specs.declared.instr.ElementForm.TheVariants as element
use Rattle.caf_code.specs.declared.instr.EventUse.TheVariants as event
use Rattle.caf_code.specs.declared.instr.Instr.{Instr}
use Rattle.caf_code.specs.declared.instr.Instr.TheVariants as instr
use Rattle.caf_code.specs.declared.instr.Logical.{Logical}
use Rattle.caf_code.specs.declared.instr.Logical.TheVariants as logical
use Rattle.caf_code.specs.declared.instr.OutForm.TheVariants as out
use Rattle.caf_code.specs.declared.instr.PlaceForm.{PlaceForm}
use Rattle.caf_code.specs.declared.instr.PlaceForm.TheVariants as at
use Rattle.caf_code.specs.declared.instr.Printed.TheVariants as printed
use Rattle.caf_code.specs.declared.instr.RangeForm.{RangeForm}
use Rattle.caf_code.specs.declared.instr.RangeForm.TheVariants as form
use Rattle.caf_code.specs.declared.instr.Reach.TheVariants as reach
use Rattle.caf_code.specs.declared.instr.Relation.{Relation}
use Rattle.caf_code.specs.declared.instr.Relation.TheVariants as relation
use Rattle.caf_code.specs.declared.instr.Role.{Role}
use Rattle.caf_code.specs.declared.instr.Role.TheVariants as role
use Rattle.caf_code.specs.declared.instr.SectionForm.TheVariants as section
use Rattle.caf_code.specs.declared.instr.SectionUse.TheVariants as purpose
use Rattle.caf_code.specs.declared.instr.TeamName.{TeamName}
use Rattle.caf_code.specs.declared.instr.TeamName.TheVariants as team
use Rattle.caf_code.specs.declared.instr.TeamQuery.{TeamQuery}
use Rattle.caf_code.specs.declared.instr.TeamQuery.TheVariants as query
use Rattle.caf_code.specs.declared.listing.Listing.{Listing}
use Rattle.caf_code.specs.declared.listing.SubCode.{SubCode}

-- a word and a number behind it
abbrev pub named : List ℕ → ℕ → List ℕ
named word number = word ++ 32 ∷ decimal number

abbrev pub arithmetic_word : Arithmetic → List ℕ
arithmetic_word arithmetic.Negate = codes "neg"
arithmetic_word arithmetic.Add = codes "add"
arithmetic_word arithmetic.Subtract = codes "sub"
arithmetic_word arithmetic.Multiply = codes "mul"
arithmetic_word arithmetic.Divide = codes "div"
arithmetic_word arithmetic.Modulo = codes "mod"
arithmetic_word arithmetic.Absolute = codes "abs"
arithmetic_word arithmetic.Minimum = codes "min"
arithmetic_word arithmetic.Maximum = codes "max"

abbrev pub relation_word : Relation → List ℕ
relation_word relation.Equal = codes "eq"
relation_word relation.NotEqual = codes "ne"
relation_word relation.Less = codes "lt"
relation_word relation.LessEqual = codes "le"
relation_word relation.Greater = codes "gt"
relation_word relation.GreaterEqual = codes "ge"

abbrev pub logical_word : Logical → List ℕ
logical_word logical.Not = codes "not"
logical_word logical.And = codes "and"
logical_word logical.Or = codes "or"
logical_word logical.Equivalent = codes "eqv"
logical_word logical.NotEquivalent = codes "neqv"

abbrev pub cell_word : CellUse → List ℕ
cell_word cell.Get = codes "local"
cell_word cell.Set = codes "setlocal"

abbrev pub query_text : TeamQuery → TeamName → List ℕ
query_text query.Rank team.World = codes "rank"
query_text query.Size team.World = codes "size"
query_text query.Rank (team.Object o) = named (codes "rankof") o
query_text query.Size (team.Object o) = named (codes "sizeof") o

-- a place, behind a blank
abbrev pub place_text : PlaceForm → List ℕ
place_text at.Own = codes " own"
place_text at.World = codes " world"
place_text (at.Of o) = named (codes " team") o

-- a team of a split, behind a blank
abbrev pub team_text : TeamName → List ℕ
team_text team.World = codes " world"
team_text (team.Object o) = named (codes " team") o

-- a form of a range, behind a blank
abbrev pub range_text : RangeForm → List ℕ
range_text form.All = codes " all"
range_text form.Cell = codes " cell"
range_text form.Between = codes " range"
range_text form.From = codes " from"
range_text form.UpTo = codes " upto"

-- a role, behind a blank
abbrev pub role_text : Role → List ℕ
role_text role.Pre = codes " pre"
role_text role.Srce = codes " srce"
role_text role.Deste = codes " deste"
role_text role.Done = codes " done"

-- a class of fences, behind a blank
abbrev pub down_text : Down → List ℕ
down_text down.Nothing = codes " none"
down_text down.Read = codes " read"
down_text down.Write = codes " write"
down_text down.Any = codes " any"

-- an instruction, without the mark
abbrev pub instr_text : Instr → List ℕ
instr_text (instr.Push n) = codes "push " ++ signed_decimal n
instr_text (instr.Load reach.Scalar o) = named (codes "load") o
instr_text (instr.Load reach.Element o) = named (codes "loadx") o
instr_text (instr.Store reach.Scalar o) = named (codes "store") o
instr_text (instr.Store reach.Element o) = named (codes "storex") o
instr_text (instr.Cell u k) = named (cell_word u) k
instr_text (instr.Held k) = named (codes "held") k
instr_text (instr.Arithmetic w) = arithmetic_word w
instr_text (instr.Relation w) = relation_word w
instr_text (instr.Logical w) = logical_word w
instr_text (instr.Team q name) = query_text q name
instr_text (instr.Go a) = named (codes "go") a
instr_text instr.Next = codes "next"
instr_text (instr.Test a) = named (codes "test") a
instr_text instr.Loop = codes "loop"
instr_text (instr.Enter a) = named (codes "enter") a
instr_text instr.StepBy = codes "stepby"
instr_text (instr.Again a) = named (codes "again") a
instr_text (instr.Ask (element.Coindexed o p)) = named (codes "ask") o ++ place_text p
instr_text (instr.Ask (element.Pointed c)) = named (codes "askp") c
instr_text (instr.Put (element.Coindexed o p)) = named (codes "put") o ++ place_text p
instr_text (instr.Put (element.Pointed c)) = named (codes "putp") c
instr_text (instr.Section (section.Region o f p)) = named (codes "sect") o ++ range_text f ++ place_text p
instr_text (instr.Section (section.Pointed c f)) = named (codes "sectp") c ++ range_text f
instr_text (instr.EventAt o p r) = named (codes "eventat") o ++ place_text p ++ role_text r
instr_text (instr.Use (purpose.Aim c)) = named (codes "aim") c
instr_text (instr.Use purpose.Copy) = codes "copy"
instr_text (instr.Event (event.Notify o p)) = named (codes "notify") o ++ place_text p
instr_text (instr.Event (event.Wait o)) = named (codes "wait") o
instr_text (instr.Cofence class) = codes "cofence" ++ down_text class
instr_text (instr.Spawn f p) = named (codes "spawn") f ++ place_text p
instr_text (instr.Finish team.World) = codes "finish"
instr_text (instr.Finish (team.Object o)) = named (codes "finisht") o
instr_text instr.Close = codes "close"
instr_text (instr.Split name o) = codes "split" ++ team_text name ++ 32 ∷ decimal o
instr_text (instr.Out (out.Scalar o)) = named (codes "outs") o
instr_text (instr.Out (out.Element o)) = named (codes "outx") o
instr_text (instr.Out (out.Local k)) = named (codes "outl") k
instr_text (instr.Call f) = named (codes "call") f
instr_text instr.Ret = codes "ret"
instr_text (instr.Print printed.Number) = codes "printn"
instr_text (instr.Print printed.Logical) = codes "printl"
instr_text (instr.Print (printed.Text k)) = named (codes "printt") k
instr_text instr.Line = codes "line"
instr_text instr.Halt = codes "halt"

-- a line with its end, behind a number
abbrev pub instr_line : ℕ → Instr → List ℕ
instr_line a i = decimal a ++ codes ": " ++ instr_text i ++ 10 ∷ []

-- a kind, behind a blank
abbrev pub kind_text : Kind → List ℕ
kind_text kind.Integer = codes " integer"
kind_text kind.Logical = codes " logical"
kind_text kind.Event = codes " event"
kind_text kind.Team = codes " team"
kind_text kind.CoInteger = codes " cointeger"
kind_text kind.CoLogical = codes " cological"

-- whether other images may name the object, behind a blank
abbrev pub share_text : Bool → List ℕ
share_text true = codes " all"
share_text false = codes " own"

-- the least index and the number of elements, each behind a blank
abbrev pub bounds_text : Object → List ℕ
bounds_text o = 32 ∷ signed_decimal o.lower ++ 32 ∷ decimal o.extent

abbrev pub object_line : ℕ → Object → List ℕ
object_line k o = named (codes "object") k ++ kind_text o.kind ++ bounds_text o ++ share_text o.shared ++ 10 ∷ []

-- `o` for a dummy that is copied out, else `i`
abbrev pub dummy_letter : Bool → ℕ
dummy_letter true = 111
dummy_letter false = 105

abbrev pub dummies_word : List Bool → List ℕ
dummies_word [] = codes "-"
dummies_word (d ∷ rest) = map dummy_letter (d ∷ rest)

abbrev pub sub_line : ℕ → SubCode → List ℕ
sub_line k sub = named (named (codes "sub") k) sub.address ++ 32 ∷ dummies_word sub.dummies ++ 32 ∷ decimal sub.locals ++ 10 ∷ []

-- a byte of a text between quotes: a quote stands twice
abbrev pub quoted_byte : ℕ → List ℕ
quoted_byte b = if b == 39 then 39 ∷ 39 ∷ [] else b ∷ []

abbrev pub text_line : ℕ → List ℕ → List ℕ
text_line k text = named (codes "text") k ++ codes " '" ++ flat_map quoted_byte text ++ codes "'" ++ 10 ∷ []

-- a line for each item, behind its number from this one on
abbrev pub numbered : {A : Type 0} → (ℕ → A → List ℕ) → ℕ → List A → List ℕ
numbered line k [] = []
numbered line k (x ∷ rest) = line k x ++ numbered line (suc k) rest

-- the text of a listing: the version, the objects, the subroutines, the texts and the instructions
abbrev pub listing_text : Listing → List ℕ
listing_text code = codes "caf code 3\n" ++ numbered object_line 0 code.objects ++ numbered sub_line 0 code.subs ++ numbered text_line 0 code.texts ++ numbered instr_line 0 code.instrs
