-- Which tokens spell a statement, and a block of them.
use Rattle.std.specs.Prelude.{◌≡◌, ◌⊎◌, ℕ, zero, suc, Bool, true, false, not, ◌&&◌, List, [], ◌∷◌, Option, Some, None, codes}
use Rattle.caf_lexer.specs.declared.token.Token.{Token}
use Rattle.caf_lexer.specs.declared.token.What.{What}
use Rattle.caf_lexer.specs.declared.token.What.TheVariants as what
use Rattle.caf_lexer.specs.declared.token.Sign.TheVariants as sign
use Rattle.caf_lexer.specs.declared.token.Word.TheVariants as word
use Rattle.caf_tree.specs.declared.expr.Team.{Team}
use Rattle.caf_tree.specs.declared.expr.Place.{Place}
use Rattle.caf_tree.specs.declared.expr.Variable.{Variable}
use Rattle.caf_tree.specs.declared.expr.Expr.{Expr}
use Rattle.caf_tree.specs.declared.stmt.Range.{Range}
use Rattle.caf_tree.specs.declared.stmt.Range.TheVariants as range
use Rattle.caf_tree.specs.declared.stmt.Section.{Section}
use Rattle.caf_tree.specs.declared.stmt.OwnEvent.{OwnEvent}
use Rattle.caf_tree.specs.declared.stmt.Printed.{Printed}
use Rattle.caf_tree.specs.declared.stmt.Printed.TheVariants as printed
use Rattle.caf_tree.specs.declared.stmt.Key.{Key}
use Rattle.caf_tree.specs.declared.stmt.Key.TheVariants as key
use Rattle.caf_tree.specs.declared.stmt.FenceClass.{FenceClass}
use Rattle.caf_tree.specs.declared.stmt.FenceClass.TheVariants as class
use Rattle.caf_tree.specs.declared.stmt.Fence.{Fence}
use Rattle.caf_tree.specs.declared.stmt.Fence.TheVariants as fence
use Rattle.caf_tree.specs.declared.stmt.Simple.{Simple}
use Rattle.caf_tree.specs.declared.stmt.Simple.TheVariants as s
use Rattle.caf_tree.specs.declared.stmt.Stmt.{Stmt}
use Rattle.caf_tree.specs.declared.stmt.Stmt.TheVariants as stmt
use Rattle.caf_tree.specs.Forms.{Form, Mark, ◌⨟◌, Takes, Just, Called, Word', Sign', End, Name, Both, Made, Such, Either, Maybe, Many, ◌▸◌, ◌◂◌, Perhaps, Joined, or_none, Listed, InParentheses, Lined, Inside}
use Rattle.caf_tree.specs.Expressions.{Inner, Expression, PlaceForm, VariableForm, TeamForm, or_world}

-- ---- what is made of the parts

-- an index alone, or the first and last index, of which each may be missing
abbrev pub section_of : (List ℕ × Option Range) × Option (Place Expr) → Section
section_of ((x, None), p) = record { name = x; range = range.Whole; place = p }
section_of ((x, Some r), p) = record { name = x; range = r; place = p }

abbrev pub own_of : List ℕ × Option Expr → OwnEvent
own_of v = record { name = v.0; subscript = v.1 }

-- ---- what stands at most once

-- whether a test holds of no element
abbrev pub none_of : {A : Type 0} → (A → Bool) → List A → Bool
none_of test [] = true
none_of test (x ∷ others) = not (test x) && none_of test others

-- whether no two elements are alike
abbrev pub no_two : {A : Type 0} → (A → A → Bool) → List A → Bool
no_two alike [] = true
no_two alike (x ∷ others) = none_of (alike x) others && no_two alike others

-- both are `pre`, or both `srce`, or both `deste`
abbrev pub same_key : Key → Key → Bool
same_key (key.Pre v) (key.Pre u) = true
same_key (key.Srce v) (key.Srce u) = true
same_key (key.Deste v) (key.Deste u) = true
same_key _ _ = false

-- both are `down`, or both `up`
abbrev pub same_way : Fence → Fence → Bool
same_way (fence.Down c) (fence.Down d) = true
same_way (fence.Up c) (fence.Up d) = true
same_way _ _ = false

-- ---- parts of statements

-- read, write, any: names, and no reserved words
abbrev pub class_name : FenceClass → List ℕ
class_name class.Read = codes "read"
class_name class.Write = codes "write"
class_name class.Any = codes "any"

abbrev pub ClassForm : Form FenceClass
ClassForm = Just (λ c. what.Name (class_name c))

-- ("down" | "up") "=" ("read" | "write" | "any")
abbrev pub FenceForm : Form Fence
FenceForm = Either (Made fence.Down (Called (codes "down") ▸ (Sign' sign.Assign ▸ ClassForm)))
    (Made fence.Up (Called (codes "up") ▸ (Sign' sign.Assign ▸ ClassForm)))

-- In all that follows parentheses and brackets nest at most n deep.
module _ (n : ℕ) where
  -- expr | [expr] ":" [expr]
  abbrev pub RangeForm : Form Range
  RangeForm = Either (Made range.Element (Expression n))
      (Made (λ (p : Option Expr × Option Expr). range.Between p.0 p.1) (Both (Maybe (Expression n) ◂ Sign' sign.Colon) (Maybe (Expression n))))

  -- own = name ["(" expr ")"]
  abbrev pub OwnForm : Form OwnEvent
  OwnForm = Made own_of (Both Name (Maybe (InParentheses (Inner n))))

-- sect = name ["(" (expr | [expr] ":" [expr]) ")"] [place]
abbrev pub SectionForm : ℕ → Form Section
SectionForm n = Made section_of (Both (Both Name (Maybe (InParentheses (Inside RangeForm n)))) (Maybe (PlaceForm n)))

-- key = "pre" "=" own | "srce" "=" ev | "deste" "=" ev
abbrev pub KeyForm : ℕ → Form Key
KeyForm n = Either (Made key.Pre (Word' word.Pre ▸ (Sign' sign.Assign ▸ OwnForm n)))
    (Either (Made key.Srce (Word' word.Srce ▸ (Sign' sign.Assign ▸ VariableForm n)))
    (Made key.Deste (Word' word.Deste ▸ (Sign' sign.Assign ▸ VariableForm n))))

-- {"," key}, each at most once
abbrev pub KeysForm : ℕ → Form (List Key)
KeysForm n = Such (λ keys. no_two same_key keys ≡ true) (Many (Sign' sign.Comma ▸ KeyForm n))

-- sect "," sect {"," key}
abbrev pub CopyIn : ℕ → Form ((Section × Section) × List Key)
CopyIn n = Both (Both (SectionForm n) (Sign' sign.Comma ▸ SectionForm n)) (KeysForm n)

-- team "," expr "," expr "," name
abbrev pub SplitIn : ℕ → Form (((Team × Expr) × Expr) × List ℕ)
SplitIn n = Both (Both (Both TeamForm (Sign' sign.Comma ▸ Expression n)) (Sign' sign.Comma ▸ Expression n)) (Sign' sign.Comma ▸ Name)

-- fence {"," fence}, with `down` and `up` at most once each
abbrev pub FencesIn : ℕ → Form (List Fence)
FencesIn n = Such (λ fences. no_two same_way fences ≡ true) (Listed FenceForm)

-- expr {"," expr}
abbrev pub ArgumentsIn : ℕ → Form (List Expr)
ArgumentsIn n = Listed (Expression n)

-- `(` and `)` with nothing between them
abbrev pub Nothing : Mark
Nothing = InParentheses (λ _ ts rest. ts ≡ rest)

-- a list within parentheses, or parentheses around nothing
abbrev pub List' : {A : Type 0} → (ℕ → Form (List A)) → ℕ → Form (List A)
List' P n = Either (InParentheses (Inside P n)) (Made (λ (_ : Unit {0}). []) Nothing)

-- The same, or nothing at all. Where the list is empty it leaves no trace whether parentheses stand there.
abbrev pub PerhapsList : {A : Type 0} → (ℕ → Form (List A)) → ℕ → Form (List A)
PerhapsList P n = Made or_none (Maybe (List' P n))

-- expr | text
abbrev pub PrintedForm : ℕ → Form Printed
PrintedForm n = Either (Made printed.Value (Expression n)) (Made printed.Text (Just what.Text))

-- ["call"], which leaves no trace
abbrev pub PerhapsCall : Mark
PerhapsCall = Perhaps (Word' word.Call)

-- ---- statements without a block, in which parentheses and brackets nest at most n deep

module _ (n : ℕ) where
  abbrev pub Assign : Form Simple
  Assign = Made (λ (p : Variable Expr × Expr). s.Assign p.0 p.1) (Both (VariableForm n) (Sign' sign.Assign ▸ Expression n))

  abbrev pub Aim : Form Simple
  Aim = Made (λ (p : List ℕ × Section). s.Aim p.0 p.1) (Both Name (Sign' sign.Arrow ▸ SectionForm n))

  abbrev pub Print : Form Simple
  Print = Made s.Print (Word' word.Print ▸ (Sign' sign.Asterisk ▸ Many (Sign' sign.Comma ▸ PrintedForm n)))

  abbrev pub Call : Form Simple
  Call = Made (λ (p : List ℕ × List Expr). s.Call p.0 p.1) (Word' word.Call ▸ Both Name (PerhapsList ArgumentsIn n))

  -- "spawn" ["(" ev ")"] name "(" [expr {"," expr}] ")" place
  abbrev pub Spawn : Form Simple
  Spawn = Made (λ (p : ((Option (Variable Expr) × List ℕ) × List Expr) × Place Expr). s.Spawn p.0.0.0 p.0.0.1 p.0.1 p.1)
      (Word' word.Spawn ▸ Both (Both (Both (Maybe (InParentheses (Inside VariableForm n))) Name) (List' ArgumentsIn n)) (PlaceForm n))

  abbrev pub Notify : Form Simple
  Notify = Made s.Notify (PerhapsCall ▸ (Word' word.EventNotify ▸ InParentheses (Inside VariableForm n)))

  abbrev pub Wait : Form Simple
  Wait = Made s.Wait (PerhapsCall ▸ (Word' word.EventWait ▸ InParentheses (Inside OwnForm n)))

  abbrev pub Copy : Form Simple
  Copy = Made (λ (p : (Section × Section) × List Key). s.Copy p.0.0 p.0.1 p.1)
      (PerhapsCall ▸ (Word' word.CopyAsync ▸ InParentheses (Inside CopyIn n)))

  -- "cofence" ["(" [fence {"," fence}] ")"]
  abbrev pub Cofence : Form Simple
  Cofence = Made s.Cofence (Word' word.Cofence ▸ PerhapsList FencesIn n)

  abbrev pub Split : Form Simple
  Split = Made (λ (p : ((Team × Expr) × Expr) × List ℕ). s.Split p.0.0.0 p.0.0.1 p.0.1 p.1)
      (PerhapsCall ▸ (Word' word.TeamSplit ▸ InParentheses (Inside SplitIn n)))

  pub data SimpleForm (x : Simple) (ts rest : List Token) : Type 0 where
    assign : Assign x ts rest → SimpleForm x ts rest
    aim : Aim x ts rest → SimpleForm x ts rest
    print : Print x ts rest → SimpleForm x ts rest
    call : Call x ts rest → SimpleForm x ts rest
    spawn : Spawn x ts rest → SimpleForm x ts rest
    notify : Notify x ts rest → SimpleForm x ts rest
    wait : Wait x ts rest → SimpleForm x ts rest
    copy : Copy x ts rest → SimpleForm x ts rest
    cofence : Cofence x ts rest → SimpleForm x ts rest
    split : Split x ts rest → SimpleForm x ts rest

-- ---- statements, in which blocks, parentheses and brackets nest at most n deep

-- a condition, the statements of its block, and those of the else part
abbrev pub Branches : Type 0
Branches = Expr × (List Stmt × List Stmt)

abbrev pub if_at : ℕ × Branches → Stmt
if_at i = stmt.If i.0 i.1.0 i.1.1.0 i.1.1.1

-- enddo = "end" "do" | "enddo"
abbrev pub EndDo : Mark
EndDo = Joined word.End word.Do word.EndDo

abbrev pub EndIf : Mark
EndIf = Joined word.End word.If word.EndIf

abbrev pub EndFinish : Mark
EndFinish = Joined word.End word.Finish word.EndFinish

-- "(" expr ")": the parentheses of a condition aren't inside the block behind them
abbrev pub Condition : ℕ → Form Expr
Condition n = InParentheses (Inner n)

-- Statements of one level: B is the form of a block inside, and I that of what follows `else if`.
module _ (n : ℕ) (B : List Stmt → List Token → List Token → Type 0) (I : Branches → List Token → List Token → Type 0) where
  -- rest = ("else" "if" | "elseif") "(" expr ")" "then" E {stmt} rest
  --      | ["else" E {stmt}] ("end" "if" | "endif") E
  -- Where it begins with `else if` it is an IF statement, with the line of its first token, that is the whole else part.
  abbrev pub Rest : Form (List Stmt)
  Rest = Either (Made (λ (i : ℕ × Branches). if_at i ∷ []) (Lined (Joined word.Else word.If word.ElseIf ▸ I)))
      (Made or_none (Maybe (Word' word.Else ▸ (End ▸ B))) ◂ EndIf ◂ End)

  -- "(" expr ")" "then" E {stmt} rest
  abbrev pub BranchesIn : Form Branches
  BranchesIn = Both (Condition n) (Word' word.Then ▸ (End ▸ Both B Rest))

  -- "(" expr ")" simple E
  abbrev pub Guarded : Form (Expr × (ℕ × Simple))
  Guarded = Both (Condition n) (Lined (SimpleForm n)) ◂ End

  -- name "=" expr "," expr ["," expr] E {stmt} enddo E
  abbrev pub Counted : Form (((List ℕ × Expr) × (Expr × Option Expr)) × List Stmt)
  Counted = Both (Both (Both Name (Sign' sign.Assign ▸ Expression n)) (Sign' sign.Comma ▸ Both (Expression n) (Maybe (Sign' sign.Comma ▸ Expression n)))) (End ▸ B) ◂ EndDo ◂ End

  pub data Statement (x : Stmt) (ts rest : List Token) : Type 0 where
    -- simple E
    simple : Made (λ (p : ℕ × Simple). stmt.Simple p.0 p.1) (Lined (SimpleForm n ◂ End)) x ts rest → Statement x ts rest
    -- "if" "(" expr ")" simple E
    if_line : Made (λ (p : ℕ × (Expr × (ℕ × Simple))). stmt.IfLine p.0 p.1.0 p.1.1.0 p.1.1.1) (Lined (Word' word.If ▸ Guarded)) x ts rest → Statement x ts rest
    -- "if" "(" expr ")" "then" E {stmt} rest
    if_block : Made if_at (Lined (Word' word.If ▸ BranchesIn)) x ts rest → Statement x ts rest
    -- "do" name "=" expr "," expr ["," expr] E {stmt} enddo E
    counted : Made (λ (p : ℕ × (((List ℕ × Expr) × (Expr × Option Expr)) × List Stmt)). stmt.Do p.0 p.1.0.0.0 p.1.0.0.1 p.1.0.1.0 p.1.0.1.1 p.1.1) (Lined (Word' word.Do ▸ Counted)) x ts rest → Statement x ts rest
    -- "do" "while" "(" expr ")" E {stmt} enddo E
    while_true : Made (λ (p : ℕ × (Expr × List Stmt)). stmt.While p.0 p.1.0 p.1.1) (Lined (Word' word.Do ▸ (Word' word.While ▸ (Both (Condition n) (End ▸ B) ◂ EndDo ◂ End)))) x ts rest → Statement x ts rest
    -- "finish" ["(" team ")"] E {stmt} ("end" "finish" | "endfinish") E
    finish : Made (λ (p : ℕ × (Team × List Stmt)). stmt.Finish p.0 p.1.0 p.1.1) (Lined (Word' word.Finish ▸ (Both (Made or_world (Maybe (InParentheses TeamForm))) (End ▸ B) ◂ EndFinish ◂ End))) x ts rest → Statement x ts rest

-- A block inside, and what follows an `else if`, which is one block deeper. A block counts as a level even where it is
-- empty.
abbrev mutual
  pub InnerBlock : ℕ → List Stmt → List Token → List Token → Type 0
  InnerBlock zero x ts rest = ⊥
  InnerBlock (suc n) x ts rest = Many (Statement n (InnerBlock n) (InnerBranches n)) x ts rest

  pub InnerBranches : ℕ → Branches → List Token → List Token → Type 0
  InnerBranches zero x ts rest = ⊥
  InnerBranches (suc n) x ts rest = BranchesIn n (InnerBlock n) (InnerBranches n) x ts rest

-- {stmt}
abbrev pub StatementsForm : ℕ → Form (List Stmt)
StatementsForm n = Many (Statement n (InnerBlock n) (InnerBranches n))
