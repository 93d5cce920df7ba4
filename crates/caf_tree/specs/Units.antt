-- Which tokens spell a declaration, a subroutine and a unit.
use Rattle.std.specs.Prelude.{◌≡◌, ◌⊎◌, ℕ, Bool, true, false, List, [], ◌∷◌, Option, Some, None}
use Rattle.caf_lexer.specs.declared.token.Token.{Token}
use Rattle.caf_lexer.specs.declared.token.What.{What}
use Rattle.caf_lexer.specs.declared.token.What.TheVariants as what
use Rattle.caf_lexer.specs.declared.token.Sign.TheVariants as sign
use Rattle.caf_lexer.specs.declared.token.Word.{Word}
use Rattle.caf_lexer.specs.declared.token.Word.TheVariants as word
use Rattle.caf_tree.specs.declared.expr.Expr.{Expr}
use Rattle.caf_tree.specs.declared.stmt.Stmt.{Stmt}
use Rattle.caf_tree.specs.declared.unit.ValueKind.{ValueKind}
use Rattle.caf_tree.specs.declared.unit.ValueKind.TheVariants as kind
use Rattle.caf_tree.specs.declared.unit.Intent.{Intent}
use Rattle.caf_tree.specs.declared.unit.Intent.TheVariants as intent
use Rattle.caf_tree.specs.declared.unit.Bounds.{Bounds}
use Rattle.caf_tree.specs.declared.unit.Item.{Item}
use Rattle.caf_tree.specs.declared.unit.Decl.{Decl}
use Rattle.caf_tree.specs.declared.unit.Decl.TheVariants as decl
use Rattle.caf_tree.specs.declared.unit.Sub.{Sub}
use Rattle.caf_tree.specs.declared.unit.Unit.{Unit as Program}
use Rattle.caf_tree.specs.Forms.{Form, Mark, ◌⨟◌, Takes, Just, Called, Word', Sign', End, Name, Both, Made, Such, Either, Maybe, Many, ◌▸◌, ◌◂◌, Perhaps, Joined, Listed, or_none, InParentheses, InBrackets, Lined, Inside}
use Rattle.caf_tree.specs.Expressions.{Inner, Expression}
use Rattle.caf_tree.specs.Statements.{PerhapsList, StatementsForm}

-- ---- declarations

-- kind = "integer" | "logical"
abbrev pub kind_word : ValueKind → Word
kind_word kind.Integer = word.Integer
kind_word kind.Logical = word.Logical

abbrev pub KindForm : Form ValueKind
KindForm = Just (λ k. what.Word (kind_word k))

-- "in" | "inout" | "in" "out"
abbrev pub IntentForm : Form Intent
IntentForm = Either (Made (λ (_ : Unit {0}). intent.In) (Word' word.In)) (Made (λ (_ : Unit {0}). intent.InOut) (Joined word.In word.Out word.InOut))

abbrev pub bounds_of : Option Expr × Expr → Bounds
bounds_of b = record { lower = b.0; upper = b.1 }

-- whether a mark stands there
abbrev pub is_there : Option (Unit {0}) → Bool
is_there None = false
is_there (Some _) = true

abbrev pub item_of : (List ℕ × Option Bounds) × Bool → Item
item_of i = record { name = i.0.0; bounds = i.0.1; shared = i.1 }

-- [expr ":"] expr
abbrev pub BoundsIn : ℕ → Form Bounds
BoundsIn n = Made bounds_of (Both (Maybe (Expression n ◂ Sign' sign.Colon)) (Expression n))

-- a mark, where parentheses or brackets may be opened
abbrev pub MarkIn : Mark → ℕ → Mark
MarkIn D n = Inside (λ _. D) n

-- item = name ["(" [expr ":"] expr ")"] ["[" "*" "]"]
abbrev pub ItemForm : ℕ → Form Item
ItemForm n = Made item_of (Both (Both Name (Maybe (InParentheses (Inside BoundsIn n)))) (Made is_there (Maybe (InBrackets (MarkIn (Sign' sign.Asterisk) n)))))

-- name "=" expr
abbrev pub ValueForm : ℕ → Form (List ℕ × Expr)
ValueForm n = Both Name (Sign' sign.Assign ▸ Expression n)

-- name "(" ":" ")"
abbrev pub PointerForm : ℕ → Form (List ℕ)
PointerForm n = Name ◂ InParentheses (MarkIn (Sign' sign.Colon) n)

-- kind "," and this word
abbrev pub KindWith : Word → Form ValueKind
KindWith w = KindForm ◂ Sign' sign.Comma ◂ Word' w

-- kind "," "intent" "(" ("in" | "inout" | "in" "out") ")"
abbrev pub KindIntent : ℕ → Form (ValueKind × Intent)
KindIntent n = Both (KindWith word.Intent) (InParentheses (Inside (λ _. IntentForm) n))

-- decl E, with the line of its first token, where parentheses and brackets nest at most n deep
module _ (n : ℕ) where
  pub data Declaration (x : Decl) (ts rest : List Token) : Type 0 where
    -- kind "," "parameter" "::" name "=" expr {"," name "=" expr}
    parameters : Made (λ (p : ℕ × (ValueKind × List (List ℕ × Expr))). decl.Parameters p.0 p.1.0 p.1.1) (Lined (Both (KindWith word.Parameter ◂ Sign' sign.DoubleColon) (Listed (ValueForm n)) ◂ End)) x ts rest → Declaration x ts rest
    -- kind "," "copointer" "::" name "(" ":" ")" {"," name "(" ":" ")"}
    copointers : Made (λ (p : ℕ × (ValueKind × List (List ℕ))). decl.Copointers p.0 p.1.0 p.1.1) (Lined (Both (KindWith word.Copointer ◂ Sign' sign.DoubleColon) (Listed (PointerForm n)) ◂ End)) x ts rest → Declaration x ts rest
    -- kind "," "intent" "(" ("in" | "inout" | "in" "out") ")" "::" name {"," name}
    dummies : Made (λ (p : ℕ × ((ValueKind × Intent) × List (List ℕ))). decl.Dummies p.0 p.1.0.0 p.1.0.1 p.1.1) (Lined (Both (KindIntent n ◂ Sign' sign.DoubleColon) (Listed Name) ◂ End)) x ts rest → Declaration x ts rest
    -- kind ["::"] item {"," item}
    variables : Made (λ (p : ℕ × (ValueKind × List Item)). decl.Variables p.0 p.1.0 p.1.1) (Lined (Both (KindForm ◂ Perhaps (Sign' sign.DoubleColon)) (Listed (ItemForm n)) ◂ End)) x ts rest → Declaration x ts rest
    -- "event" "::" item {"," item}
    events : Made (λ (p : ℕ × List Item). decl.Events p.0 p.1) (Lined (Word' word.Event ▸ (Sign' sign.DoubleColon ▸ Listed (ItemForm n)) ◂ End)) x ts rest → Declaration x ts rest
    -- "team" "::" name {"," name}
    teams : Made (λ (p : ℕ × List (List ℕ)). decl.Teams p.0 p.1) (Lined (Word' word.Team ▸ (Sign' sign.DoubleColon ▸ Listed Name) ◂ End)) x ts rest → Declaration x ts rest

-- ---- subroutines and units

-- ["implicit" "none" E], which leaves no trace
abbrev pub ImplicitNone : Mark
ImplicitNone = Perhaps (Word' word.Implicit ▸ (Word' word.None ▸ End))

-- The end of what has this name: "end" [word [name]] | together [name]. A name that stands there is this one.
abbrev pub EndOf : Word → Word → List ℕ → Mark
EndOf w together name = Either (Word' word.End ▸ Perhaps (Word' w ▸ Perhaps (Called name))) (Word' together ▸ Perhaps (Called name))

-- what is declared, and the statements
abbrev pub Body : ℕ → Form (List Decl × List Stmt)
Body n = ImplicitNone ▸ Both (Many (Declaration n)) (StatementsForm n)

-- name ["(" [name {"," name}] ")"] E
abbrev pub Heading : ℕ → Form (List ℕ × List (List ℕ))
Heading n = Both Name (PerhapsList (λ _. Listed Name) n) ◂ End

abbrev pub sub_of : ℕ × ((List ℕ × List (List ℕ)) × (List Decl × List Stmt)) → Sub
sub_of p = record { line = p.0; name = p.1.0.0; dummies = p.1.0.1; declarations = p.1.1.0; body = p.1.1.1 }

-- a value, and then a mark that depends on it
abbrev pub Closed : {A : Type 0} → (A → Mark) → Form A → Form A
Closed D P a ts rest = (P a ⨟ D a tt) ts rest

-- sub = "subroutine" name ["(" [name {"," name}] ")"] E ["implicit" "none" E]
--       {decl E} {stmt} ("end" ["subroutine" [name]] | "endsubroutine" [name]) E
abbrev pub SubForm : ℕ → Form Sub
SubForm n = Made sub_of (Lined (Word' word.Subroutine ▸ (Closed (λ (p : (List ℕ × List (List ℕ)) × (List Decl × List Stmt)). EndOf word.Subroutine word.EndSubroutine p.0.0) (Both (Heading n) (Body n)) ◂ End)))

-- ["contains" E {sub}]
abbrev pub SubsForm : ℕ → Form (List Sub)
SubsForm n = Made or_none (Maybe (Word' word.Contains ▸ (End ▸ Many (SubForm n))))

abbrev pub program_of : (List ℕ × (List Decl × List Stmt)) × List Sub → Program
program_of p = record { name = p.0.0; declarations = p.0.1.0; body = p.0.1.1; subs = p.1 }

-- unit = "program" name E ["implicit" "none" E] {decl E} {stmt}
--        ["contains" E {sub}] ("end" ["program" [name]] | "endprogram" [name]) E
abbrev pub UnitForm : ℕ → Form Program
UnitForm n = Made program_of (Word' word.Program ▸ (Closed (λ (p : (List ℕ × (List Decl × List Stmt)) × List Sub). EndOf word.Program word.EndProgram p.0.0) (Both (Both (Name ◂ End) (Body n)) (SubsForm n)) ◂ End))

-- These tokens, all of them, spell this unit, and blocks, parentheses and brackets nest at most n deep.
abbrev pub SpellsWithin : ℕ → List Token → Program → Type 0
SpellsWithin n ts u = UnitForm n u ts []

-- These tokens spell this unit.
abbrev pub Spells : List Token → Program → Type 0
Spells ts u = (n : ℕ) × SpellsWithin n ts u
