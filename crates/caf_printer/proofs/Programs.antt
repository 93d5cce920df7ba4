-- Declarations, subroutines and units are spelled again, up to their lines, by the tokens that they are printed with.
use Rattle.std.proofs.Common.{◌≡◌, ℕ, zero, suc, ◌≤◌, Bool, true, false, List, [], ◌∷◌, ◌++◌, map, Option, Some, None, inl, inr, refl, ap, sym, ◌∙◌, subst, append_assoc, arith}
use Rattle.std.specs.List.{flat_map}
use Rattle.std.proofs.lemmas.List.{append-nil}
use Rattle.caf_lexer.specs.declared.token.Token.{Token}
use Rattle.caf_lexer.specs.declared.token.What.{What}
use Rattle.caf_lexer.specs.declared.token.What.TheVariants as what
use Rattle.caf_lexer.specs.declared.token.Sign.TheVariants as sign
use Rattle.caf_lexer.specs.declared.token.Word.{Word}
use Rattle.caf_lexer.specs.declared.token.Word.TheVariants as word
use Rattle.caf_tree.specs.declared.expr.Expr.{Expr}
use Rattle.caf_tree.specs.declared.stmt.Stmt.{Stmt}
use Rattle.caf_tree.specs.declared.unit.ValueKind.{ValueKind}
use Rattle.caf_tree.specs.declared.unit.ValueKind.TheVariants as kind
use Rattle.caf_tree.specs.declared.unit.Intent.{Intent}
use Rattle.caf_tree.specs.declared.unit.Intent.TheVariants as intent
use Rattle.caf_tree.specs.declared.unit.Bounds.{Bounds}
use Rattle.caf_tree.specs.declared.unit.Item.{Item}
use Rattle.caf_tree.specs.declared.unit.Decl.{Decl}
use Rattle.caf_tree.specs.declared.unit.Decl.TheVariants as decl
use Rattle.caf_tree.specs.declared.unit.Sub.{Sub}
use Rattle.caf_tree.specs.declared.unit.Unit.{Unit as Program}
use Rattle.caf_tree.specs.Forms.{Takes, Just, Called, Word', Sign', End, Name, Both, Made, Either, Maybe, Many, ◌▸◌, ◌◂◌, Perhaps, Joined, Listed, or_none, InParentheses, InBrackets, Lined, Inside}
use Rattle.caf_tree.specs.Expressions.{Expression}
use Rattle.caf_tree.specs.Statements.{PerhapsList, StatementsForm}
use Rattle.caf_tree.specs.Units.{kind_word, KindForm, IntentForm, bounds_of, is_there, item_of, BoundsIn, MarkIn, ItemForm, ValueForm, PointerForm, KindWith, KindIntent, Declaration, parameters, copointers, dummies, variables, events, teams, ImplicitNone, EndOf, Body, Heading, sub_of, Closed, SubForm, SubsForm, program_of, UnitForm, SpellsWithin, Spells}
use Rattle.caf_tree.specs.Said.{SaidLine, lines_at, shown, deeper, if_any, each_after, listed, perhaps_list, in_parentheses, in_brackets, of_sign, of_word, of_name, comma, expression_said, statements_said, end_said, bounds_said, shared_said, item_said, intent_word, kind_said, value_said, pointer_said, declaration_said, body_said, sub_said, subs_said, unit_said, unit_tokens}
use Rattle.caf_tree.specs.Unlined.{unlined_statement, unlined_declaration, unlined_sub, unlined, SpellsButLines}
use Rattle.caf_printer.proofs.Printable.{Said, whats, Printable, Fine, Each, each_append}
use Rattle.caf_printer.proofs.Told as t
use Rattle.caf_printer.proofs.Told.{Told, Marked, told_name, told_both, told_sign, told_after, told_made, told_maybe, told_either, told_just, told_parentheses, told_inside, told_listed, marked_word, marked_sign}
use Rattle.caf_printer.proofs.Expressions.{told_expression}
use Rattle.caf_printer.proofs.Parts.{told_perhaps_list}
use Rattle.caf_printer.proofs.Rows.{IsRow, IsLine, ended_row}
use Rattle.caf_printer.proofs.Shows.{Shows, Stands, stands_marked, stands_end, stands_word, stands_joined, shows_told, shows_both, shows_before, shows_after, shows_made, shows_lined, shows_many, IsSome, row_tokens, rows_append, rows_flat, each_flat}
use Rattle.caf_printer.proofs.Blocks.{block_tokens, block_ok, statement_tokens, deeper_fits, end_line}
use Rattle.caf_printer.proofs.Branched.{shows_statements}

-- ---- parts of declarations

kind_fine : (k : ValueKind) → Fine (what.Word (kind_word k)) → Printable (what.Word (kind_word k))
kind_fine k h = tt

told_kind : Told KindForm (λ k. of_word (kind_word k))
told_kind = told_just (λ k. what.Word (kind_word k)) kind_fine

told_intent : Told IntentForm (λ i. of_word (intent_word i))
told_intent = record { again = again; fine = fine }
  where
    again : (i : Intent) (ts rest : List Token) → IntentForm i ts rest → (front end : List Token) → whats front ≡ of_word (intent_word i) → IntentForm i (front ++ end) end
    again intent.In ts rest m front end s = inl (tt, refl, t.takes front end (what.Word word.In) s)
    again intent.InOut ts rest m front end s = inr (tt, refl, inr (t.takes front end (what.Word word.InOut) s))

    fine : (i : Intent) (ts rest : List Token) → IntentForm i ts rest → Each Fine (whats ts) → Each Printable (of_word (intent_word i)) × Each Fine (whats rest)
    fine i ts rest (inl m) e = ((tt, tt), (t.taken (what.Word word.In) ts rest m.2 e).1)
    fine i ts rest (inr m) e = ((tt, tt), (stands_joined word.In word.Out word.InOut).past ts rest m.2 e)

marked_parentheses : (D : Unit {0} → List Token → List Token → Type 0) (d : Said) → Marked D d → Marked (InParentheses D) (in_parentheses d)
marked_parentheses D d h = record {
  made = λ front end s.
      let (g, m, k) = t.head front (what.Sign sign.LeftParenthesis) (d ++ of_sign sign.RightParenthesis) end s in
      let (x, y, e, a, b) = t.split g d (of_sign sign.RightParenthesis) k in
      (g ++ end, m, (y ++ end, t.joined D tt g x y end e (h.made x (y ++ end) a), t.takes y end (what.Sign sign.RightParenthesis) b));
  sound = (tt, each_append Printable d (of_sign sign.RightParenthesis) h.sound (tt, tt));
  past = λ ts rest m e.
      (t.taken (what.Sign sign.RightParenthesis) m.2.0 rest m.2.2 (h.past m.0 m.2.0 m.2.1 (t.taken (what.Sign sign.LeftParenthesis) ts m.0 m.1 e).1)).1;
}

marked_brackets : (D : Unit {0} → List Token → List Token → Type 0) (d : Said) → Marked D d → Marked (InBrackets D) (in_brackets d)
marked_brackets D d h = record {
  made = λ front end s.
      let (g, m, k) = t.head front (what.Sign sign.LeftBracket) (d ++ of_sign sign.RightBracket) end s in
      let (x, y, e, a, b) = t.split g d (of_sign sign.RightBracket) k in
      (g ++ end, m, (y ++ end, t.joined D tt g x y end e (h.made x (y ++ end) a), t.takes y end (what.Sign sign.RightBracket) b));
  sound = (tt, each_append Printable d (of_sign sign.RightBracket) h.sound (tt, tt));
  past = λ ts rest m e.
      (t.taken (what.Sign sign.RightBracket) m.2.0 rest m.2.2 (h.past m.0 m.2.0 m.2.1 (t.taken (what.Sign sign.LeftBracket) ts m.0 m.1 e).1)).1;
}

told_bounds : (n : ℕ) → Told (BoundsIn n) (λ b. if_any (λ e. expression_said e ++ of_sign sign.Colon) b.lower ++ expression_said b.upper)
told_bounds n = told_made bounds_of _ _ _ (told_both _ _ _ _ (told_maybe _ _ (told_after _ _ _ _ (told_expression n) (marked_sign sign.Colon))) (told_expression n)) (λ b. refl)

false_apart : false ≡ true → ⊥
false_apart e = cc

shared_sound : (b : Bool) → Each Printable (shared_said b)
shared_sound true = (tt, (tt, (tt, tt)))
shared_sound false = tt

told_shared : (n : ℕ) → Told (Made is_there (Maybe (InBrackets (MarkIn (Sign' sign.Asterisk) n)))) shared_said
told_shared zero = record { again = again; fine = fine }
  where
    again : (b : Bool) (ts rest : List Token) → Made is_there (Maybe (InBrackets (MarkIn (Sign' sign.Asterisk) zero))) b ts rest → (front end : List Token) → whats front ≡ shared_said b → Made is_there (Maybe (InBrackets (MarkIn (Sign' sign.Asterisk) zero))) b (front ++ end) end
    again true ts rest (None, e, m) front end s = absurd (false_apart (sym e))
    again true ts rest (Some u, e, m) front end s = absurd m.2.1
    again false ts rest m front end s = (None, refl, t.nothing front end s)

    fine : (b : Bool) (ts rest : List Token) → Made is_there (Maybe (InBrackets (MarkIn (Sign' sign.Asterisk) zero))) b ts rest → Each Fine (whats ts) → Each Printable (shared_said b) × Each Fine (whats rest)
    fine b ts rest (None, e, m) k = (shared_sound b, subst (λ us. Each Fine (whats us)) m k)
    fine b ts rest (Some u, e, m) k = absurd m.2.1
told_shared (suc n) = record { again = again; fine = fine }
  where
    h : Marked (InBrackets (Sign' sign.Asterisk)) (in_brackets (of_sign sign.Asterisk))
    h = marked_brackets (Sign' sign.Asterisk) (of_sign sign.Asterisk) (marked_sign sign.Asterisk)

    again : (b : Bool) (ts rest : List Token) → Made is_there (Maybe (InBrackets (MarkIn (Sign' sign.Asterisk) (suc n)))) b ts rest → (front end : List Token) → whats front ≡ shared_said b → Made is_there (Maybe (InBrackets (MarkIn (Sign' sign.Asterisk) (suc n)))) b (front ++ end) end
    again true ts rest m front end s = (Some tt, refl, h.made front end s)
    again false ts rest m front end s = (None, refl, t.nothing front end s)

    fine : (b : Bool) (ts rest : List Token) → Made is_there (Maybe (InBrackets (MarkIn (Sign' sign.Asterisk) (suc n)))) b ts rest → Each Fine (whats ts) → Each Printable (shared_said b) × Each Fine (whats rest)
    fine b ts rest (None, e, m) k = (shared_sound b, subst (λ us. Each Fine (whats us)) m k)
    fine b ts rest (Some u, e, m) k = (shared_sound b, h.past ts rest m k)

told_item : (n : ℕ) → Told (ItemForm n) item_said
told_item n = told_made item_of _ _ item_said (told_both _ _ _ _ (told_both _ _ _ _ told_name (told_maybe _ _ (told_parentheses _ _ (told_inside BoundsIn _ told_bounds n)))) (told_shared n)) (λ i. refl)

told_value : (n : ℕ) → Told (ValueForm n) value_said
told_value n = told_both _ _ _ _ told_name (told_sign sign.Assign _ _ (told_expression n))

told_pointer : (n : ℕ) → Told (PointerForm n) pointer_said
told_pointer zero = record { again = λ a ts rest m. absurd m.2.2.1; fine = λ a ts rest m. absurd m.2.2.1 }
told_pointer (suc n) = told_after _ _ _ _ told_name (marked_parentheses (Sign' sign.Colon) (of_sign sign.Colon) (marked_sign sign.Colon))

-- a kind, a comma and a word
told_kind_with : (w : Word) → Told (KindWith w) (λ k. (of_word (kind_word k) ++ of_sign sign.Comma) ++ of_word w)
told_kind_with w = told_after _ _ _ _ (told_after _ _ _ _ told_kind (marked_sign sign.Comma)) (marked_word w)

told_kind_intent : (n : ℕ) → Told (KindIntent n) (λ c. ((of_word (kind_word c.0) ++ of_sign sign.Comma) ++ of_word word.Intent) ++ in_parentheses (of_word (intent_word c.1)))
told_kind_intent n = told_both _ _ _ _ (told_kind_with word.Intent) (told_parentheses _ _ (told_inside (λ _. IntentForm) _ (λ _. told_intent) n))

marked_colons : Marked (Perhaps (Sign' sign.DoubleColon)) (of_sign sign.DoubleColon)
marked_colons = record { made = λ front end s. inl (t.takes front end (what.Sign sign.DoubleColon) s); sound = (tt, tt); past = past }
  where
    past : (ts rest : List Token) → Perhaps (Sign' sign.DoubleColon) tt ts rest → Each Fine (whats ts) → Each Fine (whats rest)
    past ts rest (inl m) k = (t.taken (what.Sign sign.DoubleColon) ts rest m k).1
    past ts rest (inr m) k = subst (λ us. Each Fine (whats us)) m k

-- ---- declarations

abbrev declaration_tokens : Decl → Said
declaration_tokens d = declaration_said d ++ what.End ∷ []

abbrev declaration_ok : Decl → Type 0
declaration_ok d = IsRow (declaration_said d)

abbrev DeclForm : Type 1
DeclForm = Decl → List Token → List Token → Type 0

abbrev ShowsDeclaration : DeclForm → Type 0
ShowsDeclaration P = Shows unlined_declaration P declaration_tokens declaration_ok

module _ {A : Type 0} (g : ℕ × A → Decl) (P : A → List Token → List Token → Type 0) (p : A → Said) (h : Told P p) (some : (a : A) → IsSome (p a)) (said : (c : ℕ × A) → declaration_said (g c) ≡ p c.1)
    (up : (a b : ℕ × A) → b.1 ≡ a.1 → unlined_declaration (g b) ≡ unlined_declaration (g a)) (row : (c : ℕ × A) → Each Printable (p c.1) → IsRow (declaration_said (g c))) where
  shows_form : ShowsDeclaration (Made g (Lined (P ◂ End)))
  shows_form = shows_made g (λ (c : ℕ × A). c.1) unlined_declaration _ _ _ _ _
      (shows_lined (λ (a : A). a) _ _ _ (shows_after _ _ _ _ _ _ (shows_told P p h) stands_end) (λ a. some_end (p a) (some a)))
      (λ c. ap (λ us. us ++ what.End ∷ []) (said c)) up row
    where
      some_end : (xs : Said) → IsSome xs → IsSome (xs ++ what.End ∷ [])
      some_end [] k = absurd k
      some_end (x ∷ xs) k = tt

shows_parameters : (n : ℕ) → ShowsDeclaration (Made (λ (p : ℕ × (ValueKind × List (List ℕ × Expr))). decl.Parameters p.0 p.1.0 p.1.1) (Lined (Both (KindWith word.Parameter ◂ Sign' sign.DoubleColon) (Listed (ValueForm n)) ◂ End)))
shows_parameters n = shows_form _ _ _ (told_both _ _ _ _ (told_after _ _ _ _ (told_kind_with word.Parameter) (marked_sign sign.DoubleColon)) (told_listed _ _ (told_value n)))
    (λ a. tt) (λ c. refl) (λ a b e. ap (λ (z : ValueKind × List (List ℕ × Expr)). decl.Parameters 0 z.0 z.1) e) (λ c h. (tt, h.1))

shows_copointers : (n : ℕ) → ShowsDeclaration (Made (λ (p : ℕ × (ValueKind × List (List ℕ))). decl.Copointers p.0 p.1.0 p.1.1) (Lined (Both (KindWith word.Copointer ◂ Sign' sign.DoubleColon) (Listed (PointerForm n)) ◂ End)))
shows_copointers n = shows_form _ _ _ (told_both _ _ _ _ (told_after _ _ _ _ (told_kind_with word.Copointer) (marked_sign sign.DoubleColon)) (told_listed _ _ (told_pointer n)))
    (λ a. tt) (λ c. refl) (λ a b e. ap (λ (z : ValueKind × List (List ℕ)). decl.Copointers 0 z.0 z.1) e) (λ c h. (tt, h.1))

shows_dummies : (n : ℕ) → ShowsDeclaration (Made (λ (p : ℕ × ((ValueKind × Intent) × List (List ℕ))). decl.Dummies p.0 p.1.0.0 p.1.0.1 p.1.1) (Lined (Both (KindIntent n ◂ Sign' sign.DoubleColon) (Listed Name) ◂ End)))
shows_dummies n = shows_form _ _ _ (told_both _ _ _ _ (told_after _ _ _ _ (told_kind_intent n) (marked_sign sign.DoubleColon)) (told_listed Name of_name told_name))
    (λ a. tt) (λ c. refl) (λ a b e. ap (λ (z : (ValueKind × Intent) × List (List ℕ)). decl.Dummies 0 z.0.0 z.0.1 z.1) e) (λ c h. (tt, h.1))

shows_variables : (n : ℕ) → ShowsDeclaration (Made (λ (p : ℕ × (ValueKind × List Item)). decl.Variables p.0 p.1.0 p.1.1) (Lined (Both (KindForm ◂ Perhaps (Sign' sign.DoubleColon)) (Listed (ItemForm n)) ◂ End)))
shows_variables n = shows_form _ _ _ (told_both _ _ _ _ (told_after _ _ _ _ told_kind marked_colons) (told_listed _ _ (told_item n)))
    (λ a. tt) (λ c. refl) (λ a b e. ap (λ (z : ValueKind × List Item). decl.Variables 0 z.0 z.1) e) (λ c h. (tt, h.1))

module _ {A : Type 0} (g : ℕ × A → Decl) (w : Word) (P : A → List Token → List Token → Type 0) (p : A → Said) (h : Told P p) (said : (c : ℕ × A) → declaration_said (g c) ≡ what.Word w ∷ p c.1)
    (up : (a b : ℕ × A) → b.1 ≡ a.1 → unlined_declaration (g b) ≡ unlined_declaration (g a)) (row : (c : ℕ × A) → Each Printable (p c.1) → IsRow (declaration_said (g c))) where
  shows_word_form : ShowsDeclaration (Made g (Lined (Word' w ▸ (P ◂ End))))
  shows_word_form = shows_made g (λ (c : ℕ × A). c.1) unlined_declaration _ _ _ _ _
      (shows_lined (λ (a : A). a) _ _ _ (shows_before _ _ _ _ _ _ (stands_word w) (shows_after _ _ _ _ _ _ (shows_told P p h) stands_end)) (λ a. tt))
      (λ c. ap (λ us. us ++ what.End ∷ []) (said c)) up row

shows_events : (n : ℕ) → ShowsDeclaration (Made (λ (p : ℕ × List Item). decl.Events p.0 p.1) (Lined (Word' word.Event ▸ (Sign' sign.DoubleColon ▸ Listed (ItemForm n)) ◂ End)))
shows_events n = shows_word_form _ word.Event _ _ (told_sign sign.DoubleColon _ _ (told_listed _ _ (told_item n)))
    (λ c. refl) (λ a b e. ap (λ (z : List Item). decl.Events 0 z) e) (λ c h. (tt, h))

shows_teams : ShowsDeclaration (Made (λ (p : ℕ × List (List ℕ)). decl.Teams p.0 p.1) (Lined (Word' word.Team ▸ (Sign' sign.DoubleColon ▸ Listed Name) ◂ End)))
shows_teams = shows_word_form _ word.Team _ _ (told_sign sign.DoubleColon _ _ (told_listed Name of_name told_name))
    (λ c. refl) (λ a b e. ap (λ (z : List (List ℕ)). decl.Teams 0 z) e) (λ c h. (tt, h))

shows_declaration : (n : ℕ) → ShowsDeclaration (Declaration n)
shows_declaration n = record { again = again; fine = fine }
  where
    again : (x : Decl) (ts rest : List Token) → Declaration n x ts rest → (front end : List Token) → whats front ≡ declaration_tokens x → (b : Decl) × (unlined_declaration b ≡ unlined_declaration x) × Declaration n b (front ++ end) end
    again x ts rest (parameters m) front end k = let one = (shows_parameters n).again x ts rest m front end k in (one.0, one.1, parameters one.2)
    again x ts rest (copointers m) front end k = let one = (shows_copointers n).again x ts rest m front end k in (one.0, one.1, copointers one.2)
    again x ts rest (dummies m) front end k = let one = (shows_dummies n).again x ts rest m front end k in (one.0, one.1, dummies one.2)
    again x ts rest (variables m) front end k = let one = (shows_variables n).again x ts rest m front end k in (one.0, one.1, variables one.2)
    again x ts rest (events m) front end k = let one = (shows_events n).again x ts rest m front end k in (one.0, one.1, events one.2)
    again x ts rest (teams m) front end k = let one = shows_teams.again x ts rest m front end k in (one.0, one.1, teams one.2)

    fine : (x : Decl) (ts rest : List Token) → Declaration n x ts rest → Each Fine (whats ts) → declaration_ok x × Each Fine (whats rest)
    fine x ts rest (parameters m) k = (shows_parameters n).fine x ts rest m k
    fine x ts rest (copointers m) k = (shows_copointers n).fine x ts rest m k
    fine x ts rest (dummies m) k = (shows_dummies n).fine x ts rest m k
    fine x ts rest (variables m) k = (shows_variables n).fine x ts rest m k
    fine x ts rest (events m) k = (shows_events n).fine x ts rest m k
    fine x ts rest (teams m) k = shows_teams.fine x ts rest m k

-- ---- bodies

abbrev Part : Type 0
Part = List Decl × List Stmt

abbrev part_tokens : ℕ → Part → Said
part_tokens i c = flat_map declaration_tokens c.0 ++ block_tokens i c.1

abbrev part_ok : ℕ → Part → Type 0
part_ok i c = Each declaration_ok c.0 × block_ok i c.1

abbrev kept_part : Part → Part
kept_part c = (map unlined_declaration c.0, map unlined_statement c.1)

stands_implicit : Stands ImplicitNone []
stands_implicit = record { made = λ front end s. inr (t.nothing front end s); past = past }
  where
    past : (ts rest : List Token) → ImplicitNone tt ts rest → Each Fine (whats ts) → Each Fine (whats rest)
    past ts rest (inl m) k = (t.taken what.End m.2.0 rest m.2.2 (t.taken (what.Word word.None) m.0 m.2.0 m.2.1 (t.taken (what.Word word.Implicit) ts m.0 m.1 k).1).1).1
    past ts rest (inr m) k = subst (λ us. Each Fine (whats us)) m k

shows_body : (n i : ℕ) → Shows kept_part (Body n) (part_tokens i) (part_ok i)
shows_body n i = shows_before _ _ _ _ _ _ stands_implicit (shows_both (map unlined_declaration) (map unlined_statement) _ _ _ _ _ _ (shows_many unlined_declaration _ _ _ (shows_declaration n)) (shows_statements n i))

declarations_rows : (i : ℕ) (l : List Decl) → row_tokens (flat_map (λ (d : Decl). (i, declaration_said d) ∷ []) l) ≡ flat_map declaration_tokens l
declarations_rows i [] = refl
declarations_rows i (d ∷ l) = ap (λ us. declaration_tokens d ++ us) (declarations_rows i l)

declarations_lines : (i : ℕ) (l : List Decl) → i ≤ 40 → Each declaration_ok l → Each IsLine (flat_map (λ (d : Decl). (i, declaration_said d) ∷ []) l)
declarations_lines i [] fits h = tt
declarations_lines i (d ∷ l) fits h = ((fits, h.0), declarations_lines i l fits h.1)

body_rows : (i : ℕ) (c : Part) → row_tokens (body_said i c.0 c.1) ≡ part_tokens i c
body_rows i c = rows_append (flat_map (λ (d : Decl). (i, declaration_said d) ∷ []) c.0) (statements_said i c.1)
    ∙ ap (λ us. us ++ row_tokens (statements_said i c.1)) (declarations_rows i c.0)
    ∙ ap (λ us. flat_map declaration_tokens c.0 ++ us) (rows_flat (λ (st : Stmt). lines_at i (shown st)) c.1)

body_lines : (i : ℕ) (c : Part) → i ≤ 40 → part_ok i c → Each IsLine (body_said i c.0 c.1)
body_lines i c fits h = each_append IsLine (flat_map (λ (d : Decl). (i, declaration_said d) ∷ []) c.0) (statements_said i c.1) (declarations_lines i c.0 fits h.0) (each_flat (λ (st : Stmt). lines_at i (shown st)) c.1 (all_fit c.1 h.1))
  where
    all_fit : (l : List Stmt) → block_ok i l → Each (λ (st : Stmt). Each IsLine (lines_at i (shown st))) l
    all_fit [] k = tt
    all_fit (st ∷ l) k = (k.0 fits, all_fit l k.1)

-- ---- the ends of parts

stands_end_of : (w together : Word) (name : List ℕ) → Stands (EndOf w together name) (end_said w)
stands_end_of w together name = record { made = made; past = past }
  where
    made : (front end : List Token) → whats front ≡ end_said w → EndOf w together name tt (front ++ end) end
    made front end s =
        let (g, m, k) = t.head front (what.Word word.End) (what.Word w ∷ []) end s in
        inl (g ++ end, m, inl (end, t.takes g end (what.Word w) k, inr refl))

    past_name : (ts rest : List Token) → Perhaps (Called name) tt ts rest → Each Fine (whats ts) → Each Fine (whats rest)
    past_name ts rest (inl m) k = (t.taken (what.Name name) ts rest m k).1
    past_name ts rest (inr m) k = subst (λ us. Each Fine (whats us)) m k

    past_word : (ts rest : List Token) → Perhaps (Word' w ▸ Perhaps (Called name)) tt ts rest → Each Fine (whats ts) → Each Fine (whats rest)
    past_word ts rest (inl m) k = past_name m.0 rest m.2 (t.taken (what.Word w) ts m.0 m.1 k).1
    past_word ts rest (inr m) k = subst (λ us. Each Fine (whats us)) m k

    past : (ts rest : List Token) → EndOf w together name tt ts rest → Each Fine (whats ts) → Each Fine (whats rest)
    past ts rest (inl m) k = past_word m.0 rest m.2 (t.taken (what.Word word.End) ts m.0 m.1 k).1
    past ts rest (inr m) k = past_name m.0 rest m.2 (t.taken (what.Word together) ts m.0 m.1 k).1

shows_closed : {A C : Type 0} (u : A → C) (D : A → Unit {0} → List Token → List Token → Type 0) (P : A → List Token → List Token → Type 0) (p : A → Said) (d : Said) (f : A → Type 0)
    → Shows u P p f → ((a : A) → Stands (D a) d) → Shows u (Closed D P) (λ a. p a ++ d) f
shows_closed u D P p d f h k = record {
  again = λ c ts rest m front end s.
      let (x, y, e, a, b) = t.split front (p c) d s in
      let one = h.again c ts m.0 m.1 x (y ++ end) a in
      (one.0, one.1, (y ++ end, t.joined P one.0 front x y end e one.2, (k one.0).made y end b));
  fine = λ c ts rest m e.
      let one = h.fine c ts m.0 m.1 e in
      (one.0, (k c).past m.0 rest m.2 one.1);
}

-- ---- subroutines

abbrev Names : Type 0
Names = List ℕ × List (List ℕ)

abbrev heading_said : Names → Said
heading_said c = what.Name c.0 ∷ perhaps_list of_name c.1

shows_heading : (n : ℕ) → Shows (λ (c : Names). c) (Heading n) (λ c. heading_said c ++ what.End ∷ []) (λ c. Each Printable (heading_said c))
shows_heading n = shows_after _ _ _ _ _ _ (shows_told _ heading_said (told_both _ _ _ _ told_name (told_perhaps_list (λ _. Listed Name) of_name (λ _. told_listed Name of_name told_name) n))) stands_end

abbrev sub_tokens : Sub → Said
sub_tokens f = row_tokens (sub_said f)

abbrev sub_ok : Sub → Type 0
sub_ok f = Each IsLine (sub_said f)

low : ℕ
low = deeper 0

abbrev SubParts : Type 0
SubParts = ℕ × (Names × Part)

-- the parts of a subroutine, as the form has them
abbrev closed_said : Said → Said → Word → Said
closed_said front inner w = (((front ++ what.End ∷ []) ++ inner) ++ end_said w) ++ what.End ∷ []

closed_rows : (i j : ℕ) (front : Said) (inner : List SaidLine) (w : Word) → row_tokens ((i, front) ∷ (inner ++ (j, end_said w) ∷ [])) ≡ closed_said front (row_tokens inner) w
closed_rows i j front inner w =
    ap (λ us. (front ++ what.End ∷ []) ++ us) (rows_append inner ((j, end_said w) ∷ []))
    ∙ sym (append_assoc (front ++ what.End ∷ []) (row_tokens inner) (what.Word word.End ∷ what.Word w ∷ what.End ∷ []))
    ∙ sym (append_assoc ((front ++ what.End ∷ []) ++ row_tokens inner) (end_said w) (what.End ∷ []))

sub_same : (p : SubParts) → sub_tokens (sub_of p) ≡ closed_said (what.Word word.Subroutine ∷ heading_said p.1.0) (part_tokens (deeper (deeper 0)) p.1.1) word.Subroutine
sub_same p = closed_rows (deeper 0) (deeper 0) (what.Word word.Subroutine ∷ heading_said p.1.0) (body_said (deeper (deeper 0)) p.1.1.0 p.1.1.1) word.Subroutine
    ∙ ap (λ us. closed_said (what.Word word.Subroutine ∷ heading_said p.1.0) us word.Subroutine) (body_rows (deeper (deeper 0)) p.1.1)

sub_good : (p : SubParts) → Each Printable (heading_said p.1.0) × part_ok (deeper (deeper 0)) p.1.1 → sub_ok (sub_of p)
sub_good p h = ((deeper_fits 0, (tt, h.0)), each_append IsLine (body_said (deeper (deeper 0)) p.1.1.0 p.1.1.1) ((deeper 0, end_said word.Subroutine) ∷ []) (body_lines (deeper (deeper 0)) p.1.1 (deeper_fits (deeper 0)) h.1) (end_line word.Subroutine (deeper 0) (deeper_fits 0)))

shows_sub : (n : ℕ) → Shows unlined_sub (SubForm n) sub_tokens sub_ok
shows_sub n = shows_made sub_of (λ (p : SubParts). (p.1.0, kept_part p.1.1)) unlined_sub _ _ _ _ _
    (shows_lined (λ (c : Names × Part). (c.0, kept_part c.1)) _ _ _ (shows_before _ _ _ _ _ _ (stands_word word.Subroutine) (shows_after _ _ _ _ _ _
    (shows_closed _ _ _ _ _ _ (shows_both (λ (c : Names). c) kept_part _ _ _ _ _ _ (shows_heading n) (shows_body n (deeper (deeper 0)))) (λ a. stands_end_of word.Subroutine word.EndSubroutine a.0.0)) stands_end)) (λ a. tt))
    sub_same
    (λ a b e. ap (λ (z : Names × Part). sub_of (0, z)) e)
    sub_good

abbrev subs_tokens : List Sub → Said
subs_tokens l = row_tokens (subs_said l)

abbrev subs_ok : List Sub → Type 0
subs_ok l = Each IsLine (subs_said l)

empty_apart : (x : Sub) (others : List Sub) → x ∷ others ≡ [] → ⊥
empty_apart x others e = cc

contains_rows : (f : Sub) (others : List Sub) → subs_tokens (f ∷ others) ≡ what.Word word.Contains ∷ what.End ∷ flat_map sub_tokens (f ∷ others)
contains_rows f others = ap (λ us. what.Word word.Contains ∷ what.End ∷ us) (rows_flat sub_said (f ∷ others))

subs_good : (l : List Sub) → Each sub_ok l → subs_ok l
subs_good [] h = tt
subs_good (f ∷ others) h = ((zero_fits, (tt, tt)), each_flat sub_said (f ∷ others) h)
  where
    zero_fits : 0 ≤ 40
    zero_fits = omega arith

shows_subs : (n : ℕ) → Shows (map unlined_sub) (SubsForm n) subs_tokens subs_ok
shows_subs n = record { again = again; fine = fine }
  where
    inner : Shows (map unlined_sub) (Word' word.Contains ▸ (End ▸ Many (SubForm n))) (λ l. what.Word word.Contains ∷ what.End ∷ flat_map sub_tokens l) (Each sub_ok)
    inner = shows_before _ _ _ _ _ _ (stands_word word.Contains) (shows_before _ _ _ _ _ _ stands_end (shows_many unlined_sub _ _ _ (shows_sub n)))

    again : (l : List Sub) (ts rest : List Token) → SubsForm n l ts rest → (front end : List Token) → whats front ≡ subs_tokens l → (b : List Sub) × (map unlined_sub b ≡ map unlined_sub l) × SubsForm n b (front ++ end) end
    again [] ts rest m front end s = ([], refl, (None, refl, t.nothing front end s))
    again (f ∷ others) ts rest (None, e, m) front end s = absurd (empty_apart f others e)
    again (f ∷ others) ts rest (Some items, e, m) front end s =
        let one = inner.again (f ∷ others) ts rest (subst (λ us. (Word' word.Contains ▸ (End ▸ Many (SubForm n))) us ts rest) (sym e) m) front end (s ∙ contains_rows f others) in
        (one.0, one.1, (Some one.0, refl, one.2))

    fine : (l : List Sub) (ts rest : List Token) → SubsForm n l ts rest → Each Fine (whats ts) → subs_ok l × Each Fine (whats rest)
    fine l ts rest (None, e, m) k = (subst subs_ok (sym e) tt, subst (λ us. Each Fine (whats us)) m k)
    fine l ts rest (Some items, e, m) k =
        let one = inner.fine items ts rest m k in
        (subst subs_ok (sym e) (subs_good items one.0), one.1)

-- ---- units

abbrev Parts' : Type 0
Parts' = (List ℕ × Part) × List Sub

abbrev whole_said : Parts' → Said
whole_said c = ((((what.Word word.Program ∷ what.Name c.0.0 ∷ what.End ∷ []) ++ part_tokens (deeper 0) c.0.1) ++ subs_tokens c.1) ++ end_said word.Program) ++ what.End ∷ []

unit_same : (c : Parts') → row_tokens (unit_said (program_of c)) ≡ whole_said c
unit_same c =
    let front = what.Word word.Program ∷ what.Name c.0.0 ∷ [] in
    let body = body_said (deeper 0) c.0.1.0 c.0.1.1 in
    closed_rows 0 0 front (body ++ subs_said c.1) word.Program
    ∙ ap (λ us. closed_said front us word.Program) (rows_append body (subs_said c.1) ∙ ap (λ us. us ++ subs_tokens c.1) (body_rows (deeper 0) c.0.1))
    ∙ ap (λ us. (us ++ end_said word.Program) ++ what.End ∷ []) (sym (append_assoc (front ++ what.End ∷ []) (part_tokens (deeper 0) c.0.1) (subs_tokens c.1)))

unit_good : (c : Parts') → (Each Printable (of_name c.0.0) × part_ok (deeper 0) c.0.1) × subs_ok c.1 → Each IsLine (unit_said (program_of c))
unit_good c h =
    let body = body_said (deeper 0) c.0.1.0 c.0.1.1 in
    ((zero_fits, (tt, h.0.0)), each_append IsLine (body ++ subs_said c.1) ((0, end_said word.Program) ∷ []) (each_append IsLine body (subs_said c.1) (body_lines (deeper 0) c.0.1 (deeper_fits 0) h.0.1) h.1) (end_line word.Program 0 zero_fits))
  where
    zero_fits : 0 ≤ 40
    zero_fits = omega arith

pub shows_unit : (n : ℕ) → Shows unlined (UnitForm n) (λ u. row_tokens (unit_said u)) (λ u. Each IsLine (unit_said u))
shows_unit n = shows_made program_of (λ (c : Parts'). ((c.0.0, kept_part c.0.1), map unlined_sub c.1)) unlined _ _ _ _ _
    (shows_before _ _ _ _ _ _ (stands_word word.Program) (shows_after _ _ _ _ _ _
    (shows_closed _ _ _ _ _ _ (shows_both (λ (c : List ℕ × Part). (c.0, kept_part c.1)) (map unlined_sub) _ _ _ _ _ _
    (shows_both (λ (x : List ℕ). x) kept_part _ _ _ _ _ _ (shows_after _ _ _ _ _ _ (shows_told Name of_name told_name) stands_end) (shows_body n (deeper 0))) (shows_subs n)) (λ a. stands_end_of word.Program word.EndProgram a.0.0)) stands_end))
    unit_same
    (λ a b e. ap program_of e)
    unit_good
