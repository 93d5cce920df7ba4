-- The forms of statements, whose blocks hold statements again.
use Rattle.std.proofs.Common.{◌≡◌, ℕ, zero, suc, ◌≤◌, Bool, true, false, List, [], ◌∷◌, ◌++◌, map, Option, Some, None, ◌⊎◌, inl, inr, refl, ap, sym, ◌∙◌, subst, append_assoc}
use Rattle.std.specs.List.{flat_map}
use Rattle.std.proofs.lemmas.List.{append-nil}
use Rattle.caf_lexer.specs.declared.token.Token.{Token}
use Rattle.caf_lexer.specs.declared.token.What.{What}
use Rattle.caf_lexer.specs.declared.token.What.TheVariants as what
use Rattle.caf_lexer.specs.declared.token.Sign.TheVariants as sign
use Rattle.caf_lexer.specs.declared.token.Word.{Word}
use Rattle.caf_lexer.specs.declared.token.Word.TheVariants as word
use Rattle.caf_tree.specs.declared.expr.Team.{Team}
use Rattle.caf_tree.specs.declared.expr.Expr.{Expr}
use Rattle.caf_tree.specs.declared.stmt.Simple.{Simple}
use Rattle.caf_tree.specs.declared.stmt.Stmt.{Stmt}
use Rattle.caf_tree.specs.declared.stmt.Stmt.TheVariants as stmt
use Rattle.caf_tree.specs.Forms.{Takes, End, Word', Sign', Name, Both, Made, Maybe, Many, Either, ◌▸◌, ◌◂◌, Joined, or_none, InParentheses, Lined}
use Rattle.caf_tree.specs.Expressions.{Inner, Expression, TeamForm, or_world, team_what}
use Rattle.caf_tree.specs.Statements.{SimpleForm, Branches, if_at, EndDo, EndIf, EndFinish, Condition, Rest, BranchesIn, Guarded, Counted, Statement, simple, if_line, if_block, counted, while_true, finish, InnerBlock, InnerBranches, StatementsForm}
use Rattle.caf_tree.specs.Said.{SaidLine, Shown, lines_at, end_said, with_block, else_lines, condition_said, shown, deeper, if_any, in_parentheses, comma, finish_team, expression_said, simple_said}
use Rattle.caf_tree.specs.Unlined.{unlined_statement}
use Rattle.caf_printer.proofs.Printable.{Said, whats, Printable, Fine, Each, each_append}
use Rattle.caf_printer.proofs.Told as t
use Rattle.caf_printer.proofs.Told.{Told, told_name, told_both, told_sign, told_maybe, told_parentheses}
use Rattle.caf_printer.proofs.Expressions.{told_inner, told_expression, told_team, told_world}
use Rattle.caf_printer.proofs.Parts.{told_simple}
use Rattle.caf_printer.proofs.Rows.{IsRow, IsLine}
use Rattle.caf_printer.proofs.Shows.{Shows, Stands, stands_end, stands_word, stands_joined, shows_told, shows_both, shows_before, shows_after, shows_made, shows_lined, shows_many, IsSome, row_tokens}
use Rattle.caf_printer.proofs.Blocks.{statement_tokens, statement_ok, block_tokens, block_ok, else_tokens, else_ok, branch_tokens, branch_ok, kept_branches, shown-simple, shown-line, shown-if, counted_said, shown-do, shown-while, shown-finish, unlined-simple, unlined-line, unlined-if, unlined-do, unlined-while, unlined-finish, around, block_statement, block_statement_ok, simple_row, simple_some, some_more, if_rows, else_if_rows, if_ok, else_items_ok, else_said, else_one_rows, else_more_rows, end_line}

told_condition : (n : ℕ) → Told (Condition n) condition_said
told_condition n = told_parentheses (Inner n) expression_said (told_inner n)

told_finish_team : Told (Made or_world (Maybe (InParentheses TeamForm))) finish_team
told_finish_team = told_world (InParentheses TeamForm) _ finish_team (told_parentheses TeamForm _ told_team) refl (λ x. refl)

abbrev Counts : Type 0
Counts = (List ℕ × Expr) × (Expr × Option Expr)

abbrev counts_said : Counts → Said
counts_said c = (what.Name c.0.0 ∷ what.Sign sign.Assign ∷ expression_said c.0.1) ++ what.Sign sign.Comma ∷ (expression_said c.1.0 ++ if_any (λ e. comma (expression_said e)) c.1.1)

told_counts : (n : ℕ) → Told (Both (Both Name (Sign' sign.Assign ▸ Expression n)) (Sign' sign.Comma ▸ Both (Expression n) (Maybe (Sign' sign.Comma ▸ Expression n)))) counts_said
told_counts n = told_both _ _ _ _ (told_both _ _ _ _ told_name (told_sign sign.Assign _ _ (told_expression n)))
    (told_sign sign.Comma _ _ (told_both _ _ _ _ (told_expression n) (told_maybe _ _ (told_sign sign.Comma _ _ (told_expression n)))))

counts_same : (c : Counts) → counted_said c.0.0 c.0.1 c.1.0 c.1.1 ≡ what.Word word.Do ∷ counts_said c
counts_same c = append_assoc (what.Word word.Do ∷ what.Name c.0.0 ∷ what.Sign sign.Assign ∷ expression_said c.0.1) (comma (expression_said c.1.0)) (if_any (λ e. comma (expression_said e)) c.1.1)

-- what a statement alone in a block is: an `if` with branches that are spelled, or no such
abbrev Kinds : (Branches → List Token → List Token → Type 0) → Stmt → Type 0
Kinds I one = ((b : ℕ × Branches) × (ts : List Token) × (rest : List Token) × (one ≡ if_at b) × I b.1 ts rest) ⊎ ((shown one).is_branching ≡ false)

empty_apart : (x : Stmt) (others : List Stmt) → x ∷ others ≡ [] → ⊥
empty_apart x others e = cc

first_is : (x y : Stmt) → ◌≡◌ {A = List Stmt} (x ∷ []) (y ∷ []) → x ≡ y
first_is x y e = cc

more_apart : (x y z : Stmt) (others : List Stmt) → ◌≡◌ {A = List Stmt} (x ∷ y ∷ others) (z ∷ []) → ⊥
more_apart x y z others e = cc

module _ (n : ℕ) (B : List Stmt → List Token → List Token → Type 0) (I : Branches → List Token → List Token → Type 0)
    (hB : (i : ℕ) → Shows (map unlined_statement) B (block_tokens i) (block_ok i))
    (hI : (i : ℕ) → Shows kept_branches I (branch_tokens i) (branch_ok i))
    (kinds : (one : Stmt) (ts rest : List Token) → B (one ∷ []) ts rest → Kinds I one) where
  abbrev RestForm : List Stmt → List Token → List Token → Type 0
  RestForm = Rest n B I

  -- a list that is spelled again
  abbrev Again : List Stmt → List Token → List Token → Type 0
  Again l front end = (b : List Stmt) × (map unlined_statement b ≡ map unlined_statement l) × RestForm b (front ++ end) end

  again_if : (i : ℕ) (b : ℕ × Branches) (ts rest : List Token) → I b.1 ts rest → (front end : List Token) → whats front ≡ else_tokens i (if_at b ∷ []) → Again (if_at b ∷ []) front end
  again_if i b ts rest m [] end s = absurd (let z : ◌≡◌ {A = Said} [] (what.Word word.Else ∷ what.Word word.If ∷ branch_tokens i b.1) = s ∙ else_if_rows i b in cc)
  again_if i b ts rest m (first ∷ front) end s =
      let k : ◌≡◌ {A = Said} (first.what ∷ whats front) (what.Word word.Else ∷ what.Word word.If ∷ branch_tokens i b.1) = s ∙ else_if_rows i b in
      let e : first.what ≡ what.Word word.Else = cc in
      let more : whats front ≡ what.Word word.If ∷ branch_tokens i b.1 = cc in
      let (g, takes, left) = t.head front (what.Word word.If) (branch_tokens i b.1) end more in
      let one = (hI i).again b.1 ts rest m g end left in (
        if_at (first.line, one.0) ∷ [],
        ap (λ (st : Stmt). st ∷ []) (unlined-if (first.line, one.0) ∙ ap (λ (k : Branches). if_at (0, k)) one.1 ∙ sym (unlined-if b)),
        inl ((first.line, one.0), refl, (refl, (g ++ end, inl (front ++ end, (e, refl), takes), one.2))),
      )

  abbrev WithElse : List Stmt → List Token → List Token → Type 0
  WithElse = (Word' word.Else ▸ (End ▸ B)) ◂ EndIf ◂ End

  shows_else : (i : ℕ) → Shows (map unlined_statement) WithElse (else_said i) (block_ok (deeper i))
  shows_else i = shows_after _ _ _ _ _ _ (shows_after _ _ _ _ _ _ (shows_before _ _ _ _ _ _ (stands_word word.Else) (shows_before _ _ _ _ _ _ stands_end (hB (deeper i)))) (stands_joined word.End word.If word.EndIf)) stands_end

  again_else : (i : ℕ) (l : List Stmt) (ts rest : List Token) → WithElse l ts rest → (front end : List Token) → whats front ≡ else_said i l → Again l front end
  again_else i l ts rest m front end k =
      let one = (shows_else i).again l ts rest m front end k in
      (one.0, one.1, inr (one.2.0, (one.2.1.0, (Some one.0, refl, one.2.1.1), one.2.1.2), one.2.2))

  again_end : (front end : List Token) → whats front ≡ what.Word word.End ∷ what.Word word.If ∷ what.End ∷ [] → Again [] front end
  again_end front end k =
      let (x, y, e, a, b) = t.split front (what.Word word.End ∷ what.Word word.If ∷ []) (what.End ∷ []) k in
      ([], refl, inr (y ++ end, (front ++ end, (None, refl, refl), t.joined EndIf tt front x y end e ((stands_joined word.End word.If word.EndIf).made x (y ++ end) a)), stands_end.made y end b))

  behind_mark : (D : Unit {0} → List Token → List Token → Type 0) (b : ℕ × Branches) (ts rest : List Token) → Lined (D ▸ I) b ts rest → (mid : List Token) × I b.1 mid rest
  behind_mark D b [] rest m = absurd m
  behind_mark D b (t ∷ ts) rest m = (m.1.0, m.1.2)

  again_one : (i : ℕ) (one : Stmt) → Kinds I one → (ts rest : List Token) → WithElse (one ∷ []) ts rest → (front end : List Token) → whats front ≡ else_tokens i (one ∷ []) → Again (one ∷ []) front end
  again_one i one (inl k) ts rest m front end z =
      subst (λ (st : Stmt). Again (st ∷ []) front end) (sym k.3) (again_if i k.0 k.1 k.2 k.4 front end (z ∙ ap (λ (st : Stmt). else_tokens i (st ∷ [])) k.3))
  again_one i one (inr k) ts rest m front end z = again_else i (one ∷ []) ts rest m front end (z ∙ else_one_rows i one k)

  with_else : (l items : List Stmt) (ts rest mid low : List Token) → l ≡ items → (Word' word.Else ▸ (End ▸ B)) items ts low → EndIf tt low mid → End tt mid rest → WithElse l ts rest
  with_else l items ts rest mid low e m f g = subst (λ us. WithElse us ts rest) (sym e) (mid, (low, m, f), g)

  rest_again : (i : ℕ) (l : List Stmt) (ts rest : List Token) → RestForm l ts rest → (front end : List Token) → whats front ≡ else_tokens i l → Again l front end
  rest_again i [] ts rest m front end z = again_end front end z
  rest_again i (one ∷ []) ts rest (inl m) front end z =
      let e : one ≡ if_at m.0 = first_is one (if_at m.0) m.1 in
      let (mid, k) = behind_mark (Joined word.Else word.If word.ElseIf) m.0 ts rest m.2 in
      subst (λ (st : Stmt). Again (st ∷ []) front end) (sym e) (again_if i m.0 mid rest k front end (z ∙ ap (λ (st : Stmt). else_tokens i (st ∷ [])) e))
  rest_again i (one ∷ []) ts rest (inr (mid, (low, (None, e, m), f), g)) front end z = absurd (empty_apart one [] e)
  rest_again i (one ∷ []) ts rest (inr (mid, (low, (Some items, e, m), f), g)) front end z =
      again_one i one (kinds one m.2.0 low (subst (λ us. B us m.2.0 low) (sym e) m.2.2)) ts rest (with_else (one ∷ []) items ts rest mid low e m f g) front end z
  rest_again i (one ∷ second ∷ more) ts rest (inl m) front end z = absurd (more_apart one second (if_at m.0) more m.1)
  rest_again i (one ∷ second ∷ more) ts rest (inr (mid, (low, (None, e, m), f), g)) front end z = absurd (empty_apart one (second ∷ more) e)
  rest_again i (one ∷ second ∷ more) ts rest (inr (mid, (low, (Some items, e, m), f), g)) front end z =
      again_else i (one ∷ second ∷ more) ts rest (with_else (one ∷ second ∷ more) items ts rest mid low e m f g) front end (z ∙ else_more_rows i one second more)

  past_end : (ts rest mid : List Token) → EndIf tt ts mid → End tt mid rest → Each Fine (whats ts) → Each Fine (whats rest)
  past_end ts rest mid f g k = stands_end.past mid rest g ((stands_joined word.End word.If word.EndIf).past ts mid f k)

  else_if_fine : (b : ℕ × Branches) (i : ℕ) (ts rest : List Token) → Lined (Joined word.Else word.If word.ElseIf ▸ I) b ts rest → Each Fine (whats ts) → branch_ok i b.1 × Each Fine (whats rest)
  else_if_fine b i [] rest m k = absurd m
  else_if_fine b i (t ∷ ts) rest m k = (hI i).fine b.1 m.1.0 rest m.1.2 ((stands_joined word.Else word.If word.ElseIf).past (t ∷ ts) m.1.0 m.1.1 k)

  else_branch_ok : (i : ℕ) (b : ℕ × Branches) → branch_ok i b.1 → branch_ok (deeper i) b.1 → else_ok i (if_at b ∷ [])
  else_branch_ok i b h k = else_items_ok i (if_at b ∷ []) (if_ok i b h, tt) (if_ok (deeper i) b k, tt)

  rest_fine : (i : ℕ) (l : List Stmt) (ts rest : List Token) → RestForm l ts rest → Each Fine (whats ts) → else_ok i l × Each Fine (whats rest)
  rest_fine i l ts rest (inl m) k =
      let one = else_if_fine m.0 i ts rest m.2 k in
      let two = else_if_fine m.0 (deeper i) ts rest m.2 k in
      (subst (else_ok i) (sym m.1) (else_branch_ok i m.0 one.0 two.0), one.1)
  rest_fine i l ts rest (inr (mid, (low, (None, e, m), f), g)) k =
      (subst (else_ok i) (sym e) (λ fits. end_line word.If i fits), past_end low rest mid f g (subst (λ us. Each Fine (whats us)) m k))
  rest_fine i l ts rest (inr (mid, (low, (Some items, e, m), f), g)) k =
      let x = (stands_word word.Else).past ts m.0 m.1 k in
      let y = stands_end.past m.0 m.2.0 m.2.1 x in
      let one = (hB i).fine items m.2.0 low m.2.2 y in
      let two = (hB (deeper i)).fine items m.2.0 low m.2.2 y in
      (subst (else_ok i) (sym e) (else_items_ok i items one.0 two.0), past_end low rest mid f g one.1)

  shows_rest : (i : ℕ) → Shows (map unlined_statement) RestForm (else_tokens i) (else_ok i)
  shows_rest i = record { again = rest_again i; fine = rest_fine i }

  pub shows_branches : (i : ℕ) → Shows kept_branches (BranchesIn n B I) (branch_tokens i) (branch_ok i)
  shows_branches i = shows_both (λ (e : Expr). e) (λ (c : List Stmt × List Stmt). (map unlined_statement c.0, map unlined_statement c.1)) _ _ _ _ _ _
      (shows_told (Condition n) condition_said (told_condition n))
      (shows_before _ _ _ _ _ _ (stands_word word.Then) (shows_before _ _ _ _ _ _ stands_end (shows_both (map unlined_statement) (map unlined_statement) _ _ _ _ _ _ (hB (deeper i)) (shows_rest i))))

  -- ---- statements

  abbrev Statements' : Type 1
  Statements' = Stmt → List Token → List Token → Type 0

  abbrev ShowsStatement : ℕ → Statements' → Type 0
  ShowsStatement i P = Shows unlined_statement P (statement_tokens i) (statement_ok i)

  shows_simple : (i : ℕ) → ShowsStatement i (Made (λ (p : ℕ × Simple). stmt.Simple p.0 p.1) (Lined (SimpleForm n ◂ End)))
  shows_simple i = shows_made (λ (p : ℕ × Simple). stmt.Simple p.0 p.1) (λ (p : ℕ × Simple). p.1) unlined_statement _ _ _ _ _
      (shows_lined (λ (a : Simple). a) _ _ _ (shows_after _ _ _ _ _ _ (shows_told (SimpleForm n) simple_said (told_simple n)) stands_end) (λ a. some_more (simple_said a) (what.End ∷ []) (simple_some a)))
      (λ p. ap (λ (z : Shown). row_tokens (lines_at i z)) (shown-simple p.0 p.1) ∙ append-nil (simple_said p.1 ++ what.End ∷ []))
      (λ a b e. unlined-simple b.0 b.1 ∙ ap (λ (z : Simple). stmt.Simple 0 z) e ∙ sym (unlined-simple a.0 a.1))
      (λ p h fits. subst (λ (z : Shown). Each IsLine (lines_at i z)) (sym (shown-simple p.0 p.1)) ((fits, simple_row p.1 h), tt))

  shows_guarded : (i : ℕ) → ShowsStatement i (Made (λ (p : ℕ × (Expr × (ℕ × Simple))). stmt.IfLine p.0 p.1.0 p.1.1.0 p.1.1.1) (Lined (Word' word.If ▸ Guarded n B I)))
  shows_guarded i = shows_made (λ (p : ℕ × (Expr × (ℕ × Simple))). stmt.IfLine p.0 p.1.0 p.1.1.0 p.1.1.1) (λ (p : ℕ × (Expr × (ℕ × Simple))). (p.1.0, p.1.1.1)) unlined_statement _ _ _ _ _
      (shows_lined (λ (c : Expr × (ℕ × Simple)). (c.0, c.1.1)) _ _ _ (shows_before _ _ _ _ _ _ (stands_word word.If) (shows_after _ _ _ _ _ _
      (shows_both (λ (e : Expr). e) (λ (c : ℕ × Simple). c.1) _ _ _ _ _ _ (shows_told (Condition n) condition_said (told_condition n)) (shows_lined (λ (a : Simple). a) _ _ _ (shows_told (SimpleForm n) simple_said (told_simple n)) simple_some)) stands_end)) (λ a. tt))
      (λ p. ap (λ (z : Shown). row_tokens (lines_at i z)) (shown-line p.0 p.1.0 p.1.1.0 p.1.1.1) ∙ append-nil (what.Word word.If ∷ ((condition_said p.1.0 ++ simple_said p.1.1.1) ++ what.End ∷ [])))
      (λ a b e. unlined-line b.0 b.1.0 b.1.1.0 b.1.1.1 ∙ ap (λ (z : Expr × Simple). stmt.IfLine 0 z.0 0 z.1) e ∙ sym (unlined-line a.0 a.1.0 a.1.1.0 a.1.1.1))
      (λ p h fits. subst (λ (z : Shown). Each IsLine (lines_at i z)) (sym (shown-line p.0 p.1.0 p.1.1.0 p.1.1.1)) ((fits, (tt, each_append Printable (condition_said p.1.0) (simple_said p.1.1.1) h.0 h.1)), tt))

  shows_if : (i : ℕ) → ShowsStatement i (Made if_at (Lined (Word' word.If ▸ BranchesIn n B I)))
  shows_if i = shows_made if_at (λ (p : ℕ × Branches). kept_branches p.1) unlined_statement _ _ _ _ _
      (shows_lined kept_branches _ _ _ (shows_before _ _ _ _ _ _ (stands_word word.If) (shows_branches i)) (λ a. tt))
      (λ p. if_rows i p)
      (λ a b e. unlined-if b ∙ ap (λ (z : Branches). if_at (0, z)) e ∙ sym (unlined-if a))
      (λ p h. if_ok i p h)

  shows_counted : (i : ℕ) → ShowsStatement i (Made (λ (p : ℕ × (Counts × List Stmt)). stmt.Do p.0 p.1.0.0.0 p.1.0.0.1 p.1.0.1.0 p.1.0.1.1 p.1.1) (Lined (Word' word.Do ▸ Counted n B I)))
  shows_counted i = shows_made (λ (p : ℕ × (Counts × List Stmt)). stmt.Do p.0 p.1.0.0.0 p.1.0.0.1 p.1.0.1.0 p.1.0.1.1 p.1.1) (λ (p : ℕ × (Counts × List Stmt)). (p.1.0, map unlined_statement p.1.1)) unlined_statement _ _ _ _ _
      (shows_lined (λ (c : Counts × List Stmt). (c.0, map unlined_statement c.1)) _ _ _ (shows_before _ _ _ _ _ _ (stands_word word.Do) (shows_after _ _ _ _ _ _ (shows_after _ _ _ _ _ _
      (shows_both (λ (c : Counts). c) (map unlined_statement) _ _ _ _ _ _ (shows_told _ counts_said (told_counts n)) (shows_before _ _ _ _ _ _ stands_end (hB (deeper i)))) (stands_joined word.End word.Do word.EndDo)) stands_end)) (λ a. tt))
      (λ p. ap (λ (z : Shown). row_tokens (lines_at i z)) (shown-do p.0 p.1.0.0.0 p.1.0.0.1 p.1.0.1.0 p.1.0.1.1 p.1.1)
      ∙ block_statement (counted_said p.1.0.0.0 p.1.0.0.1 p.1.0.1.0 p.1.0.1.1) word.Do i p.1.1 ∙ ap (λ us. around us word.Do i p.1.1) (counts_same p.1.0))
      (λ a b e. unlined-do b.0 b.1.0.0.0 b.1.0.0.1 b.1.0.1.0 b.1.0.1.1 b.1.1 ∙ ap (λ (z : Counts × List Stmt). stmt.Do 0 z.0.0.0 z.0.0.1 z.0.1.0 z.0.1.1 z.1) e ∙ sym (unlined-do a.0 a.1.0.0.0 a.1.0.0.1 a.1.0.1.0 a.1.0.1.1 a.1.1))
      (λ p h fits. subst (λ (z : Shown). Each IsLine (lines_at i z)) (sym (shown-do p.0 p.1.0.0.0 p.1.0.0.1 p.1.0.1.0 p.1.0.1.1 p.1.1))
      (block_statement_ok (counted_said p.1.0.0.0 p.1.0.0.1 p.1.0.1.0 p.1.0.1.1) word.Do i p.1.1 (subst IsRow (sym (counts_same p.1.0)) (tt, h.0)) h.1 fits))

  shows_while : (i : ℕ) → ShowsStatement i (Made (λ (p : ℕ × (Expr × List Stmt)). stmt.While p.0 p.1.0 p.1.1) (Lined (Word' word.Do ▸ (Word' word.While ▸ (Both (Condition n) (End ▸ B) ◂ EndDo ◂ End)))))
  shows_while i = shows_made (λ (p : ℕ × (Expr × List Stmt)). stmt.While p.0 p.1.0 p.1.1) (λ (p : ℕ × (Expr × List Stmt)). (p.1.0, map unlined_statement p.1.1)) unlined_statement _ _ _ _ _
      (shows_lined (λ (c : Expr × List Stmt). (c.0, map unlined_statement c.1)) _ _ _ (shows_before _ _ _ _ _ _ (stands_word word.Do) (shows_before _ _ _ _ _ _ (stands_word word.While) (shows_after _ _ _ _ _ _ (shows_after _ _ _ _ _ _
      (shows_both (λ (e : Expr). e) (map unlined_statement) _ _ _ _ _ _ (shows_told (Condition n) condition_said (told_condition n)) (shows_before _ _ _ _ _ _ stands_end (hB (deeper i)))) (stands_joined word.End word.Do word.EndDo)) stands_end))) (λ a. tt))
      (λ p. ap (λ (z : Shown). row_tokens (lines_at i z)) (shown-while p.0 p.1.0 p.1.1) ∙ block_statement (what.Word word.Do ∷ what.Word word.While ∷ condition_said p.1.0) word.Do i p.1.1)
      (λ a b e. unlined-while b.0 b.1.0 b.1.1 ∙ ap (λ (z : Expr × List Stmt). stmt.While 0 z.0 z.1) e ∙ sym (unlined-while a.0 a.1.0 a.1.1))
      (λ p h fits. subst (λ (z : Shown). Each IsLine (lines_at i z)) (sym (shown-while p.0 p.1.0 p.1.1)) (block_statement_ok (what.Word word.Do ∷ what.Word word.While ∷ condition_said p.1.0) word.Do i p.1.1 (tt, (tt, h.0)) h.1 fits))

  shows_finish : (i : ℕ) → ShowsStatement i (Made (λ (p : ℕ × (Team × List Stmt)). stmt.Finish p.0 p.1.0 p.1.1) (Lined (Word' word.Finish ▸ (Both (Made or_world (Maybe (InParentheses TeamForm))) (End ▸ B) ◂ EndFinish ◂ End))))
  shows_finish i = shows_made (λ (p : ℕ × (Team × List Stmt)). stmt.Finish p.0 p.1.0 p.1.1) (λ (p : ℕ × (Team × List Stmt)). (p.1.0, map unlined_statement p.1.1)) unlined_statement _ _ _ _ _
      (shows_lined (λ (c : Team × List Stmt). (c.0, map unlined_statement c.1)) _ _ _ (shows_before _ _ _ _ _ _ (stands_word word.Finish) (shows_after _ _ _ _ _ _ (shows_after _ _ _ _ _ _
      (shows_both (λ (e : Team). e) (map unlined_statement) _ _ _ _ _ _ (shows_told _ finish_team told_finish_team) (shows_before _ _ _ _ _ _ stands_end (hB (deeper i)))) (stands_joined word.End word.Finish word.EndFinish)) stands_end)) (λ a. tt))
      (λ p. ap (λ (z : Shown). row_tokens (lines_at i z)) (shown-finish p.0 p.1.0 p.1.1) ∙ block_statement (what.Word word.Finish ∷ finish_team p.1.0) word.Finish i p.1.1)
      (λ a b e. unlined-finish b.0 b.1.0 b.1.1 ∙ ap (λ (z : Team × List Stmt). stmt.Finish 0 z.0 z.1) e ∙ sym (unlined-finish a.0 a.1.0 a.1.1))
      (λ p h fits. subst (λ (z : Shown). Each IsLine (lines_at i z)) (sym (shown-finish p.0 p.1.0 p.1.1)) (block_statement_ok (what.Word word.Finish ∷ finish_team p.1.0) word.Finish i p.1.1 (tt, h.0) h.1 fits))

  pub shows_statement : (i : ℕ) → ShowsStatement i (Statement n B I)
  shows_statement i = record { again = again; fine = fine }
    where
      again : (x : Stmt) (ts rest : List Token) → Statement n B I x ts rest → (front end : List Token) → whats front ≡ statement_tokens i x → (b : Stmt) × (unlined_statement b ≡ unlined_statement x) × Statement n B I b (front ++ end) end
      again x ts rest (simple m) front end k = let one = (shows_simple i).again x ts rest m front end k in (one.0, one.1, simple one.2)
      again x ts rest (if_line m) front end k = let one = (shows_guarded i).again x ts rest m front end k in (one.0, one.1, if_line one.2)
      again x ts rest (if_block m) front end k = let one = (shows_if i).again x ts rest m front end k in (one.0, one.1, if_block one.2)
      again x ts rest (counted m) front end k = let one = (shows_counted i).again x ts rest m front end k in (one.0, one.1, counted one.2)
      again x ts rest (while_true m) front end k = let one = (shows_while i).again x ts rest m front end k in (one.0, one.1, while_true one.2)
      again x ts rest (finish m) front end k = let one = (shows_finish i).again x ts rest m front end k in (one.0, one.1, finish one.2)

      fine : (x : Stmt) (ts rest : List Token) → Statement n B I x ts rest → Each Fine (whats ts) → statement_ok i x × Each Fine (whats rest)
      fine x ts rest (simple m) k = (shows_simple i).fine x ts rest m k
      fine x ts rest (if_line m) k = (shows_guarded i).fine x ts rest m k
      fine x ts rest (if_block m) k = (shows_if i).fine x ts rest m k
      fine x ts rest (counted m) k = (shows_counted i).fine x ts rest m k
      fine x ts rest (while_true m) k = (shows_while i).fine x ts rest m k
      fine x ts rest (finish m) k = (shows_finish i).fine x ts rest m k

-- ---- the levels

lined_inner : {A : Type 0} (P : A → List Token → List Token → Type 0) (D : Unit {0} → List Token → List Token → Type 0) (b : ℕ × A) (ts rest : List Token) → Lined (D ▸ P) b ts rest → (mid : List Token) × P b.1 mid rest
lined_inner P D b [] rest m = absurd m
lined_inner P D b (t ∷ ts) rest m = (m.1.0, m.1.2)

kind_of : (n : ℕ) (B : List Stmt → List Token → List Token → Type 0) (I : Branches → List Token → List Token → Type 0) (one : Stmt) (ts rest : List Token) → Statement n B I one ts rest → Kinds (BranchesIn n B I) one
kind_of n B I one ts rest (simple m) = inr (ap (λ (z : Stmt). (shown z).is_branching) m.1 ∙ ap (λ (z : Shown). z.is_branching) (shown-simple m.0.0 m.0.1))
kind_of n B I one ts rest (if_line m) = inr (ap (λ (z : Stmt). (shown z).is_branching) m.1 ∙ ap (λ (z : Shown). z.is_branching) (shown-line m.0.0 m.0.1.0 m.0.1.1.0 m.0.1.1.1))
kind_of n B I one ts rest (if_block m) = let (mid, k) = lined_inner (BranchesIn n B I) (Word' word.If) m.0 ts rest m.2 in inl (m.0, mid, rest, m.1, k)
kind_of n B I one ts rest (counted m) = inr (ap (λ (z : Stmt). (shown z).is_branching) m.1 ∙ ap (λ (z : Shown). z.is_branching) (shown-do m.0.0 m.0.1.0.0.0 m.0.1.0.0.1 m.0.1.0.1.0 m.0.1.0.1.1 m.0.1.1))
kind_of n B I one ts rest (while_true m) = inr (ap (λ (z : Stmt). (shown z).is_branching) m.1 ∙ ap (λ (z : Shown). z.is_branching) (shown-while m.0.0 m.0.1.0 m.0.1.1))
kind_of n B I one ts rest (finish m) = inr (ap (λ (z : Stmt). (shown z).is_branching) m.1 ∙ ap (λ (z : Shown). z.is_branching) (shown-finish m.0.0 m.0.1.0 m.0.1.1))

pub record Level (n : ℕ) : Type 0 where
  pub block : (i : ℕ) → Shows (map unlined_statement) (InnerBlock n) (block_tokens i) (block_ok i)
  pub branches : (i : ℕ) → Shows kept_branches (InnerBranches n) (branch_tokens i) (branch_ok i)
  pub kinds : (one : Stmt) (ts rest : List Token) → InnerBlock n (one ∷ []) ts rest → Kinds (InnerBranches n) one

level : (n : ℕ) → Level n
level zero = record {
  block = λ i. record { again = λ a ts rest m. absurd m; fine = λ a ts rest m. absurd m };
  branches = λ i. record { again = λ a ts rest m. absurd m; fine = λ a ts rest m. absurd m };
  kinds = λ one ts rest m. absurd m;
}
level (suc n) =
    let h = level n in
    record {
      block = λ i. shows_many unlined_statement _ _ _ (shows_statement n (InnerBlock n) (InnerBranches n) h.block h.branches h.kinds i);
      branches = λ i. shows_branches n (InnerBlock n) (InnerBranches n) h.block h.branches h.kinds i;
      kinds = λ one ts rest m. kind_of n (InnerBlock n) (InnerBranches n) one ts m.0 m.1;
    }

pub shows_statements : (n i : ℕ) → Shows (map unlined_statement) (StatementsForm n) (block_tokens i) (block_ok i)
shows_statements n i =
    let h = level n in
    shows_many unlined_statement _ _ _ (shows_statement n (InnerBlock n) (InnerBranches n) h.block h.branches h.kinds i)
