-- The levels that a statement is spelled to are those that it is deep.
use Rattle.std.proofs.Common.{◌≡◌, ℕ, zero, suc, max, ◌≤◌, List, [], ◌∷◌, Option, Some, None, ◌⊎◌, inl, inr, refl, ap, sym, ◌∙◌, subst, map, arith}
use Rattle.caf_lexer.specs.declared.token.Token.{Token}
use Rattle.caf_lexer.specs.declared.token.Sign.TheVariants as sign
use Rattle.caf_lexer.specs.declared.token.Word.TheVariants as word
use Rattle.caf_tree.specs.declared.expr.Team.{Team}
use Rattle.caf_tree.specs.declared.expr.Expr.{Expr}
use Rattle.caf_tree.specs.declared.stmt.Simple.{Simple}
use Rattle.caf_tree.specs.declared.stmt.Stmt.{Stmt}
use Rattle.caf_tree.specs.declared.stmt.Stmt.TheVariants as stmt
use Rattle.caf_tree.specs.declared.stmt.Stmt.TheOpen.{Stmt-F}
use Rattle.caf_tree.specs.declared.stmt.Stmt.TheFolds.{fold-Stmt, fold-roll-Stmt}
use Rattle.caf_tree.specs.Forms.{Word', Sign', End, Name, ◌⨟◌, Both, Made, Either, Maybe, Many, ◌▸◌, ◌◂◌, Joined, or_none, InParentheses, Lined}
use Rattle.caf_tree.specs.Expressions.{TeamForm, Inner, Expression, or_world}
use Rattle.caf_tree.specs.Statements.{SimpleForm, Branches, if_at, EndDo, EndIf, EndFinish, Condition, Rest, BranchesIn, Guarded, Counted, Statement, simple, if_line, if_block, counted, while_true, finish, InnerBlock, InnerBranches, StatementsForm}
use Rattle.caf_tree.specs.Depth.{deepest, if_any, around, expression_depth, simple_depth, statement_layer, statement_depth}
use Rattle.caf_tree.proofs.Levels.{Levels, levels_flat, levels_both, levels_made, levels_as, levels_maybe, levels_many, levels_lead, levels_trail, levels_lined, levels_parens, levels_comma}
use Rattle.caf_tree.proofs.DepthOf.{deepest_map}
use Rattle.caf_tree.proofs.ExpressionLevels.{levels_inner, levels_expression}
use Rattle.caf_tree.proofs.SimpleLevels.{simple_levels}

-- ---- how deep a statement is, by its form

abbrev pub block_depth : List Stmt → ℕ
block_depth = deepest statement_depth

abbrev pub branch_depth : Branches → ℕ
branch_depth c = around (max (expression_depth c.0) (max (block_depth c.1.0) (block_depth c.1.1)))

simple_is : (l : ℕ) (a : Simple) → statement_depth (stmt.Simple l a) ≡ simple_depth a
simple_is l a = ap statement_depth (sym (stmt.rolls-Simple l a)) ∙ fold-roll-Stmt ℕ statement_layer (Stmt-F.Simple l a)

line_is : (l : ℕ) (e : Expr) (k : ℕ) (a : Simple) → statement_depth (stmt.IfLine l e k a) ≡ max (around (expression_depth e)) (simple_depth a)
line_is l e k a = ap statement_depth (sym (stmt.rolls-IfLine l e k a)) ∙ fold-roll-Stmt ℕ statement_layer (Stmt-F.IfLine l e k a)

if_is : (i : ℕ × Branches) → statement_depth (if_at i) ≡ branch_depth i.1
if_is i = ap statement_depth (sym (stmt.rolls-If i.0 i.1.0 i.1.1.0 i.1.1.1)) ∙ fold-roll-Stmt ℕ statement_layer (Stmt-F.If i.0 i.1.0 i.1.1.0 i.1.1.1)
    ∙ ap (λ n. around (max (expression_depth i.1.0) (max n (deepest (λ d. d) (map statement_depth i.1.1.1))))) (deepest_map (λ d. d) statement_depth i.1.1.0)
    ∙ ap (λ n. around (max (expression_depth i.1.0) (max (block_depth i.1.1.0) n))) (deepest_map (λ d. d) statement_depth i.1.1.1)

do_is : (l : ℕ) (v : List ℕ) (a b : Expr) (c : Option Expr) (body : List Stmt) → statement_depth (stmt.Do l v a b c body) ≡ max (max (max (expression_depth a) (expression_depth b)) (if_any expression_depth c)) (around (block_depth body))
do_is l v a b c body = ap statement_depth (sym (stmt.rolls-Do l v a b c body)) ∙ fold-roll-Stmt ℕ statement_layer (Stmt-F.Do l v a b c body)
    ∙ ap (λ n. max (max (max (expression_depth a) (expression_depth b)) (if_any expression_depth c)) (around n)) (deepest_map (λ d. d) statement_depth body)

while_is : (l : ℕ) (e : Expr) (body : List Stmt) → statement_depth (stmt.While l e body) ≡ around (max (expression_depth e) (block_depth body))
while_is l e body = ap statement_depth (sym (stmt.rolls-While l e body)) ∙ fold-roll-Stmt ℕ statement_layer (Stmt-F.While l e body)
    ∙ ap (λ n. around (max (expression_depth e) n)) (deepest_map (λ d. d) statement_depth body)

finish_is : (l : ℕ) (t : Team) (body : List Stmt) → statement_depth (stmt.Finish l t body) ≡ around (block_depth body)
finish_is l t body = ap statement_depth (sym (stmt.rolls-Finish l t body)) ∙ fold-roll-Stmt ℕ statement_layer (Stmt-F.Finish l t body)
    ∙ ap around (deepest_map (λ d. d) statement_depth body)

-- ---- one level

abbrev inner_depth : List Stmt → ℕ
inner_depth x = around (block_depth x)

abbrev deeper_branch : Branches → ℕ
deeper_branch c = around (branch_depth c)

module _ (n : ℕ) (gb : Levels InnerBlock inner_depth n) (gi : Levels InnerBranches deeper_branch n) where
  one_part : (i : ℕ × Branches) (x : List Stmt) → x ≡ if_at i ∷ [] → block_depth x ≡ branch_depth i.1
  one_part i x e = ap block_depth e ∙ let k : max (statement_depth (if_at i)) 0 ≡ statement_depth (if_at i) = omega arith in k ∙ if_is i

  rest_within : (x : List Stmt) (ts rest : List Token) → Rest n (InnerBlock n) (InnerBranches n) x ts rest → 1 ≤ n → inner_depth x ≤ n
  rest_within x [] rest (inl (i, e, m)) le = absurd m
  rest_within x (t ∷ ts) rest (inl (i, e, (l, (mid, j, k)))) le = let h : deeper_branch i.1 ≤ n = gi.within i.1 mid rest k in let s : block_depth x ≡ branch_depth i.1 = one_part i x e in omega arith
  rest_within x ts rest (inr (b, (a, (None, e, m), d), f)) le = let s : block_depth x ≡ 0 = ap block_depth e in omega arith
  rest_within x ts rest (inr (b, (a, (Some y, e, (mid, w, (next, z, k))), d), f)) le = let h : inner_depth y ≤ n = gb.within y next a k in let s : block_depth x ≡ block_depth y = ap block_depth e in omega arith

  rest_again : (m : ℕ) (x : List Stmt) (ts rest : List Token) → Rest n (InnerBlock n) (InnerBranches n) x ts rest → inner_depth x ≤ m → Rest m (InnerBlock m) (InnerBranches m) x ts rest
  rest_again m x [] rest (inl (i, e, k)) le = absurd k
  rest_again m x (t ∷ ts) rest (inl (i, e, (l, (mid, j, k)))) le = let s : block_depth x ≡ branch_depth i.1 = one_part i x e in inl (i, e, (l, (mid, j, gi.again m i.1 mid rest k (omega arith))))
  rest_again m x ts rest (inr (b, (a, (None, e, k), d), f)) le = inr (b, (a, (None, e, k), d), f)
  rest_again m x ts rest (inr (b, (a, (Some y, e, (mid, w, (next, z, k))), d), f)) le = let s : block_depth x ≡ block_depth y = ap block_depth e in inr (b, (a, (Some y, e, (mid, w, (next, z, gb.again m y next a k (omega arith)))), d), f)

  condition_levels : Levels Condition (λ x. around (expression_depth x)) n
  condition_levels = levels_parens _ _ n (levels_inner n)

  three : (a b c k : ℕ) → around a ≤ k → around b ≤ k → around c ≤ k → around (max a (max b c)) ≤ k
  three a b c k h i j = omega arith

  pub levels_branches_in : Levels (λ k. BranchesIn k (InnerBlock k) (InnerBranches k)) branch_depth n
  levels_branches_in = record { within = within; again = again }
    where
      within : (c : Branches) (ts rest : List Token) → BranchesIn n (InnerBlock n) (InnerBranches n) c ts rest → branch_depth c ≤ n
      within c ts rest (mid, v, (at, w, (next, z, (end, b, r)))) =
          let h : around (expression_depth c.0) ≤ n = condition_levels.within c.0 ts mid v in
          let i : inner_depth c.1.0 ≤ n = gb.within c.1.0 next end b in
          let j : inner_depth c.1.1 ≤ n = rest_within c.1.1 end rest r (omega arith) in
          three (expression_depth c.0) (block_depth c.1.0) (block_depth c.1.1) n h i j

      again : (m : ℕ) (c : Branches) (ts rest : List Token) → BranchesIn n (InnerBlock n) (InnerBranches n) c ts rest → branch_depth c ≤ m → BranchesIn m (InnerBlock m) (InnerBranches m) c ts rest
      again m c ts rest (mid, v, (at, w, (next, z, (end, b, r)))) le =
          (mid, condition_levels.again m c.0 ts mid v (omega arith), (at, w, (next, z, (end, gb.again m c.1.0 next end b (omega arith), rest_again m c.1.1 end rest r (omega arith)))))

  line_levels : Levels (λ k. Made (λ (p : ℕ × Simple). stmt.Simple p.0 p.1) (Lined (SimpleForm k ◂ End))) statement_depth n
  line_levels = levels_made _ _ _ statement_depth n (λ c. simple_is c.0 c.1) (levels_lined _ _ n (levels_trail End _ _ n (simple_levels n)))

  if_line_levels : Levels (λ k. Made (λ (p : ℕ × (Expr × (ℕ × Simple))). stmt.IfLine p.0 p.1.0 p.1.1.0 p.1.1.1) (Lined (Word' word.If ▸ Guarded k (InnerBlock k) (InnerBranches k)))) statement_depth n
  if_line_levels = levels_made _ _ _ statement_depth n (λ c. line_is c.0 c.1.0 c.1.1.0 c.1.1.1)
      (levels_lined _ _ n (levels_lead (Word' word.If) _ _ n (levels_trail End _ _ n (levels_both _ _ _ _ n condition_levels (levels_lined _ _ n (simple_levels n))))))

  if_block_levels : Levels (λ k. Made if_at (Lined (Word' word.If ▸ BranchesIn k (InnerBlock k) (InnerBranches k)))) statement_depth n
  if_block_levels = levels_made if_at _ _ statement_depth n if_is (levels_lined _ _ n (levels_lead (Word' word.If) _ _ n levels_branches_in))

  counted_is : (a b c d : ℕ) → max (max (max a b) c) d ≡ max (max (max 0 a) (max b c)) d
  counted_is a b c d = omega arith

  counted_levels : Levels (λ k. Made (λ (p : ℕ × (((List ℕ × Expr) × (Expr × Option Expr)) × List Stmt)). stmt.Do p.0 p.1.0.0.0 p.1.0.0.1 p.1.0.1.0 p.1.0.1.1 p.1.1) (Lined (Word' word.Do ▸ Counted k (InnerBlock k) (InnerBranches k)))) statement_depth n
  counted_levels = levels_made _ _ _ statement_depth n (λ c. do_is c.0 c.1.0.0.0 c.1.0.0.1 c.1.0.1.0 c.1.0.1.1 c.1.1 ∙ counted_is (expression_depth c.1.0.0.1) (expression_depth c.1.0.1.0) (if_any expression_depth c.1.0.1.1) (inner_depth c.1.1))
      (levels_lined _ _ n (levels_lead (Word' word.Do) _ _ n (levels_trail End _ _ n (levels_trail EndDo _ _ n (levels_both _ _ _ _ n
      (levels_both _ _ _ _ n (levels_both _ _ _ _ n (levels_flat Name n) (levels_lead (Sign' sign.Assign) _ _ n (levels_expression n)))
      (levels_comma _ _ n (levels_both _ _ _ _ n (levels_expression n) (levels_maybe _ _ n (levels_comma _ _ n (levels_expression n))))))
      (levels_lead End _ _ n gb))))))

  while_max : (a b : ℕ) → around (max a b) ≡ max (around a) (around b)
  while_max a b = omega arith

  while_levels : Levels (λ k. Made (λ (p : ℕ × (Expr × List Stmt)). stmt.While p.0 p.1.0 p.1.1) (Lined (Word' word.Do ▸ (Word' word.While ▸ (Both (Condition k) (End ▸ InnerBlock k) ◂ EndDo ◂ End))))) statement_depth n
  while_levels = levels_made _ _ _ statement_depth n (λ c. while_is c.0 c.1.0 c.1.1 ∙ while_max (expression_depth c.1.0) (block_depth c.1.1))
      (levels_lined _ _ n (levels_lead (Word' word.Do) _ _ n (levels_lead (Word' word.While) _ _ n (levels_trail End _ _ n (levels_trail EndDo _ _ n (levels_both _ _ _ _ n condition_levels (levels_lead End _ _ n gb)))))))

  finish_levels : Levels (λ k. Made (λ (p : ℕ × (Team × List Stmt)). stmt.Finish p.0 p.1.0 p.1.1) (Lined (Word' word.Finish ▸ (Both (Made or_world (Maybe (InParentheses TeamForm))) (End ▸ InnerBlock k) ◂ EndFinish ◂ End)))) statement_depth n
  finish_levels = levels_made _ _ _ statement_depth n (λ c. finish_is c.0 c.1.0 c.1.1 ∙ let k : inner_depth c.1.1 ≡ max 0 (inner_depth c.1.1) = omega arith in k)
      (levels_lined _ _ n (levels_lead (Word' word.Finish) _ _ n (levels_trail End _ _ n (levels_trail EndFinish _ _ n (levels_both _ _ _ _ n (levels_flat (Made or_world (Maybe (InParentheses TeamForm))) n) (levels_lead End _ _ n gb))))))

  statement_within : (x : Stmt) (ts rest : List Token) → Statement n (InnerBlock n) (InnerBranches n) x ts rest → statement_depth x ≤ n
  statement_within x ts rest (simple c) = line_levels.within x ts rest c
  statement_within x ts rest (if_line c) = if_line_levels.within x ts rest c
  statement_within x ts rest (if_block c) = if_block_levels.within x ts rest c
  statement_within x ts rest (counted c) = counted_levels.within x ts rest c
  statement_within x ts rest (while_true c) = while_levels.within x ts rest c
  statement_within x ts rest (finish c) = finish_levels.within x ts rest c

  statement_again : (m : ℕ) (x : Stmt) (ts rest : List Token) → Statement n (InnerBlock n) (InnerBranches n) x ts rest → statement_depth x ≤ m → Statement m (InnerBlock m) (InnerBranches m) x ts rest
  statement_again m x ts rest (simple c) le = simple (line_levels.again m x ts rest c le)
  statement_again m x ts rest (if_line c) le = if_line (if_line_levels.again m x ts rest c le)
  statement_again m x ts rest (if_block c) le = if_block (if_block_levels.again m x ts rest c le)
  statement_again m x ts rest (counted c) le = counted (counted_levels.again m x ts rest c le)
  statement_again m x ts rest (while_true c) le = while_true (while_levels.again m x ts rest c le)
  statement_again m x ts rest (finish c) le = finish (finish_levels.again m x ts rest c le)

  pub levels_statements : Levels StatementsForm block_depth n
  levels_statements = levels_many (λ k. Statement k (InnerBlock k) (InnerBranches k)) statement_depth n (record { within = statement_within; again = statement_again })

block_again : (n : ℕ) → Levels StatementsForm block_depth n → (m : ℕ) (a : List Stmt) (ts rest : List Token) → StatementsForm n a ts rest → inner_depth a ≤ m → InnerBlock m a ts rest
block_again n g zero a ts rest x le = absurd (omega arith)
block_again n g (suc m) a ts rest x le = g.again m a ts rest x (omega arith)

branches_again : (n : ℕ) → Levels (λ k. BranchesIn k (InnerBlock k) (InnerBranches k)) branch_depth n → (m : ℕ) (a : Branches) (ts rest : List Token) → BranchesIn n (InnerBlock n) (InnerBranches n) a ts rest → deeper_branch a ≤ m → InnerBranches m a ts rest
branches_again n g zero a ts rest x le = absurd (omega arith)
branches_again n g (suc m) a ts rest x le = g.again m a ts rest x (omega arith)

mutual
  pub levels_block : (n : ℕ) → Levels InnerBlock inner_depth n
  levels_block zero = record { within = λ a ts rest x. absurd x; again = λ m a ts rest x le. absurd x }
  levels_block (suc n) =
      let g : Levels StatementsForm block_depth n = levels_statements n (levels_block n) (levels_branches n) in
      record {
        within = λ a ts rest x. let k : block_depth a ≤ n = g.within a ts rest x in omega arith;
        again = block_again n g;
      }

  pub levels_branches : (n : ℕ) → Levels InnerBranches deeper_branch n
  levels_branches zero = record { within = λ a ts rest x. absurd x; again = λ m a ts rest x le. absurd x }
  levels_branches (suc n) =
      let g : Levels (λ k. BranchesIn k (InnerBlock k) (InnerBranches k)) branch_depth n = levels_branches_in n (levels_block n) (levels_branches n) in
      record {
        within = λ a ts rest x. let k : branch_depth a ≤ n = g.within a ts rest x in omega arith;
        again = branches_again n g;
      }
