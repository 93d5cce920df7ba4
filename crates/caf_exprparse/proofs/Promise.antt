-- What a function promises that gives the outcome of the reader of expressions.
use Rattle.std.proofs.Common.{◌≡◌, ℕ, suc, ◌+◌, ◌-◌, ◌≤◌, List, length, drop, Result, Ok, Err, refl, ap, sym, ◌∙◌, subst, arith}
use Rattle.std.proofs.lemmas.List.{length-drop, drop-drop}
use Rattle.std.specs.Prelude.{IfOk}
use Rattle.caf_lexer.specs.declared.token.Token.{Token}
use Rattle.caf_tree.specs.declared.expr.Expr.{Expr}
use Rattle.caf_tree.specs.Expressions.{Expression}
use Rattle.caf_exprparse.specs.declared.fault.ParseFault.{ParseFault}
use Rattle.caf_exprparse.specs.declared.fault.ParseFault.TheVariants as fault
use Rattle.caf_exprparse.specs.Cursor.{Begins, WhyRefused, IsLongest}
use Rattle.caf_exprparse.specs.Ends.{Stops, ends_expression, in_statement, brackets_ahead}
use Rattle.caf_exprparse.specs.Reading.{Syntax, Deep}
use Rattle.caf_exprparse.specs.Reads.{Reads}
use Rattle.caf_exprparse.specs.Reader.{expression}
use Rattle.caf_exprparse.proofs.Eats.{Eats, eats_drop, eats_shorter}
use Rattle.caf_exprparse.proofs.Good.{Fits}
use Rattle.caf_exprparse.proofs.Expressions.{Reads', good_expression}

good_at : (n m : ℕ) → Reads' (m ≤ n) (suc n) ends_expression (Expression n) (Expression m) (expression n)
good_at n m = good_expression (m ≤ n) n m (λ g. g)

-- where so many tokens are left behind those that are taken, the place is behind them
pub moved_to : (all : List Token) (at : ℕ) (rest : List Token) → at ≤ length all → Eats in_statement (drop at all) rest → drop (length all - length rest) all ≡ rest
moved_to all at rest le x =
    let l : length (drop at all) ≡ length all - at = length-drop at all in
    let s : length rest ≤ length (drop at all) = eats_shorter in_statement (drop at all) rest x in
    let e : at + (length (drop at all) - length rest) ≡ length all - length rest = omega arith in
    ap (λ k. drop k all) (sym e) ∙ sym (drop-drop (length (drop at all) - length rest) at all) ∙ eats_drop in_statement (drop at all) rest x

module _ (n : ℕ) (ts new : List Token) where
  pub taken_by : (e : Expr) → expression n ts ≡ Ok (e, new) → Eats in_statement ts new
  taken_by e h = (good_at n n).eats ts e new h

  pub spelled_by : (r : Result Expr ParseFault) → Reads (expression n ts) r new → IfOk r (λ e. Expression n e ts new)
  spelled_by (Ok e) h = (good_at n n).sound ts e new h
  spelled_by (Err f) h = tt

  pub longest_by : (r : Result Expr ParseFault) → Reads (expression n ts) r new → IfOk r (λ e. IsLongest ts new)
  longest_by (Ok e) h = λ x rest d. (subst (Fits (d.0 ≤ n) ends_expression x rest) h ((good_at n d.0).fits x ts rest d.1)).0
  longest_by (Err f) h = tt

  pub only_by : (e : Expr) → expression n ts ≡ Ok (e, new) → (x : Expr) (rest : List Token) → Begins x ts rest → Stops ends_expression rest → (e ≡ x) × (new ≡ rest)
  only_by e h x rest d s = (subst (Fits (d.0 ≤ n) ends_expression x rest) h ((good_at n d.0).fits x ts rest d.1)).1 s

  pub refused_by : (f : ParseFault) → Reads (expression n ts) (Err f) new → WhyRefused n ts f
  refused_by (fault.Syntax line) h = λ x rest d. subst (Fits (d.0 ≤ n) ends_expression x rest) (h Syntax refl) ((good_at n d.0).fits x ts rest d.1)
  refused_by (fault.Deep line) h = (
    let k : suc n ≤ brackets_ahead ts = (good_at n n).digs ts (h Deep refl) in omega arith,
    λ x rest d s. (subst (Fits (n ≤ n) ends_expression x rest) (h Deep refl) ((good_at n n).fits x ts rest d)) (omega arith) s,
  )
  refused_by fault.Memory h = tt

-- what is taken at a place of all tokens
module _ (n : ℕ) (all : List Token) (at : ℕ) (within : at ≤ length all) (new : List Token) (e : Expr) (h : expression n (drop at all) ≡ Ok (e, new)) where
  pub left_within : length new ≤ length all
  left_within =
      let l : length (drop at all) ≡ length all - at = length-drop at all in
      let s : length new ≤ length (drop at all) = eats_shorter in_statement (drop at all) new (taken_by n (drop at all) new e h) in
      omega arith

  moved : drop (length all - length new) all ≡ new
  moved = moved_to all at new within (taken_by n (drop at all) new e h)

  pub spelled_at : Expression n e (drop at all) (drop (length all - length new) all)
  spelled_at = subst (λ r. Expression n e (drop at all) r) (sym moved) (spelled_by n (drop at all) new (Ok e) h)

  pub longest_at : IsLongest (drop at all) (drop (length all - length new) all)
  longest_at = subst (IsLongest (drop at all)) (sym moved) (longest_by n (drop at all) new (Ok e) h)

  pub only_at : (x : Expr) (rest : List Token) → Begins x (drop at all) rest → Stops ends_expression rest → (e ≡ x) × (drop (length all - length new) all ≡ rest)
  only_at x rest d s = let k = only_by n (drop at all) new e h x rest d s in (k.0, moved ∙ k.1)
