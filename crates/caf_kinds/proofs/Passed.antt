-- The actuals of a call, from a place on.
use Rattle.std.proofs.Common.{◌≡◌, ◌∙◌, ℕ, ◌+◌, ◌<◌, List, [], ◌∷◌, ◌++◌, Option, Result, Ok, Err, drop, get_or, length, refl, sym, ap, append_assoc, add-one, drop-cons}
use Rattle.caf_tree.specs.declared.expr.Expr.{Expr}
use Rattle.caf_program.specs.declared.parts.ActualR.{ActualR}
use Rattle.caf_declare.specs.declared.fault.Fault.{Fault}
use Rattle.caf_declare.specs.declared.symbol.Taken.{Taken}
use Rattle.caf_declare.specs.Table.{Name}
use Rattle.caf_declare.specs.Names.{after}
use Rattle.caf_kinds.specs.declared.scope.Scope.{Scope}
use Rattle.caf_kinds.specs.Statements.{argument, arguments}

module _ (scope : Scope) (line : ℕ) (loops : List Name) (sign : Name) where
  -- the one at the place, and those behind it
  pub arguments_here : (ds : List (Option Taken)) (es : List Expr) (i : ℕ) (d : Option Taken) (e : Expr) → i < length ds → i < length es →
      arguments scope line loops sign (drop i ds) (drop i es)
      ≡ after (argument scope line loops sign (get_or ds i d) (get_or es i e)) (λ a. after (arguments scope line loops sign (drop (i + 1) ds) (drop (i + 1) es)) (λ more. Ok (a ∷ more)))
  arguments_here ds es i d e hd he = rw (add-one, drop-cons ds i d, drop-cons es i e) refl

  joined : (done : List ActualR) (a : ActualR) (r : Result (List ActualR) Fault) → after (after r (λ more. Ok (a ∷ more))) (λ more. Ok (done ++ more)) ≡ after r (λ more. Ok ((done ++ a ∷ []) ++ more))
  joined done a (Ok xs) = ap Ok (sym (append_assoc done (a ∷ []) xs))
  joined done a (Err f) = refl

  -- one actual more
  pub arguments_more : (ds : List (Option Taken)) (es : List Expr) (i : ℕ) (d : Option Taken) (e : Expr) (a : ActualR) (done : List ActualR) → i < length ds → i < length es → argument scope line loops sign (get_or ds i d) (get_or es i e) ≡ Ok a →
      after (arguments scope line loops sign (drop i ds) (drop i es)) (λ more. Ok (done ++ more))
      ≡ after (arguments scope line loops sign (drop (i + 1) ds) (drop (i + 1) es)) (λ more. Ok ((done ++ a ∷ []) ++ more))
  arguments_more ds es i d e a done hd he h =
      let rest : Result (List ActualR) Fault = arguments scope line loops sign (drop (i + 1) ds) (drop (i + 1) es) in
      ap (λ (r : Result (List ActualR) Fault). after r (λ more. Ok (done ++ more)))
      (arguments_here ds es i d e hd he ∙ ap (λ (x : Result ActualR Fault). after x (λ b. after rest (λ more. Ok (b ∷ more)))) h)
      ∙ joined done a rest

  -- the first fault
  pub arguments_stop : (ds : List (Option Taken)) (es : List Expr) (i : ℕ) (d : Option Taken) (e : Expr) (f : Fault) (done : List ActualR) → i < length ds → i < length es → argument scope line loops sign (get_or ds i d) (get_or es i e) ≡ Err f →
      after (arguments scope line loops sign (drop i ds) (drop i es)) (λ more. Ok (done ++ more)) ≡ Err f
  arguments_stop ds es i d e f done hd he h =
      let rest : Result (List ActualR) Fault = arguments scope line loops sign (drop (i + 1) ds) (drop (i + 1) es) in
      ap (λ (r : Result (List ActualR) Fault). after r (λ more. Ok (done ++ more)))
      (arguments_here ds es i d e hd he ∙ ap (λ (x : Result ActualR Fault). after x (λ b. after rest (λ more. Ok (b ∷ more)))) h)
