-- The levels that a statement without a block is spelled to are those that it is deep.
use Rattle.std.proofs.Common.{◌≡◌, ℕ, zero, suc, max, ◌≤◌, Bool, true, List, [], ◌∷◌, Option, Some, None, inl, inr, refl, ap, sym, ◌∙◌, subst, arith}
use Rattle.caf_lexer.specs.declared.token.Token.{Token}
use Rattle.caf_lexer.specs.declared.token.What.TheVariants as what
use Rattle.caf_lexer.specs.declared.token.Sign.TheVariants as sign
use Rattle.caf_lexer.specs.declared.token.Word.TheVariants as word
use Rattle.caf_tree.specs.declared.expr.Team.{Team}
use Rattle.caf_tree.specs.declared.expr.Place.{Place}
use Rattle.caf_tree.specs.declared.expr.Variable.{Variable}
use Rattle.caf_tree.specs.declared.expr.Expr.{Expr}
use Rattle.caf_tree.specs.declared.stmt.Range.{Range}
use Rattle.caf_tree.specs.declared.stmt.Range.TheVariants as range
use Rattle.caf_tree.specs.declared.stmt.Section.{Section}
use Rattle.caf_tree.specs.declared.stmt.Printed.TheVariants as printed
use Rattle.caf_tree.specs.declared.stmt.Key.{Key}
use Rattle.caf_tree.specs.declared.stmt.Key.TheVariants as key
use Rattle.caf_tree.specs.declared.stmt.Fence.{Fence}
use Rattle.caf_tree.specs.declared.stmt.Simple.{Simple}
use Rattle.caf_tree.specs.declared.stmt.Simple.TheVariants as s
use Rattle.caf_tree.specs.Forms.{Just, Word', Sign', Name, Both, Made, Such, Either, Maybe, Many, ◌▸◌, ◌◂◌, or_none, Listed, InParentheses, Inside}
use Rattle.caf_tree.specs.Expressions.{PlaceForm, VariableForm, TeamForm, Inner, Expression}
use Rattle.caf_tree.specs.Statements.{section_of, own_of, no_two, same_key, same_way, FenceForm, RangeForm, OwnForm, SectionForm, KeyForm, KeysForm, CopyIn, SplitIn, FencesIn, ArgumentsIn, Nothing, List', PerhapsList, PrintedForm, PerhapsCall, Assign, Aim, Print, Call, Spawn, Notify, Wait, Copy, Cofence, Split, SimpleForm, assign, aim, print, call, spawn, notify, wait, copy, cofence, split}
use Rattle.caf_tree.specs.Depth.{deepest, if_any, around, around_list, place_depth, variable_depth, expression_depth, range_depth, section_depth, own_depth, key_depth, printed_depth, simple_depth}
use Rattle.caf_tree.proofs.Levels.{Levels, levels_flat, levels_both, levels_made, levels_made_of, levels_as, levels_either, levels_maybe, levels_many, levels_lead, levels_trail, levels_such, levels_inside, levels_parens, levels_comma}
use Rattle.caf_tree.proofs.ExpressionLevels.{max_zero, zero_max, zero_in_max, deepest_same, levels_place, levels_variable, levels_inner, levels_expression, levels_subscript}

pub place_levels : (n : ℕ) → Levels PlaceForm (place_depth expression_depth) n
place_levels n = levels_place n (levels_inner n)

pub event_levels : (n : ℕ) → Levels VariableForm (variable_depth expression_depth) n
event_levels n = levels_variable n (levels_inner n)

-- ---- parts

-- how deep a range is within its parentheses
abbrev range_inner : Range → ℕ
range_inner range.Whole = 0
range_inner (range.Element i) = expression_depth i
range_inner (range.Between i j) = max (if_any expression_depth i) (if_any expression_depth j)

range_levels : (n : ℕ) → Levels RangeForm range_inner n
range_levels n = levels_either _ _ _ n
    (levels_made range.Element _ _ range_inner n (λ i. refl) (levels_expression n))
    (levels_made _ _ _ range_inner n (λ c. refl) (levels_both _ _ _ _ n (levels_trail (Sign' sign.Colon) _ _ n (levels_maybe _ _ n (levels_expression n))) (levels_maybe _ _ n (levels_expression n))))

range_is : (n : ℕ) (a : Range) (ts rest : List Token) → RangeForm n a ts rest → range_depth a ≡ around (range_inner a)
range_is n a ts rest (inl (i, e, x)) = ap range_depth e ∙ sym (ap (λ b. around (range_inner b)) e)
range_is n a ts rest (inr (i, e, x)) = ap range_depth e ∙ sym (ap (λ b. around (range_inner b)) e)

inside_range : (n : ℕ) (a : Range) (ts rest : List Token) → Inside RangeForm n a ts rest → range_depth a ≡ around (range_inner a)
inside_range zero a ts rest x = absurd x
inside_range (suc n) a ts rest x = range_is n a ts rest x

section_is : (n : ℕ) (x : List ℕ) (r : Option Range) (p : Option (Place Expr)) (ts rest : List Token) → Maybe (InParentheses (Inside RangeForm n)) r ts rest
    → section_depth (section_of ((x, r), p)) ≡ max (max 0 (if_any (λ a. around (range_inner a)) r)) (if_any (place_depth expression_depth) p)
section_is n x None p ts rest m = zero_in_max 0 _
section_is n x (Some r) p ts rest m = ap (λ d. max d (if_any (place_depth expression_depth) p)) (inside_range n r _ _ m.2.1) ∙ zero_in_max _ _

pub section_levels : (n : ℕ) → Levels SectionForm section_depth n
section_levels n = levels_made_of section_of (λ k. Both (Both Name (Maybe (InParentheses (Inside RangeForm k)))) (Maybe (PlaceForm k))) _ section_depth n
    (λ c ts rest x. section_is n c.0.0 c.0.1 c.1 _ _ x.1.2)
    (levels_both _ _ _ _ n (levels_both _ _ _ _ n (levels_flat Name n) (levels_maybe _ _ n (levels_parens _ _ n (levels_inside RangeForm range_inner range_levels n)))) (levels_maybe _ _ n (place_levels n)))

pub own_levels : (n : ℕ) → Levels OwnForm own_depth n
own_levels n = levels_made own_of _ _ own_depth n (λ c. zero_max _) (levels_both _ _ _ _ n (levels_flat Name n) (levels_maybe _ _ n (levels_subscript n (levels_inner n))))

key_levels : (n : ℕ) → Levels KeyForm key_depth n
key_levels n = levels_either _ _ _ n
    (levels_made key.Pre _ _ key_depth n (λ v. refl) (levels_lead (Word' word.Pre) _ _ n (levels_lead (Sign' sign.Assign) _ _ n (own_levels n))))
    (levels_either _ _ _ n
    (levels_made key.Srce _ _ key_depth n (λ v. refl) (levels_lead (Word' word.Srce) _ _ n (levels_lead (Sign' sign.Assign) _ _ n (event_levels n))))
    (levels_made key.Deste _ _ key_depth n (λ v. refl) (levels_lead (Word' word.Deste) _ _ n (levels_lead (Sign' sign.Assign) _ _ n (event_levels n)))))

copy_levels : (n : ℕ) → Levels CopyIn (λ c. max (max (section_depth c.0.0) (section_depth c.0.1)) (deepest key_depth c.1)) n
copy_levels n = levels_both _ _ _ _ n (levels_both _ _ _ _ n (section_levels n) (levels_comma _ _ n (section_levels n))) (levels_such _ _ _ n (levels_many _ _ n (levels_comma _ _ n (key_levels n))))

split_levels : (n : ℕ) → Levels SplitIn (λ c. max (max (max 0 (expression_depth c.0.0.1)) (expression_depth c.0.1)) 0) n
split_levels n = levels_both _ _ _ _ n (levels_both _ _ _ _ n (levels_both _ _ _ _ n (levels_flat TeamForm n) (levels_comma _ _ n (levels_expression n))) (levels_comma _ _ n (levels_expression n))) (levels_comma _ _ n (levels_flat Name n))

-- ---- lists

pub levels_listed : {A : Type 0} (P : ℕ → A → List Token → List Token → Type 0) (d : A → ℕ) (n : ℕ) → Levels P d n → Levels (λ k. Listed (P k)) (deepest d) n
levels_listed P d n g = levels_made _ _ _ (deepest d) n (λ c. refl) (levels_both _ _ _ _ n g (levels_many _ _ n (levels_comma _ _ n g)))

-- a list that isn't empty
abbrev pub Some' : {A : Type 0} → List A → Type 0
Some' {A} xs = (x : A) × (others : List A) × (xs ≡ x ∷ others)

around_list_least : {A : Type 0} (d : A → ℕ) (xs : List A) (n : ℕ) → around (deepest d xs) ≤ n → around_list d xs ≤ n
around_list_least d [] n h = omega arith
around_list_least d (x ∷ xs) n h = h

around_list_is : {A : Type 0} (d : A → ℕ) (xs : List A) → Some' xs → around_list d xs ≡ around (deepest d xs)
around_list_is d xs (x, others, e) = ap (around_list d) e ∙ sym (ap (λ l. around (deepest d l)) e)

module _ {A : Type 0} (P : ℕ → List A → List Token → List Token → Type 0) (d : A → ℕ) (g : (n : ℕ) → Levels P (deepest d) n) (some : (n : ℕ) (a : List A) (ts rest : List Token) → P n a ts rest → Some' a) where
  inside_some : (n : ℕ) (a : List A) (ts rest : List Token) → Inside P n a ts rest → Some' a
  inside_some zero a ts rest x = absurd x
  inside_some (suc n) a ts rest x = some n a ts rest x

  inner_levels : (n : ℕ) → Levels (λ k. InParentheses (Inside P k)) (λ xs. around (deepest d xs)) n
  inner_levels n = levels_parens _ _ n (levels_inside P (deepest d) g n)

  list_within : (n : ℕ) (a : List A) (ts rest : List Token) → List' P n a ts rest → around_list d a ≤ n
  list_within n a ts rest (inl x) = around_list_least d a n ((inner_levels n).within a ts rest x)
  list_within n a ts rest (inr x) = let e : around_list d a ≡ 0 = ap (around_list d) x.1 in omega arith

  list_again : (n m : ℕ) (a : List A) (ts rest : List Token) → List' P n a ts rest → around_list d a ≤ m → List' P m a ts rest
  list_again n m a ts rest (inl x) le = inl ((inner_levels n).again m a ts rest x (let e : around_list d a ≡ around (deepest d a) = around_list_is d a (inside_some n a _ _ x.2.1) in omega arith))
  list_again n m a ts rest (inr x) le = inr x

  pub list_levels : (n : ℕ) → Levels (List' P) (around_list d) n
  list_levels n = record { within = list_within n; again = list_again n }

  pub perhaps_list_levels : (n : ℕ) → Levels (PerhapsList P) (around_list d) n
  perhaps_list_levels n = levels_made or_none _ _ (around_list d) n same (levels_maybe _ _ n (list_levels n))
    where
      same : (o : Option (List A)) → around_list d (or_none o) ≡ if_any (around_list d) o
      same None = refl
      same (Some xs) = refl

listed_some : {A : Type 0} (P : A → List Token → List Token → Type 0) (a : List A) (ts rest : List Token) → Listed P a ts rest → Some' a
listed_some P a ts rest x = (x.0.0, x.0.1, x.1)

arguments_levels : (n : ℕ) → Levels ArgumentsIn (deepest expression_depth) n
arguments_levels n = levels_listed Expression expression_depth n (levels_expression n)

fences_levels : (n : ℕ) → Levels FencesIn (deepest (λ _. 0)) n
fences_levels n = levels_such _ _ _ n (levels_listed (λ _. FenceForm) (λ _. 0) n (levels_flat FenceForm n))

printed_levels : (n : ℕ) → Levels PrintedForm printed_depth n
printed_levels n = levels_either _ _ _ n (levels_made printed.Value _ _ printed_depth n (λ e. refl) (levels_expression n)) (levels_made printed.Text (λ _. Just what.Text) (λ _. 0) printed_depth n (λ t. refl) (levels_flat _ n))

-- ---- statements

assign_levels : (n : ℕ) → Levels Assign simple_depth n
assign_levels n = levels_made _ _ _ simple_depth n (λ c. refl) (levels_both _ _ _ _ n (event_levels n) (levels_lead (Sign' sign.Assign) _ _ n (levels_expression n)))

aim_levels : (n : ℕ) → Levels Aim simple_depth n
aim_levels n = levels_made _ _ _ simple_depth n (λ c. zero_max _) (levels_both _ _ _ _ n (levels_flat Name n) (levels_lead (Sign' sign.Arrow) _ _ n (section_levels n)))

print_levels : (n : ℕ) → Levels Print simple_depth n
print_levels n = levels_made s.Print _ _ simple_depth n (λ c. refl) (levels_lead (Word' word.Print) _ _ n (levels_lead (Sign' sign.Asterisk) _ _ n (levels_many _ _ n (levels_comma _ _ n (printed_levels n)))))

call_levels : (n : ℕ) → Levels Call simple_depth n
call_levels n = levels_made _ _ _ simple_depth n (λ c. zero_max _) (levels_lead (Word' word.Call) _ _ n (levels_both _ _ _ _ n (levels_flat Name n)
    (perhaps_list_levels ArgumentsIn expression_depth arguments_levels (λ k. listed_some (Expression k)) n)))

spawn_levels : (n : ℕ) → Levels Spawn simple_depth n
spawn_levels n = levels_made _ _ _ simple_depth n (λ c. spawn_is _ _ _) (levels_lead (Word' word.Spawn) _ _ n (levels_both _ _ _ _ n (levels_both _ _ _ _ n (levels_both _ _ _ _ n
    (levels_maybe _ _ n (levels_parens _ _ n (levels_inside VariableForm (variable_depth expression_depth) event_levels n))) (levels_flat Name n))
    (list_levels ArgumentsIn expression_depth arguments_levels (λ k. listed_some (Expression k)) n)) (place_levels n)))
  where
    spawn_is : (a b c : ℕ) → max (max a b) c ≡ max (max (max a 0) b) c
    spawn_is a b c = omega arith

notify_levels : (n : ℕ) → Levels Notify simple_depth n
notify_levels n = levels_made s.Notify _ _ simple_depth n (λ c. refl) (levels_lead PerhapsCall _ _ n (levels_lead (Word' word.EventNotify) _ _ n (levels_parens _ _ n (levels_inside VariableForm (variable_depth expression_depth) event_levels n))))

wait_levels : (n : ℕ) → Levels Wait simple_depth n
wait_levels n = levels_made s.Wait _ _ simple_depth n (λ c. refl) (levels_lead PerhapsCall _ _ n (levels_lead (Word' word.EventWait) _ _ n (levels_parens _ _ n (levels_inside OwnForm own_depth own_levels n))))

copying_levels : (n : ℕ) → Levels Copy simple_depth n
copying_levels n = levels_made _ _ _ simple_depth n (λ c. refl) (levels_lead PerhapsCall _ _ n (levels_lead (Word' word.CopyAsync) _ _ n (levels_parens _ _ n (levels_inside CopyIn _ copy_levels n))))

cofence_levels : (n : ℕ) → Levels Cofence simple_depth n
cofence_levels n = levels_made s.Cofence _ _ simple_depth n (λ c. refl) (levels_lead (Word' word.Cofence) _ _ n (perhaps_list_levels FencesIn (λ _. 0) fences_levels (λ k a ts rest x. listed_some FenceForm a ts rest x.1) n))

splitting_levels : (n : ℕ) → Levels Split simple_depth n
splitting_levels n = levels_made _ _ _ simple_depth n (λ c. split_is (expression_depth c.0.0.1) (expression_depth c.0.1)) (levels_lead PerhapsCall _ _ n (levels_lead (Word' word.TeamSplit) _ _ n (levels_parens _ _ n (levels_inside SplitIn _ split_levels n))))
  where
    split_is : (a b : ℕ) → around (max a b) ≡ around (max (max (max 0 a) b) 0)
    split_is a b = omega arith

simple_within : (n : ℕ) (x : Simple) (ts rest : List Token) → SimpleForm n x ts rest → simple_depth x ≤ n
simple_within n x ts rest (assign c) = (assign_levels n).within x ts rest c
simple_within n x ts rest (aim c) = (aim_levels n).within x ts rest c
simple_within n x ts rest (print c) = (print_levels n).within x ts rest c
simple_within n x ts rest (call c) = (call_levels n).within x ts rest c
simple_within n x ts rest (spawn c) = (spawn_levels n).within x ts rest c
simple_within n x ts rest (notify c) = (notify_levels n).within x ts rest c
simple_within n x ts rest (wait c) = (wait_levels n).within x ts rest c
simple_within n x ts rest (copy c) = (copying_levels n).within x ts rest c
simple_within n x ts rest (cofence c) = (cofence_levels n).within x ts rest c
simple_within n x ts rest (split c) = (splitting_levels n).within x ts rest c

simple_again : (n m : ℕ) (x : Simple) (ts rest : List Token) → SimpleForm n x ts rest → simple_depth x ≤ m → SimpleForm m x ts rest
simple_again n m x ts rest (assign c) le = assign ((assign_levels n).again m x ts rest c le)
simple_again n m x ts rest (aim c) le = aim ((aim_levels n).again m x ts rest c le)
simple_again n m x ts rest (print c) le = print ((print_levels n).again m x ts rest c le)
simple_again n m x ts rest (call c) le = call ((call_levels n).again m x ts rest c le)
simple_again n m x ts rest (spawn c) le = spawn ((spawn_levels n).again m x ts rest c le)
simple_again n m x ts rest (notify c) le = notify ((notify_levels n).again m x ts rest c le)
simple_again n m x ts rest (wait c) le = wait ((wait_levels n).again m x ts rest c le)
simple_again n m x ts rest (copy c) le = copy ((copying_levels n).again m x ts rest c le)
simple_again n m x ts rest (cofence c) le = cofence ((cofence_levels n).again m x ts rest c le)
simple_again n m x ts rest (split c) le = split ((splitting_levels n).again m x ts rest c le)

pub simple_levels : (n : ℕ) → Levels SimpleForm simple_depth n
simple_levels n = record { within = simple_within n; again = simple_again n }
