-- A statement without a block is spelled again by the tokens that it is printed with.
use Rattle.std.proofs.Common.{◌≡◌, ℕ, zero, suc, ◌≤◌, Bool, true, false, List, [], ◌∷◌, ◌++◌, map, length, Option, Some, None, inl, inr, refl, ap, sym, ◌∙◌, subst, append_assoc, arith}
use Rattle.std.specs.Prelude.{codes}
use Rattle.std.specs.List.{flat_map}
use Rattle.caf_lexer.specs.declared.token.Token.{Token}
use Rattle.caf_lexer.specs.declared.token.What.{What}
use Rattle.caf_lexer.specs.declared.token.What.TheVariants as what
use Rattle.caf_lexer.specs.declared.token.Sign.TheVariants as sign
use Rattle.caf_lexer.specs.declared.token.Word.TheVariants as word
use Rattle.caf_lexer.specs.declared.piece.Piece.TheVariants as piece
use Rattle.caf_lexer.specs.Spelling.{name_of, words}
use Rattle.caf_tree.specs.declared.expr.Team.{Team}
use Rattle.caf_tree.specs.declared.expr.Place.{Place}
use Rattle.caf_tree.specs.declared.expr.Variable.{Variable}
use Rattle.caf_tree.specs.declared.expr.Expr.{Expr}
use Rattle.caf_tree.specs.declared.stmt.Range.{Range}
use Rattle.caf_tree.specs.declared.stmt.Range.TheVariants as range
use Rattle.caf_tree.specs.declared.stmt.Section.{Section}
use Rattle.caf_tree.specs.declared.stmt.OwnEvent.{OwnEvent}
use Rattle.caf_tree.specs.declared.stmt.Printed.{Printed}
use Rattle.caf_tree.specs.declared.stmt.Printed.TheVariants as printed
use Rattle.caf_tree.specs.declared.stmt.Key.{Key}
use Rattle.caf_tree.specs.declared.stmt.Key.TheVariants as key
use Rattle.caf_tree.specs.declared.stmt.FenceClass.{FenceClass}
use Rattle.caf_tree.specs.declared.stmt.Fence.{Fence}
use Rattle.caf_tree.specs.declared.stmt.Fence.TheVariants as fence
use Rattle.caf_tree.specs.declared.stmt.Simple.{Simple}
use Rattle.caf_tree.specs.declared.stmt.Simple.TheVariants as s
use Rattle.caf_tree.specs.Forms.{Takes, Just, Called, Word', Sign', Name, Maybe, Many, Both, Made, Either, ◌▸◌, ◌◂◌, or_none, InParentheses, Inside}
use Rattle.caf_tree.specs.Expressions.{Inner, Expression, PlaceForm, VariableForm, team_what}
use Rattle.caf_tree.specs.Statements.{section_of, own_of, class_name, ClassForm, FenceForm, RangeForm, OwnForm, SectionForm, KeyForm, KeysForm, CopyIn, SplitIn, FencesIn, ArgumentsIn, Nothing, List', PerhapsList, PrintedForm, PerhapsCall, SimpleForm, assign, aim, print, call, spawn, notify, wait, copy, cofence, split, Assign, Aim, Print, Call, Spawn, Notify, Wait, Copy, Cofence, Split}
use Rattle.caf_tree.specs.Said.{if_any, each_after, listed, perhaps_list, in_parentheses, of_sign, of_name, comma, place_said, expression_said, range_said, section_said, own_said, event_said, key_said, fence_said, printed_said, simple_said}
use Rattle.caf_printer.proofs.Printable.{Said, whats, Printable, Fine, IsName, Each, each_append}
use Rattle.caf_printer.proofs.Told as t
use Rattle.caf_printer.proofs.Told.{Told, Marked, told_name, told_both, told_before, told_word, told_sign, told_after, told_made, told_maybe, told_many, told_either, told_such, told_just, told_parentheses, told_inside, told_listed}
use Rattle.caf_printer.proofs.Expressions.{told_inner, told_expression, told_place, told_event, told_team}

-- ---- sections and events

-- what stands within the parentheses of a section
abbrev within : Range → Said
within range.Whole = []
within (range.Element i) = expression_said i
within (range.Between i j) = (if_any expression_said i ++ of_sign sign.Colon) ++ if_any expression_said j

told_range : (n : ℕ) → Told (RangeForm n) within
told_range n = told_either _ _ within (told_made range.Element _ _ within (told_expression n) (λ i. refl))
    (told_made _ _ _ within (told_both _ _ _ _ (told_after _ _ _ _ (told_maybe _ _ (told_expression n)) (t.marked_sign sign.Colon)) (told_maybe _ _ (told_expression n))) (λ (p : Option Expr × Option Expr). refl))

abbrev is_range : Range → Type 0
is_range range.Whole = ⊥
is_range (range.Element i) = Unit {0}
is_range (range.Between i j) = Unit {0}

range_is : (n : ℕ) (r : Range) (ts rest : List Token) → RangeForm n r ts rest → is_range r
range_is n r ts rest (inl m) = subst is_range (sym m.1) tt
range_is n r ts rest (inr m) = subst is_range (sym m.1) tt

told_section_range : (n : ℕ) → Told (Inside RangeForm n) within
told_section_range n = told_inside RangeForm within told_range n

inside_is : (n : ℕ) (r : Range) (ts rest : List Token) → Inside RangeForm n r ts rest → is_range r
inside_is zero r ts rest m = absurd m
inside_is (suc n) r ts rest m = range_is n r ts rest m

range_within : (r : Range) → is_range r → range_said r ≡ in_parentheses (within r)
range_within range.Whole k = absurd k
range_within (range.Element i) k = refl
range_within (range.Between i j) k = ap in_parentheses (sym (append_assoc (if_any expression_said i) (of_sign sign.Colon) (if_any expression_said j)))

abbrev SectionParts : Type 0
SectionParts = (List ℕ × Option Range) × Option (Place Expr)

abbrev parts_said : SectionParts → Said
parts_said c = (of_name c.0.0 ++ if_any (λ r. in_parentheses (within r)) c.0.1) ++ if_any (place_said expression_said) c.1

section_same : (n : ℕ) (c : SectionParts) (ts rest : List Token) → Both (Both Name (Maybe (InParentheses (Inside RangeForm n)))) (Maybe (PlaceForm n)) c ts rest → section_said (section_of c) ≡ parts_said c
section_same n ((x, None), p) ts rest m = refl
section_same n ((x, Some r), p) ts rest m = ap (λ us. what.Name x ∷ (us ++ if_any (place_said expression_said) p)) (range_within r (inside_is n r _ _ m.1.2.2.1))

told_section : (n : ℕ) → Told (SectionForm n) section_said
told_section n = t.told_where section_of _ _ section_said
    (told_both _ _ _ _ (told_both _ _ _ _ told_name (told_maybe _ _ (told_parentheses _ _ (told_section_range n)))) (told_maybe _ _ (told_place n)))
    (section_same n)

told_own : (n : ℕ) → Told (OwnForm n) own_said
told_own n = told_made own_of _ _ own_said (told_both _ _ _ _ told_name (told_maybe _ _ (told_parentheses _ _ (told_inner n)))) (λ v. refl)

told_key : (n : ℕ) → Told (KeyForm n) key_said
told_key n = told_either _ _ key_said (told_made key.Pre _ _ key_said (told_word word.Pre _ _ (told_sign sign.Assign _ _ (told_own n))) (λ v. refl))
    (told_either _ _ key_said (told_made key.Srce _ _ key_said (told_word word.Srce _ _ (told_sign sign.Assign _ _ (told_event n))) (λ v. refl))
    (told_made key.Deste _ _ key_said (told_word word.Deste _ _ (told_sign sign.Assign _ _ (told_event n))) (λ v. refl)))

told_keys : (n : ℕ) → Told (KeysForm n) (each_after sign.Comma key_said)
told_keys n = told_such _ _ _ (told_many _ _ (told_sign sign.Comma _ _ (told_key n)))

-- ---- lists

apart : {A : Type 0} (x : A) (others : List A) → x ∷ others ≡ [] → ⊥
apart x others k = cc

nothing_made : (front end : List Token) → whats front ≡ in_parentheses [] → Nothing tt (front ++ end) end
nothing_made front end k =
    let (g, m, j) = t.head front (what.Sign sign.LeftParenthesis) (of_sign sign.RightParenthesis) end k in
    (g ++ end, m, (g ++ end, refl, t.takes g end (what.Sign sign.RightParenthesis) j))

nothing_past : (ts rest : List Token) → Nothing tt ts rest → Each Fine (whats ts) → Each Fine (whats rest)
nothing_past ts rest m k =
    let x = (t.taken (what.Sign sign.LeftParenthesis) ts m.0 m.1 k).1 in
    let y : Each Fine (whats m.2.0) = subst (λ us. Each Fine (whats us)) m.2.1 x in
    (t.taken (what.Sign sign.RightParenthesis) m.2.0 rest m.2.2 y).1

module _ {A : Type 0} (P : ℕ → List A → List Token → List Token → Type 0) (p : A → Said) (h : (n : ℕ) → Told (P n) (listed p)) (n : ℕ) where
  inner : Told (InParentheses (Inside P n)) (λ l. in_parentheses (listed p l))
  inner = told_parentheses _ _ (told_inside P (listed p) h n)

  pub told_list : Told (List' P n) (λ l. in_parentheses (listed p l))
  told_list = record { again = again; fine = fine }
    where
      again : (l : List A) (ts rest : List Token) → List' P n l ts rest → (front end : List Token) → whats front ≡ in_parentheses (listed p l) → List' P n l (front ++ end) end
      again [] ts rest m front end k = inr (tt, refl, nothing_made front end k)
      again (x ∷ others) ts rest (inl m) front end k = inl (inner.again (x ∷ others) ts rest m front end k)
      again (x ∷ others) ts rest (inr m) front end k = absurd (apart x others m.1)

      fine : (l : List A) (ts rest : List Token) → List' P n l ts rest → Each Fine (whats ts) → Each Printable (in_parentheses (listed p l)) × Each Fine (whats rest)
      fine l ts rest (inl m) k = inner.fine l ts rest m k
      fine l ts rest (inr m) k = (subst (λ us. Each Printable (in_parentheses (listed p us))) (sym m.1) (tt, (tt, tt)), nothing_past ts rest m.2 k)

  some_list : (l : List A) → Each Printable (in_parentheses (listed p l)) → Each Printable (perhaps_list p l)
  some_list [] k = tt
  some_list (x ∷ others) k = k

  pub told_perhaps_list : Told (PerhapsList P n) (perhaps_list p)
  told_perhaps_list = record { again = again; fine = fine }
    where
      again : (l : List A) (ts rest : List Token) → PerhapsList P n l ts rest → (front end : List Token) → whats front ≡ perhaps_list p l → PerhapsList P n l (front ++ end) end
      again [] ts rest m front end k = (None, refl, t.nothing front end k)
      again (x ∷ others) ts rest (None, e, m) front end k = absurd (apart x others e)
      again (x ∷ others) ts rest (Some items, e, m) front end k = (Some (x ∷ others), refl, told_list.again (x ∷ others) ts rest (subst (λ l. List' P n l ts rest) (sym e) m) front end k)

      fine : (l : List A) (ts rest : List Token) → PerhapsList P n l ts rest → Each Fine (whats ts) → Each Printable (perhaps_list p l) × Each Fine (whats rest)
      fine l ts rest (None, e, m) k = (subst (λ us. Each Printable (perhaps_list p us)) (sym e) tt, subst (λ us. Each Fine (whats us)) m k)
      fine l ts rest (Some items, e, m) k =
          let x = told_list.fine items ts rest m k in
          (subst (λ us. Each Printable (perhaps_list p us)) (sym e) (some_list items x.0), x.1)

told_arguments : (n : ℕ) → Told (ArgumentsIn n) (listed expression_said)
told_arguments n = told_listed _ _ (told_expression n)

-- ---- fences

down_is : IsName (codes "down")
unfolding name_of words
down_is = record { begins = refl; all = refl; short = omega arith; named = refl }

up_is : IsName (codes "up")
unfolding name_of words
up_is = record { begins = refl; all = refl; short = omega arith; named = refl }

marked_called : (x : List ℕ) → IsName x → Marked (Called x) (of_name x)
marked_called x k = record {
  made = λ front end h. t.takes front end (what.Name x) h;
  sound = (k, tt);
  past = λ ts rest m e. (t.taken (what.Name x) ts rest m e).1;
}

told_class : Told ClassForm (λ c. of_name (class_name c))
told_class = told_just (λ c. what.Name (class_name c)) (λ c k. k)

told_fence : Told FenceForm fence_said
told_fence = told_either _ _ fence_said
    (told_made fence.Down _ _ fence_said (told_before _ _ _ _ (marked_called (codes "down") down_is) (told_sign sign.Assign _ _ told_class)) (λ c. refl))
    (told_made fence.Up _ _ fence_said (told_before _ _ _ _ (marked_called (codes "up") up_is) (told_sign sign.Assign _ _ told_class)) (λ c. refl))

told_fences : (n : ℕ) → Told (FencesIn n) (listed fence_said)
told_fences n = told_such _ _ _ (told_listed _ _ told_fence)

-- ---- statements

marked_call : Marked PerhapsCall []
marked_call = record { made = λ front end h. inr (t.nothing front end h); sound = tt; past = past }
  where
    past : (ts rest : List Token) → PerhapsCall tt ts rest → Each Fine (whats ts) → Each Fine (whats rest)
    past ts rest (inl m) k = (t.taken (what.Word word.Call) ts rest m k).1
    past ts rest (inr m) k = subst (λ us. Each Fine (whats us)) m k

told_printed : (n : ℕ) → Told (PrintedForm n) printed_said
told_printed n = told_either _ _ printed_said (told_made printed.Value _ _ printed_said (told_expression n) (λ x. refl)) (told_made printed.Text _ _ printed_said (told_just what.Text (λ x k. k)) (λ x. refl))

told_copied : (n : ℕ) → Told (CopyIn n) (λ p. (section_said p.0.0 ++ what.Sign sign.Comma ∷ section_said p.0.1) ++ each_after sign.Comma key_said p.1)
told_copied n = told_both _ _ _ _ (told_both _ _ _ _ (told_section n) (told_sign sign.Comma _ _ (told_section n))) (told_keys n)

abbrev parted_said : ((Team × Expr) × Expr) × List ℕ → Said
parted_said p = ((team_what p.0.0.0 ∷ comma (expression_said p.0.0.1)) ++ comma (expression_said p.0.1)) ++ comma (of_name p.1)

told_parted : (n : ℕ) → Told (SplitIn n) parted_said
told_parted n = told_both _ _ _ _ (told_both _ _ _ _ (told_both _ _ _ _ told_team (told_sign sign.Comma _ _ (told_expression n))) (told_sign sign.Comma _ _ (told_expression n))) (told_sign sign.Comma _ _ told_name)

module _ (n : ℕ) where
  told_assign : Told (Assign n) simple_said
  told_assign = told_made _ _ _ simple_said (told_both _ _ _ _ (told_event n) (told_sign sign.Assign _ _ (told_expression n))) (λ (p : Variable Expr × Expr). refl)

  told_aim : Told (Aim n) simple_said
  told_aim = told_made _ _ _ simple_said (told_both _ _ _ _ told_name (told_sign sign.Arrow _ _ (told_section n))) (λ (p : List ℕ × Section). refl)

  told_print : Told (Print n) simple_said
  told_print = told_made s.Print _ _ simple_said (told_word word.Print _ _ (told_sign sign.Asterisk _ _ (told_many _ _ (told_sign sign.Comma _ _ (told_printed n))))) (λ l. refl)

  told_call : Told (Call n) simple_said
  told_call = told_made _ _ _ simple_said (told_word word.Call _ _ (told_both _ _ _ _ told_name (told_perhaps_list ArgumentsIn expression_said told_arguments n))) (λ (p : List ℕ × List Expr). refl)

  told_spawn : Told (Spawn n) simple_said
  told_spawn = told_made _ _ _ simple_said
      (told_word word.Spawn _ _ (told_both _ _ _ _ (told_both _ _ _ _ (told_both _ _ _ _ (told_maybe _ _ (told_parentheses _ _ (told_inside VariableForm _ told_event n))) told_name) (told_list ArgumentsIn expression_said told_arguments n)) (told_place n)))
      (λ (p : ((Option (Variable Expr) × List ℕ) × List Expr) × Place Expr). ap (λ us. what.Word word.Spawn ∷ (us ++ place_said expression_said p.1))
      (sym (append_assoc (if_any (λ v. in_parentheses (event_said v)) p.0.0.0) (what.Name p.0.0.1 ∷ []) (in_parentheses (listed expression_said p.0.1)))))

  told_notify : Told (Notify n) simple_said
  told_notify = told_made s.Notify _ _ simple_said (told_before _ _ _ _ marked_call (told_word word.EventNotify _ _ (told_parentheses _ _ (told_inside VariableForm _ told_event n)))) (λ v. refl)

  told_wait : Told (Wait n) simple_said
  told_wait = told_made s.Wait _ _ simple_said (told_before _ _ _ _ marked_call (told_word word.EventWait _ _ (told_parentheses _ _ (told_inside OwnForm _ told_own n)))) (λ v. refl)

  told_copy : Told (Copy n) simple_said
  told_copy = told_made _ _ _ simple_said (told_before _ _ _ _ marked_call (told_word word.CopyAsync _ _ (told_parentheses _ _ (told_inside CopyIn _ told_copied n))))
      (λ (p : (Section × Section) × List Key). refl)

  told_cofence : Told (Cofence n) simple_said
  told_cofence = told_made s.Cofence _ _ simple_said (told_word word.Cofence _ _ (told_perhaps_list FencesIn fence_said told_fences n)) (λ l. refl)

  told_split : Told (Split n) simple_said
  told_split = told_made _ _ _ simple_said (told_before _ _ _ _ marked_call (told_word word.TeamSplit _ _ (told_parentheses _ _ (told_inside SplitIn _ told_parted n))))
      (λ (p : ((Team × Expr) × Expr) × List ℕ). refl)

  pub told_simple : Told (SimpleForm n) simple_said
  told_simple = record { again = again; fine = fine }
    where
      again : (x : Simple) (ts rest : List Token) → SimpleForm n x ts rest → (front end : List Token) → whats front ≡ simple_said x → SimpleForm n x (front ++ end) end
      again x ts rest (assign m) front end k = assign (told_assign.again x ts rest m front end k)
      again x ts rest (aim m) front end k = aim (told_aim.again x ts rest m front end k)
      again x ts rest (print m) front end k = print (told_print.again x ts rest m front end k)
      again x ts rest (call m) front end k = call (told_call.again x ts rest m front end k)
      again x ts rest (spawn m) front end k = spawn (told_spawn.again x ts rest m front end k)
      again x ts rest (notify m) front end k = notify (told_notify.again x ts rest m front end k)
      again x ts rest (wait m) front end k = wait (told_wait.again x ts rest m front end k)
      again x ts rest (copy m) front end k = copy (told_copy.again x ts rest m front end k)
      again x ts rest (cofence m) front end k = cofence (told_cofence.again x ts rest m front end k)
      again x ts rest (split m) front end k = split (told_split.again x ts rest m front end k)

      fine : (x : Simple) (ts rest : List Token) → SimpleForm n x ts rest → Each Fine (whats ts) → Each Printable (simple_said x) × Each Fine (whats rest)
      fine x ts rest (assign m) k = told_assign.fine x ts rest m k
      fine x ts rest (aim m) k = told_aim.fine x ts rest m k
      fine x ts rest (print m) k = told_print.fine x ts rest m k
      fine x ts rest (call m) k = told_call.fine x ts rest m k
      fine x ts rest (spawn m) k = told_spawn.fine x ts rest m k
      fine x ts rest (notify m) k = told_notify.fine x ts rest m k
      fine x ts rest (wait m) k = told_wait.fine x ts rest m k
      fine x ts rest (copy m) k = told_copy.fine x ts rest m k
      fine x ts rest (cofence m) k = told_cofence.fine x ts rest m k
      fine x ts rest (split m) k = told_split.fine x ts rest m k
