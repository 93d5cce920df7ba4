-- What a statement means keeps the rules, in the program with slots.
use Rattle.std.proofs.Common.{◌≡◌, ◌∙◌, ℕ, Bool, true, false, suc, arith, List, [], ◌∷◌, map, length, Option, Some, None, Result, Ok, Err, refl, sym, ap, subst, slice_get, pos, codes, bytes_eq}
use Rattle.std.specs.Prelude.{◌&&◌, ◌||◌, not, nat_eq}
use Rattle.std.specs.List.{list_all, list_any}
use Rattle.std.proofs.lemmas.Bool.{eqb-true}
use Rattle.caf_base.specs.declared.object.Kind.TheVariants as sort
use Rattle.caf_tree.specs.declared.expr.Place.{Place}
use Rattle.caf_tree.specs.declared.expr.Variable.{Variable}
use Rattle.caf_tree.specs.declared.expr.Team.{Team}
use Rattle.caf_tree.specs.declared.expr.Expr.{Expr}
use Rattle.caf_tree.specs.declared.expr.Expr.TheViews.{out-Expr}
use Rattle.caf_tree.specs.declared.expr.Expr.TheOpen.{Expr-F}
use Rattle.caf_tree.specs.declared.stmt.Range.{Range}
use Rattle.caf_tree.specs.declared.stmt.Range.TheVariants as written
use Rattle.caf_tree.specs.declared.stmt.Section.{Section}
use Rattle.caf_tree.specs.declared.stmt.OwnEvent.{OwnEvent}
use Rattle.caf_tree.specs.declared.stmt.Printed.{Printed}
use Rattle.caf_tree.specs.declared.stmt.Printed.TheVariants as printed
use Rattle.caf_tree.specs.declared.stmt.Key.{Key}
use Rattle.caf_tree.specs.declared.stmt.Key.TheVariants as key
use Rattle.caf_tree.specs.declared.stmt.Simple.{Simple}
use Rattle.caf_tree.specs.declared.stmt.Simple.TheVariants as s
use Rattle.caf_tree.specs.declared.stmt.Stmt.{Stmt}
use Rattle.caf_tree.specs.declared.stmt.Stmt.TheOpen.{Stmt-F}
use Rattle.caf_tree.specs.declared.stmt.Stmt.TheViews.{roll-Stmt}
use Rattle.caf_tree.specs.declared.stmt.Stmt.TheFolds.{ind-Stmt, fold-roll-Stmt, map-Stmt}
use Rattle.caf_program.specs.declared.program.ValueKind.{ValueKind}
use Rattle.caf_program.specs.declared.program.ValueKind.TheVariants.{Integer, Logical}
use Rattle.caf_program.specs.declared.program.Intent.{Intent}
use Rattle.caf_program.specs.declared.program.Intent.TheVariants.{In, InOut}
use Rattle.caf_program.specs.declared.program.DummyR.{DummyR}
use Rattle.caf_program.specs.declared.program.SubR.{SubR}
use Rattle.caf_program.specs.declared.expr.TeamR.{TeamR}
use Rattle.caf_program.specs.declared.expr.PlaceR.{PlaceR}
use Rattle.caf_program.specs.declared.expr.ExprR.{ExprR}
use Rattle.caf_program.specs.declared.expr.ExprR.TheVariants as R
use Rattle.caf_program.specs.declared.parts.VariableR.{VariableR}
use Rattle.caf_program.specs.declared.parts.VariableR.TheVariants as V
use Rattle.caf_program.specs.declared.parts.ActualR.{ActualR}
use Rattle.caf_program.specs.declared.parts.ActualR.TheVariants as actual
use Rattle.caf_program.specs.declared.parts.PrintR.{PrintR}
use Rattle.caf_program.specs.declared.parts.PrintR.TheVariants as part
use Rattle.caf_program.specs.declared.parts.RangeR.{RangeR}
use Rattle.caf_program.specs.declared.parts.RangeR.TheVariants as range
use Rattle.caf_program.specs.declared.parts.RegionR.{RegionR}
use Rattle.caf_program.specs.declared.parts.SectionR.{SectionR}
use Rattle.caf_program.specs.declared.parts.SectionR.TheVariants as section
use Rattle.caf_program.specs.declared.parts.OwnEventR.{OwnEventR}
use Rattle.caf_program.specs.declared.parts.EventR.{EventR}
use Rattle.caf_program.specs.declared.parts.CopyEventR.{CopyEventR}
use Rattle.caf_program.specs.declared.parts.CopyEventR.TheVariants as role
use Rattle.caf_program.specs.declared.stmt.LoopVariableR.{LoopVariableR}
use Rattle.caf_program.specs.declared.stmt.LoopVariableR.TheVariants as counter
use Rattle.caf_program.specs.declared.stmt.StmtR.{StmtR}
use Rattle.caf_program.specs.declared.stmt.StmtR.TheVariants as T
use Rattle.caf_program.specs.declared.stmt.StmtR.TheVariants.{rolls-Assign, rolls-Aim, rolls-Print, rolls-If, rolls-Do, rolls-While, rolls-Call, rolls-Spawn, rolls-Notify, rolls-Wait, rolls-Copy, rolls-Cofence, rolls-Split, rolls-Finish}
use Rattle.caf_program.specs.declared.stmt.StmtR.TheOpen.{StmtR-F}
use Rattle.caf_program.specs.declared.stmt.StmtR.TheFolds.{fold-roll-StmtR, map-StmtR}
use Rattle.caf_program.specs.declared.stmt.StmtR.TheViews.{roll-StmtR}
use Rattle.caf_program.specs.Kinds.{Scope as Slots, FrameCell, has_kind, is_integer, is_logical, agree_in_kind, provided, object_kind, scalar_kind, coarray_kind, copointer_kind, holds_team, holds_event, is_coarray, cell_kind, is_writable, names_team, kind_of}
use Rattle.caf_program.specs.Rules.{Loops, Keeps, is_object, is_cell, free_object, free_cell, fits_place, fits_on, variable_kind, may_assign, may_count, fits_part, fits_range, region_kind, section_kind, fits_own_event, fits_event, fits_done, fits_copy_event, once_each, fits_dummy, fit_dummies, fits_sub, all_keep, rule_layer, keeps_rules}
use Rattle.caf_declare.specs.declared.fault.Fault.{Fault}
use Rattle.caf_declare.specs.declared.symbol.Symbol.{Symbol}
use Rattle.caf_declare.specs.declared.symbol.Symbol.TheVariants as symbol
use Rattle.caf_declare.specs.declared.symbol.Taken.{Taken}
use Rattle.caf_declare.specs.Table.{Name}
use Rattle.caf_declare.specs.Names.{after, among}
use Rattle.caf_declare.specs.Operators.{is_kind}
use Rattle.caf_declare.specs.Globals.{value_object, copointer_object}
use Rattle.caf_kinds.specs.declared.scope.Scope.{Scope}
use Rattle.caf_kinds.specs.Names.{look}
use Rattle.caf_kinds.specs.Expressions.{Sense, sense, operand, team_meant, place_meant, coarray, if_said, place_said}
use Rattle.caf_kinds.specs.Statements.{argument_for, wanted, writable, free, may_write, target_as, target, counter_as, counts, lent, lent_of_kind, lent_variable, lent_form, arguments, counted, or_none, subroutine_as, dummies_at, passed, event_index, own_event_as, own_event, is_shared, place_at, place_on, event, done_event, between, elements, region_of, scalar_region, pointed_at, pointed_section, section_as, section_meant, section_of_kind, region_in, copointer_as, aimed, key_meant, keys_meant, each_once, part_of, printed_meant, all_printed, down_of, team_as, assigned, aims, call_meant, spawn_meant, copied, split_meant, action, Meaning, block, step_meant, statement_layer, statement}
use Rattle.caf_kinds.proofs.Went.{went, held, unheld, chosen, fine, same_value, no_value}
use Rattle.caf_kinds.proofs.Looked.{Opt, same_name, is_same, one_place}
use Rattle.caf_kinds.proofs.Stands.{World, Stands, IsObject, IsCell, IsSub, taken_of, object_of_kind, scalar_of_kind, shared_of, copointer_of, event_of, team_of, cell_of_kind, cell_written}
use Rattle.caf_kinds.proofs.Kindly.{has, same_kind, both, given, provided_parts, kind_number, slot_of, slot_named, IsGoodIf, variable_good, if_kindly, if_place_kindly, IsKindly, IsPlaceKindly, IfKindly, integer_kindly, operand_kindly, kindly, wanted_kindly, wanted_has, team_kindly, place_kindly}

-- what a statement's form asks
rule_of : (slots : Slots) (f : StmtR-F StmtR) (x : StmtR) → roll-StmtR f ≡ x → (loops : Loops) → keeps_rules slots x loops ≡ rule_layer slots (map-StmtR StmtR Keeps (keeps_rules slots) f) loops
rule_of slots f x is loops = ap (λ (k : Keeps). k loops) (ap (keeps_rules slots) (sym is) ∙ fold-roll-StmtR Keeps (rule_layer slots) f)

abbrev own_of : ℕ → ExprR → OwnEventR
own_of o i = record { object = o; index = i }

abbrev event_with : OwnEventR → Option (PlaceR ExprR) → EventR
event_with own place = record { own = own; place = place }

-- ---- loops

true_false : {C : Type 0} (b : Bool) → b ≡ true → b ≡ false → C
true_false b h k = absurd (cc)

neither_left : (a b : Bool) → (a || b) ≡ false → a ≡ false
neither_left false b h = refl
neither_left true b h = h

neither_right : (a b : Bool) → (a || b) ≡ false → b ≡ false
neither_right false b h = h
neither_right true b h = absurd (cc)

not_true : (b : Bool) → b ≡ false → not b ≡ true
not_true false h = refl
not_true true h = absurd (cc)

same_number : (a b : ℕ) → nat_eq a b ≡ true → a ≡ b
same_number a b h = eqb-true a b h

module _ (w : World) (scope : Scope) where
  -- the name of a loop's variable is that of its slot
  abbrev pub IsCounted : Name → LoopVariableR → Type 0
  IsCounted v (counter.Scalar o) = slice_get w.labels o ≡ Some v
  IsCounted v (counter.Local c) = slice_get w.cell_labels c ≡ Some v

  abbrev pub AreAround : List Name → Loops → Type 0
  AreAround [] [] = Unit {0}
  AreAround (v ∷ names) (r ∷ loops) = IsCounted v r × AreAround names loops
  AreAround _ _ = ⊥

  other_object : (name v : Name) (o : ℕ) (r : LoopVariableR) → slice_get w.labels o ≡ Some name → bytes_eq name v ≡ false → IsCounted v r → is_object o r ≡ false
  other_object name v o (counter.Local c) h e k = refl
  other_object name v o (counter.Scalar p) h e k = step (nat_eq o p) refl
    where
      step : (b : Bool) → nat_eq o p ≡ b → b ≡ false
      step false q = refl
      step true q =
          let here : slice_get w.labels p ≡ Some name = subst (λ n. slice_get w.labels n ≡ Some name) (same_number o p q) h in
          let is : name ≡ v = one_place w.labels p name v here k in
          true_false (bytes_eq name v) (subst (λ n. bytes_eq name n ≡ true) is (is_same name)) e

  other_cell : (name v : Name) (c : ℕ) (r : LoopVariableR) → slice_get w.cell_labels c ≡ Some name → bytes_eq name v ≡ false → IsCounted v r → is_cell c r ≡ false
  other_cell name v c (counter.Scalar o) h e k = refl
  other_cell name v c (counter.Local p) h e k = step (nat_eq c p) refl
    where
      step : (b : Bool) → nat_eq c p ≡ b → b ≡ false
      step false q = refl
      step true q =
          let here : slice_get w.cell_labels p ≡ Some name = subst (λ n. slice_get w.cell_labels n ≡ Some name) (same_number c p q) h in
          let is : name ≡ v = one_place w.cell_labels p name v here k in
          true_false (bytes_eq name v) (subst (λ n. bytes_eq name n ≡ true) is (is_same name)) e

  object_free : (name : Name) (o : ℕ) (names : List Name) (loops : Loops) → slice_get w.labels o ≡ Some name → among names name ≡ false → AreAround names loops → free_object loops o ≡ true
  object_free name o [] [] h e k = refl
  object_free name o [] (r ∷ loops) h e k = absurd k
  object_free name o (v ∷ names) [] h e k = absurd k
  object_free name o (v ∷ names) (r ∷ loops) h e k =
      both (not (is_object o r)) (free_object loops o) (not_true (is_object o r) (other_object name v o r h (neither_left (bytes_eq name v) (among names name) e) k.0))
      (object_free name o names loops h (neither_right (bytes_eq name v) (among names name) e) k.1)

  abbrev free_of_cell : Loops → ℕ → Bool
  free_of_cell loops c = list_all (λ v. not (is_cell c v)) loops

  cell_free : (name : Name) (c : ℕ) (names : List Name) (loops : Loops) → slice_get w.cell_labels c ≡ Some name → among names name ≡ false → AreAround names loops → free_of_cell loops c ≡ true
  cell_free name c [] [] h e k = refl
  cell_free name c [] (r ∷ loops) h e k = absurd k
  cell_free name c (v ∷ names) [] h e k = absurd k
  cell_free name c (v ∷ names) (r ∷ loops) h e k =
      both (not (is_cell c r)) (free_of_cell loops c) (not_true (is_cell c r) (other_cell name v c r h (neither_left (bytes_eq name v) (among names name) e) k.0))
      (cell_free name c names loops h (neither_right (bytes_eq name v) (among names name) e) k.1)

  -- whether a slot may be written inside loops
  abbrev slot_free : Loops → Option LoopVariableR → Bool
  slot_free loops None = true
  slot_free loops (Some (counter.Scalar o)) = free_object loops o
  slot_free loops (Some (counter.Local c)) = free_cell w.scope loops c

  assign_slot : (loops : Loops) (v : VariableR) → may_assign w.scope loops v ≡ slot_free loops (slot_of v)
  assign_slot loops (V.Scalar o) = refl
  assign_slot loops (V.Local c) = refl
  assign_slot loops (V.Element o i) = refl
  assign_slot loops (V.Coindexed o i p) = refl
  assign_slot loops (V.Pointed c i) = refl

  -- what is written is free of the loops around
  write_free : (line : ℕ) (names : List Name) (loops : Loops) (name : Name) (x : Symbol) (u : Unit {0}) → AreAround names loops → Stands w name x → may_write line names name (Some x) ≡ Ok u → slot_free loops (slot_named x) ≡ true
  write_free line names loops name x u around st h =
      let f = went _ _ u h in
      let e : among names name ≡ false = (unheld (among names name) tt u _ f.goes).0 in
      by_symbol x f.value st e f.is
    where
      by_symbol : (x : Symbol) (u : Unit {0}) → Stands w name x → among names name ≡ false → writable line name (Some x) ≡ Ok u → slot_free loops (slot_named x) ≡ true
      by_symbol (symbol.Scalar k o shared) u st e h = object_free name o names loops st.label e around
      by_symbol (symbol.Array k o shared) u st e h = object_free name o names loops st.label e around
      by_symbol (symbol.Local k c true) u st e h =
          both (is_writable (slice_get w.scope.cells c)) (free_of_cell loops c) (cell_written w.scope.cells w.cell_labels name c k true st) (cell_free name c names loops st.label e around)
      by_symbol (symbol.Local k c false) u st e h = no_value _ u h
      by_symbol (symbol.Constant c) u st e h = refl
      by_symbol (symbol.Copointer k o) u st e h = refl
      by_symbol (symbol.Event o a b) u st e h = refl
      by_symbol (symbol.Team o) u st e h = refl
      by_symbol (symbol.Subroutine f) u st e h = refl

  module _ (stands : (name : Name) → Opt (Stands w) name (look scope name)) where
    -- ---- what is written

    abbrev IsTarget : Loops → ValueKind × VariableR → Type 0
    IsTarget loops t = (variable_kind w.scope t.1 ≡ Some t.0) × (may_assign w.scope loops t.1 ≡ true)

    good_target : (line : ℕ) (names : List Name) (loops : Loops) (name : Name) (o : Option Symbol) (t : ValueKind × VariableR) (u : Unit {0}) →
        AreAround names loops → Opt (Stands w) name o → IsGoodIf w scope stands o t → may_write line names name o ≡ Ok u → IsTarget loops t
    good_target line names loops name None t u around st g h = absurd g
    good_target line names loops name (Some x) t u around st g h = (g.0, assign_slot loops t.1 ∙ ap (slot_free loops) g.1 ∙ write_free line names loops name x u around st h)

    target_kept : (line : ℕ) (names : List Name) (loops : Loops) (v : Variable Expr) (t : ValueKind × VariableR) → AreAround names loops → target scope line names v ≡ Ok t → IsTarget loops t
    target_kept line names loops v t around h =
        let f = went _ _ t h in
        let g = went _ _ t f.goes in
        let good = variable_good w scope stands line v.name (look scope v.name) (if_said scope line v.subscript) (place_said scope line v.place) f.value (stands v.name) (if_kindly w scope stands line v.subscript) (if_place_kindly w scope stands line v.place) f.is in
        subst (IsTarget loops) (same_value f.value t g.goes) (good_target line names loops v.name (look scope v.name) f.value g.value around (stands v.name) good g.is)

    kept_by : (a x : StmtR) (loops : Loops) → fine a ≡ Ok x → keeps_rules w.scope a loops ≡ true → keeps_rules w.scope x loops ≡ true
    kept_by a x loops h k = subst (λ y. keeps_rules w.scope y loops ≡ true) (same_value a x h) k

    assigned_kept : (line : ℕ) (names : List Name) (loops : Loops) (v : Variable Expr) (e : Expr) (x : StmtR) → AreAround names loops → assigned scope line names v e ≡ Ok x → keeps_rules w.scope x loops ≡ true
    assigned_kept line names loops v e x around h =
        let f = went _ _ x h in
        let g = went _ _ x f.goes in
        let t = target_kept line names loops v f.value around f.is in
        let kinds : agree_in_kind (variable_kind w.scope f.value.1) (kind_of w.scope g.value) ≡ true =
        ap (λ k. agree_in_kind k (kind_of w.scope g.value)) t.0 ∙ wanted_has w scope stands line (codes "=") f.value.0 e g.value g.is in
        kept_by (T.Assign line f.value.1 g.value) x loops g.goes
        (rule_of w.scope (StmtR-F.Assign line f.value.1 g.value) (T.Assign line f.value.1 g.value) (rolls-Assign line f.value.1 g.value) loops
        ∙ both (agree_in_kind (variable_kind w.scope f.value.1) (kind_of w.scope g.value)) (may_assign w.scope loops f.value.1) kinds t.1)

    -- the variable of a loop counts, and its name is that of its slot
    abbrev IsCounter : Name → Loops → LoopVariableR → Type 0
    IsCounter name loops v = (may_count w.scope loops v ≡ true) × IsCounted name v

    counter_kept : (line : ℕ) (names : List Name) (loops : Loops) (name : Name) (o : Option Symbol) (v : LoopVariableR) (u : Unit {0}) →
        AreAround names loops → Opt (Stands w) name o → counter_as line name o ≡ Ok v → may_write line names name o ≡ Ok u → IsCounter name loops v
    counter_kept line names loops name None v u around st h k = no_value _ v h
    counter_kept line names loops name (Some (symbol.Constant c)) v u around st h k = no_value _ v h
    counter_kept line names loops name (Some (symbol.Scalar Integer o shared)) v u around st h k =
        subst (IsCounter name loops) (same_value (counter.Scalar o) v h) (
          both (is_integer (scalar_kind (slice_get w.scope.objects o))) (free_object loops o) (has Integer (scalar_kind (slice_get w.scope.objects o)) (scalar_of_kind w.scope.objects w.labels name o Integer shared st))
              (write_free line names loops name (symbol.Scalar Integer o shared) u around st k),
          st.label,
        )
    counter_kept line names loops name (Some (symbol.Local Integer c b)) v u around st h k =
        subst (IsCounter name loops) (same_value (counter.Local c) v h) (
          both (is_integer (cell_kind (slice_get w.scope.cells c))) (free_cell w.scope loops c) (has Integer (cell_kind (slice_get w.scope.cells c)) (cell_of_kind w.scope.cells w.cell_labels name c Integer b st))
              (write_free line names loops name (symbol.Local Integer c b) u around st k),
          st.label,
        )
    counter_kept line names loops name (Some (symbol.Scalar Logical o shared)) v u around st h k = no_value _ v h
    counter_kept line names loops name (Some (symbol.Local Logical c b)) v u around st h k = no_value _ v h
    counter_kept line names loops name (Some (symbol.Array _ _ _)) v u around st h k = no_value _ v h
    counter_kept line names loops name (Some (symbol.Copointer _ _)) v u around st h k = no_value _ v h
    counter_kept line names loops name (Some (symbol.Event _ _ _)) v u around st h k = no_value _ v h
    counter_kept line names loops name (Some (symbol.Team _)) v u around st h k = no_value _ v h
    counter_kept line names loops name (Some (symbol.Subroutine _)) v u around st h k = no_value _ v h

    counts_kept : (line : ℕ) (names : List Name) (loops : Loops) (name : Name) (v : LoopVariableR) → AreAround names loops → counts scope line names name ≡ Ok v → IsCounter name loops v
    counts_kept line names loops name v around h =
        let f = went _ _ v h in
        let g = went _ _ v f.goes in
        subst (IsCounter name loops) (same_value f.value v g.goes) (counter_kept line names loops name (look scope name) f.value g.value around (stands name) f.is g.is)

    -- ---- arguments

    lent_fits : (line : ℕ) (name : Name) (loops : Loops) (k : ValueKind) (v : VariableR) (a : ActualR) → variable_kind w.scope v ≡ Some k → may_assign w.scope loops v ≡ true → lent line name v ≡ Ok a → fits_dummy w.scope loops k InOut a ≡ true
    lent_fits line name loops k (V.Scalar o) a kind free h =
        subst (λ x. fits_dummy w.scope loops k InOut x ≡ true) (same_value (actual.Scalar o) a h) (both (has_kind k (scalar_kind (slice_get w.scope.objects o))) (free_object loops o) (has k (scalar_kind (slice_get w.scope.objects o)) kind) free)
    lent_fits line name loops k (V.Local c) a kind free h =
        subst (λ x. fits_dummy w.scope loops k InOut x ≡ true) (same_value (actual.Local c) a h) (both (has_kind k (cell_kind (slice_get w.scope.cells c))) (free_cell w.scope loops c) (has k (cell_kind (slice_get w.scope.cells c)) kind) free)
    lent_fits line name loops k (V.Element o i) a kind free h =
        let object : Option ValueKind = object_kind (slice_get w.scope.objects o) in
        let parts = provided_parts (is_integer (kind_of w.scope i)) object k kind in
        subst (λ x. fits_dummy w.scope loops k InOut x ≡ true) (same_value (actual.Element o i) a h)
        (both (has_kind k object && is_integer (kind_of w.scope i)) (free_object loops o) (both (has_kind k object) (is_integer (kind_of w.scope i)) (has k object parts.1) parts.0) free)
    lent_fits line name loops k (V.Coindexed o i p) a kind free h = no_value _ a h
    lent_fits line name loops k (V.Pointed c i) a kind free h = no_value _ a h

    lent_kept : (line : ℕ) (names : List Name) (loops : Loops) (k : ValueKind) (v : Variable Expr) (a : ActualR) → AreAround names loops → lent_variable scope line names k v ≡ Ok a → fits_dummy w.scope loops k InOut a ≡ true
    lent_kept line names loops k v a around h =
        let f = went _ _ a h in
        let t = target_kept line names loops v f.value around f.is in
        let c = chosen (is_kind f.value.0 k) (lent line v.name f.value.1) a _ f.goes in
        lent_fits line v.name loops k f.value.1 a (t.0 ∙ ap Some (same_kind f.value.0 k c.0)) t.1 c.1

    form_kept : (line : ℕ) (names : List Name) (loops : Loops) (sign : Name) (k : ValueKind) (e : Expr-F Expr) (a : ActualR) → AreAround names loops → lent_form scope line names sign k e ≡ Ok a → fits_dummy w.scope loops k InOut a ≡ true
    form_kept line names loops sign k (Expr-F.Variable v) a around h = lent_kept line names loops k v a around h
    form_kept line names loops sign k (Expr-F.Number _) a around h = no_value _ a h
    form_kept line names loops sign k (Expr-F.Truth _) a around h = no_value _ a h
    form_kept line names loops sign k (Expr-F.Parenthesized _) a around h = no_value _ a h
    form_kept line names loops sign k (Expr-F.Mod _ _) a around h = no_value _ a h
    form_kept line names loops sign k (Expr-F.Abs _) a around h = no_value _ a h
    form_kept line names loops sign k (Expr-F.Min _ _ _) a around h = no_value _ a h
    form_kept line names loops sign k (Expr-F.Max _ _ _) a around h = no_value _ a h
    form_kept line names loops sign k (Expr-F.TeamRank _) a around h = no_value _ a h
    form_kept line names loops sign k (Expr-F.TeamSize _) a around h = no_value _ a h
    form_kept line names loops sign k (Expr-F.Signed _ _) a around h = no_value _ a h
    form_kept line names loops sign k (Expr-F.Chain _ _) a around h = no_value _ a h
    form_kept line names loops sign k (Expr-F.Compare _ _ _) a around h = no_value _ a h
    form_kept line names loops sign k (Expr-F.Not _) a around h = no_value _ a h

    argument_kept : (line : ℕ) (names : List Name) (loops : Loops) (sign : Name) (i : Intent) (k : ValueKind) (e : Expr) (a : ActualR) → AreAround names loops → argument_for scope line names sign i k e ≡ Ok a → fits_dummy w.scope loops k i a ≡ true
    argument_kept line names loops sign In k e a around h =
        let f = went _ _ a h in
        subst (λ x. fits_dummy w.scope loops k In x ≡ true) (same_value (actual.Value f.value) a f.goes) (wanted_has w scope stands line sign k e f.value f.is)
    argument_kept line names loops sign InOut k e a around h = form_kept line names loops sign k (out-Expr e) a around h

    arguments_kept : (line : ℕ) (names : List Name) (loops : Loops) (sign : Name) (dummies : List DummyR) (es : List Expr) (xs : List ActualR) →
        AreAround names loops → length es ≡ length (map taken_of dummies) → arguments scope line names sign (map taken_of dummies) es ≡ Ok xs → fit_dummies w.scope loops dummies xs ≡ true
    arguments_kept line names loops sign [] [] xs around n h = subst (λ ys. fit_dummies w.scope loops [] ys ≡ true) (same_value [] xs h) refl
    arguments_kept line names loops sign [] (e ∷ es) xs around n h = absurd (cc)
    arguments_kept line names loops sign (d ∷ dummies) [] xs around n h = absurd (cc)
    arguments_kept line names loops sign (d ∷ dummies) (e ∷ es) xs around n h =
        let f = went _ _ xs h in
        let g = went _ _ xs f.goes in
        subst (λ ys. fit_dummies w.scope loops (d ∷ dummies) ys ≡ true) (same_value (f.value ∷ g.value) xs g.goes)
        (both (fits_dummy w.scope loops d.kind d.intent f.value) (fit_dummies w.scope loops dummies g.value) (argument_kept line names loops sign d.intent d.kind e f.value around f.is)
        (arguments_kept line names loops sign dummies es g.value around (next n) g.is))
      where
        next : suc (length es) ≡ suc (length (map taken_of dummies)) → length es ≡ length (map taken_of dummies)
        next n = omega arith

    passed_kept : (line : ℕ) (names : List Name) (loops : Loops) (sign name : Name) (f : ℕ) (es : List Expr) (xs : List ActualR) →
        AreAround names loops → IsSub w.scope.subs scope.subs f → passed scope line names sign name f es ≡ Ok xs → fits_sub w.scope loops (slice_get w.scope.subs f) xs ≡ true
    passed_kept line names loops sign name f es xs around sub h =
        let g = went _ _ xs h in
        let n : length es ≡ length (dummies_at scope f) = same_number (length es) (length (dummies_at scope f)) (held (nat_eq (length es) (length (dummies_at scope f))) tt g.value _ g.is).0 in
        subst (λ o. fits_sub w.scope loops o xs ≡ true) (sym sub.is)
        (arguments_kept line names loops sign sub.sub.dummies es xs around (n ∙ ap length sub.asked) (subst (λ (d : List (Option Taken)). arguments scope line names sign d es ≡ Ok xs) sub.asked g.goes))

    sub_named : (line : ℕ) (name : Name) (o : Option Symbol) (f : ℕ) → Opt (Stands w) name o → subroutine_as line name o ≡ Ok f → IsSub w.scope.subs w.signatures f
    sub_named line name (Some (symbol.Subroutine x)) f st h = subst (IsSub w.scope.subs w.signatures) (same_value x f h) st
    sub_named line name None f st h = no_value _ f h
    sub_named line name (Some (symbol.Constant _)) f st h = no_value _ f h
    sub_named line name (Some (symbol.Local _ _ _)) f st h = no_value _ f h
    sub_named line name (Some (symbol.Scalar _ _ _)) f st h = no_value _ f h
    sub_named line name (Some (symbol.Array _ _ _)) f st h = no_value _ f h
    sub_named line name (Some (symbol.Copointer _ _)) f st h = no_value _ f h
    sub_named line name (Some (symbol.Event _ _ _)) f st h = no_value _ f h
    sub_named line name (Some (symbol.Team _)) f st h = no_value _ f h

    -- ---- events

    event_named : (line : ℕ) (name : Name) (o : Option Symbol) (i : Option Sense) (e : OwnEventR) → Opt (Stands w) name o → IfKindly w scope i → own_event_as line name o i ≡ Ok e → (fits_own_event w.scope e ≡ true) × (is_coarray (slice_get w.scope.objects e.object) ≡ is_shared o)
    event_named line name (Some (symbol.Event o array shared)) i e st ki h =
        let f = went _ _ e h in
        subst (λ (x : OwnEventR). (fits_own_event w.scope x ≡ true) × (is_coarray (slice_get w.scope.objects x.object) ≡ shared)) (same_value (own_of o f.value) e f.goes)
        (both (holds_event (slice_get w.scope.objects o)) (is_integer (kind_of w.scope f.value)) (event_of w.scope.objects w.labels name o shared false st) (index array i f.value ki f.is), shared_of w.scope.objects w.labels name o sort.Event shared false st)
      where
        index : (array : Bool) (i : Option Sense) (x : ExprR) → IfKindly w scope i → event_index line name array i ≡ Ok x → is_integer (kind_of w.scope x) ≡ true
        index true (Some i) x ki h = integer_kindly w scope line name i x ki h
        index false None x ki h = subst (λ y. is_integer (kind_of w.scope y) ≡ true) (same_value (R.Number (pos 1)) x h) (has Integer (kind_of w.scope (R.Number (pos 1))) (kind_number w.scope (pos 1)))
        index true None x ki h = no_value _ x h
        index false (Some i) x ki h = no_value _ x h
    event_named line name None i e st ki h = no_value _ e h
    event_named line name (Some (symbol.Constant _)) i e st ki h = no_value _ e h
    event_named line name (Some (symbol.Local _ _ _)) i e st ki h = no_value _ e h
    event_named line name (Some (symbol.Scalar _ _ _)) i e st ki h = no_value _ e h
    event_named line name (Some (symbol.Array _ _ _)) i e st ki h = no_value _ e h
    event_named line name (Some (symbol.Copointer _ _)) i e st ki h = no_value _ e h
    event_named line name (Some (symbol.Team _)) i e st ki h = no_value _ e h
    event_named line name (Some (symbol.Subroutine _)) i e st ki h = no_value _ e h

    own_kept : (line : ℕ) (v : OwnEvent) (e : OwnEventR) → own_event scope line v ≡ Ok e → fits_own_event w.scope e ≡ true
    own_kept line v e h = (event_named line v.name (look scope v.name) (if_said scope line v.subscript) e (stands v.name) (if_kindly w scope stands line v.subscript) h).0

    is_on : (line : ℕ) (name : Name) (b : Bool) (u : Unit {0}) → coarray line name b ≡ Ok u → b ≡ true
    is_on line name true u h = refl
    is_on line name false u h = no_value _ u h

    on_kept : (line : ℕ) (name : Name) (o : Option Symbol) (at : ℕ) (p : Option (Place Sense)) (q : Option (PlaceR ExprR)) →
        is_coarray (slice_get w.scope.objects at) ≡ is_shared o → IsPlaceKindly w scope p → place_on scope line name o p ≡ Ok q → fits_on w.scope at q ≡ true
    on_kept line name o at None q e kp h = subst (λ x. fits_on w.scope at x ≡ true) (same_value None q h) refl
    on_kept line name o at (Some p) q e kp h =
        let f = went _ _ q h in
        let c = went _ _ f.value f.is in
        subst (λ x. fits_on w.scope at x ≡ true) (same_value (Some f.value) q f.goes)
        (both (is_coarray (slice_get w.scope.objects at)) (fits_place w.scope f.value) (e ∙ is_on line name (is_shared o) c.value c.is) (place_kindly w scope stands line name p f.value kp c.goes))

    event_kept : (line : ℕ) (v : Variable Expr) (e : EventR) → event scope line v ≡ Ok e → fits_event w.scope e ≡ true
    event_kept line v e h =
        let f = went _ _ e h in
        let g = went _ _ e f.goes in
        let own = event_named line v.name (look scope v.name) (if_said scope line v.subscript) f.value (stands v.name) (if_kindly w scope stands line v.subscript) f.is in
        subst (λ (x : EventR). fits_event w.scope x ≡ true) (same_value (event_with f.value g.value) e g.goes)
        (both (fits_own_event w.scope f.value) (fits_on w.scope f.value.object g.value) own.0
        (on_kept line v.name (look scope v.name) f.value.object (place_said scope line v.place) g.value own.1 (if_place_kindly w scope stands line v.place) g.is))

    done_kept : (line : ℕ) (v : Option (Variable Expr)) (e : Option EventR) → done_event scope line v ≡ Ok e → fits_done w.scope e ≡ true
    done_kept line None e h = subst (λ x. fits_done w.scope x ≡ true) (same_value None e h) refl
    done_kept line (Some v) e h =
        let f = went _ _ e h in
        subst (λ x. fits_done w.scope x ≡ true) (same_value (Some f.value) e f.goes) (event_kept line v f.value f.is)

    -- ---- sections

    abbrev FitsRange : RangeR → Type 0
    FitsRange r = fits_range w.scope r ≡ true

    one_bound : (x : ExprR) → is_integer (kind_of w.scope x) ≡ true → list_all (λ e. is_integer (kind_of w.scope e)) (x ∷ []) ≡ true
    one_bound x h = both (is_integer (kind_of w.scope x)) true h refl

    bound_kept : (line : ℕ) (name : Name) (e : Expr) (x : ExprR) → wanted scope line name Integer e ≡ Ok x → is_integer (kind_of w.scope x) ≡ true
    bound_kept line name e x h = wanted_has w scope stands line name Integer e x h

    between_kept : (line : ℕ) (name : Name) (i j : Option Expr) (r : RangeR) → between scope line name i j ≡ Ok r → FitsRange r
    between_kept line name None None r h = subst FitsRange (same_value range.All r h) refl
    between_kept line name (Some i) None r h =
        let f = went _ _ r h in
        subst FitsRange (same_value (range.From f.value) r f.goes) (one_bound f.value (bound_kept line name i f.value f.is))
    between_kept line name None (Some j) r h =
        let f = went _ _ r h in
        subst FitsRange (same_value (range.UpTo f.value) r f.goes) (one_bound f.value (bound_kept line name j f.value f.is))
    between_kept line name (Some i) (Some j) r h =
        let f = went _ _ r h in
        let g = went _ _ r f.goes in
        subst FitsRange (same_value (range.Between f.value g.value) r g.goes)
        (both (is_integer (kind_of w.scope f.value)) (list_all (λ e. is_integer (kind_of w.scope e)) (g.value ∷ [])) (bound_kept line name i f.value f.is) (one_bound g.value (bound_kept line name j g.value g.is)))

    elements_kept : (line : ℕ) (name : Name) (x : Range) (r : RangeR) → elements scope line name x ≡ Ok r → FitsRange r
    elements_kept line name written.Whole r h = subst FitsRange (same_value range.All r h) refl
    elements_kept line name (written.Element i) r h =
        let f = went _ _ r h in
        subst FitsRange (same_value (range.Cell f.value) r f.goes) (one_bound f.value (bound_kept line name i f.value f.is))
    elements_kept line name (written.Between i j) r h = between_kept line name i j r h

    -- a section has its kind
    abbrev IsSection : ValueKind × SectionR → Type 0
    IsSection t = section_kind w.scope t.1 ≡ Some t.0

    -- a region of an object that is shared as the name says
    abbrev IsRegionOf : Option Symbol → ValueKind × SectionR → Type 0
    IsRegionOf o t = (r : RegionR) → t.1 ≡ section.Region r → is_coarray (slice_get w.scope.objects r.object) ≡ is_shared o

    region_kept : (line : ℕ) (k : ValueKind) (o : ℕ) (c : Section) (t : ValueKind × SectionR) →
        object_kind (slice_get w.scope.objects o) ≡ Some k → is_coarray (slice_get w.scope.objects o) ≡ is_shared (look scope c.name) → region_of scope line k o c ≡ Ok t → IsSection t × IsRegionOf (look scope c.name) t
    region_kept line k o c t kind shared h =
        let f = went _ _ t h in
        let g = went _ _ t f.goes in
        let r : RegionR = record { object = o; range = f.value; place = g.value } in
        subst (λ (x : ValueKind × SectionR). IsSection x × IsRegionOf (look scope c.name) x) (same_value (k, section.Region r) t g.goes) (
          given (fits_range w.scope f.value && fits_on w.scope o g.value) (object_kind (slice_get w.scope.objects o)) k
              (both (fits_range w.scope f.value) (fits_on w.scope o g.value) (elements_kept line c.name c.range f.value f.is)
              (on_kept line c.name (look scope c.name) o (place_said scope line c.place) g.value shared (if_place_kindly w scope stands line c.place) g.is)) kind,
          λ x e. subst (λ (y : RegionR). is_coarray (slice_get w.scope.objects y.object) ≡ is_shared (look scope c.name)) (same_region r x e) shared,
        )
      where
        same_region : (a b : RegionR) → section.Region a ≡ section.Region b → a ≡ b
        same_region a b e = cc

    pointed_kept : (line : ℕ) (k : ValueKind) (o : ℕ) (c : Section) (x : Option Symbol) (t : ValueKind × SectionR) →
        copointer_kind (slice_get w.scope.objects o) ≡ Some k → pointed_section scope line k o c ≡ Ok t → IsSection t × IsRegionOf x t
    pointed_kept line k o c x t kind h =
        let f = went _ _ t h in
        by_place c.place f.value (elements_kept line c.name c.range f.value f.is) f.goes
      where
        no_region : (o : ℕ) (r : RangeR) (q : RegionR) → section.Pointed o r ≡ section.Region q → is_coarray (slice_get w.scope.objects q.object) ≡ is_shared x
        no_region o r q e = absurd (cc)

        by_place : (p : Option (Place Expr)) (r : RangeR) → FitsRange r → pointed_at line c.name k o r p ≡ Ok t → IsSection t × IsRegionOf x t
        by_place None r fit h = subst (λ (y : ValueKind × SectionR). IsSection y × IsRegionOf x y) (same_value (k, section.Pointed o r) t h) (given (fits_range w.scope r) (copointer_kind (slice_get w.scope.objects o)) k fit kind, λ q e. no_region o r q e)
        by_place (Some p) r fit h = no_value _ t h

    section_named : (line : ℕ) (c : Section) (o : Option Symbol) (t : ValueKind × SectionR) → look scope c.name ≡ o → Opt (Stands w) c.name o → section_as scope line c o ≡ Ok t → IsSection t × IsRegionOf (look scope c.name) t
    section_named line c (Some (symbol.Scalar k o shared)) t is st h = by_range c.range h
      where
        by_range : (x : Range) → scalar_region scope line k o c x ≡ Ok t → IsSection t × IsRegionOf (look scope c.name) t
        by_range written.Whole h = region_kept line k o c t (object_of_kind w.scope.objects w.labels c.name o k shared true st) (shared_of w.scope.objects w.labels c.name o (value_object k) shared true st ∙ ap is_shared (sym is)) h
        by_range (written.Element _) h = no_value _ t h
        by_range (written.Between _ _) h = no_value _ t h
    section_named line c (Some (symbol.Array k o shared)) t is st h =
        region_kept line k o c t (object_of_kind w.scope.objects w.labels c.name o k shared false st) (shared_of w.scope.objects w.labels c.name o (value_object k) shared false st ∙ ap is_shared (sym is)) h
    section_named line c (Some (symbol.Copointer k o)) t is st h = pointed_kept line k o c (look scope c.name) t (copointer_of w.scope.objects w.labels c.name o k false true st) h
    section_named line c None t is st h = no_value _ t h
    section_named line c (Some (symbol.Constant _)) t is st h = no_value _ t h
    section_named line c (Some (symbol.Local _ _ _)) t is st h = no_value _ t h
    section_named line c (Some (symbol.Event _ _ _)) t is st h = no_value _ t h
    section_named line c (Some (symbol.Team _)) t is st h = no_value _ t h
    section_named line c (Some (symbol.Subroutine _)) t is st h = no_value _ t h

    section_kept : (line : ℕ) (c : Section) (t : ValueKind × SectionR) → section_meant scope line c ≡ Ok t → IsSection t × IsRegionOf (look scope c.name) t
    section_kept line c t h = section_named line c (look scope c.name) t refl (stands c.name) h

    of_kind_kept : (line : ℕ) (name : Name) (k : ValueKind) (t : ValueKind × SectionR) (x : SectionR) → section_of_kind line name k t ≡ Ok x → (t.0 ≡ k) × (t.1 ≡ x)
    of_kind_kept line name k t x h =
        let g = held (is_kind t.0 k) t.1 x _ h in
        (same_kind t.0 k g.0, g.1)

    copointer_named : (line : ℕ) (name : Name) (o : Option Symbol) (p : ValueKind × ℕ) → Opt (Stands w) name o → copointer_as line name o ≡ Ok p → copointer_kind (slice_get w.scope.objects p.1) ≡ Some p.0
    copointer_named line name (Some (symbol.Copointer k o)) p st h =
        subst (λ (x : ValueKind × ℕ). copointer_kind (slice_get w.scope.objects x.1) ≡ Some x.0) (same_value (k, o) p h) (copointer_of w.scope.objects w.labels name o k false true st)
    copointer_named line name None p st h = no_value _ p h
    copointer_named line name (Some (symbol.Constant _)) p st h = no_value _ p h
    copointer_named line name (Some (symbol.Local _ _ _)) p st h = no_value _ p h
    copointer_named line name (Some (symbol.Scalar _ _ _)) p st h = no_value _ p h
    copointer_named line name (Some (symbol.Array _ _ _)) p st h = no_value _ p h
    copointer_named line name (Some (symbol.Event _ _ _)) p st h = no_value _ p h
    copointer_named line name (Some (symbol.Team _)) p st h = no_value _ p h
    copointer_named line name (Some (symbol.Subroutine _)) p st h = no_value _ p h

    region_is : (line : ℕ) (name : Name) (x : SectionR) (r : RegionR) → region_in line name x ≡ Ok r → x ≡ section.Region r
    region_is line name (section.Region a) r h = ap section.Region (same_value a r h)
    region_is line name (section.Pointed o a) r h = no_value _ r h

    aimed_kept : (line : ℕ) (k : ValueKind) (c : Section) (r : RegionR) → aimed scope line k c ≡ Ok r → (region_kind w.scope r ≡ Some k) × (is_coarray (slice_get w.scope.objects r.object) ≡ true)
    aimed_kept line k c r h =
        let f = went _ _ r h in
        let g = went _ _ r f.goes in
        let e = went _ _ r g.goes in
        let sec = section_kept line c f.value f.is in
        let kinds = of_kind_kept line c.name k f.value e.value e.is in
        let is : f.value.1 ≡ section.Region r = kinds.1 ∙ region_is line c.name e.value r e.goes in
        (sym (ap (section_kind w.scope) is) ∙ sec.0 ∙ ap Some kinds.0, sec.1 r is ∙ is_on line c.name (is_shared (look scope c.name)) g.value g.is)

    aims_kept : (line : ℕ) (loops : Loops) (name : Name) (c : Section) (x : StmtR) → aims scope line name c ≡ Ok x → keeps_rules w.scope x loops ≡ true
    aims_kept line loops name c x h =
        let f = went _ _ x h in
        let g = went _ _ x f.goes in
        let p = copointer_named line name (look scope name) f.value (stands name) f.is in
        let r = aimed_kept line f.value.0 c g.value g.is in
        let copointer : Option ValueKind = copointer_kind (slice_get w.scope.objects f.value.1) in
        let kinds : agree_in_kind copointer (region_kind w.scope g.value) ≡ true = ap (λ k. agree_in_kind k (region_kind w.scope g.value)) p ∙ has f.value.0 (region_kind w.scope g.value) r.0 in
        kept_by (T.Aim line f.value.1 g.value) x loops g.goes
        (rule_of w.scope (StmtR-F.Aim line f.value.1 g.value) (T.Aim line f.value.1 g.value) (rolls-Aim line f.value.1 g.value) loops
        ∙ both (agree_in_kind copointer (region_kind w.scope g.value)) (is_coarray (slice_get w.scope.objects g.value.object)) kinds r.1)

    -- ---- copies

    key_kept : (line : ℕ) (k : Key) (e : CopyEventR) → key_meant scope line k ≡ Ok e → fits_copy_event w.scope e ≡ true
    key_kept line (key.Pre v) e h =
        let f = went _ _ e h in
        subst (λ x. fits_copy_event w.scope x ≡ true) (same_value (role.Pre f.value) e f.goes) (own_kept line v f.value f.is)
    key_kept line (key.Srce v) e h =
        let f = went _ _ e h in
        subst (λ x. fits_copy_event w.scope x ≡ true) (same_value (role.Srce f.value) e f.goes) (event_kept line v f.value f.is)
    key_kept line (key.Deste v) e h =
        let f = went _ _ e h in
        subst (λ x. fits_copy_event w.scope x ≡ true) (same_value (role.Deste f.value) e f.goes) (event_kept line v f.value f.is)

    keys_kept : (line : ℕ) (ks : List Key) (es : List CopyEventR) → keys_meant scope line ks ≡ Ok es → list_all (fits_copy_event w.scope) es ≡ true
    keys_kept line [] es h = subst (λ xs. list_all (fits_copy_event w.scope) xs ≡ true) (same_value [] es h) refl
    keys_kept line (k ∷ ks) es h =
        let f = went _ _ es h in
        let g = went _ _ es f.goes in
        subst (λ xs. list_all (fits_copy_event w.scope) xs ≡ true) (same_value (f.value ∷ g.value) es g.goes)
        (both (fits_copy_event w.scope f.value) (list_all (fits_copy_event w.scope) g.value) (key_kept line k f.value f.is) (keys_kept line ks g.value g.is))

    copied_kept : (line : ℕ) (loops : Loops) (dest source : Section) (ks : List Key) (x : StmtR) → copied scope line dest source ks ≡ Ok x → keeps_rules w.scope x loops ≡ true
    copied_kept line loops dest source ks x h =
        let d = went _ _ x h in
        let c = went _ _ x d.goes in
        let r = went _ _ x c.goes in
        let e = went _ _ x r.goes in
        let o = went _ _ x e.goes in
        let first = (section_kept line dest d.value d.is).0 in
        let second = (section_kept line source c.value c.is).0 in
        let kinds = of_kind_kept line source.name d.value.0 c.value r.value r.is in
        let other : section_kind w.scope r.value ≡ Some d.value.0 = ap (section_kind w.scope) (sym kinds.1) ∙ second ∙ ap Some kinds.0 in
        let agree : agree_in_kind (section_kind w.scope d.value.1) (section_kind w.scope r.value) ≡ true = ap (λ k. agree_in_kind k (section_kind w.scope r.value)) first ∙ has d.value.0 (section_kind w.scope r.value) other in
        let once : once_each e.value ≡ true = (held (once_each e.value) tt o.value _ o.is).0 in
        let events : Bool = list_all (fits_copy_event w.scope) e.value in
        let kinds_agree : Bool = agree_in_kind (section_kind w.scope d.value.1) (section_kind w.scope r.value) in
        kept_by (T.Copy line d.value.1 r.value e.value) x loops o.goes
        (rule_of w.scope (StmtR-F.Copy line d.value.1 r.value e.value) (T.Copy line d.value.1 r.value e.value) (rolls-Copy line d.value.1 r.value e.value) loops
        ∙ both (kinds_agree && events) (once_each e.value) (both kinds_agree events agree (keys_kept line ks e.value e.is)) once)

    -- ---- lines

    part_kept : (k : ValueKind) (e : ExprR) → kind_of w.scope e ≡ Some k → fits_part w.scope (part_of k e) ≡ true
    part_kept Integer e h = has Integer (kind_of w.scope e) h
    part_kept Logical e h = has Logical (kind_of w.scope e) h

    printed_kept : (line : ℕ) (p : Printed) (x : PrintR) → printed_meant scope line p ≡ Ok x → fits_part w.scope x ≡ true
    printed_kept line (printed.Value e) x h =
        let f = went _ _ x h in
        subst (λ y. fits_part w.scope y ≡ true) (same_value (part_of f.value.0 f.value.1) x f.goes) (part_kept f.value.0 f.value.1 (kindly w scope stands e line f.value f.is))
    printed_kept line (printed.Text t) x h = subst (λ y. fits_part w.scope y ≡ true) (same_value (part.Text t) x h) refl

    all_printed_kept : (line : ℕ) (ps : List Printed) (xs : List PrintR) → all_printed scope line ps ≡ Ok xs → list_all (fits_part w.scope) xs ≡ true
    all_printed_kept line [] xs h = subst (λ ys. list_all (fits_part w.scope) ys ≡ true) (same_value [] xs h) refl
    all_printed_kept line (p ∷ ps) xs h =
        let f = went _ _ xs h in
        let g = went _ _ xs f.goes in
        subst (λ ys. list_all (fits_part w.scope) ys ≡ true) (same_value (f.value ∷ g.value) xs g.goes)
        (both (fits_part w.scope f.value) (list_all (fits_part w.scope) g.value) (printed_kept line p f.value f.is) (all_printed_kept line ps g.value g.is))

    -- ---- teams

    team_named : (line : ℕ) (name : Name) (o : Option Symbol) (at : ℕ) → Opt (Stands w) name o → team_as line name o ≡ Ok at → holds_team (slice_get w.scope.objects at) ≡ true
    team_named line name (Some (symbol.Team o)) at st h = subst (λ n. holds_team (slice_get w.scope.objects n) ≡ true) (same_value o at h) (team_of w.scope.objects w.labels name o false true st)
    team_named line name None at st h = no_value _ at h
    team_named line name (Some (symbol.Constant _)) at st h = no_value _ at h
    team_named line name (Some (symbol.Local _ _ _)) at st h = no_value _ at h
    team_named line name (Some (symbol.Scalar _ _ _)) at st h = no_value _ at h
    team_named line name (Some (symbol.Array _ _ _)) at st h = no_value _ at h
    team_named line name (Some (symbol.Copointer _ _)) at st h = no_value _ at h
    team_named line name (Some (symbol.Event _ _ _)) at st h = no_value _ at h
    team_named line name (Some (symbol.Subroutine _)) at st h = no_value _ at h

    split_kept : (line : ℕ) (loops : Loops) (t : Team) (colour key : Expr) (name : Name) (x : StmtR) → split_meant scope line t colour key name ≡ Ok x → keeps_rules w.scope x loops ≡ true
    split_kept line loops t colour key name x h =
        let a = went _ _ x h in
        let b = went _ _ x a.goes in
        let c = went _ _ x b.goes in
        let d = went _ _ x c.goes in
        let team : Bool = names_team w.scope a.value in
        let first : Bool = is_integer (kind_of w.scope b.value) in
        let second : Bool = is_integer (kind_of w.scope c.value) in
        let new : Bool = holds_team (slice_get w.scope.objects d.value) in
        kept_by (T.Split line a.value b.value c.value d.value) x loops d.goes
        (rule_of w.scope (StmtR-F.Split line a.value b.value c.value d.value) (T.Split line a.value b.value c.value d.value) (rolls-Split line a.value b.value c.value d.value) loops
        ∙ both (team && first && second) new
        (both (team && first) second (both team first (team_kindly w scope stands line t a.value a.is) (bound_kept line (codes "team_split") colour b.value b.is)) (bound_kept line (codes "team_split") key c.value c.is))
        (team_named line name (look scope name) d.value (stands name) d.is))

    -- ---- calls and ships

    module _ (signed : scope.subs ≡ w.signatures) where
      here_sub : (f : ℕ) → IsSub w.scope.subs w.signatures f → IsSub w.scope.subs scope.subs f
      here_sub f h = subst (λ (l : List (List (Option Taken))). IsSub w.scope.subs l f) (sym signed) h

      call_kept : (line : ℕ) (names : List Name) (loops : Loops) (name : Name) (es : List Expr) (x : StmtR) → AreAround names loops → call_meant scope line names name es ≡ Ok x → keeps_rules w.scope x loops ≡ true
      call_kept line names loops name es x around h =
          let f = went _ _ x h in
          let g = went _ _ x f.goes in
          kept_by (T.Call line f.value g.value) x loops g.goes
          (rule_of w.scope (StmtR-F.Call line f.value g.value) (T.Call line f.value g.value) (rolls-Call line f.value g.value) loops
          ∙ passed_kept line names loops (codes "call") name f.value es g.value around (here_sub f.value (sub_named line name (look scope name) f.value (stands name) f.is)) g.is)

      spawn_kept : (line : ℕ) (names : List Name) (loops : Loops) (done : Option (Variable Expr)) (name : Name) (es : List Expr) (p : Place Expr) (x : StmtR) → AreAround names loops → spawn_meant scope line names done name es p ≡ Ok x → keeps_rules w.scope x loops ≡ true
      spawn_kept line names loops done name es p x around h =
          let d = went _ _ x h in
          let f = went _ _ x d.goes in
          let g = went _ _ x f.goes in
          let q = went _ _ x g.goes in
          let event_fits : Bool = fits_done w.scope d.value in
          let sub_fits : Bool = fits_sub w.scope loops (slice_get w.scope.subs f.value) g.value in
          kept_by (T.Spawn line d.value f.value g.value q.value) x loops q.goes
          (rule_of w.scope (StmtR-F.Spawn line d.value f.value g.value q.value) (T.Spawn line d.value f.value g.value q.value) (rolls-Spawn line d.value f.value g.value q.value) loops
          ∙ both (event_fits && sub_fits) (fits_place w.scope q.value)
          (both event_fits sub_fits (done_kept line done d.value d.is) (passed_kept line names loops (codes "spawn") name f.value es g.value around (here_sub f.value (sub_named line name (look scope name) f.value (stands name) f.is)) g.is))
          (place_kindly w scope stands line (codes "spawn") (record { rank = sense scope line p.rank; team = p.team }) q.value (kindly w scope stands p.rank line) q.is))

      action_kept : (line : ℕ) (names : List Name) (loops : Loops) (a : Simple) (x : StmtR) → AreAround names loops → action scope line names a ≡ Ok x → keeps_rules w.scope x loops ≡ true
      action_kept line names loops (s.Assign v e) x around h = assigned_kept line names loops v e x around h
      action_kept line names loops (s.Aim name c) x around h = aims_kept line loops name c x h
      action_kept line names loops (s.Print items) x around h =
          let f = went _ _ x h in
          kept_by (T.Print line f.value) x loops f.goes (rule_of w.scope (StmtR-F.Print line f.value) (T.Print line f.value) (rolls-Print line f.value) loops ∙ all_printed_kept line items f.value f.is)
      action_kept line names loops (s.Call name es) x around h = call_kept line names loops name es x around h
      action_kept line names loops (s.Spawn done name es p) x around h = spawn_kept line names loops done name es p x around h
      action_kept line names loops (s.Notify v) x around h =
          let f = went _ _ x h in
          kept_by (T.Notify line f.value) x loops f.goes (rule_of w.scope (StmtR-F.Notify line f.value) (T.Notify line f.value) (rolls-Notify line f.value) loops ∙ event_kept line v f.value f.is)
      action_kept line names loops (s.Wait v) x around h =
          let f = went _ _ x h in
          kept_by (T.Wait line f.value) x loops f.goes (rule_of w.scope (StmtR-F.Wait line f.value) (T.Wait line f.value) (rolls-Wait line f.value) loops ∙ own_kept line v f.value f.is)
      action_kept line names loops (s.Copy dest source ks) x around h = copied_kept line loops dest source ks x h
      action_kept line names loops (s.Cofence fences) x around h =
          kept_by (T.Cofence line (down_of fences)) x loops h (rule_of w.scope (StmtR-F.Cofence line (down_of fences)) (T.Cofence line (down_of fences)) (rolls-Cofence line (down_of fences)) loops)
      action_kept line names loops (s.Split t colour key name) x around h = split_kept line loops t colour key name x h

      -- ---- statements

      abbrev IsKept : Meaning → Type 0
      IsKept m = (names : List Name) (loops : Loops) (x : StmtR) → AreAround names loops → m names ≡ Ok x → keeps_rules w.scope x loops ≡ true

      abbrev kept : List StmtR → List Keeps
      kept = map (keeps_rules w.scope)

      abbrev AreKept : List Meaning → Type 0
      AreKept [] = Unit {0}
      AreKept (m ∷ others) = IsKept m × AreKept others

      block_kept : (ms : List Meaning) (names : List Name) (loops : Loops) (xs : List StmtR) → AreKept ms → AreAround names loops → block names ms ≡ Ok xs → all_keep (kept xs) loops ≡ true
      block_kept [] names loops xs all around h = subst (λ ys. all_keep (kept ys) loops ≡ true) (same_value [] xs h) refl
      block_kept (m ∷ ms) names loops xs all around h =
          let f = went _ _ xs h in
          let g = went _ _ xs f.goes in
          subst (λ ys. all_keep (kept ys) loops ≡ true) (same_value (f.value ∷ g.value) xs g.goes)
          (both (keeps_rules w.scope f.value loops) (all_keep (kept g.value) loops) (all.0 names loops f.value around f.is) (block_kept ms names loops g.value all.1 around g.is))

      step_kept : (line : ℕ) (e : Option Expr) (x : ExprR) → step_meant scope line e ≡ Ok x → is_integer (kind_of w.scope x) ≡ true
      step_kept line None x h = subst (λ y. is_integer (kind_of w.scope y) ≡ true) (same_value (R.Number (pos 1)) x h) (has Integer (kind_of w.scope (R.Number (pos 1))) (kind_number w.scope (pos 1)))
      step_kept line (Some e) x h = bound_kept line (codes "do") e x h

      abbrev Kid : Type 0
      Kid = (x : Stmt) × IsKept (statement scope x)

      abbrev meanings : List Kid → List Meaning
      meanings xs = map (statement scope) (map (λ (x : Kid). x.0) xs)

      are_kept : (xs : List Kid) → AreKept (meanings xs)
      are_kept [] = tt
      are_kept (x ∷ xs) = (x.1, are_kept xs)

      kept_layer : (y : Stmt-F Kid) → IsKept (statement_layer scope (map-Stmt Stmt Meaning (statement scope) (map-Stmt Kid Stmt (λ x. x.0) y)))
      kept_layer (Stmt-F.Simple line a) names loops x around h = action_kept line names loops a x around h
      kept_layer (Stmt-F.IfLine line e inner a) names loops x around h =
          let c = went _ _ x h in
          let f = went _ _ x c.goes in
          let test : Bool = is_logical (kind_of w.scope c.value) in
          let one : Bool = all_keep (kept (f.value ∷ [])) loops in
          kept_by (T.If line c.value (f.value ∷ []) []) x loops f.goes
          (rule_of w.scope (StmtR-F.If line c.value (f.value ∷ []) []) (T.If line c.value (f.value ∷ []) []) (rolls-If line c.value (f.value ∷ []) []) loops
          ∙ both (test && one) true (both test one (wanted_has w scope stands line (codes "if") Logical e c.value c.is) (both (keeps_rules w.scope f.value loops) true (action_kept inner names loops a f.value around f.is) refl)) refl)
      kept_layer (Stmt-F.If line e first second) names loops x around h =
          let c = went _ _ x h in
          let f = went _ _ x c.goes in
          let g = went _ _ x f.goes in
          let test : Bool = is_logical (kind_of w.scope c.value) in
          let one : Bool = all_keep (kept f.value) loops in
          let two : Bool = all_keep (kept g.value) loops in
          kept_by (T.If line c.value f.value g.value) x loops g.goes
          (rule_of w.scope (StmtR-F.If line c.value f.value g.value) (T.If line c.value f.value g.value) (rolls-If line c.value f.value g.value) loops
          ∙ both (test && one) two (both test one (wanted_has w scope stands line (codes "if") Logical e c.value c.is) (block_kept (meanings first) names loops f.value (are_kept first) around f.is)) (block_kept (meanings second) names loops g.value (are_kept second) around g.is))
      kept_layer (Stmt-F.Do line v first last step body) names loops x around h =
          let c = went _ _ x h in
          let f = went _ _ x c.goes in
          let l = went _ _ x f.goes in
          let g = went _ _ x l.goes in
          let b = went _ _ x g.goes in
          let count = counts_kept line names loops v c.value around c.is in
          let counts_well : Bool = may_count w.scope loops c.value in
          let one : Bool = is_integer (kind_of w.scope f.value) in
          let two : Bool = is_integer (kind_of w.scope l.value) in
          let three : Bool = is_integer (kind_of w.scope g.value) in
          kept_by (T.Do line c.value f.value l.value g.value b.value) x loops b.goes
          (rule_of w.scope (StmtR-F.Do line c.value f.value l.value g.value b.value) (T.Do line c.value f.value l.value g.value b.value) (rolls-Do line c.value f.value l.value g.value b.value) loops
          ∙ both (counts_well && one && two && three) (all_keep (kept b.value) (c.value ∷ loops))
          (both (counts_well && one && two) three
          (both (counts_well && one) two (both counts_well one count.0 (bound_kept line (codes "do") first f.value f.is)) (bound_kept line (codes "do") last l.value l.is))
          (step_kept line step g.value g.is))
          (block_kept (meanings body) (v ∷ names) (c.value ∷ loops) b.value (are_kept body) (count.1, around) b.is))
      kept_layer (Stmt-F.While line e body) names loops x around h =
          let c = went _ _ x h in
          let b = went _ _ x c.goes in
          kept_by (T.While line c.value b.value) x loops b.goes
          (rule_of w.scope (StmtR-F.While line c.value b.value) (T.While line c.value b.value) (rolls-While line c.value b.value) loops
          ∙ both (is_logical (kind_of w.scope c.value)) (all_keep (kept b.value) loops) (wanted_has w scope stands line (codes "do") Logical e c.value c.is) (block_kept (meanings body) names loops b.value (are_kept body) around b.is))
      kept_layer (Stmt-F.Finish line t body) names loops x around h =
          let c = went _ _ x h in
          let b = went _ _ x c.goes in
          kept_by (T.Finish line c.value b.value) x loops b.goes
          (rule_of w.scope (StmtR-F.Finish line c.value b.value) (T.Finish line c.value b.value) (rolls-Finish line c.value b.value) loops
          ∙ both (names_team w.scope c.value) (all_keep (kept b.value) loops) (team_kindly w scope stands line t c.value c.is) (block_kept (meanings body) names loops b.value (are_kept body) around b.is))

      pub statement_kept : (x : Stmt) → IsKept (statement scope x)
      statement_kept = ind-Stmt (λ x. IsKept (statement scope x)) (λ x y is.
          let P : Stmt-F Stmt → Type 0 = λ z. IsKept (statement scope (roll-Stmt z)) in
          let z : Stmt-F Stmt = map-Stmt Kid Stmt (λ x. x.0) y in
          subst P is (subst IsKept (sym (fold-roll-Stmt Meaning (statement_layer scope) z)) (kept_layer y)))

      -- the statements of a part, with no loop around them
      pub body_kept : (body : List Stmt) (xs : List StmtR) → block [] (map (statement scope) body) ≡ Ok xs → list_all (λ x. keeps_rules w.scope x []) xs ≡ true
      body_kept [] xs h = subst (λ ys. list_all (λ x. keeps_rules w.scope x []) ys ≡ true) (same_value [] xs h) refl
      body_kept (m ∷ body) xs h =
          let f = went _ _ xs h in
          let g = went _ _ xs f.goes in
          subst (λ ys. list_all (λ x. keeps_rules w.scope x []) ys ≡ true) (same_value (f.value ∷ g.value) xs g.goes)
          (both (keeps_rules w.scope f.value []) (list_all (λ x. keeps_rules w.scope x []) g.value) (statement_kept m [] [] f.value tt f.is) (body_kept body g.value g.is))
