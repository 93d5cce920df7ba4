-- The program that a unit means keeps the rules on kinds, slots, arguments, assignments and sizes.
use Rattle.std.proofs.Common.{◌≡◌, ◌∙◌, ℕ, zero, suc, ◌+◌, ◌≤◌, Bool, true, false, List, [], ◌∷◌, ◌++◌, map, length, Option, Some, None, is_some, Result, Ok, Err, refl, sym, ap, subst, slice_get, arith, if◌then◌else◌}
use Rattle.std.specs.Prelude.{◌&&◌, nat_le}
use Rattle.std.specs.Option.{option_map}
use Rattle.std.specs.List.{list_all}
use Rattle.std.proofs.lemmas.Bool.{le-leb}
use Rattle.std.proofs.lemmas.Option.{slice_get-map}
use Rattle.caf_base.specs.declared.object.Object.{Object}
use Rattle.caf_tree.specs.declared.unit.Sub.{Sub}
use Rattle.caf_tree.specs.declared.unit.Unit.{Unit as Written}
use Rattle.caf_program.specs.declared.program.ValueKind.{ValueKind}
use Rattle.caf_program.specs.declared.program.DummyR.{DummyR}
use Rattle.caf_program.specs.declared.program.SubR.{SubR}
use Rattle.caf_program.specs.declared.program.Program.{Program}
use Rattle.caf_program.specs.declared.stmt.StmtR.{StmtR}
use Rattle.caf_program.specs.Kinds.{Scope as Slots, FrameCell}
use Rattle.caf_program.specs.Rules.{block_keeps_rules}
use Rattle.caf_program.specs.Accepted.{KeepsKinds, main_scope as main_slots, sub_scope, sub_keeps_rules, cells_of}
use Rattle.caf_declare.specs.declared.fault.Fault.{Fault}
use Rattle.caf_declare.specs.declared.symbol.Symbol.{Symbol}
use Rattle.caf_declare.specs.declared.symbol.Symbol.TheVariants as symbol
use Rattle.caf_declare.specs.declared.symbol.Taken.{Taken}
use Rattle.caf_declare.specs.declared.globals.Globals.{Globals}
use Rattle.caf_declare.specs.declared.frame.Frame.{Frame}
use Rattle.caf_declare.specs.Table.{Name, Names, found}
use Rattle.caf_declare.specs.Names.{after}
use Rattle.caf_declare.specs.Constants.{Heads}
use Rattle.caf_declare.specs.Frames.{heads_of, signature, listed, dummies_meant, frame_of}
use Rattle.caf_kinds.specs.declared.scope.Scope.{Scope}
use Rattle.caf_kinds.specs.Names.{look}
use Rattle.caf_kinds.specs.Statements.{or_none}
use Rattle.caf_kinds.specs.Units.{with_sub, with_subs, signature_of, named, body_meant, sub_meant, subs_meant, bodies_meant, main_scope, meaning}
use Rattle.caf_kinds.proofs.Went.{went, fine, same_value}
use Rattle.caf_kinds.proofs.Looked.{Opt, Holds, holds_none, holds_more, holds_weaker, holds_looked}
use Rattle.caf_kinds.proofs.Stands.{World, Stands, IsObject, IsCell, IsSub, taken_of}
use Rattle.caf_kinds.proofs.Kindly.{both}
use Rattle.caf_kinds.proofs.Kept.{body_kept}
use Rattle.caf_kinds.proofs.Objects.{AreObjects, objects_world, globals_kept}
use Rattle.caf_kinds.proofs.Cells.{AreCells, cells_for, cells_world, as_many, signed, few_dummies, frame_kept}

abbrev sub_with : Name → List DummyR → List ValueKind → List StmtR → SubR
sub_with name dummies locals body = record { name = name; dummies = dummies; locals = locals; body = body }

abbrev program_with : List Object → List Name → List SubR → List StmtR → Program
program_with objects names subs body = record { objects = objects; names = names; subs = subs; body = body }

abbrev scope_with : Names → Names → List (List (Option Taken)) → Scope
scope_with own main subs = record { own = own; main = main; subs = subs }

-- the names of subroutines stand for them
subs_hold : (P : Name → Symbol → Type 0) (subs : List Sub) (at : ℕ) (names : Names) → Holds P names →
    ((i : ℕ) (f : Sub) → slice_get subs i ≡ Some f → (name : Name) → P name (symbol.Subroutine (at + i))) → Holds P (with_subs at subs names)
subs_hold P [] at names h go = h
subs_hold P (f ∷ others) at names h go = subs_hold P others (at + 1) (with_sub at f.name names) (one (is_some (found names f.name))) (λ i g e name. subst (λ n. P name (symbol.Subroutine n)) (shifted at i) (go (suc i) g e name))
  where
    shifted : (at i : ℕ) → at + suc i ≡ (at + 1) + i
    shifted at i = omega arith

    first : P f.name (symbol.Subroutine at)
    first = subst (λ n. P f.name (symbol.Subroutine n)) (omega arith) (go 0 f refl f.name)

    one : (b : Bool) → Holds P (if b then names else names ++ (f.name, symbol.Subroutine at) ∷ [])
    one true = h
    one false = holds_more P names f.name (symbol.Subroutine at) h first

-- the parts of what a subroutine means
record IsBuilt (signatures : List (List (Option Taken))) (main : Names) (at : ℕ) (f : Sub) (g : SubR) : Type 0 where
  own : Unit {0}
  once : Unit {0}
  frame : Frame
  dummies : List DummyR
  body : List StmtR
  named_is : named f.line f.name at main ≡ Ok own
  listed_is : listed f.line (heads_of f.declarations) f.dummies ≡ Ok once
  frame_is : frame_of f.dummies (heads_of f.declarations) main f.declarations ≡ Ok frame
  dummies_are : dummies_meant f.line (heads_of f.declarations) f.dummies ≡ Ok dummies
  body_is : body_meant (scope_with frame.names main signatures) f.body ≡ Ok body
  is : sub_with f.name dummies frame.locals body ≡ g

built : (signatures : List (List (Option Taken))) (main : Names) (at : ℕ) (f : Sub) (g : SubR) → sub_meant signatures main at f ≡ Ok g → IsBuilt signatures main at f g
built signatures main at f g h =
    let x = went _ _ g h in
    let e = went _ _ g x.goes in
    let a = went _ _ x.value x.is in
    let b = went _ _ x.value a.goes in
    let c = went _ _ x.value b.goes in
    let d = went _ _ x.value c.goes in
    let parts : (c.value, d.value) ≡ x.value = same_value (c.value, d.value) x.value d.goes in
    record {
      own = a.value;
      once = b.value;
      frame = c.value;
      dummies = d.value;
      body = e.value;
      named_is = a.is;
      listed_is = b.is;
      frame_is = c.is;
      dummies_are = d.is;
      body_is = subst (λ (y : Frame × List DummyR). body_meant (scope_with y.0.names main signatures) f.body ≡ Ok e.value) (sym parts) e.is;
      is = ap (λ (y : Frame × List DummyR). sub_with f.name y.1 y.0.locals e.value) parts ∙ same_value (sub_with f.name x.value.1 x.value.0.locals e.value) g e.goes;
    }

sub_signed : (signatures : List (List (Option Taken))) (main : Names) (at : ℕ) (f : Sub) (g : SubR) → sub_meant signatures main at f ≡ Ok g → signature_of f ≡ map taken_of g.dummies
sub_signed signatures main at f g h =
    let b = built signatures main at f g h in
    signed f.line (heads_of f.declarations) f.dummies b.dummies b.dummies_are ∙ ap (λ (x : SubR). map taken_of x.dummies) b.is

-- the first subroutine, and those behind it
record AreSubs (signatures : List (List (Option Taken))) (main : Names) (at : ℕ) (f : Sub) (written : List Sub) (gs : List SubR) : Type 0 where
  first : SubR
  rest : List SubR
  first_is : sub_meant signatures main at f ≡ Ok first
  rest_is : subs_meant signatures main (at + 1) written ≡ Ok rest
  all_are : first ∷ rest ≡ gs

apart : (signatures : List (List (Option Taken))) (main : Names) (at : ℕ) (f : Sub) (written : List Sub) (gs : List SubR) → subs_meant signatures main at (f ∷ written) ≡ Ok gs → AreSubs signatures main at f written gs
apart signatures main at f written gs h =
    let a = went _ _ gs h in
    let b = went _ _ gs a.goes in
    record { first = a.value; rest = b.value; first_is = a.is; rest_is = b.is; all_are = same_value (a.value ∷ b.value) gs b.goes }

-- a subroutine that is meant for one that is written
record IsMeant (gs : List SubR) (i : ℕ) (f : Sub) : Type 0 where
  sub : SubR
  is : slice_get gs i ≡ Some sub
  asked : signature_of f ≡ map taken_of sub.dummies

there : (signatures : List (List (Option Taken))) (main : Names) (at : ℕ) (written : List Sub) (gs : List SubR) → subs_meant signatures main at written ≡ Ok gs → (i : ℕ) (f : Sub) → slice_get written i ≡ Some f → IsMeant gs i f
there signatures main at [] gs h i f is = absurd (cc)
there signatures main at (x ∷ written) gs h zero f is =
    let a = apart signatures main at x written gs h in
    subst (λ (ys : List SubR). IsMeant ys 0 f) a.all_are
    (record { sub = a.first; is = refl; asked = subst (λ (y : Sub). signature_of y ≡ map taken_of a.first.dummies) (some_same x f is) (sub_signed signatures main at x a.first a.first_is) })
  where
    some_same : (a b : Sub) → Some a ≡ Some b → a ≡ b
    some_same a b e = cc
there signatures main at (x ∷ written) gs h (suc i) f is =
    let a = apart signatures main at x written gs h in
    let m = there signatures main (at + 1) written a.rest a.rest_is i f is in
    subst (λ (ys : List SubR). IsMeant ys (suc i) f) a.all_are (record { sub = m.sub; is = m.is; asked = m.asked })

module _ (u : Written) (m : Globals) (objects_all : AreObjects m) (subs : List SubR) where
  abbrev signatures : List (List (Option Taken))
  signatures = map signature_of u.subs

  abbrev main_names : Names
  main_names = with_subs 0 u.subs m.names

  abbrev slots_with : List FrameCell → Slots
  slots_with cells = record { objects = m.objects; cells = cells; subs = subs }

  abbrev world_with : List FrameCell → List Name → World
  world_with cells labels = record { scope = slots_with cells; labels = m.labels; cell_labels = labels; signatures = signatures }

  from_objects : (name : Name) (s : Symbol) → Stands (objects_world m.objects m.labels) name s → Stands (world_with [] []) name s
  from_objects name (symbol.Constant c) h = tt
  from_objects name (symbol.Local k c b) h = h
  from_objects name (symbol.Scalar k o b) h = h
  from_objects name (symbol.Array k o b) h = h
  from_objects name (symbol.Copointer k o) h = h
  from_objects name (symbol.Event o a b) h = h
  from_objects name (symbol.Team o) h = h
  from_objects name (symbol.Subroutine f) h = let e : slice_get [] f ≡ Some h.sub = h.is in absurd (cc)

  -- the main program's names stand, inside a frame too
  in_frame : (cells : List FrameCell) (labels : List Name) (name : Name) (s : Symbol) → Stands (world_with [] []) name s → Stands (world_with cells labels) name s
  in_frame cells labels name (symbol.Constant c) h = tt
  in_frame cells labels name (symbol.Local k c b) h = let e : slice_get [] c ≡ Some name = h.label in absurd (cc)
  in_frame cells labels name (symbol.Scalar k o b) h = h
  in_frame cells labels name (symbol.Array k o b) h = h
  in_frame cells labels name (symbol.Copointer k o) h = h
  in_frame cells labels name (symbol.Event o a b) h = h
  in_frame cells labels name (symbol.Team o) h = h
  in_frame cells labels name (symbol.Subroutine f) h = h

  no_object : (labels : List Name) (o : ℕ) (name : Name) → slice_get [] o ≡ Some name → ⊥
  no_object labels o name e = cc

  from_cells : (cells : List FrameCell) (labels : List Name) (name : Name) (s : Symbol) → Stands (cells_world cells labels) name s → Stands (world_with cells labels) name s
  from_cells cells labels name (symbol.Constant c) h = tt
  from_cells cells labels name (symbol.Local k c b) h = h
  from_cells cells labels name (symbol.Scalar k o b) h = absurd (no_object labels o name h.label)
  from_cells cells labels name (symbol.Array k o b) h = absurd (no_object labels o name h.label)
  from_cells cells labels name (symbol.Copointer k o) h = absurd (no_object labels o name h.label)
  from_cells cells labels name (symbol.Event o a b) h = absurd (no_object labels o name h.label)
  from_cells cells labels name (symbol.Team o) h = absurd (no_object labels o name h.label)
  from_cells cells labels name (symbol.Subroutine f) h = let e : slice_get [] f ≡ Some h.sub = h.is in absurd (cc)

  module _ (meant : subs_meant signatures main_names 0 u.subs ≡ Ok subs) where
    is_sub : (i : ℕ) (f : Sub) → slice_get u.subs i ≡ Some f → IsSub subs signatures i
    is_sub i f e =
        let t = there signatures main_names 0 u.subs subs meant i f e in
        record { sub = t.sub; is = t.is; asked = ap or_none (slice_get-map signature_of u.subs i ∙ ap (option_map signature_of) e) ∙ t.asked }

    main_holds : Holds (Stands (world_with [] [])) main_names
    main_holds =
        subs_hold (Stands (world_with [] [])) u.subs 0 m.names (holds_weaker (Stands (objects_world m.objects m.labels)) (Stands (world_with [] [])) m.names from_objects objects_all.standing)
        (λ i f e name. subst (IsSub subs signatures) (from_zero i) (is_sub i f e))
      where
        from_zero : (i : ℕ) → i ≡ 0 + i
        from_zero i = omega arith

    main_kept : (body : List StmtR) → body_meant (main_scope u m) u.body ≡ Ok body → block_keeps_rules (slots_with []) body ≡ true
    main_kept body h = body_kept (world_with [] []) (main_scope u m) (holds_looked (Stands (world_with [] [])) [] main_names (holds_none (Stands (world_with [] []))) main_holds) refl u.body body h

    sub_kept : (at : ℕ) (f : Sub) (g : SubR) (body : List StmtR) → sub_meant signatures main_names at f ≡ Ok g → sub_keeps_rules (program_with m.objects m.labels subs body) g ≡ true
    sub_kept at f g body h =
        let p = built signatures main_names at f g h in
        let heads : Heads = heads_of f.declarations in
        let cells = frame_kept f.line heads f.dummies p.dummies p.dummies_are main_names f.declarations p.frame (few_dummies f.line heads f.dummies p.once p.listed_is) p.frame_is in
        let frame_cells : List FrameCell = cells_for p.dummies p.frame.locals in
        let labels : List Name = f.dummies ++ cells.local_names in
        let w : World = world_with frame_cells labels in
        let scope : Scope = scope_with p.frame.names main_names signatures in
        let own : Holds (Stands w) p.frame.names = holds_weaker (Stands (cells_world frame_cells labels)) (Stands w) p.frame.names (from_cells frame_cells labels) cells.standing in
        let main : Holds (Stands w) main_names = holds_weaker (Stands (world_with [] [])) (Stands w) main_names (in_frame frame_cells labels) main_holds in
        let few : length p.dummies + length p.frame.locals ≤ 64 = omega (arith, cells.few, as_many f.line heads f.dummies p.dummies p.dummies_are) in
        subst (λ (x : SubR). sub_keeps_rules (program_with m.objects m.labels subs body) x ≡ true)
        p.is
        (both (nat_le (length p.dummies + length p.frame.locals) 64) (block_keeps_rules (slots_with frame_cells) p.body) (le-leb (length p.dummies + length p.frame.locals) 64 few)
        (body_kept w scope (holds_looked (Stands w) p.frame.names main_names own main) refl f.body p.body p.body_is))

    subs_kept : (at : ℕ) (written : List Sub) (gs : List SubR) (body : List StmtR) → subs_meant signatures main_names at written ≡ Ok gs →
        list_all (sub_keeps_rules (program_with m.objects m.labels subs body)) gs ≡ true
    subs_kept at [] gs body h = subst (λ (ys : List SubR). list_all (sub_keeps_rules (program_with m.objects m.labels subs body)) ys ≡ true) (same_value [] gs h) refl
    subs_kept at (f ∷ written) gs body h =
        let a = apart signatures main_names at f written gs h in
        let test : SubR → Bool = sub_keeps_rules (program_with m.objects m.labels subs body) in
        subst (λ (ys : List SubR). list_all test ys ≡ true) a.all_are
        (both (test a.first) (list_all test a.rest) (sub_kept at f a.first body a.first_is) (subs_kept (at + 1) written a.rest body a.rest_is))

    program_kept : (body : List StmtR) → body_meant (main_scope u m) u.body ≡ Ok body → KeepsKinds (program_with m.objects m.labels subs body)
    program_kept body h = record {
      named = objects_all.named;
      declared = objects_all.declared_all;
      cells = subst (λ n. n ≤ 65536) objects_all.counted objects_all.few;
      main = main_kept body h;
      subs = subs_kept 0 u.subs subs body meant;
    }

-- the program that a unit means keeps the rules
pub meaning_kept : (u : Written) (p : Program) → meaning u ≡ Ok p → KeepsKinds p
meaning_kept u p h =
    let a = went _ _ p h in
    let b = went _ _ p a.goes in
    let c = went _ _ b.value b.is in
    let d = went _ _ b.value c.goes in
    let parts : (c.value, d.value) ≡ b.value = same_value (c.value, d.value) b.value d.goes in
    subst KeepsKinds (same_value (program_with a.value.objects a.value.labels b.value.1 b.value.0) p b.goes)
    (subst (λ (t : List StmtR × List SubR). KeepsKinds (program_with a.value.objects a.value.labels t.1 t.0)) parts
    (program_kept u a.value (globals_kept u.declarations a.value a.is) d.value d.is c.value c.is))
