-- What a subroutine declares.
use Rattle.std.proofs.Common.{◌≡◌, ◌∙◌, List, Result, Ok, Err, sym, ap, subst}
use Rattle.caf_tree.specs.declared.unit.Decl.{Decl}
use Rattle.caf_tree.specs.declared.unit.Sub.{Sub}
use Rattle.caf_program.specs.declared.program.DummyR.{DummyR}
use Rattle.caf_declare.specs.declared.fault.Fault.{Fault}
use Rattle.caf_declare.specs.declared.fault.Stop.{Stop}
use Rattle.caf_declare.specs.declared.frame.Frame.{Frame}
use Rattle.caf_declare.specs.Table.{Name, Names}
use Rattle.caf_declare.specs.Names.{after, Tells}
use Rattle.caf_declare.specs.Constants.{Heads}
use Rattle.caf_declare.specs.Frames.{listed, frame_of, dummies_meant}
use Rattle.caf_kinds.specs.Units.{declared_meant}
use Rattle.caf_kinds.proofs.Went.{fine}
use Rattle.caf_kinds.proofs.Says.{stops, goes}

module _ (heads : Heads) (main : Names) (f : Sub) (xs : List Name) (ds : List Decl) (u : Unit {0}) (ex : xs ≡ f.dummies) (ed : ds ≡ f.declarations) (once : listed f.line heads xs ≡ Ok u) where
  once_here : listed f.line heads f.dummies ≡ Ok u
  once_here = subst (λ (x : List Name). listed f.line heads x ≡ Ok u) ex once

  abbrev framed : Result Frame Fault
  framed = frame_of f.dummies heads main f.declarations

  abbrev with_dummies : Frame → Result (Frame × List DummyR) Fault
  with_dummies frame = after (dummies_meant f.line heads f.dummies) (λ dummies. fine (frame, dummies))

  -- a declaration stops
  pub declared_stops : (s : Result (Frame × List DummyR) Stop) (e : Stop) → Tells (frame_of xs heads main ds) (Err e) → s ≡ Err e → Tells (declared_meant heads main f) s
  declared_stops s e told es =
      let first : Tells (frame_of f.dummies heads main ds) (Err e) = subst (λ (x : List Name). Tells (frame_of x heads main ds) (Err e)) ex told in
      let here : Tells framed (Err e) = subst (λ (y : List Decl). Tells (frame_of f.dummies heads main y) (Err e)) ed first in
      subst (Tells (declared_meant heads main f)) (sym es) (goes (listed f.line heads f.dummies) (λ _. after framed with_dummies) u (Err e) once_here (stops framed with_dummies e here))

  -- all is declared
  pub declared_goes : (frame : Frame) (dummies : List DummyR) → frame_of xs heads main ds ≡ Ok frame → dummies_meant f.line heads xs ≡ Ok dummies → declared_meant heads main f ≡ Ok (frame, dummies)
  declared_goes frame dummies ef em =
      let first : frame_of f.dummies heads main ds ≡ Ok frame = subst (λ (x : List Name). frame_of x heads main ds ≡ Ok frame) ex ef in
      let here : framed ≡ Ok frame = subst (λ (y : List Decl). frame_of f.dummies heads main y ≡ Ok frame) ed first in
      let last : dummies_meant f.line heads f.dummies ≡ Ok dummies = subst (λ (x : List Name). dummies_meant f.line heads x ≡ Ok dummies) ex em in
      ap (λ (m : Result (Unit {0}) Fault). after m (λ _. after framed with_dummies)) once_here
      ∙ ap (λ (m : Result Frame Fault). after m with_dummies) here
      ∙ ap (λ (m : Result (List DummyR) Fault). after m (λ ys. fine (frame, ys))) last
