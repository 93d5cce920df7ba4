-- What the rules say of calls, ships and copies beyond the kinds of their expressions: the actuals fit the dummies by intent, and
-- each event of a copy stands once.
use Rattle.std.proofs.Common.{◌≡◌, true, false, List, [], ◌∷◌, map, Option, Some, None, refl, sym, subst}
use Rattle.std.specs.Prelude.{Bool, ◌&&◌, slice_get}
use Rattle.std.specs.List.{list_all}
use Rattle.caf_program.specs.Accepted.{IsAccepted, sub_keeps_rules, sub_scope, main_scope}
use Rattle.caf_program.specs.Kinds.{Scope, agree_in_kind, is_logical, kind_of, names_team}
use Rattle.caf_program.specs.Rules.{Keeps, Loops, all_keep, fit_dummies, fits_copy_event, fits_done, fits_dummy, fits_place, fits_sub, keeps_rules, may_count, once_each, section_kind, rule_layer, block_keeps_rules}
use Rattle.caf_program.specs.Kinds.{is_integer}
use Rattle.caf_program.specs.declared.parts.ActualR.{ActualR}
use Rattle.caf_program.specs.declared.parts.ActualR.TheVariants as actual
use Rattle.caf_program.specs.declared.program.DummyR.{DummyR}
use Rattle.caf_program.specs.declared.program.Intent.{Intent}
use Rattle.caf_program.specs.declared.program.Intent.TheVariants.{In, InOut}
use Rattle.caf_program.specs.declared.program.Program.{Program}
use Rattle.caf_program.specs.declared.program.SubR.{SubR}
use Rattle.caf_program.specs.declared.program.ValueKind.{ValueKind}
use Rattle.caf_program.specs.declared.stmt.StmtR.{StmtR}
use Rattle.caf_program.specs.declared.stmt.StmtR.TheOpen.{StmtR-F}
use Rattle.caf_program.specs.declared.stmt.StmtR.TheFolds.{fold-StmtR, fold-roll-StmtR, ind-StmtR, map-StmtR}
use Rattle.caf_program.specs.declared.stmt.StmtR.TheViews.{roll-StmtR}
use Rattle.caf_codegen.proofs.Both.{first_true, second_true}

-- a value for a dummy that is `intent(in)`, a variable for one that is `intent(inout)`
abbrev pub fits_intent : Intent → ActualR → Bool
fits_intent In (actual.Value e) = true
fits_intent In _ = false
fits_intent InOut (actual.Value e) = false
fits_intent InOut _ = true

abbrev pub fits_intents : List DummyR → List ActualR → Bool
fits_intents [] [] = true
fits_intents (d ∷ dummies) (x ∷ actuals) = fits_intent d.intent x && fits_intents dummies actuals
fits_intents _ _ = false

abbrev pub fits_called : Option SubR → List ActualR → Bool
fits_called None actuals = false
fits_called (Some f) actuals = fits_intents f.dummies actuals

abbrev pub all_true : List Bool → Bool
all_true [] = true
all_true (b ∷ rest) = b && all_true rest

abbrev pub fit_layer : List SubR → StmtR-F Bool → Bool
fit_layer subs (StmtR-F.If line e x y) = all_true x && all_true y
fit_layer subs (StmtR-F.Do line v first last step x) = all_true x
fit_layer subs (StmtR-F.While line e x) = all_true x
fit_layer subs (StmtR-F.Call line f actuals) = fits_called (slice_get subs f) actuals
fit_layer subs (StmtR-F.Spawn line e f actuals p) = fits_called (slice_get subs f) actuals
fit_layer subs (StmtR-F.Copy line dest source events) = once_each events
fit_layer subs (StmtR-F.Finish line t x) = all_true x
fit_layer subs _ = true

abbrev pub is_fit : List SubR → StmtR → Bool
is_fit subs = fold-StmtR Bool (fit_layer subs)

abbrev pub is_block_fit : List SubR → List StmtR → Bool
is_block_fit subs block = all_true (map (is_fit subs) block)

abbrev pub are_subs_fit : List SubR → List SubR → Bool
are_subs_fit all subs = all_true (map (λ (f : SubR). is_block_fit all f.body) subs)

pub both_true : (a b : Bool) → a ≡ true → b ≡ true → (a && b) ≡ true
both_true true b e f = f
both_true false b e f = e

-- actuals that fit by their kinds fit by their intents
dummy_intent : (s : Scope) (loops : Loops) (k : ValueKind) (i : Intent) (x : ActualR) → fits_dummy s loops k i x ≡ true → fits_intent i x ≡ true
dummy_intent s loops k In (actual.Value e) h = refl
dummy_intent s loops k In (actual.Scalar o) h = h
dummy_intent s loops k In (actual.Local n) h = h
dummy_intent s loops k In (actual.Element o i) h = h
dummy_intent s loops k InOut (actual.Value e) h = h
dummy_intent s loops k InOut (actual.Scalar o) h = refl
dummy_intent s loops k InOut (actual.Local n) h = refl
dummy_intent s loops k InOut (actual.Element o i) h = refl

dummies_intents : (s : Scope) (loops : Loops) (dummies : List DummyR) (actuals : List ActualR) → fit_dummies s loops dummies actuals ≡ true → fits_intents dummies actuals ≡ true
dummies_intents s loops [] [] h = refl
dummies_intents s loops [] (x ∷ actuals) h = h
dummies_intents s loops (d ∷ dummies) [] h = h
dummies_intents s loops (d ∷ dummies) (x ∷ actuals) h =
    both_true (fits_intent d.intent x) (fits_intents dummies actuals) (dummy_intent s loops d.kind d.intent x (first_true (fits_dummy s loops d.kind d.intent x) (fit_dummies s loops dummies actuals) h))
    (dummies_intents s loops dummies actuals (second_true (fits_dummy s loops d.kind d.intent x) (fit_dummies s loops dummies actuals) h))

sub_called : (s : Scope) (loops : Loops) (o : Option SubR) (actuals : List ActualR) → fits_sub s loops o actuals ≡ true → fits_called o actuals ≡ true
sub_called s loops None actuals h = h
sub_called s loops (Some f) actuals h = dummies_intents s loops f.dummies actuals h

module _ (s : Scope) where
  -- a statement that keeps the rules
  abbrev Follows : Bool → Keeps → Type 0
  Follows simple keeps = (loops : Loops) → keeps loops ≡ true → simple ≡ true

  abbrev Kid : Type 0
  Kid = (x : StmtR) × Follows (is_fit s.subs x) (keeps_rules s x)

  abbrev kids : List Kid → List StmtR
  kids = map (λ x. x.0)

  abbrev keep : List StmtR → List Keeps
  keep = map (keeps_rules s)

  block_follows : (x : List Kid) (loops : Loops) → all_keep (keep (kids x)) loops ≡ true → is_block_fit s.subs (kids x) ≡ true
  block_follows [] loops keeps = refl
  block_follows (x ∷ more) loops keeps =
      both_true (is_fit s.subs x.0) (is_block_fit s.subs (kids more)) (x.1 loops (first_true (keeps_rules s x.0 loops) (all_keep (keep (kids more)) loops) keeps))
      (block_follows more loops (second_true (keeps_rules s x.0 loops) (all_keep (keep (kids more)) loops) keeps))

  follows_layer : (y : StmtR-F Kid) → Follows (fit_layer s.subs (map-StmtR StmtR Bool (is_fit s.subs) (map-StmtR Kid StmtR (λ x. x.0) y))) (rule_layer s (map-StmtR StmtR Keeps (keeps_rules s) (map-StmtR Kid StmtR (λ x. x.0) y)))
  follows_layer (StmtR-F.If line e x y) = λ loops keeps.
      let bx = kids x in
      let by = kids y in
      let both = first_true (is_logical (kind_of s e) && all_keep (keep bx) loops) (all_keep (keep by) loops) keeps in
      both_true (is_block_fit s.subs bx) (is_block_fit s.subs by) (block_follows x loops (second_true (is_logical (kind_of s e)) (all_keep (keep bx) loops) both))
      (block_follows y loops (second_true (is_logical (kind_of s e) && all_keep (keep bx) loops) (all_keep (keep by) loops) keeps))
  follows_layer (StmtR-F.Do line v e1 e2 e3 x) = λ loops keeps.
      block_follows x (v ∷ loops) (second_true (may_count s loops v && is_integer (kind_of s e1) && is_integer (kind_of s e2) && is_integer (kind_of s e3)) (all_keep (keep (kids x)) (v ∷ loops)) keeps)
  follows_layer (StmtR-F.While line e x) = λ loops keeps. block_follows x loops (second_true (is_logical (kind_of s e)) (all_keep (keep (kids x)) loops) keeps)
  follows_layer (StmtR-F.Call line f actuals) = λ loops keeps. sub_called s loops (slice_get s.subs f) actuals keeps
  follows_layer (StmtR-F.Spawn line e f actuals p) = λ loops keeps.
      let fits = second_true (fits_done s e) (fits_sub s loops (slice_get s.subs f) actuals) (first_true (fits_done s e && fits_sub s loops (slice_get s.subs f) actuals) (fits_place s p) keeps) in
      sub_called s loops (slice_get s.subs f) actuals fits
  follows_layer (StmtR-F.Copy line dest source events) = λ loops keeps. second_true (agree_in_kind (section_kind s dest) (section_kind s source) && list_all (fits_copy_event s) events) (once_each events) keeps
  follows_layer (StmtR-F.Finish line t x) = λ loops keeps. block_follows x loops (second_true (names_team s t) (all_keep (keep (kids x)) loops) keeps)
  follows_layer _ = λ loops keeps. refl

  follows : (x : StmtR) → Follows (is_fit s.subs x) (keeps_rules s x)
  follows = ind-StmtR (λ x. Follows (is_fit s.subs x) (keeps_rules s x)) (λ x y is.
      let P : StmtR-F StmtR → Type 0 = λ z. Follows (is_fit s.subs (roll-StmtR z)) (keeps_rules s (roll-StmtR z)) in
      let z : StmtR-F StmtR = map-StmtR Kid StmtR (λ x. x.0) y in
      let B : Bool → Type 0 = λ b. Follows b (keeps_rules s (roll-StmtR z)) in
      let C : Keeps → Type 0 = λ r. Follows (fit_layer s.subs (map-StmtR StmtR Bool (is_fit s.subs) z)) r in
      subst P is (subst B (sym (fold-roll-StmtR Bool (fit_layer s.subs) z)) (subst C (sym (fold-roll-StmtR Keeps (rule_layer s) z)) (follows_layer y))))

  pub body_follows : (x : List StmtR) → list_all (λ statement. keeps_rules s statement []) x ≡ true → is_block_fit s.subs x ≡ true
  body_follows [] keeps = refl
  body_follows (x ∷ more) keeps =
      both_true (is_fit s.subs x) (is_block_fit s.subs more) (follows x [] (first_true (keeps_rules s x []) (list_all (λ statement. keeps_rules s statement []) more) keeps))
      (body_follows more (second_true (keeps_rules s x []) (list_all (λ statement. keeps_rules s statement []) more) keeps))

subs_follow : (p : Program) (subs : List SubR) → list_all (sub_keeps_rules p) subs ≡ true → are_subs_fit p.subs subs ≡ true
subs_follow p [] keeps = refl
subs_follow p (f ∷ subs) keeps =
    let own = first_true (sub_keeps_rules p f) (list_all (sub_keeps_rules p) subs) keeps in
    both_true (is_block_fit p.subs f.body) (are_subs_fit p.subs subs) (body_follows (sub_scope p f) f.body (second_true _ (block_keeps_rules (sub_scope p f) f.body) own))
    (subs_follow p subs (second_true (sub_keeps_rules p f) (list_all (sub_keeps_rules p) subs) keeps))

-- an accepted program
pub program_follows : (p : Program) → IsAccepted p → (is_block_fit p.subs p.body ≡ true) × (are_subs_fit p.subs p.subs ≡ true)
program_follows p accepted = (body_follows (main_scope p) p.body accepted.kinds.main, subs_follow p p.subs accepted.kinds.subs)
