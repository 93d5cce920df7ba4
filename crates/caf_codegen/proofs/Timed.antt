-- The events of a copy, each of which is listed once.
use Rattle.std.proofs.Common.{◌≡◌, ℕ, ◌+◌, ◌<◌, ◌≤◌, true, false, List, [], ◌∷◌, ◌++◌, map, Option, Some, None, refl, sym, ap, ◌∙◌, arith, cond}
use Rattle.std.specs.Prelude.{Bool, ◌&&◌, count_by, nat_lt, if◌then◌else◌}
use Rattle.std.specs.List.{list_all}
use Rattle.std.proofs.lemmas.Bool.{le-leb, ltb-true}
use Rattle.std.proofs.lemmas.List.Sums.{sum_by-cons}
use Rattle.caf_base.specs.declared.place.CopyEvents.{CopyEvents}
use Rattle.caf_base.specs.declared.place.EventWanted.{EventWanted}
use Rattle.caf_program.specs.Rules.{is_deste, is_pre, is_srce, once_each}
use Rattle.caf_program.specs.declared.parts.CopyEventR.{CopyEventR}
use Rattle.caf_program.specs.declared.parts.CopyEventR.TheVariants as timed
use Rattle.caf_code.specs.Operations.{copy_events, event_for, same_role}
use Rattle.caf_code.specs.Shapes.{IsEvent, IsSection, Sort, at_most_one, has_copy_role, is_copy, is_event_for}
use Rattle.caf_code.specs.declared.instr.Role.{Role}
use Rattle.caf_code.specs.declared.instr.Role.TheVariants as role
use Rattle.caf_code.specs.declared.task.Listed.{Listed}
use Rattle.caf_code.specs.declared.task.Listed.TheVariants as listed
use Rattle.caf_codegen.specs.StmtCode.{role_of}
use Rattle.caf_codegen.proofs.Both.{first_true, second_true}
use Rattle.caf_codegen.proofs.Fits.{both_true}

-- the first of two, if it is there
abbrev or_then : Option EventWanted → Option EventWanted → Option EventWanted
or_then None o = o
or_then (Some x) o = Some x

or_none : (o : Option EventWanted) → or_then o None ≡ o
or_none None = refl
or_none (Some x) = refl

abbrev only_for : Role → Role → EventWanted → Option EventWanted
only_for r q x = if same_role q r then Some x else None

-- where the first of two is known to be an event or not
more_seen : (b : Bool) (e : EventWanted) (u v o : Option EventWanted) → u ≡ or_then v o → (if b then Some e else u) ≡ or_then (if b then Some e else v) o
more_seen true e u v o same = refl
more_seen false e u v o same = same

-- the event of a role, where one more is listed
event_more : (r : Role) (zs : List Listed) (q : Role) (x : EventWanted) → event_for r (zs ++ listed.Event q x ∷ []) ≡ or_then (event_for r zs) (only_for r q x)
event_more r [] q x = refl
event_more r (listed.Section w ∷ zs) q x = event_more r zs q x
event_more r (listed.Event s e ∷ zs) q x = more_seen (same_role s r) e (event_for r (zs ++ listed.Event q x ∷ [])) (event_for r zs) (only_for r q x) (event_more r zs q x)

abbrev events_of : Option EventWanted → Option EventWanted → Option EventWanted → CopyEvents
events_of pre srce deste = record { pre = pre; srce = srce; deste = deste }

-- the event of a role that none was listed for
event_first : (r : Role) (zs : List Listed) (x : EventWanted) → same_role r r ≡ true → event_for r zs ≡ None → Some x ≡ event_for r (zs ++ listed.Event r x ∷ [])
event_first r zs x same none = sym (event_more r zs r x ∙ ap (λ o. or_then o (only_for r r x)) none ∙ ap (λ (b : Bool). (let o : Option EventWanted = if b then Some x else None in o)) same)

event_else : (r q : Role) (zs : List Listed) (x : EventWanted) → same_role q r ≡ false → event_for r zs ≡ event_for r (zs ++ listed.Event q x ∷ [])
event_else r q zs x other = sym (event_more r zs q x ∙ ap (λ (b : Bool). or_then (event_for r zs) (if b then Some x else None)) other ∙ or_none (event_for r zs))

pub with_pre : (zs : List Listed) (x : EventWanted) → event_for role.Pre zs ≡ None → record (copy_events zs) { pre = Some x } ≡ copy_events (zs ++ listed.Event role.Pre x ∷ [])
with_pre zs x none =
    ap (λ o. events_of o (event_for role.Srce zs) (event_for role.Deste zs)) (event_first role.Pre zs x refl none) ∙ ap (λ o. events_of (event_for role.Pre (zs ++ listed.Event role.Pre x ∷ [])) o (event_for role.Deste zs)) (event_else role.Srce role.Pre zs x refl)
    ∙ ap (λ o. events_of (event_for role.Pre (zs ++ listed.Event role.Pre x ∷ [])) (event_for role.Srce (zs ++ listed.Event role.Pre x ∷ [])) o) (event_else role.Deste role.Pre zs x refl)

pub with_srce : (zs : List Listed) (x : EventWanted) → event_for role.Srce zs ≡ None → record (copy_events zs) { srce = Some x } ≡ copy_events (zs ++ listed.Event role.Srce x ∷ [])
with_srce zs x none =
    ap (λ o. events_of (event_for role.Pre zs) o (event_for role.Deste zs)) (event_first role.Srce zs x refl none) ∙ ap (λ o. events_of o (event_for role.Srce (zs ++ listed.Event role.Srce x ∷ [])) (event_for role.Deste zs)) (event_else role.Pre role.Srce zs x refl)
    ∙ ap (λ o. events_of (event_for role.Pre (zs ++ listed.Event role.Srce x ∷ [])) (event_for role.Srce (zs ++ listed.Event role.Srce x ∷ [])) o) (event_else role.Deste role.Srce zs x refl)

pub with_deste : (zs : List Listed) (x : EventWanted) → event_for role.Deste zs ≡ None → record (copy_events zs) { deste = Some x } ≡ copy_events (zs ++ listed.Event role.Deste x ∷ [])
with_deste zs x none =
    ap (λ o. events_of (event_for role.Pre zs) (event_for role.Srce zs) o) (event_first role.Deste zs x refl none) ∙ ap (λ o. events_of o (event_for role.Srce zs) (event_for role.Deste (zs ++ listed.Event role.Deste x ∷ []))) (event_else role.Pre role.Deste zs x refl)
    ∙ ap (λ o. events_of (event_for role.Pre (zs ++ listed.Event role.Deste x ∷ [])) o (event_for role.Deste (zs ++ listed.Event role.Deste x ∷ []))) (event_else role.Srce role.Deste zs x refl)

-- each of these events is of a role for which none is listed yet
abbrev pub AreFresh : List CopyEventR → List Listed → Type 0
AreFresh [] zs = Unit {0}
AreFresh (e ∷ l) zs = (event_for (role_of e) zs ≡ None) × ((x : EventWanted) → AreFresh l (zs ++ listed.Event (role_of e) x ∷ []))

abbrev seen : Option EventWanted → ℕ
seen None = 0
seen (Some x) = 1

unseen : (o : Option EventWanted) → seen o ≤ 0 → o ≡ None
unseen None le = refl
unseen (Some x) le = absurd (omega (arith, le))

abbrev bit : Bool → ℕ
bit b = cond b 1 0

count_more : (f : CopyEventR → Bool) (e : CopyEventR) (l : List CopyEventR) → count_by f (e ∷ l) ≡ bit (f e) + count_by f l
count_more f e l = sum_by-cons (λ x. cond (f x) 1 0) e l

-- at most one of a role, listed or left
abbrev Once : (CopyEventR → Bool) → Role → List CopyEventR → List Listed → Type 0
Once f r l zs = count_by f l + seen (event_for r zs) ≤ 1

once_taken : (f : CopyEventR → Bool) (r : Role) (e : CopyEventR) (l : List CopyEventR) (zs : List Listed) → f e ≡ true → Once f r (e ∷ l) zs → event_for r zs ≡ None
once_taken f r e l zs is once = unseen (event_for r zs) (omega (arith, once, count_more f e l, ap bit is))

once_listed : (f : CopyEventR → Bool) (r : Role) (e : CopyEventR) (l : List CopyEventR) (zs : List Listed) (x : EventWanted) → f e ≡ true → same_role r r ≡ true → Once f r (e ∷ l) zs → Once f r l (zs ++ listed.Event r x ∷ [])
once_listed f r e l zs x is same once =
    let one : 1 ≡ seen (event_for r (zs ++ listed.Event r x ∷ [])) = ap seen (event_first r zs x same (once_taken f r e l zs is once)) in
    omega (arith, once, one, count_more f e l, ap bit is)

once_left : (f : CopyEventR → Bool) (r q : Role) (e : CopyEventR) (l : List CopyEventR) (zs : List Listed) (x : EventWanted) → f e ≡ false → same_role q r ≡ false → Once f r (e ∷ l) zs → Once f r l (zs ++ listed.Event q x ∷ [])
once_left f r q e l zs x is other once =
    let same : seen (event_for r zs) ≡ seen (event_for r (zs ++ listed.Event q x ∷ [])) = ap seen (event_else r q zs x other) in
    omega (arith, once, same, count_more f e l, ap bit is)

fresh_all : (l : List CopyEventR) (zs : List Listed) → Once is_pre role.Pre l zs → Once is_srce role.Srce l zs → Once is_deste role.Deste l zs → AreFresh l zs
fresh_all [] zs pre srce deste = tt
fresh_all (timed.Pre e ∷ l) zs pre srce deste =
    let here = timed.Pre e in (
      once_taken is_pre role.Pre here l zs refl pre,
      λ x. fresh_all l (zs ++ listed.Event role.Pre x ∷ []) (once_listed is_pre role.Pre here l zs x refl refl pre) (once_left is_srce role.Srce role.Pre here l zs x refl refl srce) (once_left is_deste role.Deste role.Pre here l zs x refl refl deste),
    )
fresh_all (timed.Srce e ∷ l) zs pre srce deste =
    let here = timed.Srce e in (
      once_taken is_srce role.Srce here l zs refl srce,
      λ x. fresh_all l (zs ++ listed.Event role.Srce x ∷ []) (once_left is_pre role.Pre role.Srce here l zs x refl refl pre) (once_listed is_srce role.Srce here l zs x refl refl srce) (once_left is_deste role.Deste role.Srce here l zs x refl refl deste),
    )
fresh_all (timed.Deste e ∷ l) zs pre srce deste =
    let here = timed.Deste e in (
      once_taken is_deste role.Deste here l zs refl deste,
      λ x. fresh_all l (zs ++ listed.Event role.Deste x ∷ []) (once_left is_pre role.Pre role.Deste here l zs x refl refl pre) (once_left is_srce role.Srce role.Deste here l zs x refl refl srce) (once_listed is_deste role.Deste here l zs x refl refl deste),
    )

-- what the rules say of the events of a copy
pub at_most_once : (l : List CopyEventR) → once_each l ≡ true → (count_by is_pre l < 2) × (count_by is_srce l < 2) × (count_by is_deste l < 2)
at_most_once l h =
    let A = nat_lt (count_by is_pre l) 2 in
    let B = nat_lt (count_by is_srce l) 2 in
    let C = nat_lt (count_by is_deste l) 2 in
    let front = first_true (A && B) C h in
    (ltb-true (count_by is_pre l) 2 (first_true A B front), ltb-true (count_by is_srce l) 2 (second_true A B front), ltb-true (count_by is_deste l) 2 (second_true (A && B) C h))

pub fresh : (l : List CopyEventR) → once_each l ≡ true → AreFresh l []
fresh l h =
    let once = at_most_once l h in
    fresh_all l [] (omega (arith, once.0)) (omega (arith, once.1)) (omega (arith, once.2))

-- their sorts, as the rules of a code see them
abbrev pub sorts_of : List CopyEventR → List Sort
sorts_of = map (λ e. IsEvent (role_of e))

roles_right : (l : List CopyEventR) → list_all has_copy_role (sorts_of l) ≡ true
roles_right [] = refl
roles_right (timed.Pre e ∷ l) = roles_right l
roles_right (timed.Srce e ∷ l) = roles_right l
roles_right (timed.Deste e ∷ l) = roles_right l

sort_more : (r : Role) (x : Sort) (xs : List Sort) → count_by (is_event_for r) (x ∷ xs) ≡ bit (is_event_for r x) + count_by (is_event_for r) xs
sort_more r x xs = sum_by-cons (λ y. cond (is_event_for r y) 1 0) x xs

counted_alike : (r : Role) (f : CopyEventR → Bool) → ((e : CopyEventR) → is_event_for r (IsEvent (role_of e)) ≡ f e) → (l : List CopyEventR) → count_by (is_event_for r) (sorts_of l) ≡ count_by f l
counted_alike r f same [] = refl
counted_alike r f same (e ∷ l) = omega (arith, sort_more r (IsEvent (role_of e)) (sorts_of l), count_more f e l, ap bit (same e), counted_alike r f same l)

pre_alike : (e : CopyEventR) → is_event_for role.Pre (IsEvent (role_of e)) ≡ is_pre e
pre_alike (timed.Pre e) = refl
pre_alike (timed.Srce e) = refl
pre_alike (timed.Deste e) = refl

srce_alike : (e : CopyEventR) → is_event_for role.Srce (IsEvent (role_of e)) ≡ is_srce e
srce_alike (timed.Pre e) = refl
srce_alike (timed.Srce e) = refl
srce_alike (timed.Deste e) = refl

deste_alike : (e : CopyEventR) → is_event_for role.Deste (IsEvent (role_of e)) ≡ is_deste e
deste_alike (timed.Pre e) = refl
deste_alike (timed.Srce e) = refl
deste_alike (timed.Deste e) = refl

one_of : (r : Role) (l : List CopyEventR) → count_by (is_event_for r) (sorts_of l) < 2 → at_most_one r (sorts_of l) ≡ true
one_of r l lt = le-leb (count_by (is_event_for r) (sorts_of l)) 1 (omega (arith, lt))

pub copy_sorts : (l : List CopyEventR) → once_each l ≡ true → is_copy (IsSection ∷ IsSection ∷ sorts_of l) ≡ true
copy_sorts l h =
    let once = at_most_once l h in
    let xs = sorts_of l in
    let A = list_all has_copy_role xs in
    let B = at_most_one role.Pre xs in
    let C = at_most_one role.Srce xs in
    let D = at_most_one role.Deste xs in
    let b = one_of role.Pre l (omega (arith, once.0, counted_alike role.Pre is_pre pre_alike l)) in
    let c = one_of role.Srce l (omega (arith, once.1, counted_alike role.Srce is_srce srce_alike l)) in
    let d = one_of role.Deste l (omega (arith, once.2, counted_alike role.Deste is_deste deste_alike l)) in
    both_true (A && B && C) D (both_true (A && B) C (both_true A B (roles_right l) b) c) d
