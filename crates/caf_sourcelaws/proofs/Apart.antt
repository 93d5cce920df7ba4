-- Each choice leaves the names of the pending operations apart, and their numbers given out.
use Rattle.std.proofs.Common.{◌≡◌, ◌∙◌, ℕ, zero, suc, ◌+◌, ◌<◌, ◌≤◌, Bool, true, false, cond, nat_eq, List, [], ◌∷◌, Option, Some, None, ℤ, ap, refl, sym, subst, slice_get, slice_set, arith, if◌then◌else◌}
use Rattle.std.proofs.lemmas.Bool.{and_parts, eqb-true}
use Rattle.std.proofs.lemmas.Option.{none-some, same_Some}
use Rattle.caf_base.specs.declared.operation.OpName.{OpName}
use Rattle.caf_base.specs.declared.operation.Stage.{Stage}
use Rattle.caf_base.specs.declared.team.FinishRef.{FinishRef}
use Rattle.caf_base.specs.declared.team.Team.{Team}
use Rattle.caf_base.specs.declared.trap.Trap.{Trap}
use Rattle.caf_pending.specs.declared.operation.Operation.{Operation}
use Rattle.caf_pending.specs.Pending.{clear_of, is_named, operation_named, passed_by, with_operation, without}
use Rattle.caf_program.specs.declared.program.Program.{Program}
use Rattle.caf_source.specs.declared.choice.Choice.{Choice}
use Rattle.caf_source.specs.declared.choice.Choice.TheVariants as choice
use Rattle.caf_source.specs.declared.outcome.Outcome.{Outcome}
use Rattle.caf_source.specs.declared.outcome.Outcome.TheVariants as outcome
use Rattle.caf_source.specs.declared.outcome.Touched.{Touched}
use Rattle.caf_source.specs.declared.outcome.Touched.TheVariants as touched
use Rattle.caf_source.specs.declared.state.Image.{Image}
use Rattle.caf_source.specs.Effects.{image_step}
use Rattle.caf_source.specs.Next.{answered_image, answered_images, answered_in, images_touched, last_arrival, leave_finish, leave_in, may_leave, next, part_in, part_waiting, parted, parted_image, past_end, pending_after, pending_touched, running_in, standing, step_in, team_of_split, touch_at, touch_found, touch_next, untrapped, with_notice, with_pending, without_ship}
use Rattle.caf_source.specs.Run.{state_after, state_from}
use Rattle.caf_source.specs.Stages.{touch}
use Rattle.caf_source.specs.State.{State, first, place_of}
use Rattle.caf_treestep.specs.declared.task.Wait.{Wait}
use Rattle.caf_treestep.specs.declared.task.Wait.TheVariants as awaited
use Rattle.caf_sourcelaws.specs.Named.{AreNamed, IsNextNew, begun_by, next_name}
use Rattle.caf_sourcelaws.proofs.Counts.{gone_on, how_many, none_found, put, ship_taken, taken}
use Rattle.caf_sourcelaws.proofs.Growth.{Grow, grows_at, number_at, stands_at}
use Rattle.caf_sourcelaws.proofs.Numbered.{Numbered, begun_in, noticed_in, step_numbered, touch_numbered}

-- there are no more of any name
abbrev NoMore : List Operation → List Operation → Type 0
NoMore ops rest = (name : OpName) → how_many name rest ≤ how_many name ops

-- images go on, and no operation is begun
stays : (images after : List Image) (ops rest : List Operation) → Grow images after → NoMore ops rest → AreNamed images ops → AreNamed after rest
stays images after ops rest grow fewer named = record {
  apart = λ name. omega (arith, fewer name, named.apart name);
  given = λ name past. omega (arith, fewer name, named.given name (omega (arith, past, grow name.image)));
}

-- an operation that is begun with the next number of an image
module _ (images after : List Image) (i begun : ℕ) (op : Operation) (rest : List Operation) (was : number_at images i ≡ begun) (now : number_at after i ≡ suc begun) (is : op.name ≡ next_name i begun) where
  -- a name that it has is that number's
  has_name : (name : OpName) → is_named name op ≡ true → (name.image ≡ i) × (name.number ≡ suc begun)
  has_name name same =
      let parts = and_parts (nat_eq op.name.image name.image) (nat_eq op.name.number name.number) same in
      (sym (eqb-true op.name.image name.image parts.0) ∙ ap (λ (n : OpName). n.image) is, sym (eqb-true op.name.number name.number parts.1) ∙ ap (λ (n : OpName). n.number) is)

  new_apart : AreNamed images rest → (name : OpName) (b : Bool) → is_named name op ≡ b → cond b 1 0 + how_many name rest ≤ 1
  new_apart named name true same =
      let has = has_name name same in
      let none : how_many name rest ≡ 0 = named.given name (omega (arith, ap (number_at images) has.0, was, has.1)) in
      omega (arith, none)
  new_apart named name false same = omega (arith, named.apart name)

  new_given : Grow images after → AreNamed images rest → (name : OpName) → number_at after name.image < name.number → (b : Bool) → is_named name op ≡ b → cond b 1 0 + how_many name rest ≡ 0
  new_given grow named name past true same =
      let has = has_name name same in
      absurd (omega (arith, past, ap (number_at after) has.0, now, has.1))
  new_given grow named name past false same = omega (arith, named.given name (omega (arith, past, grow name.image)))

  begins : Grow images after → AreNamed images rest → AreNamed after (with_operation op rest)
  begins grow named = record {
    apart = λ name. omega (arith, put name op rest, new_apart named name (is_named name op) refl);
    given = λ name past. omega (arith, put name op rest, new_given grow named name past (is_named name op) refl);
  }

-- an image is put back, and what it began, if anything, is put to the rest
put_back : (images : List Image) (i : ℕ) (im new : Image) (begun : Option Operation) (ops rest : List Operation) → slice_get images i ≡ Some im → Numbered i im.operations new.operations begun → NoMore ops rest → AreNamed images ops → AreNamed (slice_set images i new) (with_notice begun rest)
put_back images i im new None ops rest at numbered fewer named =
    stays images (slice_set images i new) ops rest (grows_at images i im new at (omega (arith, numbered))) fewer named
put_back images i im new (Some op) ops rest at numbered fewer named =
    begins images (slice_set images i new) i im.operations op rest (ap number_of at) (stands_at images i im new at ∙ numbered.1) numbered.0
    (grows_at images i im new at (omega (arith, numbered.1)))
    (stays images images ops rest (λ k. omega arith) fewer named)
  where
    number_of : Option Image → ℕ
    number_of None = 0
    number_of (Some im) = im.operations

no_more : (ops : List Operation) → NoMore ops ops
no_more ops name = omega arith

abbrev Named : State → Type 0
Named s = AreNamed s.images s.pending

-- the same of a state that is told by an equation
told : (images : List Image) (ops : List Operation) (t : State) → with_pending images (Some ops) ≡ Some t → AreNamed images ops → Named t
told images ops t is named = subst Named (same_Some (record { images = images; pending = ops }) t is) named

did_named : (s : State) (i : ℕ) (im new : Image) (o : Outcome) (t : State) → slice_get s.images i ≡ Some im → Numbered i im.operations new.operations (begun_in o) → Named s → with_pending (slice_set s.images i new) (pending_after o s.pending) ≡ Some t → Named t
did_named s i im new outcome.Refused t at numbered named is = absurd (none-some t is)
did_named s i im new outcome.Local t at numbered named is =
    told (slice_set s.images i new) s.pending t is (put_back s.images i im new None s.pending s.pending at numbered (no_more s.pending) named)
did_named s i im new (outcome.Begun op) t at numbered named is =
    told (slice_set s.images i new) (with_operation op s.pending) t is (put_back s.images i im new (Some op) s.pending s.pending at numbered (no_more s.pending) named)
did_named s i im new (outcome.Ended ship notice) t at numbered named is =
    told (slice_set s.images i new) (with_notice notice (without_ship ship s.pending)) t is
    (put_back s.images i im new notice s.pending (without_ship ship s.pending) at numbered (λ name. ship_taken name ship s.pending) named)

-- an image that runs is the one that stands there
runs : (o : Option Image) (im : Image) → running_in o ≡ Some im → o ≡ Some im
runs None im is = absurd (none-some im is)
runs (Some x) im is = go x.trap is
  where
    go : (t : Option Trap) → untrapped x t ≡ Some im → Some x ≡ Some im
    go None h = h
    go (Some t) h = absurd (none-some im h)

step_named : (p : Program) (s : State) (i t : ℕ) (after : State) (found : Option Image) → running_in (slice_get s.images i) ≡ found → Named s → step_in p s i t found ≡ Some after → Named after
step_named p s i t after None at named is = absurd (none-some after is)
step_named p s i t after (Some im) at named is =
    let d = image_step p.subs (clear_of s.pending i t) i im t in
    did_named s i im d.image d.outcome after (runs (slice_get s.images i) im at) (step_numbered p.subs (clear_of s.pending i t) i im t) named is

-- a task that is answered leaves its image's number
answer_alike : (t : ℕ) (value : Option ℤ) (im : Image) → (answered_image t value im).operations ≡ im.operations
answer_alike zero value im = refl
answer_alike (suc n) value im = refl

answered_grow : (images : List Image) (i t : ℕ) (value : Option ℤ) (found : Option Image) → slice_get images i ≡ found → Grow images (answered_in i t value images found)
answered_grow images i t value None at k = omega arith
answered_grow images i t value (Some im) at k = grows_at images i im (answered_image t value im) at (omega (arith, answer_alike t value im)) k

reached_named : (s : State) (i : ℕ) (im new : Image) (what : Touched) (name : OpName) (task : ℕ) (t : State) → slice_get s.images i ≡ Some im → Numbered i im.operations new.operations (noticed_in what) → Named s →
    with_pending (images_touched what name.image task (slice_set s.images i new)) (pending_touched what name s.pending) ≡ Some t → Named t
reached_named s i im new touched.Refused name task t at numbered named is = absurd (none-some t is)
reached_named s i im new touched.Trapped name task t at numbered named is =
    told (slice_set s.images i new) s.pending t is (put_back s.images i im new None s.pending s.pending at numbered (no_more s.pending) named)
reached_named s i im new touched.Passed name task t at numbered named is =
    told (slice_set s.images i new) (passed_by None name s.pending) t is
    (put_back s.images i im new None s.pending (passed_by None name s.pending) at numbered (λ n. gone_on n None name s.pending) named)
reached_named s i im new (touched.Read values notice) name task t at numbered named is =
    told (slice_set s.images i new) (with_notice notice (passed_by (Some values) name s.pending)) t is
    (put_back s.images i im new notice s.pending (passed_by (Some values) name s.pending) at numbered (λ n. gone_on n (Some values) name s.pending) named)
reached_named s i im new (touched.Completed notice) name task t at numbered named is =
    told (slice_set s.images i new) (with_notice notice (without name s.pending)) t is
    (put_back s.images i im new notice s.pending (without name s.pending) at numbered (λ n. taken n name s.pending) named)
reached_named s i im new (touched.Answered value) name task t at numbered named is =
    let images = slice_set s.images i new in
    let rest = without name s.pending in
    told (answered_images name.image task value images) rest t is
    (stays images (answered_images name.image task value images) rest rest (answered_grow images name.image task value (slice_get images name.image) refl) (no_more rest)
    (put_back s.images i im new None s.pending rest at numbered (λ n. taken n name s.pending) named))

touch_named : (p : Program) (s : State) (i : ℕ) (op : Operation) (st : Stage) (after : State) (found : Option Image) → running_in (slice_get s.images i) ≡ found → Named s → touch_at p s i op st found ≡ Some after → Named after
touch_named p s i op st after None at named is = absurd (none-some after is)
touch_named p s i op st after (Some im) at named is =
    let r = touch p.subs i im op st in
    reached_named s i im r.image r.touched op.name op.task after (runs (slice_get s.images i) im at) (touch_numbered p.subs i im op st) named is

staged_named : (p : Program) (s : State) (op : Operation) (stages : List Stage) (after : State) → Named s → touch_next p s op stages ≡ Some after → Named after
staged_named p s op [] after named is = absurd (none-some after is)
staged_named p s op (st ∷ rest) after named is = touch_named p s (place_of op st) op st after (running_in (slice_get s.images (place_of op st))) refl named is

found_named : (p : Program) (s : State) (found : Option Operation) (after : State) → Named s → touch_found p s found ≡ Some after → Named after
found_named p s None after named is = absurd (none-some after is)
found_named p s (Some op) after named is = staged_named p s op op.stages after named is

-- an image with the same number in the place of another
replaced : (s : State) (i : ℕ) (im new : Image) (after : State) → slice_get s.images i ≡ Some im → new.operations ≡ im.operations → Named s → Some (record s { images = slice_set s.images i new }) ≡ Some after → Named after
replaced s i im new after at same named is =
    told (slice_set s.images i new) s.pending after is (put_back s.images i im new None s.pending s.pending at same (no_more s.pending) named)

parted_named : (s : State) (i : ℕ) (im : Image) (object : ℕ) (team : Option Team) (after : State) → slice_get s.images i ≡ Some im → Named s → parted s i im object team ≡ Some after → Named after
parted_named s i im object None after at named is = absurd (none-some after is)
parted_named s i im object (Some team) after at named is = replaced s i im (parted_image im object team) after at refl named is

waiting_named : (s : State) (i : ℕ) (im : Image) (w : Option Wait) (after : State) → slice_get s.images i ≡ Some im → Named s → part_waiting s i im w ≡ Some after → Named after
waiting_named s i im (Some (awaited.NewTeam object)) after at named is = parted_named s i im object (team_of_split s.images (last_arrival im)) after at named is
waiting_named s i im (Some awaited.Value) after at named is = absurd (none-some after is)
waiting_named s i im (Some awaited.Done) after at named is = absurd (none-some after is)
waiting_named s i im None after at named is = absurd (none-some after is)

part_named : (s : State) (i : ℕ) (after : State) (found : Option Image) → running_in (slice_get s.images i) ≡ found → Named s → part_in s i found ≡ Some after → Named after
part_named s i after None at named is = absurd (none-some after is)
part_named s i after (Some im) at named is = waiting_named s i im im.main.task.wait after (runs (slice_get s.images i) im at) named is

left_named : (s : State) (i : ℕ) (im : Image) (f : Option FinishRef) (after : State) → slice_get s.images i ≡ Some im → Named s → leave_finish s i im f ≡ Some after → Named after
left_named s i im None after at named is = absurd (none-some after is)
left_named s i im (Some f) after at named is = go (may_leave s f) is
  where
    go : (b : Bool) → (if b then Some (record s { images = slice_set s.images i (past_end im f) }) else None) ≡ Some after → Named after
    go true h = replaced s i im (past_end im f) after at refl named h
    go false h = absurd (none-some after h)

leave_named : (s : State) (i : ℕ) (after : State) (found : Option Image) → running_in (slice_get s.images i) ≡ found → Named s → leave_in s i found ≡ Some after → Named after
leave_named s i after None at named is = absurd (none-some after is)
leave_named s i after (Some im) at named is = left_named s i im (standing im) after (runs (slice_get s.images i) im at) named is

next_named : (p : Program) (s : State) (c : Choice) (after : State) → Named s → next p s c ≡ Some after → Named after
next_named p s (choice.Step i t) after named is = step_named p s i t after (running_in (slice_get s.images i)) refl named is
next_named p s (choice.Touch name) after named is = found_named p s (operation_named name s.pending) after named is
next_named p s (choice.Part i) after named is = part_named s i after (running_in (slice_get s.images i)) refl named is
next_named p s (choice.Leave i) after named is = leave_named s i after (running_in (slice_get s.images i)) refl named is

-- every state to which choices lead from one
run_named : (p : Program) (s : State) (choices : List Choice) (after : State) → Named s → state_from p (Some s) choices ≡ Some after → Named after
run_named p s [] after named is = subst Named (same_Some s after is) named
run_named p s (c ∷ rest) after named is = go (next p s c) refl is (λ t n h. run_named p t rest after n h)
  where
    nowhere : (choices : List Choice) → state_from p None choices ≡ Some after → Named after
    nowhere [] h = absurd (none-some after h)
    nowhere (d ∷ ds) h = nowhere ds h

    go : (o : Option State) → next p s c ≡ o → state_from p o rest ≡ Some after → ((t : State) → Named t → state_from p (Some t) rest ≡ Some after → Named after) → Named after
    go None e h more = nowhere rest h
    go (Some t) e h more = more t (next_named p s c t named e) h

pub names_stay_apart : (p : Program) (images : ℕ) (choices : List Choice) (after : State) → state_after p images choices ≡ Some after → Named after
names_stay_apart p images choices after is = run_named p (first p images) choices after (record { apart = λ name. omega arith; given = λ name past. refl }) is

-- the next operation of an image takes the place of no other
pub next_is_new : (s : State) → Named s → IsNextNew s.images s.pending
next_is_new s named i im at = none_found (next_name i im.operations) s.pending (named.given (next_name i im.operations) (past (slice_get s.images i) at))
  where
    past : (found : Option Image) → found ≡ Some im → begun_by found < suc im.operations
    past None is = absurd (none-some im is)
    past (Some x) is = omega (arith, ap (λ (y : Image). y.operations) (same_Some x im is))
