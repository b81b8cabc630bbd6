-- The taker whose parcel's events are given, and the events that are left of it.
use Rattle.std.specs.Prelude.{is_none, not}
use Rattle.std.specs.Option.{option_to_list}
use Rattle.std.proofs.Common.{◌≡◌, ◌↔◌, ◌⊎◌, inl, inr, ◌<◌, ◌≤◌, ◌==◌, ℕ, zero, suc, Bool, true, false, List, [], ◌∷◌, ◌++◌, length, Option, Some, None, IfNone, get_or, slice_set, if◌then◌else◌, refl, sym, ap, ◌∙◌, subst, arith, rules}
use Rattle.std.proofs.lemmas.Bool.{eqb-true}
use Rattle.std.proofs.lemmas.List.{get_or-map, length-map, map-set}
use Rattle.event_tree.specs.Events.{Ev}
use Rattle.pipeline_bus.specs.declared.parcel.Answer.{Answer}
use Rattle.line_links.specs.Listening.{ChangesAt, change_at, events_left, giving_place, is_due, is_due_at, is_giving, left_of, row_noted, states}
use Rattle.line_links.specs.Takers.{EndsBy, Gives, NotSettled, PartState, Settles, TakeState, holds, take_state}
use Rattle.line_links.specs.declared.taker.AddressTaker.{AddressTaker}
use Rattle.line_links.specs.declared.taker.WholeParcel.{WholeParcel}

if_true : {X : Type 0} (b : Bool) (x y : X) → b ≡ true → (if b then x else y) ≡ x
if_true true x y is = refl
if_true false x y is = absurd cc

if_false : {X : Type 0} (b : Bool) (x y : X) → b ≡ false → (if b then x else y) ≡ y
if_false true x y is = absurd cc
if_false false x y is = refl

either : (b : Bool) → (b ≡ true) ⊎ (b ≡ false)
either true = inl refl
either false = inr refl

not_false : (b : Bool) → not b ≡ false → b ≡ true
not_false true is = refl
not_false false is = absurd cc

no_events : (l : List Ev) → length l ≡ 0 → l ≡ []
no_events [] is = refl
no_events (x ∷ xs) is = absurd (omega (arith, is))

no_length : (l : List Ev) → l ≡ [] → (length l == 0) ≡ true
no_length l none = ap (λ m. length m == 0) none

none_held : (l : List Ev) → (not (length l == 0) ≡ false) ↔ (l ≡ [])
none_held l = (λ no. no_events l (eqb-true (length l) 0 (not_false (length l == 0) no)), λ none. ap not (no_length l none))

-- ---- one taker

module _ (t u : TakeState) where
  -- what is left of a taker that gives, where it gave its next event
  gave_by : (e : Option Ev) (part : Option PartState) → t.part ≡ part → Gives e t u → is_giving t ≡ true → (left_of t.part ≡ option_to_list e ++ left_of u.part) × ((is_giving u ≡ true) × IfNone e (left_of t.part ≡ []))
  gave_by (Some x) part is gives giving = (
    ap left_of gives.has ∙ gives.next ∙ ap (λ (s : TakeState). x ∷ left_of s.part) (sym gives.behind),
    (ap is_giving gives.behind, tt),
  )
  gave_by None None is gives giving = absurd (search (ap (λ q. not (is_none q)) is, giving, rules))
  gave_by None (Some p) is gives giving = (
    ap (λ (s : TakeState). left_of s.part) (sym gives.1),
    (ap is_giving gives.1 ∙ giving, ap left_of is ∙ (none_held p.left).0 (sym (ap (λ q. holds (record t { part = q })) is) ∙ gives.0)),
  )

  -- an answer leaves it
  part_settled : (front : ℕ) (a : Option Answer) → Settles front a t u → u.part ≡ t.part
  part_settled front (Some a) settles = ap (λ (s : TakeState). s.part) settles.behind
  part_settled front None settles = by t.whole settles
    where
      by : (whole : List WholeParcel) → NotSettled front whole t u → u.part ≡ t.part
      by [] same = ap (λ (s : TakeState). s.part) same
      by (w ∷ ws) (inl same) = ap (λ (s : TakeState). s.part) same.1
      by (w ∷ ws) (inr back) = ap (λ (s : TakeState). s.part) back.1.1

  -- and so does a look at its end
  pub part_ended : (b : Bool) → EndsBy b t u → u.part ≡ t.part
  part_ended true ends = ap (λ (s : TakeState). s.part) ends.1.1.1.0
  part_ended false ends = ap (λ (s : TakeState). s.part) ends.0

-- ---- all takers

-- the events of the first that gives, where it is changed
left_here : (ts : List TakeState) (t : TakeState) → giving_place ts < length ts → t ≡ get_or ts (giving_place ts) t → (is_giving t ≡ true) × (events_left ts ≡ left_of t.part)
left_here [] t lt is = absurd (omega (arith, lt))
left_here (x ∷ ts) t lt is = by (is_giving x) refl (λ less there. left_here ts t less there)
  where
    by : (b : Bool) → is_giving x ≡ b → (giving_place ts < length ts → t ≡ get_or ts (giving_place ts) t → (is_giving t ≡ true) × (events_left ts ≡ left_of t.part))
        → (is_giving t ≡ true) × (events_left (x ∷ ts) ≡ left_of t.part)
    by true gives rest =
        let here : giving_place (x ∷ ts) ≡ 0 = if_true (is_giving x) 0 (suc (giving_place ts)) gives in
        let same : t ≡ x = is ∙ ap (λ n. get_or (x ∷ ts) n t) here in
        (ap is_giving same ∙ gives, if_true (is_giving x) (left_of x.part) (events_left ts) gives ∙ ap (λ (s : TakeState). left_of s.part) (sym same))
    by false passes rest =
        let later : giving_place (x ∷ ts) ≡ suc (giving_place ts) = if_false (is_giving x) 0 (suc (giving_place ts)) passes in
        let found = rest (omega (arith, lt, later)) (is ∙ ap (λ n. get_or (x ∷ ts) n t) later) in
        (found.0, if_false (is_giving x) (left_of x.part) (events_left ts) passes ∙ found.1)

left_set : (ts : List TakeState) (u : TakeState) → giving_place ts < length ts → is_giving u ≡ true → events_left (slice_set ts (giving_place ts) u) ≡ left_of u.part
left_set [] u lt gives = absurd (omega (arith, lt))
left_set (x ∷ ts) u lt gives = by (is_giving x) refl (λ less. left_set ts u less gives)
  where
    by : (b : Bool) → is_giving x ≡ b → (giving_place ts < length ts → events_left (slice_set ts (giving_place ts) u) ≡ left_of u.part) → events_left (slice_set (x ∷ ts) (giving_place (x ∷ ts)) u) ≡ left_of u.part
    by true here rest =
        ap (λ n. events_left (slice_set (x ∷ ts) n u)) (if_true (is_giving x) 0 (suc (giving_place ts)) here)
        ∙ if_true (is_giving u) (left_of u.part) (events_left ts) gives
    by false passes rest =
        let later : giving_place (x ∷ ts) ≡ suc (giving_place ts) = if_false (is_giving x) 0 (suc (giving_place ts)) passes in
        ap (λ n. events_left (slice_set (x ∷ ts) n u)) later
        ∙ if_false (is_giving x) (left_of x.part) (events_left (slice_set ts (giving_place ts) u)) passes
        ∙ rest (omega (arith, lt, later))

-- the next event of it was given
pub next_left : (ts : List TakeState) (t u : TakeState) (e : Option Ev) → giving_place ts < length ts → t ≡ get_or ts (giving_place ts) t → Gives e t u
    → (events_left ts ≡ option_to_list e ++ events_left (slice_set ts (giving_place ts) u)) × IfNone e (events_left ts ≡ [])
next_left ts t u e lt is gives =
    let here = left_here ts t lt is in
    let after = gave_by t u e t.part refl gives here.0 in
    (here.1 ∙ after.0 ∙ ap (λ l. option_to_list e ++ l) (sym (left_set ts u lt after.1.0)), for_none e (λ none. here.1 ∙ none) after.1.1)
  where
    for_none : (e : Option Ev) → (left_of t.part ≡ [] → events_left ts ≡ []) → IfNone e (left_of t.part ≡ []) → IfNone e (events_left ts ≡ [])
    for_none None from none = from none
    for_none (Some x) from none = tt

-- none gives
pub none_gives : (ts : List TakeState) → length ts ≤ giving_place ts → (giving_place ts ≡ length ts) × (events_left ts ≡ [])
none_gives [] le = (refl, refl)
none_gives (x ∷ ts) le = by (is_giving x) refl (λ less. none_gives ts less)
  where
    by : (b : Bool) → is_giving x ≡ b → (length ts ≤ giving_place ts → (giving_place ts ≡ length ts) × (events_left ts ≡ [])) → (giving_place (x ∷ ts) ≡ length (x ∷ ts)) × (events_left (x ∷ ts) ≡ [])
    by true gives rest = let here : giving_place (x ∷ ts) ≡ 0 = if_true (is_giving x) 0 (suc (giving_place ts)) gives in absurd (omega (arith, le, here))
    by false passes rest =
        let later : giving_place (x ∷ ts) ≡ suc (giving_place ts) = if_false (is_giving x) 0 (suc (giving_place ts)) passes in
        let found = rest (omega (arith, le, later)) in
        (later ∙ ap suc found.0, if_false (is_giving x) (left_of x.part) (events_left ts) passes ∙ found.1)

-- whether an event is held of it
holds_so : (t : TakeState) → is_giving t ≡ true → (holds t ≡ false) ↔ (left_of t.part ≡ [])
holds_so t gives = by t.part refl
  where
    by : (part : Option PartState) → t.part ≡ part → (holds t ≡ false) ↔ (left_of t.part ≡ [])
    by None is = absurd (search (ap (λ q. not (is_none q)) is, gives, rules))
    by (Some p) is = subst (λ q. (holds (record t { part = q }) ≡ false) ↔ (left_of q ≡ [])) (sym is) (none_held p.left)

pub held_so : (ts : List TakeState) (t : TakeState) → giving_place ts < length ts → t ≡ get_or ts (giving_place ts) t → (holds t ≡ false) ↔ (events_left ts ≡ [])
held_so ts t lt is =
    let here = left_here ts t lt is in
    let so = holds_so t here.0 in
    (λ no. here.1 ∙ so.0 no, λ none. so.1 (sym here.1 ∙ none))

-- a taker whose parcel stays as it is
pub left_stays : (ts : List TakeState) (at : ℕ) (t u : TakeState) → t ≡ get_or ts at t → u.part ≡ t.part → events_left (slice_set ts at u) ≡ events_left ts
left_stays [] at t u is same = refl
left_stays (x ∷ ts) zero t u is same =
    let p : u.part ≡ x.part = same ∙ ap (λ (s : TakeState). s.part) is in
    ap (λ q. if not (is_none q) then left_of q else events_left ts) p
left_stays (x ∷ ts) (suc at) t u is same = ap (λ l. if is_giving x then left_of x.part else l) (left_stays ts at t u is same)

pub left_settled : (ts : List TakeState) (at front : ℕ) (a : Option Answer) (t u : TakeState) → t ≡ get_or ts at t → Settles front a t u → events_left (slice_set ts at u) ≡ events_left ts
left_settled ts at front a t u is settles = left_stays ts at t u is (part_settled t u front a settles)

pub left_ended : (ts : List TakeState) (at : ℕ) (b : Bool) (t u : TakeState) → t ≡ get_or ts at t → EndsBy b t u → events_left (slice_set ts at u) ≡ events_left ts
left_ended ts at b t u is ends = left_stays ts at t u is (part_ended t u b ends)

-- ---- rows

pub change_set : (f : TakeState → TakeState) (ts : List TakeState) (at : ℕ) (t u : TakeState) → t ≡ get_or ts at t → u ≡ f t → change_at f at ts ≡ slice_set ts at u
change_set f [] at t u is changed = refl
change_set f (x ∷ ts) zero t u is changed = ap (λ s. s ∷ ts) (ap f (sym is) ∙ sym changed)
change_set f (x ∷ ts) (suc at) t u is changed = ap (λ l. x ∷ l) (change_set f ts at t u is changed)

pub change_past : (f : TakeState → TakeState) (ts : List TakeState) (at : ℕ) → length ts ≤ at → change_at f at ts ≡ ts
change_past f [] at le = refl
change_past f (x ∷ ts) zero le = absurd (omega (arith, le))
change_past f (x ∷ ts) (suc at) le = ap (λ l. x ∷ l) (change_past f ts at (omega (arith, le)))

-- ---- answers that are due

pub due_there : (front : ℕ) (ts : List TakeState) (at : ℕ) (t : TakeState) → at < length ts → t ≡ get_or ts at t → is_due_at front at ts ≡ is_due front t
due_there front [] at t lt is = absurd (omega (arith, lt))
due_there front (x ∷ ts) zero t lt is = ap (is_due front) (sym is)
due_there front (x ∷ ts) (suc at) t lt is = due_there front ts at t (omega (arith, lt)) is

pub due_past : (front : ℕ) (ts : List TakeState) (at : ℕ) → length ts ≤ at → is_due_at front at ts ≡ false
due_past front [] at le = refl
due_past front (x ∷ ts) zero le = absurd (omega (arith, le))
due_past front (x ∷ ts) (suc at) le = due_past front ts at (omega (arith, le))

-- ---- the first taker that gives, of those that an input has

module _ (xs : List AddressTaker) (place : ℕ) (is : place ≡ giving_place (states xs)) where
  past_all : length xs ≤ place → length (states xs) ≤ giving_place (states xs)
  past_all le = omega (arith, le, is, length-map xs take_state)

  module _ (x : AddressTaker) (lt : place < length xs) (here : x ≡ get_or xs place x) where
    within : giving_place (states xs) < length (states xs)
    within = omega (arith, lt, is, length-map xs take_state)

    there : take_state x ≡ get_or (states xs) (giving_place (states xs)) (take_state x)
    there = ap take_state here ∙ sym (get_or-map take_state xs place x (take_state x) lt) ∙ ap (λ n. get_or (states xs) n (take_state x)) is

    set_there : (y : AddressTaker) → states (slice_set xs place y) ≡ slice_set (states xs) (giving_place (states xs)) (take_state y)
    set_there y = map-set take_state xs place y ∙ ap (λ n. slice_set (states xs) n (take_state y)) is

    pub holds_there : (holds (take_state x) ≡ false) ↔ (events_left (states xs) ≡ [])
    holds_there = held_so (states xs) (take_state x) within there

    pub gave_there : (y : AddressTaker) (e : Option Ev) → Gives e (take_state x) (take_state y) → ChangesAt (Gives e) (giving_place (states xs)) (states xs) (states (slice_set xs place y))
    gave_there y e gives = record { before = take_state x; after = take_state y; there = within; is = there; changes = gives; behind = set_there y }

    pub left_there : (y : AddressTaker) (e : Option Ev) → Gives e (take_state x) (take_state y)
        → (events_left (states xs) ≡ option_to_list e ++ events_left (states (slice_set xs place y))) × IfNone e (events_left (states xs) ≡ [])
    left_there y e gives =
        let left = next_left (states xs) (take_state x) (take_state y) e within there gives in
        (left.0 ∙ ap (λ l. option_to_list e ++ events_left l) (sym (set_there y)), left.1)

    pub noted_there : (y : AddressTaker) (row : ℕ) → take_state y ≡ row_noted row (take_state x) → states (slice_set xs place y) ≡ change_at (row_noted row) (giving_place (states xs)) (states xs)
    noted_there y row noted = set_there y ∙ sym (change_set (row_noted row) (states xs) (giving_place (states xs)) (take_state x) (take_state y) there noted)

  pub none_there : length xs ≤ place → (giving_place (states xs) ≡ length (states xs)) × (events_left (states xs) ≡ [])
  none_there le = none_gives (states xs) (past_all le)

  pub unnoted_there : (row : ℕ) → length xs ≤ place → change_at (row_noted row) (giving_place (states xs)) (states xs) ≡ states xs
  unnoted_there row le = change_past (row_noted row) (states xs) (giving_place (states xs)) (past_all le)
