-- The inputs by which events came are there, behind each step.
use Rattle.std.proofs.Common.{◌≡◌, ◌⊎◌, inl, inr, ⊎_elim, ℕ, ◌==◌, Bool, true, false, List, [], ◌∷◌, ◌++◌, length, map, Option, Some, None, if◌then◌else◌, refl, sym, ap, ◌∙◌, subst}
use Rattle.std.proofs.lemmas.Option.{same_Some}
use Rattle.event_flow.specs.Meaning.{Makes}
use Rattle.foreign_parts.specs.declared.place.Place.TheVariants as place
use Rattle.history_book.specs.Contents.{Bytes}
use Rattle.history_book.specs.Entries.{Entry, ParcelAt, Accept, Deliver, Adopt}
use Rattle.history_book.specs.Inputs.{Input, named_from}
use Rattle.history_book.specs.Legal.{rejections}
use Rattle.history_book.specs.Links.{Listening}
use Rattle.history_book.specs.Lists.{IsIn}
use Rattle.history_book.specs.Sound.{Places}
use Rattle.history_book.specs.States.{start, after}
use Rattle.history_book.specs.Steps.{NoOpening}
use Rattle.history_book.proofs.Lists.{in_front, in_either}
use Rattle.line_machine.specs.Accepting.{WayIn, way_in, MayGive, IsWayIn, WaysStand, OpenedWaysStand, WaysStandStill}
use Rattle.line_machine.specs.Effects.{accepted_now, held_now, ended_now, assured_now, carried}
use Rattle.line_machine.specs.Ends.{TakerView, Taken, Takes, took, row_made, taker_at, change_taker, without_taker, assured, refused}
use Rattle.line_machine.specs.Finds.{IsEndBehind, AreEndsBehind, Changes, ends_served}
use Rattle.line_machine.specs.Serving.{EndsStand}
use Rattle.line_machine.specs.Since.{since, of_each}
use Rattle.line_machine.specs.Stands.{Stands}
use Rattle.line_machine.specs.Steps as m
use Rattle.line_machine.specs.Steps.{Step, effect, GoesOn}
use Rattle.line_machine.specs.Views as views
use Rattle.line_machine.specs.Views.{InputView, LineView, input_of, change_input}
use Rattle.line_machine.proofs.Inputs.{AreViewsApart, inputs_apart, renumbered_keeps, view_in, views_apart, same_view, found_view, view_behind, carried_view}
use Rattle.line_machine.proofs.Since.{unopened, told_more, told_none, opened_each, letters_each, rejected_each}
use Rattle.line_machine.proofs.Takers.{taker_in}

-- ---- what goes on

-- each of these inputs is there, and isn't open again once it is closed
abbrev InputsGoOn : List InputView → List InputView → Type 0
InputsGoOn old new = (v : InputView) → IsIn v old → (u : InputView) × IsIn u new × (u.number ≡ v.number) × (u.statement ≡ v.statement) × (u.is_open ≡ true → v.is_open ≡ true)

-- the end has a place and an input that one of these has
abbrev IsThere : TakerView → List TakerView → Type 0
IsThere t us = (u : TakerView) × IsIn u us × (u.place ≡ t.place) × (u.input ≡ t.input)

-- so it is with each end of an open input
abbrev EndsGoOn : List InputView → List TakerView → List TakerView → Type 0
EndsGoOn inputs ts us = (v : InputView) → IsIn v inputs → v.is_open ≡ true → (t : TakerView) → IsIn t ts → t.input ≡ v.number → IsThere t us

module _ (listening : Listening) where
  give_on : (old : List InputView) (ts us : List TakerView) → EndsGoOn old ts us → (v u : InputView) → IsIn v old → v.is_open ≡ true → u.number ≡ v.number → u.statement ≡ v.statement → (parcel : Option ParcelAt)
      → MayGive listening ts v parcel → MayGive listening us u parcel
  give_on old ts us ends v u has opens number statement None gives = ap listening.address statement ∙ gives
  give_on old ts us ends v u has opens number statement (Some at) gives =
      let now = ends v has opens gives.0 gives.1 gives.3 in (now.0, now.1, now.2 ∙ gives.2, now.3 ∙ gives.3 ∙ sym number)

  way_on : (old new : List InputView) (ts us : List TakerView) → InputsGoOn old new → EndsGoOn old ts us → (w : WayIn) → IsWayIn listening old ts w → IsWayIn listening new us w
  way_on old new ts us inputs ends w is =
      let now = inputs is.input is.has in
      record {
        input = now.0;
        has = now.1;
        number_is = now.2 ∙ is.number_is;
        gives = λ opens. give_on old ts us ends is.input now.0 is.has (now.4 opens) now.2 now.3 w.parcel (is.gives (now.4 opens));
      }

-- ---- inputs

same_inputs : (vs : List InputView) → InputsGoOn vs vs
same_inputs vs v has = (v, has, refl, refl, λ opens. opens)

changed_inputs : (n : ℕ) (f : InputView → InputView) → ((v : InputView) → input_of (f v) ≡ input_of v) → (vs : List InputView) → InputsGoOn vs (change_input f n vs)
changed_inputs n f keeps vs v has =
    let now = view_behind f keeps n vs v has in
    (now.0, now.1, ap (λ (x : Input). x.number) now.2, ap (λ (x : Input). x.statement) now.2, λ opens. sym (ap (λ (x : Input). x.is_open) now.2) ∙ opens)

adopted_inputs : (listening : Listening) {places : Places} (i : LineView places) (c : Changes listening i) → InputsGoOn i.inputs (map (carried i.inputs) c.inputs)
adopted_inputs listening i c v has =
    let kept = renumbered_keeps (length (views.inputs_of i.inputs)) (views.inputs_of i.inputs) (named_from 1 c.plan.config.inputs) c.inputs c.renumbered (input_of v) (view_in v i.inputs has) in
    let view = carried_view i.inputs c.inputs kept.0 kept.1 in (
      carried i.inputs kept.0,
      view.0,
      ap (λ (x : Input). x.number) view.1 ∙ kept.2,
      ap (λ (x : Input). x.statement) view.1 ∙ kept.3,
      λ opens. kept.4 (sym (ap (λ (x : Input). x.is_open) view.1) ∙ opens),
    )

-- ---- ends

end_same : (t : TakerView) (us : List TakerView) → IsIn t us → IsThere t us
end_same t us has = (t, has, refl, refl)

end_through : (t : TakerView) (us vs : List TakerView) (there : IsThere t us) → IsThere there.0 vs → IsThere t vs
end_through t us vs there on = (on.0, on.1, on.2 ∙ there.2, on.3 ∙ there.3)

changed_end : (f : TakerView → TakerView) (place : ℕ) → ((t : TakerView) → ((f t).place ≡ t.place) × ((f t).input ≡ t.input)) → (ts : List TakerView) (t : TakerView) → IsIn t ts → IsThere t (change_taker f place ts)
changed_end f place keeps [] t has = absurd has
changed_end f place keeps (x ∷ ts) t has = by_test (changed_end f place keeps ts t) (place == x.place) has
  where
    by_test : (IsIn t ts → IsThere t (change_taker f place ts)) → (b : Bool) → IsIn t (x ∷ ts) → IsThere t (if b then f x ∷ ts else x ∷ change_taker f place ts)
    by_test rest true (inl e) = (f x, inl refl, (keeps x).0 ∙ sym (ap (λ (u : TakerView). u.place) e), (keeps x).1 ∙ sym (ap (λ (u : TakerView). u.input) e))
    by_test rest true (inr j) = (t, inr j, refl, refl)
    by_test rest false (inl e) = (t, inl e, refl, refl)
    by_test rest false (inr j) = let now = rest j in (now.0, inr now.1, now.2, now.3)

took_ends : (only : Option (List ℕ)) (n : ℕ) (xs : List Taken) (old new : List TakerView) → Takes only n xs old new → (t : TakerView) → IsIn t old → IsThere t new
took_ends only n [] old new same t has = subst (IsThere t) (sym same) (end_same t old has)
took_ends only n (x ∷ xs) old new takes t has =
    let first = changed_end (took x.parcel) x.place (λ u. (refl, refl)) old t has in
    end_through t (change_taker (took x.parcel) x.place old) new first (took_ends only n xs (change_taker (took x.parcel) x.place old) new takes.1 first.0 first.1)

end_behind : (inputs : List Input) (t u : TakerView) → IsEndBehind inputs t u → (u.place ≡ t.place) × (u.input ≡ t.input)
end_behind inputs t u (inl on) = (ap (λ (x : TakerView). x.place) on.1, ap (λ (x : TakerView). x.input) on.1)
end_behind inputs t u (inr (inl closed)) = (ap (λ (x : TakerView). x.place) closed.2, ap (λ (x : TakerView). x.input) closed.2)
end_behind inputs t u (inr (inr closes)) = (ap (λ (x : TakerView). x.place) closes.4, ap (λ (x : TakerView). x.input) closes.4)

ends_behind : (inputs : List Input) (old new : List TakerView) → AreEndsBehind inputs old new → (t : TakerView) → IsIn t old → IsThere t new
ends_behind inputs [] new are t has = absurd has
ends_behind inputs (x ∷ old) new are t (inl e) =
    let same = end_behind inputs x are.0 are.3 in
    subst (IsThere t) (sym are.2) (are.0, inl refl, same.0 ∙ sym (ap (λ (u : TakerView). u.place) e), same.1 ∙ sym (ap (λ (u : TakerView). u.input) e))
ends_behind inputs (x ∷ old) new are t (inr j) =
    let rest = ends_behind inputs old are.1 are.4 t j in
    subst (IsThere t) (sym are.2) (rest.0, inr rest.1, rest.2, rest.3)

-- one that isn't given back stays
others_stay : (place : ℕ) (ts : List TakerView) (t : TakerView) → (taker_at place ts ≡ Some t → ⊥) → IsIn t ts → IsIn t (without_taker place ts)
others_stay place [] t other has = absurd has
others_stay place (x ∷ ts) t other has = by_test (others_stay place ts t) (place == x.place) other has
  where
    by_test : ((taker_at place ts ≡ Some t → ⊥) → IsIn t ts → IsIn t (without_taker place ts)) → (b : Bool) → ((if b then Some x else taker_at place ts) ≡ Some t → ⊥) → IsIn t (x ∷ ts)
        → IsIn t (if b then ts else x ∷ without_taker place ts)
    by_test rest true is_other (inl e) = absurd (is_other (ap Some (sym e)))
    by_test rest true is_other (inr j) = j
    by_test rest false is_other (inl e) = inl e
    by_test rest false is_other (inr j) = inr (rest is_other j)

both : (b : Bool) → b ≡ true → b ≡ false → ⊥
both true e f = cc
both false e f = cc

-- ---- the steps

module _ (makes : Makes) (listening : Listening) (bytes : Bytes) (places : Places) (told : List Entry) (i : LineView places) (stands : Stands makes bytes places told i)
    (ends : EndsStand listening i.inputs i.takers) (is : WaysStand listening told i.inputs i.takers) where
  all_ends : (us : List TakerView) → ((t : TakerView) → IsIn t i.takers → IsThere t us) → EndsGoOn i.inputs i.takers us
  all_ends us keeps v has opens t there input = keeps t there

  same_ends : EndsGoOn i.inputs i.takers i.takers
  same_ends = all_ends i.takers (λ t has. end_same t i.takers has)

  -- an end that is given back is one of a closed input
  released_ends : (place : ℕ) (t : TakerView) → taker_at place i.takers ≡ Some t → t.listens ≡ false → EndsGoOn i.inputs i.takers (without_taker place i.takers)
  released_ends place t at closed v has opens u there input = end_same u (without_taker place i.takers) (others_stay place i.takers u other there)
    where
      apart : AreViewsApart i.inputs
      apart = views_apart i.inputs (inputs_apart (after makes start told).plans (views.inputs_of i.inputs) stands.knows.inputs).0

      other : taker_at place i.takers ≡ Some u → ⊥
      other same =
          let end = ends u there in
          let one = same_view i.inputs apart end.input v end.has has (end.number_is ∙ input) in
          both u.listens (end.listens ∙ ap (λ (y : InputView). y.is_open) one ∙ opens) (ap (λ (x : TakerView). x.listens) (same_Some u t (sym same ∙ at)) ∙ closed)

  goes_on : (x : Step makes listening bytes i) → GoesOn makes listening bytes i x
      → InputsGoOn i.inputs (effect makes listening bytes i x).line.inputs × EndsGoOn i.inputs i.takers (effect makes listening bytes i x).line.takers
  goes_on (m.Accepts n c r false) on = (changed_inputs n (accepted_now c.rest (record { number = r.row.number; at = c.first.at })) (λ v. refl) i.inputs, same_ends)
  goes_on (m.Accepts n c r true) on = absurd on
  goes_on (m.Accepts_parcel n a r false) on = (
    same_inputs i.inputs,
    all_ends (change_taker (row_made a.at.number r.row.number) a.at.place a.takers) (λ t has.
        let there = took_ends (ends_served i) n a.taken i.takers a.takers a.takes t has in
        end_through t a.takers (change_taker (row_made a.at.number r.row.number) a.at.place a.takers) there
        (changed_end (row_made a.at.number r.row.number) a.at.place (λ u. (refl, refl)) a.takers there.0 there.1)),
  )
  goes_on (m.Accepts_parcel n a r true) on = absurd on
  goes_on (m.Takes_alone n h address listens taken takers takes) on = (same_inputs i.inputs, all_ends takers (took_ends (ends_served i) n taken i.takers takers takes))
  goes_on (m.Holds_more n h reads came answer none) on = (changed_inputs n (held_now (h.input.held ++ came)) (λ v. refl) i.inputs, same_ends)
  goes_on (m.Is_at_its_end n h opens lines none) on = (changed_inputs n ended_now (λ v. refl) i.inputs, same_ends)
  goes_on (m.Assures n front h marks) on = (changed_inputs n (assured_now front) (λ v. refl) i.inputs, same_ends)
  goes_on (m.Answers place t has may) on =
      (same_inputs i.inputs, all_ends (change_taker (assured may.oldest.number may.rest) place i.takers) (changed_end (assured may.oldest.number may.rest) place (λ u. (refl, refl)) i.takers))
  goes_on (m.Refuses place t has may) on = (same_inputs i.inputs, all_ends (change_taker (refused may.rest) place i.takers) (changed_end (refused may.rest) place (λ u. (refl, refl)) i.takers))
  goes_on (m.Adopts c) on = (
    adopted_inputs listening i c,
    all_ends (c.takers ++ c.new_takers) (λ t has. let there = ends_behind c.inputs i.takers c.takers c.goes_on t has in (there.0, in_front there.0 c.takers c.new_takers there.1, there.2, there.3)),
  )
  goes_on (m.Connects takers next_place new listen senders unused) on = (same_inputs i.inputs, all_ends (i.takers ++ takers) (λ t has. end_same t (i.takers ++ takers) (in_front t i.takers takers has)))
  goes_on (m.Releases place t has free) on = (same_inputs i.inputs, released_ends place t has free.closed)
  goes_on x on = (same_inputs i.inputs, same_ends)

  no_more : (now : LineView places) (more : List Entry) → NoOpening more → of_each way_in more ≡ [] → InputsGoOn i.inputs now.inputs × EndsGoOn i.inputs i.takers now.takers
      → WaysStand listening (told ++ more) now.inputs now.takers
  no_more now more none nothing on w has =
      way_on listening i.inputs now.inputs i.takers now.takers on.0 on.1 w (is w (subst (IsIn w) (told_none way_in told more none nothing) has))

  one_more : (now : LineView places) (e : Entry) (way : WayIn) → NoOpening (e ∷ []) → of_each way_in (e ∷ []) ≡ way ∷ [] → IsWayIn listening now.inputs now.takers way
      → InputsGoOn i.inputs now.inputs × EndsGoOn i.inputs i.takers now.takers → WaysStand listening (told ++ e ∷ []) now.inputs now.takers
  one_more now e way none one its on w has =
      ⊎_elim (λ (j : IsIn w (of_each way_in (since told))). way_on listening i.inputs now.inputs i.takers now.takers on.0 on.1 w (is w j))
      (λ (j : IsIn w (way ∷ [])). ⊎_elim (λ (s : w ≡ way). subst (IsWayIn listening now.inputs now.takers) (sym s) its) (λ (never : ⊥). absurd never) j)
      (in_either w (of_each way_in (since told)) (way ∷ [])
      (subst (IsIn w) (told_more way_in told (e ∷ []) none ∙ ap (λ l. of_each way_in (since told) ++ l) one) has))

  ways_still : (x : Step makes listening bytes i) → GoesOn makes listening bytes i x
      → WaysStand listening (told ++ (effect makes listening bytes i x).told) (effect makes listening bytes i x).line.inputs (effect makes listening bytes i x).line.takers
  ways_still (m.Accepts n c r false) on =
      let way : WayIn = record { input = n; parcel = None } in
      let found = found_view n c.by.input i.inputs c.by.has in
      let now = (effect makes listening bytes i (m.Accepts n c r false)).line in
      let goes = goes_on (m.Accepts n c r false) on in
      one_more now (Accept n None r.row.number r.row.event) way tt refl
      (way_on listening i.inputs now.inputs i.takers now.takers goes.0 goes.1 way (record { input = c.by.input; has = found.0; number_is = found.1; gives = λ opens. c.reads.no_address })) goes
  ways_still (m.Accepts n c r true) on = absurd on
  ways_still (m.Accepts_parcel n a r false) on =
      let way : WayIn = record { input = n; parcel = Some a.at } in
      let found = found_view n a.by.input i.inputs a.by.has in
      let end = taker_in a.at.place a.next.taker a.takers a.next.has in
      let made = row_made a.at.number r.row.number in
      let now = change_taker made a.at.place a.takers in
      one_more (effect makes listening bytes i (m.Accepts_parcel n a r false)).line (Accept n (Some a.at) r.row.number r.row.event) way tt refl
      (way_on listening i.inputs i.inputs a.takers now (same_inputs i.inputs) (λ v has opens t there input. changed_end made a.at.place (λ u. (refl, refl)) a.takers t there) way
      (record { input = a.by.input; has = found.0; number_is = found.1; gives = λ opens. (a.next.taker, end.0, end.1, a.next.input_is ∙ sym found.1) }))
      (goes_on (m.Accepts_parcel n a r false) on)
  ways_still (m.Accepts_parcel n a r true) on = absurd on
  ways_still (m.Tells n parts rest h a) on =
      no_more (effect makes listening bytes i (m.Tells n parts rest h a)).line _ (unopened makes listening bytes i (m.Tells n parts rest h a)) (letters_each way_in (λ b o w. refl) (λ b l. refl) n a.shed parts)
      (goes_on (m.Tells n parts rest h a) on)
  ways_still (m.Is_rejected n id number events rest h fates fit some a) on =
      no_more (effect makes listening bytes i (m.Is_rejected n id number events rest h fates fit some a)).line _ (unopened makes listening bytes i (m.Is_rejected n id number events rest h fates fit some a))
      (rejected_each way_in (λ b o w. refl) (λ b l. refl) n a.shed (rejections h.batch.plan.config id fates events) (Deliver n (place.Foreign number) events fates))
      (goes_on (m.Is_rejected n id number events rest h fates fit some a) on)
  ways_still x on = no_more (effect makes listening bytes i x).line (effect makes listening bytes i x).told (unopened makes listening bytes i x) refl (goes_on x on)

pub ways_stand_still : (makes : Makes) (listening : Listening) (bytes : Bytes) (places : Places) → WaysStandStill makes listening bytes places
ways_stand_still makes listening bytes places told i x stands ends is on = ways_still makes listening bytes places told i stands ends is x on

pub opened_ways_stand : (makes : Makes) (listening : Listening) (bytes : Bytes) (places : Places) → OpenedWaysStand makes listening bytes places
opened_ways_stand makes listening bytes places told image sound i is w has =
    absurd (subst (IsIn w) (opened_each way_in told sound.rows.rows i.limits.limit i.limits.policy (Adopt i.plan.generation i.plan.config i.plan.draws ∷ []) tt) has)
