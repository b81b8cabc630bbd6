-- The ends at which a line listens belong to its inputs, behind each step.
use Rattle.std.proofs.Common.{◌≡◌, inl, inr, ⊎_elim, ℕ, suc, ◌<◌, ◌==◌, Bool, true, false, List, [], ◌∷◌, ◌++◌, length, map, Option, Some, if◌then◌else◌, refl, sym, ap, ◌∙◌, subst}
use Rattle.std.proofs.lemmas.Option.{same_Some}
use Rattle.config_tree.specs.declared.tree.Plugin.{Plugin}
use Rattle.pipeline_bus.specs.declared.parcel.Parcel.{Parcel}
use Rattle.event_flow.specs.Meaning.{Makes}
use Rattle.history_book.specs.Contents.{Bytes}
use Rattle.history_book.specs.Entries.{Entry}
use Rattle.history_book.specs.Inputs.{Input, AreInputs, named_from}
use Rattle.history_book.specs.Links.{Listening}
use Rattle.history_book.specs.Lists.{IsIn}
use Rattle.history_book.specs.Sound.{Places}
use Rattle.history_book.specs.States.{Plan, start, after}
use Rattle.history_book.proofs.Lists.{in_either}
use Rattle.line_machine.specs.Effects.{accepted_now, held_now, ended_now, assured_now, carried}
use Rattle.line_machine.specs.Ends.{TakerView, Taken, Takes, took, row_made, taker_at, change_taker, without_taker, assured, refused}
use Rattle.line_machine.specs.Finds.{AreNextParcels, IsOpenAmong, IsEndBehind, AreEndsBehind, IsEndOf, AreEndsOf, Changes, ends_served}
use Rattle.line_machine.specs.Serving.{EndStands, EndsStand, OpenedEndsStand, EndsStandStill}
use Rattle.line_machine.specs.Stands.{Stands}
use Rattle.line_machine.specs.Steps as m
use Rattle.line_machine.specs.Steps.{Step, effect}
use Rattle.line_machine.specs.Views.{InputView, LineView, input_of, inputs_of, change_input}
use Rattle.line_machine.proofs.Inputs.{AreInputsApart, same_input, inputs_apart, renumbered_apart, renumbered_keeps, view_in, in_view, view_behind, carried_view, carried_are, begun_are}

-- ---- one end is changed

module _ (listening : Listening) where
  -- an end among those of which the first of a place is changed, and that stands so, too
  changed_ends : (inputs : List InputView) (f : TakerView → TakerView) (place : ℕ) (ts : List TakerView) → EndsStand listening inputs ts
      → ((t : TakerView) → taker_at place ts ≡ Some t → EndStands listening inputs t → EndStands listening inputs (f t)) → EndsStand listening inputs (change_taker f place ts)
  changed_ends inputs f place [] are keeps t has = absurd has
  changed_ends inputs f place (u ∷ ts) are keeps t has =
      by_test (place == u.place) refl (λ keeps_rest. changed_ends inputs f place ts (λ x j. are x (inr j)) keeps_rest t) has
    where
      by_test : (b : Bool) → (place == u.place) ≡ b
          → (((x : TakerView) → taker_at place ts ≡ Some x → EndStands listening inputs x → EndStands listening inputs (f x)) → IsIn t (change_taker f place ts) → EndStands listening inputs t)
          → IsIn t (if b then f u ∷ ts else u ∷ change_taker f place ts) → EndStands listening inputs t
      by_test true test rest (inl e) = subst (EndStands listening inputs) (sym e) (keeps u (ap (λ (b : Bool). if b then Some u else taker_at place ts) test) (are u (inl refl)))
      by_test true test rest (inr i) = are t (inr i)
      by_test false test rest (inl e) = are t (inl e)
      by_test false test rest (inr i) = rest (λ x found. keeps x (ap (λ (b : Bool). if b then Some u else taker_at place ts) test ∙ found)) i

  -- what is lost there stays
  same_end : (inputs : List InputView) (t u : TakerView) → u.input ≡ t.input → u.address ≡ t.address → u.listens ≡ t.listens → u.next ≡ t.next → u.lost ≡ t.lost → EndStands listening inputs t → EndStands listening inputs u
  same_end inputs t u input address listens next lost is = record {
    input = is.input;
    has = is.has;
    number_is = is.number_is ∙ sym input;
    address_is = is.address_is ∙ ap Some (sym address);
    listens = listens ∙ is.listens;
    lost = subst (λ (n : ℕ). AreNextParcels n u.lost) (sym next) (subst (AreNextParcels t.next) (sym lost) is.lost);
    none_lost = λ on. lost ∙ is.none_lost (sym listens ∙ on);
  }

  -- where it listens, parcels may come
  took_end : (inputs : List InputView) (p : Parcel) (t : TakerView) → t.listens ≡ true → EndStands listening inputs t → EndStands listening inputs (took p t)
  took_end inputs p t on is = record {
    input = is.input;
    has = is.has;
    number_is = is.number_is;
    address_is = is.address_is;
    listens = is.listens;
    lost = subst (AreNextParcels (took p t).next) (sym (is.none_lost on)) tt;
    none_lost = is.none_lost;
  }

  -- ---- inputs that are changed

  with_inputs : (old new : List InputView) → ((v : InputView) → IsIn v old → (u : InputView) × IsIn u new × (input_of u ≡ input_of v)) → (ts : List TakerView) → EndsStand listening old ts → EndsStand listening new ts
  with_inputs old new keeps ts are t has =
      let is = are t has in
      let now = keeps is.input is.has in
      record {
        input = now.0;
        has = now.1;
        number_is = ap (λ (x : Input). x.number) now.2 ∙ is.number_is;
        address_is = ap (λ (x : Input). listening.address x.statement) now.2 ∙ is.address_is;
        listens = is.listens ∙ sym (ap (λ (x : Input). x.is_open) now.2);
        lost = is.lost;
        none_lost = is.none_lost;
      }

  -- ---- new ends

  new_end : (inputs : List InputView) (t : TakerView) → (t.taken ≡ []) × (t.given ≡ []) × (t.waits ≡ []) × (t.lost ≡ []) → (v : InputView) → IsIn v inputs → (of : IsEndOf listening (inputs_of inputs) t)
      → of.input ≡ input_of v → EndStands listening inputs t
  new_end inputs t none v has of same = record {
    input = v;
    has = has;
    number_is = sym (ap (λ (x : Input). x.number) same) ∙ of.number_is;
    address_is = sym (ap (λ (x : Input). listening.address x.statement) same) ∙ of.address_is;
    listens = of.listens ∙ sym of.is_open ∙ ap (λ (x : Input). x.is_open) same;
    lost = subst (AreNextParcels t.next) (sym none.3) tt;
    none_lost = λ on. none.3;
  }

  -- those of open inputs of the line
  new_ends : (inputs : List InputView) (ts : List TakerView) → ((t : TakerView) → IsIn t ts → (t.taken ≡ []) × (t.given ≡ []) × (t.waits ≡ []) × (t.lost ≡ [])) → AreEndsOf listening (inputs_of inputs) ts
      → EndsStand listening inputs ts
  new_ends inputs ts unused of t has =
      let its = of t has in
      let v = in_view its.input inputs its.has in
      new_end inputs t (unused t has) v.0 v.1 its v.2

  both_ends : (inputs : List InputView) (ts us : List TakerView) → EndsStand listening inputs ts → EndsStand listening inputs us → EndsStand listening inputs (ts ++ us)
  both_ends inputs ts us first second t has = ⊎_elim (λ (i : IsIn t ts). first t i) (λ (i : IsIn t us). second t i) (in_either t ts us has)

  without_ends : (inputs : List InputView) (place : ℕ) (ts : List TakerView) → EndsStand listening inputs ts → EndsStand listening inputs (without_taker place ts)
  without_ends inputs place [] are t has = absurd has
  without_ends inputs place (u ∷ ts) are t has = by_test (without_ends inputs place ts (λ x i. are x (inr i)) t) (place == u.place) has
    where
      by_test : (IsIn t (without_taker place ts) → EndStands listening inputs t) → (b : Bool) → IsIn t (if b then ts else u ∷ without_taker place ts) → EndStands listening inputs t
      by_test rest true i = are t (inr i)
      by_test rest false (inl e) = are t (inl e)
      by_test rest false (inr i) = rest i

-- ---- an adoption

module _ (listening : Listening) {places : Places} (i : LineView places) (c : Changes listening i) (plans : List Plan) (are : AreInputs plans (inputs_of i.inputs)) where
  old_apart : AreInputsApart (inputs_of i.inputs) × ((x : Input) → IsIn x (inputs_of i.inputs) → x.number < length (inputs_of i.inputs))
  old_apart = inputs_apart plans (inputs_of i.inputs) are

  abbrev names : List (Plugin × List ℕ)
  names = named_from 1 c.plan.config.inputs

  now_apart : AreInputsApart c.inputs
  now_apart = renumbered_apart (length (inputs_of i.inputs)) (inputs_of i.inputs) names c.inputs c.renumbered old_apart.0 old_apart.1

  open_or_not : (b : Bool) → (b ≡ true → ⊥) → b ≡ false
  open_or_not true other = absurd (other refl)
  open_or_not false other = refl

  end_still : (t u : TakerView) → IsEndBehind c.inputs t u → EndStands listening i.inputs t → EndStands listening (map (carried i.inputs) c.inputs) u
  end_still t u behind is = by_way behind
    where
      -- its input, as it is now
      kept : (x : Input) × IsIn x c.inputs × (x.number ≡ is.input.number) × (x.statement ≡ is.input.statement) × (x.is_open ≡ true → is.input.is_open ≡ true)
      kept = renumbered_keeps (length (inputs_of i.inputs)) (inputs_of i.inputs) names c.inputs c.renumbered (input_of is.input) (view_in is.input i.inputs is.has)

      view : IsIn (carried i.inputs kept.0) (map (carried i.inputs) c.inputs) × (input_of (carried i.inputs kept.0) ≡ kept.0)
      view = carried_view i.inputs c.inputs kept.0 kept.1

      with_lost : (v : TakerView) → v.input ≡ t.input → v.address ≡ t.address → v.listens ≡ kept.0.is_open → AreNextParcels v.next v.lost → (v.listens ≡ true → v.lost ≡ []) → EndStands listening (map (carried i.inputs) c.inputs) v
      with_lost v input address listens lost none = record {
        input = carried i.inputs kept.0;
        has = view.0;
        number_is = ap (λ (x : Input). x.number) view.1 ∙ kept.2 ∙ is.number_is ∙ sym input;
        address_is = ap (λ (x : Input). listening.address x.statement) view.1 ∙ ap listening.address kept.3 ∙ is.address_is ∙ ap Some (sym address);
        listens = listens ∙ sym (ap (λ (x : Input). x.is_open) view.1);
        lost = lost;
        none_lost = none;
      }

      closed_now : (IsOpenAmong c.inputs t.input → ⊥) → kept.0.is_open ≡ false
      closed_now none = open_or_not kept.0.is_open (λ opens. none (kept.0, kept.1, kept.2 ∙ is.number_is, opens))

      differs : false ≡ true → ⊥
      differs e = cc

      by_way : IsEndBehind c.inputs t u → EndStands listening (map (carried i.inputs) c.inputs) u
      by_way (inl open_now) =
          let x = open_now.0 in
          let one = same_input c.inputs now_apart kept.0 x.0 kept.1 x.1 (kept.2 ∙ is.number_is ∙ sym x.2) in
          let opens = ap (λ (y : Input). y.is_open) one ∙ x.3 in
          subst (EndStands listening (map (carried i.inputs) c.inputs)) (sym open_now.1) (with_lost t refl refl (is.listens ∙ kept.4 opens ∙ sym opens) is.lost is.none_lost)
      by_way (inr (inl still_closed)) =
          subst (EndStands listening (map (carried i.inputs) c.inputs)) (sym still_closed.2)
          (with_lost t refl refl (still_closed.1 ∙ sym (closed_now still_closed.0)) is.lost is.none_lost)
      by_way (inr (inr closed)) =
          subst (EndStands listening (map (carried i.inputs) c.inputs)) (sym closed.4)
          (with_lost (record t { listens = false; lost = closed.2 }) refl refl (sym (closed_now closed.0)) closed.3 (λ on. absurd (differs on)))

  pub ends_behind : (old new : List TakerView) → AreEndsBehind c.inputs old new → EndsStand listening i.inputs old → EndsStand listening (map (carried i.inputs) c.inputs) new
  ends_behind [] new same are_ends t has = absurd (subst (IsIn t) same has)
  ends_behind (x ∷ old) new same are_ends t has = of_parts (ends_behind old same.1 same.4 (λ u j. are_ends u (inr j)) t) (subst (IsIn t) same.2 has)
    where
      of_parts : (IsIn t same.1 → EndStands listening (map (carried i.inputs) c.inputs) t) → IsIn t (same.0 ∷ same.1) → EndStands listening (map (carried i.inputs) c.inputs) t
      of_parts rest (inl e) = subst (EndStands listening (map (carried i.inputs) c.inputs)) (sym e) (end_still x same.0 same.3 (are_ends x (inl refl)))
      of_parts rest (inr j) = rest j

-- ---- the steps

module _ (makes : Makes) (listening : Listening) (bytes : Bytes) (places : Places) (told : List Entry) (i : LineView places) (stands : Stands makes bytes places told i) (is : EndsStand listening i.inputs i.takers) where
  -- parcels are taken at ends that listen
  ends_took : (only : Option (List ℕ)) (n : ℕ) (xs : List Taken) (old new : List TakerView) → Takes only n xs old new → EndsStand listening i.inputs old → EndsStand listening i.inputs new
  ends_took only n [] old new same are = subst (EndsStand listening i.inputs) (sym same) are
  ends_took only n (x ∷ xs) old new takes are =
      ends_took only n xs (change_taker (took x.parcel) x.place old) new takes.1
      (changed_ends listening i.inputs (took x.parcel) x.place old are
      (λ t found end. took_end listening i.inputs x.parcel t (ap (λ (u : TakerView). u.listens) (same_Some t takes.0.taker (sym found ∙ takes.0.has)) ∙ takes.0.listens) end))

  with_input : (n : ℕ) (f : InputView → InputView) → ((v : InputView) → input_of (f v) ≡ input_of v) → EndsStand listening (change_input f n i.inputs) i.takers
  with_input n f keeps = with_inputs listening i.inputs (change_input f n i.inputs) (view_behind f keeps n i.inputs) i.takers is

  pub ends_still : (x : Step makes listening bytes i) → EndsStand listening (effect makes listening bytes i x).line.inputs (effect makes listening bytes i x).line.takers
  ends_still (m.Accepts n c r false) = with_input n (accepted_now c.rest (record { number = r.row.number; at = c.first.at })) (λ v. refl)
  ends_still (m.Accepts n c r true) = is
  ends_still (m.Accepts_parcel n a r true) = is
  ends_still (m.Accepts_parcel n a r false) =
      changed_ends listening i.inputs (row_made a.at.number r.row.number) a.at.place a.takers (ends_took (ends_served i) n a.taken i.takers a.takers a.takes is)
      (λ t found end. same_end listening i.inputs t (row_made a.at.number r.row.number t) refl refl refl refl refl end)
  ends_still (m.Takes_alone n h address listens taken takers takes) = ends_took (ends_served i) n taken i.takers takers takes is
  ends_still (m.Is_at_its_end n h opens lines none) = with_input n ended_now (λ v. refl)
  ends_still (m.Holds_more n h reads came answer none) = with_input n (held_now (h.input.held ++ came)) (λ v. refl)
  ends_still (m.Assures n front h marks) = with_input n (assured_now front) (λ v. refl)
  ends_still (m.Answers place t has may) =
      changed_ends listening i.inputs (assured may.oldest.number may.rest) place i.takers is (λ u found end. same_end listening i.inputs u (assured may.oldest.number may.rest u) refl refl refl refl refl end)
  ends_still (m.Refuses place t has may) = changed_ends listening i.inputs (refused may.rest) place i.takers is (λ u found end. refused_end u (same_Some u t (sym found ∙ has)) end)
    where
      differs : false ≡ true → ⊥
      differs e = cc

      rest_next : (n : ℕ) (lost : List Parcel) → AreNextParcels n lost → lost ≡ may.parcel ∷ may.rest → AreNextParcels (suc n) may.rest
      rest_next n lost are same = (subst (AreNextParcels n) same are).2

      refused_end : (u : TakerView) → u ≡ t → EndStands listening i.inputs u → EndStands listening i.inputs (refused may.rest u)
      refused_end u same end = record {
        input = end.input;
        has = end.has;
        number_is = end.number_is;
        address_is = end.address_is;
        listens = end.listens;
        lost = rest_next u.next u.lost end.lost (ap (λ (x : TakerView). x.lost) same ∙ may.lost);
        none_lost = λ on. absurd (differs (sym (ap (λ (x : TakerView). x.listens) same ∙ may.closed) ∙ on));
      }
  ends_still (m.Adopts c) =
      both_ends listening (map (carried i.inputs) c.inputs) c.takers c.new_takers
      (ends_behind listening i c (after makes start told).plans stands.knows.inputs i.takers c.takers c.goes_on is)
      (new_ends listening (map (carried i.inputs) c.inputs) c.new_takers c.new.unused (subst (λ xs. AreEndsOf listening xs c.new_takers) (sym (carried_are i.inputs c.inputs)) c.listen))
  ends_still (m.Connects takers next_place new listen senders unused) = both_ends listening i.inputs i.takers takers is (new_ends listening i.inputs takers new.unused listen)
  ends_still (m.Releases place t has free) = without_ends listening i.inputs place i.takers is
  ends_still x = is

pub ends_stand_still : (makes : Makes) (listening : Listening) (bytes : Bytes) (places : Places) → EndsStandStill makes listening bytes places
ends_stand_still makes listening bytes places told i x stands is = ends_still makes listening bytes places told i stands is x

pub opened_ends_stand : (makes : Makes) (listening : Listening) (bytes : Bytes) (places : Places) → OpenedEndsStand makes listening bytes places
opened_ends_stand makes listening bytes places told image sound i is =
    new_ends listening i.inputs i.takers is.takers.unused (subst (λ xs. AreEndsOf listening xs i.takers) (sym (ap inputs_of is.begun_all ∙ begun_are is.inputs)) is.listen)
