-- What stdout and boxes took is what was told of them, behind each step.
use Rattle.std.proofs.Common.{◌≡◌, ℕ, zero, suc, true, List, [], ◌∷◌, ◌++◌, Option, Some, None, refl, sym, ap, ap₂, ◌∙◌, append-nil, append_assoc}
use Rattle.std.specs.Prelude.{flat_map}
use Rattle.std.proofs.lemmas.Grind.{flat_map-append}
use Rattle.std.proofs.lemmas.List.Concat.{flat_map-cons}
use Rattle.event_tree.specs.Events.{Ev}
use Rattle.event_tree.specs.declared.lists.DeadPart.{DeadPart}
use Rattle.foreign_parts.specs.declared.place.Place.{Place}
use Rattle.foreign_parts.specs.declared.place.Place.TheVariants as place
use Rattle.event_flow.specs.Meaning.{Makes, Due}
use Rattle.event_flow.specs.Meaning as due
use Rattle.dead_letters.specs.Appends.{kept_from}
use Rattle.dead_letters.specs.declared.shedding.Shedding.{Shedding}
use Rattle.settings_lines.specs.declared.settings.Policy.{Policy}
use Rattle.queue_files.specs.Found.{Row}
use Rattle.history_book.specs.Contents.{Bytes, bytes_at, next_bytes, is_stdout}
use Rattle.history_book.specs.Entries.{Entry, Shed, Deliver, Letters, Opened}
use Rattle.history_book.specs.Legal.{rejections}
use Rattle.history_book.specs.Links.{Listening}
use Rattle.history_book.specs.Sound.{Places}
use Rattle.history_book.specs.States.{Plan, Out, State, start, out_of, left_of, tells_letters, next, after}
use Rattle.history_book.specs.Steps.{NoOpening, one_more, steps, steps_of, printed_in, given_in, printed, given}
use Rattle.history_book.specs.Steps as h
use Rattle.history_book.proofs.Steps.{steps_both}
use Rattle.line_machine.specs.Effects.{shed_told, letters_told}
use Rattle.line_machine.specs.Finds.{IsHome}
use Rattle.line_machine.specs.Outputs.{took_by, OutputsTookWhatWasTold}
use Rattle.line_machine.specs.Stands.{Stands}
use Rattle.line_machine.specs.Steps as m
use Rattle.line_machine.specs.Steps.{Step, effect, GoesOn}
use Rattle.line_machine.specs.Views.{LineView}
use Rattle.line_machine.proofs.Batches.{beside}
use Rattle.line_machine.proofs.Since.{unopened}

-- ---- what each entry gives, where the line stands so

module _ {X : Type 0} (makes : Makes) (f : State → Entry → List X) where
  abbrev pub over_each : State → List Entry → List X
  over_each s [] = []
  over_each s (e ∷ es) = f s e ++ over_each (next makes s e) es

  abbrev in_step : h.Step → List X
  in_step x = f x.before x.entry

  one_gives : (found : List h.Step) (s : State) (e : Entry) (es : List Entry) → NoOpening (e ∷ es) → flat_map in_step (one_more found s e) ≡ flat_map in_step found ++ f s e
  one_gives found s (Opened rows limit policy) es none = absurd none
  one_gives found s e es none =
      flat_map-append in_step found (record { before = s; entry = e } ∷ []) ∙ ap (λ l. flat_map in_step found ++ l) (flat_map-cons in_step (record { before = s; entry = e }) [] ∙ append-nil (f s e))

  rest_unopened : (e : Entry) (es : List Entry) → NoOpening (e ∷ es) → NoOpening es
  rest_unopened (Opened rows limit policy) es none = absurd none
  rest_unopened e es none = none

  from_here : (found : List h.Step) (s : State) (es : List Entry) → NoOpening es → flat_map in_step (steps makes s found es) ≡ flat_map in_step found ++ over_each s es
  from_here found s [] none = sym (append-nil (flat_map in_step found))
  from_here found s (e ∷ es) none =
      from_here (one_more found s e) (next makes s e) es (rest_unopened e es none) ∙ ap (λ l. l ++ over_each (next makes s e) es) (one_gives found s e es none)
      ∙ append_assoc (flat_map in_step found) (f s e) (over_each (next makes s e) es)

  pub given_more : (told more : List Entry) → NoOpening more → flat_map in_step (steps_of makes (told ++ more)) ≡ flat_map in_step (steps_of makes told) ++ over_each (after makes start told) more
  given_more told more none = ap (flat_map in_step) (steps_both makes start told more []) ∙ from_here (steps_of makes told) (after makes start told) more none

  -- and behind an opening what is told then
  pub opened_gives : (told : List Entry) (rows : List Row) (limit : ℕ) (policy : Policy) (e : Entry) → NoOpening (e ∷ []) → f (next makes (after makes start told) (Opened rows limit policy)) e ≡ []
      → flat_map in_step (steps_of makes (told ++ Opened rows limit policy ∷ e ∷ [])) ≡ []
  opened_gives told rows limit policy e none nothing =
      ap (flat_map in_step) (steps_both makes start told (Opened rows limit policy ∷ e ∷ []) []) ∙ from_here [] (next makes (after makes start told) (Opened rows limit policy)) (e ∷ []) none
      ∙ ap (λ l. l ++ []) nothing

  -- letters give nothing
  module _ (on_shed : (s : State) (n older : ℕ) (newer : List ℕ) → f s (Shed n older newer) ≡ []) (on_letters : (s : State) (n : ℕ) (letters : List DeadPart) → f s (Letters n letters) ≡ []) where
    shed_gives : (s : State) (n older : ℕ) (newer : List ℕ) (letters : List DeadPart) → over_each s (shed_told n older newer ++ Letters n letters ∷ []) ≡ []
    shed_gives s n zero [] letters = ap (λ l. l ++ []) (on_letters s n letters)
    shed_gives s n zero (x ∷ newer) letters = ap₂ (λ k l. k ++ (l ++ [])) (on_shed s n zero (x ∷ newer)) (on_letters _ n letters)
    shed_gives s n (suc older) newer letters = ap₂ (λ k l. k ++ (l ++ [])) (on_shed s n (suc older) newer) (on_letters _ n letters)

    pub letters_give : (s : State) (n : ℕ) (shed : Shedding) (parts : List DeadPart) → over_each s (letters_told n shed parts) ≡ []
    letters_give s n shed parts = shed_gives s n shed.older shed.newer (kept_from shed.newer 0 parts)

    -- and the delivery behind them what it gives, where what is left of its batch is the same
    pub rejected_give : (s : State) (n : ℕ) (shed : Shedding) (parts : List DeadPart) (e : Entry) → ((now : State) → left_of (out_of n now.out) ≡ left_of (out_of n s.out) → f now e ≡ f s e)
        → (id : List ℕ) (at : Place) (es : List Ev) (rest : List Due) → left_of (out_of n s.out) ≡ due.Events id at es ∷ rest → over_each s (letters_told n shed parts ++ e ∷ []) ≡ f s e ++ []
    rejected_give s n shed parts e same id at es rest left = by_shed shed.older shed.newer (kept_from shed.newer 0 parts)
      where
        still_left : (t : State) (letters : List DeadPart) → left_of (out_of n t.out) ≡ due.Events id at es ∷ rest → (tells_letters t n letters (left_of (out_of n t.out))).out ≡ t.out
        still_left t letters is = ap (λ l. (tells_letters t n letters l).out) is

        behind : (t : State) (letters : List DeadPart) → t.out ≡ s.out → over_each t (Letters n letters ∷ e ∷ []) ≡ f s e ++ []
        behind t letters outs =
            ap (λ l. l ++ (f (next makes t (Letters n letters)) e ++ [])) (on_letters t n letters)
            ∙ ap (λ l. l ++ []) (same (next makes t (Letters n letters)) (ap (λ os. left_of (out_of n os)) (still_left t letters (ap (λ os. left_of (out_of n os)) outs ∙ left) ∙ outs)))

        by_shed : (older : ℕ) (newer : List ℕ) (letters : List DeadPart) → over_each s ((shed_told n older newer ++ Letters n letters ∷ []) ++ e ∷ []) ≡ f s e ++ []
        by_shed zero [] letters = behind s letters refl
        by_shed zero (x ∷ newer) letters = ap (λ l. l ++ over_each (next makes s (Shed n zero (x ∷ newer))) (Letters n letters ∷ e ∷ [])) (on_shed s n zero (x ∷ newer)) ∙ behind _ letters refl
        by_shed (suc older) newer letters = ap (λ l. l ++ over_each (next makes s (Shed n (suc older) newer)) (Letters n letters ∷ e ∷ [])) (on_shed s n (suc older) newer) ∙ behind _ letters refl

-- ---- the steps

module _ (makes : Makes) (listening : Listening) (bytes : Bytes) (places : Places) (told : List Entry) (i : LineView places) (stands : Stands makes bytes places told i) where
  abbrev s : State
  s = after makes start told

  abbrev Both : (x : Step makes listening bytes i) → Type 0
  Both x =
      (printed makes bytes (told ++ (effect makes listening bytes i x).told) ≡ printed makes bytes told ++ (effect makes listening bytes i x).printed)
      × ((number : ℕ) → given makes number (told ++ (effect makes listening bytes i x).told) ≡ given makes number told ++ took_by number (effect makes listening bytes i x).given)

  by_each : (x : Step makes listening bytes i) → over_each makes (printed_in bytes) s (effect makes listening bytes i x).told ≡ (effect makes listening bytes i x).printed
      → ((number : ℕ) → over_each makes (λ t. given_in number) s (effect makes listening bytes i x).told ≡ took_by number (effect makes listening bytes i x).given) → Both x
  by_each x out box =
      let none = unopened makes listening bytes i x in (
        given_more makes (printed_in bytes) told (effect makes listening bytes i x).told none ∙ ap (λ l. printed makes bytes told ++ l) out,
        λ number. given_more makes (λ t. given_in number) told (effect makes listening bytes i x).told none ∙ ap (λ l. given makes number told ++ l) (box number),
      )

  -- what the next delivery of a batch adds to stdout, by the history and by the line
  stdout_next : (n : ℕ) (left : List Due) (h : IsHome i n left) → next_bytes bytes is_stdout (out_of n s.out) ≡ bytes_at bytes is_stdout h.batch.plan.config left
  stdout_next n left h =
      let o = beside n h.batch i.batches s.out stands.knows.batches h.has in
      ap (next_bytes bytes is_stdout) o.has ∙ ap₂ (λ (p : Plan) (l : List Due). bytes_at bytes is_stdout p.config l) o.is.plan (o.is.left ∙ h.left_is)

  left_here : (n : ℕ) (left : List Due) → IsHome i n left → left_of (out_of n s.out) ≡ left
  left_here n left h =
      let o = beside n h.batch i.batches s.out stands.knows.batches h.has in
      ap left_of o.has ∙ o.is.left ∙ h.left_is

  outputs_took : (x : Step makes listening bytes i) → GoesOn makes listening bytes i x → Both x
  outputs_took (m.Accepts n c r true) on = absurd on
  outputs_took (m.Accepts_parcel n a r true) on = absurd on
  outputs_took (m.Tells n parts rest h a) on =
      by_each (m.Tells n parts rest h a) (letters_give makes (printed_in bytes) (λ t b o w. refl) (λ t b l. refl) s n a.shed parts)
      (λ number. letters_give makes (λ t. given_in number) (λ t b o w. refl) (λ t b l. refl) s n a.shed parts)
  outputs_took (m.Gives n id place.Stdout events rest h plain) on =
      by_each (m.Gives n id place.Stdout events rest h plain) (append-nil (next_bytes bytes is_stdout (out_of n s.out)) ∙ stdout_next n (due.Events id place.Stdout events ∷ rest) h) (λ number. refl)
  outputs_took (m.Gives n id (place.File path) events rest h plain) on =
      by_each (m.Gives n id (place.File path) events rest h plain) (append-nil (next_bytes bytes is_stdout (out_of n s.out)) ∙ stdout_next n (due.Events id (place.File path) events ∷ rest) h) (λ number. refl)
  outputs_took (m.Gives n id place.Discard events rest h plain) on =
      by_each (m.Gives n id place.Discard events rest h plain) (append-nil (next_bytes bytes is_stdout (out_of n s.out)) ∙ stdout_next n (due.Events id place.Discard events ∷ rest) h) (λ number. refl)
  outputs_took (m.Gives n id (place.Address address) events rest h plain) on = absurd plain
  outputs_took (m.Gives n id (place.Foreign number) events rest h plain) on = absurd plain
  outputs_took (m.Gives n id place.Dead events rest h plain) on = absurd plain
  outputs_took (m.Is_taken n id box events rest h fates fit none) on =
      by_each (m.Is_taken n id box events rest h fates fit none) (append-nil (next_bytes bytes is_stdout (out_of n s.out)) ∙ stdout_next n (due.Events id (place.Foreign box) events ∷ rest) h) (λ number. refl)
  outputs_took (m.Is_rejected n id box events rest h fates fit some a) on =
      by_each (m.Is_rejected n id box events rest h fates fit some a)
      (rejected_give makes (printed_in bytes) (λ t b o w. refl) (λ t b l. refl) s n a.shed parts (Deliver n (place.Foreign box) events fates) stdout_same id (place.Foreign box) events rest (left_here n left h)
      ∙ append-nil (next_bytes bytes is_stdout (out_of n s.out)) ∙ stdout_next n left h)
      (λ number. rejected_give makes (λ t. given_in number) (λ t b o w. refl) (λ t b l. refl) s n a.shed parts (Deliver n (place.Foreign box) events fates) (λ now same. refl) id (place.Foreign box) events rest
      (left_here n left h))
    where
      left : List Due
      left = due.Events id (place.Foreign box) events ∷ rest

      parts : List DeadPart
      parts = rejections h.batch.plan.config id fates events

      -- stdout gets nothing of it
      none_of : (t : State) → left_of (out_of n t.out) ≡ left → next_bytes bytes is_stdout (out_of n t.out) ≡ []
      none_of t is = by_out (out_of n t.out) is
        where
          by_out : (o : Option Out) → left_of o ≡ left → next_bytes bytes is_stdout o ≡ []
          by_out None e = refl
          by_out (Some o) e = ap (bytes_at bytes is_stdout o.plan.config) e

      stdout_same : (now : State) → left_of (out_of n now.out) ≡ left_of (out_of n s.out) → next_bytes bytes is_stdout (out_of n now.out) ≡ next_bytes bytes is_stdout (out_of n s.out)
      stdout_same now same = none_of now (same ∙ left_here n left h) ∙ sym (none_of s (left_here n left h))
  outputs_took (m.Is_heard n id address events rest h number sent was) on =
      by_each (m.Is_heard n id address events rest h number sent was) (append-nil (next_bytes bytes is_stdout (out_of n s.out)) ∙ stdout_next n (due.Events id (place.Address address) events ∷ rest) h) (λ box. refl)
  outputs_took (m.Fails_to_deliver n left h f why printed out given took) on = absurd on
  outputs_took x on = by_each x refl (λ number. refl)

pub outputs_took_what_was_told : (makes : Makes) (listening : Listening) (bytes : Bytes) (places : Places) → OutputsTookWhatWasTold makes listening bytes places
outputs_took_what_was_told makes listening bytes places told i x stands on = outputs_took makes listening bytes places told i stands x on
