-- All that holds of a line, behind each step.
use Rattle.std.proofs.Common.{◌≡◌, ℕ, List, [], ◌∷◌, ◌++◌, refl, sym, ap, ◌∙◌, subst, append-nil}
use Rattle.std.proofs.lemmas.List.{append_assoc}
use Rattle.event_flow.specs.Meaning.{Makes}
use Rattle.history_book.specs.Contents.{Bytes}
use Rattle.history_book.specs.Deeds.{Deed, told_of, tell_all}
use Rattle.history_book.specs.Entries.{Entry}
use Rattle.history_book.specs.Links.{Listening}
use Rattle.history_book.specs.Sound.{Places}
use Rattle.history_book.specs.States.{start, after}
use Rattle.history_book.proofs.Mailing.{told_both, told_all}
use Rattle.line_machine.specs.declared.calls.Call.{Call}
use Rattle.line_machine.specs.Accepting.{WaysStand}
use Rattle.line_machine.specs.Answering.{LinksStand}
use Rattle.line_machine.specs.Answers.{IsPart, Parts, None_before, First}
use Rattle.line_machine.specs.Coming.{came_in, and_came, InputsStand}
use Rattle.line_machine.specs.Covering.{RowsAreCovered}
use Rattle.line_machine.specs.Doing.{deeds_of}
use Rattle.line_machine.specs.Effects.{Effect}
use Rattle.line_machine.specs.Lines.{LineStands, OpenedStandsWhole, StandsWholeStill, deeds_of_parts, CallsStandWhole}
use Rattle.line_machine.specs.Openings.{opening}
use Rattle.line_machine.specs.Settling.{Settles}
use Rattle.line_machine.specs.Stands.{Stands}
use Rattle.line_machine.specs.Steps as m
use Rattle.line_machine.specs.Steps.{Step, effect, GoesOn}
use Rattle.line_machine.specs.Views.{Incoming, LineView}
use Rattle.line_machine.proofs.Accepting.{ways_stand_still, opened_ways_stand}
use Rattle.line_machine.proofs.Answering.{answers_all_stand, opened_links}
use Rattle.line_machine.proofs.Boxes.{boxes_stand_still, opened_boxes_stand}
use Rattle.line_machine.proofs.Coming.{inputs_stand_still, opened_inputs_stand}
use Rattle.line_machine.proofs.Covering.{marks_cover_still, opened_marks_cover, rows_are_covered_still, opened_rows_are_covered}
use Rattle.line_machine.proofs.Doing.{does_legally_still, opened_does_legally}
use Rattle.line_machine.proofs.Kits.{kits_are_theirs, opened_kits}
use Rattle.line_machine.proofs.Openings.{opened_line_stands}
use Rattle.line_machine.proofs.Serving.{ends_stand_still, opened_ends_stand}
use Rattle.line_machine.proofs.Settling.{steps_settle, opened_settles}
use Rattle.line_machine.proofs.Steps.{steps_follow}

module _ (makes : Makes) (listening : Listening) (bytes : Bytes) (places : Places) where
  -- the entries of what a step does
  pub step_told : (i : LineView places) (x : Step makes listening bytes i) → told_of (deeds_of makes listening bytes places i x) ≡ (effect makes listening bytes i x).told
  step_told i (m.Sends n id address events rest h none p same some may) = refl
  step_told i (m.Hears address a s has turn waits) = refl
  step_told i (m.Sends_last address p last may ends) = refl
  step_told i x = told_all (effect makes listening bytes i x).told

  pub stands_whole_still : StandsWholeStill makes listening bytes places
  stands_whole_still earlier deeds came i x is on =
      let told = told_of deeds in
      let e = effect makes listening bytes i x in
      let now : told ++ e.told ≡ told_of (deeds ++ deeds_of makes listening bytes places i x) =
      ap (λ l. told ++ l) (sym (step_told i x)) ∙ sym (told_both deeds (deeds_of makes listening bytes places i x)) in
      record {
        stands = subst (λ l. Stands makes bytes places l e.line) now ((steps_follow makes listening bytes places told i x is.stands).stands on);
        settles = subst (λ l. Settles (after makes start l) e.line) now (steps_settle makes listening bytes places told i x is.stands is.settles on);
        links = subst (λ l. LinksStand makes listening l e.line.takers e.line.next_place) now (answers_all_stand makes listening bytes places told i x is.stands is.links on);
        ends = ends_stand_still makes listening bytes places told i x is.stands is.ends;
        inputs = subst (λ l. InputsStand listening l (and_came came e.came) e.line) now (inputs_stand_still makes listening bytes places told came i x is.stands is.inputs on);
        ways = subst (λ l. WaysStand listening l e.line.inputs e.line.takers) now (ways_stand_still makes listening bytes places told i x is.stands is.ends is.ways on);
        senders = does_legally_still makes listening bytes places earlier deeds i x is.stands is.senders on;
        rows = subst (λ l. RowsAreCovered l e.line) now (rows_are_covered_still makes listening bytes places told i x is.rows on);
        marks = marks_cover_still makes listening bytes places i x is.marks on;
        kits = kits_are_theirs makes listening bytes places i x is.kits;
        boxes = boxes_stand_still makes listening bytes places i x is.boxes;
      }

  pub opened_stands_whole : OpenedStandsWhole makes listening bytes places
  opened_stands_whole told image sound i is =
      let more = opening makes listening bytes places told image sound i in
      let now : told ++ more ≡ told_of (tell_all told ++ tell_all more) =
      ap (λ l. told ++ l) (sym (told_all more)) ∙ ap (λ l. l ++ told_of (tell_all more)) (sym (told_all told)) ∙ sym (told_both (tell_all told) (tell_all more)) in
      record {
        stands = subst (λ l. Stands makes bytes places l i) now (opened_line_stands makes listening bytes places told image sound i is);
        settles = subst (λ l. Settles (after makes start l) i) now (opened_settles makes listening bytes places told image sound i is);
        links = subst (λ l. LinksStand makes listening l i.takers i.next_place) now (opened_links makes listening bytes places told image sound i is);
        ends = opened_ends_stand makes listening bytes places told image sound i is;
        inputs = subst (λ l. InputsStand listening l (λ n. []) i) now (opened_inputs_stand makes listening bytes places told image sound i is);
        ways = subst (λ l. WaysStand listening l i.inputs i.takers) now (opened_ways_stand makes listening bytes places told image sound i is);
        senders = opened_does_legally makes listening bytes places told image sound i is;
        rows = subst (λ l. RowsAreCovered l i) now (opened_rows_are_covered makes listening bytes places told image sound i is);
        marks = opened_marks_cover makes listening bytes places told image sound i is;
        kits = opened_kits makes listening bytes places told image sound i is;
        boxes = opened_boxes_stand makes listening bytes places told image sound i is;
      }

  -- ---- calls

  same_came : {f g : ℕ → List Incoming} → ((n : ℕ) → f n ≡ g n) → f ≡ g
  same_came same = λ k n. same n k

  part_goes_on : (x : Call) (i : LineView places) (s : Step makes listening bytes i) → IsPart makes listening bytes i s x → GoesOn makes listening bytes i s
  part_goes_on x i (m.Sends n id address events rest h none p same some may) part = tt
  part_goes_on x i (m.Hears address a s has turn waits) part = tt
  part_goes_on x i (m.Sends_last address p last may ends) part = tt
  part_goes_on x i s part = absurd part

  part_came : (x : Call) (i : LineView places) (s : Step makes listening bytes i) → IsPart makes listening bytes i s x → (effect makes listening bytes i s).came ≡ []
  part_came x i (m.Sends n id address events rest h none p same some may) part = refl
  part_came x i (m.Hears address a s has turn waits) part = refl
  part_came x i (m.Sends_last address p last may ends) part = refl
  part_came x i s part = absurd part

  pub parts_stand_whole : (x : Call) (i j : LineView places) (parts : Parts makes listening bytes x i j) (earlier : List Entry) (deeds : List Deed) (came : ℕ → List Incoming) → LineStands makes listening bytes places earlier deeds came i
      → LineStands makes listening bytes places earlier (deeds ++ deeds_of_parts makes listening bytes places x i j parts) came j
  parts_stand_whole x i j (None_before _) earlier deeds came is = subst (λ l. LineStands makes listening bytes places earlier l came i) (sym (append-nil deeds)) is
  parts_stand_whole x i j (First _ _ s part parts) earlier deeds came is =
      let done = deeds_of makes listening bytes places i s in
      let now = (effect makes listening bytes i s).line in
      let none : and_came came (effect makes listening bytes i s).came ≡ came = same_came (λ n. ap (λ l. came n ++ came_in n l) (part_came x i s part) ∙ append-nil (came n)) in
      let behind = subst (λ c. LineStands makes listening bytes places earlier (deeds ++ done) c now) none (stands_whole_still earlier deeds came i s is (part_goes_on x i s part)) in
      subst (λ l. LineStands makes listening bytes places earlier l came j) (append_assoc deeds done (deeds_of_parts makes listening bytes places x now j parts)) (parts_stand_whole x now j parts earlier (deeds ++ done) came behind)

  pub calls_stand_whole : CallsStandWhole makes listening bytes places
  calls_stand_whole earlier deeds came i x e is did on =
      let before = deeds_of_parts makes listening bytes places x i did.line did.before in
      let last = deeds_of makes listening bytes places did.line did.step in
      let made = effect makes listening bytes did.line did.step in
      let behind = stands_whole_still earlier (deeds ++ before) came did.line did.step (parts_stand_whole x i did.line did.before earlier deeds came is) on in
      subst (λ (y : Effect places). LineStands makes listening bytes places earlier (deeds ++ (before ++ last)) (and_came came y.came) y.line) (sym did.effect_is)
      (subst (λ l. LineStands makes listening bytes places earlier l (and_came came made.came) made.line) (append_assoc deeds before last) behind)
