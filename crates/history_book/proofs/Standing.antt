-- An acknowledged event stands in its queue, or all that is derived of it does.
use Rattle.std.proofs.Common.{◌≡◌, Some, inl, inr, ⊎_elim, ℕ, List, [], ◌∷◌, ◌++◌, sym, ap, ◌∙◌, subst, append_assoc}
use Rattle.event_tree.specs.declared.lists.DeadPart.{DeadPart}
use Rattle.io_traits.specs.Images.{Image}
use Rattle.foreign_parts.specs.declared.place.Place.TheVariants as place
use Rattle.event_flow.specs.Meaning.{Makes, Due}
use Rattle.event_flow.specs.Meaning as due
use Rattle.dead_letters.specs.Found.{Held}
use Rattle.history_book.specs.Contents.{Bytes, FileLeft, DeadLeft, next_bytes, is_file}
use Rattle.history_book.specs.Entries.{Entry, Assure, Ack}
use Rattle.history_book.specs.Laws.{WasDelivered, WasTold, WereAppended, fates_of, limits_in}
use Rattle.history_book.specs.Legal.{rejections, Legal, IsFound}
use Rattle.history_book.specs.Lists.{IsIn}
use Rattle.history_book.specs.States.{Plan, Written, start, after}
use Rattle.history_book.specs.Sound.{FilePlace, Places, FileSound, DeadSound, AllStands, AcknowledgedEventsStand}
use Rattle.history_book.proofs.Histories.{assured_stand}
use Rattle.history_book.proofs.Telling.{deliveries_were_told}
use Rattle.history_book.proofs.Files.{files_hold}
use Rattle.history_book.proofs.Rejections.{rejections_were_appended}
use Rattle.history_book.proofs.DeadLetters.{appends_change, appended_before, start_known, end_known, letters_were_appended}

-- what was told up to some step was told
pub told_since : (makes : Makes) (plan : Plan) (d : Due) (before more : List Entry) → WasTold makes start before plan d → WasTold makes start (before ++ more) plan d
told_since makes plan d before more w = record {
  before = w.before;
  entry = w.entry;
  rest = w.rest ++ more;
  parts = ap (λ (l : List Entry). l ++ more) w.parts ∙ append_assoc w.before (w.entry ∷ w.rest) more;
  batch = w.batch;
  tells = w.tells;
  out = w.out;
  was_out = w.was_out;
  plan_is = w.plan_is;
  left = w.left;
  next = w.next;
}

module _ (makes : Makes) (bytes : Bytes) (places : Places) (told : List Entry) (i : Image) (row : Written) (legal : Legal makes start told) where
  -- with one delivery more, too
  with_more : (more whole content : List ℕ) → content ≡ whole ++ more → (part : List ℕ) → ((front : List ℕ) × (back : List ℕ) × (whole ≡ front ++ part ++ back))
      → (front : List ℕ) × (back : List ℕ) × (content ≡ front ++ part ++ back)
  with_more more whole content is part parts = (
    parts.0,
    parts.1 ++ more,
    is ∙ ap (λ (l : List ℕ). l ++ more) parts.2 ∙ append_assoc (parts.0 ++ part) parts.1 more,
  )

  -- what was appended was so in what is found, too
  in_held : (dead : DeadSound makes places.clock places.dead places.dead_base told i) (letters : List DeadPart) → WereAppended (limits_in told) places.clock places.dead_base dead.whole letters
      → WereAppended (limits_in told) places.clock places.dead_base dead.held letters
  in_held dead letters appended =
      ⊎_elim
      (λ (same : dead.held ≡ dead.whole). subst (λ (h : Held). WereAppended (limits_in told) places.clock places.dead_base h letters) (sym same) appended)
      (λ (l : DeadLeft places.clock (after makes start told) dead.whole dead.held).
      appended_before (limits_in told) places.clock places.dead_base dead.whole dead.held letters appended
      (appends_change (limits_in told) places.clock (after makes start told).limits (end_known (limits_in told) places.clock makes start told (λ l i. i) (start_known (limits_in told))) l.shed l.parts dead.whole dead.held l.appends))
      dead.or_more

  pub all_stands : ((file : FilePlace) → IsIn file places.files → FileSound makes bytes file told i) → DeadSound makes places.clock places.dead places.dead_base told i → WasDelivered makes start told row → AllStands makes bytes places told i row
  all_stands files dead w = record {
    delivered = w;
    in_files = λ file is id events due_there.
        let sound = files file is in
        let was = deliveries_were_told makes told row legal w (due.Events id (place.File file.path) events) due_there in
        let since = subst (λ (l : List Entry). WasTold makes start l w.out.plan (due.Events id (place.File file.path) events)) (sym w.parts)
        (told_since makes w.out.plan (due.Events id (place.File file.path) events) w.before (Ack w.batch ∷ w.rest) was) in
        let parts = files_hold makes bytes file.path file.base sound.whole told w.out.plan id events sound.allowed since in
        let here = ⊎_elim
        (λ (same : sound.content ≡ sound.whole). (parts.0, parts.1, same ∙ parts.2))
        (λ (l : FileLeft bytes file.path (after makes start told) sound.whole sound.content).
        with_more (next_bytes bytes (is_file file.path) (Some l.0)) sound.whole sound.content l.2 (bytes w.out.plan.config id events) parts)
        sound.or_more in
        (sound.content, here.0, here.1, sound.holds, here.2);
    in_letters = λ letters due_there.
        let was = deliveries_were_told makes told row legal w (due.Letters letters) due_there in
        let since = subst (λ (l : List Entry). WasTold makes start l w.out.plan (due.Letters letters)) (sym w.parts)
        (told_since makes w.out.plan (due.Letters letters) w.before (Ack w.batch ∷ w.rest) was) in
        (dead.held, dead.is_found, in_held dead letters (letters_were_appended makes places.clock places.dead_base dead.whole told w.out.plan letters dead.allowed since));
    in_rejections = λ id at events due_there.
        let was = deliveries_were_told makes told row legal w (due.Events id at events) due_there in
        let since = subst (λ (l : List Entry). WasTold makes start l w.out.plan (due.Events id at events)) (sym w.parts)
        (told_since makes w.out.plan (due.Events id at events) w.before (Ack w.batch ∷ w.rest) was) in
        let parts = rejections w.out.plan.config id (fates_of since.entry) events in (
          since,
          ⊎_elim (λ (none : parts ≡ []). inl none)
              (λ (a : WereAppended (limits_in told) places.clock places.dead_base dead.whole parts). inr (dead.held, dead.is_found, in_held dead parts a))
              (rejections_were_appended makes places.clock places.dead_base dead.whole told w.out.plan id at events legal dead.allowed since),
        );
  }

pub acknowledged_events_stand : AcknowledgedEventsStand
acknowledged_events_stand makes bytes places told rest input front w i sound has settled =
    ⊎_elim (λ (f : IsFound sound.rows.rows w). inl f)
    (λ (d : WasDelivered makes start (told ++ Assure input front ∷ rest) w). inr (all_stands makes bytes places _ i w sound.legal sound.files sound.dead d))
    (assured_stand makes told rest input front w sound.rows sound.legal has settled sound.fits)
