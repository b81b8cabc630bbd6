-- What hearing an answer leaves of a reader, and what sending does.
use Rattle.std.proofs.Common.{◌≡◌, ◌⊎◌, ⊎_elim, ◌+◌, ◌-◌, ◌<◌, IsTrue, List, Option, Some, None, get_or, length, slice_get, Result, refl, sym, ap, subst, ◌∙◌, arith}
use Rattle.std.proofs.Math.Path.{ap₂}
use Rattle.std.proofs.lemmas.Option.{slice_get_read}
use Rattle.io_traits.specs.Moments.{EachMoment}
use Rattle.io_traits.specs.declared.stores.Store.{Ghosts as StoreWords}
use Rattle.io_traits.specs.declared.queue_faults.QueueFault.{QueueFault}
use Rattle.pipeline_bus.specs.Parcels.{IsInTurn}
use Rattle.pipeline_bus.specs.Ends.{Sending, heard_as}
use Rattle.pipeline_bus.specs.declared.parcel.Answer.{Answer}
use Rattle.pipeline_bus.specs.declared.parcel.Heard.TheVariants.{Assured, NotListening}
use Rattle.dead_letters.specs.declared.segments.Counted.{Counted}
use Rattle.dead_letters.specs.declared.rows.DeadRow.{DeadRow}
use Rattle.dead_letter_reader.specs.Places.{Passes, Rise}
use Rattle.dead_letter_reader.specs.Ready.{IsReady, LeavesPlace, Says}
use Rattle.dead_letter_reader.specs.Steps.{Hears, IsRecorded, Pushes, Recorded, Steps, goes_on, hears, after_push, answered, done_by, no_answer, recorded_at}
use Rattle.dead_letter_reader.specs.Steps as step
use Rattle.dead_letter_reader.specs.Work.{IsSending, Work}
use Rattle.dead_letter_reader.specs.declared.sender.SendOutcome.{SendOutcome}
use Rattle.dead_letter_reader.proofs.Passing.{passes_those}
use Rattle.dead_letter_reader.proofs.Working.{heard_sending, no_answer_sending, pushes_sending}
use Rattle.pipeline_bus.specs.declared.parcel.Parcel.{Parcel}

-- ---- an answer

pub hears_assured : (w : Work) (a : Answer) (recorded : Counted) (sends : Sending) (last : DeadRow) → 0 < w.out → IsInTurn w.sends.heard a → a.answer ≡ Assured
    → slice_get w.rows (w.done + w.out - 1) ≡ Some last → recorded ≡ recorded_at w.recorded last → sends ≡ heard_as (Some a) w.sends → Hears w (record w { done = w.done + w.out; out = 0; recorded = recorded; sends = sends })
hears_assured w a recorded sends last out in_turn is at place sends_are =
    let one : IsRecorded w (w.done + w.out) recorded = record { last = last; is_last = at; is = place } in
    record {
      out = out;
      answer = a;
      in_turn = in_turn;
      recorded = recorded;
      place = subst (λ h. Recorded h w recorded) (sym is) one;
      new_is = ap₂ (λ d s. record w { done = d; out = 0; recorded = recorded; sends = s }) (sym (ap (λ h. done_by h w.done w.out) is)) sends_are;
    }

pub hears_refused : (w : Work) (a : Answer) (sends : Sending) → 0 < w.out → IsInTurn w.sends.heard a → a.answer ≡ NotListening → sends ≡ heard_as (Some a) w.sends → Hears w (record w { out = 0; sends = sends })
hears_refused w a sends out in_turn is sends_are = record {
  out = out;
  answer = a;
  in_turn = in_turn;
  recorded = w.recorded;
  place = subst (λ h. Recorded h w w.recorded) (sym is) refl;
  new_is = ap₂ (λ d s. record w { done = d; out = 0; sends = s }) (sym (ap (λ h. done_by h w.done w.out) is)) sends_are;
}

-- the last letter of the parcel that is out
pub at_place : (w : Work) (items : List DeadRow) (last : DeadRow) → IsSending w → 0 < w.out → items ≡ w.rows → last ≡ get_or items (w.done + w.out - 1) last → slice_get w.rows (w.done + w.out - 1) ≡ Some last
at_place w items last sending out are is =
    slice_get_read w.rows (length w.rows) (w.done + w.out - 1) last refl (omega (arith, sending.within, out)) (is ∙ ap (λ l. get_or l (w.done + w.out - 1) last) are)

module _ {S : Type 0} (store : StoreWords S) where
  abbrev Ready : S → Work → Type 0
  Ready s w = IsReady store w s

  pub heard_ready : (w v : Work) (old new : S) → IsReady store w old → Hears w v → Says store w.file v.recorded new → (IsTrue store.tells → Passes w.rows v.done v.recorded) → IsReady store v new
  heard_ready w v old new ready h says passes =
      let is = h.new_is in
      let x = answered h.answer h.recorded w in
      let says_there : Says store w.file x.recorded new = subst (λ (y : Work). Says store w.file y.recorded new) is says in
      let passes_there : IsTrue store.tells → Passes w.rows x.done x.recorded = subst (λ (y : Work). IsTrue store.tells → Passes w.rows y.done y.recorded) is passes in
      let there : IsReady store x new = record { sending = heard_sending w h.answer h.recorded ready.sending h.out; rise = ready.rise; passes = passes_there; file = says_there } in
      subst (Ready new) (sym is) there

  -- the place of the last letter of the parcel that was answered Assured
  pub assured_passes : (w : Work) (old : S) (last : DeadRow) → IsReady store w old → 0 < w.out → slice_get w.rows (w.done + w.out - 1) ≡ Some last
      → IsTrue store.tells → Passes w.rows (w.done + w.out) (recorded_at w.recorded last)
  assured_passes w old last ready out at told = passes_those w.rows (w.done + w.out) last w.recorded (ready.rise told) (omega (arith, out)) at

  pub no_answer_ready : (w : Work) (s : S) (sends : Sending) → IsReady store w s → sends ≡ heard_as None w.sends → IsReady store (record w { sends = sends }) s
  no_answer_ready w s sends ready is =
      let there : IsReady store (no_answer w) s = record { sending = no_answer_sending w ready.sending; rise = ready.rise; passes = ready.passes; file = ready.file } in
      subst (λ (x : Sending). IsReady store (record w { sends = x }) s) (sym is) there

  -- ---- a push

  -- what sending leaves as it was
  pub record Stays (w v : Work) : Type 0 where
    pub file : v.file ≡ w.file
    pub rows : v.rows ≡ w.rows
    pub done : v.done ≡ w.done
    pub recorded : v.recorded ≡ w.recorded

  push_stays : (w : Work) (back : Option Parcel) → Stays w (after_push back w)
  push_stays w None = record { file = refl; rows = refl; done = refl; recorded = refl }
  push_stays w (Some back) = record { file = refl; rows = refl; done = refl; recorded = refl }

  pub pushes_stay : (w v : Work) (r : Result SendOutcome QueueFault) → Pushes w v r → Stays w v
  pushes_stay w v r (step.pushes back some is says) = subst (Stays w) (sym is) (push_stays w back)
  pushes_stay w v r (step.no_memory not is says) = subst (Stays w) (sym is) (record { file = refl; rows = refl; done = refl; recorded = refl })
  pushes_stay w v r (step.ends back all not is says) = subst (Stays w) (sym is) (record { file = refl; rows = refl; done = refl; recorded = refl })
  pushes_stay w v r (step.has_ended all last is says) = subst (Stays w) (sym is) (record { file = refl; rows = refl; done = refl; recorded = refl })

  pub pushes_ready : (w v : Work) (s : S) (r : Result SendOutcome QueueFault) → IsReady store w s → w.out ≡ 0 → Pushes w v r → IsReady store v s
  pushes_ready w v s r ready none p =
      let st = pushes_stay w v r p in
      record {
        sending = (pushes_sending w v r ready.sending none p).0;
        rise = λ told. subst Rise (sym st.rows) (ready.rise told);
        passes = λ told. subst (λ rows. Passes rows v.done v.recorded) (sym st.rows) (subst (λ n. Passes w.rows n v.recorded) (sym st.done) (subst (Passes w.rows w.done) (sym st.recorded) (ready.passes told)));
        file = subst (λ f. Says store f v.recorded s) (sym st.file) (subst (λ c. Says store w.file c s) (sym st.recorded) ready.file);
      }

  -- ---- a step up to what it sends

  -- nothing was out, or an answer was heard
  pub record Took (w : Work) (old : S) (mid : Work) (s : S) : Type 0 where
    pub come : ((w.out ≡ 0) × (mid ≡ w)) ⊎ Hears w mid
    pub ready : IsReady store mid s
    pub none : mid.out ≡ 0
    pub moments : EachMoment store old s (LeavesPlace store w.file w.rows mid.done old)

  module _ (w : Work) (old : S) (mid : Work) (s : S) (took : Took w old mid s) (v : Work) (r : Result SendOutcome QueueFault) (p : Pushes mid v r) where
    pub took_steps : Steps w v r
    took_steps = ⊎_elim (λ (same : (w.out ≡ 0) × (mid ≡ w)). goes_on same.0 (subst (λ x. Pushes x v r) same.1 p)) (λ h. hears mid h p) took.come

    pub took_ready : IsReady store v s
    took_ready = pushes_ready mid v s r took.ready took.none p

    pub took_leaves : EachMoment store old s (LeavesPlace store w.file w.rows v.done old)
    took_leaves = subst (λ n. EachMoment store old s (LeavesPlace store w.file w.rows n old)) (sym (pushes_stay mid v r p).done) took.moments
