-- What is sent of events that weren't sent before, and why a delivery of them waits.
use Rattle.std.proofs.Common.{◌≡◌, ◌≤◌, ◌<◌, ◌+◌, ℕ, List, Option, Some, None, Result, Ok, Err, IfOk, IfSome, length, refl, sym, ap, ◌∙◌, subst, arith}
use Rattle.event_tree.specs.Events.{Ev}
use Rattle.io_traits.specs.Counts.{Rose}
use Rattle.pipeline_bus.specs.Parcels.{with_events}
use Rattle.pipeline_bus.specs.declared.parcel.Heard.{Heard}
use Rattle.line_links.specs.Senders.{Hears, SendState, SendsNext, parcel_of}
use Rattle.line_links.specs.SenderTables.{WaitsOn}
use Rattle.line_links.proofs.Sending.{filled_more}
use Rattle.line_links.proofs.SenderPlaces.{rises}

module _ (events : List Ev) (some : 0 < length events) (old new : SendState) where
  -- the number of a parcel that was sent now is that of one of those that were sent
  sent_by : (number : Option ℕ) → SendsNext events number old new → IfSome number (λ n. (1 ≤ n) × (n ≤ with_events new.sends.sent))
  sent_by None sends = tt
  sent_by (Some n) sends =
      let more : with_events new.sends.sent ≡ with_events old.sends.sent + 1 = ap (λ (s : SendState). with_events s.sends.sent) sends.1 ∙ filled_more old.sends.sent (parcel_of events n old) some in
      (omega (arith, sends.0), omega (arith, sends.0, more))

  pub sent_now : {E : Type 0} (result : Result (Option ℕ) E) → IfOk result (λ number. SendsNext events number old new)
      → IfOk result (λ number. IfSome number (λ n. (1 ≤ n) × (n ≤ with_events new.sends.sent)))
  sent_now (Ok number) sends = sent_by number sends
  sent_now (Err e) sends = tt

  -- where none was, the ring showed no free slot
  pub no_slot : {E : Type 0} (result : Result (Option ℕ) E) → IfOk result (λ number. SendsNext events number old new) → result ≡ Ok None
      → Rose old.sends.push_misses new.sends.push_misses
  no_slot result sends is =
      let same : SendsNext events None old new = subst (λ r. IfOk r (λ number. SendsNext events number old new)) is sends in
      subst (λ (s : SendState). Rose old.sends.push_misses s.sends.push_misses) (sym same) (rises old.sends.push_misses)

  looked : (number : Option ℕ) → SendsNext events number old new → new.sends.answer_misses ≡ old.sends.answer_misses
  looked None sends = ap (λ (s : SendState). s.sends.answer_misses) sends
  looked (Some n) sends = ap (λ (s : SendState). s.sends.answer_misses) sends.1

  same_address : (number : Option ℕ) → SendsNext events number old new → new.address ≡ old.address
  same_address None sends = ap (λ (s : SendState). s.address) sends
  same_address (Some n) sends = ap (λ (s : SendState). s.address) sends.1

  -- no answer was looked for, and the address stays
  pub looks_stay : {E : Type 0} (result : Result (Option ℕ) E) → IfOk result (λ number. SendsNext events number old new) → (err : (e : E) → result ≡ Err e → new ≡ old)
      → new.sends.answer_misses ≡ old.sends.answer_misses
  looks_stay (Ok number) sends none = looked number sends
  looks_stay (Err e) sends none = ap (λ (s : SendState). s.sends.answer_misses) (none e refl)

  pub address_stays : {E : Type 0} (result : Result (Option ℕ) E) → IfOk result (λ number. SendsNext events number old new) → (err : (e : E) → result ≡ Err e → new ≡ old)
      → new.address ≡ old.address
  address_stays (Ok number) sends none = same_address number sends
  address_stays (Err e) sends none = ap (λ (s : SendState). s.address) (none e refl)

-- where the ring showed no answer
pub no_answer : (n : ℕ) (old mid new : SendState) → mid.sends.answer_misses ≡ old.sends.answer_misses → Hears n mid new None → WaitsOn old new
no_answer n old mid new same hears =
    WaitsOn.No_answer
    (subst (λ m. Rose m new.sends.answer_misses) same
    (subst (λ (s : SendState). Rose mid.sends.answer_misses s.sends.answer_misses) (sym hears.1.1) (rises mid.sends.answer_misses)))

pub heard_address : (n : ℕ) (old new : SendState) (heard : Option Heard) → Hears n old new heard → new.address ≡ old.address
heard_address n old new (Some h) hears = ap (λ (s : SendState). s.address) hears.1.0
heard_address n old new None hears = ap (λ (s : SendState). s.address) hears.1.1
