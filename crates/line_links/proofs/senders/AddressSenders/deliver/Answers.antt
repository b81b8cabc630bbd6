use Rattle.std.proofs.Common.{Result, Ok, Err, IfOk, inl, inr, ap, ◌∙◌, ◌≡◌, arith, ◌≤◌, ◌<◌, length}
use Rattle.line_links.specs.SenderTables.{sender_place}
use Rattle.line_links.specs.declared.senders.Sent.{Sent}
use Rattle.line_links.specs.declared.senders.Sent.TheVariants as sent
use Rattle.line_links.proofs.SenderPlaces.{none_past, one_assured, one_waits}
use Rattle.line_links.proofs.senders.AddressSenders.deliver.Goals as goal

-- what stands behind an answer, carried over
if_then : {E : Type 0} {P Q : Type 0} (x : Sent) (r : Result Sent E) → (P → Q) → IfOk r (λ s. s ≡ x → P) → IfOk r (λ s. s ≡ x → Q)
if_then x (Ok s) gives all = λ is. gives (all is)
if_then x (Err e) gives all = tt

pub returns-then-at-len-clause-waits : goal.returns-then-at-len-clause-waits
returns-then-at-len-clause-waits c waits =
    let senders = c.args.self.now.senders.items in
    let at : c.place_of-at.result ≡ sender_place c.args.address.now senders = c.place_of-at.ensures ∙ ap (sender_place c.args.address.now) c.as_slice.ensures.value in
    let past : length senders ≤ sender_place c.args.address.now senders = omega (arith, c.if-at-len.true, c.len.ensures, c.as_slice.ensures.len, at) in
    inl (none_past c.args.address.now senders past)

pub returns-clause-assured : goal.returns-clause-assured
returns-clause-assured c =
    let senders = c.args.self.now.senders.items in
    let at : c.place_of-at.result ≡ sender_place c.args.address.now senders = c.place_of-at.ensures ∙ ap (sender_place c.args.address.now) c.as_slice.ensures.value in
    let below : c.place_of-at.result < length senders = omega (arith, c.if-at-len.false, c.len.ensures, c.as_slice.ensures.len) in
    if_then sent.Assured c.deliver.result
    (one_assured c.args.address.now senders c.place_of-at.result c.index_mut.result.now c.deliver.new.self at below c.index_mut.ensures.value)
    c.deliver.ensures.assured

pub returns-clause-waits : goal.returns-clause-waits
returns-clause-waits c =
    let senders = c.args.self.now.senders.items in
    let at : c.place_of-at.result ≡ sender_place c.args.address.now senders = c.place_of-at.ensures ∙ ap (sender_place c.args.address.now) c.as_slice.ensures.value in
    let below : c.place_of-at.result < length senders = omega (arith, c.if-at-len.false, c.len.ensures, c.as_slice.ensures.len) in
    if_then sent.Waits c.deliver.result
    (λ waits. inr (one_waits c.args.address.now senders c.place_of-at.result c.index_mut.result.now c.deliver.new.self at below c.index_mut.ensures.value waits))
    c.deliver.ensures.waits
