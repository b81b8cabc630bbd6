use Rattle.std.proofs.Common.{◌≡◌, ap, sym, ◌∙◌, [], length, arith}
use Rattle.crc_frame.specs.Bytes.{IsBytes}
use Rattle.crc_frame.proofs.Fronts.{no_bytes}
use Rattle.element_code.proofs.Sound.{event_is, event_sound}
use Rattle.element_code.proofs.Lengths.{is_event, length-event_spelling}
use Rattle.element_code.proofs.reading.event_of.Goals as goal

pub from_objects-requires-clause-valid : goal.from_objects-requires-clause-valid
from_objects-requires-clause-valid c =
    let b = c.args.bytes.now in
    let fit : IsBytes b = λ i. omega (arith, c.type_inv.bytes i) in
    let none : c.in_ok-meta.rest.now ≡ [] = no_bytes c.in_ok-meta.rest.now (sym c.is_empty.ensures ∙ c.if-not-is_empty.false) in
    let s = event_sound b _ fit (event_is b c.in_ok-fields.behind.now c.in_ok-meta.rest.now c.in_ok-fields.fields c.in_ok-meta.meta c.in_ok-fields.ensures c.in_ok-meta.ensures none) in
    is_event _ s.0 (omega (arith, c.requires, ap length s.1))

pub from_objects-requires-clause-size : goal.from_objects-requires-clause-size
from_objects-requires-clause-size c =
    let b = c.args.bytes.now in
    let fit : IsBytes b = λ i. omega (arith, c.type_inv.bytes i) in
    let none : c.in_ok-meta.rest.now ≡ [] = no_bytes c.in_ok-meta.rest.now (sym c.is_empty.ensures ∙ c.if-not-is_empty.false) in
    let s = event_sound b _ fit (event_is b c.in_ok-fields.behind.now c.in_ok-meta.rest.now c.in_ok-fields.fields c.in_ok-meta.meta c.in_ok-fields.ensures c.in_ok-meta.ensures none) in
    ap length (sym s.1) ∙ length-event_spelling _ (s.0.fields.members, s.0.fields.is) (s.0.meta.members, s.0.meta.is)
