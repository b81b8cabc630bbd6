use Rattle.std.proofs.Common.{length, ap, sym, ◌∙◌, subst, arith, rules}
use Rattle.crc_frame.proofs.Fronts.{ok_is}
use Rattle.element_code.specs.Faults.{IsRefusedAt}
use Rattle.element_code.specs.Reading.{event_at}
use Rattle.element_code.proofs.Sound.{event_sound}
use Rattle.element_code.proofs.Again.{event_again}
use Rattle.element_code.proofs.EventPlaces.{event_stops}
use Rattle.element_code.proofs.Wholes.{is_whole, is_short}
use Rattle.element_code.proofs.decoding.decode.Goals as goal

pub overflow_sub-result : goal.overflow_sub-result
overflow_sub-result c = let r = event_stops c.args.bytes.now c.in-Err-Left.left (λ i. omega (arith, c.type_inv.bytes i)) (omega (arith, c.if-bytes-gt-MOST_BYTES.false)) (rw c.in-Err-Left.field-0-is at c.in-Err-Left.ensures) in omega (arith, r.sum)

pub returns-in-Ok-clause-found : goal.returns-in-Ok-clause-found
returns-in-Ok-clause-found c = (event_sound c.args.bytes.now c.in-Ok.event (λ i. omega (arith, c.type_inv.bytes i)) c.in-Ok.ensures).0

pub returns-in-Ok-clause-spelled : goal.returns-in-Ok-clause-spelled
returns-in-Ok-clause-spelled c = (event_sound c.args.bytes.now c.in-Ok.event (λ i. omega (arith, c.type_inv.bytes i)) c.in-Ok.ensures).1

pub returns-in-Ok-clause-only : goal.returns-in-Ok-clause-only
returns-in-Ok-clause-only c = λ e whole spelled short. ok_is c.in-Ok.event e (sym c.in-Ok.ensures ∙ ap event_at (sym spelled) ∙ event_again e whole)

pub returns-in-Err-Left-clause-only : goal.returns-in-Err-Left-clause-only
returns-in-Err-Left-clause-only c = λ e whole spelled short. let h = rw c.in-Err-Left.field-0-is at c.in-Err-Left.ensures in absurd (search (sym h ∙ ap event_at (sym spelled) ∙ event_again e whole, rules))

pub returns-in-Err-Left-clause-at : goal.returns-in-Err-Left-clause-at
returns-in-Err-Left-clause-at c =
    let b = c.args.bytes.now in
    let r = event_stops b c.in-Err-Left.left (λ i. omega (arith, c.type_inv.bytes i)) (omega (arith, c.if-bytes-gt-MOST_BYTES.false)) (rw c.in-Err-Left.field-0-is at c.in-Err-Left.ensures) in
    subst (IsRefusedAt b) (omega (arith, r.sum)) r.is

pub returns-then-bytes-gt-MOST_BYTES-clause-again : goal.returns-then-bytes-gt-MOST_BYTES-clause-again
returns-then-bytes-gt-MOST_BYTES-clause-again c = λ e is spelled. omega (arith, is_short e is, ap length spelled, c.if-bytes-gt-MOST_BYTES.true)

pub returns-in-Ok-clause-again : goal.returns-in-Ok-clause-again
returns-in-Ok-clause-again c = λ e is spelled. returns-in-Ok-clause-only c e (is_whole e is) spelled (omega (arith, is_short e is, ap length spelled))

pub returns-in-Err-Left-clause-again : goal.returns-in-Err-Left-clause-again
returns-in-Err-Left-clause-again c = λ e is spelled. returns-in-Err-Left-clause-only c e (is_whole e is) spelled (omega (arith, is_short e is, ap length spelled))
