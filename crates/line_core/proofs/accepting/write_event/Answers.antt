use Rattle.std.proofs.Common.{◌≡◌, ℕ, true, Result, Ok, Err, Some, sym, ap, ◌∙◌, subst}
use Rattle.queue_core.specs.Writing.{frame_size, is_full, numbers_spent}
use Rattle.queue_core.specs.declared.writing.WriteFault.{WriteFault}
use Rattle.queue_core.specs.declared.writing.WriteFault.TheVariants as write
use Rattle.line_machine.specs.declared.calls.Accepted.TheVariants as accepted
use Rattle.line_machine.specs.declared.calls.LineFault.TheVariants as fault
use Rattle.line_core.specs.Causes.{refusal_of}
use Rattle.line_core.proofs.accepting.write_event.Goals as goal

refused_full : (cause : WriteFault) → refusal_of cause ≡ Ok accepted.Full → cause ≡ write.Full
refused_full write.Full is = cc
refused_full write.NumbersSpent is = absurd cc
refused_full write.Memory is = absurd cc
refused_full write.Fault is = absurd cc

refused_spent : (cause : WriteFault) → refusal_of cause ≡ Err fault.NumbersSpent → cause ≡ write.NumbersSpent
refused_spent write.Full is = absurd cc
refused_spent write.NumbersSpent is = cc
refused_spent write.Memory is = absurd cc
refused_spent write.Fault is = absurd cc

abbrev unwritten_by : WriteFault → Result ℕ WriteFault
unwritten_by cause = Err cause

pub returns-in-Err-write_and_keep-clause-full : goal.returns-in-Err-write_and_keep-clause-full
returns-in-Err-write_and_keep-clause-full g c = λ is.
    let w = c.in-Err-write_and_keep in
    let e = c.refuse.ensures in
    let cause = refused_full w.unwritten.cause (sym e.answer ∙ is) in
    let said = w.ensures.full.0 (ap unwritten_by cause) in (
      c.args.event,
      e.held ∙ ap Some w.ensures.event,
      subst (λ id. is_full (frame_size id c.args.event) c.args.folder.now.queue ≡ true) (c.as_str.ensures ∙ sym e.id) said.1,
    )

pub returns-in-Err-write_and_keep-clause-spent : goal.returns-in-Err-write_and_keep-clause-spent
returns-in-Err-write_and_keep-clause-spent g c = λ is.
    let w = c.in-Err-write_and_keep in
    let e = c.refuse.ensures in
    let cause = refused_spent w.unwritten.cause (sym e.answer ∙ is) in
    let said = w.ensures.spent.0 (ap unwritten_by cause) in (
      c.args.event,
      e.held ∙ ap Some w.ensures.event,
      subst (λ id. numbers_spent (frame_size id c.args.event) c.args.folder.now.queue ≡ true) (c.as_str.ensures ∙ sym e.id) said,
    )
