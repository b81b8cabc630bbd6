-- Which answers end a line.
use Rattle.std.specs.Prelude.{◌≡◌, ◌↔◌, Bool, true, false, Err}
use Rattle.event_flow.specs.Meaning.{Makes}
use Rattle.history_book.specs.Contents.{Bytes}
use Rattle.history_book.specs.Links.{Listening}
use Rattle.history_book.specs.Sound.{Places}
use Rattle.line_machine.specs.declared.calls.Call.{Call}
use Rattle.line_machine.specs.declared.calls.Call.TheVariants as call
use Rattle.line_machine.specs.declared.calls.LineFault.TheVariants as fault
use Rattle.line_machine.specs.Answers.{IsCall}
use Rattle.line_machine.specs.Steps.{Step, GoesOn}
use Rattle.line_machine.specs.Views.{LineView}

-- Behind a call with this answer the line takes no further one: its store failed; or a delivery did, otherwise than by a damaged file that it reads first, for an output
-- may have taken events by then.
abbrev pub ends_line : Call → Bool
ends_line (call.Accept n (Err fault.Store)) = true
ends_line (call.Read (Err fault.Store)) = true
ends_line (call.Deliver n (Err (fault.Damaged damage))) = false
ends_line (call.Deliver n (Err f)) = true
ends_line (call.Mark (Err f)) = true
ends_line (call.Assure n (Err f)) = true
ends_line (call.Purge (Err f)) = true
ends_line x = false

module _ (makes : Makes) (listening : Listening) (bytes : Bytes) (places : Places) where
  -- whether the line takes further calls is told by the answer alone
  abbrev pub AnswersTellEnds : Type 0
  AnswersTellEnds = (i : LineView places) (s : Step makes listening bytes i) (x : Call) → IsCall makes listening bytes i s x → GoesOn makes listening bytes i s ↔ (ends_line x ≡ false)
