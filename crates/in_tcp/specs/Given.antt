-- The next line of what is held as an event.
use Rattle.std.specs.Prelude.{◌≡◌, ℕ, Option, Result, IfNone, IfOk, IsErr, List, [], ◌++◌, map}
use Rattle.std.specs.Option.{option_to_list}
use Rattle.std.specs.declared.alloc.AllocError.{AllocError}
use Rattle.in_lines.specs.declared.codec.Codec.{Codec}
use Rattle.event_tree.specs.Events.{Ev}
use Rattle.in_lines.specs.Decoding.{event_by}
use Rattle.in_lines.specs.Polls.{Received}
use Rattle.in_tcp.specs.Held.{lefts_in, lines_in}
use Rattle.in_tcp.specs.declared.receive_buffer.ReceiveBuffer.{ReceiveBuffer}

-- it was given, and the others are held; none, where none is held, or where memory ran out
pub record GaveHeld (codec : Codec) (old new : ReceiveBuffer) (result : Result (Option Ev) AllocError) : Type 0 where
  pub given : List (ℕ × Received)
  pub lines : lines_in old.rests old.pieces ≡ given ++ lines_in new.rests new.pieces
  pub lefts : (n : ℕ) → lefts_in new.rests new.pieces n ≡ lefts_in old.rests old.pieces n
  pub events : IfOk result (λ event. option_to_list event ≡ map (λ r. event_by codec r.1) given)
  pub none : IfOk result (λ event. IfNone event (lines_in old.rests old.pieces ≡ []))
  pub err : IsErr result → given ≡ []
