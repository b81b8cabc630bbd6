use Rattle.std.proofs.Common.{◌≡◌, sym, ap, ◌∙◌, subst, length, arith}
use Rattle.std.specs.Prelude.{IfOk}
use Rattle.byte_lines.proofs.Decoding.{text_of-IsUtf8}
use Rattle.in_lines.specs.Decoding.{event_by}
use Rattle.in_lines.proofs.Short.{text_of_short}
use Rattle.in_lines.proofs.decoding.event_of_bytes.Goals as goal

pub event_by_codec-requires-in-Err : goal.event_by_codec-requires-in-Err
event_by_codec-requires-in-Err c = omega (arith, text_of_short c.args.bytes.now, c.requires, ap length (c.as_str.ensures.value ∙ c.in_ok-line-in-Err.ensures))

pub returns-in-Ok : goal.returns-in-Ok
returns-in-Ok c =
    subst (λ l. IfOk c.event_by_codec.result (λ event. event ≡ event_by c.args.codec (record { line = l; moment = c.args.moment })))
    (c.in-Ok.ensures.0 ∙ sym (text_of-IsUtf8 c.args.bytes.now c.in-Ok.ensures.1)) c.event_by_codec.ensures
