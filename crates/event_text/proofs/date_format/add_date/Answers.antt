use Rattle.std.proofs.Common.{◌≡◌, ◌≤◌, ◌++◌, length, sym, ap, subst, ◌∙◌}
use Rattle.std.specs.Prelude.{IsUtf8, IsAscii, string_bytes}
use Rattle.event_json.proofs.Utf8.{time_utf8, low_time, low_ascii}
use Rattle.event_json.specs.TimeText.{time_text_of}
use Rattle.event_text.specs.DateFormats.{part_in, part_text}
use Rattle.event_text.proofs.Parts.{part_is, time_text_long}
use Rattle.event_text.proofs.Steps.{flat_step}
use Rattle.event_text.proofs.date_format.add_date.Goals as goal

pub from_utf8_unchecked-text-requires : goal.from_utf8_unchecked-text-requires
from_utf8_unchecked-text-requires c = subst IsUtf8 (sym c.time_text-length.ensures.text) (time_utf8 c.args.moment)

pub text_of_part-requires-clause-long : goal.text_of_part-requires-clause-long
text_of_part-requires-clause-long c = subst (λ l. 24 ≤ length l) (sym (c.from_utf8_unchecked-text.ensures ∙ c.time_text-length.ensures.text)) (time_text_long c.args.moment)

pub text_of_part-requires-clause-ascii : goal.text_of_part-requires-clause-ascii
text_of_part-requires-clause-ascii c = subst IsAscii (sym (c.from_utf8_unchecked-text.ensures ∙ c.time_text-length.ensures.text)) (low_ascii (time_text_of c.args.moment) (low_time c.args.moment))

pub loop-part-preserved : goal.loop-part-preserved
loop-part-preserved c =
    let text : c.from_utf8_unchecked-text.result.now ≡ time_text_of c.args.moment = c.from_utf8_unchecked-text.ensures ∙ c.time_text-length.ensures.text in
    let part : c.text_of_part.result.now ≡ part_text c.args.moment c.part-item.result = c.text_of_part.ensures ∙ ap (λ l. part_in l c.part-item.result) text ∙ part_is c.args.moment c.part-item.result in
    flat_step (part_text c.args.moment) c.args.parts.now c.loop-part.part-index c.part-item.result (string_bytes c.loop-part.to) (string_bytes c.push_str.new.self) c.loop-part-test.true c.part-item.is (c.in_ok-push_str.ensures.bytes ∙ ap (λ l. string_bytes c.loop-part.to ++ l) part) ∙ c.loop-part.invariant
