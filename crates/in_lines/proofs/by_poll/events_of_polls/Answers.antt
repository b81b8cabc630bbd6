use Rattle.std.proofs.Common.{◌≡◌, ◌<◌, ◌+◌, ◌++◌, ◌∷◌, [], map, take, drop, length, refl, sym, ap, ◌∙◌, arith}
use Rattle.std.specs.String.{string_bytes}
use Rattle.in_lines.specs.Polls.{joined, is_ended, received, received_at}
use Rattle.in_lines.specs.Events.{event_of}
use Rattle.in_lines.specs.Given.{poll_of, polls_of}
use Rattle.in_lines.proofs.Receiving.{received-nil}
use Rattle.in_lines.proofs.Polled.{polls_of-more, lines_of_all, taken_bytes, taken_end, count_within, taken_events}
use Rattle.in_lines.proofs.by_poll.events_of_polls.Goals as goal

pub loop-poll-init : goal.loop-poll-init
loop-poll-init c = record { bytes = c.new-bytes.ensures.items; ended = refl; events = c.new-events.ensures.items ∙ sym (ap (map event_of) (received-nil c.args.limit)) }

pub lines_behind-new_lines-requires : goal.lines_behind-new_lines-requires
lines_behind-new_lines-requires c =
    let polls = polls_of (take c.loop-poll.poll-index c.args.polls.now) in
    let poll = poll_of c.poll-item.result in
    let bytes = taken_bytes polls poll c.loop-poll.bytes.items c.take_piece.new.bytes.items c.loop-poll.ended c.loop-poll.invariant.bytes c.loop-poll.invariant.ended c.in_ok-ended.ensures.bytes in
    let ended = taken_end polls poll c.loop-poll.ended c.in_ok-ended.ended c.loop-poll.invariant.ended c.in_ok-ended.ensures.ended in
    let within = count_within string_bytes c.args.limit polls poll c.in_ok-before.before.items c.in_ok-lines.lines.items c.requires
    (c.in_ok-before.ensures ∙ lines_of_all c.args.limit polls c.deref.result.now c.loop-poll.ended (c.deref.ensures.value ∙ c.loop-poll.invariant.bytes) c.loop-poll.invariant.ended)
    (c.in_ok-lines.ensures ∙ lines_of_all c.args.limit (polls ++ poll ∷ []) c.deref-in-loop-poll.result.now c.in_ok-ended.ended (c.deref-in-loop-poll.ensures.value ∙ bytes) ended) in
    omega (arith, within, ap length c.deref-in-loop-poll-2.ensures.value, c.len.ensures, c.in_ok-before.before.ok.0)

pub loop-poll-preserved : goal.loop-poll-preserved
loop-poll-preserved c =
    let index = c.loop-poll.poll-index in
    let polls = polls_of (take index c.args.polls.now) in
    let poll = poll_of c.poll-item.result in
    let lt : index < length c.args.polls.now = omega (arith, c.loop-poll-test.true) in
    let more : polls_of (take (index + 1) c.args.polls.now) ≡ polls ++ poll ∷ [] = polls_of-more c.args.polls.now index c.poll-item.result c.poll-item.is lt in
    let bytes = taken_bytes polls poll c.loop-poll.bytes.items c.take_piece.new.bytes.items c.loop-poll.ended c.loop-poll.invariant.bytes c.loop-poll.invariant.ended c.in_ok-ended.ensures.bytes in
    let ended = taken_end polls poll c.loop-poll.ended c.in_ok-ended.ended c.loop-poll.invariant.ended c.in_ok-ended.ensures.ended in
    let events = taken_events string_bytes c.args.limit polls poll c.in_ok-before.before.items c.in_ok-lines.lines.items c.loop-poll.events.items c.push_events.new.events.items
    (c.in_ok-before.ensures ∙ lines_of_all c.args.limit polls c.deref.result.now c.loop-poll.ended (c.deref.ensures.value ∙ c.loop-poll.invariant.bytes) c.loop-poll.invariant.ended)
    (c.in_ok-lines.ensures ∙ lines_of_all c.args.limit (polls ++ poll ∷ []) c.deref-in-loop-poll.result.now c.in_ok-ended.ended (c.deref-in-loop-poll.ensures.value ∙ bytes) ended)
    c.loop-poll.invariant.events
    (c.in_ok-push_events.ensures ∙ ap (λ t. c.loop-poll.events.items ++ map event_of (received_at poll.moment (map string_bytes t))) (c.lines_behind-new_lines.ensures ∙ ap (λ n. drop n c.deref-in-loop-poll-2.result.now) (c.len.ensures ∙ c.in_ok-before.before.ok.0) ∙ ap (drop (length c.in_ok-before.before.items)) c.deref-in-loop-poll-2.ensures.value)) in
    record { bytes = bytes ∙ ap joined (sym more); ended = ended ∙ ap is_ended (sym more); events = events ∙ ap (λ t. map event_of (received c.args.limit t)) (sym more) }
