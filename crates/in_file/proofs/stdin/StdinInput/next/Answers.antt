use Rattle.std.proofs.Common.{refl, ap, ◌∙◌, subst, arith}
use Rattle.byte_lines.specs.Text.{text_of}
use Rattle.byte_lines.specs.Unread.{lines_left}
use Rattle.in_lines.specs.Decoding.{event_by}
use Rattle.in_file.specs.Streams.{GaveEvent, StaysSet, Stream}
use Rattle.in_file.specs.contracts.stdin.StdinInput.{the_view}
use Rattle.in_file.proofs.Giving.{is_held}
use Rattle.in_file.proofs.Streaming.{gave_so}
use Rattle.in_file.proofs.stdin.StdinInput.next.Goals as goal

pub returns-clause-gave : goal.returns-clause-gave
returns-clause-gave c =
    let s : Stream = the_view c.self.inside in
    let after : Stream = the_view (record c.self.inside { held = c.pass.new.self }) in
    subst (λ v. GaveEvent c.in_ok-event.event v after) c.self.view_is
    (gave_so s after c.in_ok-event.event c.in-Some.line.content_len c.in-Some.line.taken (omega (arith, c.self.invariant)) c.in-Some.ensures.first
    (c.in_ok-event.ensures ∙ ap (λ b. event_by c.self.inside.codec (record { line = text_of b; moment = c.self.inside.moment })) c.front-bytes.ensures)
    (ap (λ u. record s { unread = u }) c.pass.ensures))

pub returns-clause-none : goal.returns-clause-none
returns-clause-none c = (
  λ same. absurd cc,
  λ none. absurd (is_held c.self.inside.held c.in-Some.line.content_len c.in-Some.line.taken (omega (arith, c.self.invariant)) c.in-Some.ensures.first
      (ap (λ (v : Stream). lines_left v.unread) c.self.view_is ∙ none)),
)

pub returns-clause-stays : goal.returns-clause-stays
returns-clause-stays c =
    let after : Stream = the_view (record c.self.inside { held = c.pass.new.self }) in
    subst (λ v. StaysSet v after) c.self.view_is refl
