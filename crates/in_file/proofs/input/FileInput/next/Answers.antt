use Rattle.std.proofs.Common.{◌+◌, refl, sym, ap, ◌∙◌, subst, arith, take}
use Rattle.byte_lines.specs.Text.{text_of}
use Rattle.byte_lines.specs.Unread.{lines_left}
use Rattle.in_file.specs.Looks.{GaveEvent, Keeps, event_from}
use Rattle.in_file.specs.Views.{Watched}
use Rattle.in_file.specs.contracts.input.FileInput.{the_view}
use Rattle.in_file.proofs.Giving.{gave_so, is_held}
use Rattle.in_file.proofs.input.FileInput.next.Goals as goal

pub returns-clause-gave : goal.returns-clause-gave
returns-clause-gave c =
    let w : Watched = the_view c.self.inside in
    let after : Watched = the_view (record c.self.inside { behind = c.self.inside.behind + c.in-Some.line.taken; held = c.pass.new.self }) in
    subst (λ v. GaveEvent c.in_ok-event.event v after) c.self.view_is
    (gave_so w after c.in_ok-event.event c.in-Some.line.content_len c.in-Some.line.taken (omega (arith, c.self.invariant.1)) c.in-Some.ensures.first c.in-Some.ensures.within
    (c.in_ok-event.ensures ∙ ap (λ (v : Watched). event_from v.path v.codec (record { line = text_of (take c.in-Some.line.content_len v.unread.bytes); moment = v.moment })) (sym c.self.view_is))
    (ap (λ u. record w { behind = c.self.inside.behind + c.in-Some.line.taken; unread = u }) c.pass.ensures))

pub returns-clause-none : goal.returns-clause-none
returns-clause-none c = (
  λ same. absurd cc,
  λ none. absurd (is_held c.self.inside.held c.in-Some.line.content_len c.in-Some.line.taken (omega (arith, c.self.invariant.1)) c.in-Some.ensures.first
      (ap (λ (v : Watched). lines_left v.unread) c.self.view_is ∙ none)),
)

pub returns-clause-keeps : goal.returns-clause-keeps
returns-clause-keeps c =
    let after : Watched = the_view (record c.self.inside { behind = c.self.inside.behind + c.in-Some.line.taken; held = c.pass.new.self }) in
    subst (λ v. Keeps v after) c.self.view_is refl
