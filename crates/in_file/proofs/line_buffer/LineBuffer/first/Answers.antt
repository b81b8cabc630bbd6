use Rattle.std.proofs.Common.{sym, ap, ◌∙◌, eqb-true, true≢false}
use Rattle.byte_lines.specs.Unread.{Unread}
use Rattle.in_file.proofs.Holding.{none_held}
use Rattle.in_file.proofs.line_buffer.LineBuffer.first.Goals as goal

pub returns-in-None-2-clause-none : goal.returns-in-None-2-clause-none
returns-in-None-2-clause-none c =
    none_held c.args.self.now c.unread-bytes.result.now (ap (λ (u : Unread). u.limit) (sym c.self.view_is)) c.unread-bytes.ensures c.in-None.ensures.none c.in-None.ensures.short
    (λ _. eqb-true _ _ (sym c.if-not-is_empty.ensures))

pub returns-in-None-2-2-clause-none : goal.returns-in-None-2-2-clause-none
returns-in-None-2-2-clause-none c =
    none_held c.args.self.now c.unread-bytes.result.now (ap (λ (u : Unread). u.limit) (sym c.self.view_is)) c.unread-bytes.ensures c.in-None.ensures.none c.in-None.ensures.short
    (λ is. absurd (true≢false (sym is ∙ sym (ap (λ (u : Unread). u.ended) c.self.view_is) ∙ c.if-self.false)))
