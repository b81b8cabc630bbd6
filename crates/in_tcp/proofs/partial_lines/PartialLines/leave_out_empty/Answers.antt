use Rattle.std.proofs.Common.{◌≡◌, ap, sym, ◌∙◌, rules}
use Rattle.std.specs.Prelude.{filter, nat_eq, not}
use Rattle.std.proofs.lemmas.Fn.{filter_same}
use Rattle.in_tcp.proofs.Among.{left_out, no_bytes}
use Rattle.in_tcp.proofs.partial_lines.PartialLines.leave_out_empty.Goals as goal

pub returns-then-is_empty : goal.returns-then-is_empty
returns-then-is_empty c =
    let kept : c.retain.new.self.items ≡ filter (λ p. not (nat_eq p.conn c.args.conn)) c.self.inside.members.items = filter_same _ _ _ (λ x b f' k. search rules) _ _ c.retain.ensures.filtered in
    left_out c.args.conn c.args.self.now c.retain.new.self.items (sym c.bytes.ensures ∙ no_bytes c.bytes.result.now c.if-is_empty.ensures) (kept ∙ ap (filter (λ p. not (nat_eq p.conn c.args.conn))) c.self.view_is)
