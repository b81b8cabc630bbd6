use Rattle.std.proofs.Common.{◌≡◌, ◌++◌, ◌∷◌, [], Ok, Err, sym, ap, ◌∙◌, arith, append-nil}
use Rattle.io_traits.specs.declared.links.Come.TheVariants.{Conn, NotYet, Ended}
use Rattle.in_tcp.specs.Asks.{come_in, over_or}
use Rattle.in_tcp.proofs.Asking.{answered}
use Rattle.in_tcp.proofs.polling.Connected.look.Goals as goal

pub returns-in-Ok-Conn-clause-looked : goal.returns-in-Ok-Conn-clause-looked
returns-in-Ok-Conn-clause-looked g c =
    let e = c.accept.ensures in
    let is : c.accept.result ≡ Ok (Conn c.in-Ok-Conn.conn) = c.in-Ok-Conn.is ∙ ap Ok c.in-Ok-Conn.field-0-is in
    answered g.L.Links c.args.host.now c.args.port c.args.self.now.connections.items _ c.args.links.now c.accept.new.self c.accept.result _ (omega (arith, c.if-len-ge-CONNECTION_LIMIT.false, c.len.ensures, c.args.self.now.connections.ok.0))
    e.place e.came e.coming e.end e.reads e.cause e.waits (c.push_reserved.ensures.items ∙ ap (λ l. l ++ c.in-Ok-Conn.conn ∷ []) c.reserve.ensures.items ∙ ap (λ r. c.args.self.now.connections.items ++ come_in r) (sym is)) (ap over_or (sym is))

pub returns-in-Ok-NotYet-clause-looked : goal.returns-in-Ok-NotYet-clause-looked
returns-in-Ok-NotYet-clause-looked g c =
    let e = c.accept.ensures in
    let is : c.accept.result ≡ Ok NotYet = c.in-Ok-NotYet.is ∙ ap Ok c.in-Ok-NotYet.field-0-is in
    answered g.L.Links c.args.host.now c.args.port c.args.self.now.connections.items _ c.args.links.now c.accept.new.self c.accept.result _ (omega (arith, c.if-len-ge-CONNECTION_LIMIT.false, c.len.ensures, c.args.self.now.connections.ok.0))
    e.place e.came e.coming e.end e.reads e.cause e.waits (c.reserve.ensures.items ∙ sym (append-nil c.args.self.now.connections.items) ∙ ap (λ r. c.args.self.now.connections.items ++ come_in r) (sym is)) (ap over_or (sym is))

pub returns-in-Ok-Ended-clause-looked : goal.returns-in-Ok-Ended-clause-looked
returns-in-Ok-Ended-clause-looked g c =
    let e = c.accept.ensures in
    let is : c.accept.result ≡ Ok Ended = c.in-Ok-Ended.is ∙ ap Ok c.in-Ok-Ended.field-0-is in
    answered g.L.Links c.args.host.now c.args.port c.args.self.now.connections.items _ c.args.links.now c.accept.new.self c.accept.result _ (omega (arith, c.if-len-ge-CONNECTION_LIMIT.false, c.len.ensures, c.args.self.now.connections.ok.0))
    e.place e.came e.coming e.end e.reads e.cause e.waits (c.reserve.ensures.items ∙ sym (append-nil c.args.self.now.connections.items) ∙ ap (λ r. c.args.self.now.connections.items ++ come_in r) (sym is)) (ap over_or (sym is))

pub returns-in-Err-clause-looked : goal.returns-in-Err-clause-looked
returns-in-Err-clause-looked g c =
    let e = c.accept.ensures in
    let is : c.accept.result ≡ Err c.in-Err.field-0 = c.in-Err.is in
    answered g.L.Links c.args.host.now c.args.port c.args.self.now.connections.items _ c.args.links.now c.accept.new.self c.accept.result _ (omega (arith, c.if-len-ge-CONNECTION_LIMIT.false, c.len.ensures, c.args.self.now.connections.ok.0))
    e.place e.came e.coming e.end e.reads e.cause e.waits (c.reserve.ensures.items ∙ sym (append-nil c.args.self.now.connections.items) ∙ ap (λ r. c.args.self.now.connections.items ++ come_in r) (sym is)) (ap over_or (sym is))
