use Rattle.std.proofs.Common.{◌+◌, ◌<◌, length, sym, arith}
use Rattle.event_text.proofs.Pieces.{not_closed, close_found, close_missing}
use Rattle.event_text.proofs.template.close_of.Goals as goal

pub returns-then-close-bytes-clause-close : goal.returns-then-close-bytes-clause-close
returns-then-close-bytes-clause-close c =
    let next = c.next_close.ensures.next in
    not_closed c.args.bytes.now c.args.at (sym c.if-not-opens_at.ensures.opens) (close_missing c.args.bytes.now (c.args.at + 2) (λ k low high. next.1 k low (omega (arith, high, c.if-close-bytes.true))))

pub returns-clause-close : goal.returns-clause-close
returns-clause-close c =
    let bytes = c.args.bytes.now in
    let next = c.next_close.ensures.next in
    let within : c.next_close.result < length bytes = omega (arith, next.0, c.if-close-bytes.false) in
    let closed = next.2 c.next_close.ensures.after within in
    record {
      opened = sym c.if-not-opens_at.ensures.opens;
      after = c.next_close.ensures.after;
      within = within;
      first = close_found bytes (c.args.at + 2) c.next_close.result c.next_close.ensures.after within next.1 closed;
      closed = closed;
    }
