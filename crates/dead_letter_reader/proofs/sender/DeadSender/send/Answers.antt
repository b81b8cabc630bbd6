use Rattle.std.proofs.Common.{◌≡◌, length, Ok, sym, ap, ◌∙◌, arith}
use Rattle.dead_letter_reader.specs.Steps as step
use Rattle.dead_letter_reader.proofs.sender.DeadSender.send.Goals as goal

pub returns-then-self-len-clause-pushes : goal.returns-then-self-len-clause-pushes
returns-then-self-len-clause-pushes c =
    let sent = c.in_ok-send_next.ensures.sent in
    step.pushes sent.0 (omega (arith, c.if-self-len.true, c.len.ensures)) sent.1 (ap Ok sent.2)

pub returns-clause-pushes : goal.returns-clause-pushes
returns-clause-pushes c =
    let sent = c.in_ok-send_last.ensures.sent in
    let all : c.args.self.now.done ≡ length c.args.self.now.rows = omega (arith, c.if-self-len.false, c.len.ensures, c.requires.none, c.requires.sending.within) in
    step.ends sent.0 all (sym c.args.self.now.end ∙ c.if-self.false) sent.1 (ap Ok sent.2)
