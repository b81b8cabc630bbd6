use Rattle.std.proofs.Common.{sym, ap, ◌∙◌, subst, arith}
use Rattle.in_file.specs.Streams.{Stream, WasPolled}
use Rattle.in_file.proofs.Streaming.{stood_so}
use Rattle.in_file.proofs.stdin.StdinInput.read_once.Goals as goal

pub returns-clause-polled : goal.returns-clause-polled
returns-clause-polled g c =
    subst (λ v. WasPolled g.I.Source c.args.moment c.args.source.now c.args.source.now c.args.self.now v) (sym c.looks.ensures.same)
    (stood_so g.I.Source c.args.moment c.args.source.now c.args.self.now (omega (arith, c.looks.ensures.limit, ap (λ (v : Stream). v.unread.limit) c.looks.ensures.same)) (sym c.looks.ensures.looks ∙ c.if-looks.false))
