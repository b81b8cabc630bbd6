use Rattle.std.proofs.Common.{sym, ap, ◌∙◌, subst, arith}
use Rattle.in_file.specs.Looks.{WasPolled}
use Rattle.in_file.specs.Views.{Watched}
use Rattle.in_file.proofs.Polling.{stood_so}
use Rattle.in_file.proofs.input.FileInput.read_once.Goals as goal

pub returns-clause-polled : goal.returns-clause-polled
returns-clause-polled g c =
    subst (λ v. WasPolled g.F.Files c.args.moment c.args.files.now c.args.files.now c.args.self.now v) (sym c.looks.ensures.same)
    (stood_so g.F.Files c.args.moment c.args.files.now c.args.self.now (omega (arith, c.looks.ensures.limit, ap (λ (v : Watched). v.unread.limit) c.looks.ensures.same)) (sym c.looks.ensures.looks ∙ c.if-looks.false))
