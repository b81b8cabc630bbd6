use Rattle.std.proofs.Common.{rules, sym}
use Rattle.line_core.specs.Parts.{boxes_of, path_of}
use Rattle.line_core.specs.Readiness.{DueFits}
use Rattle.line_core.proofs.EachOf.{first_of, none_first}
use Rattle.line_core.proofs.line.Line.deliver_first.Goals as goal

pub returns-in_default-clause-answers : goal.returns-in_default-clause-answers
returns-in_default-clause-answers g c = (search rules, none_first c.args.left.now.due (sym c.in_default.ensures))

pub deliver-delivered-requires-clause-fits : goal.deliver-delivered-requires-clause-fits
deliver-delivered-requires-clause-fits g c =
    first_of (DueFits g.O.OutputCall.number (path_of c.args.self.now) (boxes_of c.args.self.now))
    c.args.left.now.due c.in-Some.due.now (sym c.in-Some.ensures) c.requires.fits
