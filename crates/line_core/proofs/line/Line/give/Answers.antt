use Rattle.std.proofs.Common.{◌∙◌, ap, sym, subst}
use Rattle.line_jobs.specs.Homes.{kits_of}
use Rattle.line_core.specs.Jobs.{AreOut}
use Rattle.line_core.specs.Parts.{home_of, kit_count, outgoing_of}
use Rattle.line_core.proofs.JobsHome.{goes_out, stays_home}
use Rattle.line_core.proofs.line.Line.give.Goals as goal

pub returns-in-None-clause-out : goal.returns-in-None-clause-out
returns-in-None-clause-out g c =
    let rest = c.note_read.ensures.rest in
    let took = c.in-Some.ensures in
    goes_out c.args.self.now c.note_read.new.self _ c.in-Some.kit (kits_of c.take.new.self) (g.W.Shop.out c.args.shop.now) (g.W.Shop.out c.give.new.self)
    c.requires.out c.requires.outgoing took.taken (ap home_of rest) (ap kit_count rest ∙ took.size) (ap outgoing_of rest) c.in-None.ensures.given

pub returns-in-Some-give-clause-out : goal.returns-in-Some-give-clause-out
returns-in-Some-give-clause-out g c =
    let kept = c.keep.ensures in
    let took = c.in-Some.ensures in
    subst (AreOut c.keep.new.self) (sym c.in-Some-give.ensures.back.1)
    (stays_home c.args.self.now c.keep.new.self c.in-Some.kit (kits_of c.take.new.self) (g.W.Shop.out c.args.shop.now)
    c.requires.out took.taken kept.home (kept.kits ∙ took.size) kept.outgoing)
