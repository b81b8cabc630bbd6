use Rattle.line_core.specs.Parts.{boxes_of, path_of}
use Rattle.line_core.proofs.BatchesStay.{same_stages}
use Rattle.line_core.proofs.line.Line.begin_turn.Goals as goal

pub returns-clause-can : goal.returns-clause-can
returns-clause-can g c can =
    let l = c.args.self.now in
    record {
      targets = can.targets;
      batches = same_stages g.O.OutputCall.number (path_of l) (boxes_of l) l.batches.items c.forget_batches.new.batches.items c.forget_batches.ensures can.batches;
    }
