use Rattle.std.specs.Vec.{with_item}
use Rattle.std.proofs.Common.{Result, Ok, Err, OnOk}
use Rattle.line_core.specs.Batches.{nothing_left}
use Rattle.line_core.specs.Parts.{boxes_of, path_of}
use Rattle.line_core.specs.declared.line.Line.{Line}
use Rattle.line_core.proofs.LineStays.{can_behind, can_with, due_behind, given_fits, same_line, same_rest}
use Rattle.line_core.proofs.line.Line.deliver_one.Goals as goal

on_ok : {T E P : Type 0} (r : Result T E) → P → OnOk r P
on_ok (Ok x) p = p
on_ok (Err f) p = tt

pub returns-clause-can : goal.returns-clause-can
returns-clause-can g c =
    let number = g.O.OutputCall.number in
    let e = c.deliver_first-delivered.ensures in
    let at = c.place_of-at.result in
    let start : Line g.row.F.Denot g.row.O.Denot = c.args.self.now in
    let taken : Line g.row.F.Denot g.row.O.Denot = record start { batches = with_item start.batches at c.take_left-left.new.self } in
    let behind : Line g.row.F.Denot g.row.O.Denot = c.deliver_first-delivered.new.self in
    let left = c.deliver_first-delivered.new.left in
    on_ok c.deliver_first-delivered.result
    (can_with number behind at (record c.put_left.new.self { refused = c.is_refused-of.result })
    (can_behind number taken behind e.changes
    (can_with number start at c.take_left-left.new.self c.requires.can
    (given_fits number (path_of start) (boxes_of start) c.index_mut.result.now c.take_left-left.new.self nothing_left c.take_left-left.ensures.stage tt)))
    (given_fits number (path_of behind) (boxes_of behind) c.index_mut-of.result.now c.put_left.new.self left c.put_left.ensures
    (due_behind number taken behind e.changes left e.fits)))

pub returns-clause-same : goal.returns-clause-same
returns-clause-same g c =
    let start : Line g.row.F.Denot g.row.O.Denot = c.args.self.now in
    let taken : Line g.row.F.Denot g.row.O.Denot = record start { batches = with_item start.batches c.place_of-at.result c.take_left-left.new.self } in
    let rest = same_rest g.O.OutputCall.number taken c.deliver_first-delivered.new.self c.deliver_first-delivered.ensures.changes in
    same_line start _ rest.0 rest.1
