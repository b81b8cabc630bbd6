use Rattle.std.proofs.Common.{length, ap, ◌∙◌}
use Rattle.line_core.specs.Causes.{BoxRose, LettersAreFull}
use Rattle.line_core.specs.Deliveries.{no_grounds}
use Rattle.line_core.specs.Parts.{boxes_of, letters_of}
use Rattle.line_core.proofs.BoxesStay.{failed_rose, fates_of, known_still, later_rose, numbers_stay}
use Rattle.line_core.proofs.Delivered.{boxes_changed, output_failed, then_folder}
use Rattle.line_core.proofs.line.Line.deliver_boxed.Goals as goal

pub tell_fates-requires-clause-known : goal.tell_fates-requires-clause-known
tell_fates-requires-clause-known g c =
    let o = g.O.OutputCall in
    known_still o.number (boxes_of c.args.self.now) c.deliver.new.self.outputs.items
    (numbers_stay c.deliver.ensures)
    c.args.number c.requires.known

pub tell_fates-requires-clause-each : goal.tell_fates-requires-clause-each
tell_fates-requires-clause-each g c =
    let o = g.O.OutputCall in
    ap length c.as_slice-in-Ok-Took.ensures
    ∙ c.fates_are_as_many_as_events.ensures c.in-Ok-Took.fates c.as_slice.result.now
    (fates_of c.deliver.ensures
    c.in-Ok-Took.fates c.in-Ok-Took.field-0 c.in-Ok-Took.is c.in-Ok-Took.field-0-is)
    ∙ ap length c.as_slice.ensures

pub returns-in-Ok-Took-clause-changes : goal.returns-in-Ok-Took-clause-changes
returns-in-Ok-Took-clause-changes g c =
    let o = g.O.OutputCall in
    then_folder o.number c.args.self.now c.deliver.new.self
    (numbers_stay c.deliver.ensures)
    c.tell_fates.new.self c.tell_fates.ensures.changes

pub returns-in-Ok-Later-clause-changes : goal.returns-in-Ok-Later-clause-changes
returns-in-Ok-Later-clause-changes g c =
    let o = g.O.OutputCall in
    boxes_changed o.number c.args.self.now c.deliver.new.self
    (numbers_stay c.deliver.ensures)

pub returns-in-Ok-Later-clause-answers : goal.returns-in-Ok-Later-clause-answers
returns-in-Ok-Later-clause-answers g c =
    let o = g.O.OutputCall in
    later_rose c.deliver.ensures
    c.requires.known c.in-Ok-Later.field-0 c.in-Ok-Later.is c.in-Ok-Later.field-0-is

pub returns-in-Err-Failed-clause-changes : goal.returns-in-Err-Failed-clause-changes
returns-in-Err-Failed-clause-changes g c =
    let o = g.O.OutputCall in
    boxes_changed o.number c.args.self.now c.deliver.new.self
    (numbers_stay c.deliver.ensures)

pub returns-in-Err-Failed-clause-answers : goal.returns-in-Err-Failed-clause-answers
returns-in-Err-Failed-clause-answers g c =
    let o = g.O.OutputCall in
    output_failed
    (record no_grounds {
      later = BoxRose o.laters (boxes_of c.args.self.now) c.deliver.new.self.outputs.items;
      failed = BoxRose o.faults (boxes_of c.args.self.now) c.deliver.new.self.outputs.items;
      full = LettersAreFull (letters_of c.args.self.now);
      lost = Unit {0};
    })
    (failed_rose c.deliver.ensures
    c.requires.known c.in-Err-Failed.field-0 c.in-Err-Failed.is c.in-Err-Failed.field-0-is)
    c.output_fault.result c.output_fault.ensures

pub returns-in-Err-Memory-clause-changes : goal.returns-in-Err-Memory-clause-changes
returns-in-Err-Memory-clause-changes g c =
    let o = g.O.OutputCall in
    boxes_changed o.number c.args.self.now c.deliver.new.self
    (numbers_stay c.deliver.ensures)
