use Rattle.std.proofs.Common.{◌≡◌, slice_index_or, ap, ◌∙◌}
use Rattle.std.specs.Prelude.{remove}
use Rattle.line_outputs.specs.BoxTables.{box_place}
use Rattle.line_outputs.proofs.box_table.BoxedOutputs.close.Goals as goal

pub returns : goal.returns
returns g c =
    let items = c.args.self.now.outputs.items in
    let e = c.close.ensures in
    let at : c.place_of-at.result ≡ box_place g.X.OutputCall.number c.args.number items = c.place_of-at.ensures ∙ ap (box_place g.X.OutputCall.number c.args.number) c.as_slice.ensures.value in
    record {
      before = c.remove.result;
      was = c.remove.ensures.value ∙ ap (λ m. slice_index_or items m c.remove.result) at;
      left = c.remove.ensures.items ∙ ap (remove items) at;
      same = e.number;
      holds = e.held;
      fails = e.faults;
      waits = e.laters;
      closed = e.closes;
    }
