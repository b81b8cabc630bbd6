use Rattle.std.proofs.Common.{◌≡◌, slice_index_or, slice_set, ap, ◌∙◌}
use Rattle.line_outputs.specs.BoxTables.{box_place}
use Rattle.line_outputs.proofs.box_table.BoxedOutputs.deliver.Goals as goal

pub returns : goal.returns
returns g c =
    let items = c.args.self.now.outputs.items in
    let e = c.deliver.ensures in
    let at : c.place_of-at.result ≡ box_place g.X.OutputCall.number c.args.number items = c.place_of-at.ensures ∙ ap (box_place g.X.OutputCall.number c.args.number) c.as_slice.ensures.value in
    record {
      before = c.index_mut.result.now;
      after = c.deliver.new.self;
      was = c.index_mut.ensures.value ∙ ap (λ m. slice_index_or items m c.index_mut.result.now) at;
      now = ap (λ m. slice_set items m c.deliver.new.self) at;
      kind = e.names.0;
      id = e.names.1;
      same = e.number;
      holds = e.held;
      fails = e.faults;
      waits = e.laters;
      open_still = e.closes;
    }
