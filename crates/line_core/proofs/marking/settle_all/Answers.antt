use Rattle.std.proofs.Common.{ap, ◌∙◌}
use Rattle.std.proofs.lemmas.List.{length-set}
use Rattle.line_inputs.specs.Inputs.{InputView}
use Rattle.line_inputs.specs.Sources.{connections_of, files_of}
use Rattle.line_core.proofs.InputsTogether.{connections_set, watched_set}
use Rattle.line_core.proofs.marking.settle_all.Goals as goal

pub loop-at-preserved : goal.loop-at-preserved
loop-at-preserved c =
    let l = c.loop-at in
    let i = c.index_mut.result.now in
    let new = c.settle_rows.new.self in
    record {
      files = watched_set l.inputs.items l.at i new c.index_mut.ensures.value (ap (λ (v : InputView). files_of v.source) c.settle_rows.ensures) ∙ l.invariant.files;
      connections = connections_set l.inputs.items l.at i new c.index_mut.ensures.value (ap (λ (v : InputView). connections_of v.source) c.settle_rows.ensures) ∙ l.invariant.connections;
      many = length-set l.inputs.items l.at new ∙ l.invariant.many;
    }
