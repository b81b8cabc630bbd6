use Rattle.std.proofs.Common.{◌∙◌, ap}
use Rattle.std.proofs.lemmas.List.{length-set}
use Rattle.line_inputs.specs.Sources.{connections_of, files_of}
use Rattle.line_core.specs.declared.line.LineInput.{LineInput}
use Rattle.line_core.proofs.InputsTogether.{connections_set, watched_set}
use Rattle.line_core.proofs.summing.forget_inputs.Goals as goal

pub loop-at-preserved : goal.loop-at-preserved
loop-at-preserved c =
    let l = c.loop-at in
    let i = c.index_mut.result.now in
    let new = c.forget_refusal.new.self in
    record {
      files = watched_set l.inputs.items l.at i new c.index_mut.ensures.value (ap (λ (v : LineInput). files_of v.open.source) c.forget_refusal.ensures) ∙ l.invariant.files;
      connections = connections_set l.inputs.items l.at i new c.index_mut.ensures.value (ap (λ (v : LineInput). connections_of v.open.source) c.forget_refusal.ensures) ∙ l.invariant.connections;
      many = length-set l.inputs.items l.at new ∙ l.invariant.many;
    }
