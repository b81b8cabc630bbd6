use Rattle.std.proofs.Common.{ap, ◌∙◌}
use Rattle.line_inputs.specs.Positions.{stored}
use Rattle.line_inputs.specs.Watching.{Watching}
use Rattle.line_inputs.proofs.Staying.{stored_set}
use Rattle.line_inputs.proofs.watched.WatchedFiles.poll_at.Goals as goal

pub returns-clause-stored : goal.returns-clause-stored
returns-clause-stored g c =
    let s = c.self.inside in
    stored_set s.files.items c.args.place c.index_mut.result.now c.poll.new.self c.index_mut.ensures.value c.poll.ensures.stored ∙ ap (λ (w : Watching). stored w.files) c.self.view_is
