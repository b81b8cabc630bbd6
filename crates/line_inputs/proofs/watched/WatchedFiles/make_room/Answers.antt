use Rattle.std.proofs.Common.{ap, ◌∙◌}
use Rattle.line_inputs.specs.Positions.{stored, stored_of}
use Rattle.line_inputs.specs.Rows.{Noted}
use Rattle.line_inputs.specs.Watching.{Watching}
use Rattle.line_inputs.proofs.Staying.{stored_set}
use Rattle.line_inputs.proofs.watched.WatchedFiles.make_room.Goals as goal

pub returns-clause-stored : goal.returns-clause-stored
returns-clause-stored c =
    let s = c.self.inside in
    stored_set s.files.items s.at c.index_mut.result.now c.make_room.new.self c.index_mut.ensures.value (ap (λ (n : Noted). stored_of n.watched) c.make_room.ensures.rest) ∙ ap (λ (w : Watching). stored w.files) c.self.view_is
