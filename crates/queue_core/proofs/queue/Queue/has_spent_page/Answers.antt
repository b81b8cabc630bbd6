use Rattle.std.proofs.Common.{ap, ◌∙◌, List}
use Rattle.std.specs.Prelude.{is_some}
use Rattle.queue_core.specs.Calls.{first_spent, spent_from}
use Rattle.queue_core.specs.Views.{OpenPageView, QueueView}
use Rattle.queue_core.proofs.PurgeRuns.{some_goes}
use Rattle.queue_core.proofs.queue.Queue.has_spent_page.Goals as goal

pub returns : goal.returns
returns c = c.is_some.ensures ∙ ap is_some c.first_spent.ensures ∙ ap (λ (l : List OpenPageView). is_some (spent_from 0 l)) c.as_slice.ensures.value ∙ some_goes 0 c.self.inside.tails.items ∙ ap (λ (v : QueueView). is_some (first_spent v.tails)) c.self.view_is
