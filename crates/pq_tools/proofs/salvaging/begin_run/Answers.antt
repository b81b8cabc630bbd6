use Rattle.std.proofs.Common.{sym, ◌∙◌}
use Rattle.io_traits.specs.Reads.{bytes_of}
use Rattle.pq_tools.proofs.RunSteps.{no_page}
use Rattle.pq_tools.proofs.salvaging.begin_run.Goals as goal

pub returns-in-None-clause-rows : goal.returns-in-None-clause-rows
returns-in-None-clause-rows g c told = no_page (bytes_of (g.S.Store.seen c.args.store.now c.args.name.now)) (sym (c.in_ok-page.ensures.page told) ∙ c.in-None.is)
