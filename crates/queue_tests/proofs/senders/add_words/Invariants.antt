use Rattle.std.proofs.Common.{◌≡◌, length}
use Rattle.pipeline_bus.specs.Ends.{taking}
use Rattle.dead_letter_reader.specs.Ready.{IsReady}
use Rattle.dead_letter_reader.specs.Work.{work}
use Rattle.queue_tests.proofs.senders.add_words.Given as goal

abbrev pub invariant-loop-word : goal.invariant-loop-word
invariant-loop-word g l = record {
  ready : IsReady g.S.Store (work l.reader) l.store;
  given : length (taking l.taker).given ≡ l.given;
}
