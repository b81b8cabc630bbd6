use Rattle.out_bulk.specs.Settings.{target_of}
use Rattle.out_bulk.specs.Written.{IsKeptLine}
use Rattle.out_bulk.proofs.RequestRuns.{SentSoFar}
use Rattle.out_bulk.proofs.request.add_events.Given as goal

abbrev pub invariant-loop-place : goal.invariant-loop-place
invariant-loop-place l = record {
  sent : SentSoFar (target_of l.settings) l.events l.settled l.place l.fn.to.items l.to.items l.count;
  kept : IsKeptLine (target_of l.settings) l.action;
}
