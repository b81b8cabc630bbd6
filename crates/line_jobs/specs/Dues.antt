-- What is due of a batch, and the deliveries of its result.
use Rattle.std.specs.Prelude.{◌≡◌, List, ◌++◌, map}
use Rattle.event_tree.specs.Events.{Ev}
use Rattle.config_tree.specs.declared.tree.Config.{Config}
use Rattle.foreign_parts.specs.declared.filter.Verdict.{Verdict}
use Rattle.event_flow.specs.Meaning.{Due, Events, dead_in, derive_each, due, some_letters}
use Rattle.event_flow.specs.Places.{Draws}
use Rattle.built_plugins.specs.Makes.{makes}
use Rattle.line_jobs.specs.declared.batch_result.DueDelivery.{DueDelivery}

-- a delivery of a result, as one that is due
abbrev pub as_due : DueDelivery → Due
as_due d = Events d.target.output d.target.place d.events

-- the letters of a batch's dead, and behind them these deliveries, are what is due of the batch
abbrev pub IsWhatIsDue : Config → Draws → List Ev → List Verdict → List DueDelivery → Type 0
IsWhatIsDue config draws es verdicts ds = some_letters (dead_in (derive_each makes config draws es verdicts)) ++ map as_due ds ≡ due makes config draws es verdicts
