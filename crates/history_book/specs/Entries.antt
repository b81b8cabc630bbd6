-- What a pipeline tells of its steps: one entry for each, in their order.
use Rattle.std.specs.Prelude.{ℕ, List, Option}
use Rattle.event_tree.specs.Events.{Ev}
use Rattle.event_tree.specs.declared.lists.DeadPart.{DeadPart}
use Rattle.config_tree.specs.declared.tree.Config.{Config}
use Rattle.settings_lines.specs.declared.settings.Policy.{Policy}
use Rattle.foreign_parts.specs.declared.filter.Verdict.{Verdict}
use Rattle.foreign_parts.specs.declared.output.Fate.{Fate}
use Rattle.foreign_parts.specs.declared.place.Place.{Place}
use Rattle.event_flow.specs.Places.{Draws}
use Rattle.queue_files.specs.Found.{Row}

-- a parcel: its place among those that its taker was given since the pipeline was last opened, and its number
pub record ParcelAt : Type 0 where
  pub place : ℕ
  pub number : ℕ

pub data Entry : Type 0 where
  -- an event came by an input, from a parcel or not, and was written to the queue as the row of this number
  Accept : (input : ℕ) (parcel : Option ParcelAt) (number : ℕ) (event : Ev) → Entry
  -- all rows up to this number are settled
  Mark : (front : ℕ) → Entry
  -- an input was told that its events up to this number are settled
  Assure : (input front : ℕ) → Entry
  -- a batch of these rows was read, to go by the configuration of this generation
  Read : (batch generation : ℕ) (numbers : List ℕ) → Entry
  -- it went through the filters, whose boxes gave these verdicts
  Back : (batch : ℕ) (verdicts : List Verdict) → Entry
  -- so many of the oldest segments of the dead letters leave, and of the letters that come next those at these places
  Shed : (batch older : ℕ) (newer : List ℕ) → Entry
  -- events were delivered to a place, which took or rejected each
  Deliver : (batch : ℕ) (at : Place) (events : List Ev) (fates : List Fate) → Entry
  -- letters were delivered to the dead letter queue
  Letters : (batch : ℕ) (letters : List DeadPart) → Entry
  -- the rows of a batch are acknowledged
  Ack : (batch : ℕ) → Entry
  -- a page of the queue was removed
  Purge : (page : ℕ) → Entry
  -- from now on batches go by this configuration
  Adopt : (generation : ℕ) (config : Config) (draws : Draws) → Entry
  -- the pipeline was opened: its queue held these rows, and this is what its dead letter queue may hold
  Opened : (rows : List Row) (limit : ℕ) (policy : Policy) → Entry
