-- When a line takes calls: what stands on its store, and what its configuration and its batches deliver to.
use Rattle.std.specs.Prelude.{◌≡◌, ◌<◌, ℕ, List, [], ◌∷◌, ◌++◌, length, map}
use Rattle.std.specs.List.{AllByRecursion}
use Rattle.io_traits.specs.declared.links.Links.{Ghosts as LinksWords}
use Rattle.io_traits.specs.declared.stores.Store.{Ghosts as StoreWords}
use Rattle.in_tcp.specs.Reads.{AllCame}
use Rattle.foreign_parts.specs.declared.place.Place.{Place}
use Rattle.foreign_parts.specs.declared.place.Place.TheVariants as place
use Rattle.built_plugins.specs.declared.output.Target.{Target}
use Rattle.line_inputs.specs.Positions.{AreReady}
use Rattle.line_inputs.specs.Rows.{Noted}
use Rattle.line_inputs.specs.Sources.{connections_of, files_of}
use Rattle.line_outputs.specs.BoxTables.{IsKnown}
use Rattle.line_outputs.specs.OpenFiles.{IsOutside}
use Rattle.line_outputs.specs.declared.boxes.BoxedOutput.{BoxedOutput}
use Rattle.line_folder.specs.FileNames.{input_slot}
use Rattle.line_folder.specs.Readiness.{IsFolderReady}
use Rattle.line_jobs.specs.declared.batch_result.DueDelivery.{DueDelivery}
use Rattle.graph_checks.specs.declared.drawn.Drawn.{Drawn}
use Rattle.line_jobs.specs.declared.job.Job.{Job}
use Rattle.line_core.specs.Jobs.{AreOut}
use Rattle.line_core.specs.Parts.{folder_of, path_of, inputs_of, batches_of, outgoing_of, boxes_of}
use Rattle.line_core.specs.declared.batches.BatchStage.{BatchStage}
use Rattle.line_core.specs.declared.batches.BatchStage.TheVariants as stage
use Rattle.line_core.specs.declared.batches.LineBatch.{LineBatch}
use Rattle.line_core.specs.declared.line.Line.{Line}
use Rattle.line_core.specs.declared.line.LineInput.{LineInput}

-- the files that inputs watch
abbrev pub watched_by : List LineInput → List Noted
watched_by [] = []
watched_by (i ∷ inputs) = files_of i.open.source ++ watched_by inputs

-- a file that is watched has its position file in the folder
abbrev pub IsRecordedIn : List ℕ → Noted → Type 0
IsRecordedIn folder n = (path : List ℕ) × (n.watched.slot ≡ input_slot folder path)

module _ {O : Type 0} (number : O → ℕ) (folder : List ℕ) (boxes : List (BoxedOutput O)) where
  -- a line in this folder, with these boxes, can deliver to a place
  abbrev pub PlaceFits : Place → Type 0
  PlaceFits place.Stdout = Unit {0}
  PlaceFits (place.File path) = IsOutside folder path
  PlaceFits (place.Address address) = Unit {0}
  PlaceFits (place.Foreign n) = IsKnown number n boxes
  PlaceFits place.Discard = Unit {0}
  PlaceFits place.Dead = Unit {0}

  abbrev pub TargetFits : Target → Type 0
  TargetFits t = PlaceFits t.place

  -- what is due has an event at least, and goes to such a place
  abbrev pub DueFits : DueDelivery → Type 0
  DueFits d = (0 < length d.events) × TargetFits d.target

  abbrev pub StageFits : BatchStage → Type 0
  StageFits stage.Away = Unit {0}
  StageFits (stage.Home left) = AllByRecursion DueFits left.due
  StageFits stage.Lost = Unit {0}

  abbrev pub BatchFits : LineBatch → Type 0
  BatchFits b = StageFits b.stage

module _ {S : Type 0} (store : StoreWords S) where
  -- the position files of all that inputs watch are ready, stand in the folder, and no two are one
  pub record InputsReady (folder : List ℕ) (inputs : List LineInput) (s : S) : Type 0 where
    pub files : AreReady store (watched_by inputs) s
    pub recorded : AllByRecursion (IsRecordedIn folder) (watched_by inputs)

-- the connections that inputs have open, input by input
abbrev pub connections_by : List LineInput → List (List ℕ)
connections_by inputs = map (λ (i : LineInput). connections_of i.open.source) inputs

module _ {L : Type 0} (links : LinksWords L) where
  -- all of them came
  abbrev pub HaveCome : List LineInput → L → Type 0
  HaveCome inputs n = AllByRecursion (AllCame (links.came n)) (connections_by inputs)

module _ {S F O : Type 0} (store : StoreWords S) where
  -- all that a line has on its store takes calls
  pub record IsReady (l : Line F O) (s : S) : Type 0 where
    pub folder : IsFolderReady store (folder_of l) s
    pub inputs : InputsReady store (path_of l) (inputs_of l) s

module _ {F O : Type 0} (number : O → ℕ) where
  -- a line can deliver to each target of its configuration, and what is due of each batch that is at home
  pub record CanDeliver (l : Line F O) : Type 0 where
    pub targets : AllByRecursion (TargetFits number (path_of l) (boxes_of l)) (outgoing_of l).outputs.targets
    pub batches : AllByRecursion (BatchFits number (path_of l) (boxes_of l)) (batches_of l)

module _ {F O : Type 0} where
  -- behind a call that neither gives nor takes a job: it has as many inputs, and its jobs are out as before
  pub record IsSame (old new : Line F O) : Type 0 where
    pub inputs : length (inputs_of new) ≡ length (inputs_of old)
    pub jobs : (out : List (Job (Drawn F))) → AreOut old out → AreOut new out
