-- The parts of a line, by which its contracts speak of it.
use Rattle.std.specs.Prelude.{ℕ, List}
use Rattle.plugin_graph.specs.declared.kit.Kit.{Kit}
use Rattle.graph_checks.specs.declared.drawn.Drawn.{Drawn}
use Rattle.graph_checks.specs.declared.planned.PlannedOutputs.{PlannedOutputs}
use Rattle.queue_core.specs.Views.{QueueView}
use Rattle.dead_letters.specs.Views.{DeadQueue}
use Rattle.line_outputs.specs.declared.boxes.BoxedOutput.{BoxedOutput}
use Rattle.line_folder.specs.declared.folder.LineFolder.{LineFolder}
use Rattle.line_jobs.specs.Homes.{kits_of, size_of}
use Rattle.line_core.specs.declared.batches.LineBatch.{LineBatch}
use Rattle.line_core.specs.declared.line.Line.{Line}
use Rattle.line_core.specs.declared.line.LineInput.{LineInput}

module _ {F O : Type 0} where
  -- what stands in its folder
  abbrev pub folder_of : Line F O → LineFolder
  folder_of l = l.folder

  abbrev pub queue_of : Line F O → QueueView
  queue_of l = l.folder.queue

  abbrev pub letters_of : Line F O → DeadQueue
  letters_of l = l.folder.outputs.letters

  -- the path of the folder, which ends with a slash
  abbrev pub path_of : Line F O → List ℕ
  path_of l = l.folder.queue.folder

  abbrev pub inputs_of : Line F O → List LineInput
  inputs_of l = l.inputs.items

  -- the batches that aren't acknowledged, the oldest first
  abbrev pub batches_of : Line F O → List LineBatch
  batches_of l = l.batches.items

  -- the outputs of its configuration
  abbrev pub outgoing_of : Line F O → PlannedOutputs
  outgoing_of l = l.generation.outgoing

  abbrev pub boxes_of : Line F O → List (BoxedOutput O)
  boxes_of l = l.boxes.outputs.items

  -- the kits that are at home, and how many there are
  abbrev pub home_of : Line F O → List (Kit (Drawn F))
  home_of l = kits_of l.generation.kits

  abbrev pub kit_count : Line F O → ℕ
  kit_count l = size_of l.generation.kits
