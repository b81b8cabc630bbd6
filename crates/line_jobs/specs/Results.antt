-- What a job gives.
use Rattle.std.specs.Prelude.{◌≡◌, List, IfOk}
use Rattle.event_tree.specs.Events.{Ev}
use Rattle.config_tree.specs.declared.tree.Config.{Config}
use Rattle.foreign_parts.specs.declared.filter.Verdict.{Verdict}
use Rattle.event_flow.specs.Laying.{AreStepsOf, IsTableOf}
use Rattle.event_flow.specs.Places.{Draws}
use Rattle.built_plugins.specs.Makes.{makes}
use Rattle.plugin_graph.specs.Graphs.{boxes_in, built_in, contents_of, steps_in}
use Rattle.plugin_graph.specs.Kits.{MayAt, table_of}
use Rattle.plugin_graph.specs.Passages.{IsPassageOf}
use Rattle.plugin_graph.specs.declared.graph.Graph.{Graph}
use Rattle.plugin_graph.specs.declared.kit.Kit.{Kit}
use Rattle.plugin_graph.specs.declared.passage.Passage.{Passage}
use Rattle.graph_checks.specs.declared.planned.PlannedOutputs.{PlannedOutputs}
use Rattle.line_jobs.specs.Deliveries.{deliveries_of}
use Rattle.line_jobs.specs.declared.batch_result.BatchResult.{BatchResult}
use Rattle.line_jobs.specs.declared.job.Job.{Job}
use Rattle.line_jobs.specs.declared.job.JobDone.{JobDone}

-- the result of what came of a batch: its dead, its verdicts, and what is due of the events that are sent
abbrev pub result_of : PlannedOutputs → Passage → BatchResult
result_of outgoing p = record { dead = p.dead; verdicts = p.verdicts; due = deliveries_of outgoing p.sent }

module _ {X : Type 0} (may : X → Ev → Verdict → Type 0) where
  -- The result of a batch by a graph and a kit: of what came of it by any configuration that both are of.
  pub record IsResultOf (graph : Graph) (kit : Kit X) (outgoing : PlannedOutputs) (es : List Ev) (r : BatchResult) : Type 0 where
    pub passage : Passage
    pub came : (config : Config) (draws : Draws) → AreStepsOf config (steps_in graph) → IsTableOf makes config draws (table_of (contents_of kit))
        → IsPassageOf (MayAt may (boxes_in kit)) makes config draws es passage
    pub is : r ≡ result_of outgoing passage

  -- The kit comes home as it went, with the job's own numbers, and where there was memory with the result of its events.
  pub record IsDone (job : Job X) (done : JobDone X) : Type 0 where
    pub line : done.line ≡ job.line
    pub batch : done.batch ≡ job.batch
    pub generation : done.generation ≡ job.generation
    pub table : table_of (contents_of done.kit) ≡ table_of (contents_of job.kit)
    pub boxes : boxes_in done.kit ≡ boxes_in job.kit
    pub built : built_in done.kit ≡ built_in job.kit
    pub result : IfOk done.result (IsResultOf job.graph job.kit job.outgoing job.events)
