-- The jobs of a line that are out, and their results.
use Rattle.std.specs.Prelude.{◌≡◌, ◌≤◌, ◌<◌, ◌+◌, suc, List, length, IfOk}
use Rattle.std.specs.List.{AllByRecursion}
use Rattle.plugin_graph.specs.declared.passage.Sent.{Sent}
use Rattle.graph_checks.specs.declared.drawn.Drawn.{Drawn}
use Rattle.graph_checks.specs.declared.planned.PlannedOutputs.{PlannedOutputs}
use Rattle.batch_shop.specs.Jobs.{ComesHome}
use Rattle.event_tree.specs.Events.{Ev}
use Rattle.foreign_parts.specs.declared.filter.Verdict.{Verdict}
use Rattle.line_jobs.specs.Deliveries.{deliveries_of}
use Rattle.line_jobs.specs.Results.{IsDone}
use Rattle.line_jobs.specs.declared.batch_result.BatchResult.{BatchResult}
use Rattle.line_jobs.specs.declared.job.Job.{Job}
use Rattle.line_jobs.specs.declared.job.JobDone.{JobDone}
use Rattle.line_core.specs.Parts.{home_of, kit_count, outgoing_of}
use Rattle.line_core.specs.declared.line.Line.{Line}

-- what is due is what these outputs deliver of something that was sent
abbrev pub IsDueBy : PlannedOutputs → BatchResult → Type 0
IsDueBy outgoing made = (sent : List Sent) × (made.due ≡ deliveries_of outgoing sent)

module _ {F O : Type 0} where
  abbrev pub IsJobOf : Line F O → Job (Drawn F) → Type 0
  IsJobOf l j = j.outgoing ≡ outgoing_of l

  -- these jobs of a line are out, and so is a kit for each
  pub record AreOut (l : Line F O) (jobs : List (Job (Drawn F))) : Type 0 where
    pub each : AllByRecursion (IsJobOf l) jobs
    pub room : length (home_of l) + length jobs ≤ kit_count l

  -- the same of all jobs but one
  pub record AreOthers (l : Line F O) (jobs : List (Job (Drawn F))) : Type 0 where
    pub each : AllByRecursion (IsJobOf l) jobs
    pub room : suc (length (home_of l)) + length jobs ≤ kit_count l

  -- a result of that one
  pub record IsResult (l : Line F O) (done : JobDone (Drawn F)) : Type 0 where
    pub due : IfOk done.result (IsDueBy (outgoing_of l))
    pub room : length (home_of l) < kit_count l

-- ---- laws

-- what comes home of the jobs of a line that are out is a result of one of them, and the others are left
abbrev pub ResultsComeHome : (F O : Type 0) → (Drawn F → Ev → Verdict → Type 0) → Type 0
ResultsComeHome F O may =
    (l : Line F O) (out left : List (Job (Drawn F))) (done : JobDone (Drawn F)) → AreOut l out → ComesHome (IsDone may) out left done
    → IsResult l done × AreOthers l left
