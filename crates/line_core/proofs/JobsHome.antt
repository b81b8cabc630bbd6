-- What is due of a batch fits where each target of its outputs does, and what comes home of the jobs that are out.
use Rattle.std.proofs.Common.{◌≡◌, ◌+◌, ℕ, suc, List, [], ◌∷◌, ◌++◌, length, Result, Ok, Err, IfOk, sym, ap, ◌∙◌, subst, arith}
use Rattle.std.specs.List.{AllByRecursion}
use Rattle.std.specs.declared.alloc.AllocError.{AllocError}
use Rattle.std.proofs.lemmas.List.{length-append}
use Rattle.event_tree.specs.Events.{Ev}
use Rattle.batch_shop.specs.Jobs.{ComesHome, IsAdded}
use Rattle.foreign_parts.specs.declared.filter.Verdict.{Verdict}
use Rattle.built_plugins.specs.declared.output.Target.{Target}
use Rattle.plugin_graph.specs.declared.graph.Graph.{Graph}
use Rattle.plugin_graph.specs.declared.kit.Kit.{Kit}
use Rattle.plugin_graph.specs.declared.passage.Sent.{Sent}
use Rattle.graph_checks.specs.declared.drawn.Drawn.{Drawn}
use Rattle.graph_checks.specs.declared.planned.PlannedOutputs.{PlannedOutputs}
use Rattle.line_outputs.specs.declared.boxes.BoxedOutput.{BoxedOutput}
use Rattle.line_jobs.specs.Deliveries.{deliveries_to, delivery, events_to, sent_elsewhere}
use Rattle.line_jobs.specs.Results.{IsDone, IsResultOf}
use Rattle.line_jobs.specs.declared.batch_result.BatchResult.{BatchResult}
use Rattle.line_jobs.specs.declared.job.Job.{Job}
use Rattle.line_jobs.specs.declared.job.JobDone.{JobDone}
use Rattle.line_core.specs.Jobs.{AreOthers, AreOut, IsDueBy, IsJobOf, IsResult}
use Rattle.line_core.specs.Parts.{home_of, kit_count, outgoing_of}
use Rattle.line_core.specs.Readiness.{DueFits, TargetFits}
use Rattle.line_core.specs.declared.line.Line.{Line}
use Rattle.line_core.proofs.EachOf.{each_between, each_but, each_joined, middle_of}

-- ---- what is due

module _ {O : Type 0} (number : O → ℕ) (folder : List ℕ) (boxes : List (BoxedOutput O)) (outgoing : PlannedOutputs) where
  pub dues_fit : (ts : List Target) (sent : List Sent) → AllByRecursion (TargetFits number folder boxes) ts → AllByRecursion (DueFits number folder boxes) (deliveries_to outgoing ts sent)
  dues_fit [] sent all = tt
  dues_fit (t ∷ ts) sent all = each_joined (DueFits number folder boxes) (delivery outgoing t (events_to t sent)) (deliveries_to outgoing ts (sent_elsewhere t sent)) (one (events_to t sent)) (dues_fit ts (sent_elsewhere t sent) all.1) where
    one : (es : List Ev) → AllByRecursion (DueFits number folder boxes) (delivery outgoing t es)
    one [] = tt
    one (e ∷ es) = ((omega (arith), all.0), tt)

  -- what comes home of a batch
  pub result_fits : (made : BatchResult) (result : Result BatchResult AllocError) → result ≡ Ok made → IfOk result (IsDueBy outgoing) → AllByRecursion (TargetFits number folder boxes) outgoing.outputs.targets
      → AllByRecursion (DueFits number folder boxes) made.due
  result_fits made result is due all =
      let by : IsDueBy outgoing made = subst (λ r. IfOk r (IsDueBy outgoing)) is due in
      subst (AllByRecursion (DueFits number folder boxes)) (sym by.1) (dues_fit outgoing.outputs.targets by.0 all)

-- ---- what comes home

module _ {F O : Type 0} (may : Drawn F → Ev → Verdict → Type 0) (l : Line F O) where
  due_by : (outgoing : PlannedOutputs) → outgoing ≡ outgoing_of l → (graph : Graph) (kit : Kit (Drawn F)) (es : List Ev) (result : Result BatchResult AllocError)
      → IfOk result (IsResultOf may graph kit outgoing es) → IfOk result (IsDueBy (outgoing_of l))
  due_by outgoing is graph kit es (Ok r) made = (made.passage.sent, ap (λ (m : BatchResult). m.due) made.is ∙ ap (λ o. deliveries_to o o.outputs.targets made.passage.sent) is)
  due_by outgoing is graph kit es (Err e) made = tt

  pub come_home : (out left : List (Job (Drawn F))) (done : JobDone (Drawn F)) → AreOut l out → ComesHome (IsDone may) out left done → IsResult l done × AreOthers l left
  come_home out left done are home =
      let added = home.leaves in
      let each : AllByRecursion (IsJobOf l) (added.before ++ home.job ∷ added.behind) = subst (AllByRecursion (IsJobOf l)) added.is are.each in
      let more : length out ≡ length added.before + suc (length added.behind) = ap length added.is ∙ length-append added.before (home.job ∷ added.behind) in
      let fewer : length left ≡ length added.before + length added.behind = ap length added.was ∙ length-append added.before added.behind in (
        record {
          due = due_by home.job.outgoing (middle_of (IsJobOf l) added.before added.behind home.job each) home.job.graph home.job.kit home.job.events done.result home.result.result;
          room = omega (arith, are.room, more);
        },
        record {
          each = subst (AllByRecursion (IsJobOf l)) (sym added.was) (each_but (IsJobOf l) added.before added.behind home.job each);
          room = omega (arith, are.room, more, fewer);
        },
      )

-- ---- what goes out

module _ {F O : Type 0} (l : Line F O) where
  -- a job is out, and its kit with it
  pub goes_out : (new : Line F O) (job : Job (Drawn F)) (kit : Kit (Drawn F)) (home : List (Kit (Drawn F))) (out more : List (Job (Drawn F))) → AreOut l out → job.outgoing ≡ outgoing_of l
      → home_of l ≡ home ++ kit ∷ [] → home_of new ≡ home → kit_count new ≡ kit_count l → outgoing_of new ≡ outgoing_of l → IsAdded job out more → AreOut new more
  goes_out new job kit home out more are is taken left count same added =
      let before : AllByRecursion (IsJobOf l) (added.before ++ added.behind) = subst (AllByRecursion (IsJobOf l)) added.was are.each in
      let each : AllByRecursion (IsJobOf l) more = subst (AllByRecursion (IsJobOf l)) (sym added.is) (each_between (IsJobOf l) added.before added.behind job before is) in
      let longer : length more ≡ length added.before + suc (length added.behind) = ap length added.is ∙ length-append added.before (job ∷ added.behind) in
      let was : length out ≡ length added.before + length added.behind = ap length added.was ∙ length-append added.before added.behind in
      let kits : length (home_of l) ≡ length home + 1 = ap length taken ∙ length-append home (kit ∷ []) in
      let fewer : length (home_of new) ≡ length home = ap length left in
      record {
        each = subst (λ o. AllByRecursion (λ (j : Job (Drawn F)). j.outgoing ≡ o) more) (sym same) each;
        room = omega (arith, are.room, longer, was, kits, fewer, count);
      }

  -- none is, since its kit came back
  pub stays_home : (new : Line F O) (kit : Kit (Drawn F)) (home : List (Kit (Drawn F))) (out : List (Job (Drawn F))) → AreOut l out → home_of l ≡ home ++ kit ∷ []
      → length (home_of new) ≡ suc (length home) → kit_count new ≡ kit_count l → outgoing_of new ≡ outgoing_of l → AreOut new out
  stays_home new kit home out are taken back count same =
      let kits : length (home_of l) ≡ length home + 1 = ap length taken ∙ length-append home (kit ∷ []) in
      record {
        each = subst (λ o. AllByRecursion (λ (j : Job (Drawn F)). j.outgoing ≡ o) out) (sym same) are.each;
        room = omega (arith, are.room, kits, back, count);
      }
