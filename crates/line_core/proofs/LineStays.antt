-- What can be delivered and which jobs are out of a line, behind a delivery and behind a change of one of its batches.
use Rattle.std.specs.Prelude.{◌≤◌}
use Rattle.std.specs.Vec.{with_item}
use Rattle.std.proofs.Common.{◌≡◌, ℕ, ◌+◌, List, length, sym, ap, subst}
use Rattle.std.specs.List.{AllByRecursion}
use Rattle.graph_checks.specs.declared.drawn.Drawn.{Drawn}
use Rattle.line_outputs.specs.declared.boxes.BoxedOutput.{BoxedOutput}
use Rattle.line_jobs.specs.Homes.{kits_of, size_of}
use Rattle.line_jobs.specs.declared.job.Job.{Job}
use Rattle.line_core.specs.Batches.{with_left}
use Rattle.line_core.specs.Deliveries.{ChangesOutputs}
use Rattle.line_core.specs.Parts.{batches_of, boxes_of, outgoing_of, path_of}
use Rattle.line_core.specs.Readiness.{BatchFits, CanDeliver, DueFits, IsSame, StageFits, TargetFits}
use Rattle.line_core.specs.declared.batches.BatchStage.{BatchStage}
use Rattle.line_core.specs.declared.batches.BatchStage.TheVariants as stage
use Rattle.line_core.specs.declared.batches.LeftOver.{LeftOver}
use Rattle.line_core.specs.declared.batches.LineBatch.{LineBatch}
use Rattle.line_core.specs.declared.generation.Generation.{Generation}
use Rattle.line_core.specs.declared.line.Line.{Line}
use Rattle.line_core.proofs.BoxesStay.{batches_still, dues_still, targets_still}
use Rattle.line_core.proofs.EachOf.{each_with}

-- a line of the same generation and the same inputs
pub same_line : {F O : Type 0} (l new : Line F O) → new.generation ≡ l.generation → new.inputs ≡ l.inputs → IsSame l new
same_line {F} l new is inputs = record {
  inputs = ap (λ i. length i.items) inputs;
  jobs = λ out are. record {
    each = subst (λ (g : Generation F). AllByRecursion (λ (j : Job (Drawn F)). j.outgoing ≡ g.outgoing) out) (sym is) are.each;
    room = subst (λ (g : Generation F). length (kits_of g.kits) + length out ≤ size_of g.kits) (sym is) are.room;
  };
}

module _ {O : Type 0} (number : O → ℕ) (folder : List ℕ) (boxes : List (BoxedOutput O)) where
  -- a stage with this left
  left_fits : (left : LeftOver) (s : BatchStage) → AllByRecursion (DueFits number folder boxes) left.due → StageFits number folder boxes (with_left left s)
  left_fits left stage.Away fits = tt
  left_fits left (stage.Home other) fits = fits
  left_fits left stage.Lost fits = tt

  -- a batch that was given this to deliver
  pub given_fits : (b of : LineBatch) (left : LeftOver) → of ≡ record b { stage = with_left left b.stage }
      → AllByRecursion (DueFits number folder boxes) left.due → StageFits number folder boxes of.stage
  given_fits b of left is fits = subst (StageFits number folder boxes) (sym (ap (λ (x : LineBatch). x.stage) is)) (left_fits left b.stage fits)

module _ {F O : Type 0} (number : O → ℕ) where
  -- one of its batches is changed
  pub can_with : (l : Line F O) (at : ℕ) (b : LineBatch) → CanDeliver number l → StageFits number (path_of l) (boxes_of l) b.stage
      → CanDeliver number (record l { batches = with_item l.batches at b })
  can_with l at b can fits =
      record { targets = can.targets; batches = each_with (BatchFits number (path_of l) (boxes_of l)) (batches_of l) at b fits can.batches }

  module _ (l new : Line F O) (c : ChangesOutputs number l new) where
    moved : (P : List ℕ → Type 0) → P (path_of l) → P (path_of new)
    moved P p = subst (λ q. P q.folder) (sym c.queue) p

    pub same_rest : (new.generation ≡ l.generation) × (new.inputs ≡ l.inputs)
    same_rest = (ap (λ (x : Line F O). x.generation) c.rest, ap (λ (x : Line F O). x.inputs) c.rest)

    -- what is due fits still
    pub due_behind : (left : LeftOver) → AllByRecursion (DueFits number (path_of l) (boxes_of l)) left.due
        → AllByRecursion (DueFits number (path_of new) (boxes_of new)) left.due
    due_behind left fits =
        moved (λ f. AllByRecursion (DueFits number f (boxes_of new)) left.due)
        (dues_still number (boxes_of l) (boxes_of new) c.numbers (path_of l) left.due fits)

    with_outputs : CanDeliver number l → CanDeliver number (record l { folder = new.folder; boxes = new.boxes })
    with_outputs can = record {
      targets =
          moved (λ f. AllByRecursion (TargetFits number f (boxes_of new)) (outgoing_of l).outputs.targets)
          (targets_still number (boxes_of l) (boxes_of new) c.numbers (path_of l) (outgoing_of l).outputs.targets can.targets);
      batches =
          moved (λ f. AllByRecursion (BatchFits number f (boxes_of new)) (batches_of l))
          (batches_still number (boxes_of l) (boxes_of new) c.numbers (path_of l) (batches_of l) can.batches);
    }

    pub can_behind : CanDeliver number l → CanDeliver number new
    can_behind can = subst (CanDeliver number) (sym c.rest) (with_outputs can)
