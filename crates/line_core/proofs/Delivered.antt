-- What stands behind each answer of a delivery, carried over to the call around it, and what a line has on its store then.
use Rattle.std.proofs.Common.{◌≡◌, inl, inr, ℕ, List, Result, Ok, Err, refl, sym, ap, ◌∙◌, subst}
use Rattle.io_traits.specs.Moments.{EachMoment, ImagesTell, LeavesBeside, ReadsBeside}
use Rattle.io_traits.specs.declared.queue_faults.Damage.{Damage}
use Rattle.io_traits.specs.declared.stores.Store.{Ghosts as StoreWords}
use Rattle.io_traits.proofs.Moments.{holds_now}
use Rattle.dead_letters.specs.Ready.{AppendLeaves}
use Rattle.dead_letters.specs.Views.{IsOwn as IsOfLetters}
use Rattle.dead_letters.specs.declared.letter.DeadLetter.{DeadLetter}
use Rattle.line_outputs.specs.OpenFiles.{IsFileOf, IsOutside, LeavesDelivered}
use Rattle.line_outputs.specs.Readiness.{LeavesOthers}
use Rattle.line_folder.specs.Readiness.{IsFolderReady}
use Rattle.line_folder.specs.declared.folder.LineFolder.{LineFolder}
use Rattle.line_machine.specs.declared.calls.Delivered.{Delivered}
use Rattle.line_machine.specs.declared.calls.Delivered.TheVariants as delivered
use Rattle.line_machine.specs.declared.calls.LineFault.{LineFault}
use Rattle.line_machine.specs.declared.calls.LineFault.TheVariants as fault
use Rattle.line_outputs.specs.declared.box_table.BoxedOutputs.{BoxedOutputs}
use Rattle.line_core.specs.Deliveries.{AnswersOn, ChangesFolder, ChangesOutputs, FailsOn, Grounds, no_grounds, numbers_of}
use Rattle.line_core.specs.Parts.{boxes_of, inputs_of, letters_of, path_of}
use Rattle.line_core.specs.Readiness.{InputsReady, IsReady}
use Rattle.line_core.specs.declared.line.Line.{Line}
use Rattle.line_core.proofs.InputsTogether.{delivery_keeps, letters_keep}

-- ---- answers

-- what follows from grounds
pub record Gives (g h : Grounds) : Type 0 where
  pub finished : g.finished → h.finished
  pub later : g.later → h.later
  pub failed : g.failed → h.failed
  pub damaged : (d : Damage) → g.damaged d → h.damaged d
  pub full : (size added limit : ℕ) → g.full size added limit → h.full size added limit
  pub lost : g.lost → h.lost

module _ (g h : Grounds) (gives : Gives g h) where
  pub fails_then : (f : LineFault) → FailsOn g f → FailsOn h f
  fails_then fault.Store on = gives.lost on
  fails_then (fault.Input n) on = on
  fails_then (fault.Output id) on = gives.failed on
  fails_then (fault.Damaged damage) on = gives.damaged damage on
  fails_then fault.NumbersSpent on = on
  fails_then (fault.DeadFull size added limit) on = gives.full size added limit on
  fails_then fault.Memory on = tt

  pub answers_then : (r : Result Delivered LineFault) → AnswersOn g r → AnswersOn h r
  answers_then (Ok delivered.Told) on = tt
  answers_then (Ok delivered.Waiting) on = tt
  answers_then (Ok delivered.Later) on = gives.later on
  answers_then (Ok delivered.Finished) on = gives.finished on
  answers_then (Err f) on = fails_then f on

-- where an output failed, and for no other reason
pub output_failed : (h : Grounds) → h.failed → (f : LineFault) → FailsOn (record no_grounds { failed = Unit {0} }) f → FailsOn h f
output_failed h failed f on =
    fails_then (record no_grounds { failed = Unit {0} }) h
    (record {
      finished = λ x. absurd x;
      later = λ x. absurd x;
      failed = λ x. failed;
      damaged = λ d x. absurd x;
      full = λ size added limit x. absurd x;
      lost = λ x. absurd x;
    }) f on

-- ---- what changes

-- a box answered, and then the folder changed
module _ {F O : Type 0} (number : O → ℕ) (l : Line F O) (boxes : BoxedOutputs O)
    (stay : numbers_of number boxes.outputs.items ≡ numbers_of number (boxes_of l)) where
  pub boxes_changed : ChangesOutputs number l (record l { boxes = boxes })
  boxes_changed = record { rest = refl; queue = refl; numbers = stay }

  pub then_folder : (new : Line F O) → ChangesFolder (record l { boxes = boxes }) new → ChangesOutputs number l new
  then_folder new c = record {
    rest = c.rest ∙ ap (λ b. record l { folder = new.folder; boxes = b }) (sym (ap (λ (x : Line F O). x.boxes) c.rest));
    queue = c.queue;
    numbers = ap (λ (x : Line F O). numbers_of number (boxes_of x)) c.rest ∙ stay;
  }

-- ---- readiness

module _ {S F O : Type 0} (store : StoreWords S) (tell : ImagesTell store) (l : Line F O) (old new : S)
    (ready : IsReady store l old) (folder : LineFolder) (same : folder.queue ≡ l.folder.queue) where
  with_folder : InputsReady store (path_of l) (inputs_of l) new → IsFolderReady store folder new → IsReady store (record l { folder = folder }) new
  with_folder inputs all = record { folder = all; inputs = subst (λ q. InputsReady store q.folder (inputs_of l) new) (sym same) inputs }

  -- behind a delivery to a file outside of the folder
  pub ready_behind_file : (path batch : List ℕ) → IsOutside (path_of l) path → EachMoment store old new (LeavesDelivered store (path_of l) path batch old)
      → ReadsBeside store (IsFileOf (path_of l) path) old new → IsFolderReady store folder new → IsReady store (record l { folder = folder }) new
  ready_behind_file path batch outside run reads all =
      let leaves : LeavesOthers store (IsFileOf (path_of l) path) old new = record {
        now = λ i left.
            let d = holds_now store old new (LeavesDelivered store (path_of l) path batch old) run i left in
            (d.from, d.was, λ name other. d.beside name (λ is. other (inl is)) (λ is. other (inr is)));
        reads = reads;
      } in
      with_folder (delivery_keeps store tell (path_of l) (inputs_of l) old new path outside leaves ready.inputs) all

  -- behind an append of letters
  pub ready_behind_letters : (letters : List DeadLetter) → AppendLeaves store (letters_of l) letters old new
      → ReadsBeside store (IsOfLetters (path_of l)) old new
      → IsFolderReady store folder new → IsReady store (record l { folder = folder }) new
  ready_behind_letters letters run reads all =
      let leaves : LeavesOthers store (IsOfLetters (path_of l)) old new = record {
        now = λ i left.
            subst (λ f. LeavesBeside store (IsOfLetters f) old i) (ready.folder.outputs.folder ∙ ready.folder.folder) (holds_now store old new _ run i left).beside;
        reads = reads;
      } in
      with_folder (letters_keep store tell (path_of l) (inputs_of l) old new leaves ready.inputs) all
