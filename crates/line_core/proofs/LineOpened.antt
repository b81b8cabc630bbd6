-- A line that is opened: what stands in its folder is ready behind the opening of its inputs, and a damage is that of its folder or of a position file.
use Rattle.std.specs.Prelude.{Result, Ok, Err, IfOk, IfErr, IsOk, OnOk}
use Rattle.std.proofs.Common.{◌≡◌, ◌⊎◌, ⊎_elim, ℕ, false, IsTrue, List, [], refl, sym, ap, ◌∙◌, subst}
use Rattle.std.proofs.lemmas.Bool.{false≢true}
use Rattle.io_traits.specs.Moments.{EachMoment, ImagesTell, NowOrSynced}
use Rattle.io_traits.specs.declared.stores.Store.{Ghosts as StoreWords}
use Rattle.io_traits.proofs.Moments.{holds_now}
use Rattle.slot_files.specs.declared.recorded.Recorded.TheVariants.{Nothing}
use Rattle.in_lines.specs.declared.codec.Codec.TheVariants.{Plain}
use Rattle.in_file.specs.Openings.{opened}
use Rattle.in_file.specs.Positions.{IsOwn}
use Rattle.in_file.specs.Views.{Watched}
use Rattle.line_outputs.specs.Readiness.{LeavesOthers}
use Rattle.line_folder.specs.FileNames.{input_slot}
use Rattle.line_folder.specs.Readiness.{IsFolderReady}
use Rattle.line_folder.specs.declared.folder.LineFolder.{LineFolder}
use Rattle.line_folder.proofs.Together.{inputs_keep_folder}
use Rattle.line_machine.specs.declared.calls.LineFault.{LineFault}
use Rattle.line_machine.specs.declared.calls.LineFault.TheVariants as fault
use Rattle.line_core.specs.Parts.{folder_of, inputs_of}
use Rattle.line_core.specs.Readiness.{InputsReady, IsReady}
use Rattle.line_core.specs.declared.line.Line.{Line}
use Rattle.line_core.specs.declared.line.LineInput.{LineInput}

module _ {S : Type 0} (store : StoreWords S) (tell : ImagesTell store) (old new : S) (run : EachMoment store old new (NowOrSynced store old)) (reads : IsTrue store.tells → store.seen new ≡ store.seen old) where
  -- a file that could be watched in a folder
  abbrev some_file : List ℕ → Watched
  some_file folder = opened [] (input_slot folder []) (record { from_start = false; ends = false; codec = Plain }) 0 Nothing

  leaves : (w : Watched) → LeavesOthers store (IsOwn w) old new
  leaves w = record {
    now = λ i left. (i, holds_now store old new (NowOrSynced store old) run i left, λ name other. refl);
    reads = λ told name other. ap (λ c. c name) (reads told);
  }

  pub folder_stays : (f : LineFolder) → IsFolderReady store f old → IsFolderReady store f new
  folder_stays f ready = inputs_keep_folder store tell f [] (some_file f.queue.folder) old new refl (leaves (some_file f.queue.folder)) ready

  -- a line is ready that has this folder and these inputs
  pub line_ready : {F O X : Type 0} (items : X → List LineInput) (folder : List ℕ) (stands : LineFolder) (inputs : Result X LineFault) (line : Result (Line F O) LineFault) → IsFolderReady store stands old → stands.queue.folder ≡ folder
      → IfOk inputs (λ made. InputsReady store folder (items made) new) → IfOk line (λ l. folder_of l ≡ stands) → IfOk line (λ l. IfOk inputs (λ made. inputs_of l ≡ items made)) → OnOk line (IsOk inputs) → IfOk line (λ l. IsReady store l new)
  line_ready items folder stands inputs (Err e) folder_ready same inputs_ready has_folder has_inputs made = tt
  line_ready items folder stands (Err f) (Ok l) folder_ready same inputs_ready has_folder has_inputs made = absurd (false≢true made)
  line_ready items folder stands (Ok open_inputs) (Ok l) folder_ready same inputs_ready has_folder has_inputs made = record {
    folder = subst (λ f. IsFolderReady store f new) (sym has_folder) (folder_stays stands folder_ready);
    inputs = subst (λ path. InputsReady store path (inputs_of l) new) (sym (ap (λ (f : LineFolder). f.queue.folder) has_folder ∙ same))
        (subst (λ is. InputsReady store folder is new) (sym has_inputs) inputs_ready);
  }

-- a fault of a line that begins, but for want of memory, is that of its inputs
pub of_inputs : {A B : Type 0} (inputs : Result A LineFault) (line : Result B LineFault) (e : LineFault) → IfErr line (λ f. (inputs ≡ Err f) ⊎ (f ≡ fault.Memory)) → line ≡ Err e → (e ≡ fault.Memory → ⊥) → inputs ≡ Err e
of_inputs {A} inputs line e err is other = ⊎_elim (λ same. same) (λ memory. absurd (other memory)) (subst (λ r. IfErr r (λ f. (inputs ≡ Err f) ⊎ (f ≡ fault.Memory))) is err)
