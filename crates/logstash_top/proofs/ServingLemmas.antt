-- What steps leave of a line that is served.
use Rattle.std.proofs.Common.{◌≡◌, ℕ, List, [], ◌∷◌, get_or, Result, Ok, Err, IfErr, OnOk, sym, ap, ◌∙◌, subst, arith}
use Rattle.std.proofs.lemmas.List.{get_or_default}
use Rattle.std.specs.List.{AllByRecursion}
use Rattle.in_tcp.specs.Reads.{AllCame}
use Rattle.io_traits.specs.Counts.{HasCause}
use Rattle.io_traits.proofs.Causes.{no_cause}
use Rattle.line_machine.specs.declared.calls.LineFault.{LineFault}
use Rattle.line_machine.specs.declared.calls.LineFault.TheVariants as fault
use Rattle.queue_core.specs.Calls.{behind_acknowledge}
use Rattle.io_traits.specs.Moments.{ImagesTell}
use Rattle.io_traits.specs.declared.links.Links.{Ghosts as LinksWords}
use Rattle.io_traits.specs.declared.stores.Store.{Ghosts as StoreWords}
use Rattle.line_core.specs.Batches.{IsBatchOf, IsOut, batch_place}
use Rattle.line_core.specs.Parts.{batches_of, folder_of, inputs_of, path_of, queue_of}
use Rattle.line_core.specs.Jobs.{AreOut}
use Rattle.line_core.specs.Readiness.{CanDeliver, InputsReady, IsReady, IsRecordedIn, IsSame, connections_by, watched_by}
use Rattle.line_core.specs.declared.batches.LineBatch.{LineBatch}
use Rattle.line_core.specs.declared.line.Line.{Line}
use Rattle.line_core.specs.declared.line.LineInput.{LineInput}
use Rattle.line_folder.specs.Readiness.{IsFolderReady}
use Rattle.line_folder.specs.declared.folder.LineFolder.{LineFolder}
use Rattle.line_folder.proofs.Together.{acknowledged_keeps_folder}
use Rattle.line_inputs.specs.Positions.{AreReady}
use Rattle.graph_checks.specs.declared.drawn.Drawn.{Drawn}
use Rattle.line_jobs.specs.declared.job.Job.{Job}
use Rattle.logstash_top.specs.Serving.{Serves}
use Rattle.logstash_top.specs.declared.world.World.{World}

-- a batch that is out is there
pub out_is : (batch : ℕ) (bs : List LineBatch) → IsOut batch bs → (b : LineBatch) × IsBatchOf batch bs b
out_is batch [] out = absurd (omega (arith, out))
out_is batch (x ∷ bs) out = (get_or (x ∷ bs) (batch_place batch (x ∷ bs)) x, get_or_default (x ∷ bs) (batch_place batch (x ∷ bs)) x _ out)

module _ {S F X : Type 0} (store : StoreWords S) where
  -- what stands on the store stays ready where the folder and the watched files are the same
  pub ready_same : (l new : Line F X) (s : S) → folder_of new ≡ folder_of l → watched_by (inputs_of new) ≡ watched_by (inputs_of l) → IsReady store l s → IsReady store new s
  ready_same l new s is files r = record {
    folder = subst (λ f. IsFolderReady store f s) (sym is) r.folder;
    inputs = record {
      files = subst (λ w. AreReady store w s) (sym files) r.inputs.files;
      recorded = subst (λ (f : LineFolder). AllByRecursion (IsRecordedIn f.queue.folder) (watched_by (inputs_of new))) (sym is) (subst (AllByRecursion (IsRecordedIn (path_of l))) (sym files) r.inputs.recorded);
    };
  }

module _ {S P I L O K F X : Type 0} (store : StoreWords S) (links : LinksWords L) (number : X → ℕ) (l new : Line F X) (jobs : List (Job (Drawn F))) (world : World S P I L O K) (serves : Serves store links number l jobs world) where
  -- behind a choice
  pub serves_same : (CanDeliver number l → CanDeliver number new) → IsSame l new → folder_of new ≡ folder_of l → watched_by (inputs_of new) ≡ watched_by (inputs_of l) → connections_by (inputs_of new) ≡ connections_by (inputs_of l)
      → Serves store links number new jobs world
  serves_same can same is files connections = record {
    ready = ready_same store l new world.store is files serves.ready;
    can = can serves.can;
    out = same.jobs jobs serves.out;
    came = subst (AllByRecursion (AllCame (links.came world.links))) (sym connections) serves.came;
  }

  -- behind an acknowledgement
  pub serves_acknowledged : ImagesTell store → (batch : ℕ) → IsOut batch (batches_of l) → (CanDeliver number l → CanDeliver number new) → IsSame l new
      → ((b : LineBatch) → IsBatchOf batch (batches_of l) b → folder_of new ≡ record (folder_of l) { queue = behind_acknowledge b.numbers (queue_of l) }) → inputs_of new ≡ inputs_of l → Serves store links number new jobs world
  serves_acknowledged tell batch out can same folder inputs =
      let (b, is) = out_is batch (batches_of l) out in
      let there = folder b is in
      record {
        ready = record {
          folder = subst (λ f. IsFolderReady store f world.store) (sym there) (acknowledged_keeps_folder store tell (folder_of l) b.numbers world.store serves.ready.folder);
          inputs = subst (λ (f : LineFolder). InputsReady store f.queue.folder (inputs_of new) world.store) (sym there) (subst (λ i. InputsReady store (path_of l) i world.store) (sym inputs) serves.ready.inputs);
        };
        can = can serves.can;
        out = same.jobs jobs serves.out;
        came = subst (λ (i : List LineInput). AllByRecursion (AllCame (links.came world.links)) (connections_by i)) (sym inputs) serves.came;
      }

  -- behind a result that came home
  pub serves_collected : (left : List (Job (Drawn F))) → CanDeliver number new → AreOut new left → folder_of new ≡ folder_of l → inputs_of new ≡ inputs_of l → Serves store links number new left world
  serves_collected left can out is inputs = record {
    ready = ready_same store l new world.store is (ap watched_by inputs) serves.ready;
    can = can;
    out = out;
    came = subst (λ (i : List LineInput). AllByRecursion (AllCame (links.came world.links)) (connections_by i)) (sym inputs) serves.came;
  }

  -- where one came
  pub on_collected : {A E : Type 0} (result : Result A E) (left : List (Job (Drawn F))) → OnOk result (AreOut new left) → CanDeliver number new → folder_of new ≡ folder_of l → inputs_of new ≡ inputs_of l → OnOk result (Serves store links number new left world)
  on_collected (Ok x) left out can is inputs = serves_collected left can out is inputs
  on_collected (Err e) left out can is inputs = tt

-- want of memory is no fault of a store
pub collected_cause : {A : Type 0} (result : Result A LineFault) (n : ℕ) → IfErr result (λ f. f ≡ fault.Memory) → HasCause n n (result ≡ Err fault.Store)
collected_cause (Ok x) n is = no_cause (λ i. n) (λ e. cc)
collected_cause (Err f) n is = no_cause (λ i. n) (λ e. let same : f ≡ fault.Store = cc in let none = sym is ∙ same in cc)
