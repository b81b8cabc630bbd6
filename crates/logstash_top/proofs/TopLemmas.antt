-- What stands before a line is served.
use Rattle.std.proofs.Common.{◌≡◌, ◌-◌, ℕ, List, [], ◌∷◌, ◌++◌, length, append_assoc, unwrap_or, slice_get, nat_eq, if◌then◌else◌, sym, ap, ◌∙◌, subst, arith}
use Rattle.std.proofs.lemmas.List.{length_push}
use Rattle.std.specs.List.{AllByRecursion}
use Rattle.event_text.proofs.ItemPlaces.{get_pushed}
use Rattle.io_traits.specs.Folders.{folder_start}
use Rattle.io_traits.specs.declared.links.Links.{Ghosts as LinksWords}
use Rattle.io_traits.specs.declared.stores.Store.{Ghosts as StoreWords}
use Rattle.in_tcp.specs.Reads.{AllCame}
use Rattle.settings_lines.specs.Own.{folder_of}
use Rattle.settings_lines.specs.declared.settings.PipelineSettings.{PipelineSettings}
use Rattle.line_core.specs.Jobs.{AreOut}
use Rattle.line_core.specs.Openings.{HasNone}
use Rattle.line_core.specs.Parts.{inputs_of}
use Rattle.line_core.specs.Readiness.{CanDeliver, IsReady, connections_by}
use Rattle.line_core.specs.declared.line.Line.{Line}
use Rattle.graph_checks.specs.declared.drawn.Drawn.{Drawn}
use Rattle.line_jobs.specs.declared.job.Job.{Job}
use Rattle.logstash_top.specs.Serving.{Serves}
use Rattle.logstash_top.specs.declared.world.World.{World}

-- a path that ends with a slash is the start of what stands in it
ends_by : (front : List ℕ) → folder_start (front ++ 47 ∷ []) ≡ front ++ 47 ∷ []
ends_by front =
    let all = front ++ 47 ∷ [] in
    let place : length all - 1 ≡ length front = omega (arith, length_push front 47) in
    let last : unwrap_or (slice_get all (length all - 1)) 47 ≡ 47 = ap (λ n. unwrap_or (slice_get all n) 47) place ∙ ap (λ o. unwrap_or o 47) (get_pushed front 47) in
    ap (λ n. if nat_eq n 47 then all else all ++ 47 ∷ []) last

-- so does the folder of a pipeline
pub folder_ends : (s : PipelineSettings) (path : List ℕ) → path ≡ folder_of s → folder_start path ≡ path
folder_ends s path is =
    let whole : folder_of s ≡ (s.path_data ++ 47 ∷ s.pipeline_id) ++ 47 ∷ [] = sym (append_assoc s.path_data (47 ∷ s.pipeline_id) (47 ∷ [])) in
    subst (λ p. folder_start p ≡ p) (sym (is ∙ whole)) (ends_by (s.path_data ++ 47 ∷ s.pipeline_id))

-- inputs without connections have none that didn't come
pub none_came : (came : ℕ) (all : List (List ℕ)) → AllByRecursion HasNone all → AllByRecursion (AllCame came) all
none_came came [] none = tt
none_came came (connections ∷ all) none = (subst (AllCame came) (sym none.0) tt, none_came came all none.1)

module _ {S P I L O K F X : Type 0} (store : StoreWords S) (links : LinksWords L) (number : X → ℕ) where
  -- a line that was opened is served
  pub opened_serves : (l : Line F X) (jobs : List (Job (Drawn F))) (world : World S P I L O K) → jobs ≡ [] → IsReady store l world.store → CanDeliver number l → AreOut l [] → AllByRecursion HasNone (connections_by (inputs_of l)) → Serves store links number l jobs world
  opened_serves l jobs world idle ready can none connections =
      record { ready = ready; can = can; out = subst (AreOut l) (sym idle) none; came = none_came (links.came world.links) (connections_by (inputs_of l)) connections }
