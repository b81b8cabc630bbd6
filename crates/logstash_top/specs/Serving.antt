-- When a line can be served, and which steps it can make.
use Rattle.std.specs.Prelude.{◌≡◌, ◌⊎◌, ◌≤◌, ◌<◌, ℕ, List, length, Result, Err}
use Rattle.graph_checks.specs.declared.drawn.Drawn.{Drawn}
use Rattle.io_traits.specs.Counts.{Rose}
use Rattle.io_traits.specs.declared.files.Files.{Ghosts as FilesWords}
use Rattle.io_traits.specs.declared.links.Links.{Ghosts as LinksWords}
use Rattle.io_traits.specs.declared.sinks.Sink.{Ghosts as SinkWords}
use Rattle.io_traits.specs.declared.sources.Source.{Ghosts as SourceWords}
use Rattle.io_traits.specs.declared.stores.Store.{Ghosts as StoreWords}
use Rattle.line_core.specs.Batches.{IsOut}
use Rattle.line_core.specs.Causes.{BoxRose}
use Rattle.line_core.specs.Jobs.{AreOut}
use Rattle.line_core.specs.Parts.{batches_of, inputs_of}
use Rattle.line_core.specs.Readiness.{CanDeliver, HaveCome, IsReady}
use Rattle.line_core.specs.declared.line.Line.{Line}
use Rattle.line_jobs.specs.declared.job.Job.{Job}
use Rattle.line_machine.specs.declared.calls.Act.{Act}
use Rattle.line_machine.specs.declared.calls.Act.TheVariants as act
use Rattle.line_machine.specs.declared.calls.LineFault.{LineFault}
use Rattle.line_machine.specs.declared.calls.LineFault.TheVariants as fault
use Rattle.line_outputs.specs.declared.boxes.BoxedOutput.{BoxedOutput}
use Rattle.logstash_top.specs.declared.world.World.{World}

module _ {F X : Type 0} where
  -- the input or the batch of a step is there
  abbrev pub CanMake : Line F X → Act → Type 0
  CanMake line (act.Accept input) = input < length (inputs_of line)
  CanMake line act.Read = Unit {0}
  CanMake line act.Take = Unit {0}
  CanMake line (act.Deliver batch) = IsOut batch (batches_of line)
  CanMake line (act.Acknowledge batch) = IsOut batch (batches_of line)
  CanMake line act.Mark = Unit {0}
  CanMake line (act.Assure input) = input < length (inputs_of line)
  CanMake line act.Purge = Unit {0}
  CanMake line (act.Answer link) = Unit {0}

module _ {S P I L O K F X : Type 0} (store : StoreWords S) (links : LinksWords L) (number : X → ℕ) where
  -- its store and its outputs take its calls, these are the jobs that it has out, and its connections came
  pub record Serves (line : Line F X) (jobs : List (Job (Drawn F))) (world : World S P I L O K) : Type 0 where
    pub ready : IsReady store line world.store
    pub can : CanDeliver number line
    pub out : AreOut line jobs
    pub came : HaveCome links (inputs_of line) world.links

-- ---- causes

module _ {S P I L O K X : Type 0} (files : FilesWords P) (stdin : SourceWords I) (links : LinksWords L) (sink : SinkWords O) (faults : X → ℕ) where
  -- the count of faults rose of what inputs read: of stdin, of files or of connections
  abbrev pub ReadRose : World S P I L O K → World S P I L O K → Type 0
  ReadRose old new = Rose (stdin.faults old.stdin) (stdin.faults new.stdin) ⊎ (Rose (files.faults old.files) (files.faults new.files) ⊎ Rose (links.accept_faults old.links) (links.accept_faults new.links))

  -- that of stdout rose, or that of a boxed output
  abbrev pub WriteRose : World S P I L O K → World S P I L O K → Type 0
  WriteRose old new = Rose (sink.faults old.stdout) (sink.faults new.stdout) ⊎ ((before : List (BoxedOutput X)) × (after : List (BoxedOutput X)) × BoxRose faults before after)

  -- none of these counts fell
  pub record CountsStand (old new : World S P I L O K) : Type 0 where
    pub stdin_count : stdin.faults old.stdin ≤ stdin.faults new.stdin
    pub files_count : files.faults old.files ≤ files.faults new.files
    pub links_count : links.accept_faults old.links ≤ links.accept_faults new.links
    pub stdout_count : sink.faults old.stdout ≤ sink.faults new.stdout

  -- and an input, or an output, failed only where one of its counts rose
  pub record HaveCauses {A : Type 0} (result : Result A LineFault) (old new : World S P I L O K) : Type 0 where
    pub counts : CountsStand old new
    pub read : (n : ℕ) → result ≡ Err (fault.Input n) → ReadRose old new
    pub written : (id : List ℕ) → result ≡ Err (fault.Output id) → WriteRose old new
