-- When a line takes a step, beside what it works with.
use Rattle.std.specs.Prelude.{◌<◌, ℕ, List, length}
use Rattle.io_traits.specs.declared.links.Links.{Ghosts as LinksWords}
use Rattle.io_traits.specs.declared.stores.Store.{Ghosts as StoreWords}
use Rattle.graph_checks.specs.declared.drawn.Drawn.{Drawn}
use Rattle.line_jobs.specs.declared.job.Job.{Job}
use Rattle.line_machine.specs.declared.calls.Act.{Act}
use Rattle.line_machine.specs.declared.calls.Act.TheVariants as act
use Rattle.line_core.specs.Batches.{IsOut}
use Rattle.line_core.specs.Jobs.{AreOut}
use Rattle.line_core.specs.Parts.{batches_of, inputs_of}
use Rattle.line_core.specs.Readiness.{CanDeliver, HaveCome, IsReady}
use Rattle.line_core.specs.declared.line.Line.{Line}

module _ {S L F O : Type 0} (store : StoreWords S) (links : LinksWords L) (number : O → ℕ) where
  -- a line takes each step that it shows, with these jobs out
  pub record IsServed (l : Line F O) (s : S) (n : L) (jobs : List (Job (Drawn F))) : Type 0 where
    pub ready : IsReady store l s
    pub can : CanDeliver number l
    pub came : HaveCome links (inputs_of l) n
    pub out : AreOut l jobs

module _ {F O : Type 0} where
  -- what a step names is there
  abbrev pub IsThere : Line F O → Act → Type 0
  IsThere l act.Take = Unit {0}
  IsThere l (act.Deliver batch) = IsOut batch (batches_of l)
  IsThere l (act.Acknowledge batch) = IsOut batch (batches_of l)
  IsThere l (act.Answer link) = Unit {0}
  IsThere l act.Mark = Unit {0}
  IsThere l (act.Assure input) = input < length (inputs_of l)
  IsThere l act.Purge = Unit {0}
  IsThere l (act.Accept input) = input < length (inputs_of l)
  IsThere l act.Read = Unit {0}
