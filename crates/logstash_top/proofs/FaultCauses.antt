-- Why an input fails: a count of faults that rose.
use Rattle.std.proofs.Common.{◌≡◌, ◌⊎◌, inl, inr, ◌<◌, ◌≤◌, ℕ, List, [], ◌∷◌, length, get_or, slice_index_or, Result, arith}
use Rattle.std.proofs.lemmas.List.{get_or_default}
use Rattle.io_traits.specs.Counts.{Rose}
use Rattle.io_traits.specs.declared.files.Files.{Ghosts as FilesWords}
use Rattle.io_traits.specs.declared.links.Links.{Ghosts as LinksWords}
use Rattle.io_traits.specs.declared.sinks.Sink.{Ghosts as SinkWords}
use Rattle.io_traits.specs.declared.sources.Source.{Ghosts as SourceWords}
use Rattle.line_inputs.specs.Sources.{Around}
use Rattle.line_inputs.specs.declared.source.InputSource.{InputSource}
use Rattle.line_inputs.specs.declared.source.InputSource.TheVariants as source
use Rattle.line_machine.specs.declared.calls.LineFault.{LineFault}
use Rattle.line_core.specs.Causes.{FailedToRead}
use Rattle.line_core.specs.declared.line.LineInput.{LineInput}
use Rattle.logstash_top.specs.Serving.{CountsStand, HaveCauses, ReadRose, WriteRose}
use Rattle.logstash_top.specs.declared.world.World.{World}

module _ {I F L : Type 0} (stdin : SourceWords I) (files : FilesWords F) (links : LinksWords L) where
  abbrev pub AnyRose : Around stdin files links → Type 0
  AnyRose o = Rose (stdin.faults o.stdin_old) (stdin.faults o.stdin_new) ⊎ (Rose (files.faults o.files_old) (files.faults o.files_new) ⊎ Rose (links.accept_faults o.links_old) (links.accept_faults o.links_new))

  reads : (s : InputSource) (o : Around stdin files links) → FailedToRead stdin files links s o → AnyRose o
  reads (source.Stdin s) o rose = inl rose
  reads (source.Generated g) o rose = absurd rose
  reads (source.Files w) o rose = inr (inl rose)
  reads (source.Connections t) o rose = inr (inr rose)

  -- an input that failed
  pub input_failed : (inputs : List LineInput) (at : ℕ) → at < length inputs → (o : Around stdin files links)
      → ((from : LineInput) → from ≡ slice_index_or inputs at from → FailedToRead stdin files links from.open.source o) → AnyRose o
  input_failed [] at lt o failed = absurd (omega (arith, lt))
  input_failed (x ∷ inputs) at lt o failed =
      let from = get_or (x ∷ inputs) at x in
      reads from.open.source o (failed from (get_or_default (x ∷ inputs) at x from lt))
