-- What a call leaves of a sink.
use Rattle.std.specs.Prelude.{ℕ, List}
use Rattle.io_traits.specs.Counts.{Rose}
use Rattle.io_traits.specs.Telling.{Grows, GrowsInPart, IsFlushed}
use Rattle.io_traits.specs.declared.sinks.Sink.{Ghosts as SinkWords}

module _ {O : Type 0} (sink : SinkWords O) where
  -- it took these bytes, and nothing else
  abbrev pub Took : O → O → List ℕ → Type 0
  Took old new bytes = Grows (sink.taken old) (sink.taken new) bytes

  -- it took a first part of these bytes, and nothing else
  abbrev pub TookInPart : O → O → List ℕ → Type 0
  TookInPart old new bytes = GrowsInPart (sink.taken old) (sink.taken new) bytes

  -- all that it took is flushed
  abbrev pub AllFlushed : O → Type 0
  AllFlushed now = IsFlushed (sink.taken now) (sink.flushed now)

  -- a fault was counted
  abbrev pub Faulted : O → O → Type 0
  Faulted old new = Rose (sink.faults old) (sink.faults new)
