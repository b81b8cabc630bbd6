-- The pieces of a source's list.
use Rattle.io_traits.specs.Pieces.{Piece, Came, End}
use Rattle.io_memory.specs.declared.memory_sources.SourceEvent.{SourceEvent}
use Rattle.io_memory.specs.declared.memory_sources.SourceEvent.TheVariants.{Bytes}
use Rattle.io_memory.specs.declared.memory_sources.SourceEvent.TheVariants.{End as AtEnd}

abbrev pub piece_of : SourceEvent → Piece
piece_of (Bytes bytes) = Came bytes.items
piece_of AtEnd = End
