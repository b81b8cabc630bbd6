-- Polls that stand in memory, as the polls of the definitions.
use Rattle.std.specs.Prelude.{List, map}
use Rattle.io_traits.specs.Pieces.{Piece, Came, End, Nothing}
use Rattle.in_lines.specs.Polls.{Poll}
use Rattle.in_lines.specs.declared.poll.Piece.{Piece as PieceInMemory}
use Rattle.in_lines.specs.declared.poll.Piece.TheVariants.{Bytes as BytesInMemory, End as EndInMemory, Nothing as NothingInMemory}
use Rattle.in_lines.specs.declared.poll.Poll.{Poll as PollInMemory}

abbrev pub piece_of : PieceInMemory → Piece
piece_of (BytesInMemory bytes) = Came bytes.items
piece_of EndInMemory = End
piece_of NothingInMemory = Nothing

abbrev pub poll_of : PollInMemory → Poll
poll_of poll = record { moment = poll.moment; piece = piece_of poll.piece }

abbrev pub polls_of : List PollInMemory → List Poll
polls_of polls = map poll_of polls
