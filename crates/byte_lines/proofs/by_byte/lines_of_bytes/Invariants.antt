use Rattle.std.proofs.Common.{◌≡◌, ◌++◌, map, drop}
use Rattle.std.specs.String.{string_bytes}
use Rattle.byte_lines.specs.Split.{split_from}
use Rattle.byte_lines.specs.Lines.{texts_of}
use Rattle.byte_lines.specs.Unread.{lines_left}
use Rattle.byte_lines.proofs.by_byte.lines_of_bytes.Given as goal

abbrev pub invariant-loop-byte : goal.invariant-loop-byte
invariant-loop-byte l =
    map string_bytes l.lines.items ++ texts_of l.ended (split_from l.limit l.held.items (drop l.byte-index l.bytes))
    ≡ lines_left (record { limit = l.limit; bytes = l.bytes; ended = l.ended })
