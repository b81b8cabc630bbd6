-- What stands at a place of a body in chunks.
use Rattle.std.specs.Prelude.{◌≡◌, ◌≤◌, ℕ, ◌+◌, List, ◌++◌, length, drop, slice_index, Option, Some, None}
use Rattle.httparse.specs.Ascii.{carriage_return, line_feed}
use Rattle.httparse.specs.Grammar.{ChunkLine, ReadsChunkLine, IsChunkLine, chunk_size, print_chunk_line}
use Rattle.httparse.specs.Spans.{IsWithin, span_bytes}
use Rattle.httparse.specs.declared.spans.Span.{Span}
use Rattle.bulk_replies.specs.Bodies.{Chunk, IsChunk, print_chunk, HasChunks}
use Rattle.bulk_replies.specs.declared.chunks.Front.{Front}
use Rattle.bulk_replies.specs.declared.chunks.Front.TheVariants as f

-- the end of a line stands there
pub record EndsAt (bytes : List ℕ) (at : ℕ) : Type 0 where
  pub within : at + 2 ≤ length bytes
  pub first : slice_index bytes at ≡ carriage_return
  pub second : slice_index bytes (at + 1) ≡ line_feed

-- a chunk stands there, with its bytes in this place
pub record IsChunkAt (bytes : List ℕ) (at : ℕ) (span : Span) : Type 0 where
  pub chunk : Chunk
  pub is_chunk : IsChunk chunk
  pub after : at ≤ span.start
  pub within : IsWithin (length bytes) span
  pub whole : span.end + 2 ≤ length bytes
  pub are_bytes : span_bytes bytes span ≡ chunk.bytes
  pub written : drop at bytes ≡ print_chunk chunk ++ drop (span.end + 2) bytes

-- a line of a chunk of this size stands there, up to a place
pub record LineAt (bytes : List ℕ) (at start size : ℕ) : Type 0 where
  pub line : ChunkLine
  pub after : at ≤ start
  pub within : start ≤ length bytes
  pub reads : ReadsChunkLine (drop at bytes) line (drop start bytes)
  pub size_is : size ≡ chunk_size line

-- the line of a last chunk stands there
pub record IsLastAt (bytes : List ℕ) (at : ℕ) : Type 0 where
  pub line : ChunkLine
  pub rest : List ℕ
  pub is_line : IsChunkLine line
  pub empty : chunk_size line ≡ 0
  pub written : drop at bytes ≡ print_chunk_line line ++ rest

abbrev pub HasNoChunks : List ℕ → Type 0
HasNoChunks bytes = (body : List ℕ) → HasChunks bytes body → ⊥

abbrev pub IsFront : List ℕ → ℕ → Front → Type 0
IsFront bytes at (f.Chunk span) = IsChunkAt bytes at span
IsFront bytes at f.Last = IsLastAt bytes at
IsFront bytes at f.Cut = HasNoChunks (drop at bytes)

-- the bytes of the chunks, where the body is whole
abbrev pub Joins : List ℕ → Option (List ℕ) → Type 0
Joins bytes (Some body) = HasChunks bytes body
Joins bytes None = HasNoChunks bytes
