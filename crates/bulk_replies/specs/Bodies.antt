-- Where the body of a message stands behind its head, and what it is (RFC 9112, sections 6.3 and 7.1).
use Rattle.std.specs.Prelude.{◌≡◌, ◌≤◌, ◌<◌, ℕ, ◌^◌, ◌-◌, List, [], ◌∷◌, ◌++◌, length, take, if◌then◌else◌, flat_map, codes, All, Option, Some, None}
use Rattle.settings_lines.specs.Numbers.{number_in}
use Rattle.httparse.specs.Ascii.{crlf_bytes}
use Rattle.httparse.specs.Grammar.{ChunkLine, IsChunkLine, chunk_size, print_chunk_line}
use Rattle.bulk_replies.specs.Fields.{Named, is_same, values_of}
use Rattle.bulk_replies.specs.declared.framing.Framing.{Framing}
use Rattle.bulk_replies.specs.declared.framing.Framing.TheVariants.{Chunked, Sized, ToClose, Unreadable}

abbrev pub sized_by : Option ℕ → Framing
sized_by None = Unreadable
sized_by (Some n) = Sized n

-- by its length, which is a number of 64 bits and stands once; without one it goes on up to the close of the connection
abbrev pub by_lengths : List (List ℕ) → Framing
by_lengths [] = ToClose
by_lengths (v ∷ []) = sized_by (number_in 0 (2 ^ 64 - 1) v)
by_lengths (v ∷ w ∷ vs) = Unreadable

-- by its codings, of which `chunked` alone is understood, and which count before any length
abbrev pub by_codings : List (List ℕ) → Framing → Framing
by_codings [] length_says = length_says
by_codings (v ∷ []) length_says = if is_same v (codes "chunked") then Chunked else Unreadable
by_codings (v ∷ w ∷ vs) length_says = Unreadable

abbrev pub framing_of : Named → Framing
framing_of fs = by_codings (values_of (codes "transfer-encoding") fs) (by_lengths (values_of (codes "content-length") fs))

-- a chunk: a line with its size, and so many bytes, of which there is one at least, with a line end behind them
pub record Chunk : Type 0 where
  pub line : ChunkLine
  pub bytes : List ℕ

abbrev pub print_chunk : Chunk → List ℕ
print_chunk c = print_chunk_line c.line ++ (c.bytes ++ crlf_bytes)

pub record IsChunk (c : Chunk) : Type 0 where
  pub is_line : IsChunkLine c.line
  pub some : 0 < length c.bytes
  pub size : chunk_size c.line ≡ length c.bytes

-- these chunks stand there, and behind them the line of a last one, which has no bytes. With it the body is complete: what stands behind that line isn't looked at.
pub record ReadsChunks (bytes : List ℕ) (chunks : List Chunk) : Type 0 where
  pub last : ChunkLine
  pub rest : List ℕ
  pub are_chunks : All IsChunk chunks
  pub is_last : IsChunkLine last
  pub empty : chunk_size last ≡ 0
  pub written : bytes ≡ flat_map print_chunk chunks ++ (print_chunk_line last ++ rest)

abbrev pub chunks_joined : List Chunk → List ℕ
chunks_joined chunks = flat_map (λ c. c.bytes) chunks

abbrev pub HasChunks : List ℕ → List ℕ → Type 0
HasChunks bytes body = (chunks : List Chunk) × ReadsChunks bytes chunks × (body ≡ chunks_joined chunks)

-- the whole body of a message, of which these bytes came behind the head up to the close of the connection
abbrev pub IsBody : Framing → List ℕ → List ℕ → Type 0
IsBody Chunked bytes body = HasChunks bytes body
IsBody (Sized n) bytes body = (n ≤ length bytes) × (body ≡ take n bytes)
IsBody ToClose bytes body = body ≡ bytes
IsBody Unreadable bytes body = ⊥

-- the head says where the body ends, and it ends within these bytes
abbrev pub EndsWithin : Framing → List ℕ → Type 0
EndsWithin Chunked bytes = (body : List ℕ) × HasChunks bytes body
EndsWithin (Sized n) bytes = n ≤ length bytes
EndsWithin ToClose bytes = ⊥
EndsWithin Unreadable bytes = ⊥
