-- A body in chunks, chunk by chunk.
use Rattle.std.proofs.Common.{◌≡◌, ◌≤◌, ◌<◌, ℕ, ◌+◌, ◌-◌, List, [], ◌∷◌, ◌++◌, length, take, drop, get_or, flat_map, refl, sym, ap, subst, ◌∙◌, arith, append_assoc, length-append, length-drop, ap₂}
use Rattle.std.proofs.Math.Seq.{take-append_seam, drop-append_seam}
use Rattle.std.proofs.lemmas.List.{append_cancel_left, append-nil, drop-drop, drop_more, drop_all, get_or-drop, take-append-drop, length-take-le}
use Rattle.std.proofs.lemmas.List.Elements.{All-nil, All-cons, All-head, All-tail}
use Rattle.httparse.specs.Ascii.{crlf_bytes}
use Rattle.httparse.specs.Grammar.{ChunkLine, chunk_size, crlf, print_chunk_line, print_end, print_extension, ReadsChunkLine, HasNoChunkLine, NeverHasChunkLine}
use Rattle.httparse.specs.Spans.{span_bytes}
use Rattle.httparse.specs.declared.spans.Span.{Span}
use Rattle.httparse.proofs.ChunkLemmas.{chunk_line_unique}
use Rattle.bulk_replies.specs.Bodies.{Chunk, IsChunk, print_chunk, ReadsChunks, chunks_joined, HasChunks}
use Rattle.bulk_replies.specs.Fronts.{EndsAt, HasNoChunks, IsChunkAt, IsLastAt, LineAt}

-- the first so many of a list that is two lists
record Seam (b x q : List ℕ) (n : ℕ) : Type 0 where
  within : n ≤ length q
  front : take n q ≡ b
  behind : drop n q ≡ x

seam : (b x q : List ℕ) (n : ℕ) → b ++ x ≡ q → length b ≡ n → Seam b x q n
seam b x q n is len = record {
  within = omega (arith, ap length (sym is), length-append b x, len);
  front = ap (λ k. take k q) (sym len) ∙ ap (take (length b)) (sym is) ∙ take-append_seam b x;
  behind = ap (λ k. drop k q) (sym len) ∙ ap (drop (length b)) (sym is) ∙ drop-append_seam b x;
}

-- where a chunk stands first, the others stand behind it
record Behind (bytes : List ℕ) (c : Chunk) (cs : List Chunk) : Type 0 where
  tail : List ℕ
  is_chunk : IsChunk c
  line : ReadsChunkLine bytes c.line (c.bytes ++ (crlf_bytes ++ tail))
  others : ReadsChunks tail cs

regroup : (a b c d e : List ℕ) → ((a ++ (b ++ c)) ++ d) ++ e ≡ a ++ (b ++ (c ++ (d ++ e)))
regroup a b c d e = simp append_assoc

behind : (bytes : List ℕ) (c : Chunk) (cs : List Chunk) → ReadsChunks bytes (c ∷ cs) → Behind bytes c cs
behind bytes c cs r =
    let here : IsChunk c = All-head IsChunk c cs r.are_chunks in
    record {
      tail = flat_map print_chunk cs ++ (print_chunk_line r.last ++ r.rest);
      is_chunk = here;
      line = (here.is_line, r.written ∙ regroup (print_chunk_line c.line) c.bytes crlf_bytes (flat_map print_chunk cs) (print_chunk_line r.last ++ r.rest));
      others = record {
        last = r.last;
        rest = r.rest;
        are_chunks = All-tail IsChunk c cs r.are_chunks;
        is_last = r.is_last;
        empty = r.empty;
        written = refl;
      };
    }

with_chunk : (bytes tail : List ℕ) (c : Chunk) (cs : List Chunk) → IsChunk c → bytes ≡ print_chunk c ++ tail → ReadsChunks tail cs → ReadsChunks bytes (c ∷ cs)
with_chunk bytes tail c cs here is r = record {
  last = r.last;
  rest = r.rest;
  are_chunks = All-cons IsChunk c cs here r.are_chunks;
  is_last = r.is_last;
  empty = r.empty;
  written = is ∙ ap (λ t. print_chunk c ++ t) r.written ∙ sym (append_assoc (print_chunk c) (flat_map print_chunk cs) (print_chunk_line r.last ++ r.rest));
}

-- behind the line of a chunk stand its bytes, the end of a line, and the others
pub record Next (q : List ℕ) (size : ℕ) (body : List ℕ) : Type 0 where
  pub tail : List ℕ
  pub rest : List ℕ
  pub within : size ≤ length q
  pub ends : drop size q ≡ crlf_bytes ++ tail
  pub others : HasChunks tail rest
  pub joined : body ≡ take size q ++ rest

next_of : (bytes q body : List ℕ) (k : ChunkLine) (chunks : List Chunk) → ReadsChunkLine bytes k q → (chunk_size k ≡ 0 → ⊥) → ReadsChunks bytes chunks → body ≡ chunks_joined chunks → Next q (chunk_size k) body
next_of bytes q body k [] line some r is = absurd (some (ap chunk_size (sym (chunk_line_unique bytes r.last k r.rest q (r.is_last, r.written) line).0) ∙ r.empty))
next_of bytes q body k (c ∷ cs) line some r is =
    let b = behind bytes c cs r in
    let same = chunk_line_unique bytes c.line k (c.bytes ++ (crlf_bytes ++ b.tail)) q b.line line in
    let s = seam c.bytes (crlf_bytes ++ b.tail) q (chunk_size k) same.1 (sym b.is_chunk.size ∙ ap chunk_size same.0) in
    record {
      tail = b.tail;
      rest = chunks_joined cs;
      within = s.within;
      ends = s.behind;
      others = (cs, b.others, refl);
      joined = is ∙ ap (λ t. t ++ chunks_joined cs) (sym s.front);
    }

pub next : (bytes q body : List ℕ) (k : ChunkLine) → ReadsChunkLine bytes k q → (chunk_size k ≡ 0 → ⊥) → HasChunks bytes body → Next q (chunk_size k) body
next bytes q body k line some has = next_of bytes q body k has.0 line some has.1 has.2

-- some line stands first
line_of : (bytes : List ℕ) (chunks : List Chunk) → HasNoChunkLine bytes → ReadsChunks bytes chunks → ⊥
line_of bytes [] none r = none r.last r.rest (r.is_last, r.written)
line_of bytes (c ∷ cs) none r = let b = behind bytes c cs r in none c.line (c.bytes ++ (crlf_bytes ++ b.tail)) b.line

pub no_line : (bytes : List ℕ) → HasNoChunkLine bytes → HasNoChunks bytes
no_line bytes none body has = line_of bytes has.0 none has.1

pub never_line : (bytes : List ℕ) → NeverHasChunkLine bytes → HasNoChunkLine bytes
never_line bytes never l rest line = never [] l rest (subst (λ b. ReadsChunkLine b l rest) (sym (append-nil bytes)) line)

-- the end of a line, as it stands in front of others
pub drop_ends : (bytes : List ℕ) (at : ℕ) → EndsAt bytes at → drop at bytes ≡ crlf_bytes ++ drop (at + 2) bytes
drop_ends bytes at e =
    let one = drop_more bytes at 0 (omega (arith, e.within)) in
    let two = drop_more bytes (at + 1) 0 (omega (arith, e.within)) in
    let later : at + 1 + 1 ≡ at + 2 = omega arith in
    one ∙ ap₂ (λ b t. b ∷ t) e.first (two ∙ ap₂ (λ b t. b ∷ t) e.second (ap (λ n. drop n bytes) later))

pub ends_drop : (bytes rest : List ℕ) (at : ℕ) → drop at bytes ≡ crlf_bytes ++ rest → EndsAt bytes at
ends_drop bytes rest at is =
    let none : at + 0 ≡ at = omega arith in
    record {
      within = omega (arith, ap length is, length-drop at bytes);
      first = ap (λ n. get_or bytes n 0) (sym none) ∙ sym (get_or-drop at bytes 0 0) ∙ ap (λ t. get_or t 0 0) is;
      second = sym (get_or-drop at bytes 1 0) ∙ ap (λ t. get_or t 1 0) is;
    }

-- a line that has a size, with what stands behind it
module _ (bytes : List ℕ) (at start size : ℕ) (l : LineAt bytes at start size) (some : size ≡ 0 → ⊥) where
  next_here : (body : List ℕ) → HasChunks (drop at bytes) body → Next (drop start bytes) size body
  next_here body has = subst (λ n. Next (drop start bytes) n body) (sym l.size_is) (next (drop at bytes) (drop start bytes) body l.line l.reads (λ none. some (l.size_is ∙ none)) has)

  pub too_long : length bytes - start < size → HasNoChunks (drop at bytes)
  too_long long body has = let n = next_here body has in absurd (omega (arith, long, n.within, length-drop start bytes))

  pub no_end : (EndsAt bytes (start + size) → ⊥) → HasNoChunks (drop at bytes)
  no_end none body has = let n = next_here body has in none (ends_drop bytes n.tail (start + size) (sym (drop-drop size start bytes) ∙ n.ends))

  pub chunk_here : EndsAt bytes (start + size) → IsChunkAt bytes at (record { start = start; end = start + size })
  chunk_here e =
      let enough : size ≤ length (drop start bytes) = omega (arith, e.within, length-drop start bytes) in
      let count : length (take size (drop start bytes)) ≡ size = length-take-le size (drop start bytes) enough in
      let whole : drop start bytes ≡ take size (drop start bytes) ++ (crlf_bytes ++ drop (start + size + 2) bytes) = sym (take-append-drop size (drop start bytes)) ∙ ap (λ t. take size (drop start bytes) ++ t) (drop-drop size start bytes ∙ drop_ends bytes (start + size) e) in
      record {
        chunk = record { line = l.line; bytes = take size (drop start bytes) };
        is_chunk = record { is_line = l.reads.0; some = omega (arith, count, some); size = sym l.size_is ∙ sym count };
        after = l.after;
        within = (omega arith, omega (arith, e.within));
        whole = e.within;
        are_bytes = ap (λ n. take n (drop start bytes)) (omega arith);
        written = l.reads.1 ∙ ap (λ t. print_chunk_line l.line ++ t) whole ∙ simp append_assoc;
      }

pub last_here : (bytes : List ℕ) (at start size : ℕ) → LineAt bytes at start size → size ≡ 0 → IsLastAt bytes at
last_here bytes at start size l none = record { line = l.line; rest = drop start bytes; is_line = l.reads.0; empty = sym l.size_is ∙ none; written = l.reads.1 }

-- what was joined so far, and what the rest joins to, is what the whole does
pub record Joined (bytes : List ℕ) (at : ℕ) (body : List ℕ) : Type 0 where
  pub within : at ≤ length bytes
  pub on : (rest : List ℕ) → HasChunks (drop at bytes) rest → HasChunks bytes (body ++ rest)
  pub back : (whole : List ℕ) → HasChunks bytes whole → (rest : List ℕ) × HasChunks (drop at bytes) rest

pub joined_start : (bytes : List ℕ) → Joined bytes 0 []
joined_start bytes = record {
  within = omega arith;
  on = λ rest has. has;
  back = λ whole has. (whole, has);
}

module _ (bytes body : List ℕ) (at : ℕ) (span : Span) (j : Joined bytes at body) (h : IsChunkAt bytes at span) where
  line_here : ReadsChunkLine (drop at bytes) h.chunk.line (h.chunk.bytes ++ (crlf_bytes ++ drop (span.end + 2) bytes))
  line_here = (h.is_chunk.is_line, h.written ∙ simp append_assoc)

  on_one : (rest : List ℕ) → HasChunks (drop (span.end + 2) bytes) rest → HasChunks bytes ((body ++ span_bytes bytes span) ++ rest)
  on_one rest has =
      let here : HasChunks (drop at bytes) (h.chunk.bytes ++ rest) = (h.chunk ∷ has.0, with_chunk (drop at bytes) (drop (span.end + 2) bytes) h.chunk has.0 h.is_chunk h.written has.1, ap (λ t. h.chunk.bytes ++ t) has.2) in
      subst (HasChunks bytes) (ap (λ b. body ++ (b ++ rest)) (sym h.are_bytes) ∙ sym (append_assoc body (span_bytes bytes span) rest)) (j.on (h.chunk.bytes ++ rest) here)

  back_one : (whole : List ℕ) → HasChunks bytes whole → (rest : List ℕ) × HasChunks (drop (span.end + 2) bytes) rest
  back_one whole has =
      let left = j.back whole has in
      let some : chunk_size h.chunk.line ≡ 0 → ⊥ = λ none. absurd (omega (arith, none, h.is_chunk.size, h.is_chunk.some)) in
      let n = next (drop at bytes) _ left.0 h.chunk.line line_here some left.1 in
      let s = seam h.chunk.bytes (crlf_bytes ++ drop (span.end + 2) bytes) _ (chunk_size h.chunk.line) refl (sym h.is_chunk.size) in
      (n.rest, subst (λ t. HasChunks t n.rest) (append_cancel_left crlf_bytes n.tail (drop (span.end + 2) bytes) (sym n.ends ∙ s.behind)) n.others)

  pub one_joined : Joined bytes (span.end + 2) (body ++ span_bytes bytes span)
  one_joined = record { within = h.whole; on = on_one; back = back_one }

module _ (bytes body : List ℕ) (at : ℕ) (j : Joined bytes at body) where
  pub last_joined : IsLastAt bytes at → HasChunks bytes body
  last_joined h =
      let here : HasChunks (drop at bytes) [] = ([], record { last = h.line; rest = h.rest; are_chunks = All-nil IsChunk; is_last = h.is_line; empty = h.empty; written = h.written }, refl) in
      subst (HasChunks bytes) (append-nil body) (j.on [] here)

  pub cut_joined : HasNoChunks (drop at bytes) → HasNoChunks bytes
  cut_joined none whole has = let left = j.back whole has in none left.0 left.1

-- nothing is no body in chunks
no_line_in_nothing : (l : ChunkLine) (rest : List ℕ) → ReadsChunkLine [] l rest → ⊥
unfolding print_chunk_line
no_line_in_nothing l rest line = absurd (omega (arith, line.0.digits.0, ap length line.1, length-append l.digits l.pad, length-append (l.digits ++ l.pad) (print_extension l.extension), length-append (l.digits ++ l.pad ++ print_extension l.extension) (print_end crlf), length-append (print_chunk_line l) rest))

pub end_joined : (bytes body : List ℕ) (at : ℕ) → Joined bytes at body → length bytes ≤ at → HasNoChunks bytes
end_joined bytes body at j end = cut_joined bytes body at j (subst HasNoChunks (sym (drop_all at bytes end)) (no_line [] no_line_in_nothing))

-- a body in chunks is one body
one_of : (bytes b : List ℕ) (chunks : List Chunk) → ReadsChunks bytes chunks → HasChunks bytes b → chunks_joined chunks ≡ b
one_of bytes b [] r has = last_of has.0 has.1 has.2
  where
    last_of : (others : List Chunk) → ReadsChunks bytes others → b ≡ chunks_joined others → [] ≡ b
    last_of [] s is = sym is
    last_of (c ∷ cs) s is =
        let t = behind bytes c cs s in
        let same = chunk_line_unique bytes r.last c.line r.rest (c.bytes ++ (crlf_bytes ++ t.tail)) (r.is_last, r.written) t.line in
        absurd (omega (arith, ap chunk_size same.0, r.empty, t.is_chunk.size, t.is_chunk.some))
one_of bytes b (c ∷ cs) r has =
    let t = behind bytes c cs r in
    let some : chunk_size c.line ≡ 0 → ⊥ = λ none. absurd (omega (arith, none, t.is_chunk.size, t.is_chunk.some)) in
    let n = next bytes (c.bytes ++ (crlf_bytes ++ t.tail)) b c.line t.line some has in
    let s = seam c.bytes (crlf_bytes ++ t.tail) (c.bytes ++ (crlf_bytes ++ t.tail)) (chunk_size c.line) refl (sym t.is_chunk.size) in
    let tails : n.tail ≡ t.tail = append_cancel_left crlf_bytes n.tail t.tail (sym n.ends ∙ s.behind) in
    let rest : chunks_joined cs ≡ n.rest = one_of t.tail n.rest cs t.others (subst (λ x. HasChunks x n.rest) tails n.others) in
    ap₂ (λ x y. x ++ y) (sym s.front) rest ∙ sym n.joined

pub one_body : (bytes a b : List ℕ) → HasChunks bytes a → HasChunks bytes b → a ≡ b
one_body bytes a b has also = has.2 ∙ one_of bytes b has.0 has.1 also
