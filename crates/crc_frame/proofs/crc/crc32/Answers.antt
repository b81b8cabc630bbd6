use Rattle.std.proofs.Common.{◌≡◌, ℕ, ◌-◌, ◌*◌, ◌/◌, ◌<◌, length, drop, ap, ◌∙◌, arith}
use Rattle.crc_frame.specs.Crc.{crc32, remainder_after}
use Rattle.crc_frame.proofs.Chunks.{remainder_after-chunk}
use Rattle.crc_frame.proofs.crc.crc32.Goals as goal

pub loop-chunk-preserved : goal.loop-chunk-preserved
loop-chunk-preserved c =
    let bytes = c.args.bytes.now in
    let i = c.loop-chunk.chunk-index in
    let within : i < length bytes / 16 = omega (arith, c.loop-chunk-test.true, c.as_chunks.ensures.front_len) in
    remainder_after-chunk 16 (length bytes / 16) c.loop-chunk.remainder i bytes _ _ _ c.as_chunks.ensures.front within
    c.divide_chunk-remainder.ensures ∙ c.loop-chunk.invariant

pub returns : goal.returns
unfolding crc32
returns c =
    let bytes = c.args.bytes.now in
    let last : length bytes / 16 ≡ c.loop-chunk.chunk-index = omega (arith, c.loop-chunk-test.false, c.loop-chunk.auto.chunk-index-end, c.as_chunks.ensures.front_len) in
    ap (λ (r : ℕ). 0xFFFF_FFFF - r)
    (c.divide_rest.ensures
    ∙ ap (remainder_after c.loop-chunk.remainder) (c.as_chunks.ensures.back ∙ ap (λ (n : ℕ). drop (n * 16) bytes) last)
    ∙ c.loop-chunk.invariant)
