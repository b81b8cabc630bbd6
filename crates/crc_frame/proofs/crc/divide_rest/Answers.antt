use Rattle.std.proofs.Common.{ℕ, ◌+◌, ◌/◌, ◌<◌, drop, length, sym, ap, ◌∙◌, arith}
use Rattle.std.proofs.lemmas.List.{append-nil}
use Rattle.crc_frame.specs.Crc.{remainder_after}
use Rattle.crc_frame.proofs.Chunks.{remainder_after-chunk}
use Rattle.crc_frame.proofs.Division.{remainder_after-drop, remainder_after-drop_all}
use Rattle.crc_frame.proofs.crc.divide_rest.Goals as goal

pub loop-word-preserved : goal.loop-word-preserved
loop-word-preserved c =
    let bytes = c.args.bytes.now in
    let r = c.loop-word.remainder in
    let i = c.loop-word.word-index in
    let within : i < length bytes / 8 = omega (arith, c.loop-word-test.true, c.as_chunks.ensures.front_len) in
    remainder_after-chunk 8 (length bytes / 8) r i bytes _ _ _ c.as_chunks.ensures.front within
    (c.divide_word-remainder.ensures ∙ ap (remainder_after r) (append-nil _)) ∙ c.loop-word.invariant

pub loop-byte-preserved : goal.loop-byte-preserved
loop-byte-preserved c =
    let tail = c.as_chunks.result.1.now in
    let i = c.loop-byte.byte-index in
    ap (λ (r : ℕ). remainder_after r (drop (i + 1) tail)) c.divide_byte-remainder.ensures
    ∙ sym (remainder_after-drop c.loop-byte.remainder tail i c.loop-byte-test.true) ∙ c.loop-byte.invariant

pub returns : goal.returns
returns c =
    sym (remainder_after-drop_all c.loop-byte.remainder c.as_chunks.result.1.now c.loop-byte.byte-index c.loop-byte-test.false) ∙ c.loop-byte.invariant
