use Rattle.std.proofs.Common.{ℕ, List, ◌++◌, take, drop, bit_xor, replicate, sym, ap, ◌∙◌, arith, length-drop}
use Rattle.std.proofs.Math.Path.{ap₂}
use Rattle.std.proofs.lemmas.List.{take-append-drop, append-nil}
use Rattle.std.proofs.lemmas.Nat.{xor_comm}
use Rattle.crc_frame.specs.Crc.{remainder_after}
use Rattle.crc_frame.proofs.Division.{remainder_after-append, remainder_after-apart}
use Rattle.crc_frame.proofs.Numbers.{IsBytes-drop}
use Rattle.crc_frame.proofs.crc.divide_chunk.Goals as goal

pub returns : goal.returns
returns c =
    let r = c.args.remainder in
    let chunk = c.args.chunk.now in
    let first = take 8 chunk in
    let second = drop 8 chunk in
    let long = c.told-chunk in
    ap₂ bit_xor
    (c.divide_word.ensures ∙ ap (remainder_after 0) (append-nil _ ∙ c.split_at.ensures.back))
    (c.divide_word-2.ensures ∙ ap (λ (xs : List ℕ). remainder_after r (xs ++ replicate 8 0)) c.split_at.ensures.front
    ∙ remainder_after-append r first (replicate 8 0))
    ∙ xor_comm (remainder_after 0 second) (remainder_after (remainder_after r first) (replicate 8 0))
    ∙ sym (remainder_after-apart 8 (remainder_after r first) second (omega (arith, length-drop 8 chunk, long)) (IsBytes-drop 8 chunk c.fits-chunk))
    ∙ sym (remainder_after-append r first second) ∙ ap (remainder_after r) (take-append-drop 8 chunk)
