use Rattle.std.proofs.Common.{◌≡◌, ◌++◌, List, ℕ, drop, ap, ◌∙◌, arith}
use Rattle.std.proofs.lemmas.List.{take_rest}
use Rattle.byteorder.specs.Endian.{big_bytes}
use Rattle.crc_frame.specs.Crc.{crc32}
use Rattle.crc_frame.specs.Fronts.{count_bytes}
use Rattle.dead_letters.specs.Letters.{letter_body}
use Rattle.dead_letters.proofs.RecordReads.{joined}
use Rattle.dead_letters.proofs.writing.write_record.Goals as goal

pub returns-clause-record : goal.returns-clause-record
returns-clause-record c =
    let old = c.args.to.now.items in
    let head = c.length_bytes.result in
    let body = letter_body c.args.letter.now in
    let sum = c.frame_crc-crc.result in
    let start = c.len-start.result in
    let items = c.write_body.new.to.items in
    let items_are : items ≡ (old ++ head) ++ body = c.in_ok-write_body.ensures.body ∙ ap (λ (l : List ℕ). l ++ body) c.in_ok-extend_from_slice.ensures.items in
    let sum_is : sum ≡ big_bytes 4 (crc32 (drop start items)) =
    c.frame_crc-crc.ensures ∙ ap (λ (xs : List ℕ). big_bytes 4 (crc32 xs)) (take_rest c.deref.result.now start ∙ ap (drop start) c.deref.ensures.value) in
    c.in_ok-extend_from_slice-2.ensures.items
    ∙ joined old head body sum items start (omega (arith, c.args.to.now.ok.0)) (c.length_bytes.ensures ∙ ap count_bytes c.body_len.ensures) items_are sum_is
