use Rattle.std.proofs.Common.{◌≡◌, ℕ, List, ◌++◌, length, drop, ap, ◌∙◌, sym, append_assoc, arith}
use Rattle.std.proofs.lemmas.List.{take_rest}
use Rattle.byteorder.specs.Endian.{big_bytes}
use Rattle.crc_frame.specs.Crc.{crc32}
use Rattle.crc_frame.proofs.FrameLemmas.{frame_joined}
use Rattle.element_code.specs.RowBodies.{row_spelling}
use Rattle.queue_page.proofs.NextRows.{written}
use Rattle.queue_page.proofs.framing.add_element.Goals as goal

pub returns : goal.returns
returns c =
    let old = c.args.to.now.items in
    let body = row_spelling c.args.origin.now c.args.event.now in
    let head = c.frame_head.result in
    let start = c.len-start.result in
    let items = c.encode_row.new.to.items in
    let size : c.args.body_len ≡ length body = sym c.requires.size in
    let head_is : head ≡ big_bytes 8 c.args.number ++ big_bytes 4 (length body) = c.frame_head.ensures ∙ ap (λ (n : ℕ). big_bytes 8 c.args.number ++ big_bytes 4 n) size in
    let items_are : items ≡ old ++ head ++ body =
    c.in_ok-encode_row.ensures.ok ∙ ap (λ (xs : List ℕ). xs ++ body) (c.in_ok-extend_from_slice.ensures.items ∙ ap (λ (xs : List ℕ). xs ++ head) c.reserve.ensures.items) in
    let sum_is : c.frame_crc-crc.result ≡ big_bytes 4 (crc32 (drop start items)) =
    c.frame_crc-crc.ensures ∙ ap (λ (xs : List ℕ). big_bytes 4 (crc32 xs)) (take_rest c.deref.result.now start ∙ ap (drop start) c.deref.ensures.value) in
    written c.extend_from_slice-2.result old items (items ++ c.frame_crc-crc.result) c.extend_from_slice-2.new.self.items _ c.extend_from_slice-2.ensures.items
    (frame_joined c.args.number start body old head c.frame_crc-crc.result items head_is (omega (arith, c.args.to.now.ok.0)) items_are sum_is)
    (head ++ body, items_are ∙ append_assoc old head body)
