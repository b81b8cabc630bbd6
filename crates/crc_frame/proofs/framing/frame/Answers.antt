use Rattle.std.proofs.Common.{◌≡◌, ℕ, List, ◌++◌, drop, Result, Ok, Err, OnOk, is_ok, if◌then◌else◌, ap, ◌∙◌, arith}
use Rattle.std.proofs.lemmas.List.{take_rest}
use Rattle.byteorder.specs.Endian.{big_bytes}
use Rattle.crc_frame.specs.Crc.{crc32}
use Rattle.crc_frame.specs.Frames.{frame_of}
use Rattle.crc_frame.proofs.FrameLemmas.{frame_joined}
use Rattle.crc_frame.proofs.framing.frame.Goals as goal

on_ok : {T E : Type 0} (r : Result T E) (items more less framed : List ℕ) → items ≡ (if is_ok r then more else less) → more ≡ framed → OnOk r (items ≡ framed)
on_ok (Ok x) items more less framed is same = is ∙ same
on_ok (Err e) items more less framed is same = tt

pub returns-clause-ok : goal.returns-clause-ok
returns-clause-ok c =
    let old = c.args.to.now.items in
    let body = c.args.body.now in
    let head = c.frame_head.result in
    let sum = c.frame_crc-crc.result in
    let start = c.len-start.result in
    let items = c.extend_from_slice-2.new.self.items in
    let items_are : items ≡ old ++ head ++ body =
    c.in_ok-extend_from_slice-2.ensures.items
    ∙ ap (λ (xs : List ℕ). xs ++ body) (c.in_ok-extend_from_slice.ensures.items ∙ ap (λ (xs : List ℕ). xs ++ head) c.reserve.ensures.items) in
    let sum_is : sum ≡ big_bytes 4 (crc32 (drop start items)) =
    c.frame_crc-crc.ensures
    ∙ ap (λ (xs : List ℕ). big_bytes 4 (crc32 xs)) (take_rest c.deref.result.now start ∙ ap (drop start) c.deref.ensures.value) in
    on_ok c.extend_from_slice-3.result c.extend_from_slice-3.new.self.items (items ++ sum) items (old ++ frame_of c.args.number body)
    c.extend_from_slice-3.ensures.items
    (frame_joined c.args.number start body old head sum items c.frame_head.ensures (omega (arith, c.args.to.now.ok.0)) items_are sum_is)
