use Rattle.std.proofs.Common.{ap, ◌∙◌}
use Rattle.std.proofs.lemmas.List.{take_rest}
use Rattle.byteorder.specs.Endian.{big_number}
use Rattle.dead_letters.specs.Segments.{segments, first_of, last_of, length_of}
use Rattle.dead_letters.proofs.segment_slot.segments_of.Goals as goal

pub returns : goal.returns
unfolding first_of last_of length_of
returns c =
    let slot = c.args.slot.now in
    let first = c.read_u32.ensures ∙ ap (big_number 4) (take_rest slot 10) in
    let last = c.read_u32-2.ensures ∙ ap (big_number 4) (take_rest slot 14) in
    let length = c.read_u64.ensures ∙ ap (big_number 8) (take_rest slot 18) in
    ap (λ f. segments f c.read_u32-2.result c.read_u64.result) first ∙ ap (λ l. segments (first_of slot) l c.read_u64.result) last ∙ ap (segments (first_of slot) (last_of slot)) length
