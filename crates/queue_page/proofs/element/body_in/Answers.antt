use Rattle.std.proofs.Common.{sym, ap, ◌∙◌, drop}
use Rattle.std.proofs.lemmas.List.{take_rest}
use Rattle.byteorder.specs.Endian.{big_number}
use Rattle.crc_frame.specs.Crc.{crc32}
use Rattle.std.proofs.Math.Path.{ap₂}
use Rattle.queue_page.specs.Elements.{misfit}
use Rattle.queue_page.proofs.element.body_in.Goals as goal

pub returns-then-stored-computed-clause-differs : goal.returns-then-stored-computed-clause-differs
returns-then-stored-computed-clause-differs c =
    let stored = c.read_u32-stored.ensures ∙ ap (big_number 4) c.split_at.ensures.back in
    let computed = c.crc32-computed.ensures ∙ ap crc32 c.split_at.ensures.front in (
      λ same. c.if-stored-computed.true (stored ∙ same ∙ sym computed),
      ap₂ (misfit c.args.spot.now.place) (c.from.ensures ∙ stored) (c.from-then-stored-computed.ensures ∙ computed),
    )

pub returns-clause-body : goal.returns-clause-body
returns-clause-body c = take_rest c.split_at.result.0.now 12 ∙ ap (drop 12) c.split_at.ensures.front

pub returns-clause-matches : goal.returns-clause-matches
returns-clause-matches c =
    let stored = c.read_u32-stored.ensures ∙ ap (big_number 4) c.split_at.ensures.back in
    let computed = c.crc32-computed.ensures ∙ ap crc32 c.split_at.ensures.front in
    sym stored ∙ c.if-stored-computed.false ∙ computed
