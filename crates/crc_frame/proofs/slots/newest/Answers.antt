use Rattle.std.proofs.Common.{◌∙◌, arith}
use Rattle.std.proofs.Math.Path.{ap₂}
use Rattle.crc_frame.specs.Slots.{newest_of}
use Rattle.crc_frame.proofs.SlotLemmas.{newest_newer, none_intact}
use Rattle.crc_frame.proofs.slots.newest.Goals as goal

pub returns-clause-newer : goal.returns-clause-newer
returns-clause-newer c =
    newest_newer c.args.width c.args.file.now (omega arith) c.newest_of.result (c.newest_of.ensures ∙ ap₂ newest_of c.slot_at.ensures c.slot_at-2.ensures)

pub returns-clause-none : goal.returns-clause-none
returns-clause-none c =
    none_intact c.args.width c.args.file.now (omega arith) c.newest_of.result (c.newest_of.ensures ∙ ap₂ newest_of c.slot_at.ensures c.slot_at-2.ensures)
