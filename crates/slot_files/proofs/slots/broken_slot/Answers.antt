use Rattle.std.proofs.Common.{◌∙◌, rules}
use Rattle.std.proofs.Math.Path.{ap₂}
use Rattle.slot_files.proofs.Saying.{tells_crc, tells_turn, turn_read}
use Rattle.slot_files.proofs.slots.broken_slot.Goals as goal

pub returns-then-stored-computed : goal.returns-then-stored-computed
returns-then-stored-computed c =
    ap₂ (λ a b. (a, b)) c.from.ensures c.from-then-stored-computed.ensures
    ∙ tells_crc c.args.slot.now _ _ c.read_u32-stored.result c.crc32-computed.result c.split_at.ensures.front c.split_at.ensures.back c.read_u32-stored.ensures c.crc32-computed.ensures c.if-stored-computed.true

pub returns : goal.returns
returns c =
    tells_turn c.args.slot.now _ _ c.read_u32-stored.result c.crc32-computed.result c.split_at.ensures.front c.split_at.ensures.back c.read_u32-stored.ensures c.crc32-computed.ensures
    c.read_u64-turn.result c.saturating_sub.result (turn_read c.args.slot.now c.read_u64-turn.result c.read_u64-turn.ensures) (search rules) c.if-stored-computed.false
