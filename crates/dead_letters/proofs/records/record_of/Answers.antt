use Rattle.std.proofs.Common.{◌-◌, sym, ◌∙◌, length, subst, arith}
use Rattle.dead_letters.specs.Records.{Told, fault}
use Rattle.dead_letters.proofs.RecordReads.{body_low, tells_fault, leaves_by, broken_by, stands_by}
use Rattle.dead_letters.proofs.records.record_of.Goals as goal

pub overflow_add-len : goal.overflow_add-len
overflow_add-len c = omega (arith, c.body_len-len.ensures, body_low c.args.bytes.now (λ i. omega (arith, c.type_inv.bytes i)))

pub overflow_add-end : goal.overflow_add-end
overflow_add-end c = omega (arith, c.body_len-len.ensures, body_low c.args.bytes.now (λ i. omega (arith, c.type_inv.bytes i)))

pub overflow_add-end-then-bytes-len : goal.overflow_add-end-then-bytes-len
overflow_add-end-then-bytes-len c = omega (arith, c.body_len-len.ensures, body_low c.args.bytes.now (λ i. omega (arith, c.type_inv.bytes i)), c.requires.small)

pub returns-then-bytes-len-clause-record : goal.returns-then-bytes-len-clause-record
returns-then-bytes-len-clause-record c =
    tells_fault c.fault_of.result _ _ c.fault_of.ensures (leaves_by (c.args.total - length c.args.bytes.now) c.args.total c.args.bytes.now c.body_len-len.result c.body_len-len.ensures c.if-bytes-len.true)

pub returns-then-stored-computed-clause-record : goal.returns-then-stored-computed-clause-record
returns-then-stored-computed-clause-record c =
    let place = c.args.total - length c.args.bytes.now in
    tells_fault c.fault_of-then-stored-computed.result (fault place c.read_u32-stored.result c.crc32-computed.result) _
    (c.fault_of-then-stored-computed.ensures ∙ search (c.from.ensures, c.from-then-stored-computed.ensures))
    (broken_by place c.args.total c.args.bytes.now c.body_len-len.result c.read_u32-stored.result c.crc32-computed.result c.body_len-len.ensures (omega (arith, c.if-bytes-len.false)) c.read_u32-stored.ensures c.crc32-computed.ensures c.if-stored-computed.true)

pub returns-clause-record : goal.returns-clause-record
returns-clause-record c =
    let place = c.args.total - length c.args.bytes.now in
    subst (Told (λ l. l) c.letter_in.result)
    (sym (stands_by place c.args.total c.args.bytes.now c.body_len-len.result c.read_u32-stored.result c.crc32-computed.result c.body_len-len.ensures (omega (arith, c.if-bytes-len.false)) c.read_u32-stored.ensures c.crc32-computed.ensures c.if-stored-computed.false))
    c.letter_in.ensures
