use Rattle.std.proofs.Common.{ap, length, arith}
use Rattle.dead_letters.proofs.RecordReads.{records_are_spelled}
use Rattle.dead_letters.proofs.entries.rows_in.Goals as goal

pub placed-requires-clause-are : goal.placed-requires-clause-are
placed-requires-clause-are c = (records_are_spelled c.args.bytes.now c.in_ok-letters.letters (λ i. omega (arith, c.type_inv.bytes i)) c.in_ok-letters.ensures).0

pub placed-requires-clause-room : goal.placed-requires-clause-room
placed-requires-clause-room c =
    let is = (records_are_spelled c.args.bytes.now c.in_ok-letters.letters (λ i. omega (arith, c.type_inv.bytes i)) c.in_ok-letters.ensures).1 in
    omega (arith, ap length is)
