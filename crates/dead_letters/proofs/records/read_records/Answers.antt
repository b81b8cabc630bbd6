use Rattle.std.proofs.Common.{◌≡◌, ◌<◌, ◌==◌, false, sym, ap, ◌∙◌, length, arith, length-drop, ◌+◌}
use Rattle.std.proofs.lemmas.Bool.Decides.{nat_tests}
use Rattle.dead_letters.specs.Records.{body_length}
use Rattle.dead_letters.proofs.RecordReads.{begun, reads_on}
use Rattle.dead_letters.proofs.records.read_records.Goals as goal

pub loop-init : goal.loop-init
loop-init c = record { read = rw c.new-letters.ensures (begun c.args.bytes.now); short = omega arith }

pub loop-preserved : goal.loop-preserved
loop-preserved c =
    let rest = c.loop.rest.now in
    let empty : (length rest == 0) ≡ false = sym c.is_empty.ensures ∙ c.if-is_empty.false in
    let some : 0 < length rest = grind (arith, nat_tests, empty) in
    record {
      read = rw (c.in_ok-push.ensures.ok, c.behind_record-rest.ensures) (reads_on c.loop.letters c.loop.counter c.args.bytes.now rest c.loop-test.true some c.loop.invariant.read c.in_ok-record_of.field-0 c.in_ok-record_of.ensures.record);
      short = omega (arith, ap length c.behind_record-rest.ensures, length-drop (body_length rest + 8) rest, c.loop.invariant.short);
    }
