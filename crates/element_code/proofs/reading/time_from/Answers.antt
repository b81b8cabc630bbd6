use Rattle.std.proofs.Common.{◌≡◌, sym, ap, ◌∙◌, rules, arith, FitsSigned, w64, drop, length, length-drop, ◌-◌}
use Rattle.std.proofs.lemmas.List.{take_all}
use Rattle.byteorder.specs.Endian.{big_number}
use Rattle.element_code.specs.Reading.{moment_of}
use Rattle.element_code.proofs.Leaves.{moment_is, sum_is}
use Rattle.element_code.proofs.reading.time_from.Goals as goal

pub returns : goal.returns
returns c =
    let b = c.args.bytes.now in
    let n = c.read_u32-nanos.result in
    let fit : FitsSigned w64 c.read_i64-seconds.result = search rules in
    let e = c.in_ok-moment.ensures.1 ∙ sum_is c.read_i64-seconds.result n fit (omega arith) in
    let k : n ≡ big_number 4 (drop 8 b) = c.read_u32-nanos.ensures ∙ ap (big_number 4) (take_all (length b - 8) (drop 8 b) (omega (arith, length-drop 8 b))) in
    sym (ap (λ s. moment_of s (big_number 4 (drop 8 b))) (sym c.read_i64-seconds.ensures) ∙ ap (moment_of c.read_i64-seconds.result) (sym k)
    ∙ moment_is c.read_i64-seconds.result n c.in_ok-moment.moment (omega arith) e (search rules))
