use Rattle.std.proofs.Common.{◌≡◌, ap, ◌∙◌, rules, arith, FitsSigned, w64, drop, length, length-drop, ◌-◌}
use Rattle.std.proofs.lemmas.List.{take_all}
use Rattle.byteorder.specs.Endian.{big_number}
use Rattle.element_code.proofs.Leaves.{sum_is}
use Rattle.dead_letters.specs.Records.{instant_of}
use Rattle.dead_letters.proofs.LetterReads.{told_moment}
use Rattle.dead_letters.proofs.moment.moment_in.Goals as goal

pub returns : goal.returns
returns c =
    let b = c.args.bytes.now in
    let s = c.read_i64-seconds.result in
    let n = c.read_u32-nanos.result in
    let fit : FitsSigned w64 s = search rules in
    let k : n ≡ big_number 4 (drop 8 b) = c.read_u32-nanos.ensures ∙ ap (big_number 4) (take_all (length b - 8) (drop 8 b) (omega (arith, length-drop 8 b))) in
    told_moment c.from_nanos.result s n _ (sum_is s n fit (omega arith)) (omega (arith, c.if-nanos-ge1000000000.false)) c.from_nanos.ensures
    ∙ ap (instant_of s) k ∙ ap (λ z. instant_of z (big_number 4 (drop 8 b))) c.read_i64-seconds.ensures
