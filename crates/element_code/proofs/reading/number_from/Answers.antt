use Rattle.std.proofs.Common.{◌≡◌, sym, ap, ◌∙◌, rules, arith, slice_index, Some, to_z-of_z, FitsSigned}
use Rattle.std.proofs.lemmas.Int.{ints}
use Rattle.std.specs.Int.{w64, cast_signed}
use Rattle.byteorder.specs.Endian.{big_number}
use Rattle.event_tree.specs.Number.{least}
use Rattle.element_code.specs.Reading.{exact_number}
use Rattle.element_code.proofs.Leaves.{last_byte, same_parts}
use Rattle.element_code.proofs.reading.number_from.Goals as goal

pub returns : goal.returns
returns c =
    let n = c.in_ok-number.number in
    let m : n.mantissa ≡ c.read_i64-mantissa.result = sym c.mantissa.ensures ∙ omega (arith, ints, c.if-mantissa.false, c.mantissa.type_inv, c.read_i64-mantissa.type_inv) in
    let s : n.scale ≡ slice_index c.args.bytes.now 8 = sym c.scale.ensures.value ∙ c.if-scale.false in
    let b = c.args.bytes.now in
    let z : c.read_i64-mantissa.result ≡ cast_signed w64 (big_number 8 b) = c.read_i64-mantissa.ensures in
    let fit : FitsSigned w64 c.read_i64-mantissa.result = search rules in
    let e : least (cast_signed w64 (big_number 8 b)) (slice_index b 8) ≡ Some n = ap (λ y. least y (slice_index b 8)) (sym z ∙ sym (to_z-of_z fit)) ∙ sym c.in_ok-number.ensures in
    sym (ap (exact_number (cast_signed w64 (big_number 8 b))) (last_byte b) ∙ same_parts (cast_signed w64 (big_number 8 b)) (slice_index b 8) n e (m ∙ z) s)
