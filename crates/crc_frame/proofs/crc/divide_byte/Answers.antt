use Rattle.std.proofs.Common.{◌≡◌, ℕ, ◌%◌, bit_xor, [], ◌∷◌, ap, ◌∙◌, arith}
use Rattle.crc_frame.specs.Crc.{remainder_after}
use Rattle.crc_frame.proofs.Division.{byte_by_table}
use Rattle.crc_frame.proofs.crc.divide_byte.Goals as goal

pub returns : goal.returns
returns c =
    let sum : c.from-2.result ≡ bit_xor c.args.remainder c.args.byte = c.from-2.ensures ∙ ap (bit_xor c.args.remainder) c.from.ensures in
    byte_by_table c.args.remainder c.args.byte c.entry.result (omega arith) (c.entry.ensures ∙ ap (λ (x : ℕ). remainder_after 0 ((x % 256) ∷ [])) sum)
