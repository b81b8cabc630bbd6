-- The tables hold what their rule says: a computed check.
use Rattle.std.proofs.Common.{◌≡◌, ℕ, ◌<◌, ◌∷◌, List, map, replicate, get_or, refl, ap, ◌∙◌, arith}
use Rattle.std.specs.List.{range_with_len}
use Rattle.std.proofs.lemmas.List.FromFn.{get_or-map-range_with_len}
use Rattle.crc_frame.specs.declared.tables.TheConstants.{TABLES}
use Rattle.crc_frame.specs.Crc.{remainder_after}

rule : ℕ → ℕ → ℕ
rule behind byte = remainder_after 0 (byte ∷ replicate behind 0)

abbrev computed : ℕ → List ℕ
computed behind = map (rule behind) (range_with_len 0 256)

tables_are : TABLES ≡ map computed (range_with_len 0 16)
unfolding rule remainder_after
tables_are = refl

rule_is : (behind byte : ℕ) → rule behind byte ≡ remainder_after 0 (byte ∷ replicate behind 0)
unfolding rule
rule_is behind byte = refl

pub table_entry : (behind byte : ℕ) (d : List ℕ) → behind < 16 → byte < 256 → get_or (get_or TABLES behind d) byte 0 ≡ remainder_after 0 (byte ∷ replicate behind 0)
table_entry behind byte d few small =
    ap (λ (tables : List (List ℕ)). get_or (get_or tables behind d) byte 0) tables_are
    ∙ ap (λ (table : List ℕ). get_or table byte 0) (get_or-map-range_with_len computed 0 16 behind behind d few (omega arith))
    ∙ get_or-map-range_with_len (rule behind) 0 256 byte byte 0 small (omega arith) ∙ rule_is behind byte
