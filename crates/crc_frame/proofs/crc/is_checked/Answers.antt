use Rattle.std.proofs.Common.{ℕ, ◌==◌, ap, ◌∙◌}
use Rattle.std.proofs.Math.Path.{ap₂}
use Rattle.byteorder.specs.Endian.{big_number}
use Rattle.crc_frame.specs.Crc.{crc32}
use Rattle.crc_frame.specs.Crc.{is_checked}
use Rattle.crc_frame.proofs.crc.is_checked.Goals as goal

pub returns : goal.returns
unfolding is_checked
returns c =
    ap₂ (λ (x y : ℕ). x == y) (c.read_u32.ensures ∙ ap (big_number 4) c.split_at.ensures.back) (c.crc32.ensures ∙ ap crc32 c.split_at.ensures.front)
