use Rattle.std.proofs.Common.{◌<◌, ◌≤◌, ◌-◌, length, get_or}
use Rattle.settings_lines.proofs.Boundaries.{cut_at}
use Rattle.settings_lines.proofs.numbers.size_in.Goals as goal

pub split_at-requires : goal.split_at-requires
split_at-requires c =
    let n = c.digits_len.result in
    let within : n ≤ length c.args.text.now = rw c.as_bytes.ensures.value at c.digits_len.ensures.within in
    let ascii : 0 < n → get_or c.args.text.now (n - 1) 0 < 128 = rw c.as_bytes.ensures.value at c.digits_len.ensures.digit in
    (within, cut_at c.args.text.now n c.utf8.text ascii)
