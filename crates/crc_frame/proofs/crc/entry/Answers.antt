use Rattle.std.proofs.Common.{◌%◌, arith}
use Rattle.crc_frame.proofs.TablesCheck.{table_entry}
use Rattle.crc_frame.proofs.crc.entry.Goals as goal

pub returns : goal.returns
returns c = table_entry c.args.behind (c.args.sum % 256) _ c.requires (omega arith)
