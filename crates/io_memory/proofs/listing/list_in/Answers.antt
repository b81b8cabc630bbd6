use Rattle.std.proofs.Common.{◌∙◌}
use Rattle.io_memory.proofs.PartLemmas.{lists_if}
use Rattle.io_memory.proofs.listing.list_in.Goals as goal

pub returns : goal.returns
returns c = lists_if c.as_str.result.now c.args.folder.now c.args.files.now c.parts_behind.result (c.as_str.ensures ∙ c.in_ok-start.ensures) c.parts_behind.ensures
