use Rattle.std.specs.Prelude.{nat_lt}
use Rattle.std.proofs.Common.{length, sym, ap, ◌∙◌}
use Rattle.line_outputs.proofs.Finding.{open_below}
use Rattle.line_outputs.proofs.open_file.is_open.Goals as goal

pub returns : goal.returns
returns c = ap (λ p. nat_lt p (length c.args.files.now)) c.place_of.ensures ∙ sym (open_below c.args.path.now c.args.files.now)
