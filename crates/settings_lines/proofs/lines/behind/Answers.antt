use Rattle.settings_lines.proofs.Boundaries.{cut_at}
use Rattle.settings_lines.proofs.lines.behind.Goals as goal

pub range_from-requires : goal.range_from-requires
range_from-requires c = λ some. (c.requires.within, cut_at c.args.text.now c.args.len c.utf8.text (λ more. c.requires.ascii))
