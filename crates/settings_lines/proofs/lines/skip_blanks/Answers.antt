use Rattle.settings_lines.proofs.Blanks.{trimmed_start}
use Rattle.settings_lines.proofs.lines.skip_blanks.Goals as goal

pub returns : goal.returns
returns c = trimmed_start c.args.text.now c.trim_start_matches.result.now c.trim_start_matches.ensures.matches
