use Rattle.line_folder.proofs.NameParts.{names_tell_parts}
use Rattle.line_folder.proofs.laws.names_tell_parts.Goals as goal

pub returns : goal.returns
returns c = names_tell_parts
