use Rattle.std.proofs.Common.{ap, ◌∙◌}
use Rattle.std.specs.Prelude.{is_some}
use Rattle.filter_settings.proofs.Setting as lemma
use Rattle.filter_settings.proofs.reading.stands.Goals as goal

pub returns-in-Some : goal.returns-in-Some
returns-in-Some c = ap is_some (rw c.in-Some.is at c.get.ensures) ∙ lemma.stands c.args.name.now c.args.settings.now.list

pub returns-in-None : goal.returns-in-None
returns-in-None c = ap is_some (rw c.in-None.is at c.get.ensures) ∙ lemma.stands c.args.name.now c.args.settings.now.list
