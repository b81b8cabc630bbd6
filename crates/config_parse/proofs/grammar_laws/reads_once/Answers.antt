use Rattle.std.proofs.Common.{sym, ◌∙◌}
use Rattle.config_parse.proofs.Takes.{take_sections, ok_is}
use Rattle.config_parse.proofs.grammar_laws.reads_once.Goals as goal

pub returns : goal.returns
returns c = record {
  text = λ levels text config other p q. ok_is (sym (take_sections p) ∙ take_sections q);
  tokens = λ levels tokens config other p q. ok_is (sym (take_sections p) ∙ take_sections q);
}
