use Rattle.std.proofs.Common.{sym, ap, ◌∙◌}
use Rattle.config_lex.specs.Lexemes.{tokens, place_of}
use Rattle.config_parse.proofs.One.{one_fault, one_deep, syntax_deep, read_fault, read_deep}
use Rattle.config_parse.proofs.grammar_laws.one_answer.Goals as goal

pub returns : goal.returns
returns c = record {
  syntax = λ levels text place other p q. p.2 ∙ ap (place_of text) (one_fault (tokens text) p.0 q.0 p.1.fault q.1.fault) ∙ sym q.2;
  deep = λ levels text place other p q. p.2 ∙ ap (place_of text) (one_deep levels (tokens text) p.0 q.0 p.1 q.1) ∙ sym q.2;
  apart = λ levels text place other p q. syntax_deep levels (tokens text) p.0 q.0 p.1 q.1;
  not_syntax = λ levels text config place r p. read_fault levels (tokens text) config p.0 r p.1.fault;
  not_deep = λ levels text config place r p. read_deep levels (tokens text) config p.0 r p.1;
}
