use Rattle.std.proofs.Common.{◌≡◌, ℕ, List, refl}
use Rattle.config_lex.specs.Lexemes.{tokens, place_of}
use Rattle.config_parse.specs.GrammarAnswers.{Answer, reads, syntax, deep}
use Rattle.config_parse.specs.Machine.{verdict}
use Rattle.config_parse.specs.Verdicts.{Verdict}
use Rattle.config_parse.specs.Verdicts as is
use Rattle.config_parse.proofs.Taken.{taken}
use Rattle.config_parse.proofs.Deep.{is_syntax, is_deep}
use Rattle.config_parse.proofs.grammar_laws.has_an_answer.Goals as goal

by : (levels : ℕ) (text : List ℕ) (r : Verdict) → verdict levels (tokens text) ≡ r → Answer levels text
by levels text is.Reads h = let t = taken levels (tokens text) h in reads t.0 t.1
by levels text (is.Syntax left) h = syntax (place_of text left) (left, is_syntax levels (tokens text) left h, refl)
by levels text (is.Deep left) h = deep (place_of text left) (left, is_deep levels (tokens text) left h, refl)

pub returns : goal.returns
returns c = λ levels text. by levels text (verdict levels (tokens text)) refl
