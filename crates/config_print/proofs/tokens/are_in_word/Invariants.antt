use Rattle.std.proofs.Common.{◌≡◌, drop}
use Rattle.std.specs.List.{list_all}
use Rattle.config_lex.specs.Bytes.{is_in_word}
use Rattle.config_print.proofs.tokens.are_in_word.Given as goal

abbrev pub invariant-loop-byte : goal.invariant-loop-byte
invariant-loop-byte l = list_all (is_in_word l.dashes) l.text ≡ list_all (is_in_word l.dashes) (drop l.byte-index l.text)
