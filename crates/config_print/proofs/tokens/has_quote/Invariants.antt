use Rattle.std.proofs.Common.{◌≡◌, drop, false}
use Rattle.config_print.specs.Tokens.{has_quote}
use Rattle.config_print.proofs.tokens.has_quote.Given as goal

abbrev pub invariant-loop-byte : goal.invariant-loop-byte
invariant-loop-byte l = has_quote false l.text ≡ has_quote l.escaped (drop l.byte-index l.text)
