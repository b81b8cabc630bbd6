-- A text that reads as a configuration gives a printed text that reads as it.
use Rattle.std.proofs.Common.{◌≡◌, ℕ, List, sym, subst}
use Rattle.config_tree.specs.declared.tree.Config.{Config}
use Rattle.config_parse.specs.Grammar.{ReadsConfig}
use Rattle.config_parse.specs.Texts.{Reads}
use Rattle.config_lex.specs.Lexemes.{tokens}
use Rattle.config_print.proofs.Pieces.{Printed}
use Rattle.config_print.proofs.Again.{again_config}
use Rattle.config_print.specs.Layout.{tokens_of}
use Rattle.config_print.specs.Printed.{pieces, printed}
use Rattle.config_print.proofs.Fit.{Fit, lawful}
use Rattle.config_print.proofs.Placed.{placed_config}
use Rattle.config_print.proofs.LaidTokens.{laid_tokens, tokens_fit}

again : (levels : ℕ) (text : List ℕ) (config : Config) → Reads levels text config → Printed Fit (λ l. ReadsConfig levels l config) (pieces config)
again levels text config reads = again_config Fit lawful levels (tokens text) config reads (tokens_fit text)

-- the tokens of the printed text
pub printed_tokens : (levels : ℕ) (text : List ℕ) (config : Config) → Reads levels text config → tokens (printed config) ≡ tokens_of (pieces config)
unfolding printed
printed_tokens levels text config reads = let r = again levels text config reads in laid_tokens (pieces config) r.1 (placed_config levels (tokens_of (pieces config)) config r.0)

pub printed_reads : (levels : ℕ) (text : List ℕ) (config : Config) → Reads levels text config → Reads levels (printed config) config
printed_reads levels text config reads = subst (λ ts. ReadsConfig levels ts config) (sym (printed_tokens levels text config reads)) (again levels text config reads).0
