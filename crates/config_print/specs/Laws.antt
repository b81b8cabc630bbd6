-- What the laws say of a list of tokens, or of a text, in so many levels.
use Rattle.std.specs.Prelude.{◌≡◌, ℕ, List, []}
use Rattle.config_lex.specs.declared.token.Token.{Token}
use Rattle.config_tree.specs.declared.tree.Condition.{Condition}
use Rattle.config_tree.specs.declared.tree.Config.{Config}
use Rattle.config_parse.specs.Grammar.{ReadsConfig, ReadsCondition, ReadsSettings, ReadsPairs}
use Rattle.config_tree.specs.Joining.{Entries}
use Rattle.config_lex.specs.Lexemes.{tokens as tokens_in}
use Rattle.config_parse.specs.Texts.{Reads}
use Rattle.config_print.specs.declared.conditions.ConditionContext.TheVariants as at
use Rattle.config_print.specs.Layout.{tokens_of}
use Rattle.config_print.specs.Conditions.{condition}
use Rattle.config_print.specs.Printed.{pieces, printed}
use Rattle.config_print.specs.Once.{StandOnce}

-- the tokens that a condition is printed as read as that condition, where these tokens do
abbrev pub ConditionReadsAgain : ℕ → List Token → Type 0
ConditionReadsAgain levels tokens = (x : Condition) → ReadsCondition levels tokens x → ReadsCondition levels (tokens_of (condition x at.Whole)) x

-- the tokens that a configuration is printed as read as that configuration, where these tokens do
abbrev pub ConfigReadsAgain : ℕ → List Token → Type 0
ConfigReadsAgain levels tokens = (config : Config) → ReadsConfig levels tokens config → ReadsConfig levels (tokens_of (pieces config)) config

-- what these tokens read as behind the `{` of a plugin, or of a hash, stands once
abbrev pub SettingsStandOnce : ℕ → List Token → Type 0
SettingsStandOnce levels tokens = (entries : Entries) → ReadsSettings levels [] tokens entries → StandOnce entries

abbrev pub KeysStandOnce : ℕ → List Token → Type 0
KeysStandOnce levels tokens = (entries : Entries) → ReadsPairs levels [] tokens entries → StandOnce entries

-- the printed text of the configuration that this text reads as has the tokens that the configuration is printed as ..
abbrev pub HasPrintedTokens : ℕ → List ℕ → Type 0
HasPrintedTokens levels text = (config : Config) → Reads levels text config → tokens_in (printed config) ≡ tokens_of (pieces config)

-- .. and reads as it
abbrev pub PrintedReads : ℕ → List ℕ → Type 0
PrintedReads levels text = (config : Config) → Reads levels text config → Reads levels (printed config) config
