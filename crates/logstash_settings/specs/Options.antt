-- The options of the command as a table of them has them.
use Rattle.std.specs.Prelude.{ℕ, List, [], ◌∷◌, Bool, true, false, Option, Some, None}
use Rattle.clap.specs.Walk.{Rule, Text}
use Rattle.clap.specs.Simple.{App, with_rule}
use Rattle.logstash_settings.specs.Command.{option, flag}
use Rattle.logstash_settings.specs.declared.command.CommandOption.{CommandOption}

abbrev pub long_rule : Text → Bool → Rule
long_rule id true = option id
long_rule id false = flag id

abbrev pub with_letter : Rule → Option ℕ → Rule
with_letter r None = r
with_letter r (Some letter) = record r { short = Some letter }

abbrev pub rule : CommandOption → Rule
rule o = with_letter (long_rule o.id.now o.takes_text) o.letter

-- a command with options, one behind the other
abbrev pub with_options : App → List CommandOption → App
with_options a [] = a
with_options a (o ∷ os) = with_options (with_rule a (rule o)) os
