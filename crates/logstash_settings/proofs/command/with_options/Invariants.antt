use Rattle.std.proofs.Common.{◌≡◌, drop}
use Rattle.clap.specs.Simple.{app_of}
use Rattle.logstash_settings.specs.Options.{with_options}
use Rattle.logstash_settings.proofs.command.with_options.Given as goal

abbrev pub invariant-loop-option : goal.invariant-loop-option
invariant-loop-option l = with_options (app_of l.command) (drop l.option-index l.options) ≡ with_options (app_of l.fn.start) l.fn.options
