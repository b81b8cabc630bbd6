-- What the settings of an input say of its events, and of the lines of a generator (this project's table of plugins).
use Rattle.std.specs.Prelude.{ℕ, List, [], ◌∷◌, Option, Some, None}
use Rattle.event_text.specs.Options.{no_options}
use Rattle.in_lines.specs.declared.codec.Codec.{Codec}
use Rattle.in_lines.specs.declared.generator.GeneratedLines.{GeneratedLines}
use Rattle.in_lines.specs.declared.generator.GeneratedLines.TheVariants.{Texts, Sample}
use Rattle.in_lines.specs.declared.generator.Generator.{Generator}
use Rattle.in_lines.specs.declared.settings.EventSettings.{EventSettings}
use Rattle.plugin_settings.specs.declared.common.InputSettings.{InputSettings}
use Rattle.in_file.specs.declared.plan.FilePlan.{FilePlan}
use Rattle.plugin_settings.specs.declared.inputs.FileInputSettings.{FileInputSettings}
use Rattle.plugin_settings.specs.declared.inputs.GeneratorSettings.{GeneratorSettings}

-- what the settings that every input has say of its events
abbrev pub settings_of : InputSettings → EventSettings
settings_of s = record {
  codec = s.codec;
  event_type = s.event_type;
  options = record { add_field = s.add_field; remove_field = []; add_tag = s.tags; remove_tag = [] };
}

-- how the files of a path are watched
abbrev pub plan_of : FileInputSettings → FilePlan
plan_of f = record { from_start = f.from_start; ends = f.ends; codec = f.common.codec }

-- settings that change no event
abbrev pub plain_settings : Codec → EventSettings
plain_settings codec = record { codec = codec; event_type = None; options = no_options }

-- the lines of a generator: those of a sample where that is set, else its lines, else its message
abbrev pub lines_of : Option ℕ → Option (List (List ℕ)) → List ℕ → GeneratedLines
lines_of (Some from) texts message = Sample from
lines_of None (Some texts) message = Texts texts
lines_of None None message = Texts (message ∷ [])

abbrev pub generator_of : GeneratorSettings → Generator
generator_of g = record { lines = lines_of g.sample g.lines g.message; count = g.count; settings = settings_of g.common }
