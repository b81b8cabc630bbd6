-- The command of the program: one simple command of `clap`, in which every value is a text.
use Rattle.std.specs.Prelude.{ℕ, List, [], ◌∷◌, codes, Some, true}
use Rattle.clap.specs.Walk.{Rule, Row, Text}
use Rattle.clap.specs.Simple.{App, Shape, new_app, new_rule, on_top, matches_of}
use Rattle.clap.specs.Faults.{fault_of}
use Rattle.clap.specs.Kinds.{Kinds}
use Rattle.clap.specs.declared.builder.action.ArgAction.TheVariants.{Set, SetTrue}

-- options whose id is their long word: with a text, with a short letter too, and with nothing
abbrev pub option : Text → Rule
option id = record (new_rule id) { long = Some id; action = Some Set }

abbrev pub short_option : Text → ℕ → Rule
short_option id letter = record (option id) { short = Some letter }

abbrev pub flag : Text → Rule
flag id = record (new_rule id) { long = Some id; action = Some SetTrue }

abbrev pub short_flag : Text → ℕ → Rule
short_flag id letter = record (flag id) { short = Some letter }

-- all words are the command's own, and it has none for help or its version
abbrev pub plain : Shape → Shape
plain s = record s { no_binary_name = true; disable_help_flag = true; disable_version_flag = true }

abbrev pub bare : App
bare = on_top plain (new_app (codes "logstash"))

-- the options
abbrev pub rules : List Rule
rules =
    short_option (codes "config.string") 101
    ∷ short_option (codes "path.config") 102
    ∷ short_flag (codes "config.test_and_exit") 116
    ∷ short_flag (codes "config.reload.automatic") 114
    ∷ short_option (codes "pipeline.workers") 119
    ∷ short_option (codes "pipeline.batch.size") 98
    ∷ option (codes "path.data")
    ∷ option (codes "path.settings")
    ∷ option (codes "pipeline.id")
    ∷ option (codes "sample")
    ∷ flag (codes "apart")
    ∷ option (codes "pqcheck")
    ∷ option (codes "pqrepair") ∷ []

abbrev pub app : App
app = on_top (λ s. record s { rules = rules }) bare

-- the faults that the command finds in words, of which it takes those without; and what it finds then
unfoldable pub faults : List Text → Kinds
faults words = fault_of app words

unfoldable pub found : List Text → List Row
found words = matches_of app words
