-- What becomes of the text of a configuration, where these boxes are handed in, and the folder of the queues is this one.
use Rattle.std.specs.Prelude.{◌≡◌, ◌≤◌, ◌<◌, ℕ, List, length, Ok, Err}
use Rattle.config_parse.specs.Texts.{Reads, IsSyntaxAt, IsDeepAt}
use Rattle.config_tree.specs.declared.tree.Config.{Config}
use Rattle.config_parse.specs.declared.text.TheConstants.{LENGTH, LEVELS}
use Rattle.config_parse.specs.declared.fault.ConfigFault.{ConfigFault}
use Rattle.config_parse.specs.declared.fault.ConfigFault.TheVariants.{Long, Syntax, Deep, Memory}
use Rattle.graph_checks.specs.Whole.{Given}
use Rattle.graph_checks.specs.declared.fault.GraphFault.{GraphFault}
use Rattle.logstash_top.specs.Built.{IsBuilt}
use Rattle.logstash_top.specs.Checks.{checked_all}

-- the text is the configuration, in the configuration language and its limits
abbrev pub IsConfig : List ℕ → Config → Type 0
IsConfig text config = (length text ≤ LENGTH) × Reads LEVELS text config

-- why the text is no configuration; want of memory is no such reason
abbrev pub IsRefusedFor : List ℕ → ConfigFault → Type 0
IsRefusedFor text Long = LENGTH < length text
IsRefusedFor text (Syntax at) = (length text ≤ LENGTH) × IsSyntaxAt LEVELS text at
IsRefusedFor text (Deep at) = (length text ≤ LENGTH) × IsDeepAt LEVELS text at
IsRefusedFor text Memory = ⊥

module _ (given : Given) (folder : List ℕ) where
  -- the text is this configuration, which the program runs
  abbrev pub IsRun : List ℕ → Config → Type 0
  IsRun text config = IsConfig text config × (checked_all given folder config ≡ Ok tt) × IsBuilt config

  -- the text is a configuration that passes its checks, and that the program doesn't run yet
  abbrev pub IsNotBuilt : List ℕ → Type 0
  IsNotBuilt text = (config : Config) × IsConfig text config × (checked_all given folder config ≡ Ok tt) × (IsBuilt config → ⊥)

  -- the text is a configuration whose first fault is this one
  abbrev pub FailsBy : List ℕ → GraphFault → Type 0
  FailsBy text fault = (config : Config) × IsConfig text config × (checked_all given folder config ≡ Err fault)
