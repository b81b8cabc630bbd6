-- What the words of the command line ask of the program.
use Rattle.std.specs.Prelude.{ℕ, ◌||◌, Bool, true, false, not, if◌then◌else◌, Option, Some, None, is_some, Result, Ok, Err}
use Rattle.settings_lines.specs.declared.orders.ConfigSource.{ConfigSource}
use Rattle.settings_lines.specs.declared.orders.ConfigSource.TheVariants as source
use Rattle.settings_lines.specs.declared.orders.Orders.{Orders}
use Rattle.settings_lines.specs.declared.orders.QueueTool.{QueueTool}
use Rattle.settings_lines.specs.declared.orders.QueueTool.TheVariants as tool
use Rattle.settings_lines.specs.Own.{own_settings}
use Rattle.settings_lines.specs.declared.settings.PipelineSettings.{PipelineSettings}
use Rattle.logstash_settings.specs.Words.{Answer}
use Rattle.logstash_top.specs.declared.status.Status.{Status}
use Rattle.logstash_top.specs.declared.status.Status.TheVariants.{BadWords, WordsNotBuilt}
use Rattle.logstash_top.specs.declared.requested_call.Which.{Which}
use Rattle.logstash_top.specs.declared.requested_call.Which.TheVariants.{Run, Test, Apart, Check, Repair}

-- the source is a text, or a path
abbrev pub is_one_text : ConfigSource → Bool
is_one_text (source.Text text) = true
is_one_text (source.Path path) = true
is_one_text (source.Sample events) = false
is_one_text source.Pipelines = false

-- orders that have what isn't built yet: a look for changes, threads apart, a tool, a sample, or several pipelines
abbrev pub has_more : Orders → Bool
has_more orders = orders.reload || orders.apart || is_some orders.tool || not (is_one_text orders.source)

-- the settings of the pipeline that words name, or why there are none
abbrev pub settings_of : Orders → Result PipelineSettings Status
settings_of orders = if has_more orders then Err WordsNotBuilt else Ok (own_settings orders)

abbrev pub settings_asked : Answer → Result PipelineSettings Status
settings_asked (Ok orders) = settings_of orders
settings_asked (Err fault) = Err (BadWords fault)

-- the call that orders are for where they have no tool; `-t` comes before `--apart`
abbrev pub call_without_tool : Orders → Which
call_without_tool orders = if orders.test then Test else (if orders.apart then Apart else Run)

-- the call of a tool, or else that one
abbrev pub call_of_tool : Option QueueTool → Which → Which
call_of_tool (Some (tool.Check id)) other = Check
call_of_tool (Some (tool.Repair id)) other = Repair
call_of_tool None other = other

-- the call that orders are for; a tool comes before the others
abbrev pub call_of : Orders → Which
call_of orders = call_of_tool orders.tool (call_without_tool orders)

-- the call that words are for
abbrev pub which_of : Answer → Which
which_of (Ok orders) = call_of orders
which_of (Err fault) = Run

-- the workers of words, or the default
abbrev pub workers_of : Answer → ℕ
workers_of (Ok orders) = orders.workers
workers_of (Err fault) = 2
