use Rattle.std.proofs.Common.{◌≡◌, ◌++◌, drop, string_bytes}
use Rattle.std.specs.Prelude.{codes}
use Rattle.config_print.specs.Printed.{plugin_lines}
use Rattle.config_print.specs.Layout.{text_of}
use Rattle.config_print.proofs.statements.add_plugins.Given as goal

abbrev pub invariant-loop-plugin : goal.invariant-loop-plugin
invariant-loop-plugin l = string_bytes l.to ++ text_of (plugin_lines l.inner (drop l.plugin-index l.list)) ≡ string_bytes l.fn.to ++ (codes " {" ++ text_of (plugin_lines l.inner l.list))
