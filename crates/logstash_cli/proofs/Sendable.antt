-- Kits, jobs and what jobs give may go to another thread where their boxes may.
use Rattle.std.proofs.Crossing as std
use Rattle.std.proofs.MapsCrossing as maps
use denote.RattleType.{RattleType}
use denote.Param.Send.{IsSend, sendable}
use Rattle.regex_hir.proofs.hir.Hir.TheLaws.TheKnot as expressions
use Rattle.config_tree.proofs.tree.Condition.TheLaws.TheKnot as conditions
use Rattle.regex_nfa.proofs.state.State.TheSendSync as state_of_regex
use Rattle.regex_nfa.proofs.state.Transition.TheSendSync as transition_of_regex
use Rattle.regex_tagged.proofs.rows.Rows.TheSendSync as rows_of_regex
use Rattle.regex_tagged.proofs.tags.Tags.TheSendSync as tags_of_regex
use Rattle.regex_vm.proofs.frame.Frame.TheSendSync as frame_of_regex
use Rattle.regex_vm.proofs.pikevm.PikeVm.TheSendSync as pike_vm_of_regex
use Rattle.regex_vm.proofs.set.StateSet.TheSendSync as state_set_of_regex
use Rattle.regex_vm.proofs.visited.Visited.TheSendSync as visited_of_regex
use Rattle.event_text.proofs.options.Options.TheSendSync as options
use Rattle.event_text.proofs.template.Template.TheSendSync as template
use Rattle.event_tree.proofs.path.Path.TheSendSync as path
use Rattle.filter_settings.proofs.conversion.Conversion.TheSendSync as conversion
use Rattle.filters_shape.proofs.clone_filter.CloneFilter.TheSendSync as clone_filter
use Rattle.filters_shape.proofs.split_filter.SplitFilter.TheSendSync as split_filter
use Rattle.filters_shape.proofs.drop_filter.DropFilter.TheSendSync as drop_filter
use Rattle.filters_text.proofs.json_filter.Json.TheSendSync as json
use Rattle.filters_text.proofs.kv_filter.Kv.TheSendSync as kv
use Rattle.filters_text.proofs.csv_filter.Csv.TheSendSync as csv
use Rattle.filters_date.proofs.date_filter.DateFilter.TheSendSync as date_filter
use Rattle.grok_patterns.proofs.expansion.ExpansionRules.TheSendSync as rules
use Rattle.built_plugins.proofs.boxed.BoxedFilter.TheSendSync as boxed_filter
use Rattle.built_plugins.proofs.output.OutputTargets.TheSendSync as output
use Rattle.built_plugins.proofs.output.Target.TheSendSync as target
use Rattle.plain_data.proofs.items.Items.TheSendSync as items
use Rattle.plain_data.proofs.text.Text.TheSendSync as text
use Rattle.config_tree.proofs.operators.Conjunction.TheSendSync as conjunction
use Rattle.config_tree.proofs.operators.Disjunction.TheSendSync as disjunction
use Rattle.config_tree.proofs.tree.Literal.TheSendSync as literal
use Rattle.plain_data.proofs.boxed.Boxed.TheSendSync as boxed
use Rattle.event_tree.proofs.number.Number.TheSendSync as number
use Rattle.pattern_box.specs.contracts.pattern.Pattern as Pattern
use Rattle.filters_mutate.specs.contracts.gsub.Gsub as Gsub
use Rattle.filters_mutate.specs.contracts.mutate.Mutate as Mutate
use Rattle.filters_grok.specs.contracts.grok_pattern.GrokPattern as GrokPattern
use Rattle.filters_grok.specs.contracts.grok.Grok as Grok
use Rattle.built_plugins.specs.contracts.condition.NamedCondition as NamedCondition
use Rattle.built_plugins.specs.contracts.condition.CompiledCondition as CompiledCondition
use Rattle.built_plugins.specs.contracts.built.BuiltFilter as BuiltFilter
use Rattle.built_plugins.specs.contracts.filter.Filter as Filter
use Rattle.graph_checks.specs.contracts.drawn.Drawn as Drawn
use Rattle.graph_checks.proofs.drawn.Drawn.TheSendSync as drawn_box
use Rattle.graph_checks.proofs.want.Want.TheSendSync as want
use Rattle.plugin_graph.specs.contracts.kit_filter.KitFilter as KitFilter
use Rattle.plugin_graph.specs.contracts.kit.Kit as Kit
use Rattle.event_tree.proofs.value.Value.TheLaws.TheKnot as values
use Rattle.plain_data.proofs.fields.Fields.TheSendSync as fields
use Rattle.plain_data.proofs.instant.Instant.TheSendSync as instant
use Rattle.built_plugins.proofs.shared.Shared.TheSendSync as shared
use Rattle.plugin_graph.proofs.graph.Graph.TheSendSync as graph
use Rattle.graph_checks.proofs.planned.PlannedOutputs.TheSendSync as outgoing
use Rattle.event_tree.specs.contracts.event.Event as Event
use Rattle.line_jobs.specs.contracts.batch_result.BatchResult as BatchResult
use Rattle.line_jobs.specs.contracts.job.Job as Job
use Rattle.line_jobs.specs.contracts.job.JobDone as JobDone

ruleset base = (items.the_send, text.the_send, path.the_send, maps.crosses, std.crosses, sendable)

pattern : IsSend Pattern.the_row
pattern = search (expressions.crosses, state_of_regex.the_send, transition_of_regex.the_send, rows_of_regex.the_send, tags_of_regex.the_send, frame_of_regex.the_send, pike_vm_of_regex.the_send, state_set_of_regex.the_send, visited_of_regex.the_send, maps.crosses, std.crosses, sendable) depth 80 fits 100000

gsub : IsSend Gsub.the_row
gsub = search (pattern, base) depth 80 fits 100000

mutate : IsSend (Mutate.the_field).row
mutate = search (gsub, template.the_send, conversion.the_send, options.the_field_send, base) depth 80 fits 100000

grok_pattern : IsSend GrokPattern.the_row
grok_pattern = search (pattern, base) depth 80 fits 100000

grok : IsSend (Grok.the_field).row
grok = search (grok_pattern, rules.the_field_send, options.the_field_send, base) depth 80 fits 100000

named : IsSend (NamedCondition.the_field).row
named = search (conditions.crosses, conjunction.the_send, disjunction.the_send, literal.the_send, boxed.the_send, number.the_send, base) depth 80 fits 100000

compiled : IsSend CompiledCondition.the_row
compiled = search (named, pattern, base) depth 80 fits 100000

built : IsSend (BuiltFilter.the_field).row
built = search (mutate, grok, clone_filter.the_field_send, split_filter.the_field_send, drop_filter.the_field_send, json.the_field_send, kv.the_field_send, csv.the_field_send, date_filter.the_field_send, base) depth 80 fits 100000

filter : IsSend (Filter.the_field).row
filter = search (built, boxed_filter.the_field_send, base) depth 80 fits 100000

event : IsSend Event.the_row
event = search (values.crosses, number.the_send, fields.the_send, instant.the_send, base) depth 80 fits 100000

made : IsSend (BatchResult.the_field).row
made = search (event, shared.the_send, target.the_field_send, target.the_field_sync, base) depth 80 fits 100000

module _ (X : RattleType) (boxes : IsSend X) where
  kit_filter : IsSend (KitFilter.the_field X).row
  kit_filter = search (filter, boxes, base) depth 80 fits 100000

  pub kit : IsSend (Kit.the_row X)
  kit = search (kit_filter, compiled, output.the_field_send, target.the_field_send, base) depth 80 fits 100000

  kit_field : IsSend (Kit.the_field X).row
  kit_field = search (kit_filter, compiled, output.the_field_send, target.the_field_send, base) depth 80 fits 100000

  pub job : IsSend (Job.the_row X)
  job = search (kit_field, event, shared.the_send, graph.the_field_send, graph.the_field_sync, outgoing.the_field_send, outgoing.the_field_sync, base) depth 80 fits 100000

  pub job_done : IsSend (JobDone.the_row X)
  job_done = search (kit_field, made, base) depth 80 fits 100000

module _ (F : RattleType) (plugged : IsSend F) where
  pub drawn : IsSend (Drawn.the_row F)
  drawn = search (drawn_box.the_send, plugged, want.the_send, want.the_field_send, base) depth 80 fits 100000
