-- What is due to be delivered of the events that outputs send, target by target.
use Rattle.std.specs.Prelude.{ℕ, suc, List, [], ◌∷◌, ◌++◌, Bool, ◌&&◌, if◌then◌else◌, bytes_eq, Option}
use Rattle.event_tree.specs.Events.{Ev}
use Rattle.event_tree.specs.Paths.{over}
use Rattle.event_flow.specs.Meaning.{same_place}
use Rattle.in_lines.specs.Written.{out_bytes}
use Rattle.in_lines.specs.declared.codec.OutCodec.{OutCodec}
use Rattle.built_plugins.specs.declared.output.OutputTargets.{OutputTargets}
use Rattle.built_plugins.specs.declared.output.Target.{Target}
use Rattle.plugin_graph.specs.declared.passage.Sent.{Sent}
use Rattle.graph_checks.specs.Planned.{codec_at}
use Rattle.graph_checks.specs.declared.planned.PlannedOutputs.{PlannedOutputs}
use Rattle.line_jobs.specs.declared.batch_result.DueDelivery.{DueDelivery}
use Rattle.line_jobs.specs.declared.sorting.PartedSent.{PartedSent}

-- whether an event is sent to a target: by the target's output, to its place
abbrev pub goes_to : Target → Sent → Bool
goes_to t s = bytes_eq t.output s.target.output && same_place t.place s.target.place

-- the events that go to a target, in order
abbrev pub events_to : Target → List Sent → List Ev
events_to t [] = []
events_to t (s ∷ sent) = if goes_to t s then s.event ∷ events_to t sent else events_to t sent

-- what is sent elsewhere, in order
abbrev pub sent_elsewhere : Target → List Sent → List Sent
sent_elsewhere t [] = []
sent_elsewhere t (s ∷ sent) = if goes_to t s then sent_elsewhere t sent else s ∷ sent_elsewhere t sent

-- the place of the output of an id among outputs, or how many there are
abbrev pub place_of : List ℕ → List OutputTargets → ℕ
place_of id [] = 0
place_of id (o ∷ os) = if bytes_eq id o.id then 0 else suc (place_of id os)

-- how the output of a target writes events, where it writes them to stdout or a file
abbrev pub codec_for : PlannedOutputs → Target → Option OutCodec
codec_for outgoing t = codec_at outgoing.settings (place_of t.output outgoing.outputs.outputs)

-- what it writes of events, and nothing where it has no codec
abbrev pub written : PlannedOutputs → Target → List Ev → List ℕ
written outgoing t es = over (λ codec. out_bytes codec es) [] (codec_for outgoing t)

-- what is due to a target; no events are left out
abbrev pub delivery : PlannedOutputs → Target → List Ev → List DueDelivery
delivery outgoing t [] = []
delivery outgoing t (e ∷ es) = record { target = t; events = e ∷ es; bytes = written outgoing t (e ∷ es) } ∷ []

-- target by target, the events that go there and to no earlier one
abbrev pub deliveries_to : PlannedOutputs → List Target → List Sent → List DueDelivery
deliveries_to outgoing [] sent = []
deliveries_to outgoing (t ∷ ts) sent = delivery outgoing t (events_to t sent) ++ deliveries_to outgoing ts (sent_elsewhere t sent)

-- the same of all targets of a plan: of each output in the order of the text, and of each of its places in order
abbrev pub deliveries_of : PlannedOutputs → List Sent → List DueDelivery
deliveries_of outgoing sent = deliveries_to outgoing outgoing.outputs.targets sent

-- what is sent, parted by a target
abbrev pub parted : Target → List Sent → PartedSent
parted t sent = record { events = events_to t sent; others = sent_elsewhere t sent }

-- what was parted so far, with what is sent behind it
abbrev pub with_sent : Target → Sent → PartedSent → PartedSent
with_sent t s p = if goes_to t s then record { events = p.events ++ (s.event ∷ []); others = p.others } else record { events = p.events; others = p.others ++ (s ∷ []) }
