-- What stands in a kit and in a graph.
use Rattle.std.specs.Prelude.{ℕ, List, Option}
use Rattle.event_flow.specs.declared.step.FlowStep.{FlowStep}
use Rattle.plugin_graph.specs.KitParts.{contents_in}
use Rattle.plugin_graph.specs.Kits.{boxes_of}
use Rattle.plugin_graph.specs.Loads.{Contents}
use Rattle.plugin_graph.specs.declared.graph.Graph.{Graph}
use Rattle.plugin_graph.specs.declared.kit.Kit.{Kit}

abbrev pub contents_of : {X : Type 0} → Kit X → Contents
contents_of kit = contents_in kit.parts

-- how many filters and patterns were read from text through it
abbrev pub built_in : {X : Type 0} → Kit X → ℕ
built_in kit = kit.built

-- the boxes of its filters, where these are boxed ones and their boxes were put in
abbrev pub boxes_in : {X : Type 0} → Kit X → List (Option X)
boxes_in kit = boxes_of kit.parts.filters

abbrev pub steps_in : Graph → List FlowStep
steps_in graph = graph.steps
