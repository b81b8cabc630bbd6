-- Kits that are given boxes, from the last filter on.
use Rattle.std.specs.Prelude.{◌≡◌, ◌≤◌, ◌<◌, ℕ, zero, suc, ◌+◌, List, [], ◌∷◌, Bool, false, if◌then◌else◌, slice_get}
use Rattle.event_tree.specs.Paths.{over}
use Rattle.plugin_graph.specs.Graphs.{boxes_in, contents_of}
use Rattle.plugin_graph.specs.Kits.{no_boxes}
use Rattle.built_plugins.specs.Makes.{is_boxed}
use Rattle.plugin_graph.specs.Loads.{Contents}
use Rattle.plugin_graph.specs.declared.kit.Kit.{Kit}
use Rattle.graph_checks.specs.Plans.{IsIts}

abbrev pub one_if : Bool → ℕ
one_if b = if b then 1 else 0

-- how many boxes the filter of a number wants, of all kits, and how many those in front of it want
abbrev pub wanted_at : ℕ → List Contents → ℕ
wanted_at k [] = 0
wanted_at k (c ∷ cs) = one_if (over is_boxed false (slice_get c.filters k)) + wanted_at k cs

abbrev pub wanted : ℕ → List Contents → ℕ
wanted zero cs = 0
wanted (suc k) cs = wanted k cs + wanted_at k cs

-- the filters from this one on have their boxes, and those in front of it have none
pub record StandsFrom {X : Type 0} (at : ℕ) (kit : Kit X) : Type 0 where
  pub behind : (k : ℕ) → at ≤ k → IsIts (slice_get (contents_of kit).filters k) (slice_get (boxes_in kit) k)
  pub before : (k : ℕ) → k < at → slice_get (boxes_in kit) k ≡ slice_get (no_boxes (contents_of kit).filters) k
