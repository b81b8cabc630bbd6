-- The kits of one generation.
use Rattle.std.specs.Prelude.{ℕ, List}
use Rattle.plugin_graph.specs.declared.kit.Kit.{Kit}
use Rattle.line_jobs.specs.declared.kits.Kits.{Kits}

module _ {X : Type 0} where
  -- those that are at home
  abbrev pub kits_of : Kits X → List (Kit X)
  kits_of kits = kits.home.items

  -- how many it has, at home and out
  abbrev pub size_of : Kits X → ℕ
  size_of kits = kits.size
