-- Paths as they are written, and a path under another.
use Rattle.std.specs.Prelude.{ℕ, List, ◌∷◌, ◌++◌, ◌&&◌, Bool, if◌then◌else◌, codes, bytes_eq}
use Rattle.std.specs.Bool.{beq}
use Rattle.std.specs.Cmp.Lexicographic.{pointwise}
use Rattle.event_tree.specs.Events.{Way}
use Rattle.event_tree.specs.PathTexts.{way_of}

-- the parts of a path, as they are written
abbrev pub written : Way → List (List ℕ)
written w = if w.meta then codes "@metadata" ∷ w.parts else w.parts

-- a path under another
abbrev pub path_under : Way → Way → Way
path_under target way = way_of (written target ++ written way)

-- two paths have the same parts
abbrev pub same_path : Way → Way → Bool
same_path v w = beq v.meta w.meta && pointwise bytes_eq v.parts w.parts
