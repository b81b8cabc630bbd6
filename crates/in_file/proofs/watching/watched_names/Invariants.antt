use Rattle.std.proofs.Common.{◌≡◌, ◌++◌, drop}
use Rattle.in_file.specs.Watching.{free_of, paths_of}
use Rattle.in_file.proofs.watching.watched_names.Given as goal

abbrev pub invariant-loop-name : goal.invariant-loop-name
invariant-loop-name l = l.paths ++ free_of l.earlier (paths_of l.folder l.last (drop l.name-index l.names)) ≡ free_of l.earlier (paths_of l.folder l.last l.names)
