use Rattle.std.proofs.Common.{◌≡◌, ◌++◌, drop}
use Rattle.in_file.specs.Watching.{paths_of}
use Rattle.logstash_top.proofs.named_files.matching.Given as goal

abbrev pub invariant-loop-name : goal.invariant-loop-name
invariant-loop-name l = l.paths ++ paths_of l.folder l.pattern (drop l.name-index l.names) ≡ paths_of l.folder l.pattern l.names
