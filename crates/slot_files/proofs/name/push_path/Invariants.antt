use Rattle.std.proofs.Common.{◌≡◌, ◌++◌, drop, string_bytes}
use Rattle.slot_files.specs.Names.{path_named}
use Rattle.slot_files.proofs.name.push_path.Given as goal

abbrev pub invariant-loop-byte : goal.invariant-loop-byte
invariant-loop-byte l = string_bytes l.to ++ path_named (drop l.byte-index l.path) ≡ string_bytes l.fn.to ++ path_named l.path
