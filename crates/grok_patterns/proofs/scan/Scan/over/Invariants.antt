use Rattle.std.proofs.Common.{◌≡◌, drop}
use Rattle.grok_patterns.specs.Scans.{over}
use Rattle.grok_patterns.proofs.scan.Scan.over.Given as goal

abbrev pub invariant-loop-byte : goal.invariant-loop-byte
invariant-loop-byte l = over (drop l.byte-index l.bytes) l.scan ≡ over l.bytes l.fn.self
