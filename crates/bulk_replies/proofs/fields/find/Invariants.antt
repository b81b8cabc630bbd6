use Rattle.std.proofs.Common.{map, take}
use Rattle.httparse.specs.Spans.{header_bytes}
use Rattle.bulk_replies.specs.Fields.{values_of}
use Rattle.bulk_replies.specs.Found.{Finds}
use Rattle.bulk_replies.proofs.fields.find.Given as goal

abbrev pub invariant-loop-header : goal.invariant-loop-header
invariant-loop-header l = Finds l.reply (values_of l.name (map (header_bytes l.reply) (take l.header-index l.headers))) l.found
