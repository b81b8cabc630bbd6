use Rattle.std.proofs.Common.{◌≡◌, drop, false}
use Rattle.filters_grok.specs.Grok.{searched}
use Rattle.filters_grok.proofs.grok.search_fields.Given as goal

abbrev pub invariant-loop-index : goal.invariant-loop-index
invariant-loop-index l = (searched l.how (drop l.index l.fn.fields) l.matched l.event ≡ searched l.how l.fn.fields false l.fn.event) × (l.fields ≡ l.fn.fields)
