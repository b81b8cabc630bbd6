use Rattle.std.proofs.Common.{◌≡◌, drop}
use Rattle.std.specs.List.{list_any}
use Rattle.std.specs.Prelude.{bytes_eq}
use Rattle.built_plugins.proofs.places.stands_in.Given as goal

abbrev pub invariant-loop-one : goal.invariant-loop-one
invariant-loop-one l = list_any (λ one. bytes_eq one l.text) (drop l.one-index l.texts) ≡ list_any (λ one. bytes_eq one l.text) l.texts
