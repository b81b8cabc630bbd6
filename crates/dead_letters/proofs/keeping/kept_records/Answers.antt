use Rattle.std.proofs.Common.{◌++◌, drop, map, sym, ap, ◌∙◌}
use Rattle.std.proofs.lemmas.List.{append-nil, drop_all}
use Rattle.dead_letters.specs.Letters.{record_bytes, size_of}
use Rattle.dead_letters.specs.Queues.{joined}
use Rattle.dead_letters.proofs.Kept.{kept_none}
use Rattle.dead_letters.proofs.keeping.kept_records.Goals as goal

pub returns-clause-bytes : goal.returns-clause-bytes
returns-clause-bytes c =
    let l = c.loop-place in
    let none = kept_none (drop l.next c.args.newer.now) l.place (drop l.place c.args.letters.now) (drop_all l.place c.args.letters.now c.loop-place-test.false) in
    sym (append-nil l.bytes.items) ∙ sym (ap (λ xs. l.bytes.items ++ joined (map record_bytes xs)) none) ∙ l.invariant.bytes

pub returns-clause-sizes : goal.returns-clause-sizes
returns-clause-sizes c =
    let l = c.loop-place in
    let none = kept_none (drop l.next c.args.newer.now) l.place (drop l.place c.args.letters.now) (drop_all l.place c.args.letters.now c.loop-place-test.false) in
    sym (append-nil l.sizes) ∙ sym (ap (λ xs. l.sizes ++ map size_of xs) none) ∙ l.invariant.sizes
