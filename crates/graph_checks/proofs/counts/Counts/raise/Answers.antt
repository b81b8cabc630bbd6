use Rattle.std.proofs.Common.{◌≡◌, ◌+◌, ◌∙◌, ap, rules, bytes_eq}
use Rattle.indexmap.specs.IndexMap.{insert_entry}
use Rattle.graph_checks.specs.Boxes.{count_of, one_more}
use Rattle.graph_checks.proofs.Counting.{raised}
use Rattle.graph_checks.proofs.counts.Counts.raise.Goals as goal

pub returns : goal.returns
returns c =
    let entries = c.self.inside.names.entries in
    let key : c.in_ok-copy.field-0 ≡ c.args.name.now = c.in_ok-copy.ensures in
    let count : c.in_ok-count.count ≡ count_of c.args.name.now entries + 1 = search rules in
    c.in_ok-insert.ensures.entries ∙ ap (λ k. insert_entry bytes_eq entries k c.in_ok-count.count) key ∙ ap (λ n. insert_entry bytes_eq entries c.args.name.now n) count ∙ raised c.args.name.now entries ∙ ap (one_more c.args.name.now) c.self.view_is
