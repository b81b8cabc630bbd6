use Rattle.std.proofs.Common.{◌≡◌, ◌+◌, ◌-◌, ◌/◌, ◌<◌, ℕ, min, take, option_map, ap, ◌∙◌, arith}
use Rattle.io_traits.specs.Reads.{file_length}
use Rattle.io_traits.specs.Leftovers.{torn, cut_left}
use Rattle.io_memory.specs.Tables.{content_of}
use Rattle.io_memory.proofs.Changes.{changed_as}
use Rattle.store_memory.proofs.leftovers.cut_halfway.Goals as goal

-- halfway to the end is no further than the end
halfway : (length end : ℕ) → length < 18446744073709551616 → end < 18446744073709551616 → min (length + (end - length) / 2) 18446744073709551615 ≡ length + (end - length) / 2
halfway length end low high = omega arith

pub returns : goal.returns
returns c =
    let end = c.end_of.ensures in
    let middle : c.saturating_add.result ≡ c.args.length + (file_length (content_of c.args.files.now c.args.name.now) - c.args.length) / 2 =
    c.saturating_add.ensures ∙ ap (λ k. min (c.args.length + k / 2) 18446744073709551615) c.saturating_sub-more.ensures ∙ halfway c.args.length c.end_of.result (omega arith) (omega arith)
    ∙ ap (λ k. c.args.length + (k - c.args.length) / 2) end in
    changed_as c.args.name.now (option_map (take c.saturating_add.result)) (cut_left torn c.args.length) c.args.files.now c.cut_in.new.files (ap (λ k. option_map (take k) (content_of c.args.files.now c.args.name.now)) middle) c.cut_in.ensures
