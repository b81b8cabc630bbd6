use Rattle.std.proofs.Common.{◌≡◌, ap, subst, sym, ◌∙◌, map, refl, rules, arith}
use Rattle.std.specs.Prelude.{filter}
use Rattle.std.proofs.lemmas.Grind.{common_steps}
use Rattle.std.proofs.lemmas.Fn.{filter_same}
use Rattle.io_memory.specs.Links.{AllFull, is_full, sent_of}
use Rattle.plain_data.proofs.Filters.{filter_through}
use Rattle.io_memory.proofs.Pieces.{full_ones}
use Rattle.io_memory.proofs.memory_links.MemoryLinks.new.Goals as goal

pub invariant_of-result : goal.invariant_of-result
invariant_of-result c =
    let kept : c.from_vec.result.items ≡ filter (λ s. is_full (sent_of s)) c.args.pieces.items =
    c.from_vec.ensures.items ∙ filter_same _ _ _ (λ x b f' k. search rules) _ _ c.retain.ensures.filtered in
    let left : map sent_of c.from_vec.result.items ≡ filter is_full (map sent_of c.args.pieces.items) =
    ap (map sent_of) kept ∙ filter_through sent_of (λ s. is_full (sent_of s)) is_full (λ s. refl) c.args.pieces.items in
    subst AllFull (sym left) (full_ones (map sent_of c.args.pieces.items))

pub returns : goal.returns
returns c =
    let kept : c.from_vec.result.items ≡ filter (λ s. is_full (sent_of s)) c.args.pieces.items =
    c.from_vec.ensures.items ∙ filter_same _ _ _ (λ x b f' k. search rules) _ _ c.retain.ensures.filtered in
    let left : map sent_of c.from_vec.result.items ≡ filter is_full (map sent_of c.args.pieces.items) =
    ap (map sent_of) kept ∙ filter_through sent_of (λ s. is_full (sent_of s)) is_full (λ s. refl) c.args.pieces.items in
    grind (arith, common_steps)
