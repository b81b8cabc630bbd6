use Rattle.std.proofs.Common.{◌≡◌, ap, subst, sym, ◌∙◌, map, refl, rules, arith}
use Rattle.std.specs.Prelude.{filter, nat_eq, not}
use Rattle.std.proofs.lemmas.Grind.{common_steps}
use Rattle.std.proofs.lemmas.Fn.{filter_same}
use Rattle.io_memory.specs.Links.{AllFull, sent_of, without}
use Rattle.plain_data.proofs.Filters.{filter_through}
use Rattle.io_memory.proofs.Pieces.{full_filtered}
use Rattle.io_memory.proofs.memory_links.MemoryLinks.shut.Goals as goal

pub invariant_of-self : goal.invariant_of-self
invariant_of-self c =
    let kept : c.retain.new.self.items ≡ filter (λ s. not (nat_eq s.conn c.args.conn)) c.self.inside.left.items =
    filter_same _ _ _ (λ x b f' k. search rules) _ _ c.retain.ensures.filtered in
    let left : map sent_of c.retain.new.self.items ≡ without c.args.conn (map sent_of c.self.inside.left.items) =
    ap (map sent_of) kept ∙ filter_through sent_of (λ s. not (nat_eq s.conn c.args.conn)) (λ p. not (nat_eq p.0 c.args.conn)) (λ s. refl) c.self.inside.left.items in
    subst AllFull (sym left) (full_filtered (λ p. not (nat_eq p.0 c.args.conn)) (map sent_of c.self.inside.left.items) c.self.invariant)

pub returns : goal.returns
returns c =
    let kept : c.retain.new.self.items ≡ filter (λ s. not (nat_eq s.conn c.args.conn)) c.self.inside.left.items =
    filter_same _ _ _ (λ x b f' k. search rules) _ _ c.retain.ensures.filtered in
    let left : map sent_of c.retain.new.self.items ≡ without c.args.conn (map sent_of c.self.inside.left.items) =
    ap (map sent_of) kept ∙ filter_through sent_of (λ s. not (nat_eq s.conn c.args.conn)) (λ p. not (nat_eq p.0 c.args.conn)) (λ s. refl) c.self.inside.left.items in
    grind (arith, common_steps)
