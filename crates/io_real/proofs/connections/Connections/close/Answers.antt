use Rattle.std.proofs.Common.{◌≡◌, ap, ◌∙◌, map, refl, rules}
use Rattle.std.specs.Prelude.{filter, nat_eq, not}
use Rattle.std.proofs.lemmas.Fn.{filter_same}
use Rattle.io_real.specs.Links.{open_of, others}
use Rattle.plain_data.proofs.Filters.{filter_through}
use Rattle.io_real.proofs.connections.Connections.close.Goals as goal

pub returns : goal.returns
returns g c =
    let kept : c.retain.new.self.items ≡ filter (λ m. not (nat_eq m.number c.args.conn)) c.self.inside.members.items =
    filter_same _ _ _ (λ x b f' k. search rules) _ _ c.retain.ensures.filtered in
    ap (map open_of) kept ∙ filter_through open_of (λ m. not (nat_eq m.number c.args.conn)) (λ o. not (nat_eq o.0 c.args.conn)) (λ m. refl) c.self.inside.members.items ∙ ap (others c.args.conn) c.self.view_is
