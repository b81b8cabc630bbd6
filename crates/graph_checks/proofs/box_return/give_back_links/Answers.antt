use Rattle.std.proofs.Common.{◌≡◌, ◌++◌, [], ◌∷◌, Some, true, sym, ap, subst, ◌∙◌, rules}
use Rattle.foreign_parts.specs.Links.{is_out, put}
use Rattle.graph_checks.specs.Linked.{LinksMayGoBack, links_back}
use Rattle.graph_checks.proofs.Linking.{last_link_back, last_link_may}
use Rattle.graph_checks.proofs.box_return.give_back_links.Goals as goal

pub return_link-requires : goal.return_link-requires
return_link-requires g c =
    let ps = g.B.Boxes.links c.loop-address.rack in
    let last : c.loop-address.left.items ≡ c.pop.new.self.items ++ (c.in-Some.address, c.in-Some.taker) ∷ [] = search rules in
    let both = last_link_may c.pop.new.self.items (c.in-Some.address, c.in-Some.taker) ps (subst (λ ls. LinksMayGoBack ls ps) last c.loop-address.invariant.may) in
    subst (λ k. is_out k ps ≡ true) (sym c.as_str.ensures) both.1

pub loop-address-preserved : goal.loop-address-preserved
loop-address-preserved g c =
    let i = c.loop-address.invariant in
    let e = c.return_link.ensures in
    let ps = g.B.Boxes.links c.loop-address.rack in
    let left = c.pop.new.self.items in
    let last : c.loop-address.left.items ≡ c.pop.new.self.items ++ (c.in-Some.address, c.in-Some.taker) ∷ [] = search rules in
    let both = last_link_may left (c.in-Some.address, c.in-Some.taker) ps (subst (λ ls. LinksMayGoBack ls ps) last i.may) in
    let gave = e.links ∙ ap (λ k. put k (Some c.in-Some.taker) ps) c.as_str.ensures in
    record {
      may = subst (LinksMayGoBack left) (sym gave) both.0;
      back = ap (links_back left) gave ∙ sym (last_link_back left (c.in-Some.address, c.in-Some.taker) ps) ∙ ap (λ ls. links_back ls ps) (sym last) ∙ i.back;
      filters = e.filters ∙ i.filters;
      outputs = e.outputs ∙ i.outputs;
      given = e.given ∙ i.given;
    }
