use Rattle.std.proofs.Common.{◌≡◌, [], ◌∷◌, sym, subst, ap, ◌∙◌, refl, rules, map, IfOk}
use Rattle.event_flow.specs.Laying.{IsTableOf}
use Rattle.event_flow.specs.Places.{Draws}
use Rattle.plugin_graph.specs.KitParts.{contents_in}
use Rattle.plugin_graph.specs.Kits.{MayAt, boxes_of, table_of}
use Rattle.built_plugins.specs.Makes.{makes}
use Rattle.plugin_graph.specs.Passages.{IsPassageOf}
use Rattle.plugin_graph.specs.Walks.{ReadsAlike, is_plain}
use Rattle.plugin_graph.proofs.Rereading.{reads_alike}
use Rattle.plugin_graph.proofs.walking.walk.Goals as goal

pub pass-passage-requires : goal.pass-passage-requires
pass-passage-requires g c =
    let parts = c.args.kit.now.parts in
    let plain : c.in_ok-plain.plain ≡ map (λ x. is_plain x.filter) parts.filters = search rules in
    subst (λ x. ReadsAlike c.in_ok-plugins.plugins c.in_ok-plain.plain (table_of (contents_in x))) (sym c.replace-parts.ensures.value)
    (reads_alike parts.filters (contents_in parts) c.args.config.now refl c.requires c.in_ok-plugins.plugins c.in_ok-plain.plain c.in_ok-plugins.ensures plain)

pub returns-clause-passage : goal.returns-clause-passage
returns-clause-passage g c =
    subst (λ x. IfOk c.pass-passage.result (λ p. (draws : Draws) → IsTableOf makes c.args.config.now draws (table_of (contents_in x)) → IsPassageOf (MayAt g.X.FilterCall.may (boxes_of x.filters)) makes c.args.config.now draws (c.args.event.now ∷ []) p))
    c.replace-parts.ensures.value c.pass-passage.ensures.passage

pub returns-clause-may : goal.returns-clause-may
returns-clause-may g c = λ k e v may_be.
    subst (λ x. MayAt g.X.FilterCall.may (boxes_of x.filters) k e v) c.replace-parts.ensures.value (c.pass-passage.ensures.may k e v may_be)

pub returns-clause-boxes : goal.returns-clause-boxes
returns-clause-boxes g c = c.pass-passage.ensures.boxes ∙ ap (λ x. boxes_of x.filters) c.replace-parts.ensures.value
