use Rattle.std.proofs.Common.{◌≡◌, ap, sym, ◌∙◌, map, get_or, set, Some, None, Ok}
use Rattle.std.proofs.Math.ListN.{get_or-map}
use Rattle.std.proofs.lemmas.List.{map-set}
use Rattle.io_traits.specs.declared.sources.Step.TheVariants.{End as AtEnd}
use Rattle.io_real.specs.Adapters.{counts_after}
use Rattle.io_real.specs.Links.{open_of, counted, place_from}
use Rattle.io_real.proofs.Counted.{counted_at, not_counted}
use Rattle.io_real.proofs.connections.Connections.read.Goals as goal

pub returns-in-Some-clause-state : goal.returns-in-Some-clause-state
returns-in-Some-clause-state g c =
    let items = c.self.inside.members.items in
    let place = c.in-Some.place in
    let old = c.index_mut.result.now in
    let at : get_or (map open_of items) place (open_of old) ≡ open_of old = get_or-map open_of items place old ∙ ap open_of (sym c.index_mut.ensures.value) in
    let found : place_from 0 c.args.conn (map open_of items) ≡ Some place =
    ap (λ ms. place_from 0 c.args.conn (map open_of ms)) (sym c.deref.ensures.value) ∙ sym c.place_of.ensures.place ∙ c.in-Some.is in
    let now : (old.number, c.read.new.self.counts) ≡ ((get_or (map open_of items) place (open_of old)).0, counts_after (get_or (map open_of items) place (open_of old)).1 c.read.result) =
    ap (λ s. (old.number, s)) c.read.ensures.counts ∙ ap (λ o. (o.0, counts_after o.1 c.read.result)) (sym at) in
    map-set open_of items place _ ∙ ap (set (map open_of items) place) now ∙ counted_at place c.args.conn c.read.result (map open_of items) (open_of old) found ∙ ap (counted c.args.conn c.read.result) c.self.view_is

pub returns-in-None-clause-state : goal.returns-in-None-clause-state
returns-in-None-clause-state g c =
    let none : place_from 0 c.args.conn c.args.self.now ≡ None =
    ap (place_from 0 c.args.conn) (sym c.self.view_is) ∙ ap (λ ms. place_from 0 c.args.conn (map open_of ms)) (sym c.deref.ensures.value) ∙ sym c.place_of.ensures.place ∙ c.in-None.is in
    sym (not_counted 0 c.args.conn (Ok AtEnd) c.args.self.now none)
