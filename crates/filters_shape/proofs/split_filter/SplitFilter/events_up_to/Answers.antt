use Rattle.std.proofs.Common.{◌≡◌, ◌∷◌, [], ◌++◌, map, sym, ap, ◌∙◌, rules}
use Rattle.std.proofs.lemmas.List.{map-append}
use Rattle.filters_shape.specs.Split.{emptied, event_of, split_event}
use Rattle.filters_shape.proofs.split_filter.SplitFilter.events_up_to.Goals as goal

pub returns : goal.returns
returns c =
    let f = c.args.self.now in
    let rest = c.in_ok-rest.rest in
    let made : c.in_ok-events.events ≡ map (event_of f rest) c.args.front = search rules in
    let all : c.add_event.new.to ≡ c.in_ok-events.events ++ event_of f rest c.args.last ∷ [] = search rules in
    let emptied_is : rest ≡ emptied f c.args.event = search rules in
    all ∙ ap (λ events. events ++ event_of f rest c.args.last ∷ []) made
    ∙ sym (map-append (event_of f rest) c.args.front (c.args.last ∷ [])) ∙ ap (λ r. map (event_of f r) (c.args.front ++ c.args.last ∷ [])) emptied_is
