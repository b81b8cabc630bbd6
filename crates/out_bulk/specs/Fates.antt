-- The fates of the events of a batch: those that are settled, and what a reply says of the others.
use Rattle.std.specs.Prelude.{List, [], ◌∷◌, drop, Bool, true, false, Option, Some, None, option_map, option_and_then}
use Rattle.bulk_replies.specs.Answers.{Answer, said_of}
use Rattle.bulk_replies.specs.declared.item_result.ItemResult.{ItemResult}
use Rattle.bulk_replies.specs.declared.item_result.ItemResult.TheVariants as said
use Rattle.event_tree.specs.Events.{Ev}
use Rattle.foreign_parts.specs.declared.output.Fate.{Fate}
use Rattle.foreign_parts.specs.declared.output.Fate.TheVariants.{Took, Rejected}

-- the fate that is settled by what is said of an event, where it is
abbrev pub settled_by : ItemResult → Option Fate
settled_by said.Took = Some Took
settled_by (said.Rejected status reason) = Some (Rejected status reason)
settled_by said.Retry = None

abbrev pub fate_of : Answer → Option Fate
fate_of a = settled_by (said_of a)

-- The fates of a batch: one for each event, where it is settled; none at all where no event of it is.
abbrev pub Settled : Type 0
Settled = List (Option Fate)

-- the events that aren't settled, in their order
abbrev pub open_in : List Ev → Settled → List Ev
open_in [] fs = []
open_in (e ∷ es) [] = e ∷ es
open_in (e ∷ es) (Some f ∷ fs) = open_in es fs
open_in (e ∷ es) (None ∷ fs) = e ∷ open_in es fs

-- the first of them
abbrev pub first_of : Settled → Option Fate
first_of [] = None
first_of (x ∷ fs) = x

-- with what became of those, one after another
abbrev pub filled : Settled → Settled → Settled
filled [] news = news
filled (Some f ∷ fs) news = Some f ∷ filled fs news
filled (None ∷ fs) news = first_of news ∷ filled fs (drop 1 news)

-- the fates, where each is settled
abbrev pub all_settled : Settled → Option (List Fate)
all_settled [] = Some []
all_settled (x ∷ fs) = option_and_then (λ f. option_map (λ rest. f ∷ rest) (all_settled fs)) x

-- whether the first of them is settled
abbrev pub first_settled : Settled → Bool
first_settled [] = false
first_settled (Some f ∷ fs) = true
first_settled (None ∷ fs) = false

-- what stands at a place where this stood, and what is then left of what became of the others
abbrev pub next_of : Option Fate → Settled → Option Fate
next_of (Some f) news = Some f
next_of None news = first_of news

abbrev pub left_of : Option Fate → Settled → Settled
left_of (Some f) news = news
left_of None news = drop 1 news

-- what is held of an event
abbrev pub held_of : Fate → Ev → List Ev
held_of Took e = e ∷ []
held_of (Rejected status reason) e = []
