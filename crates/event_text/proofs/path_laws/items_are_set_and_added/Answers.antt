use Rattle.std.proofs.Common.{[], ◌∷◌, ◌++◌, slice_set}
use Rattle.event_tree.specs.declared.value.Value.TheVariants as v
use Rattle.event_text.proofs.EventGets.{put_here}
use Rattle.event_text.proofs.PutGets.{set_here, added_here}
use Rattle.event_text.proofs.path_laws.items_are_set_and_added.Goals as goal

pub returns-clause-set : goal.returns-clause-set
returns-clause-set c item value old new stands within h =
    put_here item.meta item.front item.part value (v.List item.items) (v.List (slice_set item.items item.place value)) old new (set_here item.part value item.items item.place stands.1 within) stands.0 h

pub returns-clause-added : goal.returns-clause-added
returns-clause-added c item value old new stands end h =
    put_here item.meta item.front item.part value (v.List item.items) (v.List (item.items ++ value ∷ [])) old new (added_here item.part value item.items item.place stands.1 end) stands.0 h
