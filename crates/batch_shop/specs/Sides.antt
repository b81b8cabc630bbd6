-- What a side of a table knows and holds, and what a fetch of a result makes of it.
use Rattle.std.specs.Prelude.{Option, Some, None}
use Rattle.atomic_table.specs.Table.{Me}
use Rattle.batch_shop.specs.Rule.{MessageSlot, ComesBack, StaysOut}
use Rattle.batch_shop.specs.declared.rule.View.{View}
use Rattle.batch_shop.specs.declared.endpoint.Endpoint.{Endpoint}

module _ {T D : Type 0} where
  abbrev pub me_of : Endpoint T D → Me (MessageSlot T D) (View T)
  me_of s = s.seat.me

  -- the result came home, or the job is still out
  abbrev pub Fetches : (T → D → Type 0) → Option D → Me (MessageSlot T D) (View T) → Me (MessageSlot T D) (View T) → Type 0
  Fetches gives (Some d) old new = (x : MessageSlot T D) × ComesBack gives old d new x
  Fetches gives None old new = StaysOut gives old new
