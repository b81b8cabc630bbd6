-- What `Items` end as once a `&mut` to one of their elements has been written.
use Rattle.std.specs.Prelude.{ℕ, List, Option, slice_set, length, take, drop, ◌++◌}
use Rattle.std.specs.Borrow.{Lends, LendsIf, Fml, RattleType, MutBor, Array}
use Rattle.plain_data.specs.contracts.items.Items.{the_row}

-- with the last value written in place of element i
abbrev pub lends_item : (T : RattleType) → MutBor (List T.Denot) → ℕ → Option (MutBor T.Denot) → Fml
lends_item T items i lent = LendsIf (the_row T) T items lent (slice_set items.now i) items.now

-- with the slice that was written last, which is as long as it was
abbrev pub lends_all : (T : RattleType) → MutBor (List T.Denot) → MutBor (List T.Denot) → Fml
lends_all T items lent = Lends (the_row T) (Array T 0) items lent (λ written. take (length items.now) (written ++ drop (length written) items.now))
