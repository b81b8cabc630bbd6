-- What `Fields` end as once a `&mut` to one of their values has been written.
use Rattle.std.specs.Prelude.{ℕ, List, Option}
use Rattle.std.specs.Borrow.{LendsIf, Fml, RattleType, MutBor}
use Rattle.plain_data.specs.Members.{set_member}
use Rattle.plain_data.specs.contracts.fields.Fields.{the_row}

-- with the last value written in place of that at the key k
abbrev pub lends_value : (V : RattleType) → MutBor (List (List ℕ × V.Denot)) → List ℕ → Option (MutBor V.Denot) → Fml
lends_value V fields k lent = LendsIf (the_row V) V fields lent (λ v. set_member k v fields.now) fields.now
