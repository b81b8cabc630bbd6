-- What a member ends as once a `&mut` to its value has been written.
use Rattle.std.specs.Prelude.{ℕ, List}
use Rattle.std.specs.Borrow.{Lends, Fml, RattleType, MutBor}
use denote.Struct.Tuple.{Tuple}
use mathlib.Core.List.{[], ◌∷◌}
use Rattle.plain_data.specs.contracts.text.Text as text

-- with the same key and the last value written
abbrev pub lends_member_value : (V : RattleType) → MutBor (List ℕ × V.Denot) → MutBor V.Denot → Fml
lends_member_value V member lent = Lends (Tuple (text.the_row ∷ V ∷ [])) V member lent (λ v. (member.now.0, v))
