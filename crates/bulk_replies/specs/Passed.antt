-- A token that was passed.
use Rattle.std.specs.Prelude.{◌≡◌, ℕ, List, ◌∷◌}
use Rattle.json.specs.Token as token
use Rattle.json.specs.Token.{Token}
use Rattle.serde_json.specs.Data.{Data}
use Rattle.bulk_replies.specs.Taken.{Reads}
use Rattle.bulk_replies.specs.declared.tokens.PassedToken.{PassedToken}
use Rattle.bulk_replies.specs.declared.tokens.PassedToken.TheVariants.{Value, List as Brackets, Object}

abbrev pub IsPassed : PassedToken → List Token → List Token → Type 0
IsPassed Value old new = (d : Data) × ((depth : ℕ) → Reads depth old d new)
IsPassed Brackets old new = old ≡ token.begin_array ∷ new
IsPassed Object old new = old ≡ token.begin_object ∷ new
