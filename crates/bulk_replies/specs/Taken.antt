-- What a reader of tokens takes, as `serde_json` reads it.
use Rattle.std.specs.Prelude.{◌≡◌, ℕ, List, Some, None, Result, MatchResult}
use Rattle.json.specs.Token.{Token}
use Rattle.json.specs.Json.{value}
use Rattle.serde_json.specs.Data.{Data}
use Rattle.serde_json.specs.Read.{converted, of_json}

-- of these tokens the first ones are this value, with at most so many levels, and these are left
abbrev pub Reads : ℕ → List Token → Data → List Token → Type 0
Reads depth old d new = converted of_json (value depth old) ≡ Some (d, new)

abbrev pub Refuses : ℕ → List Token → Type 0
Refuses depth old = converted of_json (value depth old) ≡ None

-- a value was taken, which this was made of, or none stands there, if an error is sure
abbrev pub Takes : {A E : Type 0} → Type 0 → ℕ → List Token → List Token → (Data → A → Type 0) → Result A E → Type 0
Takes sure depth old new made r = MatchResult r (λ a. (d : Data) × Reads depth old d new × made d a) (λ _. sure → Refuses depth old)

-- the same, where another fault says nothing
abbrev pub TakesOr : {A E : Type 0} → E → Type 0 → ℕ → List Token → List Token → (Data → A → Type 0) → Result A E → Type 0
TakesOr fault sure depth old new made r = MatchResult r (λ a. (d : Data) × Reads depth old d new × made d a) (λ e. (e ≡ fault → ⊥) → sure → Refuses depth old)
