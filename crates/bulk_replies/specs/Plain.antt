-- A value that was passed, or what opens one.
use Rattle.std.specs.Prelude.{◌≡◌, ℕ, List, ◌∷◌, Option, Some, None, option_and_then, ⊤}
use Rattle.json.specs.Token as token
use Rattle.json.specs.Token.{Token}
use Rattle.serde_json.specs.Data as tree
use Rattle.serde_json.specs.Data.{Data}
use Rattle.serde_json.specs.Find.{as_number, as_str, as_u64}
use Rattle.bulk_replies.specs.declared.passing.Scalar.{Scalar}
use Rattle.bulk_replies.specs.declared.passing.Scalar.TheVariants.{Text, Number, Other}
use Rattle.bulk_replies.specs.declared.passing.Expect.{Expect}
use Rattle.bulk_replies.specs.declared.passing.Expect.TheVariants as wanted

abbrev pub Opened : Expect → List Token → List Token → Type 0
Opened wanted.Object old new = old ≡ token.begin_object ∷ new
Opened wanted.List old new = old ≡ token.begin_array ∷ new
Opened wanted.Nothing old new = ⊥

abbrev pub IsNot : Expect → Data → Type 0
IsNot w tree.null = ⊤
IsNot w (tree.boolean b) = ⊤
IsNot w (tree.number n) = ⊤
IsNot w (tree.string s) = ⊤
IsNot w (tree.array ds) = w ≡ wanted.List → ⊥
IsNot w (tree.object ms) = w ≡ wanted.Object → ⊥

abbrev pub text_of : Scalar → Option (List ℕ)
text_of (Text s) = Some s.now
text_of (Number n) = None
text_of Other = None

abbrev pub number_of : Scalar → Option ℕ
number_of (Text s) = None
number_of (Number n) = n
number_of Other = None

-- it isn't what is wanted, and this is said of it
abbrev pub IsPlain : Expect → Data → Scalar → Type 0
IsPlain w d p = IsNot w d × (text_of p ≡ as_str d) × (number_of p ≡ option_and_then as_u64 (as_number d))
