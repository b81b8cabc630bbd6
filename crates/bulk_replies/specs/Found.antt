-- Where the value of a field was found.
use Rattle.std.specs.Prelude.{◌≡◌, ℕ, List, [], ◌∷◌, length}
use Rattle.httparse.specs.Spans.{IsWithin, span_bytes}
use Rattle.bulk_replies.specs.declared.fields.FieldMatch.{FieldMatch}
use Rattle.bulk_replies.specs.declared.fields.FieldMatch.TheVariants.{Missing, One, Several}

-- these values of a name: none, one that stands in the reply, or several
abbrev pub Finds : List ℕ → List (List ℕ) → FieldMatch → Type 0
Finds reply values Missing = values ≡ []
Finds reply values (One span) = (values ≡ span_bytes reply span ∷ []) × IsWithin (length reply) span
Finds reply values Several = (v : List ℕ) × (w : List ℕ) × (vs : List (List ℕ)) × (values ≡ v ∷ w ∷ vs)
