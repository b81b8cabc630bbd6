-- The number that a text of the grammar of JSON stands for (RFC 8259, section 6).
use Rattle.std.specs.Prelude.{◌≡◌, ℕ, ◌==◌, ◌||◌, List, [], ◌∷◌, Bool, false, if◌then◌else◌, Option, Some, None}
use Rattle.event_tree.specs.Characters.{minus, plus}
use Rattle.event_tree.specs.Number.{Num, IsLeast}
use Rattle.event_tree.specs.NumberTexts.{Decimal, StandsFor, IsI64}
use Rattle.event_json.specs.Grammar.{Number, IsNumber, number_bytes}

-- what stands behind the first byte
abbrev pub behind_first : List ℕ → List ℕ
behind_first [] = []
behind_first (b ∷ bs) = bs

-- whether a `-` stands in front
abbrev pub is_negative : List ℕ → Bool
is_negative [] = false
is_negative (b ∷ bs) = b == minus

-- the digits behind a `+` or a `-`, if one of them stands in front
abbrev pub without_sign : List ℕ → List ℕ
without_sign [] = []
without_sign (b ∷ bs) = if b == plus || b == minus then bs else b ∷ bs

-- the signs and the digits of a number: the fraction without its point, the exponent without its `e`
abbrev pub parts_of : Number → Decimal
parts_of x = record {
  negative = is_negative x.minus;
  whole = x.whole;
  fraction = behind_first x.fraction;
  lower = is_negative (behind_first x.exponent);
  exponent = without_sign (behind_first x.exponent);
}

-- the text is one of the grammar and the number has its value; none where no number of 64 bits in least form has
abbrev pub IsNumberText : Option Num → List ℕ → Type 0
IsNumberText (Some n) text = (x : Number) × IsNumber x × (text ≡ number_bytes x) × StandsFor n (parts_of x)
IsNumberText None text = (x : Number) → IsNumber x → text ≡ number_bytes x
    → (n : Num) → IsLeast n.mantissa n.scale → IsI64 n.mantissa → StandsFor n (parts_of x) → ⊥
