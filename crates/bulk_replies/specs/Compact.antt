-- Where a reader of compact JSON stands, and what it reads there.
use Rattle.std.specs.Prelude.{⊤, ◌+◌, ◌≡◌, ◌≤◌, ◌<◌, ◌⊎◌, ℕ, List, ◌∷◌, length, drop, slice_index, Bool, false, true}
use Rattle.json.specs.Token.{Token, boolean, null}
use Rattle.json.specs.Lex.{Lexeme, token, between, lex, fresh, after_value, after_comma, begins_colon, may_begin, punctuate}
use Rattle.json.specs.Lex as text
use Rattle.bulk_replies.specs.declared.compact.SeparatorState.{SeparatorState}
use Rattle.bulk_replies.specs.declared.compact.SeparatorState.TheVariants.{Fresh, AfterValue, AfterComma}
use Rattle.bulk_replies.specs.declared.compact.LiteralName.{LiteralName}
use Rattle.bulk_replies.specs.declared.compact.LiteralName.TheVariants.{True, False, Null, Other}
use Rattle.bulk_replies.specs.declared.compact.ReaderState.{ReaderState}

abbrev pub place_of : SeparatorState → text.Place
place_of Fresh = fresh
place_of AfterValue = after_value
place_of AfterComma = after_comma

abbrev pub begins_at : SeparatorState → Bool
begins_at Fresh = true
begins_at AfterValue = false
begins_at AfterComma = true

abbrev pub closes_at : SeparatorState → Bool
closes_at Fresh = true
closes_at AfterValue = true
closes_at AfterComma = false

-- the tokens that are still to come
abbrev pub left_at : List ℕ → ReaderState → List Token
left_at d s = punctuate (place_of s.place) (lex between (drop s.at d))

-- behind a value, the text from `at` on gives what it gives from the next spot on
pub record Follows (d : List ℕ) (at : ℕ) (next : ReaderState) : Type 0 where
  pub within : next.at ≤ length d
  pub same : punctuate after_value (lex between (drop at d)) ≡ left_at d next

-- a comma or a bracket that closes stands there
pub record Delimits (d : List ℕ) (at : ℕ) : Type 0 where
  pub within : at < length d
  pub byte : (slice_index d at ≡ 44) ⊎ ((slice_index d at ≡ 93) ⊎ (slice_index d at ≡ 125))

abbrev pub GoesOn : List ℕ → ℕ → ReaderState → Type 0
GoesOn d at next = Delimits d at × Follows d at next

-- a lexeme stands there, up to this end
pub record Lexes (d : List ℕ) (at : ℕ) (t : Token) (end : ℕ) : Type 0 where
  pub within : end ≤ length d
  pub gives : lex between (drop at d) ≡ token t ∷ lex between (drop end d)

-- a number or a literal stands there, if it is at its end where this one ends
pub record Words (d : List ℕ) (at : ℕ) (t : Token) (end : ℕ) : Type 0 where
  pub within : end ≤ length d
  pub placed : (p : text.Place) (ls : List Lexeme) → may_begin p ≡ true → punctuate p (token t ∷ ls) ≡ t ∷ punctuate after_value ls
  pub gives : Delimits d end → lex between (drop at d) ≡ token t ∷ lex between (drop end d)

abbrev pub IsLiteral : List ℕ → ℕ → LiteralName → Type 0
IsLiteral d at True = Words d at (boolean true) (at + 4)
IsLiteral d at False = Words d at (boolean false) (at + 5)
IsLiteral d at Null = Words d at null (at + 4)
IsLiteral d at Other = ⊤

-- where a value may begin, this token stands there, and the next spot is behind it
pub record Begins (d : List ℕ) (at : ℕ) (t : Token) (next : ReaderState) : Type 0 where
  pub within : next.at ≤ length d
  pub gives : (p : text.Place) → may_begin p ≡ true → punctuate p (lex between (drop at d)) ≡ t ∷ left_at d next
