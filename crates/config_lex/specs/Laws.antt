-- What the tokens of a text are, said of the text: it is its tokens as they are written, with blanks and comments between.
use Rattle.std.specs.Prelude.{◌≡◌, ◌⊎◌, ℕ, ◌+◌, ◌==◌, true, false, List, [], ◌∷◌, ◌++◌, suc, length, take, drop, Option, Some, None, codes}
use Rattle.std.specs.List.{list_any}
use Rattle.event_tree.specs.Number.{Num}
use Rattle.event_tree.specs.NumberTexts.{Shifts, number, is_digit}
use Rattle.event_tree.specs.PathTexts.{bracketed}
use Rattle.config_lex.specs.Bytes.{is_blank, passing, begins_with, begins_number, sign_length, whole_length, number_length, number_of, unescaped}
use Rattle.config_lex.specs.Lexemes.{after_token, placed, token_at}
use Rattle.config_lex.specs.Spelling.{spelling, comparison_text, matching_text}
use Rattle.config_lex.specs.declared.context.Context.{Context}
use Rattle.config_lex.specs.declared.token.Lexeme.{Lexeme}
use Rattle.config_lex.specs.declared.token.Token.{Token}
use Rattle.config_lex.specs.declared.token.Token.TheVariants as t

-- without a newline (10)
abbrev pub IsLine : List ℕ → Type 0
IsLine s = list_any (λ b. b == 10) s ≡ false

-- blanks and comments; a comment goes from `#` (35) to the newline that ends it
pub data IsGap : List ℕ → Type 0 where
  nothing : IsGap []
  blank : {b : ℕ} {s : List ℕ} → is_blank b ≡ true → IsGap s → IsGap (b ∷ s)
  comment : (line s : List ℕ) → IsLine line → IsGap s → IsGap (35 ∷ (line ++ 10 ∷ s))

-- blanks and comments up to the end of a text, where the last comment needs no newline
pub data IsEnd : List ℕ → Type 0 where
  gap : {s : List ℕ} → IsGap s → IsEnd s
  last_comment : (s line : List ℕ) → IsGap s → IsLine line → IsEnd (s ++ 35 ∷ line)

-- how a token is written: a string in quotes of either kind, a regexp with a backslash before each `/`
abbrev pub Writes : Token → List ℕ → Type 0
Writes (t.Word word) s = s ≡ spelling word
Writes (t.Dashed word) s = s ≡ word
Writes (t.Quoted inner) s = (s ≡ 34 ∷ (inner ++ 34 ∷ [])) ⊎ (s ≡ 39 ∷ (inner ++ 39 ∷ []))
Writes (t.Number n digits) s = (s ≡ digits) × (number_of digits ≡ Some n)
Writes (t.Regexp inner) s = (raw : List ℕ) × (inner ≡ unescaped raw) × (s ≡ 47 ∷ (raw ++ 47 ∷ []))
Writes (t.Selector parts) s = s ≡ bracketed parts
Writes t.OpenBrace s = s ≡ codes "{"
Writes t.CloseBrace s = s ≡ codes "}"
Writes t.OpenBracket s = s ≡ codes "["
Writes t.CloseBracket s = s ≡ codes "]"
Writes t.OpenParen s = s ≡ codes "("
Writes t.CloseParen s = s ≡ codes ")"
Writes t.Comma s = s ≡ codes ","
Writes t.Arrow s = s ≡ codes "=>"
Writes t.Exclamation s = s ≡ codes "!"
Writes (t.Comparison j) s = s ≡ comparison_text j
Writes (t.Matching j) s = s ≡ matching_text j
Writes t.Unreadable s = ⊥

-- From a place on, behind the tokens that made this context, a text is these tokens, each at its place: up to its end, or to the first bytes that begin
-- no token there, at whose place the last is unreadable.
pub data IsLaid : ℕ → Context → List ℕ → List Lexeme → Type 0 where
  ends : {at : ℕ} {x : Context} {s : List ℕ} → IsEnd s → IsLaid at x s []
  stops : {at : ℕ} {x : Context} (between : List ℕ) (b : ℕ) (s : List ℕ) → IsGap between → token_at x (b ∷ s) ≡ None → IsLaid at x (between ++ b ∷ s) (placed (at + length between) t.Unreadable ∷ [])
  goes_on : {at : ℕ} {x : Context} {ls : List Lexeme} (between text s : List ℕ) (y : Token) → IsGap between → Writes y text → IsLaid (at + length between + length text) (after_token x y) s ls
      → IsLaid at x (between ++ (text ++ s)) (placed (at + length between) y ∷ ls)

-- the whole text is that of a number: an optional `-`, digits, and an optional point with digits
abbrev pub IsNumberText : List ℕ → Type 0
IsNumberText s = (begins_number s ≡ true) × (number_length s ≡ length s)

-- the digits before the point of such a text, and those behind it
abbrev pub whole_digits : List ℕ → List ℕ
whole_digits s = take (passing is_digit (drop (sign_length s) s)) (drop (sign_length s) s)

abbrev pub places : List ℕ → List ℕ
places s = drop (suc (whole_length s)) s

-- the number has the value that the digits write with their sign, divided by ten for each place; none where no number in least form of 64 bits has it
abbrev pub HasValueOf : List ℕ → Option Num → Type 0
HasValueOf s found = Shifts found (begins_with 45 s) (number 0 (whole_digits s ++ places s)) 0 (length (places s))
