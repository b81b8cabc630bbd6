-- The tokens of a text, with their places.
use Rattle.std.specs.Prelude.{ℕ, zero, suc, ◌+◌, ◌==◌, ◌&&◌, ◌||◌, not, nat_eq, Bool, true, false, if◌then◌else◌, List, [], ◌∷◌, ◌++◌, length, take, drop, map, Option, Some, None, option_map, IfSome, ◌≤◌, codes, bytes_eq}
use Rattle.std.specs.List.{list_any}
use Rattle.event_tree.specs.NumberTexts.{is_digit}
use Rattle.config_lex.specs.Bytes.{is_letter, is_in_word, passing, skip, closing, unescaped, number_length, begins_number, number_of, part_length}
use Rattle.config_lex.specs.declared.token.Token.{Token}
use Rattle.config_lex.specs.declared.token.Token.TheVariants as t
use Rattle.config_lex.specs.declared.token.Word.{Word}
use Rattle.config_lex.specs.declared.token.Word.TheVariants as w
use Rattle.config_tree.specs.declared.operators.Conjunction.TheVariants as and
use Rattle.config_tree.specs.declared.operators.Disjunction.TheVariants as or
use Rattle.config_lex.specs.declared.token.Section.TheVariants as kind
use Rattle.config_tree.specs.declared.operators.Comparison.TheVariants as is
use Rattle.config_tree.specs.declared.operators.Matching.TheVariants as matching
use Rattle.config_lex.specs.declared.token.Lexeme.{Lexeme}
use Rattle.config_lex.specs.declared.context.Context.{Context}

-- What the tokens so far say on how the next is read. `in_condition`: between the `if` of a branch and the `{` behind its condition.
-- `at_branch`: just behind `{`, `}` or `else`, where a word `if` begins a branch. `at_operand`: in a condition, where an operand may stand.
abbrev pub start : Context
start = record { in_condition = false; at_branch = false; at_operand = false }

abbrev pub plain : Bool → Context
plain inside = record { in_condition = inside; at_branch = false; at_operand = false }

abbrev pub before_branch : Bool → Context
before_branch inside = record { in_condition = inside; at_branch = true; at_operand = false }

abbrev pub before_operand : Bool → Context
before_operand inside = record { in_condition = inside; at_branch = false; at_operand = inside }

abbrev pub after_token : Context → Token → Context
after_token x t.OpenBrace = before_branch false
after_token x t.CloseBrace = before_branch x.in_condition
after_token x t.Arrow = plain false
after_token x (t.Word w.If) = before_operand (x.at_branch || x.in_condition)
after_token x (t.Word w.Else) = before_branch x.in_condition
after_token x (t.Word w.In) = before_operand x.in_condition
after_token x (t.Word (w.Conjunction j)) = before_operand x.in_condition
after_token x (t.Word (w.Disjunction j)) = before_operand x.in_condition
after_token x t.OpenParen = before_operand x.in_condition
after_token x t.Exclamation = before_operand x.in_condition
after_token x (t.Comparison j) = before_operand x.in_condition
after_token x (t.Matching j) = before_operand x.in_condition
after_token x y = plain x.in_condition

-- the word that begins a section, or one without a meaning of its own
abbrev pub section_word : List ℕ → Word
section_word s =
    if bytes_eq s (codes "input") then w.Section kind.Input
    else (if bytes_eq s (codes "filter") then w.Section kind.Filter
    else (if bytes_eq s (codes "output") then w.Section kind.Output
    else w.Other s))

-- a joint, or one of those
abbrev pub joint_word : List ℕ → Word
joint_word s =
    if bytes_eq s (codes "and") then w.Conjunction and.And
    else (if bytes_eq s (codes "nand") then w.Conjunction and.Nand
    else (if bytes_eq s (codes "or") then w.Disjunction or.Or
    else (if bytes_eq s (codes "xor") then w.Disjunction or.Xor
    else section_word s)))

-- a word but `if` and `else`, by its spelling
abbrev pub other_word : List ℕ → Word
other_word s = if bytes_eq s (codes "in") then w.In else (if bytes_eq s (codes "not") then w.Not else joint_word s)

-- a word by its spelling
abbrev pub word_of : List ℕ → Word
word_of s = if bytes_eq s (codes "if") then w.If else (if bytes_eq s (codes "else") then w.Else else other_word s)

abbrev pub word_token : List ℕ → Token
word_token s = if list_any (λ b. nat_eq b 45) s then t.Dashed s else t.Word (word_of s)

-- A token in front of the text, and its length.
abbrev pub Found : Type 0
Found = Option (Token × ℕ)

-- what was found from this place on ends before that one
abbrev pub Fits : ℕ → ℕ → Found → Type 0
Fits from end found = IfSome found (λ p. from + p.1 ≤ end)

-- a word has no dash in a condition
abbrev pub word_at : Bool → List ℕ → Found
word_at inside s = let n = passing (is_in_word (not inside)) s in Some (word_token (take n s), n)

abbrev pub number_at : List ℕ → Found
number_at s = let n = number_length s in option_map (λ value. (t.Number value (take n s), n)) (number_of (take n s))

-- behind the quote that opens it
abbrev pub quoted_at : ℕ → List ℕ → Found
quoted_at quote s = option_map (λ n. (t.Quoted (take n s), n + 2)) (closing quote false s)

-- behind the `/` that opens it
abbrev pub regexp_at : List ℕ → Found
regexp_at s = option_map (λ n. (t.Regexp (unescaped (take n s)), n + 2)) (closing 47 false s)

-- the parts that stand in front, behind those read; the number bounds the turns
abbrev pub parts_more : Option ℕ → List (List ℕ) → List ℕ → (List (List ℕ) → List ℕ → List (List ℕ)) → List (List ℕ)
parts_more None front s go = front
parts_more (Some k) front s go = go (front ++ take k (drop 1 s) ∷ []) (drop (k + 2) s)

unfoldable pub parts_at : ℕ → List (List ℕ) → List ℕ → List (List ℕ)
parts_at zero front s = front
parts_at (suc n) front s = parts_more (part_length s) front s (λ f r. parts_at n f r)

abbrev pub selector_length : List (List ℕ) → ℕ
selector_length [] = 0
selector_length (p ∷ parts) = length p + 2 + selector_length parts

abbrev pub selector_of : List (List ℕ) → Found
selector_of [] = None
selector_of (p ∷ parts) = Some (t.Selector (p ∷ parts), selector_length (p ∷ parts))

-- the selector in front, where one stands
abbrev pub selector_at : List ℕ → Found
selector_at s = selector_of (parts_at (length s) [] s)

-- what begins a literal or ends a list: a quote, a digit, `-` or `]`
abbrev pub begins_literals : List ℕ → Bool
begins_literals [] = false
begins_literals (b ∷ s) = b == 34 || b == 39 || is_digit b || b == 45 || b == 93

-- at a `[`: where an operand may stand, it begins a list of literals if the next token does, and else a selector
abbrev pub bracket_at : Bool → List ℕ → Found
bracket_at operand s =
    if operand && not (begins_literals (drop (1 + skip false (drop 1 s)) s)) then selector_at s else Some (t.OpenBracket, 1)

-- signs of two bytes
abbrev pub double : ℕ → ℕ → Option Token
double b c =
    if b == 61 && c == 62 then Some t.Arrow
    else (if b == 61 && c == 61 then Some (t.Comparison is.Equal)
    else (if b == 33 && c == 61 then Some (t.Comparison is.Unequal)
    else (if b == 60 && c == 61 then Some (t.Comparison is.AtMost)
    else (if b == 62 && c == 61 then Some (t.Comparison is.AtLeast)
    else (if b == 61 && c == 126 then Some (t.Matching matching.Matches)
    else (if b == 33 && c == 126 then Some (t.Matching matching.MatchesNot)
    else None))))))

-- signs of one byte
abbrev pub single : ℕ → Option Token
single b =
    if b == 123 then Some t.OpenBrace
    else (if b == 125 then Some t.CloseBrace
    else (if b == 93 then Some t.CloseBracket
    else (if b == 40 then Some t.OpenParen
    else (if b == 41 then Some t.CloseParen
    else (if b == 44 then Some t.Comma
    else (if b == 33 then Some t.Exclamation
    else (if b == 60 then Some (t.Comparison is.Less)
    else (if b == 62 then Some (t.Comparison is.Greater)
    else None))))))))

-- the longer sign, where one stands
abbrev pub longer : Option Token → Option Token → Found
longer (Some y) short = Some (y, 2)
longer None (Some y) = Some (y, 1)
longer None None = None

abbrev pub sign_at : List ℕ → Found
sign_at [] = None
sign_at (b ∷ []) = longer None (single b)
sign_at (b ∷ c ∷ s) = longer (double b c) (single b)

-- the token in front; none where the bytes begin no token
unfoldable pub token_at : Context → List ℕ → Found
token_at x [] = None
token_at x (b ∷ s) =
    if is_letter b then word_at x.in_condition (b ∷ s)
    else (if begins_number (b ∷ s) then number_at (b ∷ s)
    else (if b == 34 || b == 39 then quoted_at b s
    else (if b == 47 then regexp_at s
    else (if b == 91 then bracket_at x.at_operand (b ∷ s)
    else sign_at (b ∷ s)))))

abbrev pub placed : ℕ → Token → Lexeme
placed place token = record { place = place; token = token }

-- a token at a place, and what is behind it. The list ends at the first bytes that begin no token.
abbrev pub found : ℕ → Context → Found → (ℕ → Context → List Lexeme) → List Lexeme
found place x None go = placed place t.Unreadable ∷ []
found place x (Some (y, k)) go = placed place y ∷ go (place + k) (after_token x y)

abbrev pub next : ℕ → Context → List ℕ → (ℕ → Context → List Lexeme) → List Lexeme
next place x [] go = []
next place x (b ∷ s) go = found place x (token_at x (b ∷ s)) go

-- the tokens from `at` on, of which there are at most n
unfoldable pub lexed : ℕ → ℕ → Context → List ℕ → List Lexeme
lexed zero at x text = []
lexed (suc n) at x text = next (at + skip false (drop at text)) x (drop (at + skip false (drop at text)) text) (λ place y. lexed n place y text)

abbrev pub lexemes : List ℕ → List Lexeme
lexemes text = lexed (length text) 0 start text

abbrev pub tokens : List ℕ → List Token
tokens text = map (λ l. l.token) (lexemes text)

-- the place of the token with so many tokens from it on; the length of the text where none is left
abbrev pub place_in : ℕ → List Lexeme → ℕ → ℕ
place_in end [] left = end
place_in end (l ∷ ls) left = if length (l ∷ ls) == left then l.place else place_in end ls left

abbrev pub place_of : List ℕ → ℕ → ℕ
place_of text left = place_in (length text) (lexemes text) left
