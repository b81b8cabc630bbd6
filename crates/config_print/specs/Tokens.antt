-- How a token is written, and the tokens of names and numbers. The bytes are those of UTF-8.
use Rattle.std.specs.Prelude.{ℕ, List, [], ◌∷◌, ◌++◌, Bool, true, false, not, ◌==◌, ◌&&◌, ◌||◌, if◌then◌else◌, flat_map, codes, bytes_eq}
use Rattle.std.specs.List.{list_all}
use Rattle.event_tree.specs.Number.{Num}
use Rattle.event_tree.specs.Events.{Way}
use Rattle.event_tree.specs.PathTexts.{bracketed}
use Rattle.event_json.specs.Json.{number_text}
use Rattle.config_lex.specs.declared.token.Token.{Token}
use Rattle.config_lex.specs.declared.token.Token.TheVariants as t
use Rattle.config_lex.specs.declared.token.Word.{Word}
use Rattle.config_lex.specs.declared.token.Word.TheVariants as w
use Rattle.config_lex.specs.Bytes.{is_letter, is_in_word}
use Rattle.config_lex.specs.Lexemes.{word_token}
use Rattle.config_lex.specs.Spelling.{spelling, comparison_text, matching_text}

-- a `"` (34) stands there that no backslash (92) precedes; `escaped` says whether one stands in front
abbrev pub has_quote : Bool → List ℕ → Bool
has_quote escaped [] = false
has_quote escaped (b ∷ s) = (b == 34 && not escaped) || has_quote (b == 92) s

-- a string stands between two `"`, or between two `'` (39) where it has such a `"`
abbrev pub quote_of : List ℕ → ℕ
quote_of s = if has_quote false s then 39 else 34

abbrev pub string : List ℕ → List ℕ
string s = quote_of s ∷ (s ++ quote_of s ∷ [])

-- a word: a letter, then letters and digits, and dashes where they may stand
abbrev pub is_word : Bool → List ℕ → Bool
is_word dashes [] = false
is_word dashes (b ∷ s) = is_letter b && list_all (is_in_word dashes) s

-- what is no word for the lexer is a string
abbrev pub bare : Bool → List ℕ → List ℕ
bare dashes s = if is_word dashes s then s else string s

abbrev pub word_text : Word → List ℕ
word_text (w.Other s) = bare false s
word_text a = spelling a

-- a backslash before each `/` (47)
abbrev pub escaped : List ℕ → List ℕ
escaped = flat_map (λ b. if b == 47 then 92 ∷ 47 ∷ [] else b ∷ [])

-- a regexp stands between two `/`
abbrev pub regexp : List ℕ → List ℕ
regexp s = 47 ∷ (escaped s ++ 47 ∷ [])

-- a token by itself; of a selector each part stands in brackets
abbrev pub written : Token → List ℕ
written (t.Word a) = word_text a
written (t.Dashed s) = s
written (t.Quoted s) = string s
written (t.Number n s) = s
written (t.Regexp s) = regexp s
written (t.Selector parts) = bracketed parts
written t.OpenBrace = codes "{"
written t.CloseBrace = codes "}"
written t.OpenBracket = codes "["
written t.CloseBracket = codes "]"
written t.OpenParen = codes "("
written t.CloseParen = codes ")"
written t.Comma = codes ","
written t.Arrow = codes "=>"
written t.Exclamation = codes "!"
written (t.Comparison j) = comparison_text j
written (t.Matching j) = matching_text j
written t.Unreadable = []

-- the name of a setting is a word where it reads so, in which dashes may stand, and else a string; ..
abbrev pub name_token : List ℕ → Token
name_token s = if is_word true s then word_token s else t.Quoted s

-- .. so is that of a plugin, but for the words `if` and `else`
abbrev pub is_branch_word : List ℕ → Bool
is_branch_word s = bytes_eq s (codes "if") || bytes_eq s (codes "else")

abbrev pub plugin_token : List ℕ → Token
plugin_token s = if is_branch_word s then t.Quoted s else name_token s

abbrev pub number_token : Num → Token
number_token n = t.Number n (number_text n)

-- a selector; that of a field of the metadata begins with `@metadata`
abbrev pub parts_of : Way → List (List ℕ)
parts_of way = if way.meta then codes "@metadata" ∷ way.parts else way.parts
