-- How many levels are open behind some tokens, and the two faults of a list of tokens.
use Rattle.std.specs.Prelude.{◌≡◌, ℕ, suc, ◌≤◌, List, [], ◌∷◌, ◌++◌, length}
use Rattle.config_lex.specs.declared.token.Token.{Token}
use Rattle.config_lex.specs.declared.token.Token.TheVariants as t
use Rattle.config_lex.specs.declared.token.Word.TheVariants as w
use Rattle.config_parse.specs.Viable.{Viable, IsFault}

-- what has opened a level: a `{`, `[` or `(`, or a `!`
pub data Opener : Type 0 where
  Bracket : Opener
  Denial : Opener

-- the levels that are open, the innermost first
abbrev pub Open : Type 0
Open = List Opener

-- where operands end: the levels of each `!` behind the innermost bracket end too
abbrev pub settled : Open → Open
settled (Denial ∷ l) = settled l
settled l = l

-- a bracket's level ends, and with it each `!` in it
abbrev pub closed : Open → Open
closed [] = []
closed (Denial ∷ l) = closed l
closed (Bracket ∷ l) = l

-- a bracket and a `!` open a level. It ends with the bracket's partner, and that of a `!` with its operand: at a joint, at the bracket
-- that closes round it, and at the `{` behind the condition.
abbrev pub after : Open → Token → Open
after l t.OpenBrace = Bracket ∷ settled l
after l t.OpenBracket = Bracket ∷ l
after l t.OpenParen = Bracket ∷ l
after l t.Exclamation = Denial ∷ l
after l t.CloseBrace = closed l
after l t.CloseBracket = closed l
after l t.CloseParen = closed l
after l (t.Word (w.Conjunction j)) = settled l
after l (t.Word (w.Disjunction j)) = settled l
after l y = l

abbrev pub after_all : Open → List Token → Open
after_all l [] = l
after_all l (y ∷ ts) = after_all (after l y) ts

-- how many levels count as open behind these tokens: that of a `!` does until the token behind its operand
abbrev pub level : List Token → ℕ
level ts = length (after_all [] ts)

-- the first token that opens a level past the limit, in a list that begins a configuration up to it
pub record IsDeep (limit : ℕ) (ts : List Token) (left : ℕ) : Type 0 where
  pub used : List Token
  pub token : Token
  pub behind : List Token
  pub whole : ts ≡ used ++ token ∷ behind
  pub place : left ≡ length (token ∷ behind)
  pub viable : Viable (used ++ token ∷ [])
  pub deep : level (used ++ token ∷ []) ≡ suc limit
  pub within : (a b : List Token) → used ≡ a ++ b → level a ≤ limit

-- the first fault, where no token before it opens a level past the limit
pub record IsSyntax (limit : ℕ) (ts : List Token) (left : ℕ) : Type 0 where
  pub fault : IsFault ts left
  pub within : (a b : List Token) → fault.used ≡ a ++ b → level a ≤ limit
