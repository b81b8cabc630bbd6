-- What a stack machine that tests the grammar has on its stack.
use Rattle.std.specs.Prelude.{ℕ, List}

-- what may still be owed, in the order in which it has to come
pub data Symbol : Type 0 where
  Value : Symbol
  -- behind a bareword that is a value: nothing, or the settings of a nested plugin
  Nest : Symbol
  -- behind the `[` of an array
  Members : Symbol
  -- behind a member of an array
  More : Symbol
  -- behind the `{` of a hash and these keys
  Pairs : List (List ℕ) → Symbol
  Arrow : Symbol
  -- behind the `{` of a plugin
  Settings : Symbol
  -- the `{` of a plugin and its settings
  SettingsBlock : Symbol
  Literal : Symbol
  -- behind the `[` of a list of literals
  Literals : Symbol
  MoreLiterals : Symbol
  Operand : Symbol
  -- behind the first operand of a comparison
  Tail : Symbol
  Pattern : Symbol
  -- the `in` of `not in`
  InWord : Symbol
  Unary : Symbol
  -- behind an operand of `and` and `nand`
  Ands : Symbol
  -- behind an operand of `or` and `xor`
  Ors : Symbol
  -- the end of the operand of a `!`
  NotEnd : Symbol
  CloseParen : Symbol
  Block : Symbol
  -- behind the `{` of a block, or of a filter or output section
  Statements : Symbol
  -- behind a block of a branch
  Otherwise : Symbol
  -- behind an `else`
  ElseBody : Symbol
  PluginsBlock : Symbol
  -- behind the `{` of an input section
  Plugins : Symbol
  Sections : Symbol
