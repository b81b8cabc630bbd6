-- What a token may stand for.
use Rattle.std.specs.Prelude.{ℕ, List, [], ◌∷◌, Option, Some, None}
use Rattle.config_lex.specs.declared.token.Token.{Token}
use Rattle.config_lex.specs.declared.token.Token.TheVariants as t
use Rattle.config_lex.specs.declared.token.Word.{Word}
use Rattle.config_lex.specs.declared.token.Word.TheVariants as w
use Rattle.config_lex.specs.Spelling as texts
use Rattle.config_tree.specs.declared.tree.SettingValue.{SettingValue}
use Rattle.config_tree.specs.declared.tree.SettingValue.TheVariants as v
use Rattle.config_tree.specs.declared.tree.Operand.{Operand}
use Rattle.config_tree.specs.declared.tree.Operand.TheVariants as o
use Rattle.config_tree.specs.declared.tree.Literal.{Literal}
use Rattle.config_tree.specs.declared.tree.Literal.TheVariants as l
use Rattle.config_tree.specs.declared.tree.MatchPattern.{MatchPattern}
use Rattle.config_tree.specs.declared.tree.MatchPattern.TheVariants as p
use Rattle.event_tree.specs.PathTexts.{way_of}

-- how a word is written
abbrev pub spelling : Word → List ℕ
spelling = texts.spelling

-- a bareword: any word without a dash
abbrev pub bareword : Token → Option (List ℕ)
bareword (t.Word a) = Some (spelling a)
bareword _ = None

-- a setting's name: a string, or a word in which dashes may stand
abbrev pub setting_name : Token → Option (List ℕ)
setting_name (t.Quoted s) = Some s
setting_name (t.Dashed s) = Some s
setting_name y = bareword y

-- a plugin's name: the same, but for the words `if` and `else`
abbrev pub plugin_name : Token → Option (List ℕ)
plugin_name (t.Word w.If) = None
plugin_name (t.Word w.Else) = None
plugin_name y = setting_name y

-- the key of a hash: a string, a number as it is spelled, or a bareword
abbrev pub key : Token → Option (List ℕ)
key (t.Quoted s) = Some s
key (t.Number n s) = Some s
key y = bareword y

-- a value that is one token, but for a bareword, behind which a `{` may stand
abbrev pub scalar : Token → Option SettingValue
scalar (t.Quoted s) = Some (v.Text s)
scalar (t.Number n s) = Some (v.Number n)
scalar _ = None

abbrev pub literal : Token → Option Literal
literal (t.Quoted s) = Some (l.Text s)
literal (t.Number n s) = Some (l.Number n)
literal _ = None

-- an operand that is one token
abbrev pub operand_token : Token → Option Operand
operand_token (t.Selector []) = None
operand_token (t.Selector (a ∷ parts)) = Some (o.Field (way_of (a ∷ parts)))
operand_token (t.Quoted s) = Some (o.Text s)
operand_token (t.Number n s) = Some (o.Number n)
operand_token _ = None

-- the right side of `=~` and `!~`
abbrev pub pattern : Token → Option MatchPattern
pattern (t.Regexp s) = Some (p.Regexp s)
pattern (t.Quoted s) = Some (p.Text s)
pattern _ = None
