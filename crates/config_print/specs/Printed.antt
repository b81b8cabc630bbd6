-- The text of a configuration: one statement, setting, key or brace on a line, with two blanks for each level.
use Rattle.std.specs.Prelude.{ℕ, zero, suc, ◌+◌, List, [], ◌∷◌, ◌++◌, drop, map, flat_map, Bool, true, false, Option, Some, None, if◌then◌else◌, codes}
use Rattle.config_lex.specs.declared.token.Token.{Token}
use Rattle.config_lex.specs.declared.token.Token.TheVariants as t
use Rattle.config_lex.specs.declared.token.Word.TheVariants as w
use Rattle.config_lex.specs.declared.token.Section.{Section}
use Rattle.config_lex.specs.declared.token.Section.TheVariants as kind
use Rattle.config_lex.specs.Lexemes.{word_of}
use Rattle.config_tree.specs.declared.tree.SettingValue.{SettingValue}
use Rattle.config_tree.specs.declared.tree.SettingValue.TheOpen.{SettingValue-F, Plugin-F, Settings-F}
use Rattle.config_tree.specs.declared.tree.SettingValue.TheFolds.{fold-SettingValue}
use Rattle.config_tree.specs.declared.tree.Condition.{Condition}
use Rattle.config_tree.specs.declared.tree.Plugin.{Plugin}
use Rattle.config_tree.specs.declared.tree.Statement.{Statement}
use Rattle.config_tree.specs.declared.tree.Statement.TheOpen.{Statement-F, Arm-F}
use Rattle.config_tree.specs.declared.tree.Statement.TheFolds.{fold-Statement, fold-Arm}
use Rattle.config_tree.specs.declared.tree.Arm.{Arm}
use Rattle.config_tree.specs.declared.tree.Config.{Config}
use Rattle.config_tree.specs.Joining.{Entries}
use Rattle.config_print.specs.declared.conditions.ConditionContext.TheVariants as at
use Rattle.config_print.specs.declared.values.Indent.{Indent}
use Rattle.config_print.specs.declared.values.Indent.TheVariants as line
use Rattle.config_print.specs.Tokens.{name_token, plugin_token, number_token}
use Rattle.config_print.specs.Layout.{Piece, spaced, text_of}
use Rattle.config_print.specs.Conditions.{listed, condition}

abbrev pub one_line : Indent
one_line = line.OneLine

-- where a line without indentation begins
abbrev pub no_indentation : Indent
no_indentation = line.Level 0

-- one level deeper
abbrev pub deeper : Indent → Indent
deeper line.OneLine = line.OneLine
deeper (line.Level n) = line.Level (n + 1)

-- two blanks for each level
abbrev pub indentation : ℕ → List ℕ
indentation zero = []
indentation (suc n) = 32 ∷ 32 ∷ indentation n

-- what stands in front of each line: a newline (10) and the indentation; where all stands on one line, one blank
abbrev pub gap : Indent → List ℕ
gap line.OneLine = codes " "
gap (line.Level n) = 10 ∷ indentation n

-- pieces that have a margin, as far as they go over several lines
abbrev pub Laid : Type 0
Laid = Indent → List Piece

-- lines in braces, the closing one on a line of its own
abbrev pub braced : Indent → List Piece → List Piece
braced margin lines = spaced t.OpenBrace ∷ (lines ++ (gap margin, t.CloseBrace) ∷ [])

-- a name or key with its value, on a line of its own
abbrev pub entry : Token → Laid → Laid
entry name value margin = (gap margin, name) ∷ spaced t.Arrow ∷ value margin

abbrev pub setting : Indent → List ℕ × Laid → List Piece
setting margin e = entry (name_token e.0) e.1 margin

abbrev pub pair : Indent → List ℕ × Laid → List Piece
pair margin e = entry (t.Quoted e.0) e.1 margin

-- a value, with the pieces of each value in it: an array stands on one line
abbrev pub value_step : SettingValue-F Laid Laid Laid → Laid
value_step (SettingValue-F.Text s) margin = spaced (t.Quoted s) ∷ []
value_step (SettingValue-F.Number n) margin = spaced (number_token n) ∷ []
value_step (SettingValue-F.Nested x) margin = x margin
value_step (SettingValue-F.Array xs) margin = listed (map (λ x. x one_line) xs)
value_step (SettingValue-F.Hash es) margin = braced margin (flat_map (pair (deeper margin)) es)

-- a plugin that is a value has a word as its name
abbrev pub nested_step : Plugin-F Laid Laid Laid → Laid
nested_step x margin = spaced (t.Word (word_of x.name)) ∷ x.settings margin

abbrev pub settings_step : Settings-F Laid Laid Laid → Laid
settings_step x margin = braced margin (flat_map (setting (deeper margin)) x.list)

unfoldable pub value : SettingValue → Laid
value = fold-SettingValue Laid Laid Laid value_step nested_step settings_step

-- an array, on one line
abbrev pub members_in_line : List SettingValue → List Piece
members_in_line xs = listed (map (λ x. value x one_line) xs)

-- each key, or each name of a setting, with its value on a line of its own
abbrev pub pair_line : Indent → List ℕ × SettingValue → List Piece
pair_line margin e = pair margin (e.0, value e.1)

abbrev pub pair_lines : Indent → Entries → List Piece
pair_lines margin = flat_map (pair_line margin)

abbrev pub pairs : Entries → Laid
pairs list margin = braced margin (pair_lines (deeper margin) list)

abbrev pub setting_line : Indent → List ℕ × SettingValue → List Piece
setting_line margin e = setting margin (e.0, value e.1)

abbrev pub setting_lines : Indent → Entries → List Piece
setting_lines margin = flat_map (setting_line margin)

abbrev pub settings : Entries → Laid
settings list margin = braced margin (setting_lines (deeper margin) list)

-- a plugin that is a statement, on a line of its own
abbrev pub plugin : Plugin → Laid
plugin x margin = (gap margin, plugin_token x.name) ∷ settings x.settings.list margin

-- each on a line of its own
abbrev pub lines_of : {A : Type 0} → (A → Laid) → Indent → List A → List Piece
lines_of f margin = flat_map (λ x. f x margin)

-- the condition of an arm, behind its `if` and the blanks in front of that
abbrev pub test : Indent → Option Condition → List Piece
test margin None = []
test margin (Some x) = (gap margin, t.Word w.If) ∷ condition x at.Whole

-- pieces that have a margin, and one in front of the first
abbrev pub Gapped : Type 0
Gapped = Indent → Laid

-- statements in braces, behind the condition
abbrev pub arm_step : Arm-F Laid Gapped → Gapped
arm_step x front margin = test front x.condition ++ braced margin (lines_of (λ f. f) (deeper margin) x.block)

-- each arm of a branch but the first stands behind an `else` on a line of its own, ..
abbrev pub behind_else : Bool → Laid
behind_else later margin = if later then (gap margin, t.Word w.Else) ∷ [] else []

-- .. and the first on a line of its own
abbrev pub arm_front : Bool → Indent → Indent
arm_front later margin = if later then one_line else margin

abbrev pub branch : Bool → Indent → List Gapped → List Piece
branch later margin [] = []
branch later margin (x ∷ xs) = behind_else later margin ++ (x (arm_front later margin) margin ++ branch true margin xs)

abbrev pub statement_step : Statement-F Laid Gapped → Laid
statement_step (Statement-F.Plugin x) margin = plugin x margin
statement_step (Statement-F.Branch xs) margin = branch false margin xs

unfoldable pub statement : Statement → Laid
statement = fold-Statement Laid Gapped statement_step arm_step

unfoldable pub arm : Arm → Gapped
arm = fold-Arm Laid Gapped statement_step arm_step

-- plugins and statements, each on a line of its own, and the arms of a branch
abbrev pub plugin_lines : Indent → List Plugin → List Piece
plugin_lines = lines_of plugin

abbrev pub statement_lines : Indent → List Statement → List Piece
statement_lines = lines_of statement

-- the same in braces
abbrev pub plugin_block : List Plugin → Laid
plugin_block list margin = braced margin (plugin_lines (deeper margin) list)

abbrev pub block : List Statement → Laid
block list margin = braced margin (statement_lines (deeper margin) list)

abbrev pub arms : Indent → List Arm → List Piece
arms margin list = branch false margin (map arm list)

-- a section, where it isn't empty
abbrev pub section : {A : Type 0} → (A → Laid) → Section → List A → List Piece
section f kind [] = []
section f kind (x ∷ xs) = (gap no_indentation, t.Word (w.Section kind)) ∷ braced no_indentation (lines_of f (deeper no_indentation) (x ∷ xs))

abbrev pub plugin_section : Section → List Plugin → List Piece
plugin_section = section plugin

abbrev pub statement_section : Section → List Statement → List Piece
statement_section = section statement

-- the sections, each on a line of its own
unfoldable pub pieces : Config → List Piece
pieces config = plugin_section kind.Input config.inputs ++ (statement_section kind.Filter config.filters ++ statement_section kind.Output config.outputs)

-- lines as a text: a newline ends each, and none stands in front of the first
abbrev pub lines_text : List Piece → List ℕ
lines_text ps = drop 1 (text_of ps ++ 10 ∷ [])

abbrev pub inputs_text : List Plugin → List ℕ
inputs_text list = lines_text (plugin_section kind.Input list)

abbrev pub statements_text : Section → List Statement → List ℕ
statements_text kind list = lines_text (statement_section kind list)

unfoldable pub printed : Config → List ℕ
printed config = lines_text (pieces config)
