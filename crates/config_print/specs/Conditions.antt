-- A condition on one line, its tokens with one blank between.
use Rattle.std.specs.Prelude.{ℕ, List, [], ◌∷◌, ◌++◌, map, flat_map, Bool, true, false, if◌then◌else◌}
use Rattle.config_lex.specs.declared.token.Token.{Token}
use Rattle.config_lex.specs.declared.token.Token.TheVariants as t
use Rattle.config_lex.specs.declared.token.Word.{Word}
use Rattle.config_lex.specs.declared.token.Word.TheVariants as w
use Rattle.config_tree.specs.declared.tree.Condition.{Condition}
use Rattle.config_tree.specs.declared.tree.Condition.TheOpen.{Condition-F}
use Rattle.config_tree.specs.declared.tree.Condition.TheFolds.{fold-Condition}
use Rattle.config_tree.specs.declared.tree.Operand.{Operand}
use Rattle.config_tree.specs.declared.tree.Operand.TheVariants as o
use Rattle.config_tree.specs.declared.tree.Literal.{Literal}
use Rattle.config_tree.specs.declared.tree.Literal.TheVariants as l
use Rattle.config_tree.specs.declared.tree.MatchPattern.{MatchPattern}
use Rattle.config_tree.specs.declared.tree.MatchPattern.TheVariants as p
use Rattle.config_print.specs.declared.conditions.ConditionContext.{ConditionContext}
use Rattle.config_print.specs.declared.conditions.ConditionContext.TheVariants as at
use Rattle.config_print.specs.Tokens.{number_token, parts_of}
use Rattle.config_print.specs.Layout.{Piece, spaced, text_of}

-- a comma before all members of a list but the first
abbrev pub comma : Bool → List Piece
comma later = if later then spaced t.Comma ∷ [] else []

-- the members of a list behind its `[`, and the `]` at the end
abbrev pub members : Bool → List (List Piece) → List Piece
members later [] = spaced t.CloseBracket ∷ []
members later (x ∷ xs) = comma later ++ (x ++ members true xs)

abbrev pub listed : List (List Piece) → List Piece
listed xs = spaced t.OpenBracket ∷ members false xs

abbrev pub literal_token : Literal → Token
literal_token (l.Text s) = t.Quoted s
literal_token (l.Number n) = number_token n

abbrev pub literal : Literal → List Piece
literal x = spaced (literal_token x) ∷ []

abbrev pub operand : Operand → List Piece
operand (o.Field way) = spaced (t.Selector (parts_of way)) ∷ []
operand (o.Text s) = spaced (t.Quoted s) ∷ []
operand (o.Number n) = spaced (number_token n) ∷ []
operand (o.List xs) = listed (map literal xs)

-- the literals of a list, behind its `[`
abbrev pub literals : List Literal → List Piece
literals xs = members false (map literal xs)

abbrev pub pattern_token : MatchPattern → Token
pattern_token (p.Regexp s) = t.Regexp s
pattern_token (p.Text s) = t.Quoted s

abbrev pub pattern : MatchPattern → List Piece
pattern q = spaced (pattern_token q) ∷ []

-- two with an operator between, as a text
abbrev pub compared_text : Operand → List ℕ → Operand → List ℕ
compared_text x sign y = text_of (operand x) ++ 32 ∷ (sign ++ text_of (operand y))

abbrev pub matched_text : Operand → List ℕ → MatchPattern → List ℕ
matched_text x sign q = text_of (operand x) ++ 32 ∷ (sign ++ text_of (pattern q))

-- `or` and `xor` bind the least, and stand bare only where any condition may
abbrev pub parts_or : ConditionContext → Bool
parts_or at.Whole = false
parts_or at.Joined = true
parts_or at.Unary = true

-- `and` and `nand` bind more tightly, and stand bare also where what they join is joined
abbrev pub parts_and : ConditionContext → Bool
parts_and at.Whole = false
parts_and at.Joined = false
parts_and at.Unary = true

abbrev pub opened : Bool → List Piece
opened parens = if parens then spaced t.OpenParen ∷ [] else []

abbrev pub closed : Bool → List Piece
closed parens = if parens then spaced t.CloseParen ∷ [] else []

-- in parentheses, where they are wanted
abbrev pub grouped : Bool → List Piece → List Piece
grouped parens pieces = opened parens ++ (pieces ++ closed parens)

-- the pieces of a condition depend on where it stands
abbrev pub Placed : Type 0
Placed = ConditionContext → List Piece

-- what follows the first condition of a row: each further one behind its joint
abbrev pub joined : {J : Type 0} → (J → Word) → ConditionContext → J × Placed → List Piece
joined word place e = spaced (t.Word (word e.0)) ∷ e.1 place

abbrev pub compared : Token → Operand → Operand → List Piece
compared sign x y = operand x ++ spaced sign ∷ operand y

-- a condition at a place, with the pieces of each condition in it at each place; joints of one rank associate to the left
abbrev pub condition_step : Condition-F Placed → Placed
condition_step (Condition-F.Operand x) place = operand x
condition_step (Condition-F.Not x) place = spaced t.Exclamation ∷ x at.Unary
condition_step (Condition-F.Conjoined x rest) place = grouped (parts_and place) (x at.Joined ++ flat_map (joined w.Conjunction at.Unary) rest)
condition_step (Condition-F.Disjoined x rest) place = grouped (parts_or place) (x at.Whole ++ flat_map (joined w.Disjunction at.Joined) rest)
condition_step (Condition-F.Compared j x y) place = compared (t.Comparison j) x y
condition_step (Condition-F.Matched j x q) place = operand x ++ spaced (t.Matching j) ∷ pattern q
condition_step (Condition-F.In x y) place = compared (t.Word w.In) x y
condition_step (Condition-F.NotIn x y) place = operand x ++ spaced (t.Word w.Not) ∷ spaced (t.Word w.In) ∷ operand y

unfoldable pub condition : Condition → Placed
condition = fold-Condition Placed condition_step

-- further conditions of a row
abbrev pub conjunct : {J : Type 0} → (J → Word) → ConditionContext → J × Condition → List Piece
conjunct word place e = joined word place (e.0, condition e.1)

abbrev pub row : {J : Type 0} → (J → Word) → ConditionContext → List (J × Condition) → List Piece
row word place = flat_map (conjunct word place)
