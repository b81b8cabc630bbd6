-- The patterns that are made of a condition.
use Rattle.std.specs.Prelude.{◌≡◌, ℕ, List, [], ◌∷◌, ◌++◌, map, flat_map, ⊤}
use Rattle.regex_hir.specs.Re.{Re}
use Rattle.pattern_box.specs.Patterns.{Expression, pattern_re, pattern_groups, IsReadFrom, IsRefusal}
use Rattle.pattern_box.specs.declared.fault.PatternFault.{PatternFault}
use Rattle.config_tree.specs.declared.tree.MatchPattern.{MatchPattern}
use Rattle.config_tree.specs.declared.tree.MatchPattern.TheVariants as p
use Rattle.config_tree.specs.declared.tree.Condition.{Condition}
use Rattle.config_tree.specs.declared.tree.Condition.TheOpen.{Condition-F}
use Rattle.config_tree.specs.declared.tree.Condition.TheFolds.{fold-Condition}

-- the text of a pattern: a regexp and a string are the same pattern
abbrev pub pattern_text : MatchPattern → List ℕ
pattern_text (p.Regexp s) = s
pattern_text (p.Text s) = s

-- the texts of the conditions of a row, one after the other
abbrev pub joined_texts : {J : Type 0} → List (J × List (List ℕ)) → List (List ℕ)
joined_texts rest = flat_map (λ p. p.1) rest

abbrev pub texts_step : Condition-F (List (List ℕ)) → List (List ℕ)
texts_step (Condition-F.Operand x) = []
texts_step (Condition-F.Not part) = part
texts_step (Condition-F.Conjoined first rest) = first ++ joined_texts rest
texts_step (Condition-F.Disjoined first rest) = first ++ joined_texts rest
texts_step (Condition-F.Compared j x y) = []
texts_step (Condition-F.Matched j x p) = pattern_text p ∷ []
texts_step (Condition-F.In x y) = []
texts_step (Condition-F.NotIn x y) = []

-- the texts of the patterns of a condition, in its order
unfoldable pub texts : Condition → List (List ℕ)
texts = fold-Condition (List (List ℕ)) texts_step

-- those of what follows the first condition of a row
abbrev pub texts_behind : {J : Type 0} → List (J × Condition) → List (List ℕ)
texts_behind rest = joined_texts (map (λ p. (p.0, texts p.1)) rest)

-- each pattern is read from its text
abbrev pub AreReadFrom : List (List ℕ) → List Expression → Type 0
AreReadFrom [] [] = ⊤
AreReadFrom [] (p ∷ ps) = ⊥
AreReadFrom (s ∷ ss) [] = ⊥
AreReadFrom (s ∷ ss) (p ∷ ps) = IsReadFrom s p × AreReadFrom ss ps

-- the patterns were made of the condition
abbrev pub AreMadeOf : Condition → List Expression → Type 0
AreMadeOf condition ps = AreReadFrom (texts condition) ps

-- One of the texts is refused with this fault, and from each text before it a pattern was read.
pub record FirstIsRefused (fault : PatternFault) (ss : List (List ℕ)) : Type 0 where
  pub before : List (List ℕ)
  pub text : List ℕ
  pub behind : List (List ℕ)
  pub whole : ss ≡ before ++ text ∷ behind
  pub made : List Expression
  pub read : AreReadFrom before made
  pub refused : IsRefusal text fault

-- behind the old patterns stand new ones that are read from these texts
pub record Added (ss : List (List ℕ)) (old new : List Expression) : Type 0 where
  pub more : List Expression
  pub whole : new ≡ old ++ more
  pub read : AreReadFrom ss more

-- the first patterns are read from these texts
abbrev pub BeginWith : List (List ℕ) → List Expression → Type 0
BeginWith [] ps = ⊤
BeginWith (s ∷ ss) [] = ⊥
BeginWith (s ∷ ss) (p ∷ ps) = IsReadFrom s p × BeginWith ss ps

-- what a pattern searches for, with how many groups
abbrev pub meaning_of : Expression → Re × ℕ
meaning_of p = (pattern_re p, pattern_groups p)

abbrev pub meanings : List Expression → List (Re × ℕ)
meanings ps = map meaning_of ps
