-- The derivations of three texts, rule by rule.
use Rattle.std.proofs.Common.{◌≡◌, ℕ, suc, List, [], ◌∷◌, ◌++◌, Some, refl, sym, ap, ap₂, subst, ◌∙◌, codes}
use Rattle.event_tree.specs.Number.{Num}
use Rattle.config_lex.specs.declared.token.Token.{Token}
use Rattle.config_lex.specs.declared.token.Token.TheVariants as t
use Rattle.config_tree.specs.declared.operators.Comparison.{Comparison}
use Rattle.config_tree.specs.declared.operators.Comparison.TheVariants as is
use Rattle.config_tree.specs.declared.operators.Matching.{Matching}
use Rattle.config_tree.specs.declared.operators.Matching.TheVariants as m
use Rattle.config_tree.specs.declared.tree.SettingValue.{SettingValue, out-SettingValue, roll-SettingValue, out-roll-SettingValue}
use Rattle.config_tree.specs.declared.tree.SettingValue.TheOpen.{SettingValue-F}
use Rattle.config_tree.specs.declared.tree.SettingValue.TheVariants as v
use Rattle.config_tree.specs.declared.tree.Plugin.{Plugin}
use Rattle.config_tree.specs.declared.tree.Settings.{Settings}
use Rattle.config_tree.specs.declared.tree.MatchPattern.{MatchPattern}
use Rattle.config_tree.specs.declared.tree.MatchPattern.TheVariants as p
use Rattle.config_tree.specs.declared.tree.Statement.TheVariants as s
use Rattle.config_tree.specs.Joints.{conjoined, disjoined}
use Rattle.config_tree.specs.declared.operators.Conjunction.TheVariants as conjunction
use Rattle.config_tree.specs.declared.operators.Disjunction.TheVariants as disjunction
use Rattle.config_tree.specs.declared.tree.Condition.{Condition}
use Rattle.config_tree.specs.declared.tree.Condition.TheVariants as c
use Rattle.config_tree.specs.declared.tree.Config.{Config}
use Rattle.config_parse.specs.Words.{pattern}
use Rattle.config_tree.specs.Joining.{Entries, with_entries, joined_value, plugin_of}
use Rattle.config_parse.specs.Grammar.{ReadsValue, scalar_value, bare, array, hash, no_nest, nested, no_item, items, no_more, more, no_pair, pair, no_setting, setting, no_more_literal, more_literals, no_literal, literals, one_token, list, alone, comparison, matching, within, not_within, ReadsUnary, compare, negation, group, joined, no_and, and, condition, no_or, or, ReadsPlugin, plugin, no_statement, plugin_statement, branch, arm, no_else, else_if, else, no_plugin, plugins, no_section, input, filter, output, ReadsConfig}
use Rattle.config_tests.specs.Examples.{whole}
use Rattle.config_tests.specs.Written.{word, field, digit, settings_tokens, settings_config, joints_tokens, joints_with, joints_config, joints_condition, left_of_or, right_of_xor, compared, arms_tokens, arms_with, arms_config, has_g, lacks_i, of_field, of_number}
use Rattle.config_tests.proofs.Joined.{behind_comparison, behind_match, behind_conjunction, behind_disjunction, conjunction_or}

-- Values of one token.
bareword_value : {d : ℕ} (s : List ℕ) → ReadsValue d (word s ∷ []) (v.Text s)
bareword_value s = bare refl no_nest

quoted_value : {d : ℕ} (s : List ℕ) → ReadsValue d (t.Quoted s ∷ []) (v.Text s)
quoted_value s = scalar_value refl

number_value : {d : ℕ} (n : ℕ) (s : List ℕ) → ReadsValue d (digit n s ∷ []) (v.Number (whole n))
number_value n s = scalar_value refl

-- A plugin without settings.
bare_plugin : {d : ℕ} (s : List ℕ) → ReadsPlugin (suc d) (word s ∷ t.OpenBrace ∷ t.CloseBrace ∷ []) (plugin_of s [])
bare_plugin s = plugin refl no_setting

-- The values of the settings.
first_tags : {d : ℕ} → ReadsValue (suc d) (t.OpenBracket ∷ word (codes "x") ∷ t.CloseBracket ∷ []) (v.Array (v.Text (codes "x") ∷ []))
first_tags = array (items (bareword_value (codes "x")) no_more)

second_tags : {d : ℕ} → ReadsValue (suc d) (t.OpenBracket ∷ t.Quoted (codes "y") ∷ t.Comma ∷ digit 2 (codes "2") ∷ t.CloseBracket ∷ []) (v.Array (v.Text (codes "y") ∷ v.Number (whole 2) ∷ []))
second_tags = array (items (quoted_value (codes "y")) (more (number_value 2 (codes "2")) no_more))

first_hash : {d : ℕ} → ReadsValue (suc d) (t.OpenBrace ∷ word (codes "k") ∷ t.Arrow ∷ digit 1 (codes "1") ∷ t.CloseBrace ∷ []) (v.Hash ((codes "k", v.Number (whole 1)) ∷ []))
first_hash = hash (pair refl refl (number_value 1 (codes "1")) no_pair)

second_hash : {d : ℕ} → ReadsValue (suc (suc d)) (t.OpenBrace ∷ word (codes "k") ∷ t.Arrow ∷ word (codes "true") ∷ digit 7 (codes "7") ∷ t.Arrow ∷ t.OpenBracket ∷ t.CloseBracket ∷ t.CloseBrace ∷ [])
    (v.Hash ((codes "k", v.Text (codes "true")) ∷ (codes "7", v.Array []) ∷ []))
second_hash = hash (pair refl refl (bareword_value (codes "true")) (pair refl refl (array no_item) no_pair))

nested_codec : {d : ℕ} → ReadsValue (suc d) (word (codes "json") ∷ t.OpenBrace ∷ t.CloseBrace ∷ []) (v.Nested (plugin_of (codes "json") []))
nested_codec = bare refl (nested no_setting)

-- Two values of one setting.
seen : (f : SettingValue-F SettingValue Plugin Settings) (x : SettingValue) → x ≡ roll-SettingValue f → out-SettingValue x ≡ f
seen f x e = ap out-SettingValue e ∙ out-roll-SettingValue f

joined_arrays : (xs ys : List SettingValue) → joined_value (v.Array xs) (v.Array ys) ≡ v.Array (xs ++ ys)
joined_arrays xs ys = rw (seen (SettingValue-F.Array xs) (v.Array xs) (sym (v.rolls-Array xs))) (rw (seen (SettingValue-F.Array ys) (v.Array ys) (sym (v.rolls-Array ys))) refl)

joined_hashes : (xs ys : Entries) → joined_value (v.Hash xs) (v.Hash ys) ≡ v.Hash (with_entries xs ys)
joined_hashes xs ys = rw (seen (SettingValue-F.Hash xs) (v.Hash xs) (sym (v.rolls-Hash xs))) (rw (seen (SettingValue-F.Hash ys) (v.Hash ys) (sym (v.rolls-Hash ys))) refl)

later_stays : (n : Num) (x : SettingValue) → joined_value (v.Number n) x ≡ x
later_stays n x = rw (seen (SettingValue-F.Number n) (v.Number n) (sym (v.rolls-Number n))) refl

abbrev joined_tags : SettingValue
joined_tags = joined_value (v.Array (v.Text (codes "x") ∷ [])) (v.Array (v.Text (codes "y") ∷ v.Number (whole 2) ∷ []))

abbrev joined_hash : SettingValue
joined_hash = joined_value (v.Hash ((codes "k", v.Number (whole 1)) ∷ [])) (v.Hash ((codes "k", v.Text (codes "true")) ∷ (codes "7", v.Array []) ∷ []))

abbrev joined_codec : SettingValue
joined_codec = joined_value (v.Number (whole 1)) (v.Nested (plugin_of (codes "json") []))

abbrev settings_with : SettingValue → SettingValue → SettingValue → Config
settings_with tags pairs codec = record {
  inputs = plugin_of (codes "a") ((codes "t", tags) ∷ (codes "h", pairs) ∷ (codes "c", codec) ∷ []) ∷ plugin_of (codes "d") [] ∷ [];
  filters = [];
  outputs = s.Plugin (plugin_of (codes "b") []) ∷ [];
}

settings_joined : ReadsConfig 64 settings_tokens (settings_with joined_tags joined_hash joined_codec)
settings_joined =
    input (plugins (plugin refl (setting refl first_tags (setting refl first_hash (setting refl second_tags (setting refl second_hash
    (setting refl (number_value 1 (codes "1")) (setting refl nested_codec no_setting))))))) no_plugin)
    (output (plugin_statement (bare_plugin (codes "b")) no_statement)
    (input (plugins (plugin refl no_setting) no_plugin) no_section))

pub settings_read : ReadsConfig 64 settings_tokens settings_config
settings_read =
    let tags = joined_arrays (v.Text (codes "x") ∷ []) (v.Text (codes "y") ∷ v.Number (whole 2) ∷ []) in
    let pairs = joined_hashes ((codes "k", v.Number (whole 1)) ∷ []) ((codes "k", v.Text (codes "true")) ∷ (codes "7", v.Array []) ∷ []) in
    let codec = later_stays (whole 1) (v.Nested (plugin_of (codes "json") [])) in
    subst (λ config. ReadsConfig 64 settings_tokens config) (λ i. settings_with (tags i) (pairs i) (codec i)) settings_joined

-- A field compared with a number.
compares : {d : ℕ} (part : List ℕ) (j : Comparison) (n : ℕ) (digits : List ℕ) → ReadsUnary d (field part ∷ t.Comparison j ∷ digit n digits ∷ []) (compared part j n)
compares part j n digits = compare (one_token refl) (comparison (one_token refl))

joints_joined : Condition
joints_joined =
    disjoined disjunction.Xor (disjoined disjunction.Or (conjoined conjunction.Nand (conjoined conjunction.And (compared (codes "a") is.Equal 1) (compared (codes "b") is.Unequal 2)) (compared (codes "c") is.Less 3)) (compared (codes "d") is.Greater 4))
    (c.Not (conjoined conjunction.And (compared (codes "e") is.AtMost 5) (compared (codes "f") is.AtLeast 6)))

joints_are : joints_joined ≡ joints_condition
unfolding joints_joined
joints_are =
    let rest = (conjunction.And, compared (codes "b") is.Unequal 2) ∷ (conjunction.Nand, compared (codes "c") is.Less 3) ∷ [] in
    let denied = ap c.Not (behind_comparison conjunction.And is.AtMost (of_field (codes "e")) (of_number 5) (compared (codes "f") is.AtLeast 6)) in
    let left = ap (λ x. conjoined conjunction.Nand x (compared (codes "c") is.Less 3)) (behind_comparison conjunction.And is.Equal (of_field (codes "a")) (of_number 1) (compared (codes "b") is.Unequal 2)) ∙ behind_conjunction conjunction.Nand _ _ _ in
    let middle = ap (λ x. disjoined disjunction.Or x (compared (codes "d") is.Greater 4)) left ∙ conjunction_or disjunction.Or (compared (codes "a") is.Equal 1) (compared (codes "d") is.Greater 4) rest in
    ap₂ (λ x y. disjoined disjunction.Xor x y) middle denied ∙ behind_disjunction disjunction.Xor left_of_or right_of_xor ((disjunction.Or, compared (codes "d") is.Greater 4) ∷ [])

joints_derived : ReadsConfig 64 joints_tokens (joints_with joints_joined)
unfolding joints_joined
joints_derived =
    filter (branch (arm (condition
    (joined (compares (codes "a") is.Equal 1 (codes "1")) (and (compares (codes "b") is.Unequal 2 (codes "2")) (and (compares (codes "c") is.Less 3 (codes "3")) no_and)))
    (or (joined (compares (codes "d") is.Greater 4 (codes "4")) no_and)
    (or (joined (negation (group (condition (joined (compares (codes "e") is.AtMost 5 (codes "5")) (and (compares (codes "f") is.AtLeast 6 (codes "6")) no_and)) no_or))) no_and) no_or)))
    no_statement) no_else no_statement) no_section

pub joints_read : ReadsConfig 64 joints_tokens joints_config
joints_read = subst (λ x. ReadsConfig 64 joints_tokens (joints_with x)) joints_are joints_derived

-- A field matched.
matches : {d : ℕ} (part : List ℕ) (j : Matching) (y : Token) (q : MatchPattern) → pattern y ≡ Some q → ReadsUnary d (field part ∷ t.Matching j ∷ y ∷ []) (c.Matched j (of_field part) q)
matches part j y q e = compare (one_token refl) (matching e)

arms_derived : ReadsConfig 64 arms_tokens (arms_with (conjoined conjunction.And has_g lacks_i))
arms_derived =
    filter (branch
    (arm (condition (joined (compare (one_token refl) (within (list (literals refl (more_literals refl no_more_literal))))) no_and) no_or) (plugin_statement (bare_plugin (codes "c")) no_statement))
    (else_if (arm (condition (joined (compare (one_token refl) (not_within (list no_literal))) no_and) no_or)
    (branch (arm (condition (joined (compare (one_token refl) alone) no_and) no_or) no_statement) no_else no_statement))
    (else_if (arm (condition (joined (matches (codes "f") m.Matches (t.Regexp (codes "g")) (p.Regexp (codes "g")) refl)
    (and (matches (codes "h") m.MatchesNot (t.Quoted (codes "i")) (p.Text (codes "i")) refl) no_and)) no_or) no_statement)
    (else (plugin_statement (bare_plugin (codes "k")) no_statement))))
    no_statement)
    (filter (plugin_statement (bare_plugin (codes "l")) no_statement)
    (output (branch (arm (condition (joined (matches (codes "m") m.Matches (t.Quoted (codes "n")) (p.Text (codes "n")) refl) no_and) no_or) no_statement) no_else no_statement) no_section))

pub arms_read : ReadsConfig 64 arms_tokens arms_config
arms_read = subst (λ x. ReadsConfig 64 arms_tokens (arms_with x)) (behind_match conjunction.And m.Matches (of_field (codes "f")) (p.Regexp (codes "g")) lacks_i) arms_derived
