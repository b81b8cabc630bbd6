-- What is good and is printed is read again as the same.
use Rattle.std.proofs.Common.{◌≡◌, ℕ, zero, suc, List, [], ◌∷◌, ◌++◌, map, Some, None, true, false, refl, ap, sym, subst, ◌∙◌, append_assoc}
use Rattle.config_lex.specs.declared.token.Token.{Token}
use Rattle.config_lex.specs.declared.token.Token.TheVariants as t
use Rattle.config_lex.specs.declared.token.Word.TheVariants as w
use Rattle.config_lex.specs.declared.token.Section.{Section}
use Rattle.config_lex.specs.declared.token.Section.TheVariants as kind
use Rattle.config_tree.specs.declared.tree.SettingValue.{SettingValue}
use Rattle.config_tree.specs.declared.tree.SettingValue.TheVariants as v
use Rattle.config_lex.specs.Lexemes.{word_of}
use Rattle.config_tree.specs.declared.tree.Condition.{Condition}
use Rattle.config_tree.specs.declared.tree.Plugin.{Plugin}
use Rattle.config_tree.specs.declared.tree.Arm.{Arm}
use Rattle.config_tree.specs.declared.tree.Statement.{Statement}
use Rattle.config_tree.specs.declared.tree.Statement.TheVariants as s
use Rattle.config_tree.specs.declared.tree.Config.{Config}
use Rattle.config_parse.specs.Grammar as g
use Rattle.config_tree.specs.Joining.{Entries, plugin_of, empty}
use Rattle.config_print.specs.Tokens.{number_token, name_token}
use Rattle.config_print.specs.Layout.{Piece, spaced, tokens_of}
use Rattle.config_print.specs.Conditions.{condition, members}
use Rattle.config_print.specs.declared.values.Indent.{Indent}
use Rattle.config_print.specs.Printed.{gap, one_line, no_indentation, deeper, braced, pair_lines, setting_lines, value, plugin, plugin_lines, statement_lines, arm, branch, plugin_section, statement_section, pieces, Laid, statement, lines_of}
use Rattle.config_print.specs.declared.conditions.ConditionContext.TheVariants as at
use Rattle.config_print.proofs.Equations.{value-Text, value-Number, value-Array, value-Hash, value-Nested, statement-Plugin, statement-Branch, arm-is}
use Rattle.config_print.proofs.PrintedConditions.{append_nil, sign, again_condition}
use Rattle.config_print.specs.Once.{Fresh, StandOnce}
use Rattle.config_print.proofs.Fresh.{set_end}
use Rattle.config_print.proofs.Layouts.{tokens_both}
use Rattle.config_print.proofs.Pieces.{all_of_both, AllOf, gap_is, name_is_written, plugin_is_written, Fine, fine, Printed, two, three, first_of_all, last_of_all}
use Rattle.config_print.proofs.Good.{good_settings, good_pairs, Lawful, GoodValue, good_text, good_number, good_nested, good_array, good_hash, GoodItems, no_items, item, GoodEntries, no_entries, entry}
use Rattle.config_print.proofs.PrintedNames.{word_spelled, name_reads, plugin_reads}

-- `}` on a line of its own
abbrev close : Indent → List Piece
close m = (gap m, t.CloseBrace) ∷ []

module _ (Ok : Token → Type 0) (law : Lawful Ok) where
  abbrev F : Piece → Type 0
  F = Fine Ok

  open_brace : F (spaced t.OpenBrace)
  open_brace = sign Ok law t.OpenBrace refl tt

  closes : (m : Indent) → AllOf F (close m)
  closes m = ((gap_is m, tt, law.sign t.CloseBrace refl), tt)

  mutual
    again_value : {d : ℕ} {x : SettingValue} → GoodValue Ok d x → (m : Indent) → Printed Ok (λ l. g.ReadsValue d l x) (value x m)
    again_value {d} (good_text {s} o) m = subst (Printed Ok (λ l. g.ReadsValue d l (v.Text s))) (sym (value-Text s m)) (g.scalar_value refl, (fine Ok (t.Quoted s) tt o, tt))
    again_value {d} (good_number {n} o) m = subst (Printed Ok (λ l. g.ReadsValue d l (v.Number n))) (sym (value-Number n m)) (g.scalar_value refl, (fine Ok (number_token n) refl o, tt))
    again_value (good_nested {d} {name} {es} o p f) m =
        let r = again_settings [] p f (deeper m) m in
        subst (Printed Ok (λ l. g.ReadsValue (suc d) l (v.Nested (plugin_of name es)))) (sym (value-Nested (plugin_of name es) m))
        (g.bare (word_spelled name) (g.nested r.0), (fine Ok (t.Word (word_of name)) tt o, (open_brace, r.1)))
    again_value (good_array {d} {xs} p) m =
        let r = again_items p in
        subst (Printed Ok (λ l. g.ReadsValue (suc d) l (v.Array xs))) (sym (value-Array xs m)) (g.array r.0, (sign Ok law t.OpenBracket refl tt, r.1))
    again_value (good_hash {d} {es} p f) m =
        let r = again_pairs [] p f (deeper m) m in
        subst (Printed Ok (λ l. g.ReadsValue (suc d) l (v.Hash es))) (sym (value-Hash es m)) (g.hash r.0, (open_brace, r.1))

    again_items : {d : ℕ} {xs : List SettingValue} → GoodItems Ok d xs → Printed Ok (λ l. g.ReadsItems d l xs) (members false (map (λ x. value x one_line) xs))
    again_items no_items = (g.no_item, (sign Ok law t.CloseBracket refl tt, tt))
    again_items {d} (item {x} {xs} h p) =
        let k = again_value h one_line in
        let r = again_more (x ∷ []) p in
        two Ok (λ l. g.ReadsItems d l (x ∷ xs)) (value x one_line) (members true (map (λ x. value x one_line) xs)) (g.items k.0 r.0) k.1 r.1

    again_more : {d : ℕ} {xs : List SettingValue} (front : List SettingValue) → GoodItems Ok d xs → Printed Ok (λ l. g.ReadsMore d front l (front ++ xs)) (members true (map (λ x. value x one_line) xs))
    again_more {d} front no_items = (subst (λ k. g.ReadsMore d front (t.CloseBracket ∷ []) k) (append_nil front) g.no_more, (sign Ok law t.CloseBracket refl tt, tt))
    again_more {d} front (item {x} {xs} h p) =
        let k = again_value h one_line in
        let r = again_more (front ++ x ∷ []) p in
        let rest = members true (map (λ x. value x one_line) xs) in
        let whole = subst (λ k. g.ReadsMore d front (t.Comma ∷ (tokens_of (value x one_line) ++ tokens_of rest)) k) (append_assoc front (x ∷ []) xs) (g.more k.0 r.0) in
        let q = two Ok (λ l. g.ReadsMore d front (t.Comma ∷ l) (front ++ x ∷ xs)) (value x one_line) rest whole k.1 r.1 in
        (q.0, (sign Ok law t.Comma refl tt, q.1))

    again_pairs : {d : ℕ} {es : Entries} (front : Entries) → GoodEntries Ok false d es → Fresh front es → (n m : Indent) → Printed Ok (λ l. g.ReadsPairs d front l (front ++ es)) (pair_lines n es ++ close m)
    again_pairs {d} front no_entries f n m = (subst (λ k. g.ReadsPairs d front (t.CloseBrace ∷ []) k) (append_nil front) g.no_pair, closes m)
    again_pairs {d} front (entry {k} {x} {es} o h p) f n m =
        let u = again_value h n in
        let r = again_pairs (front ++ (k, x) ∷ []) p f.1 n m in
        let rest = pair_lines n es ++ close m in
        let whole = subst (λ l. g.ReadsPairs d front (t.Quoted k ∷ t.Arrow ∷ (tokens_of (value x n) ++ tokens_of rest)) l) (append_assoc front ((k, x) ∷ []) es) (g.pair refl f.0 u.0 r.0) in
        let q = three Ok (λ l. g.ReadsPairs d front (t.Quoted k ∷ t.Arrow ∷ l) (front ++ (k, x) ∷ es)) (value x n) (pair_lines n es) (close m) whole u.1 r.1 in
        (q.0, ((gap_is n, tt, o), (sign Ok law t.Arrow refl tt, q.1)))

    again_settings : {d : ℕ} {es : Entries} (front : Entries) → GoodEntries Ok true d es → Fresh front es → (n m : Indent) → Printed Ok (λ l. g.ReadsSettings d front l (front ++ es)) (setting_lines n es ++ close m)
    again_settings {d} front no_entries f n m = (subst (λ k. g.ReadsSettings d front (t.CloseBrace ∷ []) k) (append_nil front) g.no_setting, closes m)
    again_settings {d} front (entry {k} {x} {es} o h p) f n m =
        let u = again_value h n in
        let r = again_settings (front ++ (k, x) ∷ []) p f.1 n m in
        let rest = setting_lines n es ++ close m in
        let later = subst (λ l. g.ReadsSettings d l (tokens_of rest) ((front ++ (k, x) ∷ []) ++ es)) (sym (set_end front k x f.0)) r.0 in
        let whole = subst (λ l. g.ReadsSettings d front (name_token k ∷ t.Arrow ∷ (tokens_of (value x n) ++ tokens_of rest)) l) (append_assoc front ((k, x) ∷ []) es) (g.setting (name_reads k) u.0 later) in
        let q = three Ok (λ l. g.ReadsSettings d front (name_token k ∷ t.Arrow ∷ l) (front ++ (k, x) ∷ es)) (value x n) (setting_lines n es) (close m) whole u.1 r.1 in
        (q.0, ((gap_is n, name_is_written k, o), (sign Ok law t.Arrow refl tt, q.1)))

  -- a plugin that is printed at any margin is read again
  abbrev Prints : ℕ → Plugin → Type 0
  Prints d x = (m : Indent) → Printed Ok (λ l. g.ReadsPlugin d l x) (plugin x m)

  plugin_prints : {d : ℕ} {ts : List Token} {x : Plugin} → g.ReadsPlugin d ts x → AllOf Ok ts → Prints d x
  plugin_prints (g.plugin {name} {y} e q) o m =
      let r = good_settings Ok law q o.1.1 no_entries tt in
      let u = again_settings [] r.0 r.1 (deeper m) m in
      (g.plugin (plugin_reads name) u.0, ((gap_is m, plugin_is_written name, law.plugin y name e o.0), (open_brace, u.1)))

  -- lines in braces, each of which goes on what is read so far
  module _ {A : Type 0} (line : A → Laid) (Reads : List A → List Token → List A → Type 0) (ends : (front : List A) → Reads front (t.CloseBrace ∷ []) front) where
    abbrev GoesOn : A → List Piece → Type 0
    GoesOn x ps = ((front xs : List A) (b : List Token) → Reads (front ++ x ∷ []) b xs → Reads front (tokens_of ps ++ b) xs) × AllOf F ps

    abbrev Goes : A → Type 0
    Goes x = (m : Indent) → GoesOn x (line x m)

    lines_again : (xs : List A) → AllOf Goes xs → (front : List A) (n m : Indent) → Printed Ok (λ l. Reads front l (front ++ xs)) (lines_of line n xs ++ close m)
    lines_again [] h front n m = (subst (λ k. Reads front (t.CloseBrace ∷ []) k) (append_nil front) (ends front), closes m)
    lines_again (x ∷ xs) h front n m =
        let u = h.0 n in
        let r = lines_again xs h.1 (front ++ x ∷ []) n m in
        let rest = lines_of line n xs in
        three Ok (λ l. Reads front l (front ++ x ∷ xs)) (line x n) rest (close m)
        (u.0 front (front ++ x ∷ xs) (tokens_of (rest ++ close m)) (subst (λ k. Reads (front ++ x ∷ []) (tokens_of (rest ++ close m)) k) (append_assoc front (x ∷ []) xs) r.0)) u.1 r.1

  module _ (d : ℕ) where
    abbrev PluginGoes : Plugin → Type 0
    PluginGoes = Goes plugin (g.ReadsPlugins d) (λ front. g.no_plugin)

    abbrev StatementGoes : Statement → Type 0
    StatementGoes = Goes statement (g.ReadsStatements d) (λ front. g.no_statement)

    plugins_again : (xs : List Plugin) → AllOf PluginGoes xs → (n m : Indent) → Printed Ok (λ l. g.ReadsPlugins d [] l xs) (plugin_lines n xs ++ close m)
    plugins_again xs h n m = lines_again plugin (g.ReadsPlugins d) (λ front. g.no_plugin) xs h [] n m

    statements_again : (xs : List Statement) → AllOf StatementGoes xs → (n m : Indent) → Printed Ok (λ l. g.ReadsStatements d [] l xs) (statement_lines n xs ++ close m)
    statements_again xs h n m = lines_again statement (g.ReadsStatements d) (λ front. g.no_statement) xs h [] n m

    plugins_go : {front xs : List Plugin} {ts : List Token} → g.ReadsPlugins d front ts xs → AllOf Ok ts → AllOf PluginGoes front → AllOf PluginGoes xs
    plugins_go g.no_plugin h u = u
    plugins_go (g.plugins {a} {b} {x} {front} q r) h u =
        plugins_go r (last_of_all Ok a b h) (all_of_both PluginGoes front (x ∷ []) u ((λ m. let p = plugin_prints q (first_of_all Ok a b h) m in ((λ front xs b r. g.plugins p.0 r), p.1)), tt))

    plugin_goes : (x : Plugin) → Prints d x → StatementGoes (s.Plugin x)
    plugin_goes x h m =
        let p = h m in
        subst (GoesOn statement (g.ReadsStatements d) (λ front. g.no_statement) (s.Plugin x)) (sym (statement-Plugin x m)) ((λ front xs b r. g.plugin_statement p.0 r), p.1)

  -- an arm with a condition, behind its `if`
  record ArmAgain (d : ℕ) (x : Arm) (front m : Indent) : Type 0 where
    rest : List Piece
    whole : arm x front m ≡ (gap front, t.Word w.If) ∷ rest
    printed : Printed Ok (λ l. g.ReadsArm d l x) rest

  -- what stands behind some arms
  record ElseAgain (d : ℕ) (front arms : List Arm) : Type 0 where
    more : List Arm
    whole : arms ≡ front ++ more
    printed : (m : Indent) → Printed Ok (λ l. g.ReadsElse d front l arms) (branch true m (map arm more))

  if_fine : (m : Indent) → F (gap m, t.Word w.If)
  if_fine m = (gap_is m, tt, law.sign (t.Word w.If) refl)

  else_fine : (m : Indent) → F (gap m, t.Word w.Else)
  else_fine m = (gap_is m, tt, law.sign (t.Word w.Else) refl)

  branch_goes : {d : ℕ} (x : Arm) (arms : List Arm) → ((m : Indent) → ArmAgain d x m m) → ElseAgain d (x ∷ []) arms → StatementGoes d (s.Branch arms)
  branch_goes {d} x arms p q m =
      let k = p m in
      let u = q.printed m in
      let elses = branch true m (map arm q.more) in
      subst (GoesOn statement (g.ReadsStatements d) (λ front. g.no_statement) (s.Branch arms)) (sym (ap (λ l. statement (s.Branch l) m) q.whole ∙ statement-Branch (x ∷ q.more) m ∙ ap (λ l. l ++ elses) k.whole))
      ((λ front xs b r. subst (λ l. g.ReadsStatements d front (t.Word w.If ∷ l) xs) (sym (ap (λ l. l ++ b) (tokens_both k.rest elses) ∙ append_assoc (tokens_of k.rest) (tokens_of elses) b)) (g.branch k.printed.0 u.0 r)), (if_fine m, all_of_both F k.rest elses k.printed.1 u.1))

  else_if : {d : ℕ} {arms : List Arm} (front : List Arm) (x : Arm) (more : List Arm) (m : Indent) → ArmAgain d x one_line m → Printed Ok (λ l. g.ReadsElse d (front ++ x ∷ []) l arms) (branch true m (map arm more))
      → Printed Ok (λ l. g.ReadsElse d front l arms) (branch true m (map arm (x ∷ more)))
  else_if {d} {arms} front x more m p u =
      let elses = branch true m (map arm more) in
      let whole = two Ok (λ l. g.ReadsElse d front (t.Word w.Else ∷ t.Word w.If ∷ l) arms) p.rest elses (g.else_if p.printed.0 u.0) p.printed.1 u.1 in
      subst (λ l. Printed Ok (λ k. g.ReadsElse d front k arms) ((gap m, t.Word w.Else) ∷ (l ++ elses))) (sym p.whole) (whole.0, (else_fine m, (if_fine one_line, whole.1)))

  mutual
    statements_go : {d : ℕ} {front xs : List Statement} {ts : List Token} → g.ReadsStatements d front ts xs → AllOf Ok ts → AllOf (StatementGoes d) front → AllOf (StatementGoes d) xs
    statements_go g.no_statement h u = u
    statements_go {d} (g.plugin_statement {a} {b} {x} {front} q r) h u =
        statements_go r (last_of_all Ok a b h) (all_of_both (StatementGoes d) front (s.Plugin x ∷ []) u (plugin_goes d x (plugin_prints q (first_of_all Ok a b h)), tt))
    statements_go {d} (g.branch {a} {b} {e} {x} {arms} {front} q r o) h u =
        let k = last_of_all Ok a (b ++ e) h.1 in
        statements_go o (last_of_all Ok b e k)
        (all_of_both (StatementGoes d) front (s.Branch arms ∷ []) u (branch_goes x arms (λ m. arm_again q (first_of_all Ok a (b ++ e) h.1) m m) (else_again r (first_of_all Ok b e k)), tt))

    arm_again : {d : ℕ} {ts : List Token} {x : Arm} → g.ReadsArm d ts x → AllOf Ok ts → (front m : Indent) → ArmAgain d x front m
    arm_again {d} (g.arm {a} {b} {x} {xs} q r) h front m =
        let k = again_condition Ok law q (first_of_all Ok a (t.OpenBrace ∷ b) h) in
        let u = statements_again _ xs (statements_go r (last_of_all Ok a (t.OpenBrace ∷ b) h).1 tt) (deeper m) m in
        let block = braced m (statement_lines (deeper m) xs) in
        record {
          rest = condition x at.Whole ++ block;
          whole = arm-is (record { condition = Some x; block = xs }) front m;
          printed = two Ok (λ l. g.ReadsArm d l (record { condition = Some x; block = xs })) (condition x at.Whole) block (g.arm k.0 u.0) k.1 (open_brace, u.1);
        }

    else_again : {d : ℕ} {front arms : List Arm} {ts : List Token} → g.ReadsElse d front ts arms → AllOf Ok ts → ElseAgain d front arms
    else_again (g.no_else {front}) h = record { more = []; whole = append_nil front; printed = λ m. (g.no_else, tt) }
    else_again {d} {arms} (g.else_if {a} {b} {x} {front} q r) h =
        let k = else_again r (last_of_all Ok a b h.1.1) in
        record { more = x ∷ k.more; whole = k.whole ∙ append_assoc front (x ∷ []) k.more; printed = λ m. else_if front x k.more m (arm_again q (first_of_all Ok a b h.1.1) one_line m) (k.printed m) }
    else_again (g.else {d} {front} {xs} q) h =
        let last : Arm = record { condition = None; block = xs } in
        record {
          more = last ∷ [];
          whole = refl;
          printed = λ m.
              let u = statements_again d xs (statements_go q h.1.1 tt) (deeper m) m in
              let block = braced m (statement_lines (deeper m) xs) in
              subst (λ l. Printed Ok (λ k. g.ReadsElse (suc d) front k (front ++ last ∷ [])) ((gap m, t.Word w.Else) ∷ l)) (append_nil block ∙ ap (λ l. l ++ []) (sym (arm-is last one_line m)))
              (g.else u.0, (else_fine m, (open_brace, u.1)));
        }

  -- ---- sections

  -- a configuration without statements takes no level
  abbrev Whole : ℕ → Config → Type 0
  Whole zero config = config ≡ empty
  Whole (suc d) config = AllOf (PluginGoes d) config.inputs × AllOf (StatementGoes d) config.filters × AllOf (StatementGoes d) config.outputs

  sections_go : {d : ℕ} {front all : Config} {ts : List Token} → g.ReadsSections d front ts all → AllOf Ok ts → Whole d front → Whole d all
  sections_go g.no_section h u = u
  sections_go (g.input {d} {a} {b} {xs} {front} q r) h u = sections_go r (last_of_all Ok a b h.1.1) (all_of_both (PluginGoes d) front.inputs xs u.0 (plugins_go d q (first_of_all Ok a b h.1.1) tt), u.1, u.2)
  sections_go (g.filter {d} {a} {b} {xs} {front} q r) h u = sections_go r (last_of_all Ok a b h.1.1) (u.0, all_of_both (StatementGoes d) front.filters xs u.1 (statements_go q (first_of_all Ok a b h.1.1) tt), u.2)
  sections_go (g.output {d} {a} {b} {xs} {front} q r) h u = sections_go r (last_of_all Ok a b h.1.1) (u.0, u.1, all_of_both (StatementGoes d) front.outputs xs u.2 (statements_go q (first_of_all Ok a b h.1.1) tt))

  nothing : (d : ℕ) → Whole d empty
  nothing zero = refl
  nothing (suc d) = (tt, tt, tt)

  abbrev joined : List Plugin → List Statement → List Statement → Config
  joined i f o = record { inputs = i; filters = f; outputs = o }

  abbrev inner : Indent
  inner = deeper no_indentation

  section_fine : (k : Section) → F (gap no_indentation, t.Word (w.Section k))
  section_fine k = (gap_is no_indentation, tt, law.sign (t.Word (w.Section k)) refl)

  again_outputs : {d : ℕ} (i : List Plugin) (f xs : List Statement) → AllOf (StatementGoes d) xs → Printed Ok (λ l. g.ReadsSections (suc d) (joined i f []) l (joined i f xs)) (statement_section kind.Output xs)
  again_outputs i f [] p = (g.no_section, tt)
  again_outputs {d} i f (x ∷ xs) p =
      let r = statements_again d (x ∷ xs) p inner no_indentation in
      (subst (λ l. g.ReadsSections (suc d) (joined i f []) (t.Word (w.Section kind.Output) ∷ t.OpenBrace ∷ l) (joined i f (x ∷ xs))) (sym (append_nil _)) (g.output r.0 g.no_section), (section_fine kind.Output, (open_brace, r.1)))

  again_filters : {d : ℕ} (i : List Plugin) (xs o : List Statement) → AllOf (StatementGoes d) xs → AllOf (StatementGoes d) o
      → Printed Ok (λ l. g.ReadsSections (suc d) (joined i [] []) l (joined i xs o)) (statement_section kind.Filter xs ++ statement_section kind.Output o)
  again_filters i [] o p q = again_outputs i [] o q
  again_filters {d} i (x ∷ xs) o p q =
      let r = statements_again d (x ∷ xs) p inner no_indentation in
      let u = again_outputs i (x ∷ xs) o q in
      let whole = two Ok (λ l. g.ReadsSections (suc d) (joined i [] []) (t.Word (w.Section kind.Filter) ∷ t.OpenBrace ∷ l) (joined i (x ∷ xs) o)) (statement_lines inner (x ∷ xs) ++ close no_indentation) (statement_section kind.Output o) (g.filter r.0 u.0) r.1 u.1 in
      (whole.0, (section_fine kind.Filter, (open_brace, whole.1)))

  again_inputs : {d : ℕ} (xs : List Plugin) (f o : List Statement) → AllOf (PluginGoes d) xs → AllOf (StatementGoes d) f → AllOf (StatementGoes d) o
      → Printed Ok (λ l. g.ReadsSections (suc d) empty l (joined xs f o)) (plugin_section kind.Input xs ++ (statement_section kind.Filter f ++ statement_section kind.Output o))
  again_inputs [] f o p q r = again_filters [] f o q r
  again_inputs {d} (x ∷ xs) f o p q r =
      let k = plugins_again d (x ∷ xs) p inner no_indentation in
      let u = again_filters (x ∷ xs) f o q r in
      let rest = statement_section kind.Filter f ++ statement_section kind.Output o in
      let whole = two Ok (λ l. g.ReadsSections (suc d) empty (t.Word (w.Section kind.Input) ∷ t.OpenBrace ∷ l) (joined (x ∷ xs) f o)) (plugin_lines inner (x ∷ xs) ++ close no_indentation) rest (g.input k.0 u.0) k.1 u.1 in
      (whole.0, (section_fine kind.Input, (open_brace, whole.1)))

  whole_again : (d : ℕ) (config : Config) → Whole d config → Printed Ok (λ l. g.ReadsConfig d l config) (pieces config)
  unfolding pieces
  whole_again zero config h = subst (λ k. Printed Ok (λ l. g.ReadsConfig 0 l k) (pieces k)) (sym h) (g.no_section, tt)
  whole_again (suc d) config h = again_inputs config.inputs config.filters config.outputs h.0 h.1 h.2

  -- what was read and is printed is read again as the same, with no more levels than before, and each piece of it is fine
  pub again_config : (d : ℕ) (ts : List Token) (config : Config) → g.ReadsConfig d ts config → AllOf Ok ts → Printed Ok (λ l. g.ReadsConfig d l config) (pieces config)
  again_config d ts config q h = whole_again d config (sections_go q h (nothing d))

all_pass : (ts : List Token) → AllOf (λ y. Unit {0}) ts
all_pass [] = tt
all_pass (y ∷ ts) = (tt, all_pass ts)

unit_lawful : Lawful (λ y. Unit {0})
unit_lawful = record { sign = λ y h. tt; text = λ a h. tt; word = λ a h. tt; number = λ n s h. tt; number_key = λ n s h. tt; name = λ y k e h. tt; plugin = λ y k e h. tt }

-- the settings that were read have names that stand once, and so have the keys of a hash
pub settings_once : (d : ℕ) (ts : List Token) (es : Entries) → g.ReadsSettings d [] ts es → StandOnce es
settings_once d ts es p = (good_settings (λ y. Unit {0}) unit_lawful p (all_pass ts) no_entries tt).1

pub keys_once : (d : ℕ) (ts : List Token) (es : Entries) → g.ReadsPairs d [] ts es → StandOnce es
keys_once d ts es p = (good_pairs (λ y. Unit {0}) unit_lawful p (all_pass ts) no_entries tt).1

pub condition_again : {d : ℕ} {ts : List Token} {x : Condition} → g.ReadsCondition d ts x → g.ReadsCondition d (tokens_of (condition x at.Whole)) x
condition_again {ts} q = (again_condition (λ y. Unit {0}) unit_lawful q (all_pass ts)).0

pub config_again : (d : ℕ) (ts : List Token) (config : Config) → g.ReadsConfig d ts config → g.ReadsConfig d (tokens_of (pieces config)) config
config_again d ts config q = (again_config (λ y. Unit {0}) unit_lawful d ts config q (all_pass ts)).0
