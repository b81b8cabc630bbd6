-- A condition that was read and is printed is read again as the same, with no more levels than before.
use Rattle.std.proofs.Common.{◌≡◌, ℕ, suc, List, [], ◌∷◌, ◌++◌, map, Some, Bool, true, false, if◌then◌else◌, refl, ap, sym, subst, append_assoc, bytes_eq, codes, ◌∙◌}
use Rattle.std.proofs.lemmas.List.{append-nil}
use Rattle.std.proofs.lemmas.Slice.Eq.{bytes_eq-Decides}
use Rattle.event_tree.specs.PathTexts.{way_of}
use Rattle.config_lex.specs.declared.token.Token.{Token}
use Rattle.config_lex.specs.declared.token.Token.TheVariants as t
use Rattle.config_lex.specs.declared.token.Word.{Word}
use Rattle.config_lex.specs.declared.token.Word.TheVariants as w
use Rattle.config_tree.specs.declared.operators.Conjunction.{Conjunction}
use Rattle.config_tree.specs.declared.operators.Disjunction.{Disjunction}
use Rattle.config_tree.specs.declared.tree.Condition.{Condition, out-Condition, roll-Condition, roll-out-Condition}
use Rattle.config_tree.specs.declared.tree.Condition.TheVariants as c
use Rattle.config_tree.specs.declared.tree.Operand.{Operand}
use Rattle.config_tree.specs.declared.tree.Operand.TheVariants as o
use Rattle.config_tree.specs.declared.tree.Literal.{Literal}
use Rattle.config_tree.specs.declared.tree.Literal.TheVariants as l
use Rattle.config_tree.specs.declared.tree.MatchPattern.{MatchPattern}
use Rattle.config_tree.specs.declared.tree.MatchPattern.TheVariants as p
use Rattle.config_parse.specs.Grammar as g
use Rattle.config_parse.specs.Words as words
use Rattle.config_tree.specs.Joints.{conjoined, disjoined, conjuncts, disjuncts}
use Rattle.config_print.specs.declared.conditions.ConditionContext.{ConditionContext}
use Rattle.config_print.specs.declared.conditions.ConditionContext.TheVariants as at
use Rattle.config_print.specs.Tokens.{number_token, parts_of}
use Rattle.config_print.specs.Layout.{Piece, spaced, tokens_of}
use Rattle.config_print.specs.Conditions.{condition, members, literal, literal_token, operand, pattern, pattern_token, compared, grouped, row, parts_and, parts_or, conjunct}
use Rattle.config_print.proofs.Layouts.{tokens_both}
use Rattle.config_print.proofs.Equations.{condition-Operand, condition-Not, condition-Compared, condition-Matched, condition-In, condition-NotIn, condition-Conjoined, condition-Disjoined}
use Rattle.config_print.proofs.Pieces.{AllOf, first_of_all, last_of_all, all_of_both, IsWritten, Fine, fine, Printed}
use Rattle.config_print.proofs.Good.{is_sign, Lawful}
use Rattle.std.proofs.lemmas.Grind.{flat_map-append}
use Rattle.config_tree.specs.declared.tree.Condition.TheOpen.{Condition-F}

pub append_nil : {A : Type 0} (xs : List A) → xs ≡ xs ++ []
append_nil xs = sym (append-nil xs)

-- the parts of a way are those of the selector that led to it
pub parts_are : (a : List ℕ) (parts : List (List ℕ)) → parts_of (way_of (a ∷ parts)) ≡ a ∷ parts
parts_are a parts = at (bytes_eq a (codes "@metadata")) refl
  where
    at : (b : Bool) → bytes_eq a (codes "@metadata") ≡ b → parts_of (if b then record { meta = true; parts = parts } else record { meta = false; parts = a ∷ parts }) ≡ a ∷ parts
    at true is = ap (λ l. l ∷ parts) (sym ((bytes_eq-Decides a (codes "@metadata")).0 is))
    at false is = refl

-- the tokens of the members of a list, behind its `[` or behind others
abbrev literals_tokens : Bool → List Literal → List Token
literals_tokens later ls = tokens_of (members later (map literal ls))

-- a literal is one token, which stands for it
literal_reads : (x : Literal) → words.literal (literal_token x) ≡ Some x
literal_reads (l.Text s) = refl
literal_reads (l.Number n) = refl

-- every list of literals
literals_behind : (front ls : List Literal) → g.ReadsMoreLiterals front (literals_tokens true ls) (front ++ ls)
literals_behind front [] = subst (λ k. g.ReadsMoreLiterals front (t.CloseBracket ∷ []) k) (append_nil front) g.no_more_literal
literals_behind front (x ∷ ls) =
    subst (λ k. g.ReadsMoreLiterals front (t.Comma ∷ literal_token x ∷ literals_tokens true ls) k) (append_assoc front (x ∷ []) ls) (g.more_literals (literal_reads x) (literals_behind (front ++ x ∷ []) ls))

literals_again : (ls : List Literal) → g.ReadsLiterals (literals_tokens false ls) ls
literals_again [] = g.no_literal
literals_again (x ∷ ls) = g.literals (literal_reads x) (literals_behind (x ∷ []) ls)

one_again : {d : ℕ} (y : Token) (x : Operand) → words.operand_token y ≡ Some x → g.ReadsOperand d (tokens_of (operand x)) x
one_again (t.Selector []) x e = absurd (cc)
one_again {d} (t.Selector (a ∷ parts)) x e =
    let is : o.Field (way_of (a ∷ parts)) ≡ x = cc in
    subst (λ z. g.ReadsOperand d (tokens_of (operand z)) z) is (subst (λ k. g.ReadsOperand d (t.Selector k ∷ []) (o.Field (way_of (a ∷ parts)))) (sym (parts_are a parts)) (g.one_token refl))
one_again {d} (t.Quoted s) x e = let is : o.Text s ≡ x = cc in subst (λ z. g.ReadsOperand d (tokens_of (operand z)) z) is (g.one_token refl)
one_again {d} (t.Number n s) x e = let is : o.Number n ≡ x = cc in subst (λ z. g.ReadsOperand d (tokens_of (operand z)) z) is (g.one_token refl)
one_again y x e = absurd (cc)

operand_again : {d : ℕ} {ts : List Token} {x : Operand} → g.ReadsOperand d ts x → g.ReadsOperand d (tokens_of (operand x)) x
operand_again (g.one_token {y} {x} e) = one_again y x e
operand_again (g.list {xs} q) = g.list (literals_again xs)

up_operand : {d : ℕ} {ts : List Token} {x : Operand} → g.ReadsOperand d ts x → g.ReadsOperand (suc d) ts x
up_operand (g.one_token e) = g.one_token e
up_operand (g.list q) = g.list q

up_tail : {d : ℕ} {x : Operand} {ts : List Token} {y : Condition} → g.ReadsTail d x ts y → g.ReadsTail (suc d) x ts y
up_tail g.alone = g.alone
up_tail (g.comparison q) = g.comparison (up_operand q)
up_tail (g.matching e) = g.matching e
up_tail (g.within q) = g.within (up_operand q)
up_tail (g.not_within q) = g.not_within (up_operand q)

mutual
  up_unary : {d : ℕ} {ts : List Token} {x : Condition} → g.ReadsUnary d ts x → g.ReadsUnary (suc d) ts x
  up_unary (g.compare q r) = g.compare (up_operand q) (up_tail r)
  up_unary (g.negation q) = g.negation (up_unary q)
  up_unary (g.group q) = g.group (up_condition q)

  up_joined : {d : ℕ} {ts : List Token} {x : Condition} → g.ReadsJoined d ts x → g.ReadsJoined (suc d) ts x
  up_joined (g.joined q r) = g.joined (up_unary q) (up_ands r)

  up_ands : {d : ℕ} {x y : Condition} {ts : List Token} → g.ReadsAnds d x ts y → g.ReadsAnds (suc d) x ts y
  up_ands g.no_and = g.no_and
  up_ands (g.and q r) = g.and (up_unary q) (up_ands r)

  up_condition : {d : ℕ} {ts : List Token} {x : Condition} → g.ReadsCondition d ts x → g.ReadsCondition (suc d) ts x
  up_condition (g.condition q r) = g.condition (up_joined q) (up_ors r)

  up_ors : {d : ℕ} {x y : Condition} {ts : List Token} → g.ReadsOrs d x ts y → g.ReadsOrs (suc d) x ts y
  up_ors g.no_or = g.no_or
  up_ors (g.or q r) = g.or (up_joined q) (up_ors r)

-- one more joint at the end
snoc_and : {d : ℕ} {x y r : Condition} {ts a : List Token} (j : Conjunction) → g.ReadsAnds d x ts y → g.ReadsUnary d a r → g.ReadsAnds d x (ts ++ t.Word (w.Conjunction j) ∷ a) (conjoined j y r)
snoc_and {d} {x} {y} {r} {ts} {a} j g.no_and u = subst (λ k. g.ReadsAnds d x (t.Word (w.Conjunction j) ∷ k) (conjoined j x r)) (sym (append_nil a)) (g.and u g.no_and)
snoc_and {d} {r} {a = z} j (g.and {j = i} {a} {b} {l = x} {y} q o) u =
    subst (λ k. g.ReadsAnds d x (t.Word (w.Conjunction i) ∷ k) (conjoined j y r)) (sym (append_assoc a b (t.Word (w.Conjunction j) ∷ z))) (g.and q (snoc_and j o u))

snoc_or : {d : ℕ} {x y r : Condition} {ts a : List Token} (j : Disjunction) → g.ReadsOrs d x ts y → g.ReadsJoined d a r → g.ReadsOrs d x (ts ++ t.Word (w.Disjunction j) ∷ a) (disjoined j y r)
snoc_or {d} {x} {y} {r} {ts} {a} j g.no_or u = subst (λ k. g.ReadsOrs d x (t.Word (w.Disjunction j) ∷ k) (disjoined j x r)) (sym (append_nil a)) (g.or u g.no_or)
snoc_or {d} {r} {a = z} j (g.or {j = i} {a} {b} {l = x} {y} q o) u =
    subst (λ k. g.ReadsOrs d x (t.Word (w.Disjunction i) ∷ k) (disjoined j y r)) (sym (append_assoc a b (t.Word (w.Disjunction j) ∷ z))) (g.or q (snoc_or j o u))

joined_and : {d : ℕ} {x r : Condition} {a b : List Token} (j : Conjunction) → g.ReadsJoined d a x → g.ReadsUnary d b r → g.ReadsJoined d (a ++ t.Word (w.Conjunction j) ∷ b) (conjoined j x r)
joined_and {d} {r} {b = z} j (g.joined {a} {b} {y} q o) u =
    subst (λ k. g.ReadsJoined d k (conjoined j y r)) (sym (append_assoc a b (t.Word (w.Conjunction j) ∷ z))) (g.joined q (snoc_and j o u))

condition_or : {d : ℕ} {x r : Condition} {a b : List Token} (j : Disjunction) → g.ReadsCondition d a x → g.ReadsJoined d b r → g.ReadsCondition d (a ++ t.Word (w.Disjunction j) ∷ b) (disjoined j x r)
condition_or {d} {r} {b = z} j (g.condition {a} {b} {y} q o) u =
    subst (λ k. g.ReadsCondition d k (disjoined j y r)) (sym (append_assoc a b (t.Word (w.Disjunction j) ∷ z))) (g.condition q (snoc_or j o u))

joined_of : {d : ℕ} {ts : List Token} {x : Condition} → g.ReadsUnary d ts x → g.ReadsJoined d ts x
joined_of {d} {ts} {x} u = subst (λ k. g.ReadsJoined d k x) (sym (append_nil ts)) (g.joined u g.no_and)

whole_of : {d : ℕ} {ts : List Token} {x : Condition} → g.ReadsJoined d ts x → g.ReadsCondition d ts x
whole_of {d} {ts} {x} j = subst (λ k. g.ReadsCondition d k x) (sym (append_nil ts)) (g.condition j g.no_or)

-- ---- what a condition with one more joint is printed as

-- a row of joints of one rank
module _ {J : Type 0} (word : J → Word) (first later : ConditionContext) (parts : ConditionContext → Bool) (roll : Condition → List (J × Condition) → Condition)
    (is : (x : Condition) (rest : List (J × Condition)) (place : ConditionContext) → condition (roll x rest) place ≡ grouped (parts place) (condition x first ++ row word later rest)) (bare : parts first ≡ false) where
  row_both : (a b : List (J × Condition)) → row word later (a ++ b) ≡ row word later a ++ row word later b
  row_both = flat_map-append (conjunct word later)

  -- with one more at its end
  longer : (x : Condition) (rest : List (J × Condition)) (e : J × Condition) (place : ConditionContext) → condition (roll x (rest ++ e ∷ [])) place ≡ grouped (parts place) (condition (roll x rest) first ++ row word later (e ∷ []))
  longer x rest e place =
      is x (rest ++ e ∷ []) place ∙ ap (λ r. grouped (parts place) (condition x first ++ r)) (row_both rest (e ∷ []))
      ∙ ap (grouped (parts place)) (sym (append_assoc (condition x first) (row word later rest) (row word later (e ∷ []))))
      ∙ ap (λ l. grouped (parts place) (l ++ row word later (e ∷ []))) (sym (is x rest first ∙ ap (λ b. grouped b (condition x first ++ row word later rest)) bare ∙ append-nil (condition x first ++ row word later rest)))

conjoined_is : (j : Conjunction) (x y : Condition) (place : ConditionContext) → condition (conjoined j x y) place ≡ grouped (parts_and place) (condition x at.Joined ++ row w.Conjunction at.Unary ((j, y) ∷ []))
conjoined_is j x y place = by (out-Condition x) (roll-out-Condition x)
  where
    by : (o : Condition-F Condition) → roll-Condition o ≡ x → condition (c.Conjoined (conjuncts x o).0 ((conjuncts x o).1 ++ (j, y) ∷ [])) place ≡ grouped (parts_and place) (condition x at.Joined ++ row w.Conjunction at.Unary ((j, y) ∷ []))
    by (Condition-F.Conjoined first rest) e =
        longer w.Conjunction at.Joined at.Unary parts_and c.Conjoined condition-Conjoined refl first rest (j, y) place
        ∙ ap (λ z. grouped (parts_and place) (condition z at.Joined ++ row w.Conjunction at.Unary ((j, y) ∷ []))) (sym (c.rolls-Conjoined first rest) ∙ e)
    by o e = condition-Conjoined x ((j, y) ∷ []) place

disjoined_is : (j : Disjunction) (x y : Condition) (place : ConditionContext) → condition (disjoined j x y) place ≡ grouped (parts_or place) (condition x at.Whole ++ row w.Disjunction at.Joined ((j, y) ∷ []))
disjoined_is j x y place = by (out-Condition x) (roll-out-Condition x)
  where
    by : (o : Condition-F Condition) → roll-Condition o ≡ x → condition (c.Disjoined (disjuncts x o).0 ((disjuncts x o).1 ++ (j, y) ∷ [])) place ≡ grouped (parts_or place) (condition x at.Whole ++ row w.Disjunction at.Joined ((j, y) ∷ []))
    by (Condition-F.Disjoined first rest) e =
        longer w.Disjunction at.Whole at.Joined parts_or c.Disjoined condition-Disjoined refl first rest (j, y) place
        ∙ ap (λ z. grouped (parts_or place) (condition z at.Whole ++ row w.Disjunction at.Joined ((j, y) ∷ []))) (sym (c.rolls-Disjoined first rest) ∙ e)
    by o e = condition-Disjoined x ((j, y) ∷ []) place

-- tokens in parentheses, where they are wanted
abbrev pub group : Bool → List Token → List Token
group parens ts = if parens then t.OpenParen ∷ (ts ++ t.CloseParen ∷ []) else ts

group_tokens : (parens : Bool) (ps : List Piece) → tokens_of (grouped parens ps) ≡ group parens (tokens_of ps)
group_tokens true ps = ap (λ l. t.OpenParen ∷ l) (tokens_both ps _)
group_tokens false ps = ap tokens_of (append-nil ps)

-- two with a joint between, as tokens
with_joint : {J : Type 0} (word : J → Word) (a : List Piece) (later : ConditionContext) (j : J) (y : Condition) → tokens_of (a ++ row word later ((j, y) ∷ [])) ≡ tokens_of a ++ t.Word (word j) ∷ tokens_of (condition y later)
with_joint word a later j y = tokens_both a (row word later ((j, y) ∷ [])) ∙ ap (λ l. tokens_of a ++ t.Word (word j) ∷ tokens_of l) (append-nil (condition y later))

conjoined_tokens : (j : Conjunction) (x y : Condition) (place : ConditionContext)
    → tokens_of (condition (conjoined j x y) place) ≡ group (parts_and place) (tokens_of (condition x at.Joined) ++ t.Word (w.Conjunction j) ∷ tokens_of (condition y at.Unary))
conjoined_tokens j x y place =
    ap tokens_of (conjoined_is j x y place) ∙ group_tokens (parts_and place) (condition x at.Joined ++ row w.Conjunction at.Unary ((j, y) ∷ [])) ∙ ap (group (parts_and place)) (with_joint w.Conjunction (condition x at.Joined) at.Unary j y)

disjoined_tokens : (j : Disjunction) (x y : Condition) (place : ConditionContext)
    → tokens_of (condition (disjoined j x y) place) ≡ group (parts_or place) (tokens_of (condition x at.Whole) ++ t.Word (w.Disjunction j) ∷ tokens_of (condition y at.Joined))
disjoined_tokens j x y place =
    ap tokens_of (disjoined_is j x y place) ∙ group_tokens (parts_or place) (condition x at.Whole ++ row w.Disjunction at.Joined ((j, y) ∷ [])) ∙ ap (group (parts_or place)) (with_joint w.Disjunction (condition x at.Whole) at.Joined j y)

-- an operand, and what stands behind it
compare_again : {d : ℕ} (x : Operand) (ps : List Piece) (y : Condition) → g.ReadsOperand d (tokens_of (operand x)) x → g.ReadsTail d x (tokens_of ps) y → g.ReadsUnary d (tokens_of (operand x ++ ps)) y
compare_again {d} x ps y q r = subst (λ l. g.ReadsUnary d l y) (sym (tokens_both (operand x) ps)) (g.compare q r)

pattern_reads : (q : MatchPattern) → words.pattern (pattern_token q) ≡ Some q
pattern_reads (p.Regexp s) = refl
pattern_reads (p.Text s) = refl

literal_written : (x : Literal) → IsWritten (literal_token x)
literal_written (l.Text s) = tt
literal_written (l.Number n) = refl

-- where the tokens that were read pass a test, those that are printed do
module _ (Ok : Token → Type 0) (law : Lawful Ok) where
  -- the pieces of a condition are fine at each place, ..
  abbrev Passes : Condition → Type 0
  Passes x = (place : ConditionContext) → AllOf (Fine Ok) (condition x place)

  -- .. and it is read again, at each place
  record Full (d : ℕ) (x : Condition) : Type 0 where
    unary : g.ReadsUnary d (tokens_of (condition x at.Unary)) x
    joined : g.ReadsJoined d (tokens_of (condition x at.Joined)) x
    whole : g.ReadsCondition d (tokens_of (condition x at.Whole)) x
    passes : Passes x

  -- by itself, and one level higher as an operand
  record Part (d : ℕ) (x : Condition) : Type 0 where
    whole : g.ReadsCondition d (tokens_of (condition x at.Whole)) x
    above : Full (suc d) x

  -- and where no `or` stands outside parentheses
  record Chain (d : ℕ) (x : Condition) : Type 0 where
    joined : g.ReadsJoined d (tokens_of (condition x at.Joined)) x
    part : Part d x

  chain_of_full : {d : ℕ} (x : Condition) → Full d x → Chain d x
  chain_of_full x f = record { joined = f.joined; part = record { whole = f.whole; above = record { unary = up_unary f.unary; joined = up_joined f.joined; whole = up_condition f.whole; passes = f.passes } } }

  -- printed alike at every place
  flat : {d : ℕ} (x : Condition) (ps : List Piece) → ((place : ConditionContext) → condition x place ≡ ps) → g.ReadsUnary d (tokens_of ps) x → AllOf (Fine Ok) ps → Full d x
  flat {d} x ps is u f =
      let there = λ (place : ConditionContext). subst (λ k. g.ReadsUnary d (tokens_of k) x) (sym (is place)) u in
      record { unary = there at.Unary; joined = joined_of (there at.Joined); whole = whole_of (joined_of (there at.Whole)); passes = λ place. subst (AllOf (Fine Ok)) (sym (is place)) f }

  -- a token that is always written alike, behind one blank
  pub sign : (y : Token) → is_sign y ≡ true → IsWritten y → Fine Ok (spaced y)
  sign y e w = fine Ok y w (law.sign y e)

  grouped_pass : (parens : Bool) (ps : List Piece) → AllOf (Fine Ok) ps → AllOf (Fine Ok) (grouped parens ps)
  grouped_pass true ps h = (sign t.OpenParen refl tt, all_of_both (Fine Ok) ps (spaced t.CloseParen ∷ []) h (sign t.CloseParen refl tt, tt))
  grouped_pass false ps h = all_of_both (Fine Ok) ps [] h tt

  -- two with a sign between
  between : (y : Token) (a b : List Piece) → Fine Ok (spaced y) → AllOf (Fine Ok) a → AllOf (Fine Ok) b → AllOf (Fine Ok) (a ++ spaced y ∷ b)
  between y a b o h u = all_of_both (Fine Ok) a (spaced y ∷ b) h (o, u)

  joint_pass : {J : Type 0} (word : J → Word) (j : J) (x : List Piece) (y : Condition) (later : ConditionContext) → Fine Ok (spaced (t.Word (word j))) → AllOf (Fine Ok) x → Passes y → AllOf (Fine Ok) (x ++ row word later ((j, y) ∷ []))
  joint_pass word j x y later o h u = between (t.Word (word j)) x (condition y later ++ []) o h (all_of_both (Fine Ok) (condition y later) [] (u later) tt)

  -- the members of a list, behind its `[`
  pub members_pass : (later : Bool) (xs : List (List Piece)) → AllOf (AllOf (Fine Ok)) xs → AllOf (Fine Ok) (members later xs)
  members_pass later [] h = (sign t.CloseBracket refl tt, tt)
  members_pass true (x ∷ xs) h = (sign t.Comma refl tt, all_of_both (Fine Ok) x (members true xs) h.0 (members_pass true xs h.1))
  members_pass false (x ∷ xs) h = all_of_both (Fine Ok) x (members true xs) h.0 (members_pass true xs h.1)

  -- tokens that stand for literals pass
  abbrev LiteralsPass : List Literal → Type 0
  LiteralsPass = AllOf (λ x. Ok (literal_token x))

  literal_pass : (y : Token) (x : Literal) → words.literal y ≡ Some x → Ok y → Ok (literal_token x)
  literal_pass (t.Quoted s) x e h = let is : l.Text s ≡ x = cc in subst (λ z. Ok (literal_token z)) is h
  literal_pass (t.Number n s) x e h = let is : l.Number n ≡ x = cc in subst (λ z. Ok (literal_token z)) is (law.number n s h)
  literal_pass y x e h = absurd (cc)

  more_literals_pass : {front xs : List Literal} {ts : List Token} → g.ReadsMoreLiterals front ts xs → AllOf Ok ts → LiteralsPass front → LiteralsPass xs
  more_literals_pass g.no_more_literal h u = u
  more_literals_pass (g.more_literals {y} {front} {x} e q) h u = more_literals_pass q h.1.1 (all_of_both (λ z. Ok (literal_token z)) front (x ∷ []) u (literal_pass y x e h.1.0, tt))

  literals_pass : {xs : List Literal} {ts : List Token} → g.ReadsLiterals ts xs → AllOf Ok ts → LiteralsPass xs
  literals_pass g.no_literal h = tt
  literals_pass (g.literals {y} {x} e q) h = more_literals_pass q h.1 (literal_pass y x e h.0, tt)

  listed_pass : (xs : List Literal) → LiteralsPass xs → AllOf (AllOf (Fine Ok)) (map literal xs)
  listed_pass [] h = tt
  listed_pass (x ∷ xs) h = ((fine Ok (literal_token x) (literal_written x) h.0, tt), listed_pass xs h.1)

  one_pass : (y : Token) (x : Operand) → words.operand_token y ≡ Some x → Ok y → AllOf (Fine Ok) (operand x)
  one_pass (t.Selector []) x e h = absurd (cc)
  one_pass (t.Selector (a ∷ parts)) x e h =
      let is : o.Field (way_of (a ∷ parts)) ≡ x = cc in
      subst (λ z. AllOf (Fine Ok) (operand z)) is (fine Ok (t.Selector (parts_of (way_of (a ∷ parts)))) tt (subst (λ k. Ok (t.Selector k)) (sym (parts_are a parts)) h), tt)
  one_pass (t.Quoted s) x e h = let is : o.Text s ≡ x = cc in subst (λ z. AllOf (Fine Ok) (operand z)) is (fine Ok (t.Quoted s) tt h, tt)
  one_pass (t.Number n s) x e h = let is : o.Number n ≡ x = cc in subst (λ z. AllOf (Fine Ok) (operand z)) is (fine Ok (number_token n) refl (law.number n s h), tt)
  one_pass y x e h = absurd (cc)

  operand_pass : {d : ℕ} {ts : List Token} {x : Operand} → g.ReadsOperand d ts x → AllOf Ok ts → AllOf (Fine Ok) (operand x)
  operand_pass (g.one_token {y} {x} e) h = one_pass y x e h.0
  operand_pass (g.list {xs} q) h = (sign t.OpenBracket refl tt, members_pass false (map literal xs) (listed_pass xs (literals_pass q h.1)))

  pattern_pass : (y : Token) (q : MatchPattern) → words.pattern y ≡ Some q → Ok y → AllOf (Fine Ok) (pattern q)
  pattern_pass (t.Regexp s) q e h = let is : p.Regexp s ≡ q = cc in subst (λ z. AllOf (Fine Ok) (pattern z)) is (fine Ok (t.Regexp s) tt h, tt)
  pattern_pass (t.Quoted s) q e h = let is : p.Text s ≡ q = cc in subst (λ z. AllOf (Fine Ok) (pattern z)) is (fine Ok (t.Quoted s) tt h, tt)
  pattern_pass y q e h = absurd (cc)

  tail_again : {d : ℕ} {b : List Token} {y : Condition} (x : Operand) → g.ReadsOperand d (tokens_of (operand x)) x → AllOf (Fine Ok) (operand x) → g.ReadsTail d x b y → AllOf Ok b → Full d y
  tail_again {d} x q h g.alone u = flat (c.Operand x) (operand x) (condition-Operand x) (subst (λ k. g.ReadsUnary d k (c.Operand x)) (sym (append_nil (tokens_of (operand x)))) (g.compare q g.alone)) h
  tail_again x q h (g.comparison {y} {j} r) u =
      flat (c.Compared j x y) (compared (t.Comparison j) x y) (condition-Compared j x y) (compare_again x (spaced (t.Comparison j) ∷ operand y) (c.Compared j x y) q (g.comparison (operand_again r)))
      (between (t.Comparison j) (operand x) (operand y) (sign (t.Comparison j) refl tt) h (operand_pass r u.1))
  tail_again x q h (g.matching {j} {y} {q = z} e) u =
      flat (c.Matched j x z) (operand x ++ spaced (t.Matching j) ∷ pattern z) (condition-Matched j x z) (compare_again x (spaced (t.Matching j) ∷ pattern z) (c.Matched j x z) q (g.matching (pattern_reads z)))
      (between (t.Matching j) (operand x) (pattern z) (sign (t.Matching j) refl tt) h (pattern_pass y z e u.1.0))
  tail_again x q h (g.within {y} r) u =
      flat (c.In x y) (compared (t.Word w.In) x y) (condition-In x y) (compare_again x (spaced (t.Word w.In) ∷ operand y) (c.In x y) q (g.within (operand_again r)))
      (between (t.Word w.In) (operand x) (operand y) (sign (t.Word w.In) refl tt) h (operand_pass r u.1))
  tail_again x q h (g.not_within {y} r) u =
      let ps = spaced (t.Word w.Not) ∷ spaced (t.Word w.In) ∷ operand y in
      flat (c.NotIn x y) (operand x ++ ps) (condition-NotIn x y) (compare_again x ps (c.NotIn x y) q (g.not_within (operand_again r)))
      (between (t.Word w.Not) (operand x) (spaced (t.Word w.In) ∷ operand y) (sign (t.Word w.Not) refl tt) h (sign (t.Word w.In) refl tt, operand_pass r u.1.1))

  chain_and : {d : ℕ} (j : Conjunction) (x r : Condition) → Chain d x → Full d r → Chain d (conjoined j x r)
  chain_and {d} j x r q f =
      let y = conjoined j x r in
      let is = λ (place : ConditionContext). sym (conjoined_tokens j x r place) in
      let k = joined_and j q.joined f.unary in
      let at_joined = subst (λ l. g.ReadsJoined d l y) (is at.Joined) k in
      let at_whole = subst (λ l. g.ReadsCondition d l y) (is at.Whole) (whole_of k) in
      let ps = condition x at.Joined ++ row w.Conjunction at.Unary ((j, r) ∷ []) in
      let pass = joint_pass w.Conjunction j (condition x at.Joined) r at.Unary (sign (t.Word (w.Conjunction j)) refl tt) (q.part.above.passes at.Joined) f.passes in
      let above : Full (suc d) y = record {
        unary = subst (λ l. g.ReadsUnary (suc d) l y) (is at.Unary) (g.group (whole_of k));
        joined = up_joined at_joined;
        whole = up_condition at_whole;
        passes = λ place. subst (AllOf (Fine Ok)) (sym (conjoined_is j x r place)) (grouped_pass (parts_and place) ps pass);
      } in
      record { joined = at_joined; part = record { whole = at_whole; above = above } }

  part_or : {d : ℕ} (j : Disjunction) (x r : Condition) → Part d x → Chain d r → Part d (disjoined j x r)
  part_or {d} j x r q f =
      let y = disjoined j x r in
      let is = λ (place : ConditionContext). sym (disjoined_tokens j x r place) in
      let k = condition_or j q.whole f.joined in
      let at_whole = subst (λ l. g.ReadsCondition d l y) (is at.Whole) k in
      let ps = condition x at.Whole ++ row w.Disjunction at.Joined ((j, r) ∷ []) in
      let pass = joint_pass w.Disjunction j (condition x at.Whole) r at.Joined (sign (t.Word (w.Disjunction j)) refl tt) (q.above.passes at.Whole) f.part.above.passes in
      let above : Full (suc d) y = record {
        unary = subst (λ l. g.ReadsUnary (suc d) l y) (is at.Unary) (g.group k);
        joined = joined_of (subst (λ l. g.ReadsUnary (suc d) l y) (is at.Joined) (g.group k));
        whole = up_condition at_whole;
        passes = λ place. subst (AllOf (Fine Ok)) (sym (disjoined_is j x r place)) (grouped_pass (parts_or place) ps pass);
      } in
      record { whole = at_whole; above = above }

  mutual
    again_unary : {d : ℕ} {ts : List Token} {x : Condition} → g.ReadsUnary d ts x → AllOf Ok ts → Full d x
    again_unary (g.compare {a} {b} {x} q r) h = tail_again x (operand_again q) (operand_pass q (first_of_all Ok a b h)) r (last_of_all Ok a b h)
    again_unary (g.negation {x} q) h =
        let f = again_unary q h.1 in
        flat (c.Not x) (spaced t.Exclamation ∷ condition x at.Unary) (condition-Not x) (g.negation f.unary) (sign t.Exclamation refl tt, f.passes at.Unary)
    again_unary (g.group {a} q) h = (again_part q (first_of_all Ok a (t.CloseParen ∷ []) h.1)).above

    again_joined : {d : ℕ} {ts : List Token} {x : Condition} → g.ReadsJoined d ts x → AllOf Ok ts → Chain d x
    again_joined (g.joined {a} {b} {x} q r) h = again_ands r (last_of_all Ok a b h) (chain_of_full x (again_unary q (first_of_all Ok a b h)))

    again_ands : {d : ℕ} {x y : Condition} {ts : List Token} → g.ReadsAnds d x ts y → AllOf Ok ts → Chain d x → Chain d y
    again_ands g.no_and h k = k
    again_ands (g.and {j} {a} {b} {l = z} {x} q r) h k = again_ands r (last_of_all Ok a b h.1) (chain_and j z x k (again_unary q (first_of_all Ok a b h.1)))

    again_part : {d : ℕ} {ts : List Token} {x : Condition} → g.ReadsCondition d ts x → AllOf Ok ts → Part d x
    again_part (g.condition {a} {b} q r) h = again_ors r (last_of_all Ok a b h) (again_joined q (first_of_all Ok a b h)).part

    again_ors : {d : ℕ} {x y : Condition} {ts : List Token} → g.ReadsOrs d x ts y → AllOf Ok ts → Part d x → Part d y
    again_ors g.no_or h k = k
    again_ors (g.or {j} {a} {b} {l = z} {x} q r) h k = again_ors r (last_of_all Ok a b h.1) (part_or j z x k (again_joined q (first_of_all Ok a b h.1)))

  -- what is read and printed is read again
  pub again_condition : {d : ℕ} {ts : List Token} {x : Condition} → g.ReadsCondition d ts x → AllOf Ok ts → Printed Ok (λ l. g.ReadsCondition d l x) (condition x at.Whole)
  again_condition q h = let r = again_part q h in (r.whole, r.above.passes at.Whole)
