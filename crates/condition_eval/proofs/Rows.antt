-- Rows of conditions: what a row says when it goes on, and what its loops have found so far.
use Rattle.std.proofs.Common.{◌≡◌, ◌<◌, ℕ, ◌+◌, List, [], ◌∷◌, ◌++◌, length, length-append, drop, map, take, refl, sym, ap, ◌∙◌}
use Rattle.std.specs.Prelude.{get_or, Result, Ok, Err, IfOk}
use Rattle.std.proofs.lemmas.Grind.{flat_map-append}
use Rattle.std.proofs.lemmas.List.{append-nil, drop_more, map-append, take_more, take-append-drop}
use Rattle.event_tree.specs.Events.{Ev}
use Rattle.config_tree.specs.Joints as row
use Rattle.config_tree.specs.declared.operators.Conjunction.{Conjunction}
use Rattle.config_tree.specs.declared.operators.Disjunction.{Disjunction}
use Rattle.config_tree.specs.declared.tree.Condition.{Condition, out-Condition, roll-Condition, roll-out-Condition}
use Rattle.config_tree.specs.declared.tree.Condition.TheOpen.{Condition-F}
use Rattle.config_tree.specs.declared.tree.Condition.TheVariants as c
use Rattle.config_tree.proofs.Folds as folds
use Rattle.condition_eval.specs.Made.{texts, texts_behind, joined_texts}
use Rattle.condition_eval.specs.Truths.{truth, truth_step, truths, in_row, by_conjunction, by_disjunction}
use Rattle.condition_eval.specs.declared.truth.Truth.{Truth}

-- one more at the end of a row
in_row_more : {J : Type 0} (joined : J → Truth → Truth → Truth) (left : Truth) (rest : List (J × Truth)) (j : J) (y : Truth) → in_row joined left (rest ++ (j, y) ∷ []) ≡ joined j (in_row joined left rest) y
in_row_more joined left [] j y = refl
in_row_more joined left (p ∷ rest) j y = in_row_more joined (joined p.0 left p.1) rest j y

-- the same of conditions
row_more : {J : Type 0} (joined : J → Truth → Truth → Truth) (e : Ev) (left : Truth) (rest : List (J × Condition)) (j : J) (y : Condition)
    → in_row joined left (truths e (rest ++ (j, y) ∷ [])) ≡ joined j (in_row joined left (truths e rest)) (truth y e)
row_more joined e left rest j y = ap (in_row joined left) (map-append (λ p. (p.0, truth p.1 e)) rest ((j, y) ∷ [])) ∙ in_row_more joined left (truths e rest) j (truth y e)

pub says_conjoined : (x : Condition) (rest : List (Conjunction × Condition)) (e : Ev) → truth (c.Conjoined x rest) e ≡ in_row by_conjunction (truth x e) (truths e rest)
unfolding truth
says_conjoined x rest e = folds.fold-Conjoined (truth_step e) x rest

pub says_disjoined : (x : Condition) (rest : List (Disjunction × Condition)) (e : Ev) → truth (c.Disjoined x rest) e ≡ in_row by_disjunction (truth x e) (truths e rest)
unfolding truth
says_disjoined x rest e = folds.fold-Disjoined (truth_step e) x rest

pub says-Conjoined : (x first : Condition) (rest : List (Conjunction × Condition)) (e : Ev) → x ≡ c.Conjoined first rest → truth x e ≡ in_row by_conjunction (truth first e) (truths e rest)
says-Conjoined x first rest e is = ap (λ z. truth z e) is ∙ says_conjoined first rest e

pub says-Disjoined : (x first : Condition) (rest : List (Disjunction × Condition)) (e : Ev) → x ≡ c.Disjoined first rest → truth x e ≡ in_row by_disjunction (truth first e) (truths e rest)
says-Disjoined x first rest e is = ap (λ z. truth z e) is ∙ says_disjoined first rest e

-- a condition taken as a row says what it says
as_conjuncts : (x : Condition) (o : Condition-F Condition) (e : Ev) → roll-Condition o ≡ x → in_row by_conjunction (truth (row.conjuncts x o).0 e) (truths e (row.conjuncts x o).1) ≡ truth x e
as_conjuncts x (Condition-F.Operand a) e is = refl
as_conjuncts x (Condition-F.Not a) e is = refl
as_conjuncts x (Condition-F.Conjoined a rest) e is = sym (says_conjoined a rest e) ∙ ap (λ z. truth z e) (sym (c.rolls-Conjoined a rest) ∙ is)
as_conjuncts x (Condition-F.Disjoined a rest) e is = refl
as_conjuncts x (Condition-F.Compared j a b) e is = refl
as_conjuncts x (Condition-F.Matched j a b) e is = refl
as_conjuncts x (Condition-F.In a b) e is = refl
as_conjuncts x (Condition-F.NotIn a b) e is = refl

as_disjuncts : (x : Condition) (o : Condition-F Condition) (e : Ev) → roll-Condition o ≡ x → in_row by_disjunction (truth (row.disjuncts x o).0 e) (truths e (row.disjuncts x o).1) ≡ truth x e
as_disjuncts x (Condition-F.Operand a) e is = refl
as_disjuncts x (Condition-F.Not a) e is = refl
as_disjuncts x (Condition-F.Conjoined a rest) e is = refl
as_disjuncts x (Condition-F.Disjoined a rest) e is = sym (says_disjoined a rest e) ∙ ap (λ z. truth z e) (sym (c.rolls-Disjoined a rest) ∙ is)
as_disjuncts x (Condition-F.Compared j a b) e is = refl
as_disjuncts x (Condition-F.Matched j a b) e is = refl
as_disjuncts x (Condition-F.In a b) e is = refl
as_disjuncts x (Condition-F.NotIn a b) e is = refl

pub conjoined_says : (j : Conjunction) (x y : Condition) (e : Ev) → truth (row.conjoined j x y) e ≡ by_conjunction j (truth x e) (truth y e)
conjoined_says j x y e =
    let r = row.conjuncts x (out-Condition x) in
    says_conjoined r.0 (r.1 ++ (j, y) ∷ []) e ∙ row_more by_conjunction e (truth r.0 e) r.1 j y ∙ ap (λ z. by_conjunction j z (truth y e)) (as_conjuncts x (out-Condition x) e (roll-out-Condition x))

pub disjoined_says : (j : Disjunction) (x y : Condition) (e : Ev) → truth (row.disjoined j x y) e ≡ by_disjunction j (truth x e) (truth y e)
disjoined_says j x y e =
    let r = row.disjuncts x (out-Condition x) in
    says_disjoined r.0 (r.1 ++ (j, y) ∷ []) e ∙ row_more by_disjunction e (truth r.0 e) r.1 j y ∙ ap (λ z. by_disjunction j z (truth y e)) (as_disjuncts x (out-Condition x) e (roll-out-Condition x))

-- what follows of the value, if there is one
pub ok_then : {T E : Type 0} (r : Result T E) (P Q : T → Type 0) → ((x : T) → P x → Q x) → IfOk r P → IfOk r Q
ok_then (Ok x) P Q f h = f x h
ok_then (Err e) P Q f h = tt

-- a row that has something left, from its next condition on
pub row_on : {J : Type 0} (joined : J → Truth → Truth → Truth) (e : Ev) (left : Truth) (rest : List (J × Condition)) (i : ℕ) (p : J × Condition) → p ≡ get_or rest i p → i < length rest
    → in_row joined left (truths e (drop i rest)) ≡ in_row joined (joined p.0 left (truth p.1 e)) (truths e (drop (i + 1) rest))
row_on joined e left rest i p is l =
    ap (λ r. in_row joined left (truths e r)) (drop_more rest i p l) ∙ ap (λ q. in_row joined (joined q.0 left (truth q.1 e)) (truths e (drop (i + 1) rest))) (sym is)

pub texts_on : {J : Type 0} (rest : List (J × Condition)) (i : ℕ) (p : J × Condition) → p ≡ get_or rest i p → i < length rest → texts_behind (drop i rest) ≡ texts p.1 ++ texts_behind (drop (i + 1) rest)
texts_on rest i p is l = ap texts_behind (drop_more rest i p l) ∙ ap (λ q. texts q.1 ++ texts_behind (drop (i + 1) rest)) (sym is)

pub count_on : {J : Type 0} (rest : List (J × Condition)) (i : ℕ) (p : J × Condition) → p ≡ get_or rest i p → i < length rest → length (texts_behind (drop i rest)) ≡ length (texts p.1) + length (texts_behind (drop (i + 1) rest))
count_on rest i p is l = ap length (texts_on rest i p is l) ∙ length-append (texts p.1) (texts_behind (drop (i + 1) rest))

-- the texts of a front of a row, and one more
pub texts_taken : {J : Type 0} (rest : List (J × Condition)) (i : ℕ) (p : J × Condition) → p ≡ get_or rest i p → i < length rest → texts_behind (take (i + 1) rest) ≡ texts_behind (take i rest) ++ texts p.1
texts_taken rest i p is l =
    ap texts_behind (take_more rest i p l ∙ ap (λ q. take i rest ++ q ∷ []) (sym is)) ∙ ap joined_texts (map-append (λ q. (q.0, texts q.1)) (take i rest) (p ∷ [])) ∙ flat_map-append (λ q. q.1) (map (λ q. (q.0, texts q.1)) (take i rest)) ((p.0, texts p.1) ∷ [])
    ∙ ap (λ s. texts_behind (take i rest) ++ s) (append-nil (texts p.1))

-- those of the whole row: the front, one more, and what is left
pub texts_split : {J : Type 0} (rest : List (J × Condition)) (i : ℕ) (p : J × Condition) → p ≡ get_or rest i p → i < length rest → texts_behind rest ≡ texts_behind (take i rest) ++ (texts p.1 ++ texts_behind (drop (i + 1) rest))
texts_split rest i p is l =
    ap texts_behind (sym (take-append-drop i rest)) ∙ ap joined_texts (map-append (λ q. (q.0, texts q.1)) (take i rest) (drop i rest)) ∙ flat_map-append (λ q. q.1) (map (λ q. (q.0, texts q.1)) (take i rest)) (map (λ q. (q.0, texts q.1)) (drop i rest))
    ∙ ap (λ s. texts_behind (take i rest) ++ s) (texts_on rest i p is l)
