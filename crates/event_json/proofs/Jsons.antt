-- The equations of json, one for each variant.
use Rattle.std.proofs.Common.{◌≡◌, ℕ, ◌+◌, ◌<◌, List, [], ◌∷◌, ◌++◌, length, drop, get_or, map, Bool, true, false, ℤ, if◌then◌else◌, sym, ap, ◌∙◌, append_assoc}
use Rattle.std.proofs.lemmas.List.{drop_more}
use Rattle.std.specs.Prelude.{codes}
use Rattle.event_tree.specs.Number.{Num}
use Rattle.event_tree.specs.Values.{Members, on_values}
use Rattle.event_json.specs.TimeText.{time_text_of}
use Rattle.event_json.specs.Json.{json, json_step, quoted, number_text, comma_if, items_json, members_json}
use Rattle.event_tree.specs.declared.value.Value.{Value}
use Rattle.event_tree.specs.declared.value.Value.TheVariants as v
use Rattle.event_tree.proofs.Folds.{IsFold, fold_is}

json_equations : IsFold (List ℕ) json_step json
unfolding json
json_equations = fold_is (List ℕ) json_step

pub json-Null : json v.Null ≡ codes "null"
json-Null = json_equations.null

pub json-Bool : (b : Bool) → json (v.Bool b) ≡ (if b then codes "true" else codes "false")
json-Bool b = json_equations.bool b

pub json-Num : (n : Num) → json (v.Num n) ≡ number_text n
json-Num n = json_equations.number n

pub json-Text : (s : List ℕ) → json (v.Text s) ≡ quoted s
json-Text s = json_equations.text s

pub json-Time : (t : ℤ) → json (v.Time t) ≡ 34 ∷ (time_text_of t ++ 34 ∷ [])
json-Time t = json_equations.time t

pub json-List : (vs : List Value) → json (v.List vs) ≡ 91 ∷ items_json false (map json vs)
json-List vs = json_equations.list vs

pub json-Object : (ms : Members) → json (v.Object ms) ≡ 123 ∷ members_json false (on_values json ms)
json-Object ms = json_equations.object ms

pub ruleset jsons = (json-Null, json-Bool, json-Num, json-Text, json-Time, json-List, json-Object)

-- the first item is written behind a comma, if it wants one, and then the rest
pub items_on : (vs : List Value) (i : ℕ) (later : Bool) (d : Value) (to apart mid all : List ℕ) → i < length vs → d ≡ get_or vs i d → apart ≡ to ++ comma_if later → mid ≡ apart ++ json d
    → to ++ items_json later (map json (drop i vs)) ≡ all → mid ++ items_json true (map json (drop (i + 1) vs)) ≡ all
items_on vs i later d to apart mid all lt is c w so_far =
    let behind = items_json true (map json (drop (i + 1) vs)) in
    let e : drop i vs ≡ d ∷ drop (i + 1) vs = drop_more vs i d lt ∙ ap (λ x. x ∷ drop (i + 1) vs) (sym is) in
    ap (λ l. l ++ behind) (w ∙ ap (λ l. l ++ json d) c) ∙ append_assoc (to ++ comma_if later) (json d) behind ∙ append_assoc to (comma_if later) (json d ++ behind)
    ∙ ap (λ ds. to ++ items_json later (map json ds)) (sym e) ∙ so_far

regroup : (to apart key text behind : List ℕ) → ((((to ++ apart) ++ key) ++ 58 ∷ []) ++ text) ++ behind ≡ to ++ (apart ++ (key ++ 58 ∷ (text ++ behind)))
regroup to apart key text behind = simp append_assoc

pub members_on : (ms : Members) (i : ℕ) (later : Bool) (m : List ℕ × Value) (to apart keyed before mid all : List ℕ) → i < length ms → m ≡ get_or ms i m → apart ≡ to ++ comma_if later → keyed ≡ apart ++ quoted m.0 → before ≡ keyed ++ 58 ∷ [] → mid ≡ before ++ json m.1
    → to ++ members_json later (on_values json (drop i ms)) ≡ all → mid ++ members_json true (on_values json (drop (i + 1) ms)) ≡ all
members_on ms i later m to apart keyed before mid all lt is c k b w so_far =
    let behind = members_json true (on_values json (drop (i + 1) ms)) in
    let e : drop i ms ≡ m ∷ drop (i + 1) ms = drop_more ms i m lt ∙ ap (λ x. x ∷ drop (i + 1) ms) (sym is) in
    let written = w ∙ ap (λ l. l ++ json m.1) (b ∙ ap (λ l. l ++ 58 ∷ []) (k ∙ ap (λ l. l ++ quoted m.0) c)) in
    ap (λ l. l ++ behind) written ∙ regroup to (comma_if later) (quoted m.0) (json m.1) behind ∙ ap (λ ds. to ++ members_json later (on_values json ds)) (sym e) ∙ so_far
