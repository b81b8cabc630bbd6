-- The equations of shown, one for each variant.
use Rattle.std.proofs.Common.{◌≡◌, ℕ, List, [], ◌∷◌, map, Bool, false, ℤ, refl, sym, ap, subst, ◌∙◌}
use Rattle.event_tree.specs.Number.{Num}
use Rattle.event_tree.specs.Values.{Members, on_values}
use Rattle.event_json.specs.TimeText.{time_text_of}
use Rattle.event_json.specs.Json.{json, json_step}
use Rattle.event_text.specs.Shown.{Texts, texts_step, texts, shown, shown_in, jsons_in, joined}
use Rattle.event_tree.specs.declared.value.Value.{Value, map-Value, roll-Value}
use Rattle.event_tree.specs.declared.value.Value.TheOpen.{Value-F}
use Rattle.event_tree.specs.declared.value.Value.TheFolds.{fold-roll-Value, ind-Value}
use Rattle.event_tree.specs.declared.value.Value.TheVariants as v

abbrev IsJson : Value → Type 0
IsJson d = (texts d).json ≡ json d

items_jsons : (es : List ((d : Value) × IsJson d)) → map (λ t. t.json) (map texts (map (λ e. e.0) es)) ≡ map json (map (λ e. e.0) es)
items_jsons [] = refl
items_jsons (e ∷ es) = ap (λ j. j ∷ map (λ t. t.json) (map texts (map (λ e. e.0) es))) e.1 ∙ ap (λ js. json e.0 ∷ js) (items_jsons es)

members_jsons : (es : List (List ℕ × ((d : Value) × IsJson d))) → on_values (λ t. t.json) (on_values texts (on_values (λ e. e.0) es)) ≡ on_values json (on_values (λ e. e.0) es)
members_jsons [] = refl
members_jsons (e ∷ es) = ap (λ j. (e.0, j) ∷ on_values (λ t. t.json) (on_values texts (on_values (λ e. e.0) es))) e.1.1 ∙ ap (λ js. (e.0, json e.1.0) ∷ js) (members_jsons es)

level_jsons : (y : Value-F ((d : Value) × IsJson d)) → jsons_in (map-Value Value Texts texts (map-Value ((d : Value) × IsJson d) Value (λ e. e.0) y)) ≡ map-Value Value (List ℕ) json (map-Value ((d : Value) × IsJson d) Value (λ e. e.0) y)
level_jsons Value-F.Null = refl
level_jsons (Value-F.Bool b) = refl
level_jsons (Value-F.Num n) = refl
level_jsons (Value-F.Text s) = refl
level_jsons (Value-F.Time t) = refl
level_jsons (Value-F.List es) = ap Value-F.List (items_jsons es)
level_jsons (Value-F.Object es) = ap Value-F.Object (members_jsons es)

-- y is x with a proof beside each value
roll_json : (x : Value-F Value) (y : Value-F ((d : Value) × IsJson d)) → map-Value ((d : Value) × IsJson d) Value (λ e. e.0) y ≡ x → IsJson (roll-Value x)
unfolding json texts
roll_json x y is = ap (λ t. t.json) (fold-roll-Value Texts texts_step x) ∙ ap json_step (subst (λ z. jsons_in (map-Value Value Texts texts z) ≡ map-Value Value (List ℕ) json z) is (level_jsons y)) ∙ sym (fold-roll-Value (List ℕ) json_step x)

pub json_of : (d : Value) → IsJson d
json_of = ind-Value IsJson (λ x y is. roll_json x y is)

items_of : (vs : List Value) → map (λ t. t.json) (map texts vs) ≡ map json vs
items_of [] = refl
items_of (d ∷ vs) = ap (λ j. j ∷ map (λ t. t.json) (map texts vs)) (json_of d) ∙ ap (λ js. json d ∷ js) (items_of vs)

members_of : (ms : Members) → on_values (λ t. t.json) (on_values texts ms) ≡ on_values json ms
members_of [] = refl
members_of (m ∷ ms) = ap (λ j. (m.0, j) ∷ on_values (λ t. t.json) (on_values texts ms)) (json_of m.1) ∙ ap (λ js. (m.0, json m.1) ∷ js) (members_of ms)

shown-roll : (x : Value-F Value) → shown (roll-Value x) ≡ shown_in (map-Value Value Texts texts x)
unfolding shown texts
shown-roll x = ap (λ t. t.shown) (fold-roll-Value Texts texts_step x)

json-roll : (x : Value-F Value) → json (roll-Value x) ≡ json_step (map-Value Value (List ℕ) json x)
unfolding json
json-roll x = fold-roll-Value (List ℕ) json_step x

pub shown-Null : shown v.Null ≡ []
shown-Null = ap shown (sym v.rolls-Null) ∙ shown-roll Value-F.Null

pub shown-Bool : (b : Bool) → shown (v.Bool b) ≡ json (v.Bool b)
shown-Bool b = ap shown (sym (v.rolls-Bool b)) ∙ shown-roll (Value-F.Bool b) ∙ sym (json-roll (Value-F.Bool b)) ∙ ap json (v.rolls-Bool b)

pub shown-Num : (n : Num) → shown (v.Num n) ≡ json (v.Num n)
shown-Num n = ap shown (sym (v.rolls-Num n)) ∙ shown-roll (Value-F.Num n) ∙ sym (json-roll (Value-F.Num n)) ∙ ap json (v.rolls-Num n)

pub shown-Text : (s : List ℕ) → shown (v.Text s) ≡ s
shown-Text s = ap shown (sym (v.rolls-Text s)) ∙ shown-roll (Value-F.Text s)

pub shown-Time : (t : ℤ) → shown (v.Time t) ≡ time_text_of t
shown-Time t = ap shown (sym (v.rolls-Time t)) ∙ shown-roll (Value-F.Time t)

map_shown : (vs : List Value) → map (λ t. t.shown) (map texts vs) ≡ map shown vs
unfolding shown
map_shown [] = refl
map_shown (d ∷ vs) = ap (λ ts. shown d ∷ ts) (map_shown vs)

pub shown-List : (vs : List Value) → shown (v.List vs) ≡ joined false (map shown vs)
shown-List vs = ap shown (sym (v.rolls-List vs)) ∙ shown-roll (Value-F.List vs) ∙ ap (joined false) (map_shown vs)

pub shown-Object : (ms : Members) → shown (v.Object ms) ≡ json (v.Object ms)
shown-Object ms = ap shown (sym (v.rolls-Object ms)) ∙ shown-roll (Value-F.Object ms) ∙ ap (λ l. json_step (Value-F.Object l)) (members_of ms) ∙ sym (json-roll (Value-F.Object ms)) ∙ ap json (v.rolls-Object ms)

pub ruleset shows = (shown-Null, shown-Bool, shown-Num, shown-Text, shown-Time, shown-List, shown-Object)
