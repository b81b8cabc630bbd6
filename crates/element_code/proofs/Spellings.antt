-- The bytes of values, one equation for each variant, and of the parts of lists and objects.
use Rattle.std.proofs.Common.{◌≡◌, ℕ, List, [], ◌∷◌, ◌++◌, length, map, drop, get_or, true, false, ℤ, sym, ap, ◌∙◌, append_assoc, ◌+◌, ◌<◌}
use Rattle.std.proofs.lemmas.List.{drop_more}
use Rattle.event_tree.specs.Number.{Num}
use Rattle.event_tree.specs.Values.{Members, on_values}
use Rattle.event_tree.specs.declared.value.Value.{Value}
use Rattle.event_tree.specs.declared.value.Value.TheVariants as v
use Rattle.crc_frame.specs.Fronts.{count_bytes}
use Rattle.element_code.specs.Parts.{plain, text, key, part_bytes, bytes_of, number_bytes, time_bytes, items_parts, members_parts, parts, spelling}
use Rattle.element_code.proofs.PartsOf.{bytes_of-append, parts-Null, parts-Bool, parts-Num, parts-Text, parts-Time, parts-List, parts-Object}
use Rattle.element_code.proofs.Again.{one_part}

pub spelling-Null : spelling v.Null ≡ 0 ∷ []
spelling-Null = one_part v.Null (plain 0 []) parts-Null

pub spelling-false : spelling (v.Bool false) ≡ 1 ∷ []
spelling-false = one_part (v.Bool false) (plain 1 []) (parts-Bool false)

pub spelling-true : spelling (v.Bool true) ≡ 2 ∷ []
spelling-true = one_part (v.Bool true) (plain 2 []) (parts-Bool true)

pub spelling-Num : (n : Num) → spelling (v.Num n) ≡ 3 ∷ number_bytes n
spelling-Num n = one_part (v.Num n) (plain 3 (number_bytes n)) (parts-Num n)

pub spelling-Text : (s : List ℕ) → spelling (v.Text s) ≡ 4 ∷ (count_bytes (length s) ++ s)
spelling-Text s = one_part (v.Text s) (text s) (parts-Text s)

pub spelling-Time : (t : ℤ) → spelling (v.Time t) ≡ 5 ∷ time_bytes t
spelling-Time t = one_part (v.Time t) (plain 5 (time_bytes t)) (parts-Time t)

pub ruleset leaves = (spelling-Null, spelling-false, spelling-true, spelling-Num, spelling-Text, spelling-Time)

pub spelling-List : (vs : List Value) → spelling (v.List vs) ≡ (6 ∷ count_bytes (length vs)) ++ bytes_of (items_parts (map parts vs))
spelling-List vs = ap bytes_of (parts-List vs)

pub spelling-Object : (ms : Members) → spelling (v.Object ms) ≡ (7 ∷ count_bytes (length ms)) ++ bytes_of (members_parts (on_values parts ms))
spelling-Object ms = ap bytes_of (parts-Object ms)

-- the first item is written, and then the rest
pub items_on : (vs : List Value) (i : ℕ) (d : Value) (to mid all : List ℕ) → i < length vs → d ≡ get_or vs i d → mid ≡ to ++ spelling d → to ++ bytes_of (items_parts (map parts (drop i vs))) ≡ all
    → mid ++ bytes_of (items_parts (map parts (drop (i + 1) vs))) ≡ all
items_on vs i d to mid all lt is written so_far =
    let later = items_parts (map parts (drop (i + 1) vs)) in
    let e : drop i vs ≡ d ∷ drop (i + 1) vs = drop_more vs i d lt ∙ ap (λ x. x ∷ drop (i + 1) vs) (sym is) in
    ap (λ m. m ++ bytes_of later) written ∙ append_assoc to (spelling d) (bytes_of later) ∙ ap (λ bs. to ++ bs) (sym (bytes_of-append (parts d) later)) ∙ ap (λ ds. to ++ bytes_of (items_parts (map parts ds))) (sym e) ∙ so_far

pub members_on : (ms : Members) (i : ℕ) (m : List ℕ × Value) (to keyed mid all : List ℕ) → i < length ms → m ≡ get_or ms i m → keyed ≡ to ++ part_bytes (key m.0) → mid ≡ keyed ++ spelling m.1
    → to ++ bytes_of (members_parts (on_values parts (drop i ms))) ≡ all → mid ++ bytes_of (members_parts (on_values parts (drop (i + 1) ms))) ≡ all
members_on ms i m to keyed mid all lt is key_written written so_far =
    let later = members_parts (on_values parts (drop (i + 1) ms)) in
    let front = part_bytes (key m.0) in
    let e : drop i ms ≡ m ∷ drop (i + 1) ms = drop_more ms i m lt ∙ ap (λ x. x ∷ drop (i + 1) ms) (sym is) in
    ap (λ b. b ++ bytes_of later) (written ∙ ap (λ b. b ++ spelling m.1) key_written) ∙ append_assoc (to ++ front) (spelling m.1) (bytes_of later) ∙ ap (λ bs. (to ++ front) ++ bs) (sym (bytes_of-append (parts m.1) later))
    ∙ append_assoc to front (bytes_of (parts m.1 ++ later)) ∙ ap (λ ds. to ++ bytes_of (members_parts (on_values parts ds))) (sym e) ∙ so_far
