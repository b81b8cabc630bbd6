-- A value, as it is written, is a text of the grammar, with that value but for its times.
use Rattle.std.proofs.Common.{◌≡◌, ℕ, ℤ, suc, ◌≤◌, Result, Ok, Err, OnOk, Bool, true, false, if◌then◌else◌, List, [], ◌∷◌, ◌++◌, map, refl, sym, ap, subst, ◌∙◌, arith, append_assoc}
use Rattle.std.specs.Prelude.{codes}
use Rattle.std.specs.Str.{IsUtf8}
use Rattle.std.proofs.lemmas.List.{append-nil}
use Rattle.std.proofs.lemmas.Str.{IsUtf8-append}
use Rattle.event_tree.specs.Number.{Num, IsLeast}
use Rattle.event_tree.specs.NumberTexts.{IsI64}
use Rattle.event_tree.specs.Values.{Members, on_values, depth, items_depth, members_depth}
use Rattle.event_tree.specs.declared.value.Value.{Value}
use Rattle.event_tree.specs.declared.value.Value.TheVariants as v
use Rattle.std.specs.Map.{keys_of}
use Rattle.std.specs.declared.cmp.Ordering.TheVariants.{Less, Greater}
use Rattle.plain_data.specs.Keys.{text_cmp, Below}
use Rattle.plain_data.specs.Members.{Rises, AllBelow, insert_member}
use Rattle.plain_data.proofs.KeyLemmas.{text_cmp-flip}
use Rattle.event_json.specs.Strings.{pieces_bytes, pieces_text}
use Rattle.event_json.specs.Grammar.{Pairs, last_pair, more_pairs, no_members, members, ArePairs, pairs_bytes, pairs_levels, key_bytes}
use Rattle.event_json.specs.JsonValues.{pairs_members}
use Rattle.event_json.specs.Json.{members_json}
use Rattle.event_json.proofs.Jsons.{json-Object}
use Rattle.event_tree.proofs.Depths.{depth-Text, depth-List, depth-Object}
use Rattle.event_json.specs.Grammar as g
use Rattle.event_json.proofs.Ascii.{number_ascii}
use Rattle.std.proofs.lemmas.Str.{IsUtf8-from_ascii}
use Rattle.event_json.specs.Json.{number_text}
use Rattle.event_json.specs.Numbers.{number_or_text, number_of}
use Rattle.event_json.specs.Grammar.{Text, spaced, Node, null_word, true_word, false_word, number, string, no_items, items, Elements, last, more, IsNode, AreElements, IsText, node_bytes, elements_bytes, text_bytes, node_levels, elements_levels, text_levels}
use Rattle.event_json.specs.JsonValues.{node_value, elements_values, text_value}
use Rattle.event_json.specs.Json.{json, quoted, items_json}
use Rattle.event_json.specs.TimeText.{time_text_of}
use Rattle.event_json.specs.Untimed.{untimed, untimed_step, ReadsBack}
use Rattle.event_tree.specs.Adds.{Adds}
use Rattle.event_tree.specs.Sound.{sound}
use Rattle.event_tree.proofs.Folds.{IsFold, fold_is}
use Rattle.event_tree.proofs.EachSound.{EachItem, EachMember, GoesUp, each_sound}
use Rattle.event_json.proofs.Jsons.{json-Null, json-Bool, json-Num, json-Text, json-Time, json-List}
use Rattle.event_json.proofs.WrittenStrings.{pieces_of, pieces_say, IsUtf8-are_ascii}
use Rattle.event_json.proofs.Utf8.{quoted_utf8, time_utf8, time_same}
use Rattle.event_json.proofs.WrittenNumbers.{number_text_of, number_text_in}

untimed_equations : IsFold Value untimed_step untimed
unfolding untimed
untimed_equations = fold_is Value untimed_step

pub untimed-Null : untimed v.Null ≡ v.Null
untimed-Null = untimed_equations.null

pub untimed-Bool : (b : Bool) → untimed (v.Bool b) ≡ v.Bool b
untimed-Bool b = untimed_equations.bool b

pub untimed-Num : (n : Num) → untimed (v.Num n) ≡ v.Num n
untimed-Num n = untimed_equations.number n

pub untimed-Text : (s : List ℕ) → untimed (v.Text s) ≡ v.Text s
untimed-Text s = untimed_equations.text s

untimed-Time : (t : ℤ) → untimed (v.Time t) ≡ v.Text (time_text_of t)
untimed-Time t = untimed_equations.time t

pub untimed-List : (vs : List Value) → untimed (v.List vs) ≡ v.List (map untimed vs)
untimed-List vs = untimed_equations.list vs

pub untimed-Object : (ms : Members) → untimed (v.Object ms) ≡ v.Object (on_values untimed ms)
untimed-Object ms = untimed_equations.object ms

-- the text is that of a node with this value, in UTF-8
abbrev pub IsWritten : Value → Type 0
IsWritten d = (x : Node) × IsNode x × (node_levels x ≤ depth d) × (json d ≡ node_bytes x) × (node_value x ≡ untimed d) × IsUtf8 (json d)

pub null_written : IsWritten v.Null
null_written = (null_word, tt, omega arith, json-Null, sym untimed-Null, subst (λ (ys : List ℕ). IsUtf8 ys) (sym json-Null) (IsUtf8-are_ascii (codes "null") refl))

pub text_written : (s : List ℕ) → IsUtf8 s → IsWritten (v.Text s)
text_written s u = let p = pieces_say s in (string (pieces_of s), p.0, omega arith, json-Text s ∙ ap (λ (ys : List ℕ). 34 ∷ (ys ++ 34 ∷ [])) (sym p.1), ap (λ (ys : List ℕ). v.Text ys) p.2 ∙ sym (untimed-Text s), subst (λ (ys : List ℕ). IsUtf8 ys) (sym (json-Text s)) (quoted_utf8 s u))

bool_text : (b : Bool) → IsUtf8 (if b then codes "true" else codes "false")
bool_text true = IsUtf8-are_ascii (codes "true") refl
bool_text false = IsUtf8-are_ascii (codes "false") refl

bool_node : (b : Bool) → (x : Node) × IsNode x × (node_levels x ≤ 0) × ((if b then codes "true" else codes "false") ≡ node_bytes x) × (node_value x ≡ v.Bool b)
bool_node true = (true_word, tt, omega arith, refl, refl)
bool_node false = (false_word, tt, omega arith, refl, refl)

pub bool_written : (b : Bool) → IsWritten (v.Bool b)
bool_written b = let n = bool_node b in (n.0, n.1, omega (arith, n.2), json-Bool b ∙ n.3, n.4 ∙ sym (untimed-Bool b), subst (λ (ys : List ℕ). IsUtf8 ys) (sym (json-Bool b)) (bool_text b))

-- ---- arrays

-- items behind another one, with the bracket that closes
abbrev pub AreWritten : List Value → List ℕ → Type 0
AreWritten ds bytes = (es : Elements) × AreElements es × (elements_levels es ≤ items_depth ds) × (bytes ≡ elements_bytes es ++ 93 ∷ []) × (elements_values es ≡ map untimed ds) × IsUtf8 bytes

one_text : (d : Value) → IsWritten d → (t : Text) × IsText t × (text_levels t ≤ depth d) × (json d ≡ text_bytes t) × (text_value t ≡ untimed d)
one_text d w = (spaced [] w.0 [], (tt, w.1, tt), w.2, w.3 ∙ sym (append-nil (node_bytes w.0)), w.4)

first_item : (d : Value) → IsWritten d → AreWritten (d ∷ []) (json d ++ 93 ∷ [])
first_item d w = let t = one_text d w in (last t.0, t.1, omega (arith, t.2), ap (λ ys. ys ++ 93 ∷ []) t.3, ap (λ x. x ∷ []) t.4, IsUtf8-append (json d) (93 ∷ []) w.5 (IsUtf8-are_ascii (93 ∷ []) refl))

next_item : (d e : Value) (ds : List Value) (bytes : List ℕ) → IsWritten d → AreWritten (e ∷ ds) bytes → AreWritten (d ∷ e ∷ ds) (json d ++ 44 ∷ bytes)
next_item d e ds bytes w r =
    let t = one_text d w in (
      more t.0 r.0,
      (t.1, r.1),
      omega (arith, t.2, r.2),
      ap (λ ys. ys ++ 44 ∷ bytes) t.3 ∙ ap (λ ys. text_bytes t.0 ++ 44 ∷ ys) r.3 ∙ sym (append_assoc (text_bytes t.0) (44 ∷ elements_bytes r.0) (93 ∷ [])),
      (λ i. t.4 i ∷ r.4 i),
      IsUtf8-append (json d) (44 ∷ bytes) w.5 (IsUtf8-append (44 ∷ []) bytes (IsUtf8-are_ascii (44 ∷ []) refl) r.5),
    )

pub num_written : (n : Num) → IsLeast n.mantissa n.scale → IsI64 n.mantissa → IsWritten (v.Num n)
num_written n least fits =
    let x = number_text_in n fits in
    let e : json (v.Num n) ≡ g.number_bytes x.0 = json-Num n ∙ x.2 in
    let value : node_value (number x.0) ≡ untimed (v.Num n) = ap (λ s. number_or_text s (number_of s)) (sym x.2) ∙ ap (number_or_text (number_text n)) (number_text_of n least fits) ∙ sym (untimed-Num n) in
    (number x.0, x.1, omega arith, e, value, subst (λ (ys : List ℕ). IsUtf8 ys) (sym e) (IsUtf8-from_ascii (g.number_bytes x.0) (number_ascii x.0 x.1)))

items_from : (d : Value) (ds : List Value) → EachItem IsWritten (d ∷ ds) → AreWritten (d ∷ ds) (json d ++ items_json true (map json ds))
items_from d [] w = first_item d w.0
items_from d (e ∷ ds) w = next_item d e ds (json e ++ items_json true (map json ds)) w.0 (items_from e ds w.1)

items_node : (ds : List Value) → EachItem IsWritten ds → (x : Node) × IsNode x × (node_levels x ≤ suc (items_depth ds)) × (91 ∷ items_json false (map json ds) ≡ node_bytes x) × (node_value x ≡ v.List (map untimed ds)) × IsUtf8 (91 ∷ items_json false (map json ds))
items_node [] w = (no_items [], tt, omega arith, refl, refl, IsUtf8-are_ascii (91 ∷ 93 ∷ []) refl)
items_node (d ∷ ds) w =
    let r = items_from d ds w in
    (items r.0, r.1, omega (arith, r.2), ap (λ ys. 91 ∷ ys) r.3, ap (λ (es : List Value). v.List es) r.4, IsUtf8-append (91 ∷ []) (json d ++ items_json true (map json ds)) (IsUtf8-are_ascii (91 ∷ []) refl) r.5)

pub list_written : (ds : List Value) → EachItem IsWritten ds → IsWritten (v.List ds)
list_written ds w =
    let n = items_node ds w in
    (n.0, n.1, omega (arith, n.2, depth-List ds), json-List ds ∙ n.3, n.4 ∙ sym (untimed-List ds), subst (λ (ys : List ℕ). IsUtf8 ys) (sym (json-List ds)) n.5)

-- ---- objects

insert_end : (k : List ℕ) (d : Value) (found : Members) → AllBelow found k → insert_member k d found ≡ found ++ (k, d) ∷ []
insert_end k d [] h = refl
insert_end k d (m ∷ ms) h = let e : text_cmp k m.0 ≡ Greater = text_cmp-flip m.0 k Less h.0 in rw e (ap (λ ns. m ∷ ns) (insert_end k d ms h.1))

-- each key is above all that were found
abbrev EachAbove : Members → Members → Type 0
EachAbove found [] = Unit {0}
EachAbove found (m ∷ ms) = AllBelow found m.0 × EachAbove found ms

below_push : (found : Members) (m : List ℕ × Value) (k : List ℕ) → AllBelow found k → text_cmp m.0 k ≡ Less → AllBelow (found ++ m ∷ []) k
below_push [] m k h e = (e, tt)
below_push (x ∷ xs) m k h e = (h.0, below_push xs m k h.1 e)

above_push : (found : Members) (m : List ℕ × Value) (ms : Members) → EachAbove found ms → Below m.0 (keys_of ms) → EachAbove (found ++ m ∷ []) ms
above_push found m [] h b = tt
above_push found m (x ∷ ms) h b = (below_push found m x.0 h.0 b.0, above_push found m ms h.1 b.1)

all_above : (ms : Members) → EachAbove [] ms
all_above [] = tt
all_above (m ∷ ms) = (tt, all_above ms)

abbrev MembersWritten : Members → List ℕ → Type 0
MembersWritten ms bytes = (ps : Pairs) × ArePairs ps × (pairs_levels ps ≤ members_depth ms) × (bytes ≡ pairs_bytes ps ++ 125 ∷ []) × ((found : Members) → Rises ms → EachAbove found ms → pairs_members found ps ≡ found ++ on_values untimed ms) × IsUtf8 bytes

key_written : (k rest : List ℕ) → quoted k ++ 58 ∷ rest ≡ key_bytes [] (pieces_of k) [] ++ rest
key_written k rest = let p = pieces_say k in ap (λ (ys : List ℕ). (34 ∷ (ys ++ 34 ∷ [])) ++ 58 ∷ rest) (sym p.1) ∙ sym (append_assoc (34 ∷ (pieces_bytes (pieces_of k) ++ 34 ∷ [])) (58 ∷ []) rest)

inserted : (found : Members) (k : List ℕ) (x d : Value) → x ≡ d → AllBelow found k → insert_member (pieces_text (pieces_of k)) x found ≡ found ++ (k, d) ∷ []
inserted found k x d e b = ap (λ y. insert_member y x found) (pieces_say k).2 ∙ ap (λ y. insert_member k y found) e ∙ insert_end k d found b

first_member : (k : List ℕ) (d : Value) → IsUtf8 k → IsWritten d → MembersWritten ((k, d) ∷ []) (quoted k ++ 58 ∷ (json d ++ 125 ∷ []))
first_member k d u w =
    let t = one_text d w in (
      last_pair [] (pieces_of k) [] t.0,
      (tt, (pieces_say k).0, tt, t.1),
      omega (arith, t.2),
      key_written k (json d ++ 125 ∷ []) ∙ ap (λ ys. key_bytes [] (pieces_of k) [] ++ (ys ++ 125 ∷ [])) t.3 ∙ sym (append_assoc (key_bytes [] (pieces_of k) []) (text_bytes t.0) (125 ∷ [])),
      (λ found r b. inserted found k (text_value t.0) (untimed d) t.4 b.0),
      IsUtf8-append (quoted k) (58 ∷ (json d ++ 125 ∷ [])) (quoted_utf8 k u) (IsUtf8-append (58 ∷ []) (json d ++ 125 ∷ []) (IsUtf8-are_ascii (58 ∷ []) refl) (IsUtf8-append (json d) (125 ∷ []) w.5 (IsUtf8-are_ascii (125 ∷ []) refl))),
    )

next_member : (k : List ℕ) (d : Value) (ms : Members) (bytes : List ℕ) → IsUtf8 k → IsWritten d → MembersWritten ms bytes → MembersWritten ((k, d) ∷ ms) (quoted k ++ 58 ∷ (json d ++ 44 ∷ bytes))
next_member k d ms bytes u w r =
    let t = one_text d w in (
      more_pairs [] (pieces_of k) [] t.0 r.0,
      (tt, (pieces_say k).0, tt, t.1, r.1),
      omega (arith, t.2, r.2),
      key_written k (json d ++ 44 ∷ bytes) ∙ ap (λ ys. key_bytes [] (pieces_of k) [] ++ (ys ++ 44 ∷ bytes)) t.3 ∙ ap (λ ys. key_bytes [] (pieces_of k) [] ++ (text_bytes t.0 ++ 44 ∷ ys)) r.3 ∙ simp append_assoc,
      (λ found rises b. ap (λ ns. pairs_members ns r.0) (inserted found k (text_value t.0) (untimed d) t.4 b.0) ∙ r.4 (found ++ (k, untimed d) ∷ []) rises.1 (above_push found (k, untimed d) ms b.1 rises.0) ∙ append_assoc found ((k, untimed d) ∷ []) (on_values untimed ms)),
      IsUtf8-append (quoted k) (58 ∷ (json d ++ 44 ∷ bytes)) (quoted_utf8 k u) (IsUtf8-append (58 ∷ []) (json d ++ 44 ∷ bytes) (IsUtf8-are_ascii (58 ∷ []) refl) (IsUtf8-append (json d) (44 ∷ bytes) w.5 (IsUtf8-append (44 ∷ []) bytes (IsUtf8-are_ascii (44 ∷ []) refl) r.5))),
    )

members_from : (m : List ℕ × Value) (ms : Members) → EachMember IsWritten (m ∷ ms) → MembersWritten (m ∷ ms) (quoted m.0 ++ 58 ∷ (json m.1 ++ members_json true (on_values json ms)))
members_from m [] w = first_member m.0 m.1 w.0 w.1
members_from m (n ∷ ms) w = next_member m.0 m.1 (n ∷ ms) (quoted n.0 ++ 58 ∷ (json n.1 ++ members_json true (on_values json ms))) w.0 w.1 (members_from n ms w.2)

members_node : (ms : Members) → Rises ms → EachMember IsWritten ms → (x : Node) × IsNode x × (node_levels x ≤ suc (members_depth ms)) × (123 ∷ members_json false (on_values json ms) ≡ node_bytes x) × (node_value x ≡ v.Object (on_values untimed ms)) × IsUtf8 (123 ∷ members_json false (on_values json ms))
members_node [] rises w = (no_members [], tt, omega arith, refl, refl, IsUtf8-are_ascii (123 ∷ 125 ∷ []) refl)
members_node (m ∷ ms) rises w =
    let r = members_from m ms w in
    (members r.0, r.1, omega (arith, r.2), ap (λ ys. 123 ∷ ys) r.3, ap (λ (ns : Members). v.Object ns) (r.4 [] rises (all_above (m ∷ ms))), IsUtf8-append (123 ∷ []) (quoted m.0 ++ 58 ∷ (json m.1 ++ members_json true (on_values json ms))) (IsUtf8-are_ascii (123 ∷ []) refl) r.5)

pub object_written : (ms : Members) → Rises ms → EachMember IsWritten ms → IsWritten (v.Object ms)
object_written ms rises w =
    let n = members_node ms rises w in
    (n.0, n.1, omega (arith, n.2, depth-Object ms), json-Object ms ∙ n.3, n.4 ∙ sym (untimed-Object ms), subst (λ (ys : List ℕ). IsUtf8 ys) (sym (json-Object ms)) n.5)

-- ---- values

-- a time is written as its text
time_written : (t : ℤ) → IsWritten (v.Time t)
time_written t =
    let text = text_written (time_text_of t) (time_utf8 t) in
    let same : json (v.Time t) ≡ json (v.Text (time_text_of t)) = json-Time t ∙ ap (λ (ys : List ℕ). 34 ∷ (ys ++ 34 ∷ [])) (sym (time_same t)) ∙ sym (json-Text (time_text_of t)) in
    let value : untimed (v.Text (time_text_of t)) ≡ untimed (v.Time t) = untimed-Text (time_text_of t) ∙ sym (untimed-Time t) in
    (text.0, text.1, omega (arith, text.2, depth-Text (time_text_of t)), same ∙ text.3, text.4 ∙ value, subst (λ (ys : List ℕ). IsUtf8 ys) (sym same) text.5)

written : GoesUp IsWritten
written = record {
  null = null_written;
  bool = bool_written;
  number = λ n fits least. num_written n least fits;
  text = text_written;
  time = λ t is. time_written t;
  list = list_written;
  object = object_written;
}

pub reads_back : (d : Value) → sound d ≡ true → ReadsBack d
reads_back d is levels shallow =
    let x = each_sound IsWritten written d is in
    (spaced [] x.0 [], (tt, x.1, tt), omega (arith, x.2, shallow), x.3 ∙ sym (append-nil (node_bytes x.0)), x.4, x.5)

-- so bytes that are UTF-8 are so with the text behind them
pub json_utf8 : {T E : Type 0} (r : Result T E) (d : Value) (xs ys : List ℕ) → OnOk r (sound d ≡ true) → OnOk r (Adds (json d) xs ys) → IsUtf8 xs → OnOk r (IsUtf8 ys)
json_utf8 (Ok x) d xs ys is h u = subst (λ (zs : List ℕ). IsUtf8 zs) (sym h) (IsUtf8-append xs (json d) u (each_sound IsWritten written d is).5)
json_utf8 (Err x) d xs ys is h u = tt

pub reads_on_ok : {T E : Type 0} (r : Result T E) (d : Value) → OnOk r (sound d ≡ true) → OnOk r (ReadsBack d)
reads_on_ok (Ok x) d is = reads_back d is
reads_on_ok (Err x) d is = tt
