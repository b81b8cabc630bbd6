-- Each value of the grammar is read.
use Rattle.std.proofs.Common.{◌≡◌, ℕ, zero, suc, ◌≤◌, List, [], ◌∷◌, ◌++◌, length, Result, Ok, refl, sym, ap, subst, ◌∙◌, arith, true, false, ◌==◌, inl, inr, append_assoc, length-append}
use Rattle.std.specs.Prelude.{codes}
use Rattle.std.proofs.lemmas.Bool.Decides.{nat_tests}
use Rattle.std.proofs.lemmas.List.{append-nil}
use Rattle.plain_data.specs.Members.{insert_member}
use Rattle.event_tree.specs.Values.{Members}
use Rattle.event_tree.specs.declared.value.Value.{Value}
use Rattle.event_tree.specs.declared.value.Value.TheVariants as v
use Rattle.event_json.specs.Strings.{Piece, ArePieces, pieces_bytes, pieces_text}
use Rattle.event_json.specs.Grammar.{Text, spaced, Node, null_word, true_word, false_word, number, string, no_items, items, no_members, members, Elements, last, more, Pairs, last_pair, more_pairs, is_space, AreSpace, IsWhole, IsMinus, IsText, IsNode, AreElements, ArePairs, text_bytes, node_bytes, elements_bytes, pairs_bytes, key_bytes, string_bytes, number_bytes, text_levels, node_levels, elements_levels, pairs_levels}
use Rattle.event_json.specs.JsonValues.{text_value, node_value, elements_values, pairs_members}
use Rattle.event_json.specs.Reading as r
use Rattle.event_json.specs.Reading.{◌>>=◌, Fault, At, Deep, Reads}
use Rattle.event_json.proofs.Tests.{bool_cases}
use Rattle.event_json.proofs.NodeReads.{scalar_number}
use Rattle.event_json.proofs.Only.{NoSpace, EndsNumber, space_ends, skip_none, skip_space, number_read, word_value, string_read}

regroup3 : (a b c d : List ℕ) → (a ++ (b ++ c)) ++ d ≡ a ++ (b ++ (c ++ d))
regroup3 a b c d = simp append_assoc

-- ---- values by their first byte

pub node_text : (n : ℕ) (bs : List ℕ) → r.node_at n (34 ∷ bs) ≡ r.text_at bs
unfolding r.node_at
node_text zero bs = refl
node_text (suc n) bs = refl

pub node_list : (n : ℕ) (bs : List ℕ) → r.node_at (suc n) (91 ∷ bs) ≡ r.list_at (r.node_at n) bs
unfolding r.node_at
node_list n bs = refl

pub node_object : (n : ℕ) (bs : List ℕ) → r.node_at (suc n) (123 ∷ bs) ≡ r.object_at (r.node_at n) bs
unfolding r.node_at
node_object n bs = refl

pub node_scalar : (n b : ℕ) (bs : List ℕ) → (b == 34) ≡ false → (b == 91) ≡ false → (b == 123) ≡ false → r.node_at n (b ∷ bs) ≡ r.scalar_at (b ∷ bs)
unfolding r.node_at
node_scalar zero b bs x y z = rw (x, y, z) refl
node_scalar (suc n) b bs x y z = rw (x, y, z) refl

-- ---- the first byte of a value

-- bytes that begin with a value: no blank, and nothing that closes
abbrev Begins : List ℕ → Type 0
Begins bytes = (b : ℕ) × (bs : List ℕ) × (bytes ≡ b ∷ bs) × (is_space b ≡ false) × ((b == 93) ≡ false)

begins_more : (bytes rest : List ℕ) → Begins bytes → Begins (bytes ++ rest)
begins_more bytes rest h = (h.0, h.1 ++ rest, ap (λ ys. ys ++ rest) h.2, h.3, h.4)

begins_no_space : (bytes : List ℕ) → Begins bytes → NoSpace bytes
begins_no_space bytes h = subst (λ (ys : List ℕ). NoSpace ys) (sym h.2) h.3

-- a number's first byte is that of nothing else
abbrev pub HeadsNumber : ℕ → Type 0
HeadsNumber b = (is_space b ≡ false) × ((b == 93) ≡ false) × ((b == 34) ≡ false) × ((b == 91) ≡ false) × ((b == 123) ≡ false) × ((b == 110) ≡ false) × ((b == 116) ≡ false) × ((b == 102) ≡ false)

heads : (b : ℕ) → 48 ≤ b → b ≤ 57 → HeadsNumber b
heads b low high = (grind (arith, nat_tests), grind (arith, nat_tests), grind (arith, nat_tests), grind (arith, nat_tests), grind (arith, nat_tests), grind (arith, nat_tests), grind (arith, nat_tests), grind (arith, nat_tests))

number_head : (s w others : List ℕ) → IsMinus s → IsWhole w → (b : ℕ) × (bs : List ℕ) × (s ++ (w ++ others) ≡ b ∷ bs) × HeadsNumber b
number_head s [] others h k = absurd k
number_head s (b ∷ w) others (inr e) k = (45, b ∷ (w ++ others), rw e refl, (refl, refl, refl, refl, refl, refl, refl, refl))
number_head s (b ∷ w) others (inl e) (inl k) = (48, w ++ others, rw (e, k.0) refl, (refl, refl, refl, refl, refl, refl, refl, refl))
number_head s (b ∷ w) others (inl e) (inr k) = (b, w ++ others, rw e refl, heads b (omega (arith, k.0)) k.1)

node_begins : (x : Node) → IsNode x → Begins (node_bytes x)
node_begins null_word h = (110, 117 ∷ 108 ∷ 108 ∷ [], refl, refl, refl)
node_begins true_word h = (116, 114 ∷ 117 ∷ 101 ∷ [], refl, refl, refl)
node_begins false_word h = (102, 97 ∷ 108 ∷ 115 ∷ 101 ∷ [], refl, refl, refl)
node_begins (number x) h = let n = number_head x.minus x.whole (x.fraction ++ x.exponent) h.minus h.whole in (n.0, n.1, n.2, n.3.0, n.3.1)
node_begins (string ps) h = (34, pieces_bytes ps ++ 34 ∷ [], refl, refl, refl)
node_begins (no_items s) h = (91, s ++ 93 ∷ [], refl, refl, refl)
node_begins (items es) h = (91, elements_bytes es ++ 93 ∷ [], refl, refl, refl)
node_begins (no_members s) h = (123, s ++ 125 ∷ [], refl, refl, refl)
node_begins (members ms) h = (123, pairs_bytes ms ++ 125 ∷ [], refl, refl, refl)

node_length : (x : Node) → IsNode x → 1 ≤ length (node_bytes x)
node_length x h = let b = node_begins x h in omega (arith, ap length b.2)

-- a text without the blanks before it
text_skip : (before behind rest : List ℕ) (x : Node) → AreSpace before → IsNode x → r.skip ((before ++ (node_bytes x ++ behind)) ++ rest) ≡ node_bytes x ++ (behind ++ rest)
text_skip before behind rest x h k =
    ap r.skip (regroup3 before (node_bytes x) behind rest) ∙ skip_space before (node_bytes x ++ (behind ++ rest)) h ∙ skip_none (node_bytes x ++ (behind ++ rest)) (begins_no_space _ (begins_more (node_bytes x) (behind ++ rest) (node_begins x k)))

-- ---- elements, one after the other

skip_again : (bs : List ℕ) → r.skip (r.skip bs) ≡ r.skip bs
skip_again [] = refl
skip_again (b ∷ bs) = bool_cases (is_space b) (λ e. rw e (skip_again bs)) (λ e. rw (e, e) refl)

module _ {A : Type 0} (c : ℕ) (element : A → Reads A) (same : (c == c) ≡ true) (other : (44 == c) ≡ false) (again : (found : A) (bytes : List ℕ) → element found (r.skip bytes) ≡ element found bytes) where
  one_element : (k : ℕ) (bytes rest : List ℕ) (found new : A) → element found bytes ≡ Ok (new, c ∷ rest) → r.elements_at c element (suc k) found bytes ≡ Ok (new, rest)
  unfolding r.elements_at
  one_element k bytes rest found new e = rw e (rw same refl)

  next_element : (k : ℕ) (bytes others : List ℕ) (found new : A) → element found bytes ≡ Ok (new, 44 ∷ others) → r.elements_at c element (suc k) found bytes ≡ r.elements_at c element k new others
  unfolding r.elements_at
  next_element k bytes others found new e = rw e (rw other refl)

  elements_skip : (k : ℕ) (found : A) (bytes : List ℕ) → r.elements_at c element (suc k) found (r.skip bytes) ≡ r.elements_at c element (suc k) found bytes
  unfolding r.elements_at
  elements_skip k found bytes = rw (again found bytes) refl

  opened : (found : A) (bytes bs : List ℕ) (b : ℕ) → r.skip bytes ≡ b ∷ bs → (b == c) ≡ false → r.group_at c element found bytes ≡ r.elements_at c element (suc (length bs)) found bytes
  opened found bytes bs b e f =
      ap (r.group_from c (r.elements_at c element) found) e ∙ rw f (ap (r.elements_at c element (suc (length bs)) found) (sym e) ∙ elements_skip (length bs) found bytes)

  closed : (found : A) (s rest : List ℕ) → is_space c ≡ false → AreSpace s → r.group_at c element found ((s ++ c ∷ []) ++ rest) ≡ Ok (found, rest)
  closed found s rest n h =
      let e : r.skip ((s ++ c ∷ []) ++ rest) ≡ c ∷ rest = ap r.skip (append_assoc s (c ∷ []) rest) ∙ skip_space s (c ∷ rest) h ∙ skip_none (c ∷ rest) n in
      ap (r.group_from c (r.elements_at c element) found) e ∙ rw same refl

item_again : (node : Reads Value) (found : List Value) (bytes : List ℕ) → r.item_at node found (r.skip bytes) ≡ r.item_at node found bytes
item_again node found bytes = rw (skip_again bytes) refl

member_again : (node : Reads Value) (found : Members) (bytes : List ℕ) → r.member_at node found (r.skip bytes) ≡ r.member_at node found bytes
member_again node found bytes = rw (skip_again bytes) refl

spaced_node : (node : Reads Value) (bytes inner rest : List ℕ) (d : Value) → r.skip bytes ≡ inner → node inner ≡ Ok (d, rest) → r.spaced_at node bytes ≡ Ok (d, r.skip rest)
spaced_node node bytes inner rest d e h = rw (e, h) refl

item_read : (node : Reads Value) (bytes rest : List ℕ) (found : List Value) (d : Value) → r.spaced_at node bytes ≡ Ok (d, rest) → r.item_at node found bytes ≡ Ok (found ++ d ∷ [], rest)
item_read node bytes rest found d e = ap (λ (read : Result (Value × List ℕ) Fault). read >>= λ x. Ok (found ++ x.0 ∷ [], x.1)) e

-- ---- keys

key_skip : (before behind rest : List ℕ) (key : List Piece) → AreSpace before → r.skip (key_bytes before key behind ++ rest) ≡ 34 ∷ ((pieces_bytes key ++ 34 ∷ []) ++ (behind ++ 58 ∷ rest))
key_skip before behind rest key h =
    let e : key_bytes before key behind ++ rest ≡ before ++ (34 ∷ ((pieces_bytes key ++ 34 ∷ []) ++ (behind ++ 58 ∷ rest))) = simp append_assoc in
    ap r.skip e ∙ skip_space before (34 ∷ ((pieces_bytes key ++ 34 ∷ []) ++ (behind ++ 58 ∷ rest))) h

colon_skip : (behind rest : List ℕ) → AreSpace behind → r.after_colon (r.skip (behind ++ 58 ∷ rest)) ≡ Ok rest
colon_skip behind rest h = ap r.after_colon (skip_space behind (58 ∷ rest) h)

entry_read : (node : Reads Value) (before behind others rest : List ℕ) (key : List Piece) (d : Value) → AreSpace before → ArePieces key → AreSpace behind → r.spaced_at node others ≡ Ok (d, rest) → (found : Members) → r.member_at node found (key_bytes before key behind ++ others) ≡ Ok (insert_member (pieces_text key) d found, rest)
entry_read node before behind others rest key d s ps a e found =
    let k : r.key_at (r.skip (key_bytes before key behind ++ others)) ≡ Ok (pieces_text key, behind ++ 58 ∷ others) = ap r.key_at (key_skip before behind others key s) ∙ string_read key (behind ++ 58 ∷ others) ps in
    let one : r.entry_at node (key_bytes before key behind ++ others) ≡ Ok ((pieces_text key, d), rest) =
    ap (λ (read : Result (List ℕ × List ℕ) Fault). read >>= λ k. r.after_colon (r.skip k.1) >>= λ rest. r.spaced_at node rest >>= λ x. Ok ((k.0, x.0), x.1)) k
    ∙ ap (λ (read : Result (List ℕ) Fault). read >>= λ rest. r.spaced_at node rest >>= λ x. Ok ((pieces_text key, x.0), x.1)) (colon_skip behind others a)
    ∙ ap (λ (read : Result (Value × List ℕ) Fault). read >>= λ x. Ok ((pieces_text key, x.0), x.1)) e in
    ap (λ (read : Result ((List ℕ × Value) × List ℕ) Fault). read >>= λ x. Ok (insert_member x.0.0 x.0.1 found, x.1)) one

-- ---- how many

abbrev many : Elements → ℕ
many (last t) = 1
many (more t es) = suc (many es)

many_le : (es : Elements) → AreElements es → many es ≤ length (elements_bytes es)
many_le (last (spaced before x behind)) h = omega (arith, length-append before (node_bytes x ++ behind), length-append (node_bytes x) behind, node_length x h.1)
many_le (more (spaced before x behind) es) h = omega (arith, length-append (before ++ (node_bytes x ++ behind)) (44 ∷ elements_bytes es), many_le es h.1)

abbrev many_pairs : Pairs → ℕ
many_pairs (last_pair before key behind t) = 1
many_pairs (more_pairs before key behind t ms) = suc (many_pairs ms)

many_pairs_le : (ms : Pairs) → many_pairs ms ≤ length (pairs_bytes ms)
many_pairs_le (last_pair before key behind t) = omega (arith, length-append (key_bytes before key behind) (text_bytes t), length-append before (string_bytes key ++ (behind ++ 58 ∷ [])))
many_pairs_le (more_pairs before key behind t ms) = omega (arith, length-append (key_bytes before key behind) (text_bytes t ++ 44 ∷ pairs_bytes ms), length-append (text_bytes t) (44 ∷ pairs_bytes ms), many_pairs_le ms)

-- where the first element begins, and how much there is from there
elements_open : (es : Elements) (rest : List ℕ) → AreElements es → (b : ℕ) × (bs : List ℕ) × (r.skip (elements_bytes es ++ 93 ∷ rest) ≡ b ∷ bs) × ((b == 93) ≡ false) × (many es ≤ suc (length bs))
elements_open (last (spaced before x behind)) rest h =
    let b = begins_more (node_bytes x) (behind ++ 93 ∷ rest) (node_begins x h.1) in
    (b.0, b.1, text_skip before behind (93 ∷ rest) x h.0 h.1 ∙ b.2, b.4, omega arith)
elements_open (more (spaced before x behind) es) rest h =
    let others = 44 ∷ (elements_bytes es ++ 93 ∷ rest) in
    let b = begins_more (node_bytes x) (behind ++ others) (node_begins x h.0.1) in
    let e : r.skip (((before ++ (node_bytes x ++ behind)) ++ 44 ∷ elements_bytes es) ++ 93 ∷ rest) ≡ node_bytes x ++ (behind ++ others) = ap r.skip (append_assoc (before ++ (node_bytes x ++ behind)) (44 ∷ elements_bytes es) (93 ∷ rest)) ∙ text_skip before behind others x h.0.0 h.0.1 in
    (b.0, b.1, e ∙ b.2, b.4, omega (arith, ap length b.2, length-append (node_bytes x) (behind ++ others), length-append behind others, length-append (elements_bytes es) (93 ∷ rest), many_le es h.1, node_length x h.0.1))

pairs_open : (ms : Pairs) (rest : List ℕ) → ArePairs ms → (bs : List ℕ) × (r.skip (pairs_bytes ms ++ 125 ∷ rest) ≡ 34 ∷ bs) × (many_pairs ms ≤ suc (length bs))
pairs_open (last_pair before key behind t) rest h =
    let others = text_bytes t ++ 125 ∷ rest in
    ((pieces_bytes key ++ 34 ∷ []) ++ (behind ++ 58 ∷ others), ap r.skip (append_assoc (key_bytes before key behind) (text_bytes t) (125 ∷ rest)) ∙ key_skip before behind others key h.0, omega arith)
pairs_open (more_pairs before key behind t ms) rest h =
    let others = text_bytes t ++ 44 ∷ (pairs_bytes ms ++ 125 ∷ rest) in
    let e : (key_bytes before key behind ++ (text_bytes t ++ 44 ∷ pairs_bytes ms)) ++ 125 ∷ rest ≡ key_bytes before key behind ++ others = append_assoc (key_bytes before key behind) (text_bytes t ++ 44 ∷ pairs_bytes ms) (125 ∷ rest) ∙ ap (λ ys. key_bytes before key behind ++ ys) (append_assoc (text_bytes t) (44 ∷ pairs_bytes ms) (125 ∷ rest)) in (
      (pieces_bytes key ++ 34 ∷ []) ++ (behind ++ 58 ∷ others),
      ap r.skip e ∙ key_skip before behind others key h.0,
      omega (arith, many_pairs_le ms, length-append (pieces_bytes key ++ 34 ∷ []) (behind ++ 58 ∷ others), length-append behind (58 ∷ others), length-append (text_bytes t) (44 ∷ (pairs_bytes ms ++ 125 ∷ rest)), length-append (pairs_bytes ms) (125 ∷ rest)),
    )

-- ---- all of them together

list_value : (n : ℕ) (es : Elements) (rest : List ℕ) → AreElements es → ((k : ℕ) → many es ≤ k → r.elements_at 93 (r.item_at (r.node_at n)) k [] (elements_bytes es ++ 93 ∷ rest) ≡ Ok (elements_values es, rest)) → r.list_at (r.node_at n) ((elements_bytes es ++ 93 ∷ []) ++ rest) ≡ Ok (v.List (elements_values es), rest)
list_value n es rest h below =
    let o = elements_open es rest h in
    ap (λ (read : Result (List Value × List ℕ) Fault). read >>= λ x. Ok (v.List x.0, x.1))
    (ap (r.group_at 93 (r.item_at (r.node_at n)) []) (append_assoc (elements_bytes es) (93 ∷ []) rest) ∙ opened 93 (r.item_at (r.node_at n)) refl refl (item_again (r.node_at n)) [] (elements_bytes es ++ 93 ∷ rest) o.1 o.0 o.2 o.3 ∙ below (suc (length o.1)) o.4)

object_value : (n : ℕ) (ms : Pairs) (rest : List ℕ) → ArePairs ms → ((k : ℕ) → many_pairs ms ≤ k → r.elements_at 125 (r.member_at (r.node_at n)) k [] (pairs_bytes ms ++ 125 ∷ rest) ≡ Ok (pairs_members [] ms, rest)) → r.object_at (r.node_at n) ((pairs_bytes ms ++ 125 ∷ []) ++ rest) ≡ Ok (v.Object (pairs_members [] ms), rest)
object_value n ms rest h below =
    let o = pairs_open ms rest h in
    ap (λ (read : Result (Members × List ℕ) Fault). read >>= λ x. Ok (v.Object x.0, x.1))
    (ap (r.group_at 125 (r.member_at (r.node_at n)) []) (append_assoc (pairs_bytes ms) (125 ∷ []) rest) ∙ opened 125 (r.member_at (r.node_at n)) refl refl (member_again (r.node_at n)) [] (pairs_bytes ms ++ 125 ∷ rest) o.0 34 o.1 refl ∙ below (suc (length o.0)) o.2)

closed_list : (n : ℕ) (s rest : List ℕ) → AreSpace s → r.list_at (r.node_at n) ((s ++ 93 ∷ []) ++ rest) ≡ Ok (v.List [], rest)
closed_list n s rest h = ap (λ (read : Result (List Value × List ℕ) Fault). read >>= λ x. Ok (v.List x.0, x.1)) (closed 93 (r.item_at (r.node_at n)) refl refl (item_again (r.node_at n)) [] s rest refl h)

closed_object : (n : ℕ) (s rest : List ℕ) → AreSpace s → r.object_at (r.node_at n) ((s ++ 125 ∷ []) ++ rest) ≡ Ok (v.Object [], rest)
closed_object n s rest h = ap (λ (read : Result (Members × List ℕ) Fault). read >>= λ x. Ok (v.Object x.0, x.1)) (closed 125 (r.member_at (r.node_at n)) refl refl (member_again (r.node_at n)) [] s rest refl h)

mutual
  pub text_read : (t : Text) (n : ℕ) (rest : List ℕ) → IsText t → text_levels t ≤ n → EndsNumber rest → NoSpace rest → r.spaced_at (r.node_at n) (text_bytes t ++ rest) ≡ Ok (text_value t, rest)
  text_read (spaced before x behind) n rest h le f s =
      spaced_node (r.node_at n) ((before ++ (node_bytes x ++ behind)) ++ rest) (node_bytes x ++ (behind ++ rest)) (behind ++ rest) (node_value x) (text_skip before behind rest x h.0 h.1) (node_read x n (behind ++ rest) h.1 le (space_ends behind rest h.2 f))
      ∙ ap (λ (ys : List ℕ). Ok (node_value x, ys)) (skip_space behind rest h.2 ∙ skip_none rest s)

  pub node_read : (x : Node) (n : ℕ) (rest : List ℕ) → IsNode x → node_levels x ≤ n → EndsNumber rest → r.node_at n (node_bytes x ++ rest) ≡ Ok (node_value x, rest)
  node_read null_word n rest h le f = node_scalar n 110 (117 ∷ 108 ∷ 108 ∷ rest) refl refl refl ∙ word_value (codes "null") rest v.Null
  node_read true_word n rest h le f = node_scalar n 116 (114 ∷ 117 ∷ 101 ∷ rest) refl refl refl ∙ word_value (codes "true") rest (v.Bool true)
  node_read false_word n rest h le f = node_scalar n 102 (97 ∷ 108 ∷ 115 ∷ 101 ∷ rest) refl refl refl ∙ word_value (codes "false") rest (v.Bool false)
  node_read (number x) n rest h le f =
      let b = number_head x.minus x.whole (x.fraction ++ x.exponent) h.minus h.whole in
      let e : number_bytes x ++ rest ≡ b.0 ∷ (b.1 ++ rest) = ap (λ ys. ys ++ rest) b.2 in
      ap (r.node_at n) e ∙ node_scalar n b.0 (b.1 ++ rest) b.3.2 b.3.3 b.3.4 ∙ scalar_number b.0 (b.1 ++ rest) b.3.5 b.3.6 b.3.7 ∙ ap r.number_at (sym e) ∙ number_read x rest h f
  node_read (string ps) n rest h le f = node_text n ((pieces_bytes ps ++ 34 ∷ []) ++ rest) ∙ ap (λ (read : Result (List ℕ × List ℕ) Fault). read >>= λ x. Ok (v.Text x.0, x.1)) (string_read ps rest h)
  node_read (no_items s) zero rest h le f = absurd (omega arith)
  node_read (no_items s) (suc n) rest h le f = node_list n ((s ++ 93 ∷ []) ++ rest) ∙ closed_list n s rest h
  node_read (items es) zero rest h le f = absurd (omega arith)
  node_read (items es) (suc n) rest h le f = node_list n ((elements_bytes es ++ 93 ∷ []) ++ rest) ∙ list_value n es rest h (λ k lk. items_read es n rest [] h (omega arith) k lk)
  node_read (no_members s) zero rest h le f = absurd (omega arith)
  node_read (no_members s) (suc n) rest h le f = node_object n ((s ++ 125 ∷ []) ++ rest) ∙ closed_object n s rest h
  node_read (members ms) zero rest h le f = absurd (omega arith)
  node_read (members ms) (suc n) rest h le f = node_object n ((pairs_bytes ms ++ 125 ∷ []) ++ rest) ∙ object_value n ms rest h (λ k lk. pairs_read ms n rest [] h (omega arith) k lk)

  pub items_read : (es : Elements) (n : ℕ) (rest : List ℕ) (found : List Value) → AreElements es → elements_levels es ≤ n → (k : ℕ) → many es ≤ k → r.elements_at 93 (r.item_at (r.node_at n)) k found (elements_bytes es ++ 93 ∷ rest) ≡ Ok (found ++ elements_values es, rest)
  items_read (last t) n rest found h le zero lk = absurd (omega arith)
  items_read (last t) n rest found h le (suc k) lk = one_element 93 (r.item_at (r.node_at n)) refl refl (item_again (r.node_at n)) k (text_bytes t ++ 93 ∷ rest) rest found (found ++ text_value t ∷ [])
      (item_read (r.node_at n) (text_bytes t ++ 93 ∷ rest) (93 ∷ rest) found (text_value t) (text_read t n (93 ∷ rest) h le (refl, refl, refl) refl))
  items_read (more t es) n rest found h le zero lk = absurd (omega arith)
  items_read (more t es) n rest found h le (suc k) lk =
      let others = elements_bytes es ++ 93 ∷ rest in
      ap (r.elements_at 93 (r.item_at (r.node_at n)) (suc k) found) (append_assoc (text_bytes t) (44 ∷ elements_bytes es) (93 ∷ rest))
      ∙ next_element 93 (r.item_at (r.node_at n)) refl refl (item_again (r.node_at n)) k (text_bytes t ++ 44 ∷ others) others found (found ++ text_value t ∷ [])
      (item_read (r.node_at n) (text_bytes t ++ 44 ∷ others) (44 ∷ others) found (text_value t) (text_read t n (44 ∷ others) h.0 (omega arith) (refl, refl, refl) refl))
      ∙ items_read es n rest (found ++ text_value t ∷ []) h.1 (omega arith) k (omega arith)
      ∙ ap (λ (ds : List Value). Ok (ds, rest)) (append_assoc found (text_value t ∷ []) (elements_values es))

  pub pairs_read : (ms : Pairs) (n : ℕ) (rest : List ℕ) (found : Members) → ArePairs ms → pairs_levels ms ≤ n → (k : ℕ) → many_pairs ms ≤ k → r.elements_at 125 (r.member_at (r.node_at n)) k found (pairs_bytes ms ++ 125 ∷ rest) ≡ Ok (pairs_members found ms, rest)
  pairs_read (last_pair before key behind t) n rest found h le zero lk = absurd (omega arith)
  pairs_read (last_pair before key behind t) n rest found h le (suc k) lk =
      ap (r.elements_at 125 (r.member_at (r.node_at n)) (suc k) found) (append_assoc (key_bytes before key behind) (text_bytes t) (125 ∷ rest))
      ∙ one_element 125 (r.member_at (r.node_at n)) refl refl (member_again (r.node_at n)) k (key_bytes before key behind ++ (text_bytes t ++ 125 ∷ rest)) rest found (insert_member (pieces_text key) (text_value t) found)
      (entry_read (r.node_at n) before behind (text_bytes t ++ 125 ∷ rest) (125 ∷ rest) key (text_value t) h.0 h.1 h.2 (text_read t n (125 ∷ rest) h.3 le (refl, refl, refl) refl) found)
  pairs_read (more_pairs before key behind t ms) n rest found h le zero lk = absurd (omega arith)
  pairs_read (more_pairs before key behind t ms) n rest found h le (suc k) lk =
      let others = pairs_bytes ms ++ 125 ∷ rest in
      ap (r.elements_at 125 (r.member_at (r.node_at n)) (suc k) found) (append_assoc (key_bytes before key behind) (text_bytes t ++ 44 ∷ pairs_bytes ms) (125 ∷ rest) ∙ ap (λ ys. key_bytes before key behind ++ ys) (append_assoc (text_bytes t) (44 ∷ pairs_bytes ms) (125 ∷ rest)))
      ∙ next_element 125 (r.member_at (r.node_at n)) refl refl (member_again (r.node_at n)) k (key_bytes before key behind ++ (text_bytes t ++ 44 ∷ others)) others found (insert_member (pieces_text key) (text_value t) found)
      (entry_read (r.node_at n) before behind (text_bytes t ++ 44 ∷ others) (44 ∷ others) key (text_value t) h.0 h.1 h.2 (text_read t n (44 ∷ others) h.3 (omega arith) (refl, refl, refl) refl) found)
      ∙ pairs_read ms n rest (insert_member (pieces_text key) (text_value t) found) h.4 (omega arith) k (omega arith)

-- each text of at most so many levels is read, with its value
pub read_only : (t : Text) (n : ℕ) → IsText t → text_levels t ≤ n → r.read n (text_bytes t) ≡ Ok (text_value t)
unfolding r.read
read_only t n h le =
    let e : r.spaced_at (r.node_at n) (text_bytes t) ≡ Ok (text_value t, []) = ap (r.spaced_at (r.node_at n)) (sym (append-nil (text_bytes t))) ∙ text_read t n [] h le tt tt in
    ap (λ (read : Result (Value × List ℕ) Fault). read >>= λ x. r.if_last x.0 x.1) e
