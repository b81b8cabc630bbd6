-- Values that are read are in the grammar, with at most so many levels.
use Rattle.std.proofs.Common.{◌≡◌, ℕ, zero, suc, ◌-◌, ◌≤◌, max, List, [], ◌∷◌, ◌++◌, length, take, Result, Ok, Err, refl, sym, ap, subst, ◌∙◌, arith, true, false, ◌==◌, append_assoc, eqb-true, length-append}
use Rattle.std.specs.Prelude.{codes}
use Rattle.std.proofs.Math.Seq.{take-append_seam}
use Rattle.std.proofs.lemmas.List.{append-nil}
use Rattle.plain_data.specs.Members.{insert_member}
use Rattle.event_tree.specs.Values.{Members}
use Rattle.event_tree.specs.declared.value.Value.{Value}
use Rattle.event_tree.specs.declared.value.Value.TheVariants as v
use Rattle.event_json.specs.Numbers.{number_value}
use Rattle.event_json.specs.Strings.{Piece, ArePieces, pieces_text}
use Rattle.event_json.specs.Grammar.{Text, spaced, Node, null_word, true_word, false_word, number, string, no_items, items, no_members, members, Elements, last, more, Pairs, last_pair, more_pairs, AreSpace, IsText, IsNode, AreElements, ArePairs, text_bytes, node_bytes, elements_bytes, pairs_bytes, key_bytes, string_bytes, text_levels, node_levels, elements_levels, pairs_levels}
use Rattle.event_json.specs.JsonValues.{text_value, node_value, elements_values, pairs_members}
use Rattle.event_json.specs.Reading as r
use Rattle.event_json.specs.Reading.{◌>>=◌, Fault, At, Deep, Reads}
use Rattle.event_json.proofs.Tests.{bool_cases}
use Rattle.event_json.proofs.GrammarFronts.{Read, IsNumberText, skip_front, number_read, word_read}
use Rattle.event_json.proofs.StringReads.{ReadAs, IsStringOf, string_reads}

abbrev pub IsNodeOf : ℕ → List ℕ → Value → Type 0
IsNodeOf n front d = (x : Node) × IsNode x × (node_levels x ≤ n) × (front ≡ node_bytes x) × (node_value x ≡ d)

abbrev pub IsTextOf : ℕ → List ℕ → Value → Type 0
IsTextOf n front d = (t : Text) × IsText t × (text_levels t ≤ n) × (front ≡ text_bytes t) × (text_value t ≡ d)

abbrev pub NodeReads : ℕ → Reads Value → Type 0
NodeReads n node = (bytes : List ℕ) → ReadAs (IsNodeOf n) bytes (node bytes)

-- ---- literals and numbers

pub number_front : (bytes front rest : List ℕ) → bytes ≡ front ++ rest → take (length bytes - length rest) bytes ≡ front
number_front bytes front rest e =
    let k : length bytes - length rest ≡ length front = omega (arith, ap length e, length-append front rest) in
    ap (λ i. take i bytes) k ∙ ap (take (length front)) e ∙ take-append_seam front rest

number_of : (n : ℕ) (bytes : List ℕ) (read : Result (List ℕ) Fault) → Read IsNumberText bytes read → ReadAs (IsNodeOf n) bytes (read >>= λ rest. Ok (number_value (take (length bytes - length rest) bytes), rest))
number_of n bytes (Ok rest) h = (h.0, (number h.1.0, h.1.1, omega arith, h.1.2, ap number_value (sym h.1.2 ∙ sym (number_front bytes h.0 rest h.2))), h.2)
number_of n bytes (Err f) h = tt

number_reads : (n : ℕ) (bytes : List ℕ) → ReadAs (IsNodeOf n) bytes (r.number_at bytes)
unfolding r.number_at
number_reads n bytes = number_of n bytes (r.after_number bytes) (number_read bytes)

word_of : (n : ℕ) (word : List ℕ) (x : Node) (bytes : List ℕ) (read : Result (List ℕ) Fault) → IsNode x → node_levels x ≤ n → node_bytes x ≡ word → Read (λ front. front ≡ word) bytes read → ReadAs (IsNodeOf n) bytes (read >>= λ rest. Ok (node_value x, rest))
word_of n word x bytes (Ok rest) is le e h = (h.0, (x, is, le, h.1 ∙ sym e, refl), h.2)
word_of n word x bytes (Err f) is le e h = tt

pub scalar_null : (b : ℕ) (bs : List ℕ) → (b == 110) ≡ true → r.scalar_at (b ∷ bs) ≡ r.word_at (codes "null") v.Null (b ∷ bs)
scalar_null b bs x = rw x refl

pub scalar_true : (b : ℕ) (bs : List ℕ) → (b == 110) ≡ false → (b == 116) ≡ true → r.scalar_at (b ∷ bs) ≡ r.word_at (codes "true") (v.Bool true) (b ∷ bs)
scalar_true b bs x y = rw (x, y) refl

pub scalar_false : (b : ℕ) (bs : List ℕ) → (b == 110) ≡ false → (b == 116) ≡ false → (b == 102) ≡ true → r.scalar_at (b ∷ bs) ≡ r.word_at (codes "false") (v.Bool false) (b ∷ bs)
scalar_false b bs x y z = rw (x, y, z) refl

pub scalar_number : (b : ℕ) (bs : List ℕ) → (b == 110) ≡ false → (b == 116) ≡ false → (b == 102) ≡ false → r.scalar_at (b ∷ bs) ≡ r.number_at (b ∷ bs)
scalar_number b bs x y z = rw (x, y, z) refl

scalar_reads : (n : ℕ) (bytes : List ℕ) → ReadAs (IsNodeOf n) bytes (r.scalar_at bytes)
scalar_reads n [] = tt
scalar_reads n (b ∷ bs) = bool_cases (b == 110)
    (λ x. subst (λ (read : Result (Value × List ℕ) Fault). ReadAs (IsNodeOf n) (b ∷ bs) read) (sym (scalar_null b bs x)) (word_of n (codes "null") null_word (b ∷ bs) (r.after_word (codes "null") (b ∷ bs)) tt (omega arith) refl (word_read (codes "null") (b ∷ bs))))
    (λ x. bool_cases (b == 116)
    (λ y. subst (λ (read : Result (Value × List ℕ) Fault). ReadAs (IsNodeOf n) (b ∷ bs) read) (sym (scalar_true b bs x y)) (word_of n (codes "true") true_word (b ∷ bs) (r.after_word (codes "true") (b ∷ bs)) tt (omega arith) refl (word_read (codes "true") (b ∷ bs))))
    (λ y. bool_cases (b == 102)
    (λ z. subst (λ (read : Result (Value × List ℕ) Fault). ReadAs (IsNodeOf n) (b ∷ bs) read) (sym (scalar_false b bs x y z)) (word_of n (codes "false") false_word (b ∷ bs) (r.after_word (codes "false") (b ∷ bs)) tt (omega arith) refl (word_read (codes "false") (b ∷ bs))))
    (λ z. subst (λ (read : Result (Value × List ℕ) Fault). ReadAs (IsNodeOf n) (b ∷ bs) read) (sym (scalar_number b bs x y z)) (number_reads n (b ∷ bs)))))

-- ---- strings

text_of : (n b : ℕ) (bs : List ℕ) (read : Result (List ℕ × List ℕ) Fault) → (b == 34) ≡ true → ReadAs IsStringOf bs read → ReadAs (IsNodeOf n) (b ∷ bs) (read >>= λ x. Ok (v.Text x.0, x.1))
text_of n b bs (Ok x) e h = (34 ∷ h.0, (string h.1.0, h.1.1, omega arith, h.1.2, ap (λ (s : List ℕ). v.Text s) h.1.3), ap (λ y. y ∷ bs) (eqb-true b 34 e) ∙ ap (λ ys. 34 ∷ ys) h.2)
text_of n b bs (Err f) e h = tt

-- ---- blanks round a value

around : (bytes a b c d : List ℕ) (s n : List ℕ) → bytes ≡ a ++ b → b ≡ n ++ c → c ≡ s ++ d → bytes ≡ (a ++ (n ++ s)) ++ d
around bytes a b c d s n h i j = rw (h, i, j) (simp append_assoc)

spaced_of : (n : ℕ) (bytes : List ℕ) (read : Result (Value × List ℕ) Fault) → ReadAs (IsNodeOf n) (r.skip bytes) read → ReadAs (IsTextOf n) bytes (read >>= λ x. Ok (x.0, r.skip x.1))
spaced_of n bytes (Ok x) h =
    let before = skip_front bytes in
    let behind = skip_front x.1 in
    let node = h.1 in (
      before.0 ++ (h.0 ++ behind.0),
      (spaced before.0 node.0 behind.0, (before.1, node.1, behind.1), node.2, ap (λ ys. before.0 ++ (ys ++ behind.0)) node.3, node.4),
      around bytes before.0 (r.skip bytes) x.1 (r.skip x.1) behind.0 h.0 before.2 h.2 behind.2,
    )
spaced_of n bytes (Err f) h = tt

pub spaced_reads : (n : ℕ) (node : Reads Value) → NodeReads n node → (bytes : List ℕ) → ReadAs (IsTextOf n) bytes (r.spaced_at node bytes)
spaced_reads n node below bytes = spaced_of n bytes (node (r.skip bytes)) (below (r.skip bytes))

-- ---- elements of arrays and objects

parts : (bytes t : List ℕ) (c : ℕ) (b : ℕ) (bs : List ℕ) → bytes ≡ t ++ b ∷ bs → (b == c) ≡ true → bytes ≡ (t ++ c ∷ []) ++ bs
parts bytes t c b bs h e = h ∙ ap (λ x. t ++ x ∷ bs) (eqb-true b c e) ∙ sym (append_assoc t (c ∷ []) bs)

more_parts : (bytes t e bs rest : List ℕ) (b : ℕ) → bytes ≡ t ++ b ∷ bs → (b == 44) ≡ true → bs ≡ e ++ rest → bytes ≡ (t ++ 44 ∷ e) ++ rest
more_parts bytes t e bs rest b h i j = h ∙ ap (λ x. t ++ x ∷ bs) (eqb-true b 44 i) ∙ ap (λ ys. t ++ 44 ∷ ys) j ∙ sym (append_assoc t (44 ∷ e) rest)

module _ {A : Type 0} (c : ℕ) (element : A → Reads A) (P Q : A → List ℕ → A → Type 0)
    (one : (found : A) (front : List ℕ) (new : A) → P found front new → Q found (front ++ c ∷ []) new)
    (another : (found : A) (front : List ℕ) (new : A) (others : List ℕ) (all : A) → P found front new → Q new others all → Q found (front ++ 44 ∷ others) all)
    (below : (found : A) (bytes : List ℕ) → ReadAs (P found) bytes (element found bytes)) where
  with_others : (found new : A) (bytes t bs : List ℕ) (b : ℕ) → P found t new → bytes ≡ t ++ b ∷ bs → (b == 44) ≡ true → (read : Result (A × List ℕ) Fault) → ReadAs (Q new) bs read → ReadAs (Q found) bytes read
  with_others found new bytes t bs b p h e (Ok x) g = (t ++ 44 ∷ g.0, another found t new g.0 x.0 p g.1, more_parts bytes t g.0 bs x.1 b h e g.2)
  with_others found new bytes t bs b p h e (Err f) g = tt

  after_reads : (k : ℕ) (found new : A) (bytes t rest : List ℕ) → ((found : A) (bytes : List ℕ) → ReadAs (Q found) bytes (r.elements_at c element k found bytes)) → P found t new → bytes ≡ t ++ rest → ReadAs (Q found) bytes (r.after_element c (r.elements_at c element k) new rest)
  after_reads k found new bytes t [] ih p h = tt
  after_reads k found new bytes t (b ∷ bs) ih p h = bool_cases (b == c)
      (λ e. rw e (t ++ c ∷ [], one found t new p, parts bytes t c b bs h e))
      (λ e. bool_cases (b == 44) (λ f. rw (e, f) (with_others found new bytes t bs b p h f (r.elements_at c element k new bs) (ih new bs))) (λ f. rw (e, f) tt))

  elements_bind : (k : ℕ) (found : A) (bytes : List ℕ) (read : Result (A × List ℕ) Fault) → ((found : A) (bytes : List ℕ) → ReadAs (Q found) bytes (r.elements_at c element k found bytes)) → ReadAs (P found) bytes read → ReadAs (Q found) bytes (read >>= λ x. r.after_element c (r.elements_at c element k) x.0 x.1)
  elements_bind k found bytes (Ok x) ih h = after_reads k found x.0 bytes h.0 x.1 ih h.1 h.2
  elements_bind k found bytes (Err f) ih h = tt

  pub elements_read : (k : ℕ) (found : A) (bytes : List ℕ) → ReadAs (Q found) bytes (r.elements_at c element k found bytes)
  unfolding r.elements_at
  elements_read zero found bytes = tt
  elements_read (suc k) found bytes = elements_bind k found bytes (element found bytes) (elements_read k) (below found bytes)

  module _ (R : List ℕ → A → Type 0) (start : A)
      (nothing : (s : List ℕ) → AreSpace s → R (s ++ c ∷ []) start)
      (padded : (s front : List ℕ) (all : A) → AreSpace s → Q start front all → R (s ++ front) all) where
    padded_read : (bytes s rest : List ℕ) (read : Result (A × List ℕ) Fault) → AreSpace s → bytes ≡ s ++ rest → ReadAs (Q start) rest read → ReadAs R bytes read
    padded_read bytes s rest (Ok x) space h g = (s ++ g.0, padded s g.0 x.0 space g.1, h ∙ ap (λ ys. s ++ ys) g.2 ∙ sym (append_assoc s g.0 x.1))
    padded_read bytes s rest (Err f) space h g = tt

    from_reads : (bytes s rest : List ℕ) → AreSpace s → bytes ≡ s ++ rest → ReadAs R bytes (r.group_from c (r.elements_at c element) start rest)
    from_reads bytes s [] space h = tt
    from_reads bytes s (b ∷ bs) space h = bool_cases (b == c)
        (λ e. rw e (s ++ c ∷ [], nothing s space, parts bytes s c b bs h e))
        (λ e. rw e (padded_read bytes s (b ∷ bs) (r.elements_at c element (suc (length bs)) start (b ∷ bs)) space h (elements_read (suc (length bs)) start (b ∷ bs))))

    pub group_reads : (bytes : List ℕ) → ReadAs R bytes (r.group_at c element start bytes)
    group_reads bytes = let s = skip_front bytes in from_reads bytes s.0 (r.skip bytes) s.1 s.2

-- ---- blanks before

both_space : (s t : List ℕ) → AreSpace s → AreSpace t → AreSpace (s ++ t)
both_space [] t h k = k
both_space (b ∷ s) t h k = (h.0, both_space s t h.1 k)

-- ---- arrays

abbrev IsItemOf : ℕ → List Value → List ℕ → List Value → Type 0
IsItemOf n found front new = (t : Text) × IsText t × (text_levels t ≤ n) × (front ≡ text_bytes t) × (found ++ text_value t ∷ [] ≡ new)

abbrev AreItemsOf : ℕ → List Value → List ℕ → List Value → Type 0
AreItemsOf n found front all = (es : Elements) × AreElements es × (elements_levels es ≤ n) × (front ≡ elements_bytes es ++ 93 ∷ []) × (found ++ elements_values es ≡ all)

-- what stands behind the bracket
abbrev IsListOf : ℕ → List ℕ → List Value → Type 0
IsListOf n front ds = (x : Node) × IsNode x × (node_levels x ≤ suc n) × (91 ∷ front ≡ node_bytes x) × (node_value x ≡ v.List ds)

item_of : (n : ℕ) (found : List Value) (bytes : List ℕ) (read : Result (Value × List ℕ) Fault) → ReadAs (IsTextOf n) bytes read → ReadAs (IsItemOf n found) bytes (read >>= λ x. Ok (found ++ x.0 ∷ [], x.1))
item_of n found bytes (Ok x) h = (h.0, (h.1.0, h.1.1, h.1.2, h.1.3, ap (λ d. found ++ d ∷ []) h.1.4), h.2)
item_of n found bytes (Err f) h = tt

one_item : (n : ℕ) (found : List Value) (front : List ℕ) (new : List Value) → IsItemOf n found front new → AreItemsOf n found (front ++ 93 ∷ []) new
one_item n found front new h = (last h.0, h.1, h.2, ap (λ ys. ys ++ 93 ∷ []) h.3, h.4)

another_item : (n : ℕ) (found : List Value) (front : List ℕ) (new : List Value) (others : List ℕ) (all : List Value) → IsItemOf n found front new → AreItemsOf n new others all → AreItemsOf n found (front ++ 44 ∷ others) all
another_item n found front new others all h g = (
  more h.0 g.0,
  (h.1, g.1),
  omega (arith, h.2, g.2),
  ap (λ ys. ys ++ 44 ∷ others) h.3 ∙ ap (λ ys. text_bytes h.0 ++ 44 ∷ ys) g.3 ∙ sym (append_assoc (text_bytes h.0) (44 ∷ elements_bytes g.0) (93 ∷ [])),
  sym (append_assoc found (text_value h.0 ∷ []) (elements_values g.0)) ∙ ap (λ ds. ds ++ elements_values g.0) h.4 ∙ g.4,
)

pad_text : List ℕ → Text → Text
pad_text s (spaced before x behind) = spaced (s ++ before) x behind

pad : List ℕ → Elements → Elements
pad s (last t) = last (pad_text s t)
pad s (more t es) = more (pad_text s t) es

pad_text-is : (s : List ℕ) (t : Text) → AreSpace s → IsText t → IsText (pad_text s t) × (text_bytes (pad_text s t) ≡ s ++ text_bytes t) × (text_value (pad_text s t) ≡ text_value t) × (text_levels (pad_text s t) ≡ text_levels t)
unfolding pad_text
pad_text-is s (spaced before x behind) h k = ((both_space s before h k.0, k.1, k.2), append_assoc s before (node_bytes x ++ behind), refl, refl)

pad-is : (s : List ℕ) (es : Elements) → AreSpace s → AreElements es → AreElements (pad s es) × (elements_bytes (pad s es) ≡ s ++ elements_bytes es) × (elements_values (pad s es) ≡ elements_values es) × (elements_levels (pad s es) ≡ elements_levels es)
unfolding pad
pad-is s (last t) h k = let p = pad_text-is s t h k in (p.0, p.1, ap (λ d. d ∷ []) p.2, p.3)
pad-is s (more t es) h k = let p = pad_text-is s t h k.0 in ((p.0, k.1), ap (λ ys. ys ++ 44 ∷ elements_bytes es) p.1 ∙ append_assoc s (text_bytes t) (44 ∷ elements_bytes es), ap (λ d. d ∷ elements_values es) p.2, ap (λ l. max l (elements_levels es)) p.3)

padded_bytes : (s e all : List ℕ) (c : ℕ) → all ≡ s ++ e → s ++ (e ++ c ∷ []) ≡ all ++ c ∷ []
padded_bytes s e all c h = sym (append_assoc s e (c ∷ [])) ∙ ap (λ ys. ys ++ c ∷ []) (sym h)

padded_items : (n : ℕ) (s front : List ℕ) (all : List Value) → AreSpace s → AreItemsOf n [] front all → IsListOf n (s ++ front) all
padded_items n s front all space h =
    let p = pad-is s h.0 space h.1 in
    (items (pad s h.0), p.0, omega (arith, p.3, h.2), ap (λ ys. 91 ∷ (s ++ ys)) h.3 ∙ ap (λ ys. 91 ∷ ys) (padded_bytes s (elements_bytes h.0) (elements_bytes (pad s h.0)) 93 p.1), ap (λ (ds : List Value). v.List ds) (p.2 ∙ h.4))

no_items_of : (n : ℕ) (s : List ℕ) → AreSpace s → IsListOf n (s ++ 93 ∷ []) []
no_items_of n s space = (no_items s, space, omega arith, refl, refl)

list_reads : (n : ℕ) (node : Reads Value) → NodeReads n node → (bytes : List ℕ) → ReadAs (IsListOf n) bytes (r.group_at 93 (r.item_at node) [] bytes)
list_reads n node below bytes = group_reads 93 (r.item_at node) (IsItemOf n) (AreItemsOf n) (one_item n) (another_item n) (λ found bytes. item_of n found bytes (r.spaced_at node bytes) (spaced_reads n node below bytes)) (IsListOf n) [] (no_items_of n) (padded_items n) bytes

list_node : (n b : ℕ) (bs : List ℕ) (read : Result (List Value × List ℕ) Fault) → (b == 91) ≡ true → ReadAs (IsListOf n) bs read → ReadAs (IsNodeOf (suc n)) (b ∷ bs) (read >>= λ x. Ok (v.List x.0, x.1))
list_node n b bs (Ok x) e h = (91 ∷ h.0, h.1, ap (λ y. y ∷ bs) (eqb-true b 91 e) ∙ ap (λ ys. 91 ∷ ys) h.2)
list_node n b bs (Err f) e h = tt

-- ---- objects

abbrev pub IsEntryOf : ℕ → List ℕ → List ℕ × Value → Type 0
IsEntryOf n front x = (before : List ℕ) × AreSpace before × (key : List Piece) × ArePieces key × (behind : List ℕ) × AreSpace behind × (t : Text) × IsText t × (text_levels t ≤ n) × (front ≡ key_bytes before key behind ++ text_bytes t) × ((pieces_text key, text_value t) ≡ x)

abbrev IsMemberOf : ℕ → Members → List ℕ → Members → Type 0
IsMemberOf n found front new = (x : List ℕ × Value) × IsEntryOf n front x × (insert_member x.0 x.1 found ≡ new)

abbrev AreMembersOf : ℕ → Members → List ℕ → Members → Type 0
AreMembersOf n found front all = (ms : Pairs) × ArePairs ms × (pairs_levels ms ≤ n) × (front ≡ pairs_bytes ms ++ 125 ∷ []) × (pairs_members found ms ≡ all)

abbrev IsObjectOf : ℕ → List ℕ → Members → Type 0
IsObjectOf n front ms = (x : Node) × IsNode x × (node_levels x ≤ suc n) × (123 ∷ front ≡ node_bytes x) × (node_value x ≡ v.Object ms)

abbrev IsKeyOf : List ℕ → List ℕ → Type 0
IsKeyOf front s = (ps : List Piece) × ArePieces ps × (front ≡ string_bytes ps) × (pieces_text ps ≡ s)

key_of : (b : ℕ) (bs : List ℕ) (read : Result (List ℕ × List ℕ) Fault) → (b == 34) ≡ true → ReadAs IsStringOf bs read → ReadAs IsKeyOf (b ∷ bs) read
key_of b bs (Ok x) e h = (34 ∷ h.0, h.1, ap (λ y. y ∷ bs) (eqb-true b 34 e) ∙ ap (λ ys. 34 ∷ ys) h.2)
key_of b bs (Err f) e h = tt

key_reads : (bytes : List ℕ) → ReadAs IsKeyOf bytes (r.key_at bytes)
key_reads [] = tt
key_reads (b ∷ bs) = bool_cases (b == 34) (λ e. rw e (key_of b bs (r.string_at bs) e (string_reads bs))) (λ e. rw e tt)

colon_reads : (bytes : List ℕ) → Read (λ front. front ≡ 58 ∷ []) bytes (r.after_colon bytes)
colon_reads [] = tt
colon_reads (b ∷ bs) = bool_cases (b == 58) (λ e. rw e (58 ∷ [], refl, ap (λ x. x ∷ bs) (eqb-true b 58 e))) (λ e. rw e tt)

joined_entry : (bytes s k two a three c b t rest : List ℕ) → bytes ≡ s ++ (k ++ two) → two ≡ a ++ three → three ≡ c ++ b → c ≡ 58 ∷ [] → b ≡ t ++ rest → bytes ≡ ((s ++ (k ++ (a ++ 58 ∷ []))) ++ t) ++ rest
joined_entry bytes s k two a three c b t rest h1 h2 h3 h4 h5 = rw (h1, h2, h3, h4, h5) (simp append_assoc)

entry_value : (n : ℕ) (bytes s k two : List ℕ) (key : List ℕ) → AreSpace s → IsKeyOf k key → bytes ≡ s ++ (k ++ two) → (a three c b : List ℕ) → AreSpace a → two ≡ a ++ three → three ≡ c ++ b → c ≡ 58 ∷ [] → (read : Result (Value × List ℕ) Fault) → ReadAs (IsTextOf n) b read → ReadAs (IsEntryOf n) bytes (read >>= λ x. Ok ((key, x.0), x.1))
entry_value n bytes s k two key space is h a three c b space2 h2 h3 h4 (Ok x) g = (
  (s ++ (k ++ (a ++ 58 ∷ []))) ++ g.0,
  (s, space, is.0, is.1, a, space2, g.1.0, g.1.1, g.1.2, ap (λ ys. (s ++ (ys ++ (a ++ 58 ∷ []))) ++ g.0) is.2 ∙ ap (λ ys. (s ++ (string_bytes is.0 ++ (a ++ 58 ∷ []))) ++ ys) g.1.3, λ i. (is.3 i, g.1.4 i)),
  joined_entry bytes s k two a three c b g.0 x.1 h h2 h3 h4 g.2,
)
entry_value n bytes s k two key space is h a three c b space2 h2 h3 h4 (Err f) g = tt

entry_colon : (n : ℕ) (node : Reads Value) → NodeReads n node → (bytes s k two : List ℕ) (key : List ℕ) → AreSpace s → IsKeyOf k key → bytes ≡ s ++ (k ++ two) → (a three : List ℕ) → AreSpace a → two ≡ a ++ three → (read : Result (List ℕ) Fault) → Read (λ front. front ≡ 58 ∷ []) three read → ReadAs (IsEntryOf n) bytes (read >>= λ rest. r.spaced_at node rest >>= λ x. Ok ((key, x.0), x.1))
entry_colon n node below bytes s k two key space is h a three space2 h2 (Ok b) g = entry_value n bytes s k two key space is h a three g.0 b space2 h2 g.2 g.1 (r.spaced_at node b) (spaced_reads n node below b)
entry_colon n node below bytes s k two key space is h a three space2 h2 (Err f) g = tt

entry_key : (n : ℕ) (node : Reads Value) → NodeReads n node → (bytes s one : List ℕ) → AreSpace s → bytes ≡ s ++ one → (read : Result (List ℕ × List ℕ) Fault) → ReadAs IsKeyOf one read → ReadAs (IsEntryOf n) bytes (read >>= λ k. r.after_colon (r.skip k.1) >>= λ rest. r.spaced_at node rest >>= λ x. Ok ((k.0, x.0), x.1))
entry_key n node below bytes s one space h (Ok k) g =
    let a = skip_front k.1 in
    entry_colon n node below bytes s g.0 k.1 k.0 space g.1 (h ∙ ap (λ ys. s ++ ys) g.2) a.0 (r.skip k.1) a.1 a.2 (r.after_colon (r.skip k.1)) (colon_reads (r.skip k.1))
entry_key n node below bytes s one space h (Err f) g = tt

pub entry_reads : (n : ℕ) (node : Reads Value) → NodeReads n node → (bytes : List ℕ) → ReadAs (IsEntryOf n) bytes (r.entry_at node bytes)
entry_reads n node below bytes = let s = skip_front bytes in entry_key n node below bytes s.0 (r.skip bytes) s.1 s.2 (r.key_at (r.skip bytes)) (key_reads (r.skip bytes))

member_of : (n : ℕ) (found : Members) (bytes : List ℕ) (read : Result ((List ℕ × Value) × List ℕ) Fault) → ReadAs (IsEntryOf n) bytes read → ReadAs (IsMemberOf n found) bytes (read >>= λ x. Ok (insert_member x.0.0 x.0.1 found, x.1))
member_of n found bytes (Ok x) h = (h.0, (x.0, h.1, refl), h.2)
member_of n found bytes (Err f) h = tt

entry_insert : (found : Members) (k : List ℕ) (d : Value) (x : List ℕ × Value) (new : Members) → (k, d) ≡ x → insert_member x.0 x.1 found ≡ new → insert_member k d found ≡ new
entry_insert found k d x new e h = ap (λ (p : List ℕ × Value). insert_member p.0 p.1 found) e ∙ h

one_member : (n : ℕ) (found : Members) (front : List ℕ) (new : Members) → IsMemberOf n found front new → AreMembersOf n found (front ++ 125 ∷ []) new
one_member n found front new (x, (before, s, key, ps, behind, a, t, is, le, e, value), put) =
    (last_pair before key behind t, (s, ps, a, is), le, ap (λ ys. ys ++ 125 ∷ []) e, entry_insert found (pieces_text key) (text_value t) x new value put)

another_member : (n : ℕ) (found : Members) (front : List ℕ) (new : Members) (others : List ℕ) (all : Members) → IsMemberOf n found front new → AreMembersOf n new others all → AreMembersOf n found (front ++ 44 ∷ others) all
another_member n found front new others all (x, (before, s, key, ps, behind, a, t, is, le, e, value), put) g = (
  more_pairs before key behind t g.0,
  (s, ps, a, is, g.1),
  omega (arith, le, g.2),
  ap (λ ys. ys ++ 44 ∷ others) e ∙ ap (λ ys. (key_bytes before key behind ++ text_bytes t) ++ 44 ∷ ys) g.3 ∙ simp append_assoc,
  ap (λ (ms : Members). pairs_members ms g.0) (entry_insert found (pieces_text key) (text_value t) x new value put) ∙ g.4,
)

pad_pairs : List ℕ → Pairs → Pairs
pad_pairs s (last_pair before key behind t) = last_pair (s ++ before) key behind t
pad_pairs s (more_pairs before key behind t ms) = more_pairs (s ++ before) key behind t ms

pad_pairs-is : (s : List ℕ) (ms : Pairs) → AreSpace s → ArePairs ms → ArePairs (pad_pairs s ms) × (pairs_bytes (pad_pairs s ms) ≡ s ++ pairs_bytes ms) × ((found : Members) → pairs_members found (pad_pairs s ms) ≡ pairs_members found ms) × (pairs_levels (pad_pairs s ms) ≡ pairs_levels ms)
unfolding pad_pairs
pad_pairs-is s (last_pair before key behind t) h k = ((both_space s before h k.0, k.1, k.2, k.3), simp append_assoc, (λ found. refl), refl)
pad_pairs-is s (more_pairs before key behind t ms) h k = ((both_space s before h k.0, k.1, k.2, k.3, k.4), simp append_assoc, (λ found. refl), refl)

padded_members : (n : ℕ) (s front : List ℕ) (all : Members) → AreSpace s → AreMembersOf n [] front all → IsObjectOf n (s ++ front) all
padded_members n s front all space h =
    let p = pad_pairs-is s h.0 space h.1 in
    (members (pad_pairs s h.0), p.0, omega (arith, p.3, h.2), ap (λ ys. 123 ∷ (s ++ ys)) h.3 ∙ ap (λ ys. 123 ∷ ys) (padded_bytes s (pairs_bytes h.0) (pairs_bytes (pad_pairs s h.0)) 125 p.1), ap (λ (ms : Members). v.Object ms) (p.2 [] ∙ h.4))

no_members_of : (n : ℕ) (s : List ℕ) → AreSpace s → IsObjectOf n (s ++ 125 ∷ []) []
no_members_of n s space = (no_members s, space, omega arith, refl, refl)

object_reads : (n : ℕ) (node : Reads Value) → NodeReads n node → (bytes : List ℕ) → ReadAs (IsObjectOf n) bytes (r.group_at 125 (r.member_at node) [] bytes)
object_reads n node below bytes = group_reads 125 (r.member_at node) (IsMemberOf n) (AreMembersOf n) (one_member n) (another_member n) (λ found bytes. member_of n found bytes (r.entry_at node bytes) (entry_reads n node below bytes)) (IsObjectOf n) [] (no_members_of n) (padded_members n) bytes

object_node : (n b : ℕ) (bs : List ℕ) (read : Result (Members × List ℕ) Fault) → (b == 123) ≡ true → ReadAs (IsObjectOf n) bs read → ReadAs (IsNodeOf (suc n)) (b ∷ bs) (read >>= λ x. Ok (v.Object x.0, x.1))
object_node n b bs (Ok x) e h = (123 ∷ h.0, h.1, ap (λ y. y ∷ bs) (eqb-true b 123 e) ∙ ap (λ ys. 123 ∷ ys) h.2)
object_node n b bs (Err f) e h = tt

-- ---- values

pub node_reads : (n : ℕ) → NodeReads n (r.node_at n)
unfolding r.node_at
node_reads zero [] = tt
node_reads zero (b ∷ bs) = bool_cases (b == 34) (λ x. rw x (text_of zero b bs (r.string_at bs) x (string_reads bs)))
    (λ x. bool_cases (b == 91) (λ y. rw (x, y) tt)
    (λ y. bool_cases (b == 123) (λ z. rw (x, y, z) tt)
    (λ z. rw (x, y, z) (scalar_reads zero (b ∷ bs)))))
node_reads (suc n) [] = tt
node_reads (suc n) (b ∷ bs) = bool_cases (b == 34) (λ x. rw x (text_of (suc n) b bs (r.string_at bs) x (string_reads bs)))
    (λ x. bool_cases (b == 91) (λ y. rw (x, y) (list_node n b bs (r.group_at 93 (r.item_at (r.node_at n)) [] bs) y (list_reads n (r.node_at n) (node_reads n) bs)))
    (λ y. bool_cases (b == 123) (λ z. rw (x, y, z) (object_node n b bs (r.group_at 125 (r.member_at (r.node_at n)) [] bs) z (object_reads n (r.node_at n) (node_reads n) bs)))
    (λ z. rw (x, y, z) (scalar_reads (suc n) (b ∷ bs)))))

-- ---- the whole text

abbrev pub IsReadWithin : ℕ → List ℕ → Result Value Fault → Type 0
IsReadWithin n bytes (Ok d) = IsTextOf n bytes d
IsReadWithin n bytes (Err f) = Unit {0}

last_read : (n : ℕ) (bytes front : List ℕ) (d : Value) (rest : List ℕ) → IsTextOf n front d → bytes ≡ front ++ rest → IsReadWithin n bytes (r.if_last d rest)
last_read n bytes front d [] text h = (text.0, text.1, text.2, h ∙ append-nil front ∙ text.3, text.4)
last_read n bytes front d (b ∷ bs) text h = tt

all_read : (n : ℕ) (bytes : List ℕ) (read : Result (Value × List ℕ) Fault) → ReadAs (IsTextOf n) bytes read → IsReadWithin n bytes (read >>= λ x. r.if_last x.0 x.1)
all_read n bytes (Ok x) h = last_read n bytes h.0 x.0 x.1 h.1 h.2
all_read n bytes (Err f) h = tt

-- what is read is in the grammar
pub read_sound : (n : ℕ) (bytes : List ℕ) → IsReadWithin n bytes (r.read n bytes)
unfolding r.read
read_sound n bytes = all_read n bytes (r.spaced_at (r.node_at n) bytes) (spaced_reads n (r.node_at n) (node_reads n) bytes)
