-- The lists of parts that values, items and members have, none of which begins another, and what completes them.
use Rattle.std.proofs.Common.{◌≡◌, ℕ, zero, suc, List, [], ◌∷◌, ◌++◌, length, map, Option, Result, Ok, refl, sym, ap, ◌∙◌, append_assoc}
use Rattle.event_tree.specs.Values.{Members, on_values}
use Rattle.event_tree.specs.declared.value.Value.{Value}
use Rattle.event_tree.specs.declared.value.Value.TheVariants as v
use Rattle.crc_frame.specs.Fronts.{count_bytes, repeated}
use Rattle.crc_frame.proofs.Fronts.{ok_is}
use Rattle.element_code.specs.Parts.{Part, count, bytes_of, items_parts, members_parts, parts}
use Rattle.element_code.specs.Values.{IsValue, AreValues, AreMembers, AreMembersOf}
use Rattle.element_code.specs.Reading.{value_at, members_at, object_at}
use Rattle.element_code.proofs.PartsOf.{bytes_of-append, null_value}
use Rattle.element_code.proofs.Again.{value_again, items_again, members_again, object_again}

abbrev pub ValueParts : ℕ → List Part → Type 0
ValueParts levels ps = (d : Value) × IsValue levels d × (ps ≡ parts d)

abbrev pub ItemsParts : ℕ → ℕ → List Part → Type 0
ItemsParts levels n ps = (vs : List Value) × (length vs ≡ n) × AreValues (IsValue levels) vs × (ps ≡ items_parts (map parts vs))

abbrev pub MembersParts : ℕ → Option (List ℕ) → ℕ → List Part → Type 0
MembersParts levels last n ps = (ms : Members) × (length ms ≡ n) × AreMembers (IsValue levels) last ms × (ps ≡ members_parts (on_values parts ms))

abbrev pub ObjectParts : ℕ → List Part → Type 0
ObjectParts levels ps = (ms : Members) × AreMembersOf (IsValue levels) ms × (ps ≡ count (length ms) ∷ members_parts (on_values parts ms))

-- what is read back in one way has no spelling that begins another
same_read : {X : Type 0} (view : X → List Part) (read : List ℕ → Result (X × List ℕ) ℕ) (x y : X) (p q : List Part) → read (bytes_of (view x) ++ bytes_of p) ≡ Ok (x, bytes_of p) → read (bytes_of (view y) ++ bytes_of q) ≡ Ok (y, bytes_of q)
    → view x ++ p ≡ view y ++ q → x ≡ y
same_read view read x y p q rx ry e =
    let b : bytes_of (view x) ++ bytes_of p ≡ bytes_of (view y) ++ bytes_of q = sym (bytes_of-append (view x) p) ∙ ap bytes_of e ∙ bytes_of-append (view y) q in
    ap (λ z. z.0) (ok_is (x, bytes_of p) (y, bytes_of q) (sym rx ∙ ap read b ∙ ry))

pub value_free : (levels : ℕ) (a b x y : List Part) → ValueParts levels a → ValueParts levels b → a ++ x ≡ b ++ y → a ≡ b
value_free levels a b x y p q e =
    let h : parts p.0 ++ x ≡ parts q.0 ++ y = ap (λ l. l ++ x) (sym p.2) ∙ e ∙ ap (λ l. l ++ y) q.2 in
    p.2 ∙ ap parts (same_read parts (value_at levels) p.0 q.0 x y (value_again levels p.0 (bytes_of x) p.1) (value_again levels q.0 (bytes_of y) q.1) h) ∙ sym q.2

pub items_free : (levels n : ℕ) (a b x y : List Part) → ItemsParts levels n a → ItemsParts levels n b → a ++ x ≡ b ++ y → a ≡ b
items_free levels n a b x y p q e =
    let view : List Value → List Part = λ vs. items_parts (map parts vs) in
    let h : view p.0 ++ x ≡ view q.0 ++ y = ap (λ l. l ++ x) (sym p.3) ∙ e ∙ ap (λ l. l ++ y) q.3 in
    let again = items_again (value_at levels) (IsValue levels) (λ d rest. value_again levels d rest) in
    let rp = ap (λ k. repeated (value_at levels) k (bytes_of (view p.0) ++ bytes_of x)) (sym p.1) ∙ again p.0 (bytes_of x) p.2 in
    let rq = ap (λ k. repeated (value_at levels) k (bytes_of (view q.0) ++ bytes_of y)) (sym q.1) ∙ again q.0 (bytes_of y) q.2 in
    p.3 ∙ ap view (same_read view (repeated (value_at levels) n) p.0 q.0 x y rp rq h) ∙ sym q.3

pub members_free : (levels : ℕ) (last : Option (List ℕ)) (n : ℕ) (a b x y : List Part) → MembersParts levels last n a → MembersParts levels last n b → a ++ x ≡ b ++ y → a ≡ b
members_free levels last n a b x y p q e =
    let view : Members → List Part = λ ms. members_parts (on_values parts ms) in
    let h : view p.0 ++ x ≡ view q.0 ++ y = ap (λ l. l ++ x) (sym p.3) ∙ e ∙ ap (λ l. l ++ y) q.3 in
    let again = members_again (value_at levels) (IsValue levels) (λ d rest. value_again levels d rest) in
    let rp = ap (λ k. members_at (value_at levels) last k (bytes_of (view p.0) ++ bytes_of x)) (sym p.1) ∙ again last p.0 (bytes_of x) p.2 in
    let rq = ap (λ k. members_at (value_at levels) last k (bytes_of (view q.0) ++ bytes_of y)) (sym q.1) ∙ again last q.0 (bytes_of y) q.2 in
    p.3 ∙ ap view (same_read view (members_at (value_at levels) last n) p.0 q.0 x y rp rq h) ∙ sym q.3

-- ---- so many nulls

abbrev pub nulls : ℕ → List Value
nulls zero = []
nulls (suc n) = v.Null ∷ nulls n

pub length-nulls : (n : ℕ) → length (nulls n) ≡ n
length-nulls zero = refl
length-nulls (suc n) = ap suc (length-nulls n)

pub are_nulls : (levels n : ℕ) → AreValues (IsValue levels) (nulls n)
are_nulls levels zero = tt
are_nulls levels (suc n) = (null_value levels, are_nulls levels n)

pub object_free : (levels : ℕ) (a b x y : List Part) → ObjectParts levels a → ObjectParts levels b → a ++ x ≡ b ++ y → a ≡ b
object_free levels a b x y p q e =
    let view : Members → List Part = λ ms. count (length ms) ∷ members_parts (on_values parts ms) in
    let h : view p.0 ++ x ≡ view q.0 ++ y = ap (λ l. l ++ x) (sym p.2) ∙ e ∙ ap (λ l. l ++ y) q.2 in
    let again = object_again (value_at levels) (IsValue levels) (λ d rest. value_again levels d rest) in
    let rp = ap (object_at (value_at levels)) (append_assoc (count_bytes (length p.0)) (bytes_of (members_parts (on_values parts p.0))) (bytes_of x)) ∙ again p.0 (bytes_of x) p.1 in
    let rq = ap (object_at (value_at levels)) (append_assoc (count_bytes (length q.0)) (bytes_of (members_parts (on_values parts q.0))) (bytes_of y)) ∙ again q.0 (bytes_of y) q.1 in
    p.2 ∙ ap view (same_read view (object_at (value_at levels)) p.0 q.0 x y rp rq h) ∙ sym q.2
