-- A string as it is written is a string of the grammar, in UTF-8, with its text.
use Rattle.std.proofs.Common.{◌≡◌, ℕ, ◌+◌, ◌-◌, ◌*◌, ◌/◌, ◌%◌, ◌<◌, ◌≤◌, Bool, true, false, ◌&&◌, ◌==◌, nat_le, nat_lt, List, [], ◌∷◌, ◌++◌, flat_map, IsUtf8, inl, inr, refl, sym, ap, ap₂, ◌∙◌, subst, arith, ltb-true, Some, None, if◌then◌else◌, eqb-true}
use Rattle.std.proofs.lemmas.Bool.{and_parts, cases_lt}
use Rattle.std.proofs.lemmas.Bool.Decides.{nat_tests}
use Rattle.std.proofs.lemmas.Str.{IsUtf8-append, IsUtf8-nil, IsUtf8-encode, encode_ascii}
use lib.Utf8.{low_scalar}
use Rattle.event_json.specs.Strings.{Piece, plain, short, unit, short_of, hex_of, hex_or_0, alone, held, is_high, is_low, unit_of, IsPiece, ArePieces, piece_bytes, pieces_bytes, pieces_behind, pieces_text}
use Rattle.event_json.specs.Json.{hex_digit, escaped}

-- ---- in UTF-8

ascii_then : (x : ℕ) (xs : List ℕ) → x < 128 → IsUtf8 xs → IsUtf8 (x ∷ xs)
ascii_then x xs small u = IsUtf8-append (x ∷ []) xs (subst IsUtf8 (encode_ascii x small) (IsUtf8-encode x (low_scalar x (omega arith)))) u

abbrev are_ascii : List ℕ → Bool
are_ascii [] = true
are_ascii (x ∷ xs) = nat_lt x 128 && are_ascii xs

pub IsUtf8-are_ascii : (xs : List ℕ) → are_ascii xs ≡ true → IsUtf8 xs
IsUtf8-are_ascii [] e = IsUtf8-nil
IsUtf8-are_ascii (x ∷ xs) e = let p = and_parts _ _ e in ascii_then x xs (ltb-true _ _ p.0) (IsUtf8-are_ascii xs p.1)

-- ---- the pieces

abbrev pub piece_of : ℕ → Piece
piece_of b = if b == 34 then short 34 else (if b == 92 then short 92 else (if b == 8 then short 98 else (if b == 9 then short 116 else (if b == 10 then short 110 else (if b == 12 then short 102 else (if b == 13 then short 114 else (if nat_lt b 32 then unit 48 48 (hex_digit (b / 16)) (hex_digit (b % 16)) else plain b)))))))

-- the piece is written so, and says the byte
abbrev Says : ℕ → Piece → List ℕ → Type 0
Says b p bytes = IsPiece p × (piece_bytes p ≡ bytes) × ((ps : List Piece) → pieces_behind None (p ∷ ps) ≡ b ∷ pieces_behind None ps)

says_if : (b : ℕ) (t : Bool) (p q : Piece) (x y : List ℕ) → (t ≡ true → Says b p x) → (t ≡ false → Says b q y) → Says b (if t then p else q) (if t then x else y)
says_if b true p q x y f g = f refl
says_if b false p q x y f g = g refl

short_says : (b c n : ℕ) → (b == n) ≡ true → short_of c ≡ Some n → Says b (short c) (92 ∷ c ∷ [])
short_says b c n t e = ((n, e), refl, λ ps. ap (λ o. hex_or_0 o ∷ pieces_behind None ps) e ∙ ap (λ x. x ∷ pieces_behind None ps) (sym (eqb-true b n t)))

hex_back : (n : ℕ) → n < 16 → hex_of (hex_digit n) ≡ Some n
hex_back n lt = elim (cases_lt n 10) [ inl small ↦ low n small | inr big ↦ high n big lt ]
  where
    low : (n : ℕ) → n < 10 → hex_of (hex_digit n) ≡ Some n
    low n h =
        let t : nat_lt n 10 ≡ true = grind (arith, nat_tests) in
        let a : (nat_le 48 (48 + n) && nat_le (48 + n) 57) ≡ true = grind (arith, nat_tests) in
        let z : 48 + n - 48 ≡ n = omega arith in
        rw t (rw a (ap (λ (x : ℕ). Some x) z))

    high : (n : ℕ) → 10 ≤ n → n < 16 → hex_of (hex_digit n) ≡ Some n
    high n h lt =
        let t : nat_lt n 10 ≡ false = grind (arith, nat_tests) in
        let a : (nat_le 48 (87 + n) && nat_le (87 + n) 57) ≡ false = grind (arith, nat_tests) in
        let b : (nat_le 97 (87 + n) && nat_le (87 + n) 102) ≡ true = grind (arith, nat_tests) in
        let z : 87 + n - 87 ≡ n = omega arith in
        rw t (rw (a, b) (ap (λ (x : ℕ). Some x) z))

unit_is : (h l x y b : ℕ) → hex_of h ≡ Some x → hex_of l ≡ Some y → 16 * x + y ≡ b → unit_of 48 48 h l ≡ b
unit_is h l x y b e f g = omega (arith, ap hex_or_0 e, ap hex_or_0 f, g)

small_unit : (b : ℕ) → b < 128 → (alone b ≡ b ∷ []) × (held b ≡ None)
small_unit b lt =
    let h : is_high b ≡ false = grind (arith, nat_tests) in
    let l : is_low b ≡ false = grind (arith, nat_tests) in
    (rw (h, l) (encode_ascii b lt), rw h refl)

unit_says : (b h l : ℕ) → b < 32 → hex_of h ≡ Some (b / 16) → hex_of l ≡ Some (b % 16) → Says b (unit 48 48 h l) (92 ∷ 117 ∷ 48 ∷ 48 ∷ h ∷ l ∷ [])
unit_says b h l lt e f =
    let g : 16 * (b / 16) + b % 16 ≡ b = omega arith in
    let u : unit_of 48 48 h l ≡ b = unit_is h l (b / 16) (b % 16) b e f g in
    let s = small_unit b (omega arith) in
    (((0, refl), (0, refl), (b / 16, e), (b % 16, f)), refl, λ ps. ap (λ x. alone x ++ pieces_behind (held x) ps) u ∙ ap (λ w. alone b ++ pieces_behind w ps) s.1 ∙ ap (λ (xs : List ℕ). xs ++ pieces_behind None ps) s.0)

control_says : (b : ℕ) → nat_lt b 32 ≡ true → Says b (unit 48 48 (hex_digit (b / 16)) (hex_digit (b % 16))) (92 ∷ 117 ∷ 48 ∷ 48 ∷ hex_digit (b / 16) ∷ hex_digit (b % 16) ∷ [])
control_says b t = let lt : b < 32 = grind (arith, nat_tests) in unit_says b (hex_digit (b / 16)) (hex_digit (b % 16)) lt (hex_back (b / 16) (omega arith)) (hex_back (b % 16) (omega arith))

plain_says : (b : ℕ) → (b == 34) ≡ false → (b == 92) ≡ false → nat_lt b 32 ≡ false → Says b (plain b) (b ∷ [])
plain_says b x y z = (rw (z, x, y) refl, refl, λ ps. refl)

piece_says : (b : ℕ) → Says b (piece_of b) (escaped b)
piece_says b = says_if b (b == 34) _ _ _ _ (λ t. short_says b 34 34 t refl) (λ t34. says_if b (b == 92) _ _ _ _ (λ t. short_says b 92 92 t refl) (λ t92. says_if b (b == 8) _ _ _ _ (λ t. short_says b 98 8 t refl) (λ x. says_if b (b == 9) _ _ _ _ (λ t. short_says b 116 9 t refl) (λ x. says_if b (b == 10) _ _ _ _ (λ t. short_says b 110 10 t refl)
    (λ x. says_if b (b == 12) _ _ _ _ (λ t. short_says b 102 12 t refl) (λ x. says_if b (b == 13) _ _ _ _ (λ t. short_says b 114 13 t refl) (λ x. says_if b (nat_lt b 32) _ _ _ _ (λ t. control_says b t) (λ z. plain_says b t34 t92 z))))))))

pub pieces_of : List ℕ → List Piece
pieces_of [] = []
pieces_of (b ∷ bs) = piece_of b ∷ pieces_of bs

pub pieces_say : (s : List ℕ) → ArePieces (pieces_of s) × (pieces_bytes (pieces_of s) ≡ flat_map escaped s) × (pieces_text (pieces_of s) ≡ s)
unfolding pieces_of
pieces_say [] = (tt, refl, refl)
pieces_say (b ∷ bs) =
    let p = piece_says b in
    let ih = pieces_say bs in
    ((p.0, ih.0), ap₂ (λ (x y : List ℕ). x ++ y) p.1 ih.1, p.2 (pieces_of bs) ∙ ap (λ (ys : List ℕ). b ∷ ys) ih.2)
