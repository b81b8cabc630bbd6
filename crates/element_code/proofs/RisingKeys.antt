-- As many members as a count can say, whose keys rise above a key.
use Rattle.std.proofs.Common.{◌≡◌, ℕ, zero, suc, ◌+◌, ◌/◌, ◌%◌, ◌<◌, ◌≤◌, ◌^◌, ◌⊎◌, inl, inr, List, [], ◌∷◌, ◌++◌, length, Option, Some, None, refl, sym, ap, ◌∙◌, length-append, arith}
use Rattle.std.proofs.lemmas.Str.{IsUtf8-append, IsUtf8-from_ascii}
use Rattle.std.proofs.lemmas.Bool.{cases_order}
use Rattle.std.specs.Str.{IsUtf8, IsAscii}
use Rattle.std.specs.Ordering.{nat_cmp}
use Rattle.std.specs.Cmp.{nat_cmp_is}
use Rattle.std.specs.declared.cmp.Ordering.TheVariants.{Less, Equal}
use Rattle.plain_data.specs.Keys.{text_cmp}
use Rattle.event_tree.specs.Values.{Members}
use Rattle.event_tree.specs.declared.value.Value.TheVariants as v
use Rattle.crc_frame.proofs.Cuts.{zeros, length-zeros}
use Rattle.element_code.specs.Values.{IsText, IsAbove, IsValue, AreMembers}
use Rattle.element_code.proofs.PartsOf.{null_value}

same_order : (x : ℕ) → Equal ≡ nat_cmp x x
same_order x = nat_cmp_is x x Equal refl

less_order : (x y : ℕ) → x < y → Less ≡ nat_cmp x y
less_order x y h = nat_cmp_is x y Less h

text_cmp-same : (x : ℕ) (xs ys : List ℕ) → text_cmp (x ∷ xs) (x ∷ ys) ≡ text_cmp xs ys
text_cmp-same x xs ys = rw (sym (same_order x)) refl

text_cmp-less : (x y : ℕ) (xs ys : List ℕ) → x < y → text_cmp (x ∷ xs) (y ∷ ys) ≡ Less
text_cmp-less x y xs ys h = rw (sym (less_order x y h)) refl

text_cmp-front : (b xs ys : List ℕ) → text_cmp (b ++ xs) (b ++ ys) ≡ text_cmp xs ys
text_cmp-front [] xs ys = refl
text_cmp-front (x ∷ b) xs ys = text_cmp-same x (b ++ xs) (b ++ ys) ∙ text_cmp-front b xs ys

longer : (b : List ℕ) (x : ℕ) (xs : List ℕ) → text_cmp b (b ++ x ∷ xs) ≡ Less
longer [] x xs = refl
longer (y ∷ b) x xs = text_cmp-same y b (b ++ x ∷ xs) ∙ longer b x xs

zeros-ascii : (n : ℕ) → IsAscii (zeros n)
zeros-ascii zero i = omega arith
zeros-ascii (suc n) zero = omega arith
zeros-ascii (suc n) (suc i) = zeros-ascii n i

zeros-rise : (n : ℕ) → text_cmp (zeros n) (zeros (suc n)) ≡ Less
zeros-rise zero = refl
zeros-rise (suc n) = text_cmp-same 0 (zeros n) (zeros (suc n)) ∙ zeros-rise n

-- a byte, and so many zeros behind it
abbrev tail : ℕ → List ℕ
tail i = i / 2147483648 ∷ zeros (i % 2147483648)

last_or : (i : ℕ) → (i / 2147483648 < suc i / 2147483648) ⊎ ((suc i / 2147483648 ≡ i / 2147483648) × (suc i % 2147483648 ≡ suc (i % 2147483648)))
last_or i = elim (cases_order (suc (i % 2147483648)) 2147483648) [
  | inl w ↦ inl (omega (arith, w))
  | inr (inl w) ↦ inr (omega (arith, w), omega (arith, w))
  | inr (inr w) ↦ absurd (omega (arith, w))
]

tail-rises : (i : ℕ) → text_cmp (tail i) (tail (suc i)) ≡ Less
tail-rises i = elim (last_or i) [
  | inl w ↦ text_cmp-less (i / 2147483648) (suc i / 2147483648) (zeros (i % 2147483648)) (zeros (suc i % 2147483648)) w
  | inr w ↦ ap (λ b. text_cmp (tail i) (b ∷ zeros (suc i % 2147483648))) w.0 ∙ ap (λ n. text_cmp (tail i) (i / 2147483648 ∷ zeros n)) w.1 ∙ text_cmp-same (i / 2147483648) (zeros (i % 2147483648)) (zeros (suc (i % 2147483648))) ∙ zeros-rise (i % 2147483648)
]

tail-ascii : (i : ℕ) → i < 2 ^ 32 → IsAscii (tail i)
tail-ascii i h zero = omega (arith, h)
tail-ascii i h (suc j) = zeros-ascii (i % 2147483648) j

abbrev pub next_key : List ℕ → ℕ → List ℕ
next_key base i = base ++ tail i

pub next_key-text : (base : List ℕ) (i : ℕ) → IsUtf8 base → length base ≤ 16777216 → i < 2 ^ 32 → IsText (next_key base i)
next_key-text base i u short low = record {
  utf8 = IsUtf8-append base (tail i) u (IsUtf8-from_ascii (tail i) (tail-ascii i low));
  short = omega (arith, length-append base (tail i), length-zeros (i % 2147483648), short);
}

abbrev pub next_members : List ℕ → ℕ → ℕ → Members
next_members base i zero = []
next_members base i (suc n) = (next_key base i, v.Null) ∷ next_members base (suc i) n

pub length-next_members : (base : List ℕ) (i n : ℕ) → length (next_members base i n) ≡ n
length-next_members base i zero = refl
length-next_members base i (suc n) = ap suc (length-next_members base (suc i) n)

pub are_next : (levels : ℕ) (base : List ℕ) (last : Option (List ℕ)) (i n : ℕ) → IsUtf8 base → length base ≤ 16777216 → i + n ≤ 2 ^ 32 → IsAbove last (next_key base i) → AreMembers (IsValue levels) last (next_members base i n)
are_next levels base last i zero u short low above = tt
are_next levels base last i (suc n) u short low above = (next_key-text base i u short (omega (arith, low)), above, null_value levels, are_next levels base (Some (next_key base i)) (suc i) n u short (omega (arith, low)) (text_cmp-front base (tail i) (tail (suc i)) ∙ tail-rises i))

-- what keys rise from: a key, if there is one
abbrev pub base_of : Option (List ℕ) → List ℕ
base_of None = []
base_of (Some k) = k

pub above_base : (last : Option (List ℕ)) (i : ℕ) → IsAbove last (next_key (base_of last) i)
above_base None i = tt
above_base (Some k) i = longer k (i / 2147483648) (zeros (i % 2147483648))
