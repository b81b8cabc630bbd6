-- Runs of a format, read from the front.
use Rattle.std.proofs.Common.{◌≡◌, ◌≢◌, ◌==◌, ℕ, zero, suc, ◌+◌, ◌-◌, ◌<◌, ◌≤◌, inl, inr, List, [], ◌∷◌, ◌++◌, length, take, drop, get_or, Bool, true, false, if◌then◌else◌, refl, sym, ap, subst, ◌∙◌, arith, length-drop, get_or-drop, append_assoc, Option, Some, None, option_map}
use Rattle.std.specs.Option.{option_and_then}
use Rattle.std.proofs.lemmas.List.{drop-drop}
use Rattle.std.proofs.lemmas.Bool.{cases_order}
use Rattle.std.proofs.lemmas.Bool.Decides.{nat_tests}
use Rattle.std.specs.Str.{IsUtf8, IsCharBoundary}
use Rattle.std.proofs.lemmas.Str.{IsCharBoundary-before_ascii, IsCharBoundary-after_ascii, IsCharBoundary-end}
use Rattle.event_text.specs.DateFormats.{kind, joins, runs, part_of, parts_of, format_of, IsCut}
use Rattle.event_text.specs.declared.date_format.DatePart.{DatePart}

joins_first : (b : ℕ) (rs : List (List ℕ)) → (r : List ℕ) × (qs : List (List ℕ)) × (joins b rs ≡ (b ∷ r) ∷ qs)
joins_first b [] = ([], [], refl)
joins_first b ([] ∷ rs) = ([], rs, refl)
joins_first b ((c ∷ r) ∷ rs) = chosen (kind b == kind c) where
  chosen : (t : Bool) → (q : List ℕ) × (qs : List (List ℕ)) × ((if t then (b ∷ c ∷ r) ∷ rs else (b ∷ []) ∷ (c ∷ r) ∷ rs) ≡ (b ∷ q) ∷ qs)
  chosen true = (c ∷ r, rs, refl)
  chosen false = ([], (c ∷ r) ∷ rs, refl)

same_kind : (a b : ℕ) → kind a ≡ kind b → (kind a == kind b) ≡ true
same_kind a b h = grind (arith, nat_tests)

other_kind : (a b : ℕ) → (kind a ≡ kind b → ⊥) → (kind a == kind b) ≡ false
other_kind a b h = grind (arith, nat_tests)

one_run : (x : ℕ) (rest : List ℕ) → (0 < length rest → kind (get_or rest 0 0) ≢ kind x) → runs (x ∷ rest) ≡ (x ∷ []) ∷ runs rest
one_run x [] h = refl
one_run x (y ∷ ys) h =
    let first = joins_first y (runs ys) in
    let t : (kind x == kind y) ≡ false = other_kind x y (λ e. h (omega arith) (sym e)) in
    ap (joins x) first.2 ∙ ap (λ b. if b then (x ∷ y ∷ first.0) ∷ first.1 else (x ∷ []) ∷ (y ∷ first.0) ∷ first.1) t ∙ ap (λ l. (x ∷ []) ∷ l) (sym first.2)

pub runs_split : (m : ℕ) (xs : List ℕ) → suc m ≤ length xs → ((k : ℕ) → k < suc m → kind (get_or xs k 0) ≡ kind (get_or xs 0 0)) → (suc m < length xs → kind (get_or xs (suc m) 0) ≢ kind (get_or xs 0 0)) → runs xs ≡ take (suc m) xs ∷ runs (drop (suc m) xs)
runs_split m [] long same other = absurd (omega arith)
runs_split zero (x ∷ xs) long same other = one_run x xs (λ l. other (omega arith))
runs_split (suc m) (x ∷ []) long same other = absurd (omega arith)
runs_split (suc m) (x ∷ y ∷ ys) long same other =
    let next : kind y ≡ kind x = same 1 (omega arith) in
    let rest = runs_split m (y ∷ ys) (omega arith) (λ k h. same (suc k) (omega arith) ∙ sym next) (λ h e. other (omega arith) (e ∙ next)) in
    let t : (kind x == kind y) ≡ true = same_kind x y (sym next) in
    ap (joins x) rest ∙ ap (λ b. if b then (x ∷ y ∷ take m ys) ∷ runs (drop m ys) else (x ∷ []) ∷ (y ∷ take m ys) ∷ runs (drop m ys)) t

pub run_ends : (bytes : List ℕ) (from end : ℕ) → from < end → end ≤ length bytes → ((k : ℕ) → from ≤ k → k < end → kind (get_or bytes k 0) ≡ kind (get_or bytes from 0)) → (end < length bytes → kind (get_or bytes end 0) ≢ kind (get_or bytes from 0))
    → runs (drop from bytes) ≡ take (end - from) (drop from bytes) ∷ runs (drop end bytes)
run_ends bytes from end after within same other =
    let m = end - (from + 1) in
    let n : suc m ≡ end - from = omega arith in
    let e : from + suc m ≡ end = omega arith in
    let at : (k : ℕ) → get_or (drop from bytes) k 0 ≡ get_or bytes (from + k) 0 = λ k. get_or-drop from bytes k 0 in
    let zeroth : get_or (drop from bytes) 0 0 ≡ get_or bytes from 0 = at 0 ∙ ap (λ i. get_or bytes i 0) (omega arith) in
    let split = runs_split m (drop from bytes) (omega (arith, length-drop from bytes))
    (λ k h. ap kind (at k) ∙ same (from + k) (omega arith) (omega arith) ∙ ap kind (sym zeroth))
    (λ h s. other (omega (arith, length-drop from bytes, h)) (ap (λ i. kind (get_or bytes i 0)) (sym e) ∙ ap kind (sym (at (suc m))) ∙ s ∙ ap kind zeroth)) in
    split ∙ ap (λ l. take (suc m) (drop from bytes) ∷ runs l) (drop-drop (suc m) from bytes ∙ ap (λ i. drop i bytes) e) ∙ ap (λ i. take i (drop from bytes) ∷ runs (drop end bytes)) n

pub cut_boundary : (bs : List ℕ) (k : ℕ) → IsUtf8 bs → k ≤ length bs → IsCut bs k → IsCharBoundary bs k
cut_boundary bs k u within cut = elim (cases_order k (length bs)) [
  | inl same ↦ subst (λ i. IsCharBoundary bs i) (sym same) (IsCharBoundary-end bs)
  | inr (inl less) ↦ elim (cut less) [
    | inl at ↦ IsCharBoundary-before_ascii bs k less at
    | inr before ↦ let e : k - 1 + 1 ≡ k = omega (arith, before.0) in subst (λ i. IsCharBoundary bs i) e (IsCharBoundary-after_ascii bs (k - 1) u (omega arith) before.1)
  ]
  | inr (inr more) ↦ absurd (omega arith)
]

nothing_before : (o : Option (List DatePart)) → option_map (λ ps. [] ++ ps) o ≡ o
nothing_before None = refl
nothing_before (Some ps) = refl

pub format_begin : (bs : List ℕ) → 0 < length bs → format_of bs ≡ option_map (λ ps. [] ++ ps) (parts_of (runs bs))
format_begin [] h = absurd (omega arith)
format_begin (b ∷ bs) h = sym (nothing_before (parts_of (runs (b ∷ bs))))

one_more : (ps : List DatePart) (p : DatePart) (o : Option (List DatePart)) → option_map (λ qs. ps ++ qs) (option_map (λ qs. p ∷ qs) o) ≡ option_map (λ qs. (ps ++ p ∷ []) ++ qs) o
one_more ps p None = refl
one_more ps p (Some qs) = ap Some (sym (append_assoc ps (p ∷ []) qs))

pub format_step : (whole : Option (List DatePart)) (ps : List DatePart) (p : DatePart) (rs : List (List ℕ)) (run : List ℕ) (rest : List (List ℕ)) → whole ≡ option_map (λ qs. ps ++ qs) (parts_of rs) → rs ≡ run ∷ rest → part_of run ≡ Some p
    → whole ≡ option_map (λ qs. (ps ++ p ∷ []) ++ qs) (parts_of rest)
format_step whole ps p rs run rest h e is =
    h ∙ ap (λ l. option_map (λ qs. ps ++ qs) (parts_of l)) e
    ∙ ap (λ o. option_map (λ qs. ps ++ qs) (option_and_then (λ part. option_map (λ parts. part ∷ parts) (parts_of rest)) o)) is
    ∙ one_more ps p (parts_of rest)

letter_ascii : (b : ℕ) → (kind b ≡ 0 → ⊥) → b < 128
letter_ascii b h = grind (arith, nat_tests)

-- where the kind changes, one of the two bytes is a letter
pub kind_cut : (bs : List ℕ) (from at : ℕ) → from < at → ((k : ℕ) → from ≤ k → k < at → kind (get_or bs k 0) ≡ kind (get_or bs from 0)) → (kind (get_or bs at 0) ≡ kind (get_or bs from 0) → ⊥) → IsCut bs at
kind_cut bs from at after same other h = elim (cases_order (kind (get_or bs at 0)) 0) [
  | inl zero_kind ↦ inr (omega arith, letter_ascii (get_or bs (at - 1) 0) (λ z. other (zero_kind ∙ sym z ∙ same (at - 1) (omega arith) (omega arith))))
  | inr (inl less) ↦ absurd (omega arith)
  | inr (inr more) ↦ inl (letter_ascii (get_or bs at 0) (λ z. omega arith))
]

pub same_next : (bs : List ℕ) (from at : ℕ) → ((k : ℕ) → from ≤ k → k < at → kind (get_or bs k 0) ≡ kind (get_or bs from 0)) → kind (get_or bs at 0) ≡ kind (get_or bs from 0) → (k : ℕ) → from ≤ k → k < at + 1 → kind (get_or bs k 0) ≡ kind (get_or bs from 0)
same_next bs from at same next k low high = elim (cases_order k at) [
  | inl e ↦ ap (λ i. kind (get_or bs i 0)) e ∙ next
  | inr (inl less) ↦ same k low less
  | inr (inr more) ↦ absurd (omega arith)
]
