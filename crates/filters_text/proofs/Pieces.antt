-- One piece of a text, and what is left behind it: shorter than the text.
use Rattle.std.proofs.Common.{◌≡◌, ℕ, zero, suc, ◌≤◌, ◌<◌, ◌==◌, if◌then◌else◌, Bool, true, false, List, [], ◌∷◌, ◌++◌, length, Option, Some, None, option_map, refl, sym, ap, subst, ◌∙◌, arith, append_assoc, append-nil}
use Rattle.std.specs.Prelude.{chars, encode_utf8_all}
use Rattle.std.specs.Str.{IsUtf8}
use Rattle.std.specs.Char.{char_set_contains}
use Rattle.std.specs.Option.{option_and_then}
use Rattle.std.proofs.lemmas.Str.{encodes-chars}
use Rattle.filters_text.specs.declared.kv_text.Splits.{Splits}
use Rattle.filters_text.specs.Pairs.{until, since, behind, behind_one, closing, cut_at, enclosed, Found, value_at, Piece, with_key, keyed, piece_at, listed, next_pairs}

pub no_chars : (s : List ℕ) → IsUtf8 s → chars s ≡ [] → length s ≡ 0
no_chars s u none = ap length (sym (encodes-chars s u)) ∙ ap (λ cs. length (encode_utf8_all cs)) none

abbrev dropped : List ℕ → Piece
dropped l = (None, l)

module _ (s : Splits) (cs key rest : List ℕ) (key_is : key ≡ until s.keys cs) (rest_is : rest ≡ since s.keys cs) where
  pub no_key : (next : List ℕ) → key ≡ [] → next ≡ since s.fields rest → dropped next ≡ piece_at s cs
  no_key next none next_is = ap dropped (next_is ∙ ap (since s.fields) rest_is) ∙ ap (λ k. keyed s k (since s.keys cs)) (sym none ∙ key_is)

  keyed_some : (v : List ℕ) (k : List ℕ) → (k ≡ [] → ⊥) → behind_one s.values rest ≡ Some v → keyed s k rest ≡ with_key k (value_at s v)
  keyed_some v [] some is = absurd (some refl)
  keyed_some v (k ∷ ks) some is = rw is refl

  pub with_value : (v : List ℕ) (found : Found) → (key ≡ [] → ⊥) → behind_one s.values rest ≡ Some v → found ≡ value_at s v → with_key key found ≡ piece_at s cs
  with_value v found some is found_is = ap (with_key key) found_is ∙ sym (keyed_some v key some is) ∙ (λ i. keyed s (key_is i) (rest_is i))

-- ---- lengths

since_by : (c : ℕ) (cs rest : List ℕ) (t : Bool) → length rest ≤ length cs → length (if t then c ∷ cs else rest) ≤ suc (length cs)
since_by c cs rest true le = omega arith
since_by c cs rest false le = omega (arith, le)

pub since_le : (set cs : List ℕ) → length (since set cs) ≤ length cs
since_le set [] = omega arith
since_le set (c ∷ cs) = since_by c cs (since set cs) (char_set_contains set c) (since_le set cs)

behind_by : (c : ℕ) (cs rest : List ℕ) (t : Bool) → length rest ≤ length cs → length (if t then rest else c ∷ cs) ≤ suc (length cs)
behind_by c cs rest true le = omega (arith, le)
behind_by c cs rest false le = omega arith

pub behind_le : (set cs : List ℕ) → length (behind set cs) ≤ length cs
behind_le set [] = omega arith
behind_le set (c ∷ cs) = behind_by c cs (behind set cs) (char_set_contains set c) (behind_le set cs)

pub behind_twice : (set cs : List ℕ) → behind set (behind set cs) ≡ behind set cs
behind_twice set [] = refl
behind_twice set (c ∷ cs) = by (char_set_contains set c) refl (behind_twice set cs)
  where
    by : (t : Bool) → char_set_contains set c ≡ t → behind set (behind set cs) ≡ behind set cs
        → behind set (if t then behind set cs else c ∷ cs) ≡ (if t then behind set cs else c ∷ cs)
    by true here more = more
    by false here more = rw here refl

abbrev left_of : Option (List ℕ × List ℕ) → ℕ
left_of None = 0
left_of (Some p) = length p.1

cut_by : (c : ℕ) (cs : List ℕ) (t : Bool) (o : Option (List ℕ × List ℕ)) → left_of o ≤ length cs
    → left_of (if◌then◌else◌ {A = Option (List ℕ × List ℕ)} t (Some ([], cs)) (option_map (λ p. (c ∷ p.0, p.1)) o)) ≤ suc (length cs)
cut_by c cs true o le = omega arith
cut_by c cs false None le = omega arith
cut_by c cs false (Some p) le = omega (arith, le)

cut_le : (e : ℕ) (cs : List ℕ) → left_of (cut_at e cs) ≤ length cs
cut_le e [] = omega arith
cut_le e (c ∷ cs) = cut_by c cs (c == e) (cut_at e cs) (cut_le e cs)

opened_le : (cs : List ℕ) (o : Option ℕ) → left_of (option_and_then (λ e. cut_at e cs) o) ≤ length cs
opened_le cs None = omega arith
opened_le cs (Some e) = cut_le e cs

enclosed_le : (cs : List ℕ) → left_of (enclosed cs) ≤ length cs
enclosed_le [] = omega arith
enclosed_le (c ∷ cs) = omega (arith, opened_le cs (closing c))

value_le : (s : Splits) (cs : List ℕ) → length (value_at s cs).1 ≤ length cs
value_le s cs = by (enclosed cs) refl
  where
    by : (o : Option (List ℕ × List ℕ)) → enclosed cs ≡ o → length (value_at s cs).1 ≤ length cs
    by None is = rw is (since_le s.fields cs)
    by (Some p) is =
        let le : length p.1 ≤ length cs = subst (λ o. left_of o ≤ length cs) is (enclosed_le cs) in
        rw is (omega (arith, le, since_le s.fields p.1))

one_by : (cs : List ℕ) (v : List ℕ) (t : Bool) → if◌then◌else◌ {A = Option (List ℕ)} t (Some cs) None ≡ Some v → length v ≤ length cs
one_by cs v true is = let same : cs ≡ v = cc is in rw (sym same) (omega arith)
one_by cs v false is = absurd (cc is)

one_le : (set cs v : List ℕ) → behind_one set cs ≡ Some v → length v ≤ length cs
one_le set [] v is = absurd (cc is)
one_le set (c ∷ cs) v is = omega (arith, one_by cs v (char_set_contains set c) is)

keyed_le : (s : Splits) (key rest : List ℕ) → length (keyed s key rest).1 ≤ length rest
keyed_le s [] rest = since_le s.fields rest
keyed_le s (k ∷ ks) rest = by (behind_one s.values rest) refl
  where
    by : (o : Option (List ℕ)) → behind_one s.values rest ≡ o → length (keyed s (k ∷ ks) rest).1 ≤ length rest
    by None is = rw is (since_le s.fields rest)
    by (Some v) is = rw is (omega (arith, value_le s v, one_le s.values rest v is))

-- a piece takes at least one character, where the first doesn't split fields
pub piece_less : (s : Splits) (c : ℕ) (cs : List ℕ) → char_set_contains s.fields c ≡ false → length (piece_at s (c ∷ cs)).1 ≤ length cs
piece_less s c cs apart = by (char_set_contains s.keys c) refl
  where
    by : (t : Bool) → char_set_contains s.keys c ≡ t → length (piece_at s (c ∷ cs)).1 ≤ length cs
    by true is = rw (is, apart) (since_le s.fields cs)
    by false is = rw is (omega (arith, keyed_le s (c ∷ until s.keys cs) (since s.keys cs), since_le s.keys cs))

-- ---- the pairs, piece by piece

apart_by : (set : List ℕ) (c : ℕ) (cs : List ℕ) (t : Bool) → char_set_contains set c ≡ t → (if t then behind set cs else c ∷ cs) ≡ c ∷ cs → char_set_contains set c ≡ false
apart_by set c cs true here is = absurd (omega (arith, behind_le set cs, ap length is))
apart_by set c cs false here is = here

abbrev Pairs : Type 0
Pairs = List (List ℕ × List ℕ)

pub next_turn : (s : Splits) (cs : List ℕ) (n : ℕ) (found all : Pairs) → (cs ≡ [] → ⊥) → behind s.fields cs ≡ cs → length cs ≤ n → found ++ next_pairs s n cs ≡ all
    → (length (behind s.fields (piece_at s cs).1) < length cs)
    × ((m : ℕ) × (length (behind s.fields (piece_at s cs).1) ≤ m) × ((found ++ listed (piece_at s cs).0) ++ next_pairs s m (behind s.fields (piece_at s cs).1) ≡ all))
unfolding next_pairs
next_turn s [] n found all some apart le is = absurd (some refl)
next_turn s (c ∷ cs) zero found all some apart le is = absurd (omega (arith, le))
next_turn s (c ∷ cs) (suc m) found all some apart le is =
    let piece = piece_at s (c ∷ cs) in
    let less = piece_less s c cs (apart_by s.fields c cs (char_set_contains s.fields c) refl apart) in
    let fewer = behind_le s.fields piece.1 in
    (omega (arith, less, fewer), (m, omega (arith, le, less, fewer), append_assoc found (listed piece.0) (next_pairs s m (behind s.fields piece.1)) ∙ is))

pub next_end : (s : Splits) (n : ℕ) (found all : Pairs) → found ++ next_pairs s n [] ≡ all → found ≡ all
unfolding next_pairs
next_end s zero found all is = sym (append-nil found) ∙ is
next_end s (suc m) found all is = sym (append-nil found) ∙ is

pub at_set : (set other cs : List ℕ) (p : List ℕ × List ℕ) → p ≡ (until set cs, since set cs) → set ≡ other → p ≡ (until other cs, since other cs)
at_set set other cs p is same = subst (λ set. ◌≡◌ {A = List ℕ × List ℕ} p (until set cs, since set cs)) same is
