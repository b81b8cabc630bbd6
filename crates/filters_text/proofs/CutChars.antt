-- The characters of a text that is cut at one of a set, or at one character.
use Rattle.std.proofs.Common.{◌≡◌, ℕ, ◌-◌, ◌<◌, ◌≤◌, ◌==◌, ◌&&◌, ◌||◌, if◌then◌else◌, Bool, true, false, List, [], ◌∷◌, ◌++◌, take, drop, length, Option, Some, None, option_map, refl, sym, ap, subst, ◌∙◌, append-nil, arith}
use Rattle.std.specs.Prelude.{encode_utf8, encode_utf8_all, chars}
use Rattle.std.specs.Char.{char_set_contains, IsScalar}
use Rattle.std.specs.Str.{IsUtf8, IsCharBoundary, NoCharPasses, NonePass}
use Rattle.std.specs.Str.Pattern.{FindsBy, FindsPrefixBy, FindsSuffixBy, FindsChar, HasCharAt}
use Rattle.std.proofs.lemmas.List.{take-append-drop, drop_all}
use Rattle.std.proofs.lemmas.Str.{chars-append, chars_past_char, chars_from_encodes, encodes-chars, encodes-append, scalars-chars, chars-nil, IsUtf8-take, IsUtf8-drop, IsCharBoundary-from_take, len_utf8_bounds}
use Rattle.std.proofs.lemmas.Bool.{eq-eqb}
use lib.Utf8.{scalars}
use Rattle.filters_text.specs.Pairs.{until, since, behind, behind_one, before, kept, cut_at}

pub pairs : {A B : Type 0} (a a' : A) (b b' : B) → a ≡ a' → b ≡ b' → ◌≡◌ {A = A × B} (a, b) (a', b')
pairs a a' b b' p q = λ i. (p i, q i)

both_true : (a b : Bool) → (a && b) ≡ true → (a ≡ true) × (b ≡ true)
both_true true b is = (refl, is)
both_true false b is = absurd (cc is)

-- ---- lists of characters

module _ (set : List ℕ) where
  abbrev in_set : ℕ → Bool
  in_set = char_set_contains set

  until_run : (cs ds : List ℕ) → NonePass in_set cs → until set (cs ++ ds) ≡ cs ++ until set ds
  until_run [] ds none = refl
  until_run (c ∷ cs) ds none = rw none.0 (ap (λ xs. c ∷ xs) (until_run cs ds none.1))

  since_run : (cs ds : List ℕ) → NonePass in_set cs → since set (cs ++ ds) ≡ since set ds
  since_run [] ds none = refl
  since_run (c ∷ cs) ds none = rw none.0 (since_run cs ds none.1)

  until_stop : (c : ℕ) (cs : List ℕ) → in_set c ≡ true → until set (c ∷ cs) ≡ []
  until_stop c cs is = rw is refl

  since_stop : (c : ℕ) (cs : List ℕ) → in_set c ≡ true → since set (c ∷ cs) ≡ c ∷ cs
  since_stop c cs is = rw is refl

  one_in : (c : ℕ) (cs : List ℕ) → in_set c ≡ true → behind_one set (c ∷ cs) ≡ Some cs
  one_in c cs is = rw is refl

  front_in : (c : ℕ) (cs : List ℕ) → in_set c ≡ true → behind set (c ∷ cs) ≡ behind set cs
  front_in c cs is = rw is refl

  none_in_front : (cs : List ℕ) → ((c : ℕ) (ds : List ℕ) → cs ≡ c ∷ ds → in_set c ≡ false) → (behind_one set cs ≡ None) × (behind set cs ≡ cs)
  none_in_front [] other = (refl, refl)
  none_in_front (c ∷ cs) other = (rw (other c cs refl) refl, rw (other c cs refl) refl)

  last_in : (cs : List ℕ) (c : ℕ) → in_set c ≡ true → before set (cs ++ c ∷ []) ≡ before set cs
  last_in [] c is = rw is refl
  last_in (d ∷ cs) c is = ap (kept set d) (last_in cs c is)

  none_at_end : (cs : List ℕ) → ((ds : List ℕ) (c : ℕ) → cs ≡ ds ++ c ∷ [] → in_set c ≡ false) → before set cs ≡ cs
  none_at_end [] other = refl
  none_at_end (c ∷ []) other = rw (other [] c refl) refl
  none_at_end (c ∷ d ∷ cs) other = ap (kept set c) (none_at_end (d ∷ cs) (λ ds e is. other (c ∷ ds) e (ap (λ xs. c ∷ xs) is)))

module _ (e : ℕ) where
  abbrev is_it : ℕ → Bool
  is_it d = d == e

  cut_run : (cs ds : List ℕ) → NonePass is_it cs → cut_at e (cs ++ e ∷ ds) ≡ Some (cs, ds)
  cut_run [] ds none = let same : (e == e) ≡ true = eq-eqb e e refl in rw same refl
  cut_run (c ∷ cs) ds none = rw none.0 (ap (option_map (λ p. (c ∷ p.0, p.1))) (cut_run cs ds none.1))

  no_cut_by : (c : ℕ) (cs : List ℕ) (t : Bool) → (t || char_set_contains cs e) ≡ false → (char_set_contains cs e ≡ false → cut_at e cs ≡ None)
      → if◌then◌else◌ {A = Option (List ℕ × List ℕ)} t (Some ([], cs)) (option_map (λ p. (c ∷ p.0, p.1)) (cut_at e cs)) ≡ None
  no_cut_by c cs true is more = absurd (cc is)
  no_cut_by c cs false is more = ap (option_map (λ p. (c ∷ p.0, p.1))) (more is)

  pub no_cut : (cs : List ℕ) → char_set_contains cs e ≡ false → cut_at e cs ≡ None
  no_cut [] other = refl
  no_cut (c ∷ cs) other = no_cut_by c cs (c == e) other (no_cut cs)

  none_contains : (cs : List ℕ) → NonePass is_it cs → char_set_contains cs e ≡ false
  none_contains [] none = refl
  none_contains (c ∷ cs) none = rw none.0 (none_contains cs none.1)

-- ---- texts

chars_cut : (s : List ℕ) (i : ℕ) → IsUtf8 (take i s) → chars s ≡ chars (take i s) ++ chars (drop i s)
chars_cut s i u = ap chars (sym (take-append-drop i s)) ∙ chars-append (take i s) (drop i s) u

none_chars : (p : ℕ → Bool) (s : List ℕ) → IsUtf8 s → NoCharPasses p s → NonePass p (chars s)
none_chars p s u none = subst (NonePass p) (chars_from_encodes none.0 s u none.1) none.2

first_char : (s : List ℕ) (i j c : ℕ) → IsUtf8 (drop i s) → HasCharAt c s i j → chars (drop i s) ≡ c ∷ chars (drop j s)
first_char s i j c u at = chars_past_char (drop i s) (drop j s) c u at.split

spelled : (s : List ℕ) (c : ℕ) (ds : List ℕ) → IsUtf8 s → chars s ≡ c ∷ ds → IsScalar c × (s ≡ encode_utf8 c ++ encode_utf8_all ds)
spelled s c ds u is =
    let all : scalars (c ∷ ds) ≡ true = subst (λ cs. scalars cs ≡ true) is (scalars-chars s u) in
    ((both_true _ _ all).0, sym (encodes-chars s u) ∙ ap encode_utf8_all is)

spelled_last : (s : List ℕ) (ds : List ℕ) (c : ℕ) → IsUtf8 s → chars s ≡ ds ++ c ∷ [] → IsScalar c × (s ≡ encode_utf8_all ds ++ encode_utf8 c)
spelled_last s ds c u is = (last ds all, sym (encodes-chars s u) ∙ ap encode_utf8_all is ∙ encodes-append ds (c ∷ []) ∙ ap (λ l. encode_utf8_all ds ++ l) (append-nil (encode_utf8 c)))
  where
    all : scalars (ds ++ c ∷ []) ≡ true
    all = subst (λ cs. scalars cs ≡ true) is (scalars-chars s u)

    last : (es : List ℕ) → scalars (es ++ c ∷ []) ≡ true → IsScalar c
    last [] some = (both_true _ _ some).0
    last (e ∷ es) some = last es (both_true _ _ some).1

module _ (set s : List ℕ) (u : IsUtf8 s) where
  pub cut_found : (i j : ℕ) → IsCharBoundary s i → FindsBy (char_set_contains set) s (Some (i, j))
      → (until set (chars s) ≡ chars (take i s)) × (since set (chars s) ≡ chars (drop i s))
  cut_found i j b found =
      let front = IsUtf8-take s i u b in
      let whole : chars s ≡ chars (take i s) ++ chars (drop i s) = chars_cut s i front in
      let none = none_chars (char_set_contains set) (take i s) front found.0 in
      let c = found.1.0 in
      let first : chars (drop i s) ≡ c ∷ chars (drop j s) = first_char s i j c (IsUtf8-drop s i u b) found.1.2 in (
        ap (until set) whole ∙ until_run set (chars (take i s)) (chars (drop i s)) none
            ∙ ap (λ xs. chars (take i s) ++ xs) (ap (until set) first ∙ until_stop set c (chars (drop j s)) found.1.1) ∙ append-nil (chars (take i s)),
        ap (since set) whole ∙ since_run set (chars (take i s)) (chars (drop i s)) none
            ∙ ap (since set) first ∙ since_stop set c (chars (drop j s)) found.1.1 ∙ sym first,
      )

  pub cut_none : FindsBy (char_set_contains set) s None → (until set (chars s) ≡ chars s) × (since set (chars s) ≡ [])
  cut_none found =
      let none = none_chars (char_set_contains set) s u found in (
        ap (until set) (sym (append-nil (chars s))) ∙ until_run set (chars s) [] none ∙ append-nil (chars s),
        ap (since set) (sym (append-nil (chars s))) ∙ since_run set (chars s) [] none,
      )

  pub prefix_found : (n : ℕ) → FindsPrefixBy (char_set_contains set) s (Some n)
      → (behind_one set (chars s) ≡ Some (chars (drop n s))) × (behind set (chars s) ≡ behind set (chars (drop n s)))
  prefix_found n found =
      let c = found.0 in
      let first : chars s ≡ c ∷ chars (drop n s) = first_char s 0 n c u found.2 in
      (ap (behind_one set) first ∙ one_in set c (chars (drop n s)) found.1, ap (behind set) first ∙ front_in set c (chars (drop n s)) found.1)

  pub prefix_none : FindsPrefixBy (char_set_contains set) s None → (behind_one set (chars s) ≡ None) × (behind set (chars s) ≡ chars s)
  prefix_none other = none_in_front set (chars s) (λ c ds is. let front = spelled s c ds u is in other c (encode_utf8_all ds) front.0 front.1)

  pub suffix_found : (n : ℕ) → IsUtf8 (take (length s - n) s) → FindsSuffixBy (char_set_contains set) s (Some n)
      → before set (chars s) ≡ before set (chars (take (length s - n) s))
  suffix_found n front found =
      let c = found.0 in
      let i = length s - n in
      let none : drop (length s) s ≡ [] = drop_all (length s) s (omega arith) in
      let back = IsUtf8-drop s i u (IsCharBoundary-from_take s i u (omega arith) front) in
      let last : chars (drop i s) ≡ c ∷ [] = first_char s i (length s) c back found.2 ∙ ap (λ cs. c ∷ cs) (ap chars none ∙ chars-nil) in
      ap (before set) (chars_cut s i front ∙ ap (λ cs. chars (take i s) ++ cs) last) ∙ last_in set (chars (take i s)) c found.1

  pub suffix_none : FindsSuffixBy (char_set_contains set) s None → before set (chars s) ≡ chars s
  suffix_none other = none_at_end set (chars s) (λ ds c is. let end = spelled_last s ds c u is in other c (encode_utf8_all ds) end.0 end.1)

module _ (e : ℕ) (s : List ℕ) (u : IsUtf8 s) where
  pub parts_found : (i j : ℕ) (x y : List ℕ) → x ≡ take i s → y ≡ drop j s → i ≤ length s → IsUtf8 x → FindsChar e s (Some (i, j)) → cut_at e (chars s) ≡ Some (chars x, chars y)
  parts_found i j x y front_is back_is within v found =
      let front : IsUtf8 (take i s) = subst IsUtf8 front_is v in
      let back = IsUtf8-drop s i u (IsCharBoundary-from_take s i u within front) in
      let none = none_chars (is_it e) (take i s) front found.0 in
      let first : chars (drop i s) ≡ e ∷ chars (drop j s) = first_char s i j e back found.1 in
      ap (cut_at e) (chars_cut s i front ∙ ap (λ cs. chars (take i s) ++ cs) first) ∙ cut_run e (chars (take i s)) (chars (drop j s)) none
      ∙ sym (ap Some (pairs _ _ _ _ (ap chars front_is) (ap chars back_is)))

  pub parts_none : FindsChar e s None → char_set_contains (chars s) e ≡ false
  parts_none found = none_contains e (chars s) (none_chars (is_it e) s u found)

-- a character takes at least one byte
pub grows : (c : ℕ) (s : List ℕ) (i j : ℕ) → HasCharAt c s i j → i < j
grows c s i j at = omega (arith, at.ends, (len_utf8_bounds c).0)
