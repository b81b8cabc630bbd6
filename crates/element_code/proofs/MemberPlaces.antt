-- Where bytes stop being the members of an object.
use Rattle.std.proofs.Common.{◌≡◌, ℕ, zero, suc, ◌+◌, ◌-◌, ◌≤◌, ◌^◌, inl, inr, List, [], ◌∷◌, ◌++◌, length, true, false, ◌&&◌, Option, Some, Ok, Err, if◌then◌else◌, refl, sym, ap, subst, ◌∙◌, arith, rules, append_assoc, length-append}
use Rattle.std.proofs.lemmas.List.{append-nil}
use Rattle.std.proofs.lemmas.Str.{is_utf8-from_IsUtf8}
use Rattle.std.specs.Str.{IsUtf8, is_utf8}
use Rattle.crc_frame.specs.Bytes.{IsBytes}
use Rattle.event_tree.specs.Values.{on_values}
use Rattle.event_tree.specs.declared.value.Value.{Value}
use Rattle.event_tree.specs.declared.value.Value.TheVariants as v
use Rattle.event_tree.proofs.Sounds.{both_true}
use Rattle.crc_frame.specs.Fronts.{Reads, count_bytes, run_at, ◌>>=◌}
use Rattle.crc_frame.proofs.Fronts.{chosen, run_takes, length-count_bytes}
use Rattle.crc_frame.proofs.Cuts.{bind_err, run_cut}
use Rattle.element_code.specs.Parts.{Part, key, part_bytes, members_parts, parts, spelling}
use Rattle.element_code.specs.Values.{IsText, IsAbove, IsValue, AreMembers}
use Rattle.element_code.specs.Reading.{is_above, key_at, members_at}
use Rattle.element_code.specs.Faults.{CanBe, MayFollow, cut, misfit}
use Rattle.element_code.proofs.Again.{above_true}
use Rattle.element_code.proofs.Sound.{IsSound, key_sound}
use Rattle.element_code.proofs.Within.{StandsIn, Stopped, stopped_in}
use Rattle.element_code.proofs.PartLists.{ValueParts, MembersParts, value_free, members_free}
use Rattle.element_code.proofs.RisingKeys.{next_key, next_members, length-next_members, are_next, base_of, above_base}
use Rattle.element_code.proofs.LeafPlaces.{same_run, no_end}
use Rattle.element_code.proofs.Places.{same_head, same_tail, behind_value, cons, StopsAt}

-- what keys rise from
pub record Base (last : Option (List ℕ)) : Type 0 where
  pub utf8 : IsUtf8 (base_of last)
  pub short : length (base_of last) ≤ 16777216

-- the key of a member
abbrev own_key : Part → List ℕ
own_key (key k) = k
own_key other = []

module _ (levels : ℕ) (last : Option (List ℕ)) (n : ℕ) where
  -- some key may come next
  some_key : Base last → suc n ≤ 2 ^ 32 → MayFollow (MembersParts levels last (suc n)) [] (key (next_key (base_of last) 0))
  some_key base few =
      let ms = next_members (base_of last) 0 (suc n) in
      (parts v.Null ++ members_parts (on_values parts (next_members (base_of last) 1 n)), (ms, length-next_members (base_of last) 0 (suc n), are_next levels (base_of last) last 0 (suc n) base.utf8 base.short (omega (arith, few)) (above_base last 0), refl))

  -- and whatever may come next is a key above the last
  record NextKey (q : Part) : Type 0 where
    pub own : List ℕ
    pub is : q ≡ key own
    pub valid : IsText own
    pub above : IsAbove last own

  next_is_key : (q : Part) → MayFollow (MembersParts levels last (suc n)) [] q → NextKey q
  next_is_key q m =
      let c = cons m.1.0 n m.1.1 in
      let are = subst (AreMembers (IsValue levels) last) c.is m.1.2 in
      record { own = c.head.0; is = same_head q (key c.head.0) m.0 _ (m.1.3 ∙ ap (λ ms. members_parts (on_values parts ms)) c.is); valid = are.0; above = are.1 }

  not_this_key : (bytes : List ℕ) (x : List ℕ × List ℕ) → IsBytes bytes → run_at bytes ≡ Ok x → (is_utf8 x.0 && is_above last x.0) ≡ false → (own : List ℕ) → IsText own → IsAbove last own → CanBe (key own) bytes → ⊥
  not_this_key bytes x fit h f own valid above (inl w) =
      let e = same_run bytes own x h valid.short w.0 w.1 in
      let t : (is_utf8 own && is_above last own) ≡ true = both_true _ _ (is_utf8-from_IsUtf8 own valid.utf8) (sym (above_true last own above)) in
      absurd (search (sym f ∙ ap (λ y. is_utf8 y.0 && is_above last y.0) e ∙ t, rules))
  not_this_key bytes x fit h f own valid above (inr w) = no_end bytes w.0 x fit h w.1 w.2

  bad_key : (bytes : List ℕ) (x : List ℕ × List ℕ) (left : ℕ) → IsBytes bytes → Base last → suc n ≤ 2 ^ 32 → run_at bytes ≡ Ok x → (is_utf8 x.0 && is_above last x.0) ≡ false → left ≡ length bytes - 4 → Stopped (MembersParts levels last (suc n)) bytes left
  bad_key bytes x left fit base few h f e =
      let r = run_takes bytes x fit h in
      record {
        at = 4;
        sum = omega (arith, e, ap length r.is, length-append (count_bytes (length x.0)) (x.0 ++ x.1), length-count_bytes (length x.0));
        stops = misfit [] (key (next_key (base_of last) 0)) bytes (some_key base few) refl (λ q m c. let k = next_is_key q m in not_this_key bytes x fit h f k.own k.valid k.above (subst (λ p. CanBe p bytes) k.is c)) refl;
      }

  pub key_stops : (bytes : List ℕ) (left : ℕ) → IsBytes bytes → Base last → suc n ≤ 2 ^ 32 → key_at last bytes ≡ Err left → Stopped (MembersParts levels last (suc n)) bytes left
  key_stops bytes left fit base few h = elim (bind_err (run_at bytes) (λ k. (if is_utf8 k.0 && is_above last k.0 then Ok k else Err (length bytes - 4))) left h) [
    | inl w ↦
        let s = run_cut bytes left fit w in
        record { at = length bytes; sum = omega (arith, s.0); stops = cut [] (key (next_key (base_of last) 0)) bytes (some_key base few) refl s.1 refl }
    | inr w ↦ elim (chosen (is_utf8 w.0.0 && is_above last w.0.0) (Ok w.0) (Err (length bytes - 4)) (Err left) w.2) [
      | inl u ↦ absurd (search (u.1, rules))
      | inr u ↦ bad_key bytes w.0 left fit base few w.1 u.0 (search (u.1, rules))
    ]
  ]

  -- a value stands behind its key
  value_stands : (k : List ℕ) → IsText k → IsAbove last k → length k ≤ 16777216 → n ≤ 2 ^ 32 → StandsIn (ValueParts levels) (MembersParts levels last (suc n)) (key k ∷ [])
  value_stands k valid above short few = record {
    extend = λ a m.
        let more = next_members k 0 n in
        (members_parts (on_values parts more), ((k, m.0) ∷ more, ap suc (length-next_members k 0 n), (valid, above, m.1, are_next levels k (Some k) 0 n valid.utf8 short (omega (arith, few)) (above_base (Some k) 0)), ap (λ l. key k ∷ (l ++ members_parts (on_values parts more))) m.2));
    begin = λ s m.
        let c = cons m.0 n m.1 in
        let are = subst (AreMembers (IsValue levels) last) c.is m.2 in
        let later = members_parts (on_values parts c.tail) in
        (parts c.head.1, later, (c.head.1, are.2, refl), same_tail (key k) (key c.head.0) s (parts c.head.1 ++ later) (m.3 ∙ ap (λ ms. members_parts (on_values parts ms)) c.is));
    free = value_free levels;
  }

  -- the later members stand behind the first
  later_members_stand : (k : List ℕ) (d : Value) → IsText k → IsAbove last k → IsValue levels d → StandsIn (MembersParts levels (Some k) n) (MembersParts levels last (suc n)) (key k ∷ parts d)
  later_members_stand k d valid above is = record {
    extend = λ a m. ([], ((k, d) ∷ m.0, ap suc m.1, (valid, above, is, m.2), ap (λ l. key k ∷ (parts d ++ l)) (append-nil a ∙ m.3)));
    begin = λ s m.
        let c = cons m.0 n m.1 in
        let are = subst (AreMembers (IsValue levels) last) c.is m.2 in
        let later = members_parts (on_values parts c.tail) in
        let e : key k ∷ (parts d ++ s) ≡ key c.head.0 ∷ (parts c.head.1 ++ later) = m.3 ∙ ap (λ ms. members_parts (on_values parts ms)) c.is in
        let same : c.head.0 ≡ k = sym (ap own_key (same_head (key k) (key c.head.0) (parts d ++ s) (parts c.head.1 ++ later) e)) in
        let b = behind_value levels d c.head.1 s later is are.2 (same_tail (key k) (key c.head.0) (parts d ++ s) (parts c.head.1 ++ later) e) in
        (s, [], (c.tail, c.length_is, subst (λ x. AreMembers (IsValue levels) (Some x) c.tail) same are.3, b), sym (append-nil s));
    free = members_free levels (Some k) n;
  }

module _ (levels : ℕ) (read : Reads Value) (sound : IsSound levels read) (stop : StopsAt levels read) where
  pub members_stop : (last : Option (List ℕ)) (n : ℕ) (bytes : List ℕ) (left : ℕ) → IsBytes bytes → length bytes ≤ 16777216 → Base last → n ≤ 2 ^ 32 → members_at read last n bytes ≡ Err left → Stopped (MembersParts levels last n) bytes left
  members_stop last zero bytes left fit short base few h = absurd (search (h, rules))
  members_stop last (suc n) bytes left fit short base few h = elim (bind_err (key_at last bytes) (λ k. (read k.1 >>= λ y. (members_at read (Some k.0) n y.1 >>= λ ms. Ok ((k.0, y.0) ∷ ms.0, ms.1)))) left h) [
    | inl w ↦ key_stops levels last n bytes left fit base few w
    | inr w ↦
        let k = w.0 in
        let s = key_sound last bytes k fit w.1 in
        let size : length bytes ≡ 4 + length k.0 + length k.1 = omega (arith, ap length s.is, length-append (part_bytes (key k.0)) k.1, length-append (count_bytes (length k.0)) k.0, length-count_bytes (length k.0)) in
        elim (bind_err (read k.1) (λ y. (members_at read (Some k.0) n y.1 >>= λ ms. Ok ((k.0, y.0) ∷ ms.0, ms.1))) left w.2) [
          | inl u ↦ stopped_in (ValueParts levels) (MembersParts levels last (suc n)) (key k.0 ∷ []) k.1 bytes left (value_stands levels last n k.0 s.valid s.above (omega (arith, size, short)) (omega (arith, few)))
              (s.is ∙ ap (λ l. l ++ k.1) (sym (append-nil (part_bytes (key k.0))))) (stop k.1 left s.fits (omega (arith, size, short)) u)
          | inr u ↦
              let y = u.0 in
              let t = sound k.1 y s.fits u.1 in
              elim (bind_err (members_at read (Some k.0) n y.1) (λ ms. Ok ((k.0, y.0) ∷ ms.0, ms.1)) left u.2) [
                | inl z ↦ stopped_in (MembersParts levels (Some k.0) n) (MembersParts levels last (suc n)) (key k.0 ∷ parts y.0) y.1 bytes left (later_members_stand levels last n k.0 y.0 s.valid s.above t.value)
                    (s.is ∙ ap (λ l. part_bytes (key k.0) ++ l) t.is ∙ sym (append_assoc (part_bytes (key k.0)) (spelling y.0) y.1))
                    (members_stop (Some k.0) n y.1 left t.fits (omega (arith, size, short, ap length t.is, length-append (spelling y.0) y.1)) (record { utf8 = s.valid.utf8; short = omega (arith, size, short) }) (omega (arith, few)) z)
                | inr z ↦ absurd (search (z.2, rules))
              ]
        ]
  ]
