-- What is found in a folder that fits a history, and what fits behind an opening.
use Rattle.std.proofs.Common.{◌≡◌, ◌⊎◌, inl, inr, ⊎_elim, ℕ, suc, ◌≤◌, ◌<◌, ◌==◌, ◌&&◌, ◌||◌, not, nat_le, Bool, true, false, List, [], ◌∷◌, refl, sym, ap, ◌∙◌, subst, arith}
use Rattle.std.proofs.lemmas.Bool.{cases_Bool, or_cases, and_from, cases_eq, eqb-true, eq-eqb, leb-true, leb-false, le-leb}
use Rattle.queue_files.specs.Found.{Row, Found}
use Rattle.history_book.specs.Laws.{OpeningsFit, FoundAreUnread}
use Rattle.history_book.specs.Legal.{IsRowOf, IsFound, Fits}
use Rattle.history_book.specs.Lists.{IsIn, Rise}
use Rattle.history_book.specs.States.{Written, Limits, State, start, is_among, is_unread, unread, numbers_found, last_number, top_of, opens, after}
use Rattle.history_book.proofs.Lists.{filter_keeps, filter_has, filter_passes}
use Rattle.history_book.proofs.Numbers.{AreNumbered, and_first, and_second, start_sane, all_sane}

up_to_last : (from : ℕ) (rows : List Row) → Rise from (numbers_found rows) → (r : Row) → IsIn r rows → r.number ≤ last_number rows
up_to_last from [] rise r i = absurd i
up_to_last from (x ∷ []) rise r (inl e) = let same = ap (λ (v : Row). v.number) e in omega (arith, same)
up_to_last from (x ∷ []) rise r (inr never) = absurd never
up_to_last from (x ∷ y ∷ rows) rise r (inl e) =
    let same = ap (λ (v : Row). v.number) e in
    let more = up_to_last (suc x.number) (y ∷ rows) rise.1 y (inl refl) in
    omega (arith, same, more, rise.1.0)
up_to_last from (x ∷ y ∷ rows) rise r (inr i) = up_to_last (suc x.number) (y ∷ rows) rise.1 r i

among_found : (n : ℕ) (rows : List Row) → is_among n (numbers_found rows) ≡ true → (r : Row) × IsIn r rows × (n ≡ r.number)
among_found n [] is = absurd (cc)
among_found n (x ∷ rows) is =
    ⊎_elim (λ (e : (n == x.number) ≡ true). (x, inl refl, eqb-true n x.number e))
    (λ (more : is_among n (numbers_found rows) ≡ true). let rest = among_found n rows more in (rest.0, inr rest.1, rest.2))
    (or_cases (n == x.number) (is_among n (numbers_found rows)) is)

pub in_among : (n : ℕ) (ns : List ℕ) → is_among n ns ≡ true → IsIn n ns
in_among n [] is = absurd (cc)
in_among n (m ∷ ns) is =
    ⊎_elim (λ (e : (n == m) ≡ true). inl (eqb-true n m e)) (λ (more : is_among n ns ≡ true). inr (in_among n ns more)) (or_cases (n == m) (is_among n ns) is)

pub or_second : (x y : Bool) → y ≡ true → (x || y) ≡ true
or_second true y e = refl
or_second false y e = e

pub among_in : (n : ℕ) (ns : List ℕ) → IsIn n ns → is_among n ns ≡ true
among_in n [] i = absurd i
among_in n (m ∷ ns) (inl same) = ap (λ b. b || is_among n ns) (eq-eqb n m same)
among_in n (m ∷ ns) (inr i) = or_second (n == m) (is_among n ns) (among_in n ns i)

row_among : (r : Row) (rows : List Row) → IsIn r rows → is_among r.number (numbers_found rows) ≡ true
row_among r [] i = absurd i
row_among r (x ∷ rows) (inl e) = ap (λ b. b || is_among r.number (numbers_found rows)) (eq-eqb r.number x.number (ap (λ (y : Row). y.number) e))
row_among r (x ∷ rows) (inr i) = or_second (r.number == x.number) (is_among r.number (numbers_found rows)) (row_among r rows i)

not_both : (b : Bool) → b ≡ true → not b ≡ true → ⊥
not_both true first second = absurd (cc)
not_both false first second = absurd (cc)

module _ (s : State) (are : AreNumbered s.rows s.low) (found : Found) (limits : Limits) (fits : Fits s found) where
  abbrev opened : State
  opened = opens s found.rows limits

  abbrev stays : ℕ → Bool
  stays n = nat_le n (top_of s found.rows) && not (is_among n (numbers_found found.rows))

  -- acknowledged before, it is found, or acknowledged still
  acked_still : (w : Written) → IsIn w s.rows → w.number ≤ top_of s found.rows → IsIn w.number s.acknowledged → IsFound found.rows w ⊎ IsIn w.number opened.acknowledged
  acked_still w i less acked =
      ⊎_elim
      (λ (yes : is_among w.number (numbers_found found.rows) ≡ true).
      let there = among_found w.number found.rows yes in
      let known = fits.rows.known there.0 there.1 in
      let same = are.unique w known.0 i known.1 (there.2 ∙ known.2.number) in
      inl (there.0, there.1, subst (IsRowOf there.0) (sym same) known.2))
      (λ (no : is_among w.number (numbers_found found.rows) ≡ false).
      inr (filter_keeps w.number stays s.acknowledged acked (and_from _ _ (le-leb w.number (top_of s found.rows) less) (ap not no))))
      (cases_Bool (is_among w.number (numbers_found found.rows)))

  was_in : (w : Written) → IsIn w opened.rows → IsIn w s.rows
  was_in w i = filter_has w (λ (v : Written). nat_le v.number (top_of s found.rows)) s.rows i

  is_below : (w : Written) → IsIn w opened.rows → w.number ≤ top_of s found.rows
  is_below w i = leb-true w.number (top_of s found.rows) (filter_passes w (λ (v : Written). nat_le v.number (top_of s found.rows)) s.rows i)

  fits_still : Fits opened found
  fits_still = record {
    rows = record {
      known = λ r i.
          let known = fits.rows.known r i in
          let last = up_to_last 0 found.rows fits.rows.rise r i in (
            known.0,
            filter_keeps known.0 (λ (v : Written). nat_le v.number (top_of s found.rows)) s.rows known.1 (le-leb known.0.number (top_of s found.rows) (omega (arith, last, known.2.number))),
            known.2,
          );
      rise = fits.rows.rise;
      settled = λ w i less. ⊎_elim (λ (f : IsFound found.rows w). inl f) (acked_still w (was_in w i) (is_below w i)) (fits.rows.settled w (was_in w i) less);
      before = λ w r i j less. ⊎_elim (λ (f : IsFound found.rows w). inl f) (acked_still w (was_in w i) (is_below w i)) (fits.rows.before w r (was_in w i) j less);
    };
    behind = fits.behind;
    within = fits.within;
    recorded = fits.recorded;
  }

  -- the last row that is found, where there is one
  last_found : (rows : List Row) → (last_number rows ≡ 0) ⊎ ((r : Row) × IsIn r rows × (r.number ≡ last_number rows))
  last_found [] = inl refl
  last_found (r ∷ []) = inr (r, inl refl, refl)
  last_found (r ∷ x ∷ rows) = ⊎_elim (λ e. inl e) (λ (l : (y : Row) × IsIn y (x ∷ rows) × (y.number ≡ last_number (x ∷ rows))). inr (l.0, inr l.1, l.2)) (last_found (x ∷ rows))

  -- up to the top a row is found, or acknowledged still
  pub found_or_acked : (w : Written) → IsIn w opened.rows → IsFound found.rows w ⊎ IsIn w.number opened.acknowledged
  found_or_acked w i = ⊎_elim (λ (f : IsFound found.rows w). inl f) (acked_still w (was_in w i) (is_below w i)) by_place
    where
      by_last : s.front < w.number → IsFound found.rows w ⊎ IsIn w.number s.acknowledged
      by_last above = by_found (last_found found.rows)
        where
          by_found : (last_number found.rows ≡ 0) ⊎ ((r : Row) × IsIn r found.rows × (r.number ≡ last_number found.rows)) → IsFound found.rows w ⊎ IsIn w.number s.acknowledged
          by_found (inl zero_last) = absurd (let less = is_below w i in omega (arith, zero_last, above, less))
          by_found (inr l) =
              ⊎_elim
              (λ (same : w.number ≡ l.0.number).
              let known = fits.rows.known l.0 l.1 in
              let one = are.unique w known.0 (was_in w i) known.1 (same ∙ known.2.number) in
              inl (l.0, l.1, subst (IsRowOf l.0) (sym one) known.2))
              (λ (other : w.number ≡ l.0.number → ⊥).
              let less = is_below w i in
              fits.rows.before w l.0 (was_in w i) l.1 (omega (arith, less, above, l.2, other)))
              (cases_eq w.number l.0.number)

      by_test : (b : Bool) → nat_le w.number s.front ≡ b → IsFound found.rows w ⊎ IsIn w.number s.acknowledged
      by_test true is = fits.rows.settled w (was_in w i) (leb-true w.number s.front is)
      by_test false is = by_last (leb-false w.number s.front is)

      by_place : IsFound found.rows w ⊎ IsIn w.number s.acknowledged
      by_place = by_test (nat_le w.number s.front) refl

  unread_found : (w : Written) → IsIn w (unread opened) → IsFound found.rows w
  unread_found w i =
      let passes = filter_passes w (is_unread opened) opened.rows i in
      ⊎_elim (λ (f : IsFound found.rows w). f)
      (λ (acked : IsIn w.number opened.acknowledged). absurd (not_both (is_among w.number opened.acknowledged) (among_in w.number opened.acknowledged acked) (and_first _ _ passes)))
      (found_or_acked w (filter_has w (is_unread opened) opened.rows i))

  found_unread : (w : Written) → IsIn w opened.rows → IsFound found.rows w → IsIn w (unread opened)
  found_unread w i f = filter_keeps w (is_unread opened) opened.rows i (and_from _ _ (by_among (is_among w.number opened.acknowledged) refl) refl)
    where
      number_among : IsFound found.rows w → is_among w.number (numbers_found found.rows) ≡ true
      number_among g = subst (λ n. is_among n (numbers_found found.rows) ≡ true) g.2.number (row_among g.0 found.rows g.1)

      by_among : (b : Bool) → is_among w.number opened.acknowledged ≡ b → not (is_among w.number opened.acknowledged) ≡ true
      by_among true is =
          absurd (let acked = in_among w.number opened.acknowledged is in
          let passes = filter_passes w.number stays s.acknowledged acked in
          not_both (is_among w.number (numbers_found found.rows)) (number_among f) (and_second _ _ passes))
      by_among false is = ap not is

pub openings_fit : OpeningsFit
openings_fit makes told found limit policy legal fits =
    let are = (all_sane makes start told legal start_sane).numbered in
    (fits.rows, fits_still (after makes start told) are found (record { limit = limit; policy = policy }) fits)

pub found_are_unread : FoundAreUnread
found_are_unread makes told found limit policy legal fits w =
    let are = (all_sane makes start told legal start_sane).numbered in (
      unread_found (after makes start told) are found (record { limit = limit; policy = policy }) fits w,
      found_unread (after makes start told) are found (record { limit = limit; policy = policy }) fits w,
    )
