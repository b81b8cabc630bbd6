-- A request, part by part.
use Rattle.std.proofs.Common.{◌≡◌, ◌<◌, ◌≤◌, ℕ, ◌+◌, List, [], ◌∷◌, ◌++◌, length, drop, get_or, flat_map, refl, sym, ap, ap₂, ◌∙◌, true, false, Some, None, append_assoc, arith}
use Rattle.std.proofs.lemmas.Bool.{false≢true}
use Rattle.std.proofs.lemmas.List.{drop_more, drop_all, drop-drop, append-nil}
use Rattle.event_tree.specs.Events.{Ev}
use Rattle.out_bulk.specs.Fates.{Settled, first_settled, open_in}
use Rattle.out_bulk.specs.Requests.{body_of, head_of, lines_of, request_of}
use Rattle.out_bulk.specs.Settings.{Target}

-- the lines of a head, between which two texts stand
pub written : (old a b c d f host digits e x1 x2 x3 x4 x5 : List ℕ) → x1 ≡ old ++ (a ++ (e ++ b)) → x2 ≡ x1 ++ host → x3 ≡ x2 ++ (e ++ (c ++ (e ++ d))) → x4 ≡ x3 ++ digits → x5 ≡ x4 ++ (e ++ (f ++ (e ++ e))) →
    x5 ≡ old ++ flat_map (λ s. s ++ e) (a ∷ (b ++ host) ∷ c ∷ (d ++ digits) ∷ f ∷ [] ∷ [])
written old a b c d f host digits e x1 x2 x3 x4 x5 p q r s t =
    t ∙ ap (λ x. x ++ (e ++ (f ++ (e ++ e)))) (s ∙ ap (λ x. x ++ digits) (r ∙ ap (λ x. x ++ (e ++ (c ++ (e ++ d)))) (q ∙ ap (λ x. x ++ host) p))) ∙ simp (append_assoc, append-nil)

-- the events that aren't settled, one by one
pub open_nothing : (es : List Ev) → open_in es [] ≡ es
open_nothing [] = refl
open_nothing (e ∷ es) = refl

skipped : (es : List Ev) (fs : Settled) → first_settled fs ≡ true → open_in es fs ≡ open_in (drop 1 es) (drop 1 fs)
skipped es [] is = absurd (false≢true is)
skipped [] (Some f ∷ fs) is = refl
skipped (e ∷ es) (Some f ∷ fs) is = refl
skipped es (None ∷ fs) is = absurd (false≢true is)

sent : (e : Ev) (es : List Ev) (fs : Settled) → first_settled fs ≡ false → open_in (e ∷ es) fs ≡ e ∷ open_in es (drop 1 fs)
sent e es [] is = ap (λ xs. e ∷ xs) (sym (open_nothing es))
sent e es (Some f ∷ fs) is = absurd (false≢true (sym is))
sent e es (None ∷ fs) is = refl

-- so many were written up to a place, and the rest are those that stand behind it
pub record SentSoFar (t : Target) (es : List Ev) (fs : Settled) (i : ℕ) (old now : List ℕ) (count : ℕ) : Type 0 where
  pub lines : old ++ body_of t (open_in es fs) ≡ now ++ body_of t (open_in (drop i es) (drop i fs))
  pub counted : length (open_in es fs) ≡ count + length (open_in (drop i es) (drop i fs))
  pub below : count ≤ i

pub sent_start : (t : Target) (es : List Ev) (fs : Settled) (old : List ℕ) → SentSoFar t es fs 0 old old 0
sent_start t es fs old = record { lines = refl; counted = omega arith; below = omega arith }

module _ (t : Target) (es : List Ev) (fs : Settled) (i : ℕ) (old : List ℕ) where
  behind : drop 1 (drop i fs) ≡ drop (i + 1) fs
  behind = drop-drop 1 i fs

  pub sent_none : (now : List ℕ) (count : ℕ) → SentSoFar t es fs i old now count → true ≡ first_settled (drop i fs) → SentSoFar t es fs (i + 1) old now count
  sent_none now count so_far settled =
      let rest : open_in (drop i es) (drop i fs) ≡ open_in (drop (i + 1) es) (drop (i + 1) fs) = skipped (drop i es) (drop i fs) (sym settled) ∙ ap₂ open_in (drop-drop 1 i es) behind in
      record { lines = so_far.lines ∙ ap (λ xs. now ++ body_of t xs) rest; counted = so_far.counted ∙ ap (λ xs. count + length xs) rest; below = omega (arith, so_far.below) }

  pub sent_more : (now then_now : List ℕ) (count : ℕ) (e : Ev) → i < length es → e ≡ get_or es i e → SentSoFar t es fs i old now count → false ≡ first_settled (drop i fs) → then_now ≡ now ++ lines_of t e → SentSoFar t es fs (i + 1) old then_now (count + 1)
  sent_more now then_now count e within is so_far settled added =
      let rest : open_in (drop i es) (drop i fs) ≡ e ∷ open_in (drop (i + 1) es) (drop (i + 1) fs) = ap (λ xs. open_in xs (drop i fs)) (drop_more es i e within ∙ ap (λ x. x ∷ drop (i + 1) es) (sym is)) ∙ sent e (drop (i + 1) es) (drop i fs) (sym settled) ∙ ap (λ xs. e ∷ open_in (drop (i + 1) es) xs) behind in
      record {
        lines = so_far.lines ∙ ap (λ xs. now ++ body_of t xs) rest ∙ sym (append_assoc now (lines_of t e) (body_of t (open_in (drop (i + 1) es) (drop (i + 1) fs)))) ∙ ap (λ x. x ++ body_of t (open_in (drop (i + 1) es) (drop (i + 1) fs))) (sym added);
        counted = omega (arith, so_far.counted, ap length rest);
        below = omega (arith, so_far.below);
      }

  pub sent_lines : (now : List ℕ) (count : ℕ) → length es ≤ i → SentSoFar t es fs i old now count → now ≡ old ++ body_of t (open_in es fs)
  sent_lines now count end so_far = sym (so_far.lines ∙ ap (λ xs. now ++ body_of t (open_in xs (drop i fs))) (drop_all i es end) ∙ append-nil now)

  pub sent_count : (now : List ℕ) (count : ℕ) → length es ≤ i → SentSoFar t es fs i old now count → count ≡ length (open_in es fs)
  sent_count now count end so_far = omega (arith, so_far.counted, ap (λ xs. length (open_in xs (drop i fs))) (drop_all i es end))

-- the head and the body of a request
pub whole : (t : Target) (es : List Ev) (none body empty head all host : List ℕ) (n : ℕ) → none ≡ [] → body ≡ none ++ body_of t es → empty ≡ [] → n ≡ length body → host ≡ t.host → head ≡ empty ++ head_of host n → all ≡ head ++ body → all ≡ request_of t es
unfolding request_of
whole t es none body empty head all host n is_none written is_empty is_length is_host is_head is_all =
    let is : body ≡ body_of t es = written ∙ ap (λ x. x ++ body_of t es) is_none in
    is_all ∙ ap₂ (λ x y. x ++ y) (is_head ∙ ap (λ x. x ++ head_of host n) is_empty ∙ ap₂ head_of is_host (is_length ∙ ap length is)) is
