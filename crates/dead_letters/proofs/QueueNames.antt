-- The names of a queue's files, and how records make segments.
use Rattle.std.proofs.Common.{◌≡◌, inl, inr, get_or, ℕ, suc, ◌+◌, ◌<◌, true, false, List, [], ◌∷◌, ◌++◌, length, map, drop, refl, sym, ap, ◌∙◌, arith, append_assoc, length-append}
use Rattle.std.proofs.Math.Path.{ap₂}
use Rattle.std.proofs.lemmas.List.{append-nil, drop_more}
use Rattle.std.proofs.lemmas.Bool.{cond-true, cond-false, cases_Bool}
use Rattle.std.proofs.Math.Seq.{take-append_seam, drop-append_seam}
use Rattle.dead_letters.specs.Queues.{begins_next, grown, pieces, cut, joined, behind, PiecesMakeSegments}

-- ---- records make segments

pub nothing_behind : (ps : List (List ℕ)) → behind [] ps ≡ ps
nothing_behind [] = refl
nothing_behind (p ∷ ps) = refl

make : (limit number : ℕ) (last own : List ℕ) (records : List (List ℕ))
    → grown limit number (last ++ own) records ≡ behind last (cut (pieces limit number (length last) (length own) (map length records)) (own ++ joined records))
make limit number last own [] = ap (λ p. (last ++ p) ∷ []) (sym (take-append_seam own []))
make limit number last own (r ∷ rest) = elim (cases_Bool (begins_next limit number (length last + length own) (length r))) [
  | inl next ↦
      let test : begins_next limit number (length (last ++ own)) (length r) ≡ true = ap (λ n. begins_next limit number n (length r)) (length-append last own) ∙ next in
      let all = own ++ (r ++ joined rest) in
      let more = make limit (suc number) [] r rest in
      cond-true _ _ _ test
      ∙ ap (λ ps. (last ++ own) ∷ ps) (more ∙ nothing_behind (cut (pieces limit (suc number) 0 (length r) (map length rest)) (r ++ joined rest)))
      ∙ sym (ap₂ (λ p b. (last ++ p) ∷ cut (pieces limit (suc number) 0 (length r) (map length rest)) b) (take-append_seam own (r ++ joined rest)) (drop-append_seam own (r ++ joined rest)))
      ∙ sym (ap (λ ps. behind last (cut ps all)) (cond-true _ _ _ next))
  | inr not_next ↦
      let test : begins_next limit number (length (last ++ own)) (length r) ≡ false = ap (λ n. begins_next limit number n (length r)) (length-append last own) ∙ not_next in
      let all = own ++ (r ++ joined rest) in
      cond-false _ _ _ test
      ∙ ap (λ l. grown limit number l rest) (append_assoc last own r)
      ∙ make limit number last (own ++ r) rest
      ∙ ap₂ (λ n b. behind last (cut (pieces limit number (length last) n (map length rest)) b)) (length-append own r) (append_assoc own r (joined rest))
      ∙ sym (ap (λ ps. behind last (cut ps all)) (cond-false _ _ _ not_next))
]

pub pieces_make_segments : PiecesMakeSegments
pieces_make_segments limit number last records = ap (λ l. grown limit number l records) (sym (append-nil last)) ∙ make limit number last [] records

-- ---- the pieces so far

module _ (limit number held taken : ℕ) (records : List ℕ) (i : ℕ) (less : i < length records) where
  pub piece_ends : begins_next limit number (held + taken) (get_or records i 0) ≡ true
      → pieces limit number held taken (drop i records) ≡ taken ∷ pieces limit (number + 1) 0 (get_or records i 0) (drop (i + 1) records)
  piece_ends next =
      let number_is : suc number ≡ number + 1 = omega arith in
      ap (pieces limit number held taken) (drop_more records i 0 less) ∙ cond-true _ _ _ next ∙ ap (λ n. taken ∷ pieces limit n 0 (get_or records i 0) (drop (i + 1) records)) number_is

  pub piece_grows : begins_next limit number (held + taken) (get_or records i 0) ≡ false
      → pieces limit number held taken (drop i records) ≡ pieces limit number held (taken + get_or records i 0) (drop (i + 1) records)
  piece_grows next = ap (pieces limit number held taken) (drop_more records i 0 less) ∙ cond-false _ _ _ next
