-- One step of the loop that writes a backslash before each `/`.
use Rattle.std.proofs.Common.{◌≡◌, ℕ, ◌+◌, ◌-◌, ◌<◌, ◌≤◌, ◌==◌, List, [], ◌∷◌, ◌++◌, length, take, drop, get_or, true, false, if◌then◌else◌, ap, sym, ◌∙◌, append_assoc, arith}
use Rattle.std.proofs.lemmas.List.{drop_more}
use Rattle.config_lex.proofs.Scans.{part_more, equal_is, unequal_is}
use Rattle.config_print.specs.Tokens.{escaped}

escaped_slash : (s : List ℕ) (i : ℕ) → i < length s → (get_or s i 0 == 47) ≡ true → escaped (drop i s) ≡ 92 ∷ 47 ∷ escaped (drop (i + 1) s)
escaped_slash s i l h = ap escaped (drop_more s i 0 l) ∙ ap (λ b. (if b then 92 ∷ 47 ∷ [] else get_or s i 0 ∷ []) ++ escaped (drop (i + 1) s)) h

escaped_kept : (s : List ℕ) (i : ℕ) → i < length s → (get_or s i 0 == 47) ≡ false → escaped (drop i s) ≡ get_or s i 0 ∷ escaped (drop (i + 1) s)
escaped_kept s i l h = ap escaped (drop_more s i 0 l) ∙ ap (λ b. (if b then 92 ∷ 47 ∷ [] else get_or s i 0 ∷ []) ++ escaped (drop (i + 1) s)) h

nothing : (a : ℕ) → a - a ≡ 0
nothing a = omega arith

pub at_slash : (text done whole to : List ℕ) (from at next : ℕ) → at < length text → get_or text at 0 ≡ 47 → to ≡ (done ++ take (at - from) (drop from text)) ++ 92 ∷ [] → next ≡ at
    → done ++ (take (at - from) (drop from text) ++ escaped (drop at text)) ≡ whole → to ++ (take (at + 1 - next) (drop next text) ++ escaped (drop (at + 1) text)) ≡ whole
at_slash text done whole to from at next l slash is same e =
    let run = take (at - from) (drop from text) in
    let rest = escaped (drop (at + 1) text) in
    let one : take (at + 1 - at) (drop at text) ++ rest ≡ 47 ∷ rest = sym (part_more text at at (omega arith) l rest) ∙ ap (λ k. take k (drop at text) ++ get_or text at 0 ∷ rest) (nothing at) ∙ ap (λ b. b ∷ rest) slash in
    ap (λ k. to ++ (take (at + 1 - k) (drop k text) ++ rest)) same ∙ ap (λ z. to ++ z) one ∙ ap (λ z. z ++ 47 ∷ rest) is ∙ append_assoc (done ++ run) (92 ∷ []) (47 ∷ rest) ∙ append_assoc done run (92 ∷ 47 ∷ rest)
    ∙ ap (λ z. done ++ (run ++ z)) (sym (escaped_slash text at l (equal_is (get_or text at 0) 47 slash))) ∙ e

pub at_other : (text done whole to : List ℕ) (from at next : ℕ) → from ≤ at → at < length text → (get_or text at 0 ≡ 47 → ⊥) → to ≡ done → next ≡ from
    → done ++ (take (at - from) (drop from text) ++ escaped (drop at text)) ≡ whole → to ++ (take (at + 1 - next) (drop next text) ++ escaped (drop (at + 1) text)) ≡ whole
at_other text done whole to from at next behind l other is same e =
    let rest = escaped (drop (at + 1) text) in
    ap (λ k. to ++ (take (at + 1 - k) (drop k text) ++ rest)) same ∙ ap (λ z. z ++ (take (at + 1 - from) (drop from text) ++ rest)) is
    ∙ ap (λ z. done ++ z) (sym (part_more text from at behind l rest)) ∙ ap (λ z. done ++ (take (at - from) (drop from text) ++ z)) (sym (escaped_kept text at l (unequal_is (get_or text at 0) 47 other))) ∙ e
