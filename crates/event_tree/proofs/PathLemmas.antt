-- Texts of paths, part by part.
use Rattle.std.proofs.Common.{◌≡◌, ◌≢◌, ℕ, zero, suc, ◌+◌, ◌-◌, ◌<◌, ◌≤◌, List, [], ◌∷◌, ◌++◌, length, take, drop, get_or, true, false, inl, inr, refl, sym, ap, subst, ◌∙◌, arith, append_assoc, length-append, length-drop, length-take, get_or-drop, drop-cons, add-one}
use Rattle.std.proofs.lemmas.Bool.Decides.{nat_tests}
use Rattle.std.proofs.lemmas.List.{take-append-drop, drop-drop}
use Rattle.event_tree.specs.PathTexts.{is_bracket, NoBracket, IsName, AreNames, bracketed, IsEmptyFault, IsUnclosed, IsStrayInside}
use Rattle.event_tree.proofs.TakeSteps.{no_parts}

pub not_bracket : (b : ℕ) → b ≢ 91 → b ≢ 93 → is_bracket b ≡ false
not_bracket b h k = grind (arith, nat_tests)

pub closing : (b : ℕ) → is_bracket b ≡ true → b ≢ 91 → b ≡ 93
closing b h k = grind (arith, nat_tests)

NoBracket-more : (xs : List ℕ) (k : ℕ) → k < length xs → NoBracket (take k xs) → is_bracket (get_or xs k 0) ≡ false → NoBracket (take (suc k) xs)
NoBracket-more [] k h n b = absurd (omega arith)
NoBracket-more (x ∷ xs) zero h n b = (b, tt)
NoBracket-more (x ∷ xs) (suc k) h n b = (n.0, NoBracket-more xs k (omega arith) n.1 b)

pub NoBracket-next : (bs : List ℕ) (from at : ℕ) → from ≤ at → at < length bs → NoBracket (take (at - from) (drop from bs)) → is_bracket (get_or bs at 0) ≡ false → NoBracket (take (at + 1 - from) (drop from bs))
NoBracket-next bs from at h l n b =
    let k = at - from in
    let s : from + k ≡ at = omega arith in
    let e : at + 1 - from ≡ suc k = omega arith in
    let w : k < length (drop from bs) = omega (arith, length-drop from bs) in
    let v : is_bracket (get_or (drop from bs) k 0) ≡ false = ap is_bracket (get_or-drop from bs k 0 ∙ ap (λ i. get_or bs i 0) s) ∙ b in
    subst (λ i. NoBracket (take i (drop from bs))) (sym e) (NoBracket-more (drop from bs) k w n v)

pub split_at : (xs : List ℕ) (k : ℕ) → k < length xs → xs ≡ take k xs ++ get_or xs k 0 ∷ drop (suc k) xs
split_at xs k h = sym (take-append-drop k xs) ∙ ap (λ l. take k xs ++ l) (drop-cons xs k 0 h)

pub stray_inside : (text : List ℕ) (end : ℕ) → end < length text → NoBracket (take (end - 0) (drop 0 text)) → is_bracket (get_or text end 0) ≡ true → get_or text 0 0 ≢ 91 → IsStrayInside end text
stray_inside text zero h n b bare = (take 0 text, get_or text 0 0, drop 1 text, tt, b, (λ e. absurd (bare e)), split_at text 0 h, refl)
stray_inside text (suc k) h n b bare =
    let e : suc k - 0 ≡ suc k = omega arith in
    let l : length (take (suc k) text) ≡ suc k = omega (arith, length-take (suc k) text) in
    (take (suc k) text, get_or text (suc k) 0, drop (suc (suc k)) text, rw e at n, b, (λ _. omega arith), split_at text (suc k) h, sym l)

bracketed-push : (ps : List (List ℕ)) (p : List ℕ) → bracketed (ps ++ p ∷ []) ≡ bracketed ps ++ 91 ∷ (p ++ 93 ∷ [])
bracketed-push [] p = refl
bracketed-push (q ∷ ps) p = ap (λ l. 91 ∷ (q ++ 93 ∷ l)) (bracketed-push ps p) ∙ simp append_assoc

AreNames-push : (ps : List (List ℕ)) (p : List ℕ) → AreNames ps → IsName p → AreNames (ps ++ p ∷ [])
AreNames-push [] p names n = (n, tt)
AreNames-push (q ∷ ps) p names n = (names.0, AreNames-push ps p names.1 n)

module _ (text : List ℕ) (ps : List (List ℕ)) (at : ℕ) (names : AreNames ps) (front : text ≡ bracketed ps ++ drop at text) (at_end : at ≡ length (bracketed ps)) (within : at < length text) (first : get_or text at 0 ≡ 91) where
  opened : text ≡ bracketed ps ++ 91 ∷ drop (at + 1) text
  opened = front ∙ ap (λ l. bracketed ps ++ l) (drop-cons text at 0 within ∙ ap (λ b. b ∷ drop (suc at) text) first ∙ ap (λ i. 91 ∷ drop i text) (sym (add-one at)))

  abbrev rest : List ℕ
  rest = drop (at + 1) text

  module _ (end : ℕ) (after : at + 1 ≤ end) (last : end ≤ length text) where
    abbrev size : ℕ
    size = end - (at + 1)

    abbrev name : List ℕ
    name = take size rest

    length_name : length name ≡ size
    length_name = omega (arith, length-take size rest, length-drop (at + 1) text)

    named : text ≡ bracketed ps ++ 91 ∷ (name ++ drop size rest)
    named = opened ∙ ap (λ l. bracketed ps ++ 91 ∷ l) (sym (take-append-drop size rest))

    behind : end < length text → drop size rest ≡ get_or text end 0 ∷ drop (suc size) rest
    behind h =
        let w : size < length rest = omega (arith, length-drop (at + 1) text) in
        let s : (at + 1) + size ≡ end = omega arith in
        drop-cons rest size 0 w ∙ ap (λ b. b ∷ drop (suc size) rest) (get_or-drop (at + 1) text size 0 ∙ ap (λ i. get_or text i 0) s)

    pub unclosed_end : NoBracket name → end ≡ length text → IsUnclosed at text
    unclosed_end n e =
        let l : length (drop size rest) ≡ 0 = omega (arith, length-drop size rest, length-drop (at + 1) text) in
        (ps, name, drop size rest, names, n, named, inl (no_parts (drop size rest) l), at_end)

    pub unclosed_open : NoBracket name → end < length text → get_or text end 0 ≡ 91 → IsUnclosed at text
    unclosed_open n h b = (ps, name, drop size rest, names, n, named, inr (drop (suc size) rest, behind h ∙ ap (λ x. x ∷ drop (suc size) rest) b), at_end)

    pub empty_pair : end ≡ at + 1 → end < length text → get_or text end 0 ≡ 93 → IsEmptyFault text
    empty_pair e h b =
        let z : size ≡ 0 = omega arith in
        let d : drop size rest ≡ 93 ∷ drop (suc size) rest = behind h ∙ ap (λ x. x ∷ drop (suc size) rest) b in
        inr (ps, drop (suc size) rest, names, named ∙ ap (λ k. bracketed ps ++ 91 ∷ (take k rest ++ drop size rest)) z ∙ ap (λ l. bracketed ps ++ 91 ∷ l) d)

    -- one part further
    pub closed_names : NoBracket name → at + 1 < end → AreNames (ps ++ name ∷ [])
    closed_names n h = AreNames-push ps name names (omega (arith, length_name), n)

    pub closed_end : end + 1 ≡ length (bracketed (ps ++ name ∷ []))
    closed_end =
        let l : length (name ++ 93 ∷ []) ≡ size + 1 = omega (arith, length_name, length-append name (93 ∷ [])) in
        let k : length (bracketed ps ++ 91 ∷ (name ++ 93 ∷ [])) ≡ at + (1 + length (name ++ 93 ∷ [])) = omega (arith, at_end, length-append (bracketed ps) (91 ∷ (name ++ 93 ∷ []))) in
        let m : end + 1 ≡ length (bracketed ps ++ 91 ∷ (name ++ 93 ∷ [])) = omega (arith, k, l) in
        m ∙ ap length (sym (bracketed-push ps name))

    pub closed_front : end < length text → get_or text end 0 ≡ 93 → text ≡ bracketed (ps ++ name ∷ []) ++ drop (end + 1) text
    closed_front h b =
        let d : drop size rest ≡ 93 ∷ drop (suc size) rest = behind h ∙ ap (λ x. x ∷ drop (suc size) rest) b in
        let s : drop (suc size) rest ≡ drop (end + 1) text = drop-drop (suc size) (at + 1) text ∙ ap (λ i. drop i text) (omega arith) in
        named ∙ ap (λ l. bracketed ps ++ 91 ∷ (name ++ l)) (d ∙ ap (λ l. 93 ∷ l) s)
        ∙ sym (ap (λ l. l ++ drop (end + 1) text) (bracketed-push ps name) ∙ simp append_assoc)
