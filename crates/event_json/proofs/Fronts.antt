-- Where a text may be cut behind ASCII.
use Rattle.std.proofs.Common.{◌≡◌, ℕ, zero, suc, ◌-◌, ◌<◌, ◌≤◌, List, [], ◌∷◌, ◌++◌, length, take, drop, sym, ap, subst, ◌∙◌, arith, length-append}
use Rattle.std.proofs.Math.Seq.{take-append_seam, drop-append_seam}
use Rattle.std.specs.Str.{IsUtf8, IsAscii, IsCharBoundary}
use Rattle.std.proofs.lemmas.Str.{IsCharBoundary-from_take, IsUtf8-from_ascii}
use Rattle.event_json.specs.Stops.{IsRest}

front_length : (text front rest : List ℕ) → text ≡ front ++ rest → length text - length rest ≡ length front
front_length text front rest e = omega (arith, ap length e, length-append front rest)

pub rest_is : (text rest : List ℕ) → IsRest text rest → drop (length text - length rest) text ≡ rest
rest_is text rest h = ap (λ n. drop n text) (front_length text h.0 rest h.2) ∙ ap (drop (length h.0)) h.2 ∙ drop-append_seam h.0 rest

pub rest_within : (text rest : List ℕ) → IsRest text rest → length rest ≤ length text
rest_within text rest h = omega (arith, ap length h.2, length-append h.0 rest)

pub rest_boundary : (text rest : List ℕ) → IsUtf8 text → IsRest text rest → IsCharBoundary text (length text - length rest)
rest_boundary text rest u h =
    let front : take (length h.0) text ≡ h.0 = ap (take (length h.0)) h.2 ∙ take-append_seam h.0 rest in
    subst (IsCharBoundary text) (sym (front_length text h.0 rest h.2)) (IsCharBoundary-from_take text (length h.0) u (omega (arith, ap length h.2, length-append h.0 rest)) (subst (λ (ys : List ℕ). IsUtf8 ys) (sym front) (IsUtf8-from_ascii h.0 h.1)))

pub one_ascii : (b : ℕ) → b < 128 → IsAscii (b ∷ [])
one_ascii b lt zero = lt
one_ascii b lt (suc i) = omega arith

-- behind one byte of ASCII
pub one_rest : (text rest : List ℕ) (b : ℕ) → text ≡ b ∷ rest → b < 128 → IsRest text rest
one_rest text rest b e lt = (b ∷ [], one_ascii b lt, e)
