-- A text that is no path has one first fault, which is the one that is computed.
use Rattle.std.proofs.Common.{◌≡◌, ◌≢◌, ◌==◌, ℕ, suc, ◌+◌, ◌<◌, ◌⊎◌, inl, inr, List, [], ◌∷◌, ◌++◌, length, Bool, false, if◌then◌else◌, refl, sym, ap, ◌∙◌, arith, append_assoc, length-append, Option, Some, None}
use Rattle.std.proofs.lemmas.List.{append-nil}
use Rattle.std.proofs.lemmas.Bool.Decides.{nat_tests}
use Rattle.event_tree.specs.PathTexts.{NoBracket, IsName, AreNames, bracketed, IsPathText, IsPathFault, IsEmptyFault, IsUnclosed, IsStrayOutside, IsStrayInside}
use Rattle.event_tree.specs.declared.fault.PathFault.{PathFault}
use Rattle.event_tree.specs.declared.fault.PathFault.TheVariants.{Empty, Unclosed, Stray, Memory}
use Rattle.event_text.specs.PathReading.{fault_of_names, fault_of_name, fault_of_bare, fault_in}
use Rattle.event_text.proofs.PathReads.{no_open, no_close, other}

abbrev name_fault : ℕ → ℕ → List ℕ → Bool → Bool → Option PathFault
name_fault begin count bs close opens = if close then (if count == 0 then Some Empty else fault_of_names (begin + count + 2) bs) else (if opens then Some (Unclosed begin) else fault_of_name begin (count + 1) bs)

through_name : (begin count : ℕ) (name rest : List ℕ) → NoBracket name → fault_of_name begin count (name ++ rest) ≡ fault_of_name begin (count + length name) rest
through_name begin count [] rest h = ap (λ n. fault_of_name begin n rest) (omega arith)
through_name begin count (b ∷ name) rest h =
    let e : count + 1 + length name ≡ count + suc (length name) = omega arith in
    ap (λ t. name_fault begin count (name ++ rest) t (b == 91)) (no_close b h.0) ∙ ap (λ t. name_fault begin count (name ++ rest) false t) (no_open b h.0)
    ∙ through_name begin (count + 1) name rest h.1 ∙ ap (λ n. fault_of_name begin n rest) e

close_name : (begin : ℕ) (name rest : List ℕ) → IsName name → fault_of_name begin 0 (name ++ 93 ∷ rest) ≡ fault_of_names (begin + length name + 2) rest
close_name begin name rest h =
    let some : (0 + length name == 0) ≡ false = let p = h.0 in grind (arith, nat_tests) in
    let e : begin + (0 + length name) + 2 ≡ begin + length name + 2 = omega arith in
    through_name begin 0 name (93 ∷ rest) h.1 ∙ ap (λ t. if t then Some Empty else fault_of_names (begin + (0 + length name) + 2) rest) some ∙ ap (λ n. fault_of_names n rest) e

through_names : (at : ℕ) (ps : List (List ℕ)) (rest : List ℕ) → AreNames ps → fault_of_names at (bracketed ps ++ rest) ≡ fault_of_names (at + length (bracketed ps)) rest
through_names at [] rest h = ap (λ n. fault_of_names n rest) (omega arith)
through_names at (p ∷ ps) rest h =
    let e : at + length p + 2 + length (bracketed ps) ≡ at + length (91 ∷ (p ++ 93 ∷ bracketed ps)) = omega (arith, length-append p (93 ∷ bracketed ps)) in
    ap (λ l. fault_of_name at 0 l) (append_assoc p (93 ∷ bracketed ps) rest) ∙ close_name at p (bracketed ps ++ rest) h.0 ∙ through_names (at + length p + 2) ps rest h.1 ∙ ap (λ n. fault_of_names n rest) e

opened_fault : (ps : List (List ℕ)) (rest : List ℕ) → fault_in (bracketed ps ++ 91 ∷ rest) ≡ fault_of_names 0 (bracketed ps ++ 91 ∷ rest)
opened_fault [] rest = refl
opened_fault (p ∷ ps) rest = refl

bracketed_fault : (ps : List (List ℕ)) (rest : List ℕ) → 0 < length ps → fault_in (bracketed ps ++ rest) ≡ fault_of_names 0 (bracketed ps ++ rest)
bracketed_fault [] rest h = absurd (omega arith)
bracketed_fault (p ∷ ps) rest h = refl

-- behind parts that are in order
behind_names : (at : ℕ) (ps : List (List ℕ)) (rest : List ℕ) → AreNames ps → at ≡ length (bracketed ps) → fault_of_names 0 (bracketed ps ++ rest) ≡ fault_of_names at rest
behind_names at ps rest h e = through_names 0 ps rest h ∙ ap (λ n. fault_of_names n rest) (omega (arith, e))

pub empty_is : (text : List ℕ) → IsEmptyFault text → fault_in text ≡ Some Empty
empty_is text (inl h) = ap fault_in h
empty_is text (inr h) = ap fault_in h.3 ∙ opened_fault h.0 (93 ∷ h.1) ∙ behind_names (length (bracketed h.0)) h.0 (91 ∷ 93 ∷ h.1) h.2 refl

at_end : (begin count : ℕ) (rest : List ℕ) → (rest ≡ []) ⊎ ((more : List ℕ) × (rest ≡ 91 ∷ more)) → fault_of_name begin count rest ≡ Some (Unclosed begin)
at_end begin count rest (inl e) = ap (fault_of_name begin count) e
at_end begin count rest (inr e) = ap (fault_of_name begin count) e.1

pub unclosed_is : (at : ℕ) (text : List ℕ) → IsUnclosed at text → fault_in text ≡ Some (Unclosed at)
unclosed_is at text h =
    ap fault_in h.5 ∙ opened_fault h.0 (h.1 ++ h.2) ∙ behind_names at h.0 (91 ∷ (h.1 ++ h.2)) h.3 h.7 ∙ through_name at 0 h.1 h.2 h.4 ∙ at_end at (0 + length h.1) h.2 h.6

pub outside_is : (at : ℕ) (text : List ℕ) → IsStrayOutside at text → fault_in text ≡ Some (Stray at)
outside_is at text h =
    ap fault_in h.6 ∙ bracketed_fault h.0 (h.1 ∷ h.2) h.3 ∙ behind_names at h.0 (h.1 ∷ h.2) h.4 h.7 ∙ ap (λ t. if t then fault_of_name at 0 h.2 else Some (Stray at)) (other h.1 91 h.5)

through_bare : (at : ℕ) (name rest : List ℕ) → NoBracket name → fault_of_bare at (name ++ rest) ≡ fault_of_bare (at + length name) rest
through_bare at [] rest h = ap (λ n. fault_of_bare n rest) (omega arith)
through_bare at (b ∷ name) rest h =
    let e : at + 1 + length name ≡ at + suc (length name) = omega arith in
    ap (λ t. if t then Some (Stray at) else fault_of_bare (at + 1) (name ++ rest)) h.0 ∙ through_bare (at + 1) name rest h.1 ∙ ap (λ n. fault_of_bare n rest) e

bare_first : (b : ℕ) (bs : List ℕ) → (b == 91) ≡ false → fault_in (b ∷ bs) ≡ fault_of_bare 0 (b ∷ bs)
bare_first b bs h = ap (λ t. if t then fault_of_names 0 (b ∷ bs) else fault_of_bare 0 (b ∷ bs)) h

bare_begin : (name : List ℕ) (b : ℕ) (more : List ℕ) → NoBracket name → (b ≡ 91 → 0 < length name) → fault_in (name ++ b ∷ more) ≡ fault_of_bare 0 (name ++ b ∷ more)
bare_begin [] b more h some = bare_first b more (other b 91 (λ e. absurd (omega (arith, some e))))
bare_begin (a ∷ name) b more h some = bare_first a (name ++ b ∷ more) (no_open a h.0)

pub inside_is : (at : ℕ) (text : List ℕ) → IsStrayInside at text → fault_in text ≡ Some (Stray at)
inside_is at text h =
    let place : 0 + length h.0 ≡ at = omega (arith, h.7) in
    ap fault_in h.6 ∙ bare_begin h.0 h.1 h.2 h.3 h.5 ∙ through_bare 0 h.0 (h.1 ∷ h.2) h.3 ∙ ap (λ t. if t then Some (Stray (0 + length h.0)) else fault_of_bare (0 + length h.0 + 1) h.2) h.4 ∙ ap (λ n. Some (Stray n)) place

pub no_fault : (ps : List (List ℕ)) (text : List ℕ) → IsPathText ps text → fault_in text ≡ None
no_fault ps text (inl h) = bare_whole text h.0 where
  bare_whole : (name : List ℕ) → IsName name → fault_in name ≡ None
  bare_whole [] h = absurd (omega (arith, h.0))
  bare_whole (b ∷ bs) h = bare_first b bs (no_open b h.1.0) ∙ ap (fault_of_bare 0) (sym (append-nil (b ∷ bs))) ∙ through_bare 0 (b ∷ bs) [] h.1
no_fault ps text (inr h) = ap fault_in (h.2 ∙ sym (append-nil (bracketed ps))) ∙ bracketed_fault ps [] h.0 ∙ through_names 0 ps [] h.1

pub fault_is : (fault : PathFault) (text : List ℕ) → fault ≢ Memory → IsPathFault fault text → fault_in text ≡ Some fault
fault_is Empty text n h = empty_is text h
fault_is (Unclosed at) text n h = unclosed_is at text h
fault_is (Stray at) text n (inl h) = outside_is at text h
fault_is (Stray at) text n (inr h) = inside_is at text h
fault_is Memory text n h = absurd (n refl)
