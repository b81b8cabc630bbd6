-- Strings that are read are in the grammar, with their text.
use Rattle.std.proofs.Common.{◌≡◌, ℕ, zero, suc, ◌+◌, ◌*◌, List, [], ◌∷◌, ◌++◌, Option, Some, None, Result, Ok, Err, refl, sym, ap, ◌∙◌, true, false, ◌==◌, nat_lt, append_assoc, eqb-true}
use Rattle.event_json.specs.Strings.{Piece, plain, short, unit, is_plain, short_of, hex_of, hex_or_0, digit_on, lone, joined, held, unit_of, ArePieces, IsHex, pieces_bytes, pieces_behind, pieces_text}
use Rattle.event_json.specs.Grammar.{string_bytes}
use Rattle.event_json.specs.Reading.{Fault, Inside, plainly, escaped, digits_in, inside_at, turned, short_turn, digit_turn, string_at}
use Rattle.event_json.proofs.Tests.{bool_cases}
use Rattle.event_json.proofs.GrammarFronts.{Fronts}

abbrev pub AreHex : ℕ → List ℕ → Type 0
AreHex zero ds = ds ≡ []
AreHex (suc n) [] = ⊥
AreHex (suc n) (d ∷ ds) = IsHex d × AreHex n ds

abbrev pub digits_on : ℕ → List ℕ → ℕ
digits_on u [] = u
digits_on u (d ∷ ds) = digits_on (digit_on u d) ds

-- from a place in a string to its end: pieces and the quote, and the text with what was found before
abbrev pub IsInside : Inside → Option ℕ → List ℕ → List ℕ → List ℕ → Type 0
IsInside plainly w found front s = (ps : List Piece) × ArePieces ps × (front ≡ pieces_bytes ps ++ 34 ∷ []) × (found ++ pieces_behind w ps ≡ s)
IsInside escaped w found front s = (ps : List Piece) × ArePieces ps × (92 ∷ front ≡ pieces_bytes ps ++ 34 ∷ []) × (found ++ pieces_behind w ps ≡ s)
IsInside (digits_in n u) w found front s = (ds : List ℕ) × AreHex (suc n) ds × (ps : List Piece) × ArePieces ps × (front ≡ ds ++ (pieces_bytes ps ++ 34 ∷ [])) × (found ++ (joined w (digits_on u ds) ++ pieces_behind (held (digits_on u ds)) ps) ≡ s)

abbrev pub InsideRead : Inside → Option ℕ → List ℕ → List ℕ → Result (List ℕ × List ℕ) Fault → Type 0
InsideRead place w found bytes (Ok x) = Fronts (λ front. IsInside place w found front x.0) bytes x.1
InsideRead place w found bytes (Err f) = Unit {0}

-- one byte before
read_on : (p q : Inside) (w x : Option ℕ) (found more : List ℕ) (b : ℕ) (bs : List ℕ) (read : Result (List ℕ × List ℕ) Fault) → ((front s : List ℕ) → IsInside q x more front s → IsInside p w found (b ∷ front) s) → InsideRead q x more bs read → InsideRead p w found (b ∷ bs) read
read_on p q w x found more b bs (Ok y) f h = (b ∷ h.0, f h.0 y.0 h.1, ap (λ ys. b ∷ ys) h.2)
read_on p q w x found more b bs (Err e) f h = tt

closes : (b : ℕ) (bs : List ℕ) (w : Option ℕ) (found : List ℕ) → (b == 34) ≡ true → InsideRead plainly w found (b ∷ bs) (Ok (found ++ lone w, bs))
closes b bs w found e = (34 ∷ [], ([], tt, refl, refl), ap (λ x. x ∷ bs) (eqb-true b 34 e))

escapes : (b : ℕ) (w : Option ℕ) (found front s : List ℕ) → (b == 92) ≡ true → IsInside escaped w found front s → IsInside plainly w found (b ∷ front) s
escapes b w found front s e h = (h.0, h.1, ap (λ x. x ∷ front) (eqb-true b 92 e) ∙ h.2, h.3)

plain_is : (b : ℕ) → (b == 34) ≡ false → (b == 92) ≡ false → nat_lt b 32 ≡ false → is_plain b ≡ true
plain_is b x y z = rw (z, x, y) refl

plainer : (b : ℕ) (w : Option ℕ) (found front s : List ℕ) → is_plain b ≡ true → IsInside plainly None (found ++ (lone w ++ b ∷ [])) front s → IsInside plainly w found (b ∷ front) s
plainer b w found front s e h = (plain b ∷ h.0, (e, h.1), ap (λ ys. b ∷ ys) h.2, sym (append_assoc found (lone w ++ b ∷ []) (pieces_behind None h.0) ∙ ap (λ ys. found ++ ys) (append_assoc (lone w) (b ∷ []) (pieces_behind None h.0))) ∙ h.3)

shorter : (b c : ℕ) (w : Option ℕ) (found front s : List ℕ) → short_of b ≡ Some c → IsInside plainly None (found ++ (lone w ++ c ∷ [])) front s → IsInside escaped w found (b ∷ front) s
shorter b c w found front s e h = (short b ∷ h.0, ((c, e), h.1), ap (λ ys. 92 ∷ b ∷ ys) h.2, ap (λ o. found ++ (lone w ++ hex_or_0 o ∷ pieces_behind None h.0)) e ∙ sym (append_assoc found (lone w ++ c ∷ []) (pieces_behind None h.0) ∙ ap (λ ys. found ++ ys) (append_assoc (lone w) (c ∷ []) (pieces_behind None h.0))) ∙ h.3)

units : (b : ℕ) (w : Option ℕ) (found front s : List ℕ) → (b == 117) ≡ true → IsInside (digits_in 3 0) w found front s → IsInside escaped w found (b ∷ front) s
units b w found front s e ([], hex, ps, are, is, text) = absurd hex
units b w found front s e (d1 ∷ [], hex, ps, are, is, text) = absurd hex.1
units b w found front s e (d1 ∷ d2 ∷ [], hex, ps, are, is, text) = absurd hex.1.1
units b w found front s e (d1 ∷ d2 ∷ d3 ∷ [], hex, ps, are, is, text) = absurd hex.1.1.1
units b w found front s e (d1 ∷ d2 ∷ d3 ∷ d4 ∷ ds, hex, ps, are, is, text) =
    let nil : ds ≡ [] = hex.1.1.1.1 in (
      unit d1 d2 d3 d4 ∷ ps,
      ((hex.0, hex.1.0, hex.1.1.0, hex.1.1.1.0), are),
      ap (λ x. 92 ∷ x ∷ front) (eqb-true b 117 e) ∙ ap (λ ys. 92 ∷ 117 ∷ ys) is ∙ ap (λ ys. 92 ∷ 117 ∷ d1 ∷ d2 ∷ d3 ∷ d4 ∷ (ys ++ (pieces_bytes ps ++ 34 ∷ []))) nil,
      ap (λ ys. found ++ (joined w (digits_on (unit_of d1 d2 d3 d4) ys) ++ pieces_behind (held (digits_on (unit_of d1 d2 d3 d4) ys)) ps)) (sym nil) ∙ text,
    )

last_digit : (b d u : ℕ) (w : Option ℕ) (found front s : List ℕ) → hex_of b ≡ Some d → IsInside plainly (held (16 * u + d)) (found ++ joined w (16 * u + d)) front s → IsInside (digits_in 0 u) w found (b ∷ front) s
last_digit b d u w found front s e h =
    let i : digit_on u b ≡ 16 * u + d = ap (λ o. 16 * u + hex_or_0 o) e in
    (b ∷ [], ((d, e), refl), h.0, h.1, ap (λ ys. b ∷ ys) h.2, ap (λ x. found ++ (joined w x ++ pieces_behind (held x) h.0)) i ∙ sym (append_assoc found (joined w (16 * u + d)) (pieces_behind (held (16 * u + d)) h.0)) ∙ h.3)

next_digit : (b d n u : ℕ) (w : Option ℕ) (found front s : List ℕ) → hex_of b ≡ Some d → IsInside (digits_in n (16 * u + d)) w found front s → IsInside (digits_in (suc n) u) w found (b ∷ front) s
next_digit b d n u w found front s e (ds, hex, ps, are, is, text) =
    let i : digit_on u b ≡ 16 * u + d = ap (λ o. 16 * u + hex_or_0 o) e in
    (b ∷ ds, ((d, e), hex), ps, are, ap (λ ys. b ∷ ys) is, ap (λ x. found ++ (joined w (digits_on x ds) ++ pieces_behind (held (digits_on x ds)) ps)) i ∙ text)

abbrev AllRead : List ℕ → Type 0
AllRead bs = (place : Inside) (w : Option ℕ) (found : List ℕ) → InsideRead place w found bs (inside_at bs place w found)

by_short : (b : ℕ) (bs : List ℕ) (w : Option ℕ) (found : List ℕ) → AllRead bs → (o : Option ℕ) → short_of b ≡ o → InsideRead escaped w found (b ∷ bs) (turned (short_turn o w found) (inside_at bs) bs)
by_short b bs w found ih None e = tt
by_short b bs w found ih (Some c) e = read_on escaped plainly w None found (found ++ (lone w ++ c ∷ [])) b bs (inside_at bs plainly None (found ++ (lone w ++ c ∷ []))) (λ front s h. shorter b c w found front s e h) (ih plainly None (found ++ (lone w ++ c ∷ [])))

by_last : (b : ℕ) (bs : List ℕ) (u : ℕ) (w : Option ℕ) (found : List ℕ) → AllRead bs → (o : Option ℕ) → hex_of b ≡ o → InsideRead (digits_in zero u) w found (b ∷ bs) (turned (digit_turn o zero u w found) (inside_at bs) bs)
by_last b bs u w found ih None e = tt
by_last b bs u w found ih (Some d) e = read_on (digits_in zero u) plainly w (held (16 * u + d)) found (found ++ joined w (16 * u + d)) b bs (inside_at bs plainly (held (16 * u + d)) (found ++ joined w (16 * u + d))) (λ front s h. last_digit b d u w found front s e h) (ih plainly (held (16 * u + d)) (found ++ joined w (16 * u + d)))

by_next : (b : ℕ) (bs : List ℕ) (n u : ℕ) (w : Option ℕ) (found : List ℕ) → AllRead bs → (o : Option ℕ) → hex_of b ≡ o → InsideRead (digits_in (suc n) u) w found (b ∷ bs) (turned (digit_turn o (suc n) u w found) (inside_at bs) bs)
by_next b bs n u w found ih None e = tt
by_next b bs n u w found ih (Some d) e = read_on (digits_in (suc n) u) (digits_in n (16 * u + d)) w w found found b bs (inside_at bs (digits_in n (16 * u + d)) w found) (λ front s h. next_digit b d n u w found front s e h) (ih (digits_in n (16 * u + d)) w found)

by_plain : (b : ℕ) (bs : List ℕ) (w : Option ℕ) (found : List ℕ) → AllRead bs → InsideRead plainly w found (b ∷ bs) (inside_at (b ∷ bs) plainly w found)
unfolding inside_at
by_plain b bs w found ih = bool_cases (b == 34)
    (λ x. rw x (closes b bs w found x))
    (λ x. bool_cases (b == 92)
    (λ y. rw (x, y) (read_on plainly escaped w w found found b bs (inside_at bs escaped w found) (λ front s h. escapes b w found front s y h) (ih escaped w found)))
    (λ y. bool_cases (nat_lt b 32)
    (λ z. rw (x, y, z) tt)
    (λ z. rw (x, y, z) (read_on plainly plainly w None found (found ++ (lone w ++ b ∷ [])) b bs (inside_at bs plainly None (found ++ (lone w ++ b ∷ []))) (λ front s h. plainer b w found front s (plain_is b x y z) h) (ih plainly None (found ++ (lone w ++ b ∷ [])))))))

by_escape : (b : ℕ) (bs : List ℕ) (w : Option ℕ) (found : List ℕ) → AllRead bs → InsideRead escaped w found (b ∷ bs) (inside_at (b ∷ bs) escaped w found)
unfolding inside_at
by_escape b bs w found ih = bool_cases (b == 117)
    (λ x. rw x (read_on escaped (digits_in 3 0) w w found found b bs (inside_at bs (digits_in 3 0) w found) (λ front s h. units b w found front s x h) (ih (digits_in 3 0) w found)))
    (λ x. rw x (by_short b bs w found ih (short_of b) refl))

pub inside_reads : (bs : List ℕ) (place : Inside) (w : Option ℕ) (found : List ℕ) → InsideRead place w found bs (inside_at bs place w found)
unfolding inside_at
inside_reads [] place w found = tt
inside_reads (b ∷ bs) plainly w found = by_plain b bs w found (inside_reads bs)
inside_reads (b ∷ bs) escaped w found = by_escape b bs w found (inside_reads bs)
inside_reads (b ∷ bs) (digits_in zero u) w found = by_last b bs u w found (inside_reads bs) (hex_of b) refl
inside_reads (b ∷ bs) (digits_in (suc n) u) w found = by_next b bs n u w found (inside_reads bs) (hex_of b) refl

-- behind the quote that opens: the pieces with the quote that closes, and their text
abbrev pub IsStringOf : List ℕ → List ℕ → Type 0
IsStringOf front s = (ps : List Piece) × ArePieces ps × (34 ∷ front ≡ string_bytes ps) × (pieces_text ps ≡ s)

abbrev pub ReadAs : {A : Type 0} → (List ℕ → A → Type 0) → List ℕ → Result (A × List ℕ) Fault → Type 0
ReadAs P bytes (Ok x) = Fronts (λ front. P front x.0) bytes x.1
ReadAs P bytes (Err f) = Unit {0}

string_of : (bs : List ℕ) (read : Result (List ℕ × List ℕ) Fault) → InsideRead plainly None [] bs read → ReadAs IsStringOf bs read
string_of bs (Ok x) h = (h.0, (h.1.0, h.1.1, ap (λ ys. 34 ∷ ys) h.1.2, h.1.3), h.2)
string_of bs (Err e) h = tt

pub string_reads : (bs : List ℕ) → ReadAs IsStringOf bs (string_at bs)
string_reads bs = string_of bs (inside_at bs plainly None []) (inside_reads bs plainly None [])
