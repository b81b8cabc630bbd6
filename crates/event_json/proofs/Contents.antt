-- Steps within a string, many bytes at once.
use Rattle.std.proofs.Common.{◌≡◌, ℕ, suc, ◌+◌, ◌*◌, ◌-◌, ◌<◌, ◌≤◌, List, [], ◌∷◌, ◌++◌, length, take, drop, refl, sym, ap, subst, ◌∙◌, arith, append_assoc, Option, Some, None, Result, Ok, Err, Bool, true, false, ◌==◌, nat_lt, eqb-true, length-drop, length-take}
use Rattle.std.specs.Prelude.{encode_utf8}
use Rattle.std.proofs.lemmas.Str.{encode_ascii}
use Rattle.std.proofs.lemmas.List.{append-nil}
use Rattle.std.proofs.lemmas.Bool.Decides.{nat_tests}
use Rattle.std.specs.Str.{IsAscii}
use Rattle.std.proofs.lemmas.Str.{IsAscii-append}
use Rattle.event_json.specs.Strings.{is_plain, lone, joined, held, hex_of, short_of}
use Rattle.event_json.specs.Reading.{Fault, At, Deep, ◌>>=◌, Inside, plainly, escaped, digits_in, inside_at, turn, turned}
use Rattle.std.proofs.lemmas.Bool.{false_from_ne_true}
use Rattle.event_json.specs.declared.fault.JsonStop.{JsonStop}
use Rattle.event_json.specs.declared.fault.JsonStop.TheVariants as stops
use Rattle.event_json.specs.Stops.{Fails, IsRest, plain_run, after_plain_run, IsSpecial, hex_at, hex_behind, unit_at}
use Rattle.event_json.proofs.Fronts.{one_rest}

pub bool_cases : {P : Type 0} (t : Bool) → (t ≡ true → P) → (t ≡ false → P) → P
bool_cases true f g = f refl
bool_cases false f g = g refl

plain_tests : (b : ℕ) → is_plain b ≡ true → ((b == 34) ≡ false) × ((b == 92) ≡ false) × (nat_lt b 32 ≡ false)
plain_tests b e = (grind (arith, nat_tests), grind (arith, nat_tests), grind (arith, nat_tests))

run_first : (b : ℕ) (bs : List ℕ) (w : Option ℕ) (found : List ℕ) → is_plain b ≡ true → inside_at (b ∷ bs) plainly w found ≡ inside_at bs plainly None (found ++ (lone w ++ b ∷ []))
unfolding inside_at
run_first b bs w found e = let t = plain_tests b e in rw (t.0, t.1, t.2) refl

run_all : (bs found : List ℕ) → inside_at bs plainly None found ≡ inside_at (after_plain_run bs) plainly None (found ++ plain_run bs)
run_all [] found = ap (inside_at [] plainly None) (sym (append-nil found))
run_all (b ∷ bs) found = bool_cases (is_plain b)
    (λ e. rw e (run_first b bs None found e ∙ run_all bs (found ++ b ∷ []) ∙ ap (inside_at (after_plain_run bs) plainly None) (append_assoc found (b ∷ []) (plain_run bs))))
    (λ e. rw e (ap (inside_at (b ∷ bs) plainly None) (sym (append-nil found))))

-- a run that isn't empty
pub run_taken : (bs : List ℕ) (w : Option ℕ) (found : List ℕ) → (plain_run bs ≡ [] → ⊥) → inside_at bs plainly w found ≡ inside_at (after_plain_run bs) plainly None (found ++ (lone w ++ plain_run bs))
run_taken [] w found some = absurd (some refl)
run_taken (b ∷ bs) w found some = bool_cases (is_plain b)
    (λ e. rw e (run_first b bs w found e ∙ run_all bs (found ++ (lone w ++ b ∷ [])) ∙ ap (inside_at (after_plain_run bs) plainly None) (append_assoc found (lone w ++ b ∷ []) (plain_run bs) ∙ ap (λ ys. found ++ ys) (append_assoc (lone w) (b ∷ []) (plain_run bs)))))
    (λ e. absurd (some (rw e refl)))

pub after_run_special : (bs : List ℕ) → IsSpecial (after_plain_run bs)
after_run_special [] = tt
after_run_special (b ∷ bs) = bool_cases (is_plain b) (λ e. rw e (after_run_special bs)) (λ e. rw e e)

-- ---- units

pub bind_same : {A B : Type 0} (r : Result A Fault) (f g : A → Result B Fault) → ((x : A) → f x ≡ g x) → (r >>= f) ≡ (r >>= g)
bind_same (Ok x) f g h = h x
bind_same (Err e) f g h = refl

digit_step : (bs : List ℕ) (n u : ℕ) (w : Option ℕ) (f : List ℕ) → inside_at bs (digits_in (suc n) u) w f ≡ (hex_at bs >>= λ x. inside_at x.1 (digits_in n (16 * u + x.0)) w f)
unfolding inside_at
digit_step [] n u w f = refl
digit_step (b ∷ bs) n u w f = elim (hex_of b) as (λ o. turned (Rattle.event_json.specs.Reading.digit_turn o (suc n) u w f) (inside_at bs) bs ≡ (hex_behind o bs >>= λ x. inside_at x.1 (digits_in n (16 * u + x.0)) w f)) [ None ↦ refl | Some d ↦ refl ]

last_digit : (bs : List ℕ) (u : ℕ) (w : Option ℕ) (f : List ℕ) → inside_at bs (digits_in 0 u) w f ≡ (hex_at bs >>= λ x. inside_at x.1 plainly (held (16 * u + x.0)) (f ++ joined w (16 * u + x.0)))
unfolding inside_at
last_digit [] u w f = refl
last_digit (b ∷ bs) u w f = elim (hex_of b) as (λ o. turned (Rattle.event_json.specs.Reading.digit_turn o 0 u w f) (inside_at bs) bs ≡ (hex_behind o bs >>= λ x. inside_at x.1 plainly (held (16 * u + x.0)) (f ++ joined w (16 * u + x.0)))) [ None ↦ refl | Some d ↦ refl ]

abbrev behind_unit : Option ℕ → List ℕ → ℕ × List ℕ → Result (List ℕ × List ℕ) Fault
behind_unit w f x = inside_at x.1 plainly (held x.0) (f ++ joined w x.0)

bind_on : {A B C : Type 0} (r : Result A Fault) (f : A → Result B Fault) (g : B → Result C Fault) → ((r >>= f) >>= g) ≡ (r >>= λ x. f x >>= g)
bind_on (Ok x) f g = refl
bind_on (Err e) f g = refl

pub unit_inside : (bs : List ℕ) (w : Option ℕ) (f : List ℕ) → inside_at bs (digits_in 3 0) w f ≡ (unit_at bs >>= behind_unit w f)
unfolding unit_at
unit_inside bs w f =
    digit_step bs 2 0 w f ∙ bind_same (hex_at bs) _ _ (λ a.
    let z : 16 * 0 + a.0 ≡ a.0 = omega arith in
    ap (λ u. inside_at a.1 (digits_in 2 u) w f) z ∙ digit_step a.1 1 a.0 w f ∙ bind_same (hex_at a.1) _ _ (λ b.
    digit_step b.1 0 (16 * a.0 + b.0) w f ∙ bind_same (hex_at b.1) _ _ (λ c.
    last_digit c.1 (16 * (16 * a.0 + b.0) + c.0) w f ∙ bind_same (hex_at c.1) _ (λ d. Ok (16 * (16 * (16 * a.0 + b.0) + c.0) + d.0, d.1) >>= behind_unit w f) (λ d. refl) ∙ sym (bind_on (hex_at c.1) (λ d. Ok (16 * (16 * (16 * a.0 + b.0) + c.0) + d.0, d.1)) (behind_unit w f)))
    ∙ sym (bind_on (hex_at b.1) _ (behind_unit w f)))
    ∙ sym (bind_on (hex_at a.1) _ (behind_unit w f)))
    ∙ sym (bind_on (hex_at bs) _ (behind_unit w f))

-- the same, as read
pub unit_read : (bs rest : List ℕ) (u : ℕ) (w : Option ℕ) (f : List ℕ) → unit_at bs ≡ Ok (u, rest) → inside_at (117 ∷ bs) escaped w f ≡ inside_at rest plainly (held u) (f ++ joined w u)
unfolding inside_at
unit_read bs rest u w f e = unit_inside bs w f ∙ ap (λ (r : Result (ℕ × List ℕ) Fault). r >>= behind_unit w f) e

pub unit_refused : (bs : List ℕ) (w : Option ℕ) (f : List ℕ) (stop : JsonStop) → Fails stop (unit_at bs) → Fails stop (inside_at (117 ∷ bs) escaped w f)
unfolding inside_at
unit_refused bs w f stops.Memory h = tt
unit_refused bs w f (stops.At k) h = unit_inside bs w f ∙ ap (λ (r : Result (ℕ × List ℕ) Fault). r >>= behind_unit w f) h
unit_refused bs w f (stops.Deep k) h = unit_inside bs w f ∙ ap (λ (r : Result (ℕ × List ℕ) Fault). r >>= behind_unit w f) h

-- ---- short escapes

no_letter : (b : ℕ) (bs : List ℕ) → ((rest : List ℕ) → ◌≡◌ {A = List ℕ} (b ∷ bs) (117 ∷ rest) → ⊥) → (b == 117) ≡ false
no_letter b bs never = false_from_ne_true (b == 117) (λ t. never bs (ap (λ (y : ℕ). y ∷ bs) (eqb-true b 117 t)))

pub short_read : (text rest : List ℕ) (b c : ℕ) (w : Option ℕ) (f : List ℕ) → text ≡ b ∷ rest → ((rest : List ℕ) → text ≡ 117 ∷ rest → ⊥) → short_of b ≡ Some c → inside_at text escaped w f ≡ inside_at rest plainly None (f ++ (lone w ++ c ∷ []))
unfolding inside_at
short_read text rest b c w f e never s = rw e (rw (no_letter b rest (λ r h. never r (e ∙ h)), s) refl)

pub short_refused : (text rest : List ℕ) (b : ℕ) (w : Option ℕ) (f : List ℕ) → text ≡ b ∷ rest → ((rest : List ℕ) → text ≡ 117 ∷ rest → ⊥) → short_of b ≡ None → inside_at text escaped w f ≡ Err (At (length text))
unfolding inside_at
short_refused text rest b w f e never s = rw e (rw (no_letter b rest (λ r h. never r (e ∙ h)), s) refl)

pub nothing_behind : (text : List ℕ) (place : Inside) (w : Option ℕ) (f : List ℕ) → length text ≡ 0 → inside_at text place w f ≡ Err (At (length text))
unfolding inside_at
nothing_behind [] place w f e = refl
nothing_behind (b ∷ bs) place w f e = absurd (omega arith)

-- ---- the end of a string, and a control character

pub quote_ends : (text rest : List ℕ) (w : Option ℕ) (f : List ℕ) → text ≡ 34 ∷ rest → inside_at text plainly w f ≡ Ok (f ++ lone w, rest)
unfolding inside_at
quote_ends text rest w f e = rw e refl

pub slash_on : (text rest : List ℕ) (w : Option ℕ) (f : List ℕ) → text ≡ 92 ∷ rest → inside_at text plainly w f ≡ inside_at rest escaped w f
unfolding inside_at
slash_on text rest w f e = rw e refl

pub special_refused : (text : List ℕ) (w : Option ℕ) (f : List ℕ) → IsSpecial text → ((rest : List ℕ) → text ≡ 34 ∷ rest → ⊥) → ((rest : List ℕ) → text ≡ 92 ∷ rest → ⊥) → inside_at text plainly w f ≡ Err (At (length text))
unfolding inside_at
special_refused [] w f s q e = refl
special_refused (b ∷ bs) w f s q e =
    let x : (b == 34) ≡ false = false_from_ne_true (b == 34) (λ t. q bs (ap (λ (y : ℕ). y ∷ bs) (eqb-true b 34 t))) in
    let y : (b == 92) ≡ false = false_from_ne_true (b == 92) (λ t. e bs (ap (λ (y : ℕ). y ∷ bs) (eqb-true b 92 t))) in
    let z : nat_lt b 32 ≡ true = control b x y s in
    rw (x, y, z) refl
  where
    control : (b : ℕ) → (b == 34) ≡ false → (b == 92) ≡ false → is_plain b ≡ false → nat_lt b 32 ≡ true
    control b x y s = grind (arith, nat_tests)

-- ---- rests

abbrev pub Rests : {A : Type 0} → List ℕ → Result (A × List ℕ) Fault → Type 0
Rests bytes (Ok x) = IsRest bytes x.1
Rests bytes (Err e) = Unit {0}

both_ascii : (s t : List ℕ) → IsAscii s → IsAscii t → IsAscii (s ++ t)
both_ascii s t h k = IsAscii-append s t h k

pub rest_on : (a b c : List ℕ) → IsRest a b → IsRest b c → IsRest a c
rest_on a b c h k = (h.0 ++ k.0, both_ascii h.0 k.0 h.1 k.1, h.2 ∙ ap (λ ys. h.0 ++ ys) k.2 ∙ sym (append_assoc h.0 k.0 c))

rests_on : {A : Type 0} (a b : List ℕ) (r : Result (A × List ℕ) Fault) → IsRest a b → Rests b r → Rests a r
rests_on a b (Ok x) h k = rest_on a b x.1 h k
rests_on a b (Err e) h k = tt

rests_bind : {A B : Type 0} (bs : List ℕ) (r : Result (A × List ℕ) Fault) (f : A × List ℕ → Result (B × List ℕ) Fault) → Rests bs r → ((x : A × List ℕ) → Rests x.1 (f x)) → Rests bs (r >>= f)
rests_bind bs (Ok x) f h k = rests_on bs x.1 (f x) h (k x)
rests_bind bs (Err e) f h k = tt

hex_ascii : (b d : ℕ) → hex_of b ≡ Some d → b < 128
hex_ascii b d e = bool_cases (nat_lt b 128) (λ t. grind (arith, nat_tests)) (λ t. absurd (none_hex b t d e))
  where
    none_hex : (b : ℕ) → nat_lt b 128 ≡ false → (d : ℕ) → hex_of b ≡ Some d → ⊥
    none_hex b t d e = grind (arith, nat_tests)

hex_rest : (b : ℕ) (bs : List ℕ) (o : Option ℕ) → hex_of b ≡ o → Rests (b ∷ bs) (hex_behind o bs)
hex_rest b bs None e = tt
hex_rest b bs (Some d) e = one_rest (b ∷ bs) bs b refl (hex_ascii b d e)

hex_rests : (bs : List ℕ) → Rests bs (hex_at bs)
hex_rests [] = tt
hex_rests (b ∷ bs) = hex_rest b bs (hex_of b) refl

ok_rest : {A : Type 0} (x : A) (bs : List ℕ) → Rests bs (Ok (x, bs))
ok_rest x bs = ([], (λ i. omega arith), refl)

pub unit_rests : (bs : List ℕ) → Rests bs (unit_at bs)
unfolding unit_at
unit_rests bs = rests_bind bs (hex_at bs) _ (hex_rests bs) (λ a. rests_bind a.1 (hex_at a.1) _ (hex_rests a.1) (λ b. rests_bind b.1 (hex_at b.1) _ (hex_rests b.1) (λ c. rests_bind c.1 (hex_at c.1) _ (hex_rests c.1) (λ d. ok_rest (16 * (16 * (16 * a.0 + b.0) + c.0) + d.0) d.1))))

rest_at : {A : Type 0} (bs rest : List ℕ) (x : A) (r : Result (A × List ℕ) Fault) → r ≡ Ok (x, rest) → Rests bs r → IsRest bs rest
rest_at bs rest x r e h = rw e at h

pub unit_rest : (bs rest : List ℕ) (u : ℕ) → unit_at bs ≡ Ok (u, rest) → IsRest bs rest
unit_rest bs rest u e = rest_at bs rest u (unit_at bs) e (unit_rests bs)

-- ---- what was added

pub added_short : (old middle new : List ℕ) (w : Option ℕ) (c : ℕ) → c < 128 → middle ≡ old ++ lone w → new ≡ middle ++ encode_utf8 c → old ++ (lone w ++ c ∷ []) ≡ new
added_short old middle new w c lt h k = sym (append_assoc old (lone w) (c ∷ [])) ∙ ap (λ ys. ys ++ c ∷ []) (sym h) ∙ ap (λ ys. middle ++ ys) (sym (encode_ascii c lt)) ∙ sym k

run_some : (text : List ℕ) (n : ℕ) → plain_run text ≡ take n text → n ≤ length text → (n ≡ 0 → ⊥) → plain_run text ≡ [] → ⊥
run_some text n h le some e = some (omega (arith, ap length (sym h ∙ e), length-take n text))

pub run_passes : (bs text piece rest : List ℕ) (n : ℕ) (w : Option ℕ) (old middle new : List ℕ) → bs ≡ text → plain_run bs ≡ take n bs → after_plain_run bs ≡ drop n bs → n ≤ length bs → (n ≡ 0 → ⊥) → piece ≡ take (n - 0) text → rest ≡ drop n text → middle ≡ old ++ lone w → new ≡ middle ++ piece
    → (inside_at text plainly w old ≡ inside_at rest plainly None new) × (length rest ≤ length text)
run_passes bs text piece rest n w old middle new same h k le some p r m e =
    let z : n - 0 ≡ n = omega arith in
    let front : plain_run text ≡ piece = ap plain_run (sym same) ∙ h ∙ ap (take n) same ∙ ap (λ i. take i text) (sym z) ∙ sym p in
    let behind : after_plain_run text ≡ rest = ap after_plain_run (sym same) ∙ k ∙ ap (drop n) same ∙ sym r in
    let here : plain_run text ≡ take n text = ap plain_run (sym same) ∙ h ∙ ap (take n) same in
    let all : old ++ (lone w ++ plain_run text) ≡ new = ap (λ ys. old ++ (lone w ++ ys)) front ∙ sym (append_assoc old (lone w) piece) ∙ ap (λ ys. ys ++ piece) (sym m) ∙ sym e in
    let one : inside_at text plainly w old ≡ inside_at rest plainly None new = run_taken text w old (run_some text n here (omega (arith, ap length same)) some) ∙ ap (λ r. inside_at r plainly None (old ++ (lone w ++ plain_run text))) behind ∙ ap (inside_at rest plainly None) all in
    (one, omega (arith, ap length r, length-drop n text))

pub run_leaves : (bs text rest : List ℕ) (n : ℕ) → bs ≡ text → after_plain_run bs ≡ drop n bs → rest ≡ drop n text → IsSpecial rest
run_leaves bs text rest n same k r = subst (λ (ys : List ℕ). IsSpecial ys) (k ∙ ap (drop n) same ∙ sym r) (after_run_special bs)

-- where no plain byte stands in front
pub run_none : (bs text : List ℕ) → bs ≡ text → after_plain_run bs ≡ drop 0 bs → IsSpecial text
run_none bs text same k = subst (λ (ys : List ℕ). IsSpecial ys) (k ∙ same) (after_run_special bs)
