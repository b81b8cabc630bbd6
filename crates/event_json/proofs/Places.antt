-- The place of a fault is the first byte with which no text goes on.
use Rattle.std.proofs.Common.{◌≡◌, ℕ, zero, suc, ◌-◌, ◌+◌, ◌≤◌, ◌<◌, max, List, [], ◌∷◌, ◌++◌, length, take, drop, get_or, Option, Some, None, Result, Ok, Err, refl, sym, ap, subst, ◌∙◌, arith, false, inl, inr, append_assoc}
use Rattle.std.proofs.lemmas.List.{append-nil}
use Rattle.std.proofs.Math.Seq.{take-length}
use Rattle.std.specs.Str.{IsUtf8, IsCharBoundary}
use Rattle.std.proofs.lemmas.Str.{IsUtf8-append, IsUtf8-take, IsUtf8-from_ascii, IsCharBoundary-end, IsCharBoundary-start, IsCharBoundary-before_ascii, IsCharBoundary-after_ascii}
use Rattle.event_tree.specs.declared.value.Value.{Value}
use Rattle.event_json.specs.JsonValues.{Json, JsonWithin, IsFront, IsFrontWithin, StopsAt, PassesAt}
use Rattle.event_json.specs.Reading as r
use Rattle.event_json.specs.Reading.{Fault, At, Deep}
use Rattle.event_json.proofs.Tests.{bool_cases}
use Rattle.event_json.proofs.Ascii.{ascii_nil, ascii_cons}
use Rattle.event_json.proofs.Whole.{read_found, read_each}
use Rattle.event_json.proofs.Machine.{Frame, Mode, want, Move, fails, passes, moves, step, ends, fate, fate_from}
use Rattle.event_json.proofs.Moves.{is_plain_mode, Tidy, Low, Kept, step_kept, NotPasses, room, Opens, opens, opens_never, fails_more}
use Rattle.event_json.proofs.Endings.{ending, ending_ends, ending_ascii, left_of, ends_zero, StopsBy, Leads, leads}
use Rattle.event_json.proofs.Goes.{fault_of, read_goes}

-- ---- the place begins a character

byte_there : (whole : List ℕ) (i b : ℕ) (bs : List ℕ) → drop i whole ≡ b ∷ bs → get_or whole i 0 ≡ b
byte_there [] zero b bs e = absurd cc
byte_there [] (suc i) b bs e = absurd cc
byte_there (x ∷ xs) zero b bs e = cc
byte_there (x ∷ xs) (suc i) b bs e = byte_there xs i b bs e

drop_next : (whole : List ℕ) (i b : ℕ) (bs : List ℕ) → drop i whole ≡ b ∷ bs → drop (suc i) whole ≡ bs
drop_next [] zero b bs e = absurd cc
drop_next [] (suc i) b bs e = absurd cc
drop_next (x ∷ xs) zero b bs e = cc
drop_next (x ∷ xs) (suc i) b bs e = drop_next xs i b bs e

abbrev Sits : Mode → List ℕ → ℕ → Type 0
Sits m whole i = is_plain_mode m ≡ false → IsCharBoundary whole i

some_is : (f g : Fault) → ◌≡◌ {A = Option Fault} (Some f) (Some g) → g ≡ f
some_is f g e = cc

stops_low : (whole : List ℕ) (i b : ℕ) (m : Mode) → i < length whole → get_or whole i 0 ≡ b → Sits m whole i → Low m b → IsCharBoundary whole i
stops_low whole i b m lt e sits low = bool_cases (is_plain_mode m) (λ t. IsCharBoundary-before_ascii whole i lt (subst (λ c. c < 128) (sym e) (low t))) (λ t. sits t)

walk_at : (l : ℕ) (whole : List ℕ) (b : ℕ) (bs : List ℕ) (i : ℕ) (m : Mode) (f : Fault) (o : Move) → IsUtf8 whole → drop i whole ≡ b ∷ bs → i + suc (length bs) ≡ length whole → Kept m b o → Sits m whole i
    → ((n : Mode) (gs : List Frame) → Tidy n → Sits n whole (suc i) → fate l bs n gs ≡ Some f → IsCharBoundary whole (length whole - left_of f))
    → fate_from o (fate l bs) (suc (length bs)) ≡ Some f → IsCharBoundary whole (length whole - left_of f)
walk_at l whole b bs i m f fails u d len kept sits below e =
    let g : f ≡ At (suc (length bs)) = some_is (At (suc (length bs))) f e in
    let k : length whole - left_of f ≡ i = omega (arith, ap left_of g) in
    subst (IsCharBoundary whole) (sym k) (stops_low whole i b m (omega arith) (byte_there whole i b bs d) sits kept)
walk_at l whole b bs i m f passes u d len kept sits below e =
    let g : f ≡ Deep (suc (length bs)) = some_is (Deep (suc (length bs))) f e in
    let k : length whole - left_of f ≡ i = omega (arith, ap left_of g) in
    subst (IsCharBoundary whole) (sym k) (stops_low whole i b m (omega arith) (byte_there whole i b bs d) sits kept)
walk_at l whole b bs i m f (moves n gs) u d len kept sits below e =
    let one : i + 1 ≡ suc i = omega arith in
    below n gs kept.1 (λ t. subst (IsCharBoundary whole) one (IsCharBoundary-after_ascii whole i u (omega arith) (subst (λ c. c < 128) (sym (byte_there whole i b bs d)) (kept.0 t)))) e

walk : (l : ℕ) (whole bytes : List ℕ) (i : ℕ) (m : Mode) (fs : List Frame) (f : Fault) → IsUtf8 whole → drop i whole ≡ bytes → i + length bytes ≡ length whole → Tidy m → Sits m whole i → fate l bytes m fs ≡ Some f → IsCharBoundary whole (length whole - left_of f)
unfolding fate
walk l whole [] i m fs f u d len t sits e =
    let k : length whole - left_of f ≡ length whole = omega (arith, ap left_of (ends_zero m fs f e)) in
    subst (IsCharBoundary whole) (sym k) (IsCharBoundary-end whole)
walk l whole (b ∷ bs) i m fs f u d len t sits e =
    walk_at l whole b bs i m f (step l m fs b) u d len (step_kept l m fs b t) sits
    (λ n gs tidy s h. walk l whole bs (suc i) n gs f u (drop_next whole i b bs d) (omega arith) tidy s h) e

pub fault_boundary : (l : ℕ) (bytes : List ℕ) (f : Fault) → IsUtf8 bytes → fate l bytes want [] ≡ Some f → IsCharBoundary bytes (length bytes - left_of f)
fault_boundary l bytes f u e = walk l bytes bytes 0 want [] f u refl (omega arith) ascii_nil (λ t. IsCharBoundary-start bytes u) e

front_utf8 : (l : ℕ) (bytes : List ℕ) (f : Fault) → IsUtf8 bytes → fate l bytes want [] ≡ Some f → IsUtf8 (take (length bytes - left_of f) bytes)
front_utf8 l bytes f u e = IsUtf8-take bytes (length bytes - left_of f) u (fault_boundary l bytes f u e)

-- ---- texts that the machine takes

is_read : (read : Result Value Fault) → fault_of read ≡ None → (d : Value) × (read ≡ Ok d)
is_read (Ok d) e = (d, refl)
is_read (Err f) e = absurd cc

-- what the machine takes is a text
pub taken_json : (l : ℕ) (bytes : List ℕ) → IsUtf8 bytes → fate l bytes want [] ≡ None → (d : Value) × JsonWithin l bytes d
taken_json l bytes u e = let x = is_read (r.read l bytes) (sym (read_goes l bytes) ∙ e) in (x.0, read_found l bytes x.0 u x.1)

-- and it takes each text
pub json_taken : (l : ℕ) (bytes : List ℕ) (d : Value) → JsonWithin l bytes d → fate l bytes want [] ≡ None
json_taken l bytes d j = read_goes l bytes ∙ ap fault_of (read_each l bytes d j)

more_levels : (l h : ℕ) (bytes : List ℕ) (d : Value) → l ≤ h → JsonWithin l bytes d → JsonWithin h bytes d
more_levels l h bytes d le (t, is, few, e, value, u) = (t, is, omega (arith, few), e, value, u)

-- ---- the front

none_is : (f : Fault) → ◌≡◌ {A = Option Fault} (Some f) None → ⊥
none_is f e = cc

take_next : (bytes : List ℕ) (k b : ℕ) (bs : List ℕ) → drop k bytes ≡ b ∷ bs → take (suc k) bytes ≡ take k bytes ++ b ∷ []
take_next [] zero b bs e = absurd cc
take_next [] (suc k) b bs e = absurd cc
take_next (x ∷ xs) zero b bs e = let h : x ≡ b = cc in ap (λ y. y ∷ []) h
take_next (x ∷ xs) (suc k) b bs e = ap (λ ys. x ∷ ys) (take_next xs k b bs e)

-- the bytes before the place begin a text of as many levels
front_within : (l : ℕ) (bytes : List ℕ) (f : Fault) → IsUtf8 bytes → fate l bytes want [] ≡ Some f → Leads l (take (length bytes - left_of f) bytes) (drop (length bytes - left_of f) bytes) want [] f → IsFrontWithin l (take (length bytes - left_of f) bytes)
front_within l bytes f u e (n, gs, tidy, goes, stops) =
    let front = take (length bytes - left_of f) bytes in
    let both : IsUtf8 (front ++ ending n gs) = IsUtf8-append front (ending n gs) (front_utf8 l bytes f u e) (IsUtf8-from_ascii (ending n gs) (ending_ascii n gs tidy)) in
    let d = taken_json l (front ++ ending n gs) both (goes l (omega arith) (ending n gs) ∙ ending_ends l n gs) in
    (ending n gs, d.0, d.1)

-- what the machine comes to at the byte of the place, whatever follows
next_byte : (l h : ℕ) (bytes : List ℕ) (k : ℕ) (f : Fault) (n : Mode) (gs : List Frame) (b : ℕ) (bs more : List ℕ) → drop k bytes ≡ b ∷ bs → fate h (take k bytes ++ b ∷ more) want [] ≡ fate h (b ∷ more) n gs → fate h (take (suc k) bytes ++ more) want [] ≡ fate_from (step h n gs b) (fate h more) (suc (length more))
unfolding fate
next_byte l h bytes k f n gs b bs more d goes = ap (λ ys. fate h (ys ++ more) want []) (take_next bytes k b bs d) ∙ ap (λ ys. fate h ys want []) (append_assoc (take k bytes) (b ∷ []) more) ∙ goes

drop_some : (k : ℕ) (bytes : List ℕ) → k < length bytes → (b : ℕ) × (bs : List ℕ) × (drop k bytes ≡ b ∷ bs)
drop_some k [] lt = absurd (omega arith)
drop_some zero (b ∷ bs) lt = (b, bs, refl)
drop_some (suc k) (x ∷ xs) lt = drop_some k xs (omega arith)

stops_at_byte : (l : ℕ) (bytes : List ℕ) (k left : ℕ) (n : Mode) (gs : List Frame) (b : ℕ) (bs : List ℕ) → drop k bytes ≡ b ∷ bs → StopsBy l n gs (At left) (drop k bytes) → step l n gs b ≡ fails
stops_at_byte l bytes k left n gs b bs d s = (subst (λ (ys : List ℕ). StopsBy l n gs (At left) ys) d s).0

-- no text goes on with the byte of the place
no_front : (l : ℕ) (bytes : List ℕ) (k left : ℕ) → k < length bytes → Leads l (take k bytes) (drop k bytes) want [] (At left) → IsFront (take (suc k) bytes) → ⊥
no_front l bytes k left lt (n, gs, tidy, goes, stops) (more, d, (levels, j)) =
    let h = max l levels in
    let x = drop_some k bytes lt in
    let failing : step h n gs x.0 ≡ fails = fails_more l h n gs x.0 (omega arith) (stops_at_byte l bytes k left n gs x.0 x.1 x.2 stops) in
    let stopped : fate h (take (suc k) bytes ++ more) want [] ≡ Some (At (suc (length more))) = next_byte l h bytes k (At left) n gs x.0 x.1 more x.2 (goes h (omega arith) (x.0 ∷ more)) ∙ ap (λ o. fate_from o (fate h more) (suc (length more))) failing in
    none_is (At (suc (length more))) (sym stopped ∙ json_taken h (take (suc k) bytes ++ more) d (more_levels levels h (take (suc k) bytes ++ more) d (omega arith) j))

all_taken : (bytes : List ℕ) (k : ℕ) → k ≡ length bytes → take k bytes ≡ bytes
all_taken bytes k e = ap (λ i. take i bytes) e ∙ take-length bytes

none_left : (bytes : List ℕ) (k : ℕ) → k ≡ length bytes → drop k bytes ≡ []
none_left [] zero e = refl
none_left [] (suc k) e = refl
none_left (b ∷ bs) zero e = absurd (omega arith)
none_left (b ∷ bs) (suc k) e = none_left bs k (omega arith)

-- where all bytes are taken no text ends
no_end : (l : ℕ) (bytes : List ℕ) (k left : ℕ) → k ≡ length bytes → Leads l (take k bytes) (drop k bytes) want [] (At left) → (d : Value) → Json bytes d → ⊥
unfolding fate
no_end l bytes k left is (n, gs, tidy, goes, stops) d (levels, j) =
    let h = max l levels in
    let ended : ends n gs ≡ Some (At left) = subst (λ (ys : List ℕ). StopsBy l n gs (At left) ys) (none_left bytes k is) stops in
    let here : fate h bytes want [] ≡ Some (At left) = ap (λ ys. fate h ys want []) (sym (append-nil bytes ∙ ap (λ ys. ys) refl)) ∙ ap (λ ys. fate h (ys ++ []) want []) (sym (all_taken bytes k is)) ∙ goes h (omega arith) [] ∙ ended in
    none_is (At left) (sym here ∙ json_taken h bytes d (more_levels levels h bytes d (omega arith) j))

pub stops_at : (l : ℕ) (bytes : List ℕ) (left : ℕ) → IsUtf8 bytes → r.read l bytes ≡ Err (At left) → StopsAt l bytes (length bytes - left)
stops_at l bytes left u e =
    let stopped : fate l bytes want [] ≡ Some (At left) = read_goes l bytes ∙ ap fault_of e in
    let lead = leads l bytes want [] (At left) ascii_nil stopped in
    (omega arith, front_within l bytes (At left) u stopped lead, (λ lt. no_front l bytes (length bytes - left) left lt lead), (λ is. no_end l bytes (length bytes - left) left is lead))

-- ---- too many levels

deep_some : (l : ℕ) (bytes : List ℕ) (k left : ℕ) (n : Mode) (gs : List Frame) → StopsBy l n gs (Deep left) (drop k bytes) → k < length bytes
deep_some l [] k left n gs s = absurd (no_deep n gs left (subst (λ (ys : List ℕ). StopsBy l n gs (Deep left) ys) (nothing k) s))
  where
    nothing : (k : ℕ) → drop {A = ℕ} k [] ≡ []
    nothing zero = refl
    nothing (suc k) = refl

    differ : (left : ℕ) → Deep left ≡ At 0 → ⊥
    differ left e = cc

    no_deep : (n : Mode) (gs : List Frame) (left : ℕ) → ends n gs ≡ Some (Deep left) → ⊥
    no_deep n gs left e = differ left (ends_zero n gs (Deep left) e)
deep_some l (b ∷ bs) zero left n gs s = omega arith
deep_some l (b ∷ bs) (suc k) left n gs s = omega (arith, deep_some l bs k left n gs s)

opened_moves : (o : Move) → NotPasses o → (o ≡ fails → ⊥) → (m : Mode) × (fs : List Frame) × (o ≡ moves m fs)
opened_moves fails h no_fail = absurd (no_fail refl)
opened_moves passes h no_fail = absurd h
opened_moves (moves m fs) h no_fail = (m, fs, refl)

deep_byte : (l : ℕ) (bytes : List ℕ) (k left : ℕ) (n : Mode) (gs : List Frame) (b : ℕ) (bs : List ℕ) → drop k bytes ≡ b ∷ bs → StopsBy l n gs (Deep left) (drop k bytes) → step l n gs b ≡ passes
deep_byte l bytes k left n gs b bs d s = (subst (λ (ys : List ℕ). StopsBy l n gs (Deep left) ys) d s).0

-- none of as many levels goes on with the byte of the place
none_within : (l : ℕ) (bytes : List ℕ) (k left : ℕ) → k < length bytes → Leads l (take k bytes) (drop k bytes) want [] (Deep left) → IsFrontWithin l (take (suc k) bytes) → ⊥
none_within l bytes k left lt (n, gs, tidy, goes, stops) (more, d, j) =
    let x = drop_some k bytes lt in
    let stopped : fate l (take (suc k) bytes ++ more) want [] ≡ Some (Deep (suc (length more))) = next_byte l l bytes k (Deep left) n gs x.0 x.1 more x.2 (goes l (omega arith) (x.0 ∷ more)) ∙ ap (λ o. fate_from o (fate l more) (suc (length more))) (deep_byte l bytes k left n gs x.0 x.1 x.2 stops) in
    none_is (Deep (suc (length more))) (sym stopped ∙ json_taken l (take (suc k) bytes ++ more) d j)

never_fails : (l h : ℕ) (n : Mode) (gs : List Frame) (b : ℕ) → step l n gs b ≡ passes → step h n gs b ≡ fails → ⊥
never_fails l h n gs b p q = let o = subst (λ x. Opens b n x) p (opens l n gs b) in opens_never h n gs b o.0 o.1 q

deep_low : (l : ℕ) (n : Mode) (gs : List Frame) (b : ℕ) → step l n gs b ≡ passes → b < 128
deep_low l n gs b p = let o = subst (λ x. Opens b n x) p (opens l n gs b) in elim o.0 [ inl e ↦ omega arith | inr e ↦ omega arith ]

-- but one of more levels does
deeper_front : (l : ℕ) (bytes : List ℕ) (k left : ℕ) → IsUtf8 (take k bytes) → k < length bytes → Leads l (take k bytes) (drop k bytes) want [] (Deep left) → IsFront (take (suc k) bytes)
deeper_front l bytes k left u lt (n, gs, tidy, goes, stops) =
    let h = suc (l + length gs) in
    let x = drop_some k bytes lt in
    let passing = deep_byte l bytes k left n gs x.0 x.1 x.2 stops in
    let o = opened_moves (step h n gs x.0) (room h n gs x.0 (omega arith)) (λ failing. never_fails l h n gs x.0 passing failing) in
    let kept = subst (λ m. Kept n x.0 m) o.2 (step_kept h n gs x.0 tidy) in
    let low : x.0 < 128 = deep_low l n gs x.0 passing in
    let tail = ending o.0 o.1 in
    let utf8 : IsUtf8 (take (suc k) bytes ++ tail) = subst (λ (ys : List ℕ). IsUtf8 (ys ++ tail)) (sym (take_next bytes k x.0 x.1 x.2)) (IsUtf8-append (take k bytes ++ x.0 ∷ []) tail (IsUtf8-append (take k bytes) (x.0 ∷ []) u (IsUtf8-from_ascii (x.0 ∷ []) (ascii_cons x.0 [] low ascii_nil))) (IsUtf8-from_ascii tail (ending_ascii o.0 o.1 kept.1))) in
    let taken : fate h (take (suc k) bytes ++ tail) want [] ≡ None = next_byte l h bytes k (Deep left) n gs x.0 x.1 tail x.2 (goes h (omega arith) (x.0 ∷ tail)) ∙ ap (λ m. fate_from m (fate h tail) (suc (length tail))) o.2 ∙ ending_ends h o.0 o.1 in
    let d = taken_json h (take (suc k) bytes ++ tail) utf8 taken in
    (tail, d.0, (h, d.1))

pub passes_at : (l : ℕ) (bytes : List ℕ) (left : ℕ) → IsUtf8 bytes → r.read l bytes ≡ Err (Deep left) → PassesAt l bytes (length bytes - left)
passes_at l bytes left u e =
    let stopped : fate l bytes want [] ≡ Some (Deep left) = read_goes l bytes ∙ ap fault_of e in
    let lead = leads l bytes want [] (Deep left) ascii_nil stopped in
    let lt : length bytes - left < length bytes = deep_some l bytes (length bytes - left) left lead.0 lead.1 lead.4 in
    (lt, front_within l bytes (Deep left) u stopped lead, deeper_front l bytes (length bytes - left) left (front_utf8 l bytes (Deep left) u stopped) lt lead, none_within l bytes (length bytes - left) left lt lead)
