-- Bytes are refused at one place at most.
use Rattle.std.proofs.Common.{◌≡◌, ℕ, ◌+◌, ◌<◌, ◌≤◌, ◌^◌, ◌⊎◌, inl, inr, List, [], ◌∷◌, ◌++◌, length, refl, sym, ap, subst, ◌∙◌, append_assoc, length-append, arith, rules}
use Rattle.std.proofs.lemmas.List.{append-nil, nil_from_length}
use Rattle.crc_frame.specs.Fronts.{count_bytes, run_at}
use Rattle.crc_frame.proofs.Fronts.{run_again, length-count_bytes, ok_is}
use Rattle.element_code.specs.Parts.{Part, plain, text, many, count, key, part_bytes, bytes_of, event_parts, event_spelling}
use Rattle.event_tree.specs.Events.{Ev}
use Rattle.element_code.specs.Values.{IsWhole}
use Rattle.element_code.specs.Faults.{EndWithin, CanBe, MayFollow, Stops, cut, misfit, place_in, AreEventParts, IsRefusedAt, long, stops, behind}
use Rattle.element_code.proofs.PartsOf.{bytes_of-append}
use Rattle.element_code.proofs.Sound.{none_begins}
use Rattle.element_code.proofs.Places.{same_head, same_tail, same_behind}
use Rattle.element_code.proofs.NextParts.{Kind, of_value, of_key, of_count, of_nothing, kind, IsPart, Due, AreDue, kind_due, after, after_all, next_due, same_part, own_length, both_objects, event_due}

run_goes_on : (r y other : List ℕ) (b : ℕ) (m : List ℕ) → length r < 2 ^ 32 → length other < 2 ^ 32 → ((count_bytes (length r) ++ r) ++ y) ++ b ∷ m ≡ count_bytes (length other) ++ other → ⊥
run_goes_on r y other b m low high e =
    let left : ((count_bytes (length r) ++ r) ++ y) ++ b ∷ m ≡ count_bytes (length r) ++ (r ++ (y ++ b ∷ m)) = append_assoc (count_bytes (length r) ++ r) y (b ∷ m) ∙ append_assoc (count_bytes (length r)) r (y ++ b ∷ m) in
    let right : count_bytes (length other) ++ other ≡ count_bytes (length other) ++ (other ++ []) = ap (λ l. count_bytes (length other) ++ l) (sym (append-nil other)) in
    let same = ok_is (r, y ++ b ∷ m) (other, []) (sym (run_again r (y ++ b ∷ m) low) ∙ ap run_at (sym left ∙ e ∙ right) ∙ run_again other [] high) in
    omega (arith, ap (λ z. length z.1) same, length-append y (b ∷ m))

-- bytes that begin with a part don't end within one of its kind
no_cut : (p q : Part) (rest y : List ℕ) → IsPart p → IsPart q → kind p ≡ kind q → EndWithin p rest → rest ≡ part_bytes q ++ y → ⊥
no_cut (plain t own) (plain u other) rest y a b k w e =
    let h = ap (λ l. l ++ w.2.0 ∷ w.2.1) (sym e) ∙ w.2.2 in
    let tag = same_head u t _ w.0 h in
    omega (arith, ap length h, length-append (part_bytes (plain u other) ++ y) (w.2.0 ∷ w.2.1), length-append (part_bytes (plain u other)) y, w.1, a.0, b.0, ap own_length tag)
no_cut (plain t own) (text s) rest y a b k w e = a.1 (sym (same_head 4 t _ w.0 (ap (λ l. l ++ w.2.0 ∷ w.2.1) (sym e) ∙ w.2.2)))
no_cut (plain t own) (many u n) rest y a b k w e =
    let h = same_head u t _ w.0 (ap (λ l. l ++ w.2.0 ∷ w.2.1) (sym e) ∙ w.2.2) in
    elim b.1 [
      | inl x ↦ a.2 (sym h ∙ x)
      | inr x ↦ a.3 (sym h ∙ x)
    ]
no_cut (plain t own) (count n) rest y a b k w e = absurd (search (k, rules))
no_cut (plain t own) (key s) rest y a b k w e = absurd (search (k, rules))
no_cut (text s) (plain t own) rest y a b k w e = b.1 (same_head t 4 _ _ (ap (λ l. l ++ w.2.0 ∷ w.2.1) (sym e) ∙ w.2.2))
no_cut (text s) (text r) rest y a b k w e = run_goes_on r y w.0 w.2.0 w.2.1 b w.1 (same_tail 4 4 _ _ (ap (λ l. l ++ w.2.0 ∷ w.2.1) (sym e) ∙ w.2.2))
no_cut (text s) (many u n) rest y a b k w e =
    let h = same_head u 4 _ _ (ap (λ l. l ++ w.2.0 ∷ w.2.1) (sym e) ∙ w.2.2) in
    elim b.1 [
      | inl x ↦ omega (arith, h, x)
      | inr x ↦ omega (arith, h, x)
    ]
no_cut (text s) (count n) rest y a b k w e = absurd (search (k, rules))
no_cut (text s) (key r) rest y a b k w e = absurd (search (k, rules))
no_cut (many u n) (plain t own) rest y a b k w e =
    let h = same_head t u _ _ (ap (λ l. l ++ w.1.0 ∷ w.1.1) (sym e) ∙ w.1.2) in
    elim a.1 [
      | inl x ↦ b.2 (h ∙ x)
      | inr x ↦ b.3 (h ∙ x)
    ]
no_cut (many u n) (text s) rest y a b k w e =
    let h = same_head 4 u _ _ (ap (λ l. l ++ w.1.0 ∷ w.1.1) (sym e) ∙ w.1.2) in
    elim a.1 [
      | inl x ↦ omega (arith, h, x)
      | inr x ↦ omega (arith, h, x)
    ]
no_cut (many t n) (many u m) rest y a b k w e =
    let h = ap (λ l. l ++ w.1.0 ∷ w.1.1) (sym e) ∙ w.1.2 in
    omega (arith, ap length h, length-append (part_bytes (many u m) ++ y) (w.1.0 ∷ w.1.1), length-append (part_bytes (many u m)) y, length-count_bytes m, length-count_bytes w.0)
no_cut (many u n) (count m) rest y a b k w e = absurd (search (k, rules))
no_cut (many u n) (key s) rest y a b k w e = absurd (search (k, rules))
no_cut (count n) (plain t own) rest y a b k w e = absurd (search (k, rules))
no_cut (count n) (text s) rest y a b k w e = absurd (search (k, rules))
no_cut (count n) (many u m) rest y a b k w e = absurd (search (k, rules))
no_cut (count n) (count m) rest y a b k w e =
    let h = ap (λ l. l ++ w.1.0 ∷ w.1.1) (sym e) ∙ w.1.2 in
    omega (arith, ap length h, length-append (part_bytes (count m) ++ y) (w.1.0 ∷ w.1.1), length-append (part_bytes (count m)) y, length-count_bytes m, length-count_bytes w.0)
no_cut (count n) (key s) rest y a b k w e = absurd (search (k, rules))
no_cut (key s) (plain t own) rest y a b k w e = absurd (search (k, rules))
no_cut (key s) (text r) rest y a b k w e = absurd (search (k, rules))
no_cut (key s) (many u m) rest y a b k w e = absurd (search (k, rules))
no_cut (key s) (count m) rest y a b k w e = absurd (search (k, rules))
no_cut (key s) (key r) rest y a b k w e = run_goes_on r y w.0 w.2.0 w.2.1 b w.1 (ap (λ l. l ++ w.2.0 ∷ w.2.1) (sym e) ∙ w.2.2)

abbrev place_by : Kind → ℕ
place_by of_value = 0
place_by of_key = 4
place_by of_count = 0
place_by of_nothing = 0

place_is : (p : Part) → place_in p ≡ place_by (kind p)
place_is (plain t own) = refl
place_is (text s) = refl
place_is (many t n) = refl
place_is (count n) = refl
place_is (key s) = refl

-- ---- of two fronts of the same bytes, one begins the other

front_due : (us more : List Part) (st : List Due) → AreDue st (us ++ more) → AreDue st us
front_due [] more st a = tt
front_due (u ∷ us) more st a = (a.0, a.1, front_due us more (after u st) a.2)

data Fronts (us vs : List Part) : Type 0 where
  same : us ≡ vs → Fronts us vs
  shorter : (x : Part) (z : List Part) → vs ≡ us ++ x ∷ z → Fronts us vs
  longer : (x : Part) (z : List Part) → us ≡ vs ++ x ∷ z → Fronts us vs

one_more : (u : Part) (us vs : List Part) → Fronts us vs → Fronts (u ∷ us) (u ∷ vs)
one_more u us vs (same e) = same (ap (λ l. u ∷ l) e)
one_more u us vs (shorter x z e) = shorter x z (ap (λ l. u ∷ l) e)
one_more u us vs (longer x z e) = longer x z (ap (λ l. u ∷ l) e)

fronts_of : (st : List Due) (us vs : List Part) (rest other : List ℕ) → AreDue st us → AreDue st vs → bytes_of us ++ rest ≡ bytes_of vs ++ other → Fronts us vs
fronts_of st [] [] rest other a b e = same refl
fronts_of st [] (x ∷ z) rest other a b e = shorter x z refl
fronts_of st (x ∷ z) [] rest other a b e = longer x z refl
fronts_of st (u ∷ us) (w ∷ vs) rest other a b e =
    let h : part_bytes u ++ (bytes_of us ++ rest) ≡ part_bytes w ++ (bytes_of vs ++ other) = sym (append_assoc (part_bytes u) (bytes_of us) rest) ∙ e ∙ append_assoc (part_bytes w) (bytes_of vs) other in
    let p : u ≡ w = same_part u w (bytes_of us ++ rest) (bytes_of vs ++ other) a.1 b.1 (a.0 ∙ sym b.0) h in
    let t : bytes_of us ++ rest ≡ bytes_of vs ++ other = same_behind (part_bytes w) (bytes_of us ++ rest) (bytes_of vs ++ other) (ap (λ x. part_bytes x ++ (bytes_of us ++ rest)) (sym p) ∙ h) in
    subst (λ x. Fronts (u ∷ us) (x ∷ vs)) p (one_more u us vs (fronts_of (after u st) us vs rest other a.2 (subst (λ x. AreDue (after x st) vs) (sym p) b.2) t))

-- ---- one place

abbrev Follows : List Part → Part → Type 0
Follows = MayFollow AreEventParts

follows_due : (us : List Part) (p : Part) → Follows us p → (kind p ≡ kind_due (after_all us both_objects)) × IsPart p
follows_due us p m = next_due us p m.0 both_objects (subst (AreDue both_objects) (sym m.1.2) (event_due m.1.0 m.1.1))

us_due : (us : List Part) (p : Part) → Follows us p → AreDue both_objects us
us_due us p m = front_due us (p ∷ m.0) both_objects (subst (AreDue both_objects) (sym m.1.2) (event_due m.1.0 m.1.1))

all_due : (ps : List Part) → AreEventParts ps → AreDue both_objects ps
all_due ps m = subst (AreDue both_objects) (sym m.2) (event_due m.0 m.1)

-- what stands where a part may come next
data Bad (p : Part) (us : List Part) (rest : List ℕ) : Type 0 where
  ends : EndWithin p rest → Bad p us rest
  unfit : ((other : Part) → Follows us other → CanBe other rest → ⊥) → Bad p us rest

no_part : (us : List Part) (p x : Part) (rest y : List ℕ) → Follows us p → Follows us x → Bad p us rest → rest ≡ part_bytes x ++ y → ⊥
no_part us p x rest y m n (ends w) e = let a = follows_due us p m in let b = follows_due us x n in no_cut p x rest y a.1 b.1 (a.0 ∙ sym b.0) w e
no_part us p x rest y m n (unfit none) e = none x n (inl (y, e))

longer_bytes : (us : List Part) (x : Part) (z : List Part) (rest other : List ℕ) → bytes_of us ++ rest ≡ bytes_of (us ++ x ∷ z) ++ other → rest ≡ part_bytes x ++ (bytes_of z ++ other)
longer_bytes us x z rest other e =
    same_behind (bytes_of us) rest (part_bytes x ++ (bytes_of z ++ other)) (e ∙ ap (λ b. b ++ other) (bytes_of-append us (x ∷ z)) ∙ append_assoc (bytes_of us) (bytes_of (x ∷ z)) other ∙ ap (λ b. bytes_of us ++ b) (append_assoc (part_bytes x) (bytes_of z) other))

-- a front behind which a part can't stand doesn't go on
no_longer : (us vs : List Part) (p x : Part) (z : List Part) (rest other : List ℕ) → Follows us p → Bad p us rest → ((more : List Part) × AreEventParts (vs ++ more)) → vs ≡ us ++ x ∷ z → bytes_of us ++ rest ≡ bytes_of vs ++ other → ⊥
no_longer us vs p x z rest other m bad all e h =
    let n : Follows us x = (z ++ all.0, subst AreEventParts (ap (λ l. l ++ all.0) e ∙ append_assoc us (x ∷ z) all.0) all.1) in
    no_part us p x rest (bytes_of z ++ other) m n bad (longer_bytes us x z rest other (h ∙ ap (λ l. bytes_of l ++ other) e))

-- a place at which the bytes stop
record At (bytes : List ℕ) (at : ℕ) : Type 0 where
  pub front : List Part
  pub part : Part
  pub rest : List ℕ
  pub follows : Follows front part
  pub is : bytes ≡ bytes_of front ++ rest
  pub bad : Bad part front rest
  pub place : (EndWithin part rest × (at ≡ length bytes)) ⊎ (((other : Part) → Follows front other → CanBe other rest → ⊥) × (at ≡ length (bytes_of front) + place_in part))

at_of : (bytes : List ℕ) (at : ℕ) → Stops AreEventParts bytes at → At bytes at
at_of bytes at (cut us p rest m e w is) = record { front = us; part = p; rest = rest; follows = m; is = e; bad = ends w; place = inl (w, is) }
at_of bytes at (misfit us p rest m e none is) = record { front = us; part = p; rest = rest; follows = m; is = e; bad = unfit none; place = inr (none, is) }

all_of : (us : List Part) (p : Part) → Follows us p → (more : List Part) × AreEventParts (us ++ more)
all_of us p m = (p ∷ m.0, m.1)

same_front : (bytes : List ℕ) (a b : ℕ) (s : At bytes a) (t : At bytes b) → s.front ≡ t.front → a ≡ b
same_front bytes a b s t e =
    let rests : s.rest ≡ t.rest = same_behind (bytes_of t.front) s.rest t.rest (ap (λ l. bytes_of l ++ s.rest) (sym e) ∙ sym s.is ∙ t.is) in
    elim s.place [
      | inl x ↦ elim t.place [
        | inl y ↦ x.1 ∙ sym y.1
        | inr y ↦ absurd (y.0 s.part (subst (λ l. Follows l s.part) e s.follows) (inr (subst (EndWithin s.part) rests x.0)))
      ]
      | inr x ↦ elim t.place [
        | inl y ↦ absurd (x.0 t.part (subst (λ l. Follows l t.part) (sym e) t.follows) (inr (subst (EndWithin t.part) (sym rests) y.0)))
        | inr y ↦
            let ks = (follows_due s.front s.part s.follows).0 in
            let kt = (follows_due t.front t.part t.follows).0 in
            let kinds : kind s.part ≡ kind t.part = ks ∙ ap (λ l. kind_due (after_all l both_objects)) e ∙ sym kt in
            x.1 ∙ ap (λ l. length (bytes_of l) + place_in s.part) e ∙ ap (λ n. length (bytes_of t.front) + n) (place_is s.part ∙ ap place_by kinds ∙ sym (place_is t.part)) ∙ sym y.1
      ]
    ]

stops_once : (bytes : List ℕ) (a b : ℕ) → At bytes a → At bytes b → a ≡ b
stops_once bytes a b s t = elim (fronts_of both_objects s.front t.front s.rest t.rest (us_due s.front s.part s.follows) (us_due t.front t.part t.follows) (sym s.is ∙ t.is)) [
  | same e ↦ same_front bytes a b s t e
  | shorter x z e ↦ absurd (no_longer s.front t.front s.part x z s.rest t.rest s.follows s.bad (all_of t.front t.part t.follows) e (sym s.is ∙ t.is))
  | longer x z e ↦ absurd (no_longer t.front s.front t.part x z t.rest s.rest t.follows t.bad (all_of s.front s.part s.follows) e (sym t.is ∙ s.is))
]

-- no event's parts go on as another's
no_more_parts : (ps : List Part) (x : Part) (z : List Part) → AreEventParts ps → AreEventParts (ps ++ x ∷ z) → ⊥
unfolding event_spelling
no_more_parts ps x z m n =
    let h : event_spelling m.0 ++ bytes_of (x ∷ z) ≡ event_spelling n.0 = ap (λ l. bytes_of l ++ bytes_of (x ∷ z)) (sym m.2) ∙ sym (bytes_of-append ps (x ∷ z)) ∙ ap bytes_of n.2 in
    let same_event = (none_begins m.0 n.0 (bytes_of (x ∷ z)) m.1 n.1 h).0 in
    let e : ps ++ x ∷ z ≡ ps = n.2 ∙ ap event_parts (sym same_event) ∙ sym m.2 in
    omega (arith, ap length e, length-append ps (x ∷ z))

stops_or_behind : (bytes : List ℕ) (a : ℕ) (ps : List Part) (rest : List ℕ) → At bytes a → AreEventParts ps → bytes ≡ bytes_of ps ++ rest → ⊥
stops_or_behind bytes a ps rest s m e = elim (fronts_of both_objects s.front ps s.rest rest (us_due s.front s.part s.follows) (all_due ps m) (sym s.is ∙ e)) [
  | same h ↦ no_more_parts ps s.part s.follows.0 m (subst (λ l. AreEventParts (l ++ s.part ∷ s.follows.0)) h s.follows.1)
  | shorter x z h ↦ no_longer s.front ps s.part x z s.rest rest s.follows s.bad ([], subst AreEventParts (sym (append-nil ps)) m) h (sym s.is ∙ e)
  | longer x z h ↦ no_more_parts ps x (z ++ s.part ∷ s.follows.0) m (subst AreEventParts (ap (λ l. l ++ s.part ∷ s.follows.0) h ∙ append_assoc ps (x ∷ z) (s.part ∷ s.follows.0)) s.follows.1)
]

behind_once : (ps qs : List Part) (rest other : List ℕ) → AreEventParts ps → AreEventParts qs → bytes_of ps ++ rest ≡ bytes_of qs ++ other → length (bytes_of ps) ≡ length (bytes_of qs)
behind_once ps qs rest other m n e = elim (fronts_of both_objects ps qs rest other (all_due ps m) (all_due qs n) e) [
  | same h ↦ ap (λ l. length (bytes_of l)) h
  | shorter x z h ↦ absurd (no_more_parts ps x z m (subst AreEventParts h n))
  | longer x z h ↦ absurd (no_more_parts qs x z n (subst AreEventParts h m))
]

pub one_place : (bytes : List ℕ) (a b : ℕ) → IsRefusedAt bytes a → IsRefusedAt bytes b → a ≡ b
one_place bytes a b (long h e) (long k f) = e ∙ sym f
one_place bytes a b (long h e) (stops k s) = absurd (omega (arith, h, k))
one_place bytes a b (long h e) (behind k ps rest m is some f) = absurd (omega (arith, h, k))
one_place bytes a b (stops h s) (long k f) = absurd (omega (arith, h, k))
one_place bytes a b (stops h s) (stops k t) = stops_once bytes a b (at_of bytes a s) (at_of bytes b t)
one_place bytes a b (stops h s) (behind k ps rest m is some f) = absurd (stops_or_behind bytes a ps rest (at_of bytes a s) m is)
one_place bytes a b (behind h ps rest m is some e) (long k f) = absurd (omega (arith, h, k))
one_place bytes a b (behind h ps rest m is some e) (stops k t) = absurd (stops_or_behind bytes b ps rest (at_of bytes b t) m is)
one_place bytes a b (behind h ps rest m is some e) (behind k qs other n are more f) = e ∙ behind_once ps qs rest other m n (sym is ∙ are) ∙ sym f

-- and what is spelled at none
pub spelled_at_none : (bytes : List ℕ) (a : ℕ) (e : Ev) → IsWhole e → event_spelling e ≡ bytes → length bytes ≤ 16777216 → IsRefusedAt bytes a → ⊥
unfolding event_spelling
spelled_at_none bytes a e w spelled short (long h f) = omega (arith, h, short)
spelled_at_none bytes a e w spelled short (stops h s) = stops_or_behind bytes a (event_parts e) [] (at_of bytes a s) (e, w, refl) (sym spelled ∙ sym (append-nil (bytes_of (event_parts e))))
spelled_at_none bytes a e w spelled short (behind h ps rest m is some f) =
    let same = behind_once ps (event_parts e) rest [] m (e, w, refl) (sym is ∙ sym spelled ∙ sym (append-nil (bytes_of (event_parts e)))) in
    some (nil_from_length rest (omega (arith, same, ap length is, ap length spelled, length-append (bytes_of ps) rest)))
