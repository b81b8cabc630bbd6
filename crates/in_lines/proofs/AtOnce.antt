-- The event of an object whose members are plain has them all at its root: what putting them one by one comes to.
use Rattle.std.proofs.Common.{◌≡◌, ◌≢◌, ℕ, ◌+◌, ◌≤◌, max, List, [], ◌∷◌, ◌++◌, Bool, true, false, if◌then◌else◌, length, codes, Option, Some, None, option_map, option_and_then, refl, sym, ap, subst, ◌∙◌, arith, rules, append_assoc, append-nil}
use Rattle.std.specs.Prelude.{ℤ, pos, bytes_eq, nat_lt, Result, Ok, Err, ⊤}
use Rattle.std.specs.Map.{keys_of}
use Rattle.std.specs.declared.cmp.Ordering.TheVariants.{Less, Greater}
use Rattle.std.proofs.lemmas.Slice.Eq.{bytes_eq-Decides}
use Rattle.std.proofs.lemmas.Option.{same_Some}
use Rattle.std.proofs.lemmas.Bool.Decides.{nat_tests}
use Rattle.plain_data.specs.Keys.{text_cmp, same_key, Below}
use Rattle.plain_data.specs.Members.{Rises, AllBelow, get_member, set_member, insert_member}
use Rattle.plain_data.proofs.KeyLemmas.{order_cases, same_from_Equal, text_cmp-flip, text_cmp-self, same_key-other}
use Rattle.plain_data.proofs.MemberLemmas.{get_member-below, Rises-insert_member}
use Rattle.plain_data.proofs.ChangeLemmas.{insert_member-above, insert_member-found, get_member-insert_member, get_member-insert_member-other}
use Rattle.event_tree.specs.Values.{Members, depth, members_depth}
use Rattle.event_tree.specs.Sizes.{size, members_size}
use Rattle.event_tree.specs.Paths.{put, wrap, change_in, over, at, step}
use Rattle.event_tree.specs.PathTexts.{way_of}
use Rattle.event_tree.specs.Events.{Ev, to, both, event_at, event_put, event_depth, event_size, with_fields, object, object_in, limited}
use Rattle.event_tree.specs.declared.fault.PutFault.{PutFault}
use Rattle.event_tree.specs.declared.value.Value.{Value, out-Value}
use Rattle.event_tree.specs.declared.value.Value.TheVariants as v
use Rattle.event_tree.proofs.Depths.{depth-Object}
use Rattle.event_tree.proofs.Sizes.{size-Object, members_size-insert}
use Rattle.event_text.specs.Options.{each_done, set_at, after_put}
use Rattle.event_text.proofs.Levels.{step-Object}
use Rattle.event_times.specs.Decoded.{named, placed}
use Rattle.in_lines.specs.Decoding.{with_member, set_missing}
use Rattle.in_lines.specs.Plain.{missing}

-- the event with these fields, and nothing in its metadata
abbrev pub whole : Members → Ev
whole ms = both (v.Object ms) (v.Object [])

-- an event can have these fields
abbrev pub Fits : Members → Type 0
Fits ms = (members_depth ms ≤ 127) × (members_size ms ≤ 16777208)

depth_whole : (ms : Members) → event_depth (whole ms) ≡ max (1 + members_depth ms) 1
depth_whole ms = omega (arith, depth-Object ms, depth-Object [])

size_whole : (ms : Members) → event_size (whole ms) ≡ 8 + members_size ms
size_whole ms = omega (arith, size-Object ms, size-Object [])

not_above : (a b : ℕ) → b ≤ a → nat_lt a b ≡ false
not_above a b h = grind (arith, nat_tests)

within : (a b : ℕ) → nat_lt a b ≡ false → b ≤ a
within a b h = grind (arith, nat_tests)

pub fits_limited : (ms : Members) → Fits ms → limited (Some (whole ms)) ≡ Ok (whole ms)
fits_limited ms f =
    let t : nat_lt 128 (event_depth (whole ms)) ≡ false = not_above 128 (event_depth (whole ms)) (omega (arith, depth_whole ms, f.0)) in
    let u : nat_lt 16777216 (event_size (whole ms)) ≡ false = not_above 16777216 (event_size (whole ms)) (omega (arith, size_whole ms, f.1)) in
    rw (t, u) refl

pub limited_fits : (ms : Members) (e : Ev) → limited (Some (whole ms)) ≡ Ok e → Fits ms
limited_fits ms e is = by (nat_lt 128 (event_depth (whole ms))) (nat_lt 16777216 (event_size (whole ms))) refl refl is
  where
    by : (t u : Bool) → nat_lt 128 (event_depth (whole ms)) ≡ t → nat_lt 16777216 (event_size (whole ms)) ≡ u
        → (if t then Err PutFault.Deep else (if u then Err PutFault.Large else Ok (whole ms))) ≡ Ok e → Fits ms
    by true u t-is u-is said = absurd (search (said, rules))
    by false true t-is u-is said = absurd (search (said, rules))
    by false false t-is u-is said =
        let d = within 128 (event_depth (whole ms)) t-is in
        let s = within 16777216 (event_size (whole ms)) u-is in
        (omega (arith, d, depth_whole ms), omega (arith, s, size_whole ms))

-- ---- one more member

module _ (k : List ℕ) where
  depth_insert : (ms : Members) (y : Value) → get_member k ms ≡ None → members_depth ms ≤ members_depth (insert_member k y ms)
  depth_insert [] y none = omega arith
  depth_insert (m ∷ ms) y none = order_cases (text_cmp k m.0)
      (λ e. rw e (omega arith))
      (λ e. absurd (search ((rw e at none), rules)))
      (λ e. rw e (omega (arith, depth_insert ms y (rw e at none))))

  pub fits_before : (ms : Members) (y : Value) → get_member k ms ≡ None → Fits (insert_member k y ms) → Fits ms
  fits_before ms y none f = (omega (arith, depth_insert ms y none, f.0), omega (arith, members_size-insert k ms y none, f.1))

  -- what is put where nothing stands is inserted
  pub put_new : (ps : List (List ℕ)) (d : Value) (ms : Members) → get_member k ms ≡ None → Fits (insert_member k (wrap ps d) ms)
      → set_at (to false (k ∷ ps)) d (whole ms) ≡ whole (insert_member k (wrap ps d) ms)
  put_new ps d ms none f =
      let made = insert_member k (wrap ps d) ms in
      let inside : change_in k (put ps d) (wrap ps d) (out-Value (v.Object ms)) ≡ Some (v.Object made) =
      ap (change_in k (put ps d) (wrap ps d)) (v.outs-Object ms) ∙ rw none refl in
      let is_object : object (v.Object made) ≡ Some (v.Object made) = ap object_in (v.outs-Object made) in
      let said : event_put (to false (k ∷ ps)) d (whole ms) ≡ Some (whole made) =
      ap (λ o. option_map (with_fields (whole ms)) (option_and_then object o)) inside ∙ ap (option_map (with_fields (whole ms))) is_object in
      ap (λ o. after_put (whole ms) (limited o)) said ∙ ap (after_put (whole ms)) (fits_limited made f)

-- a name that isn't that of the metadata
named_is : (k : List ℕ) → bytes_eq k (codes "@metadata") ≡ false → named k ≡ to false (k ∷ [])
named_is k other = rw other refl

at_name : (k : List ℕ) (ms : Members) → event_at (to false (k ∷ [])) (whole ms) ≡ get_member k ms
at_name k ms = ap (option_and_then (at [])) (step-Object k ms) ∙ same (get_member k ms)
  where
    same : (o : Option Value) → option_and_then (at []) o ≡ o
    same None = refl
    same (Some x) = refl

pub missing_is : (k : List ℕ) (x : Value) (ms : Members) → bytes_eq k (codes "@metadata") ≡ false → Fits (missing k x ms)
    → set_missing (named k) x (whole ms) ≡ whole (missing k x ms)
missing_is k x ms other f = ap (λ w. set_missing w x (whole ms)) (named_is k other) ∙ ap (over (λ old. whole ms) (set_at (to false (k ∷ [])) x (whole ms))) (at_name k ms) ∙ by (get_member k ms) refl f
  where
    by : (o : Option Value) → get_member k ms ≡ o → Fits (over (λ old. ms) (insert_member k x ms) o)
        → over (λ old. whole ms) (set_at (to false (k ∷ [])) x (whole ms)) o ≡ whole (over (λ old. ms) (insert_member k x ms) o)
    by None is fits = put_new k [] x ms is fits
    by (Some old) is fits = refl

pub missing_before : (k : List ℕ) (x : Value) (ms : Members) → Fits (missing k x ms) → Fits ms
missing_before k x ms f = by (get_member k ms) refl f
  where
    by : (o : Option Value) → get_member k ms ≡ o → Fits (over (λ old. ms) (insert_member k x ms) o) → Fits ms
    by None is fits = fits_before k ms x is fits
    by (Some old) is fits = fits

pub missing_other : (k l : List ℕ) (x : Value) (ms : Members) → k ≢ l → get_member l (missing k x ms) ≡ get_member l ms
missing_other k l x ms other = by (get_member k ms)
  where
    by : (o : Option Value) → get_member l (over (λ old. ms) (insert_member k x ms) o) ≡ get_member l ms
    by None = get_member-insert_member-other k l other x ms
    by (Some old) = refl

-- ---- members in the order of their keys

size_append : (a b : Members) → members_size (a ++ b) ≡ members_size a + members_size b
size_append [] b = omega arith
size_append (m ∷ a) b = omega (arith, size_append a b)

depth_append : (a b : Members) → members_depth a ≤ members_depth (a ++ b)
depth_append [] b = omega arith
depth_append (m ∷ a) b = omega (arith, depth_append a b)

fits_front : (a b : Members) → Fits (a ++ b) → Fits a
fits_front a b f = (omega (arith, depth_append a b, f.0), omega (arith, size_append a b, f.1))

below_at : (l k : List ℕ) (x : Value) (a rest : Members) → Below l (keys_of (a ++ (k, x) ∷ rest)) → text_cmp l k ≡ Less
below_at l k x [] rest below = below.0
below_at l k x (m ∷ a) rest below = below_at l k x a rest below.1

all_below : (a : Members) (k : List ℕ) (x : Value) (rest : Members) → Rises (a ++ (k, x) ∷ rest) → AllBelow a k
all_below [] k x rest rises = tt
all_below (m ∷ a) k x rest rises = (below_at m.0 k x a rest rises.0, all_below a k x rest rises.1)

none_above : (k : List ℕ) (ms : Members) → AllBelow ms k → get_member k ms ≡ None
none_above k [] below = refl
none_above k (m ∷ ms) below = let greater : text_cmp k m.0 ≡ Greater = text_cmp-flip m.0 k Less below.0 in rw greater (none_above k ms below.1)

-- ---- plain members one by one

abbrev pub timestamp : List ℕ
timestamp = codes "@timestamp"

-- the value of a member, where the time is this
abbrev pub value_kept : ℤ → List ℕ → Value → Value
value_kept t k x = if same_key timestamp k then v.Time t else x

abbrev pub kept : ℤ → Members → Members
kept t [] = []
kept t (m ∷ ms) = (m.0, value_kept t m.0 m.1) ∷ kept t ms

-- the member is put at its name
pub record IsAtName (t : ℤ) (m : List ℕ × Value) : Type 0 where
  pub other : bytes_eq m.0 (codes "@metadata") ≡ false
  pub placed_is : placed m ≡ Some (named m.0, value_kept t m.0 m.1)

abbrev pub AreAtNames : ℤ → Members → Type 0
AreAtNames t [] = ⊤
AreAtNames t (m ∷ ms) = IsAtName t m × AreAtNames t ms

one_put : (t : ℤ) (a : Members) (m : List ℕ × Value) (rest : Members) → IsAtName t m → Rises (a ++ (m.0, value_kept t m.0 m.1) ∷ rest) → Fits (a ++ (m.0, value_kept t m.0 m.1) ∷ rest)
    → with_member m (whole a) ≡ whole (a ++ (m.0, value_kept t m.0 m.1) ∷ [])
one_put t a m rest is rises fits =
    let y = value_kept t m.0 m.1 in
    let below = all_below a m.0 y rest rises in
    let above = insert_member-above m.0 y a below in
    let front : Fits (a ++ (m.0, y) ∷ []) = fits_front (a ++ (m.0, y) ∷ []) rest (subst Fits (sym (append_assoc a ((m.0, y) ∷ []) rest)) fits) in
    ap (over (λ p. set_at p.0 p.1 (whole a)) (whole a)) is.placed_is
    ∙ ap (λ w. set_at w y (whole a)) (named_is m.0 is.other)
    ∙ put_new m.0 [] y a (none_above m.0 a below) (subst Fits (sym above) front)
    ∙ ap whole above

pub all_put : (t : ℤ) (a ms : Members) → AreAtNames t ms → Rises (a ++ kept t ms) → Fits (a ++ kept t ms) → each_done with_member ms (whole a) ≡ whole (a ++ kept t ms)
all_put t a [] are rises fits = ap whole (sym (append-nil a))
all_put t a (m ∷ ms) are rises fits =
    let y = value_kept t m.0 m.1 in
    let assoc = append_assoc a ((m.0, y) ∷ []) (kept t ms) in
    ap (each_done with_member ms) (one_put t a m (kept t ms) are.0 rises fits)
    ∙ all_put t (a ++ (m.0, y) ∷ []) ms are.1 (subst Rises (sym assoc) rises) (subst Fits (sym assoc) fits)
    ∙ ap whole assoc

pub kept_without : (t : ℤ) (ms : Members) → get_member timestamp ms ≡ None → kept t ms ≡ ms
kept_without t [] none = refl
kept_without t (m ∷ ms) none = order_cases (text_cmp timestamp m.0)
    (λ e. rw e (ap (λ ns. m ∷ ns) (kept_without t ms (rw e at none))))
    (λ e. absurd (search ((rw e at none), rules)))
    (λ e. rw e (ap (λ ns. m ∷ ns) (kept_without t ms (rw e at none))))

pub kept_set : (t : ℤ) (ms : Members) → Rises ms → kept t ms ≡ set_member timestamp (v.Time t) ms
kept_set t [] rises = refl
kept_set t (m ∷ ms) rises = order_cases (text_cmp timestamp m.0)
    (λ e. rw e (ap (λ ns. m ∷ ns) (kept_set t ms rises.1)))
    (λ e. rw e (ap (λ ns. (m.0, v.Time t) ∷ ns) (kept_without t ms (get_member-below timestamp ms (subst (λ l. Below l (keys_of ms)) (sym (same_from_Equal timestamp m.0 e)) rises.0)))))
    (λ e. rw e (ap (λ ns. m ∷ ns) (kept_set t ms rises.1)))

keys_of-kept : (t : ℤ) (ms : Members) → keys_of (kept t ms) ≡ keys_of ms
keys_of-kept t [] = refl
keys_of-kept t (m ∷ ms) = ap (λ ks. m.0 ∷ ks) (keys_of-kept t ms)
