-- A put into one of the two objects of an event, where there is room for so many more bytes, and what is taken from one of them.
use Rattle.std.proofs.Common.{◌≡◌, ℕ, ◌+◌, ◌-◌, ◌<◌, ◌≤◌, max, List, [], ◌∷◌, length, Bool, true, false, cond, Option, Some, None, IsSome, option_map, option_and_then, Ok, Err, nat_lt, refl, sym, ap, subst, ◌∙◌, arith, rules}
use Rattle.std.specs.Prelude.{is_some, not}
use Rattle.std.proofs.lemmas.Bool.Decides.{nat_tests}
use Rattle.event_tree.specs.Values.{depth}
use Rattle.event_tree.specs.Sizes.{size, less}
use Rattle.event_tree.specs.Sound.{are_texts, sound}
use Rattle.event_tree.specs.Paths.{put, append, take}
use Rattle.event_tree.specs.Growth.{room_at_end}
use Rattle.event_tree.specs.Events.{Ev, IsObject, IsEvent, both, object_in, object, object_put, with_fields, with_meta, event_size, event_depth, limited}
use Rattle.event_tree.specs.Outcomes.{ends_as_no_object, Passes, Puts, PutsWithin, PutsEvent, Takes, changed}
use Rattle.event_tree.specs.declared.value.Value.{Value, out-Value, roll-Value, roll-out-Value}
use Rattle.event_tree.specs.declared.value.Value.TheOpen.{Value-F}
use Rattle.event_tree.specs.declared.value.Value.TheVariants as v
use Rattle.event_tree.specs.declared.within.WriteKind.{WriteKind}
use Rattle.event_tree.specs.declared.within.WriteKind.TheVariants as how
use Rattle.event_tree.specs.declared.fault.PutFault.{PutFault}
use Rattle.event_tree.specs.declared.fault.PutFault.TheVariants.{ThroughScalar, Deep, Large, Memory}
use Rattle.event_tree.proofs.PutLaws.{Grown, refused, done, put_cases}
use Rattle.event_tree.proofs.TakeLaws.{take-kept}
use Rattle.event_tree.proofs.Sizes.{size-Object}

pub less_none : (n m : ℕ) → less n m ≡ None → n < m
less_none n m h = by (nat_lt n m) refl h
  where
    by : (b : Bool) → nat_lt n m ≡ b → cond b None (Some (n - m)) ≡ None → n < m
    by true e h = grind (arith, nat_tests)
    by false e h = absurd (search (h, rules))

pub less_some : (n m k : ℕ) → less n m ≡ Some k → k + m ≡ n
less_some n m k h = by (nat_lt n m) refl h
  where
    by : (b : Bool) → nat_lt n m ≡ b → cond b None (Some (n - m)) ≡ Some k → k + m ≡ n
    by true e h = absurd (search (h, rules))
    by false e h = let s : n - m ≡ k = search (h, rules) in let l : m ≤ n = grind (arith, nat_tests) in omega arith

lt_true : (a b : ℕ) → a < b → nat_lt a b ≡ true
lt_true a b h = grind (arith, nat_tests)

lt_false : (a b : ℕ) → b ≤ a → nat_lt a b ≡ false
lt_false a b h = grind (arith, nat_tests)

pub object-some : (x : Value) → IsObject x → object x ≡ Some x
object-some x o = ap object o.1 ∙ ap object_in (v.outs-Object o.0) ∙ ap Some (sym o.1)

object-is : (d : Value) → is_some (object d) ≡ true → IsObject d
object-is d h = by (out-Value d) (roll-out-Value d) h
  where
    by : (f : Value-F Value) → roll-Value f ≡ d → is_some (object_in f) ≡ true → IsObject d
    by Value-F.Null r h = absurd (search (h, rules))
    by (Value-F.Bool b) r h = absurd (search (h, rules))
    by (Value-F.Num n) r h = absurd (search (h, rules))
    by (Value-F.Text s) r h = absurd (search (h, rules))
    by (Value-F.Time t) r h = absurd (search (h, rules))
    by (Value-F.List vs) r h = absurd (search (h, rules))
    by (Value-F.Object ms) r h = (ms, sym r ∙ v.rolls-Object ms)

object_from : (d : Value) → ends_as_no_object [] d ≡ false → is_some (object d) ≡ true
object_from d h = by (is_some (object d)) h
  where
    by : (t : Bool) → not t ≡ false → t ≡ true
    by true h = refl
    by false h = absurd (search (h, rules))

module _ (d old : Value) (o : IsObject old) where
  object_put-some : (ps : List (List ℕ)) (new : Value) (m : ℕ × ℕ) → put ps d old ≡ Some new → Grown ps d old new m → ends_as_no_object ps d ≡ false → object_put ps d old ≡ Some new
  object_put-some [] new m e k whole = let n : d ≡ new = search (e, rules) in object-some d (object-is d (object_from d whole)) ∙ ap Some n
  object_put-some (p ∷ ps) new m e k whole = ap (option_and_then object) e ∙ object-some new (k.object (omega arith) o)

module _ (ps : List (List ℕ)) (d old : Value) (room : ℕ) where
  pub no_way : room_at_end room ps old ≡ None → object_put ps d old ≡ None
  no_way h = elim (put_cases ps d old) [
    | refused a b ↦ ap (option_and_then object) b
    | done m new a b k ↦ absurd (search (rw a at h, rules))
  ]

  module _ (o : IsObject old) (whole : ends_as_no_object ps d ≡ false) where
    pub too_deep : (found : Option ℕ) → room_at_end room ps old ≡ Some found → nat_lt 128 (length ps + depth d) ≡ true → (x : Value) × (object_put ps d old ≡ Some x) × (128 < depth x)
    too_deep found h deep = elim (put_cases ps d old) [
      | refused a b ↦ absurd (search (rw a at h, rules))
      | done m new a b k ↦ let l : 128 < length ps + depth d = grind (arith, nat_tests) in (new, object_put-some d old o ps new m b k whole, omega (arith, k.deep, l))
    ]

    module _ (flat : depth old ≤ 128) (within : nat_lt 128 (length ps + depth d) ≡ false) where
      shallow : length ps + depth d ≤ 128
      shallow = grind (arith, nat_tests)

      pub no_room_for_way : room_at_end room ps old ≡ Some None → (x : Value) × (object_put ps d old ≡ Some x) × (depth x ≤ 128) × (size old + room < size x)
      no_room_for_way h = elim (put_cases ps d old) [
        | refused a b ↦ absurd (search (rw a at h, rules))
        | done m new a b k ↦
            let e : less (room + m.0) m.1 ≡ None = search (rw a at h, rules) in
            (new, object_put-some d old o ps new m b k whole, omega (arith, k.shallow, shallow), omega (arith, k.size_is, less_none (room + m.0) m.1 e))
      ]

      pub no_room : (free : ℕ) → room_at_end room ps old ≡ Some (Some free) → less free (size d) ≡ None → (x : Value) × (object_put ps d old ≡ Some x) × (depth x ≤ 128) × (size old + room < size x)
      no_room free h l = elim (put_cases ps d old) [
        | refused a b ↦ absurd (search (rw a at h, rules))
        | done m new a b k ↦
            let e : less (room + m.0) m.1 ≡ Some free = search (rw a at h, rules) in
            (new, object_put-some d old o ps new m b k whole, omega (arith, k.shallow, shallow), omega (arith, k.size_is, less_some (room + m.0) m.1 free e, less_none free (size d) l))
      ]

      module _ (free left : ℕ) (h : room_at_end room ps old ≡ Some (Some free)) (l : less free (size d) ≡ Some left) where
        pub fits : (new : Value) → put ps d old ≡ Some new → (object_put ps d old ≡ Some new) × (depth new ≤ 128) × (size new + left ≡ size old + room) × (are_texts ps ≡ true → sound d ≡ true → sound old ≡ true → sound new ≡ true)
        fits new p = elim (put_cases ps d old) [
          | refused a b ↦ absurd (search (sym b ∙ p, rules))
          | done m x a b k ↦
              let e : less (room + m.0) m.1 ≡ Some free = search (rw a at h, rules) in
              let s : x ≡ new = search (sym b ∙ p, rules) in
              subst (λ y. (object_put ps d old ≡ Some y) × (depth y ≤ 128) × (size y + left ≡ size old + room) × (are_texts ps ≡ true → sound d ≡ true → sound old ≡ true → sound y ≡ true)) s
              (object_put-some d old o ps x m b k whole, omega (arith, k.shallow, shallow), omega (arith, k.size_is, less_some (room + m.0) m.1 free e, less_some free (size d) left l), k.kept)
        ]

        pub refusal : (fault : PutFault) (new : Value) → Puts (Err fault) (put ps d old) old new → PutsWithin (Err fault) (object_put ps d old) room old new
        refusal ThroughScalar new r = (ap (option_and_then object) r.0, r.1)
        refusal Deep new r = absurd r
        refusal Large new r = absurd r
        refusal Memory new r = elim (put_cases ps d old) [
          | refused a b ↦ absurd (search (rw b at r.0, rules))
          | done m x a b k ↦ let f = fits x b in ((x, f.0, f.1, omega (arith, f.2)), r.1)
        ]

-- what may stand at the end of the parts
module _ (found : Option (Option ℕ)) (ps : List (List ℕ)) (d : Value) (left : ℕ) (p : Passes found ps d left) (room : ℕ) (old : Value) (is : found ≡ room_at_end room ps old) (o : IsObject old) (flat : depth old ≤ 128) where
  abbrev there : room_at_end room ps old ≡ Some (Some p.free)
  there = sym is ∙ p.found_is

  pub passes_fits : (new : Value) → put ps d old ≡ Some new → (object_put ps d old ≡ Some new) × (depth new ≤ 128) × (size new + left ≡ size old + room) × (are_texts ps ≡ true → sound d ≡ true → sound old ≡ true → sound new ≡ true)
  passes_fits = fits ps d old room o p.whole flat p.shallow p.free left there p.left_is

  pub passes_refusal : (fault : PutFault) (new : Value) → Puts (Err fault) (put ps d old) old new → PutsWithin (Err fault) (object_put ps d old) room old new
  passes_refusal = refusal ps d old room o p.whole flat p.shallow p.free left there p.left_is

  -- nothing but want of memory can refuse it
  pub passes_all : PutsWithin (Err Memory) (object_put ps d old) room old old
  passes_all = elim (put_cases ps d old) [
    | refused a b ↦ absurd (search (rw a at there, rules))
    | done m x a b k ↦ passes_refusal Memory old (subst IsSome (sym b) refl, refl)
  ]

-- an object and its size
pub object-gives : (x new : Value) → object x ≡ Some new → IsObject new
object-gives x new h = by (out-Value x) h
  where
    by : (f : Value-F Value) → object_in f ≡ Some new → IsObject new
    by Value-F.Null h = absurd (search (h, rules))
    by (Value-F.Bool b) h = absurd (search (h, rules))
    by (Value-F.Num n) h = absurd (search (h, rules))
    by (Value-F.Text s) h = absurd (search (h, rules))
    by (Value-F.Time t) h = absurd (search (h, rules))
    by (Value-F.List vs) h = absurd (search (h, rules))
    by (Value-F.Object ms) h = let e : v.Object ms ≡ new = search (h, rules) in (ms, sym e)

object-of : (said : Option Value) (new : Value) → option_and_then object said ≡ Some new → IsObject new
object-of None new h = absurd (search (h, rules))
object-of (Some x) new h = object-gives x new h

pub size-object : (x : Value) → IsObject x → 5 ≤ size x
size-object x o = let e : size x ≡ size (v.Object o.0) = ap size o.1 in omega (arith, e, size-Object o.0)

-- what is said of the object, said of the event that has it beside another
module _ (make : Value → Ev) (other_depth other_size : ℕ) (flat : other_depth ≤ 128)
    (depth_is : (x : Value) → event_depth (make x) ≡ max (depth x) other_depth) (size_is : (x : Value) → event_size (make x) ≡ (size x - 1) + other_size)
    (said : Option Value) (room : ℕ) (old : Value) (o : IsObject old) (full : room + event_size (make old) ≡ 16777216) where
  within : (x : Value) → said ≡ Some x → depth x ≤ 128 → size x ≤ size old + room → limited (option_map make said) ≡ Ok (make x)
  within x e d s =
      let t : nat_lt 128 (event_depth (make x)) ≡ false = lt_false 128 (event_depth (make x)) (omega (arith, depth_is x)) in
      let u : nat_lt 16777216 (event_size (make x)) ≡ false = lt_false 16777216 (event_size (make x)) (omega (arith, size_is x, size_is old, size-object old o)) in
      ap (λ q. limited (option_map make q)) e ∙ rw (t, u)

  event_refusal : (fault : PutFault) (new : Value) → PutsWithin (Err fault) said room old new → PutsEvent (Err fault) (limited (option_map make said)) (make old) (make new)
  event_refusal ThroughScalar new r = (ap (λ q. limited (option_map make q)) r.0, ap make r.1)
  event_refusal Deep new ((x, e, d), same) =
      let t : nat_lt 128 (event_depth (make x)) ≡ true = lt_true 128 (event_depth (make x)) (omega (arith, depth_is x)) in
      (ap (λ q. limited (option_map make q)) e ∙ rw t, ap make same)
  event_refusal Large new ((x, e, d, s), same) =
      let t : nat_lt 128 (event_depth (make x)) ≡ false = lt_false 128 (event_depth (make x)) (omega (arith, depth_is x)) in
      let u : nat_lt 16777216 (event_size (make x)) ≡ true = lt_true 16777216 (event_size (make x)) (omega (arith, size_is x, size_is old, size-object old o)) in
      (ap (λ q. limited (option_map make q)) e ∙ rw (t, u), ap make same)
  event_refusal Memory new ((x, e, d, s), same) = ((make x, within x e d s), ap make same)

module _ (f m : Value) (is : IsEvent (both f m)) (said : Option Value) (room : ℕ) (full : room + event_size (both f m) ≡ 16777216) (fault : PutFault) (new : Value) where
  pub fields_refusal : PutsWithin (Err fault) said room f new → PutsEvent (Err fault) (limited (option_map (with_fields (both f m)) said)) (both f m) (both new m)
  fields_refusal = event_refusal (with_fields (both f m)) (depth m) (size m - 1) (omega (arith, is.shallow)) (λ x. refl) (λ x. refl) said room f is.fields_object full fault new

  pub meta_refusal : PutsWithin (Err fault) said room m new → PutsEvent (Err fault) (limited (option_map (with_meta (both f m)) said)) (both f m) (both f new)
  meta_refusal = event_refusal (with_meta (both f m)) (depth f) (size f - 1) (omega (arith, is.shallow)) (λ x. omega arith) (λ x. omega arith) said room m is.meta_object full fault new

-- what is said of the one object of an event, said of the other
pub turned : (f m : Value) → IsEvent (both f m) → IsEvent (both m f)
turned f m is = record {
  fields_object = is.meta_object;
  meta_object = is.fields_object;
  small = omega (arith, is.small);
  shallow = omega (arith, is.shallow);
  fields_sound = is.meta_sound;
  meta_sound = is.fields_sound;
}

-- what becomes of the object is one, however the value is put there
abbrev made_by : WriteKind → List (List ℕ) → Value → Value → Option Value
made_by how.Put ps d old = put ps d old
made_by how.Append ps d old = append ps d old

changed_is : (how : WriteKind) (ps : List (List ℕ)) (d old : Value) → changed how ps d old ≡ option_and_then object (made_by how ps d old)
changed_is how.Put ps d old = refl
changed_is how.Append ps d old = refl

-- an event of so many bytes, one object of which becomes another
module _ (old other : Value) (was : IsEvent (both old other)) (whole : ℕ) (e : whole ≡ event_size (both old other)) (ps : List (List ℕ)) (new : Value) where
  put_kept : (said : Option Value) (left : ℕ) → PutsWithin (Ok left) (option_and_then object said) (16777216 - whole) old new → IsEvent (both new other) × (event_size (both new other) + left ≡ 16777216)
  put_kept said left p =
      let o = object-of said new p.0 in
      let s : event_size (both new other) + left ≡ 16777216 = omega (arith, e, was.small, p.2, size-object new o, size-object old was.fields_object) in (
        record {
          fields_object = o;
          meta_object = was.meta_object;
          small = omega (arith, s);
          shallow = omega (arith, p.1, was.shallow);
          fields_sound = p.3;
          meta_sound = was.meta_sound;
        },
        s,
      )

  pub change_kept : (how : WriteKind) (d : Value) (left : ℕ) → PutsWithin (Ok left) (changed how ps d old) (16777216 - whole) old new → IsEvent (both new other) × (event_size (both new other) + left ≡ 16777216)
  change_kept how d left p = put_kept (made_by how ps d old) left (subst (λ said. PutsWithin (Ok left) said (16777216 - whole) old new) (changed_is how ps d old) p)

  pub take_kept : (x : Value) (key : ℕ) → Takes (Some x) (take ps old) old new → size new + size x + key ≡ size old → IsEvent (both new other) × (event_size (both new other) + size x + key ≡ whole)
  take_kept x key taken s =
      let k = take-kept ps old x new taken in
      let o = k.object was.fields_object in
      let t : event_size (both new other) + size x + key ≡ whole = omega (arith, e, s, size-object new o, size-object old was.fields_object) in (
        record {
          fields_object = o;
          meta_object = was.meta_object;
          small = omega (arith, t, e, was.small);
          shallow = omega (arith, k.shallow, was.shallow);
          fields_sound = k.kept was.fields_sound;
          meta_sound = was.meta_sound;
        },
        t,
      )
