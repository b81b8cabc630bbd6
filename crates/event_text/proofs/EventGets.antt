-- The laws of paths at events.
use Rattle.std.proofs.Common.{◌≡◌, ◌≢◌, ℕ, ◌<◌, List, [], ◌∷◌, ◌++◌, length, Bool, true, false, nat_lt, if◌then◌else◌, Option, Some, None, Result, Ok, Err, option_map, option_and_then, refl, sym, ap, ◌∙◌, rules, arith, remove}
use Rattle.std.proofs.lemmas.Option.{same_Some}
use Rattle.event_tree.specs.Values.{Members}
use Rattle.event_tree.specs.Paths.{list_place, at, put, take, wrap}
use Rattle.event_tree.specs.Events.{Ev, IsEvent, event_depth, event_size, event_at, event_put, event_take, take_meta, object_in, object, object_put, with_fields, with_meta, limited, to}
use Rattle.event_tree.specs.declared.fault.PutFault.{PutFault}
use Rattle.event_tree.specs.declared.fault.PutFault.TheVariants.{Deep, Large}
use Rattle.event_tree.specs.declared.value.Value.{Value, out-Value, roll-Value, roll-out-Value}
use Rattle.event_tree.specs.declared.value.Value.TheOpen.{Value-F}
use Rattle.event_tree.specs.declared.value.Value.TheVariants as v
use Rattle.event_text.specs.PathLaws.{IsNoList, event_passes_end}
use Rattle.event_text.proofs.PutGets.{at_put, at_put_other, at_put_here}
use Rattle.event_text.proofs.TakeGets.{taken, at_take, at_take_other, at_take_item}
use Rattle.event_text.proofs.Levels.{Changed}

ok_same : {A E : Type 0} (a b : A) → ◌≡◌ {A = Result A E} (Ok a) (Ok b) → a ≡ b
ok_same a b e = ap (λ o. elim o [ Ok x ↦ x | Err x ↦ a ]) e

-- what is within the limits is as it was
within : (o : Option Ev) (new : Ev) → limited o ≡ Ok new → o ≡ Some new
within None new h = absurd (search (h, rules))
within (Some e) new h = deep (nat_lt 128 (event_depth e)) h
  where
    large : (b : Bool) → ◌≡◌ {A = Result Ev PutFault} (if b then Err Large else Ok e) (Ok new) → ◌≡◌ {A = Option Ev} (Some e) (Some new)
    large true h = absurd (search (h, rules))
    large false h = ap Some (ok_same e new h)

    deep : (b : Bool) → ◌≡◌ {A = Result Ev PutFault} (if b then Err Deep else (if nat_lt 16777216 (event_size e) then Err Large else Ok e)) (Ok new) → ◌≡◌ {A = Option Ev} (Some e) (Some new)
    deep true h = absurd (search (h, rules))
    deep false h = large (nat_lt 16777216 (event_size e)) h

object_same : (x y : Value) → object x ≡ Some y → x ≡ y
object_same x y h = cases (out-Value x) (sym (roll-out-Value x)) h
  where
    cases : (f : Value-F Value) → x ≡ roll-Value f → object_in f ≡ Some y → x ≡ y
    cases Value-F.Null e h = absurd (search (h, rules))
    cases (Value-F.Bool b) e h = absurd (search (h, rules))
    cases (Value-F.Num n) e h = absurd (search (h, rules))
    cases (Value-F.Text s) e h = absurd (search (h, rules))
    cases (Value-F.Time t) e h = absurd (search (h, rules))
    cases (Value-F.List vs) e h = absurd (search (h, rules))
    cases (Value-F.Object ms) e h = e ∙ v.rolls-Object ms ∙ same_Some (v.Object ms) y h

put_same : (o : Option Value) (y : Value) → option_and_then object o ≡ Some y → o ≡ Some y
put_same None y h = absurd (search (h, rules))
put_same (Some x) y h = ap Some (object_same x y h)

-- what an event became, where one of its objects became y
became : {A : Type 0} (f : A → Ev) (o : Option A) (new : Ev) → option_map f o ≡ Some new → (y : A) × (o ≡ Some y) × (new ≡ f y)
became f None new h = absurd (search (h, rules))
became f (Some y) new h = (y, refl, sym (same_Some (f y) new h))

pub put_got : (meta : Bool) (ps : List (List ℕ)) (d : Value) (old new : Ev) → limited (event_put (to meta ps) d old) ≡ Ok new → event_at (to meta ps) new ≡ (if event_passes_end (to meta ps) old then None else Some d)
put_got true ps d old new h = let b = became (with_meta old) (object_put ps d old.meta) new (within (event_put (to true ps) d old) new h) in
    ap (λ e. at ps e.meta) b.2 ∙ at_put ps d old.meta b.0 (put_same (put ps d old.meta) b.0 b.1)
put_got false ps d old new h = let b = became (with_fields old) (object_put ps d old.fields) new (within (event_put (to false ps) d old) new h) in
    ap (λ e. at ps e.fields) b.2 ∙ at_put ps d old.fields b.0 (put_same (put ps d old.fields) b.0 b.1)

pub put_other : (meta : Bool) (front : List (List ℕ)) (p q : List ℕ) (ps qs : List (List ℕ)) (d : Value) (old new : Ev) → p ≢ q → IsNoList (event_at (to meta front) old)
    → limited (event_put (to meta (front ++ p ∷ ps)) d old) ≡ Ok new → event_at (to meta (front ++ q ∷ qs)) new ≡ event_at (to meta (front ++ q ∷ qs)) old
put_other true front p q ps qs d old new other unlisted h = let b = became (with_meta old) (object_put (front ++ p ∷ ps) d old.meta) new (within (event_put (to true (front ++ p ∷ ps)) d old) new h) in
    ap (λ e. at (front ++ q ∷ qs) e.meta) b.2 ∙ at_put_other p q ps qs d other front old.meta b.0 unlisted (put_same (put (front ++ p ∷ ps) d old.meta) b.0 b.1)
put_other false front p q ps qs d old new other unlisted h = let b = became (with_fields old) (object_put (front ++ p ∷ ps) d old.fields) new (within (event_put (to false (front ++ p ∷ ps)) d old) new h) in
    ap (λ e. at (front ++ q ∷ qs) e.fields) b.2 ∙ at_put_other p q ps qs d other front old.fields b.0 unlisted (put_same (put (front ++ p ∷ ps) d old.fields) b.0 b.1)

pub put_apart : (meta other : Bool) (ps qs : List (List ℕ)) (d : Value) (old new : Ev) → meta ≢ other → limited (event_put (to meta ps) d old) ≡ Ok new → event_at (to other qs) new ≡ event_at (to other qs) old
put_apart true true ps qs d old new apart h = absurd (apart refl)
put_apart false false ps qs d old new apart h = absurd (apart refl)
put_apart true false ps qs d old new apart h = let b = became (with_meta old) (object_put ps d old.meta) new (within (event_put (to true ps) d old) new h) in ap (λ e. at qs e.fields) b.2
put_apart false true ps qs d old new apart h = let b = became (with_fields old) (object_put ps d old.fields) new (within (event_put (to false ps) d old) new h) in ap (λ e. at qs e.meta) b.2

-- ---- what is taken

first_of : {A B : Type 0} (f : A → B) (o : Option (Value × A)) → option_map {U = Value} (λ r. r.0) (option_map {U = Value × B} (λ r. (r.0, f r.1)) o) ≡ option_map (λ r. r.0) o
first_of f None = refl
first_of f (Some r) = refl

pub taken_got : (meta : Bool) (ps : List (List ℕ)) (e : Ev) → (meta ≡ false → 0 < length ps) → option_map (λ r. r.0) (event_take (to meta ps) e) ≡ event_at (to meta ps) e
taken_got true [] e some = refl
taken_got true (p ∷ ps) e some = first_of (with_meta e) (take (p ∷ ps) e.meta) ∙ taken p ps e.meta
taken_got false [] e some = absurd (let less : 0 < 0 = some refl in omega arith)
taken_got false (p ∷ ps) e some = first_of (with_fields e) (take (p ∷ ps) e.fields) ∙ taken p ps e.fields

left_of : {A B : Type 0} (f : A → B) (o : Option (Value × A)) (x : Value) (new : B) → option_map {U = Value × B} (λ r. (r.0, f r.1)) o ≡ Some (x, new) → (y : A) × (o ≡ Some (x, y)) × (new ≡ f y)
left_of f None x new h = absurd (search (h, rules))
left_of {A} {B} f (Some r) x new h =
    let e : ◌≡◌ {A = Value × B} (r.0, f r.1) (x, new) = same_Some (r.0, f r.1) (x, new) h in
    (r.1, ap (λ y. Some (y, r.1)) (ap (λ s. s.0) e), sym (ap (λ s. s.1) e))

take_inner : (ps : List (List ℕ)) (d : Value) → 0 < length ps → take_meta ps d ≡ take ps d
take_inner [] d h = absurd (omega arith)
take_inner (p ∷ ps) d h = refl

some_parts : (front ps : List (List ℕ)) (p : List ℕ) → 0 < length (front ++ p ∷ ps)
some_parts [] ps p = omega arith
some_parts (r ∷ front) ps p = omega arith

meta_left : (ps : List (List ℕ)) (x : Value) (old new : Ev) → 0 < length ps → event_take (to true ps) old ≡ Some (x, new) → (y : Value) × (take ps old.meta ≡ Some (x, y)) × (new ≡ with_meta old y)
meta_left ps x old new some h = let l = left_of (with_meta old) (take_meta ps old.meta) x new h in (l.0, sym (take_inner ps old.meta some) ∙ l.1, l.2)

pub take_other : (meta : Bool) (front : List (List ℕ)) (p q : List ℕ) (ps qs : List (List ℕ)) (x : Value) (old new : Ev) → p ≢ q → IsNoList (event_at (to meta front) old)
    → event_take (to meta (front ++ p ∷ ps)) old ≡ Some (x, new) → event_at (to meta (front ++ q ∷ qs)) new ≡ event_at (to meta (front ++ q ∷ qs)) old
take_other true front p q ps qs x old new other unlisted h = let l = meta_left (front ++ p ∷ ps) x old new (some_parts front ps p) h in
    ap (λ e. at (front ++ q ∷ qs) e.meta) l.2 ∙ at_take_other p q ps qs x other front old.meta l.0 unlisted l.1
take_other false front p q ps qs x old new other unlisted h = let l = left_of (with_fields old) (take (front ++ p ∷ ps) old.fields) x new h in
    ap (λ e. at (front ++ q ∷ qs) e.fields) l.2 ∙ at_take_other p q ps qs x other front old.fields l.0 unlisted l.1

pub take_apart : (meta other : Bool) (ps qs : List (List ℕ)) (x : Value) (old new : Ev) → meta ≢ other → event_take (to meta ps) old ≡ Some (x, new) → event_at (to other qs) new ≡ event_at (to other qs) old
take_apart true true ps qs x old new apart h = absurd (apart refl)
take_apart false false ps qs x old new apart h = absurd (apart refl)
take_apart true false ps qs x old new apart h = let l = left_of (with_meta old) (take_meta ps old.meta) x new h in ap (λ e. at qs e.fields) l.2
take_apart false true ps qs x old new apart h = let l = left_of (with_fields old) (take ps old.fields) x new h in ap (λ e. at qs e.meta) l.2

pub taken_gone : (meta : Bool) (front : List (List ℕ)) (p : List ℕ) (ms : Members) (x : Value) (old new : Ev) → IsEvent old → event_at (to meta front) old ≡ Some (v.Object ms)
    → event_take (to meta (front ++ p ∷ [])) old ≡ Some (x, new) → event_at (to meta (front ++ p ∷ [])) new ≡ None
taken_gone true front p ms x old new is found h = let l = meta_left (front ++ p ∷ []) x old new (some_parts front [] p) h in
    ap (λ e. at (front ++ p ∷ []) e.meta) l.2 ∙ at_take p x front old.meta l.0 ms is.meta_sound found l.1
taken_gone false front p ms x old new is found h = let l = left_of (with_fields old) (take (front ++ p ∷ []) old.fields) x new h in
    ap (λ e. at (front ++ p ∷ []) e.fields) l.2 ∙ at_take p x front old.fields l.0 ms is.fields_sound found l.1

pub meta_emptied : (x : Value) (old new : Ev) → event_take (to true []) old ≡ Some (x, new) → event_at (to true []) new ≡ Some (v.Object [])
meta_emptied x old new h = let l = left_of (with_meta old) (take_meta [] old.meta) x new h in
    let y : l.0 ≡ v.Object [] = empty l.0 l.1 in ap (λ e. Some e.meta) l.2 ∙ ap Some y
  where
    empty : (y : Value) → ◌≡◌ {A = Option (Value × Value)} (Some (old.meta, v.Object [])) (Some (x, y)) → y ≡ v.Object []
    empty y e = sym (ap (λ r. r.1) (same_Some (old.meta, v.Object []) (x, y) e))

-- ---- lists

pub put_here : (meta : Bool) (front : List (List ℕ)) (p : List ℕ) (d e made : Value) (old new : Ev) → ((a b : Value) → a ≡ e → Changed p (put [] d) (wrap [] d) a b → b ≡ made) → event_at (to meta front) old ≡ Some e
    → limited (event_put (to meta (front ++ p ∷ [])) d old) ≡ Ok new → event_at (to meta front) new ≡ Some made
put_here true front p d e made old new here found h = let b = became (with_meta old) (object_put (front ++ p ∷ []) d old.meta) new (within (event_put (to true (front ++ p ∷ [])) d old) new h) in
    ap (λ x. at front x.meta) b.2 ∙ at_put_here p d e made here front old.meta b.0 found (put_same (put (front ++ p ∷ []) d old.meta) b.0 b.1)
put_here false front p d e made old new here found h = let b = became (with_fields old) (object_put (front ++ p ∷ []) d old.fields) new (within (event_put (to false (front ++ p ∷ [])) d old) new h) in
    ap (λ x. at front x.fields) b.2 ∙ at_put_here p d e made here front old.fields b.0 found (put_same (put (front ++ p ∷ []) d old.fields) b.0 b.1)

pub taken_closed : (meta : Bool) (front : List (List ℕ)) (p : List ℕ) (vs : List Value) (i : ℕ) (x : Value) (old new : Ev) → list_place p (length vs) ≡ Some i → event_at (to meta front) old ≡ Some (v.List vs)
    → event_take (to meta (front ++ p ∷ [])) old ≡ Some (x, new) → event_at (to meta front) new ≡ Some (v.List (remove vs i))
taken_closed true front p vs i x old new named found h = let l = meta_left (front ++ p ∷ []) x old new (some_parts front [] p) h in
    ap (λ e. at front e.meta) l.2 ∙ at_take_item p x vs i named front old.meta l.0 found l.1
taken_closed false front p vs i x old new named found h = let l = left_of (with_fields old) (take (front ++ p ∷ []) old.fields) x new h in
    ap (λ e. at front e.fields) l.2 ∙ at_take_item p x vs i named front old.fields l.0 found l.1
