-- Events, and what a path leads to in them.
use Rattle.std.specs.Prelude.{◌≡◌, ℕ, max, ◌+◌, ◌-◌, ◌≤◌, List, [], ◌∷◌, Bool, true, if◌then◌else◌, nat_lt, Option, Some, None, option_map, option_and_then, Result, Ok, Err}
use Rattle.event_tree.specs.Values.{Members, depth}
use Rattle.event_tree.specs.Sizes.{size}
use Rattle.event_tree.specs.Sound.{sound}
use Rattle.event_tree.specs.Paths.{at, put, append, take}
use Rattle.event_tree.specs.declared.value.Value.{Value, out-Value}
use Rattle.event_tree.specs.declared.value.Value.TheOpen.{Value-F}
use Rattle.event_tree.specs.declared.value.Value.TheVariants as v
use Rattle.event_tree.specs.declared.fault.PutFault.{PutFault}
use Rattle.event_tree.specs.declared.fault.PutFault.TheVariants.{ThroughScalar, Deep, Large}

-- two objects
pub record Ev : Type 0 where
  pub fields : Value
  pub meta : Value

abbrev pub IsObject : Value → Type 0
IsObject d = (ms : Members) × (d ≡ v.Object ms)

abbrev pub both : Value → Value → Ev
both fields meta = record { fields = fields; meta = meta }

-- the length of the encoding: each object's without its tag
abbrev pub event_size : Ev → ℕ
event_size e = (size e.fields - 1) + (size e.meta - 1)

-- the two objects are the first level
abbrev pub event_depth : Ev → ℕ
event_depth e = max (depth e.fields) (depth e.meta)

-- what holds of each event
pub record IsEvent (e : Ev) : Type 0 where
  pub fields_object : IsObject e.fields
  pub meta_object : IsObject e.meta
  pub small : event_size e ≤ 16777216
  pub shallow : event_depth e ≤ 128
  pub fields_sound : sound e.fields ≡ true
  pub meta_sound : sound e.meta ≡ true

-- where a path leads: into `meta` or into `fields`, and there by which parts
pub record Way : Type 0 where
  pub meta : Bool
  pub parts : List (List ℕ)

-- into `meta`, or into `fields`, by these parts
abbrev pub to : Bool → List (List ℕ) → Way
to meta parts = record { meta = meta; parts = parts }

abbrev pub event_at : Way → Ev → Option Value
event_at w e = if w.meta then at w.parts e.meta else at w.parts e.fields

abbrev pub object_in : Value-F Value → Option Value
object_in Value-F.Null = None
object_in (Value-F.Bool b) = None
object_in (Value-F.Num n) = None
object_in (Value-F.Text s) = None
object_in (Value-F.Time t) = None
object_in (Value-F.List vs) = None
object_in (Value-F.Object ms) = Some (v.Object ms)

-- the value, where it is an object
abbrev pub object : Value → Option Value
object d = object_in (out-Value d)

abbrev pub with_fields : Ev → Value → Ev
with_fields e x = record { fields = x; meta = e.meta }

abbrev pub with_meta : Ev → Value → Ev
with_meta e x = record { fields = e.fields; meta = x }

-- put, where an object comes of it
abbrev pub object_put : List (List ℕ) → Value → Value → Option Value
object_put ps d old = option_and_then object (put ps d old)

-- none where the way leads through neither object nor list, or where `meta` itself would become no object
abbrev pub event_put : Way → Value → Ev → Option Ev
event_put w d e =
    if w.meta then option_map (with_meta e) (object_put w.parts d e.meta)
    else option_map (with_fields e) (object_put w.parts d e.fields)

-- what is taken, and the event that is left: `meta` itself leaves an empty object
abbrev pub take_meta : List (List ℕ) → Value → Option (Value × Value)
take_meta [] d = Some (d, v.Object [])
take_meta (p ∷ ps) d = take (p ∷ ps) d

abbrev pub event_take : Way → Ev → Option (Value × Ev)
event_take w e =
    if w.meta then option_map (λ r. (r.0, with_meta e r.1)) (take_meta w.parts e.meta)
    else option_map (λ r. (r.0, with_fields e r.1)) (take w.parts e.fields)

-- append, where an object comes of it
abbrev pub object_append : List (List ℕ) → Value → Value → Option Value
object_append ps d old = option_and_then object (append ps d old)

-- none where no list stands there
abbrev pub event_append : Way → Value → Ev → Option Ev
event_append w d e =
    if w.meta then option_map (with_meta e) (object_append w.parts d e.meta)
    else option_map (with_fields e) (object_append w.parts d e.fields)

-- the event that there will be, or the first of the reasons why not
abbrev pub limited : Option Ev → Result Ev PutFault
limited None = Err ThroughScalar
limited (Some e) = if nat_lt 128 (event_depth e) then Err Deep else (if nat_lt 16777216 (event_size e) then Err Large else Ok e)

-- the event once what stands at a path was taken and put at another, or why it can't be; none where nothing stands there
abbrev pub event_move : Way → Way → Ev → Option (Result Ev PutFault)
event_move from target e = option_map (λ r. limited (event_put target r.0 r.1)) (event_take from e)

-- the one of the two objects that a path leads into
abbrev pub object_of : Way → Ev → Value
object_of w e = if w.meta then e.meta else e.fields
