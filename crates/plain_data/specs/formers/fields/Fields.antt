-- How `Fields` hold their values, for a recursive type that holds `Fields` of itself.
use mathlib.Core.Path.{◌≡◌, refl, sym, ap, subst}
use mathlib.Core.List.{List, [], ◌∷◌, map}
use Prim.Native.Nat.{ℕ}
use mathlib.Core.Former.{Former, this, const, pair, list, via, children}
use base.Stored.{code_map, coded×, gcons}
use denote.RattleType.{RattleType}
use denote.HoleLaws.{Alike}
use denote.HolePlaces.{Recodes, struct_places, laid, stays}
use denote.Hole.Carrier.{listed}
use denote.Hole.Fix.{over}
use denote.Param.Weighed.{Weighed, w_const, w_pair, w_list}
use denote.Model.Placed.{view_places}
use denote.Struct.Tuple.{Tuple, tuple_type}
use Rattle.std.specs.Map.{keys_of, values_of}
use Rattle.std.specs.formers.vec.Vec as vec
use Rattle.std.specs.declared.alloc.Global.{Global}
use Rattle.std.specs.contracts.alloc.Global as heap
use Rattle.std.specs.contracts.impls.GlobalAllocator.TheImpl.{ghosts}
use Rattle.std.specs.declared.cmp.PartialEq as eq
use Rattle.std.specs.Cmp.Lexicographic.{pointwise}
use Rattle.std.specs.Cmp.Derive.Mapped.{pointwise-map}
use Rattle.plain_data.specs.Keys.{Ascends, Ascends-prop}
use Rattle.plain_data.specs.MemberImpls.{member_eq}
use Rattle.plain_data.specs.declared.fields.Fields.TheInside.{Inside}
use Rattle.plain_data.specs.declared.fields.Fields.TheView.{view, invariant}
use Rattle.plain_data.specs.contracts.text.Text as text
use Rattle.plain_data.specs.contracts.fields.Fields as its
use Rattle.plain_data.specs.contracts.fields.Fields.TheInside as inside

-- a member is a key, which holds no value, and a value
abbrev member : Former {0} → Former {0}
member value = pair (const (List ℕ)) value

-- a value of the type is the list of its members
abbrev pub the_former : Former {0} → Former {0}
the_former value = list (member value)

-- the largest measure of a value
abbrev pub the_weighed : {value : Former {0}} → Weighed value → Weighed (the_former value)
the_weighed measure = w_list (w_pair (w_const (List ℕ)) measure)

pub the_empty : List (List ℕ × ⊥)
the_empty = []

abbrev pub the_items : (X : Type 0) → List (List ℕ × X) → List X
the_items X members = values_of members

pub the_items_listed : (X : Type 0) (members : List (List ℕ × X)) → listed _ (children (the_former this) X members) ≡ the_items X members
the_items_listed X [] = refl
the_items_listed X (m ∷ ms) = ap (λ values. m.1 ∷ values) (the_items_listed X ms)

-- the one field is a `Vec` of the members
abbrev stored : Former {0}
stored = via (vec.the_former (member this) Global) Inside (λ X fields. fields.members) (λ X members. record { members = members }) (λ X fields. refl) (λ X members. refl)

-- the member with h of its value
abbrev with_value : {X Y : Type 0} → (X → Y) → List ℕ × X → List ℕ × Y
with_value h m = (m.0, h m.1)

same_keys : {X Y : Type 0} (h : X → Y) (ms : List (List ℕ × X)) → keys_of (map (with_value h) ms) ≡ keys_of ms
same_keys h [] = refl
same_keys h (m ∷ ms) = ap (λ keys. m.0 ∷ keys) (same_keys h ms)

abbrev member_of : RattleType → RattleType
member_of V = Tuple (text.the_row ∷ V ∷ [])

module _ (R R' : RattleType) (h : R.Denot → R'.Denot) where
  member_places : Alike R R' h → Alike (member_of R) (member_of R') (with_value h)
  member_places alike =
      struct_places (tuple_type (text.the_row ∷ R ∷ [])) (tuple_type (text.the_row ∷ R' ∷ [])) ((λ key. key), (h, tt)) (with_value h)
      (λ member. refl) refl (stays text.the_row, (laid R R' h alike, tt))

  stored_places : Alike R R' h → Alike (inside.the_row R) (inside.the_row R') (stored.map R.Denot R'.Denot h)
  stored_places alike =
      let the_vec = vec.the_places heap.the_row ghosts (member_of R) (member_of R') (with_value h) (member_places alike) in
      struct_places (inside.the_type R) (inside.the_type R') (vec.mapped (with_value h), tt) _ (λ fields. refl) refl (laid _ _ _ the_vec, tt)

  pub the_places : Alike R R' h → Alike (its.the_row R) (its.the_row R') ((the_former this).map R.Denot R'.Denot h)
  the_places alike =
      view_places stored (the_former this) view (λ X Y k fields. refl) (λ X fields. refl) R.Denot R'.Denot h
      (its.the_row R).coded (its.the_row R').coded (invariant R.Denot) (invariant R'.Denot)
      (λ fields. Ascends-prop _) (λ fields. Ascends-prop _)
      (λ fields ascends. subst Ascends (sym (same_keys h fields.members.items)) ascends)
      (λ fields ascends. subst Ascends (same_keys h fields.members.items) ascends)
      (over (inside.the_row R)) (over (inside.the_row R')) (stored_places alike)

  pub the_codes_placed : Recodes R R' h → Recodes (its.the_row R) (its.the_row R') ((the_former this).map R.Denot R'.Denot h)
  the_codes_placed same members =
      sym (code_map (coded× text.the_row.coded R.coded).code (coded× text.the_row.coded R'.coded).code (with_value h)
      (λ m. ap (λ value. gcons (text.the_row.coded.code m.0) value) (sym (same m.1))) members)

-- the tests of two members go by their keys and values
pub the_eq_natural : (X Y : Type 0) (h : X → Y) (value : eq.Ghosts Y) (ms ns : List (List ℕ × X))
    → pointwise (member_eq value.eq) (map (with_value h) ms) (map (with_value h) ns) ≡ pointwise (member_eq (λ x y. value.eq (h x) (h y))) ms ns
the_eq_natural X Y h value ms ns = pointwise-map (with_value h) (member_eq value.eq) ms ns
