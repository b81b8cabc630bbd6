-- How `Items` hold their elements, for a recursive type that holds `Items` of itself.
use mathlib.Core.Path.{◌≡◌, refl, sym}
use mathlib.Core.List.{List, []}
use mathlib.Core.Former.{Former, this, list, via, children}
use base.Stored.{code_map}
use denote.RattleType.{RattleType}
use denote.HoleLaws.{Alike}
use denote.HolePlaces.{Recodes, struct_places, laid}
use denote.Hole.Carrier.{listed, list-listed}
use denote.Hole.Fix.{over}
use denote.Param.Weighed.{Weighed, w_list}
use denote.Model.Placed.{view_places}
use Rattle.std.specs.formers.vec.Vec as vec
use Rattle.std.specs.declared.alloc.Global.{Global}
use Rattle.std.specs.contracts.alloc.Global as heap
use Rattle.std.specs.contracts.impls.GlobalAllocator.TheImpl.{ghosts}
use Rattle.plain_data.specs.declared.items.Items.TheInside.{Inside}
use Rattle.plain_data.specs.declared.items.Items.TheView.{view, invariant}
use Rattle.plain_data.specs.contracts.items.Items as its
use Rattle.plain_data.specs.contracts.items.Items.TheInside as inside

-- a value is the list of its elements
abbrev pub the_former : Former {0} → Former {0}
the_former element = list element

-- the largest measure of an element
abbrev pub the_weighed : {element : Former {0}} → Weighed element → Weighed (the_former element)
the_weighed measure = w_list measure

pub the_empty : List ⊥
the_empty = []

abbrev pub the_items : (X : Type 0) → List X → List X
the_items X elements = elements

pub the_items_listed : (X : Type 0) (elements : List X) → listed _ (children (the_former this) X elements) ≡ the_items X elements
the_items_listed X elements = list-listed X elements

-- the one field is a `Vec` of them
abbrev stored : Former {0}
stored = via (vec.the_former this Global) Inside (λ X fields. fields.elements) (λ X elements. record { elements = elements }) (λ X fields. refl) (λ X elements. refl)

module _ (R R' : RattleType) (h : R.Denot → R'.Denot) where
  stored_places : Alike R R' h → Alike (inside.the_row R) (inside.the_row R') (stored.map R.Denot R'.Denot h)
  stored_places alike =
      let the_vec = vec.the_places heap.the_row ghosts R R' h alike in
      struct_places (inside.the_type R) (inside.the_type R') (vec.mapped h, tt) _ (λ fields. refl) refl (laid _ _ _ the_vec, tt)

  pub the_places : Alike R R' h → Alike (its.the_row R) (its.the_row R') ((the_former this).map R.Denot R'.Denot h)
  the_places alike =
      view_places stored (the_former this) view (λ X Y k fields. refl) (λ X fields. refl) R.Denot R'.Denot h
      (its.the_row R).coded (its.the_row R').coded (invariant R.Denot) (invariant R'.Denot)
      (λ fields a b. refl) (λ fields a b. refl) (λ fields a. tt) (λ fields a. tt)
      (over (inside.the_row R)) (over (inside.the_row R')) (stored_places alike)

  pub the_codes_placed : Recodes R R' h → Recodes (its.the_row R) (its.the_row R') ((the_former this).map R.Denot R'.Denot h)
  the_codes_placed same elements = sym (code_map R.coded.code R'.coded.code h (λ x. sym (same x)) elements)
