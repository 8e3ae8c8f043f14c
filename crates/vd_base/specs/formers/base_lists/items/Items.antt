-- How an `Items` holds its elements, so that a type may reach itself through a field `Items<..>`.
-- The names are those that the check asks of an owner of many values; it proves them against the struct.
use mathlib.Core.Path.{◌≡◌, refl, sym}
use mathlib.Core.List.{List, []}
use mathlib.Core.Former.{Former, this, list, via, children}
use base.Stored.{code_map}
use denote.RattleType.{RattleType}
use denote.HoleLaws.{Alike}
use denote.HolePlaces.{Recodes, struct_places, laid}
use denote.Hole.Carrier.{listed, list-listed}
use denote.Hole.Fix.{over}
use denote.Param.Weighed.{Weighed, w_list}
use denote.Model.Placed.{view_places}
use Rattle.std.specs.formers.vec.Vec as vec
use Rattle.std.specs.declared.alloc.Global.{Global}
use Rattle.std.specs.contracts.alloc.Global as heap
use Rattle.std.specs.contracts.impls.GlobalAllocator.TheImpl.{ghosts}
use Rattle.vd_base.specs.declared.base_lists.items.Items.TheInside.{Inside}
use Rattle.vd_base.specs.declared.base_lists.items.Items.TheView.{view, invariant}
use Rattle.vd_base.specs.contracts.base_lists.items.Items as items
use Rattle.vd_base.specs.contracts.base_lists.items.Items.TheInside as inside

-- an `Items` is the list of its elements
abbrev pub the_former : Former {0} → Former {0}
the_former element = list element

abbrev pub the_weighed : {g : Former {0}} → Weighed g → Weighed (the_former g)
the_weighed weighed = w_list weighed

-- with no element there is still the empty list
pub the_empty : List ⊥
the_empty = []

abbrev pub the_items : (X : Type 0) → List X → List X
the_items X elements = elements

pub the_items_listed : (X : Type 0) (elements : List X) → listed _ (children (the_former this) X elements) ≡ the_items X elements
the_items_listed X elements = list-listed X elements

-- the one field, a `Vec`, as a shape with the elements in it
abbrev vec_field : Former {0}
vec_field = via (vec.the_former this Global) Inside (λ X a. a.items) (λ X v. record { items = v }) (λ X a. refl) (λ X v. refl)

module _ (R S : RattleType) (h : R.Denot → S.Denot) where
  pub the_places : Alike R S h → Alike (items.the_row R) (items.the_row S) ((the_former this).map R.Denot S.Denot h)
  the_places alike = view_places vec_field (list this) view (λ X Y k u. refl) (λ X u. refl) R.Denot S.Denot h (items.the_row R).coded (items.the_row S).coded
      (invariant R.Denot) (invariant S.Denot) (λ u p q. refl) (λ u p q. refl) (λ u e. tt) (λ u e. tt)
      (over (inside.the_row R)) (over (inside.the_row S))
      (struct_places (inside.the_type R) (inside.the_type S) (vec.mapped h, tt) _ (λ d. refl) refl
      (laid _ _ _ (vec.the_places heap.the_row ghosts R S h alike), tt))

  pub the_codes_placed : Recodes R S h → Recodes (items.the_row R) (items.the_row S) ((the_former this).map R.Denot S.Denot h)
  the_codes_placed same_codes elements = sym (code_map R.coded.code S.coded.code h (λ x. sym (same_codes x)) elements)
