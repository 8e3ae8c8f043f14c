-- Which hosts take part in each variant of a statement, and in a list of statements.
use Rattle.std.proofs.Common.{◌≡◌, ℕ, Bool, true, false, ◌||◌, nat_eq, List, [], ◌∷◌, sym, ap, ◌∙◌}
use Rattle.vd_base.specs.declared.ids.HostId.{HostId}
use Rattle.vd_base.specs.declared.ids.SlotId.{SlotId}
use Rattle.vd_base.specs.declared.protocols.Proto.{Proto}
use Rattle.vd_base.specs.Holders.{proto_in}
use Rattle.vd_core.specs.declared.normal.Right.{Right}
use Rattle.vd_core.specs.declared.normal.Stmt.{Stmt, Let, NewVar, Store, NewArray, Put, Output, For}
use Rattle.vd_execution.specs.Gadgets.{Gadget}
use Rattle.vd_split.specs.Suite.{Calls}
use Rattle.vd_split.specs.Emission.{Emission, at_slot, right_takes_part, emission, block_emission}
use Rattle.vd_split.proofs.Variants.{let_e, variable_e, array_e, store_e, put_e, output_e, for_e}

module _ {P : Type 0} (s : Calls Gadget P) (protos : List Proto) where
  abbrev pr : ℕ → Proto
  pr = proto_in protos

  pub takes_let : (x : SlotId) (r : Right) (h : ℕ) (b : Bool) → b ≡ (at_slot s pr x h || right_takes_part s pr r h) → b ≡ (emission s pr (Let x r)).takes_part h
  takes_let x r h b is = is ∙ ap (λ (f : Emission s pr). f.takes_part h) (sym (let_e s protos x r))

  pub takes_variable : (v x : SlotId) (h : ℕ) (b : Bool) → b ≡ (at_slot s pr v h || at_slot s pr x h) → b ≡ (emission s pr (NewVar v x)).takes_part h
  takes_variable v x h b is = is ∙ ap (λ (f : Emission s pr). f.takes_part h) (sym (variable_e s protos v x))

  pub takes_array : (v : SlotId) (n h : ℕ) (b : Bool) → b ≡ at_slot s pr v h → b ≡ (emission s pr (NewArray v n)).takes_part h
  takes_array v n h b is = is ∙ ap (λ (f : Emission s pr). f.takes_part h) (sym (array_e s protos v n))

  pub takes_store : (v x : SlotId) (h : ℕ) (b : Bool) → b ≡ (at_slot s pr v h || at_slot s pr x h) → b ≡ (emission s pr (Store v x)).takes_part h
  takes_store v x h b is = is ∙ ap (λ (f : Emission s pr). f.takes_part h) (sym (store_e s protos v x))

  pub takes_put : (v i x : SlotId) (h : ℕ) (b : Bool) → b ≡ (at_slot s pr v h || at_slot s pr i h || at_slot s pr x h) → b ≡ (emission s pr (Put v i x)).takes_part h
  takes_put v i x h b is = is ∙ ap (λ (f : Emission s pr). f.takes_part h) (sym (put_e s protos v i x))

  pub takes_output : (x : SlotId) (k : HostId) (o h : ℕ) (b : Bool) → b ≡ (nat_eq k.0 h || at_slot s pr x h) → b ≡ (emission s pr (Output x k o)).takes_part h
  takes_output x k o h b is = is ∙ ap (λ (f : Emission s pr). f.takes_part h) (sym (output_e s protos x k o))

  pub takes_for : (n : ℕ) (body : List Stmt) (h : ℕ) (b : Bool) → b ≡ (block_emission s pr body).takes_part h → b ≡ (emission s pr (For n body)).takes_part h
  takes_for n body h b is = is ∙ ap (λ (f : Emission s pr). f.takes_part h) (sym (for_e s protos n body))

  -- the first statement of some is told, and the others are left
  pub takes_none_here : (x : Stmt) (rest : List Stmt) (h : ℕ) (b goal : Bool) → b ≡ (emission s pr x).takes_part h → b ≡ false
      → (block_emission s pr (x ∷ rest)).takes_part h ≡ goal → (block_emission s pr rest).takes_part h ≡ goal
  takes_none_here x rest h b goal is absent e = ap (λ (c : Bool). c || (block_emission s pr rest).takes_part h) (sym absent ∙ is) ∙ e

  pub takes_here : (x : Stmt) (rest : List Stmt) (h : ℕ) (b goal : Bool) → b ≡ (emission s pr x).takes_part h → b ≡ true
      → (block_emission s pr (x ∷ rest)).takes_part h ≡ goal → true ≡ goal
  takes_here x rest h b goal is there e = ap (λ (c : Bool). c || (block_emission s pr rest).takes_part h) (sym there ∙ is) ∙ e

  pub takes_none : (h : ℕ) (goal : Bool) → (block_emission s pr []).takes_part h ≡ goal → false ≡ goal
  takes_none h goal e = e
