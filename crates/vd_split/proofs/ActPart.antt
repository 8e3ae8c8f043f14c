-- Which hosts have an instruction of each variant of a statement, and of a list of statements.
use Rattle.std.proofs.Common.{◌≡◌, ℕ, Bool, true, false, ◌||◌, nat_eq, List, [], ◌∷◌, sym, ap, ◌∙◌}
use Rattle.vd_base.specs.declared.ids.HostId.{HostId}
use Rattle.vd_base.specs.declared.ids.SlotId.{SlotId}
use Rattle.vd_base.specs.declared.protocols.Proto.{Proto}
use Rattle.vd_base.specs.declared.protocols.Proto.TheVariants.{Local}
use Rattle.vd_base.specs.Holders.{proto_in}
use Rattle.vd_core.specs.declared.normal.Right.{Right}
use Rattle.vd_core.specs.declared.normal.Stmt.{Stmt, Let, NewVar, Store, NewArray, Put, Output, For}
use Rattle.vd_execution.specs.Gadgets.{Gadget}
use Rattle.vd_split.specs.Suite.{Calls, holders_among}
use Rattle.vd_split.specs.Emission.{Emission, at_slot, delivered_at, right_acts_at, emission}
use Rattle.vd_split.specs.Places.{acting}
use Rattle.vd_split.proofs.Variants.{let_e, variable_e, array_e, store_e, put_e, output_e, for_e}

module _ {P : Type 0} (s : Calls Gadget P) (protos : List Proto) where
  abbrev pr : ℕ → Proto
  pr = proto_in protos

  pub acts_let : (x : SlotId) (r : Right) (h : ℕ) (b : Bool) → b ≡ right_acts_at s pr (pr x.0) r h → b ≡ (emission s pr (Let x r)).acts_at h
  acts_let x r h b is = is ∙ ap (λ (f : Emission s pr). f.acts_at h) (sym (let_e s protos x r))

  pub acts_variable : (v x : SlotId) (h : ℕ) (b : Bool) → b ≡ (s.moves_at (pr x.0) (pr v.0) h || at_slot s pr v h) → b ≡ (emission s pr (NewVar v x)).acts_at h
  acts_variable v x h b is = is ∙ ap (λ (f : Emission s pr). f.acts_at h) (sym (variable_e s protos v x))

  pub acts_array : (v : SlotId) (n h : ℕ) (b : Bool) → b ≡ at_slot s pr v h → b ≡ (emission s pr (NewArray v n)).acts_at h
  acts_array v n h b is = is ∙ ap (λ (f : Emission s pr). f.acts_at h) (sym (array_e s protos v n))

  pub acts_store : (v x : SlotId) (h : ℕ) (b : Bool) → b ≡ (s.moves_at (pr x.0) (pr v.0) h || at_slot s pr v h) → b ≡ (emission s pr (Store v x)).acts_at h
  acts_store v x h b is = is ∙ ap (λ (f : Emission s pr). f.acts_at h) (sym (store_e s protos v x))

  pub acts_put : (v i x : SlotId) (h : ℕ) (b : Bool)
      → b ≡ (delivered_at s pr (pr i.0) (holders_among s (pr v.0)) h || s.moves_at (pr x.0) (pr v.0) h || at_slot s pr v h) → b ≡ (emission s pr (Put v i x)).acts_at h
  acts_put v i x h b is = is ∙ ap (λ (f : Emission s pr). f.acts_at h) (sym (put_e s protos v i x))

  pub acts_output : (x : SlotId) (k : HostId) (o h : ℕ) (b : Bool) → b ≡ (s.moves_at (pr x.0) (Local k) h || nat_eq k.0 h) → b ≡ (emission s pr (Output x k o)).acts_at h
  acts_output x k o h b is = is ∙ ap (λ (f : Emission s pr). f.acts_at h) (sym (output_e s protos x k o))

  pub acts_for : (n : ℕ) (body : List Stmt) (h : ℕ) (b : Bool) → b ≡ acting s protos body h → b ≡ (emission s pr (For n body)).acts_at h
  acts_for n body h b is = is ∙ ap (λ (f : Emission s pr). f.acts_at h) (sym (for_e s protos n body))

  -- the first statement of some is told, and the others are left
  pub acts_none_here : (x : Stmt) (rest : List Stmt) (h : ℕ) (b goal : Bool) → b ≡ (emission s pr x).acts_at h → b ≡ false
      → acting s protos (x ∷ rest) h ≡ goal → acting s protos rest h ≡ goal
  acts_none_here x rest h b goal is absent e = ap (λ (c : Bool). c || acting s protos rest h) (sym absent ∙ is) ∙ e

  pub acts_here : (x : Stmt) (rest : List Stmt) (h : ℕ) (b goal : Bool) → b ≡ (emission s pr x).acts_at h → b ≡ true
      → acting s protos (x ∷ rest) h ≡ goal → true ≡ goal
  acts_here x rest h b goal is there e = ap (λ (c : Bool). c || acting s protos rest h) (sym there ∙ is) ∙ e

  pub acts_none : (h : ℕ) (goal : Bool) → acting s protos [] h ≡ goal → false ≡ goal
  acts_none h goal e = e
