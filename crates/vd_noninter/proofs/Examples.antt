-- Dependence at two small programs.
use Rattle.std.proofs.Common.{◌≡◌, ℕ, Bool, true, false, ◌||◌, not, List, [], ◌∷◌, map, nat_eq, rules}
use Rattle.vd_base.specs.declared.ids.SlotId.{SlotId}
use Rattle.vd_base.specs.declared.operations.Op.TheVariants as op
use Rattle.vd_core.specs.declared.normal.Right.TheVariants.{Lit, Apply, Input, Load, Declassify}
use Rattle.vd_base.specs.declared.form.Form as form
use Rattle.vd_core.specs.declared.normal.Stmt.{Stmt, Let, NewVar, Store, Output, If}
use Rattle.vd_core.specs.declared.normal.Stmt.TheFolds.{the_lemmas}
use Rattle.vd_noninter.specs.NoninterLawsDependence.{Reach, closes, all_close}

abbrev slot : ℕ → SlotId
slot k = record { 0 = k }

-- what host 1 is told depends on a guard on an input of host 0, and not on its own input, slot 1
abbrev guarded : List Stmt
guarded =
    Let (slot 0) (Input (record { 0 = 0 }))
    ∷ Let (slot 1) (Input (record { 0 = 1 }))
    ∷ Let (slot 2) (Lit 0)
    ∷ NewVar (slot 3) (slot 2)
    ∷ If (slot 0) (Let (slot 4) (Lit 1) ∷ Store (slot 3) (slot 4) ∷ []) [] 0
    ∷ Let (slot 5) (Load (slot 3))
    ∷ Output (slot 5) (record { 0 = 1 }) 0
    ∷ []

abbrev with_hosts : (ℕ → Bool) → Reach
with_hosts hosts = record { slots = λ x. not (nat_eq x 1); hosts = hosts }

enough : all_close (map (closes (λ x. true) 1 (with_hosts (λ k. nat_eq k 0))) guarded) [] ≡ true
enough = search (rules, the_lemmas)

-- without host 0 it is not closed
too_few : all_close (map (closes (λ x. true) 1 (with_hosts (λ k. false))) guarded) [] ≡ false
too_few = search (rules, the_lemmas)

-- a product of both inputs, declassified to host 0 and told to it, depends on no input
abbrev declassified : List Stmt
declassified =
    Let (slot 0) (Input (record { 0 = 0 }))
    ∷ Let (slot 1) (Input (record { 0 = 1 }))
    ∷ Let (slot 2) (Apply op.Mul (slot 0 ∷ slot 1 ∷ []))
    ∷ Let (slot 3) (Declassify (slot 2) form.Any)
    ∷ Output (slot 3) (record { 0 = 0 }) 0
    ∷ []

-- it reads its own input and what is declassified
abbrev reads : ℕ → Bool
reads x = nat_eq x 0 || nat_eq x 3

no_input : all_close (map (closes reads 0 (record { slots = λ x. nat_eq x 3; hosts = λ k. false })) declassified) [] ≡ true
no_input = search (rules, the_lemmas)
