-- The definitions of the facts at small programs, most of which do not keep them.
use Rattle.std.proofs.Common.{◌≡◌, ℕ, true, false, List, [], ◌∷◌, rules}
use Rattle.std.specs.List.{list_all}
use Rattle.vd_base.specs.declared.ids.SlotId.{SlotId}
use Rattle.vd_base.specs.declared.form.Form as form
use Rattle.vd_base.specs.declared.form.Form.TheFolds.{the_lemmas as form_lemmas}
use Rattle.vd_base.specs.declared.operations.Op.TheVariants as op
use Rattle.vd_core.specs.declared.normal.Right.TheVariants.{Lit, Turn, Copy, Apply, Declassify, Get}
use Rattle.vd_core.specs.declared.normal.Stmt.{Stmt, Let, NewVar, NewArray, Store, Output, If, For}
use Rattle.vd_core.specs.declared.normal.Stmt.TheFolds.{the_lemmas}
use Rattle.vd_core.specs.Facts.{slots_made, nothing_seen, statements_see, all_meet, of_rights, operands_fit, shift_fits, host_is_declared, right_is_declared, has_turns_in_loops, statement_count, weight_sum, nesting, cell_count}

abbrev slot : ℕ → SlotId
slot k = record { 0 = k }

-- a slot that is made after its use
too_late : (statements_see (Let (slot 0) (Copy (slot 1)) ∷ Let (slot 1) (Lit 7) ∷ []) nothing_seen).all ≡ false
too_late = search (rules, the_lemmas)

-- a slot that a branch makes, after the If
out_of_block : (statements_see (Let (slot 0) (Lit 1) ∷ If (slot 0) (Let (slot 1) (Lit 7) ∷ []) [] 0 ∷ Let (slot 2) (Copy (slot 1)) ∷ []) nothing_seen).all ≡ false
out_of_block = search (rules, the_lemmas)

-- a slot of the first branch, in the second
other_branch : (statements_see (Let (slot 0) (Lit 1) ∷ If (slot 0) (Let (slot 1) (Lit 7) ∷ []) (Let (slot 2) (Copy (slot 1)) ∷ []) 0 ∷ []) nothing_seen).all ≡ false
other_branch = search (rules, the_lemmas)

-- a store to a binding
no_variable : (statements_see (Let (slot 0) (Lit 1) ∷ Store (slot 0) (slot 0) ∷ []) nothing_seen).all ≡ false
no_variable = search (rules, the_lemmas)

-- a variable as an operand
no_binding : (statements_see (Let (slot 0) (Lit 1) ∷ NewVar (slot 1) (slot 0) ∷ Let (slot 2) (Copy (slot 1)) ∷ []) nothing_seen).all ≡ false
no_binding = search (rules, the_lemmas)

-- an element of a variable
no_array : (statements_see (Let (slot 0) (Lit 1) ∷ NewVar (slot 1) (slot 0) ∷ Let (slot 2) (Get (slot 1) (slot 0)) ∷ []) nothing_seen).all ≡ false
no_array = search (rules, the_lemmas)

-- what is around a block is in sight there
in_loop_seen : (statements_see (Let (slot 0) (Lit 1) ∷ For 3 (Let (slot 1) Turn ∷ Let (slot 2) (Apply op.Add (slot 0 ∷ slot 1 ∷ [])) ∷ []) ∷ []) nothing_seen).all ≡ true
in_loop_seen = search (rules, the_lemmas)

two_branches_numbered : slots_made (Let (slot 0) (Lit 1) ∷ If (slot 0) (Let (slot 1) (Lit 7) ∷ []) (Let (slot 2) (Lit 8) ∷ []) 0 ∷ NewArray (slot 3) 5 ∷ []) ≡ 0 ∷ 1 ∷ 2 ∷ 3 ∷ []
two_branches_numbered = search (rules, the_lemmas)

-- a sum of one operand, in a loop
one_operand : all_meet (of_rights operands_fit) (For 3 (Let (slot 1) (Apply op.Add (slot 0 ∷ [])) ∷ []) ∷ []) ≡ false
one_operand = search (rules, the_lemmas)

shifted_by_32 : all_meet (of_rights shift_fits) (Let (slot 1) (Apply (op.Shl 32) (slot 0 ∷ [])) ∷ []) ≡ false
shifted_by_32 = search (rules, the_lemmas)

shifted_by_31 : all_meet (of_rights shift_fits) (Let (slot 1) (Apply (op.Shr 31) (slot 0 ∷ [])) ∷ []) ≡ true
shifted_by_31 = search (rules, the_lemmas)

-- a third host of two
no_host : all_meet (host_is_declared 2) (If (slot 0) [] (Output (slot 0) (record { 0 = 2 }) 9 ∷ []) 0 ∷ []) ≡ false
no_host = search (rules, the_lemmas)

-- of the principals A and B there is no C
no_principal : all_meet (of_rights (right_is_declared ((65 ∷ []) ∷ (66 ∷ []) ∷ []))) (Let (slot 1) (Declassify (slot 0) (form.Either (form.Name (66 ∷ []) ∷ form.Name (67 ∷ []) ∷ []))) ∷ []) ≡ false
no_principal = search (rules, the_lemmas, form_lemmas)

two_principals : all_meet (of_rights (right_is_declared ((65 ∷ []) ∷ (66 ∷ []) ∷ []))) (Let (slot 1) (Declassify (slot 0) (form.Either (form.Name (66 ∷ []) ∷ form.Name (65 ∷ []) ∷ []))) ∷ []) ≡ true
two_principals = search (rules, the_lemmas, form_lemmas)

-- in a branch of a loop there is a turn, and in a branch alone there is none
turn_of_loop : list_all has_turns_in_loops (For 3 (If (slot 0) (Let (slot 1) Turn ∷ []) [] 0 ∷ []) ∷ []) ≡ true
turn_of_loop = search (rules, the_lemmas)

turn_of_none : list_all has_turns_in_loops (If (slot 0) (Let (slot 1) Turn ∷ []) [] 0 ∷ []) ≡ false
turn_of_none = search (rules, the_lemmas)

-- the counts of a loop in a loop
abbrev loops : List Stmt
loops = Let (slot 0) (Lit 1) ∷ For 3 (Let (slot 1) Turn ∷ For 4 (Let (slot 2) Turn ∷ NewArray (slot 3) 5 ∷ []) ∷ []) ∷ For 0 (Let (slot 4) Turn ∷ []) ∷ []

loops_count : statement_count loops ≡ 8
loops_count = search (rules, the_lemmas)

-- 1 + (1 + 3 * (1 + 1 + 4 * 2)) + (1 + 0)
loops_weigh : weight_sum loops ≡ 33
loops_weigh = search (rules, the_lemmas)

loops_nest : nesting loops ≡ 2
loops_nest = search (rules, the_lemmas)

loops_cells : cell_count loops ≡ 5
loops_cells = search (rules, the_lemmas)
