use Rattle.std.proofs.Common.{◌≡◌, ◌+◌, List, [], ◌∷◌, ◌++◌, take, drop, subst, sym, ap, ◌∙◌, ℕ, Ok, rules, arith}
use Rattle.std.proofs.lemmas.Grind.{common_steps}
use Rattle.std.proofs.lemmas.Result.{on_ok_weaker, MatchResult-weaker, err_from_is_err_and}
use Rattle.vd_resolve.specs.declared.symbol.Callee.{Callee}
use Rattle.vd_base.specs.Names.{Named}
use Rattle.vd_base.specs.declared.ids.Span.{Span}
use Rattle.vd_resolve.specs.Causes.{function_told, functions_told}
use Rattle.vd_resolve.specs.Rules.{Names, functions_check, function_check, function_names}
use Rattle.vd_resolve.specs.Sizes.{function_sizes}
use Rattle.vd_resolve.specs.Tables.{Table, names, places}
use Rattle.vd_resolve.specs.Walks.{HaveSizes, signatures}
use Rattle.vd_resolve.proofs.Sequences.{have_more, check_more, name_fault, body_fault, after_functions, main_ok, main_fault}
use Rattle.vd_resolve.proofs.Told.{told_more, told_name, told_body, told_functions, told_main, told_main_fault}
use Rattle.vd_resolve.proofs.function.check_bodies.Goals as goal

pub loop-k-preserved : goal.loop-k-preserved
loop-k-preserved c =
    let fs = c.args.functions.now in
    let f = c.index-functions-k.result in
    let principals : Names = names c.args.principals in
    let hosts : Names = names c.args.hosts in
    let before : Named Callee = names c.loop-k.callees in
    let there : Named Span = places c.loop-k.callees in
    let callee : Callee = record { signature = c.in_ok-signature.signature; size = c.in_ok-size.size } in
    let after : Table Callee = (before ++ (f.name.name, callee) ∷ [], there ++ (f.name.name, f.name.span) ∷ []) in
    let grown : c.add.new.self ≡ after = c.in_ok-add.ensures.ok in
    let checked : function_check (record { principals = principals; hosts = hosts; functions = signatures before; later = function_names (drop c.loop-k.k fs) }) f ≡ Ok tt =
    first_of (search (rules, c.in_ok-size.ensures.ok), grind (arith, common_steps, c.in_ok-size.ensures.ok)) in
    let told : function_told (record { principals = principals; hosts = hosts; functions = signatures before; later = function_names (drop c.loop-k.k fs) }) f ≡ Ok tt =
    first_of (search (rules, c.in_ok-size.ensures.told), grind (arith, common_steps, c.in_ok-size.ensures.told)) in
    subst
    (λ (z : Table Callee). HaveSizes (names z) (function_sizes [] (take (c.loop-k.k + 1) fs))
    × (functions_check principals hosts (signatures (names z)) (drop (c.loop-k.k + 1) fs) ≡ functions_check principals hosts [] fs)
    × (functions_told principals hosts (signatures (names z), places z) (drop (c.loop-k.k + 1) fs) ≡ functions_told principals hosts ([], []) fs))
    (sym grown) (
      have_more before fs c.loop-k.k f callee c.loop-k-test.true c.index-functions-k.is c.loop-k.invariant.0 c.in_ok-size.ensures.size,
      check_more principals hosts before fs c.loop-k.k f callee c.loop-k-test.true c.index-functions-k.is c.in_ok-fresh_function.ensures.ok checked c.in_ok-signature.ensures ∙ c.loop-k.invariant.1,
      told_more principals hosts before there fs c.loop-k.k f callee c.loop-k-test.true c.index-functions-k.is c.in_ok-fresh_function.ensures.ok told c.in_ok-signature.ensures ∙ c.loop-k.invariant.2,
    )

pub returns-in_err-fresh_function-clause-fault : goal.returns-in_err-fresh_function-clause-fault
returns-in_err-fresh_function-clause-fault c =
    let p = err_from_is_err_and c.from_residual.result c.from_residual.ensures.1 in
    rw (p.1, p.2)
    (name_fault (names c.args.principals) (names c.args.hosts) (names c.loop-k.callees) c.args.functions.now c.args.main.now c.loop-k.k c.index-functions-k.result _ c.loop-k-test.true c.index-functions-k.is c.loop-k.invariant.1
    c.in_err-fresh_function.ensures.fault)

pub returns-in_err-fresh_function-clause-cause : goal.returns-in_err-fresh_function-clause-cause
returns-in_err-fresh_function-clause-cause c =
    let p = err_from_is_err_and c.from_residual.result c.from_residual.ensures.1 in
    rw (p.1, p.2)
    (told_name (names c.args.principals) (names c.args.hosts) (names c.loop-k.callees) (places c.loop-k.callees) c.args.functions.now c.args.main.now c.loop-k.k c.index-functions-k.result _ c.loop-k-test.true c.index-functions-k.is
    c.loop-k.invariant.2 c.in_err-fresh_function.ensures.cause)

pub returns-in_err-size-clause-fault : goal.returns-in_err-size-clause-fault
returns-in_err-size-clause-fault c =
    let p = err_from_is_err_and c.from_residual-in_err-size.result c.from_residual-in_err-size.ensures.1 in
    rw (p.1, p.2)
    (body_fault (names c.args.principals) (names c.args.hosts) (names c.loop-k.callees) c.args.functions.now c.args.main.now _ c.loop-k.k c.index-functions-k.result _ c.loop-k-test.true c.index-functions-k.is c.loop-k.invariant.1
    c.in_ok-fresh_function.ensures.ok c.in_err-size.ensures.fault (first_of (search rules, grind (arith, common_steps))))

pub returns-in_err-size-clause-cause : goal.returns-in_err-size-clause-cause
returns-in_err-size-clause-cause c =
    let p = err_from_is_err_and c.from_residual-in_err-size.result c.from_residual-in_err-size.ensures.1 in
    rw (p.1, p.2)
    (told_body (names c.args.principals) (names c.args.hosts) (names c.loop-k.callees) (places c.loop-k.callees) c.args.functions.now c.args.main.now _ c.loop-k.k c.index-functions-k.result _ c.loop-k-test.true c.index-functions-k.is
    c.loop-k.invariant.2 c.in_ok-fresh_function.ensures.ok c.in_err-size.ensures.cause (first_of (search rules, grind (arith, common_steps))))

pub returns-clause-ok : goal.returns-clause-ok
returns-clause-ok c =
    on_ok_weaker c.main_block.result
    (λ is. main_ok (names c.args.principals) (names c.args.hosts) (names c.loop-k.callees) c.args.functions.now c.args.main.now _
    (after_functions (names c.args.principals) (names c.args.hosts) (names c.loop-k.callees) c.args.functions.now c.loop-k.k c.loop-k-test.false c.loop-k.invariant.1) is
    (first_of (search rules, grind (arith, common_steps))))
    c.main_block.ensures.ok

pub returns-clause-told : goal.returns-clause-told
returns-clause-told c =
    on_ok_weaker c.main_block.result
    (λ is. told_main (names c.args.principals) (names c.args.hosts) (names c.loop-k.callees) (places c.loop-k.callees) c.args.functions.now c.args.main.now _
    (told_functions (names c.args.principals) (names c.args.hosts) (names c.loop-k.callees) (places c.loop-k.callees) c.args.functions.now c.loop-k.k c.loop-k-test.false c.loop-k.invariant.2) is
    (first_of (search rules, grind (arith, common_steps))))
    c.main_block.ensures.told

pub returns-clause-fault : goal.returns-clause-fault
returns-clause-fault c =
    MatchResult-weaker c.main_block.result c.main_block.ensures.fault (λ x is. is)
    (λ e is. main_fault (names c.args.principals) (names c.args.hosts) (names c.loop-k.callees) c.args.functions.now c.args.main.now _ e
    (after_functions (names c.args.principals) (names c.args.hosts) (names c.loop-k.callees) c.args.functions.now c.loop-k.k c.loop-k-test.false c.loop-k.invariant.1) is
    (first_of (search rules, grind (arith, common_steps))))

pub returns-clause-cause : goal.returns-clause-cause
returns-clause-cause c =
    MatchResult-weaker c.main_block.result c.main_block.ensures.cause (λ x is. is)
    (λ e is. told_main_fault (names c.args.principals) (names c.args.hosts) (names c.loop-k.callees) (places c.loop-k.callees) c.args.functions.now c.args.main.now _ e
    (told_functions (names c.args.principals) (names c.args.hosts) (names c.loop-k.callees) (places c.loop-k.callees) c.args.functions.now c.loop-k.k c.loop-k-test.false c.loop-k.invariant.2) is
    (first_of (search rules, grind (arith, common_steps))))
