-- What the statements of programs make.
use Rattle.std.proofs.Common.{◌≡◌, ℕ, ◌*◌, ◌≤◌, Bool, true, ◌&&◌, List, [], ◌∷◌, length, map, refl, sym, ap, subst, ◌∙◌, arith}
use Rattle.std.specs.List.{list_all, sum}
use Rattle.vd_base.specs.declared.protocols.Proto.{Proto}
use Rattle.vd_core.specs.declared.normal.NormalForm.{NormalForm}
use Rattle.vd_core.specs.declared.normal.Stmt.{Stmt}
use Rattle.vd_core.specs.declared.normal.Stmt.TheOpen.{Stmt-F}
use Rattle.vd_core.specs.Facts.{IsWellMade, meets, blocks_meet, of_rights, operands_fit, count_step, statement_count}
use Rattle.vd_split.specs.Block.{block_of, each}
use Rattle.vd_split.specs.Emission.{Emission, block_emission, emitting_at_start, in_turn, stmt_emission}
use Rattle.vd_split.proofs.Front.{fold_each}
use Rattle.vd_backend_laws.specs.Parts.{suite_calls}
use Rattle.vd_backend_laws.specs.Suite.{IsOver}
use Rattle.vd_backend_laws.specs.Whole.{plan_at}
use Rattle.vd_projection.specs.Statements.{all_of, StatementsMakeFew, CodeIsShort}
use Rattle.vd_projection.proofs.CodeSizesCodes.{plan_acts, plan_code}
use Rattle.vd_projection.proofs.BlockLengths.{counted, BlockIsShort, block_short}

list_all_map : {A : Type 0} (f : A → Bool) (xs : List A) → list_all f xs ≡ list_all (λ x. x) (map f xs)
list_all_map f [] = refl
list_all_map f (x ∷ xs) = ap (λ z. f x && z) (list_all_map f xs)

all_hold : (test : Stmt-F Bool → Bool) (body : List Stmt) → list_all (meets test) body ≡ true → list_all (λ x. x) (each (λ s. test s && blocks_meet s) (block_of body)) ≡ true
all_hold test body h = sym (list_all_map (meets test) body ∙ ap (list_all (λ x. x)) (fold_each (λ s. test s && blocks_meet s) body)) ∙ h

program_short : (program : NormalForm) (proto : ℕ → Proto) (made : IsWellMade program) (over : (x : ℕ) → IsOver (length program.hosts) (proto x))
    → (let n = length program.hosts in let start = emitting_at_start (suite_calls n) proto in
    BlockIsShort n proto made.limits.hosts over (block_of program.body) start ((all_of n proto (block_of program.body)).emit start))
program_short program proto made over =
    let n = length program.hosts in
    block_short n proto made.limits.hosts over (block_of program.body) (all_hold (of_rights operands_fit) program.body made.operands) (emitting_at_start (suite_calls n) proto) tt

pub statements_make_few : StatementsMakeFew
statements_make_few program proto made over = let short = program_short program proto made over in short.each_one

pub code_is_short : CodeIsShort
code_is_short program proto made over h =
    let n = length program.hosts in
    let s = suite_calls n in
    let b = block_of program.body in
    let short = program_short program proto made over in
    let same : block_emission s proto program.body ≡ all_of n proto b = ap (in_turn s proto) (fold_each (stmt_emission s proto) program.body) in
    let counts : counted b ≡ statement_count program.body = sym (ap sum (fold_each count_step program.body)) in
    let whole = subst (λ (f : Emission s proto). plan_acts (f.emit (emitting_at_start s proto)).tree ≤ 1024 * counted b) (sym same) short.acts in
    few _ _ _ _ (plan_code h (plan_at proto program)) whole counts
  where
    few : (i a b c : ℕ) → i ≤ a → a ≤ 1024 * b → b ≡ c → i ≤ 1024 * c
    few i a b c p q e = omega (arith, p, q, e)
