-- What is told of the functions of a source, one more of them.
use Rattle.std.proofs.Common.{◌≡◌, ℕ, ◌+◌, ◌<◌, ◌≤◌, List, [], ◌∷◌, ◌++◌, map, drop, length, get_or, Result, Ok, Err, refl, sym, ap, subst, ◌∙◌, arith}
use Rattle.std.proofs.lemmas.Grind.{common_steps}
use Rattle.vd_base.specs.Names.{Named, at_name}
use Rattle.vd_base.specs.declared.ids.Span.{Span}
use Rattle.vd_core.specs.declared.source.Function.{Function}
use Rattle.vd_core.specs.declared.source.Statement.{Statement}
use Rattle.vd_resolve.specs.Causes.{passing, block_passing, first, where_meet, function_told, functions_told, bodies_told}
use Rattle.vd_resolve.specs.Faults.{Cause, carried}
use Rattle.vd_resolve.specs.Rules.{Names, Scope, function_names, is_new, signature_of}
use Rattle.vd_resolve.specs.Tables.{Table}
use Rattle.vd_resolve.specs.Walks.{IsCauseOf, signatures}
use Rattle.vd_resolve.specs.declared.fault.NameFault.{NameFault}
use Rattle.vd_resolve.specs.declared.symbol.Callee.{Callee}
use Rattle.vd_resolve.specs.declared.symbol.Signature.{Signature}
use Rattle.vd_resolve.proofs.Sequences.{map_last, at_drop}

-- what is in sight of the functions of a table
abbrev seen : Named Callee → Named Span → Table Signature
seen callees ps = (signatures callees, ps)

-- the functions that are left, with what is in sight there, tell what all of them tell
abbrev pub IsLeft : Names → Names → Named Callee → Named Span → List Function → List Function → Type 0
IsLeft principals hosts callees ps left fs = functions_told principals hosts (seen callees ps) left ≡ functions_told principals hosts ([], []) fs

abbrev scope_at : Names → Names → Named Callee → List (List ℕ) → Scope
scope_at principals hosts callees later = record { principals = principals; hosts = hosts; functions = signatures callees; later = later }

-- the function at k is done
pub told_more : (principals hosts : Names) (callees : Named Callee) (ps : Named Span) (fs : List Function) (k : ℕ) (f : Function) (c : Callee) → k < length fs → f ≡ get_or fs k f
    → is_new f.name (signatures callees) ≡ Ok tt
    → function_told (scope_at principals hosts callees (function_names (drop k fs))) f ≡ Ok tt
    → c.signature ≡ signature_of f
    → functions_told principals hosts (seen (callees ++ (f.name.name, c) ∷ []) (ps ++ (f.name.name, f.name.span) ∷ [])) (drop (k + 1) fs) ≡ functions_told principals hosts (seen callees ps) (drop k fs)
told_more principals hosts callees ps fs k f c lt at new told same =
    let rest = drop (k + 1) fs in
    let e : drop k fs ≡ f ∷ rest = at_drop fs k f lt at in
    let told' : function_told (scope_at principals hosts callees (function_names (f ∷ rest))) f ≡ Ok tt = subst (λ (z : List Function). function_told (scope_at principals hosts callees (function_names z)) f ≡ Ok tt) e told in
    let step : functions_told principals hosts (seen callees ps) (f ∷ rest) ≡ functions_told principals hosts (signatures callees ++ (f.name.name, signature_of f) ∷ [], ps ++ (f.name.name, f.name.span) ∷ []) rest = rw (new, told') refl in
    ap (λ (z : Named Signature). functions_told principals hosts (z, ps ++ (f.name.name, f.name.span) ∷ []) rest)
    (map_last {B = List ℕ × Signature} (λ (d : List ℕ × Callee). (d.0, d.1.signature)) callees (f.name.name, c) ∙ ap (λ (z : Signature). signatures callees ++ (f.name.name, z) ∷ []) same)
    ∙ sym step
    ∙ ap (functions_told principals hosts (seen callees ps)) (sym e)

-- what all functions tell, where the one at k stops
stopped : (principals hosts : Names) (callees : Named Callee) (ps : Named Span) (fs : List Function) (main : List Statement) (k : ℕ) (f : Function) (c : Cause) → k < length fs → f ≡ get_or fs k f
    → IsLeft principals hosts callees ps (drop k fs) fs
    → functions_told principals hosts (seen callees ps) (f ∷ drop (k + 1) fs) ≡ Err c → bodies_told principals hosts fs main ≡ Err c
stopped principals hosts callees ps fs main k f c lt at done step =
    let all : functions_told principals hosts ([], []) fs ≡ Err c = sym done ∙ ap (functions_told principals hosts (seen callees ps)) (at_drop fs k f lt at) ∙ step in
    rw all refl

-- the name of the function at k is not new
pub told_name : (principals hosts : Names) (callees : Named Callee) (ps : Named Span) (fs : List Function) (main : List Statement) (k : ℕ) (f : Function) (e : NameFault) → k < length fs → f ≡ get_or fs k f
    → IsLeft principals hosts callees ps (drop k fs) fs
    → IsCauseOf (where_meet (first (at_name ps f.name.name)) (is_new f.name (signatures callees))) e → IsCauseOf (bodies_told principals hosts fs main) e
told_name principals hosts callees ps fs main k f e lt at done is other =
    let step : functions_told principals hosts (seen callees ps) (f ∷ drop (k + 1) fs) ≡ Err (carried e) = (let h = is other in rw h refl) in
    stopped principals hosts callees ps fs main k f (carried e) lt at done step

-- the function at k has a fault
pub told_body : (principals hosts : Names) (callees : Named Callee) (ps : Named Span) (fs : List Function) (main : List Statement) (later : List (List ℕ)) (k : ℕ) (f : Function) (e : NameFault) → k < length fs → f ≡ get_or fs k f
    → IsLeft principals hosts callees ps (drop k fs) fs
    → is_new f.name (signatures callees) ≡ Ok tt
    → IsCauseOf (function_told (scope_at principals hosts callees later) f) e → later ≡ function_names (drop k fs) → IsCauseOf (bodies_told principals hosts fs main) e
told_body principals hosts callees ps fs main later k f e lt at done new is same other =
    let found : function_told (scope_at principals hosts callees (function_names (f ∷ drop (k + 1) fs))) f ≡ Err (carried e) =
    subst (λ (z : List (List ℕ)). function_told (scope_at principals hosts callees z) f ≡ Err (carried e)) (same ∙ ap function_names (at_drop fs k f lt at)) (is other) in
    let step : functions_told principals hosts (seen callees ps) (f ∷ drop (k + 1) fs) ≡ Err (carried e) = rw (new, found) refl in
    stopped principals hosts callees ps fs main k f (carried e) lt at done step

-- all functions are done, and then main
pub told_functions : (principals hosts : Names) (callees : Named Callee) (ps : Named Span) (fs : List Function) (k : ℕ) → length fs ≤ k
    → IsLeft principals hosts callees ps (drop k fs) fs → functions_told principals hosts ([], []) fs ≡ Ok (seen callees ps)
told_functions principals hosts callees ps fs k le done =
    let none : drop k fs ≡ [] = grind (arith, common_steps) in sym done ∙ ap (functions_told principals hosts (seen callees ps)) none

pub told_main : (principals hosts : Names) (callees : Named Callee) (ps : Named Span) (fs : List Function) (main : List Statement) (later : List (List ℕ)) → functions_told principals hosts ([], []) fs ≡ Ok (seen callees ps)
    → block_passing (map passing main) (scope_at principals hosts callees later) ([], []) ≡ Ok ([], []) → later ≡ [] → bodies_told principals hosts fs main ≡ Ok tt
told_main principals hosts callees ps fs main later all is none =
    let is' : block_passing (map passing main) (scope_at principals hosts callees []) ([], []) ≡ Ok ([], []) =
    subst (λ (z : List (List ℕ)). block_passing (map passing main) (scope_at principals hosts callees z) ([], []) ≡ Ok ([], [])) none is in
    rw (all, is') refl

pub told_main_fault : (principals hosts : Names) (callees : Named Callee) (ps : Named Span) (fs : List Function) (main : List Statement) (later : List (List ℕ)) (e : NameFault) → functions_told principals hosts ([], []) fs ≡ Ok (seen callees ps)
    → IsCauseOf (block_passing (map passing main) (scope_at principals hosts callees later) ([], [])) e → later ≡ [] → IsCauseOf (bodies_told principals hosts fs main) e
told_main_fault principals hosts callees ps fs main later e all is none other =
    let is' : block_passing (map passing main) (scope_at principals hosts callees []) ([], []) ≡ Err (carried e) =
    subst (λ (z : List (List ℕ)). block_passing (map passing main) (scope_at principals hosts callees z) ([], []) ≡ Err (carried e)) none (is other) in
    rw (all, is') refl
