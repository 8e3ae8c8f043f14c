-- The functions of a source, one more of them.
use Rattle.std.proofs.Common.{◌≡◌, ℕ, zero, suc, ◌+◌, ◌<◌, List, [], ◌∷◌, ◌++◌, map, take, drop, length, get_or, Result, Ok, Err, ◌≤◌, refl, sym, ap, subst, ◌∙◌, suc-add, add-one, drop-cons, append_assoc, arith}
use Rattle.std.proofs.lemmas.Grind.{common_steps}
use Rattle.vd_core.specs.declared.source.Function.{Function}
use Rattle.vd_core.specs.declared.source.Statement.{Statement}
use Rattle.vd_resolve.specs.Faults.{bare}
use Rattle.vd_resolve.specs.declared.fault.NameFault.{NameFault}
use Rattle.vd_resolve.specs.declared.size.Size.{Size}
use Rattle.vd_resolve.specs.declared.symbol.Callee.{Callee}
use Rattle.vd_resolve.specs.declared.symbol.Signature.{Signature}
use Rattle.vd_base.specs.Names.{Named}
use Rattle.vd_resolve.specs.Sizes.{IsCapped, capped_size, function_size, function_sizes}
use Rattle.vd_resolve.specs.Rules.{Names, is_new, checking, block_check, function_check, functions_check, bodies_check, function_names, signature_of}
use Rattle.vd_resolve.specs.Walks.{HaveSizes, IsFaultOf, signatures}

sizes_next : (before : Named Size) (fs : List Function) (k : ℕ) (d : Function) → k < length fs
    → function_sizes before (take (k + 1) fs) ≡ function_sizes before (take k fs) ++ ((get_or fs k d).name.name, function_size (function_sizes before (take k fs)) (get_or fs k d)) ∷ []
sizes_next before [] k d lt = absurd (omega arith)
sizes_next before (f ∷ fs) zero d lt = refl
sizes_next before (f ∷ fs) (suc k) d lt = rw suc-add (sizes_next (before ++ (f.name.name, function_size before f) ∷ []) fs k d (omega arith))

pub map_last : {A B : Type 0} (f : A → B) (xs : List A) (x : A) → map f (xs ++ x ∷ []) ≡ map f xs ++ f x ∷ []
map_last f [] x = refl
map_last f (y ∷ ys) x = ap (λ z. f y ∷ z) (map_last f ys x)

have_next : (callees : Named Callee) (sizes : Named Size) (name : List ℕ) (c : Callee) (s : Size) → HaveSizes callees sizes → IsCapped c.size s → HaveSizes (callees ++ (name, c) ∷ []) (sizes ++ (name, s) ∷ [])
unfolding IsCapped
have_next callees sizes name c s have is =
    map_last {B = List ℕ × Size} (λ (e : List ℕ × Callee). (e.0, e.1.size)) callees (name, c)
    ∙ ap (λ z. z ++ (name, c.size) ∷ []) have
    ∙ ap (λ (z : Size). map {B = List ℕ × Size} (λ (e : List ℕ × Size). (e.0, capped_size e.1)) sizes ++ (name, z) ∷ []) is
    ∙ sym (map_last {B = List ℕ × Size} (λ (e : List ℕ × Size). (e.0, capped_size e.1)) sizes (name, s))

-- the function at k, which was looked at, has this size
pub have_more : (callees : Named Callee) (fs : List Function) (k : ℕ) (f : Function) (c : Callee) → k < length fs → f ≡ get_or fs k f → HaveSizes callees (function_sizes [] (take k fs))
    → IsCapped c.size (function_size (function_sizes [] (take k fs)) f) → HaveSizes (callees ++ (f.name.name, c) ∷ []) (function_sizes [] (take (k + 1) fs))
have_more callees fs k f c lt at have is =
    have_next callees (function_sizes [] (take k fs)) f.name.name c (function_size (function_sizes [] (take k fs)) f) have is
    ∙ ap (λ (z : Named Size). map {B = List ℕ × Size} (λ (e : List ℕ × Size). (e.0, capped_size e.1)) z)
    (ap (λ (g : Function). function_sizes [] (take k fs) ++ (g.name.name, function_size (function_sizes [] (take k fs)) g) ∷ []) at ∙ sym (sizes_next [] fs k f lt))

-- the checks of the function at k are done
pub check_more : (principals hosts : Names) (callees : Named Callee) (fs : List Function) (k : ℕ) (f : Function) (c : Callee) → k < length fs → f ≡ get_or fs k f
    → is_new f.name (signatures callees) ≡ Ok tt
    → function_check (record { principals = principals; hosts = hosts; functions = signatures callees; later = function_names (drop k fs) }) f ≡ Ok tt
    → c.signature ≡ signature_of f
    → functions_check principals hosts (signatures (callees ++ (f.name.name, c) ∷ [])) (drop (k + 1) fs) ≡ functions_check principals hosts (signatures callees) (drop k fs)
check_more principals hosts callees fs k f c lt at new checked same =
    let rest = drop (k + 1) fs in
    let e : drop k fs ≡ f ∷ rest = rw add-one (drop-cons fs k f lt ∙ ap (λ (g : Function). g ∷ drop (suc k) fs) (sym at)) in
    let checked' : function_check (record { principals = principals; hosts = hosts; functions = signatures callees; later = function_names (f ∷ rest) }) f ≡ Ok tt =
    subst (λ (z : List Function). function_check (record { principals = principals; hosts = hosts; functions = signatures callees; later = function_names z }) f ≡ Ok tt) e checked in
    let step : functions_check principals hosts (signatures callees) (f ∷ rest) ≡ functions_check principals hosts (signatures callees ++ (f.name.name, signature_of f) ∷ []) rest = rw (new, checked') refl in
    ap (λ (z : Named Signature). functions_check principals hosts z rest)
    (map_last {B = List ℕ × Signature} (λ (d : List ℕ × Callee). (d.0, d.1.signature)) callees (f.name.name, c) ∙ ap (λ (z : Signature). signatures callees ++ (f.name.name, z) ∷ []) same)
    ∙ sym step
    ∙ ap (functions_check principals hosts (signatures callees)) (sym e)

pub at_drop : (fs : List Function) (k : ℕ) (f : Function) → k < length fs → f ≡ get_or fs k f → drop k fs ≡ f ∷ drop (k + 1) fs
at_drop fs k f lt at = rw add-one (drop-cons fs k f lt ∙ ap (λ (g : Function). g ∷ drop (suc k) fs) (sym at))

-- the name of the function at k is not new
pub name_fault : (principals hosts : Names) (callees : Named Callee) (fs : List Function) (main : List Statement) (k : ℕ) (f : Function) (e : NameFault) → k < length fs → f ≡ get_or fs k f
    → functions_check principals hosts (signatures callees) (drop k fs) ≡ functions_check principals hosts [] fs
    → IsFaultOf (is_new f.name (signatures callees)) e → IsFaultOf (bodies_check principals hosts fs main) e
name_fault principals hosts callees fs main k f e lt at done is other =
    let step : functions_check principals hosts (signatures callees) (f ∷ drop (k + 1) fs) ≡ Err (bare e) = (let h = is other in rw h refl) in
    let all : functions_check principals hosts [] fs ≡ Err (bare e) = sym done ∙ ap (functions_check principals hosts (signatures callees)) (at_drop fs k f lt at) ∙ step in
    rw all refl

-- the function at k has a fault
pub body_fault : (principals hosts : Names) (callees : Named Callee) (fs : List Function) (main : List Statement) (later : List (List ℕ)) (k : ℕ) (f : Function) (e : NameFault) → k < length fs → f ≡ get_or fs k f
    → functions_check principals hosts (signatures callees) (drop k fs) ≡ functions_check principals hosts [] fs
    → is_new f.name (signatures callees) ≡ Ok tt
    → IsFaultOf (function_check (record { principals = principals; hosts = hosts; functions = signatures callees; later = later }) f) e → later ≡ function_names (drop k fs) → IsFaultOf (bodies_check principals hosts fs main) e
body_fault principals hosts callees fs main later k f e lt at done new is same other =
    let found : function_check (record { principals = principals; hosts = hosts; functions = signatures callees; later = function_names (f ∷ drop (k + 1) fs) }) f ≡ Err (bare e) =
    subst (λ (z : List (List ℕ)). function_check (record { principals = principals; hosts = hosts; functions = signatures callees; later = z }) f ≡ Err (bare e)) (same ∙ ap function_names (at_drop fs k f lt at)) (is other) in
    let step : functions_check principals hosts (signatures callees) (f ∷ drop (k + 1) fs) ≡ Err (bare e) = rw (new, found) refl in
    let all : functions_check principals hosts [] fs ≡ Err (bare e) = sym done ∙ ap (functions_check principals hosts (signatures callees)) (at_drop fs k f lt at) ∙ step in
    rw all refl

-- all functions are done, and then main
pub after_functions : (principals hosts : Names) (callees : Named Callee) (fs : List Function) (k : ℕ) → length fs ≤ k
    → functions_check principals hosts (signatures callees) (drop k fs) ≡ functions_check principals hosts [] fs → functions_check principals hosts [] fs ≡ Ok (signatures callees)
after_functions principals hosts callees fs k le done = let none : drop k fs ≡ [] = grind (arith, common_steps) in sym done ∙ ap (functions_check principals hosts (signatures callees)) none

pub main_ok : (principals hosts : Names) (callees : Named Callee) (fs : List Function) (main : List Statement) (later : List (List ℕ)) → functions_check principals hosts [] fs ≡ Ok (signatures callees)
    → block_check (map checking main) (record { principals = principals; hosts = hosts; functions = signatures callees; later = later }) [] ≡ Ok [] → later ≡ [] → bodies_check principals hosts fs main ≡ Ok tt
main_ok principals hosts callees fs main later all is none =
    let is' : block_check (map checking main) (record { principals = principals; hosts = hosts; functions = signatures callees; later = [] }) [] ≡ Ok [] =
    subst (λ (z : List (List ℕ)). block_check (map checking main) (record { principals = principals; hosts = hosts; functions = signatures callees; later = z }) [] ≡ Ok []) none is in
    rw (all, is') refl

pub main_fault : (principals hosts : Names) (callees : Named Callee) (fs : List Function) (main : List Statement) (later : List (List ℕ)) (e : NameFault) → functions_check principals hosts [] fs ≡ Ok (signatures callees)
    → IsFaultOf (block_check (map checking main) (record { principals = principals; hosts = hosts; functions = signatures callees; later = later }) []) e → later ≡ [] → IsFaultOf (bodies_check principals hosts fs main) e
main_fault principals hosts callees fs main later e all is none other =
    let is' : block_check (map checking main) (record { principals = principals; hosts = hosts; functions = signatures callees; later = [] }) [] ≡ Err (bare e) =
    subst (λ (z : List (List ℕ)). block_check (map checking main) (record { principals = principals; hosts = hosts; functions = signatures callees; later = z }) [] ≡ Err (bare e)) none (is other) in
    rw (all, is') refl
