-- What is known where a walk over a source ends without a fault.
use Rattle.std.proofs.Common.{◌≡◌, Bool, true, false, [], ◌∷◌, ◌++◌, is_some, Result, Ok, Err, refl, sym, ap, if◌then◌else◌}
use Rattle.vd_base.specs.Names.{Named, at_name}
use Rattle.vd_core.specs.declared.source.Ident.{Ident}
use Rattle.vd_resolve.specs.Faults.{Fault}
use Rattle.vd_resolve.specs.Faults as fault
use Rattle.vd_resolve.specs.Rules.{Names, and_then, declared, is_new, known}

pub err_is : {A : Type 0} (e : Fault) (a : A) → ◌≡◌ {A = Result A Fault} (Err e) (Ok a) → ⊥
err_is e a p = cc

abbrev from_ok : {A : Type 0} → A → Result A Fault → A
from_ok d (Ok a) = a
from_ok d (Err e) = d

pub ok_is : {A : Type 0} (a b : A) → ◌≡◌ {A = Result A Fault} (Ok a) (Ok b) → a ≡ b
ok_is a b p = ap (from_ok b) p

-- the first step had no fault, and gave this
abbrev pub Passed : {A B : Type 0} → Result A Fault → (A → Result B Fault) → B → Type 0
Passed {A} {B} r next b = (a : A) × (r ≡ Ok a) × (next a ≡ Ok b)

pub passed : {A B : Type 0} (r : Result A Fault) (next : A → Result B Fault) (b : B) → and_then r next ≡ Ok b → Passed r next b
passed (Ok a) next b p = (a, refl, p)
passed (Err e) next b p = absurd (err_is e b p)

-- a test that is not to hold, or is to hold
pub refused : {A : Type 0} (t : Bool) (e : Fault) (r : Result A Fault) (a : A) → (if t then Err e else r) ≡ Ok a → (t ≡ false) × (r ≡ Ok a)
refused true e r a p = absurd (err_is e a p)
refused false e r a p = (refl, p)

pub accepted : {A : Type 0} (t : Bool) (e : Fault) (r : Result A Fault) (a : A) → (if t then r else Err e) ≡ Ok a → (t ≡ true) × (r ≡ Ok a)
accepted true e r a p = (refl, p)
accepted false e r a p = absurd (err_is e a p)

pub declared_is : {A : Type 0} (x : Ident) (a : A) (env after : Named A) → declared x a env ≡ Ok after → (is_some (at_name env x.name) ≡ false) × (after ≡ env ++ (x.name, a) ∷ [])
declared_is x a env after p =
    let s = passed (is_new x env) (λ fresh. Ok (env ++ (x.name, a) ∷ [])) after p in
    ((refused (is_some (at_name env x.name)) (fault.Twice x.span) (Ok tt) s.0 s.1).0, sym (ok_is (env ++ (x.name, a) ∷ []) after s.2))

pub known_is : (names : Names) (x : Ident) (u : Unit {0}) → known names x ≡ Ok u → is_some (at_name names x.name) ≡ true
known_is names x u p = (accepted (is_some (at_name names x.name)) (fault.Unknown x.span) (Ok tt) u p).0
