-- The word of a key that a file has.
use Rattle.std.proofs.Common.{◌≡◌, ◌≢◌, ℕ, Bool, true, false, if◌then◌else◌, List, [], ◌∷◌, Option, Some, None, MatchOption, Bor, nat_eq, refl, ap, eqb-true}
use Rattle.vd_cmd.specs.Commands.{key_file}
use Rattle.vd_cmd.specs.declared.command.KeySource.TheVariants.{InFile}

named_by : (test : Bool) (first : ℕ) (name : List ℕ) → nat_eq first 0x40 ≡ test → ((rest : List ℕ) → first ∷ name ≢ 0x40 ∷ rest)
    → (if test then Some (InFile name) else None) ≡ None
named_by false first name is other = refl
named_by true first name is other = absurd (other name (ap (λ (f : ℕ). f ∷ name) (eqb-true first 0x40 is)))

names_none : (word : List ℕ) → ((rest : List ℕ) → word ≢ 0x40 ∷ rest) → key_file word ≡ None
names_none [] other = refl
names_none (first ∷ name) other = named_by (nat_eq first 0x40) first name refl other

pub file_is : (word : List ℕ) (result : Option (Bor (List ℕ))) → MatchOption result ((rest : List ℕ) → word ≢ 0x40 ∷ rest) (λ name. word ≡ 0x40 ∷ name.now)
    → MatchOption result (key_file word ≡ None) (λ name. key_file word ≡ Some (InFile name.now))
file_is word None other = names_none word other
file_is word (Some name) is = ap key_file is
