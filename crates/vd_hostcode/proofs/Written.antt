-- Parts of a text that are written one after the other.
use Rattle.std.proofs.Common.{◌≡◌, ℕ, List, ◌++◌, Result, Ok, Err, OnOk, ap, ◌∙◌, append_assoc}

pub appended : {T E : Type 0} (r : Result T E) (old front mid new part is : List ℕ) → mid ≡ old ++ front → part ≡ is → OnOk r (new ≡ mid ++ part) → OnOk r (new ≡ old ++ (front ++ is))
appended (Ok x) old front mid new part is e f h = h ∙ ap (λ bs. bs ++ part) e ∙ append_assoc old front part ∙ ap (λ bs. old ++ (front ++ bs)) f
appended (Err x) old front mid new part is e f h = tt
