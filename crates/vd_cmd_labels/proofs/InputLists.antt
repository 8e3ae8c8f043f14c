-- An inputs file gives one list for each host.
use Rattle.std.proofs.Common.{◌≡◌, ℕ, zero, suc, List, [], ◌∷◌, length, replicate, slice_set, Result, Ok, refl, sym, ap, ◌∙◌, arith}
use Rattle.std.proofs.lemmas.List.{length-set}
use Rattle.vd_report.specs.InputsText.{GivesInputs, filled}
use Rattle.vd_report.specs.Outcome.{Accepts}

length_replicate : (n : ℕ) → length {A = List ℕ} (replicate n []) ≡ n
length_replicate zero = refl
length_replicate (suc n) = let rest = length_replicate n in omega arith

filled_length : (inputs : List (List ℕ)) (sections : List (ℕ × List ℕ)) → length (filled inputs sections) ≡ length inputs
filled_length inputs [] = refl
filled_length inputs (section ∷ sections) = filled_length (slice_set inputs section.0 section.1) sections ∙ length-set inputs section.0 section.1

given_length : (hosts : List (List ℕ)) (bytes : List ℕ) (inputs : List (List ℕ)) → GivesInputs hosts bytes inputs → length inputs ≡ length hosts
given_length hosts bytes inputs g =
    ap (λ (l : List (List ℕ)). length l) (sym g.inputs_are) ∙ filled_length (replicate (length hosts) []) g.sections ∙ length_replicate (length hosts)

pub as_many : (hosts : List (List ℕ)) (bytes : List ℕ) (inputs : List (List ℕ)) → Accepts (Ok inputs) (GivesInputs hosts bytes) → length inputs ≡ length hosts
as_many hosts bytes inputs accepts = given_length hosts bytes inputs ((accepts (λ e. cc e) inputs).0 refl)
