-- What the scanner said is the outcome of the file.
use Rattle.std.proofs.Common.{◌≡◌, ℕ, ◌≤◌, Ok, Err, List, length, drop, arith, length-drop}
use Rattle.std.specs.Prelude.{IfOk, Result}
use Rattle.vd_search_tree.specs.declared.search_certificate.certificate.Certificate.{Certificate}
use Rattle.vd_base.specs.declared.faults.FileFault.{FileFault}
use Rattle.vd_base.specs.declared.faults.FileFault.TheVariants.{Text, Memory}
use Rattle.vd_search_tree.specs.Texts.{IsTextOf}
use Rattle.vd_search_tree.specs.Scan.{scan}
use Rattle.vd_search_tree.specs.Steps.{Said}
use Rattle.vd_search_tree.specs.Outcomes.{IsFirstWrong, Refuses, Answers}
use Rattle.vd_search_tree.proofs.Whole.{scans_texts}
use Rattle.vd_search_tree.proofs.Outcomes.{first_wrong, outcome_once}

wrong_at : (bytes : List ℕ) (at : ℕ) → at ≤ length bytes → scan bytes ≡ Err (drop at bytes) → IsFirstWrong bytes at
wrong_at bytes at within is = first_wrong bytes (drop at bytes) is at (simp length-drop (omega arith))

pub given_of : (bytes : List ℕ) (result : Result Certificate FileFault) → Said bytes (scan bytes) result → IfOk result (λ c. IsTextOf c bytes)
given_of bytes (Ok c) said = scans_texts.given bytes c said
given_of bytes (Err fault) said = tt

pub refuses_of : (bytes : List ℕ) (result : Result Certificate FileFault) → Said bytes (scan bytes) result → Refuses bytes result
refuses_of bytes (Ok c) said = tt
refuses_of bytes (Err (Text at)) said = wrong_at bytes at said.0 said.1
refuses_of bytes (Err Memory) said = tt

pub answers_of : (bytes : List ℕ) (result : Result Certificate FileFault) → Said bytes (scan bytes) result → Answers bytes result
answers_of bytes (Ok c) said = λ outcome has. outcome_once bytes (Ok c) outcome (scans_texts.given bytes c said) has
answers_of bytes (Err (Text at)) said = λ outcome has. outcome_once bytes (Err at) outcome (wrong_at bytes at said.0 said.1) has
answers_of bytes (Err Memory) said = tt
