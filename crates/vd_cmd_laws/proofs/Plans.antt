-- What is known of the steps of a plan that ends well, and to what answer steps lead.
use Rattle.std.proofs.Common.{◌≡◌, ℕ, List, Result, Ok, Err, refl, sym, ap, ◌∙◌}
use Rattle.vd_outside.specs.Files.{Contents, fetched}
use Rattle.vd_outside.specs.declared.faults.FetchFault.{FetchFault}
use Rattle.vd_outside.specs.declared.faults.FetchFault.TheVariants as fetch_fault
use Rattle.vd_cmd_plan.specs.Held.{IsHeld}
use Rattle.vd_cmd_plan.specs.Plans.{Plan, answer_then, check_then, file_then, with_file}
use Rattle.vd_cmd_plan.specs.declared.answer.Answer.{Answer}
use Rattle.vd_cmd_plan.specs.declared.status.Status.{Status}
use Rattle.vd_cmd_plan.specs.declared.status.Status.TheVariants.{Ended}

-- a file whose fetch did not end the plan
came : (name : List ℕ) (limit : ℕ) (rest : List ℕ → Plan) (got : Result (List ℕ) FetchFault) → (with_file name limit got rest).answer.status ≡ Ended
    → (bytes : List ℕ) × (got ≡ Ok bytes) × ((with_file name limit got rest).answer ≡ (rest bytes).answer)
came name limit rest (Ok bytes) ends = (bytes, refl, refl)
came name limit rest (Err fetch_fault.TooLong) ends = absurd (cc ends)
came name limit rest (Err fetch_fault.Failed) ends = absurd (cc ends)
came name limit rest (Err fetch_fault.Memory) ends = absurd (cc ends)

-- no refusal of a test ends well
abbrev pub NeverEnds : {T : Type 0} → Result T Status → Type 0
NeverEnds wanted = (status : Status) → wanted ≡ Err status → status ≡ Ended → ⊥

module _ (contents : Contents) where
  abbrev pub Ends : (Contents → Plan) → Type 0
  Ends plan = (plan contents).answer.status ≡ Ended

  abbrev pub Leads : (Contents → Plan) → Answer → Type 0
  Leads plan answer = (plan contents).answer ≡ answer

  -- what leads to an answer that ends well
  pub ends_as : (plan rest : Contents → Plan) → Ends plan → Leads plan (rest contents).answer → Ends rest
  ends_as plan rest ends same = sym (ap (λ (a : Answer). a.status) same) ∙ ends

  pub file_came : (name : List ℕ) (limit : ℕ) (rest : List ℕ → Contents → Plan) → Ends (file_then name limit rest)
      → (bytes : List ℕ) × (fetched (contents name) limit ≡ Ok bytes) × Leads (file_then name limit rest) (rest bytes contents).answer
  unfolding file_then
  file_came name limit rest ends = came name limit (λ bytes. rest bytes contents) (fetched (contents name) limit) ends

  pub check_came : {T : Type 0} (wanted : Result T Status) (rest : T → Contents → Plan) → NeverEnds wanted → Ends (check_then wanted rest)
      → (value : T) × (wanted ≡ Ok value) × Leads (check_then wanted rest) (rest value contents).answer
  unfolding check_then
  check_came (Ok value) rest never ends = (value, refl, refl)
  check_came (Err status) rest never ends = absurd (never status refl ends)

  pub answered : (answer : Answer) → Leads (answer_then answer) answer
  unfolding answer_then
  answered answer = refl

  -- ---- forwards

  pub file_leads : (name : List ℕ) (limit : ℕ) (bytes : List ℕ) (rest : List ℕ → Contents → Plan) (answer : Answer) → fetched (contents name) limit ≡ Ok bytes
      → Leads (rest bytes) answer → Leads (file_then name limit rest) answer
  unfolding file_then
  file_leads name limit bytes rest answer is then = rw is then

  pub check_leads : {T : Type 0} (wanted : Result T Status) (value : T) (rest : T → Contents → Plan) (answer : Answer) → wanted ≡ Ok value
      → Leads (rest value) answer → Leads (check_then wanted rest) answer
  unfolding check_then
  check_leads wanted value rest answer is then = rw is then

  pub held_leads : {T : Type 0} (name : List ℕ) (limit : ℕ) (wanted : List ℕ → Result T Status) (value : T) (rest : T → Contents → Plan) (answer : Answer) (Is : List ℕ → Type 0)
      → IsHeld name limit contents Is → ((bytes : List ℕ) → Is bytes → wanted bytes ≡ Ok value) → Leads (rest value) answer
      → Leads (file_then name limit (λ bytes. check_then (wanted bytes) rest)) answer
  held_leads name limit wanted value rest answer Is held is then =
      file_leads name limit held.bytes (λ bytes. check_then (wanted bytes) rest) answer held.is_fetched (check_leads (wanted held.bytes) value rest answer (is held.bytes held.holds) then)
