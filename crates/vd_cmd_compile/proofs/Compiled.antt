-- What a choice of protocols comes to, whatever functions pick the outcomes.
use Rattle.std.proofs.Common.{◌≡◌, ℕ, List, ◌++◌, Ok, refl, ap, ◌∙◌}
use Rattle.sha2.specs.Sha256.{sha256}
use Rattle.vd_outside.specs.declared.stored.Stored.{Stored}
use Rattle.vd_core.specs.declared.normal.NormalForm.{NormalForm}
use Rattle.vd_execution.specs.declared.instructions.Instr.{Instr}
use Rattle.vd_hostcode.specs.declared.host_text.program.Digest.{Digest}
use Rattle.vd_projection.specs.Programs.{host_codes}
use Rattle.vd_search_stages.specs.declared.optimum.Assignment.{Assignment}
use Rattle.vd_cmd_plan.specs.Plans.{Computes}
use Rattle.vd_cmd_plan.specs.declared.answer.Answer.{Answer}
use Rattle.vd_cmd_plan.specs.declared.status.Status.TheVariants.{Ended}
use Rattle.vd_cmd_choice.specs.Choice.{printed_at}
use Rattle.vd_cmd_compile.specs.Compiling.{compiled_at, host_files, plan_for}

abbrev made : List Stored → List ℕ → Answer
made stores printed = record { status = Ended; stores = stores; printed = printed }

-- what is stored and printed is what is wanted
pub answered : (program : NormalForm) (a : Assignment) (text prefix printed shown : List ℕ) (all : List (List Instr)) (plan : Digest) (form : NormalForm) (stores : List Stored)
    → printed ≡ printed_at program a → shown ≡ printed → plan.bytes ≡ sha256 (text ++ shown) → form ≡ program → all ≡ host_codes program a.protocols
    → stores ≡ host_files prefix form.hosts plan 0 all → Computes (compiled_at program a text prefix) (Ok (made stores printed))
answered program a text prefix printed shown all plan form stores p s b f codes is =
    let digest : plan ≡ plan_for text (printed_at program a) = λ i. record { bytes = (b ∙ ap (λ (t : List ℕ). sha256 (text ++ t)) (s ∙ p)) i } in
    let files : stores ≡ host_files prefix program.hosts (plan_for text (printed_at program a)) 0 (host_codes program a.protocols) =
    is ∙ (λ i. host_files prefix (f i).hosts (digest i) 0 (codes i)) in
    record { proper = (tt, refl); no_fault = λ file x. cc x; settled = λ i. made (files i) (p i) }
