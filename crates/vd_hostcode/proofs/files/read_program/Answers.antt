use Rattle.std.proofs.Common.{ℕ, List, length, sym, subst}
use Rattle.vd_execution.specs.declared.instructions.Instr.{Instr}
use Rattle.vd_execution.specs.Code.{Code}
use Rattle.vd_execution.specs.Text.{IsCodeOf}
use Rattle.vd_hostcode.specs.Ranges.{IsWithinRanges}
use Rattle.vd_hostcode.proofs.Outcomes.{has_code}
use Rattle.vd_hostcode.proofs.files.read_program.Goals as goal

pub check-requires : goal.check-requires
check-requires c = subst (λ (k : List Instr). (x : Code) × IsCodeOf k x) (sym c.as_slice-2.ensures) (has_code c.args.bytes.now c.in_ok-program.program c.in_ok-program.ensures.given)

pub returns : goal.returns
returns c =
    let p = c.in_ok-program.program in
    λ some. (
      c.in_ok-program.ensures.given,
      subst (λ (k : List (List ℕ)). IsWithinRanges (length k) p.me p.code) c.as_slice.ensures (subst (λ (k : List Instr). IsWithinRanges (length c.as_slice.result.now) p.me k) c.as_slice-2.ensures c.in_ok-check.ensures),
    )
