-- What a run is whose endorsed words are given.
use Rattle.std.specs.Prelude.{◌≡◌, ℕ, Bool, true, List, []}
use Rattle.vd_base.specs.declared.ids.HostId.{HostId}
use Rattle.vd_core.specs.declared.normal.NormalForm.{NormalForm}
use Rattle.vd_formula.specs.TruthTable.{TruthTable}
use Rattle.vd_constraints.specs.declared.labels.Labels.{Labels}
use Rattle.vd_semantics.specs.ProgramMeaning.{block_effect}
use Rattle.vd_noninter.specs.Reading.{SameInputs, endorsed_words, start}
use Rattle.vd_noninter.specs.Trust.{becomes_trusted, trusts_host}
use Rattle.vd_integrity_runs.specs.Endorsed.{Given, outputs_given, run_given}

-- where the words are those that the program itself endorses, the run is the program's, and no word is left
abbrev pub OwnWordsMakeTheRun : Type 0
OwnWordsMakeTheRun = (p : NormalForm) (test : ℕ → ℕ → Bool) (inputs : List (List ℕ))
    → let end : Given = record { state = block_effect p.body 0 (start p inputs); left = [] } in
    run_given p test (endorsed_words p test inputs) inputs ≡ end

-- The words that become trusted, and the inputs of trusted hosts, decide the outputs to trusted hosts.
abbrev pub DecidesWhatIsTrusted : NormalForm → Labels → (TruthTable → Bool) → Type 0
DecidesWhatIsTrusted p l T =
    (first second : List (List ℕ)) → SameInputs (trusts_host p T) first second → (words : List ℕ)
    → (h : HostId) → trusts_host p T h.0 ≡ true → outputs_given p (becomes_trusted l T) h words first ≡ outputs_given p (becomes_trusted l T) h words second
