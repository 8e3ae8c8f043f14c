-- Each file has an outcome as the program of a host.
use Rattle.std.proofs.Common.{◌≡◌, inl, inr, ℕ, ◌-◌, List, length, Option, Some, None, Result, Ok, Err, refl}
use Rattle.std.proofs.lemmas.Bool.{cases_lt}
use Rattle.vd_base_codec.specs.Reading.{capped}
use Rattle.vd_execution.specs.Code.{Code}
use Rattle.vd_execution.specs.Text.{IsCodeOf}
use Rattle.vd_hostcode.specs.declared.host_text.program.HostProgram.{HostProgram}
use Rattle.vd_hostcode.specs.File.{File}
use Rattle.vd_hostcode.specs.Heading.{file_read}
use Rattle.vd_hostcode.specs.HostTextOutcome.{IsFileOf, program_of}
use Rattle.vd_hostcode.proofs.Front.{follow_grammar}
use Rattle.vd_hostcode.specs.declared.fault.CodeFault.{CodeFault}
use Rattle.vd_hostcode.specs.declared.fault.CodeFault.TheVariants.{Text, Range}
use Rattle.vd_hostcode.specs.Ranges.{count_in, first_broken, most_steps, static_steps}
use Rattle.vd_hostcode.specs.Outcome.{IsOutcome}
use Rattle.vd_hostcode.proofs.Front.{all_within, first_is_broken, has_code, last_is_broken}
use Rattle.vd_cmd_plan.specs.Programs.{ProgramOutcomes}

abbrev SomeOutcome : List ℕ → Type 0
SomeOutcome bytes = (r : Result HostProgram CodeFault) × IsOutcome bytes r

module _ (bytes : List ℕ) (p : HostProgram) (file : IsFileOf bytes p) where
  abbrev broken : Option ℕ
  broken = first_broken (length p.hosts) p.me 0 0 p.code

  by_steps : (c : Code) → IsCodeOf p.code c → broken ≡ None → SomeOutcome bytes
  by_steps c is none = elim (cases_lt most_steps (static_steps c)) [
    | inl many ↦ (Err (Range (capped (count_in p.code - 1))), (p, count_in p.code - 1, file, last_is_broken (length p.hosts) p.me p.code c (count_in p.code - 1) is none many refl, refl))
    | inr few ↦ (Ok p, (file, all_within (length p.hosts) p.me p.code c is none few))
  ]

  by_ranges : (o : Option ℕ) → broken ≡ o → SomeOutcome bytes
  by_ranges None e = let c = has_code bytes p file in by_steps c.0 c.1 e
  by_ranges (Some n) e = (Err (Range (capped n)), (p, n, file, first_is_broken (length p.hosts) p.me p.code n e, refl))

by_text : (bytes : List ℕ) (r : Result File ℕ) → file_read bytes ≡ r → SomeOutcome bytes
by_text bytes (Ok file) e =
    let is = ((follow_grammar bytes).given file).0 e in
    by_ranges bytes (program_of file) (file, is.0, is.1, refl) (broken bytes (program_of file) (file, is.0, is.1, refl)) refl
by_text bytes (Err at) e = (Err (Text (capped at)), (at, ((follow_grammar bytes).refused at).0 e, refl))

some_outcome : (bytes : List ℕ) → SomeOutcome bytes
some_outcome bytes = by_text bytes (file_read bytes) refl

pub some_programs : ProgramOutcomes
some_programs = record { read = λ bytes. (some_outcome bytes).0; read_is = λ bytes. (some_outcome bytes).1 }
