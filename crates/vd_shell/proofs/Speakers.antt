-- The program that a file holds.
use Rattle.std.proofs.Common.{◌≡◌, ℕ, IsTrue, List, Ok, subst}
use Rattle.vd_base.specs.Limits.{most_host_file_bytes}
use Rattle.vd_cmd.specs.declared.command.HostWords.{HostWords}
use Rattle.vd_cmd_host.specs.Loading.{HoldsProgram}
use Rattle.vd_hostcode.specs.declared.host_text.program.HostProgram.{HostProgram}
use Rattle.vd_hostcode.specs.Outcome.{IsOutcome}
use Rattle.vd_outside.specs.Files.{Fetches, FilesView, fetched}

pub held : (words : HostWords) (before now : FilesView) (name bytes seen : List ℕ) (program : HostProgram) → name ≡ words.program → Fetches name most_host_file_bytes before now (Ok bytes) → seen ≡ bytes
    → IsOutcome seen (Ok program) → IsTrue before.told → HoldsProgram words before.contents program
held words before now name bytes seen program named fetches same is told = record {
  bytes = bytes;
  is_fetched = subst (λ (n : List ℕ). fetched (before.contents n) most_host_file_bytes ≡ Ok bytes) named (fetches.gives told);
  holds = subst (λ (b : List ℕ). IsOutcome b (Ok program)) same is;
}
