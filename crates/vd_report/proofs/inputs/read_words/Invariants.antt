use Rattle.std.proofs.Common.{◌≡◌, ℕ, ◌-◌, ◌≤◌, List, [], length}
use Rattle.vd_report.specs.Tokens.{tokens_at}
use Rattle.vd_report.specs.Inputs.{Sections, listing, reads}
use Rattle.vd_report.proofs.inputs.read_words.Given as goal

-- whoever reads the section has these words so far
abbrev pub invariant-words : goal.invariant-words
invariant-words l = record {
  from : l.start ≤ l.at;
  within : l.at ≤ length l.bytes;
  few : length l.words ≤ 65536;
  reads : (hosts : List (List ℕ)) (host : ℕ) (sections : Sections) →
      reads hosts l.bytes (listing host []) sections (tokens_at l.bytes l.start) ≡ reads hosts l.bytes (listing host l.words) sections (tokens_at l.bytes l.at);
}

abbrev pub decreases-words : goal.decreases-words
decreases-words l = length l.bytes - l.at
