use Rattle.std.proofs.Common.{◌≡◌, ◌-◌, ◌≤◌, length}
use Rattle.vd_report.specs.Tokens.{tokens_at}
use Rattle.vd_report.specs.Inputs.{between, reads, inputs_read}
use Rattle.vd_report.proofs.inputs.read_sections.Given as goal

-- what the tokens from here on say with the sections so far is what the whole file says
abbrev pub invariant-sections : goal.invariant-sections
invariant-sections l = record {
  within : l.at ≤ length l.bytes;
  count : length l.sections ≡ length l.hosts;
  reads : reads l.hosts l.bytes between l.sections (tokens_at l.bytes l.at) ≡ inputs_read l.hosts l.bytes;
}

abbrev pub decreases-sections : goal.decreases-sections
decreases-sections l = length l.bytes - l.at
