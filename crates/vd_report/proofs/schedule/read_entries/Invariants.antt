use Rattle.std.proofs.Common.{◌≡◌, ◌-◌, ◌≤◌, length}
use Rattle.vd_report.specs.Tokens.{tokens_at}
use Rattle.vd_report.specs.Schedule.{reads_entries, schedule_read}
use Rattle.vd_report.proofs.schedule.read_entries.Given as goal

-- what the tokens from here on say behind the entries so far is what the whole file says
abbrev pub invariant-entries : goal.invariant-entries
invariant-entries l = record {
  within : l.at ≤ length l.bytes;
  reads : reads_entries l.hosts l.bytes l.entries (tokens_at l.bytes l.at) ≡ schedule_read l.hosts l.bytes;
}

abbrev pub decreases-entries : goal.decreases-entries
decreases-entries l = length l.bytes - l.at
