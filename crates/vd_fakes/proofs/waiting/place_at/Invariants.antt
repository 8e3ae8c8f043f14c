use Rattle.std.proofs.Common.{◌≡◌, ◌++◌, None, take, drop}
use Rattle.vd_outside.specs.Net.{link_at, without_link_at}
use Rattle.vd_fakes.proofs.waiting.place_at.Given as goal

abbrev pub invariant-loop-place : goal.invariant-loop-place
invariant-loop-place g l = record {
  link : link_at l.address (drop l.place l.waiting) None ≡ link_at l.address l.waiting None;
  rest : take l.place l.waiting ++ without_link_at l.address (drop l.place l.waiting) ≡ without_link_at l.address l.waiting;
}
