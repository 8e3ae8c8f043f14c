-- A link in memory that passes so many bytes a call at most, and fails at listed calls.
use Rattle.std.specs.Prelude.{ℕ, List, length, min, max, take, drop, ◌++◌, if◌then◌else◌, ◌-◌, ◌^◌}
use Rattle.vd_outside.specs.Link.{LinkView}
use Rattle.vd_fakes.specs.Failing.{fails_next, failures_at, with_call, with_fault}
use Rattle.vd_outside.specs.Recorded.{kept}
use Rattle.vd_fakes.specs.SureLink.{SureLinkState, fresh_link, share_into, after_receive}
use Rattle.vd_fakes.specs.declared.failures.Failures.{Failures}

-- what it holds as one that never fails, the most bytes of a call, and the calls that fail
pub record MemLinkState : Type 0 where
  pub held : SureLinkState
  pub most : ℕ
  pub failures : Failures

-- what it tells
abbrev pub limited_link_view : MemLinkState → LinkView
limited_link_view link = record {
  told = link.held.sent.told;
  coming = link.held.coming;
  sent = link.held.sent.bytes;
  ended = link.held.ended;
  faults = link.failures.faults;
}

-- how many bytes of a piece with this length it takes in a call, and how many it gives at most
abbrev pub share_out : MemLinkState → ℕ → ℕ
share_out link len = min (min len (max link.most 1)) (2 ^ 32 - 1)

abbrev pub share_in : MemLinkState → ℕ → ℕ
share_in link len = share_into link.held (min len (max link.most 1))

-- how it is after a send and after a receive
abbrev pub after_send : MemLinkState → List ℕ → MemLinkState
after_send link bytes =
    if fails_next link.failures
    then record link { failures = with_fault link.failures }
    else record link { held = record link.held { sent = kept link.held.sent (take (share_out link (length bytes)) bytes) }; failures = with_call link.failures }

abbrev pub after_limited_receive : MemLinkState → ℕ → MemLinkState
after_limited_receive link len =
    if fails_next link.failures
    then record link { failures = with_fault link.failures }
    else record link { held = after_receive link.held (min len (max link.most 1)); failures = with_call link.failures }

-- what a receive leaves in a piece
abbrev pub piece_left : MemLinkState → List ℕ → List ℕ
piece_left link piece =
    if fails_next link.failures then piece else take (share_in link (length piece)) link.held.coming ++ drop (share_in link (length piece)) piece

-- one on which these bytes will come, with room for so many that are sent; it fails at the calls with these numbers
abbrev pub fresh_limited_link : List ℕ → ℕ → ℕ → List ℕ → MemLinkState
fresh_limited_link coming room most failing = record { held = fresh_link coming room; most = most; failures = failures_at failing }
