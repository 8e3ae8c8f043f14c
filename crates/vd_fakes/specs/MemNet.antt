-- A net in memory that fails at listed calls, and where no link is left.
use Rattle.std.specs.Prelude.{◌≡◌, ◌≤◌, ◌+◌, ◌||◌, ℕ, nat_lt, Bool, true, false, if◌then◌else◌, List, [], ◌∷◌, ◌++◌, length, map, slice_get, Some, None, Option, is_none, Result, Ok, Err}
use Rattle.std.specs.Result.{result_map_both}
use Rattle.vd_base.specs.declared.faults.CallFault.{CallFault}
use Rattle.vd_base.specs.declared.faults.CallFault.TheVariants as call_fault
use Rattle.vd_outside.specs.Link.{LinkView}
use Rattle.vd_fakes.specs.Failing.{failures_at, fails_next, one_more, with_call}
use Rattle.vd_fakes.specs.MemLink.{MemLinkState, limited_link_view}
use Rattle.vd_outside.specs.Net.{NetView, Waiting, link_at, without_link_at}
use Rattle.vd_fakes.specs.declared.failures.Failures.{Failures}
use Rattle.vd_outside.specs.declared.net.NetCall.{NetCall}
use Rattle.vd_outside.specs.declared.net.NetCall.TheVariants.{Accept, Listen}

-- the limit of waits, the address of each listener, the links still to be given, how many were given, those that came back, the calls that
-- were asked, and the calls that fail
pub record MemNetState : Type 0 where
  pub limit : Option ℕ
  pub listeners : List (List ℕ)
  pub waiting : Waiting MemLinkState
  pub links : ℕ
  pub back : List MemLinkState
  pub asked : List NetCall
  pub failures : Failures

-- no link that waits has failed
abbrev pub AreFresh : Waiting MemLinkState → Type 0
AreFresh [] = Unit {0}
AreFresh (link ∷ links) = (link.1.failures.faults ≡ 0) × AreFresh links

-- what a link at an address tells
abbrev pub limited_link_at : List ℕ × MemLinkState → List ℕ × LinkView
limited_link_at link = (link.0, limited_link_view link.1)

-- where no link waits, none is given
abbrev pub listed_net_view : MemNetState → NetView
listed_net_view net = record {
  told = true;
  given = length net.listeners;
  limit = net.limit;
  listeners = net.listeners;
  waiting = map limited_link_at net.waiting;
  otherwise = None;
  links = net.links;
  back = map limited_link_view net.back;
  asked = net.asked;
  faults = net.failures.faults;
}

abbrev pub no_link_left : List ℕ → MemNetState → Bool
no_link_left address net = is_none (link_at address net.waiting None)

-- how the net is after a fault at a call
abbrev pub after_fault : MemNetState → NetCall → MemNetState
after_fault net call = record net { asked = net.asked ++ call ∷ []; failures = record net.failures { faults = one_more net.failures.faults } }

-- How the net is after a link came back: it is kept, unless as many came back as were given. If it failed, that is a fault of
-- the net; this is no call that has a number.
abbrev pub after_hang_up : MemLinkState → MemNetState → MemNetState
after_hang_up link net = record net {
  back = if nat_lt (length net.back) net.links then net.back ++ link ∷ [] else net.back;
  failures = if nat_lt 0 link.failures.faults then record net.failures { faults = one_more net.failures.faults } else net.failures;
}

-- a link is given at an address, or none
abbrev pub Gives : List ℕ → NetCall → Bool → MemNetState → MemNetState → Result MemLinkState CallFault → Type 0
Gives address call fails before now (Ok link) =
    (fails ≡ false) × (link.failures.faults ≡ 0) × (link_at address before.waiting None ≡ Some link)
    × (now ≡ record before { waiting = without_link_at address before.waiting; links = before.links + 1; asked = before.asked ++ call ∷ [] })
Gives address call fails before now (Err call_fault.Failed) = ((fails || no_link_left address before) ≡ true) × (before.failures.faults ≤ now.failures.faults) × (now ≡ after_fault before call)
Gives address call fails before now (Err call_fault.Memory) = now ≡ before

-- how the net is when a call of it was counted
abbrev pub counted : MemNetState → MemNetState
counted net = record net { failures = with_call net.failures }

-- The next call of the net gives a link at an address, or none.
abbrev pub GivesNext : List ℕ → NetCall → MemNetState → MemNetState → Result MemLinkState CallFault → Type 0
GivesNext address call before now result = Gives address call (fails_next before.failures) (counted before) now result

-- the same at the address of a listener
abbrev pub AcceptsNext : ℕ → MemNetState → MemNetState → Result MemLinkState CallFault → Type 0
AcceptsNext listener before now result = (address : List ℕ) → slice_get before.listeners listener ≡ Some address → GivesNext address (Accept listener) before now result

-- The next call of the net gives a listener at an address, or none.
abbrev pub ListensNext : List ℕ → MemNetState → MemNetState → Result ℕ CallFault → Type 0
ListensNext address before now (Ok listener) =
    (fails_next before.failures ≡ false) × (listener ≡ length before.listeners)
    × (now ≡ record (counted before) { listeners = before.listeners ++ address ∷ []; asked = before.asked ++ Listen address ∷ [] })
ListensNext address before now (Err call_fault.Failed) = (fails_next before.failures ≡ true) × (now ≡ after_fault (counted before) (Listen address))
ListensNext address before now (Err call_fault.Memory) = now ≡ counted before

-- what the net tells of a link that it gives
abbrev pub told_link : Result MemLinkState CallFault → Result LinkView CallFault
told_link result = result_map_both limited_link_view (λ fault. fault) result

-- one that holds no link, and fails at the calls with these numbers
abbrev pub no_links : List ℕ → MemNetState
no_links failing = record { limit = None; listeners = []; waiting = []; links = 0; back = []; asked = []; failures = failures_at failing }
