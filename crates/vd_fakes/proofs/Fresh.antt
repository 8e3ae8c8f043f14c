-- Links that have not failed.
use Rattle.std.proofs.Common.{rules, arith, ◌≡◌, ◌≤◌, ℕ, ◌+◌, List, [], ◌∷◌, ◌++◌, Bool, true, false, Some, None, Result, Ok, Err, cond, option_map, map, slice_get, bytes_eq, refl, sym, ap, ◌∙◌, subst}
use Rattle.std.specs.Result.{result_map_both}
use Rattle.vd_base.specs.declared.faults.CallFault.{CallFault}
use Rattle.vd_base.specs.declared.faults.CallFault.TheVariants as call_fault
use Rattle.vd_fakes.specs.Failing.{fails_next, with_call}
use Rattle.vd_fakes.specs.declared.failures.Failures.{Failures}
use Rattle.vd_outside.specs.declared.net.NetCall.{NetCall}
use Rattle.vd_outside.specs.declared.net.NetCall.TheVariants.{Accept, Connect}
use Rattle.std.proofs.lemmas.Option.{none-some}
use Rattle.vd_outside.specs.Net.{Waiting, GivesLink, Accepts, Connects, link_at, without_link_at}
use Rattle.vd_fakes.specs.MemLink.{MemLinkState, limited_link_view}
use Rattle.vd_fakes.specs.MemNet.{MemNetState, AreFresh, Gives, GivesNext, limited_link_at, listed_net_view}

pub one_more : (waiting : Waiting MemLinkState) (address : List ℕ) (link : MemLinkState) → AreFresh waiting → link.failures.faults ≡ 0 → AreFresh (waiting ++ (address, link) ∷ [])
one_more [] address link fresh is = (is, tt)
one_more (first ∷ waiting) address link fresh is = (fresh.0, one_more waiting address link fresh.1 is)

pub others : (address : List ℕ) (waiting : Waiting MemLinkState) → AreFresh waiting → AreFresh (without_link_at address waiting)
others address [] fresh = tt
others address (link ∷ links) fresh = by (bytes_eq link.0 address) (others address links fresh.1)
  where
    by : (b : Bool) → AreFresh (without_link_at address links) → AreFresh (cond b links (link ∷ without_link_at address links))
    by true rest = fresh.1
    by false rest = (fresh.0, rest)

pub given : (address : List ℕ) (waiting : Waiting MemLinkState) (link : MemLinkState) → AreFresh waiting → link_at address waiting None ≡ Some link → link.failures.faults ≡ 0
given address [] link fresh is = absurd (none-some link is)
given address (first ∷ links) link fresh is = by (bytes_eq first.0 address) (λ same. given address links link fresh.1 same) is
  where
    by : (b : Bool) → (link_at address links None ≡ Some link → link.failures.faults ≡ 0) → cond b (Some first.1) (link_at address links None) ≡ Some link → link.failures.faults ≡ 0
    by true rest same = let first_is : first.1 ≡ link = cc in subst (λ (l : MemLinkState). l.failures.faults ≡ 0) first_is fresh.0
    by false rest same = rest same

-- where no link waits at an address, all stay
pub none_left : (address : List ℕ) (waiting : Waiting MemLinkState) → link_at address waiting None ≡ None → without_link_at address waiting ≡ waiting
none_left address [] none = refl
none_left address (first ∷ links) none = by (bytes_eq first.0 address) (λ same. none_left address links same) none
  where
    by : (b : Bool) → (link_at address links None ≡ None → without_link_at address links ≡ links) → cond b (Some first.1) (link_at address links None) ≡ None → cond b links (first ∷ without_link_at address links) ≡ first ∷ links
    by true rest same = absurd (none-some first.1 (sym same))
    by false rest same = ap (λ (l : Waiting MemLinkState). first ∷ l) (rest same)

choose : {A B : Type 0} (f : A → B) (b : Bool) (x y : A) → cond b (f x) (f y) ≡ f (cond b x y)
choose f true x y = refl
choose f false x y = refl

-- the first link at an address tells what the first of the told ones is
link_told : (address : List ℕ) (waiting : Waiting MemLinkState) → link_at address (map limited_link_at waiting) None ≡ option_map limited_link_view (link_at address waiting None)
link_told address [] = refl
link_told address (link ∷ links) =
    ap (λ rest. cond (bytes_eq link.0 address) (Some (limited_link_view link.1)) rest) (link_told address links)
    ∙ choose (option_map limited_link_view) (bytes_eq link.0 address) (Some link.1) (link_at address links None)

-- the told links without the first at an address are those that are left
rest_told : (address : List ℕ) (waiting : Waiting MemLinkState) → map limited_link_at (without_link_at address waiting) ≡ without_link_at address (map limited_link_at waiting)
rest_told address [] = refl
rest_told address (link ∷ links) =
    sym (choose (map limited_link_at) (bytes_eq link.0 address) links (link ∷ without_link_at address links))
    ∙ ap (λ rest. cond (bytes_eq link.0 address) (map limited_link_at links) (limited_link_at link ∷ rest)) (rest_told address links)

-- what a net tells after it gave a link
gives_link : (address : List ℕ) (before : MemNetState) (failures : Failures) (asked : List NetCall) (link : MemLinkState) → link_at address before.waiting None ≡ Some link
    → GivesLink address (listed_net_view before) (listed_net_view (record before { waiting = without_link_at address before.waiting; links = before.links + 1; asked = asked; failures = failures })) (limited_link_view link)
gives_link address before failures asked link first = record {
  at_address = link_told address before.waiting ∙ ap (option_map limited_link_view) first;
  waiting = rest_told address before.waiting;
  otherwise = refl;
  links = refl;
  back = refl;
}

-- a net whose call was counted gives a link at an address, or none
pub connects : (address : List ℕ) (fails : Bool) (before now : MemNetState) (result : Result MemLinkState CallFault)
    → Gives address (Connect address) fails (record before { failures = with_call before.failures }) now result → Connects address (listed_net_view before) (listed_net_view now) (result_map_both limited_link_view (λ fault. fault) result)
connects address fails before now (Ok link) gives =
    subst (λ net. Connects address (listed_net_view before) (listed_net_view net) (Ok (limited_link_view link))) (sym gives.3) (record {
      later = omega arith;
      failed = search rules;
      fresh = gives.1;
      limit = refl;
      listeners = record { given = refl; listeners = λ told. refl };
      still_told = λ told. told;
      asked = λ told. refl;
      gives = λ told. gives_link address before (with_call before.failures) (before.asked ++ Connect address ∷ []) link gives.2;
      no_link = λ told. tt;
    })
connects address fails before now (Err call_fault.Failed) gives =
    subst (λ net. Connects address (listed_net_view before) (listed_net_view net) (Err call_fault.Failed)) (sym gives.2) (record {
      later = subst (λ (net : MemNetState). before.failures.faults ≤ net.failures.faults) gives.2 gives.1;
      failed = λ failed. omega arith;
      fresh = tt;
      limit = refl;
      listeners = record { given = refl; listeners = λ told. refl };
      still_told = λ told. told;
      asked = λ told. refl;
      gives = λ told. tt;
      no_link = λ told. record { waiting = refl; otherwise = refl; links = refl; back = refl };
    })
connects address fails before now (Err call_fault.Memory) gives =
    subst (λ net. Connects address (listed_net_view before) (listed_net_view net) (Err call_fault.Memory)) (sym gives) (record {
      later = omega arith;
      failed = search rules;
      fresh = tt;
      limit = refl;
      listeners = record { given = refl; listeners = λ told. refl };
      still_told = λ told. told;
      asked = λ told. refl;
      gives = λ told. tt;
      no_link = λ told. record { waiting = refl; otherwise = refl; links = refl; back = refl };
    })

-- the same of a link that comes to a listener
pub accepts : (listener : ℕ) (address : List ℕ) (fails : Bool) (before now : MemNetState) (result : Result MemLinkState CallFault) → slice_get before.listeners listener ≡ Some address
    → Gives address (Accept listener) fails (record before { failures = with_call before.failures }) now result → Accepts listener (listed_net_view before) (listed_net_view now) (result_map_both limited_link_view (λ fault. fault) result)
accepts listener address fails before now (Ok link) at gives =
    subst (λ net. Accepts listener (listed_net_view before) (listed_net_view net) (Ok (limited_link_view link))) (sym gives.3) (record {
      later = omega arith;
      failed = search rules;
      fresh = gives.1;
      limit = refl;
      listeners = record { given = refl; listeners = λ told. refl };
      still_told = λ told. told;
      asked = λ told. refl;
      gives = λ told. (address, at, gives_link address before (with_call before.failures) (before.asked ++ Accept listener ∷ []) link gives.2);
      no_link = λ told. tt;
    })
accepts listener address fails before now (Err call_fault.Failed) at gives =
    subst (λ net. Accepts listener (listed_net_view before) (listed_net_view net) (Err call_fault.Failed)) (sym gives.2) (record {
      later = subst (λ (net : MemNetState). before.failures.faults ≤ net.failures.faults) gives.2 gives.1;
      failed = λ failed. omega arith;
      fresh = tt;
      limit = refl;
      listeners = record { given = refl; listeners = λ told. refl };
      still_told = λ told. told;
      asked = λ told. refl;
      gives = λ told. tt;
      no_link = λ told. record { waiting = refl; otherwise = refl; links = refl; back = refl };
    })
accepts listener address fails before now (Err call_fault.Memory) at gives =
    subst (λ net. Accepts listener (listed_net_view before) (listed_net_view net) (Err call_fault.Memory)) (sym gives) (record {
      later = omega arith;
      failed = search rules;
      fresh = tt;
      limit = refl;
      listeners = record { given = refl; listeners = λ told. refl };
      still_told = λ told. told;
      asked = λ told. refl;
      gives = λ told. tt;
      no_link = λ told. record { waiting = refl; otherwise = refl; links = refl; back = refl };
    })

-- a net that counted its call gives a link, or none
pub counted_gives : (address : List ℕ) (call : NetCall) (fails : Bool) (failures : Failures) (before now : MemNetState) (result : Result MemLinkState CallFault) → fails ≡ fails_next before.failures → failures ≡ with_call before.failures
    → Gives address call fails (record before { failures = failures }) now result → GivesNext address call before now result
counted_gives address call fails failures before now result is counted gives =
    subst (λ (f : Failures). Gives address call (fails_next before.failures) (record before { failures = f }) now result) counted
    (subst (λ (b : Bool). Gives address call b (record before { failures = failures }) now result) is gives)

-- the address of a listener is one
pub same_address : (listeners : List (List ℕ)) (listener : ℕ) (address other : List ℕ) → slice_get listeners listener ≡ Some address → slice_get listeners listener ≡ Some other → address ≡ other
same_address listeners listener address other is other_is = cc
