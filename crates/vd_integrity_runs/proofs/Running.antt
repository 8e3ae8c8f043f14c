-- A run of a host over its links is one on words that it may be given.
use Rattle.std.proofs.Common.{◌≡◌, ℕ, zero, suc, ◌+◌, List, refl, sym, subst, arith}
use Rattle.vd_execution.specs.Step.{Cursors, Need, Nothing, Item, Packet, Unequal, Ended, State, need, next}
use Rattle.vd_machine.specs.declared.lists.Lists.{Lists}
use Rattle.vd_machine.specs.declared.want.Want.TheVariants as want
use Rattle.vd_machine.specs.Machines.{words_for}
use Rattle.vd_machine.specs.Wants.{want_of}
use Rattle.vd_engine.specs.Events.{IsHeard, AtStart, OneMore}
use Rattle.vd_engine.specs.Hosts.{next_with}
use Rattle.vd_integrity_runs.specs.Alone.{Goes, MayBe, StepsHear}

-- what a host hears may be what it needs
heard_may_be : (lists : Lists) (cursors : Cursors) (n : Need) (heard : List ℕ) → IsHeard (want_of lists cursors n) heard → MayBe n (words_for lists cursors heard n)
heard_may_be lists cursors Nothing heard is = refl
heard_may_be lists cursors (Item source) heard is = tt
heard_may_be lists cursors (Packet peer count) heard is = is.0
heard_may_be lists cursors (Unequal left right) heard is = is
heard_may_be lists cursors Ended heard is = is

-- one step more
goes_on : (steps : ℕ) (before now : State) (words : List ℕ) → Goes steps before now → MayBe (need now) words → Goes (suc steps) before (next now words)
goes_on zero before now words goes may = subst (λ (s : State). Goes 1 s (next now words)) (sym goes) (words, (may, refl))
goes_on (suc steps) before now words goes may = (goes.0, (goes.1.0, goes_on steps (next before goes.0) now words goes.1.1 may))

pub steps_hear : StepsHear
steps_hear lists start _ _ _ AtStart = refl
steps_hear lists start _ _ _ (OneMore steps events now heard run is) =
    let more : suc steps ≡ steps + 1 = omega arith in
    subst (λ n. Goes n start (next_with lists now heard)) more
    (goes_on steps start now (words_for lists now.cursors heard (need now)) (steps_hear lists start now steps events run) (heard_may_be lists now.cursors (need now) heard is))
