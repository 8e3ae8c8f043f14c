-- Each state has words of its own.
use Rattle.std.proofs.Common.{◌≡◌, ℕ, if◌then◌else◌, List, take, codes, refl, sym, ap, ◌∙◌}
use Rattle.std.specs.Str.{bytes_eq}
use Rattle.vd_base.specs.declared.host_state.HostState.{HostState}
use Rattle.vd_base.specs.declared.host_state.HostState.TheVariants.{Ended, Ready, Waiting, ShortInput, ShortDeal}
use Rattle.vd_report.specs.ReportLines.{state_text}
use Rattle.vd_report.specs.StatesTold.{IsSaidOf, StatesAreTold}

-- the state that the words tell, without the name of a host
abbrev told : List ℕ → HostState
told text =
    if bytes_eq (take 3 text) (codes "end") then Ended
    else if bytes_eq (take 3 text) (codes "rea") then Ready
    else if bytes_eq (take 7 text) (codes "short i") then ShortInput
    else if bytes_eq (take 7 text) (codes "short d") then ShortDeal
    else Waiting (record { 0 = 0 })

abbrev without : HostState → HostState
without Ended = Ended
without Ready = Ready
without (Waiting peer) = Waiting (record { 0 = 0 })
without ShortInput = ShortInput
without ShortDeal = ShortDeal

found : (hosts : List (List ℕ)) (s : HostState) → told (state_text hosts s) ≡ without s
found hosts Ended = refl
found hosts Ready = refl
found hosts (Waiting peer) = refl
found hosts ShortInput = refl
found hosts ShortDeal = refl

ended : (s : HostState) → without s ≡ Ended → s ≡ Ended
ended Ended same = refl
ended Ready same = absurd cc
ended (Waiting peer) same = absurd cc
ended ShortInput same = absurd cc
ended ShortDeal same = absurd cc

ready : (s : HostState) → without s ≡ Ready → s ≡ Ready
ready Ended same = absurd cc
ready Ready same = refl
ready (Waiting peer) same = absurd cc
ready ShortInput same = absurd cc
ready ShortDeal same = absurd cc

short_input : (s : HostState) → without s ≡ ShortInput → s ≡ ShortInput
short_input Ended same = absurd cc
short_input Ready same = absurd cc
short_input (Waiting peer) same = absurd cc
short_input ShortInput same = refl
short_input ShortDeal same = absurd cc

short_deal : (s : HostState) → without s ≡ ShortDeal → s ≡ ShortDeal
short_deal Ended same = absurd cc
short_deal Ready same = absurd cc
short_deal (Waiting peer) same = absurd cc
short_deal ShortInput same = absurd cc
short_deal ShortDeal same = refl

pub states_told : StatesAreTold
states_told = record {
  ended = λ hosts s. (λ is. ap (state_text hosts) is, λ same. ended s (sym (found hosts s) ∙ ap told same));
  ready = λ hosts s. (λ is. ap (state_text hosts) is, λ same. ready s (sym (found hosts s) ∙ ap told same));
  short_input = λ hosts s. (λ is. ap (state_text hosts) is, λ same. short_input s (sym (found hosts s) ∙ ap told same));
  short_deal = λ hosts s. (λ is. ap (state_text hosts) is, λ same. short_deal s (sym (found hosts s) ∙ ap told same));
}
