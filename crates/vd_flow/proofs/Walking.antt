-- The walk back from a state: what was walked leads from here to there.
use Rattle.std.proofs.Common.{◌≡◌, ◌≢◌, List, [], ◌∷◌, ◌++◌, reverse, refl, sym, ap, ◌∙◌, subst}
use Rattle.std.specs.Prelude.{All}
use Rattle.std.proofs.lemmas.List.{reverse-append}
use Rattle.std.proofs.lemmas.List.Elements.{All-nil, All-cons}
use Rattle.vd_constraints.specs.declared.system.Part.{Part}
use Rattle.vd_constraints.specs.declared.system.Lower.{Lower}
use Rattle.vd_constraints.specs.declared.system.Check.{Check}
use Rattle.vd_constraints.specs.Systems.{Constraints}
use Rattle.vd_flow.specs.declared.ways.Step.{Step}
use Rattle.vd_flow.specs.declared.ways.State.{State}
use Rattle.vd_flow.specs.declared.ways.Found.{Found}
use Rattle.vd_flow.specs.declared.ways.Ground.{Ground}
use Rattle.vd_flow.specs.declared.ways.Ground.TheVariants.{Constant, Kept}
use Rattle.vd_flow.specs.Ways.{IsOfRules, IsState, IsWay, Keeps, Leads, Nothing}
use Rattle.vd_flow.specs.Walks.{IsEnd, IsFound, IsGround, IsWalk}

-- the steps, from the last to the first, lead from this state to the end
pub record IsUnderWay (rules : List Lower) (end state : State) (steps : List Step) : Type 0 where
  pub among : All (IsOfRules rules) (reverse steps)
  pub leads : Leads (IsState state) (reverse steps) end.part end.group

pub begun : (rules : List Lower) (end : State) (steps : List Step) → steps ≡ [] → IsUnderWay rules end end steps
begun rules end steps none = subst (IsUnderWay rules end end) (sym none) (record { among = All-nil (IsOfRules rules); leads = record { part_is = refl; group_is = refl } })

-- ---- one step back

module _ (rules : List Lower) (end state : State) (found : Found) (is : IsFound rules state found) (steps now : List Step) (under_way : IsUnderWay rules end state steps) where
  abbrev step : Step
  step = record { number = found.number; rule = found.rule; group = state.group }

  module _ (pushed : now ≡ steps ++ step ∷ []) where
    in_front : reverse now ≡ step ∷ reverse steps
    in_front = ap (λ (list : List Step). reverse list) pushed ∙ reverse-append steps (step ∷ [])

    all_among : All (IsOfRules rules) (reverse now)
    all_among = subst (All (IsOfRules rules)) (sym in_front) (All-cons (IsOfRules rules) step (reverse steps) (record { low = is.low; is = is.is }) under_way.among)

    -- from the part of the rule, which is that of the state
    from_rule : Leads (IsState (record { part = found.rule.part; group = state.group })) (reverse steps) end.part end.group
    from_rule = subst (λ (part : Part). Leads (IsState (record { part = part; group = state.group })) (reverse steps) end.part end.group) (sym is.part_is) under_way.leads

    leads_from : (basis : Ground) → found.basis ≡ basis → Leads (IsGround basis) (reverse now) end.part end.group
    leads_from basis same =
        subst (λ (list : List Step). Leads (IsGround basis) list end.part end.group) (sym in_front)
        (subst (λ (g : Ground). Keeps (IsGround g) found.rule.bound state.group) same is.keeps, from_rule)

    pub one_back : (before : State) → found.basis ≡ Kept before → IsUnderWay rules end before now
    one_back before same = record { among = all_among; leads = leads_from (Kept before) same }

    pub arrived : (way : List Step) → way ≡ reverse now → found.basis ≡ Constant → IsWalk rules end way
    arrived way turned same = subst (IsWalk rules end) (sym turned) (record { among = all_among; leads = leads_from Constant same })

-- a basis that no state is
pub is_constant : (basis : Ground) → ((state : State) → basis ≢ Kept state) → basis ≡ Constant
is_constant Constant other = refl
is_constant (Kept state) other = absurd (other state refl)

-- ---- a walk from the end of a check

pub is_way : (s : Constraints) (check : Check) (rules : List Lower) (end : State) (steps : List Step) → rules ≡ s.lower → IsEnd check end → IsWalk rules end steps → IsWay s check steps
is_way s check rules end steps same is walk = record {
  rules = subst (λ (list : List Lower). All (IsOfRules list) steps) same walk.among;
  group = end.group;
  through = is.through;
  leads = subst (λ (part : Part). Leads Nothing steps part end.group) is.part_is walk.leads;
}
