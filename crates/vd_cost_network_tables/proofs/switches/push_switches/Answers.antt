use Rattle.std.proofs.Common.{◌≡◌, ℕ, ◌+◌, [], ◌∷◌, ◌++◌, List, length, map, sym, ap, ap₂, ◌∙◌, arith, append_assoc}
use Rattle.std.specs.List.{range_with_len}
use Rattle.std.proofs.lemmas.List.FromFn.{map-range_with_len_more}
use Rattle.vd_base.specs.HostSets.{host}
use Rattle.vd_cost_network_prefix.specs.declared.made.SwitchTable.{SwitchTable}
use Rattle.vd_cost_network_tables.specs.Tables.{switch_table}
use Rattle.vd_cost_network_tables.proofs.Costs.{map_map}
use Rattle.vd_cost_network_tables.proofs.Bringing.{members_same}
use Rattle.vd_cost_network_tables.proofs.switches.push_switches.Goals as goal

pub overflow_cast-hosts : goal.overflow_cast-hosts
overflow_cast-hosts c = let few = c.requires.list.labelled.few_hosts in let same = ap length c.as_slice.ensures in omega (arith, few, same)

pub loop-at-preserved : goal.loop-at-preserved
loop-at-preserved c =
    let problem = c.args.problem.now in
    let guard = c.args.guard.now in
    let number = c.args.number in
    let made : ℕ → SwitchTable = λ k. switch_table problem number guard (host k) in
    let at = c.loop-at.at in
    let item : SwitchTable = record { guard = number; host = host at; members = c.in_ok-members_of.field-0 } in
    let same : item ≡ made at = members_same problem number guard (host at) c.in_ok-members_of.field-0 c.as_slice-in-loop-at.result.now c.as_slice-in-loop-at.ensures c.in_ok-members_of.ensures in
    c.in_ok-push.ensures.ok
    ∙ ap₂ (λ (front : List SwitchTable) (last : SwitchTable). front ++ last ∷ []) c.loop-at.invariant same
    ∙ append_assoc c.args.switches.now (map made (range_with_len 0 at)) (made at ∷ [])
    ∙ ap (λ more. c.args.switches.now ++ more) (sym (map-range_with_len_more made 0 at at (omega arith)))

pub returns : goal.returns
returns c =
    let problem = c.args.problem.now in
    let guard = c.args.guard.now in
    let number = c.args.number in
    let made : ℕ → SwitchTable = λ k. switch_table problem number guard (host k) in
    let same = ap length c.as_slice.ensures in
    let all : c.loop-at.at ≡ length problem.hosts = omega (arith, same) in
    c.loop-at.invariant
    ∙ ap (λ n. c.args.switches.now ++ map made (range_with_len 0 n)) all
    ∙ ap (λ more. c.args.switches.now ++ more) (sym (map_map (switch_table problem number guard) host (range_with_len 0 (length problem.hosts))))
