use Rattle.std.proofs.Common.{◌≡◌, [], take, sym, ap, ap₂, ◌∙◌, subst, to_z, of_z, w64, arith}
use Rattle.std.specs.Prelude.{IsTrue}
use Rattle.std.specs.Int.{int_max, w128}
use Rattle.std.proofs.lemmas.Int.{ints, to_z-of_z}
use Rattle.vd_search_tree.specs.Trees.{Tree}
use Rattle.vd_space.specs.Validity.{is_valid}
use Rattle.vd_space.specs.Bounds.{high}
use Rattle.vd_space.specs.Network.{by_arcs, units}
use Rattle.vd_cost_network_prefix.specs.States.{as_states}
use Rattle.vd_cost_network_prefix.proofs.Moving.{parts_small}
use Rattle.vd_cost_network_prefix.proofs.Steps.{all_told}
use Rattle.vd_cost_network_prefix.proofs.Summing.{parts_are}
use Rattle.vd_cost_network_prefix.proofs.path.NetworkPathPrefixes.bound.Goals as goal

pub bound-requires : goal.bound-requires
bound-requires c =
    let p = c.args.self.now in
    subst IsTrue (sym (ap (λ (tree : Tree). tree.valid (take p.path.depth p.path.room)) p.same_tree ∙ ap (is_valid p.problem.now) p.same_prefix)) c.requires

pub returns : goal.returns
returns c =
    let p = c.args.self.now in
    let problem = p.problem.now in
    let prefix = take p.depth p.room in
    let plain : to_z w64 (of_z w64 c.bound.result) ≡ high problem [] prefix =
    to_z-of_z w64 c.bound.result (record { sfits = c.bound.type_inv }) ∙ c.bound.ensures ∙ ap (λ (tree : Tree). tree.bound (take p.path.depth p.path.room)) p.same_tree ∙ ap (high problem []) p.same_prefix in
    let small = parts_small p.by_arcs.now (as_states p.known.states) p.small in
    let small_low = small.low in
    let small_high = small.high in
    let summed = p.summed in
    let whole : p.known.parts ≡ by_arcs problem p.by_arcs.now.shifts prefix =
    p.summed ∙ parts_are problem p.by_arcs.now prefix p.known.states p.joinable p.kept.listed (all_told problem p.room p.known.states p.depth p.known.told p.kept c.requires) in
    let parts : to_z w128 (of_z w128 p.known.parts) ≡ by_arcs problem p.by_arcs.now.shifts prefix = omega (arith, ints, whole, summed, small_low, small_high) in
    let with_arcs : to_z w64 (of_z w64 c.whole_units.result) ≡ units (by_arcs problem p.by_arcs.now.shifts prefix) =
    to_z-of_z w64 c.whole_units.result (record { sfits = c.whole_units.type_inv }) ∙ c.whole_units.ensures.units ∙ ap units parts in
    to_z-of_z w64 c.max.result (record { sfits = c.max.type_inv }) ∙ c.max.ensures.value ∙ ap₂ int_max plain with_arcs
