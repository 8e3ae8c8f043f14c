use Rattle.std.proofs.Common.{◌∙◌, sym, ap}
use Rattle.vd_space.specs.Validity.{protocols, is_valid}
use Rattle.vd_space_api.specs.Places.{places_in, places_of}
use Rattle.vd_space_api.proofs.Assigned.{valid_places}
use Rattle.vd_space_api.proofs.Costed.{whole_cost}
use Rattle.vd_space_api.proofs.space.Space.cost.Goals as goal

pub bound_of_prefix-requires-clause-valid : goal.bound_of_prefix-requires-clause-valid
bound_of_prefix-requires-clause-valid c =
    let listed = c.list.ensures.all ∙ ap protocols (sym c.problem.ensures.same) in
    let valid = valid_places c.args.self.now c.problem.ensures.well_formed.labelled.few_hosts c.args.list.now c.requires in
    ap (λ slice. is_valid c.problem.result.now (places_of slice c.args.list.now)) listed ∙ ap (λ problem. is_valid problem (places_in problem c.args.list.now)) c.problem.ensures.same ∙ valid

pub returns : goal.returns
returns c =
    whole_cost c.args.self.now c.args.list.now c.requires c.problem.result.now c.list.result.now c.bound_of_prefix.result c.problem.ensures.same (c.list.ensures.all ∙ ap protocols (sym c.problem.ensures.same)) c.problem.ensures.well_formed c.bound_of_prefix.ensures
