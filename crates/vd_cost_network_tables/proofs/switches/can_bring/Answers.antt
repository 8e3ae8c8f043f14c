use Rattle.std.proofs.Common.{◌<◌, [], Bool, List, length, get_or, sym, ap, ap₂, ◌∙◌, subst}
use Rattle.std.specs.List.{list_any, range_with_len}
use Rattle.vd_base.specs.declared.protocols.Proto.{Proto}
use Rattle.vd_cost_network_tables.specs.Tables.{is_kept}
use Rattle.vd_cost_network_tables.proofs.Bringing.{few_tests, may_bring_is}
use Rattle.vd_cost_network_tables.proofs.switches.can_bring.Goals as goal

pub is_any_kept-requires : goal.is_any_kept-requires
is_any_kept-requires c = record {
  few = subst (λ (tests : List Bool). length tests < 4294967296) (sym (c.tests_at.ensures ∙ ap (λ (rows : List (List Bool)). get_or rows c.args.slot.0 []) c.requires.candidates)) (few_tests c.args.problem.now c.args.slot.0 c.requires.list.labelled);
}

pub returns : goal.returns
returns c =
    c.is_any_kept.ensures
    ∙ ap₂ (λ (list : List Proto) (tests : List Bool). list_any (is_kept list tests c.args.host) (range_with_len 0 (length tests))) c.requires.list.all (c.tests_at.ensures ∙ ap (λ (rows : List (List Bool)). get_or rows c.args.slot.0 []) c.requires.candidates)
    ∙ may_bring_is c.args.problem.now c.args.host c.args.slot
