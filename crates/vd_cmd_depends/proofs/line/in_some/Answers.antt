use Rattle.std.proofs.Common.{◌++◌, List, [], ◌∷◌, sym, ap, ◌∙◌, arith}
use Rattle.std.specs.Prelude.{if◌then◌else◌}
use Rattle.std.proofs.lemmas.List.FromFn.{filter_of_map_range_with_len_more}
use Rattle.vd_base.specs.HostSets.{host}
use Rattle.vd_base.specs.declared.ids.HostId.{HostId}
use Rattle.vd_cmd_depends.specs.Depending.{in_some}
use Rattle.vd_cmd_depends.proofs.line.in_some.Goals as goal

pub loop-place-preserved : goal.loop-place-preserved
loop-place-preserved c =
    let place = c.loop-place.place in
    c.in_ok-push_in_some.ensures {u = tt}
    ∙ ap (λ (l : List HostId). l ++ (if in_some c.args.sets.now (host place) then host place ∷ [] else [])) c.loop-place.invariant
    ∙ sym (filter_of_map_range_with_len_more (in_some c.args.sets.now) host 0 place place (omega arith))
