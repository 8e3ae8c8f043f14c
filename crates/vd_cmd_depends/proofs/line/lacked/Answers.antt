use Rattle.std.proofs.Common.{◌++◌, List, [], ◌∷◌, sym, ap, ◌∙◌, arith, ◌&&◌, not}
use Rattle.std.specs.Prelude.{if◌then◌else◌}
use Rattle.std.proofs.lemmas.List.FromFn.{filter_of_map_range_with_len_more}
use Rattle.vd_base.specs.HostSets.{has_host, host}
use Rattle.vd_base.specs.declared.ids.HostId.{HostId}
use Rattle.vd_cmd_depends.proofs.line.lacked.Goals as goal

pub loop-place-preserved : goal.loop-place-preserved
loop-place-preserved c =
    let place = c.loop-place.place in
    let test = λ (h : HostId). has_host c.args.all h && not (has_host c.args.direct h) in
    c.in_ok-push_lacked.ensures {u = tt}
    ∙ ap (λ (l : List HostId). l ++ (if test (host place) then host place ∷ [] else [])) c.loop-place.invariant
    ∙ sym (filter_of_map_range_with_len_more test host 0 place place (omega arith))
