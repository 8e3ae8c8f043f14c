use Rattle.std.proofs.Common.{◌++◌, ◌∷◌, [], List, sym, ap, ◌∙◌, arith}
use Rattle.std.proofs.lemmas.List.FromFn.{map-range_with_len_more}
use Rattle.vd_base.specs.HostSets.{host}
use Rattle.vd_base.specs.declared.ids.HostId.{HostId}
use Rattle.vd_cmd_draw.proofs.reveals_command.all_hosts.Goals as goal

pub loop-number-preserved : goal.loop-number-preserved
loop-number-preserved c =
    let number = c.loop-number.number in
    (c.in_ok-push.ensures {u = tt}).ok
    ∙ ap (λ (l : List HostId). l ++ host number ∷ []) c.loop-number.invariant
    ∙ sym (map-range_with_len_more host 0 number number (omega arith))
