use Rattle.std.proofs.Common.{◌+◌, List, [], ◌∷◌, ◌++◌, take, sym, subst, arith}
use Rattle.std.proofs.lemmas.List.{take_more, take_all}
use Rattle.vd_base.specs.declared.ids.HostId.{HostId}
use Rattle.vd_base.specs.declared.protocols.HostSet.{HostSet}
use Rattle.vd_noninter.specs.Hosts.{members}
use Rattle.vd_cmd_depends.specs.Telling.{AreFound, EachOne}
use Rattle.vd_cmd_depends.proofs.Group.{each_more}
use Rattle.vd_cmd_depends.proofs.depends_command.sets_of.Goals as goal

pub loop-host-preserved : goal.loop-host-preserved
loop-host-preserved c =
    let P = λ (h : HostId) (set : HostSet). AreFound c.args.program.now c.args.labels.now h (members set) in
    let found = c.in_ok-set.ensures {u = tt} in
    subst (λ (sets : List HostSet). EachOne P (take (c.loop-host.host-index + 1) c.args.group.now) sets) (sym (c.in_ok-push.ensures {u = tt}).ok)
    (subst (λ (group : List HostId). EachOne P group (c.loop-host.sets ++ c.in_ok-set.set ∷ [])) (sym (take_more c.args.group.now c.loop-host.host-index _ c.loop-host-test.true))
    (each_more P (take c.loop-host.host-index c.args.group.now) c.loop-host.sets _ c.in_ok-set.set c.loop-host.invariant (record { reached = found.reached; readable = found.readable; enough = found.enough })))

pub returns : goal.returns
returns c =
    subst (λ (group : List HostId). EachOne (λ h set. AreFound c.args.program.now c.args.labels.now h (members set)) group c.loop-host.sets) (take_all c.loop-host.host-index c.args.group.now (omega (arith, c.loop-host-test.false)))
    c.loop-host.invariant
