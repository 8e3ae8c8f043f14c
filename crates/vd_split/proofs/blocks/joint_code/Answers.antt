use Rattle.std.proofs.Common.{◌≡◌, length, ap, ◌∙◌}
use Rattle.std.proofs.lemmas.List.{length-replicate}
use Rattle.vd_duet.specs.Builder.{Builder}
use Rattle.vd_split.specs.Places.{program_plan}
use Rattle.vd_split.proofs.Flat.{plan_is_flat}
use Rattle.vd_split.proofs.Onto.{from_start}
use Rattle.vd_split.proofs.WellMade.{program_can}
use Rattle.vd_split.proofs.blocks.joint_code.Goals as goal

pub block-requires : goal.block-requires
block-requires g c =
    let o = g.P.Protocols.offer c.args.protocols.now in
    let start = c.in_ok-to.ensures {u = tt} in
    let known : length c.in_ok-to.to.next ≡ o.calls.hosts = ap (λ (b : Builder). length b.next) start.exact ∙ length-replicate c.hosts.result 0 ∙ c.hosts.ensures in
    rw (c.new-held.ensures, c.as_slice.ensures, c.form.ensures.same)
    (program_can o c.args.protos.now c.args.program.now c.form.ensures.well_made c.requires.hosts c.requires.served c.requires.stands c.in_ok-to.to.next known start.room)

pub returns : goal.returns
returns g c =
    let s = (g.P.Protocols.offer c.args.protocols.now).calls in
    c.into_lines.ensures
    ∙ from_start s c.args.protos.now c.args.program.now.body c.block.new.to c.block.new.held
    (rw (c.as_slice.ensures, c.form.ensures.same, c.new-held.ensures, (c.in_ok-to.ensures {u = tt}).exact, c.hosts.ensures) at (c.in_ok-block.ensures {u = tt}).exact)
    ∙ plan_is_flat (program_plan s c.args.protos.now c.args.program.now)
