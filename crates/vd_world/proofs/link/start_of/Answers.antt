use Rattle.std.proofs.Common.{◌∙◌, ◌++◌, ◌-◌, ap, sym}
use Rattle.std.specs.Prelude.{unwrap_or}
use Rattle.std.proofs.lemmas.Option.{unwrap_or-slice_get}
use Rattle.vd_world.proofs.Cuts.{begin_after}
use Rattle.vd_world.proofs.link.start_of.Goals as goal

pub returns : goal.returns
returns c =
    let ends = c.args.near.now ++ c.args.far.now in
    c.unwrap_or.ensures ∙ ap (λ o. unwrap_or o 0) c.end_of.ensures ∙ unwrap_or-slice_get ends (c.args.place - 1) 0 ∙ sym (begin_after ends c.args.place c.if-place-eq0.false)
