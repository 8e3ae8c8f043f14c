use Rattle.std.proofs.Common.{◌++◌, sym, ap, ◌∙◌}
use Rattle.vd_execution.specs.World.{words_of}
use Rattle.vd_world.proofs.Cuts.{words_are}
use Rattle.vd_world.proofs.link.Link.words.Goals as goal

pub returns : goal.returns
returns c =
    let l = c.self.inside in
    c.deref.ensures.value ∙ sym (words_are 0 (l.ends.items ++ l.far_ends.items) l.words.items c.self.invariant) ∙ ap words_of c.self.view_is
