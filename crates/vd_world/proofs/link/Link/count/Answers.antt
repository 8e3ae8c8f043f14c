use Rattle.std.proofs.Common.{◌≡◌, ◌+◌, ◌++◌, ◌∙◌, length, length-append, ap, sym, arith}
use Rattle.vd_world.proofs.Packets.{length_cut}
use Rattle.vd_world.proofs.link.Link.count.Goals as goal

pub returns : goal.returns
returns c =
    let l = c.self.inside in
    let both = length-append l.ends.items l.far_ends.items in
    let many : c.len.result + c.len-2.result ≡ length (l.ends.items ++ l.far_ends.items) =
    omega (arith, c.len.ensures, c.len-2.ensures, l.ends.ok.0, l.far_ends.ok.0, both) in
    many ∙ sym (length_cut 0 (l.ends.items ++ l.far_ends.items) l.words.items) ∙ ap length c.self.view_is
