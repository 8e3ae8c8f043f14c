use Rattle.std.proofs.Common.{refl, arith}
use Rattle.vd_host_session.specs.Histories.{NoneBack}
use Rattle.vd_host_session.proofs.Announced.{nothing_back, others_stay, taken_back}
use Rattle.vd_host_session.proofs.returning.hand_back.Goals as goal
use Rattle.vd_host_session.proofs.returning.hand_back.Goals.{in-None, in-Some}

pub loop-number-init : goal.loop-number-init
loop-number-init g c = record { back = NoneBack; rest = λ other least. refl }

pub loop-number-preserved : goal.loop-number-preserved
loop-number-preserved g c =
    let i = c.loop-number.invariant in
    record {
      back = elim c.match-take.branch [
        | in-Some w ↦ rw w.net-is (taken_back g.N.Link.Link.view c.args.links c.loop-number.links w.in-Some.session w.link.result _ _ _ _ c.loop-number.number c.take.result i.back (i.rest c.loop-number.number (omega arith)) c.take.ensures.taken w.in-Some.is w.link.ensures w.close.ensures.link w.hang_up.ensures)
        | in-None w ↦ rw w.net-is (nothing_back g.N.Link.Link.view c.args.links c.loop-number.links _ _ c.loop-number.number c.take.result i.back (i.rest c.loop-number.number (omega arith)) c.take.ensures.taken w.in-None.is)
      ];
      rest = others_stay c.args.links c.loop-number.links c.take.new.self c.loop-number.number i.rest c.take.ensures.others;
    }
