use Rattle.std.proofs.Common.{refl, arith, ◌+◌}
use Rattle.vd_channel_crypto.specs.Keys.{direction}
use Rattle.vd_channel_link.specs.Opened.{plain_of}
use Rattle.vd_channel_link.proofs.Next.{nothing_comes, still_comes}
use Rattle.vd_channel_link.proofs.Refused.{cut_of}
use Rattle.vd_channel_link.proofs.session.Session.take_next.Goals as goal

pub returns-else-is_empty-clause-takes : goal.returns-else-is_empty-clause-takes
returns-else-is_empty-clause-takes g c =
    let session = c.args.self.now in
    let t = (c.in-Ok.ensures {u = tt}).takes in
    record {
      later = omega arith;
      failed = tt;
      ends = c.requires.goes_on;
      goes_on = tt;
      still_told = t.still_told;
      sent = refl {a = c.args.self.now.sent.bytes};
      coming = λ told. still_comes (direction session.theirs) session.next_in session.ended session.closed
          (plain_of (direction session.theirs) session.next_in (g.L.Link.view c.args.before.now.value).coming)
          (plain_of (direction session.theirs) (session.next_in + 1) (g.L.Link.view c.of.result.value).coming)
          session.piece (g.L.Link.view c.args.link.now).coming (g.L.Link.view c.take_record.new.link).coming c.in-Ok.piece
          c.requires.goes_on c.requires.open c.requires.none_left (t.came told);
      none = λ told e. absurd cc;
    }

pub returns-in-Err-End-clause-takes : goal.returns-in-Err-End-clause-takes
returns-in-Err-End-clause-takes g c =
    let session = c.args.self.now in
    let t = (c.in-Err-End.ensures {u = tt}).takes in
    record {
      later = omega arith;
      failed = tt;
      ends = refl;
      goes_on = tt;
      still_told = t.still_told;
      sent = refl {a = c.args.self.now.sent.bytes};
      coming = λ told. nothing_comes (direction session.theirs) session.next_in session.ended session.closed
          (plain_of (direction session.theirs) session.next_in (g.L.Link.view c.args.before.now.value).coming)
          session.piece (g.L.Link.view c.args.link.now).coming
          c.requires.goes_on c.requires.open c.requires.none_left (cut_of (direction session.theirs) session.next_in (g.L.Link.view c.args.link.now).coming _ c.in-Err-End.field-0-is ((c.in-Err-End.ensures {u = tt}).refused told));
      none = λ told e. refl;
    }
