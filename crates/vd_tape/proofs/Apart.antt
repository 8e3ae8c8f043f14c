-- Streams of different kinds and hosts differ.
use Rattle.std.proofs.Common.{◌≡◌, ℕ, ◌<◌, arith}
use Rattle.vd_base.specs.Limits.{most_hosts}
use Rattle.vd_tape.specs.Made.{shared_stream, IsShared, StreamsAreApart}

pub apart : StreamsAreApart
apart = record {
  shared = λ a b k c d l s t e.
      let s0 = s.order in let s1 = s.known in let s2 = s.kinds in let t0 = t.order in let t1 = t.known in let t2 = t.kinds in
      (omega (arith, s0, s1, s2, t0, t1, t2, e), omega (arith, s0, s1, s2, t0, t1, t2, e), omega (arith, s0, s1, s2, t0, t1, t2, e));
  own = λ a b k me s low e.
      let s0 = s.order in let s1 = s.known in let s2 = s.kinds in
      omega (arith, s0, s1, s2, low, e);
}
