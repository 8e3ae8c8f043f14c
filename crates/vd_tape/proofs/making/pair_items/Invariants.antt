use Rattle.std.proofs.Common.{◌≡◌, ◌*◌, min, max}
use Rattle.vd_tape.specs.Made.{first_of, shared_stream, pair_item}
use Rattle.vd_tape.specs.Generator.{IsAt}
use Rattle.vd_tape.proofs.making.pair_items.Given as goal

abbrev pub invariant-loop : goal.invariant-loop
invariant-loop l = record {
  items : l.items ≡ first_of l.counter (pair_item l.key l.me l.peer);
  stands : IsAt l.generator l.key (shared_stream (min l.me l.peer) (max l.me l.peer) 2) (3 * l.counter);
}
