use Rattle.std.proofs.Common.{◌≡◌, ◌≤◌, length, take}
use Rattle.std.specs.Prelude.{vec_capacity}
use Rattle.vd_world.proofs.world.refill.Given as goal

abbrev pub invariant-loop-word : goal.invariant-loop-word
invariant-loop-word l = record {
  so_far : l.list.items ≡ take l.word-index l.words;
  room : length l.words ≤ vec_capacity l.list;
  capacity : vec_capacity l.initial.list ≤ vec_capacity l.list;
}
