use Rattle.std.proofs.Common.{sym}
use Rattle.vd_space_prefix.proofs.Paths.{not_before, not_allowed, allowed}
use Rattle.vd_space_prefix.proofs.path.next_sums.Goals as goal

pub returns-then-valid-depth : goal.returns-then-valid-depth
returns-then-valid-depth c = not_before c.args.problem.now c.args.tables.now c.args.room.now c.args.sums.now c.args.depth c.args.valid c.requires.path c.requires.room c.if-valid-depth.true

pub returns-then-not-can_grow : goal.returns-then-not-can_grow
returns-then-not-can_grow c = not_allowed c.args.problem.now c.args.tables.now c.args.room.now c.args.sums.now c.args.depth c.args.valid c.requires.path c.requires.room (sym c.if-not-can_grow.ensures)

pub returns : goal.returns
returns c = record {
  valid = allowed c.args.problem.now c.args.tables.now c.args.room.now c.args.sums.now c.args.depth c.args.valid c.requires.path c.requires.room c.if-valid-depth.false (sym c.if-not-can_grow.ensures);
  sums_of = c.grown.ensures;
}
