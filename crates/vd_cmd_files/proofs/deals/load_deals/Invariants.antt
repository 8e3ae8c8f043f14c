use Rattle.std.proofs.Common.{◌≡◌, IsTrue, length}
use Rattle.vd_tape.specs.Text.{AreDealsOf}
use Rattle.vd_cmd_files.specs.Deals.{HoldDeals}
use Rattle.vd_cmd_files.proofs.Loops.{GoesOn}
use Rattle.vd_cmd_files.proofs.deals.load_deals.Given as goal

abbrev pub invariant-loop-number : goal.invariant-loop-number
invariant-loop-number g l = record {
  goes_on : GoesOn l.fn.prefix l.fn.names (g.F.Files.view l.initial.files) (g.F.Files.view l.files) l.number l.deals;
  deals : AreDealsOf (length l.fn.names) l.deals;
  count : length l.deals ≡ l.number;
  held : IsTrue (g.F.Files.view l.initial.files).told → HoldDeals l.fn.prefix (length l.fn.names) (g.F.Files.view l.initial.files).contents l.deals;
}
