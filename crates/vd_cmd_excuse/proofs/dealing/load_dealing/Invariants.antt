use Rattle.std.proofs.Common.{◌≡◌, IsTrue, length}
use Rattle.vd_tape.specs.Text.{AreDealsOf}
use Rattle.vd_cmd_excuse.specs.Dealing.{HoldDealing}
use Rattle.vd_cmd_excuse.proofs.AllDeals.{GoesOn}
use Rattle.vd_cmd_excuse.proofs.dealing.load_dealing.Given as goal

abbrev pub invariant-loop-number : goal.invariant-loop-number
invariant-loop-number g l = record {
  goes_on : GoesOn l.fn.prefix l.fn.names (g.F.Files.view l.initial.files) (g.F.Files.view l.files) l.number l.dealing;
  deals : AreDealsOf (length l.fn.names) l.dealing.deals;
  count : length l.dealing.deals ≡ l.number;
  both : length l.dealing.secrets ≡ l.number;
  held : IsTrue (g.F.Files.view l.initial.files).told → HoldDealing l.fn.prefix (length l.fn.names) (g.F.Files.view l.initial.files).contents l.dealing;
}
