-- The words of the worked programs.
use Rattle.std.proofs.Common.{rules}
use Rattle.vd_core.specs.declared.normal.Stmt.TheFolds.{the_lemmas}
use Rattle.vd_noninter_protocols.specs.Example.{WorkedWords}

pub worked : WorkedWords
unfolding lib.Count.ones
worked = record {
  opened = search (rules, the_lemmas);
  opened_again = search (rules, the_lemmas);
  opened_other = search (rules, the_lemmas);
  guard = search (rules, the_lemmas);
  guard_other = search (rules, the_lemmas);
}
