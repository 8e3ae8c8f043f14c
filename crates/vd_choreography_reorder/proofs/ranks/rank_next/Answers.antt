use Rattle.std.specs.Prelude.{slice_index}
use Rattle.vd_choreography_reorder.specs.Testing.{opened_at}
use Rattle.vd_choreography_reorder.proofs.Tables.{then_behind}
use Rattle.vd_choreography_reorder.proofs.ranks.rank_next.Goals as goal

pub returns-clause-behind : goal.returns-clause-behind
returns-clause-behind c =
    then_behind (opened_at c.args.opened.now) (slice_index c.args.ranks.now) (slice_index c.rank_of.new.ranks) c.args.line.now c.rank_of.result c.rank_of.ensures.rank
    c.rank_of.ensures.behind
