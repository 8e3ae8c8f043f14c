use Rattle.std.proofs.Common.{ap, ◌∙◌}
use Rattle.std.specs.Prelude.{slice_index}
use Rattle.vd_choreography_reorder.proofs.Tables.{none_more}
use Rattle.vd_choreography_reorder.proofs.ranks.make_room.Goals as goal

pub places-preserved : goal.places-preserved
places-preserved c = ap slice_index c.in_ok-push.ensures.ok ∙ none_more c.places.ranks ∙ c.places.invariant
