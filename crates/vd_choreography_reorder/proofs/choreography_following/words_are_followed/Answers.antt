use Rattle.vd_choreography_reorder.proofs.Following.{constants_known, copies_followed, acts_renamed, messages_renamed, arrays_renamed}
use Rattle.vd_choreography_reorder.proofs.choreography_following.words_are_followed.Goals as goal

pub returns-clause-constants : goal.returns-clause-constants
returns-clause-constants c = constants_known

pub returns-clause-copies : goal.returns-clause-copies
returns-clause-copies c = copies_followed

pub returns-clause-acts : goal.returns-clause-acts
returns-clause-acts c = acts_renamed

pub returns-clause-messages : goal.returns-clause-messages
returns-clause-messages c = messages_renamed

pub returns-clause-arrays : goal.returns-clause-arrays
returns-clause-arrays c = arrays_renamed
