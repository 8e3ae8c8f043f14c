use Rattle.vd_tape.proofs.DealKeystreamApart.{words_of_blocks, drawn_once, deals_drawn, numbers_drawn}
use Rattle.vd_tape.proofs.Keys.{places_apart}
use Rattle.vd_tape.proofs.deal_keystream.what_is_dealt_is_drawn_once.Goals as goal

pub returns-clause-words : goal.returns-clause-words
returns-clause-words c = words_of_blocks

pub returns-clause-places : goal.returns-clause-places
returns-clause-places c = places_apart

pub returns-clause-dealt : goal.returns-clause-dealt
returns-clause-dealt c = deals_drawn

pub returns-clause-once : goal.returns-clause-once
returns-clause-once c = drawn_once

pub returns-clause-numbers : goal.returns-clause-numbers
returns-clause-numbers c = numbers_drawn
