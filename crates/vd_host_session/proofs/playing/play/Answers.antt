use Rattle.std.proofs.Common.{length}
use Rattle.std.proofs.lemmas.Result.{err_from_is_err_and}
use Rattle.vd_machine.specs.Kept.{state_of}
use Rattle.vd_host_session.proofs.Announced.{peers_stand}
use Rattle.vd_host_session.proofs.Courses.{plays_driven, plays_unannounced, plays_unheard, plays_unmet}
use Rattle.vd_host_session.proofs.Gathering.{met_sound}
use Rattle.vd_host_session.proofs.playing.play.Goals as goal

pub returns-in_err-first : goal.returns-in_err-first
returns-in_err-first g c =
    let p = err_from_is_err_and c.from_residual.result c.from_residual.ensures.1 in
    rw (p.1, p.2) (plays_unheard c.args.machine c.args.task.now _ _ _ _ (c.in_err-first.ensures {u = tt}))

pub returns-in-Err : goal.returns-in-Err
returns-in-Err g c = plays_unannounced c.args.machine c.args.task.now _ _ _ _ c.in_ok-first.first _ (c.in_ok-first.ensures {u = tt}) (c.in-Err.ensures {u = tt})

pub drive_and_tell-played-requires-clause-packets : goal.drive_and_tell-played-requires-clause-packets
drive_and_tell-played-requires-clause-packets g c =
    peers_stand g.N.Link.Link.view c.args.task.now c.in_ok-first.first (length c.args.task.now.addresses) _ _ _ (state_of c.args.machine).pending (c.in-Ok-meet_all.ensures {u = tt}) c.requires.packets

pub drive_and_tell-played-requires-clause-sound : goal.drive_and_tell-played-requires-clause-sound
drive_and_tell-played-requires-clause-sound g c = met_sound c.args.task.now c.in_ok-first.first (length c.args.task.now.addresses) _ _ _ (c.in-Ok-meet_all.ensures {u = tt})

pub returns-in-Ok-meet_all : goal.returns-in-Ok-meet_all
returns-in-Ok-meet_all g c =
    plays_driven c.args.machine c.args.task.now _ _ _ _ _ _ _ c.in_ok-first.first _ _ c.drive_and_tell-played.result (c.in_ok-first.ensures {u = tt}) (c.in-Ok.ensures {u = tt}) (c.in-Ok-meet_all.ensures {u = tt}) c.drive_and_tell-played.ensures c.hand_back.ensures

pub returns-in-Err-meet_all : goal.returns-in-Err-meet_all
returns-in-Err-meet_all g c =
    let unmet = c.in-Err-meet_all.ensures {u = tt} in
    plays_unmet c.args.machine c.args.task.now _ _ unmet.net _ _ _ _ _ c.in_ok-first.first unmet.count _ (c.in_ok-first.ensures {u = tt}) (c.in-Ok.ensures {u = tt}) unmet.met unmet.there unmet.fails c.hand_back-in-Err-meet_all.ensures c.hang_up.ensures
