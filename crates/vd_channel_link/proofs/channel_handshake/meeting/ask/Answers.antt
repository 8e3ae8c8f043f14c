use Rattle.std.proofs.Common.{rules}
use Rattle.std.proofs.lemmas.Result.{err_from_is_err_and}
use Rattle.vd_channel_crypto.specs.Keys.{direction}
use Rattle.vd_channel_link.specs.Meeting.{IsHeard}
use Rattle.vd_channel_link.proofs.Refusing.{of_proof}
use Rattle.vd_channel_link.proofs.Saying.{hello_alone, then_proof}
use Rattle.vd_channel_link.proofs.channel_handshake.meeting.ask.Goals as goal

pub returns-in_err-prove_both-clause-refused : goal.returns-in_err-prove_both-clause-refused
returns-in_err-prove_both-clause-refused g c t =
    let p = err_from_is_err_and c.from_residual-in_err-prove_both.result c.from_residual-in_err-prove_both.ensures.1 in
    let says = (c.in_ok-theirs.ensures {u = tt}).says in
    let fails = c.in_err-prove_both.ensures {u = tt} in
    let rest = (g.N.Link.Link.view c.exchange_hellos.new.link).coming in
    let heard : IsHeard c.args.mine.now c.in_ok-theirs.theirs (g.N.Link.Link.view c.args.link.now).coming rest =
    record { id_is = says.id_is; from_is = says.from_is; to_is = says.to_is; nonce = says.nonce; came = says.came (fails.proves.was_told t) } in
    rw (p.1, p.2)
    (of_proof c.args.mine.now c.in_ok-theirs.theirs c.args.key.now (g.N.Link.Link.view c.args.link.now).coming rest (direction c.keys_of.result.1) c.in_err-prove_both.field-0.0 c.keys_of.ensures.theirs heard (fails.refused t))

pub returns-in_err-theirs-clause-out : goal.returns-in_err-theirs-clause-out
returns-in_err-theirs-clause-out g c t =
    hello_alone c.args.mine.now c.args.key.now (g.N.Link.Link.view c.args.link.now) (g.N.Link.Link.view c.exchange_hellos.new.link) c.exchange_hellos.ensures.out t

pub returns-in_err-prove_both-clause-out : goal.returns-in_err-prove_both-clause-out
returns-in_err-prove_both-clause-out g c t =
    let says = (c.in_ok-theirs.ensures {u = tt}).says in
    then_proof c.args.mine.now c.in_ok-theirs.theirs c.args.key.now (direction c.keys_of.result.0) (g.N.Link.Link.view c.args.link.now) (g.N.Link.Link.view c.exchange_hellos.new.link)
    (g.N.Link.Link.view c.prove_both.new.link) c.keys_of.ensures.mine c.prove_both.ensures.proves.was_told (λ before. says.sent before (search rules)) c.prove_both.ensures.out t

pub returns-clause-out : goal.returns-clause-out
returns-clause-out g c t =
    let says = (c.in_ok-theirs.ensures {u = tt}).says in
    then_proof c.args.mine.now c.in_ok-theirs.theirs c.args.key.now (direction c.keys_of.result.0) (g.N.Link.Link.view c.args.link.now) (g.N.Link.Link.view c.exchange_hellos.new.link)
    (g.N.Link.Link.view c.prove_both.new.link) c.keys_of.ensures.mine c.prove_both.ensures.proves.was_told (λ before. says.sent before (search rules)) c.prove_both.ensures.out t
