use Rattle.std.proofs.Common.{◌≡◌, ◌∙◌, ◌++◌, Err, ℕ, List, [], IsTrue, length, ap, sym, rules}
use Rattle.std.proofs.Math.Seq.{take-length}
use Rattle.std.proofs.lemmas.Result.{err_from_is_err_and}
use Rattle.vd_outside.specs.Causes.{Rose}
use Rattle.vd_channel_crypto.specs.Hellos.{hello_bytes}
use Rattle.vd_channel_crypto.specs.Keys.{direction}
use Rattle.vd_channel_crypto.specs.Records.{sealed}
use Rattle.vd_channel_link.specs.Meeting.{SendsNoMore}
use Rattle.vd_channel_link.proofs.Answering.{failed_behind_hello, hears, hello_out, nothing_out, proof_out, rose_some, said_no_hello}
use Rattle.vd_channel_link.proofs.channel_net.answered.reply.Goals as goal

pub returns-in_err-heard-clause-refused : goal.returns-in_err-heard-clause-refused
returns-in_err-heard-clause-refused g c =
    let p = err_from_is_err_and c.from_residual.result c.from_residual.ensures.1 in
    let fails = c.in_err-heard.ensures {u = tt} in
    rw (p.1, p.2)
    (said_no_hello c.args.seal.now c.args.peer c.me.result c.id.result c.args.key.now (g.N.Link.Link.view c.args.link.now) (g.N.Link.Link.view c.take_hello.new.link) c.in_err-heard.field-0.0
    c.id.ensures c.me.ensures c.requires.key (λ is_peer. fails.takes.failed (ap Err is_peer)) fails.refused fails.takes.sent)

pub returns-in_err-heard-clause-out : goal.returns-in_err-heard-clause-out
returns-in_err-heard-clause-out g c unsent =
    nothing_out c.args.seal.now c.args.peer c.args.key.now (g.N.Link.Link.view c.args.link.now) (g.N.Link.Link.view c.take_hello.new.link) c.requires.key c.take_hello.ensures.takes.sent unsent

pub returns-then-is_err-clause-refused : goal.returns-then-is_err-clause-refused
returns-then-is_err-clause-refused g c =
    let mine = c.next_hello-mine.ensures in
    let heard = g.N.Link.Link.view c.take_hello.new.link in
    let left = g.N.Link.Link.view c.say_hello.new.link in
    let rose : Rose heard.faults left.faults = search rules in
    failed_behind_hello c.args.seal.now c.args.peer c.args.key.now c.next_hello-mine.result c.in_ok-heard.heard (g.N.Link.Link.view c.args.link.now) heard left c.requires.key
    mine.id mine.from mine.to (rose_some heard.faults left.faults rose)
    (λ t. hears c.args.seal.now c.args.peer c.me.result c.id.result c.next_hello-mine.result c.in_ok-heard.heard (g.N.Link.Link.view c.args.link.now) heard
    c.id.ensures c.me.ensures mine.id mine.from mine.to (c.in_ok-heard.ensures {u = tt}).takes (c.say_hello.ensures.was_told t))

pub returns-then-is_err-clause-out : goal.returns-then-is_err-clause-out
returns-then-is_err-clause-out g c unsent =
    let mine = c.next_hello-mine.ensures in
    let heard = g.N.Link.Link.view c.take_hello.new.link in
    let left = g.N.Link.Link.view c.say_hello.new.link in
    let out : SendsNoMore (hello_bytes c.next_hello-mine.result) heard left = search rules in
    hello_out c.args.seal.now c.args.peer c.args.key.now c.next_hello-mine.result (g.N.Link.Link.view c.args.link.now) heard left c.requires.key mine.id mine.from mine.to mine.nonce
    c.take_hello.ensures.takes.sent c.say_hello.ensures.was_told out unsent

pub returns-then-is_err-2-clause-refused : goal.returns-then-is_err-2-clause-refused
returns-then-is_err-2-clause-refused g c =
    let mine = c.next_hello-mine.ensures in
    let heard = g.N.Link.Link.view c.take_hello.new.link in
    let mid = g.N.Link.Link.view c.say_hello.new.link in
    let left = g.N.Link.Link.view c.say_proof.new.link in
    let rose : Rose mid.faults left.faults = search rules in
    failed_behind_hello c.args.seal.now c.args.peer c.args.key.now c.next_hello-mine.result c.in_ok-heard.heard (g.N.Link.Link.view c.args.link.now) heard left c.requires.key
    mine.id mine.from mine.to (rose_some mid.faults left.faults rose)
    (λ t. hears c.args.seal.now c.args.peer c.me.result c.id.result c.next_hello-mine.result c.in_ok-heard.heard (g.N.Link.Link.view c.args.link.now) heard
    c.id.ensures c.me.ensures mine.id mine.from mine.to (c.in_ok-heard.ensures {u = tt}).takes (c.say_hello.ensures.was_told (c.say_proof.ensures.was_told t)))

pub returns-then-is_err-2-clause-out : goal.returns-then-is_err-2-clause-out
returns-then-is_err-2-clause-out g c unsent =
    let mine = c.next_hello-mine.ensures in
    let heard = g.N.Link.Link.view c.take_hello.new.link in
    let mid = g.N.Link.Link.view c.say_hello.new.link in
    let left = g.N.Link.Link.view c.say_proof.new.link in
    let hello : IsTrue mid.told → mid.sent ≡ heard.sent ++ hello_bytes c.next_hello-mine.result = search rules in
    let out : SendsNoMore (sealed (direction c.keys_of.result.0) 0 []) mid left = search rules in
    proof_out c.args.seal.now c.args.peer c.args.key.now c.next_hello-mine.result c.in_ok-heard.heard (direction c.keys_of.result.0) (g.N.Link.Link.view c.args.link.now) heard mid left
    c.requires.key mine.id mine.from mine.to mine.nonce c.take_hello.ensures.takes.sent c.say_hello.ensures.was_told hello c.keys_of.ensures.mine c.say_proof.ensures.was_told out unsent

pub returns-clause-out : goal.returns-clause-out
returns-clause-out g c unsent =
    let mine = c.next_hello-mine.ensures in
    let heard = g.N.Link.Link.view c.take_hello.new.link in
    let mid = g.N.Link.Link.view c.say_hello.new.link in
    let left = g.N.Link.Link.view c.say_proof.new.link in
    let proof = sealed (direction c.keys_of.result.0) 0 [] in
    let hello : IsTrue mid.told → mid.sent ≡ heard.sent ++ hello_bytes c.next_hello-mine.result = search rules in
    let whole : IsTrue left.told → left.sent ≡ mid.sent ++ sealed (direction c.keys_of.result.0) 0 [] = search rules in
    let out : SendsNoMore (sealed (direction c.keys_of.result.0) 0 []) mid left =
    λ t. (length proof, whole t ∙ ap (λ (l : List ℕ). mid.sent ++ l) (sym (take-length proof))) in
    proof_out c.args.seal.now c.args.peer c.args.key.now c.next_hello-mine.result c.in_ok-heard.heard (direction c.keys_of.result.0) (g.N.Link.Link.view c.args.link.now) heard mid left
    c.requires.key mine.id mine.from mine.to mine.nonce c.take_hello.ensures.takes.sent c.say_hello.ensures.was_told hello c.keys_of.ensures.mine c.say_proof.ensures.was_told out unsent
