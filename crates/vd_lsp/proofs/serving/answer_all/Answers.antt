use Rattle.std.proofs.Common.{refl, subst, ◌∙◌}
use Rattle.vd_lsp.specs.Streams.{Answers}
use Rattle.vd_lsp.proofs.Rounds.{round}
use Rattle.vd_lsp.proofs.serving.answer_all.Goals as goal

pub returns : goal.returns
returns c =
    round c.args.server c.args.came.now c.answer_stream.new.out c.in_ok-ending.ending
    (record { server = c.in_ok-server.server; stop = c.in_ok-ending.ending.stop; out = c.say_due.new.out; came = c.in_ok-came.came })
    (subst (λ before. Answers c.args.server c.args.came.now before c.answer_stream.new.out c.in_ok-ending.ending) c.new-out.ensures c.in_ok-ending.ensures) c.in_ok-server.ensures refl
    (c.in_ok-came.ensures ∙ c.last_bytes.ensures)
