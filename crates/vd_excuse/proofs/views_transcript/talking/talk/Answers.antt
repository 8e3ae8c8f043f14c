use Rattle.std.proofs.Common.{◌≡◌, List, ℕ, true, refl, subst, ◌∙◌}
use Rattle.std.specs.Prelude.{IfOk}
use Rattle.vd_excuse.proofs.Link.{are_for_all, talk_is}
use Rattle.vd_excuse.proofs.views_transcript.talking.talk.Goals as goal

pub play-requires : goal.play-requires
play-requires c =
    are_for_all c.args.program.now c.args.protocols.now c.requires.runnable.made c.requires.runnable.numbers c.requires.runnable.runnable c.args.inputs.now c.args.deals c.requires.playable
    c.in_ok-codes.codes c.as_slice.result.now c.in_ok-inputs.inputs (c.in_ok-codes.ensures {u = tt}) (c.in_ok-inputs.ensures {u = tt})

pub returns : goal.returns
returns c =
    let e = c.talk.ensures
    ∙ talk_is c.args.program.now c.args.protocols.now c.requires.runnable.made c.requires.runnable.numbers c.requires.runnable.runnable c.args.inputs.now c.args.deals c.requires.playable
    c.in_ok-codes.codes c.as_slice.result.now c.in_ok-inputs.inputs (record { entries = c.new.result; all = true }) _ c.args.from.0 c.args.to.0 (c.in_ok-codes.ensures {u = tt})
    (c.as_slice.ensures ∙ (c.in_ok-needs.ensures {u = tt}).needs) (c.in_ok-inputs.ensures {u = tt}) refl (λ k of. (c.in_ok-world.ensures {u = tt}).world k of) in
    subst (λ (words : List ℕ). IfOk c.from_slice.result (λ all. all ≡ words)) e c.from_slice.ensures
