use Rattle.std.proofs.Common.{◌≡◌, ◌+◌, ◌++◌, ◌∷◌, [], List, ℕ, length, length-append, ap, ◌∙◌, arith}
use Rattle.std.proofs.lemmas.List.{length-map}
use Rattle.vd_execution.specs.Step.{words_in}
use Rattle.vd_machine.specs.Machines.{held}
use Rattle.vd_world.proofs.Cuts.{sent_rises, sent_cut}
use Rattle.vd_world.proofs.link.Link.send_registers.Goals as goal

abbrev sent : (c : goal.After-push_each) → List ℕ
sent c = words_in (held c.args.registers.now) c.args.from.now

grown : (c : goal.After-push_each) → c.push_each.new.words.items ≡ c.self.inside.words.items ++ sent c
grown c = c.push_each.ensures ∙ ap (λ ws. ws ++ sent c) c.reserve.ensures.items

ends_there : (c : goal.After-push_each) → c.len.result + length c.args.from.now ≡ length c.push_each.new.words.items
ends_there c =
    let more = length-append c.self.inside.words.items (sent c) in
    let many = length-map c.args.from.now (λ r. held c.args.registers.now r.0) in
    let all = ap length (grown c) in
    omega (arith, c.len.ensures, c.reserve.ensures.len, c.self.inside.words.ok.0, more, many, all)

pub returns-clause-ok : goal.returns-clause-ok
returns-clause-ok c =
    let l = c.self.inside in
    sent_cut (l.ends.items ++ l.far_ends.items) (c.push_end.new.near.items ++ c.push_end.new.far.items) l.words.items c.push_each.new.words.items (sent c)
    (c.len.result + length c.args.from.now) c.self.invariant (grown c) c.in_ok-push_end.ensures.ok (ends_there c)
    ∙ ap (λ p. p ++ sent c ∷ []) c.self.view_is

pub invariant_of-self-2 : goal.invariant_of-self-2
invariant_of-self-2 c =
    let l = c.self.inside in
    sent_rises (l.ends.items ++ l.far_ends.items) (c.push_end.new.near.items ++ c.push_end.new.far.items) l.words.items c.push_each.new.words.items (sent c)
    (c.len.result + length c.args.from.now) c.self.invariant (grown c) c.in_ok-push_end.ensures.ok (ends_there c)
