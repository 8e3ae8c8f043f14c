use Rattle.std.proofs.Common.{◌≡◌, [], List, ℕ, ap, sym, ◌∙◌}
use Rattle.std.specs.List.{fold}
use Rattle.vd_cmd_data.specs.Printed.{after_byte}
use Rattle.vd_cmd_data.proofs.Splitting.{all_split, nothing_left}
use Rattle.vd_cmd_data.proofs.printed.words_of.Goals as goal

pub returns : goal.returns
returns c =
    let none : c.bytes.rest.now ≡ [] = nothing_left c.bytes.rest.now c.in_default.ensures.cases in
    all_split c.args.text.now c.bytes.split c.add_word.new.words (sym (ap (λ (rest : List ℕ). fold after_byte c.bytes.split rest) none) ∙ c.bytes.invariant) (c.in_ok-add_word.ensures {u = tt})
