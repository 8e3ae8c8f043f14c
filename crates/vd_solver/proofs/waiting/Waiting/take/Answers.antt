use Rattle.std.proofs.Common.{◌≡◌, ℕ, ◌+◌, ◌<◌, ◌∷◌, false, length, refl, sym, ap, ◌∙◌, subst, arith}
use Rattle.std.specs.Prelude.{All, Contains, slice_set}
use Rattle.std.proofs.lemmas.List.{length-set}
use Rattle.std.proofs.lemmas.List.Elements.{All-head, All-tail, All-weaker}
use Rattle.vd_solver.proofs.Queues.{in_rest}
use Rattle.vd_solver.proofs.waiting.Waiting.take.Goals as goal

pub returns : goal.returns
returns c =
    let flags = c.args.self.now.flags.items in
    let rest = c.pop_front.new.self.items in
    let rule = c.in_ok-rule.rule in
    let items : c.args.self.now.queue.items ≡ rule ∷ rest = c.in_ok-rule.ensures.items in
    let all = subst (All (λ r. r < length flags)) items c.requires.rules in
    let low : rule < length flags = All-head (λ r. r < length flags) rule rest all in
    let same : length (slice_set flags rule false) ≡ length flags = length-set flags rule false in
    record {
      within = low;
      flags = refl;
      queue = record {
        rules = All-weaker (λ r. r < length flags) (λ r. r < length (slice_set flags rule false)) (λ r h. omega arith) rest (All-tail (λ r. r < length flags) rule rest all);
        listed = in_rest flags c.args.self.now.queue.items rest rule low items c.requires.listed;
      };
      shorter = let longer = ap length items in omega (arith, longer);
    }
