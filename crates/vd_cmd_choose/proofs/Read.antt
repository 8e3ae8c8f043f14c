-- A generated source is read and meets every rule, whatever functions pick the outcomes of texts.
use Rattle.std.proofs.Common.{◌≡◌, ℕ, ◌+◌, ◌*◌, ◌≤◌, List, length, Ok, sym, ap, subst, arith}
use Rattle.vd_core.specs.declared.source.Source.{Source}
use Rattle.vd_core.specs.Facts.{weight_sum}
use Rattle.vd_elaborate.specs.Normal.{normal_form}
use Rattle.vd_elaborate.proofs.Front.{exact_weights, passed}
use Rattle.vd_parser.specs.Outcomes.{IsParse}
use Rattle.vd_resolve.specs.Rules.{source_check}
use Rattle.vd_resolve.specs.Sizes.{source_size}
use Rattle.vd_resolve.specs.Limits.{limits_check, resolution}
use Rattle.vd_parser.proofs.Front.{parses_once}
use Rattle.vd_gen.specs.Sizes.{most_coordinates}
use Rattle.vd_gen.specs.Source.{generated}
use Rattle.vd_cmd_labels.specs.Outcomes.{TextOutcomes}
use Rattle.vd_cmd_labels.specs.Sources.{as_source, as_resolved}
use Rattle.vd_cmd_choose.specs.Claims.{GivesSource, IsRead}
use Rattle.vd_cmd_choose.proofs.Whole.{generated_is_source}

-- how often the statements of a source that meets every rule are executed is how often those of its let-normal form are
executed_alike : (source : Source) (n : ℕ) → resolution source ≡ Ok tt → (source_size source).weights ≤ n → weight_sum (normal_form source).body ≤ n
executed_alike source n meets few =
    let checked = passed (source_check source) (λ done. limits_check (length source.principals) (length source.hosts) (source_size source)) tt meets in
    let same = exact_weights source checked.1 in
    omega (arith, same, few)

pub gives_source : (n : ℕ) → 1 ≤ n → n ≤ most_coordinates → GivesSource n
gives_source n some most =
    let s = generated_is_source n some most in
    record { source = s.0; text = record { parsed = s.1; meets = s.2 }; executed = executed_alike s.0 (5 * n + 5) s.2 s.3 }

pub is_read : (texts : TextOutcomes) (name : List ℕ) (n : ℕ) → 1 ≤ n → n ≤ most_coordinates → IsRead texts name n
is_read texts name n some most =
    let s = generated_is_source n some most in
    let parsed : texts.parse (generated n) ≡ Ok s.0 = parses_once (generated n) (texts.parse (generated n)) (Ok s.0) (texts.parse_is (generated n)) s.1 in
    record { tree = s.0; reads = ap (as_source name) parsed; meets = ap (as_resolved s.0) s.2 }

-- whatever tree the text has, it is that one
pub executed_of : (n : ℕ) → 1 ≤ n → n ≤ most_coordinates → (tree : Source) → IsParse (generated n) (Ok tree) → weight_sum (normal_form tree).body ≤ 5 * n + 5
executed_of n some most tree parsed =
    let s = gives_source n some most in
    let same = parses_once (generated n) (Ok tree) (Ok s.source) parsed s.text.parsed in
    let one : tree ≡ s.source = cc same in
    subst (λ (t : Source). weight_sum (normal_form t).body ≤ 5 * n + 5) (sym one) s.executed
