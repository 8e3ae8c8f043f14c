-- The words that the help says are read so.
use Rattle.std.proofs.Common.{◌≡◌, Bool, true, false, ◌&&◌, ℕ, Option, Some, None, ◌∷◌, length, if◌then◌else◌, refl, arith, ap}
use Rattle.std.proofs.lemmas.Bool.{lt-ltb}
use Rattle.std.specs.Prelude.{is_some}
use Rattle.vd_base.specs.Limits.{most_search_budget}
use Rattle.vd_cmd.specs.Commands.{depends_of, reveals_of}
use Rattle.vd_cmd.specs.Numbers.{number_within}
use Rattle.vd_cmd.specs.HelpRead.{HelpIsRead}
use Rattle.vd_cmd.proofs.Commas.{group_is}

both_hold : {A : Type 0} (x : A) (s t : Bool) → s ≡ true → t ≡ true → (if s && t then Some x else None) ≡ Some x
both_hold x true true a b = refl
both_hold x true false a b = absurd (cc b)
both_hold x false t a b = absurd (cc a)

pub help_read : HelpIsRead
help_read = record {
  clear = λ a b. refl;
  labels = λ a. refl;
  choose = λ a. refl;
  draw = λ a. refl;
  reveals = λ a. refl;
  reveals_to_host = λ source host none. ap (λ (n : Option ℕ). if is_some n then reveals_of source None (number_within 1 most_search_budget host) else reveals_of source (Some host) (Some most_search_budget)) none;
  reveals_within = λ source host word budget is. ap (reveals_of source (Some host)) is;
  compile = λ a b. refl;
  early = λ a b. refl;
  needs = λ a. refl;
  needs_each = λ a. refl;
  rounds = λ a. refl;
  host = λ a b c d. refl;
  check = λ a b c. refl;
  certify = λ a b. refl;
  depends = λ source first others are new. ap (depends_of source) (group_is first others are new);
  influences = λ a b. refl;
  column = λ a b c d named. both_hold _ _ _ named (lt-ltb 0 (length (c ∷ d)) (omega (arith)));
  report = λ a b c. refl;
  report_json = λ a b c. refl;
  excuse = λ a b c d e f. refl;
  replay = λ a b c d. refl;
  messages = λ a b c d. refl;
}
