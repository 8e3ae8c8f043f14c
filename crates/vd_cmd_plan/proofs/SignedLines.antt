-- Lines with a signed number.
use Rattle.std.proofs.Common.{◌≡◌, ℕ, ℤ, List, ◌++◌, Result, subst, codes}
use Rattle.std.specs.Fmt.{decimal, signed_decimal}
use Rattle.vd_outside.specs.Sink.{SinkView, WritesAll}
use Rattle.vd_cmd_plan.specs.Lines.{cost_line, bound_line}

pub cost_written : {E : Type 0} (stated : ℕ) (own : ℤ) (s o : List ℕ) (before now : SinkView) (result : Result (Unit {0}) E) → s ≡ decimal stated → o ≡ signed_decimal own
    → WritesAll {E = E} (codes "viaduct: cert refused cost " ++ (s ++ (codes " " ++ (o ++ codes "\n")))) before now result → WritesAll {E = E} (cost_line stated own) before now result
cost_written {E = E} stated own s o before now result is_stated is_own w =
    subst (λ (l : List ℕ). WritesAll {E = E} (codes "viaduct: cert refused cost " ++ (decimal stated ++ (codes " " ++ (l ++ codes "\n")))) before now result) is_own
    (subst (λ (l : List ℕ). WritesAll {E = E} (codes "viaduct: cert refused cost " ++ (l ++ (codes " " ++ (o ++ codes "\n")))) before now result) is_stated w)

pub bound_written : {E : Type 0} (mark : ℕ) (bound : ℤ) (cost : ℕ) (m b c : List ℕ) (before now : SinkView) (result : Result (Unit {0}) E) → m ≡ decimal mark → b ≡ signed_decimal bound → c ≡ decimal cost
    → WritesAll {E = E} (codes "viaduct: cert refused not bounded " ++ (m ++ (codes " " ++ (b ++ (codes " " ++ (c ++ codes "\n")))))) before now result → WritesAll {E = E} (bound_line mark bound cost) before now result
bound_written {E = E} mark bound cost m b c before now result is_mark is_bound is_cost w =
    subst (λ (l : List ℕ). WritesAll {E = E} (codes "viaduct: cert refused not bounded " ++ (decimal mark ++ (codes " " ++ (l ++ (codes " " ++ (decimal cost ++ codes "\n")))))) before now result) is_bound
    (subst (λ (l : List ℕ). WritesAll {E = E} (codes "viaduct: cert refused not bounded " ++ (l ++ (codes " " ++ (b ++ (codes " " ++ (decimal cost ++ codes "\n")))))) before now result) is_mark
    (subst (λ (l : List ℕ). WritesAll {E = E} (codes "viaduct: cert refused not bounded " ++ (m ++ (codes " " ++ (b ++ (codes " " ++ (l ++ codes "\n")))))) before now result) is_cost w))
