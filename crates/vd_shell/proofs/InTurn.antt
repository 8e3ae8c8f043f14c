-- Lines that are told one after the other.
use Rattle.std.proofs.Common.{◌≡◌, ℕ, List, [], ◌∷◌, ◌++◌, Option, Ok, Err, Result, OnOk, refl, subst}
use Rattle.vd_outside.specs.Sink.{SinkView}
use Rattle.vd_cmd_plan.specs.Lines.{Says}
use Rattle.vd_shell.specs.Reasons.{reason_line}
use Rattle.vd_shell.specs.Telling.{Tells, lines_of}

tells_both : (first second : List (List ℕ)) (before mid now : SinkView) → Tells first before mid → Tells second mid now → Tells (first ++ second) before now
tells_both [] second before mid now told behind = subst (λ (s : SinkView). Tells second s now) told behind
tells_both (line ∷ lines) second before mid now told behind = (told.0, told.1, tells_both lines second told.0 mid now told.2 behind)

pub then_tells : {E : Type 0} (first second : List (List ℕ)) (before mid now : SinkView) (result : Result (Unit {0}) E) → Tells first before mid → OnOk result (Tells second mid now)
    → OnOk result (Tells (first ++ second) before now)
then_tells first second before mid now (Ok done) told behind = tells_both first second before mid now told behind
then_tells first second before mid now (Err fault) told behind = tt

-- a line of its own
pub tells_one : {E : Type 0} (host told : Option (List ℕ)) (reason : List ℕ) (before now : SinkView) (result : Result (Unit {0}) E) → told ≡ host
    → OnOk result (Says (reason_line told reason) before now) → OnOk result (Tells (reason_line host reason ∷ []) before now)
tells_one host told reason before now (Ok done) same says = (now, subst (λ (h : Option (List ℕ)). Says (reason_line h reason) before now) same says, refl)
tells_one host told reason before now (Err fault) same says = tt

-- a reason that is known by another name
pub tells_as : {E : Type 0} (host reason told : Option (List ℕ)) (before now : SinkView) (result : Result (Unit {0}) E) → told ≡ reason
    → OnOk result (Tells (lines_of host told) before now) → OnOk result (Tells (lines_of host reason) before now)
tells_as host reason told before now result same tells = subst (λ (r : Option (List ℕ)). OnOk result (Tells (lines_of host r) before now)) same tells

-- two such reasons, one after the other
pub tells_two : {E : Type 0} (host other first second first_told second_told : Option (List ℕ)) (before mid now : SinkView) (result : Result (Unit {0}) E) → first_told ≡ first → second_told ≡ second
    → Tells (lines_of host first_told) before mid → OnOk result (Tells (lines_of other second_told) mid now) → OnOk result (Tells (lines_of host first ++ lines_of other second) before now)
tells_two host other first second first_told second_told before mid now result one two told behind =
    then_tells (lines_of host first) (lines_of other second) before mid now result (subst (λ (r : Option (List ℕ)). Tells (lines_of host r) before mid) one told)
    (tells_as other second second_told mid now result two behind)
