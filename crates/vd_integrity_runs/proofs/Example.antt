-- The run in which carol sends one word that is not hers.
use Rattle.std.proofs.Common.{◌≡◌, ◌^◌, ◌<◌, true≢false, true, false, [], ◌∷◌, refl, sym, arith}
use Rattle.vd_base.specs.declared.form.Form.{Form}
use Rattle.vd_execution.specs.declared.instructions.Action.TheVariants as action
use Rattle.vd_execution.specs.Joint.{Hosts, after_do, fresh}
use Rattle.vd_execution.specs.Registers.{put}
use Rattle.vd_execution.specs.Text.{register}
use Rattle.vd_execution.specs.World.{Tape}
use Rattle.vd_backend_laws.specs.Given.{zero_deal}
use Rattle.vd_backend_laws.specs.Whole.{inputs_of}
use Rattle.vd_split.specs.Emission.{emitting_at_start}
use Rattle.vd_backend_laws.specs.Parts.{suite_calls}
use Rattle.vd_integrity_runs.specs.Departing.{after_telling}
use Rattle.vd_integrity_runs.specs.IntegrityBackendsExample.{carol_departs}
use Rattle.vd_integrity_runs.specs.Example.{PrintsWhatSheSent, becomes_trusted, handed_in, handed_on, places}
use Rattle.vd_integrity_runs.specs.Runs.{RunsBlock}

abbrev tape : Tape
tape = zero_deal (inputs_of handed_in)

abbrev taken : Hosts
taken = after_do tape 2 (action.Input (register 0)) fresh

abbrev sent : Hosts
sent = after_telling 2 (7 ∷ []) 1 (register 0 ∷ []) (after_telling 2 (7 ∷ []) 0 (register 0 ∷ []) taken)

abbrev alice_told : Hosts
alice_told = after_do tape 0 (action.Print (register 0)) sent

abbrev both_told : Hosts
both_told = after_do tape 1 (action.Print (register 0)) alice_told

word_small : 7 < 2 ^ 32
word_small = omega arith

unbound : {A : Type 0} → false ≡ true → A
unbound e = absurd (true≢false (sym e))

runs : (to : Form) → RunsBlock 3 places carol_departs tape becomes_trusted (handed_on to) (emitting_at_start (suite_calls 3) places) fresh both_told
unfolding put lib.Count.ones
runs to = (
  taken,
  (
    (λ is. tt, refl),
    (
      λ is. unbound is,
      (
        sent,
        (
          (7 ∷ [], (record { own = λ is. unbound is; fits = refl }, (7 ∷ [], (record { own = λ is. unbound is; fits = refl }, refl)))),
          (
            λ is. record { word = 7; small = word_small; same = (λ keep. refl, (λ keep. refl, tt)) },
            (alice_told, ((λ is. tt, refl), (both_told, ((λ is. tt, refl), refl)))),
          ),
        ),
      ),
    ),
  ),
)

alice_prints : (both_told 0).printed ≡ 7 ∷ []
unfolding put lib.Count.ones
alice_prints = refl

bob_prints : (both_told 1).printed ≡ 7 ∷ []
unfolding put lib.Count.ones
bob_prints = refl

pub prints_what_she_sent : (to : Form) → PrintsWhatSheSent to
prints_what_she_sent to = record { after = both_told; runs = runs to; alice_prints = alice_prints; bob_prints = bob_prints; told = refl }
