-- What two runs of a program share whose statements flow, or hide.
use Rattle.std.proofs.Common.{◌≡◌, ℕ, Bool, true, false, List, [], ◌++◌, map, refl, sym, ap, ◌∙◌, subst, nat_eq}
use Rattle.std.proofs.lemmas.Bool.{eq-eqb}
use Rattle.vd_base.specs.declared.ids.HostId.{HostId}
use Rattle.vd_core.specs.declared.normal.NormalForm.{NormalForm}
use Rattle.vd_semantics.specs.ProgramMeaning.{SlotState, Effect, block_effect}
use Rattle.vd_noninter.specs.Flowing.{Knowledge, all_flow, all_hide, flow}
use Rattle.vd_noninter.specs.Agreement.{Agree}
use Rattle.vd_noninter.specs.Reading.{SameInputs, LearnsOnly, start, words_of_run, downgraded_words, shown_words, outputs_to}
use Rattle.vd_noninter.specs.Watching.{Watched, Words, Taps, Showing, declassifications, no_downgrades, given_by, freed_by, shown_by, watched}
use Rattle.vd_noninter.proofs.Runs.{InStep, block}
use Rattle.vd_noninter.proofs.NoninterLawsWalk.{taps_of, body_keeps, block_run_is}
use Rattle.vd_noninter.proofs.Downgraded.{body_same as downgraded_same}
use Rattle.vd_noninter.proofs.ShownWords.{body_same as shown_same}

abbrev alone : Taps → Taps
alone taps = record { given = taps.given; freed = no_downgrades; kept = λ x. false; shows = λ s. [] }

-- the given words are those of the given downgrades, whatever else is looked at
pub given_is : (p : NormalForm) (taps : Taps) (inputs : List (List ℕ)) → words_of_run p given_by taps inputs ≡ downgraded_words p taps.given inputs
given_is p taps inputs = downgraded_same taps.given taps (alone taps) given_by given_by (λ s. refl) (λ s. refl) p.body 0 (start p inputs)

freed_is : (p : NormalForm) (taps : Taps) (inputs : List (List ℕ)) → words_of_run p freed_by taps inputs ≡ downgraded_words p taps.freed inputs
freed_is p taps inputs =
    downgraded_same taps.freed taps (record { given = taps.freed; freed = no_downgrades; kept = λ x. false; shows = λ s. [] }) freed_by given_by (λ s. refl) (λ s. refl) p.body 0 (start p inputs)

shown_is : (p : NormalForm) (taps : Taps) (inputs : List (List ℕ)) → words_of_run p shown_by taps inputs ≡ shown_words p taps.kept taps.shows inputs
shown_is p taps inputs = shown_same taps.given no_downgrades taps.freed no_downgrades taps.kept taps.shows p.body 0 (start p inputs)

module _ (p : NormalForm) (k : Knowledge) where
  abbrev tells : Showing → (Watched → Words) → List (List ℕ) → List ℕ
  tells shows which inputs = words_of_run p which (taps_of k shows) inputs

  -- a program that hides gives nothing
  pub hidden_silent : all_hide (map (flow k) p.body) ≡ true → (inputs : List (List ℕ)) → downgraded_words p k.given inputs ≡ []
  hidden_silent hides inputs = sym (given_is p (taps_of k (λ s. [])) inputs) ∙ ((body_keeps k (λ s. []) p.body).hides hides 0 (start p inputs)).silent

  module _ (flows : all_flow (map (flow k) p.body) ≡ true) (shows : Showing) (first second : List (List ℕ)) (inputs : SameInputs k.known first second) (given : downgraded_words p k.given first ≡ downgraded_words p k.given second) where
    abbrev ran : List (List ℕ) → SlotState
    ran inputs = (block k (map (watched (taps_of k shows)) p.body)).run 0 (start p inputs)

    agree_start : Agree k (start p first) (start p second)
    agree_start = record { words = λ x is. refl; arrays = λ x is. refl; inputs = inputs; hosts = refl; outputs = λ host is. refl }

    in_step : InStep k (tells shows given_by first) (tells shows given_by second) (tells shows freed_by first) (tells shows freed_by second) (tells shows shown_by first) (tells shows shown_by second) [] [] (ran first) (ran second)
    in_step =
        (body_keeps k shows p.body).flows flows 0 (start p first) (start p second) [] [] agree_start
        (ap (λ z. z ++ []) (given_is p (taps_of k shows) first ∙ given ∙ sym (given_is p (taps_of k shows) second)))

    ends : Agree k (block_effect p.body 0 (start p first)) (block_effect p.body 0 (start p second))
    ends = subst (λ (f : Effect). Agree k (f 0 (start p first)) (f 0 (start p second))) (block_run_is (taps_of k shows) p.body) in_step.agree

    pub outputs_same : (h : HostId) → k.heard h.0 ≡ true → outputs_to p h first ≡ outputs_to p h second
    outputs_same h heard = ends.outputs h.0 heard

    pub words_same : shown_words p k.kept shows first ≡ shown_words p k.kept shows second
    words_same = sym (shown_is p (taps_of k shows) first) ∙ in_step.shown ∙ shown_is p (taps_of k shows) second

    pub freed_words_same : downgraded_words p k.freed first ≡ downgraded_words p k.freed second
    freed_words_same = sym (freed_is p (taps_of k shows) first) ∙ in_step.freed ∙ freed_is p (taps_of k shows) second

-- what one host knows: it is given the words of these declassifications
abbrev pub hearing : (ℕ → Bool) → (ℕ → ℕ → Bool) → (ℕ → Bool) → ℕ → Knowledge
hearing kept test known host = record { kept = kept; given = declassifications test; freed = no_downgrades; known = known; heard = λ k. nat_eq k host }

pub flows_learns : (p : NormalForm) (h : HostId) (kept : ℕ → Bool) (test : ℕ → ℕ → Bool) (known : ℕ → Bool) → all_flow (map (flow (hearing kept test known h.0)) p.body) ≡ true → LearnsOnly p h test known kept
flows_learns p h kept test known flows first second same given =
    let k = hearing kept test known h.0 in
    (outputs_same p k flows (λ s. []) first second same given h (eq-eqb h.0 h.0 refl), λ shows. words_same p k flows shows first second same given)
