-- Statuses that are known of children.
use Rattle.std.proofs.Common.{◌≡◌, ℕ, zero, suc, ◌<◌, List, [], ◌∷◌, ◌++◌, length, Option, Some, None, Ok, slice_set, refl, sym, subst, ◌∙◌, arith, rules, length-append}
use Rattle.std.proofs.lemmas.List.{length-set}
use Rattle.std.proofs.lemmas.Option.{none-some}
use Rattle.vd_outside.specs.Spawner.{Starts, Finishes}
use Rattle.vd_edge_processes.specs.RealSpawner.{known, spawner_view}

-- a status that is known stays where one more child is started
pub stays : (statuses more : List (Option ℕ)) (child status : ℕ) → known statuses child ≡ Some status → known (statuses ++ more) child ≡ Some status
stays [] more child status is = absurd (none-some status is)
stays (first ∷ statuses) more zero status is = is
stays (first ∷ statuses) more (suc child) status is = stays statuses more child status is

-- a status that is known stays where another becomes known
pub stays_at : (statuses : List (Option ℕ)) (at child status : ℕ) (new : Option ℕ) → known statuses at ≡ None → known statuses child ≡ Some status → known (slice_set statuses at new) child ≡ Some status
stays_at [] at child status new none is = absurd (none-some status is)
stays_at (first ∷ statuses) zero zero status new none is = absurd (none-some status (sym none ∙ is))
stays_at (first ∷ statuses) zero (suc child) status new none is = is
stays_at (first ∷ statuses) (suc at) zero status new none is = is
stays_at (first ∷ statuses) (suc at) (suc child) status new none is = stays_at statuses at child status new none is

-- a status that was put is known
pub is_put : (statuses : List (Option ℕ)) (at : ℕ) (new : Option ℕ) → at < length statuses → known (slice_set statuses at new) at ≡ new
is_put [] at new within = absurd (omega arith)
is_put (first ∷ statuses) zero new within = refl
is_put (first ∷ statuses) (suc at) new within = is_put statuses at new (omega arith)

-- a child was started
pub started : (program : List ℕ) (words : List (List ℕ)) (statuses now : List (Option ℕ)) (faults : ℕ) → now ≡ statuses ++ None ∷ []
    → Starts program words (spawner_view (record { statuses = statuses; faults = faults })) (spawner_view (record { statuses = now; faults = faults })) (Ok (length statuses))
started program words statuses now faults is =
    subst (λ z. Starts program words (spawner_view (record { statuses = statuses; faults = faults })) (spawner_view (record { statuses = z; faults = faults })) (Ok (length statuses))) (sym is) (record {
      later = omega arith;
      failed = search rules;
      number = (refl, length-append statuses (None ∷ []));
      none_given = tt;
      statuses = λ child status. stays statuses (None ∷ []) child status;
      still_told = λ told. told;
      asked = search rules;
      starts = search rules;
      no_child = search rules;
    })

-- a child ended, and its status is known
pub finished : (statuses now : List (Option ℕ)) (faults child status : ℕ) → child < length statuses → known statuses child ≡ None → now ≡ slice_set statuses child (Some status)
    → Finishes child (spawner_view (record { statuses = statuses; faults = faults })) (spawner_view (record { statuses = now; faults = faults })) (Ok status)
finished statuses now faults child status within none is =
    subst (λ z. Finishes child (spawner_view (record { statuses = statuses; faults = faults })) (spawner_view (record { statuses = z; faults = faults })) (Ok status)) (sym is) (record {
      later = omega arith;
      failed = search rules;
      given = length-set statuses child (Some status);
      statuses = λ other known_status. stays_at statuses child other known_status (Some status) none;
      known = is_put statuses child (Some status) within;
      still_told = λ told. told;
      asked = search rules;
      children = search rules;
      gives = search rules;
    })
