-- What the labels promise of clear words, and what the deal promises of the others.
use Rattle.std.proofs.Common.{ℕ, ◌<◌, Bool, length}
use Rattle.vd_base.specs.HostSets.{host}
use Rattle.vd_core.specs.declared.normal.NormalForm.{NormalForm}
use Rattle.vd_constraints.specs.declared.labels.Labels.{Labels}
use Rattle.vd_noninter.specs.Reading.{becomes_readable_to, reads_host, reads_result}
use Rattle.vd_noninter.specs.NoninterLawsDependence.{AreReached}
use Rattle.vd_noninter_protocols.specs.Assigned.{HearsOnlyAssigned}
use Rattle.vd_noninter_protocols.proofs.Front.{all_hear_readable, all_hear_reached}
use Rattle.vd_views.specs.Explained.{AgreeFor}
use Rattle.vd_views.specs.Promise.{ExplainsOthers, OfEachProgram}
use Rattle.vd_views.proofs.Theorem.{others_are_explained}

explains : (p : NormalForm) (l : Labels) (released : ℕ → ℕ → ℕ → Bool) (known : ℕ → ℕ → Bool) → ((h : ℕ) → h < length p.hosts → HearsOnlyAssigned p l (host h) (released h) (known h)) → ExplainsOthers p l released known
explains p l released known hears protocols K opens together first second t dealt agree =
    let agree_for : AgreeFor p l protocols K first second = record {
      words = agree.words;
      own = agree.own;
      heard = λ h m. let low = together h m in hears h low low protocols opens.chosen.assignment first second (agree.same h m) (agree.declassified h m);
    } in
    (agree_for, others_are_explained p l protocols K opens together first second t dealt agree_for)

pub readable_inputs_explain : OfEachProgram (λ p l. ExplainsOthers p l (λ h. becomes_readable_to p l (host h)) (λ h. reads_host p (host h)))
readable_inputs_explain p l well satisfies =
    explains p l (λ h. becomes_readable_to p l (host h)) (λ h. reads_host p (host h)) (λ h low. all_hear_readable p l (host h) well satisfies)

pub reached_inputs_explain : OfEachProgram (λ p l. (hosts : ℕ → ℕ → Bool) → ((h : ℕ) → h < length p.hosts → AreReached p l (host h) (hosts h)) → ExplainsOthers p l (λ h. reads_result p l (host h)) hosts)
reached_inputs_explain p l well satisfies hosts are = explains p l (λ h. reads_result p l (host h)) hosts (λ h low. all_hear_reached p l (host h) well satisfies (hosts h) (are h low))
