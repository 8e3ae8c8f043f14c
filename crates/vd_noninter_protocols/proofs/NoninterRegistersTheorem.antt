-- What comes to a host in clear in the joint run of a program.
use Rattle.std.proofs.Common.{◌≡◌, ℕ, ◌<◌, Bool, true, false, List, [], ◌∷◌, length, drop, slice_index_or, refl, sym, ap, subst, ◌∙◌, arith}
use Rattle.std.specs.List.{concat, list_all}
use Rattle.std.proofs.lemmas.List.FromFn.{get_or-map-range_with_len}
use Rattle.vd_base.specs.declared.ids.HostId.{HostId}
use Rattle.vd_base.specs.declared.protocols.Proto.{Proto}
use Rattle.vd_base.specs.Holders.{proto_in}
use Rattle.vd_core.specs.declared.normal.NormalForm.{NormalForm}
use Rattle.vd_core.specs.Facts.{nothing_seen, Seeing, slots_step, seeing_step, seeing_all, IsWellMade}
use Rattle.vd_constraints.specs.declared.labels.Labels.{Labels}
use Rattle.vd_constraints.specs.Scoped.{stmt_below}
use Rattle.vd_constraints.proofs.Front.{well_made_scoped}
use Rattle.vd_execution.specs.World.{Tape}
use Rattle.vd_execution.specs.Joint.{fresh, joint}
use Rattle.vd_split.specs.Block.{block_of, each}
use Rattle.vd_split.specs.Suite.{Laws}
use Rattle.vd_split.specs.Emission.{emitting_at_start}
use Rattle.vd_split.specs.Outcome.{Starts}
use Rattle.vd_split.proofs.Front.{fold_each, InRow, row_of, slots, sees, all_fit, no_turns, tied_at_start}
use Rattle.vd_backend_laws.specs.Machine.{machine}
use Rattle.vd_backend_laws.specs.Suite.{suite}
use Rattle.vd_backend_laws.specs.Whole.{code_at, inputs_of, CanRun}
use Rattle.vd_backend_laws.proofs.Front.{suite_laws}
use Rattle.vd_projection.specs.Assignments.{IsValidFor}
use Rattle.vd_projection.proofs.Front.{can_run, each_has, assignments_tell_the_same}
use Rattle.vd_noninter.specs.Reading.{reads_result, becomes_readable_to, reads_host, in_view, start, outputs_to, LearnsOnly}
use Rattle.vd_noninter.specs.NoninterLawsDependence.{reached_in_view, AreReached, OfEachHost}
use Rattle.vd_noninter.proofs.Front.{reads_learns, reached_are_enough}
use Rattle.vd_noninter_protocols.specs.Hearing.{Heard, heard_step, heard_in_order}
use Rattle.vd_noninter_protocols.specs.Assigned.{HearsOnlyAssigned}
use Rattle.vd_noninter_protocols.proofs.Theorem.{all_hear_readable, all_hear_reached}
use Rattle.vd_noninter_protocols.specs.Telling.{told}
use Rattle.vd_noninter_protocols.specs.Told.{IsDealt, TellsWhatIsHeard, printed_words, TellsOnlyAssigned}
use Rattle.vd_noninter_protocols.proofs.Blocks.{all_told}
use Rattle.vd_noninter_protocols.proofs.InClear.{in_clear}

all_dropped : (xs : List ℕ) → drop 0 xs ≡ xs
all_dropped [] = refl
all_dropped (x ∷ xs) = refl

module _ (p : NormalForm) (l : Labels) (protocols : List Proto) (chosen : IsValidFor p l protocols) (h : HostId) (known : h.0 < length p.hosts) (inputs : List (List ℕ)) (t : Tape) (dealt : IsDealt inputs t) where
  can : CanRun p (proto_in protocols) inputs t
  can = can_run p l protocols chosen inputs dealt.words t dealt.deal dealt.given

  laws : Laws (machine t (inputs_of inputs)) (suite t (inputs_of inputs) (length p.hosts))
  laws = suite_laws t dealt.deal (inputs_of inputs) dealt.given (length p.hosts)

  starts : Starts (machine t (inputs_of inputs)) inputs fresh
  starts = record {
    sound = record { words = λ g r. omega arith; triples = λ g q. refl; bit_triples = λ g q. refl; pairs = λ g q. refl };
    printed = λ g. refl;
    waiting = λ g. all_dropped (inputs_of inputs g);
    words = dealt.words;
  }

  few : h.0 < 8
  few = let le = chosen.made.limits.hosts in omega (arith, le, known)

  row : InRow 0 (slots (block_of p.body))
  row = row_of 0 (length p.slots) (slots (block_of p.body)) (sym (ap concat (fold_each slots_step p.body)) ∙ chosen.made.in_order)

  seen : (sees (block_of p.body) nothing_seen).all ≡ true
  seen = ap (λ (s : List Seeing). (seeing_all s nothing_seen).all) (sym (fold_each seeing_step p.body)) ∙ chosen.made.made_before

  low : list_all (λ x. x) (each (stmt_below (length protocols)) (block_of p.body)) ≡ true
  low =
      subst (λ n. list_all (λ x. x) (each (stmt_below n) (block_of p.body)) ≡ true) (sym (each_has p l protocols chosen))
      (ap (list_all (λ x. x)) (sym (fold_each (stmt_below (length p.slots)) p.body)) ∙ (well_made_scoped p chosen.made).named_slots)

  tells : told (machine t (inputs_of inputs)) (suite t (inputs_of inputs) (length p.hosts)).calls protocols h (block_of p.body)
      (emitting_at_start (suite t (inputs_of inputs) (length p.hosts)).calls (proto_in protocols)) fresh
      ≡ heard_in_order (each (heard_step protocols h l) (block_of p.body)) 0 (start p inputs)
  tells =
      let m = machine t (inputs_of inputs) in
      let s = suite t (inputs_of inputs) (length p.hosts) in
      let proto = proto_in protocols in
      all_told m s protocols h l laws can.over (λ w q x v. in_clear w h few q x v) known (block_of p.body) nothing_seen 0 row seen (all_fit p chosen.made chosen.numbers) can.valid low
      (emitting_at_start s.calls proto) fresh (start p inputs) 0 (λ g. false) refl (λ g i. absurd (no_turns m s proto p chosen.made g i)) (omega arith)
      (tied_at_start m s proto (length p.hosts) refl inputs fresh starts) (λ g lt i. absurd (wrong i))
    where
      wrong : false ≡ true → ⊥
      wrong e = cc

pub tells_what_is_heard : TellsWhatIsHeard
tells_what_is_heard p l protocols chosen h known inputs t dealt =
    tells p l protocols chosen h known inputs t dealt ∙ ap (λ (b : List Heard). heard_in_order b 0 (start p inputs)) (sym (fold_each (heard_step protocols h l) p.body))

-- what the host prints is what the program tells it
prints : (p : NormalForm) (l : Labels) (protocols : List Proto) → IsValidFor p l protocols → (h : HostId) → h.0 < length p.hosts → (inputs : List (List ℕ)) (t : Tape) → IsDealt inputs t → printed_words p protocols h t ≡ outputs_to p h inputs
prints p l protocols chosen h known inputs t dealt =
    let runs = assignments_tell_the_same p l protocols chosen inputs dealt.words t dealt.deal dealt.given in
    sym (get_or-map-range_with_len (λ k. (joint t (code_at (proto_in protocols) p) fresh k).printed) 0 (length p.hosts) h.0 h.0 [] known (omega arith))
    ∙ ap (λ (o : List (List ℕ)). slice_index_or o h.0 []) runs.prints

-- what holds of the clear run holds of the joint run
only : (p : NormalForm) (l : Labels) (h : HostId) (released : ℕ → ℕ → Bool) (known kept : ℕ → Bool) → IsWellMade p → HearsOnlyAssigned p l h released known → LearnsOnly p h released known kept → TellsOnlyAssigned p l h released known
only p l h released known kept well hears learns numbers declared protocols assigned first second t u dealt dealt' same declassified =
    let chosen : IsValidFor p l protocols = record { made = well; numbers = numbers; assignment = assigned } in
    record {
      words = tells_what_is_heard p l protocols chosen h declared first t dealt ∙ hears declared protocols assigned first second same declassified ∙ sym (tells_what_is_heard p l protocols chosen h declared second u dealt');
      prints = prints p l protocols chosen h declared first t dealt ∙ (learns first second same declassified).0 ∙ sym (prints p l protocols chosen h declared second u dealt');
    }

pub told_readable : OfEachHost (λ p l h. TellsOnlyAssigned p l h (becomes_readable_to p l h) (reads_host p h))
told_readable p l h well satisfies = only p l h (becomes_readable_to p l h) (reads_host p h) (in_view p l h) well (all_hear_readable p l h well satisfies) (reads_learns p l h well satisfies)

pub told_reached : OfEachHost (λ p l h. (hosts : ℕ → Bool) → AreReached p l h hosts → TellsOnlyAssigned p l h (reads_result p l h) hosts)
told_reached p l h well satisfies hosts are =
    only p l h (reads_result p l h) hosts (reached_in_view p l h are.reach) well (all_hear_reached p l h well satisfies hosts are) (reached_are_enough p l h well satisfies hosts are are.reach are.dependence)
