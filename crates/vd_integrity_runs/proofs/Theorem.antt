-- What hosts that keep to their programs print in a whole run in which others depart.
use Rattle.std.proofs.Common.{◌≡◌, ℕ, zero, suc, ◌+◌, ◌^◌, ◌<◌, ◌≤◌, nat_eq, ◌||◌, Bool, true, false, true≢false, if◌then◌else◌, List, [], ◌∷◌, ◌++◌, inl, length, drop, map, replicate, slice_index, slice_index_or, refl, sym, ap, subst, ◌∙◌, arith}
use Rattle.std.specs.Prelude.{filter}
use Rattle.std.specs.List.{concat, list_all, list_any, range_with_len, All}
use Rattle.std.proofs.lemmas.Bool.{and_parts, eqb-true}
use Rattle.vd_base.specs.declared.ids.HostId.{HostId}
use Rattle.vd_base.specs.declared.protocols.Proto.{Proto}
use Rattle.vd_base.specs.declared.protocols.Proto.TheVariants.{Local, Rep, Commit, Add, Xor}
use Rattle.vd_base.specs.HostSets.{has_host, host}
use Rattle.vd_base.specs.Holders.{proto_in}
use Rattle.vd_core.specs.declared.normal.NormalForm.{NormalForm}
use Rattle.vd_core.specs.Facts.{is_binding, nothing_seen, Seeing, slots_step, seeing_step, seeing_all, IsWellMade}
use Rattle.vd_constraints.specs.declared.labels.Labels.{Labels}
use Rattle.vd_constraints.specs.Rules.{system_of}
use Rattle.vd_constraints.specs.Satisfies.{Satisfies}
use Rattle.vd_constraints.specs.Scoped.{stmt_below}
use Rattle.vd_constraints.proofs.Front.{well_made_scoped}
use Rattle.vd_space.specs.Reading.{problem_of}
use Rattle.vd_execution.specs.Joint.{Hosts, fresh}
use Rattle.vd_execution.specs.World.{Tape}
use Rattle.vd_split.specs.Block.{block_of, each}
use Rattle.vd_split.specs.Emission.{Emission, Emitting, emitting_at_start, in_turn, parts_at, stmt_emission}
use Rattle.vd_split.specs.Validity.{emission_of}
use Rattle.vd_core.specs.Numbers.{NumbersFit}
use Rattle.vd_split.specs.Outcome.{Starts}
use Rattle.vd_split.proofs.Front.{fold_each, InRow, row_of, Use, Binding, Variable, Array, Sees, slots, sees, all_fit, no_turns, tied_at_start}
use Rattle.vd_semantics.specs.ProgramMeaning.{word_at}
use Rattle.vd_backend_laws.specs.Machine.{machine}
use Rattle.vd_backend_laws.specs.Parts.{suite_calls}
use Rattle.vd_backend_laws.specs.Suite.{suite}
use Rattle.vd_backend_laws.specs.Whole.{inputs_of, CanRun}
use Rattle.vd_backend_laws.proofs.Front.{has_member}
use Rattle.vd_projection.specs.Assignments.{IsValidFor}
use Rattle.vd_projection.proofs.Front.{can_run}
use Rattle.vd_noninter.specs.Flowing.{Knowledge, all_flow, flow_step}
use Rattle.vd_noninter.specs.Reading.{start, visible_slots}
use Rattle.vd_noninter.specs.Watching.{nothing}
use Rattle.vd_noninter.proofs.Front.{times, body_splits}
use Rattle.vd_noninter.specs.Trust.{OfEachProgram, against, becomes_trusted, trusts_slot}
use Rattle.vd_noninter.proofs.Front.{knowledge, against_is_trust, trusted_flows}
use Rattle.vd_space.specs.Cheapest.{IsAssignment}
use Rattle.vd_noninter_protocols.specs.Keeping.{is_kept}
use Rattle.vd_noninter_protocols.proofs.Front.{words_guarded}
use Rattle.vd_noninter_protocols.specs.Told.{IsDealt}
use Rattle.vd_integrity_runs.specs.Copies.{IsInClear}
use Rattle.vd_integrity_runs.specs.Departing.{AreRight}
use Rattle.vd_integrity_runs.specs.Endorsed.{Doing, Given, all_done, given_step}
use Rattle.vd_integrity_runs.proofs.Hiding.{run_of}
use Rattle.vd_integrity_runs.specs.Trusted.{Begins, FrontsAreExplained, IsExplained, IsExplainedSoFar, RunsAreExplained, RunsIntoAttack, RunsWithAttackers, StandInClear, parts_at_end}
use Rattle.vd_integrity_runs.proofs.Calls.{IsKeptAt}
use Rattle.vd_integrity_runs.proofs.Statements.{given}
use Rattle.vd_integrity_runs.proofs.Stopping.{Stopped, block_stops}
use Rattle.vd_integrity_runs.proofs.Blocks.{block_leads, Goes, Right'}

-- ---- a visible slot is one of the program's
there_once : (x : ℕ) (xs : List ℕ) → list_any (nat_eq x) xs ≡ true → 1 ≤ times x xs
there_once x [] is = absurd (true≢false (sym is))
there_once x (y ∷ ys) is = by (λ more. there_once x ys more) (nat_eq x y) is
  where
    by : (list_any (nat_eq x) ys ≡ true → 1 ≤ times x ys) → (b : Bool) → (b || list_any (nat_eq x) ys) ≡ true → 1 ≤ (if b then suc (times x ys) else times x ys)
    by again true is = omega arith
    by again false is = again is

within_range : (x k n : ℕ) → 1 ≤ times x (range_with_len k n) → x < k + n
within_range x k zero few = absurd (omega (arith, few))
within_range x k (suc n) few = by (λ more. within_range x (k + 1) n more) (nat_eq x k) refl few
  where
    here : x ≡ k → x < k + suc n
    here e = omega (arith, e)

    further : x < k + 1 + n → x < k + suc n
    further lt = omega (arith, lt)

    by : (1 ≤ times x (range_with_len (k + 1) n) → x < k + 1 + n) → (b : Bool) → nat_eq x k ≡ b → 1 ≤ (if b then suc (times x (range_with_len (k + 1) n)) else times x (range_with_len (k + 1) n)) → x < k + suc n
    by again true e more = here (eqb-true x k e)
    by again false e more = further (again more)

-- ---- a host that keeps, where a word stands
found_member : (f test : HostId → Bool) (a m : ℕ) → list_any f (filter test (map host (range_with_len a m))) ≡ true → (h : ℕ) × ((f (host h) ≡ true) × ((test (host h) ≡ true) × (h < a + m)))
found_member f test a zero some = absurd (true≢false (sym some))
found_member f test a (suc m) some = by (λ more. found_member f test (a + 1) m more) (test (host a)) refl some
  where
    low : a < a + suc m
    low = omega arith

    further : {h : ℕ} → h < a + 1 + m → h < a + suc m
    further lt = omega (arith, lt)

    later : (h : ℕ) × ((f (host h) ≡ true) × ((test (host h) ≡ true) × (h < a + 1 + m))) → (h : ℕ) × ((f (host h) ≡ true) × ((test (host h) ≡ true) × (h < a + suc m)))
    later q = (q.0, (q.1.0, (q.1.1.0, further q.1.1.1)))

    first : (list_any f (filter test (map host (range_with_len (a + 1) m))) ≡ true → (h : ℕ) × ((f (host h) ≡ true) × ((test (host h) ≡ true) × (h < a + 1 + m)))) → test (host a) ≡ true → (c : Bool) → f (host a) ≡ c
        → (c || list_any f (filter test (map host (range_with_len (a + 1) m)))) ≡ true → (h : ℕ) × ((f (host h) ≡ true) × ((test (host h) ≡ true) × (h < a + suc m)))
    first again there true is more = (a, (is, (there, low)))
    first again there false is more = later (again more)

    by : (list_any f (filter test (map host (range_with_len (a + 1) m))) ≡ true → (h : ℕ) × ((f (host h) ≡ true) × ((test (host h) ≡ true) × (h < a + 1 + m)))) → (b : Bool) → test (host a) ≡ b
        → list_any f (if b then host a ∷ filter test (map host (range_with_len (a + 1) m)) else filter test (map host (range_with_len (a + 1) m))) ≡ true
        → (h : ℕ) × ((f (host h) ≡ true) × ((test (host h) ≡ true) × (h < a + suc m)))
    by again true there more = first again there (f (host a)) refl more
    by again false there more = later (again more)

kept_somewhere : (keeps : ℕ → Bool) (n : ℕ) → n ≤ 8 → (q : Proto) → IsInClear q → is_kept (λ h. keeps h.0) n q ≡ true → IsKeptAt keeps q
kept_somewhere keeps n few (Local h) clear is = (h.0, (inl refl, is))
kept_somewhere keeps n few (Rep set) clear is =
    let found = found_member (λ h. keeps h.0) (has_host set) 0 n is in
    let less = found.1.1.1 in
    (found.0, (has_member set (host found.0) (omega (arith, few, less)) found.1.1.0, found.1.0))
kept_somewhere keeps n few (Commit p v) clear is = absurd clear
kept_somewhere keeps n few (Add a b) clear is = absurd clear
kept_somewhere keeps n few (Xor a b) clear is = absurd clear

-- what is beyond the list stands at the first host
each_in_clear : (protocols : List Proto) → All IsInClear protocols → (x : ℕ) → IsInClear (proto_in protocols x)
each_in_clear [] all x = tt
each_in_clear (q ∷ protocols) all zero = all 0 (Local (host 0)) (omega arith)
each_in_clear (q ∷ protocols) all (suc x) = each_in_clear protocols (λ j e lt. all (suc j) e (omega (arith, lt))) x

none_seen : (u : Use) (x : ℕ) → Sees nothing_seen u x → ⊥
none_seen Binding x i = true≢false (sym i)
none_seen Variable x i = true≢false (sym i)
none_seen Array x i = true≢false (sym i)

none_told : (n h : ℕ) → let none : List ℕ = [] in slice_index_or (replicate n none) h none ≡ none
none_told zero h = refl
none_told (suc n) zero = refl
none_told (suc n) (suc h) = none_told n h

so_many : {A : Type 0} (n : ℕ) (x : A) → length (replicate n x) ≡ n
so_many zero x = refl
so_many (suc n) x = ap suc (so_many n x)

all_dropped : (xs : List ℕ) → drop 0 xs ≡ xs
all_dropped [] = refl
all_dropped (x ∷ xs) = refl

from_zero : (i : ℕ) → 0 + i ≡ i
from_zero i = omega arith

module _ (p : NormalForm) (l : Labels) (well : IsWellMade p) (satisfies : Satisfies (system_of p) l) (numbers : NumbersFit p) (protocols : List Proto) (assigned : IsAssignment (problem_of p l) protocols) (in_clear : StandInClear protocols) (set : ℕ) (low : set < 2 ^ length p.principals)
    (inputs : List (List ℕ)) (t : Tape) (dealt : IsDealt inputs t) where
  abbrev n : ℕ
  n = length p.hosts

  abbrev proto : ℕ → Proto
  proto = proto_in protocols

  abbrev view : ℕ → Bool
  view x = list_any (nat_eq x) (visible_slots (trusts_slot l (against set)) p.body)

  abbrev k : Knowledge
  k = knowledge p l (against set) (becomes_trusted l (against set)) nothing (λ x. list_any (nat_eq x) (visible_slots (trusts_slot l (against set)) p.body))

  clear : (x : ℕ) → IsInClear (proto_in protocols x)
  clear x = each_in_clear protocols in_clear x

  chosen : IsValidFor p l protocols
  chosen = record { made = well; numbers = numbers; assignment = assigned }

  can : CanRun p (proto_in protocols) inputs t
  can = can_run p l protocols chosen inputs dealt.words t dealt.deal dealt.given

  guarded : (x : ℕ) → x < length p.slots → trusts_slot l (against set) x ≡ true → IsKeptAt k.known (proto x)
  guarded x less is = kept_somewhere k.known n (let few = well.limits.hosts in omega (arith, few)) (proto x) (clear x) ((words_guarded p l well satisfies protocols assigned set low (record { 0 = x }) less).kept is)

  visible_low : (x : ℕ) → view x ≡ true → x < length p.slots
  visible_low x is =
      let once = there_once x (visible_slots (trusts_slot l (against set)) p.body) is in
      let splits = body_splits (trusts_slot l (against set)) x p.body in
      let same = ap (times x) well.in_order in
      let less = within_range x 0 (length p.slots) (omega (arith, once, splits, same)) in
      omega (arith, less)

  stays : (x : ℕ) → k.kept x ≡ true → IsKeptAt k.known (proto x)
  stays x is = let parts = and_parts (trusts_slot l (against set) x) (view x) is in guarded x (visible_low x parts.1) parts.0

  endorses : (x y : ℕ) → x < length p.slots → k.given.endorsed x y ≡ true → IsKeptAt k.known (proto x)
  endorses x y less is = guarded x less (and_parts (trusts_slot l (against set) x) _ is).0

  starts : Starts (machine t (inputs_of inputs)) inputs fresh
  starts = record {
    sound = record { words = λ g r. omega arith; triples = λ g q. refl; bit_triples = λ g q. refl; pairs = λ g q. refl };
    printed = λ g. refl;
    waiting = λ g. all_dropped (inputs_of inputs g);
    words = dealt.words;
  }

  row : InRow 0 (slots (block_of p.body))
  row = row_of 0 (length p.slots) (slots (block_of p.body)) (sym (ap concat (fold_each slots_step p.body)) ∙ well.in_order)

  seen : (sees (block_of p.body) nothing_seen).all ≡ true
  seen = ap (λ (s : List Seeing). (seeing_all s nothing_seen).all) (sym (fold_each seeing_step p.body)) ∙ well.made_before

  named : list_all (λ x. x) (each (stmt_below (length p.slots)) (block_of p.body)) ≡ true
  named = ap (list_all (λ x. x)) (sym (fold_each (stmt_below (length p.slots)) p.body)) ∙ (well_made_scoped p well).named_slots

  flowing : all_flow (each (flow_step k) (block_of p.body)) ≡ true
  flowing = ap all_flow (sym (fold_each (flow_step k) p.body)) ∙ trusted_flows p l well satisfies (against set) (against_is_trust (length p.principals) set low)

  begins : Right' n t dealt.deal (inputs_of inputs) dealt.given proto clear can.over k (λ x y. refl) stays (λ h is. is) (length p.slots) endorses (λ x y. (refl, refl)) (λ h is. is) nothing_seen [] fresh (start p inputs)
  begins = record {
    right = λ u x i. absurd (none_seen u x i);
    small = λ u x i. absurd (none_seen u x i);
    outer = record {
      printed = λ h keep. sym (none_told (length p.hosts) h);
      waiting = λ h keep i. ap (slice_index (inputs_of inputs h)) (from_zero i);
      words = λ h keep i. dealt.words h i;
      known = so_many (length p.hosts) [];
    };
  }

  module _ (w : Hosts) (run : RunsWithAttackers p l protocols set t w) where
    abbrev e0 : Emitting (suite_calls n) proto
    e0 = emitting_at_start (suite_calls n) proto

    leads : Goes n t dealt.deal (inputs_of inputs) dealt.given proto clear can.over k (λ x y. refl) stays (λ h is. is) (length p.slots) endorses (λ x y. (refl, refl)) (λ h is. is) nothing_seen (sees (block_of p.body) nothing_seen).after e0.next e0.held ((emission_of (machine t (inputs_of inputs)) (suite t (inputs_of inputs) n) proto (block_of p.body)).emit e0).state.held (run_of k (block_of p.body)) 0 fresh w (start p inputs)
    leads =
        block_leads n t dealt.deal (inputs_of inputs) dealt.given proto clear can.over k (λ x y. refl) stays (λ h is. is) (length p.slots) endorses (λ x y. (refl, refl)) (λ h is. is)
        (block_of p.body) nothing_seen 0 row seen (all_fit p well numbers) can.valid named flowing (emitting_at_start (suite t (inputs_of inputs) n).calls proto) fresh (start p inputs) 0 (λ g. false) refl
        (λ g i. absurd (no_turns (machine t (inputs_of inputs)) (suite t (inputs_of inputs) n) proto p well g i)) (omega arith)
        (tied_at_start (machine t (inputs_of inputs)) (suite t (inputs_of inputs) n) proto n refl inputs fresh starts) (λ g lt i. absurd (true≢false (sym i))) fresh w (start p inputs) begins (λ h less i. absurd (true≢false (sym i))) run

    explained : IsExplained p l protocols set inputs w
    explained = record {
      words = leads.words ++ [];
      printed = λ h less keep.
          leads.trust.outer.printed h.0 keep
          ∙ ap (λ (z : Given). slice_index_or z.state.world.outputs h.0 [])
          (sym (ap (λ (fs : List Doing). all_done fs 0 (given (start p inputs) (leads.words ++ []))) (fold_each (given_step (becomes_trusted l (against set))) p.body) ∙ leads.runs []));
      held = λ x sees_x there.
          let right = leads.trust.right Binding x.0 (ap (λ (ss : List Seeing). is_binding (seeing_all ss nothing_seen).after x) (sym (fold_each seeing_step p.body)) ∙ sees_x) there in
          let run_is = ap (λ (fs : List Doing). all_done fs 0 (given (start p inputs) (leads.words ++ []))) (fold_each (given_step (becomes_trusted l (against set))) p.body) ∙ leads.runs [] in
          subst (λ (z : Given). AreRight k.known w (parts_at_end p protocols x).at (word_at z.state x)) (sym run_is)
          (subst (λ (fs : List (Emission (suite_calls n) proto)). AreRight k.known w (parts_at (suite_calls n) proto ((in_turn (suite_calls n) proto fs).emit e0).state x).at (word_at leads.after x)) (sym (fold_each (stmt_emission (suite_calls n) proto) p.body)) right);
    }

  module _ (w : Hosts) (run : RunsIntoAttack p l protocols set t w) where
    stopped : Stopped n t dealt.deal (inputs_of inputs) dealt.given proto clear can.over k (λ x y. refl) stays (λ h is. is) (length p.slots) endorses (λ x y. (refl, refl)) (λ h is. is) (run_of k (block_of p.body)) 0 w (start p inputs)
    stopped =
        block_stops n t dealt.deal (inputs_of inputs) dealt.given proto clear can.over k (λ x y. refl) stays (λ h is. is) (length p.slots) endorses (λ x y. (refl, refl)) (λ h is. is)
        (block_of p.body) nothing_seen 0 row seen (all_fit p well numbers) can.valid named flowing (emitting_at_start (suite t (inputs_of inputs) n).calls proto) fresh (start p inputs) 0 (λ g. false) refl
        (λ g i. absurd (no_turns (machine t (inputs_of inputs)) (suite t (inputs_of inputs) n) proto p well g i)) (omega arith)
        (tied_at_start (machine t (inputs_of inputs)) (suite t (inputs_of inputs) n) proto n refl inputs fresh starts) (λ g lt i. absurd (true≢false (sym i))) fresh w (start p inputs) begins (λ h less i. absurd (true≢false (sym i))) run

    explained_so_far : IsExplainedSoFar p l set inputs w
    explained_so_far = record {
      words = stopped.words;
      printed = λ h less keep.
          subst (λ (z : Given). Begins (w h.0).printed (slice_index_or z.state.world.outputs h.0 []))
          (sym (ap (λ (fs : List Doing). all_done fs 0 (given (start p inputs) stopped.words)) (fold_each (given_step (becomes_trusted l (against set))) p.body))) (stopped.front h.0 keep);
    }

pub runs_explained : OfEachProgram (λ p l. RunsAreExplained p l)
runs_explained p l well satisfies numbers protocols assigned clear set low inputs t dealt w run = explained p l well satisfies numbers protocols assigned clear set low inputs t dealt w run

pub fronts_explained : OfEachProgram (λ p l. FrontsAreExplained p l)
fronts_explained p l well satisfies numbers protocols assigned clear set low inputs t dealt w run = explained_so_far p l well satisfies numbers protocols assigned clear set low inputs t dealt w run
