-- Where the calls of the suite have instructions.
use Rattle.std.proofs.Common.{◌≡◌, ℕ, ◌^◌, ◌<◌, ◌≤◌, nat_eq, ◌||◌, Bool, true, false, if◌then◌else◌, IsTrue, List, [], ◌∷◌, ◌⊎◌, inl, inr, map, refl, sym, ap, subst, ◌∙◌, arith}
use Rattle.std.specs.List.{list_any}
use Rattle.std.proofs.lemmas.Bool.{eq-eqb, eqb-true}
use Rattle.vd_base.specs.declared.ids.HostId.{HostId}
use Rattle.vd_base.specs.declared.operations.Op.{Op}
use Rattle.vd_base.specs.declared.protocols.Proto.{Proto}
use Rattle.vd_base.specs.declared.protocols.Proto.TheVariants.{Local, Rep, Commit, Add, Xor}
use Rattle.vd_base.specs.declared.rows.Row.TheVariants.{Constant, Input}
use Rattle.vd_base.specs.HostSets.{host}
use Rattle.vd_base.specs.Holders.{holders, is_holder, is_among}
use Rattle.vd_base.proofs.Front.{holder_is_listed}
use Rattle.vd_execution.specs.declared.instructions.Reg.{Reg}
use Rattle.vd_execution.specs.declared.instructions.Action.TheVariants as action
use Rattle.vd_execution.specs.World.{Tape}
use Rattle.vd_execution.specs.Deals.{IsValidDeal}
use Rattle.vd_execution.specs.Joint.{Part, Hosts}
use Rattle.vd_execution.specs.Acts.{run_acts}
use Rattle.vd_execution.specs.Gadgets.{Gadget, Alone, acts_of_gadget, GadgetIsTidy, GadgetsAreTidy}
use Rattle.vd_duet.specs.Calls.{Places as RegisterPlaces, hosts_of, Made, register_of}
use Rattle.vd_duet.specs.Laws.{IsHost}
use Rattle.vd_duet.specs.Acting.{is_either, acts_at, pass_at, told_at, apply_at, is_negation, ActsWhereItSays}
use Rattle.vd_duet.proofs.Front.{tidy_append}
use Rattle.vd_duet.specs.Builder.{next_at}
use Rattle.vd_clear.specs.Copies.{written_by, each_made}
use Rattle.vd_clear.proofs.Front.{each_acts, clear_acts, spread_acts}
use Rattle.vd_words.proofs.Front.{add_acts}
use Rattle.vd_bits.proofs.Front.{circuit_acts}
use Rattle.vd_circuit.specs.CircuitCalls.{circuit_serves}
use Rattle.vd_convert.proofs.Front.{conversions_act}
use Rattle.vd_commit.specs.Commit.{revealed}
use Rattle.vd_commit.proofs.Front.{commitments_act}
use Rattle.vd_split.specs.Joint.{Each, AllFine}
use Rattle.vd_split.specs.Suite.{Word, Ready, Operand}
use Rattle.vd_split.specs.ChoreographyPlaces.{Where, Places}
use Rattle.vd_split.proofs.Front.{or_left, or_right, or_cases}
use Rattle.vd_backend_laws.specs.Machine.{machine}
use Rattle.vd_backend_laws.specs.Commits.{held_of, seen_of, taken_over}
use Rattle.vd_backend_laws.specs.Moves.{moved, moved_at, only}
use Rattle.vd_backend_laws.specs.Parts.{Parts, has_back_end, back_end, route, turn_part, turned, zeros_at, index_of, cell_written}
use Rattle.vd_backend_laws.specs.Suite.{IsOver, holds, joins, suite}
use Rattle.vd_backend_laws.proofs.Standing.{no_back_end, cells_of}
use Rattle.vd_backend_laws.proofs.Over.{host_known, holder_at, among_host}
use Rattle.vd_backend_laws.proofs.Gives.{M, S, proto_is, serves, laws_of, for_constant, for_variable, for_operation, ready_at, operand_at, operands_at}
use Rattle.vd_backend_laws.proofs.BackEnds.{length_map, move_law}
use Rattle.vd_backend_laws.proofs.SuiteLaws.{input_stands}

-- ---- the hosts of the tables

some_of : (f : HostId → Bool) (hs : List HostId) → list_any f hs ≡ true → (k : HostId) × IsHost hs k.0 × (f k ≡ true)
some_of f [] e = absurd (wrong e)
  where
    wrong : false ≡ true → ⊥
    wrong e = cc
some_of f (h ∷ hs) e = at (some_of f hs) (or_cases (f h) (list_any f hs) e)
  where
    at : (list_any f hs ≡ true → (k : HostId) × IsHost hs k.0 × (f k ≡ true)) → (f h ≡ true) ⊎ (list_any f hs ≡ true) → (k : HostId) × IsHost (h ∷ hs) k.0 × (f k ≡ true)
    at again (inl i) = (h, inl refl, i)
    at again (inr i) = let q = again i in (q.0, inr q.1, q.2)

either_of : (h : ℕ) (a b : HostId) → is_either h a b ≡ true → (h ≡ a.0) ⊎ (h ≡ b.0)
either_of h a b e = at (or_cases (nat_eq h a.0) (nat_eq h b.0) e)
  where
    at : (nat_eq h a.0 ≡ true) ⊎ (nat_eq h b.0 ≡ true) → (h ≡ a.0) ⊎ (h ≡ b.0)
    at (inl i) = inl (eqb-true h a.0 i)
    at (inr i) = inr (eqb-true h b.0 i)

two_hosts : (h : ℕ) (a b : HostId) → is_either h a b ≡ true → IsHost (a ∷ b ∷ []) h
two_hosts h a b e = at (either_of h a b e)
  where
    at : (h ≡ a.0) ⊎ (h ≡ b.0) → IsHost (a ∷ b ∷ []) h
    at (inl i) = inl i
    at (inr i) = inr (inl i)

-- where a word passes between two hosts, it is one of them
passing : (h : ℕ) (a b : HostId) → pass_at a b h ≡ true → (h ≡ a.0) ⊎ (h ≡ b.0)
passing h a b e = at (nat_eq a.0 b.0) e
  where
    at : (same : Bool) → (if same then false else is_either h a b) ≡ true → (h ≡ a.0) ⊎ (h ≡ b.0)
    at true e = cc
    at false e = either_of h a b e

telling : (hs : List HostId) (to : HostId) (h : ℕ) → told_at hs to h ≡ true → IsHost hs h ⊎ (h ≡ to.0)
telling hs to h e = at (is_among hs to.0) e
  where
    one : (k : HostId) → IsHost hs k.0 → (h ≡ k.0) ⊎ (h ≡ to.0) → IsHost hs h ⊎ (h ≡ to.0)
    one k i (inl j) = inl (subst (IsHost hs) (sym j) i)
    one k i (inr j) = inr j

    at : (own : Bool) → (if own then false else list_any (λ k. is_either h k to) hs) ≡ true → IsHost hs h ⊎ (h ≡ to.0)
    at true e = cc
    at false e = let q = some_of (λ k. is_either h k to) hs e in one q.0 q.1 (either_of h q.0 to q.2)

-- a move has instructions at hosts of its two protocols alone
moving : (p q : Proto) (h : ℕ) → moved_at (route p q) p q h ≡ true → IsHost (holders p) h ⊎ IsHost (holders q) h
moving (Local k) (Local j) h e = at (passing h k j e)
  where
    at : (h ≡ k.0) ⊎ (h ≡ j.0) → IsHost (k ∷ []) h ⊎ IsHost (j ∷ []) h
    at (inl i) = inl (inl i)
    at (inr i) = inr (inl i)
moving (Local k) (Rep set) h e =
    let q = some_of (λ j. pass_at k j h) (holders (Rep set)) e in at q.0 q.1 (passing h k q.0 q.2)
  where
    at : (j : HostId) → IsHost (holders (Rep set)) j.0 → (h ≡ k.0) ⊎ (h ≡ j.0) → IsHost (k ∷ []) h ⊎ IsHost (holders (Rep set)) h
    at j i (inl z) = inl (inl z)
    at j i (inr z) = inr (subst (IsHost (holders (Rep set))) (sym z) i)
moving (Local k) (Commit a b) h e = inr (two_hosts h a b e)
moving (Local k) (Add a b) h e = inr (two_hosts h a b e)
moving (Local k) (Xor a b) h e = inr (two_hosts h a b e)
moving (Rep set) (Local k) h e = at (telling (holders (Rep set)) k h e)
  where
    at : IsHost (holders (Rep set)) h ⊎ (h ≡ k.0) → IsHost (holders (Rep set)) h ⊎ IsHost (k ∷ []) h
    at (inl i) = inl i
    at (inr i) = inr (inl i)
moving (Rep set) (Rep other) h e =
    let q = some_of (λ k. told_at (holders (Rep set)) k h) (holders (Rep other)) e in at q.0 q.1 (telling (holders (Rep set)) q.0 h q.2)
  where
    at : (k : HostId) → IsHost (holders (Rep other)) k.0 → IsHost (holders (Rep set)) h ⊎ (h ≡ k.0) → IsHost (holders (Rep set)) h ⊎ IsHost (holders (Rep other)) h
    at k i (inl z) = inl z
    at k i (inr z) = inr (subst (IsHost (holders (Rep other))) (sym z) i)
moving (Rep set) (Commit a b) h e = no_back_end e
moving (Rep set) (Add a b) h e = inr (inr (inl (eqb-true h b.0 e)))
moving (Rep set) (Xor a b) h e = inr (inr (inl (eqb-true h b.0 e)))
moving (Commit a b) (Local k) h e = at (nat_eq k.0 a.0) e
  where
    at : (own : Bool) → (if own then false else is_either h a b) ≡ true → IsHost (a ∷ b ∷ []) h ⊎ IsHost (k ∷ []) h
    at true e = no_back_end e
    at false e = inl (two_hosts h a b e)
moving (Commit a b) (Rep set) h e = inl (two_hosts h a b e)
moving (Commit a b) (Commit c d) h e = no_back_end e
moving (Commit a b) (Add c d) h e = inr (inr (inl (eqb-true h d.0 e)))
moving (Commit a b) (Xor c d) h e = inr (inr (inl (eqb-true h d.0 e)))
moving (Add a b) (Local k) h e = inl (two_hosts h a b e)
moving (Add a b) (Rep set) h e = inl (two_hosts h a b e)
moving (Add a b) (Xor c d) h e = inr (two_hosts h c d e)
moving (Add a b) (Commit c d) h e = no_back_end e
moving (Add a b) (Add c d) h e = no_back_end e
moving (Xor a b) (Local k) h e = inl (two_hosts h a b e)
moving (Xor a b) (Rep set) h e = inl (two_hosts h a b e)
moving (Xor a b) (Add c d) h e = inr (two_hosts h c d e)
moving (Xor a b) (Commit c d) h e = no_back_end e
moving (Xor a b) (Xor c d) h e = no_back_end e

applying : (o : Op) (p : Proto) (h : ℕ) → apply_at o p h ≡ true → IsHost (holders p) h
applying o (Local k) h e = among_host (holders (Local k)) h e
applying o (Rep set) h e = among_host (holders (Rep set)) h e
applying o (Commit a b) h e = two_hosts h a b e
applying o (Add a b) h e = two_hosts h a b e
applying o (Xor a b) h e = at (is_negation o) e
  where
    at : (alone : Bool) → (if alone then nat_eq h a.0 else is_either h a b) ≡ true → IsHost (a ∷ b ∷ []) h
    at true e = inl (eqb-true h a.0 e)
    at false e = two_hosts h a b e

moves_inside : (p q : Proto) (h : ℕ) → moved_at (route p q) p q h ≡ true → (is_holder p (host h) || is_holder q (host h)) ≡ true
moves_inside p q h e = at (moving p q h e)
  where
    at : IsHost (holders p) h ⊎ IsHost (holders q) h → (is_holder p (host h) || is_holder q (host h)) ≡ true
    at (inl i) = or_left (is_holder p (host h)) (is_holder q (host h)) (holder_at p h i)
    at (inr i) = or_right (is_holder p (host h)) (is_holder q (host h)) (holder_at q h i)

input_inside : (k : HostId) (p : Proto) (h : ℕ) → holds (Input k) p ≡ true → nat_eq k.0 h ≡ true → is_holder p (host h) ≡ true
input_inside k p h e i = subst (λ (z : Proto). is_holder z (host h) ≡ true) (sym (input_stands k p e)) i

-- ---- gadgets

acts_of : (p : Proto) → has_back_end p ≡ true → ActsWhereItSays (back_end p)
acts_of (Local h) e = clear_acts (Local h) tt
acts_of (Rep set) e = clear_acts (Rep set) tt
acts_of (Commit a b) e = no_back_end e
acts_of (Add a b) e = add_acts a b
acts_of (Xor a b) e = circuit_acts a b circuit_serves (λ o can. can)

all_tidy : (gadgets : List Gadget) → GadgetsAreTidy gadgets → Each GadgetIsTidy gadgets
all_tidy [] e = tt
all_tidy (g ∷ gadgets) e = (e.0, all_tidy gadgets e.1)

each_tidy : (f : HostId → List ℕ → Made Reg) → ((h : HostId) (next : List ℕ) → GadgetsAreTidy (f h next).gadgets) → (hs : List HostId) (next : List ℕ) → GadgetsAreTidy (each_made f hs next).gadgets
each_tidy f tidy [] next = tt
each_tidy f tidy (h ∷ hs) next = tidy_append (f h next).gadgets (each_made f hs (f h next).next).gadgets (tidy h next) (each_tidy f tidy hs (f h next).next)

or_false : (b : Bool) → (b || false) ≡ b
or_false true = refl
or_false false = refl

-- acts that can be taken are well formed
fine_tidy : (t : Tape) (inputs : ℕ → List ℕ) (gadgets : List Gadget) (w : Hosts) → AllFine (machine t inputs) gadgets w → Each GadgetIsTidy gadgets
fine_tidy t inputs [] w f = tt
fine_tidy t inputs (g ∷ gadgets) w f = (f.0.1, fine_tidy t inputs gadgets (run_acts t (acts_of_gadget g) w) f.1)

-- a move acts where its table says
moved_acts : (p q : Proto) → (x : RegisterPlaces) → (has_back_end p ≡ true → hosts_of x ≡ holders p) → (next : List ℕ) (h : ℕ)
    → acts_at (moved (route p q) (back_end p) (back_end q) x next).gadgets h ≡ moved_at (route p q) p q h
moved_acts (Local k) (Local j) x at next h = (clear_acts (Local j) tt).share k (only x) next h
moved_acts (Local k) (Rep set) x at next h = (clear_acts (Rep set) tt).share k (only x) next h
moved_acts (Local k) (Commit u v) x at next h = commitments_act.commit u v (only x) next h
moved_acts (Local k) (Add u v) x at next h = (acts_of (Add u v) refl).share k (only x) next h
moved_acts (Local k) (Xor u v) x at next h = (acts_of (Xor u v) refl).share k (only x) next h
moved_acts (Rep set) (Local k) x at next h = (clear_acts (Rep set) tt).show x (at refl) k next h
moved_acts (Rep set) (Rep other) x at next h = spread_acts set other x (at refl) next h
moved_acts (Rep set) (Commit u v) x at next h = refl
moved_acts (Rep set) (Add u v) x at next h = (acts_of (Add u v) refl).adopt x next h
moved_acts (Rep set) (Xor u v) x at next h = (acts_of (Xor u v) refl).adopt x next h
moved_acts (Commit u v) (Local k) x at next h = shown (nat_eq k.0 u.0)
  where
    shown : (own : Bool)
        → acts_at (if own then taken_over (held_of x).value next else revealed u v (held_of x) (seen_of x) next).gadgets h ≡ (if own then false else is_either h u v)
    shown true = refl
    shown false = commitments_act.reveal u v (held_of x) (seen_of x) next h
moved_acts (Commit u v) (Rep set) x at next h = commitments_act.reveal u v (held_of x) (seen_of x) next h
moved_acts (Commit u v) (Commit y z) x at next h = refl
moved_acts (Commit u v) (Add y z) x at next h = (acts_of (Add y z) refl).adopt x next h
moved_acts (Commit u v) (Xor y z) x at next h = (acts_of (Xor y z) refl).adopt x next h
moved_acts (Add u v) (Local k) x at next h = (acts_of (Add u v) refl).show x (at refl) k next h
moved_acts (Add u v) (Rep set) x at next h = (acts_of (Add u v) refl).show_all x (at refl) next h
moved_acts (Add u v) (Commit y z) x at next h = refl
moved_acts (Add u v) (Add y z) x at next h = refl
moved_acts (Add u v) (Xor y z) x at next h = conversions_act.to_bits y z x next h
moved_acts (Xor u v) (Local k) x at next h = (acts_of (Xor u v) refl).show x (at refl) k next h
moved_acts (Xor u v) (Rep set) x at next h = (acts_of (Xor u v) refl).show_all x (at refl) next h
moved_acts (Xor u v) (Commit y z) x at next h = refl
moved_acts (Xor u v) (Add y z) x at next h = conversions_act.to_sums y z x next h
moved_acts (Xor u v) (Xor y z) x at next h = refl

-- a host's part of the number of a turn takes one instruction
shared_tidy : (b : Bool) (h : HostId) (loop next : List ℕ)
    → GadgetsAreTidy (if b then written_by h (λ r. action.Copy r (next_at loop h)) next else written_by h (λ r. action.Const r 0) next).gadgets
shared_tidy true h loop next = (tt, tt)
shared_tidy false h loop next = (omega arith, tt)

turn_tidy : (p : Proto) (loop : List ℕ) (h : HostId) (next : List ℕ) → GadgetsAreTidy (turn_part p loop h next).gadgets
turn_tidy (Local k) loop h next = (tt, tt)
turn_tidy (Rep set) loop h next = (tt, tt)
turn_tidy (Commit a b) loop h next = (tt, tt)
turn_tidy (Add a b) loop h next = shared_tidy (nat_eq h.0 a.0) h loop next
turn_tidy (Xor a b) loop h next = shared_tidy (nat_eq h.0 a.0) h loop next

shared_acts : (b : Bool) (k : HostId) (loop next : List ℕ) (h : ℕ)
    → acts_at (if b then written_by k (λ r. action.Copy r (next_at loop k)) next else written_by k (λ r. action.Const r 0) next).gadgets h ≡ nat_eq h k.0
shared_acts true k loop next h = or_false (nat_eq h k.0)
shared_acts false k loop next h = or_false (nat_eq h k.0)

turn_acts : (p : Proto) (loop : List ℕ) (h : ℕ) (k : HostId) (next : List ℕ) → acts_at (turn_part p loop k next).gadgets h ≡ nat_eq h k.0
turn_acts (Local j) loop h k next = or_false (nat_eq h k.0)
turn_acts (Rep set) loop h k next = or_false (nat_eq h k.0)
turn_acts (Commit a b) loop h k next = or_false (nat_eq h k.0)
turn_acts (Add a b) loop h k next = shared_acts (nat_eq k.0 a.0) k loop next h
turn_acts (Xor a b) loop h k next = shared_acts (nat_eq k.0 a.0) k loop next h

module _ (t : Tape) (deal : IsValidDeal t) (inputs : ℕ → List ℕ) (hosts : ℕ) (few : hosts ≤ 8) where
  -- gadgets at hosts of the protocol
  where_held : (p : Proto) → IsOver hosts p → (gadgets : List Gadget) → GadgetsAreTidy gadgets → ((h : ℕ) → acts_at gadgets h ≡ is_among (holders p) h)
      → Where (machine t inputs) hosts gadgets (λ h. is_holder p (host h))
  where_held p d gadgets tidy acts = record {
    tidy = all_tidy gadgets tidy;
    at = λ h e. let i = among_host (holders p) h (sym (acts h) ∙ e) in (host_known hosts (holders p) h d.known i, holder_at p h i);
    all = λ h lt e. acts h ∙ sym (holder_is_listed p h (omega (arith, few, lt))) ∙ e;
  }

  -- each host of the protocol acts once
  where_each : (p : Proto) → IsOver hosts p → (f : HostId → List ℕ → Made Reg) → ((h : HostId) (next : List ℕ) → GadgetsAreTidy (f h next).gadgets)
      → ((h : ℕ) (k : HostId) (next : List ℕ) → acts_at (f k next).gadgets h ≡ nat_eq h k.0) → (next : List ℕ)
      → Where (machine t inputs) hosts (each_made f (holders p) next).gadgets (λ h. is_holder p (host h))
  where_each p d f tidy acts next = where_held p d (each_made f (holders p) next).gadgets (each_tidy f tidy (holders p) next) (λ h. each_acts h f (λ k. nat_eq h k.0) (acts h) (holders p) next)

  literal_at : (p : Proto) → IsOver hosts p → IsTrue (holds Constant p) → (v : ℕ) → v < 2 ^ 32 → (next : List ℕ) (w : Hosts) → Ready (M t inputs hosts) (S t inputs hosts) next w
      → Where (machine t inputs) hosts ((back_end p).literal v next).gadgets (λ h. is_holder p (host h))
  literal_at p d row v small next w r =
      let e = for_constant p row in
      where_held p d ((back_end p).literal v next).gadgets
      ((laws_of p e hosts d).literal t next w (ready_at t inputs hosts deal (back_end p) next w p (proto_is p) d r) v small).orderly.tidy
      (λ h. (acts_of p e).literal v next h ∙ ap (λ (z : Proto). is_among (holders z) h) (proto_is p))

  turn_at : (p : Proto) → IsOver hosts p → IsTrue (holds Constant p) → (loop next : List ℕ) → Where (machine t inputs) hosts (turned p loop next).gadgets (λ h. is_holder p (host h))
  turn_at p d row loop next = where_each p d (turn_part p loop) (turn_tidy p loop) (turn_acts p loop) next

  move_where : (p q : Proto) → IsOver hosts p → IsOver hosts q → IsTrue (joins p q) → (x : Parts) (v : ℕ) (next : List ℕ) (w : Hosts) → Ready (M t inputs hosts) (S t inputs hosts) next w
      → Operand (M t inputs hosts) (S t inputs hosts) next w p x v
      → Where (machine t inputs) hosts (moved (route p q) (back_end p) (back_end q) x.at next).gadgets (moved_at (route p q) p q)
  move_where p q dp dq j x v next w r o =
      let g = move_law t deal inputs hosts p q dp dq j x v next w r o in
      record {
        tidy = fine_tidy t inputs (moved (route p q) (back_end p) (back_end q) x.at next).gadgets w g.leads.fine;
        at = λ h e. let i = sym (moved_acts p q x.at (λ b. (cells_of p b w x (Word v) o.stands).at) next h) ∙ e in (below h (moving p q h i), i);
        all = λ h lt e. moved_acts p q x.at (λ b. (cells_of p b w x (Word v) o.stands).at) next h ∙ e;
      }
    where
      below : (h : ℕ) → IsHost (holders p) h ⊎ IsHost (holders q) h → h < hosts
      below h (inl i) = host_known hosts (holders p) h dp.known i
      below h (inr i) = host_known hosts (holders q) h dq.known i

  apply_where : (o : Op) (p : Proto) → IsOver hosts p → (gadgets : List Gadget) → GadgetsAreTidy gadgets → ((h : ℕ) → acts_at gadgets h ≡ apply_at o (back_end p).proto h)
      → Where (machine t inputs) hosts gadgets (apply_at o p)
  apply_where o p d gadgets tidy acts = record {
    tidy = all_tidy gadgets tidy;
    at = λ h e. let i = sym (acts h ∙ ap (λ (z : Proto). apply_at o z h) (proto_is p)) ∙ e in (host_known hosts (holders p) h d.known (applying o p h i), i);
    all = λ h lt e. acts h ∙ ap (λ (z : Proto). apply_at o z h) (proto_is p) ∙ e;
  }

  -- one gadget of one host
  where_alone : (k : HostId) → k.0 < hosts → (g : Gadget) → GadgetIsTidy g → ((h : ℕ) → acts_at (g ∷ []) h ≡ nat_eq h k.0) → Where (machine t inputs) hosts (g ∷ []) (λ h. nat_eq k.0 h)
  where_alone k lt g tidy acts = record {
    tidy = (tidy, tt);
    at = λ h e. let i = eqb-true h k.0 (sym (acts h) ∙ e) in (subst (λ z. z < hosts) (sym i) lt, eq-eqb k.0 h (sym i));
    all = λ h low e. acts h ∙ eq-eqb h k.0 (sym (eqb-true k.0 h e));
  }

  written_where : (p : Proto) → IsOver hosts p → (kept : Parts) (at : List Part) (x : RegisterPlaces) → Where (machine t inputs) hosts (cell_written p kept at x) (λ h. is_holder p (host h))
  written_where p d kept at x = where_held p d (cell_written p kept at x) (tidy (holders p)) (λ h. acts h (holders p))
    where
      puts : List HostId → List Gadget
      puts hs = map (λ h. Alone h (action.Put (register_of kept.at h.0) kept.size (index_of at h.0) (register_of x h.0))) hs

      tidy : (hs : List HostId) → GadgetsAreTidy (map (λ (h : HostId). Alone h (action.Put (register_of kept.at h.0) kept.size (index_of at h.0) (register_of x h.0))) hs)
      tidy [] = tt
      tidy (h ∷ hs) = (tt, tidy hs)

      acts : (h : ℕ) (hs : List HostId) → acts_at (map (λ (k : HostId). Alone k (action.Put (register_of kept.at k.0) kept.size (index_of at k.0) (register_of x k.0))) hs) h ≡ is_among hs h
      acts h [] = refl
      acts h (k ∷ hs) = ap (λ (b : Bool). nat_eq h k.0 || b) (acts h hs)

  pub suite_places : Places (machine t inputs) (suite t inputs hosts)
  suite_places = record {
    moves_inside = moves_inside;
    applies_inside = λ o p h e. holder_at p h (applying o p h e);
    input_inside = input_inside;
    literal_at = literal_at;
    turn_at = λ p d row loop next w r. turn_at p d row loop next;
    move_at = move_where;
    apply_at = λ o p d row fits xs vs many next w r os.
        let e = for_operation o p row in
        apply_where o p d ((back_end p).apply o (map (λ x. x.at) xs) next).gadgets
        ((laws_of p e hosts d).apply t next w (ready_at t inputs hosts deal (back_end p) next w p (proto_is p) d r) o (serves p o row) fits (map (λ x. x.at) xs) vs (length_map xs ∙ many)
        (operands_at t inputs hosts (back_end p) next w p xs vs e (proto_is p) os)).orderly.tidy
        (λ h. (acts_of p e).apply o (serves p o row) (map (λ x. x.at) xs) next h);
    input_at = λ k lt next. where_alone k lt (Alone k (action.Input (next_at next k))) tt (λ h. or_false (nat_eq h k.0));
    output_at = λ k lt x. where_alone k lt (Alone k (action.Print (register_of x.at k.0))) tt (λ h. or_false (nat_eq h k.0));
    keep_at = λ p d row x v next w r o.
        let e = for_variable p row in
        where_held p d ((back_end p).keep x.at next).gadgets
        ((laws_of p e hosts d).keep t next w (ready_at t inputs hosts deal (back_end p) next w p (proto_is p) d r) x.at v (operand_at t inputs hosts (back_end p) next w p x v e (proto_is p) o)).orderly.tidy
        (λ h. (acts_of p e).keep x.at next h ∙ ap (λ (z : Proto). is_among (holders z) h) (proto_is p));
    renew_at = λ p d row kept x u v next w r k o.
        let e = for_variable p row in
        where_held p d ((back_end p).renew kept.at x.at)
        ((laws_of p e hosts d).renew t next w (ready_at t inputs hosts deal (back_end p) next w p (proto_is p) d r) kept.at x.at u v
        (operand_at t inputs hosts (back_end p) next w p kept u e (proto_is p) k) (operand_at t inputs hosts (back_end p) next w p x v e (proto_is p) o)).tidy
        (λ h. (acts_of p e).renew kept.at x.at ((cells_of p e w kept (Word u) k.stands).at ∙ ap holders (sym (proto_is p))) h ∙ ap (λ (z : Proto). is_among (holders z) h) (proto_is p));
    cells_at = λ p d row size next. where_each p d (zeros_at size) (λ h n. (tt, tt)) (λ h k n. or_false (nat_eq h k.0)) next;
    get_at = λ p d row x at next. where_each p d (λ h. written_by h (λ r. action.Get r (register_of x.at h.0) x.size (index_of at h.0))) (λ h n. (tt, tt)) (λ h k n. or_false (nat_eq h k.0)) next;
    put_at = λ p d row kept at x. written_where p d kept at x.at;
  }
