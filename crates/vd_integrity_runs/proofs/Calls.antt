-- Words in clear that are right stay right in the calls of the suite, whatever words come from hosts that depart.
use Rattle.std.proofs.Common.{◌≡◌, ◌≢◌, ℕ, zero, suc, ◌<◌, ◌≤◌, nat_eq, Bool, true, false, if◌then◌else◌, List, [], ◌∷◌, ◌⊎◌, inl, inr, length, slice_index, refl, sym, ap, subst, ◌∙◌, arith, rules}
use Rattle.vd_base.specs.declared.ids.HostId.{HostId}
use Rattle.vd_base.specs.declared.operations.Op.{Op}
use Rattle.vd_base.specs.declared.protocols.Proto.{Proto}
use Rattle.vd_base.specs.declared.protocols.Proto.TheVariants.{Local, Rep, Commit, Add, Xor}
use Rattle.vd_base.specs.Arity.{arity}
use Rattle.vd_base.specs.HostSets.{host}
use Rattle.vd_base.specs.Operations.{result_of}
use Rattle.vd_base.specs.Holders.{holders}
use Rattle.vd_execution.specs.declared.instructions.Action.TheVariants as action
use Rattle.vd_execution.specs.Joint.{Hosts}
use Rattle.vd_execution.specs.World.{Tape}
use Rattle.vd_duet.specs.Builder.{next_at}
use Rattle.vd_duet.specs.Calls.{Calls, Made, Places, hosts_of, register_of}
use Rattle.vd_duet.specs.Laws.{AreBelow, AreKnown, IsHost, NumberFits}
use Rattle.vd_clear.specs.Copies.{clear_calls, each_made, written_by}
use Rattle.vd_integrity_runs.specs.Departing.{AreRight, AreStill, GivesRight, RunsGadgets}
use Rattle.vd_integrity_runs.specs.Copies.{AreOperands, IsInClear, IsOperand, IsRenewed, SomeKeeps}
use Rattle.vd_integrity_runs.proofs.Copies.{copies_stay_right, each_step}
use Rattle.vd_integrity_runs.proofs.Local.{written}
use Rattle.vd_integrity_runs.proofs.Shown.{below_later, right_later}
use Rattle.vd_integrity_runs.proofs.Steps.{equal_of}
use Rattle.vd_backend_laws.specs.Moves.{moved, only}
use Rattle.vd_backend_laws.specs.Parts.{back_end, route, turned}
use Rattle.vd_integrity_runs.proofs.Touching.{IsFramed}
use Rattle.vd_integrity_runs.proofs.Fresh.{Free}

pub back_is : (p : Proto) → IsInClear p → back_end p ≡ clear_calls p
back_is (Local h) clear = refl
back_is (Rep set) clear = refl
back_is (Commit a b) clear = absurd clear
back_is (Add a b) clear = absurd clear
back_is (Xor a b) clear = absurd clear

-- what does not write below the free registers leaves the others
pub still_of : (next : List ℕ) (w w' : Hosts) → IsFramed (Free next) w w' → AreStill next w w'
still_of next w w' f h r low = f.registers h r (λ le. absurd_order h r low le)
  where
    absurd_order : (h r : ℕ) → r < slice_index next h → slice_index next h ≤ r → ⊥
    absurd_order h r low le = omega (arith, low, le)

module _ (keeps : ℕ → Bool) where
  -- a host at which a word is right
  pub right_register : (w : Hosts) (x : Places) (h v : ℕ) → IsHost (hosts_of x) h → AreRight keeps w x v → keeps h ≡ true → (w h).registers (register_of x h).0 ≡ v
  right_register w [] h v i right is = absurd i
  right_register w (q ∷ x) h v i right is = at (λ j. right_register w x h v j right.1 is) (nat_eq h q.0.0) refl i
    where
      differ : nat_eq h q.0.0 ≡ false → h ≢ q.0.0
      differ e f = grind (arith, rules)

      later : (IsHost (hosts_of x) h → (w h).registers (register_of x h).0 ≡ v) → h ≢ q.0.0 → (h ≡ q.0.0) ⊎ IsHost (hosts_of x) h → (w h).registers (register_of x h).0 ≡ v
      later again d (inl e) = absurd (d e)
      later again d (inr j) = again j

      at : (IsHost (hosts_of x) h → (w h).registers (register_of x h).0 ≡ v) → (b : Bool) → nat_eq h q.0.0 ≡ b → (h ≡ q.0.0) ⊎ IsHost (hosts_of x) h → (w h).registers (register_of (q ∷ x) h).0 ≡ v
      at again true e j =
          let same : h ≡ q.0.0 = equal_of h q.0.0 e in
          ap (λ (b : Bool). (w h).registers (if b then q.1 else register_of x h).0) e ∙ ap (λ z. (w z).registers q.1.0) same ∙ right.0 (subst (λ z. keeps z ≡ true) same is)
      at again false e j = ap (λ (b : Bool). (w h).registers (if b then q.1 else register_of x h).0) e ∙ later again (differ e) j

  -- some host of the protocol keeps to its program
  abbrev pub IsKeptAt : Proto → Type 0
  IsKeptAt p = (some : ℕ) × (IsHost (holders p) some × (keeps some ≡ true))

  some_keeps : (p : Proto) (x : Places) → hosts_of x ≡ holders p → IsKeptAt p → SomeKeeps keeps x
  some_keeps p x at some = (some.0, (subst (λ (l : List HostId). IsHost l some.0) (sym at) some.1.0, some.1.1))

  pub operand_later : (p : Proto) (next next' : List ℕ) (w w' : Hosts) (x : Places) (v : ℕ) → ((h : ℕ) → slice_index next h ≤ slice_index next' h) → AreStill next w w'
      → IsOperand keeps p next w x v → IsOperand keeps p next' w' x v
  operand_later p next next' w w' x v longer still o = record {
    at = o.at;
    below = below_later next next' x longer o.below;
    right = right_later keeps next w w' x v o.below still o.right;
    word = o.word;
  }

  module _ (t : Tape) (next : List ℕ) (w : Hosts) where
    abbrev Right : Made Places → ℕ → Type 0
    Right made v = (w' : Hosts) → RunsGadgets keeps t made.gadgets w w' → AreRight keeps w' made.given v

    -- ---- one protocol
    module _ (p : Proto) (clear : IsInClear p) (known : AreKnown (holders p) next) where
      pub literal_right : (v : ℕ) → Right ((back_end p).literal v next) v
      literal_right v w' =
          subst (λ (c : Calls). RunsGadgets keeps t (c.literal v next).gadgets w w' → AreRight keeps w' (c.literal v next).given v) (sym (back_is p clear))
          (λ run. ((copies_stay_right keeps p clear t next w known).literal v w' run).right)

      pub keep_right : (x : Places) (v : ℕ) → IsOperand keeps p next w x v → Right ((back_end p).keep x next) v
      keep_right x v o w' =
          subst (λ (c : Calls). RunsGadgets keeps t (c.keep x next).gadgets w w' → AreRight keeps w' (c.keep x next).given v) (sym (back_is p clear))
          (λ run. ((copies_stay_right keeps p clear t next w known).keep x v o w' run).right)

      pub apply_right : (o : Op) → NumberFits o → (xs : List Places) (vs : List ℕ) → length xs ≡ arity o → AreOperands keeps p next w xs vs → Right ((back_end p).apply o xs next) (result_of o vs)
      apply_right o fits xs vs many os w' =
          subst (λ (c : Calls). RunsGadgets keeps t (c.apply o xs next).gadgets w w' → AreRight keeps w' (c.apply o xs next).given (result_of o vs)) (sym (back_is p clear))
          (λ run. ((copies_stay_right keeps p clear t next w known).apply o fits xs vs many os w' run).right)

      pub renew_right : (kept x : Places) (v : ℕ) → hosts_of kept ≡ holders p → AreBelow next kept → IsOperand keeps p next w x v → (w' : Hosts) → RunsGadgets keeps t ((back_end p).renew kept x) w w' → IsRenewed keeps kept w w' v
      renew_right kept x v at below o w' =
          subst (λ (c : Calls). RunsGadgets keeps t (c.renew kept x) w w' → IsRenewed keeps kept w w' v) (sym (back_is p clear))
          (λ run. (copies_stay_right keeps p clear t next w known).renew kept x v at below o w' run)

      -- the number of a turn, where it stands in the loop's register of each host that keeps
      pub turn_right : (loop : List ℕ) (v : ℕ) → ((h : ℕ) → IsHost (holders p) h → keeps h ≡ true → ((w h).registers (slice_index loop h) ≡ v) × (slice_index loop h < slice_index next h)) → Right (turned p loop next) v
      turn_right loop v there w' = by p clear known there
        where
          copy : (p : Proto) → AreKnown (holders p) next → ((h : ℕ) → IsHost (holders p) h → keeps h ≡ true → ((w h).registers (slice_index loop h) ≡ v) × (slice_index loop h < slice_index next h))
              → GivesRight keeps t next (each_made (λ h next. written_by h (λ r. action.Copy r (next_at loop h)) next) (holders p) next) w v
          copy p known there =
              each_step keeps t next w (holders p) known (λ h next. written_by h (λ r. action.Copy r (next_at loop h)) next) v
              (λ h i next' u u' since low run.
              written keeps t next' u u' h low (λ r. action.Copy r (next_at loop h)) v ((u h.0).registers (slice_index loop h.0)) refl
              (λ is. let q = there h.0 i is in since.still h.0 (slice_index loop h.0) q.1 ∙ q.0) run)

          by : (p : Proto) → IsInClear p → AreKnown (holders p) next → ((h : ℕ) → IsHost (holders p) h → keeps h ≡ true → ((w h).registers (slice_index loop h) ≡ v) × (slice_index loop h < slice_index next h))
              → RunsGadgets keeps t (turned p loop next).gadgets w w' → AreRight keeps w' (turned p loop next).given v
          by (Local k) c low there run = (copy (Local k) low there w' run).right
          by (Rep set) c low there run = (copy (Rep set) low there w' run).right
          by (Commit a b) c low there run = absurd c
          by (Add a b) c low there run = absurd c
          by (Xor a b) c low there run = absurd c

    -- ---- from one protocol to another
    abbrev head_host : List HostId → HostId
    head_host [] = host 0
    head_host (h ∷ hs) = h

    -- the word of one host that keeps
    one_right : (x : Places) (h : HostId) (v : ℕ) → hosts_of x ≡ h ∷ [] → AreRight keeps w x v → AreBelow next x → keeps h.0 ≡ true → ((w h.0).registers (only x).0 ≡ v) × ((only x).0 < slice_index next h.0)
    one_right [] h v at right below is = absurd (few (ap (λ (l : List HostId). length l) at))
      where
        few : {n : ℕ} → zero ≡ suc n → ⊥
        few e = omega (arith, e)
    one_right (q ∷ x) h v at right below is =
        let same : h.0 ≡ q.0.0 = sym (ap (λ (l : List HostId). (head_host l).0) at) in
        (ap (λ z. (w z).registers q.1.0) same ∙ right.0 (subst (λ z. keeps z ≡ true) same is), subst (λ z. q.1.0 < slice_index next z) (sym same) below.0)

    shared_right : (h : HostId) (q : Proto) → IsInClear q → AreKnown (holders q) next → (x : Places) (v : ℕ) → IsOperand keeps (Local h) next w x v → keeps h.0 ≡ true → Right ((clear_calls q).share h (only x) next) v
    shared_right h q clear known x v o is w' run =
        let there = one_right x h v o.at o.right o.below is in
        subst (λ z. AreRight keeps w' ((clear_calls q).share h (only x) next).given z) there.0 ((copies_stay_right keeps q clear t next w known).share h (only x) there.1 is w' run).right

    pub moved_right : (p q : Proto) → IsInClear p → IsInClear q → AreKnown (holders p) next → AreKnown (holders q) next → (x : Places) (v : ℕ) → IsOperand keeps p next w x v → IsKeptAt p
        → Right (moved (route p q) (back_end p) (back_end q) x next) v
    moved_right (Local h) (Local k) c d low low' x v o some w' run = shared_right h (Local k) tt low' x v o (of_one h some) w' run
      where
        of_one : (h : HostId) → IsKeptAt (Local h) → keeps h.0 ≡ true
        of_one h (some, (inl e, is)) = subst (λ z. keeps z ≡ true) e is
        of_one h (some, (inr e, is)) = absurd e
    moved_right (Local h) (Rep set) c d low low' x v o some w' run = shared_right h (Rep set) tt low' x v o (of_one h some) w' run
      where
        of_one : (h : HostId) → IsKeptAt (Local h) → keeps h.0 ≡ true
        of_one h (some, (inl e, is)) = subst (λ z. keeps z ≡ true) e is
        of_one h (some, (inr e, is)) = absurd e
    moved_right (Rep set) (Local k) c d low low' x v o some w' run =
        (λ is. (((copies_stay_right keeps (Rep set) tt t next w low).show x v o (some_keeps (Rep set) x o.at some) k low'.0 is) w' run).right.0 is, tt)
    moved_right (Rep set) (Rep other) c d low low' x v o some w' run = ((copies_stay_right keeps (Rep set) tt t next w low).spread other low' x v o (some_keeps (Rep set) x o.at some) w' run).right
    moved_right (Local h) (Commit a b) c d low low' x v o some w' run = absurd d
    moved_right (Local h) (Add a b) c d low low' x v o some w' run = absurd d
    moved_right (Local h) (Xor a b) c d low low' x v o some w' run = absurd d
    moved_right (Rep set) (Commit a b) c d low low' x v o some w' run = absurd d
    moved_right (Rep set) (Add a b) c d low low' x v o some w' run = absurd d
    moved_right (Rep set) (Xor a b) c d low low' x v o some w' run = absurd d
    moved_right (Commit a b) q c d low low' x v o some w' run = absurd c
    moved_right (Add a b) q c d low low' x v o some w' run = absurd c
    moved_right (Xor a b) q c d low low' x v o some w' run = absurd c
