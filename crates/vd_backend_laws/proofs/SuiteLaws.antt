-- The suite meets its laws.
use Rattle.std.proofs.Common.{◌≡◌, ℕ, ◌^◌, ◌<◌, nat_eq, ◌&&◌, Bool, true, false, if◌then◌else◌, IsTrue, is_some, Option, Some, None, List, [], ◌∷◌, inl, inr, refl, sym, ap, ap₂}
use Rattle.std.proofs.lemmas.Bool.{eq-eqb, eqb-true}
use Rattle.vd_base.specs.declared.ids.HostId.{HostId}
use Rattle.vd_base.specs.declared.protocols.Proto.{Proto}
use Rattle.vd_base.specs.declared.protocols.Proto.TheVariants.{Local, Rep, Commit, Add, Xor}
use Rattle.vd_base.specs.declared.rows.Row.TheVariants.{Input}
use Rattle.vd_base.specs.HostSets.{host}
use Rattle.vd_base.specs.Holders.{holders}
use Rattle.vd_execution.specs.Registers.{Registers}
use Rattle.vd_execution.specs.World.{Tape}
use Rattle.vd_execution.specs.Deals.{IsValidDeal}
use Rattle.vd_execution.specs.Joint.{Part, Hosts}
use Rattle.vd_execution.specs.Gadgets.{IsSound}
use Rattle.vd_split.specs.Joint.{IsIn}
use Rattle.vd_split.specs.Suite.{Laws}
use Rattle.vd_backend_laws.specs.Machine.{machine, given_turn}
use Rattle.vd_backend_laws.specs.Suite.{holds, suite, AreGiven}
use Rattle.vd_backend_laws.proofs.Standing.{still}
use Rattle.vd_backend_laws.proofs.Over.{host_known, holder_at}
use Rattle.vd_backend_laws.proofs.BackEnds.{literal_law, move_law, apply_law, keep_law, renew_law}
use Rattle.vd_backend_laws.proofs.Outside.{turn_law, input_law, in_clear, output_law}
use Rattle.vd_backend_laws.proofs.Arrays.{cells_law, get_law}
use Rattle.vd_backend_laws.proofs.Written.{put_law}

turn_set : (ps : List Part) (turn h r : ℕ) (f : Registers) → IsIn ps h r → given_turn ps turn h f r ≡ turn
turn_set [] turn h r f i = absurd i
turn_set (p ∷ ps) turn h r f (inl e) = ap₂ (λ (a b : Bool). if a && b then turn else given_turn ps turn h f r) (eq-eqb h p.0 e.0) (eq-eqb r p.1 e.1)
turn_set (p ∷ ps) turn h r f (inr i) = at (nat_eq h p.0 && nat_eq r p.1) (turn_set ps turn h r f i)
  where
    at : (b : Bool) → given_turn ps turn h f r ≡ turn → (if b then turn else given_turn ps turn h f r) ≡ turn
    at true e = refl
    at false e = e

turn_kept : (ps : List Part) (turn h r : ℕ) (f : Registers) → (IsIn ps h r → ⊥) → given_turn ps turn h f r ≡ f r
turn_kept [] turn h r f n = refl
turn_kept (p ∷ ps) turn h r f n = at (nat_eq h p.0) (nat_eq r p.1) refl refl (turn_kept ps turn h r f (λ i. n (inr i)))
  where
    at : (a b : Bool) → nat_eq h p.0 ≡ a → nat_eq r p.1 ≡ b → given_turn ps turn h f r ≡ f r → (if a && b then turn else given_turn ps turn h f r) ≡ f r
    at true true e e' ih = absurd (n (inl (eqb-true h p.0 e, eqb-true r p.1 e')))
    at true false e e' ih = ih
    at false b e e' ih = ih

turn_is_word : (ps : List Part) (turn h r : ℕ) (f : Registers) → turn < 2 ^ 32 → f r < 2 ^ 32 → given_turn ps turn h f r < 2 ^ 32
turn_is_word [] turn h r f small low = low
turn_is_word (p ∷ ps) turn h r f small low = at (nat_eq h p.0 && nat_eq r p.1) (turn_is_word ps turn h r f small low)
  where
    at : (b : Bool) → given_turn ps turn h f r < 2 ^ 32 → (if b then turn else given_turn ps turn h f r) < 2 ^ 32
    at true e = small
    at false e = e

abbrev free_if : Bool → Option ℕ
free_if b = if b then Some 0 else None

pub input_stands : (h : HostId) (p : Proto) → IsTrue (holds (Input h) p) → p ≡ Local h
input_stands h (Local k) e = at (nat_eq h.0 k.0) refl e
  where
    at : (b : Bool) → nat_eq h.0 k.0 ≡ b → is_some (free_if b) ≡ true → Local k ≡ Local h
    at true i e = ap (λ (z : ℕ). Local (host z)) (sym (eqb-true h.0 k.0 i))
    at false i e = cc
input_stands h (Rep set) e = cc
input_stands h (Commit a b) e = cc
input_stands h (Add a b) e = cc
input_stands h (Xor a b) e = cc

module _ (t : Tape) (deal : IsValidDeal t) (inputs : ℕ → List ℕ) (given : AreGiven inputs t) (hosts : ℕ) where
  begun_sound : (w : Hosts) (ps : List Part) (turn : ℕ) → turn < 2 ^ 32 → IsSound w → IsSound ((machine t inputs).begun ps turn w)
  begun_sound w ps turn small s = record {
    words = λ g r. turn_is_word ps turn g r (w g).registers small (s.words g r);
    triples = s.triples;
    bit_triples = s.bit_triples;
    pairs = s.pairs;
  }

  pub suite_laws : Laws (machine t inputs) (suite t inputs hosts)
  suite_laws = record {
    begun_sets = λ w ps turn h r i. turn_set ps turn h r (w h).registers i;
    begun_keeps = λ w ps turn h r n. turn_kept ps turn h r (w h).registers n;
    begun_sound = begun_sound;
    begun_prints = λ w ps turn h. refl;
    begun_waits = λ w ps turn h. refl;
    still = still;
    somewhere = λ p d. (d.some.0, host_known hosts (holders p) d.some.0 d.known d.some.1, holder_at p d.some.0 d.some.1);
    local_is_declared = λ h lt. record { some = (h.0, inl refl); known = (lt, tt); ordered = refl };
    in_clear = in_clear t deal inputs given hosts;
    input_stands = input_stands;
    literal_law = literal_law t deal inputs hosts;
    turn_law = turn_law t deal inputs given hosts;
    move_law = move_law t deal inputs hosts;
    apply_law = apply_law t deal inputs hosts;
    input_law = input_law t deal inputs given hosts;
    output_law = output_law t deal inputs given hosts;
    keep_law = keep_law t deal inputs hosts;
    renew_law = renew_law t deal inputs hosts;
    cells_law = cells_law t deal inputs hosts;
    get_law = get_law t deal inputs hosts;
    put_law = λ p d row kept ws at i x v next w r below s index o.
        put_law t deal inputs hosts p d row kept ws at i x v next w r below s index o;
  }
