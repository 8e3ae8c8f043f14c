-- The calls of hosts that hold words in clear stay right, whatever hosts that depart send.
use Rattle.std.proofs.Common.{◌≡◌, ℕ, suc, ◌^◌, ◌<◌, Bool, true, List, [], ◌∷◌, inl, inr, length, slice_index, refl, sym, ap, subst, ◌∙◌, arith}
use native.Mathlib.Decide.{ℕ_discrete}
use Rattle.vd_base.specs.declared.ids.HostId.{HostId}
use Rattle.vd_base.specs.declared.operations.Op.{Op}
use Rattle.vd_base.specs.declared.protocols.HostSet.{HostSet}
use Rattle.vd_base.specs.declared.protocols.Proto.{Proto}
use Rattle.vd_base.specs.declared.protocols.Proto.TheVariants.{Rep}
use Rattle.vd_base.specs.Arity.{arity}
use Rattle.vd_base.specs.Operations.{result_of}
use Rattle.vd_base.specs.Holders.{holders}
use Rattle.vd_execution.specs.declared.instructions.Action.TheVariants as action
use Rattle.vd_execution.specs.declared.instructions.Reg.{Reg}
use Rattle.vd_execution.specs.Joint.{Hosts}
use Rattle.vd_execution.specs.Registers.{put}
use Rattle.vd_execution.specs.World.{Tape}
use Rattle.vd_duet.specs.Calls.{Made, Places, hosts_of, register_of}
use Rattle.vd_duet.specs.Laws.{AreBelow, AreKnown, Each, IsHost, IsIn, at_host}
use Rattle.vd_duet.proofs.Front.{wrote}
use Rattle.vd_clear.specs.Copies.{adopted, after_first, applied_at, clear_calls, each_made, first_of, kept_by, literal_at, passed, renewed, shown, spread_to}
use Rattle.vd_integrity_runs.specs.Departing.{AreRight, GivesRight, RunsGadgets}
use Rattle.vd_integrity_runs.specs.Copies.{AreOperands, CopiesStayRight, IsOperand, IsRenewed, SomeKeeps}
use Rattle.vd_integrity_runs.proofs.Each.{IsSince, all_right}
use Rattle.vd_integrity_runs.proofs.Local.{Has, IsStep, came, found, has_later, there_already, worked_out, written}
use Rattle.vd_integrity_runs.proofs.Shown.{below_later, right_later, shows}
use Rattle.vd_integrity_runs.proofs.Steps.{Wrote, wrote_own}

with_hosts : (P : HostId → Type 0) (hs : List HostId) → Each P hs → Each (λ h. P h × IsHost hs h.0) hs
with_hosts P hs all = inner hs all (λ h i. i)
  where
    inner : (ks : List HostId) → Each P ks → ((h : ℕ) → IsHost ks h → IsHost hs h) → Each (λ h. P h × IsHost hs h.0) ks
    inner [] all within = tt
    inner (k ∷ ks) all within = ((all.0, within k.0 (inl refl)), inner ks all.1 (λ h i. within h (inr i)))

module _ (keeps : ℕ → Bool) (t : Tape) (next : List ℕ) (w : Hosts) where
  -- each of some hosts takes a step
  pub each_step : (hs : List HostId) → AreKnown hs next → (f : HostId → List ℕ → Made Reg) (v : ℕ)
      → ((h : HostId) → IsHost hs h.0 → (next' : List ℕ) (u u' : Hosts) → IsSince next w next' u → h.0 < length next' → RunsGadgets keeps t (f h next').gadgets u u' → IsStep keeps next' h (f h next') u u' v)
      → GivesRight keeps t next (each_made f hs next) w v
  each_step hs known f v law w' run =
      all_right keeps t f v next w (λ h. (h.0 < length next) × IsHost hs h.0)
      (λ h q next' u u' since runs. law h q.1 next' u u' since (subst (λ n. h.0 < n) (sym since.known) q.0) runs)
      hs (with_hosts (λ h. h.0 < length next) hs known) w' run

  later : (next' : List ℕ) (u : Hosts) (h : HostId) (x : Reg) (v : ℕ) → IsSince next w next' u → Has keeps next w h x v → Has keeps next' u h x v
  later next' u h x v since has = has_later keeps next next' w u h x v since.longer since.still has

  module _ (p : Proto) (known : AreKnown (holders p) next) where
    operand : (x : Places) (v : ℕ) → IsOperand keeps p next w x v → (h : HostId) → IsHost (holders p) h.0 → Has keeps next w h (register_of x h.0) v
    operand x v o h i = found keeps next w x h v (subst (λ (l : List HostId). IsHost l h.0) (sym o.at) i) o.below o.right

    literal_right : (v : ℕ) → GivesRight keeps t next ((clear_calls p).literal v next) w v
    literal_right v = each_step (holders p) known (literal_at v) v (λ h i next' u u' since low run. written keeps t next' u u' h low (λ r. action.Const r v) v v refl (λ is. refl) run)

    share_right : (from : HostId) (x : Reg) → x.0 < slice_index next from.0 → keeps from.0 ≡ true → GivesRight keeps t next ((clear_calls p).share from x next) w ((w from.0).registers x.0)
    share_right from x low keep =
        each_step (holders p) known (passed from x) ((w from.0).registers x.0)
        (λ h i next' u u' since low' run.
        let longer = since.longer from.0 in
        subst (λ z. IsStep keeps next' h (passed from x h next') u u' z) (since.still from.0 x.0 low) (came keeps t next' u u' h low' from x (omega (arith, longer, low)) keep run))

    adopt_right : (x : Places) (v : ℕ) → ((h : ℕ) → IsHost (holders p) h → IsHost (hosts_of x) h) → AreBelow next x → AreRight keeps w x v → GivesRight keeps t next ((clear_calls p).adopt x next) w v
    adopt_right x v among below right =
        each_step (holders p) known (adopted x) v
        (λ h i next' u u' since low run. there_already keeps t next' u u' h low (register_of x h.0) v (later next' u h (register_of x h.0) v since (found keeps next w x h v (among h.0 i) below right)) run)

    keep_right : (x : Places) (v : ℕ) → IsOperand keeps p next w x v → GivesRight keeps t next ((clear_calls p).keep x next) w v
    keep_right x v o =
        each_step (holders p) known (kept_by x) v
        (λ h i next' u u' since low run.
        written keeps t next' u u' h low (λ r. action.Copy r (register_of x h.0)) v ((u h.0).registers (register_of x h.0).0) refl
        (later next' u h (register_of x h.0) v since (operand x v o h i)).right run)

    show_right : (x : Places) (v : ℕ) → IsOperand keeps p next w x v → SomeKeeps keeps x → (to : HostId) → to.0 < length next → keeps to.0 ≡ true → GivesRight keeps t next (at_host to ((clear_calls p).show x to next)) w v
    show_right x v o some to low keep w' run =
        let step = shows keeps t to next x w w' v low o.below o.right some run in
        record { still = step.still; right = (step.right, tt) }

    spread_right : (to : HostSet) → AreKnown (holders (Rep to)) next → (x : Places) (v : ℕ) → IsOperand keeps p next w x v → SomeKeeps keeps x → GivesRight keeps t next (spread_to to x next) w v
    spread_right to lows x v o some =
        each_step (holders (Rep to)) lows (shown x) v
        (λ h i next' u u' since low run. shows keeps t h next' x u u' v low (below_later next next' x since.longer o.below) (right_later keeps next w u x v o.below since.still o.right) some run)

    -- ---- operations
    abbrev after_words : List ℕ → List ℕ
    after_words [] = []
    after_words (v ∷ vs) = vs

    no_words : (n : ℕ) → n < 0 → ⊥
    no_words n e = omega (arith, e)

    first_has : (xs : List Places) (vs : List ℕ) → AreOperands keeps p next w xs vs → 0 < length xs → (h : HostId) → IsHost (holders p) h.0 → Has keeps next w h (first_of xs h) (slice_index vs 0)
    first_has [] vs o many h i = absurd (no_words 0 many)
    first_has (x ∷ xs) [] o many h i = absurd o
    first_has (x ∷ xs) (v ∷ vs) o many h i = operand x v o.0 h i

    after : (xs : List Places) (vs : List ℕ) → AreOperands keeps p next w xs vs → AreOperands keeps p next w (after_first xs) (after_words vs)
    after [] [] o = tt
    after [] (v ∷ vs) o = absurd o
    after (x ∷ xs) [] o = absurd o
    after (x ∷ xs) (v ∷ vs) o = o.1

    shorter : (xs : List Places) (n : ℕ) → suc n < length xs → n < length (after_first xs)
    shorter [] n many = absurd (no_words (suc n) many)
    shorter (x ∷ xs) n many = omega (arith, many)

    second_word : (vs : List ℕ) → slice_index (after_words vs) 0 ≡ slice_index vs 1
    second_word [] = refl
    second_word (v ∷ vs) = refl

    third_word : (vs : List ℕ) → slice_index (after_words (after_words vs)) 0 ≡ slice_index vs 2
    third_word [] = refl
    third_word (v ∷ []) = refl
    third_word (v ∷ u ∷ vs) = refl

    first_small : (xs : List Places) (vs : List ℕ) → AreOperands keeps p next w xs vs → slice_index vs 0 < 2 ^ 32
    first_small [] [] o = omega arith
    first_small [] (v ∷ vs) o = absurd o
    first_small (x ∷ xs) [] o = absurd o
    first_small (x ∷ xs) (v ∷ vs) o = o.0.word

    apply_right : (o : Op) → (xs : List Places) (vs : List ℕ) → length xs ≡ arity o → AreOperands keeps p next w xs vs → GivesRight keeps t next ((clear_calls p).apply o xs next) w (result_of o vs)
    apply_right o xs vs e os =
        each_step (holders p) known (applied_at o xs) (result_of o vs)
        (λ h i next' u u' since low run.
        worked_out keeps t next' u u' h low o (first_of xs h) (first_of (after_first xs) h) (first_of (after_first (after_first xs)) h) (slice_index vs 0) (slice_index vs 1) (slice_index vs 2) (first_small xs vs os)
        (λ many. later next' u h (first_of xs h) (slice_index vs 0) since (first_has xs vs os (subst (λ n. 0 < n) (sym e) many) h i))
        (λ many. later next' u h (first_of (after_first xs) h) (slice_index vs 1) since
        (subst (λ z. Has keeps next w h (first_of (after_first xs) h) z) (second_word vs) (first_has (after_first xs) (after_words vs) (after xs vs os) (shorter xs 0 (subst (λ n. 1 < n) (sym e) many)) h i)))
        (λ many. later next' u h (first_of (after_first (after_first xs)) h) (slice_index vs 2) since
        (subst (λ z. Has keeps next w h (first_of (after_first (after_first xs)) h) z) (third_word vs)
        (first_has (after_first (after_first xs)) (after_words (after_words vs)) (after (after_first xs) (after_words vs) (after xs vs os)) (shorter (after_first xs) 0 (shorter xs 1 (subst (λ n. 2 < n) (sym e) many))) h i)))
        run)

    -- ---- copies are written over
    module _ (x : Places) (v : ℕ) (below : AreBelow next x) where
      record Renews (ks : Places) (u u' : Hosts) : Type 0 where
        still : (h r : ℕ) → (IsIn ks h r → ⊥) → (u' h).registers r ≡ (u h).registers r
        right : AreRight keeps u' ks v
        lasts : (h r : ℕ) → keeps h ≡ true → (u h).registers r ≡ v → (u' h).registers r ≡ v

      all_last : (u u' : Hosts) → ((h r : ℕ) → keeps h ≡ true → (u h).registers r ≡ v → (u' h).registers r ≡ v) → (y : Places) → AreRight keeps u y v → AreRight keeps u' y v
      all_last u u' lasts [] right = tt
      all_last u u' lasts (q ∷ y) right = (λ is. lasts q.0.0 q.1.0 is (right.0 is), all_last u u' lasts y right.1)

      written_over : (h r value : ℕ) (u u' : Hosts) → (keeps h ≡ true → value ≡ v) → Wrote h r value u u' → (k q : ℕ) → keeps k ≡ true → (u k).registers q ≡ v → (u' k).registers q ≡ v
      written_over h r value u u' is c k q keep e =
          elim (ℕ_discrete k h) [
            | yes i ↦ elim (ℕ_discrete q r) [
              | yes j ↦ subst (λ z. (u' z).registers q ≡ v) (sym i) (subst (λ z. (u' h).registers z ≡ v) (sym j) (c.there ∙ is (subst (λ z. keeps z ≡ true) i keep)))
              | no d ↦ c.elsewhere k q (λ a b. d b) ∙ e
            ]
            | no d ↦ c.elsewhere k q (λ a b. d a) ∙ e
          ]

      renews : (ks : Places) (u u' : Hosts) → AreRight keeps u x v → Each (λ q. IsHost (hosts_of x) q.0.0) ks → RunsGadgets keeps t (renewed ks x) u u' → Renews ks u u'
      renews [] u u' right among run = record { still = λ h r i. ap (λ (z : Hosts). (z h).registers r) run; right = tt; lasts = λ h r is e. ap (λ (z : Hosts). (z h).registers r) run ∙ e }
      renews (q ∷ ks) u u' right among run =
          let value : ℕ = (u q.0.0).registers (register_of x q.0.0).0 in
          let m : Hosts = put u q.0.0 (wrote q.1.0 ((u q.0.0).registers (register_of x q.0.0).0) (u q.0.0)) in
          let d : Wrote q.0.0 q.1.0 value u m = wrote_own q.0.0 q.1.0 ((u q.0.0).registers (register_of x q.0.0).0) u in
          let f = found keeps next u x q.0 v among.0 below right in
          let over = written_over q.0.0 q.1.0 value u m f.right d in
          let more = renews ks m u' (all_last u m over x right) among.1 run.1 in
          record {
            still = λ h r i. more.still h r (λ j. i (inr j)) ∙ d.elsewhere h r (λ a b. i (inl (a, b)));
            right = (λ is. more.lasts q.0.0 q.1.0 is (d.there ∙ f.right is), more.right);
            lasts = λ h r is e. more.lasts h r is (over h r is e);
          }

    all_among : (ks : Places) (hs : List HostId) → ((h : ℕ) → IsHost (hosts_of ks) h → IsHost hs h) → Each (λ q. IsHost hs q.0.0) ks
    all_among [] hs within = tt
    all_among (q ∷ ks) hs within = (within q.0.0 (inl refl), all_among ks hs (λ h i. within h (inr i)))

    renew_right : (kept x : Places) (v : ℕ) → hosts_of kept ≡ holders p → IsOperand keeps p next w x v → (w' : Hosts) → RunsGadgets keeps t ((clear_calls p).renew kept x) w w' → IsRenewed keeps kept w w' v
    renew_right kept x v at o w' run =
        let r = renews x v o.below kept w w' o.right (all_among kept (hosts_of x) (λ h i. subst (λ (l : List HostId). IsHost l h) (at ∙ sym o.at) i)) run in
        record { still = r.still; right = r.right }

pub copies_stay_right : CopiesStayRight
copies_stay_right keeps p clear t next w known = record {
  literal = literal_right keeps t next w p known;
  share = share_right keeps t next w p known;
  adopt = adopt_right keeps t next w p known;
  show = show_right keeps t next w p known;
  spread = spread_right keeps t next w p known;
  keep = keep_right keeps t next w p known;
  renew = λ kept x v at below o w' run. renew_right keeps t next w p known kept x v at o w' run;
  apply = λ o fits xs vs e os. apply_right keeps t next w p known o xs vs e os;
}
