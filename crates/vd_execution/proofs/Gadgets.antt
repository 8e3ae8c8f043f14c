-- Tidy gadgets and tidy plans keep states sound, and their joint code is tidy.
use Rattle.std.proofs.Common.{◌≡◌, ℕ, zero, suc, ◌+◌, ◌^◌, ◌<◌, ◌≤◌, Bool, true, false, nat_eq, if◌then◌else◌, List, [], ◌∷◌, ◌++◌, refl, sym, subst, ◌∙◌, arith}
use Rattle.vd_execution.specs.declared.instructions.Action.{Action}
use Rattle.vd_execution.specs.declared.instructions.Action.TheVariants as action
use Rattle.vd_execution.specs.declared.instructions.Act.{Act}
use Rattle.vd_execution.specs.declared.instructions.Act.TheVariants as act
use Rattle.vd_execution.specs.Registers.{put}
use Rattle.vd_execution.specs.Step.{Source, Triples, BitTriples, Pairs}
use Rattle.vd_execution.specs.World.{Tape}
use Rattle.vd_execution.specs.Deals.{IsValidDeal}
use Rattle.vd_execution.specs.Joint.{Part, if_part, Host, Hosts, after_do, is_other, turn_begun, turns, joint, Within, IsTidy}
use Rattle.vd_execution.specs.Acts.{run_act, run_acts, ActsAreTidy}
use Rattle.vd_execution.specs.Gadgets.{BySums, ByXors, Gadget, Alone, Tells, Shares, BothShare, Opens, Masked, Paired, hide, told_by, acts_of_gadget, acts_of_gadgets, TakesNoPart, GadgetIsTidy, GadgetsAreTidy, IsSound}
use Rattle.vd_execution.specs.Plans.{Plan, Ends, Then, Branch, Loop, joint_of, PlanIsWithin, PlanIsTidy}
use Rattle.vd_execution.proofs.ActsFirst.{runs_first, tidy_first, within_first}
use Rattle.vd_execution.proofs.Digests.{Each}
use Rattle.vd_execution.proofs.Sound.{AreWords, AllAreWords, NumberFits, ActFits, acts_words, put_words, Keeps, Takes, keeps_on, do_keeps, msg_keeps, put_takes, after_both, crossed, not_both}

-- ---- sound states

-- nothing shared was taken
still_sound : (w v : Hosts) → AllAreWords v → Keeps w v → IsSound w → IsSound v
still_sound w v all same sound = record {
  words = all;
  triples = λ g q. same g (Triples q) refl ∙ sound.triples g q ∙ sym (same q (Triples g) refl);
  bit_triples = λ g q. same g (BitTriples q) refl ∙ sound.bit_triples g q ∙ sym (same q (BitTriples g) refl);
  pairs = λ g q. same g (Pairs q) refl ∙ sound.pairs g q ∙ sym (same q (Pairs g) refl);
}

-- both hosts took one item: of sums, of xors, or a pair
module _ (m n : ℕ) (w v : Hosts) (all : AllAreWords v) (sound : IsSound w) where
  abbrev Both : (ℕ → Source) → Type 0
  Both source = (a b c : Hosts) → Takes m (source n) w a → Keeps a b → Takes n (source m) b c → Keeps c v → IsSound v

  triples_sound : Both Triples
  triples_sound a b c p q r z =
      let at = after_both m n Triples w a b c v p q r z in record {
        words = all;
        triples = λ g h. at g (Triples h) refl ∙ crossed (nat_eq g n) (nat_eq h m) (nat_eq g m) (nat_eq h n) _ _ (sound.triples g h) ∙ sym (at h (Triples g) refl);
        bit_triples = λ g h. at g (BitTriples h) refl ∙ not_both (nat_eq g n) (nat_eq g m) _ _ (sound.bit_triples g h) ∙ sym (at h (BitTriples g) refl ∙ not_both (nat_eq h n) (nat_eq h m) _ _ refl);
        pairs = λ g h. at g (Pairs h) refl ∙ not_both (nat_eq g n) (nat_eq g m) _ _ (sound.pairs g h) ∙ sym (at h (Pairs g) refl ∙ not_both (nat_eq h n) (nat_eq h m) _ _ refl);
      }

  bits_sound : Both BitTriples
  bits_sound a b c p q r z =
      let at = after_both m n BitTriples w a b c v p q r z in record {
        words = all;
        triples = λ g h. at g (Triples h) refl ∙ not_both (nat_eq g n) (nat_eq g m) _ _ (sound.triples g h) ∙ sym (at h (Triples g) refl ∙ not_both (nat_eq h n) (nat_eq h m) _ _ refl);
        bit_triples = λ g h. at g (BitTriples h) refl ∙ crossed (nat_eq g n) (nat_eq h m) (nat_eq g m) (nat_eq h n) _ _ (sound.bit_triples g h) ∙ sym (at h (BitTriples g) refl);
        pairs = λ g h. at g (Pairs h) refl ∙ not_both (nat_eq g n) (nat_eq g m) _ _ (sound.pairs g h) ∙ sym (at h (Pairs g) refl ∙ not_both (nat_eq h n) (nat_eq h m) _ _ refl);
      }

  pairs_sound : Both Pairs
  pairs_sound a b c p q r z =
      let at = after_both m n Pairs w a b c v p q r z in record {
        words = all;
        triples = λ g h. at g (Triples h) refl ∙ not_both (nat_eq g n) (nat_eq g m) _ _ (sound.triples g h) ∙ sym (at h (Triples g) refl ∙ not_both (nat_eq h n) (nat_eq h m) _ _ refl);
        bit_triples = λ g h. at g (BitTriples h) refl ∙ not_both (nat_eq g n) (nat_eq g m) _ _ (sound.bit_triples g h) ∙ sym (at h (BitTriples g) refl ∙ not_both (nat_eq h n) (nat_eq h m) _ _ refl);
        pairs = λ g h. at g (Pairs h) refl ∙ crossed (nat_eq g n) (nat_eq h m) (nat_eq g m) (nat_eq h n) _ _ (sound.pairs g h) ∙ sym (at h (Pairs g) refl);
      }

-- ---- one gadget

run_append : (t : Tape) (xs ys : List Act) (w : Hosts) → run_acts t (xs ++ ys) w ≡ run_acts t ys (run_acts t xs w)
run_append t [] ys w = refl
run_append t (x ∷ xs) ys w = run_append t xs ys (run_act t x w)

alone_fits : (a : Action) → TakesNoPart a → NumberFits a
alone_fits (action.Const r k) own = own
alone_fits (action.Copy r x) own = tt
alone_fits (action.Apply o r x y) own = tt
alone_fits (action.Shl r x k) own = tt
alone_fits (action.Shr r x k) own = tt
alone_fits (action.Mux r c x y) own = tt
alone_fits (action.Own r) own = tt
alone_fits (action.Triple p a b c) own = absurd own
alone_fits (action.Bits p a b c) own = absurd own
alone_fits (action.Pair p s x) own = absurd own
alone_fits (action.Input r) own = tt
alone_fits (action.Print r) own = tt
alone_fits (action.Hash d n v) own = tt
alone_fits (action.Same x y) own = tt
alone_fits (action.Zero r count) own = tt
alone_fits (action.Get r x count i) own = tt
alone_fits (action.Put x count i s) own = tt

fits : (g : Gadget) → GadgetIsTidy g → Each ActFits (acts_of_gadget g)
fits (Alone h a) tidy = (alone_fits a tidy, tt)
fits (Tells a said b heard) tidy = (tt, tt)
fits (Shares a r b heard) tidy = (tt, (tt, tt))
fits (BothShare a r heard b q heard_b) tidy = (tt, (tt, (tt, (tt, tt))))
fits (Opens sharing a x b y heard) tidy = (tt, tt)
fits (Masked BySums m n) tidy = (tt, (tt, (tt, (tt, (tt, (tt, (tt, (tt, tt))))))))
fits (Masked ByXors m n) tidy = (tt, (tt, (tt, (tt, (tt, (tt, (tt, (tt, tt))))))))
fits (Paired p q) tidy = (tt, (tt, tt))

nothing_taken : (w : Hosts) → Keeps w w
nothing_taken w g s e = refl

either_host : (P : Host → Type 0) (b : Bool) (x y : Host) → P x → P y → P (if b then x else y)
either_host P true x y p q = p
either_host P false x y p q = q

-- a host that has begun turn i
abbrev begun : Hosts → ℕ → ℕ → ℕ → Host
begun w i g counter = record (w g) { registers = put (w g).registers counter i }

either_sound : (b : Bool) (x y : Hosts) → IsSound x → IsSound y → IsSound (if b then x else y)
either_sound true x y p q = p
either_sound false x y p q = q

module _ (t : Tape) (deal : IsValidDeal t) where
  pub gadget_sound : (g : Gadget) → GadgetIsTidy g → (w : Hosts) → IsSound w → IsSound (run_acts t (acts_of_gadget g) w)
  gadget_sound (Alone h a) tidy w sound =
      still_sound w _ (acts_words t deal (acts_of_gadget (Alone h a)) w (fits (Alone h a) tidy) sound.words) (do_keeps t h.0 a w tidy) sound
  gadget_sound (Tells a said b heard) tidy w sound =
      still_sound w _ (acts_words t deal (acts_of_gadget (Tells a said b heard)) w (fits (Tells a said b heard) tidy) sound.words) (msg_keeps a.0 said b.0 heard w) sound
  gadget_sound (Shares a r b heard) tidy w sound =
      let u : Hosts = after_do t a.0 (action.Own r) w in
      still_sound w _ (acts_words t deal (acts_of_gadget (Shares a r b heard)) w (fits (Shares a r b heard) tidy) sound.words)
      (keeps_on w u (run_acts t (acts_of_gadget (Shares a r b heard)) w) (do_keeps t a.0 (action.Own r) w tt) (msg_keeps a.0 (r ∷ []) b.0 (heard ∷ []) u)) sound
  gadget_sound (BothShare a r heard b q heard_b) tidy w sound =
      let u : Hosts = after_do t a.0 (action.Own r) w in
      let v : Hosts = after_do t b.0 (action.Own q) u in
      let x : Hosts = run_act t (act.Msg a (r ∷ []) b (heard_b ∷ [])) v in
      still_sound w _ (acts_words t deal (acts_of_gadget (BothShare a r heard b q heard_b)) w (fits (BothShare a r heard b q heard_b) tidy) sound.words)
      (keeps_on w x (run_acts t (acts_of_gadget (BothShare a r heard b q heard_b)) w) (keeps_on w v x (keeps_on w u v (do_keeps t a.0 (action.Own r) w tt) (do_keeps t b.0 (action.Own q) u tt)) (msg_keeps a.0 (r ∷ []) b.0 (heard_b ∷ []) v))
      (msg_keeps b.0 (q ∷ []) a.0 (heard ∷ []) x)) sound
  gadget_sound (Opens sharing a x b y heard) tidy w sound =
      still_sound w _ (acts_words t deal (acts_of_gadget (Opens sharing a x b y heard)) w (fits (Opens sharing a x b y heard) tidy) sound.words) (msg_keeps a.0 (x ∷ []) b.0 (heard ∷ []) w) sound
  gadget_sound (Masked BySums m n) tidy w sound =
      let h : ℕ = m.host.0 in
      let k : ℕ = n.host.0 in
      let a : Hosts = after_do t h (action.Triple n.host m.a m.b m.c) w in
      let a1 : Hosts = after_do t h (action.Apply (hide BySums) m.d m.x m.a) a in
      let b : Hosts = after_do t h (action.Apply (hide BySums) m.e m.y m.b) a1 in
      let c : Hosts = after_do t k (action.Triple m.host n.a n.b n.c) b in
      let c1 : Hosts = after_do t k (action.Apply (hide BySums) n.d n.x n.a) c in
      let d : Hosts = after_do t k (action.Apply (hide BySums) n.e n.y n.b) c1 in
      let e : Hosts = run_acts t (told_by m n) d in
      triples_sound h k w _ (acts_words t deal (acts_of_gadget (Masked BySums m n)) w (fits (Masked BySums m n) tidy) sound.words) sound
      a b c (put_takes w h _ (Triples k) (λ s. refl))
      (keeps_on a a1 b (do_keeps t h (action.Apply (hide BySums) m.d m.x m.a) a tt) (do_keeps t h (action.Apply (hide BySums) m.e m.y m.b) a1 tt))
      (put_takes b k _ (Triples h) (λ s. refl))
      (keeps_on c e (run_acts t (acts_of_gadget (Masked BySums m n)) w) (keeps_on c d e (keeps_on c c1 d (do_keeps t k (action.Apply (hide BySums) n.d n.x n.a) c tt) (do_keeps t k (action.Apply (hide BySums) n.e n.y n.b) c1 tt))
      (msg_keeps h (m.d ∷ m.e ∷ []) k (n.heard_d ∷ n.heard_e ∷ []) d)) (msg_keeps k (n.d ∷ n.e ∷ []) h (m.heard_d ∷ m.heard_e ∷ []) e))
  gadget_sound (Masked ByXors m n) tidy w sound =
      let h : ℕ = m.host.0 in
      let k : ℕ = n.host.0 in
      let a : Hosts = after_do t h (action.Bits n.host m.a m.b m.c) w in
      let a1 : Hosts = after_do t h (action.Apply (hide ByXors) m.d m.x m.a) a in
      let b : Hosts = after_do t h (action.Apply (hide ByXors) m.e m.y m.b) a1 in
      let c : Hosts = after_do t k (action.Bits m.host n.a n.b n.c) b in
      let c1 : Hosts = after_do t k (action.Apply (hide ByXors) n.d n.x n.a) c in
      let d : Hosts = after_do t k (action.Apply (hide ByXors) n.e n.y n.b) c1 in
      let e : Hosts = run_acts t (told_by m n) d in
      bits_sound h k w _ (acts_words t deal (acts_of_gadget (Masked ByXors m n)) w (fits (Masked ByXors m n) tidy) sound.words) sound
      a b c (put_takes w h _ (BitTriples k) (λ s. refl))
      (keeps_on a a1 b (do_keeps t h (action.Apply (hide ByXors) m.d m.x m.a) a tt) (do_keeps t h (action.Apply (hide ByXors) m.e m.y m.b) a1 tt))
      (put_takes b k _ (BitTriples h) (λ s. refl))
      (keeps_on c e (run_acts t (acts_of_gadget (Masked ByXors m n)) w) (keeps_on c d e (keeps_on c c1 d (do_keeps t k (action.Apply (hide ByXors) n.d n.x n.a) c tt) (do_keeps t k (action.Apply (hide ByXors) n.e n.y n.b) c1 tt))
      (msg_keeps h (m.d ∷ m.e ∷ []) k (n.heard_d ∷ n.heard_e ∷ []) d)) (msg_keeps k (n.d ∷ n.e ∷ []) h (m.heard_d ∷ m.heard_e ∷ []) e))
  gadget_sound (Paired p q) tidy w sound =
      let h : ℕ = p.host.0 in
      let k : ℕ = q.host.0 in
      let a : Hosts = after_do t h (action.Pair q.host p.s p.x) w in
      let c : Hosts = after_do t k (action.Pair p.host q.s q.x) a in
      pairs_sound h k w c (acts_words t deal (acts_of_gadget (Paired p q)) w (fits (Paired p q) tidy) sound.words) sound
      a a c (put_takes w h _ (Pairs k) (λ s. refl)) (nothing_taken a) (put_takes a k _ (Pairs h) (λ s. refl)) (nothing_taken c)

  pub gadgets_sound : (gadgets : List Gadget) → GadgetsAreTidy gadgets → (w : Hosts) → IsSound w → IsSound (run_acts t (acts_of_gadgets gadgets) w)
  gadgets_sound [] tidy w sound = sound
  gadgets_sound (g ∷ gadgets) tidy w sound =
      subst IsSound (sym (run_append t (acts_of_gadget g) (acts_of_gadgets gadgets) w))
      (gadgets_sound gadgets tidy.1 (run_acts t (acts_of_gadget g) w) (gadget_sound g tidy.0 w sound))

  -- ---- a plan

  begun_sound : (ps : List Part) (i : ℕ) → i < 2 ^ 32 → (w : Hosts) → IsSound w → IsSound (turn_begun ps i w)
  begun_sound ps i small w sound = still_sound w (turn_begun ps i w) (λ g. words g ps) (λ g s e. cursors g s ps) sound
    where
      words : (g : ℕ) (qs : List Part) → AreWords (if_part qs g (λ counter. record (w g) { registers = put (w g).registers counter i }) (w g)).registers
      words g [] = sound.words g
      words g (q ∷ qs) = either_host (λ z. AreWords z.registers) (nat_eq g q.0) (begun w i g q.1) (if_part qs g (begun w i g) (w g)) (put_words (w g).registers q.1 i (sound.words g) small) (words g qs)

      cursors : (g : ℕ) (s : Source) (qs : List Part) → (if_part qs g (λ counter. record (w g) { registers = put (w g).registers counter i }) (w g)).cursors s ≡ (w g).cursors s
      cursors g s [] = refl
      cursors g s (q ∷ qs) = either_host (λ z. z.cursors s ≡ (w g).cursors s) (nat_eq g q.0) (begun w i g q.1) (if_part qs g (begun w i g) (w g)) refl (cursors g s qs)

  turns_sound : (turn : ℕ → Hosts → Hosts) → ((i : ℕ) (v : Hosts) → i < 2 ^ 32 → IsSound v → IsSound (turn i v)) → (n i : ℕ) (w : Hosts) → i + n ≤ 2 ^ 32 → IsSound w → IsSound (turns turn n i w)
  turns_sound turn keeps zero i w few sound = sound
  turns_sound turn keeps (suc n) i w few sound = turns_sound turn keeps n (suc i) (turn i w) (omega (arith, few)) (keeps i w (omega (arith, few)) sound)

  pub plan_sound : (plan : Plan Gadget) → PlanIsTidy plan → (w : Hosts) → IsSound w → IsSound (joint t (joint_of plan) w)
  plan_sound Ends tidy w sound = sound
  plan_sound (Then g rest) tidy w sound =
      subst IsSound (sym (runs_first t (acts_of_gadget g) (joint_of rest) w))
      (plan_sound rest tidy.1 (run_acts t (acts_of_gadget g) w) (gadget_sound g tidy.0 w sound))
  plan_sound (Branch ps first other rest) tidy w sound =
      plan_sound rest tidy.1.1.1 _ (either_sound (is_other ps w) _ _ (plan_sound other tidy.1.1.0 w sound) (plan_sound first tidy.1.0 w sound))
  plan_sound (Loop ps count body rest) tidy w sound =
      plan_sound rest tidy.1.1.1 _
      (turns_sound (λ i v. joint t (joint_of body) (turn_begun ps i v)) (λ i v small s. plan_sound body tidy.1.1.0 (turn_begun ps i v) (begun_sound ps i small v s)) count 0 w (omega (arith, tidy.1.0)) sound)

-- ---- tidy joint code

acts_tidy : (g : Gadget) → GadgetIsTidy g → ActsAreTidy (acts_of_gadget g)
acts_tidy (Alone h a) tidy = (tt, tt)
acts_tidy (Tells a said b heard) tidy = (tidy, tt)
acts_tidy (Shares a r b heard) tidy = (tt, ((tidy, refl), tt))
acts_tidy (BothShare a r heard b q heard_b) tidy = (tt, (tt, ((tidy.0, refl), ((λ e. tidy.0 (sym e), refl), tt))))
acts_tidy (Opens sharing a x b y heard) tidy = ((tidy, refl), tt)
acts_tidy (Masked BySums m n) tidy = (tt, (tt, (tt, (tt, (tt, (tt, ((tidy.0, refl), ((λ e. tidy.0 (sym e), refl), tt))))))))
acts_tidy (Masked ByXors m n) tidy = (tt, (tt, (tt, (tt, (tt, (tt, ((tidy.0, refl), ((λ e. tidy.0 (sym e), refl), tt))))))))
acts_tidy (Paired p q) tidy = (tt, (tt, tt))

plan_within : (ps : List Part) (plan : Plan Gadget) → PlanIsWithin ps plan → Within ps (joint_of plan)
plan_within ps Ends within = tt
plan_within ps (Then g rest) within = within_first ps (acts_of_gadget g) (joint_of rest) within.0 (plan_within ps rest within.1)
plan_within ps (Branch qs first other rest) within = (within.0, plan_within ps rest within.1)
plan_within ps (Loop qs count body rest) within = (within.0, plan_within ps rest within.1)

pub plan_tidy : (plan : Plan Gadget) → PlanIsTidy plan → IsTidy (joint_of plan)
plan_tidy Ends tidy = tt
plan_tidy (Then g rest) tidy = tidy_first (acts_of_gadget g) (joint_of rest) (acts_tidy g tidy.0) (plan_tidy rest tidy.1)
plan_tidy (Branch ps first other rest) tidy =
    ((tidy.0.0, plan_within ps first tidy.0.1, plan_within ps other tidy.0.2), (plan_tidy first tidy.1.0, (plan_tidy other tidy.1.1.0, plan_tidy rest tidy.1.1.1)))
plan_tidy (Loop ps count body rest) tidy = ((tidy.0.0, plan_within ps body tidy.0.1), (plan_tidy body tidy.1.1.0, plan_tidy rest tidy.1.1.1))
