-- Words that two hosts share are opened: the host that hears the other's part is told the word.
use Rattle.std.proofs.Common.{◌≡◌, ◌≢◌, ℕ, ◌+◌, ◌%◌, ◌^◌, ◌<◌, nat_eq, Bool, true, false, if◌then◌else◌, List, [], ◌∷◌, ◌⊎◌, inl, inr, refl, sym, ap, ap₂, ◌∙◌, rules, arith, bit_xor}
use Rattle.std.specs.Prelude.{slice_index}
use Rattle.std.proofs.Math.Nat.{add_comm}
use Rattle.std.proofs.lemmas.Nat.{xor_comm}
use Rattle.vd_base.specs.declared.ids.HostId.{HostId}
use Rattle.vd_execution.specs.declared.instructions.Reg.{Reg}
use Rattle.vd_execution.specs.declared.instructions.Action.TheVariants as action
use Rattle.vd_execution.specs.Registers.{Registers}
use Rattle.vd_execution.specs.Text.{register}
use Rattle.vd_execution.specs.World.{Tape}
use Rattle.vd_execution.specs.Joint.{Host, Hosts, after_msg, has_heard}
use Rattle.vd_execution.specs.Acts.{run_acts}
use Rattle.vd_execution.specs.Gadgets.{Sharing, BySums, ByXors, Gadget, Alone, Opens, acts_of_gadget}
use Rattle.vd_execution.proofs.Front.{put_same, put_other}
use Rattle.vd_duet.specs.Builder.{next_at, taken}
use Rattle.vd_backend_sharing.specs.declared.shares.PartRegisters.{PartRegisters}
use Rattle.vd_backend_sharing.specs.Sharings.{join, joined}
use Rattle.vd_backend_sharing.specs.PairCalls.{opened_by, shown_at, shown_to_both}
use Rattle.vd_views.specs.Views.{Coalition, IsIn}
use Rattle.vd_views.specs.Hiding.{opened}
use Rattle.vd_views.proofs.Coalitions.{in_at}
use Rattle.vd_views.specs.Sides.{AreKin, Telling, Each, IsQuiet}
use Rattle.vd_views.proofs.Sides.{telling_then, telling_quiet}
use Rattle.vd_views.proofs.Clear.{msg_other}

opened_joined : (s : Sharing) (p q : ℕ) → opened s p q ≡ joined s p q
opened_joined BySums p q = refl
opened_joined ByXors p q = refl

xor_turned : (p q : ℕ) → bit_xor p q ≡ bit_xor q p
xor_turned p q = xor_comm p q

opened_turned : (s : Sharing) (p q : ℕ) → opened s p q ≡ joined s q p
opened_turned BySums p q = ap (λ (z : ℕ). z % 2 ^ 32) (add_comm p q)
opened_turned ByXors p q = xor_turned p q

-- the parts of a word at two hosts
abbrev pub HaveWord : Sharing → HostId → HostId → PartRegisters → ℕ → Hosts → Type 0
HaveWord s a b x c w = joined s ((w a.0).registers x.first.0) ((w b.0).registers x.second.0) ≡ c

module _ (K : Coalition) (t y : Tape) (kin : AreKin K t y) (s : Sharing) (a b : HostId) (apart : a.0 ≢ b.0) (x : PartRegisters) (c d : ℕ) where
  -- the first host's part to the second
  first_opens : (w v : Hosts) → HaveWord s a b x c w → HaveWord s a b x d v → (IsIn K b.0 → c ≡ d) → IsIn K b.0
      → opened s ((w a.0).registers x.first.0) ((w b.0).registers x.second.0) ≡ opened s ((v a.0).registers x.first.0) ((v b.0).registers x.second.0)
  first_opens w v e f same i = opened_joined s _ _ ∙ e ∙ same i ∙ sym f ∙ sym (opened_joined s _ _)

  -- and the second's to the first
  second_opens : (w v : Hosts) → HaveWord s a b x c w → HaveWord s a b x d v → (IsIn K a.0 → c ≡ d) → IsIn K a.0
      → opened s ((w b.0).registers x.second.0) ((w a.0).registers x.first.0) ≡ opened s ((v b.0).registers x.second.0) ((v a.0).registers x.first.0)
  second_opens w v e f same i = opened_turned s _ _ ∙ e ∙ same i ∙ sym f ∙ sym (opened_turned s _ _)

  -- where b hears into a register that is not its part, the parts are still there
  heard_on : (r : Reg) → x.second.0 ≢ r.0 → (w : Hosts) (z : ℕ) → HaveWord s a b x z w → HaveWord s a b x z (after_msg a.0 (x.first ∷ []) b.0 (r ∷ []) w)
  heard_on r n w z e =
      ap₂ (λ (p q : ℕ). joined s p q)
      (ap (λ (f : Registers). f x.first.0) (msg_other a.0 (x.first ∷ []) b.0 (r ∷ []) w a.0 apart))
      (ap (λ (k : Host). k.registers x.second.0) (put_same _ b.0 (has_heard (r ∷ []) ((w a.0).registers x.first.0 ∷ []) (w b.0))) ∙ put_other (w b.0).registers r.0 ((w a.0).registers x.first.0) x.second.0 n)
      ∙ e

  -- both open their parts, and then nothing is told
  pub both_open : (r q : Reg) (gs : List Gadget) → x.second.0 ≢ r.0 → Each IsQuiet gs → (w v : Hosts) → HaveWord s a b x c w → HaveWord s a b x d v → (IsIn K a.0 ⊎ IsIn K b.0 → c ≡ d)
      → Telling K t y (Opens s a x.first b x.second r ∷ Opens s b x.second a x.first q ∷ gs) w v
  both_open r q gs n quiet w v e f same =
      let w1 : Hosts = after_msg a.0 (x.first ∷ []) b.0 (r ∷ []) w in
      let v1 : Hosts = after_msg a.0 (x.first ∷ []) b.0 (r ∷ []) v in
      telling_then K t y kin (Opens s a x.first b x.second r) (Opens s b x.second a x.first q ∷ gs) w v (λ _ _. first_opens w v e f (λ i. same (inr i)))
      (telling_then K t y kin (Opens s b x.second a x.first q) gs w1 v1 (λ _ _. second_opens w1 v1 (heard_on r n w c e) (heard_on r n v d f) (λ i. same (inl i)))
      (telling_quiet K t y kin gs _ _ quiet))

  -- a word is shown to one of the two
  pub shown_tells : (to : HostId) → (nat_eq to.0 a.0 ≡ false → to.0 ≡ b.0) → (next : List ℕ) (w v : Hosts) → HaveWord s a b x c w → HaveWord s a b x d v → (IsIn K to.0 → c ≡ d) → Telling K t y (shown_at s a b x to next).gadgets w v
  shown_tells to either next w v e f same = at (nat_eq to.0 a.0) refl
    where
      equal : nat_eq to.0 a.0 ≡ true → to.0 ≡ a.0
      equal i = grind (arith, rules)

      at : (z : Bool) → nat_eq to.0 a.0 ≡ z → Telling K t y (if z then opened_by s b x.second a x.first next else opened_by s a x.first b x.second next).gadgets w v
      at true i =
          let r : Reg = next_at next a in
          let gs : List Gadget = Alone a (action.Apply (join s) (register (r.0 + 1)) x.first r) ∷ [] in
          telling_then K t y kin (Opens s b x.second a x.first r) gs w v (λ _ _. second_opens w v e f (λ j. same (in_at K to.0 a.0 (equal i) j)))
          (telling_quiet K t y kin gs (run_acts t (acts_of_gadget (Opens s b x.second a x.first r)) w) (run_acts y (acts_of_gadget (Opens s b x.second a x.first r)) v) (tt, tt))
      at false i =
          let r : Reg = next_at next b in
          let gs : List Gadget = Alone b (action.Apply (join s) (register (r.0 + 1)) x.second r) ∷ [] in
          telling_then K t y kin (Opens s a x.first b x.second r) gs w v (λ _ _. first_opens w v e f (λ j. same (in_at K to.0 b.0 (either i) j)))
          (telling_quiet K t y kin gs (run_acts t (acts_of_gadget (Opens s a x.first b x.second r)) w) (run_acts y (acts_of_gadget (Opens s a x.first b x.second r)) v) (tt, tt))

  -- and to both
  pub all_shown_tells : (next : List ℕ) → x.second.0 < slice_index (taken a 2 next) b.0 → (w v : Hosts) → HaveWord s a b x c w → HaveWord s a b x d v → (IsIn K a.0 ⊎ IsIn K b.0 → c ≡ d)
      → Telling K t y (shown_to_both s a b x next).gadgets w v
  all_shown_tells next low w v e f same =
      let n : ℕ = slice_index next a.0 in
      let m : ℕ = slice_index (taken a 2 next) b.0 in
      both_open (register m) (register n)
      (Alone a (action.Apply (join s) (register (n + 1)) x.first (register n)) ∷ Alone b (action.Apply (join s) (register (m + 1)) x.second (register m)) ∷ [])
      (λ i. below low i) (tt, (tt, tt)) w v e f same
    where
      below : {p q : ℕ} → p < q → p ≡ q → ⊥
      below lt i = omega (arith, lt, i)
