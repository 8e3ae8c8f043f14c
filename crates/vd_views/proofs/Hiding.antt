-- Gadgets that hide alike what items hide tell a host alike.
use Rattle.std.proofs.Common.{◌≡◌, ◌≢◌, ℕ, List, [], ◌∷◌, ◌++◌, ◌⊎◌, inl, inr, refl, sym, ap, ap₂, subst₂, ◌∙◌, ◌<◌, ◌^◌, arith, bit_xor}
use Rattle.vd_base.specs.declared.ids.HostId.{HostId}
use Rattle.vd_execution.specs.declared.instructions.Reg.{Reg}
use Rattle.vd_execution.specs.declared.instructions.Action.TheVariants as action
use Rattle.vd_execution.specs.declared.instructions.Act.{Act}
use Rattle.vd_execution.specs.Registers.{Registers, put, applied, nth}
use Rattle.vd_execution.specs.Step.{Source, OwnWords, words_in}
use Rattle.vd_execution.specs.World.{Tape}
use Rattle.vd_execution.specs.Joint.{Host, Hosts, acted, after_do, after_msg}
use Rattle.vd_execution.specs.Acts.{run_act, run_acts, ActsAreTidy}
use Rattle.vd_execution.proofs.Front.{put_same, put_other, gadget_sound}
use Rattle.vd_execution.specs.Deals.{IsValidDeal}
use Rattle.vd_views.specs.Views.{Coalition, IsIn, IsOut, SameParts, LookAlike, ActsTellCoalition}
use Rattle.vd_views.proofs.Blocks.{acts_alike}
use Rattle.vd_views.proofs.Masks.{xor_back}
use Rattle.vd_views.proofs.Coalitions.{in_or_out, in_at}
use Rattle.vd_execution.specs.Gadgets.{Sharing, BySums, ByXors, Masking, Gadget, Alone, Tells, Shares, BothShare, Opens, Masked, Paired, hide, take, source_of, masking, told_by, acts_of_gadget, acts_of_gadgets, IsFresh, GadgetIsTidy, GadgetsAreTidy, IsSound}
use Rattle.vd_views.specs.Hiding.{next_item, HidesAlike, GadgetHides, GadgetKnows, GadgetsHide, GadgetsKnow, opened}

-- ---- acts one after the other

pub run_append : (t : Tape) (xs ys : List Act) (w : Hosts) → run_acts t (xs ++ ys) w ≡ run_acts t ys (run_acts t xs w)
run_append t [] ys w = refl
run_append t (x ∷ xs) ys w = run_append t xs ys (run_act t x w)

-- ---- reading registers that were written

module _ (f : Registers) (m : Masking) (fresh : IsFresh m) (o : ℕ → ℕ → ℕ) (i j k : ℕ) where
  abbrev taken : Registers
  taken = put (put (put f m.a.0 i) m.b.0 j) m.c.0 k

  abbrev once : Registers
  once = put taken m.d.0 (o (taken m.x.0) (taken m.a.0))

  abbrev twice : Registers
  twice = put once m.e.0 (o (once m.y.0) (once m.b.0))

  past : (r : ℕ) → r ≢ m.a.0 → r ≢ m.b.0 → r ≢ m.c.0 → taken r ≡ f r
  past r a b c = put_other _ m.c.0 k r c ∙ put_other _ m.b.0 j r b ∙ put_other f m.a.0 i r a

  reads_d : twice m.d.0 ≡ o (f m.x.0) i
  reads_d = put_other once m.e.0 _ m.d.0 fresh.d_e ∙ put_same taken m.d.0 _
      ∙ ap₂ o (past m.x.0 fresh.x_a fresh.x_b fresh.x_c) (put_other _ m.c.0 k m.a.0 fresh.a_c ∙ put_other _ m.b.0 j m.a.0 fresh.a_b ∙ put_same f m.a.0 i)

  reads_e : twice m.e.0 ≡ o (f m.y.0) j
  reads_e = put_same once m.e.0 _
      ∙ ap₂ o (put_other taken m.d.0 _ m.y.0 fresh.y_d ∙ past m.y.0 fresh.y_a fresh.y_b fresh.y_c)
      (put_other taken m.d.0 _ m.b.0 fresh.b_d ∙ put_other _ m.c.0 k m.b.0 fresh.b_c ∙ put_same (put f m.a.0 i) m.b.0 j)

-- ---- a host takes an item and masks its operands

-- what the host's registers then hold
masked_registers : (t : Tape) (sharing : Sharing) (m : Masking) (peer : HostId) (w : Hosts) (fresh : IsFresh m)
    → let i : List ℕ = next_item t w m.host.0 (source_of sharing peer.0) in
    (run_acts t (masking sharing m peer) w m.host.0).registers ≡ twice (w m.host.0).registers m fresh (applied (hide sharing)) (nth i 0) (nth i 1) (nth i 2)
masked_registers t sharing m peer w fresh =
    ap (λ (s : Host). s.registers)
    (put_same _ m.host.0 _
    ∙ ap (acted (t m.host.0) (action.Apply (hide sharing) m.e m.y m.b))
    (put_same _ m.host.0 _ ∙ ap (acted (t m.host.0) (action.Apply (hide sharing) m.d m.x m.a)) (put_same w m.host.0 _)))
    ∙ same sharing
  where
    same : (sharing : Sharing) → let i : List ℕ = next_item t w m.host.0 (source_of sharing peer.0) in
        (acted (t m.host.0) (action.Apply (hide sharing) m.e m.y m.b) (acted (t m.host.0) (action.Apply (hide sharing) m.d m.x m.a) (acted (t m.host.0) (take sharing peer m.a m.b m.c) (w m.host.0)))).registers
        ≡ twice (w m.host.0).registers m fresh (applied (hide sharing)) (nth i 0) (nth i 1) (nth i 2)
    same BySums = refl
    same ByXors = refl

-- other hosts stay
pub masking_keeps : (t : Tape) (sharing : Sharing) (m : Masking) (peer : HostId) (w : Hosts) (g : ℕ) → g ≢ m.host.0 → run_acts t (masking sharing m peer) w g ≡ w g
masking_keeps t sharing m peer w g n = put_other _ m.host.0 _ g n ∙ put_other _ m.host.0 _ g n ∙ put_other w m.host.0 _ g n

-- the masked operands
abbrev hidden : Tape → Sharing → Masking → ℕ → Hosts → List ℕ
hidden t sharing m peer w =
    applied (hide sharing) ((w m.host.0).registers m.x.0) (nth (next_item t w m.host.0 (source_of sharing peer)) 0)
    ∷ applied (hide sharing) ((w m.host.0).registers m.y.0) (nth (next_item t w m.host.0 (source_of sharing peer)) 1) ∷ []

abbrev both : ℕ → ℕ → List ℕ
both a b = a ∷ b ∷ []

masked_words : (t : Tape) (sharing : Sharing) (m : Masking) (peer : HostId) (w : Hosts) → IsFresh m → words_in (run_acts t (masking sharing m peer) w m.host.0).registers (m.d ∷ m.e ∷ []) ≡ hidden t sharing m peer.0 w
masked_words t sharing m peer w fresh =
    let i : List ℕ = next_item t w m.host.0 (source_of sharing peer.0) in
    ap (λ (f : Registers). words_in f (m.d ∷ m.e ∷ [])) (masked_registers t sharing m peer w fresh)
    ∙ ap₂ both (reads_d (w m.host.0).registers m fresh (applied (hide sharing)) (nth i 0) (nth i 1) (nth i 2)) (reads_e (w m.host.0).registers m fresh (applied (hide sharing)) (nth i 0) (nth i 1) (nth i 2))

-- ---- the whole exchange: what each side says

-- both have masked
abbrev hid : Tape → Sharing → Masking → Masking → Hosts → Hosts
hid t sharing m n w = run_acts t (masking sharing n m.host) (run_acts t (masking sharing m n.host) w)

first_words : (t : Tape) (sharing : Sharing) (m n : Masking) (w : Hosts) → m.host.0 ≢ n.host.0 → IsFresh m → words_in (hid t sharing m n w m.host.0).registers (m.d ∷ m.e ∷ []) ≡ hidden t sharing m n.host.0 w
first_words t sharing m n w apart fresh =
    ap (λ (s : Host). words_in s.registers (m.d ∷ m.e ∷ [])) (masking_keeps t sharing n m.host (run_acts t (masking sharing m n.host) w) m.host.0 apart) ∙ masked_words t sharing m n.host w fresh

second_words : (t : Tape) (sharing : Sharing) (m n : Masking) (w : Hosts) → m.host.0 ≢ n.host.0 → IsFresh n
    → words_in (run_acts t (told_by m n) (hid t sharing m n w) n.host.0).registers (n.d ∷ n.e ∷ []) ≡ hidden t sharing n m.host.0 w
second_words t sharing m n w apart fresh =
    let x : Hosts = hid t sharing m n w in
    let p : ℕ = (x m.host.0).registers m.d.0 in
    let q : ℕ = (x m.host.0).registers m.e.0 in
    let f : Registers = (x n.host.0).registers in
    ap (λ (s : Host). words_in s.registers (n.d ∷ n.e ∷ [])) (put_same _ n.host.0 _)
    ∙ ap₂ both
    (put_other (put f n.heard_d.0 p) n.heard_e.0 q n.d.0 fresh.d_heard.1 ∙ put_other f n.heard_d.0 p n.d.0 fresh.d_heard.0)
    (put_other (put f n.heard_d.0 p) n.heard_e.0 q n.e.0 fresh.e_heard.1 ∙ put_other f n.heard_d.0 p n.e.0 fresh.e_heard.0)
    ∙ masked_words t sharing n m.host (run_acts t (masking sharing m n.host) w) fresh
    ∙ ap (λ (s : Host). of s) (masking_keeps t sharing m n.host w n.host.0 (λ e. apart (sym e)))
  where
    of : Host → List ℕ
    of s = applied (hide sharing) (s.registers n.x.0) (nth (t n.host.0 (source_of sharing m.host.0) (s.cursors (source_of sharing m.host.0))) 0)
        ∷ applied (hide sharing) (s.registers n.y.0) (nth (t n.host.0 (source_of sharing m.host.0) (s.cursors (source_of sharing m.host.0))) 1) ∷ []

-- ---- what is told openly

cancels : (sharing : Sharing) (x z y : ℕ) → x < 2 ^ 32 → z < 2 ^ 32 → opened sharing x y ≡ opened sharing z y → x ≡ z
cancels BySums x z y hx hz e = omega (arith, e, hx, hz)
cancels ByXors x z y hx hz e = sym (xor_back x y) ∙ ap (λ (q : ℕ). bit_xor q y) e ∙ xor_back z y

shared_word : (t : Tape) (a : HostId) (r : Reg) (w : Hosts) → (after_do t a.0 (action.Own r) w a.0).registers r.0 ≡ nth (next_item t w a.0 OwnWords) 0
shared_word t a r w = ap (λ (s : Host). s.registers r.0) (put_same w a.0 _) ∙ put_same (w a.0).registers r.0 _

first_share : (t : Tape) (a : HostId) (r : Reg) (b : HostId) (q : Reg) (w : Hosts) → a.0 ≢ b.0 → (after_do t b.0 (action.Own q) (after_do t a.0 (action.Own r) w) a.0).registers r.0 ≡ nth (next_item t w a.0 OwnWords) 0
first_share t a r b q w apart = ap (λ (s : Host). s.registers r.0) (put_other _ b.0 _ a.0 apart) ∙ shared_word t a r w

second_share : (t : Tape) (a : HostId) (r : Reg) (b : HostId) (q heard_b : Reg) (w : Hosts) → a.0 ≢ b.0 → q.0 ≢ heard_b.0
    → (after_msg a.0 (r ∷ []) b.0 (heard_b ∷ []) (after_do t b.0 (action.Own q) (after_do t a.0 (action.Own r) w)) b.0).registers q.0 ≡ nth (next_item t w b.0 OwnWords) 0
second_share t a r b q heard_b w apart ne =
    ap (λ (s : Host). s.registers q.0) (put_same _ b.0 _) ∙ put_other _ heard_b.0 _ q.0 ne ∙ shared_word t b q (after_do t a.0 (action.Own r) w)
    ∙ ap (λ (s : Host). nth (t b.0 OwnWords (s.cursors OwnWords)) 0) (put_other w a.0 _ b.0 (λ e. apart (sym e)))

-- what a host masks that is the same in both runs, with the same items, is the same
masked_by : Sharing → Masking → ℕ → (Source → ℕ → List ℕ) → Host → List ℕ
masked_by sharing m peer f s =
    applied (hide sharing) (s.registers m.x.0) (nth (f (source_of sharing peer) (s.cursors (source_of sharing peer))) 0)
    ∷ applied (hide sharing) (s.registers m.y.0) (nth (f (source_of sharing peer) (s.cursors (source_of sharing peer))) 1) ∷ []

hidden_same : (t u : Tape) (sharing : Sharing) (m : Masking) (peer : ℕ) (w v : Hosts) → t m.host.0 ≡ u m.host.0 → w m.host.0 ≡ v m.host.0 → hidden t sharing m peer w ≡ hidden u sharing m peer v
unfolding masked_by
hidden_same t u sharing m peer w v p e = ap₂ (λ (f : Source → ℕ → List ℕ) (s : Host). masked_by sharing m peer f s) p e

-- what a host of the coalition is told of the other's operands
module _ (K : Coalition) (t u : Tape) (same : SameParts K t u) (w v : Hosts) (l : LookAlike K w v) where
  masked_alike : (sharing : Sharing) (m n : Masking) → (IsIn K n.host.0 → IsOut K m.host.0 → HidesAlike sharing m n.host.0 t u w v) → IsIn K n.host.0 → hidden t sharing m n.host.0 w ≡ hidden u sharing m n.host.0 v
  masked_alike sharing m n e i = at (in_or_out K m.host.0)
    where
      at : IsIn K m.host.0 ⊎ IsOut K m.host.0 → hidden t sharing m n.host.0 w ≡ hidden u sharing m n.host.0 v
      at (inl j) = hidden_same t u sharing m n.host.0 w v (same m.host.0 j) (l m.host.0 j).itself
      at (inr o) = ap₂ both (e i o).0 (e i o).1

pub gadget_tells : (K : Coalition) (t u : Tape) → SameParts K t u → (r : Gadget) (w v : Hosts) → GadgetIsTidy r → IsSound w → IsSound v → LookAlike K w v → GadgetHides K t u r w v → GadgetKnows K t u r w v → ActsTellCoalition K t u (acts_of_gadget r) w v
gadget_tells K t u same (Alone g a) w v tidy sw sv l e f h i = (tt, tt)
gadget_tells K t u same (Tells a said b heard) w v tidy sw sv l e f h i = ((λ q. f (in_at K b.0 h q i)), tt)
gadget_tells K t u same (Shares a r b heard) w v tidy sw sv l e f h i =
    (tt, ((λ q. ap (λ (x : ℕ). x ∷ []) (shared_word t a r w ∙ ap (λ (xs : List ℕ). nth xs 0) (f (in_at K b.0 h q i)) ∙ sym (shared_word u a r v))), tt))
gadget_tells K t u same (BothShare a r heard b q heard_b) w v tidy sw sv l e f h i = (
  tt,
  (
    tt,
    (
      (λ j. ap (λ (x : ℕ). x ∷ []) (first_share t a r b q w tidy.0 ∙ ap (λ (xs : List ℕ). nth xs 0) (f.0 (in_at K b.0 h j i)) ∙ sym (first_share u a r b q v tidy.0))),
      ((λ j. ap (λ (x : ℕ). x ∷ []) (second_share t a r b q heard_b w tidy.0 tidy.1 ∙ ap (λ (xs : List ℕ). nth xs 0) (f.1 (in_at K a.0 h j i)) ∙ sym (second_share u a r b q heard_b v tidy.0 tidy.1))), tt),
    ),
  ),
)
gadget_tells K t u same (Opens sharing a x b y heard) w v tidy sw sv l e f h i = (said, tt)
  where
    said : b.0 ≡ h → (w a.0).registers x.0 ∷ [] ≡ (v a.0).registers x.0 ∷ []
    said q =
        let j : IsIn K b.0 = in_at K b.0 h q i in
        let alike : w b.0 ≡ v b.0 = (l b.0 j).itself in
        ap (λ (z : ℕ). z ∷ []) (cancels sharing ((w a.0).registers x.0) ((v a.0).registers x.0) ((v b.0).registers y.0) (sw.words a.0 x.0) (sv.words a.0 x.0)
        (sym (ap (λ (s : Host). opened sharing ((w a.0).registers x.0) (s.registers y.0)) alike) ∙ f j))
gadget_tells K t u same (Masked sharing m n) w v tidy sw sv l e f h i = (
  tt,
  (
    tt,
    (
      tt,
      (
        tt,
        (
          tt,
          (
            tt,
            (
              (λ j. first_words t sharing m n w tidy.0 tidy.1.0 ∙ masked_alike K t u same w v l sharing m n e.0 (in_at K n.host.0 h j i) ∙ sym (first_words u sharing m n v tidy.0 tidy.1.0)),
              ((λ j. second_words t sharing m n w tidy.0 tidy.1.1 ∙ masked_alike K t u same w v l sharing n m e.1 (in_at K m.host.0 h j i) ∙ sym (second_words u sharing m n v tidy.0 tidy.1.1)), tt),
            ),
          ),
        ),
      ),
    ),
  ),
)
gadget_tells K t u same (Paired p q) w v tidy sw sv l e f h i = (tt, (tt, tt))

gadget_acts_tidy : (r : Gadget) → GadgetIsTidy r → ActsAreTidy (acts_of_gadget r)
gadget_acts_tidy (Alone g a) tidy = (tt, tt)
gadget_acts_tidy (Tells a said b heard) tidy = (tidy, tt)
gadget_acts_tidy (Shares a r b heard) tidy = (tt, ((tidy, refl), tt))
gadget_acts_tidy (BothShare a r heard b q heard_b) tidy = (tt, (tt, ((tidy.0, refl), (((λ e. tidy.0 (sym e)), refl), tt))))
gadget_acts_tidy (Opens sharing a x b y heard) tidy = ((tidy, refl), tt)
gadget_acts_tidy (Masked sharing m n) tidy = (tt, (tt, (tt, (tt, (tt, (tt, ((tidy.0, refl), (((λ e. tidy.0 (sym e)), refl), tt))))))))
gadget_acts_tidy (Paired p q) tidy = (tt, (tt, tt))

-- one gadget leaves the coalition as it is in the other run
pub gadget_alike : (K : Coalition) (t u : Tape) → SameParts K t u → (r : Gadget) (w v : Hosts) → GadgetIsTidy r → IsSound w → IsSound v → LookAlike K w v → GadgetHides K t u r w v → GadgetKnows K t u r w v
    → LookAlike K (run_acts t (acts_of_gadget r) w) (run_acts u (acts_of_gadget r) v)
gadget_alike K t u same r w v tidy sw sv l e f h i = acts_alike h t u (same h i) (acts_of_gadget r) (gadget_acts_tidy r tidy) w v (l h i) (gadget_tells K t u same r w v tidy sw sv l e f h i)

pub gadgets_alike : (K : Coalition) (t u : Tape) → IsValidDeal t → IsValidDeal u → SameParts K t u → (gadgets : List Gadget) → GadgetsAreTidy gadgets → (w v : Hosts) → IsSound w → IsSound v → LookAlike K w v
    → GadgetsHide K t u gadgets w v → GadgetsKnow K t u gadgets w v → LookAlike K (run_acts t (acts_of_gadgets gadgets) w) (run_acts u (acts_of_gadgets gadgets) v)
gadgets_alike K t u dt du same [] tidy w v sw sv l e f = l
gadgets_alike K t u dt du same (g ∷ gadgets) tidy w v sw sv l e f =
    let P : Hosts → Hosts → Type 0 = λ x y. LookAlike K x y in
    subst₂ P (sym (run_append t (acts_of_gadget g) (acts_of_gadgets gadgets) w)) (sym (run_append u (acts_of_gadget g) (acts_of_gadgets gadgets) v))
    (gadgets_alike K t u dt du same gadgets tidy.1 (run_acts t (acts_of_gadget g) w) (run_acts u (acts_of_gadget g) v) (gadget_sound t dt g tidy.0 w sw) (gadget_sound u du g tidy.0 v sv)
    (gadget_alike K t u same g w v tidy.0 sw sv l e.0 f.0) e.1 f.1)

-- exchanged, it hides alike too
pub gadget_back : (K : Coalition) (t u : Tape) (r : Gadget) (w v : Hosts) → GadgetHides K t u r w v → GadgetHides K u t r v w
gadget_back K t u (Alone g a) w v e = tt
gadget_back K t u (Tells a said b heard) w v e = tt
gadget_back K t u (Shares a r b heard) w v e = tt
gadget_back K t u (BothShare a r heard b q heard_b) w v e = tt
gadget_back K t u (Opens sharing a x b y heard) w v e = tt
gadget_back K t u (Masked sharing m n) w v e = ((λ i o. (sym (e.0 i o).0, sym (e.0 i o).1)), (λ i o. (sym (e.1 i o).0, sym (e.1 i o).1)))
gadget_back K t u (Paired p q) w v e = λ i. sym (e i)

pub gadgets_back : (K : Coalition) (t u : Tape) (gadgets : List Gadget) (w v : Hosts) → GadgetsHide K t u gadgets w v → GadgetsHide K u t gadgets v w
gadgets_back K t u [] w v e = tt
gadgets_back K t u (r ∷ gadgets) w v e = (gadget_back K t u r w v e.0, gadgets_back K t u gadgets (run_acts t (acts_of_gadget r) w) (run_acts u (acts_of_gadget r) v) e.1)
