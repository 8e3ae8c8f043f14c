-- For every second run there is a deal by which the gadgets hide alike.
use Rattle.std.proofs.Common.{◌≡◌, ◌≢◌, ℕ, zero, suc, ◌+◌, ◌-◌, ◌*◌, ◌%◌, ◌^◌, ◌<◌, ◌≤◌, List, [], ◌∷◌, ◌++◌, ◌⊎◌, inl, inr, refl, sym, ap, ap₂, subst, ◌∙◌, arith, lit<, Bool, false, bit_and, bit_xor}
use Rattle.std.proofs.Math.Nat.{mod-lt, mod-eq_of_lt, add_comm}
use Rattle.std.proofs.lemmas.Nat.{xor_comm, xor_lt, and_le_l}
use Rattle.vd_base.specs.declared.ids.HostId.{HostId}
use Rattle.vd_execution.specs.declared.instructions.Action.TheVariants as action
use Rattle.vd_execution.specs.declared.instructions.Binary.TheVariants as binary
use Rattle.vd_execution.specs.declared.instructions.Act.{Act}
use Rattle.vd_execution.specs.Registers.{applied, nth}
use Rattle.vd_execution.specs.Step.{Source, Inputs, OwnWords, Triples, BitTriples, Pairs, same_source}
use Rattle.vd_execution.specs.World.{Tape}
use Rattle.vd_base.specs.Words.{IsWord}
use Rattle.vd_execution.specs.Deals.{IsValidDeal}
use Rattle.vd_execution.specs.Joint.{Host, Hosts, acted}
use Rattle.vd_execution.specs.Acts.{run_acts}
use Rattle.vd_execution.proofs.Front.{put_same, put_other, gadget_sound}
use Rattle.vd_execution.specs.Gadgets.{Sharing, BySums, ByXors, Masking, Pairing, Gadget, Alone, Tells, Shares, BothShare, Opens, Masked, Paired, hide, take, source_of, masking, told_by, acts_of_gadget, GadgetIsTidy, GadgetsAreTidy, IsSound}
use Rattle.vd_views.specs.Views.{Coalition, IsIn, IsOut}
use Rattle.vd_views.specs.Hiding.{Crosses, IsWithout, next_item, HidesAlike, converted, pair_word, GadgetHides, AlongGadgets, TakenAlike, IsAnotherDeal, IsExcuse}
use Rattle.vd_views.proofs.Coalitions.{in_or_out, never_both, differ, without_peer}
use Rattle.vd_views.proofs.Hiding.{run_append, masking_keeps}
use Rattle.vd_views.proofs.Frames.{further_same, acts_grow, taken_before, acts_frame}
use Rattle.vd_views.specs.Items.{raised, turned, sum_item, xor_item, item_for, pair_item}
use Rattle.vd_views.specs.Excused.{with_item, masked_again, paired_again, across, item_again}
use Rattle.vd_views.proofs.Masks.{hides_difference, makes_up, hides_xor, xor_makes_up, xor_back}
use Rattle.vd_views.proofs.Changed.{changed_at, changed_host, changed_source, changed_elsewhere, changed_part, IsTriple, IsBitTriple, IsPair, AreWords, with_triple, with_bits, with_pair}

pub three_words : (a b c : ℕ) → IsWord a → IsWord b → IsWord c → AreWords (a ∷ b ∷ c ∷ [])
three_words a b c p q r zero = p
three_words a b c p q r (suc zero) = q
three_words a b c p q r (suc (suc zero)) = r
three_words a b c p q r (suc (suc (suc n))) = lit< tt

two_words : (a b : ℕ) → IsWord a → IsWord b → AreWords (a ∷ b ∷ [])
two_words a b p q zero = p
two_words a b p q (suc zero) = q
two_words a b p q (suc (suc n)) = lit< tt

-- ---- the items

turned_word : (a x z : ℕ) → IsWord a → IsWord x → IsWord z → IsWord (turned a x z)
turned_word a x z p q r = xor_lt 32 a (bit_xor x z) p (xor_lt 32 x z q r)

and_word : (a b : ℕ) → IsWord a → IsWord (bit_and a b)
and_word a b p = let l : bit_and a b ≤ a = and_le_l a b in omega (arith, l, p)

pub flip_triple : (xs ys : List ℕ) → IsTriple xs ys → IsTriple ys xs
flip_triple xs ys e =
    ap₂ (λ (a b : ℕ). (a * b) % 2 ^ 32) (add_comm (nth ys 0) (nth xs 0)) (add_comm (nth ys 1) (nth xs 1)) ∙ e ∙ ap (λ (q : ℕ). q % 2 ^ 32) (add_comm (nth xs 2) (nth ys 2))

flip_bits : (xs ys : List ℕ) → IsBitTriple xs ys → IsBitTriple ys xs
flip_bits xs ys e = ap₂ (λ (a b : ℕ). bit_and a b) (xor_comm (nth ys 0) (nth xs 0)) (xor_comm (nth ys 1) (nth xs 1)) ∙ e ∙ xor_comm (nth xs 2) (nth ys 2)

flip_pair : (xs ys : List ℕ) → IsPair xs ys → IsPair ys xs
flip_pair xs ys e = ap (λ (q : ℕ). q % 2 ^ 32) (add_comm (nth ys 0) (nth xs 0)) ∙ e ∙ xor_comm (nth xs 1) (nth ys 1)

module _ (xs ys : List ℕ) (x z x' z' : ℕ) (fx : AreWords xs) (fy : AreWords ys) (px : IsWord x) (pz : IsWord z) (px' : IsWord x') (pz' : IsWord z') where
  sums_fit : AreWords (sum_item xs ys x z x' z')
  sums_fit = three_words _ _ _ (mod-lt _ (lit< tt)) (mod-lt _ (lit< tt)) (mod-lt _ (lit< tt))

  sums_identity : IsTriple (sum_item xs ys x z x' z') ys
  sums_identity = makes_up ((raised (nth xs 0) x z + nth ys 0) * (raised (nth xs 1) x' z' + nth ys 1)) (nth ys 2) (fy 2) ∙ ap (λ (q : ℕ). q % 2 ^ 32) (add_comm (nth ys 2) _)

  sums_flipped : IsTriple ys (sum_item xs ys x z x' z')
  sums_flipped = flip_triple (sum_item xs ys x z x' z') ys sums_identity

  xors_fit : AreWords (xor_item xs ys x z x' z')
  xors_fit =
      let a : IsWord (turned (nth xs 0) x z) = turned_word _ x z (fx 0) px pz in
      let b : IsWord (turned (nth xs 1) x' z') = turned_word _ x' z' (fx 1) px' pz' in
      three_words _ _ _ a b (xor_lt 32 _ _ (and_word _ _ (xor_lt 32 _ _ a (fy 0))) (fy 2))

  xors_identity : IsBitTriple (xor_item xs ys x z x' z') ys
  xors_identity = sym (xor_back (bit_and (bit_xor (turned (nth xs 0) x z) (nth ys 0)) (bit_xor (turned (nth xs 1) x' z') (nth ys 1))) (nth ys 2))

  xors_flipped : IsBitTriple ys (xor_item xs ys x z x' z')
  xors_flipped = flip_bits (xor_item xs ys x z x' z') ys xors_identity

-- ---- one gadget

-- another deal, the same past what the gadget takes, by which it hides alike, and so it does by each later deal that keeps what was
-- taken
pub record ItemExcuse (K : Coalition) (t u : Tape) (r : Gadget) (w v : Hosts) (y : Tape) : Type 0 where
  pub another : IsAnotherDeal K u v y
  pub past : (g : ℕ) (s : Source) (i : ℕ) → (run_acts y (acts_of_gadget r) v g).cursors s ≤ i → y g s i ≡ u g s i
  pub hides : (z : Tape) → TakenAlike (run_acts y (acts_of_gadget r) v) y z → GadgetHides K t z r w v

pub another_itself : (K : Coalition) (u : Tape) (v : Hosts) → IsValidDeal u → IsAnotherDeal K u v u
another_itself K u v deal = record { deal = deal; part = λ h i. refl; among = λ g s i o p. refl; inputs = λ g i. refl; own_words = λ g i. refl; taken = λ g s i l. refl }

unchanged : (K : Coalition) (t u : Tape) (r : Gadget) (w v : Hosts) → IsValidDeal u → ((y : Tape) → GadgetHides K t y r w v) → ItemExcuse K t u r w v u
unchanged K t u r w v du hides = record { another = another_itself K u v du; past = λ g s i l. refl; hides = λ y k. hides y }

module _ (h : ℕ) (t u : Tape) (deal_t : IsValidDeal t) (deal_u : IsValidDeal u) (w v : Hosts) (sound_w : IsSound w) (sound_v : IsSound v) where
  -- the side of the host that does not look takes another item
  module _ (sharing : Sharing) (m : Masking) (other : m.host.0 ≢ h) where
    abbrev k : ℕ
    k = m.host.0

    abbrev place : ℕ
    place = (v k).cursors (source_of sharing h)

    abbrev item : List ℕ
    item = item_for sharing (next_item t w k (source_of sharing h)) (u h (source_of sharing k) place) ((w k).registers m.x.0) ((v k).registers m.x.0) ((w k).registers m.y.0) ((v k).registers m.y.0)

    abbrev masked_tape : Tape
    masked_tape = with_item u k (source_of sharing h) place item

  masked_deal : (sharing : Sharing) (m : Masking) (other : m.host.0 ≢ h) → IsValidDeal (masked_tape sharing m other)
  masked_deal BySums m other =
      let xs : List ℕ = next_item t w m.host.0 (Triples h) in
      let ys : List ℕ = u h (Triples m.host.0) ((v m.host.0).cursors (Triples h)) in
      let f : AreWords xs = λ p. deal_t.words _ _ _ p in
      let g : AreWords ys = λ p. deal_u.words _ _ _ p in
      let a : IsWord ((w m.host.0).registers m.x.0) = sound_w.words _ _ in
      let b : IsWord ((v m.host.0).registers m.x.0) = sound_v.words _ _ in
      let c : IsWord ((w m.host.0).registers m.y.0) = sound_w.words _ _ in
      let d : IsWord ((v m.host.0).registers m.y.0) = sound_v.words _ _ in
      with_triple u deal_u m.host.0 h other _ _ (sums_fit xs ys _ _ _ _ f g a b c d) refl (sums_identity xs ys _ _ _ _ f g a b c d) (sums_flipped xs ys _ _ _ _ f g a b c d)
  masked_deal ByXors m other =
      let xs : List ℕ = next_item t w m.host.0 (BitTriples h) in
      let ys : List ℕ = u h (BitTriples m.host.0) ((v m.host.0).cursors (BitTriples h)) in
      let f : AreWords xs = λ p. deal_t.words _ _ _ p in
      let g : AreWords ys = λ p. deal_u.words _ _ _ p in
      let a : IsWord ((w m.host.0).registers m.x.0) = sound_w.words _ _ in
      let b : IsWord ((v m.host.0).registers m.x.0) = sound_v.words _ _ in
      let c : IsWord ((w m.host.0).registers m.y.0) = sound_w.words _ _ in
      let d : IsWord ((v m.host.0).registers m.y.0) = sound_v.words _ _ in
      with_bits u deal_u m.host.0 h other _ _ (xors_fit xs ys _ _ _ _ f g a b c d) refl (xors_identity xs ys _ _ _ _ f g a b c d) (xors_flipped xs ys _ _ _ _ f g a b c d)

  -- whatever deal has this item at this place hides alike
  masked_hides : (sharing : Sharing) (m : Masking) (other : m.host.0 ≢ h) (y : Tape) → next_item y v m.host.0 (source_of sharing h) ≡ item sharing m other → HidesAlike sharing m h t y w v
  masked_hides BySums m other y e = (
    hides_difference _ _ _ (deal_t.words _ _ _ _) (sound_w.words _ _) (sound_v.words _ _) ∙ sym (ap (λ (xs : List ℕ). applied binary.Sub ((v m.host.0).registers m.x.0) (nth xs 0)) e),
    hides_difference _ _ _ (deal_t.words _ _ _ _) (sound_w.words _ _) (sound_v.words _ _) ∙ sym (ap (λ (xs : List ℕ). applied binary.Sub ((v m.host.0).registers m.y.0) (nth xs 1)) e),
  )
  masked_hides ByXors m other y e =
      let xs : List ℕ = next_item t w m.host.0 (BitTriples h) in (
        hides_xor (nth xs 0) ((w m.host.0).registers m.x.0) ((v m.host.0).registers m.x.0) ∙ sym (ap (λ (zs : List ℕ). bit_xor ((v m.host.0).registers m.x.0) (nth zs 0)) e),
        hides_xor (nth xs 1) ((w m.host.0).registers m.y.0) ((v m.host.0).registers m.y.0) ∙ sym (ap (λ (zs : List ℕ). bit_xor ((v m.host.0).registers m.y.0) (nth zs 1)) e),
      )

-- ---- what gadgets take

masking_takes : (t : Tape) (sharing : Sharing) (m : Masking) (peer : HostId) (v : Hosts) → (run_acts t (masking sharing m peer) v m.host.0).cursors (source_of sharing peer.0) ≡ suc ((v m.host.0).cursors (source_of sharing peer.0))
masking_takes t sharing m peer v =
    ap (λ (s : Host). s.cursors (source_of sharing peer.0))
    (put_same _ m.host.0 _
    ∙ ap (acted (t m.host.0) (action.Apply (hide sharing) m.e m.y m.b))
    (put_same _ m.host.0 _ ∙ ap (acted (t m.host.0) (action.Apply (hide sharing) m.d m.x m.a)) (put_same v m.host.0 _)))
    ∙ counted sharing
  where
    counted : (sharing : Sharing) →
        (acted (t m.host.0) (action.Apply (hide sharing) m.e m.y m.b) (acted (t m.host.0) (action.Apply (hide sharing) m.d m.x m.a) (acted (t m.host.0) (take sharing peer m.a m.b m.c) (v m.host.0)))).cursors (source_of sharing peer.0)
        ≡ suc ((v m.host.0).cursors (source_of sharing peer.0))
    counted BySums = further_same (v m.host.0).cursors (Triples peer.0)
    counted ByXors = further_same (v m.host.0).cursors (BitTriples peer.0)

first_takes : (t : Tape) (sharing : Sharing) (m n : Masking) (v : Hosts) → (v m.host.0).cursors (source_of sharing n.host.0) < (run_acts t (acts_of_gadget (Masked sharing m n)) v m.host.0).cursors (source_of sharing n.host.0)
first_takes t sharing m n v =
    let s : Source = source_of sharing n.host.0 in
    let tail : List Act = masking sharing n m.host ++ (told_by m n ++ told_by n m) in
    let one : (run_acts t (masking sharing m n.host) v m.host.0).cursors s ≡ suc ((v m.host.0).cursors s) = masking_takes t sharing m n.host v in
    let more : (run_acts t (masking sharing m n.host) v m.host.0).cursors s ≤ (run_acts t tail (run_acts t (masking sharing m n.host) v) m.host.0).cursors s = acts_grow t tail (run_acts t (masking sharing m n.host) v) m.host.0 s in
    let whole : (run_acts t (acts_of_gadget (Masked sharing m n)) v m.host.0).cursors s ≡ (run_acts t tail (run_acts t (masking sharing m n.host) v) m.host.0).cursors s =
    ap (λ (x : Hosts). (x m.host.0).cursors s) (run_append t (masking sharing m n.host) tail v) in
    omega (arith, one, more, whole)

second_takes : (t : Tape) (sharing : Sharing) (m n : Masking) (v : Hosts) → m.host.0 ≢ n.host.0
    → (v n.host.0).cursors (source_of sharing m.host.0) < (run_acts t (acts_of_gadget (Masked sharing m n)) v n.host.0).cursors (source_of sharing m.host.0)
second_takes t sharing m n v apart =
    let s : Source = source_of sharing m.host.0 in
    let tail : List Act = told_by m n ++ told_by n m in
    let v1 : Hosts = run_acts t (masking sharing m n.host) v in
    let v2 : Hosts = run_acts t (masking sharing n m.host) v1 in
    let kept : (v1 n.host.0).cursors s ≡ (v n.host.0).cursors s = ap (λ (x : Host). x.cursors s) (masking_keeps t sharing m n.host v n.host.0 (λ e. apart (sym e))) in
    let one : (v2 n.host.0).cursors s ≡ suc ((v1 n.host.0).cursors s) = masking_takes t sharing n m.host v1 in
    let more : (v2 n.host.0).cursors s ≤ (run_acts t tail v2 n.host.0).cursors s = acts_grow t tail v2 n.host.0 s in
    let whole : (run_acts t (acts_of_gadget (Masked sharing m n)) v n.host.0).cursors s ≡ (run_acts t tail v2 n.host.0).cursors s =
    ap (λ (x : Hosts). (x n.host.0).cursors s) (run_append t (masking sharing m n.host) (masking sharing n m.host ++ tail) v ∙ run_append t (masking sharing n m.host) tail v1) in
    omega (arith, kept, one, more, whole)

-- ---- the deal of each gadget

not_taken : (v : Hosts) (u : Tape) (k : ℕ) (s : Source) (item : List ℕ) → TakenAlike v u (with_item u k s ((v k).cursors s) item)
not_taken v u k s item g r j less = changed_elsewhere u k s ((v k).cursors s) item g r j (λ e f z. later (let P : ℕ → Type 0 = λ x. j < (v x).cursors r in let Q : Source → Type 0 = λ x. j < (v k).cursors x in subst Q f (subst P e less)) z)
  where
    later : j < (v k).cursors s → j ≡ (v k).cursors s → ⊥
    later l e = omega (arith, l, e)

-- the changed item is one that is taken next
not_past : (x : Hosts) (u : Tape) (k : ℕ) (s : Source) (c : ℕ) (item : List ℕ) → c < (x k).cursors s → (g : ℕ) (r : Source) (j : ℕ) → (x g).cursors r ≤ j → with_item u k s c item g r j ≡ u g r j
not_past x u k s c item less g r j past =
    changed_elsewhere u k s c item g r j (λ e f z. let P : ℕ → Type 0 = λ q. (x q).cursors r ≤ j in let Q : Source → Type 0 = λ q. (x k).cursors q ≤ j in later (subst Q f (subst P e past)) z)
  where
    later : (x k).cursors s ≤ j → j ≡ c → ⊥
    later l e = omega (arith, l, e, less)

no_input : (sharing : Sharing) (h : ℕ) → same_source Inputs (source_of sharing h) ≡ false
no_input BySums h = refl
no_input ByXors h = refl

no_own : (sharing : Sharing) (h : ℕ) → same_source OwnWords (source_of sharing h) ≡ false
no_own BySums h = refl
no_own ByXors h = refl

masked_first : (K : Coalition) (t u : Tape) (dt : IsValidDeal t) (du : IsValidDeal u) (sharing : Sharing) (m n : Masking) (apart : m.host.0 ≢ n.host.0) (w v : Hosts) (sw : IsSound w) (sv : IsSound v) → IsIn K m.host.0 → IsOut K n.host.0 → ItemExcuse K t u (Masked sharing m n) w v (with_item u n.host.0 (source_of sharing m.host.0) ((v n.host.0).cursors (source_of sharing m.host.0)) (item m.host.0 t u dt du w v sw sv sharing n (λ e. apart (sym e))))
masked_first K t u dt du sharing m n apart w v sw sv inside outside =
    let h : ℕ = m.host.0 in
    let s : Source = source_of sharing h in
    let back : n.host.0 ≢ h = λ e. apart (sym e) in
    let it : List ℕ = item h t u dt du w v sw sv sharing n back in
    let y0 : Tape = masked_tape h t u dt du w v sw sv sharing n back in
    record {
      another = record {
        deal = masked_deal h t u dt du w v sw sv sharing n back;
        part = λ g i. changed_part u n.host.0 s ((v n.host.0).cursors s) it g (differ K g n.host.0 i outside);
        among = λ g r j o x. changed_elsewhere u n.host.0 s ((v n.host.0).cursors s) it g r j (λ e f z. let P : Source → Type 0 = λ q. IsWithout K q in without_peer K sharing h inside (subst P f x));
        inputs = λ g i. changed_source u n.host.0 s ((v n.host.0).cursors s) it g Inputs i (no_input sharing h);
        own_words = λ g i. changed_source u n.host.0 s ((v n.host.0).cursors s) it g OwnWords i (no_own sharing h);
        taken = not_taken v u n.host.0 s it;
      };
      past = not_past (run_acts y0 (acts_of_gadget (Masked sharing m n)) v) u n.host.0 s ((v n.host.0).cursors s) it (second_takes y0 sharing m n v apart);
      hides = λ y k. (
        (λ e o. never_both K n.host.0 e outside),
        (λ e o. masked_hides h t u dt du w v sw sv sharing n back y (k n.host.0 s ((v n.host.0).cursors s) (second_takes y0 sharing m n v apart) ∙ changed_at u n.host.0 s ((v n.host.0).cursors s) it)),
      );
    }

masked_second : (K : Coalition) (t u : Tape) (dt : IsValidDeal t) (du : IsValidDeal u) (sharing : Sharing) (m n : Masking) (apart : m.host.0 ≢ n.host.0) (w v : Hosts) (sw : IsSound w) (sv : IsSound v) → IsIn K n.host.0 → IsOut K m.host.0 → ItemExcuse K t u (Masked sharing m n) w v (with_item u m.host.0 (source_of sharing n.host.0) ((v m.host.0).cursors (source_of sharing n.host.0)) (item n.host.0 t u dt du w v sw sv sharing m apart))
masked_second K t u dt du sharing m n apart w v sw sv inside outside =
    let h : ℕ = n.host.0 in
    let s : Source = source_of sharing h in
    let it : List ℕ = item h t u dt du w v sw sv sharing m apart in
    let y0 : Tape = masked_tape h t u dt du w v sw sv sharing m apart in
    record {
      another = record {
        deal = masked_deal h t u dt du w v sw sv sharing m apart;
        part = λ g i. changed_part u m.host.0 s ((v m.host.0).cursors s) it g (differ K g m.host.0 i outside);
        among = λ g r j o x. changed_elsewhere u m.host.0 s ((v m.host.0).cursors s) it g r j (λ e f z. let P : Source → Type 0 = λ q. IsWithout K q in without_peer K sharing h inside (subst P f x));
        inputs = λ g i. changed_source u m.host.0 s ((v m.host.0).cursors s) it g Inputs i (no_input sharing h);
        own_words = λ g i. changed_source u m.host.0 s ((v m.host.0).cursors s) it g OwnWords i (no_own sharing h);
        taken = not_taken v u m.host.0 s it;
      };
      past = not_past (run_acts y0 (acts_of_gadget (Masked sharing m n)) v) u m.host.0 s ((v m.host.0).cursors s) it (first_takes y0 sharing m n v);
      hides = λ y k. (
        (λ e o. masked_hides h t u dt du w v sw sv sharing m apart y (k m.host.0 s ((v m.host.0).cursors s) (first_takes y0 sharing m n v) ∙ changed_at u m.host.0 s ((v m.host.0).cursors s) it)),
        (λ e o. never_both K m.host.0 e outside),
      );
    }

-- ---- the pair of a conversion

pair_fits : (d : ℕ) (ys : List ℕ) → IsWord d → AreWords ys → AreWords (pair_item d ys)
unfolding pair_item
pair_fits d ys p f = two_words _ _ (mod-lt _ (lit< tt)) (xor_lt 32 d (nth ys 1) p (f 1))

pair_identity : (d : ℕ) (ys : List ℕ) → IsWord d → AreWords ys → IsPair (pair_item d ys) ys
unfolding pair_item
pair_identity d ys p f =
    ap (λ (q : ℕ). q % 2 ^ 32) (add_comm ((d + (2 ^ 32 - nth ys 0)) % 2 ^ 32) (nth ys 0)) ∙ sym (makes_up d (nth ys 0) (f 0)) ∙ mod-eq_of_lt p ∙ sym (xor_back d (nth ys 1))

pair_takes : (t : Tape) (p q : Pairing) (v : Hosts) → p.host.0 ≢ q.host.0
    → ((run_acts t (acts_of_gadget (Paired p q)) v p.host.0).cursors (Pairs q.host.0) ≡ suc ((v p.host.0).cursors (Pairs q.host.0)))
    × ((run_acts t (acts_of_gadget (Paired p q)) v q.host.0).cursors (Pairs p.host.0) ≡ suc ((v q.host.0).cursors (Pairs p.host.0)))
pair_takes t p q v apart = (
  ap (λ (s : Host). s.cursors (Pairs q.host.0)) (put_other _ q.host.0 _ p.host.0 apart ∙ put_same v p.host.0 _) ∙ further_same (v p.host.0).cursors (Pairs q.host.0),
  ap (λ (s : Host). s.cursors (Pairs p.host.0)) (put_same _ q.host.0 _ ∙ ap (acted (t q.host.0) (action.Pair p.host q.s q.x)) (put_other v p.host.0 _ q.host.0 (λ e. apart (sym e))))
      ∙ further_same (v q.host.0).cursors (Pairs p.host.0),
)

module _ (t u : Tape) (deal_t : IsValidDeal t) (deal_u : IsValidDeal u) (p q : Pairing) (apart : p.host.0 ≢ q.host.0) (w v : Hosts) (sound_w : IsSound w) (sound_v : IsSound v) where
  abbrev d : ℕ
  d = raised (pair_word p q t w) (converted p q w) (converted p q v)

  d_word : IsWord d
  d_word = mod-lt _ (lit< tt)

  hidden_word : applied binary.Sub (converted p q w) (pair_word p q t w) ≡ applied binary.Sub (converted p q v) d
  hidden_word = hides_difference (pair_word p q t w) (converted p q w) (converted p q v)
      (xor_lt 32 _ _ (deal_t.words _ _ _ _) (deal_t.words _ _ _ _)) (xor_lt 32 _ _ (sound_w.words _ _) (sound_w.words _ _)) (xor_lt 32 _ _ (sound_v.words _ _) (sound_v.words _ _))

  -- the second host is the other one
  paired_first : (K : Coalition) → IsIn K p.host.0 → IsOut K q.host.0 → ItemExcuse K t u (Paired p q) w v (with_item u q.host.0 (Pairs p.host.0) ((v q.host.0).cursors (Pairs p.host.0)) (pair_item d (u p.host.0 (Pairs q.host.0) ((v q.host.0).cursors (Pairs p.host.0)))))
  unfolding pair_item
  paired_first K inside outside =
      let h : ℕ = p.host.0 in
      let k : ℕ = q.host.0 in
      let c : ℕ = (v k).cursors (Pairs h) in
      let ys : List ℕ = u h (Pairs k) c in
      let fy : AreWords ys = λ n. deal_u.words _ _ _ n in
      let it : List ℕ = pair_item d ys in
      let y0 : Tape = with_item u k (Pairs h) c it in
      record {
        another = record {
          deal = with_pair u deal_u k h (λ e. apart (sym e)) c it (pair_fits d ys d_word fy) refl (pair_identity d ys d_word fy) (flip_pair it ys (pair_identity d ys d_word fy));
          part = λ g i. changed_part u k (Pairs h) c it g (differ K g k i outside);
          among = λ g r j o x. changed_elsewhere u k (Pairs h) c it g r j (λ e f z. let P : Source → Type 0 = λ q. IsWithout K q in let no : IsOut K h = subst P f x in never_both K h inside no);
          inputs = λ g i. changed_source u k (Pairs h) c it g Inputs i refl;
          own_words = λ g i. changed_source u k (Pairs h) c it g OwnWords i refl;
          taken = not_taken v u k (Pairs h) it;
        };
        past = not_past (run_acts y0 (acts_of_gadget (Paired p q)) v) u k (Pairs h) c it (let f = (pair_takes y0 p q v apart).1 in omega (arith, f));
        hides = λ y same _.
            let takes = pair_takes y0 p q v apart in
            let mine : next_item y v h (Pairs k) ≡ ys = ap (y h (Pairs k)) (sound_v.pairs h k)
            ∙ same h (Pairs k) c (let e : (v h).cursors (Pairs k) ≡ c = sound_v.pairs h k in let f = takes.0 in omega (arith, e, f))
            ∙ changed_host u k (Pairs h) c it h (Pairs k) c apart in
            let other : next_item y v k (Pairs h) ≡ it = same k (Pairs h) c (let f = takes.1 in omega (arith, f)) ∙ changed_at u k (Pairs h) c it in
            hidden_word ∙ sym (ap (applied binary.Sub (converted p q v)) (ap₂ (λ (a b : List ℕ). bit_xor (nth a 1) (nth b 1)) mine other ∙ sym (xor_makes_up d (nth ys 1))));
      }

  -- the first host is the other one
  paired_second : (K : Coalition) → IsIn K q.host.0 → IsOut K p.host.0 → ItemExcuse K t u (Paired p q) w v (with_item u p.host.0 (Pairs q.host.0) ((v p.host.0).cursors (Pairs q.host.0)) (pair_item d (u q.host.0 (Pairs p.host.0) ((v p.host.0).cursors (Pairs q.host.0)))))
  unfolding pair_item
  paired_second K inside outside =
      let h : ℕ = q.host.0 in
      let k : ℕ = p.host.0 in
      let c : ℕ = (v k).cursors (Pairs h) in
      let ys : List ℕ = u h (Pairs k) c in
      let fy : AreWords ys = λ n. deal_u.words _ _ _ n in
      let it : List ℕ = pair_item d ys in
      let y0 : Tape = with_item u k (Pairs h) c it in
      record {
        another = record {
          deal = with_pair u deal_u k h apart c it (pair_fits d ys d_word fy) refl (pair_identity d ys d_word fy) (flip_pair it ys (pair_identity d ys d_word fy));
          part = λ g i. changed_part u k (Pairs h) c it g (differ K g k i outside);
          among = λ g r j o x. changed_elsewhere u k (Pairs h) c it g r j (λ e f z. let P : Source → Type 0 = λ q. IsWithout K q in let no : IsOut K h = subst P f x in never_both K h inside no);
          inputs = λ g i. changed_source u k (Pairs h) c it g Inputs i refl;
          own_words = λ g i. changed_source u k (Pairs h) c it g OwnWords i refl;
          taken = not_taken v u k (Pairs h) it;
        };
        past = not_past (run_acts y0 (acts_of_gadget (Paired p q)) v) u k (Pairs h) c it (let f = (pair_takes y0 p q v apart).0 in omega (arith, f));
        hides = λ y same _.
            let takes = pair_takes y0 p q v apart in
            let mine : next_item y v h (Pairs k) ≡ ys = ap (y h (Pairs k)) (sound_v.pairs h k)
            ∙ same h (Pairs k) c (let e : (v h).cursors (Pairs k) ≡ c = sound_v.pairs h k in let f = takes.1 in omega (arith, e, f))
            ∙ changed_host u k (Pairs h) c it h (Pairs k) c (λ e. apart (sym e)) in
            let other : next_item y v k (Pairs h) ≡ it = same k (Pairs h) c (let f = takes.0 in omega (arith, f)) ∙ changed_at u k (Pairs h) c it in
            hidden_word ∙ sym (ap (applied binary.Sub (converted p q v)) (ap₂ (λ (a b : List ℕ). bit_xor (nth a 1) (nth b 1)) other mine ∙ xor_back d (nth ys 1)));
      }

-- ---- every gadget

pub item_excuse : (K : Coalition) (t u : Tape) → IsValidDeal t → IsValidDeal u → (r : Gadget) → GadgetIsTidy r → (w v : Hosts) → IsSound w → IsSound v → ItemExcuse K t u r w v (item_again K t r u w v)
item_excuse K t u dt du (Alone g a) tidy w v sw sv = unchanged K t u (Alone g a) w v du (λ y. tt)
item_excuse K t u dt du (Tells a said b heard) tidy w v sw sv = unchanged K t u (Tells a said b heard) w v du (λ y. tt)
item_excuse K t u dt du (Shares a r b heard) tidy w v sw sv = unchanged K t u (Shares a r b heard) w v du (λ y. tt)
item_excuse K t u dt du (BothShare a r heard b q heard_b) tidy w v sw sv = unchanged K t u (BothShare a r heard b q heard_b) w v du (λ y. tt)
item_excuse K t u dt du (Opens sharing a x b y heard) tidy w v sw sv = unchanged K t u (Opens sharing a x b y heard) w v du (λ y. tt)
item_excuse K t u dt du (Masked sharing m n) tidy w v sw sv = at (in_or_out K m.host.0) (in_or_out K n.host.0)
  where
    r : Gadget
    r = Masked sharing m n

    P : Tape → Type 0
    P y = ItemExcuse K t u r w v y

    -- the deal where these are inside
    deal_of : Bool → Bool → Tape
    deal_of a b = across a b (masked_again m.host.0 t sharing n u w v) (masked_again n.host.0 t sharing m u w v) u

    at : IsIn K m.host.0 ⊎ IsOut K m.host.0 → IsIn K n.host.0 ⊎ IsOut K n.host.0 → ItemExcuse K t u r w v (deal_of (K m.host.0) (K n.host.0))
    at (inl i) (inr o) = subst P (sym (ap₂ deal_of i o)) (masked_first K t u dt du sharing m n tidy.0 w v sw sv i o)
    at (inr o) (inl i) = subst P (sym (ap₂ deal_of o i)) (masked_second K t u dt du sharing m n tidy.0 w v sw sv i o)
    at (inl i) (inl j) = subst P (sym (ap₂ deal_of i j)) (unchanged K t u r w v du (λ y. ((λ e o. never_both K m.host.0 i o), (λ e o. never_both K n.host.0 j o))))
    at (inr i) (inr j) = subst P (sym (ap₂ deal_of i j)) (unchanged K t u r w v du (λ y. ((λ e o. never_both K n.host.0 e j), (λ e o. never_both K m.host.0 e i))))
item_excuse K t u dt du (Paired p q) tidy w v sw sv = at (in_or_out K p.host.0) (in_or_out K q.host.0)
  where
    r : Gadget
    r = Paired p q

    P : Tape → Type 0
    P y = ItemExcuse K t u r w v y

    deal_of : Bool → Bool → Tape
    deal_of a b = across a b (paired_again p.host.0 t p q q.host.0 u w v) (paired_again q.host.0 t p q p.host.0 u w v) u

    both_in : IsIn K p.host.0 → IsIn K q.host.0 → Crosses K p.host.0 q.host.0 → ⊥
    both_in i j (inl e) = never_both K q.host.0 j e.1
    both_in i j (inr e) = never_both K p.host.0 i e.1

    both_out : IsOut K p.host.0 → IsOut K q.host.0 → Crosses K p.host.0 q.host.0 → ⊥
    both_out i j (inl e) = never_both K p.host.0 e.0 i
    both_out i j (inr e) = never_both K q.host.0 e.0 j

    at : IsIn K p.host.0 ⊎ IsOut K p.host.0 → IsIn K q.host.0 ⊎ IsOut K q.host.0 → ItemExcuse K t u r w v (deal_of (K p.host.0) (K q.host.0))
    at (inl i) (inr o) = subst P (sym (ap₂ deal_of i o)) (paired_first t u dt du p q tidy w v sw sv K i o)
    at (inr o) (inl i) = subst P (sym (ap₂ deal_of o i)) (paired_second t u dt du p q tidy w v sw sv K i o)
    at (inl i) (inl j) = subst P (sym (ap₂ deal_of i j)) (unchanged K t u r w v du (λ y e. absurd (both_in i j e)))
    at (inr i) (inr j) = subst P (sym (ap₂ deal_of i j)) (unchanged K t u r w v du (λ y e. absurd (both_out i j e)))

-- ---- gadgets in a row

pub gadgets_excuse : (K : Coalition) (t u : Tape) → IsValidDeal t → IsValidDeal u → (gadgets : List Gadget) → GadgetsAreTidy gadgets → (w v : Hosts) → IsSound w → IsSound v → (y : Tape) × IsExcuse K t u gadgets w v y
gadgets_excuse K t u dt du [] tidy w v sw sv = (u, record { another = another_itself K u v du; hides = tt })
gadgets_excuse K t u dt du (g ∷ gadgets) tidy w v sw sv =
    let next : Tape = item_again K t g u w v in
    let one : ItemExcuse K t u g w v next = item_excuse K t u dt du g tidy.0 w v sw sv in
    let w1 : Hosts = run_acts t (acts_of_gadget g) w in
    let v1 : Hosts = run_acts next (acts_of_gadget g) v in
    let more = gadgets_excuse K t next dt one.another.deal gadgets tidy.1 w1 v1 (gadget_sound t dt g tidy.0 w sw) (gadget_sound next one.another.deal g tidy.0 v sv) in
    let y : Tape = more.0 in
    let P : Hosts → Type 0 = λ x. AlongGadgets (GadgetHides K t y) t y gadgets w1 x in (
      y,
      record {
        another = record {
          deal = more.1.another.deal;
          part = λ h i. more.1.another.part h i ∙ one.another.part h i;
          among = λ k s i o p. more.1.another.among k s i o p ∙ one.another.among k s i o p;
          inputs = λ k i. more.1.another.inputs k i ∙ one.another.inputs k i;
          own_words = λ k i. more.1.another.own_words k i ∙ one.another.own_words k i;
          taken = λ k s i l. taken_before next (acts_of_gadget g) v next y more.1.another.taken k s i l ∙ one.another.taken k s i l;
        };
        hides = (one.hides y more.1.another.taken, subst P (sym (acts_frame next y (acts_of_gadget g) v more.1.another.taken)) more.1.hides);
      },
    )
