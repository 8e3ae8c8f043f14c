-- A word that is shared by exclusive or becomes one shared by sums: what is left of it under the dealt word is opened, and hidden
-- alike in both runs.
use Rattle.std.proofs.Common.{◌≡◌, ◌≢◌, ℕ, ◌+◌, ◌<◌, List, [], ◌∷◌, ◌⊎◌, inl, inr, refl, sym, ap, ap₂, subst, ◌∙◌, arith, bit_xor, length}
use Rattle.std.specs.Prelude.{slice_index}
use Rattle.vd_base.specs.declared.ids.HostId.{HostId}
use Rattle.vd_base.specs.declared.operations.Op.TheVariants as op
use Rattle.vd_execution.specs.declared.instructions.Binary.TheVariants as binary
use Rattle.vd_execution.specs.declared.instructions.Action.TheVariants as action
use Rattle.vd_execution.specs.Registers.{Registers, put, applied, nth}
use Rattle.vd_execution.specs.Step.{Source, Pairs}
use Rattle.vd_execution.specs.Text.{register}
use Rattle.vd_execution.specs.World.{Tape}
use Rattle.vd_execution.specs.Joint.{Host, Hosts, acted, after_do}
use Rattle.vd_execution.specs.Acts.{run_acts}
use Rattle.vd_execution.specs.Gadgets.{ByXors, Pairing, Paired, acts_of_gadget, IsSound}
use Rattle.vd_execution.proofs.Front.{gadget_sound, put_same, put_other}
use Rattle.vd_duet.specs.Builder.{taken}
use Rattle.vd_duet.specs.Calls.{Places, Made}
use Rattle.vd_duet.specs.Laws.{Operand, IsReady}
use Rattle.vd_duet.proofs.Front.{taken_known, taken_there, taken_other}
use Rattle.vd_backend_sharing.specs.declared.shares.PartRegisters.{PartRegisters}
use Rattle.vd_backend_sharing.specs.PairCalls.{shares_of, places_at}
use Rattle.vd_backend_sharing.proofs.Front.{Parts, parts_of, both_known, stands_by}
use Rattle.vd_backend_sharing.specs.Gates.{gates_of}
use Rattle.vd_bits.specs.BitCalls.{circuit_shares, computed, bit_serves, bit_calls}
use Rattle.vd_bits.proofs.Front.{circuit_gives_few}
use Rattle.vd_convert.specs.Convert.{pairing, drawn, finishing, finished, to_add_made}
use Rattle.vd_views.specs.Views.{Coalition, IsIn, IsOut}
use Rattle.vd_views.specs.Hiding.{next_item, converted, pair_word, GadgetHides}
use Rattle.vd_views.proofs.Coalitions.{in_or_out, never_both}
use Rattle.vd_views.specs.Sides.{AreKin, Both, after, Telling}
use Rattle.vd_views.proofs.Sides.{after_acts, both_step, telling_quiet, telling_on}
use Rattle.vd_views.proofs.Ordinary.{all_quiet, gates_ordinary}
use Rattle.vd_views.proofs.Pairs.{HaveWord, both_open}

module _ (a b : HostId) (apart : a.0 ≢ b.0) (next : List ℕ) (x : Places) where
  abbrev n : ℕ
  n = slice_index next a.0

  abbrev m : ℕ
  m = slice_index (taken a 2 next) b.0

  abbrev first : Pairing
  first = pairing a (shares_of x).first n

  abbrev second : Pairing
  second = pairing b (shares_of x).second m

  abbrev pair : Made (PartRegisters × PartRegisters)
  pair = drawn a b (shares_of x) next

  abbrev rest : Made Places
  rest = computed a b op.Sub (x ∷ places_at a b pair.given.1 ∷ []) pair.next

  -- what is left of the word, in one run
  record Rest (t : Tape) (w : Hosts) (v : ℕ) : Type 0 where
    pub reached : Hosts
    pub runs : after t rest.gadgets (run_acts t (acts_of_gadget (Paired first second)) w) ≡ reached
    pub word : HaveWord ByXors a b (shares_of rest.given) (applied binary.Sub (converted first second w) (pair_word first second t w)) reached
    pub low : (shares_of rest.given).second.0 < slice_index rest.next b.0

  module _ (t : Tape) (w : Hosts) (ready : IsReady (bit_calls a b) t next w) (v : ℕ) (o : Operand (bit_calls a b) next w x v) where
    abbrev w1 : Hosts
    w1 = run_acts t (acts_of_gadget (Paired first second)) w

    abbrev i : List ℕ
    i = next_item t w a.0 (Pairs b.0)

    abbrev j : List ℕ
    j = next_item t w b.0 (Pairs a.0)

    at_first : (w1 a.0).registers ≡ put (put (w a.0).registers n (nth i 0)) (n + 1) (nth i 1)
    at_first =
        ap (λ (s : Host). s.registers)
        (put_other (after_do t a.0 (action.Pair b (register n) (register (n + 1))) w) b.0 _ a.0 apart ∙ put_same w a.0 (acted (t a.0) (action.Pair b (register n) (register (n + 1))) (w a.0)))

    at_second : (w1 b.0).registers ≡ put (put (w b.0).registers m (nth j 0)) (m + 1) (nth j 1)
    at_second =
        ap (λ (s : Host). s.registers)
        (put_same (after_do t a.0 (action.Pair b (register n) (register (n + 1))) w) b.0 _
        ∙ ap (acted (t b.0) (action.Pair a (register m) (register (m + 1)))) (put_other w a.0 (acted (t a.0) (action.Pair b (register n) (register (n + 1))) (w a.0)) b.0 (λ e. apart (sym e))))

    less : (r k : ℕ) → r < k → (r ≢ k) × (r ≢ k + 1)
    less r k lt = ((λ e. no e), (λ e. never e))
      where
        no : r ≡ k → ⊥
        no e = omega (arith, lt, e)

        never : r ≡ k + 1 → ⊥
        never e = omega (arith, lt, e)

    below_kept : (f : Registers) (k p q r : ℕ) → r < k → put (put f k p) (k + 1) q r ≡ f r
    below_kept f k p q r lt = put_other (put f k p) (k + 1) q r (less r k lt).1 ∙ put_other f k p r (less r k lt).0

    parts : Parts ByXors a b next w (shares_of x) v
    parts = parts_of a b bit_serves (circuit_shares a b) ByXors next w x v o

    known : (a.0 < length next) × (b.0 < length next)
    known = both_known a b bit_serves (circuit_shares a b) ByXors next ready.known

    known_later : b.0 < length (taken a 2 next)
    known_later = subst (λ z. b.0 < z) (sym (taken_known a 2 next)) known.1

    same_mark : m ≡ slice_index next b.0
    same_mark = taken_other a 2 next b.0 (λ e. apart (sym e))

    next_first : slice_index pair.next a.0 ≡ n + 2
    next_first = taken_other b 2 (taken a 2 next) a.0 apart ∙ taken_there a 2 next known.0

    next_second : slice_index pair.next b.0 ≡ m + 2
    next_second = taken_there b 2 (taken a 2 next) known_later

    left : Rest t w v
    left =
        let sound : IsSound w1 = gadget_sound t ready.deal (Paired first second) apart w ready.sound in
        let size : length pair.next ≡ length next = taken_known b 2 (taken a 2 next) ∙ taken_known a 2 next in
        let xs : List Places = places_at a b (shares_of x) ∷ places_at a b pair.given.1 ∷ [] in
        let dealt : ℕ = pair_word first second t w in
        let low : (shares_of x).second.0 < m = let p = parts.second_low in omega (arith, p, same_mark) in
        let word : HaveWord ByXors a b (shares_of x) v w1 =
        ap₂ (λ (p q : ℕ). bit_xor p q)
        (ap (λ (f : Registers). f (shares_of x).first.0) at_first ∙ below_kept (w a.0).registers n (nth i 0) (nth i 1) (shares_of x).first.0 parts.first_low)
        (ap (λ (f : Registers). f (shares_of x).second.0) at_second ∙ below_kept (w b.0).registers m (nth j 0) (nth j 1) (shares_of x).second.0 low)
        ∙ parts.word in
        let masks : bit_xor ((w1 a.0).registers (n + 1)) ((w1 b.0).registers (m + 1)) ≡ dealt =
        ap₂ (λ (p q : ℕ). bit_xor p q)
        (ap (λ (f : Registers). f (n + 1)) at_first ∙ put_same (put (w a.0).registers n (nth i 0)) (n + 1) (nth i 1))
        (ap (λ (f : Registers). f (m + 1)) at_second ∙ put_same (put (w b.0).registers m (nth j 0)) (m + 1) (nth j 1)) in
        let g =
        circuit_gives_few a b apart bit_serves (circuit_shares a b) t pair.next w1
        (record {
          deal = ready.deal;
          sound = sound;
          known = ((let k = known.0 in omega (arith, k, size)), ((let k = known.1 in omega (arith, k, size)), tt));
        })
        op.Sub refl xs (v ∷ dealt ∷ []) refl (
          record {
            below = ((let p = parts.first_low in omega (arith, p, next_first)), ((omega (arith, low, next_second)), tt));
            stands = stands_by a b bit_serves (circuit_shares a b) ByXors w1 (shares_of x).first (shares_of x).second v word;
          },
          (
            record {
              below = ((omega (arith, next_first)), ((omega (arith, next_second)), tt));
              stands = stands_by a b bit_serves (circuit_shares a b) ByXors w1 (register (n + 1)) (register (m + 1)) dealt masks;
            },
            tt,
          ),
        ) in
        record {
          reached = g.reached;
          runs = after_acts t rest.gadgets w1 ∙ g.leads.runs;
          word = g.is.word ∙ ap (λ (z : ℕ). applied binary.Sub z dealt) (sym parts.word);
          low = g.orderly.below.1.0;
        }

  module _ (K : Coalition) (t y : Tape) (kin : AreKin K t y) (w v : Hosts) (ready : IsReady (bit_calls a b) t next w) (ready' : IsReady (bit_calls a b) y next v) (c d : ℕ)
      (o : Operand (bit_calls a b) next w x c) (o' : Operand (bit_calls a b) next v x d) where
    -- what is opened of the word is the same, also where both hosts are inside
    left_same : Both K w v → GadgetHides K t y (Paired first second) w v → IsIn K a.0 ⊎ IsIn K b.0
        → applied binary.Sub (converted first second w) (pair_word first second t w) ≡ applied binary.Sub (converted first second v) (pair_word first second y v)
    left_same both hides i = at i (in_or_out K a.0) (in_or_out K b.0)
      where
        inside : IsIn K a.0 → IsIn K b.0
            → applied binary.Sub (converted first second w) (pair_word first second t w) ≡ applied binary.Sub (converted first second v) (pair_word first second y v)
        inside p q =
            let one : w a.0 ≡ v a.0 = (both.looks a.0 p).itself in
            let two : w b.0 ≡ v b.0 = (both.looks b.0 q).itself in
            let words : converted first second w ≡ converted first second v =
            ap₂ (λ (g k : Host). bit_xor (g.registers (shares_of x).first.0) (k.registers (shares_of x).second.0)) one two in
            let firsts : next_item t w a.0 (Pairs b.0) ≡ next_item y v a.0 (Pairs b.0) =
            ap₂ (λ (f : Source → ℕ → List ℕ) (g : Host). f (Pairs b.0) (g.cursors (Pairs b.0))) (kin.part a.0 p) one in
            let seconds : next_item t w b.0 (Pairs a.0) ≡ next_item y v b.0 (Pairs a.0) =
            ap₂ (λ (f : Source → ℕ → List ℕ) (g : Host). f (Pairs a.0) (g.cursors (Pairs a.0))) (kin.part b.0 q) two in
            ap₂ (λ (m n : ℕ). applied binary.Sub m n) words (ap₂ (λ (r s : List ℕ). bit_xor (nth r 1) (nth s 1)) firsts seconds)

        at : IsIn K a.0 ⊎ IsIn K b.0 → IsIn K a.0 ⊎ IsOut K a.0 → IsIn K b.0 ⊎ IsOut K b.0
            → applied binary.Sub (converted first second w) (pair_word first second t w) ≡ applied binary.Sub (converted first second v) (pair_word first second y v)
        at i (inl p) (inl q) = inside p q
        at i (inl p) (inr o) = hides (inl (p, o))
        at i (inr o) (inl q) = hides (inr (q, o))
        at (inl i) (inr o) (inr d) = never_both K a.0 i o
        at (inr i) (inr o) (inr d) = never_both K b.0 i d

    pub to_add_tells : Telling K t y (to_add_made a b x next).gadgets w v
    to_add_tells both tidy hides owns =
        let one : Rest t w c = left t w ready c o in
        let more : Rest y v d = left y v ready' d o' in
        let w1 : Hosts = run_acts t (acts_of_gadget (Paired first second)) w in
        let v1 : Hosts = run_acts y (acts_of_gadget (Paired first second)) v in
        let end : Made PartRegisters = finished a b (shares_of rest.given) pair.given.0 rest.next in
        let k : ℕ = slice_index rest.next a.0 in
        let l : ℕ = slice_index (taken a 3 rest.next) b.0 in
        let same_mark : l ≡ slice_index rest.next b.0 = taken_other a 3 rest.next b.0 (λ e. apart (sym e)) in (
          tt,
          telling_on K t y kin rest.gadgets end.gadgets w1 v1 one.reached more.reached one.runs more.runs
              (telling_quiet K t y kin rest.gadgets w1 v1 (all_quiet rest.gadgets (gates_ordinary a b (gates_of op.Sub) _ pair.next)))
              (both_open K t y kin ByXors a b apart (shares_of rest.given) (applied binary.Sub (converted first second w) (pair_word first second t w)) (applied binary.Sub (converted first second v) (pair_word first second y v))
              (register l) (register k) (finishing a b (shares_of rest.given) pair.given.0 k l) (λ e. clash (subst (λ z. (shares_of rest.given).second.0 < z) (sym same_mark) one.low) e) (tt, (tt, (tt, tt)))
              one.reached more.reached one.word more.word (λ i. left_same both hides.0 i))
              (both_step K t y kin (Paired first second) w v tidy.0 both hides.0 tt) tidy.1 hides.1 owns.1,
        )
      where
        clash : {p q : ℕ} → p < q → p ≡ q → ⊥
        clash lt e = omega (arith, lt, e)
