-- A move is composed of the calls of two back ends.
use Rattle.std.proofs.Common.{◌≡◌, ℕ, suc, ◌<◌, List, [], ◌∷◌, inl, inr, length, map, slice_index, refl, sym, ap, ap₂, subst, subst₂, ◌∙◌, arith}
use Rattle.vd_base.specs.declared.ids.HostId.{HostId}
use Rattle.vd_base.specs.declared.protocols.HostSet.{HostSet}
use Rattle.vd_base.specs.declared.protocols.Proto.{Proto}
use Rattle.vd_base.specs.declared.protocols.Proto.TheVariants.{Local, Rep}
use Rattle.vd_base.specs.HostSets.{host}
use Rattle.vd_base.specs.Holders.{holders}
use Rattle.vd_execution.specs.World.{Tape}
use Rattle.vd_execution.specs.Joint.{Hosts}
use Rattle.vd_duet.specs.Builder.{most_taken}
use Rattle.vd_duet.specs.Calls.{Places, hosts_of, Made, Calls, Stand, AllAre}
use Rattle.vd_duet.specs.Laws.{IsIn, IsHost, IsReady, AreKnown, AreBelow, Operand, StandFor, Gives, GivesWord, at_host, Copies, words_at, nowhere}
use Rattle.vd_duet.proofs.Front.{leads_nothing, orderly_still, orderly_wider, Found, found}
use Rattle.vd_clear.specs.Copies.{spread_to}
use Rattle.vd_clear.proofs.Front.{spread_law}
use Rattle.vd_backend_sharing.specs.PairCalls.{shares_of, places_at}
use Rattle.vd_words.specs.AddCalls.{add_calls}
use Rattle.vd_bits.specs.BitCalls.{bit_calls}
use Rattle.vd_convert.specs.Convert.{to_xor_made, to_add_made}
use Rattle.vd_convert.proofs.Front.{to_xor_gives, to_add_gives}
use Rattle.vd_backend_laws.specs.Moves.{Share, Adopt, Show, ShowAll, Spread, Same, SameBound, ToXor, ToAdd, only, copies_at, shown_each, MovesKeepTheWord}

-- the parts of one host alone
pub record Sole (h : HostId) (next : List ℕ) (w : Hosts) (x : Places) (v : ℕ) : Type 0 where
  pub here : (w h.0).registers (only x).0 ≡ v
  pub low : (only x).0 < slice_index next h.0
  pub named : IsIn x h.0 (only x).0

too_long : (n : ℕ) → suc (suc n) ≡ 1 → ⊥
too_long n e = omega (arith, e)

none : (n : ℕ) → n ≡ suc n → ⊥
none n e = omega (arith, e)

pub sole : (p : Calls) (h : HostId) (next : List ℕ) (w : Hosts) (x : Places) (v : ℕ) → p.proto ≡ Local h → hosts_of x ≡ h ∷ [] → Operand p next w x v → Sole h next w x v
sole p h next w [] v is at o = absurd (none 0 (ap (λ (l : List HostId). length l) at))
sole p h next w (q ∷ []) v is at o =
    let e : q.0.0 ≡ h.0 = ap (λ (l : List HostId). slice_index (map (λ k. k.0) l) 0) at in
    let s : Stand (Local h) (words_at w (q ∷ [])) v = subst (λ (z : Proto). Stand z (words_at w (q ∷ [])) v) is o.stands.word in
    let f : (w q.0.0).registers q.1.0 ≡ v = ap (λ (l : List ℕ). slice_index l 0) s in
    record {
      here = subst (λ z. (w z).registers q.1.0 ≡ v) e f;
      low = subst (λ z. q.1.0 < slice_index next z) e o.below.0;
      named = inl (sym e, refl);
    }
sole p h next w (q ∷ r ∷ x) v is at o = absurd (too_long (length (hosts_of x)) (ap (λ (l : List HostId). length l) at))

-- copies of one word, in both readings
copies_of : (w : Hosts) (x : Places) (v : ℕ) → AllAre v (words_at w x) → Copies w x v
copies_of w [] v a = tt
copies_of w (q ∷ x) v a = (a.0, copies_of w x v a.1)

all_of : (w : Hosts) (x : Places) (v : ℕ) → Copies w x v → AllAre v (words_at w x)
all_of w [] v a = tt
all_of w (q ∷ x) v a = (a.0, all_of w x v a.1)

widened : (t : Tape) (next : List ℕ) (source source' : ℕ → ℕ → Type 0) (made : Made Places) (w : Hosts) (Is Is' : Hosts → Type 0)
    → ((h r : ℕ) → source h r → source' h r) → ((u : Hosts) → Is u → Is' u) → Gives most_taken t next source made w Is → Gives most_taken t next source' made w Is'
widened t next source source' made w Is Is' f k g = record {
  orderly = orderly_wider most_taken most_taken next source source' made (omega arith) f g.orderly;
  reached = g.reached;
  leads = g.leads;
  is = k g.reached g.is;
}

-- ---- of copies, those at some hosts

record EachCopy (next : List ℕ) (w : Hosts) (x : Places) (v : ℕ) (hs : List HostId) : Type 0 where
  below : AreBelow next (copies_at hs x)
  copies : Copies w (copies_at hs x) v
  from : (h r : ℕ) → IsIn (copies_at hs x) h r → IsIn x h r

each_copy : (next : List ℕ) (w : Hosts) (x : Places) (v : ℕ) (hs : List HostId) → ((h : HostId) → IsHost hs h.0 → Found next w x h v) → EachCopy next w x v hs
each_copy next w x v [] f = record { below = tt; copies = tt; from = λ h r i. absurd i }
each_copy next w x v (h ∷ hs) f =
    let one = f h (inl refl) in
    let more = each_copy next w x v hs (λ k i. f k (inr i)) in
    record { below = (one.holds.low, more.below); copies = (one.holds.here, more.copies); from = from one more }
  where
    from : Found next w x h v → EachCopy next w x v hs → (k r : ℕ) → IsIn (copies_at (h ∷ hs) x) k r → IsIn x k r
    from one more k r (inl e) = subst₂ (IsIn x) (sym e.0) (sym e.1) one.named
    from one more k r (inr i) = more.from k r i

hosts_at : (hs : List HostId) (x : Places) → hosts_of (copies_at hs x) ≡ hs
hosts_at [] x = refl
hosts_at (h ∷ hs) x = ap (λ (l : List HostId). h ∷ l) (hosts_at hs x)

-- parts of two hosts are of these two
two_places : (a b : HostId) (x : Places) → hosts_of x ≡ a ∷ b ∷ [] → x ≡ places_at a b (shares_of x)
two_places a b [] at = absurd (empty 0 (ap (λ (l : List HostId). length l) at))
  where
    empty : (n : ℕ) → n ≡ suc (suc n) → ⊥
    empty n e = omega (arith, e)
two_places a b (q ∷ []) at = absurd (none 1 (ap (λ (l : List HostId). length l) at))
two_places a b (q ∷ r ∷ []) at =
    ap₂ (λ (m n : ℕ). let y : Places = (host m, q.1) ∷ (host n, r.1) ∷ [] in y)
    (ap (λ (l : List HostId). slice_index (map (λ k. k.0) l) 0) at) (ap (λ (l : List HostId). slice_index (map (λ k. k.0) l) 1) at)
two_places a b (q ∷ r ∷ z ∷ x) at = absurd (more (length (hosts_of x)) (ap (λ (l : List HostId). length l) at))
  where
    more : (n : ℕ) → suc (suc (suc n)) ≡ 2 → ⊥
    more n e = omega (arith, e)

-- what holds of calls at a protocol holds of others at the same
ready_as : (p q : Calls) (t : Tape) (next : List ℕ) (w : Hosts) → p.proto ≡ q.proto → IsReady p t next w → IsReady q t next w
ready_as p q t next w e r = record { deal = r.deal; sound = r.sound; known = subst (λ (z : Proto). AreKnown (holders z) next) e r.known }

stands_as : (p q : Calls) (w : Hosts) (x : Places) (v : ℕ) → p.proto ≡ q.proto → StandFor p w x v → StandFor q w x v
stands_as p q w x v e s = record { at = s.at ∙ ap holders e; word = subst (λ (z : Proto). Stand z (words_at w x) v) e s.word }

operand_as : (p q : Calls) (next : List ℕ) (w : Hosts) (x : Places) (v : ℕ) → p.proto ≡ q.proto → Operand p next w x v → Operand q next w x v
operand_as p q next w x v e o = record { below = o.below; stands = stands_as p q w x v e o.stands }

-- copies are given to some hosts, and those at the hosts of a set among these stand for the word there
pub copies_give : (q : Calls) (set : HostSet) → q.proto ≡ Rep set → (t : Tape) (next : List ℕ) (w : Hosts) (source : ℕ → ℕ → Type 0) (made : Made Places) (v : ℕ) (hs : List HostId)
    → ((h : ℕ) → IsHost (holders q.proto) h → IsHost hs h)
    → Gives most_taken t next source made w (λ u. (hosts_of made.given ≡ hs) × Copies u made.given v)
    → GivesWord q t next source (shown_each (holders q.proto) made) w v
copies_give q set is t next w source made v hs among g =
    let found_at : (h : HostId) → IsHost (holders q.proto) h.0 → Found made.next g.reached made.given h v = λ h i.
    found made.next g.reached made.given h v (subst (λ (l : List HostId). IsHost l h.0) (sym g.is.0) (among h.0 i)) g.orderly.below g.is.1 in
    let c = each_copy made.next g.reached made.given v (holders q.proto) found_at in
    record {
      orderly = record {
        tidy = g.orderly.tidy;
        few = g.orderly.few;
        longer = g.orderly.longer;
        below = c.below;
        from = λ h r i. g.orderly.from h r (c.from h r i);
      };
      reached = g.reached;
      leads = g.leads;
      is = record {
        at = hosts_at (holders q.proto) made.given;
        word = subst (λ (z : Proto). Stand z (words_at g.reached (copies_at (holders q.proto) made.given)) v) (sym is) (all_of g.reached (copies_at (holders q.proto) made.given) v c.copies);
      };
    }

pub move_gives : MovesKeepTheWord
move_gives (Share h) p q lp lq is t next w rp rq x v o =
    let s = sole p h next w x v is.0 (o.stands.at ∙ ap holders is.0) o in
    let known : h.0 < length next = (subst (λ (z : Proto). AreKnown (holders z) next) is.0 rp.known).0 in
    let made : Made Places = q.share h (only x) next in
    widened t next (IsIn ((h, only x) ∷ [])) (IsIn x) made w (λ u. StandFor q u made.given ((w h.0).registers (only x).0)) (λ u. StandFor q u made.given v)
    (λ k r i. elim i [ inl e ↦ subst₂ (IsIn x) (sym e.0) (sym e.1) s.named | inr e ↦ absurd e ])
    (λ u. subst (λ z. StandFor q u made.given z) s.here)
    (lq.share t next w rq h is.1 known (only x) s.low)
move_gives Adopt p q lp lq is t next w rp rq x v o =
    let all : Stand (Rep is.0.0) (words_at w x) v = subst (λ (z : Proto). Stand z (words_at w x) v) is.0.1 o.stands.word in
    lq.adopt t next w rq x v (record {
      hosts = λ h i. subst (λ (l : List HostId). IsHost l h) (sym o.stands.at) (is.1 h i);
      below = o.below;
      copies = copies_of w x v all;
    })
move_gives (Show k) p q lp lq is t next w rp rq x v o =
    let known : k.0 < length next = (subst (λ (z : Proto). AreKnown (holders z) next) is.0 rq.known).0 in
    let made : Made Places = at_host k (p.show x k next) in
    widened t next (IsIn x) (IsIn x) made w (λ u. (u k.0).registers (p.show x k next).given.0 ≡ v) (λ u. StandFor q u made.given v)
    (λ h r i. i)
    (λ u e. record {
      at = sym (ap holders is.0);
      word = subst (λ (z : Proto). Stand z ((u k.0).registers (p.show x k next).given.0 ∷ []) v) (sym is.0) (ap (λ z. z ∷ []) e);
    })
    (lp.show t next w rp x v o k is.1 known)
move_gives ShowAll p q lp lq is t next w rp rq x v o = copies_give q is.0.0 is.0.1 t next w (IsIn x) (p.show_all x next) v (holders p.proto) is.1 (lp.show_all t next w rp x v o)
move_gives (Spread to) p q lp lq is t next w rp rq x v o =
    subst (λ (z : Calls). GivesWord z t next (IsIn x) (spread_to to x next) w v) (sym is.1)
    (spread_law is.0.0 to is.0.1.0 is.0.1.1 t next w (subst (λ (z : Calls). IsReady z t next w) is.0.2 rp)
    (subst (λ (z : Calls). AreKnown (holders z.proto) next) is.1 rq.known) x v (subst (λ (z : Calls). Operand z next w x v) is.0.2 o))
move_gives (Same a b) p q lp lq is t next w rp rq x v o =
    let two : x ≡ places_at a b (shares_of x) = two_places a b x (o.stands.at ∙ is.1) in
    record {
      orderly = orderly_still most_taken next (IsIn x) (places_at a b (shares_of x)) (subst (λ (y : Places). AreBelow next y) two o.below) (λ h r i. subst (λ (y : Places). IsIn y h r) (sym two) i);
      reached = w;
      leads = leads_nothing t next nowhere w rp.sound;
      is = subst (λ (z : Calls). StandFor z w (places_at a b (shares_of x)) v) is.0 (subst (λ (y : Places). StandFor p w y v) two o.stands);
    }
move_gives (SameBound a b) p q lp lq is t next w rp rq x v o = absurd is
move_gives (ToXor a b) p q lp lq is t next w rp rq x v o =
    let made : Made Places = to_xor_made a b x next in
    widened t next (IsIn x) (IsIn x) made w (λ u. StandFor (bit_calls a b) u made.given v) (λ u. StandFor q u made.given v)
    (λ h r i. i)
    (λ u s. stands_as (bit_calls a b) q u made.given v (sym is.2) s)
    (to_xor_gives a b is.0 t next w (ready_as p (add_calls a b) t next w is.1 rp) x v (operand_as p (add_calls a b) next w x v is.1 o))
move_gives (ToAdd a b) p q lp lq is t next w rp rq x v o =
    let made : Made Places = to_add_made a b x next in
    widened t next (IsIn x) (IsIn x) made w (λ u. StandFor (add_calls a b) u made.given v) (λ u. StandFor q u made.given v)
    (λ h r i. i)
    (λ u s. stands_as (add_calls a b) q u made.given v (sym is.2) s)
    (to_add_gives a b is.0 t next w (ready_as p (bit_calls a b) t next w is.1 rp) x v (operand_as p (bit_calls a b) next w x v is.1 o))
