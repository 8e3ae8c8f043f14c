-- The calls of hosts that hold a word in clear.
use Rattle.std.proofs.Common.{◌≡◌, ℕ, suc, ◌+◌, ◌*◌, ◌<◌, ◌≤◌, List, [], ◌∷◌, length, refl, ap, arith}
use Rattle.vd_base.specs.declared.ids.HostId.{HostId}
use Rattle.vd_base.specs.declared.operations.Op.{Op}
use Rattle.vd_base.specs.declared.protocols.HostSet.{HostSet}
use Rattle.vd_base.specs.declared.protocols.Proto.{Proto}
use Rattle.vd_base.specs.declared.protocols.Proto.TheVariants.{Rep}
use Rattle.vd_base.specs.Holders.{HasHosts, holders}
use Rattle.vd_execution.specs.declared.instructions.Reg.{Reg}
use Rattle.vd_execution.specs.declared.instructions.Action.TheVariants as action
use Rattle.vd_duet.specs.Calls.{Places, Made, register_of}
use Rattle.vd_duet.specs.Laws.{Each}
use Rattle.vd_clear.specs.Copies.{literal_at, passed, adopted, kept_by, applied_at, shown, each_made, clear_calls, spread_to}
use Rattle.vd_base.proofs.Front.{few_holders}
use Rattle.vd_projection.specs.Fits.{IsLow, PlacesFit, PartsFit, WordMade, Room, MoveFits, CallsFit}
use Rattle.vd_projection.proofs.Bounds.{places_more, all_places, RegFits, host_word, stays}
use Rattle.vd_projection.proofs.Clear.{register_fits, written_fits, passed_fits, adopted_fits, applied_fits, shown_fits, each_fits, renewed_fits}

pub each_length : (f : HostId → List ℕ → Made Reg) (hs : List HostId) (next : List ℕ) → length (each_made f hs next).given ≡ length hs
each_length f [] next = refl
each_length f (h ∷ hs) next = ap suc (each_length f hs (f h next).next)

-- parts at some hosts are few
pub few_parts : (hs : List HostId) (x : Places) → length x ≡ length hs → length hs ≤ 8 → length x ≤ 17
few_parts hs x e few = omega (arith, e, few)

module _ (hosts N : ℕ) where
  enough : (m n k : ℕ) → k ≤ 8 → m + 384 ≤ n → m + 17 * k ≤ n
  enough m n k e f = omega (arith, e, f)

  -- what each host of a protocol makes
  pub word_fits : (p : Proto) → HasHosts hosts p → (f : HostId → List ℕ → Made Reg) (m n : ℕ) (next : List ℕ) → Room N m n next
      → ((h : HostId) → h.0 < hosts → (a b : ℕ) (l : List ℕ) → m ≤ a → a + 17 ≤ b → b ≤ N → IsLow a l → RegFits hosts N 1 b (f h l))
      → WordMade hosts N n (each_made f (holders p) next)
  word_fits p known f m n next room law =
      let made = each_fits hosts N f 1 17 m law (holders p) known m n next (omega arith) (enough m n (length (holders p)) (few_holders p) room.more) room.within room.low in
      record {
        low = made.low;
        given = record { few = few_parts (holders p) (each_made f (holders p) next).given (each_length f (holders p) next) (few_holders p); at = made.given };
        gadgets = made.gadgets;
      }

  shown_word : (x : Places) (m : ℕ) → PartsFit hosts 0 m x → (h : HostId) → h.0 < hosts → (a b : ℕ) (l : List ℕ) → m ≤ a → a + 17 ≤ b → b ≤ N → IsLow a l
      → RegFits hosts N 1 b (shown x h l)
  shown_word x m f h here a b l le e most low = shown_fits hosts N x h m a b l here f.at f.few le e most low

  pub spread_fits : (set : HostSet) → HasHosts hosts (Rep set) → MoveFits hosts N (spread_to set)
  spread_fits set known x m n next f room = word_fits (Rep set) known (shown x) m n next room (shown_word x m f)

  literal_word : (v m : ℕ) (h : HostId) → h.0 < hosts → (a b : ℕ) (l : List ℕ) → m ≤ a → a + 17 ≤ b → b ≤ N → IsLow a l → RegFits hosts N 1 b (literal_at v h l)
  literal_word v m h here a b l le e most low = written_fits hosts N h (λ r. action.Const r v) a b l (omega (arith, e)) low (λ r i. omega (arith, i, e, most))

  passed_word : (from : HostId) → from.0 < hosts → (x : Reg) (m : ℕ) → x.0 ≤ m → (h : HostId) → h.0 < hosts → (a b : ℕ) (l : List ℕ) → m ≤ a → a + 17 ≤ b → b ≤ N → IsLow a l
      → RegFits hosts N 1 b (passed from x h l)
  passed_word from there x m below h here a b l le e most low = passed_fits hosts N from x h a b l there here (omega (arith, below, le)) (omega (arith, e)) most low

  adopted_word : (x : Places) (m : ℕ) → PartsFit hosts 0 m x → (h : HostId) → h.0 < hosts → (a b : ℕ) (l : List ℕ) → m ≤ a → a + 17 ≤ b → b ≤ N → IsLow a l
      → RegFits hosts N 1 b (adopted x h l)
  adopted_word x m f h here a b l le e most low = adopted_fits hosts N x h a b l (places_more hosts 0 m a x le f.at) (omega (arith, e)) low

  kept_word : (x : Places) (m : ℕ) → PartsFit hosts 0 m x → (h : HostId) → h.0 < hosts → (a b : ℕ) (l : List ℕ) → m ≤ a → a + 17 ≤ b → b ≤ N → IsLow a l
      → RegFits hosts N 1 b (kept_by x h l)
  kept_word x m f h here a b l le e most low =
      let r = register_fits hosts N 0 m x h.0 (omega arith) f.at in
      written_fits hosts N h (λ q. action.Copy q (register_of x h.0)) a b l (omega (arith, e)) low (λ q i. (omega (arith, i, e, most), omega (arith, r, le, e, most)))

  wider : (m a : ℕ) → m ≤ a → (xs : List Places) → Each (PlacesFit hosts 0 m) xs → Each (PlacesFit hosts 0 a) xs
  wider m a le [] f = tt
  wider m a le (x ∷ xs) f = (places_more hosts 0 m a x le f.0, wider m a le xs f.1)

  applied_word : (o : Op) (xs : List Places) (m : ℕ) → Each (PartsFit hosts 0 m) xs → (h : HostId) → h.0 < hosts → (a b : ℕ) (l : List ℕ) → m ≤ a → a + 17 ≤ b → b ≤ N → IsLow a l
      → RegFits hosts N 1 b (applied_at o xs h l)
  applied_word o xs m f h here a b l le e most low = applied_fits hosts N o xs h a b l (wider m a le xs (all_places hosts m xs f)) (omega (arith, e)) most low

  pub clear_fits : (p : Proto) → HasHosts hosts p → CallsFit hosts N (clear_calls p)
  clear_fits p known = record {
    literal = λ v m n next room. word_fits p known (literal_at v) m n next room (literal_word v m);
    share = λ from there x m n next below room. word_fits p known (passed from x) m n next room (passed_word from there x m below);
    adopt = λ x m n next f room. word_fits p known (adopted x) m n next room (adopted_word x m f);
    show = λ to here x m n next f room.
        let more : m + 17 ≤ n = (let e : m + 384 ≤ n = room.more in omega (arith, e)) in
        host_word hosts N to (shown x to next) n here (shown_fits hosts N x to m m n next here f.at f.few (omega arith) more room.within room.low);
    show_all = λ x m n next f room. let e : m + 384 ≤ n = room.more in stays hosts N x m n next (omega (arith, e)) room.low f;
    keep = λ x m n next f room. word_fits p known (kept_by x) m n next room (kept_word x m f);
    renew = λ kept x n f g lt. renewed_fits hosts N kept x n f.at g.at lt;
    apply = λ o xs m n next f room. word_fits p known (applied_at o xs) m n next room (applied_word o xs m f);
  }
