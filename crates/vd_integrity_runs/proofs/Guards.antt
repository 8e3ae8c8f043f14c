-- Guards that are told to the hosts that take part; and blocks in which none of these keeps to its program.
use Rattle.std.proofs.Common.{◌≡◌, ℕ, suc, ◌<◌, nat_eq, ◌&&◌, ◌||◌, not, Bool, true, false, true≢false, List, [], ◌∷◌, inl, inr, length, map, refl, sym, ap, subst, ◌∙◌, arith}
use Rattle.std.specs.List.{list_all, list_any}
use Rattle.std.proofs.lemmas.Bool.{and_parts, eq-eqb}
use Rattle.vd_base.specs.declared.ids.HostId.{HostId}
use Rattle.vd_base.specs.declared.ids.SlotId.{SlotId}
use Rattle.vd_base.specs.declared.protocols.Proto.{Proto}
use Rattle.vd_base.specs.declared.protocols.Proto.TheVariants.{Local}
use Rattle.vd_base.specs.HostSets.{host}
use Rattle.vd_base.specs.Holders.{holders, is_holder}
use Rattle.vd_core.specs.declared.normal.Right.{Right}
use Rattle.vd_core.specs.declared.normal.Right.TheVariants.{Lit, Turn, Copy, Apply, Input, Declassify, Endorse, Load, Get}
use Rattle.vd_constraints.specs.Scoped.{is_below, right_below, stmt_below}
use Rattle.vd_execution.specs.Joint.{Hosts, Part}
use Rattle.vd_execution.specs.World.{Tape}
use Rattle.vd_execution.specs.Deals.{IsValidDeal}
use Rattle.vd_duet.specs.Laws.{AreKnown, Each, IsHost}
use Rattle.vd_split.specs.Block.{Block, End, Let, NewVar, NewArray, Store, Put, Output, If, For, each}
use Rattle.vd_split.specs.Joint.{Each as EachOf}
use Rattle.vd_split.specs.Suite.{Word, Ready, Operand}
use Rattle.vd_split.specs.Emission.{Emission, delivered}
use Rattle.vd_split.specs.Validity.{Fits, Placed, RightFits, RightPlaced, emission_of}
use Rattle.vd_split.proofs.Front.{or_left, or_right, Between, between_of, ready_past, operand_past}
use Rattle.vd_backend_laws.specs.Parts.{Parts, suite_calls}
use Rattle.vd_backend_laws.specs.Suite.{IsOver, suite, AreGiven}
use Rattle.vd_backend_laws.proofs.Front.{holder_at, host_known, input_stands}
use Rattle.vd_noninter_protocols.proofs.Front.{below}
use Rattle.vd_noninter.specs.Flowing.{Knowledge, right_hides}
use Rattle.vd_noninter.proofs.Front.{and_of, not_if}
use Rattle.vd_integrity_runs.specs.Departing.{RunsGadgets}
use Rattle.vd_integrity_runs.specs.Copies.{IsInClear, IsOperand}
use Rattle.vd_integrity_runs.proofs.Steps.{gadgets_parts}
use Rattle.vd_integrity_runs.proofs.Hiding.{hides}
use Rattle.vd_integrity_runs.specs.Runs.{GoThisWay}
use Rattle.vd_integrity_runs.proofs.Touching.{runs_framed}
use Rattle.vd_integrity_runs.proofs.Fresh.{Free, IsFresh, fresh_none, fresh_on, moved_fresh}
use Rattle.vd_integrity_runs.proofs.Calls.{IsKeptAt, moved_right, operand_later, right_register, still_of}
use Rattle.vd_integrity_runs.proofs.Rights.{from_gives, known_at, laws}

abbrev pub RightAt : (ℕ → Bool) → Hosts → ℕ → List Part → Type 0
RightAt keeps w v given = Each (λ q. keeps q.0 ≡ true → (w q.0).registers q.1 ≡ v) given

-- hosts that keep and have the guard go its way
pub way_is : (keeps : ℕ → Bool) (other : Bool) (w : Hosts) (v : ℕ) (given : List Part) → GoThisWay keeps other given w → RightAt keeps w v given → list_any (λ q. keeps q.0) given ≡ true → nat_eq v 0 ≡ other
way_is keeps other w v [] ways right some = absurd (true≢false (sym some))
way_is keeps other w v (q ∷ given) ways right some = by (λ more. way_is keeps other w v given ways.1 right.1 more) (keeps q.0) refl
  where
    later : keeps q.0 ≡ false → list_any (λ p. keeps p.0) given ≡ true
    later off = ap (λ b. b || list_any (λ p. keeps p.0) given) (sym off) ∙ some

    by : (list_any (λ p. keeps p.0) given ≡ true → nat_eq v 0 ≡ other) → (b : Bool) → keeps q.0 ≡ b → nat_eq v 0 ≡ other
    by again true is = ap (λ z. nat_eq z 0) (sym (right.0 is)) ∙ ways.0 is
    by again false is = again (later is)

abbrev head_of : List ℕ → ℕ
head_of [] = 0
head_of (x ∷ xs) = x

abbrev tail_of : List ℕ → List ℕ
tail_of [] = []
tail_of (x ∷ xs) = xs

pub none_keeps : (keeps : ℕ → Bool) (given : List Part) → list_any (λ q. keeps q.0) given ≡ false → (hs : List HostId) → map (λ q. q.0) given ≡ map (λ h. h.0) hs → (h : ℕ) → IsHost hs h → keeps h ≡ true → ⊥
none_keeps keeps [] none [] same h i is = i
none_keeps keeps [] none (g ∷ hs) same h i is = absurd (few (ap (λ (l : List ℕ). length l) same))
  where
    few : {n : ℕ} → 0 ≡ suc n → ⊥
    few e = omega (arith, e)
none_keeps keeps (q ∷ given) none [] same h i is = i
none_keeps keeps (q ∷ given) none (g ∷ hs) same h i is = by (λ off j. none_keeps keeps given off hs (ap tail_of same) h j is) (keeps q.0) refl i
  where
    by : (list_any (λ p. keeps p.0) given ≡ false → IsHost hs h → ⊥) → (b : Bool) → keeps q.0 ≡ b → IsHost (g ∷ hs) h → ⊥
    by again true here j = true≢false (sym (ap (λ b. b || list_any (λ p. keeps p.0) given) here) ∙ none)
    by again false here (inl e) = true≢false (sym is ∙ ap keeps (e ∙ sym (ap head_of same)) ∙ here)
    by again false here (inr j) = again (sym (ap (λ b. b || list_any (λ p. keeps p.0) given) here) ∙ none) j

module _ (hosts : ℕ) (t : Tape) (deal : IsValidDeal t) (inputs : ℕ → List ℕ) (dealt : AreGiven inputs t) (proto : ℕ → Proto) (clear : (x : ℕ) → IsInClear (proto x)) (declared : (x : ℕ) → IsOver hosts (proto x)) where
  pub given_hosts : (p : Proto) (x : Parts) (ks : List HostId) (next : List ℕ) → map (λ q. q.0) (delivered (suite_calls hosts) proto p x ks next).given ≡ map (λ h. h.0) ks
  given_hosts p x [] next = refl
  given_hosts p x (k ∷ ks) next = ap (λ (l : List ℕ). k.0 ∷ l) (given_hosts p x ks ((suite_calls hosts).move p (Local k) x next).next)

  abbrev Told : Proto → List HostId → Type 0
  Told p ks = EachOf (λ h. (h.0 < hosts) × ((suite t inputs hosts).joins p (Local h) ≡ true)) ks

  local_known : (k : HostId) (next : List ℕ) → k.0 < hosts → length next ≡ hosts → AreKnown (holders (Local k)) next
  local_known k next low many = (subst (λ n. k.0 < n) (sym many) low, tt)

  pub delivered_fresh : (p : Proto) → IsInClear p → (x : Parts) (ks : List HostId) → Told p ks → (next : List ℕ) → length next ≡ hosts
      → IsFresh next (delivered (suite_calls hosts) proto p x ks next).acts (delivered (suite_calls hosts) proto p x ks next).next
  delivered_fresh p cp x [] joins next many = fresh_none next
  delivered_fresh p cp x (k ∷ ks) joins next many =
      let one = (suite_calls hosts).move p (Local k) x next in
      let rest = delivered (suite_calls hosts) proto p x ks one.next in
      let first = moved_fresh p (Local k) cp tt x.at next (local_known k next joins.0.0 many) in
      fresh_on next one.next rest.next one.acts rest.acts first (delivered_fresh p cp x ks joins.1 one.next (first.known ∙ many))

  module _ (k : Knowledge) (declassified : (x y : ℕ) → k.given.declassified x y ≡ false) (stays : (x : ℕ) → k.kept x ≡ true → IsKeptAt k.known (proto x)) where
    -- a right word comes to each of some hosts that keep
    pub delivered_right : (p : Proto) → IsInClear p → IsOver hosts p → IsKeptAt k.known p → (x : Parts) (v0 v : ℕ) (ks : List HostId) → Told p ks → (next : List ℕ) (w0 : Hosts) → Ready _ (suite t inputs hosts) next w0
        → Operand _ (suite t inputs hosts) next w0 p x v0 → (w u : Hosts) → IsOperand k.known p next w x.at v → RunsGadgets k.known t (delivered (suite_calls hosts) proto p x ks next).acts w u
        → RightAt k.known u v (delivered (suite_calls hosts) proto p x ks next).given
    delivered_right p cp dp some x v0 v [] joins next w0 ready o w u op run = tt
    delivered_right p cp dp some x v0 v (g ∷ ks) joins next w0 ready o w u op run =
        let one = (suite_calls hosts).move p (Local g) x next in
        let rest = delivered (suite_calls hosts) proto p x ks one.next in
        let parts = gadgets_parts k.known t one.acts rest.acts w u run in
        let m = parts.0 in
        let theory = laws hosts t deal inputs dealt proto clear declared in
        let local = theory.local_is_declared g joins.0.0 in
        let gives = theory.move_law p (Local g) dp local joins.0.1 x v0 next w0 ready o in
        let a : Between _ (suite t inputs hosts) next w0 one.acts one.next = between_of _ (suite t inputs hosts) next _ one w0 (Local g) (Word v0) gives in
        let low = local_known g next joins.0.0 ready.known in
        let first = moved_fresh p (Local g) cp tt x.at next low in
        let framed = runs_framed (Free next) k.known t one.acts w m first.touches parts.1.0 in
        let right = moved_right k.known t next w p (Local g) cp tt (known_at hosts t deal inputs dealt proto clear declared p dp next ready.known) low x.at v op some m parts.1.0 in
        let head = from_gives hosts t deal inputs dealt proto clear declared k declassified stays (Local g) tt next _ one w0 v0 gives m v right op.word in
        let there = theory.in_clear gives.reached g one.given v0 gives.stands in
        let below = gives.fresh.below g.0 ((suite_calls hosts).register one.given g.0) there.1 in
        let later = delivered_fresh p cp x ks joins.1 one.next (first.known ∙ ready.known) in
        let framed' = runs_framed (Free one.next) k.known t rest.acts m u later.touches parts.1.1 in (
          λ keep. still_of one.next m u framed' g.0 ((suite_calls hosts).register one.given g.0) below ∙ right_register k.known m one.given.at g.0 v (subst (λ (l : List HostId). IsHost l g.0) (sym head.at) (inl refl)) right keep,
          delivered_right p cp dp some x v0 v ks joins.1 one.next gives.reached (ready_past _ (suite t inputs hosts) next w0 one.acts one.next ready a)
              (operand_past _ (suite t inputs hosts) theory next w0 one.acts one.next p x v0 a o) m u (operand_later k.known p next one.next w m x.at v first.longer (still_of next w m framed) op) parts.1.1,
        )

    -- ---- blocks in which no host that keeps takes part
    abbrev emits : Block → Emission (suite_calls hosts) proto
    emits b = emission_of _ (suite t inputs hosts) proto b

    abbrev pub low_block : ℕ → Block → Bool
    low_block n b = list_all (λ x. x) (each (stmt_below n) b)

    module _ (n : ℕ) (endorses : (x y : ℕ) → x < n → k.given.endorsed x y ≡ true → IsKeptAt k.known (proto x)) (closed : (x y : ℕ) → (k.freed.declassified x y ≡ false) × (k.freed.endorsed x y ≡ false))
        (alike : (h : ℕ) → k.heard h ≡ true → k.known h ≡ true) where
      abbrev pub NoneKeeps : (ℕ → Bool) → Type 0
      NoneKeeps test = (h : ℕ) → h < hosts → test h ≡ true → k.known h ≡ true → ⊥

      -- a slot that is kept stands at a host that keeps
      nowhere_kept : (x : ℕ) (test : ℕ → Bool) → NoneKeeps test → ((h : ℕ) → is_holder (proto x) (host h) ≡ true → test h ≡ true) → IsKeptAt k.known (proto x) → ⊥
      nowhere_kept x test none at some = none some.0 (host_known hosts (holders (proto x)) some.0 (declared x).known some.1.0) (at some.0 (holder_at (proto x) some.0 some.1.0)) some.1.1

      not_kept : (x : ℕ) (test : ℕ → Bool) → NoneKeeps test → ((h : ℕ) → is_holder (proto x) (host h) ≡ true → test h ≡ true) → not (k.kept x) ≡ true
      not_kept x test none at = not_if (k.kept x) (λ is. nowhere_kept x test none at (stays x is))

      not_false : (b : Bool) → b ≡ false → not b ≡ true
      not_false true e = absurd (true≢false e)
      not_false false e = refl

      low_of : (x : SlotId) → is_below n x ≡ true → x.0 < n
      low_of x e = below n x e

      right_hidden : (x : SlotId) (right : Right) (test : ℕ → Bool) → NoneKeeps test → ((h : ℕ) → is_holder (proto x.0) (host h) ≡ true → test h ≡ true) → is_below n x ≡ true → RightFits hosts right
          → RightPlaced _ (suite t inputs hosts) proto (proto x.0) right → right_hides k x right ≡ true
      right_hidden x (Lit v) test none at low fits placed = refl
      right_hidden x Turn test none at low fits placed = refl
      right_hidden x (Copy y) test none at low fits placed = refl
      right_hidden x (Apply op ys) test none at low fits placed = refl
      right_hidden x (Input h) test none at low fits placed =
          let same : proto x.0 ≡ Local h = input_stands h (proto x.0) placed in
          not_if (k.known h.0) (λ keep. none h.0 fits (at h.0 (subst (λ p. is_holder p (host h.0) ≡ true) (sym same) (holder_at (Local h) h.0 (inl refl)))) keep)
      right_hidden x (Declassify y to) test none at low fits placed =
          and_of (not (k.given.declassified x.0 y.0)) (not (k.freed.declassified x.0 y.0)) (not_false (k.given.declassified x.0 y.0) (declassified x.0 y.0)) (not_false (k.freed.declassified x.0 y.0) (closed x.0 y.0).0)
      right_hidden x (Endorse y to) test none at low fits placed =
          and_of (not (k.given.endorsed x.0 y.0)) (not (k.freed.endorsed x.0 y.0)) (not_if (k.given.endorsed x.0 y.0) (λ is. nowhere_kept x.0 test none at (endorses x.0 y.0 (low_of x low) is)))
          (not_false (k.freed.endorsed x.0 y.0) (closed x.0 y.0).1)
      right_hidden x (Load v) test none at low fits placed = refl
      right_hidden x (Get v i) test none at low fits placed = refl

      pub nobody_hides : (b : Block) → NoneKeeps (emits b).takes_part → low_block n b ≡ true → Fits hosts b → Placed _ (suite t inputs hosts) proto b → hides k b ≡ true
      nobody_hides End none low fits placed = refl
      nobody_hides (Let x right rest) none low fits placed =
          let lows = and_parts (is_below n x && right_below n right) (low_block n rest) low in
          let here = and_parts (is_below n x) (right_below n right) lows.0 in
          and_of (not (k.kept x.0) && right_hides k x right) (hides k rest)
          (and_of (not (k.kept x.0)) (right_hides k x right)
          (not_kept x.0 (emits (Let x right rest)).takes_part none (λ h is. or_left _ _ (or_left _ _ is)))
          (right_hidden x right (emits (Let x right rest)).takes_part none (λ h is. or_left _ _ (or_left _ _ is)) here.0 fits.0 placed.0))
          (nobody_hides rest (λ h less is. none h less (or_right _ _ is)) lows.1 fits.1 placed.1)
      nobody_hides (NewVar v y rest) none low fits placed =
          let lows = and_parts (is_below n v && is_below n y) (low_block n rest) low in
          and_of (not (k.kept v.0)) (hides k rest) (not_kept v.0 (emits (NewVar v y rest)).takes_part none (λ h is. or_left _ _ (or_left _ _ is)))
          (nobody_hides rest (λ h less is. none h less (or_right _ _ is)) lows.1 fits placed.2)
      nobody_hides (NewArray v size rest) none low fits placed =
          let lows = and_parts (is_below n v) (low_block n rest) low in
          and_of (not (k.kept v.0)) (hides k rest) (not_kept v.0 (emits (NewArray v size rest)).takes_part none (λ h is. or_left _ _ is))
          (nobody_hides rest (λ h less is. none h less (or_right _ _ is)) lows.1 fits placed.1)
      nobody_hides (Store v y rest) none low fits placed =
          let lows = and_parts (is_below n v && is_below n y) (low_block n rest) low in
          and_of (not (k.kept v.0)) (hides k rest) (not_kept v.0 (emits (Store v y rest)).takes_part none (λ h is. or_left _ _ (or_left _ _ is)))
          (nobody_hides rest (λ h less is. none h less (or_right _ _ is)) lows.1 fits placed.2)
      nobody_hides (Put v i y rest) none low fits placed =
          let lows = and_parts (is_below n v && is_below n i && is_below n y) (low_block n rest) low in
          and_of (not (k.kept v.0)) (hides k rest) (not_kept v.0 (emits (Put v i y rest)).takes_part none (λ h is. or_left _ _ (or_left _ _ (or_left _ _ is))))
          (nobody_hides rest (λ h less is. none h less (or_right _ _ is)) lows.1 fits placed.3)
      nobody_hides (Output y g offset rest) none low fits placed =
          let lows = and_parts (is_below n y) (low_block n rest) low in
          and_of (not (k.heard g.0)) (hides k rest) (not_if (k.heard g.0) (λ is. none g.0 fits.0 (or_left _ _ (or_left _ _ (eq-eqb g.0 g.0 refl))) (alike g.0 is)))
          (nobody_hides rest (λ h less is. none h less (or_right _ _ is)) lows.1 fits.1 placed.1)
      nobody_hides (If x tb eb offset rest) none low fits placed =
          let lows = and_parts (is_below n x && low_block n tb && low_block n eb) (low_block n rest) low in
          let both = and_parts (is_below n x && low_block n tb) (low_block n eb) lows.0 in
          let first = and_parts (is_below n x) (low_block n tb) both.0 in
          and_of (hides k tb && hides k eb) (hides k rest)
          (and_of (hides k tb) (hides k eb) (nobody_hides tb (λ h less is. none h less (or_left _ _ (or_left _ _ (or_right _ _ is)))) first.1 fits.0 placed.1)
          (nobody_hides eb (λ h less is. none h less (or_left _ _ (or_right _ _ is))) both.1 fits.1 placed.2))
          (nobody_hides rest (λ h less is. none h less (or_right _ _ is)) lows.1 fits.2 placed.3)
      nobody_hides (For count body rest) none low fits placed =
          let lows = and_parts (low_block n body) (low_block n rest) low in
          and_of (hides k body) (hides k rest) (nobody_hides body (λ h less is. none h less (or_left _ _ is)) lows.0 fits.1 placed.0)
          (nobody_hides rest (λ h less is. none h less (or_right _ _ is)) lows.1 fits.2 placed.1)
