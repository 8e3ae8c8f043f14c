-- Copies that are shown to a host, which compares them.
use Rattle.std.proofs.Common.{◌≡◌, ◌≢◌, ℕ, ◌<◌, ◌≤◌, nat_eq, Bool, true, false, ◌||◌, if◌then◌else◌, List, [], ◌∷◌, ◌++◌, ◌⊎◌, inl, inr, length, map, slice_index, refl, sym, ap, subst, ◌∙◌, arith}
use Rattle.std.proofs.lemmas.Bool.{or_cases}
use native.Mathlib.Decide.{ℕ_discrete}
use Rattle.vd_base.specs.declared.ids.HostId.{HostId}
use Rattle.vd_base.specs.Holders.{is_among}
use Rattle.vd_execution.specs.declared.instructions.Action.TheVariants as action
use Rattle.vd_execution.specs.declared.instructions.Reg.{Reg}
use Rattle.vd_execution.specs.Gadgets.{Alone}
use Rattle.vd_execution.specs.Joint.{Host, Hosts, acted, after_do}
use Rattle.vd_execution.specs.World.{Tape}
use Rattle.vd_execution.proofs.Front.{put_other, put_same}
use Rattle.vd_duet.specs.Builder.{next_at, taken}
use Rattle.vd_duet.specs.Calls.{Made, Places, hosts_of, register_of}
use Rattle.vd_duet.specs.Laws.{AreBelow, IsHost}
use Rattle.vd_duet.proofs.Front.{taken_bounds, taken_known, taken_there}
use Rattle.vd_clear.specs.Copies.{adopted, compared, first_register, shown, told}
use Rattle.vd_integrity_runs.specs.Departing.{AreRight, AreStill, RunsGadgets, after_telling}
use Rattle.vd_integrity_runs.specs.Copies.{SomeKeeps}
use Rattle.vd_integrity_runs.proofs.Local.{IsStep, found, there_already}
use Rattle.vd_integrity_runs.proofs.Steps.{Wrote, differ_of, equal_of, gadgets_parts, heard_word, still_on, still_start, still_written}

neither : (a b : Bool) → (a || b) ≡ false → (a ≡ false) × (b ≡ false)
neither true b is = absurd (cc is)
neither false b is = (refl, is)

host_among : (hs : List HostId) (h : ℕ) → is_among hs h ≡ true → IsHost hs h
host_among [] h is = absurd (cc is)
host_among (k ∷ hs) h is = elim (or_cases (nat_eq h k.0) (is_among hs h) is) [ inl e ↦ inl (equal_of h k.0 e) | inr more ↦ inr (host_among hs h more) ]

one_word : (ws : List ℕ) → length ws ≡ 1 → (z : ℕ) × (ws ≡ z ∷ [])
one_word [] is = absurd (omega (arith, is))
one_word (z ∷ []) is = (z, refl)
one_word (z ∷ y ∷ ws) is = absurd (omega (arith, is))

-- each of these registers of a host has the word
abbrev AllHave : Hosts → ℕ → ℕ → List Reg → Type 0
AllHave w h v [] = Unit {0}
AllHave w h v (r ∷ rs) = ((w h).registers r.0 ≡ v) × AllHave w h v rs

-- one of them has it
abbrev SomeHas : Hosts → ℕ → ℕ → List Reg → Type 0
SomeHas w h v [] = ⊥
SomeHas w h v (r ∷ rs) = ((w h).registers r.0 ≡ v) ⊎ SomeHas w h v rs

all_alike : (w : Hosts) (h v u : ℕ) (rs : List Reg) → AllHave w h u rs → SomeHas w h v rs → u ≡ v
all_alike w h v u [] all some = absurd some
all_alike w h v u (r ∷ rs) all (inl e) = sym all.0 ∙ e
all_alike w h v u (r ∷ rs) all (inr more) = all_alike w h v u rs all.1 more

some_later : (w u : Hosts) (h v : ℕ) (rs : List Reg) → ((q : ℕ) → (u h).registers q ≡ (w h).registers q) → SomeHas w h v rs → SomeHas u h v rs
some_later w u h v [] same some = absurd some
some_later w u h v (r ∷ rs) same (inl e) = inl (same r.0 ∙ e)
some_later w u h v (r ∷ rs) same (inr more) = inr (some_later w u h v rs same more)

pub right_later : (keeps : ℕ → Bool) (next : List ℕ) (w u : Hosts) (x : Places) (v : ℕ) → AreBelow next x → AreStill next w u → AreRight keeps w x v → AreRight keeps u x v
right_later keeps next w u [] v below still right = tt
right_later keeps next w u (q ∷ x) v below still right = (λ is. still q.0.0 q.1.0 below.0 ∙ right.0 is, right_later keeps next w u x v below.1 still right.1)

pub below_later : (next next' : List ℕ) (x : Places) → ((k : ℕ) → slice_index next k ≤ slice_index next' k) → AreBelow next x → AreBelow next' x
below_later next next' [] longer below = tt
below_later next next' (q ∷ x) longer below = (let le = longer q.0.0 in let low = below.0 in omega (arith, le, low), below_later next next' x longer below.1)

module _ (keeps : ℕ → Bool) (t : Tape) (to : HostId) where
  -- a host that heard each holder
  record IsTold (next : List ℕ) (x : Places) (w w' : Hosts) (v : ℕ) : Type 0 where
    still : AreStill next w w'
    longer : (k : ℕ) → slice_index next k ≤ slice_index (told x to next).next k
    known : length (told x to next).next ≡ length next
    some : (k : ℕ) → IsHost (hosts_of x) k → keeps k ≡ true → SomeHas w' to.0 v (told x to next).given

  tells : (next : List ℕ) (x : Places) (w w' : Hosts) (v : ℕ) → to.0 < length next → is_among (hosts_of x) to.0 ≡ false → AreBelow next x → AreRight keeps w x v
      → RunsGadgets keeps t (told x to next).gadgets w w' → IsTold next x w w' v
  tells next [] w w' v known away below right run = record { still = still_start next w w' run; longer = λ k. omega arith; known = refl; some = λ k i is. i }
  tells next (q ∷ x) w w' v known away below right run =
      let off = neither (nat_eq to.0 q.0.0) (is_among (hosts_of x) to.0) away in
      let apart : q.0.0 ≢ to.0 = λ e. differ_of to.0 q.0.0 off.0 (sym e) in
      let next' = taken to 1 next in
      let words = one_word run.0 run.1.0.fits in
      let z = words.0 in
      let r = next_at next to in
      let u = after_telling q.0.0 run.0 to.0 (r ∷ []) w in
      let heard : Wrote to.0 r.0 z w u = subst (λ ws. Wrote to.0 r.0 z w (after_telling q.0.0 ws to.0 (r ∷ []) w)) (sym words.1) (heard_word q.0.0 z to.0 r w apart) in
      let bounds = taken_bounds to 1 next known in
      let longer' : (k : ℕ) → slice_index next k ≤ slice_index next' k = λ k. (bounds k).0 in
      let there = taken_there to 1 next known in
      let still' : AreStill next w u = still_written next to.0 r.0 z w u (omega arith) heard in
      let many = taken_known to 1 next in
      let more = tells next' x u w' v (omega (arith, many, known)) off.1 (below_later next next' x longer' below.1) (right_later keeps next w u x v below.1 still' right.1) run.1.1 in
      let longer'' = more.longer in
      let kept : (w' to.0).registers r.0 ≡ z = more.still to.0 r.0 (omega (arith, there)) ∙ heard.there in
      record {
        still = still_on next next' w u w' longer' still' more.still;
        longer = λ k. let a = longer' k in let b = longer'' k in omega (arith, a, b);
        known = more.known ∙ many;
        some = λ k i is. elim i [
          | inl e ↦
              let own : z ≡ v = same_words z ((w q.0.0).registers q.1.0) (sym words.1 ∙ run.1.0.own (subst (λ n. keeps n ≡ true) e is)) ∙ right.0 (subst (λ n. keeps n ≡ true) e is) in
              inl (kept ∙ own)
          | inr j ↦ inr (more.some k j is)
        ];
      }
    where
      same_words : (a b : ℕ) → a ∷ [] ≡ b ∷ [] → a ≡ b
      same_words a b e = cc e

  -- nothing changes where words are compared
  same_after : (r s : Reg) (w : Hosts) (k q : ℕ) → (after_do t to.0 (action.Same r s) w k).registers q ≡ (w k).registers q
  same_after r s w k q =
      elim (ℕ_discrete k to.0) [
        | yes i ↦ let P : ℕ → Type 0 = λ z. (after_do t to.0 (action.Same r s) w z).registers q ≡ (w z).registers q in
            subst P (sym i) (ap (λ (h : Host). h.registers q) (put_same w to.0 (acted (t to.0) (action.Same r s) (w to.0))))
        | no d ↦ ap (λ (h : Host). h.registers q) (put_other w to.0 (acted (t to.0) (action.Same r s) (w to.0)) k d)
      ]

  record AreCompared (r : Reg) (rs : List Reg) (w w' : Hosts) : Type 0 where
    same : (k q : ℕ) → (w' k).registers q ≡ (w k).registers q
    equal : keeps to.0 ≡ true → AllHave w' to.0 ((w' to.0).registers r.0) rs

  compares : (r : Reg) (rs : List Reg) (w w' : Hosts) → RunsGadgets keeps t (map (λ s. Alone to (action.Same r s)) rs) w w' → AreCompared r rs w w'
  compares r [] w w' run = record { same = λ k q. ap (λ (u : Hosts). (u k).registers q) run; equal = λ is. tt }
  compares r (s ∷ rs) w w' run =
      let u = after_do t to.0 (action.Same r s) w in
      let more = compares r rs u w' run.1 in
      let same : (k q : ℕ) → (w' k).registers q ≡ (w k).registers q = λ k q. more.same k q ∙ same_after r s w k q in
      record { same = same; equal = λ is. (same to.0 s.0 ∙ sym (run.0 is) ∙ sym (same to.0 r.0), more.equal is) }

  -- the copies are right where one holder keeps to its program
  pub shows : (next : List ℕ) (x : Places) (w w' : Hosts) (v : ℕ) → to.0 < length next → AreBelow next x → AreRight keeps w x v → SomeKeeps keeps x
      → RunsGadgets keeps t (shown x to next).gadgets w w' → IsStep keeps next to (shown x to next) w w' v
  shows next [] w w' v known below right some run = absurd some.1.0
  shows next (q ∷ x) w w' v known below right some run = at (is_among (hosts_of (q ∷ x)) to.0) refl run
    where
      all : Places
      all = q ∷ x

      at : (b : Bool) → is_among (hosts_of (q ∷ x)) to.0 ≡ b
          → let made : Made Reg = if b then adopted (q ∷ x) to next else record { given = first_register (told (q ∷ x) to next).given; gadgets = (told (q ∷ x) to next).gadgets ++ compared to (told (q ∷ x) to next).given; next = (told (q ∷ x) to next).next } in
          RunsGadgets keeps t made.gadgets w w' → IsStep keeps next to made w w' v
      at true e run = there_already keeps t next w w' to known (register_of (q ∷ x) to.0) v (found keeps next w (q ∷ x) to v (host_among (hosts_of (q ∷ x)) to.0 e) below right) run
      at false e run =
          let made = told (q ∷ x) to next in
          let parts = gadgets_parts keeps t made.gadgets (compared to made.given) w w' run in
          let one = tells next (q ∷ x) w parts.0 v known e below right parts.1.0 in
          let r = next_at next to in
          let rs = (told x to (taken to 1 next)).given in
          let two = compares r rs parts.0 w' parts.1.1 in
          let rest = tells_known next x known in
          record {
            still = λ h i low. two.same h i ∙ one.still h i low;
            longer = one.longer;
            known = one.known;
            low = rest;
            right = λ is. all_alike w' to.0 v ((w' to.0).registers r.0) (r ∷ rs) (refl, two.equal is) (some_later parts.0 w' to.0 v (r ∷ rs) (λ i. two.same to.0 i) (one.some some.0 some.1.0 some.1.1));
          }
        where
          further : (x : Places) (next : List ℕ) → to.0 < length next → slice_index next to.0 ≤ slice_index (told x to next).next to.0
          further [] next known = omega arith
          further (q ∷ x) next known =
              let there = taken_there to 1 next known in
              let many = taken_known to 1 next in
              let more = further x (taken to 1 next) (omega (arith, many, known)) in
              omega (arith, there, more)

          tells_known : (next : List ℕ) (x : Places) → to.0 < length next → slice_index next to.0 < slice_index (told x to (taken to 1 next)).next to.0
          tells_known next x known =
              let there = taken_there to 1 next known in
              let many = taken_known to 1 next in
              let more = further x (taken to 1 next) (omega (arith, many, known)) in
              omega (arith, there, more)
