-- New arrays, at one host after the other.
use Rattle.std.proofs.Common.{◌≡◌, ℕ, ◌+◌, ◌^◌, ◌<◌, ◌≤◌, List, [], ◌∷◌, ◌++◌, inl, inr, length, drop, get_or, slice_index, refl, sym, ap, subst, ◌∙◌, arith}
use Rattle.std.proofs.lemmas.List.{drop_more, drop_all}
use native.Mathlib.Decide.{ℕ_discrete}
use Rattle.vd_base.specs.declared.ids.HostId.{HostId}
use Rattle.vd_execution.specs.declared.instructions.Act.TheVariants as act
use Rattle.vd_execution.specs.declared.instructions.Action.TheVariants as action
use Rattle.vd_execution.specs.declared.instructions.Reg.{Reg}
use Rattle.vd_duet.specs.Builder.{Builder, HasRoom, added, reserved, taken}
use Rattle.vd_duet.specs.Calls.{called, in_clear, hosts_of}
use Rattle.vd_duet.specs.Laws.{IsHost, AreKnown}
use Rattle.vd_duet.specs.declared.parts.Part.{Part}
use Rattle.vd_duet.proofs.Front.{taken_known, taken_there, taken_other}
use Rattle.vd_clear.specs.Copies.{each_made}
use Rattle.vd_clear.proofs.Front.{behind, behind_end, each_hosts, each_step}
use Rattle.vd_backend_laws.specs.Parts.{zeros_at}
use Rattle.vd_backends.specs.Offered.{AreApart}

zeros_made : (size : ℕ) (h : HostId) (b b1 b2 : Builder) (r : Reg) → (r, b1) ≡ reserved h size b → b2 ≡ added (act.Do h (action.Zero r size)) b1
    → (r, b2) ≡ called (zeros_at size h b.next) b
zeros_made size h b b1 b2 r e f =
    ap (λ (z : Builder). let p : Reg × Builder = (r, z) in p) f
    ∙ ap (λ (z : Reg × Builder). let p : Reg × Builder = (z.0, added (act.Do h (action.Zero z.0 size)) z.1) in p) e

-- what the loop keeps: the hosts that are left have all the registers that they had
pub record SoFar (size : ℕ) (hs : List HostId) (i : ℕ) (xs : List (HostId × Part)) (start b : Builder) : Type 0 where
  pub exact : behind (in_clear xs) (each_made (zeros_at size) (drop i hs) b.next) b ≡ called (each_made (zeros_at size) hs start.next) start
  pub known : AreKnown (drop i hs) start.next
  pub apart : AreApart (drop i hs)
  pub many : length b.next ≡ length start.next
  pub few : (h : ℕ) → slice_index b.next h ≤ slice_index start.next h + size
  pub left : (h : ℕ) → IsHost (drop i hs) h → slice_index b.next h ≤ slice_index start.next h

module _ (size : ℕ) (hs : List HostId) (i : ℕ) (d : HostId) (low : i < length hs) (xs : List (HostId × Part)) (start b : Builder) (s : SoFar size hs i xs start b) where
  abbrev h : HostId
  h = get_or hs i d

  abbrev behind_it : List HostId
  behind_it = drop (i + 1) hs

  now : AreKnown (h ∷ behind_it) start.next
  now = subst (λ (l : List HostId). AreKnown l start.next) (drop_more hs i d low) s.known

  now_apart : AreApart (h ∷ behind_it)
  now_apart = subst AreApart (drop_more hs i d low) s.apart

  still : (k : ℕ) → IsHost (h ∷ behind_it) k → slice_index b.next k ≤ slice_index start.next k
  still k j = s.left k (subst (λ (l : List HostId). IsHost l k) (sym (drop_more hs i d low)) j)

  pub zeros_known : h.0 < length b.next
  zeros_known = subst (λ (n : ℕ). h.0 < n) (sym s.many) now.0

  pub zeros_room : HasRoom size start.next → slice_index b.next h.0 + size < 2 ^ 32
  zeros_room room = let p = room h.0 in let q = still h.0 (inl refl) in omega (arith, p, q)

  pub zeros_turn : (ys : List (HostId × Part)) (b1 b2 : Builder) (r : Reg) → (r, b1) ≡ reserved h size b → b2 ≡ added (act.Do h (action.Zero r size)) b1
      → ys ≡ xs ++ (h, record { 0 = r }) ∷ [] → SoFar size hs (i + 1) ys start b2
  zeros_turn ys b1 b2 r e f longer = record {
    exact =
        each_step (zeros_at size) h behind_it xs ys b (called (each_made (zeros_at size) hs start.next) start) r b2 made longer
        (ap (λ (l : List HostId). behind (in_clear xs) (each_made (zeros_at size) l b.next) b) (sym (drop_more hs i d low)) ∙ s.exact);
    known = now.1;
    apart = now_apart.1;
    many = ap length after ∙ taken_known h size b.next ∙ s.many;
    few = few;
    left = left;
  }
    where
      made : (r, b2) ≡ called (zeros_at size h b.next) b
      made = zeros_made size h b b1 b2 r e f

      after : b2.next ≡ taken h size b.next
      after = ap (λ (z : Reg × Builder). z.1.next) (zeros_made size h b b1 b2 r e f)

      other : (k : ℕ) → (k ≡ h.0 → ⊥) → slice_index b2.next k ≡ slice_index b.next k
      other k differs = ap (λ (l : List ℕ). slice_index l k) (ap (λ (z : Reg × Builder). z.1.next) (zeros_made size h b b1 b2 r e f)) ∙ taken_other h size b.next k differs

      there : slice_index b2.next h.0 ≡ slice_index b.next h.0 + size
      there = ap (λ (l : List ℕ). slice_index l h.0) (ap (λ (z : Reg × Builder). z.1.next) (zeros_made size h b b1 b2 r e f)) ∙ taken_there h size b.next zeros_known

      few : (k : ℕ) → slice_index b2.next k ≤ slice_index start.next k + size
      few k = elim (ℕ_discrete k h.0) [
        | yes is ↦
            let q = still h.0 (inl refl) in
            subst (λ (z : ℕ). slice_index b2.next z ≤ slice_index start.next z + size) (sym is) (let t = there in omega (arith, q, t))
        | no diff ↦ let q = s.few k in let t = other k diff in omega (arith, q, t)
      ]

      left : (k : ℕ) → IsHost behind_it k → slice_index b2.next k ≤ slice_index start.next k
      left k j =
          let t = other k (λ is. now_apart.0 (subst (λ (z : ℕ). IsHost behind_it z) is j)) in
          let q = still k (inr j) in
          omega (arith, q, t)

module _ (size : ℕ) (hs : List HostId) (i : ℕ) (xs : List (HostId × Part)) (start b : Builder) (past : length hs ≤ i) (s : SoFar size hs i xs start b) where
  none : drop i hs ≡ []
  none = drop_all i hs past

  pub zeros_end : (in_clear xs, b) ≡ called (each_made (zeros_at size) hs start.next) start
  zeros_end =
      sym (behind_end (in_clear xs) b)
      ∙ ap (λ (l : List HostId). behind (in_clear xs) (each_made (zeros_at size) l b.next) b) (sym none)
      ∙ s.exact

  pub zeros_hosts : hosts_of (in_clear xs) ≡ hs
  zeros_hosts = each_hosts (zeros_at size) hs (in_clear xs) start b zeros_end
