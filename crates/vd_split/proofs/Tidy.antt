-- The hosts that have an instruction of a block take part in it.
use Rattle.std.proofs.Common.{◌≡◌, ℕ, zero, suc, ◌+◌, nat_eq, Bool, true, false, ◌||◌, if◌then◌else◌, List, [], ◌∷◌, ◌⊎◌, inl, inr, refl, sym, ap, ◌∙◌}
use Rattle.std.proofs.lemmas.Bool.{eqb-true}
use Rattle.std.specs.List.{list_any}
use Rattle.vd_base.specs.declared.ids.HostId.{HostId}
use Rattle.vd_base.specs.declared.ids.SlotId.{SlotId}
use Rattle.vd_base.specs.declared.protocols.Proto.{Proto}
use Rattle.vd_base.specs.declared.protocols.Proto.TheVariants.{Local}
use Rattle.vd_base.specs.HostSets.{host}
use Rattle.vd_base.specs.Holders.{is_holder}
use Rattle.vd_core.specs.declared.normal.Right.{Right}
use Rattle.vd_core.specs.declared.normal.Right.TheVariants.{Lit, Turn, Copy, Apply, Input, Declassify, Endorse, Load, Get}
use Rattle.vd_split.specs.Block.{Block, End, Let, NewVar, NewArray, Store, Put, Output, If as IfB, For as ForB}
use Rattle.vd_split.specs.Joint.{Hosts}
use Rattle.vd_split.specs.Suite.{picked, Suite, holders_among}
use Rattle.vd_split.specs.Emission.{Emission, delivered_at, right_acts_at, right_takes_part}
use Rattle.vd_split.specs.Validity.{emission_of, RightPlaced, Placed}
use Rattle.vd_split.specs.ChoreographyPlaces.{Places}
use Rattle.vd_split.proofs.Lists.{or_left, or_right, or_cases}

pub or_both : (a b c : Bool) → (a ≡ true → c ≡ true) → (b ≡ true → c ≡ true) → (a || b) ≡ true → c ≡ true
or_both a b c f g e = at (or_cases a b e)
  where
    at : (a ≡ true) ⊎ (b ≡ true) → c ≡ true
    at (inl i) = f i
    at (inr i) = g i

module _ (m : Hosts) (s : Suite m) (proto : ℕ → Proto) (laws : Places m s) where
  abbrev n : ℕ
  n = s.calls.hosts

  -- a test that some picked host passes
  any_picked : (f : HostId → Bool) (test : ℕ → Bool) (from k : ℕ) → list_any f (picked from k test) ≡ true → (h : ℕ) × (test h ≡ true) × (f (host h) ≡ true)
  any_picked f test from zero e = absurd (wrong e)
    where
      wrong : false ≡ true → ⊥
      wrong e = cc
  any_picked f test from (suc k) e = at (any_picked f test (from + 1) k) (test from) refl e
    where
      first : test from ≡ true → ((list_any f (picked (from + 1) k test) ≡ true) → (h : ℕ) × (test h ≡ true) × (f (host h) ≡ true)) → (f (host from) ≡ true) ⊎ (list_any f (picked (from + 1) k test) ≡ true) → (h : ℕ) × (test h ≡ true) × (f (host h) ≡ true)
      first t ih (inl i) = (from, t, i)
      first t ih (inr i) = ih i

      at : ((list_any f (picked (from + 1) k test) ≡ true) → (h : ℕ) × (test h ≡ true) × (f (host h) ≡ true)) → (b : Bool) → test from ≡ b
          → list_any f (if b then host from ∷ picked (from + 1) k test else picked (from + 1) k test) ≡ true → (h : ℕ) × (test h ≡ true) × (f (host h) ≡ true)
      at ih true t e = first t ih (or_cases (f (host from)) (list_any f (picked (from + 1) k test)) e)
      at ih false t e = ih e

  -- where a word is moved to hosts that pass a test, a host that acts is at the word's protocol or passes
  told_inside : (p : Proto) (test : ℕ → Bool) (h : ℕ) → delivered_at s.calls proto p (picked 0 n test) h ≡ true → (is_holder p (host h) ≡ true) ⊎ (test h ≡ true)
  told_inside p test h e =
      let q = any_picked (λ k. s.calls.moves_at p (Local k) h) test 0 n e in
      split q.0 q.1 (or_cases (is_holder p (host h)) (is_holder (Local (host q.0)) (host h)) (laws.moves_inside p (Local (host q.0)) h q.2))
    where
      split : (k : ℕ) → test k ≡ true → (is_holder p (host h) ≡ true) ⊎ (nat_eq k h ≡ true) → (is_holder p (host h) ≡ true) ⊎ (test h ≡ true)
      split k t (inl i) = inl i
      split k t (inr i) = inr (ap test (sym (eqb-true k h i)) ∙ t)

  operands_inside : (q : Proto) (xs : List SlotId) (h : ℕ) → list_any (λ y. s.calls.moves_at (proto y.0) q h) xs ≡ true → (is_holder q (host h) ≡ true) ⊎ (list_any (λ y. is_holder (proto y.0) (host h)) xs ≡ true)
  operands_inside q [] h e = inr e
  operands_inside q (x ∷ xs) h e = split (operands_inside q xs h) (or_cases (s.calls.moves_at (proto x.0) q h) (list_any (λ y. s.calls.moves_at (proto y.0) q h) xs) e)
    where
      here : (is_holder (proto x.0) (host h) ≡ true) ⊎ (is_holder q (host h) ≡ true) → (is_holder q (host h) ≡ true) ⊎ ((is_holder (proto x.0) (host h) || list_any (λ y. is_holder (proto y.0) (host h)) xs) ≡ true)
      here (inl i) = inr (or_left (is_holder (proto x.0) (host h)) (list_any (λ y. is_holder (proto y.0) (host h)) xs) i)
      here (inr i) = inl i

      later : (is_holder q (host h) ≡ true) ⊎ (list_any (λ y. is_holder (proto y.0) (host h)) xs ≡ true) → (is_holder q (host h) ≡ true) ⊎ ((is_holder (proto x.0) (host h) || list_any (λ y. is_holder (proto y.0) (host h)) xs) ≡ true)
      later (inl i) = inl i
      later (inr i) = inr (or_right (is_holder (proto x.0) (host h)) (list_any (λ y. is_holder (proto y.0) (host h)) xs) i)

      split : (list_any (λ y. s.calls.moves_at (proto y.0) q h) xs ≡ true → (is_holder q (host h) ≡ true) ⊎ (list_any (λ y. is_holder (proto y.0) (host h)) xs ≡ true)) → (s.calls.moves_at (proto x.0) q h ≡ true) ⊎ (list_any (λ y. s.calls.moves_at (proto y.0) q h) xs ≡ true)
          → (is_holder q (host h) ≡ true) ⊎ ((is_holder (proto x.0) (host h) || list_any (λ y. is_holder (proto y.0) (host h)) xs) ≡ true)
      split ih (inl i) = here (or_cases (is_holder (proto x.0) (host h)) (is_holder q (host h)) (laws.moves_inside (proto x.0) q h i))
      split ih (inr i) = later (ih i)

  or_map : (a b c d : Bool) → (a ≡ true → c ≡ true) → (b ≡ true → d ≡ true) → (a || b) ≡ true → (c || d) ≡ true
  or_map a b c d f g e = at (or_cases a b e)
    where
      at : (a ≡ true) ⊎ (b ≡ true) → (c || d) ≡ true
      at (inl i) = or_left c d (f i)
      at (inr i) = or_right c d (g i)

  either : (a b c : Bool) → (a ≡ true) ⊎ (b ≡ true) → (a ≡ true → c ≡ true) → (b ≡ true → c ≡ true) → c ≡ true
  either a b c (inl i) f g = f i
  either a b c (inr i) f g = g i

  abbrev here : ℕ → ℕ → Bool
  here x h = is_holder (proto x) (host h)

  abbrev takes_right : Right → ℕ → Bool
  takes_right r h = right_takes_part s.calls proto r h

  moved_in : (p q : Proto) (h : ℕ) → s.calls.moves_at p q h ≡ true → (is_holder q (host h) || is_holder p (host h)) ≡ true
  moved_in p q h e =
      or_both (is_holder p (host h)) (is_holder q (host h)) (is_holder q (host h) || is_holder p (host h)) (or_right (is_holder q (host h)) (is_holder p (host h))) (or_left (is_holder q (host h)) (is_holder p (host h))) (laws.moves_inside p q h e)

  right_inside : (q : Proto) (right : Right) (h : ℕ) → RightPlaced m s proto q right → right_acts_at s.calls proto q right h ≡ true → (is_holder q (host h) || takes_right right h) ≡ true
  right_inside q (Lit v) h placed e = or_left (is_holder q (host h)) false e
  right_inside q Turn h placed e = or_left (is_holder q (host h)) false e
  right_inside q (Copy y) h placed e = moved_in (proto y.0) q h e
  right_inside q (Apply o ys) h placed e =
      or_both (list_any (λ y. s.calls.moves_at (proto y.0) q h) ys) (s.calls.applies_at o q h) (is_holder q (host h) || takes_right (Apply o ys) h)
      (λ i. either (is_holder q (host h)) (takes_right (Apply o ys) h) (is_holder q (host h) || takes_right (Apply o ys) h) (operands_inside q ys h i) (or_left (is_holder q (host h)) (takes_right (Apply o ys) h)) (or_right (is_holder q (host h)) (takes_right (Apply o ys) h)))
      (λ i. or_left (is_holder q (host h)) (takes_right (Apply o ys) h) (laws.applies_inside o q h i)) e
  right_inside q (Input k) h placed e = or_left (is_holder q (host h)) false (laws.input_inside k q h placed e)
  right_inside q (Declassify y to) h placed e = moved_in (proto y.0) q h e
  right_inside q (Endorse y to) h placed e = moved_in (proto y.0) q h e
  right_inside q (Load v) h placed e =
      or_both (here v.0 h) (s.calls.moves_at (proto v.0) q h) (is_holder q (host h) || here v.0 h) (or_right (is_holder q (host h)) (here v.0 h)) (moved_in (proto v.0) q h) e
  right_inside q (Get v i) h placed e =
      or_both (delivered_at s.calls proto (proto i.0) (holders_among s.calls (proto v.0)) h || here v.0 h) (s.calls.moves_at (proto v.0) q h) (is_holder q (host h) || (here v.0 h || here i.0 h))
      (or_both (delivered_at s.calls proto (proto i.0) (holders_among s.calls (proto v.0)) h) (here v.0 h) (is_holder q (host h) || (here v.0 h || here i.0 h))
      (λ d. either (here i.0 h) (here v.0 h) (is_holder q (host h) || (here v.0 h || here i.0 h)) (told_inside (proto i.0) (λ k. here v.0 k) h d) index array) array)
      (λ d. or_both (is_holder q (host h)) (here v.0 h) (is_holder q (host h) || (here v.0 h || here i.0 h)) (or_left (is_holder q (host h)) (here v.0 h || here i.0 h)) array (moved_in (proto v.0) q h d)) e
    where
      array : here v.0 h ≡ true → (is_holder q (host h) || (here v.0 h || here i.0 h)) ≡ true
      array t = or_right (is_holder q (host h)) (here v.0 h || here i.0 h) (or_left (here v.0 h) (here i.0 h) t)

      index : here i.0 h ≡ true → (is_holder q (host h) || (here v.0 h || here i.0 h)) ≡ true
      index t = or_right (is_holder q (host h)) (here v.0 h || here i.0 h) (or_right (here v.0 h) (here i.0 h) t)

  abbrev emits : Block → Emission s.calls proto
  emits = emission_of m s proto

  stored_in : (x v h : ℕ) → (s.calls.moves_at (proto x) (proto v) h || here v h) ≡ true → (here v h || here x h) ≡ true
  stored_in x v h e = or_both (s.calls.moves_at (proto x) (proto v) h) (here v h) (here v h || here x h) (moved_in (proto x) (proto v) h) (or_left (here v h) (here x h)) e

  -- a host that has an instruction takes part
  pub acts_inside : (b : Block) (h : ℕ) → Placed m s proto b → (emits b).acts_at h ≡ true → (emits b).takes_part h ≡ true
  acts_inside End h p e = e
  acts_inside (Let x right rest) h p e = or_map _ _ _ _ (right_inside (proto x.0) right h p.0) (acts_inside rest h p.1) e
  acts_inside (NewVar v x rest) h p e = or_map _ _ _ _ (stored_in x.0 v.0 h) (acts_inside rest h p.2) e
  acts_inside (NewArray v cells rest) h p e = or_map _ _ _ _ (λ i. i) (acts_inside rest h p.1) e
  acts_inside (Store v x rest) h p e = or_map _ _ _ _ (stored_in x.0 v.0 h) (acts_inside rest h p.2) e
  acts_inside (Put v i x rest) h p e = or_map _ _ _ _ written (acts_inside rest h p.3) e
    where
      all : Bool
      all = here v.0 h || here i.0 h || here x.0 h

      array : here v.0 h ≡ true → (here v.0 h || here i.0 h || here x.0 h) ≡ true
      array t = or_left (here v.0 h || here i.0 h) (here x.0 h) (or_left (here v.0 h) (here i.0 h) t)

      index : here i.0 h ≡ true → (here v.0 h || here i.0 h || here x.0 h) ≡ true
      index t = or_left (here v.0 h || here i.0 h) (here x.0 h) (or_right (here v.0 h) (here i.0 h) t)

      word : here x.0 h ≡ true → (here v.0 h || here i.0 h || here x.0 h) ≡ true
      word t = or_right (here v.0 h || here i.0 h) (here x.0 h) t

      written : (delivered_at s.calls proto (proto i.0) (holders_among s.calls (proto v.0)) h || s.calls.moves_at (proto x.0) (proto v.0) h || here v.0 h) ≡ true → (here v.0 h || here i.0 h || here x.0 h) ≡ true
      written t =
          or_both (delivered_at s.calls proto (proto i.0) (holders_among s.calls (proto v.0)) h || s.calls.moves_at (proto x.0) (proto v.0) h) (here v.0 h) (here v.0 h || here i.0 h || here x.0 h)
          (or_both (delivered_at s.calls proto (proto i.0) (holders_among s.calls (proto v.0)) h) (s.calls.moves_at (proto x.0) (proto v.0) h) (here v.0 h || here i.0 h || here x.0 h)
          (λ d. either (here i.0 h) (here v.0 h) (here v.0 h || here i.0 h || here x.0 h) (told_inside (proto i.0) (λ k. here v.0 k) h d) index array)
          (λ d. or_both (here v.0 h) (here x.0 h) (here v.0 h || here i.0 h || here x.0 h) array word (moved_in (proto x.0) (proto v.0) h d))) array t
  acts_inside (Output x k offset rest) h p e = or_map _ _ _ _ told (acts_inside rest h p.1) e
    where
      told : (s.calls.moves_at (proto x.0) (Local k) h || nat_eq k.0 h) ≡ true → (nat_eq k.0 h || here x.0 h) ≡ true
      told t =
          or_both (s.calls.moves_at (proto x.0) (Local k) h) (nat_eq k.0 h) (nat_eq k.0 h || here x.0 h)
          (moved_in (proto x.0) (Local k) h) (or_left (nat_eq k.0 h) (here x.0 h)) t
  acts_inside (IfB x t f offset rest) h p e = or_map _ _ _ _ branched (acts_inside rest h p.3) e
    where
      takes : ℕ → Bool
      takes k = (emits t).takes_part k || (emits f).takes_part k

      branched : (delivered_at s.calls proto (proto x.0) (picked 0 n (λ k. (emits t).takes_part k || (emits f).takes_part k)) h || (emits t).takes_part h || (emits f).takes_part h) ≡ true
          → (here x.0 h || (emits t).takes_part h || (emits f).takes_part h) ≡ true
      branched d =
          or_both (delivered_at s.calls proto (proto x.0) (picked 0 n (λ k. (emits t).takes_part k || (emits f).takes_part k)) h || (emits t).takes_part h) ((emits f).takes_part h) (here x.0 h || (emits t).takes_part h || (emits f).takes_part h)
          (or_both (delivered_at s.calls proto (proto x.0) (picked 0 n (λ k. (emits t).takes_part k || (emits f).takes_part k)) h) ((emits t).takes_part h) (here x.0 h || (emits t).takes_part h || (emits f).takes_part h)
          (λ i. either (here x.0 h) ((emits t).takes_part h || (emits f).takes_part h) (here x.0 h || (emits t).takes_part h || (emits f).takes_part h) (told_inside (proto x.0) (λ k. (emits t).takes_part k || (emits f).takes_part k) h i)
          (λ j. or_left (here x.0 h || (emits t).takes_part h) ((emits f).takes_part h) (or_left (here x.0 h) ((emits t).takes_part h) j))
          (or_both ((emits t).takes_part h) ((emits f).takes_part h) (here x.0 h || (emits t).takes_part h || (emits f).takes_part h) first second)) first) second d
        where
          first : (emits t).takes_part h ≡ true → (here x.0 h || (emits t).takes_part h || (emits f).takes_part h) ≡ true
          first j = or_left (here x.0 h || (emits t).takes_part h) ((emits f).takes_part h) (or_right (here x.0 h) ((emits t).takes_part h) j)

          second : (emits f).takes_part h ≡ true → (here x.0 h || (emits t).takes_part h || (emits f).takes_part h) ≡ true
          second j = or_right (here x.0 h || (emits t).takes_part h) ((emits f).takes_part h) j
  acts_inside (ForB count body rest) h p e = or_map _ _ _ _ (acts_inside body h p.0) (acts_inside rest h p.1) e
