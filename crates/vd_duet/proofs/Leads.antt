-- Gadgets that write one register, gadgets one after the other, and registers that are taken.
use Rattle.std.proofs.Common.{◌≡◌, ◌≢◌, ℕ, ◌+◌, ◌<◌, ◌≤◌, List, [], ◌∷◌, ◌++◌, ◌⊎◌, inl, inr, length, slice_index, refl, sym, ap, subst, subst₂, ◌∙◌, arith, length-set, append_assoc}
use Rattle.std.proofs.lemmas.List.{get_or-set_same, get_or-set_other}
use native.Mathlib.Decide.{ℕ_discrete}
use Rattle.vd_base.specs.declared.ids.HostId.{HostId}
use Rattle.vd_execution.specs.declared.instructions.Act.{Act}
use Rattle.vd_execution.specs.declared.instructions.Line.{Line}
use Rattle.vd_execution.specs.declared.instructions.Line.TheVariants as line
use Rattle.vd_execution.specs.declared.instructions.Reg.{Reg}
use Rattle.vd_execution.specs.World.{Tape}
use Rattle.vd_execution.specs.Joint.{Hosts}
use Rattle.vd_execution.specs.Deals.{IsValidDeal}
use Rattle.vd_execution.specs.Acts.{lines_of, run_act, run_acts, ActsAgree}
use Rattle.vd_execution.specs.Gadgets.{Gadget, acts_of_gadget, acts_of_gadgets, GadgetsAreTidy, IsSound}
use Rattle.vd_execution.proofs.Front.{gadgets_sound}
use Rattle.vd_duet.specs.Builder.{taken}
use Rattle.vd_duet.specs.Calls.{Places, Made, emitted}
use Rattle.vd_duet.specs.Laws.{Leads, IsOrderly, IsIn, AreBelow, nowhere}
use Rattle.vd_duet.proofs.Writes.{Writes}

-- ---- lists of gadgets

pub run_append : (t : Tape) (xs ys : List Act) (w : Hosts) → run_acts t (xs ++ ys) w ≡ run_acts t ys (run_acts t xs w)
run_append t [] ys w = refl
run_append t (x ∷ xs) ys w = run_append t xs ys (run_act t x w)

pub agree_append : (t : Tape) (xs ys : List Act) (w : Hosts) → ActsAgree t xs w → ActsAgree t ys (run_acts t xs w) → ActsAgree t (xs ++ ys) w
agree_append t [] ys w a b = b
agree_append t (x ∷ xs) ys w a b = (a.0, agree_append t xs ys (run_act t x w) a.1 b)

pub gadgets_append : (xs ys : List Gadget) → acts_of_gadgets (xs ++ ys) ≡ acts_of_gadgets xs ++ acts_of_gadgets ys
gadgets_append [] ys = refl
gadgets_append (x ∷ xs) ys = ap (λ (l : List Act). acts_of_gadget x ++ l) (gadgets_append xs ys) ∙ sym (append_assoc (acts_of_gadget x) (acts_of_gadgets xs) (acts_of_gadgets ys))

lines_append : (xs ys : List Act) → lines_of (xs ++ ys) ≡ lines_of xs ++ lines_of ys
lines_append [] ys = refl
lines_append (x ∷ xs) ys = ap (λ (l : List Line). line.Act x ∷ l) (lines_append xs ys)

pub emitted_append : (xs ys : List Gadget) → emitted (xs ++ ys) ≡ emitted xs ++ emitted ys
emitted_append xs ys = ap lines_of (gadgets_append xs ys) ∙ lines_append (acts_of_gadgets xs) (acts_of_gadgets ys)

pub tidy_append : (xs ys : List Gadget) → GadgetsAreTidy xs → GadgetsAreTidy ys → GadgetsAreTidy (xs ++ ys)
tidy_append [] ys a b = b
tidy_append (x ∷ xs) ys a b = (a.0, tidy_append xs ys a.1 b)

-- ---- where gadgets lead

pub leads_nothing : (t : Tape) (next : List ℕ) (changed : ℕ → ℕ → Type 0) (w : Hosts) → IsSound w → Leads t next changed [] w w
leads_nothing t next changed w sound =
    record { runs = refl; agrees = tt; sound = sound; kept = λ h r a b. refl; printed = λ h. refl; inputs = λ h. refl }

-- gadgets that write one register, which is fresh or may change
pub leads_writing : (t : Tape) → IsValidDeal t → (next : List ℕ) (changed : ℕ → ℕ → Type 0) (gadgets : List Gadget) (h r v : ℕ) (w w' : Hosts)
    → run_acts t (acts_of_gadgets gadgets) w ≡ w' → ActsAgree t (acts_of_gadgets gadgets) w → GadgetsAreTidy gadgets → IsSound w → Writes h r v w w'
    → (slice_index next h ≤ r) ⊎ changed h r → Leads t next changed gadgets w w'
leads_writing t deal next changed gadgets h r v w w' runs agrees tidy sound c new = record {
  runs = runs;
  agrees = agrees;
  sound = subst IsSound runs (gadgets_sound t deal gadgets tidy w sound);
  kept = λ k q below not. c.elsewhere k q (λ e f. clash k q below not e f new);
  printed = c.printed;
  inputs = c.inputs;
}
  where
    clash : (k q : ℕ) → q < slice_index next k → (changed k q → ⊥) → k ≡ h → q ≡ r → (slice_index next h ≤ r) ⊎ changed h r → ⊥
    clash k q below not e f (inl fresh) =
        let low : r < slice_index next h = subst₂ (λ a b. b < slice_index next a) e f below in omega (arith, low, fresh)
    clash k q below not e f (inr is) = not (subst₂ changed (sym e) (sym f) is)

-- gadgets, and then gadgets that change what is fresh after them
pub leads_on : (t : Tape) (next next' : List ℕ) (changed : ℕ → ℕ → Type 0) (xs ys : List Gadget) (w u v : Hosts)
    → ((h : ℕ) → slice_index next h ≤ slice_index next' h)
    → Leads t next changed xs w u → Leads t next' changed ys u v → Leads t next changed (xs ++ ys) w v
leads_on t next next' changed xs ys w u v longer a b = record {
  runs = ap (λ (l : List Act). run_acts t l w) (gadgets_append xs ys) ∙ run_append t (acts_of_gadgets xs) (acts_of_gadgets ys) w
      ∙ ap (run_acts t (acts_of_gadgets ys)) a.runs ∙ b.runs;
  agrees = subst (λ (l : List Act). ActsAgree t l w) (sym (gadgets_append xs ys))
      (agree_append t (acts_of_gadgets xs) (acts_of_gadgets ys) w a.agrees
      (subst (λ (z : Hosts). ActsAgree t (acts_of_gadgets ys) z) (sym a.runs) b.agrees));
  sound = b.sound;
  kept = λ h r below not. b.kept h r (let l = longer h in omega (arith, below, l)) not ∙ a.kept h r below not;
  printed = λ h. b.printed h ∙ a.printed h;
  inputs = λ h. b.inputs h ∙ a.inputs h;
}

-- ---- registers that are taken

pub taken_known : (h : HostId) (n : ℕ) (next : List ℕ) → length (taken h n next) ≡ length next
taken_known h n next = length-set next h.0 (slice_index next h.0 + n)

pub taken_there : (h : HostId) (n : ℕ) (next : List ℕ) → h.0 < length next → slice_index (taken h n next) h.0 ≡ slice_index next h.0 + n
taken_there h n next known = get_or-set_same next h.0 (slice_index next h.0 + n) 0 known

pub taken_other : (h : HostId) (n : ℕ) (next : List ℕ) (k : ℕ) → k ≢ h.0 → slice_index (taken h n next) k ≡ slice_index next k
taken_other h n next k d = get_or-set_other next h.0 k (slice_index next h.0 + n) 0 d

pub taken_bounds : (h : HostId) (n : ℕ) (next : List ℕ) → h.0 < length next → (k : ℕ)
    → (slice_index next k ≤ slice_index (taken h n next) k) × (slice_index (taken h n next) k ≤ slice_index next k + n)
taken_bounds h n next known k =
    elim (ℕ_discrete k h.0) [
      | yes e ↦ let P : ℕ → Type 0 = λ z. (slice_index next z ≤ slice_index (taken h n next) z) × (slice_index (taken h n next) z ≤ slice_index next z + n) in
          let q = taken_there h n next known in subst P (sym e) (omega (arith, q), omega (arith, q))
      | no d ↦ let q = taken_other h n next k d in (omega (arith, q), omega (arith, q))
    ]

-- ---- what is orderly

-- nothing is made
pub orderly_still : (count : ℕ) (next : List ℕ) (source : ℕ → ℕ → Type 0) (given : Places) → AreBelow next given → ((h r : ℕ) → IsIn given h r → source h r)
    → IsOrderly count next source (record { given = given; gadgets = []; next = next })
orderly_still count next source given below from =
    record { tidy = tt; few = (refl, λ h. omega arith); longer = λ h. omega arith; below = below; from = λ h r i. inr (from h r i) }

-- a call that takes registers of one host and gives one of them
pub orderly_fresh : (h : HostId) (n count : ℕ) (next : List ℕ) (source : ℕ → ℕ → Type 0) (gadgets : List Gadget) (r : Reg) → h.0 < length next → n ≤ count
    → GadgetsAreTidy gadgets → slice_index next h.0 ≤ r.0 → r.0 < slice_index next h.0 + n
    → IsOrderly count next source (record { given = (h, r) ∷ []; gadgets = gadgets; next = taken h n next })
orderly_fresh h n count next source gadgets r known few tidy low high = record {
  tidy = tidy;
  few = (taken_known h n next, λ k. let b = (taken_bounds h n next known k).1 in omega (arith, b, few));
  longer = λ k. (taken_bounds h n next known k).0;
  below = (let q = taken_there h n next known in omega (arith, q, high), tt);
  from = λ k q i. from k q i;
}
  where
    from : (k q : ℕ) → IsIn ((h, r) ∷ []) k q → (slice_index next k ≤ q) ⊎ source k q
    from k q (inl i) = inl (subst₂ (λ a b. slice_index next a ≤ b) (sym i.0) (sym i.1) low)
    from k q (inr i) = absurd i

-- the same with a greater bound, and more sources
pub orderly_wider : (count count' : ℕ) (next : List ℕ) (source source' : ℕ → ℕ → Type 0) (made : Made Places) → count ≤ count' → ((h r : ℕ) → source h r → source' h r)
    → IsOrderly count next source made → IsOrderly count' next source' made
orderly_wider count count' next source source' made more wider o = record {
  tidy = o.tidy;
  few = (o.few.0, λ h. let b = o.few.1 h in omega (arith, b, more));
  longer = o.longer;
  below = o.below;
  from = λ h r i. elim (o.from h r i) [ inl a ↦ inl a | inr s ↦ inr (wider h r s) ];
}

-- ---- one call after the other

pub below_later : (next next' : List ℕ) (x : Places) → ((h : ℕ) → slice_index next h ≤ slice_index next' h) → AreBelow next x → AreBelow next' x
below_later next next' [] longer b = tt
below_later next next' (q ∷ x) longer b = (let l = longer q.0.0 in let low = b.0 in omega (arith, l, low), below_later next next' x longer b.1)

below_append : (next : List ℕ) (x y : Places) → AreBelow next x → AreBelow next y → AreBelow next (x ++ y)
below_append next [] y a b = b
below_append next (q ∷ x) y a b = (a.0, below_append next x y a.1 b)

in_either : (x y : Places) (h r : ℕ) → IsIn (x ++ y) h r → IsIn x h r ⊎ IsIn y h r
in_either [] y h r i = inr i
in_either (q ∷ x) y h r (inl i) = inl (inl i)
in_either (q ∷ x) y h r (inr i) =
    elim (in_either x y h r i) [
      | inl a ↦ inl (inr a)
      | inr b ↦ inr b
    ]

pub orderly_on : (count count' : ℕ) (next : List ℕ) (source : ℕ → ℕ → Type 0) (one more : Made Places)
    → IsOrderly count next source one → IsOrderly count' one.next source more
    → IsOrderly (count + count') next source (record { given = one.given ++ more.given; gadgets = one.gadgets ++ more.gadgets; next = more.next })
orderly_on count count' next source one more a b = record {
  tidy = tidy_append one.gadgets more.gadgets a.tidy b.tidy;
  few = (b.few.0 ∙ a.few.0, λ h. let p = a.few.1 h in let q = b.few.1 h in omega (arith, p, q));
  longer = λ h. let p = a.longer h in let q = b.longer h in omega (arith, p, q);
  below = below_append more.next one.given more.given (below_later one.next more.next one.given b.longer a.below) b.below;
  from = λ h r i. from h r (in_either one.given more.given h r i);
}
  where
    later : (h r : ℕ) → (slice_index one.next h ≤ r) ⊎ source h r → (slice_index next h ≤ r) ⊎ source h r
    later h r (inl low) = inl (let l = a.longer h in omega (arith, l, low))
    later h r (inr s) = inr s

    from : (h r : ℕ) → IsIn one.given h r ⊎ IsIn more.given h r → (slice_index next h ≤ r) ⊎ source h r
    from h r (inl i) = a.from h r i
    from h r (inr i) = later h r (b.from h r i)

-- what has gone on since a state: it stays sound, and the registers that were taken then are kept
pub record Since (next : List ℕ) (w : Hosts) (next' : List ℕ) (u : Hosts) : Type 0 where
  pub sound : IsSound u
  pub known : length next' ≡ length next
  pub longer : (h : ℕ) → slice_index next h ≤ slice_index next' h
  pub kept : (h r : ℕ) → r < slice_index next h → (u h).registers r ≡ (w h).registers r

pub since_start : (next : List ℕ) (w : Hosts) → IsSound w → Since next w next w
since_start next w sound = record { sound = sound; known = refl; longer = λ h. omega arith; kept = λ h r low. refl }

pub since_on : (t : Tape) (count : ℕ) (next0 next : List ℕ) (source : ℕ → ℕ → Type 0) (made : Made Places) (w u u' : Hosts)
    → Since next0 w next u → IsOrderly count next source made → Leads t next nowhere made.gadgets u u' → Since next0 w made.next u'
since_on t count next0 next source made w u u' s o l = record {
  sound = l.sound;
  known = o.few.0 ∙ s.known;
  longer = λ h. let p = s.longer h in let q = o.longer h in omega (arith, p, q);
  kept = λ h r low. l.kept h r (let p = s.longer h in omega (arith, p, low)) (λ x. x) ∙ s.kept h r low;
}
