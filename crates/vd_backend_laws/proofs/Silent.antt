-- Which gadgets of calls tell words openly.
use Rattle.std.proofs.Common.{◌≡◌, ℕ, nat_eq, Bool, true, false, if◌then◌else◌, List, [], ◌∷◌, ◌++◌, map, refl, sym, ap, ap₂, ◌∙◌, append_assoc, append-nil}
use Rattle.vd_base.specs.declared.ids.HostId.{HostId}
use Rattle.vd_base.specs.declared.operations.Op.{Op}
use Rattle.vd_base.specs.declared.operations.Op.TheVariants as op
use Rattle.vd_execution.specs.declared.instructions.Reg.{Reg}
use Rattle.vd_base.specs.declared.protocols.Proto.TheVariants.{Rep}
use Rattle.vd_base.specs.Holders.{holders, is_among}
use Rattle.vd_execution.specs.declared.instructions.Action.TheVariants as action
use Rattle.vd_execution.specs.Gadgets.{Sharing, BySums, ByXors, Gadget, Alone, Tells}
use Rattle.vd_duet.specs.Builder.{next_at, taken}
use Rattle.vd_duet.specs.Calls.{Places, hosts_of, Made}
use Rattle.vd_clear.specs.Copies.{literal_at, passed, adopted, kept_by, first_of, after_first, operated, applied_at, told, compared, first_register, shown, each_made, renewed}
use Rattle.vd_backend_sharing.specs.Gates.{Gate, And, Xor, Shl, Shr, Not, Flip, Lowest, Mask, gates_of}
use Rattle.vd_backend_sharing.specs.declared.shares.PartRegisters.{PartRegisters}
use Rattle.vd_backend_sharing.specs.PairCalls.{split_off, exchanged, shared_from, opened_by, shown_at, product_shares, shares_of, places_at, pair_calls}
use Rattle.vd_words.specs.AddCalls.{add_serves, add_apply}
use Rattle.vd_bits.specs.BitCalls.{gate_shares, gates_shares, circuit_shares, computed}
use Rattle.vd_convert.specs.Convert.{masked_parts, drawn, finished}
use Rattle.vd_backend_laws.specs.Openings.{Opening, openings, all_openings, to_each, TellsWhatIsShown}
use Rattle.vd_backend_laws.specs.BackendOpeningsLaw.{ClearCallsTell, ConversionsTellTheRest, CommitmentsTell}

told_append : (gs hs : List Gadget) → all_openings (gs ++ hs) ≡ all_openings gs ++ all_openings hs
told_append [] hs = refl
told_append (g ∷ gs) hs = ap (λ l. openings g ++ l) (told_append gs hs) ∙ sym (append_assoc (openings g) (all_openings gs) (all_openings hs))

product_silent : (s : Sharing) (a b : HostId) (x y : PartRegisters) (next : List ℕ) → all_openings (product_shares s a b x y next).gadgets ≡ []
unfolding product_shares
product_silent s a b x y next = refl

gate_silent : (a b : HostId) (g : Gate) (words : List PartRegisters) (next : List ℕ) → all_openings (gate_shares a b g words next).gadgets ≡ []
gate_silent a b (And x y) words next = product_silent ByXors a b _ _ next
gate_silent a b (Xor x y) words next = refl
gate_silent a b (Shl k x) words next = refl
gate_silent a b (Shr k x) words next = refl
gate_silent a b (Not x) words next = refl
gate_silent a b (Flip x) words next = refl
gate_silent a b (Lowest x) words next = refl
gate_silent a b (Mask x) words next = refl

gates_silent : (a b : HostId) (gates : List Gate) (words : List PartRegisters) (next : List ℕ) → all_openings (gates_shares a b gates words next).gadgets ≡ []
gates_silent a b [] words next = refl
gates_silent a b (g ∷ gates) words next =
    let one : Made PartRegisters = gate_shares a b g words next in
    told_append one.gadgets (gates_shares a b gates (words ++ one.given ∷ []) one.next).gadgets
    ∙ ap₂ (λ (l m : List Opening). l ++ m) (gate_silent a b g words next) (gates_silent a b gates (words ++ one.given ∷ []) one.next)

share_silent : (s : Sharing) (a b from : HostId) (x : Reg) (next : List ℕ) → all_openings (shared_from s a b from x next).gadgets ≡ []
share_silent s a b from x next = at (nat_eq from.0 a.0)
  where
    at : (same : Bool) → let made : Made PartRegisters = if same then split_off s a b x next else exchanged (split_off s b a x next) in all_openings made.gadgets ≡ []
    at true = refl
    at false = refl

shown_tells : (s : Sharing) (a b : HostId) (x : PartRegisters) (to : HostId) (next : List ℕ)
    → all_openings (shown_at s a b x to next).gadgets ≡ (if nat_eq to.0 a.0 then (b, (x.second, a)) ∷ [] else (a, (x.first, b)) ∷ [])
shown_tells s a b x to next = at (nat_eq to.0 a.0)
  where
    at : (same : Bool) → let made : Made Reg = if same then opened_by s b x.second a x.first next else opened_by s a x.first b x.second next in
        all_openings made.gadgets ≡ (if same then (b, (x.second, a)) ∷ [] else (a, (x.first, b)) ∷ [])
    at true = refl
    at false = refl

pair_tells : (s : Sharing) (a b : HostId) (serves : Op → Bool) (apply : Op → List Places → List ℕ → Made PartRegisters)
    → ((o : Op) (xs : List Places) (next : List ℕ) → all_openings (apply o xs next).gadgets ≡ []) → TellsWhatIsShown a b (pair_calls s a b serves apply)
pair_tells s a b serves apply silent = record {
  literal = λ v next. refl;
  share = λ from x next. share_silent s a b from x next;
  adopt = λ x next. refl;
  keep = λ x next. refl;
  renew = λ kept x. refl;
  apply = λ o can xs next. silent o xs next;
  show = λ x to next. shown_tells s a b (shares_of x) to next;
  show_all = λ x next. refl;
}

add_silent : (a b : HostId) (o : Op) (xs : List Places) (next : List ℕ) → all_openings (add_apply a b o xs next).gadgets ≡ []
add_silent a b op.Add xs next = refl
add_silent a b op.Sub xs next = refl
add_silent a b op.Mul xs next = product_silent BySums a b _ _ next
add_silent a b (op.Scale k) xs next = refl
add_silent a b op.Div xs next = refl
add_silent a b op.Rem xs next = refl
add_silent a b op.And xs next = refl
add_silent a b op.Or xs next = refl
add_silent a b op.Xor xs next = refl
add_silent a b op.Not xs next = refl
add_silent a b op.Flip xs next = refl
add_silent a b (op.Shl k) xs next = refl
add_silent a b (op.Shr k) xs next = refl
add_silent a b op.Eq xs next = refl
add_silent a b op.Ne xs next = refl
add_silent a b op.Lt xs next = refl
add_silent a b op.Le xs next = refl
add_silent a b op.Min xs next = refl
add_silent a b op.Max xs next = refl
add_silent a b op.Mux xs next = refl

pub sums_tell : (a b : HostId) → TellsWhatIsShown a b (pair_calls BySums a b add_serves (add_apply a b))
sums_tell a b = pair_tells BySums a b add_serves (add_apply a b) (add_silent a b)

pub circuits_tell : (a b : HostId) (serves : Op → Bool) → TellsWhatIsShown a b (pair_calls ByXors a b serves (circuit_shares a b))
circuits_tell a b serves = pair_tells ByXors a b serves (circuit_shares a b) (λ o xs next. gates_silent a b (gates_of o) (map shares_of xs) next)

pub conversions_tell : ConversionsTellTheRest
conversions_tell = record {
  to_bits = λ a b x next.
      let words = masked_parts a b (shares_of x) next in
      let xs : List Places = places_at a b words.given.0 ∷ places_at a b words.given.1 ∷ [] in
      told_append words.gadgets (computed a b op.Add xs words.next).gadgets ∙ gates_silent a b (gates_of op.Add) (map shares_of xs) words.next;
  to_sums = λ a b x next.
      let pair = drawn a b (shares_of x) next in
      let rest : Made Places = computed a b op.Sub (x ∷ places_at a b pair.given.1 ∷ []) pair.next in
      let end : Made PartRegisters = finished a b (shares_of rest.given) pair.given.0 rest.next in
      told_append rest.gadgets end.gadgets
      ∙ ap (λ (l : List Opening). l ++ all_openings end.gadgets) (gates_silent a b (gates_of op.Sub) (map shares_of (x ∷ places_at a b pair.given.1 ∷ [])) pair.next);
}

pub commitments_tell : CommitmentsTell
commitments_tell = record {
  commit = λ p v x next. refl;
  reveal = λ p v held seen next. refl;
}

-- ---- copies

each_tells : (f : HostId → List ℕ → Made Reg) (os : HostId → List Opening) → ((h : HostId) (next : List ℕ) → all_openings (f h next).gadgets ≡ os h)
    → (hs : List HostId) (next : List ℕ) → all_openings (each_made f hs next).gadgets ≡ to_each os hs
each_tells f os one [] next = refl
each_tells f os one (h ∷ hs) next =
    told_append (f h next).gadgets (each_made f hs (f h next).next).gadgets ∙ ap₂ (λ (l m : List Opening). l ++ m) (one h next) (each_tells f os one hs (f h next).next)

nothing : (hs : List HostId) → to_each (λ h. []) hs ≡ []
nothing [] = refl
nothing (h ∷ hs) = nothing hs

each_silent : (f : HostId → List ℕ → Made Reg) → ((h : HostId) (next : List ℕ) → all_openings (f h next).gadgets ≡ []) → (hs : List HostId) (next : List ℕ)
    → all_openings (each_made f hs next).gadgets ≡ []
each_silent f one hs next = each_tells f (λ h. []) one hs next ∙ nothing hs

passed_tells : (from : HostId) (x : Reg) (k : HostId) (next : List ℕ) → all_openings (passed from x k next).gadgets ≡ (if nat_eq from.0 k.0 then [] else (from, (x, k)) ∷ [])
passed_tells from x k next = at (nat_eq from.0 k.0)
  where
    at : (same : Bool) → let made : Made Reg = if same then record { given = x; gadgets = []; next = next }
        else record { given = next_at next k; gadgets = Tells from (x ∷ []) k (next_at next k ∷ []) ∷ []; next = taken k 1 next } in
        all_openings made.gadgets ≡ (if same then [] else (from, (x, k)) ∷ [])
    at true = refl
    at false = refl

told_tells : (x : Places) (to : HostId) (next : List ℕ) → all_openings (told x to next).gadgets ≡ map (λ q. let o : Opening = (q.0, (q.1, to)) in o) x
told_tells [] to next = refl
told_tells (q ∷ x) to next = ap (λ (l : List Opening). (q.0, (q.1, to)) ∷ l) (told_tells x to (taken to 1 next))

others_silent : (to : HostId) (r : Reg) (rs : List Reg) → all_openings (map (λ s. Alone to (action.Same r s)) rs) ≡ []
others_silent to r [] = refl
others_silent to r (s ∷ rs) = others_silent to r rs

compared_silent : (to : HostId) (rs : List Reg) → all_openings (compared to rs) ≡ []
compared_silent to [] = refl
compared_silent to (r ∷ rs) = others_silent to r rs

one_shown : (x : Places) (to : HostId) (next : List ℕ) → all_openings (shown x to next).gadgets ≡ (if is_among (hosts_of x) to.0 then [] else map (λ q. let o : Opening = (q.0, (q.1, to)) in o) x)
one_shown x to next = at (is_among (hosts_of x) to.0)
  where
    at : (has : Bool) → let made : Made Reg = if has then adopted x to next else record {
      given = first_register (told x to next).given;
      gadgets = (told x to next).gadgets ++ compared to (told x to next).given;
      next = (told x to next).next;
    } in all_openings made.gadgets ≡ (if has then [] else map (λ q. let o : Opening = (q.0, (q.1, to)) in o) x)
    at true = refl
    at false =
        told_append (told x to next).gadgets (compared to (told x to next).given)
        ∙ ap₂ (λ (l m : List Opening). l ++ m) (told_tells x to next) (compared_silent to (told x to next).given) ∙ append-nil (map (λ q. let o : Opening = (q.0, (q.1, to)) in o) x)

applied_silent : (o : Op) (x y z : Reg) (h : HostId) (next : List ℕ) → all_openings (operated o x y z h next).gadgets ≡ []
applied_silent op.Add x y z h next = refl
applied_silent op.Sub x y z h next = refl
applied_silent op.Mul x y z h next = refl
applied_silent (op.Scale k) x y z h next = refl
applied_silent op.Div x y z h next = refl
applied_silent op.Rem x y z h next = refl
applied_silent op.And x y z h next = refl
applied_silent op.Or x y z h next = refl
applied_silent op.Xor x y z h next = refl
applied_silent op.Not x y z h next = refl
applied_silent op.Flip x y z h next = refl
applied_silent (op.Shl k) x y z h next = refl
applied_silent (op.Shr k) x y z h next = refl
applied_silent op.Eq x y z h next = refl
applied_silent op.Ne x y z h next = refl
applied_silent op.Lt x y z h next = refl
applied_silent op.Le x y z h next = refl
applied_silent op.Min x y z h next = refl
applied_silent op.Max x y z h next = refl
applied_silent op.Mux x y z h next = refl

renewed_silent : (kept x : Places) → all_openings (renewed kept x) ≡ []
renewed_silent [] x = refl
renewed_silent (q ∷ kept) x = renewed_silent kept x

pub clear_tells : ClearCallsTell
clear_tells = record {
  calls = λ p. record {
    literal = λ v next. each_silent (literal_at v) (λ h n. refl) (holders p) next;
    share = λ from x next. each_tells (passed from x) (λ k. if nat_eq from.0 k.0 then [] else (from, (x, k)) ∷ []) (passed_tells from x) (holders p) next;
    adopt = λ x next. each_silent (adopted x) (λ h n. refl) (holders p) next;
    keep = λ x next. each_silent (kept_by x) (λ h n. refl) (holders p) next;
    renew = λ kept x. renewed_silent kept x;
    apply = λ o xs next. each_silent (applied_at o xs)
        (λ h n. applied_silent o (first_of xs h) (first_of (after_first xs) h) (first_of (after_first (after_first xs)) h) h n) (holders p) next;
    show = λ x to next. one_shown x to next ∙ sym (append-nil _);
    show_all = λ x next. refl;
  };
  spread = λ set x next.
      each_tells (shown x) (λ k. if is_among (hosts_of x) k.0 then [] else map (λ q. let o : Opening = (q.0, (q.1, k)) in o) x) (one_shown x) (holders (Rep set)) next;
}
