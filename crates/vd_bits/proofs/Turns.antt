-- Loops over gates and over operands.
use Rattle.std.proofs.Common.{◌≡◌, ℕ, ◌+◌, ◌*◌, ◌<◌, List, [], ◌∷◌, ◌++◌, length, drop, get_or, sym, ap, subst, ◌∙◌, arith, append_assoc}
use Rattle.std.proofs.lemmas.List.{drop_more}
use Rattle.vd_base.specs.declared.ids.HostId.{HostId}
use Rattle.vd_execution.specs.declared.instructions.Line.{Line}
use Rattle.vd_duet.specs.Builder.{Builder, TakesAtMost}
use Rattle.vd_duet.specs.Calls.{called, Made}
use Rattle.vd_backend_sharing.specs.Gates.{Gate}
use Rattle.vd_duet.proofs.Front.{emitted_append}
use Rattle.vd_backend_sharing.specs.declared.shares.PartRegisters.{PartRegisters}
use Rattle.vd_bits.specs.declared.gates.Gate.{Gate as Written}
use Rattle.vd_bits.specs.BitCalls.{gate_of, gates_in, gate_shares, gates_shares}

step_on : (a b : HostId) (g : Gate) (gates : List Gate) (words : List PartRegisters) (c : Builder) (goal : PartRegisters × Builder) (made : PartRegisters) (c' : Builder)
    → (made, c') ≡ called (gate_shares a b g words c.next) c → called (gates_shares a b (g ∷ gates) words c.next) c ≡ goal
    → called (gates_shares a b gates (words ++ made ∷ []) c'.next) c' ≡ goal
step_on a b g gates words c goal made c' is e =
    let one : Made PartRegisters = gate_shares a b g words c.next in
    let rest : Made PartRegisters = gates_shares a b gates (words ++ one.given ∷ []) one.next in
    subst (λ (z : PartRegisters × Builder). called (gates_shares a b gates (words ++ z.0 ∷ []) z.1.next) z.1 ≡ goal) (sym is)
    (ap (λ (l : List Line). let p : PartRegisters × Builder = (rest.given, record { lines = l; next = rest.next }) in p)
    (append_assoc c.lines _ _ ∙ ap (λ (l : List Line). c.lines ++ l) (sym (emitted_append one.gadgets rest.gadgets))) ∙ e)

-- what the loop over gates keeps
abbrev pub GatesSoFar : HostId → HostId → List Written → ℕ → List PartRegisters → List ℕ → Builder → PartRegisters × Builder → Type 0
GatesSoFar a b gates i words next c goal =
    (called (gates_shares a b (gates_in (drop i gates)) words c.next) c ≡ goal) × TakesAtMost (32 * i) next c.next

pub gates_turn : (a b : HostId) (gates : List Written) (i : ℕ) (d : Written) (words slice words' : List PartRegisters) (next : List ℕ) (c : Builder) (goal : PartRegisters × Builder) (made : PartRegisters) (c' : Builder)
    → i < length gates → slice ≡ words → (made, c') ≡ called (gate_shares a b (gate_of (get_or gates i d)) slice c.next) c → TakesAtMost 32 c.next c'.next
    → words' ≡ words ++ made ∷ [] → GatesSoFar a b gates i words next c goal → GatesSoFar a b gates (i + 1) words' next c' goal
gates_turn a b gates i d words slice words' next c goal made c' low same is few longer (e, taken) =
    let more = drop_more gates i d low in (
      ap (λ (l : List PartRegisters). called (gates_shares a b (gates_in (drop (i + 1) gates)) l c'.next) c') longer
          ∙ step_on a b (gate_of (get_or gates i d)) (gates_in (drop (i + 1) gates)) words c goal made c'
          (is ∙ ap (λ (l : List PartRegisters). called (gate_shares a b (gate_of (get_or gates i d)) l c.next) c) same)
          (ap (λ (l : List Written). called (gates_shares a b (gates_in l) words c.next) c) (sym more) ∙ e),
      (few.0 ∙ taken.0, λ h. let p = few.1 h in let q = taken.1 h in omega (arith, p, q)),
    )
