-- What comes to a host in clear at a valid assignment, and on which inputs that depends.
use Rattle.std.specs.Prelude.{◌≡◌, ℕ, ◌<◌, Bool, List, length, map}
use Rattle.vd_base.specs.declared.ids.HostId.{HostId}
use Rattle.vd_base.specs.declared.protocols.Proto.{Proto}
use Rattle.vd_core.specs.declared.normal.NormalForm.{NormalForm}
use Rattle.vd_constraints.specs.declared.labels.Labels.{Labels}
use Rattle.vd_space.specs.Reading.{problem_of}
use Rattle.vd_space.specs.Cheapest.{IsAssignment}
use Rattle.vd_noninter.specs.Reading.{start, declassified_words, SameInputs}
use Rattle.vd_noninter_protocols.specs.Hearing.{heard, heard_in_order}

-- the clear words that come to a host of the program, in order
abbrev pub heard_words : NormalForm → Labels → List Proto → HostId → List (List ℕ) → List ℕ
heard_words p l protocols h inputs = heard_in_order (map (heard protocols h l) p.body) 0 (start p inputs)

-- inputs that agree on known hosts, and on the words of these declassifications, bring the host the same clear words
abbrev pub HearsOnly : NormalForm → Labels → List Proto → HostId → (ℕ → ℕ → Bool) → (ℕ → Bool) → Type 0
HearsOnly p l protocols h released known =
    (first second : List (List ℕ)) → SameInputs known first second
    → declassified_words p released first ≡ declassified_words p released second
    → heard_words p l protocols h first ≡ heard_words p l protocols h second

-- so at every valid assignment
abbrev pub HearsOnlyAssigned : NormalForm → Labels → HostId → (ℕ → ℕ → Bool) → (ℕ → Bool) → Type 0
HearsOnlyAssigned p l h released known =
    h.0 < length p.hosts → (protocols : List Proto) → IsAssignment (problem_of p l) protocols → HearsOnly p l protocols h released known
