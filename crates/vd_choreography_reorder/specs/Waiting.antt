-- What a host has heard before it tells something.
use Rattle.std.specs.Prelude.{ℕ, suc, ◌≤◌, Bool, ◌&&◌, if◌then◌else◌, List, [], ◌∷◌, ◌++◌}
use Rattle.vd_execution.specs.Joint.{Joint, Done, Do, Msg, If, For}
use Rattle.vd_reorder.specs.Turning.{Turn, Does, Tells}
use Rattle.vd_choreography_reorder.specs.Testing.{Opened, awaits_at, tells_at}
use Rattle.vd_choreography_reorder.specs.Order.{IsCarefully}

abbrev pub counted : Bool → ℕ → ℕ
counted b n = if b then suc n else n

abbrev pub noted : Bool → ℕ → List ℕ → List ℕ
noted b n ns = if b then n ∷ ns else ns

-- For each thing that a host compares, prints or opens, in order: how many packets it has heard before, in the same block, of which a test
-- holds.
abbrev pub heard_before : Opened → ℕ → (Turn → Bool) → ℕ → Joint → List ℕ
heard_before opened h test n Done = []
heard_before opened h test n (Do g a rest) = noted (tells_at opened h (Does g a)) n (heard_before opened h test n rest)
heard_before opened h test n (Msg a said b heard rest) =
    noted (tells_at opened h (Tells a said b heard)) n
    (heard_before opened h test (counted (awaits_at h (Tells a said b heard) && test (Tells a said b heard)) n) rest)
heard_before opened h test n (If ps first other rest) = heard_before opened h test 0 first ++ (heard_before opened h test 0 other ++ heard_before opened h test 0 rest)
heard_before opened h test n (For ps count body rest) = heard_before opened h test 0 body ++ heard_before opened h test 0 rest

-- as many numbers, each at most the other
abbrev pub AtMost : List ℕ → List ℕ → Type 0
AtMost [] [] = Unit {0}
AtMost [] (m ∷ ms) = ⊥
AtMost (n ∷ ns) [] = ⊥
AtMost (n ∷ ns) (m ∷ ms) = (n ≤ m) × AtMost ns ms

-- Before each thing that a host compares, prints or opens it has heard, for each test, at least as many packets as it had: nothing is told
-- before an answer behind which it stood.
abbrev pub NothingIsToldEarlier : Type 0
NothingIsToldEarlier = (opened : Opened) (j k : Joint) (h : ℕ) (test : Turn → Bool) → IsCarefully opened j k
    → AtMost (heard_before opened h test 0 j) (heard_before opened h test 0 k)
