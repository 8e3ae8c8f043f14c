-- The packets that hosts send, whatever their order.
use Rattle.std.specs.Prelude.{◌≡◌, ℕ, suc, Bool, if◌then◌else◌, List, [], ◌∷◌}
use Rattle.vd_execution.specs.declared.instructions.Line.{Line}
use Rattle.vd_execution.specs.World.{Tape}
use Rattle.vd_execution.specs.Joint.{Joint, Hosts, joint, IsTidy}
use Rattle.vd_choreography_reorder.specs.Testing.{Opened}
use Rattle.vd_choreography_reorder.specs.Order.{IsBroughtForward, IsCarefully}

-- how many packets there are of which a test holds
abbrev pub count_of : (List ℕ → Bool) → List (List ℕ) → ℕ
count_of test [] = 0
count_of test (p ∷ ps) = if test p then suc (count_of test ps) else count_of test ps

-- For each test, as many packets from one host to another: so they are the same packets, each as often.
abbrev pub SendsTheSame : Hosts → Hosts → Type 0
SendsTheSame w v = (a b : ℕ) (test : List ℕ → Bool) → count_of test ((w a).sent b) ≡ count_of test ((v a).sent b)

abbrev pub PacketsAreKept : Type 0
PacketsAreKept = (opened : Opened) (j k : Joint) → IsCarefully opened j k → (t : Tape) (w : Hosts) → SendsTheSame (joint t k w) (joint t j w)

-- And so does the code that the pass gives.
abbrev pub CodeThatIsBroughtForwardSendsTheSame : Type 0
CodeThatIsBroughtForwardSendsTheSame = (opened : Opened) (j : Joint) (lines : List Line) (x : IsBroughtForward opened j lines) → IsTidy j
    → (t : Tape) (w : Hosts) → SendsTheSame (joint t x.code w) (joint t j w)
