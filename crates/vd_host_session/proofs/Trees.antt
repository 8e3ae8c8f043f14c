-- What holds of the packets of flat code holds of those of its tree.
use Rattle.std.proofs.Common.{ℕ, List, [], ◌∷◌, Option, Some, None, subst}
use Rattle.vd_execution.specs.declared.instructions.Instr.{Instr}
use Rattle.vd_execution.specs.declared.instructions.Instr.TheVariants as instr
use Rattle.vd_execution.specs.Code.{Code}
use Rattle.vd_execution.specs.Text.{AfterElse, AfterEnd, IsCodeOf, Open, Reading, read, read_before, with_instr}
use Rattle.vd_engine.specs.Hosts.{PacketsAreWith}
use Rattle.vd_host_session.specs.Packets.{AllSpeakWith, SpeaksWith}

abbrev OpensWith : (ℕ → Type 0) → List Open → Type 0
OpensWith holds [] = Unit {0}
OpensWith holds (AfterEnd rest ∷ opens) = PacketsAreWith holds rest × OpensWith holds opens
OpensWith holds (AfterElse other rest ∷ opens) = PacketsAreWith holds other × (PacketsAreWith holds rest × OpensWith holds opens)

abbrev ReadsWith : (ℕ → Type 0) → Option Reading → Type 0
ReadsWith holds None = Unit {0}
ReadsWith holds (Some reading) = PacketsAreWith holds reading.code × OpensWith holds reading.blocks

one_more : (holds : ℕ → Type 0) (i : Instr) (code : Code) (opens : List Open) → SpeaksWith holds i → PacketsAreWith holds code → OpensWith holds opens → ReadsWith holds (with_instr i code opens)
one_more holds (instr.Do action) code opens speaks packets rest = (packets, rest)
one_more holds (instr.Send p rs) code opens speaks packets rest = ((speaks, packets), rest)
one_more holds (instr.Recv p rs) code opens speaks packets rest = ((speaks, packets), rest)
one_more holds (instr.If g) code [] speaks packets rest = tt
one_more holds (instr.If g) code (AfterEnd behind ∷ opens) speaks packets rest = tt
one_more holds (instr.If g) code (AfterElse other behind ∷ opens) speaks packets rest = ((packets, (rest.0, rest.1.0)), rest.1.1)
one_more holds instr.Else code [] speaks packets rest = tt
one_more holds instr.Else code (AfterEnd behind ∷ opens) speaks packets rest = (tt, (packets, rest))
one_more holds instr.Else code (AfterElse other behind ∷ opens) speaks packets rest = tt
one_more holds (instr.For r count) code [] speaks packets rest = tt
one_more holds (instr.For r count) code (AfterEnd behind ∷ opens) speaks packets rest = ((packets, rest.0), rest.1)
one_more holds (instr.For r count) code (AfterElse other behind ∷ opens) speaks packets rest = tt
one_more holds instr.End code opens speaks packets rest = (tt, (packets, rest))

before_all : (holds : ℕ → Type 0) (i : Instr) (reading : Option Reading) → SpeaksWith holds i → ReadsWith holds reading → ReadsWith holds (read_before i reading)
before_all holds i None speaks rest = tt
before_all holds i (Some reading) speaks rest = one_more holds i reading.code reading.blocks speaks rest.0 rest.1

all_read : (holds : ℕ → Type 0) (code : List Instr) → AllSpeakWith holds code → ReadsWith holds (read code)
all_read holds [] speak = (tt, tt)
all_read holds (i ∷ is) speak = before_all holds i (read is) speak.0 (all_read holds is speak.1)

pub tree_speaks : (holds : ℕ → Type 0) (code : List Instr) (tree : Code) → IsCodeOf code tree → AllSpeakWith holds code → PacketsAreWith holds tree
tree_speaks holds code tree is speak = (subst (ReadsWith holds) is (all_read holds code speak)).0
