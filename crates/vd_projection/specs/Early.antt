-- The code of hosts in an order that waits less.
use Rattle.std.specs.Prelude.{◌≡◌, ℕ, ◌≤◌, List, [], length, map}
use Rattle.std.specs.List.{range_with_len}
use Rattle.vd_base.specs.declared.protocols.Proto.{Proto}
use Rattle.vd_base.specs.Limits.{most_packet_words}
use Rattle.vd_core.specs.declared.normal.NormalForm.{NormalForm}
use Rattle.vd_execution.specs.declared.instructions.Instr.{Instr}
use Rattle.vd_execution.specs.declared.instructions.Line.{Line}
use Rattle.vd_execution.specs.Code.{Code, Finished}
use Rattle.vd_execution.specs.Joint.{Joint, code_of, IsTidy}
use Rattle.vd_execution.specs.Text.{flat, text, IsCodeOf}
use Rattle.vd_execution.specs.World.{Supply}
use Rattle.vd_reorder.specs.Careful.{IsCarefullyHastened}
use Rattle.vd_reorder.specs.Packets.{opened_in, stays_by}
use Rattle.vd_reorder.specs.Passing.{hastened_by, hastened_code}
use Rattle.vd_projection.specs.Programs.{joint_of}
use Rattle.vd_choreography_reorder.specs.Testing.{Opened}
use Rattle.vd_choreography_reorder.specs.Order.{IsCarefully, without_empty, RunsOn}
use Rattle.vd_choreography_reorder.specs.Sorting.{early_order}
use Rattle.vd_choreography_reorder.specs.Joining.{joined}

-- for each host, the registers that the packets of its code open, in program order
abbrev pub opened_of : Joint → Opened
opened_of j h = opened_in [] (text (code_of h j) [])

abbrev pub opened_in_order : NormalForm → List Proto → Opened
opened_in_order program protocols = opened_of (joint_of program protocols)

-- What the hosts do together stands in the order of the pass: careful exchanges of neighbours lead to another code, whose lines are sorted.
-- Of its packets that stand side by side and go from one host to another one is made, of up to 16 words.
pub record IsEarly (j k : Joint) : Type 0 where
  pub between : Joint
  pub ordered : flat between [] ≡ early_order (opened_of j) (flat j [])
  pub exchanged : IsCarefully (opened_of j) (without_empty j) between
  pub shared : k ≡ joined most_packet_words (without_empty between)

-- the code of a host, hastened: in each round it sends before it awaits
abbrev pub early_code : Opened → ℕ → Joint → Code
early_code opened h j = hastened_code (opened h) (code_of h j)

-- and its text
abbrev pub early_text : Opened → Joint → ℕ → List Instr
early_text opened j h = hastened_by (opened h) (text (code_of h j) [])

-- that of each of so many hosts
abbrev pub each_code : Opened → ℕ → Joint → List (List Instr)
each_code opened hosts j = map (early_text opened j) (range_with_len 0 hosts)

-- These are the codes of so many hosts of a joint code in an order that waits less,
pub record AreEarly (hosts : ℕ) (j : Joint) (codes : List (List Instr)) : Type 0 where
  pub joint : Joint
  pub early : IsEarly j joint
  pub codes_are : codes ≡ each_code (opened_of j) hosts joint

-- and these of the hosts of a program.
abbrev pub AreEarlyCodes : NormalForm → List Proto → List (List Instr) → Type 0
AreEarlyCodes program protocols codes = AreEarly (length program.hosts) (joint_of program protocols) codes

-- ---- what holds of it

-- The code is tidy. With any inputs and lists it runs well, or to its end, where the other does, and to hosts that are alike.
pub record RunsAlike (j k : Joint) : Type 0 where
  pub tidy : IsTidy k
  pub runs : (s : Supply) → RunsOn s j k

abbrev pub EarlyCodeRunsAlike : Type 0
EarlyCodeRunsAlike = (j k : Joint) → IsTidy j → IsEarly j k → RunsAlike j k

-- The text of a host is that of its hastened code. All that it does but for draws of own words, what it awaits and what it opens stand in
-- the order of the joint code.
pub record IsCarefulText (opened : Opened) (j : Joint) (h : ℕ) : Type 0 where
  pub nested : IsCodeOf (early_text opened j h) (early_code opened h j)
  pub careful : IsCarefullyHastened (stays_by (opened h)) (code_of h j) (early_code opened h j)

abbrev pub EarlyTextsAreCareful : Type 0
EarlyTextsAreCareful = (opened : Opened) (j : Joint) (h : ℕ) → IsCarefulText opened j h

-- ---- lines

-- only so many hosts have code
abbrev pub IsOfHosts : ℕ → Joint → Type 0
IsOfHosts hosts j = (h : ℕ) → hosts ≤ h → code_of h j ≡ Finished

-- They are those of each tidy code of so many hosts of which these are the lines.
abbrev pub ComeEarly : ℕ → List Line → List (List Instr) → Type 0
ComeEarly hosts lines codes = (j : Joint) → IsTidy j → IsOfHosts hosts j → lines ≡ flat j [] → AreEarly hosts j codes
