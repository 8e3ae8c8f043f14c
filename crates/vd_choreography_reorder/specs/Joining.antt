-- Packets that share: of neighbours from one host to another one packet is made, up to so many words.
use Rattle.std.specs.Prelude.{◌≡◌, ℕ, ◌+◌, nat_eq, nat_le, Bool, ◌&&◌, if◌then◌else◌, List, [], ◌∷◌, ◌++◌, length}
use Rattle.vd_base.specs.declared.ids.HostId.{HostId}
use Rattle.vd_execution.specs.declared.instructions.Reg.{Reg}
use Rattle.vd_execution.specs.declared.instructions.Act.{Act}
use Rattle.vd_execution.specs.declared.instructions.Act.TheVariants as act
use Rattle.vd_execution.specs.declared.instructions.Line.{Line}
use Rattle.vd_execution.specs.declared.instructions.Line.TheVariants as line
use Rattle.vd_execution.specs.Joint.{Part, Joint, Done, Do, Msg, If, For}

-- two packets from one host to another, of at most so many words together
abbrev pub can_share : ℕ → ℕ → List Reg → ℕ → ℕ → List Reg → ℕ → Bool
can_share most a said b c says d = (nat_eq a c && nat_eq b d) && nat_le (length said + length says) most

-- ---- joint code

-- a message before a code: where the code begins with one that can share its packet, they are one
abbrev pub message_before : ℕ → ℕ → List Reg → ℕ → List Reg → Joint → Joint
message_before most a said b heard Done = Msg a said b heard Done
message_before most a said b heard (Do h x j) = Msg a said b heard (Do h x j)
message_before most a said b heard (Msg c says d hears j) =
    if can_share most a said b c says d then Msg a (said ++ says) b (heard ++ hears) j else Msg a said b heard (Msg c says d hears j)
message_before most a said b heard (If ps first other rest) = Msg a said b heard (If ps first other rest)
message_before most a said b heard (For ps count body rest) = Msg a said b heard (For ps count body rest)

abbrev pub joined : ℕ → Joint → Joint
joined most Done = Done
joined most (Do h x j) = Do h x (joined most j)
joined most (Msg a said b heard j) = message_before most a said b heard (joined most j)
joined most (If ps first other rest) = If ps (joined most first) (joined most other) (joined most rest)
joined most (For ps count body rest) = For ps count (joined most body) (joined most rest)

-- ---- lines

-- a packet before an act, and what follows
abbrev pub packet_before_act : ℕ → HostId → List Reg → HostId → List Reg → Act → List Line → List Line
packet_before_act most a said b heard (act.Do h x) ls = line.Act (act.Msg a said b heard) ∷ line.Act (act.Do h x) ∷ ls
packet_before_act most a said b heard (act.Msg c says d hears) ls =
    if can_share most a.0 said b.0 c.0 says d.0 then line.Act (act.Msg a (said ++ says) b (heard ++ hears)) ∷ ls
    else line.Act (act.Msg a said b heard) ∷ line.Act (act.Msg c says d hears) ∷ ls

abbrev pub packet_before_line : ℕ → HostId → List Reg → HostId → List Reg → Line → List Line → List Line
packet_before_line most a said b heard (line.Act x) ls = packet_before_act most a said b heard x ls
packet_before_line most a said b heard (line.If h g) ls = line.Act (act.Msg a said b heard) ∷ line.If h g ∷ ls
packet_before_line most a said b heard (line.Else h) ls = line.Act (act.Msg a said b heard) ∷ line.Else h ∷ ls
packet_before_line most a said b heard (line.For h r count) ls = line.Act (act.Msg a said b heard) ∷ line.For h r count ∷ ls
packet_before_line most a said b heard (line.End h) ls = line.Act (act.Msg a said b heard) ∷ line.End h ∷ ls

abbrev pub packet_before : ℕ → HostId → List Reg → HostId → List Reg → List Line → List Line
packet_before most a said b heard [] = line.Act (act.Msg a said b heard) ∷ []
packet_before most a said b heard (l ∷ ls) = packet_before_line most a said b heard l ls

abbrev pub act_before : ℕ → Act → List Line → List Line
act_before most (act.Do h x) ls = line.Act (act.Do h x) ∷ ls
act_before most (act.Msg a said b heard) ls = packet_before most a said b heard ls

-- a line before others
abbrev pub line_before : ℕ → Line → List Line → List Line
line_before most (line.Act x) ls = act_before most x ls
line_before most (line.If h g) ls = line.If h g ∷ ls
line_before most (line.Else h) ls = line.Else h ∷ ls
line_before most (line.For h r count) ls = line.For h r count ∷ ls
line_before most (line.End h) ls = line.End h ∷ ls

abbrev pub joined_lines : ℕ → List Line → List Line
joined_lines most [] = []
joined_lines most (l ∷ ls) = line_before most l (joined_lines most ls)
