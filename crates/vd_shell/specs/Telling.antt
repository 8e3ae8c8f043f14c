-- What a person is told of a run besides its line: why calls of the outside failed, and how many packets passed.
use Rattle.std.specs.Prelude.{◌≡◌, ℕ, List, [], ◌∷◌, ◌++◌, codes, Option, None, Some, option_map, slice_get}
use Rattle.vd_outside.specs.Sink.{SinkView}
use Rattle.vd_cmd_plan.specs.Lines.{Says}
use Rattle.vd_cmd_plan.specs.declared.status.HostStatus.TheVariants.{EndOfLink, PeerFault, WrongProgram}
use Rattle.vd_cmd_plan.specs.declared.status.Status.{Status}
use Rattle.vd_cmd_plan.specs.declared.status.Status.TheVariants.{ChildFault, DealUsed, Host}
use Rattle.vd_edge.specs.declared.peer_reason.PeerReason.{PeerReason}
use Rattle.vd_shell.specs.Reasons.{first_text, packets_text, peer_text, plans_text, reason_line, seal_text, sent_text}
use Rattle.vd_shell.specs.declared.telling.Reasons.{Reasons}

-- these lines go to the stream, one after the other, each whole unless the stream failed
abbrev pub Tells : List (List ℕ) → SinkView → SinkView → Type 0
Tells [] before now = now ≡ before
Tells (line ∷ lines) before now = (mid : SinkView) × Says line before mid × Tells lines mid now

-- the line of a reason, where there is one
abbrev pub lines_of : (host reason : Option (List ℕ)) → List (List ℕ)
lines_of host None = []
lines_of host (Some reason) = reason_line host reason ∷ []

-- the peer that a status names
abbrev pub peer_of : Status → Option (List ℕ)
peer_of (Host (PeerFault name)) = Some name
peer_of (Host (EndOfLink name)) = Some name
peer_of status = None

-- the name of the host with this number, where a status names the hosts of a run
abbrev pub host_at : Status → (number : ℕ) → Option (List ℕ)
host_at (ChildFault names fault) number = slice_get names number
host_at status number = None

-- what a person does whose deal was used
abbrev pub anew_text : Status → Option (List ℕ)
anew_text (DealUsed name) = Some (codes "a deal is used once, and the mark of this one stands beside it: take a new deal")
anew_text status = None

-- why something that was done for the peer of a status failed
abbrev pub peer_reason : Status → Option PeerReason → Option (List ℕ)
peer_reason status reason = option_map (λ r. peer_text (peer_of status) r) reason

-- a peer that has another plan, and both plans
abbrev pub plan_text : Status → Option (List ℕ)
plan_text (Host (WrongProgram peer ours theirs)) = Some (plans_text peer ours theirs)
plan_text status = None

-- of a run of all hosts: why a program could not be started, and else which host was the first to end with a fault, and how
abbrev pub child_text : Status → (started : Option (List ℕ)) → (first : Option (ℕ × ℕ)) → Option (List ℕ)
child_text status (Some reason) first = Some reason
child_text status None first = option_map (λ f. first_text (host_at status f.0) f.0 f.1) first

-- the lines on files and the output; on the mark of a deal; on plans; on links; and on the programs of a run
abbrev pub file_lines : (host : Option (List ℕ)) → Reasons → List (List ℕ)
file_lines host reasons = lines_of host reasons.files ++ lines_of host reasons.written

abbrev pub mark_lines : (host : Option (List ℕ)) → Status → Reasons → List (List ℕ)
mark_lines host status reasons = lines_of host reasons.mark ++ lines_of host (anew_text status)

abbrev pub plan_lines : (host : Option (List ℕ)) → Status → List (List ℕ)
plan_lines host status = lines_of host (plan_text status)

abbrev pub link_lines : (host : Option (List ℕ)) → Status → Reasons → List (List ℕ)
link_lines host status reasons = lines_of host (seal_text reasons.seal) ++ lines_of host (peer_reason status reasons.peer)

abbrev pub child_lines : Status → Reasons → List (List ℕ)
child_lines status reasons = lines_of None (child_text status reasons.started reasons.first)

-- the lines on a run that did not end well
abbrev pub fault_lines : (host : Option (List ℕ)) → Status → Reasons → List (List ℕ)
fault_lines host status reasons =
    (file_lines host reasons ++ mark_lines host status reasons)
    ++ ((plan_lines host status ++ link_lines host status reasons) ++ child_lines status reasons)

-- how many packets a host sent and how many came to it; of no host nothing is said
abbrev pub passed_text : (host : Option (List ℕ)) → (passed : ℕ × ℕ) → Option (List ℕ)
passed_text None passed = None
passed_text (Some host) passed = Some (packets_text passed.0 passed.1)

-- the lines on a run that ended well: how many packets went over a host's links, and how many between the hosts of a replay
abbrev pub success_lines : (host : Option (List ℕ)) → (passed : ℕ × ℕ) → (sent : Option ℕ) → List (List ℕ)
success_lines host passed sent = lines_of host (passed_text host passed) ++ lines_of None (option_map (λ n. sent_text n) sent)
