-- What is told of something that was done for a peer and failed.
use Rattle.std.specs.Prelude.{ℕ, List, codes}
use Rattle.vd_edge.specs.declared.peer_reason.PeerCall.{PeerCall}
use Rattle.vd_edge.specs.declared.peer_reason.PeerCall.TheVariants as call

-- the words in front of the peer's name
abbrev pub call_text : PeerCall → List ℕ
call_text call.Listen = codes "listen for"
call_text call.Accept = codes "wait for"
call_text call.Connect = codes "connect to"
call_text call.Pass = codes "link to"
