-- Two hosts that run over links: one sends the other its input.
use Rattle.std.specs.Prelude.{◌≡◌, ℕ, zero, suc, ◌+◌, true, false, List, [], ◌∷◌, ◌++◌, codes, None, Result, Ok, slice_index_or, replicate}
use Rattle.vd_base.specs.declared.ids.Span.{Span}
use Rattle.vd_base.specs.declared.protocols.Proto.{Proto}
use Rattle.vd_base.specs.declared.protocols.Proto.TheVariants.{Local}
use Rattle.vd_base.specs.HostSets.{host}
use Rattle.vd_core.specs.declared.source.Ident.{Ident}
use Rattle.vd_core.specs.declared.source.WrittenForm as written
use Rattle.vd_core.specs.declared.source.WrittenLabel.{WrittenLabel}
use Rattle.vd_core.specs.declared.source.Expr as expr
use Rattle.vd_core.specs.declared.source.Statement as statement
use Rattle.vd_core.specs.declared.source.Source.{Source}
use Rattle.vd_semantics.specs.SourceMeaning.{source_outputs}
use Rattle.vd_elaborate.specs.Normal.{normal_form}
use Rattle.vd_tape.specs.declared.deal_items.deal.Deal.{Deal}
use Rattle.vd_execution.specs.declared.instructions.Reg.{Reg}
use Rattle.vd_execution.specs.declared.instructions.Action.TheVariants as action
use Rattle.vd_hostcode.specs.declared.host_text.program.Digest.{Digest}
use Rattle.vd_machine.specs.declared.frames.Frame.TheVariants.{Run as Straight}
use Rattle.vd_machine.specs.declared.ops.Op.{Op}
use Rattle.vd_machine.specs.declared.ops.Op.TheVariants.{Plain as One}
use Rattle.vd_machine.specs.declared.ops.Plain.TheVariants as plain
use Rattle.vd_machine.specs.Kept.{Kept}
use Rattle.vd_outside.specs.Link.{LinkView}
use Rattle.vd_outside.specs.Net.{NetView}
use Rattle.vd_outside.specs.Sink.{SinkView}
use Rattle.vd_outside.specs.declared.net.NetCall.TheVariants.{Listen, Accept, Connect}
use Rattle.vd_link.specs.Frames.{frame, greeting}
use Rattle.vd_engine.specs.declared.engine.Ended.{Ended}
use Rattle.vd_host_session.specs.declared.fault.HostFault.{HostFault}
use Rattle.vd_distributed.specs.Ending.{GoesThrough}
use Rattle.vd_distributed.specs.Running.{AreRunOverLinks, Run, text_of}

-- ---- the source: principals A; host a {A ; A}; host b {A ; A}; main { let x = input(a); output x to b; }

abbrev pub span : ℕ → ℕ → Span
span start end = record { start = start; end = end }

-- a name of one letter, at an offset
abbrev pub letter : List ℕ → ℕ → Ident
letter name offset = record { name = name; span = span offset (offset + 1) }

abbrev pub label_at : ℕ → ℕ → WrittenLabel
label_at conf integ = record { conf = written.Name (letter (codes "A") conf); integ = written.Name (letter (codes "A") integ) }

abbrev pub source : Source
source = record {
  principals = letter (codes "A") 11 ∷ [];
  hosts = record { name = letter (codes "a") 19; label = label_at 22 26 } ∷ record { name = letter (codes "b") 35; label = label_at 38 42 } ∷ [];
  functions = [];
  main =
      statement.Let (span 53 56) (letter (codes "x") 57) None (expr.Input (letter (codes "a") 67))
      ∷ statement.Output (span 71 77) (expr.Value (letter (codes "x") 78)) (letter (codes "b") 83)
      ∷ [];
}

-- ---- what the hosts are given

-- the word stands at host a
abbrev pub list : List Proto
list = Local (host 0) ∷ []

abbrev pub plan : Digest
plan = record { bytes = replicate 32 5 }

abbrev pub inputs : List (List ℕ)
inputs = (7 ∷ []) ∷ [] ∷ []

-- nothing is dealt
abbrev pub deal_of : ℕ → Deal
deal_of h = record { hosts = 2; me = host h; own = []; triples = [] ∷ []; bits = [] ∷ []; pairs = [] ∷ [] }

abbrev pub deals : List Deal
deals = deal_of 0 ∷ deal_of 1 ∷ []

abbrev pub address : List ℕ
address = codes "a-b"

-- ---- the machines, before their codes

abbrev pub register : Reg
register = record { 0 = 0 }

abbrev pub machine_of : ℕ → List Op → List ℕ → Kept
machine_of h code words = record {
  code = code;
  top = Straight 0 2;
  below = [];
  registers = 0 ∷ [];
  lists = record { inputs = words; deal = deal_of h };
  taken = record { inputs = 0; own = 0; triples = 0 ∷ 0 ∷ []; bits = 0 ∷ 0 ∷ []; pairs = 0 ∷ 0 ∷ [] };
}

abbrev pub machine_a : Kept
machine_a = machine_of 0 (One (plain.Do (action.Input register)) ∷ One (plain.Send (host 1) (register ∷ [])) ∷ []) (7 ∷ [])

abbrev pub machine_b : Kept
machine_b = machine_of 1 (One (plain.Recv (host 0) (register ∷ [])) ∷ One (plain.Do (action.Print register)) ∷ []) []

-- ---- the links

-- a link that tells these bytes, still to come and sent
abbrev pub link_with : List ℕ → List ℕ → LinkView
link_with coming sent = record { told = true; coming = coming; sent = sent; ended = false; faults = 0 }

abbrev pub greeting_a : List ℕ
greeting_a = greeting plan.bytes 0 1

abbrev pub greeting_b : List ℕ
greeting_b = greeting plan.bytes 1 0

-- the packet with the input
abbrev pub packet : List ℕ
packet = frame (7 ∷ [])

-- of host a: as it is given, once the greetings were exchanged, and as it is handed back
abbrev pub link_a : LinkView
link_a = link_with greeting_b []

abbrev pub greeted_a : LinkView
greeted_a = link_with [] greeting_a

abbrev pub later_a : LinkView
later_a = link_with [] (greeting_a ++ packet)

-- of host b
abbrev pub link_b : LinkView
link_b = link_with (greeting_a ++ packet) []

abbrev pub greeted_b : LinkView
greeted_b = link_with packet greeting_b

abbrev pub later_b : LinkView
later_b = link_with [] greeting_b

-- ---- the nets and the outputs

-- a net at which a link waits, that was asked for nothing
abbrev pub fresh_net : LinkView → NetView
fresh_net link = record { told = true; given = 0; limit = None; listeners = []; waiting = (address, link) ∷ []; otherwise = None; links = 0; back = []; asked = []; faults = 0 }

-- host a listens and accepts
abbrev pub listening_a : NetView
listening_a = record (fresh_net link_a) { given = 1; listeners = address ∷ []; asked = Listen address ∷ [] }

abbrev pub met_a : NetView
met_a = record listening_a { waiting = []; links = 1; asked = Listen address ∷ Accept 0 ∷ [] }

-- host b connects
abbrev pub met_b : NetView
met_b = record (fresh_net link_b) { waiting = []; links = 1; asked = Connect address ∷ [] }

abbrev pub handed : NetView → LinkView → NetView
handed net link = record net { back = link ∷ [] }

-- an output that took these bytes
abbrev pub output : List ℕ → SinkView
output bytes = record { told = true; taken = bytes; faults = 0 }

-- ---- the runs

abbrev pub ends_with : ℕ → Result Ended HostFault
ends_with count = Ok (record { printed = count })

abbrev pub run_a : Run
run_a = record {
  ready = record { task = record { me = host 0; plan = plan.bytes; addresses = address ∷ [] }; machine = machine_a };
  net = fresh_net link_a;
  net_now = handed met_a later_a;
  out = output [];
  out_now = output (codes "listening\nended\n");
  result = ends_with 0;
}

abbrev pub run_b : Run
run_b = record {
  ready = record { task = record { me = host 1; plan = plan.bytes; addresses = address ∷ [] }; machine = machine_b };
  net = fresh_net link_b;
  net_now = handed met_b later_b;
  out = output [];
  out_now = output (codes "listening\n7\nended\n");
  result = ends_with 1;
}

abbrev pub run : ℕ → Run
run zero = run_a
run (suc h) = run_b

-- They are what is asked of running hosts, nothing outside fails, both end well, and each writes what the source tells it.
pub record TwoHostsRun : Type 0 where
  pub are : AreRunOverLinks (normal_form source) list plan inputs deals run
  pub through : GoesThrough (normal_form source) list plan inputs deals run are
  pub told : source_outputs source inputs ≡ [] ∷ (7 ∷ []) ∷ []
  pub result_a : (run 0).result ≡ ends_with 0
  pub result_b : (run 1).result ≡ ends_with 1
  pub written_a : (run 0).out_now.taken ≡ text_of (slice_index_or (source_outputs source inputs) 0 [])
  pub written_b : (run 1).out_now.taken ≡ text_of (slice_index_or (source_outputs source inputs) 1 [])
  pub bytes_a : (run 0).out_now.taken ≡ codes "listening\nended\n"
  pub bytes_b : (run 1).out_now.taken ≡ codes "listening\n7\nended\n"
