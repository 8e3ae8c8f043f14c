-- When all hosts that are run end.
use Rattle.std.specs.Prelude.{◌≡◌, ◌≢◌, ◌<◌, ℕ, List, length, Result, Ok, Err}
use Rattle.vd_base.specs.declared.protocols.Proto.{Proto}
use Rattle.vd_core.specs.declared.normal.NormalForm.{NormalForm}
use Rattle.vd_tape.specs.declared.deal_items.deal.Deal.{Deal}
use Rattle.vd_execution.specs.Claims.{Suffices, last_of}
use Rattle.vd_world.specs.Supplies.{supply_of_files}
use Rattle.vd_projection.specs.Programs.{joint_of}
use Rattle.vd_hostcode.specs.declared.host_text.program.Digest.{Digest}
use Rattle.vd_engine.specs.declared.engine.Ended.{Ended}
use Rattle.vd_host_session.specs.declared.fault.HostFault.{HostFault}
use Rattle.vd_host_session.specs.declared.fault.HostFault.TheVariants as fault
use Rattle.vd_distributed.specs.Links.{bytes_that_came, bytes_that_went, link_to}
use Rattle.vd_distributed.specs.Running.{AreRunOverLinks, Run}

-- no call of the net, of a link or of the output failed, and there was memory
abbrev pub IsUndisturbed : Result Ended HostFault → Type 0
IsUndisturbed (Err (fault.Peer host)) = ⊥
IsUndisturbed (Err fault.Write) = ⊥
IsUndisturbed (Err fault.Memory) = ⊥
IsUndisturbed other = Unit {0}

-- Nothing outside failed, all that one host sent to another came there, and inputs and items suffice. So a host that found the end of a
-- link has gone on as far as what was sent to it lets it.
pub record GoesThrough (program : NormalForm) (list : List Proto) (plan : Digest) (inputs : List (List ℕ)) (deals : List Deal) (run : ℕ → Run)
    (are : AreRunOverLinks program list plan inputs deals run) : Type 0 where
  pub undisturbed : (h : ℕ) → h < length program.hosts → IsUndisturbed (run h).result
  pub came : (a b : ℕ) (is_a : a < length program.hosts) (is_b : b < length program.hosts) → a ≢ b
      → bytes_that_came (link_to (are.plays b is_b) a) ≡ bytes_that_went (link_to (are.plays a is_a) b)
  pub enough : Suffices (supply_of_files inputs deals) (last_of (supply_of_files inputs deals) (joint_of program list))

-- Then all hosts of the program end well: they are never all waiting for bytes that nobody will send.
abbrev pub RunningHostsEnd : Type 0
RunningHostsEnd = (program : NormalForm) (list : List Proto) (plan : Digest) (inputs : List (List ℕ)) (deals : List Deal) (run : ℕ → Run)
    → (are : AreRunOverLinks program list plan inputs deals run) → GoesThrough program list plan inputs deals run are
    → (h : ℕ) → h < length program.hosts → (done : Ended) × ((run h).result ≡ Ok done)
