-- Both runs together.
use Rattle.std.proofs.Common.{◌≡◌, ◌≢◌, ◌<◌, ℕ, zero, suc, nat_eq, if◌then◌else◌, Bool, IsTrue, List, [], ◌∷◌, ◌++◌, codes, slice_index_or, Option, Some, None, refl, sym, ap, ◌∙◌, subst, arith, append-nil}
use Rattle.std.proofs.lemmas.Bool.{ne_eqb}
use Rattle.vd_core.specs.declared.normal.NormalForm.{NormalForm}
use Rattle.vd_elaborate.specs.Normal.{normal_form}
use Rattle.vd_execution.specs.World.{IsPrefixOf}
use Rattle.vd_projection.specs.Stored.{CanBeStored}
use Rattle.vd_execution.specs.Joint.{Joint}
use Rattle.vd_execution.specs.Claims.{Suffices, last_of}
use Rattle.vd_projection.specs.Programs.{joint_of}
use Rattle.vd_world.specs.Supplies.{supply_of_files}
use Rattle.vd_host_session.specs.Histories.{ended, listening}
use Rattle.vd_distributed.specs.Ending.{GoesThrough, IsUndisturbed}
use Rattle.vd_distributed.specs.Links.{TellsBytes, Used, bytes_that_came, bytes_that_went, link_to, used_by}
use Rattle.vd_distributed.specs.Running.{AreRunOverLinks, IsPlayed, text_of}
use Rattle.vd_distributed.specs.Instance.{TwoHostsRun, deals, greeted_a, inputs, later_a, later_b, link_a, link_b, list, plan, run, source}
use Rattle.vd_distributed.proofs.Enough.{enough_of_joint}
use Rattle.vd_distributed.proofs.Files.{digest, files}
use Rattle.vd_distributed.proofs.Playing.{plays_a, plays_b, session_with, seven}
use Rattle.vd_distributed.proofs.Program.{joint_is, numbers, program, runnable, same, told, well_made}
use Rattle.vd_distributed.proofs.Starting.{starts}

stored : (h : ℕ) → h < 2 → CanBeStored program list plan h
stored h lt = record { runs = record { made = well_made; numbers = numbers; runnable = runnable }; digest = digest; declared = lt }

abbrev plays : (h : ℕ) → h < 2 → IsPlayed (run h)
plays zero lt = plays_a
plays (suc h) lt = plays_b

-- there is no link to a host that is none
tells_none : (peer number : ℕ) (used : Option Used) → peer ≢ number → TellsBytes (if nat_eq peer number then used else None)
tells_none peer number used differ = subst (λ (test : Bool). TellsBytes (if test then used else None)) (sym (ne_eqb peer number differ)) tt

tells_a : (peer : ℕ) → TellsBytes (link_to plays_a peer)
tells_a zero = tt
tells_a (suc zero) = refl
tells_a (suc (suc h)) = tells_none 1 (suc (suc h)) (used_by link_a (session_with 1 later_a 36 (suc (suc h)))) (λ e. omega (arith, e))

tells_b : (peer : ℕ) → TellsBytes (link_to plays_b peer)
tells_b zero = refl
tells_b (suc h) = tells_none 0 (suc h) (used_by link_b (session_with 0 later_b 42 (suc h))) (λ e. omega (arith, e))

tells : (h : ℕ) (is : h < 2) (peer : ℕ) → TellsBytes (link_to (plays h is) peer)
tells zero is peer = tells_a peer
tells (suc h) is peer = tells_b peer

-- all that one sent came to the other
came : (a b : ℕ) (is_a : a < 2) (is_b : b < 2) → a ≢ b → bytes_that_came (link_to (plays b is_b) a) ≡ bytes_that_went (link_to (plays a is_a) b)
came zero zero is_a is_b differ = absurd (differ refl)
came zero (suc zero) is_a is_b differ = refl
came (suc zero) zero is_a is_b differ = refl
came (suc zero) (suc zero) is_a is_b differ = absurd (differ refl)
came zero (suc (suc b)) is_a is_b differ = absurd (omega (arith, is_b))
came (suc zero) (suc (suc b)) is_a is_b differ = absurd (omega (arith, is_b))
came (suc (suc a)) b is_a is_b differ = absurd (omega (arith, is_a))

linked : (a b : ℕ) (is_a : a < 2) (is_b : b < 2) → a ≢ b → IsPrefixOf (bytes_that_came (link_to (plays b is_b) a)) (bytes_that_went (link_to (plays a is_a) b))
linked a b is_a is_b differ =
    subst (IsPrefixOf (bytes_that_came (link_to (plays b is_b) a))) (came a b is_a is_b differ) ([], append-nil (bytes_that_came (link_to (plays b is_b) a)))

abbrev are : AreRunOverLinks program list plan inputs deals run
are = record { stored = stored; files = files; each = refl; starts = starts; plays = plays; told = tells; linked = linked }

-- ---- nothing outside fails, and there is enough

undisturbed : (h : ℕ) → h < 2 → IsUndisturbed (run h).result
undisturbed zero lt = tt
undisturbed (suc h) lt = tt

enough : Suffices (supply_of_files inputs deals) (last_of (supply_of_files inputs deals) (joint_of program list))
enough = subst (λ (j : Joint). Suffices (supply_of_files inputs deals) (last_of (supply_of_files inputs deals) j)) (sym joint_is) enough_of_joint

abbrev Holds : NormalForm → Type 0
Holds p = (are : AreRunOverLinks p list plan inputs deals run) × GoesThrough p list plan inputs deals run are

both : Holds program
both = (are, record { undisturbed = undisturbed; came = came; enough = enough })

held : Holds (normal_form source)
held = subst Holds (sym same) both

pub two_hosts_run : TwoHostsRun
two_hosts_run = record {
  are = held.0;
  through = held.1;
  told = told;
  result_a = refl;
  result_b = refl;
  written_a = sym (ap (λ (outputs : List (List ℕ)). text_of (slice_index_or outputs 0 [])) told);
  written_b = ap (λ (text : List ℕ). listening ++ (((text ++ codes "\n") ++ []) ++ ended)) (sym seven) ∙ sym (ap (λ (outputs : List (List ℕ)). text_of (slice_index_or outputs 1 [])) told);
  bytes_a = refl;
  bytes_b = refl;
}
