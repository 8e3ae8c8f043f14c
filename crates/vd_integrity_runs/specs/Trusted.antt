-- Whole runs in which hosts for whose integrity attackers can act depart from their programs.
use Rattle.std.specs.Prelude.{◌≡◌, ℕ, ◌^◌, ◌<◌, Bool, true, List, ◌++◌, length, map}
use Rattle.std.specs.List.{All}
use Rattle.vd_base.specs.declared.ids.HostId.{HostId}
use Rattle.vd_base.specs.declared.ids.SlotId.{SlotId}
use Rattle.vd_base.specs.declared.protocols.Proto.{Proto}
use Rattle.vd_base.specs.Holders.{proto_in}
use Rattle.vd_core.specs.declared.normal.NormalForm.{NormalForm}
use Rattle.vd_core.specs.Facts.{is_binding, nothing_seen, seeing, seeing_all}
use Rattle.vd_constraints.specs.declared.labels.Labels.{Labels}
use Rattle.vd_space.specs.Reading.{problem_of}
use Rattle.vd_semantics.specs.ProgramMeaning.{word_at}
use Rattle.vd_execution.specs.Joint.{Hosts, fresh}
use Rattle.vd_execution.specs.World.{Tape}
use Rattle.vd_split.specs.Block.{block_of}
use Rattle.vd_split.specs.Emission.{block_emission, emitting_at_start, parts_at}
use Rattle.vd_core.specs.Numbers.{NumbersFit}
use Rattle.vd_backend_laws.specs.Parts.{Parts, suite_calls}
use Rattle.vd_noninter.specs.Trust.{against, becomes_trusted, in_trust, trusts_host}
use Rattle.vd_space.specs.Cheapest.{IsAssignment}
use Rattle.vd_noninter_protocols.specs.Told.{IsDealt}
use Rattle.vd_integrity_runs.specs.Copies.{IsInClear}
use Rattle.vd_integrity_runs.specs.Departing.{AreRight}
use Rattle.vd_integrity_runs.specs.Endorsed.{outputs_given, run_given}
use Rattle.vd_integrity_runs.specs.Runs.{RunsBlock, RunsInto}

-- the hosts for whose integrity these principals cannot act
abbrev pub keeps_from : NormalForm → ℕ → ℕ → Bool
keeps_from p set h = trusts_host p (against set) h

-- The program runs at these protocols from its start to this state of all hosts, where all others may send any words.
abbrev pub RunsWithAttackers : NormalForm → Labels → List Proto → ℕ → Tape → Hosts → Type 0
RunsWithAttackers p l protocols set t w =
    RunsBlock (length p.hosts) (proto_in protocols) (keeps_from p set) t (becomes_trusted l (against set)) (block_of p.body)
    (emitting_at_start (suite_calls (length p.hosts)) (proto_in protocols)) fresh w

-- It runs so, and maybe stops there before one of its statements, as where a comparison fails next.
abbrev pub RunsIntoAttack : NormalForm → Labels → List Proto → ℕ → Tape → Hosts → Type 0
RunsIntoAttack p l protocols set t w =
    RunsInto (length p.hosts) (proto_in protocols) (keeps_from p set) t (becomes_trusted l (against set)) (block_of p.body)
    (emitting_at_start (suite_calls (length p.hosts)) (proto_in protocols)) fresh w

-- each slot stands in clear, at one host or as copies at several
abbrev pub StandInClear : List Proto → Type 0
StandInClear protocols = All IsInClear protocols

-- the parts of a slot behind the last statement
abbrev pub parts_at_end : NormalForm → List Proto → SlotId → Parts
parts_at_end p protocols x =
    let calls = suite_calls (length p.hosts) in
    let proto = proto_in protocols in
    parts_at calls proto ((block_emission calls proto p.body).emit (emitting_at_start calls proto)).state x

-- Some words that become trusted explain what the hosts that keep to their programs have printed, and what they hold of the bindings
-- in sight at the end that are in trust: these are those of the program on the inputs, where these words are endorsed.
pub record IsExplained (p : NormalForm) (l : Labels) (protocols : List Proto) (set : ℕ) (inputs : List (List ℕ)) (w : Hosts) : Type 0 where
  pub words : List ℕ
  pub printed : (h : HostId) → h.0 < length p.hosts → keeps_from p set h.0 ≡ true → (w h.0).printed ≡ outputs_given p (becomes_trusted l (against set)) h words inputs
  pub held : (x : SlotId) → is_binding (seeing_all (map seeing p.body) nothing_seen).after x ≡ true → in_trust p l (against set) x.0 ≡ true
      → AreRight (keeps_from p set) w (parts_at_end p protocols x).at (word_at (run_given p (becomes_trusted l (against set)) words inputs).state x)

-- So it is at each valid assignment in clear, with each deal.
abbrev pub RunsAreExplained : NormalForm → Labels → Type 0
RunsAreExplained p l =
    NumbersFit p → (protocols : List Proto) → IsAssignment (problem_of p l) protocols → StandInClear protocols → (set : ℕ) → set < 2 ^ length p.principals
    → (inputs : List (List ℕ)) (t : Tape) → IsDealt inputs t → (w : Hosts) → RunsWithAttackers p l protocols set t w → IsExplained p l protocols set inputs w

-- The second list begins with the first.
pub record Begins (front whole : List ℕ) : Type 0 where
  pub rest : List ℕ
  pub is : whole ≡ front ++ rest

-- what they have printed is a prefix of what the program tells them then
pub record IsExplainedSoFar (p : NormalForm) (l : Labels) (set : ℕ) (inputs : List (List ℕ)) (w : Hosts) : Type 0 where
  pub words : List ℕ
  pub printed : (h : HostId) → h.0 < length p.hosts → keeps_from p set h.0 ≡ true → Begins (w h.0).printed (outputs_given p (becomes_trusted l (against set)) h words inputs)

abbrev pub FrontsAreExplained : NormalForm → Labels → Type 0
FrontsAreExplained p l =
    NumbersFit p → (protocols : List Proto) → IsAssignment (problem_of p l) protocols → StandInClear protocols → (set : ℕ) → set < 2 ^ length p.principals
    → (inputs : List (List ℕ)) (t : Tape) → IsDealt inputs t → (w : Hosts) → RunsIntoAttack p l protocols set t w → IsExplainedSoFar p l set inputs w
