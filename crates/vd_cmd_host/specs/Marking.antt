-- The mark of a deal: a deal of version 2 is used once.
use Rattle.std.specs.Prelude.{◌≡◌, ◌≤◌, ◌≢◌, ◌⊎◌, ℕ, Bool, true, false, IsTrue, List, [], ◌∷◌, ◌++◌, take, codes, Some, None, Result, Ok, Err, IfOk, IfErr}
use Rattle.std.specs.Fmt.{decimal}
use Rattle.vd_base.specs.declared.faults.CallFault.{CallFault}
use Rattle.vd_base_codec.specs.Reading.{field}
use Rattle.vd_base_codec.specs.Digits.{key_text}
use Rattle.vd_outside.specs.Causes.{Rose}
use Rattle.vd_outside.specs.Files.{Contents, with_content}
use Rattle.vd_outside.specs.Marks.{MarksView, Releases, Stays}
use Rattle.vd_outside.specs.Places.{mark_at}
use Rattle.vd_outside.specs.declared.outside_marks.marks.MarksCall.{MarksCall}
use Rattle.vd_outside.specs.declared.outside_marks.marks.MarksCall.TheVariants.{Draw, Claim}
use Rattle.vd_cmd.specs.declared.command.HostWords.{HostWords}
use Rattle.vd_hostcode.specs.declared.host_text.program.HostProgram.{HostProgram}
use Rattle.vd_cmd_plan.specs.declared.status.Status.{Status}
use Rattle.vd_cmd_plan.specs.declared.status.Status.TheVariants as status
use Rattle.vd_cmd_host.specs.declared.marking.Claimed.{Claimed}

-- its name: the first 32 digits of the dealing's name, and the number of the host
abbrev pub mark_name : (id : List ℕ) → (me : ℕ) → List ℕ
mark_name id me = codes "viaduct-used-" ++ (key_text (take 16 id) ++ (codes "-" ++ decimal me))

-- what stands in it
abbrev pub mark_text : (id : List ℕ) → HostProgram → List ℕ
mark_text id program =
    codes "viaduct-used 1\nid " ++ (key_text id ++ (codes "\nme" ++ (field program.me.0 ++ (codes "\nplan " ++ (key_text program.plan.bytes ++ codes "\n")))))

-- where it stands: in the folder of the deal's file
abbrev pub mark_of : HostWords → (id : List ℕ) → HostProgram → List ℕ
mark_of words id program = mark_at words.deal (mark_name id program.me.0)

-- what is drawn goes by this name where it fails
abbrev pub draw_name : List ℕ
draw_name = codes "draw"

-- claiming ends with these alone
abbrev pub EndsClaiming : HostWords → Status → Type 0
EndsClaiming words status.Memory = Unit {0}
EndsClaiming words (status.ReadFault name) = name ≡ draw_name
EndsClaiming words status.WriteFault = Unit {0}
EndsClaiming words (status.DealUsed name) = name ≡ words.deal
EndsClaiming words other = ⊥

-- faults are those of the marks
abbrev pub HasMarksCause : MarksView → MarksView → Status → Type 0
HasMarksCause before now (status.ReadFault name) = Rose before.faults now.faults
HasMarksCause before now status.WriteFault = Rose before.faults now.faults
HasMarksCause before now other = Unit {0}

-- After a refusal all marks are what they were. Where a mark could not be written, at most that one stands now, and only where none stood.
abbrev pub KeepsMarks : (place : List ℕ) → (before now : Contents) → Status → Type 0
KeepsMarks place before now status.WriteFault = Stays place before now
KeepsMarks place before now other = now ≡ before

-- the calls of a mark that is taken: bytes are drawn, and only then it is claimed
abbrev pub with_claim : (place : List ℕ) → (asked : List MarksCall) → List MarksCall
with_claim place asked = asked ++ Draw ∷ [] ++ Claim place ∷ []

-- The calls before a refusal, behind which there is none. Without a draw the mark is not claimed.
abbrev pub AsksUntil : (place : List ℕ) → (before now : List MarksCall) → Status → Type 0
AsksUntil place before now status.Memory = (now ≡ before) ⊎ (now ≡ before ++ Draw ∷ [])
AsksUntil place before now (status.ReadFault name) = now ≡ before ++ Draw ∷ []
AsksUntil place before now other = now ≡ with_claim place before

-- 32 bytes are drawn, and then the mark is taken, which nobody had. Where somebody had it, it stays as it was, and the deal is used.
pub record Claims (words : HostWords) (id : List ℕ) (program : HostProgram) (before now : MarksView) (result : Result Claimed Status) : Type 0 where
  pub later : before.faults ≤ now.faults
  pub ends : IfErr result (EndsClaiming words)
  pub cause : IfErr result (HasMarksCause before now)
  pub still_told : IsTrue before.told → IsTrue now.told
  pub fresh : IsTrue before.told → IfOk result (λ claimed. before.taken (mark_of words id program) ≡ None)
  pub marked : IsTrue before.told → IfOk result (λ claimed. now.taken (mark_of words id program) ≡ Some (mark_text id program))
  pub alone : IsTrue before.told → IfOk result (λ claimed. now.taken ≡ with_content before.taken (mark_of words id program) (Some (mark_text id program)))
  pub kept : IsTrue before.told → IfErr result (KeepsMarks (mark_of words id program) before.taken now.taken)
  pub asked : IsTrue before.told → IfOk result (λ claimed. now.asked ≡ with_claim (mark_of words id program) before.asked)
  pub asked_until : IsTrue before.told → IfErr result (AsksUntil (mark_of words id program) before.asked now.asked)
  pub name : IfOk result (λ claimed. claimed.name ≡ mark_name id program.me.0)
  pub drawn : IsTrue before.told → IfOk result (λ claimed. before.draws ≡ claimed.seed ∷ now.draws)
  pub used : IsTrue before.told → (name : List ℕ) → result ≡ Err (status.DealUsed name) → before.taken (mark_of words id program) ≢ None

-- Where nothing went out that the deal masks the mark is taken back, and else it stays.
abbrev pub Leaves : HostWords → (name : List ℕ) → (sent : Bool) → MarksView → MarksView → Type 0
Leaves words name true before now = now ≡ before
Leaves words name false before now = (result : Result (Unit {0}) CallFault) × Releases words.deal name before now result
