-- Deals in files: which explain other inputs, and how many show a host the same.
use Rattle.std.specs.Prelude.{◌≡◌, ◌≢◌, ℕ, ◌≤◌, ◌<◌, List, length, slice_get}
use Rattle.vd_base.specs.declared.ids.HostId.{HostId}
use Rattle.vd_base.specs.declared.protocols.Proto.{Proto}
use Rattle.vd_core.specs.declared.normal.NormalForm.{NormalForm}
use Rattle.vd_constraints.specs.declared.labels.Labels.{Labels}
use Rattle.vd_tape.specs.declared.deal_items.deal.Deal.{Deal}
use Rattle.vd_execution.specs.Step.{Source, Inputs}
use Rattle.vd_execution.specs.World.{Tape, followed_by_zeros}
use Rattle.vd_execution.specs.Joint.{fresh, joint}
use Rattle.vd_execution.specs.Gadgets.{Gadget}
use Rattle.vd_execution.specs.Plans.{Plan, joint_of}
use Rattle.vd_machine.specs.Dealt.{counts_of}
use Rattle.vd_world.specs.Supplies.{supply_of_files, AreFiles}
use Rattle.vd_views.specs.Views.{LooksAlike, alone}
use Rattle.vd_views.specs.Contract.{Explains}
use Rattle.vd_views.specs.Explained.{IsOfTwo, plan_of, input_words, AgreeFor}
use Rattle.vd_views.specs.Lengths.{AreAll}

-- the files of all hosts, each list followed by zeros
abbrev pub tape_of : (inputs : List (List ℕ)) → List Deal → Tape
tape_of inputs deals = followed_by_zeros (supply_of_files inputs deals)

-- consistent deal files of two hosts, of which the run on these inputs takes no item past the end
pub record AreEnough (plan : Plan Gadget) (inputs : List (List ℕ)) (deals : List Deal) : Type 0 where
  pub files : AreFiles inputs deals
  pub two : length deals ≡ 2
  pub takes : (g : ℕ) (s : Source) → s ≢ Inputs → (joint (tape_of inputs deals) (joint_of plan) fresh g).cursors s ≤ counts_of deals g s

-- kind by kind and host by host as many items
abbrev pub AreAsLong : List Deal → List Deal → Type 0
AreAsLong deals stored = (g : ℕ) (s : Source) → counts_of stored g s ≡ counts_of deals g s

-- files that explain the second inputs to h, as these deals are the files of the first
pub record IsExcuse (h : ℕ) (plan : Plan Gadget) (first second : List (List ℕ)) (deals stored : List Deal) : Type 0 where
  pub enough : AreEnough plan second stored
  pub kept : slice_get stored h ≡ slice_get deals h
  pub as_long : AreAsLong deals stored
  pub explains : Explains (alone h) plan (tape_of first deals) (input_words second) (tape_of second stored)

abbrev pub FilesAreExplained : Type 0
FilesAreExplained =
    (p : NormalForm) (l : Labels) (protocols : List Proto) → IsOfTwo p l protocols → (h : HostId) → h.0 < 2 → (first second : List (List ℕ)) → length second ≤ 2
    → AgreeFor p l protocols (alone h.0) first second → (deals : List Deal) → AreEnough (plan_of p protocols) first deals
    → (stored : List Deal) × IsExcuse h.0 (plan_of p protocols) first second deals stored

-- files of these lengths by which h sees of these inputs what it sees of the first by these deals
pub record ShowsTheSame (h : ℕ) (plan : Plan Gadget) (first : List (List ℕ)) (deals : List Deal) (given : List (List ℕ)) (stored : List Deal) : Type 0 where
  pub enough : AreEnough plan given stored
  pub kept : slice_get stored h ≡ slice_get deals h
  pub as_long : AreAsLong deals stored
  pub view : LooksAlike h (joint (tape_of first deals) (joint_of plan) fresh) (joint (tape_of given stored) (joint_of plan) fresh)

-- where these are all such files of the first inputs, each once, there are as many of the second
abbrev pub FilesShowEquallyMany : Type 0
FilesShowEquallyMany =
    (p : NormalForm) (l : Labels) (protocols : List Proto) → IsOfTwo p l protocols → (h : HostId) → h.0 < 2 → (first second : List (List ℕ)) → length first ≤ 2 → length second ≤ 2
    → AgreeFor p l protocols (alone h.0) first second → AgreeFor p l protocols (alone h.0) second first → (deals : List Deal) → AreEnough (plan_of p protocols) first deals
    → (all : List (List Deal)) → AreAll (ShowsTheSame h.0 (plan_of p protocols) first deals first) all
    → (others : List (List Deal)) × (length others ≡ length all) × AreAll (ShowsTheSame h.0 (plan_of p protocols) first deals second) others
