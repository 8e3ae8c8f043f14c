-- What a host may read, and what it learns.
use Rattle.std.specs.Prelude.{◌≡◌, ℕ, Bool, true, false, ◌&&◌, not, nat_eq, if◌then◌else◌, List, [], ◌∷◌, ◌++◌, length, map, slice_index_or}
use Rattle.std.specs.List.{list_all, list_any, concat}
use Rattle.vd_base.specs.declared.ids.HostId.{HostId}
use Rattle.vd_core.specs.declared.normal.Right.{Right}
use Rattle.vd_core.specs.declared.normal.Right.TheVariants.{Lit, Turn, Copy, Apply, Input, Declassify, Endorse, Load, Get}
use Rattle.vd_core.specs.declared.normal.Stmt.{Stmt}
use Rattle.vd_core.specs.declared.normal.Stmt.TheOpen.{Stmt-F}
use Rattle.vd_core.specs.declared.normal.Stmt.TheFolds.{fold-Stmt}
use Rattle.vd_core.specs.declared.normal.NormalForm.{NormalForm}
use Rattle.vd_formula.specs.TruthTable.{acts}
use Rattle.vd_constraints.specs.declared.labels.Labels.{Labels}
use Rattle.vd_constraints.specs.declared.system.Place.TheVariants.{Slot}
use Rattle.vd_constraints.specs.Rules.{host_label}
use Rattle.vd_constraints.specs.Satisfies.{label_at}
use Rattle.vd_semantics.specs.World.{world_at_start}
use Rattle.vd_semantics.specs.ProgramMeaning.{SlotState, state_at_start, program_outputs}
use Rattle.vd_noninter.specs.Agreement.{SameWords}
use Rattle.vd_noninter.specs.Watching.{Watched, Words, Downgrades, Taps, Showing, declassifications, endorsements, no_downgrades, given_by, shown_by, words_in_order, watched}

-- the host's confidentiality acts for that of the slot's label
abbrev pub reads_slot : NormalForm → Labels → HostId → ℕ → Bool
reads_slot p l h x = acts (host_label p h).conf (label_at l (Slot (record { 0 = x }))).conf

-- by a declassification: the host may read the result
abbrev pub reads_result : NormalForm → Labels → HostId → ℕ → ℕ → Bool
reads_result p l h x y = reads_slot p l h x

-- by a declassification: the host may read the result, and not the operand
abbrev pub becomes_readable_to : NormalForm → Labels → HostId → ℕ → ℕ → Bool
becomes_readable_to p l h x y = reads_slot p l h x && not (reads_slot p l h y)

-- the host's confidentiality acts for that of another host
abbrev pub reads_host : NormalForm → HostId → ℕ → Bool
reads_host p h other = acts (host_label p h).conf (host_label p (record { 0 = other })).conf

-- the slots that statements make: where each guard around them passes the test, and where one does not
pub record Makes : Type 0 where
  pub visible : List ℕ
  pub hidden : List ℕ

abbrev pub visible_of : Makes → List ℕ
visible_of m = m.visible

abbrev pub hidden_of : Makes → List ℕ
hidden_of m = m.hidden

abbrev pub all_visible : List Makes → List ℕ
all_visible ms = concat (map visible_of ms)

abbrev pub all_hidden : List Makes → List ℕ
all_hidden ms = concat (map hidden_of ms)

abbrev pub makes_step : (ℕ → Bool) → Stmt-F Makes → Makes
makes_step test (Stmt-F.Let x right) = record { visible = x.0 ∷ []; hidden = [] }
makes_step test (Stmt-F.NewVar v y) = record { visible = v.0 ∷ []; hidden = [] }
makes_step test (Stmt-F.NewArray v size) = record { visible = v.0 ∷ []; hidden = [] }
makes_step test (Stmt-F.Store v y) = record { visible = []; hidden = [] }
makes_step test (Stmt-F.Put v i y) = record { visible = []; hidden = [] }
makes_step test (Stmt-F.Output y host offset) = record { visible = []; hidden = [] }
makes_step test (Stmt-F.If guard then_block else_block offset) =
    if test guard.0
    then record { visible = all_visible then_block ++ all_visible else_block; hidden = all_hidden then_block ++ all_hidden else_block }
    else record { visible = []; hidden = (all_visible then_block ++ all_hidden then_block) ++ (all_visible else_block ++ all_hidden else_block) }
makes_step test (Stmt-F.For count body) = record { visible = all_visible body; hidden = all_hidden body }

abbrev pub makes : (ℕ → Bool) → Stmt → Makes
makes test = fold-Stmt Makes (makes_step test)

abbrev pub visible_slots : (ℕ → Bool) → List Stmt → List ℕ
visible_slots test body = all_visible (map (makes test) body)

-- A slot in the host's view: it may read it, and each guard around the statement that makes it.
abbrev pub in_view : NormalForm → Labels → HostId → ℕ → Bool
in_view p l h x = reads_slot p l h x && list_any (nat_eq x) (visible_slots (reads_slot p l h) p.body)

-- Whether statements name only slots of this kind, where all guards around them pass the test.
abbrev pub right_names : (ℕ → Bool) → Right → Bool
right_names V (Lit n) = true
right_names V Turn = true
right_names V (Copy y) = V y.0
right_names V (Apply op ys) = list_all (λ y. V y.0) ys
right_names V (Input host) = true
right_names V (Declassify y to) = V y.0
right_names V (Endorse y to) = V y.0
right_names V (Load v) = V v.0
right_names V (Get v i) = V v.0 && V i.0

abbrev pub stmt_names : (ℕ → Bool) → (ℕ → Bool) → Stmt-F Bool → Bool
stmt_names test V (Stmt-F.Let x right) = V x.0 && right_names V right
stmt_names test V (Stmt-F.NewVar v y) = V v.0 && V y.0
stmt_names test V (Stmt-F.NewArray v size) = V v.0
stmt_names test V (Stmt-F.Store v y) = V v.0 && V y.0
stmt_names test V (Stmt-F.Put v i y) = V v.0 && V i.0 && V y.0
stmt_names test V (Stmt-F.Output y host offset) = V y.0
stmt_names test V (Stmt-F.If g then_block else_block offset) = V g.0 && (if test g.0 then list_all (λ b. b) then_block && list_all (λ b. b) else_block else true)
stmt_names test V (Stmt-F.For count body) = list_all (λ b. b) body

abbrev pub names : (ℕ → Bool) → (ℕ → Bool) → Stmt → Bool
names test V = fold-Stmt Bool (stmt_names test V)

-- each slot that is named under guards that pass the test is made under such guards
abbrev pub NamesVisible : NormalForm → (ℕ → Bool) → Type 0
NamesVisible p test = list_all (λ b. b) (map (names test (λ x. list_any (nat_eq x) (visible_slots test p.body))) p.body) ≡ true

abbrev pub start : NormalForm → List (List ℕ) → SlotState
start p inputs = state_at_start (world_at_start (length p.hosts) inputs)

abbrev pub words_of_run : NormalForm → (Watched → Words) → Taps → List (List ℕ) → List ℕ
words_of_run p which taps inputs = words_in_order which (map (watched taps) p.body) 0 (start p inputs)

-- the words of these downgrades, in order
abbrev pub downgraded_words : NormalForm → Downgrades → List (List ℕ) → List ℕ
downgraded_words p these = words_of_run p given_by (record { given = these; freed = no_downgrades; kept = λ x. false; shows = λ s. [] })

-- the words of the declassifications, and of the endorsements, whose result and operand pass the test
abbrev pub declassified_words : NormalForm → (ℕ → ℕ → Bool) → List (List ℕ) → List ℕ
declassified_words p test = downgraded_words p (declassifications test)

abbrev pub endorsed_words : NormalForm → (ℕ → ℕ → Bool) → List (List ℕ) → List ℕ
endorsed_words p test = downgraded_words p (endorsements test)

-- the words that statements show of the slots that pass the test, in order
abbrev pub shown_words : NormalForm → (ℕ → Bool) → Showing → List (List ℕ) → List ℕ
shown_words p kept shows = words_of_run p shown_by (record { given = no_downgrades; freed = no_downgrades; kept = kept; shows = shows })

abbrev pub outputs_to : NormalForm → HostId → List (List ℕ) → List ℕ
outputs_to p h inputs = slice_index_or (program_outputs p inputs) h.0 []

-- two families of inputs agree on the hosts that pass the test, each list followed by zeros
abbrev pub SameInputs : (ℕ → Bool) → List (List ℕ) → List (List ℕ) → Type 0
SameInputs known first second = (k : ℕ) → known k ≡ true → SameWords (slice_index_or first k []) (slice_index_or second k [])

-- Inputs that agree on known hosts, and on the words of these declassifications, give the host the same outputs, and show the
-- same words of the kept slots, whichever of them each statement shows.
abbrev pub LearnsOnly : NormalForm → HostId → (ℕ → ℕ → Bool) → (ℕ → Bool) → (ℕ → Bool) → Type 0
LearnsOnly p h told known kept =
    (first second : List (List ℕ)) → SameInputs known first second → declassified_words p told first ≡ declassified_words p told second
    → (outputs_to p h first ≡ outputs_to p h second) × ((shows : Showing) → shown_words p kept shows first ≡ shown_words p kept shows second)
