-- The let-normal form of the source, and what it keeps.
use Rattle.std.proofs.Common.{◌≡◌, ◌<◌, ◌≤◌, ℕ, zero, suc, Bool, ◌&&◌, true, List, [], ◌∷◌, map, codes, None, slice_index_or, refl, sym, ap, subst, rules, arith}
use Rattle.std.specs.List.{IsDistinct}
use Rattle.std.specs.Str.{bytes_eq}
use Rattle.vd_base.specs.Lexical.{is_name, keywords}
use Rattle.vd_base.specs.Limits.{most_cells, most_nesting, most_statements, most_weights}
use Rattle.vd_base.specs.declared.form.Form.TheOpen.{Form-F}
use Rattle.vd_core.specs.declared.normal.Slot.{Slot}
use Rattle.vd_core.specs.declared.normal.Stmt.TheOpen.{Stmt-F}
use Rattle.vd_formula.specs.Forms.{formula_of, truth, truth_step}
use Rattle.vd_formula.specs.TruthTable.{TruthTable, formula_where}
use Rattle.vd_constraints.specs.Rules.{label as host_label_of}
use Rattle.vd_space.specs.declared.problem.Problem.{Problem}
use Rattle.vd_space.specs.Reading.{Read, all_parts, problem_of, read_step, read_stmt}
use Rattle.vd_space.specs.Validity.{is_valid, protocol}
use Rattle.vd_space.specs.Cheapest.{IsAssignment}
use Rattle.vd_base.specs.declared.ids.SlotId.{SlotId}
use Rattle.vd_base.specs.HostSets.{host}
use Rattle.vd_base.specs.declared.form.Form as form
use Rattle.vd_base.specs.declared.form.Form.TheFolds as forms
use Rattle.vd_base.specs.declared.operations.Kind.TheVariants.{Word}
use Rattle.vd_core.specs.declared.normal.Right.TheVariants as right
use Rattle.vd_core.specs.declared.normal.Stmt as stmt
use Rattle.vd_core.specs.declared.normal.Stmt.TheFolds as stmts
use Rattle.vd_core.specs.declared.normal.Written.{Written}
use Rattle.vd_core.specs.declared.normal.NormalForm.{NormalForm}
use Rattle.vd_core.specs.declared.source.Expr.TheFolds as exprs
use Rattle.vd_core.specs.declared.source.Statement.TheFolds as statements
use Rattle.vd_core.specs.declared.source.WrittenForm.TheFolds as writtens
use Rattle.vd_core.specs.Facts.{IsWellMade, SlotsInOrder, SlotsMadeBefore, OperandsFit, ShiftsFit, TurnsInLoops, AreNames, HostsDeclared, PrincipalsDeclared, WithinLimits, cell_count, form_is_declared, label_is_declared, nesting, statement_count, weight_sum, written_is_declared}
use Rattle.vd_core.specs.Numbers.{NumbersFit}
use Rattle.vd_execution.specs.Joint.{Joint, Do, Msg, Done}
use Rattle.vd_execution.specs.Registers.{put}
use Rattle.vd_execution.specs.declared.instructions.Action.TheVariants as action
use Rattle.vd_formula.specs.declared.label.Label.{Label}
use Rattle.vd_constraints.specs.declared.labels.Labels.{Labels}
use Rattle.vd_projection.specs.Programs.{IsRunnable, joint_of}
use Rattle.vd_semantics.specs.SourceMeaning.{source_outputs}
use Rattle.vd_elaborate.specs.Normal.{normal_form}
use Rattle.vd_distributed.specs.Instance.{source, list, inputs, register}

abbrev pub slot : SlotId
slot = record { 0 = 0 }

abbrev pub label : Written
label = record { conf = form.Name (codes "A"); integ = form.Name (codes "A") }

abbrev pub program : NormalForm
program = record {
  principals = codes "A" ∷ [];
  hosts = codes "a" ∷ codes "b" ∷ [];
  labels = label ∷ label ∷ [];
  slots = record { name = codes "x"; kind = Word; label = None; offset = 53; block = 0 } ∷ [];
  body = stmt.Let slot (right.Input (host 0)) ∷ stmt.Output slot (host 1) 71 ∷ [];
}

pub same : normal_form source ≡ program
same = search (rules, statements.the_lemmas, exprs.the_lemmas, writtens.the_lemmas)

pub told : source_outputs source inputs ≡ [] ∷ (7 ∷ []) ∷ []
unfolding lib.Count.ones
told = search (rules, statements.the_lemmas, exprs.the_lemmas)

in_order : SlotsInOrder program
in_order = search (rules, stmts.the_lemmas)

made_before : SlotsMadeBefore program
made_before = search (rules, stmts.the_lemmas)

operands : OperandsFit program
operands = search (rules, stmts.the_lemmas)

shifts : ShiftsFit program
shifts = search (rules, stmts.the_lemmas)

turns : TurnsInLoops program
turns = search (rules, stmts.the_lemmas)

one_name : (k : ℕ) (d : List ℕ) → k < 1 → is_name (slice_index_or (codes "A" ∷ []) k d) ≡ true
unfolding keywords
one_name zero d lt = refl
one_name (suc k) d lt = absurd (omega (arith, lt))

two_names : (k : ℕ) (d : List ℕ) → k < 2 → is_name (slice_index_or (codes "a" ∷ codes "b" ∷ []) k d) ≡ true
unfolding keywords
two_names zero d lt = refl
two_names (suc zero) d lt = refl
two_names (suc (suc k)) d lt = absurd (omega (arith, lt))

one_differs : IsDistinct bytes_eq (codes "A" ∷ [])
unfolding IsDistinct
one_differs = (tt, tt)

two_differ : IsDistinct bytes_eq (codes "a" ∷ codes "b" ∷ [])
unfolding IsDistinct
two_differ = ((refl, tt), (tt, tt))

principals : AreNames program.principals
principals = record { each = one_name; differ = one_differs }

hosts : AreNames program.hosts
hosts = record { each = two_names; differ = two_differ }

known_hosts : HostsDeclared program
known_hosts = search (rules, stmts.the_lemmas)

form_known : form_is_declared (codes "A" ∷ []) (form.Name (codes "A")) ≡ true
form_known = search (rules, forms.the_lemmas)

label_known : label_is_declared (codes "A" ∷ []) label ≡ true
label_known = ap (λ (b : Bool). b && b) form_known

slots_known : (k : ℕ) (d : Slot) → k < 1 → written_is_declared (codes "A" ∷ []) (slice_index_or program.slots k d).label ≡ true
slots_known zero d lt = refl
slots_known (suc k) d lt = absurd (omega (arith, lt))

hosts_known : (k : ℕ) (d : Written) → k < 2 → label_is_declared (codes "A" ∷ []) (slice_index_or (label ∷ label ∷ []) k d) ≡ true
hosts_known zero d lt = label_known
hosts_known (suc zero) d lt = label_known
hosts_known (suc (suc k)) d lt = absurd (omega (arith, lt))

known_principals : PrincipalsDeclared program
known_principals = record { rights = search (rules, stmts.the_lemmas); slots = slots_known; hosts = hosts_known }

statement_count_is : statement_count program.body ≡ 2
statement_count_is = search (rules, stmts.the_lemmas)

nesting_is : nesting program.body ≡ 0
nesting_is = search (rules, stmts.the_lemmas)

weight_sum_is : weight_sum program.body ≡ 2
weight_sum_is = search (rules, stmts.the_lemmas)

cell_count_is : cell_count program.body ≡ 0
cell_count_is = search (rules, stmts.the_lemmas)

limits : WithinLimits program
limits = record {
  some_principal = omega arith;
  principals = omega arith;
  some_host = omega arith;
  hosts = omega arith;
  statements = subst (λ (n : ℕ). n ≤ most_statements) (sym statement_count_is) (omega arith);
  loops = subst (λ (n : ℕ). n ≤ most_nesting) (sym nesting_is) (omega arith);
  weights = subst (λ (n : ℕ). n ≤ most_weights) (sym weight_sum_is) (omega arith);
  cells = subst (λ (n : ℕ). n ≤ most_cells) (sym cell_count_is) (omega arith);
}

pub well_made : IsWellMade program
well_made = record {
  in_order = in_order;
  made_before = made_before;
  operands = operands;
  shifts = shifts;
  turns = turns;
  principals = principals;
  hosts = hosts;
  known_hosts = known_hosts;
  known_principals = known_principals;
  labels = refl;
  limits = limits;
}

pub numbers : NumbersFit program
numbers = search (rules, stmts.the_lemmas)

-- whom A acts for
abbrev mine : Label
mine = record { conf = record { names = 1; truths = 2 }; integ = record { names = 1; truths = 2 } }

abbrev labels : Labels
labels = record { slots = mine ∷ []; blocks = mine ∷ [] }

truth_is : truth (form.Name (codes "A")) ≡ truth_step (Form-F.Name (codes "A"))
truth_is = search (rules, forms.the_lemmas)

formula_is : formula_of (form.Name (codes "A")) (codes "A" ∷ []) ≡ record { names = 1; truths = 2 }
unfolding formula_of lib.Count.ones
formula_is = ap (λ (t : List (List ℕ) → ℕ → Bool). formula_where 1 (t (codes "A" ∷ []))) truth_is

host_labels_are : map (host_label_of program) program.labels ≡ mine ∷ mine ∷ []
host_labels_are = ap (λ (f : TruthTable). record { conf = f; integ = f } ∷ record { conf = f; integ = f } ∷ []) formula_is

read_is : map (read_stmt labels) program.body ≡ read_step labels (Stmt-F.Let slot (right.Input (host 0))) ∷ read_step labels (Stmt-F.Output slot (host 1) 71) ∷ []
read_is = search (rules, stmts.the_lemmas)

abbrev problem_with : List Label → List Read → Problem
problem_with hosts reads =
    let parts = all_parts reads 1 in
    record { hosts = hosts; slots = parts.slots; uses = parts.uses; outputs = parts.outputs; guards = parts.guards; indexes = parts.indexes }

abbrev problem : Problem
problem = problem_with (mine ∷ mine ∷ []) (read_step labels (Stmt-F.Let slot (right.Input (host 0))) ∷ read_step labels (Stmt-F.Output slot (host 1) 71) ∷ [])

problem_is : problem_of program labels ≡ problem
problem_is = λ i. problem_with (host_labels_are i) (read_is i)

valid : is_valid problem (0 ∷ []) ≡ true
unfolding lib.Count.ones
valid = refl

named : list ≡ map (protocol problem) (0 ∷ [])
unfolding lib.Count.ones
named = refl

assignment : IsAssignment problem list
assignment = record { places = 0 ∷ []; is_valid = record { whole = refl; valid = valid }; named = named }

pub runnable : IsRunnable program list
runnable = record { labels = labels; assignment = subst (λ (p : Problem). IsAssignment p list) (sym problem_is) assignment }

-- host a takes its input and sends it, host b prints it
abbrev pub joint : Joint
joint = Do 0 (action.Input register) (Msg 0 (register ∷ []) 1 (register ∷ []) (Do 1 (action.Print register) Done))

pub joint_is : joint_of program list ≡ joint
unfolding put lib.Count.ones
joint_is = search (rules, stmts.the_lemmas)
