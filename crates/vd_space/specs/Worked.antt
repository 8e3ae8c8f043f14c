-- Small problems over two hosts.
use Rattle.std.specs.Prelude.{ℕ, List, [], ◌∷◌}
use Rattle.vd_base.specs.declared.ids.SlotId.{SlotId}
use Rattle.vd_base.specs.declared.operations.Op.TheVariants as op
use Rattle.vd_base.specs.declared.rows.Row.{Row}
use Rattle.vd_base.specs.declared.rows.Row.TheVariants as row
use Rattle.vd_base.specs.HostSets.{host}
use Rattle.vd_formula.specs.TruthTable.{TruthTable}
use Rattle.vd_formula.specs.declared.label.Label.{Label}
use Rattle.vd_protocol.specs.Authority.{label}
use Rattle.vd_space.specs.declared.problem.Problem.{Problem}
use Rattle.vd_space.specs.declared.problem.Making.{Making}

-- a formula over the two names, by the sets at which it is true: none, the first name, the second, both
abbrev over_two : ℕ → TruthTable
over_two truths = record { names = 2; truths = truths }

-- the first name, the second, both of them, and one of them
abbrev first_name : TruthTable
first_name = over_two 10

abbrev second_name : TruthTable
second_name = over_two 12

abbrev both_names : TruthTable
both_names = over_two 8

abbrev either_name : TruthTable
either_name = over_two 14

-- each host has its own secrets, and both trust each other
abbrev two_hosts : List Label
two_hosts = label first_name both_names ∷ label second_name both_names ∷ []

-- what either host may read, and both are to be trusted with
abbrev made : Row → Making
made r = record { row = r; weight = 1; label = label either_name both_names }

abbrev slot : ℕ → SlotId
slot n = record { 0 = n }

-- a word that alice hands in, which is negated bit by bit and then told to bob
abbrev pub negated : Problem
negated = record {
  hosts = two_hosts;
  slots = made (row.Input (host 0)) ∷ made (row.Apply op.Not) ∷ [];
  uses = record { source = slot 0; target = slot 1; weight = 1 } ∷ [];
  outputs = record { slot = slot 1; host = host 1; weight = 1 } ∷ [];
  guards = [];
  indexes = [];
}

-- a word that nobody may read, so that its slot has no candidate
abbrev pub unreadable : Problem
unreadable = record {
  hosts = two_hosts;
  slots = record { row = row.Constant; weight = 1; label = label (over_two 0) both_names } ∷ [];
  uses = [];
  outputs = [];
  guards = [];
  indexes = [];
}
