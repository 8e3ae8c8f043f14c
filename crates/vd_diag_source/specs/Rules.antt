-- Sentences on faults of names, kinds and sizes.
use Rattle.std.specs.Prelude.{◌≡◌, ℕ, List, Some, None, codes, decimal}
use Rattle.vd_base.specs.Limits.{most_principals, most_hosts, most_nesting, most_statements, most_weights, most_cells}
use Rattle.vd_base.specs.declared.ids.Span.{Span}
use Rattle.vd_resolve.specs.declared.fault.Quantity.{Quantity}
use Rattle.vd_resolve.specs.declared.fault.Quantity.TheVariants as quantity
use Rattle.vd_resolve.specs.declared.fault.NameFault.{NameFault}
use Rattle.vd_resolve.specs.declared.fault.NameFault.TheVariants as fault
use Rattle.vd_diag.specs.Lines.{line_number}
use Rattle.vd_diag.specs.declared.remark.Remark.{Remark}
use Rattle.vd_diag.specs.Parts.{three, word_at}
use Rattle.vd_diag_source.specs.Kinds.{kind_sentence}

abbrev pub unknown_sentence : List ℕ → List ℕ
unknown_sentence word = three (codes "the name `") word (codes "` is unknown here")

-- of a name that is declared already in this line
abbrev pub twice_sentence : List ℕ → ℕ → List ℕ
twice_sentence word line = three (three (codes "the name `") word (codes "` stands for something already")) (codes ": it is declared in line ") (decimal line)

abbrev pub recursive_sentence : List ℕ → List ℕ
recursive_sentence word = three (codes "`") word (codes "` is called here, and a function calls only functions that stand before it")

abbrev pub arity_sentence : List ℕ → List ℕ
arity_sentence word = three (codes "`") word (codes "` has another number of parameters than it is given arguments here")

-- what is counted, and its limit
abbrev pub quantity_phrase : Quantity → List ℕ
quantity_phrase quantity.Principals = codes "principals"
quantity_phrase quantity.Hosts = codes "hosts"
quantity_phrase quantity.Nesting = codes "loops around one statement"
quantity_phrase quantity.Statements = codes "statements"
quantity_phrase quantity.Weights = codes "executions of statements"
quantity_phrase quantity.Cells = codes "cells of arrays"

abbrev pub most_of : Quantity → ℕ
most_of quantity.Principals = most_principals
most_of quantity.Hosts = most_hosts
most_of quantity.Nesting = most_nesting
most_of quantity.Statements = most_statements
most_of quantity.Weights = most_weights
most_of quantity.Cells = most_cells

abbrev pub limit_sentence : Quantity → ℕ → List ℕ
limit_sentence q count =
    three (three (codes "there are ") (decimal count) (codes " ")) (quantity_phrase q) (three (codes ", and at most ") (decimal (most_of q)) (codes " are allowed"))

-- a sentence on a span, and one on the whole file
abbrev pub at_span : Span → List ℕ → Remark
at_span span sentence = record { offset = Some span.start; sentence = sentence }

abbrev pub of_file : List ℕ → Remark
of_file sentence = record { offset = None; sentence = sentence }

-- what is said of a fault in these bytes; running out of memory is no fault of theirs
abbrev pub IsRuleRemark : List ℕ → NameFault → Remark → Type 0
IsRuleRemark bytes (fault.Unknown span) remark = remark ≡ at_span span (unknown_sentence (word_at bytes span))
IsRuleRemark bytes (fault.Twice span first) remark = remark ≡ at_span span (twice_sentence (word_at bytes span) (line_number bytes first.start))
IsRuleRemark bytes (fault.Recursive span) remark = remark ≡ at_span span (recursive_sentence (word_at bytes span))
IsRuleRemark bytes (fault.Arity span) remark = remark ≡ at_span span (arity_sentence (word_at bytes span))
IsRuleRemark bytes (fault.Kind span met) remark = remark ≡ at_span span (kind_sentence (word_at bytes span) met)
IsRuleRemark bytes (fault.Limit q count) remark = remark ≡ of_file (limit_sentence q count)
IsRuleRemark bytes fault.Memory remark = ⊥
