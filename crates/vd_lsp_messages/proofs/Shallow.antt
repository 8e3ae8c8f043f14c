-- What the server says nests no deeper than is read.
use Rattle.std.proofs.Common.{rules, ◌≡◌, ◌≤◌, ◌++◌, ℕ, suc, max, ℤ, List, [], ◌∷◌, Option, Some, None, map, arith}
use Rattle.serde_json.specs.Data.{Data, array, depth, items_depth}
use Rattle.serde_json.specs.Read.{max_depth}
use Rattle.serde_json.specs.View.{items_of}
use Rattle.vd_lsp_messages.specs.Answers.{answer_data, change_data, edit_data, edit_items, edits_data, location_data, locations_data, symbol_data, symbols_data, word_data, words_data}
use Rattle.vd_lsp_messages.specs.Said.{id_data, diagnostics, fault_data, unused_data, params, published, data_of}
use Rattle.vd_lsp_messages.specs.declared.kinds.Answer.{Answer}
use Rattle.vd_lsp_messages.specs.declared.kinds.Answer.TheVariants as answer
use Rattle.vd_lsp_messages.specs.declared.kinds.Edits.{Edits}
use Rattle.vd_lsp_messages.specs.declared.kinds.Fault.{Fault}
use Rattle.vd_lsp_messages.specs.declared.kinds.Id.{Id}
use Rattle.vd_lsp_messages.specs.declared.kinds.Id.TheVariants as id
use Rattle.vd_lsp_messages.specs.declared.kinds.Outgoing.{Outgoing}
use Rattle.vd_lsp_messages.specs.declared.kinds.Published.{Published}
use Rattle.vd_lsp_messages.specs.declared.kinds.Range.{Range}
use Rattle.vd_lsp_messages.specs.declared.kinds.Symbol.{Symbol}
use Rattle.vd_lsp_messages.specs.declared.kinds.Word.{Word}
use Rattle.vd_lsp_messages.specs.declared.kinds.Outgoing.TheVariants as outgoing

flat : (name : Id) → depth (id_data name) ≡ 0
flat id.Null = search rules
flat (id.Number n) = search rules
flat (id.Text words) = search rules

most : (m n k : ℕ) → m ≤ k → n ≤ k → max m n ≤ k
most m n k h l = omega (arith, h, l)

unused_within : (ranges : List Range) → items_depth (items_of (map unused_data ranges)) ≤ 3
unused_within [] = omega arith
unused_within (range ∷ ranges) = most (depth (unused_data range)) (items_depth (items_of (map unused_data ranges))) 3 (omega arith) (unused_within ranges)

diagnostics_within : (faults : List Fault) (ranges : List Range) → items_depth (diagnostics faults ranges) ≤ 3
diagnostics_within [] ranges = unused_within ranges
diagnostics_within (fault ∷ faults) ranges = most (depth (fault_data fault)) (items_depth (diagnostics faults ranges)) 3 (omega arith) (diagnostics_within faults ranges)

params_within : (uri : List ℕ) (version : Option ℤ) (faults : Data) → depth faults ≤ 4 → depth (params uri version faults) ≤ 5
params_within uri None faults h = omega (arith, h)
params_within uri (Some v) faults h = omega (arith, h)

published_within : (shown : Published) → depth (published shown) ≤ 6
published_within shown =
    omega (arith, params_within shown.uri shown.version (array (diagnostics shown.faults shown.unused)) (omega (arith, diagnostics_within shown.faults shown.unused)))

-- ---- what questions are answered with

locations_within : (uri : List ℕ) (ranges : List Range) → items_depth (locations_data uri ranges) ≤ 3
locations_within uri [] = omega arith
locations_within uri (range ∷ ranges) = most (depth (location_data uri range)) (items_depth (locations_data uri ranges)) 3 (omega arith) (locations_within uri ranges)

edits_within : (word : List ℕ) (ranges : List Range) → items_depth (edit_items word ranges) ≤ 3
edits_within word [] = omega arith
edits_within word (range ∷ ranges) = most (depth (edit_data word range)) (items_depth (edit_items word ranges)) 3 (omega arith) (edits_within word ranges)

symbols_within : (symbols : List Symbol) → items_depth (symbols_data symbols) ≤ 3
symbols_within [] = omega arith
symbols_within (symbol ∷ symbols) = most (depth (symbol_data symbol)) (items_depth (symbols_data symbols)) 3 (omega arith) (symbols_within symbols)

words_within : (words : List Word) → items_depth (words_data words) ≤ 1
words_within [] = omega arith
words_within (word ∷ words) = most (depth (word_data word)) (items_depth (words_data words)) 1 (omega arith) (words_within words)

answer_within : (said : Answer) → depth (answer_data said) ≤ 7
answer_within answer.Nothing = omega arith
answer_within (answer.Places uri ranges) = omega (arith, locations_within uri ranges)
answer_within (answer.Edits edits) = omega (arith, edits_within edits.word edits.ranges)
answer_within (answer.Symbols symbols) = omega (arith, symbols_within symbols)
answer_within (answer.Words words) = omega (arith, words_within words)
answer_within (answer.Said text range) = omega arith

pub is_shallow : (said : Outgoing) → depth (data_of said) ≤ max_depth
is_shallow (outgoing.Initialized name) = omega (arith, flat name)
is_shallow (outgoing.Done name) = omega (arith, flat name)
is_shallow (outgoing.Answered name said) = omega (arith, flat name, answer_within said)
is_shallow (outgoing.Refused name code) = omega (arith, flat name)
is_shallow (outgoing.Published shown) = omega (arith, published_within shown)
