-- The let-normal form of a resolved source has boolean guards.
use Rattle.std.proofs.Common.{◌≡◌, ℕ, zero, suc, List, [], ◌∷◌, length, map, slice_index_or, Ok, refl}
use Rattle.vd_base.specs.Names.{Named}
use Rattle.vd_base.specs.declared.operations.Kind.TheVariants.{Word}
use Rattle.vd_core.specs.declared.normal.Slot.{Slot}
use Rattle.vd_core.specs.declared.source.Source.{Source}
use Rattle.vd_semantics.specs.SourceMeaning.{host_names}
use Rattle.vd_elaborate.specs.Normal.{Made, slot, inlinings_of, normal_form}
use Rattle.vd_resolve.specs.declared.symbol.Symbol.{Symbol}
use Rattle.vd_resolve.specs.Rules.{Scope, and_then, distinct, hosts_check, functions_check, block_check, in_sequence, checking, bodies_check, source_check}
use Rattle.vd_resolve.specs.Sizes.{source_size}
use Rattle.vd_resolve.specs.Limits.{limits_check, IsResolved}
use Rattle.vd_rewrite.specs.Rewriting.{entry_of, unnamed}
use Rattle.vd_mux.specs.BooleanGuards.{HasBooleanGuards}
use Rattle.vd_elaborate.proofs.Front.{passed}
use Rattle.vd_cmd_rewrite.proofs.SlotKinds.{Sound}
use Rattle.vd_cmd_rewrite.proofs.Walked.{body_typed, functions_typed}

kind_of_entry : (slots : List Slot) (k : ℕ) → (slice_index_or slots k unnamed).kind ≡ slice_index_or (map (λ (s : Slot). s.kind) slots) k Word
kind_of_entry [] k = refl
kind_of_entry (s ∷ ss) zero = refl
kind_of_entry (s ∷ ss) (suc k) = kind_of_entry ss k

abbrev empty : Made
empty = record { next = 0; slots = []; blocks = 1; body = [] }

empty_sound : Sound empty
empty_sound = record { sized = refl; met = λ kinds a. refl }

checked_guards : (source : Source) → source_check source ≡ Ok tt → HasBooleanGuards (normal_form source)
checked_guards source e =
    let p = passed (distinct [] source.principals) (λ principals. and_then (hosts_check principals [] source.hosts) (λ hosts. bodies_check principals hosts source.functions source.main)) tt e in
    let h = passed (hosts_check p.0 [] source.hosts) (λ hosts. bodies_check p.0 hosts source.functions source.main) tt p.2 in
    let f = passed (functions_check p.0 h.0 [] source.functions) (λ functions. and_then (block_check (map checking source.main) (record { principals = p.0; hosts = h.0; functions = functions; later = [] }) []) (λ left. Ok tt)) tt h.2 in
    let scope : Scope = record { principals = p.0; hosts = h.0; functions = f.0; later = [] } in
    let b = passed {B = Unit {0}} (block_check (map checking source.main) scope []) (λ left. Ok tt) tt f.2 in
    let s = passed {B = Named Symbol} (in_sequence (map checking source.main) scope []) (λ inner. Ok []) b.0 b.1 in
    let hosts = host_names source.hosts in
    let is = inlinings_of hosts source.functions in
    let all = body_typed hosts source.main scope [] s.0 s.1 is (functions_typed hosts source.functions p.0 h.0 [] f.0 f.1 [] tt) 0 (record { names = []; made = empty }) empty_sound tt in
    let slots = (normal_form source).slots in
    all.sound.met (λ k. (entry_of slots (slot k)).kind) (λ k lt. kind_of_entry slots k)

pub boolean_guards : (source : Source) → IsResolved source → HasBooleanGuards (normal_form source)
boolean_guards source e =
    let p = passed (source_check source) (λ done. limits_check (length source.principals) (length source.hosts) (source_size source)) tt e in
    checked_guards source p.1
