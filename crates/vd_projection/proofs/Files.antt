-- The file of a host's program is one that the grammar has, and its program is within the ranges.
use Rattle.std.proofs.Common.{◌≡◌, ℕ, zero, suc, ◌+◌, ◌*◌, ◌<◌, ◌≤◌, Bool, true, false, ◌&&◌, ◌||◌, not, List, [], ◌∷◌, ◌++◌, ◌⊎◌, inl, inr, length, map, slice_index_or, refl, sym, ap, subst, ◌∙◌, arith}
use Rattle.std.proofs.lemmas.Bool.{cases_lt}
use Rattle.std.proofs.lemmas.List.Sums.{list_all-from_AllPass}
use Rattle.std.proofs.lemmas.Map.Keys.{IsDistinct-head, IsDistinct-tail}
use Rattle.std.specs.Prelude.{flat_map}
use Rattle.std.specs.List.{AllByRecursion, IsDistinct, list_all, range_with_len, sum}
use Rattle.std.specs.Str.{bytes_eq}
use Rattle.vd_base.specs.Words.{IsWord}
use Rattle.vd_base.specs.declared.protocols.Proto.{Proto}
use Rattle.vd_base.specs.HostSets.{host}
use Rattle.vd_base.specs.Lexical.{is_name}
use Rattle.vd_base.specs.Names.{is_among}
use Rattle.vd_base.specs.Holders.{proto_in}
use Rattle.vd_core.specs.declared.normal.NormalForm.{NormalForm}
use Rattle.vd_core.specs.Facts.{AreNames, of_rights, operands_fit, shift_fits, count_step, statement_count, cells_step, cell_count, weigh_step, weigh_all, weight_sum}
use Rattle.vd_execution.specs.declared.instructions.Instr.{Instr}
use Rattle.vd_execution.specs.Code.{Code, Finished, weight}
use Rattle.vd_execution.specs.Joint.{code_of, TakesPart, Within}
use Rattle.vd_execution.specs.Plans.{Plan, PlanIsTidy}
use Rattle.vd_execution.specs.Text.{text}
use Rattle.vd_execution.specs.Gadgets.{Gadget}
use Rattle.vd_execution.proofs.Front.{within}
use Rattle.vd_split.specs.Block.{block_of}
use Rattle.vd_split.specs.Emission.{Emission, block_emission, emitting_at_start, in_turn, stmt_emission}
use Rattle.vd_split.proofs.Front.{fold_each}
use Rattle.vd_backend_laws.specs.Given.{zero_deal}
use Rattle.vd_backend_laws.specs.Parts.{suite_calls}
use Rattle.vd_backend_laws.specs.Whole.{plan_at, inputs_of}
use Rattle.vd_backend_laws.proofs.Front.{zero_deals_are_valid}
use Rattle.vd_hostcode.specs.declared.host_text.program.Digest.{Digest}
use Rattle.vd_hostcode.specs.declared.host_text.program.HostProgram.{HostProgram}
use Rattle.vd_hostcode.specs.Text.{name_field, program_text}
use Rattle.vd_hostcode.specs.File.{AreNew}
use Rattle.vd_hostcode.proofs.Front.{all_within, written_is_read}
use Rattle.vd_projection.specs.Programs.{joint_of, host_codes}
use Rattle.vd_projection.proofs.HostCodes.{proto_over, runnable_over, no_words, codes_can_be_loaded, codes_run_as_told, ended_past}
use Rattle.vd_projection.specs.Stored.{stored_program, CanBeStored, StandsInAFile, StoredProgramsStandInFiles, StoredProgramsAreReadBack, StoredTextsAreShort}
use Rattle.vd_core.specs.Numbers.{numbers_fit}
use Rattle.vd_projection.proofs.Numbers.{both}
use Rattle.vd_projection.proofs.Registers.{all_hold, plan_below}
use Rattle.vd_projection.proofs.FewBlocks.{BlockIsSmall, counted, weight_of, cells_in, emission_of, block_small}
use Rattle.vd_projection.proofs.Steps.{plan_weighs}
use Rattle.vd_projection.proofs.Bulk.{code_bulk, plan_lines}
use Rattle.vd_projection.proofs.Bytes.{code_short, file_short}
use Rattle.vd_projection.proofs.Instrs.{AllCanStand}
use Rattle.vd_projection.proofs.ProjectionFilesCodes.{plan_stands, parts_below, takes_below, below_takes, plan_within}
use Rattle.vd_projection.proofs.Texts.{none_broken, text_leads}

-- ---- names

-- the names before differ from these
abbrev ApartFrom : List (List ℕ) → List (List ℕ) → Type 0
ApartFrom earlier [] = Unit {0}
ApartFrom earlier (x ∷ xs) = (is_among earlier x ≡ false) × ApartFrom earlier xs

among_more : (earlier : List (List ℕ)) (y x : List ℕ) → is_among earlier x ≡ false → bytes_eq y x ≡ false → is_among (earlier ++ y ∷ []) x ≡ false
among_more [] y x e f = ap (λ (b : Bool). b || false) f
among_more (z ∷ earlier) y x e f = at (λ g. among_more earlier y x g f) (bytes_eq z x) e
  where
    at : (is_among earlier x ≡ false → is_among (earlier ++ y ∷ []) x ≡ false) → (b : Bool) → (b || is_among earlier x) ≡ false → (b || is_among (earlier ++ y ∷ []) x) ≡ false
    at again true g = cc
    at again false g = again g

apart_more : (earlier : List (List ℕ)) (y : List ℕ) (xs : List (List ℕ)) → ApartFrom earlier xs → AllByRecursion (λ x. bytes_eq y x ≡ false) xs → ApartFrom (earlier ++ y ∷ []) xs
apart_more earlier y [] a d = tt
apart_more earlier y (x ∷ xs) a d = (among_more earlier y x a.0 d.0, apart_more earlier y xs a.1 d.1)

all_new : (earlier xs : List (List ℕ)) → list_all is_name xs ≡ true → IsDistinct bytes_eq xs → ApartFrom earlier xs → AreNew earlier xs
all_new earlier [] e d a = tt
all_new earlier (x ∷ xs) e d a = (
  both (is_name x) (not (is_among earlier x)) (first (is_name x) (list_all is_name xs) e) (ap not a.0),
  all_new (earlier ++ x ∷ []) xs (rest (is_name x) (list_all is_name xs) e) (IsDistinct-tail bytes_eq x xs d) (apart_more earlier x xs a.1 (IsDistinct-head bytes_eq x xs d)),
)
  where
    first : (a b : Bool) → (a && b) ≡ true → a ≡ true
    first true b e = refl
    first false b e = e

    rest : (a b : Bool) → (a && b) ≡ true → b ≡ true
    rest true b e = e
    rest false b e = cc

none_earlier : (xs : List (List ℕ)) → ApartFrom [] xs
none_earlier [] = tt
none_earlier (x ∷ xs) = (refl, none_earlier xs)

names_new : (names : List (List ℕ)) → AreNames names → AreNew [] names
names_new names a = all_new [] names (list_all-from_AllPass is_name names a.each) a.differ (none_earlier names)

-- ---- the code of a host

code_at : (f : ℕ → List Instr) (k n h : ℕ) → h < n → slice_index_or (map f (range_with_len k n)) h [] ≡ f (k + h)
code_at f k zero h lt = absurd (omega (arith, lt))
code_at f k (suc n) zero lt = ap f (same k)
  where
    same : (k : ℕ) → k ≡ k + 0
    same k = omega arith
code_at f k (suc n) (suc h) lt = code_at f (k + 1) n h (omega (arith, lt)) ∙ ap f (same k h)
  where
    same : (k h : ℕ) → k + 1 + h ≡ k + suc h
    same k h = omega arith

module _ (program : NormalForm) (protocols : List Proto) (plan : Digest) (h : ℕ) (can : CanBeStored program protocols plan h) where
  abbrev hosts : ℕ
  hosts = length program.hosts

  abbrev gadgets : Plan Gadget
  gadgets = plan_at (proto_in protocols) program

  abbrev code : Code
  code = code_of h (joint_of program protocols)

  -- the emission of the program is that of its block
  small : BlockIsSmall hosts (proto_in protocols) can.runs.made.limits.hosts (block_of program.body) ((block_emission (suite_calls hosts) (proto_in protocols) program.body).emit (emitting_at_start (suite_calls hosts) (proto_in protocols)))
  small =
      let s = suite_calls hosts in
      let proto = proto_in protocols in
      let b = block_of program.body in
      let few = can.runs.made.limits.hosts in
      let sizes : cells_in b ≡ cell_count program.body = sym (ap sum (fold_each cells_step program.body)) in
      let fits = block_small hosts proto few b (all_hold (of_rights operands_fit) program.body can.runs.made.operands) (all_hold (of_rights shift_fits) program.body can.runs.made.shifts)
      (all_hold numbers_fit program.body can.runs.numbers) (few_cells _ _ sizes can.runs.made.limits.cells) (emitting_at_start s proto) tt in
      let same : block_emission s proto program.body ≡ emission_of hosts proto few b = ap (in_turn s proto) (fold_each (stmt_emission s proto) program.body) in
      subst (λ (f : Emission s proto). BlockIsSmall hosts proto few b (f.emit (emitting_at_start s proto))) (sym same) fits
    where
      few_cells : (m n : ℕ) → m ≡ n → n ≤ 65536 → m ≤ 65536
      few_cells m n e le = omega (arith, e, le)

  tidy : PlanIsTidy gadgets
  tidy =
      let zeros = zero_deals_are_valid (inputs_of []) no_words in
      (codes_run_as_told program protocols can.runs [] no_words (zero_deal (inputs_of [])) zeros.0 zeros.1).plan_tidy

  all_declared : Within (parts_below hosts) (joint_of program protocols)
  all_declared = within (parts_below hosts) (joint_of program protocols) (λ k has. at k has (cases_lt k hosts))
    where
      at : (k : ℕ) → (code_of k (joint_of program protocols) ≡ Finished → ⊥) → (k < hosts) ⊎ (hosts ≤ k) → TakesPart (parts_below hosts) k
      at k has (inl lt) = takes_below hosts k lt
      at k has (inr le) = absurd (has (ended_past program protocols can.runs k le))

  pub code_stands : AllCanStand hosts h code
  code_stands =
      let below = plan_below program (proto_in protocols) can.runs.made (proto_over program protocols can.runs.made (runnable_over program protocols can.runs.made can.runs.runnable)) in
      plan_stands hosts can.runs.made.limits.hosts h below.0 (parts_below hosts) (λ k t. below_takes hosts k t) gadgets below.1 tidy small.plan (plan_within (parts_below hosts) gadgets all_declared)

  pub few_steps : weight code ≤ 4294967295
  few_steps =
      let b = block_of program.body in
      let one = plan_weighs h 1 gadgets in
      let two = small.steps_are 1 in
      let same : weight_of 1 b ≡ weight_sum program.body = sym (ap (λ ws. weigh_all ws 1) (fold_each weigh_step program.body)) in
      bounded (weight code) _ _ _ _ one two same can.runs.made.limits.weights
    where
      bounded : (w s t k m : ℕ) → 1 * w ≤ s → s + t ≤ 65000 * k → k ≡ m → m ≤ 65536 → w ≤ 4294967295
      bounded w s t k m p q e f = omega (arith, p, q, e, f)

  abbrev with_code : List Instr → HostProgram
  with_code is = record { hosts = program.hosts; me = host h; plan = plan; code = is }

  text_stands : StandsInAFile (with_code (text code []))
  text_stands =
      let loaded = codes_can_be_loaded program protocols can.runs.made (runnable_over program protocols can.runs.made can.runs.runnable) h in
      record {
        file = record {
          names = names_new program.hosts can.runs.made.hosts;
          some = can.runs.made.limits.some_host;
          few = can.runs.made.limits.hosts;
          me = can.declared;
          plan = can.digest;
          lines = text_leads hosts h code code_stands;
        };
        within = all_within hosts (host h) (text code []) code loaded.nested (none_broken hosts h code code_stands loaded.in_range.blocks) few_steps;
      }

  pub few_lines : code_bulk code ≤ 2043 * 512
  few_lines =
      let same : counted (block_of program.body) ≡ statement_count program.body = sym (ap sum (fold_each count_step program.body)) in
      bounded (code_bulk code) _ _ _ (plan_lines h gadgets tidy) small.lines_are same can.runs.made.limits.statements
    where
      bounded : (w s k m : ℕ) → w ≤ s → s ≤ 2043 * k → k ≡ m → m ≤ 512 → w ≤ 2043 * 512
      bounded w s k m p q e f = omega (arith, p, q, e, f)

  text_is_short : length (flat_map name_field program.hosts) ≤ 65536 → length (program_text (with_code (text code []))) ≤ 67108864
  text_is_short names =
      let lines = code_short hosts h code code_stands in
      let le = file_short (with_code (text code [])) (51 * (2043 * 512)) can.digest.0 (own_word h hosts can.declared can.runs.made.limits.hosts) names (bounded _ _ lines few_lines) in
      within_file _ le
    where
      own_word : (h n : ℕ) → h < n → n ≤ 4 → IsWord h
      own_word h n lt le = omega (arith, lt, le)

      bounded : (b k : ℕ) → b ≤ 51 * k → k ≤ 2043 * 512 → b ≤ 51 * (2043 * 512)
      bounded b k p q = omega (arith, p, q)

      within_file : (n : ℕ) → n ≤ 65645 + 51 * (2043 * 512) → n ≤ 67108864
      within_file n le = omega (arith, le)

  -- the host's part of what the splitter makes
  is_part : slice_index_or (host_codes program protocols) h [] ≡ text code []
  is_part =
      let each : ℕ → List Instr = λ k. text (code_of k (joint_of program protocols)) [] in
      code_at each 0 hosts h can.declared ∙ ap each (none h)
    where
      none : (h : ℕ) → 0 + h ≡ h
      none h = omega arith

  pub stands_in_a_file : StandsInAFile (stored_program program protocols plan h)
  stands_in_a_file = subst (λ (is : List Instr). StandsInAFile (with_code is)) (sym is_part) text_stands

  is_short : length (flat_map name_field program.hosts) ≤ 65536 → length (program_text (stored_program program protocols plan h)) ≤ 67108864
  is_short names = subst (λ (is : List Instr). length (program_text (with_code is)) ≤ 67108864) (sym is_part) (text_is_short names)

pub stored_programs_stand_in_files : StoredProgramsStandInFiles
stored_programs_stand_in_files program protocols plan h can = stands_in_a_file program protocols plan h can

pub stored_programs_are_read_back : StoredProgramsAreReadBack
stored_programs_are_read_back program protocols plan h can =
    let stands = stands_in_a_file program protocols plan h can in
    written_is_read (stored_program program protocols plan h) stands.file stands.within

pub stored_texts_are_short : StoredTextsAreShort
stored_texts_are_short program protocols plan h can names = is_short program protocols plan h can names
