-- The joint run of a program's acts tells each host what the program tells it.
use Rattle.std.proofs.Common.{◌≡◌, ℕ, suc, ◌+◌, ◌<◌, true, false, List, [], ◌∷◌, length, map, replicate, slice_index_or, refl, sym, ap, ap₂, ◌∙◌, subst, arith}
use Rattle.std.specs.List.{concat, range_with_len}
use Rattle.vd_base.specs.declared.protocols.Proto.{Proto}
use Rattle.vd_core.specs.declared.normal.NormalForm.{NormalForm}
use Rattle.vd_core.specs.Facts.{nothing_seen, Seeing, slots_step, seeing_step, seeing_all, IsWellMade}
use Rattle.vd_semantics.specs.World.{world_at_start}
use Rattle.vd_semantics.specs.ProgramMeaning.{Effect, in_order, stmt_effect, state_at_start, program_outputs}
use Rattle.vd_split.specs.Block.{Block, block_of, each}
use Rattle.vd_execution.specs.Plans.{Plan}
use Rattle.vd_split.specs.Joint.{Hosts, joint, Goes}
use Rattle.vd_split.specs.Suite.{Suite, Laws}
use Rattle.vd_split.specs.Emission.{Emission, in_turn, stmt_emission, emitting_at_start}
use Rattle.vd_split.specs.Validity.{Fits, emission_of}
use Rattle.vd_core.specs.Numbers.{NumbersFit}
use Rattle.vd_split.specs.Outcome.{Starts, printed_by, plan_of, ValidAt, TellsTheSame}
use Rattle.vd_split.proofs.Lists.{row_of, InRow}
use Rattle.vd_split.proofs.Tied.{Tied}
use Rattle.vd_split.proofs.ChoreographySteps.{After}
use Rattle.vd_split.proofs.Folds.{fold_each}
use Rattle.vd_split.proofs.Fits.{all_fit, no_turns, tied_at_start}
use Rattle.vd_split.specs.ChoreographyPlaces.{active, Tidy, NeedsItsLoops, Places}
use Rattle.vd_split.proofs.ChoreographyBlocks.{slots, sees, effect_of, means}
use Rattle.vd_split.proofs.Orderly.{Orderly, orderly}

module _ (m : Hosts) (s : Suite m) (proto : ℕ → Proto) where
  -- a list is what it has at each place
  listed : (f : ℕ → List ℕ) (xs : List (List ℕ)) (k : ℕ) → ((i : ℕ) → f (k + i) ≡ slice_index_or xs i []) → map f (range_with_len k (length xs)) ≡ xs
  listed f [] k h = refl
  listed f (x ∷ xs) k h = ap₂ (λ (y : List ℕ) (ys : List (List ℕ)). y ∷ ys) (ap f (none k) ∙ h 0) (listed f xs (k + 1) (λ i. ap f (more k i) ∙ h (suc i)))
    where
      none : (k : ℕ) → k ≡ k + 0
      none k = omega arith

      more : (k i : ℕ) → k + 1 + i ≡ k + suc i
      more k i = omega arith

  module _ (laws : Laws m s) (declared : (x : ℕ) → s.Declared (proto x)) (program : NormalForm) (inputs : List (List ℕ)) (w : m.World) (made : IsWellMade program) (numbers : NumbersFit program) (hosts : s.calls.hosts ≡ length program.hosts)
      (valid : ValidAt m s proto program) (starts : Starts m inputs w) where
    abbrev b : Block
    b = block_of program.body

    tied : Tied m s proto nothing_seen (replicate s.calls.hosts 0) [] w (state_at_start (world_at_start (length program.hosts) inputs))
    tied = tied_at_start m s proto (length program.hosts) hosts inputs w starts

    row : InRow 0 (slots b)
    row = row_of 0 (length program.slots) (slots b) (sym (ap concat (fold_each slots_step program.body)) ∙ made.in_order)

    seen : (sees b nothing_seen).all ≡ true
    seen = ap (λ (l : List Seeing). (seeing_all l nothing_seen).all) (sym (fold_each seeing_step program.body)) ∙ made.made_before

    fits : Fits s.calls.hosts b
    fits = subst (λ n. Fits n b) (sym hosts) (all_fit program made numbers)

    after : After m s proto nothing_seen (sees b nothing_seen).after (emitting_at_start s.calls proto) ((emission_of m s proto b).emit (emitting_at_start s.calls proto)) (length (slots b)) w
        (effect_of b 0 (state_at_start (world_at_start (length program.hosts) inputs)))
    after =
        means m s proto laws declared b nothing_seen 0 row seen fits valid (emitting_at_start s.calls proto) w (state_at_start (world_at_start (length program.hosts) inputs)) 0 (λ h. false) refl
        (λ h i. absurd (no_turns m s proto program made h i)) (omega arith) tied (λ h lt i. absurd (wrong i))
      where
        wrong : false ≡ true → ⊥
        wrong e = cc

    same_tree : plan_of m s proto program ≡ ((emission_of m s proto b).emit (emitting_at_start s.calls proto)).tree
    same_tree = ap (λ (l : List (Emission s.calls proto)). ((in_turn s.calls proto l).emit (emitting_at_start s.calls proto)).tree) (fold_each (stmt_emission s.calls proto) program.body)

    same_effect : program_outputs program inputs ≡ (effect_of b 0 (state_at_start (world_at_start (length program.hosts) inputs))).world.outputs
    same_effect = ap (λ (l : List Effect). (in_order l 0 (state_at_start (world_at_start (length program.hosts) inputs))).world.outputs) (fold_each stmt_effect program.body)

    pub tells_the_same : TellsTheSame m s proto program inputs w
    tells_the_same =
        let o = after.tied.outside in
        let outputs = (effect_of b 0 (state_at_start (world_at_start (length program.hosts) inputs))).world.outputs in
        record {
          goes = subst (λ j. Goes m j w) (sym same_tree) after.goes;
          outputs = ap (λ (j : Plan m.Act). printed_by m s.calls.hosts (joint m j w)) same_tree ∙ ap (printed_by m s.calls.hosts) after.runs ∙ ap (λ n. map (m.printed after.reached) (range_with_len 0 n)) (sym o.known)
              ∙ listed (m.printed after.reached) outputs 0 (λ i. ap (m.printed after.reached) (from_zero i) ∙ o.printed i) ∙ sym same_effect;
        }
      where
        from_zero : (i : ℕ) → 0 + i ≡ i
        from_zero i = omega arith

    -- the plan is tidy, and acts at declared hosts alone
    plan_orderly : Places m s → Orderly m s.calls.hosts ((emission_of m s proto b).emit (emitting_at_start s.calls proto)).tree (emission_of m s proto b).acts_at
    plan_orderly places =
        orderly m s proto laws places declared b nothing_seen 0 row seen fits valid (emitting_at_start s.calls proto) w (state_at_start (world_at_start (length program.hosts) inputs)) 0 (λ h. false) refl
        (λ h i. absurd (no_turns m s proto program made h i)) (omega arith) tied (λ h lt i. absurd (wrong i))
      where
        wrong : false ≡ true → ⊥
        wrong e = cc

    pub program_tidy : Places m s → Tidy m (plan_of m s proto program)
    program_tidy places = subst (Tidy m) (sym same_tree) (plan_orderly places).tidy

    pub program_needs_its_loops : Places m s → NeedsItsLoops m (plan_of m s proto program)
    program_needs_its_loops places = subst (NeedsItsLoops m) (sym same_tree) (plan_orderly places).needed

    pub program_within : Places m s → (h : ℕ) → active m (plan_of m s proto program) h ≡ true → h < s.calls.hosts
    program_within places h i = ((plan_orderly places).at h (subst (λ (j : Plan m.Act). active m j h ≡ true) same_tree i)).0
