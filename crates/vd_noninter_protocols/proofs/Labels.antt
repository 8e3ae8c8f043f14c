-- The labels of a program do not matter to what comes to a host at given protocols.
use Rattle.std.proofs.Common.{◌≡◌, ℕ, zero, suc, Bool, true, false, nat_eq, List, [], ◌∷◌, ◌++◌, map, refl, sym, ap, ◌∙◌, subst, if◌then◌else◌}
use Rattle.vd_base.specs.declared.ids.HostId.{HostId}
use Rattle.vd_base.specs.declared.ids.SlotId.{SlotId}
use Rattle.vd_base.specs.declared.protocols.Proto.{Proto}
use Rattle.vd_core.specs.declared.normal.Stmt.{Stmt, roll-Stmt, map-Stmt, ind-Stmt}
use Rattle.vd_core.specs.declared.normal.Stmt.TheOpen.{Stmt-F}
use Rattle.vd_core.specs.declared.normal.Stmt.TheFolds.{fold-roll-Stmt}
use Rattle.vd_constraints.specs.declared.labels.Labels.{Labels}
use Rattle.vd_semantics.specs.ProgramMeaning.{SlotState, word_at, in_order}
use Rattle.vd_semantics.specs.Turns.{turns}
use Rattle.vd_space.specs.Reading.{all_named, all_told}
use Rattle.vd_noninter_protocols.specs.Hearing.{Heard, run_of, read_of, heard_in_order, heard_in_turns, is_part, heard_step, heard}

module _ (protocols : List Proto) (h : HostId) (l l' : Labels) where
  -- the same is done and heard, and the same slots and hosts are named
  record Same (a b : Heard) : Type 0 where
    run : (turn : ℕ) (s : SlotState) → a.run turn s ≡ b.run turn s
    words : (turn : ℕ) (s : SlotState) → a.words turn s ≡ b.words turn s
    named : a.read.named ≡ b.read.named
    told : a.read.told ≡ b.read.told

  abbrev R : Type 0
  R = (s : Stmt) × Same (heard protocols h l s) (heard protocols h l' s)

  abbrev bare : Stmt-F R → Stmt-F Stmt
  bare = map-Stmt R Stmt (λ m. m.0)

  abbrev by : Labels → List R → List Heard
  by k ms = map (heard protocols h k) (map {B = Stmt} (λ (m : R). m.0) ms)

  runs : (ms : List R) (turn : ℕ) (s : SlotState) → in_order (map run_of (by l ms)) turn s ≡ in_order (map run_of (by l' ms)) turn s
  runs [] turn s = refl
  runs (m ∷ ms) turn s = ap (in_order (map run_of (by l ms)) turn) (m.1.run turn s) ∙ runs ms turn ((heard protocols h l' m.0).run turn s)

  words : (ms : List R) (turn : ℕ) (s : SlotState) → heard_in_order (by l ms) turn s ≡ heard_in_order (by l' ms) turn s
  words [] turn s = refl
  words (m ∷ ms) turn s = rw (m.1.words turn s, m.1.run turn s, words ms turn ((heard protocols h l' m.0).run turn s)) refl

  in_turns : (n : ℕ) (ms : List R) (s : SlotState) → turns n (in_order (map run_of (by l ms))) s ≡ turns n (in_order (map run_of (by l' ms))) s
  in_turns zero ms s = refl
  in_turns (suc n) ms s = ap (in_order (map run_of (by l ms)) n) (in_turns n ms s) ∙ runs ms n (turns n (in_order (map run_of (by l' ms))) s)

  words_in_turns : (n : ℕ) (ms : List R) (s : SlotState) → heard_in_turns n (by l ms) s ≡ heard_in_turns n (by l' ms) s
  words_in_turns zero ms s = refl
  words_in_turns (suc n) ms s = rw (words_in_turns n ms s, in_turns n ms s, words ms n (turns n (in_order (map run_of (by l' ms))) s)) refl

  all_named_same : (ms : List R) → all_named (map read_of (by l ms)) ≡ all_named (map read_of (by l' ms))
  all_named_same [] = refl
  all_named_same (m ∷ ms) = rw (m.1.named, all_named_same ms) refl

  all_told_same : (ms : List R) → all_told (map read_of (by l ms)) ≡ all_told (map read_of (by l' ms))
  all_told_same [] = refl
  all_told_same (m ∷ ms) = rw (m.1.told, all_told_same ms) refl

  both_named : (a b : List R) → all_named (map read_of (by l a) ++ map read_of (by l b)) ≡ all_named (map read_of (by l' a) ++ map read_of (by l' b))
  both_named [] b = all_named_same b
  both_named (m ∷ a) b = rw (m.1.named, both_named a b) refl

  both_told : (a b : List R) → all_told (map read_of (by l a) ++ map read_of (by l b)) ≡ all_told (map read_of (by l' a) ++ map read_of (by l' b))
  both_told [] b = all_told_same b
  both_told (m ∷ a) b = rw (m.1.told, both_told a b) refl

  part_same : (g : SlotId) (a b : List R) → is_part protocols h g (by l a) (by l b) ≡ is_part protocols h g (by l' a) (by l' b)
  part_same g a b = rw (both_named a b, both_told a b) refl

  chosen_runs : (test : Bool) (a b : List R) (turn : ℕ) (s : SlotState)
      → in_order (if test then map run_of (by l b) else map run_of (by l a)) turn s ≡ in_order (if test then map run_of (by l' b) else map run_of (by l' a)) turn s
  chosen_runs true a b turn s = runs b turn s
  chosen_runs false a b turn s = runs a turn s

  chosen_words : (test : Bool) (a b : List R) (turn : ℕ) (s : SlotState)
      → heard_in_order (if test then by l b else by l a) turn s ≡ heard_in_order (if test then by l' b else by l' a) turn s
  chosen_words true a b turn s = words b turn s
  chosen_words false a b turn s = words a turn s

  same_step : (y : Stmt-F R)
      → Same (heard_step protocols h l (map-Stmt Stmt Heard (heard protocols h l) (bare y))) (heard_step protocols h l' (map-Stmt Stmt Heard (heard protocols h l') (bare y)))
  same_step (Stmt-F.Let x r) = record { run = λ turn s. refl; words = λ turn s. refl; named = refl; told = refl }
  same_step (Stmt-F.NewVar v y) = record { run = λ turn s. refl; words = λ turn s. refl; named = refl; told = refl }
  same_step (Stmt-F.NewArray v size) = record { run = λ turn s. refl; words = λ turn s. refl; named = refl; told = refl }
  same_step (Stmt-F.Store v y) = record { run = λ turn s. refl; words = λ turn s. refl; named = refl; told = refl }
  same_step (Stmt-F.Put v i y) = record { run = λ turn s. refl; words = λ turn s. refl; named = refl; told = refl }
  same_step (Stmt-F.Output y k offset) = record { run = λ turn s. refl; words = λ turn s. refl; named = refl; told = refl }
  same_step (Stmt-F.If g a b offset) = record {
    run = λ turn s. chosen_runs (nat_eq (word_at s g) 0) a b turn s;
    words = λ turn s. rw (part_same g a b, chosen_words (nat_eq (word_at s g) 0) a b turn s) refl;
    named = rw (all_named_same a, all_named_same b) refl;
    told = rw (all_told_same a, all_told_same b) refl;
  }
  same_step (Stmt-F.For count body) = record {
    run = λ turn s. in_turns count body s;
    words = λ turn s. words_in_turns count body s;
    named = all_named_same body;
    told = all_told_same body;
  }

  same_heard : (s : Stmt) → Same (heard protocols h l s) (heard protocols h l' s)
  same_heard = ind-Stmt (λ s. Same (heard protocols h l s) (heard protocols h l' s)) (λ x y is. subst (λ z. Same (heard protocols h l (roll-Stmt z)) (heard protocols h l' (roll-Stmt z))) is (at_roll y))
    where
      at_roll : (y : Stmt-F R) → Same (heard protocols h l (roll-Stmt (bare y))) (heard protocols h l' (roll-Stmt (bare y)))
      at_roll y =
          subst (λ z. Same z (heard protocols h l' (roll-Stmt (bare y)))) (sym (fold-roll-Stmt Heard (heard_step protocols h l) (bare y)))
          (subst (λ z. Same (heard_step protocols h l (map-Stmt Stmt Heard (heard protocols h l) (bare y))) z) (sym (fold-roll-Stmt Heard (heard_step protocols h l') (bare y))) (same_step y))

  -- the words of statements, one after another
  pub labels_free : (body : List Stmt) (turn : ℕ) (s : SlotState) → heard_in_order (map (heard protocols h l) body) turn s ≡ heard_in_order (map (heard protocols h l') body) turn s
  labels_free [] turn s = refl
  labels_free (x ∷ body) turn s = rw ((same_heard x).words turn s, (same_heard x).run turn s, labels_free body turn ((heard protocols h l' x).run turn s)) refl
