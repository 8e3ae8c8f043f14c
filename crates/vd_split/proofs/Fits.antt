-- What a well-made program keeps at its start.
use Rattle.std.proofs.Common.{◌≡◌, ℕ, zero, suc, ◌^◌, ◌<◌, ◌≤◌, Bool, true, ◌&&◌, ◌||◌, not, nat_lt, nat_le, List, [], ◌∷◌, length, map, replicate, slice_index, slice_index_or, ◌⊎◌, inl, inr, refl, sym, ap, ◌∙◌, subst, arith}
use Rattle.std.proofs.lemmas.Bool.{eqb-true}
use Rattle.std.proofs.lemmas.Bool.Decides.{nat_tests}
use Rattle.std.specs.List.{list_all}
use Rattle.vd_base.specs.declared.operations.Op.{Op}
use Rattle.vd_base.specs.declared.operations.Op.TheVariants as op
use Rattle.vd_base.specs.declared.protocols.Proto.{Proto}
use Rattle.vd_core.specs.declared.normal.Right.{Right}
use Rattle.vd_core.specs.declared.normal.Right.TheVariants.{Lit, Turn, Copy, Apply, Input, Declassify, Endorse, Load, Get}
use Rattle.vd_core.specs.declared.normal.Stmt.{Stmt}
use Rattle.vd_core.specs.declared.normal.Stmt.TheOpen.{Stmt-F}
use Rattle.vd_core.specs.declared.normal.NormalForm.{NormalForm}
use Rattle.vd_core.specs.Facts.{nothing_seen, blocks_meet, of_rights, operands_fit, amount_fits, shift_fits, host_is_declared, turns_step, is_turn, has_turns_in_loops, IsWellMade, meets}
use Rattle.vd_semantics.specs.World.{world_at_start}
use Rattle.vd_semantics.specs.ProgramMeaning.{state_at_start}
use Rattle.vd_duet.specs.Laws.{NumberFits}
use Rattle.vd_split.specs.Block.{Block, End, Let, NewVar, NewArray, Store, Put, Output, If, For, block_of, each}
use Rattle.vd_split.specs.Joint.{Hosts}
use Rattle.vd_split.specs.Suite.{Suite}
use Rattle.vd_split.specs.Validity.{RightFits, Fits, turns_at}
use Rattle.vd_core.specs.Numbers.{NumbersFit, numbers_fit, number_fits, factor_fits}
use Rattle.vd_split.specs.Outcome.{Starts}
use Rattle.vd_split.proofs.Lists.{and_left, and_right, or_cases}
use Rattle.vd_split.proofs.Sight.{Use, Binding, Variable, Array, Sees}
use Rattle.vd_split.proofs.Tied.{Tied}
use Rattle.vd_split.proofs.Folds.{fold_each}

abbrev holds : (Stmt-F Bool → Bool) → Block → Bool
holds test b = list_all (λ x. x) (each (λ s. test s && blocks_meet s) b)

list_all_map : {A : Type 0} (f : A → Bool) (xs : List A) → list_all f xs ≡ list_all (λ x. x) (map f xs)
list_all_map f [] = refl
list_all_map f (x ∷ xs) = ap (λ z. f x && z) (list_all_map f xs)

all_hold : (test : Stmt-F Bool → Bool) (body : List Stmt) → list_all (meets test) body ≡ true → holds test (block_of body) ≡ true
all_hold test body h = sym (list_all_map (meets test) body ∙ ap (list_all (λ x. x)) (fold_each (λ s. test s && blocks_meet s) body)) ∙ h

lt_of : (a b : ℕ) → nat_lt a b ≡ true → a < b
lt_of a b h = grind (arith, nat_tests)

at_most : (a b : ℕ) → a < b → a ≤ b
at_most a b h = omega (arith, h)

le_of : (a b : ℕ) → nat_le a b ≡ true → a ≤ b
le_of a b h = grind (arith, nat_tests)

operation_does : (o : Op) → factor_fits o ≡ true → amount_fits o ≡ true → NumberFits o
operation_does op.Add e z = tt
operation_does op.Sub e z = tt
operation_does op.Mul e z = tt
operation_does (op.Scale k) e z = lt_of k (2 ^ 32) e
operation_does op.Div e z = tt
operation_does op.Rem e z = tt
operation_does op.And e z = tt
operation_does op.Or e z = tt
operation_does op.Xor e z = tt
operation_does op.Not e z = tt
operation_does op.Flip e z = tt
operation_does (op.Shl k) e z = (let q = le_of k 31 z in omega (arith, q))
operation_does (op.Shr k) e z = (let q = le_of k 31 z in omega (arith, q))
operation_does op.Eq e z = tt
operation_does op.Ne e z = tt
operation_does op.Lt e z = tt
operation_does op.Le e z = tt
operation_does op.Min e z = tt
operation_does op.Max e z = tt
operation_does op.Mux e z = tt

right_fits : (hosts : ℕ) (right : Right) → operands_fit right ≡ true → ((x : _) → host_is_declared hosts (Stmt-F.Let x right) ≡ true) → number_fits right ≡ true → shift_fits right ≡ true → RightFits hosts right
right_fits hosts (Lit n) a b c z = lt_of n (2 ^ 32) c
right_fits hosts Turn a b c z = tt
right_fits hosts (Copy y) a b c z = tt
right_fits hosts (Apply o ys) a b c z = (eqb-true _ _ a, operation_does o c z)
right_fits hosts (Input h) a b c z = lt_of h.0 hosts (b (record { 0 = 0 }))
right_fits hosts (Declassify y to) a b c z = tt
right_fits hosts (Endorse y to) a b c z = tt
right_fits hosts (Load v) a b c z = tt
right_fits hosts (Get v i) a b c z = tt

declared_anywhere : (hosts : ℕ) (right : Right) (x y : _) → host_is_declared hosts (Stmt-F.Let x right) ≡ true → host_is_declared hosts (Stmt-F.Let y right) ≡ true
declared_anywhere hosts (Lit n) x y h = refl
declared_anywhere hosts Turn x y h = refl
declared_anywhere hosts (Copy z) x y h = refl
declared_anywhere hosts (Apply o ys) x y h = refl
declared_anywhere hosts (Input k) x y h = h
declared_anywhere hosts (Declassify z to) x y h = refl
declared_anywhere hosts (Endorse z to) x y h = refl
declared_anywhere hosts (Load v) x y h = refl
declared_anywhere hosts (Get v i) x y h = refl

fits : (hosts : ℕ) (b : Block) → holds (of_rights operands_fit) b ≡ true → holds (host_is_declared hosts) b ≡ true → holds numbers_fit b ≡ true → holds (of_rights shift_fits) b ≡ true → Fits hosts b
fits hosts End p q r z = tt
fits hosts (Let x right rest) p q r z =
    let p' = and_left (operands_fit right && true) (holds (of_rights operands_fit) rest) p in
    let q' = and_left (host_is_declared hosts (Stmt-F.Let x right) && true) (holds (host_is_declared hosts) rest) q in
    let r' = and_left (number_fits right && true) (holds numbers_fit rest) r in (
      right_fits hosts right (and_left (operands_fit right) true p') (λ y. declared_anywhere hosts right x y (and_left (host_is_declared hosts (Stmt-F.Let x right)) true q')) (and_left (number_fits right) true r') (and_left (shift_fits right) true (and_left (shift_fits right && true) (holds (of_rights shift_fits) rest) z)),
      fits hosts rest (and_right (operands_fit right && true) _ p) (and_right (host_is_declared hosts (Stmt-F.Let x right) && true) _ q) (and_right (number_fits right && true) _ r) (and_right (shift_fits right && true) _ z),
    )
fits hosts (NewVar v x rest) p q r z = fits hosts rest p q r z
fits hosts (NewArray v cells rest) p q r z = fits hosts rest p q r z
fits hosts (Store v x rest) p q r z = fits hosts rest p q r z
fits hosts (Put v i x rest) p q r z = fits hosts rest p q r z
fits hosts (Output x h offset rest) p q r z = (lt_of h.0 hosts (and_left _ _ (and_left _ _ q)), fits hosts rest p (and_right _ _ q) r z)
fits hosts (If x t e offset rest) p q r z =
    let p' = and_left _ _ p in
    let q' = and_left _ _ q in
    let r' = and_left _ _ r in
    let z' = and_left _ _ z in
    (fits hosts t (and_left _ _ p') (and_left _ _ q') (and_left _ _ r') (and_left _ _ z'), fits hosts e (and_right _ _ p') (and_right _ _ q') (and_right _ _ r') (and_right _ _ z'), fits hosts rest (and_right _ _ p) (and_right _ _ q) (and_right _ _ r) (and_right _ _ z))
fits hosts (For count body rest) p q r z =
    (at_most count (2 ^ 32) (lt_of count (2 ^ 32) (and_left _ _ (and_left _ _ r))), fits hosts body (and_left _ _ p) (and_left _ _ q) (and_right _ _ (and_left _ _ r)) (and_left _ _ z), fits hosts rest (and_right _ _ p) (and_right _ _ q) (and_right _ _ r) (and_right _ _ z))

-- the numbers of a well-made program are words, its operations have their operands, and its hosts are declared
pub all_fit : (program : NormalForm) → IsWellMade program → NumbersFit program → Fits (length program.hosts) (block_of program.body)
all_fit program made numbers =
    fits (length program.hosts) (block_of program.body) (all_hold (of_rights operands_fit) program.body made.operands) (all_hold (host_is_declared (length program.hosts)) program.body made.known_hosts)
    (all_hold numbers_fit program.body numbers) (all_hold (of_rights shift_fits) program.body made.shifts)

module _ (m : Hosts) (s : Suite m) (proto : ℕ → Proto) where
  not_turn : (x : _) (right : Right) (rest : Block) (h : ℕ) → not (is_turn right) ≡ true → turns_at m s proto (Let x right rest) h ≡ true → turns_at m s proto rest h ≡ true
  not_turn x (Lit n) rest h a b = b
  not_turn x Turn rest h a b = cc
  not_turn x (Copy y) rest h a b = b
  not_turn x (Apply o ys) rest h a b = b
  not_turn x (Input k) rest h a b = b
  not_turn x (Declassify y to) rest h a b = b
  not_turn x (Endorse y to) rest h a b = b
  not_turn x (Load v) rest h a b = b
  not_turn x (Get v i) rest h a b = b

  -- outside of loops no turn is asked for
  no_turn : (b : Block) (h : ℕ) → list_all (λ x. x) (each turns_step b) ≡ true → turns_at m s proto b h ≡ true → ⊥
  no_turn End h p q = cc
  no_turn (Let x right rest) h p q = no_turn rest h (and_right _ _ p) (not_turn x right rest h (and_left _ _ p) q)
  no_turn (NewVar v x rest) h p q = no_turn rest h p q
  no_turn (NewArray v cells rest) h p q = no_turn rest h p q
  no_turn (Store v x rest) h p q = no_turn rest h p q
  no_turn (Put v i x rest) h p q = no_turn rest h p q
  no_turn (Output x k offset rest) h p q = no_turn rest h p q
  no_turn (If x t e offset rest) h p q =
      split (no_turn t h (and_left _ _ (and_left _ _ p))) (no_turn e h (and_right _ _ (and_left _ _ p))) (no_turn rest h (and_right _ _ p)) (or_cases _ _ q)
    where
      inner : (turns_at m s proto t h ≡ true → ⊥) → (turns_at m s proto e h ≡ true → ⊥) → (turns_at m s proto t h ≡ true) ⊎ (turns_at m s proto e h ≡ true) → ⊥
      inner f g (inl i) = f i
      inner f g (inr i) = g i

      split : (turns_at m s proto t h ≡ true → ⊥) → (turns_at m s proto e h ≡ true → ⊥) → (turns_at m s proto rest h ≡ true → ⊥) → ((turns_at m s proto t h || turns_at m s proto e h) ≡ true) ⊎ (turns_at m s proto rest h ≡ true) → ⊥
      split f g r (inl i) = inner f g (or_cases _ _ i)
      split f g r (inr i) = r i
  no_turn (For count body rest) h p q = no_turn rest h p q

  nothing_there : (u : Use) (x : ℕ) → Sees nothing_seen u x → ⊥
  nothing_there Binding x i = cc
  nothing_there Variable x i = cc
  nothing_there Array x i = cc

  none_at : (n h : ℕ) → let none : List ℕ = [] in slice_index_or (replicate n none) h none ≡ none
  none_at zero h = refl
  none_at (suc n) zero = refl
  none_at (suc n) (suc h) = none_at n h

  many : {A : Type 0} (n : ℕ) (x : A) → length (replicate n x) ≡ n
  many zero x = refl
  many (suc n) x = ap suc (many n x)

  -- outside of loops a well-made program asks for no turn
  pub no_turns : (program : NormalForm) → IsWellMade program → (h : ℕ) → turns_at m s proto (block_of program.body) h ≡ true → ⊥
  no_turns program made h e =
      no_turn (block_of program.body) h (sym (list_all_map has_turns_in_loops program.body ∙ ap (list_all (λ x. x)) (fold_each turns_step program.body)) ∙ made.turns) e

  -- before the first statement nothing is in sight
  pub tied_at_start : (hosts : ℕ) → s.calls.hosts ≡ hosts → (inputs : List (List ℕ)) (w : m.World) → Starts m inputs w
      → Tied m s proto nothing_seen (replicate s.calls.hosts 0) [] w (state_at_start (world_at_start hosts inputs))
  tied_at_start hosts is inputs w starts = record {
    ready = record { known = many s.calls.hosts 0; sound = starts.sound };
    made = λ u x i. absurd (nothing_there u x i);
    below = λ u x i. absurd (nothing_there u x i);
    apart = λ u x v y i. absurd (nothing_there u x i);
    stands = λ u x i. absurd (nothing_there u x i);
    outside = record {
      printed = λ h. starts.printed h ∙ sym (none_at hosts h);
      waiting = starts.waiting;
      words = λ h i. subst (λ z. slice_index z i < 2 ^ 32) (sym (starts.waiting h)) (starts.words h i);
      known = many hosts [] ∙ sym is;
    };
  }
