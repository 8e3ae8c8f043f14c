-- A well-made program can be emitted.
use Rattle.std.proofs.Common.{◌≡◌, ℕ, suc, ◌+◌, ◌-◌, ◌*◌, ◌<◌, ◌≤◌, Bool, true, false, ◌&&◌, ◌||◌, nat_eq, List, [], ◌∷◌, ◌++◌, length, map, length-append, refl, sym, ap, subst, ◌∙◌, arith}
use Rattle.std.proofs.lemmas.Bool.{eqb-true, eq-eqb, and_from}
use Rattle.std.proofs.lemmas.Bool.Decides.{nat_tests}
use Rattle.std.proofs.lemmas.List.Sums.{sum_by-cons}
use Rattle.std.specs.List.{concat, list_all, list_any, sum}
use Rattle.vd_base.specs.declared.ids.SlotId.{SlotId}
use Rattle.vd_base.specs.declared.protocols.Proto.{Proto}
use Rattle.vd_base.specs.Holders.{proto_in}
use Rattle.vd_core.specs.declared.normal.Right.{Right}
use Rattle.vd_core.specs.declared.normal.Right.TheVariants.{Lit, Turn, Copy, Apply, Input, Declassify, Endorse, Load, Get}
use Rattle.vd_core.specs.declared.normal.Stmt.{Stmt}
use Rattle.vd_core.specs.declared.normal.Stmt.TheOpen.{Stmt-F}
use Rattle.vd_core.specs.declared.normal.NormalForm.{NormalForm}
use Rattle.vd_core.specs.Facts.{Sight, nothing_seen, Seeing, slots_step, seeing_step, seeing_all, right_sees, with_binding, with_variable, with_array, meets, all_meet, blocks_meet, of_rights, operands_fit, host_is_declared, count_step, cells_step, statement_count, cell_count, IsWellMade}
use Rattle.vd_duet.specs.Builder.{HasRoom, register_bound}
use Rattle.vd_split.specs.Block.{Block, End, Let, NewVar, NewArray, Store, Put, Output, If, For, block_of, each}
use Rattle.vd_split.proofs.Lists.{and_left, and_right, InRow, row_of, row_front, row_back}
use Rattle.vd_split.proofs.Folds.{fold_each}
use Rattle.vd_split.specs.Offer.{Offer, has_parts, right_stands, stmt_stands, right_fits, Fitting, fits_all, fit_step, block_fit, AreServed, AreHeld, CanEmit}
use Rattle.vd_split.proofs.Rooms.{room_less}

abbrev holds : (Stmt-F Bool → Bool) → Block → Bool
holds test b = list_all (λ x. x) (each (λ s. test s && blocks_meet s) b)

list_all_map : {A : Type 0} (f : A → Bool) (xs : List A) → list_all f xs ≡ list_all (λ x. x) (map f xs)
list_all_map f [] = refl
list_all_map f (x ∷ xs) = ap (λ z. f x && z) (list_all_map f xs)

all_hold : (test : Stmt-F Bool → Bool) (body : List Stmt) → list_all (meets test) body ≡ true → holds test (block_of body) ≡ true
all_hold test body h = sym (list_all_map (meets test) body ∙ ap (list_all (λ x. x)) (fold_each (λ s. test s && blocks_meet s) body)) ∙ h

abbrev slots : Block → List ℕ
slots b = concat (each slots_step b)

abbrev sees : Block → Seeing
sees b = seeing_all (each seeing_step b)

-- what is in sight has parts
record Known (n : ℕ) (o : Sight) : Type 0 where
  pub bindings : (x : ℕ) → list_any (nat_eq x) o.bindings ≡ true → x < n
  pub variables : (x : ℕ) → list_any (nat_eq x) o.variables ≡ true → x < n
  pub arrays : (x : ℕ) → list_any (nat_eq x) o.arrays ≡ true → x < n

known_more : (n m : ℕ) (o : Sight) → n ≤ m → Known n o → Known m o
known_more n m o le k =
    record {
      bindings = λ x i. (let lt = k.bindings x i in omega (arith, lt));
      variables = λ x i. (let lt = k.variables x i in omega (arith, lt));
      arrays = λ x i. (let lt = k.arrays x i in omega (arith, lt));
    }

-- one more
among : (n y : ℕ) (ys : List ℕ) → y ≡ n → ((x : ℕ) → list_any (nat_eq x) ys ≡ true → x < n) → (x : ℕ) → list_any (nat_eq x) (y ∷ ys) ≡ true → x < n + 1
among n y ys e k x i = at (nat_eq x y) refl i
  where
    at : (b : Bool) → nat_eq x y ≡ b → (b || list_any (nat_eq x) ys) ≡ true → x < n + 1
    at true is h = (let same = eqb-true x y is in omega (arith, same, e))
    at false is h = (let lt = k x h in omega (arith, lt))

known_binding : (n : ℕ) (x : SlotId) (o : Sight) → x.0 ≡ n → Known n o → Known (n + 1) (with_binding x o)
known_binding n x o e k = let k' = known_more n (n + 1) o (omega arith) k in record { bindings = among n x.0 o.bindings e k.bindings; variables = k'.variables; arrays = k'.arrays }

known_variable : (n : ℕ) (x : SlotId) (o : Sight) → x.0 ≡ n → Known n o → Known (n + 1) (with_variable x o)
known_variable n x o e k = let k' = known_more n (n + 1) o (omega arith) k in record { bindings = k'.bindings; variables = among n x.0 o.variables e k.variables; arrays = k'.arrays }

known_array : (n : ℕ) (x : SlotId) (o : Sight) → x.0 ≡ n → Known n o → Known (n + 1) (with_array x o)
known_array n x o e k = let k' = known_more n (n + 1) o (omega arith) k in record { bindings = k'.bindings; variables = k'.variables; arrays = among n x.0 o.arrays e k.arrays }

below : (n : ℕ) (x : SlotId) → x.0 < n → has_parts n x ≡ true
below n x lt = grind (arith, nat_tests)

all_below : (n : ℕ) (o : Sight) (xs : List SlotId) → Known n o → list_all (λ (x : SlotId). list_any (nat_eq x.0) o.bindings) xs ≡ true → list_all (has_parts n) xs ≡ true
all_below n o [] k h = refl
all_below n o (x ∷ xs) k h = and_from _ _ (below n x (k.bindings x.0 (and_left _ _ h))) (all_below n o xs k (and_right _ _ h))

module _ {P : Type 0} (o : Offer P) (protos : List Proto) where
  right : (q : Proto) (r : Right) (n : ℕ) (s : Sight) → Known n s → right_sees r s ≡ true → operands_fit r ≡ true → ((x : SlotId) → host_is_declared o.calls.hosts (Stmt-F.Let x r) ≡ true) → right_stands o protos q r ≡ true
      → right_fits o protos q r n ≡ true
  right q (Lit v) n s k a b c d = refl
  right q Turn n s k a b c d = refl
  right q (Copy x) n s k a b c d = below n x (k.bindings x.0 a)
  right q (Apply op xs) n s k a b c d = and_from _ _ (and_from _ _ (all_below n s xs k a) b) d
  right q (Input h) n s k a b c d = and_from _ _ (c (record { 0 = 0 })) d
  right q (Declassify x to) n s k a b c d = below n x (k.bindings x.0 a)
  right q (Endorse x to) n s k a b c d = below n x (k.bindings x.0 a)
  right q (Load v) n s k a b c d = below n v (k.variables v.0 a)
  right q (Get v i) n s k a b c d = and_from _ _ (below n v (k.arrays v.0 (and_left _ _ a))) (below n i (k.bindings i.0 (and_right _ _ a)))

  declared : (hosts : ℕ) (r : Right) (x y : SlotId) → host_is_declared hosts (Stmt-F.Let x r) ≡ true → host_is_declared hosts (Stmt-F.Let y r) ≡ true
  declared hosts (Lit n) x y h = refl
  declared hosts Turn x y h = refl
  declared hosts (Copy z) x y h = refl
  declared hosts (Apply o ys) x y h = refl
  declared hosts (Input k) x y h = h
  declared hosts (Declassify z to) x y h = refl
  declared hosts (Endorse z to) x y h = refl
  declared hosts (Load v) x y h = refl
  declared hosts (Get v i) x y h = refl

  abbrev fits : Block → Fitting
  fits b = fits_all (each (fit_step o protos) b)

  record Emittable (b : Block) (n : ℕ) : Type 0 where
    pub all : (fits b n).all ≡ true
    pub after : (fits b n).after ≡ n + length (slots b)

  one : (x n : ℕ) → x ≡ n → nat_eq x n ≡ true
  one x n e = eq-eqb x n e

  step : (n k : ℕ) → n + 1 + k ≡ n + suc k
  step n k = omega arith

  abbrev Fits : Block → Type 0
  Fits b =
      (s : Sight) (n : ℕ) → Known n s → (sees b s).all ≡ true → InRow n (slots b) → holds (of_rights operands_fit) b ≡ true → holds (host_is_declared o.calls.hosts) b ≡ true → holds (stmt_stands o protos) b ≡ true
      → Emittable b n

  emittable : (b : Block) → Fits b
  emittable End s n k a row p q r = record { all = refl; after = none n }
    where
      none : (n : ℕ) → n ≡ n + 0
      none n = omega arith
  emittable (Let x right' rest) s n k a row p q r =
      let p' = and_left (operands_fit right' && true) (holds (of_rights operands_fit) rest) p in
      let q' = and_left (host_is_declared o.calls.hosts (Stmt-F.Let x right') && true) (holds (host_is_declared o.calls.hosts) rest) q in
      let r' = and_left (right_stands o protos (proto_in protos x.0) right' && true) (holds (stmt_stands o protos) rest) r in
      let more = emittable rest (with_binding x s) (n + 1) (known_binding n x s row.0 k) (and_right (right_sees right' s) _ a) row.1 (and_right (operands_fit right' && true) _ p) (and_right (host_is_declared o.calls.hosts (Stmt-F.Let x right') && true) _ q)
      (and_right (right_stands o protos (proto_in protos x.0) right' && true) _ r) in
      record {
        all = and_from _ _ (and_from _ _ (one x.0 n row.0) (right (proto_in protos x.0) right' n s k (and_left (right_sees right' s) _ a) (and_left (operands_fit right') true p') (λ y. declared o.calls.hosts right' x y (and_left (host_is_declared o.calls.hosts (Stmt-F.Let x right')) true q')) (and_left (right_stands o protos (proto_in protos x.0) right') true r'))) more.all;
        after = more.after ∙ step n (length (slots rest));
      }
  emittable (NewVar v x rest) s n k a row p q r =
      let more = emittable rest (with_variable v s) (n + 1) (known_variable n v s row.0 k) (and_right _ _ a) row.1 p q r in
      record { all = and_from _ _ (and_from _ _ (one v.0 n row.0) (below n x (k.bindings x.0 (and_left _ _ a)))) more.all; after = more.after ∙ step n (length (slots rest)) }
  emittable (NewArray v cells rest) s n k a row p q r =
      let more = emittable rest (with_array v s) (n + 1) (known_array n v s row.0 k) a row.1 p q r in
      record { all = and_from _ _ (one v.0 n row.0) more.all; after = more.after ∙ step n (length (slots rest)) }
  emittable (Store v x rest) s n k a row p q r =
      let here = and_left _ _ a in
      let more = emittable rest s n k (and_right _ _ a) row p q r in
      record { all = and_from _ _ (and_from _ _ (below n v (k.variables v.0 (and_left _ _ here))) (below n x (k.bindings x.0 (and_right _ _ here)))) more.all; after = more.after }
  emittable (Put v i x rest) s n k a row p q r =
      let here = and_left _ _ a in
      let more = emittable rest s n k (and_right _ _ a) row p q r in
      record {
        all = and_from _ _ (and_from _ _ (and_from _ _ (below n v (k.arrays v.0 (and_left _ _ (and_left _ _ here)))) (below n i (k.bindings i.0 (and_right _ _ (and_left _ _ here))))) (below n x (k.bindings x.0 (and_right _ _ here)))) more.all;
        after = more.after;
      }
  emittable (Output x h offset rest) s n k a row p q r =
      let more = emittable rest s n k (and_right _ _ a) row p (and_right _ _ q) r in
      record { all = and_from _ _ (and_from _ _ (below n x (k.bindings x.0 (and_left _ _ a))) (and_left _ _ (and_left _ _ q))) more.all; after = more.after }
  emittable (If x t e offset rest) s n k a row p q r =
      let here = and_left _ _ a in
      let inner = row_front n (slots t ++ slots e) (slots rest) row in
      let nt = n + length (slots t) in
      let f = emittable t s n k (and_right _ _ (and_left _ _ here)) (row_front n (slots t) (slots e) inner) (and_left _ _ (and_left _ _ p)) (and_left _ _ (and_left _ _ q)) (and_left _ _ (and_left _ _ r)) in
      let g = emittable e s nt (known_more n nt s (omega arith) k) (and_right _ _ here) (row_back n (slots t) (slots e) inner) (and_right _ _ (and_left _ _ p)) (and_right _ _ (and_left _ _ q)) (and_right _ _ (and_left _ _ r)) in
      let both = n + length (slots t ++ slots e) in
      let h = emittable rest s both (known_more n both s (omega arith) k) (and_right _ _ a) (row_back n (slots t ++ slots e) (slots rest) row) (and_right _ _ p) (and_right _ _ q) (and_right _ _ r) in
      let g' = subst (Emittable e) (sym f.after) g in
      let ends = ap (λ (m : ℕ). (fits e m).after) f.after ∙ g.after ∙ counts n (slots t) (slots e) in
      let h' = subst (Emittable rest) (sym ends) h in
      record {
        all = and_from _ _ (and_from _ _ (and_from _ _ (below n x (k.bindings x.0 (and_left _ _ (and_left _ _ here)))) f.all) g'.all) h'.all;
        after = ap (λ (m : ℕ). (fits rest m).after) ends ∙ h.after ∙ sums n (slots t ++ slots e) (slots rest);
      }
    where
      counts : (n : ℕ) (xs ys : List ℕ) → n + length xs + length ys ≡ n + length (xs ++ ys)
      counts n xs ys = omega (arith, length-append xs ys)

      sums : (n : ℕ) (xs ys : List ℕ) → n + length xs + length ys ≡ n + length (xs ++ ys)
      sums n xs ys = omega (arith, length-append xs ys)
  emittable (For count body rest) s n k a row p q r =
      let nb = n + length (slots body) in
      let f = emittable body s n k (and_left _ _ a) (row_front n (slots body) (slots rest) row) (and_left _ _ p) (and_left _ _ q) (and_left _ _ r) in
      let h = emittable rest s nb (known_more n nb s (omega arith) k) (and_right _ _ a) (row_back n (slots body) (slots rest) row) (and_right _ _ p) (and_right _ _ q) (and_right _ _ r) in
      let h' = subst (Emittable rest) (sym f.after) h in
      record { all = and_from _ _ f.all h'.all; after = ap (λ (m : ℕ). (fits rest m).after) f.after ∙ h.after ∙ sums n (slots body) (slots rest) }
    where
      sums : (n : ℕ) (xs ys : List ℕ) → n + length xs + length ys ≡ n + length (xs ++ ys)
      sums n xs ys = omega (arith, length-append xs ys)

  -- ---- the registers that are taken

  count_next : (n : ℕ) (ns : List ℕ) → sum (n ∷ ns) ≡ n + sum ns
  count_next n ns = sum_by-cons (λ (k : ℕ). k) n ns

  abbrev counted : Block → ℕ
  counted b = sum (each count_step b)

  abbrev cells : Block → ℕ
  cells b = sum (each cells_step b)

  -- a statement takes so many, and so do the others
  add_up : (one more n c ns cs k z : ℕ) → one ≤ 16384 * n + c → more ≤ 16384 * ns + cs → k ≡ n + ns → z ≡ c + cs → one + more ≤ 16384 * k + z
  add_up one more n c ns cs k z p q e f = omega (arith, p, q, e, f)

  taken : (b : Block) (n : ℕ) → (fits b n).taken ≤ 16384 * counted b + cells b
  taken End n = omega arith
  taken (Let x r rest) n = add_up 16384 (fits rest (n + 1)).taken 1 0 _ _ _ _ (omega arith) (taken rest (n + 1)) (count_next 1 (each count_step rest)) (count_next 0 (each cells_step rest))
  taken (NewVar v x rest) n = add_up 16384 (fits rest (n + 1)).taken 1 0 _ _ _ _ (omega arith) (taken rest (n + 1)) (count_next 1 (each count_step rest)) (count_next 0 (each cells_step rest))
  taken (NewArray v c rest) n = add_up (16384 + c) (fits rest (n + 1)).taken 1 c _ _ _ _ (omega arith) (taken rest (n + 1)) (count_next 1 (each count_step rest)) (count_next c (each cells_step rest))
  taken (Store v x rest) n = add_up 16384 (fits rest n).taken 1 0 _ _ _ _ (omega arith) (taken rest n) (count_next 1 (each count_step rest)) (count_next 0 (each cells_step rest))
  taken (Put v i x rest) n = add_up 16384 (fits rest n).taken 1 0 _ _ _ _ (omega arith) (taken rest n) (count_next 1 (each count_step rest)) (count_next 0 (each cells_step rest))
  taken (Output x h offset rest) n = add_up 16384 (fits rest n).taken 1 0 _ _ _ _ (omega arith) (taken rest n) (count_next 1 (each count_step rest)) (count_next 0 (each cells_step rest))
  taken (If x t e offset rest) n =
      let nt = (fits t n).after in
      let ne = (fits e nt).after in
      add_up (16384 + (fits t n).taken + (fits e nt).taken) (fits rest ne).taken (1 + counted t + counted e) (cells t + cells e) _ _ _ _ (both _ _ _ _ _ _ (taken t n) (taken e nt)) (taken rest ne)
      (count_next (1 + counted t + counted e) (each count_step rest)) (count_next (cells t + cells e) (each cells_step rest))
    where
      both : (a b n c m d : ℕ) → a ≤ 16384 * n + c → b ≤ 16384 * m + d → 16384 + a + b ≤ 16384 * (1 + n + m) + (c + d)
      both a b n c m d p q = omega (arith, p, q)
  taken (For count body rest) n =
      let nb = (fits body n).after in
      add_up (16384 + (fits body n).taken) (fits rest nb).taken (1 + counted body) (cells body) _ _ _ _ (within _ _ _ (taken body n)) (taken rest nb)
      (count_next (1 + counted body) (each count_step rest)) (count_next (cells body) (each cells_step rest))
    where
      within : (a n c : ℕ) → a ≤ 16384 * n + c → 16384 + a ≤ 16384 * (1 + n) + c
      within a n c p = omega (arith, p)

  -- ---- a program

  none_held : AreHeld o protos []
  none_held = record { at = λ x lt. absurd (omega (arith, lt)) }

  pub program_can : (program : NormalForm) → IsWellMade program → length program.hosts ≡ o.calls.hosts → AreServed o protos → all_meet (stmt_stands o protos) program.body ≡ true
      → (next : List ℕ) → length next ≡ o.calls.hosts → HasRoom (register_bound - 1) next → CanEmit o protos (block_fit o protos program.body) [] next
  program_can program made hosts served stands next known room =
      let b = block_of program.body in
      let row : InRow 0 (slots b) = row_of 0 (length program.slots) (slots b) (sym (ap concat (fold_each slots_step program.body)) ∙ made.in_order) in
      let seen : (sees b nothing_seen).all ≡ true = ap (λ (l : List Seeing). (seeing_all l nothing_seen).all) (sym (fold_each seeing_step program.body)) ∙ made.made_before in
      let nobody : Known 0 nothing_seen = record { bindings = λ x i. absurd (opposite i); variables = λ x i. absurd (opposite i); arrays = λ x i. absurd (opposite i) } in
      let e = emittable b nothing_seen 0 nobody seen row (all_hold (of_rights operands_fit) program.body made.operands)
      (subst (λ (n : ℕ). holds (host_is_declared n) b ≡ true) hosts (all_hold (host_is_declared (length program.hosts)) program.body made.known_hosts)) (all_hold (stmt_stands o protos) program.body stands) in
      let same : fits b ≡ block_fit o protos program.body = sym (ap fits_all (fold_each (fit_step o protos) program.body)) in
      let counts : counted b ≡ statement_count program.body = sym (ap sum (fold_each count_step program.body)) in
      let sizes : cells b ≡ cell_count program.body = sym (ap sum (fold_each cells_step program.body)) in
      let most = subst (λ (f : Fitting). (f 0).taken ≤ 16384 * counted b + cells b) same (taken b 0) in
      let limits = made.limits in
      record {
        fits = ap (λ (f : Fitting). (f 0).all) (sym same) ∙ e.all;
        ready = record { served = served; placed = none_held; known = known; room = room_less (block_fit o protos program.body 0).taken (register_bound - 1) next room (enough _ _ _ _ _ most counts sizes limits.statements limits.cells) };
      }
    where
      opposite : false ≡ true → ⊥
      opposite e = cc

      enough : (t a b c d : ℕ) → t ≤ 16384 * a + b → a ≡ c → b ≡ d → c ≤ 512 → d ≤ 65536 → t ≤ 3000000000 - 1
      enough t a b c d p e f g h = omega (arith, p, e, f, g, h)
