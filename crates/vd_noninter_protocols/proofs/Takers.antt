-- Who takes part in branches: by what the problem reads of them, and by their acts.
use Rattle.std.proofs.Common.{◌≡◌, ℕ, ◌<◌, nat_lt, ◌&&◌, ◌||◌, Bool, true, false, List, [], ◌∷◌, ◌++◌, map, length, refl, sym, ap, ap₂, ◌∙◌, arith}
use Rattle.std.specs.List.{list_all, list_any}
use Rattle.std.proofs.lemmas.Bool.Decides.{nat_tests}
use Rattle.std.proofs.lemmas.List.Folds.{list_any-append}
use Rattle.vd_base.specs.declared.ids.HostId.{HostId}
use Rattle.vd_base.specs.declared.ids.SlotId.{SlotId}
use Rattle.vd_base.specs.HostSets.{host, same_host}
use Rattle.vd_base.specs.Holders.{is_holder, proto_in}
use Rattle.vd_base.specs.declared.protocols.Proto.{Proto}
use Rattle.vd_core.specs.declared.normal.Right.{Right}
use Rattle.vd_core.specs.declared.normal.Right.TheVariants.{Lit, Turn, Copy, Apply, Input, Declassify, Endorse, Load, Get}
use Rattle.vd_core.specs.declared.normal.Stmt.TheOpen.{Stmt-F}
use Rattle.vd_constraints.specs.declared.labels.Labels.{Labels}
use Rattle.vd_constraints.specs.Scoped.{is_below, right_below, stmt_below}
use Rattle.vd_semantics.specs.ProgramMeaning.{Effect, stmt_effect}
use Rattle.vd_space.specs.Reading.{Read, all_named, all_told, named_by, read_step}
use Rattle.vd_split.specs.Block.{Block, End, Let, NewVar, NewArray, Store, Put, Output, If, For, each}
use Rattle.vd_split.specs.Suite.{Calls}
use Rattle.vd_split.specs.Emission.{Emission, right_takes_part, in_turn, stmt_emission}
use Rattle.vd_split.proofs.Front.{and_left, and_right}
use Rattle.vd_noninter_protocols.specs.Hearing.{run_of, read_of, heard_step, is_part, stands}
use Rattle.vd_noninter_protocols.proofs.Hosts.{same_turned, kept_at}

or_false : (a : Bool) → (a || false) ≡ a
or_false true = refl
or_false false = refl

grouped : (a b c : Bool) → (a || (b || c)) ≡ ((a || b) || c)
grouped true b c = refl
grouped false b c = refl

crossed : (a b c d : Bool) → ((a || b) || (c || d)) ≡ ((a || c) || (b || d))
crossed true b c d = refl
crossed false true true d = refl
crossed false true false d = refl
crossed false false c d = refl

branched : (a b x c d : Bool) → ((a || b) || (x || (c || d))) ≡ ((x || (a || c)) || (b || d))
branched a b true c d = all (a || b)
  where
    all : (z : Bool) → (z || true) ≡ true
    all true = refl
    all false = refl
branched a b false c d = crossed a b c d

pub below : (n : ℕ) (x : SlotId) → is_below n x ≡ true → x.0 < n
below n x e = lt_of x.0 n e
  where
    lt_of : (a b : ℕ) → nat_lt a b ≡ true → a < b
    lt_of a b h = grind (arith, nat_tests)

module _ (protocols : List Proto) (h : HostId) (l : Labels) where
  -- what comes to the host is a walk with what a statement does, and with what is read of it
  reads_each : (b : Block) → map read_of (each (heard_step protocols h l) b) ≡ each (read_step l) b
  reads_each End = refl
  reads_each (Let x right rest) = ap (λ (rs : List Read). read_step l (Stmt-F.Let x right) ∷ rs) (reads_each rest)
  reads_each (NewVar v y rest) = ap (λ (rs : List Read). read_step l (Stmt-F.NewVar v y) ∷ rs) (reads_each rest)
  reads_each (NewArray v size rest) = ap (λ (rs : List Read). read_step l (Stmt-F.NewArray v size) ∷ rs) (reads_each rest)
  reads_each (Store v y rest) = ap (λ (rs : List Read). read_step l (Stmt-F.Store v y) ∷ rs) (reads_each rest)
  reads_each (Put v i y rest) = ap (λ (rs : List Read). read_step l (Stmt-F.Put v i y) ∷ rs) (reads_each rest)
  reads_each (Output y k offset rest) = ap (λ (rs : List Read). read_step l (Stmt-F.Output y k offset) ∷ rs) (reads_each rest)
  reads_each (If x t e offset rest) =
      ap₂ (λ (r : Read) (rs : List Read). r ∷ rs) (ap₂ (λ (ts es : List Read). read_step l (Stmt-F.If x ts es offset)) (reads_each t) (reads_each e)) (reads_each rest)
  reads_each (For count body rest) = ap₂ (λ (bs rs : List Read). read_step l (Stmt-F.For count bs) ∷ rs) (reads_each body) (reads_each rest)

  pub runs_each : (b : Block) → map run_of (each (heard_step protocols h l) b) ≡ each stmt_effect b
  runs_each End = refl
  runs_each (Let x right rest) = ap (λ (fs : List Effect). stmt_effect (Stmt-F.Let x right) ∷ fs) (runs_each rest)
  runs_each (NewVar v y rest) = ap (λ (fs : List Effect). stmt_effect (Stmt-F.NewVar v y) ∷ fs) (runs_each rest)
  runs_each (NewArray v size rest) = ap (λ (fs : List Effect). stmt_effect (Stmt-F.NewArray v size) ∷ fs) (runs_each rest)
  runs_each (Store v y rest) = ap (λ (fs : List Effect). stmt_effect (Stmt-F.Store v y) ∷ fs) (runs_each rest)
  runs_each (Put v i y rest) = ap (λ (fs : List Effect). stmt_effect (Stmt-F.Put v i y) ∷ fs) (runs_each rest)
  runs_each (Output y k offset rest) = ap (λ (fs : List Effect). stmt_effect (Stmt-F.Output y k offset) ∷ fs) (runs_each rest)
  runs_each (If x t e offset rest) =
      ap₂ (λ (f : Effect) (fs : List Effect). f ∷ fs) (ap₂ (λ (ts es : List Effect). stmt_effect (Stmt-F.If x ts es offset)) (runs_each t) (runs_each e)) (runs_each rest)
  runs_each (For count body rest) = ap₂ (λ (bs fs : List Effect). stmt_effect (Stmt-F.For count bs) ∷ fs) (runs_each body) (runs_each rest)

  module _ {A P : Type 0} (s : Calls A P) where
    abbrev pub emits : Block → Emission s (proto_in protocols)
    emits b = in_turn s (proto_in protocols) (each (stmt_emission s (proto_in protocols)) b)

    abbrev pub low_block : Block → Bool
    low_block b = list_all (λ x. x) (each (stmt_below (length protocols)) b)

    abbrev kept : SlotId → Bool
    kept x = stands protocols h (λ p. is_holder p h) x

    abbrev at : SlotId → Bool
    at x = is_holder (proto_in protocols x.0) (host h.0)

    abbrev one_takes : Read → Bool
    one_takes r = list_any (same_host h) r.told || list_any kept r.named

    abbrev takes : List Read → Bool
    takes rs = list_any (same_host h) (all_told rs) || list_any kept (all_named rs)

    takes_more : (r : Read) (rs : List Read) → takes (r ∷ rs) ≡ (one_takes r || takes rs)
    takes_more r rs =
        ap₂ (λ (a b : Bool). a || b) (list_any-append (same_host h) r.told (all_told rs)) (list_any-append kept r.named (all_named rs))
        ∙ crossed (list_any (same_host h) r.told) (list_any (same_host h) (all_told rs)) (list_any kept r.named) (list_any kept (all_named rs))

    takes_both : (xs ys : List Read) → takes (xs ++ ys) ≡ (takes xs || takes ys)
    takes_both [] ys = refl
    takes_both (x ∷ xs) ys =
        takes_more x (xs ++ ys) ∙ ap (λ (b : Bool). one_takes x || b) (takes_both xs ys) ∙ grouped (one_takes x) (takes xs) (takes ys) ∙ ap (λ (b : Bool). b || takes ys) (sym (takes_more x xs))

    kept_is : (x : SlotId) → is_below (length protocols) x ≡ true → kept x ≡ at x
    kept_is x low = kept_at protocols h x (below (length protocols) x low)

    any_kept : (xs : List SlotId) → list_all (is_below (length protocols)) xs ≡ true → list_any kept xs ≡ list_any at xs
    any_kept [] low = refl
    any_kept (x ∷ xs) low =
        ap₂ (λ (a b : Bool). a || b) (kept_is x (and_left (is_below (length protocols) x) (list_all (is_below (length protocols)) xs) low)) (any_kept xs (and_right (is_below (length protocols) x) (list_all (is_below (length protocols)) xs) low))

    one_kept : (x : SlotId) → is_below (length protocols) x ≡ true → (kept x || false) ≡ at x
    one_kept x low = or_false (kept x) ∙ kept_is x low

    two_kept : (x y : SlotId) → is_below (length protocols) x ≡ true → is_below (length protocols) y ≡ true → (kept x || (kept y || false)) ≡ (at x || at y)
    two_kept x y low low' = ap₂ (λ (a b : Bool). a || b) (kept_is x low) (one_kept y low')

    right_kept : (right : Right) → right_below (length protocols) right ≡ true → list_any kept (named_by right) ≡ right_takes_part s (proto_in protocols) right h.0
    right_kept (Lit n) low = refl
    right_kept Turn low = refl
    right_kept (Copy y) low = one_kept y low
    right_kept (Apply o ys) low = any_kept ys low
    right_kept (Input k) low = refl
    right_kept (Declassify y to) low = one_kept y low
    right_kept (Endorse y to) low = one_kept y low
    right_kept (Load v) low = one_kept v low
    right_kept (Get v i) low = two_kept v i (and_left (is_below (length protocols) v) (is_below (length protocols) i) low) (and_right (is_below (length protocols) v) (is_below (length protocols) i) low)

    takers : (b : Block) → low_block b ≡ true → takes (each (read_step l) b) ≡ (emits b).takes_part h.0
    takers End low = refl
    takers (Let x right rest) low =
        let here = and_left (is_below (length protocols) x && right_below (length protocols) right) (low_block rest) low in
        takes_more (read_step l (Stmt-F.Let x right)) (each (read_step l) rest)
        ∙ ap₂ (λ (a b : Bool). a || b)
        (ap₂ (λ (a b : Bool). a || b) (kept_is x (and_left (is_below (length protocols) x) (right_below (length protocols) right) here)) (right_kept right (and_right (is_below (length protocols) x) (right_below (length protocols) right) here)))
        (takers rest (and_right (is_below (length protocols) x && right_below (length protocols) right) (low_block rest) low))
    takers (NewVar v y rest) low =
        let here = and_left (is_below (length protocols) v && is_below (length protocols) y) (low_block rest) low in
        takes_more (read_step l (Stmt-F.NewVar v y)) (each (read_step l) rest)
        ∙ ap₂ (λ (a b : Bool). a || b) (two_kept v y (and_left (is_below (length protocols) v) (is_below (length protocols) y) here) (and_right (is_below (length protocols) v) (is_below (length protocols) y) here))
        (takers rest (and_right (is_below (length protocols) v && is_below (length protocols) y) (low_block rest) low))
    takers (NewArray v size rest) low =
        takes_more (read_step l (Stmt-F.NewArray v size)) (each (read_step l) rest)
        ∙ ap₂ (λ (a b : Bool). a || b) (one_kept v (and_left (is_below (length protocols) v) (low_block rest) low)) (takers rest (and_right (is_below (length protocols) v) (low_block rest) low))
    takers (Store v y rest) low =
        let here = and_left (is_below (length protocols) v && is_below (length protocols) y) (low_block rest) low in
        takes_more (read_step l (Stmt-F.Store v y)) (each (read_step l) rest)
        ∙ ap₂ (λ (a b : Bool). a || b) (two_kept v y (and_left (is_below (length protocols) v) (is_below (length protocols) y) here) (and_right (is_below (length protocols) v) (is_below (length protocols) y) here))
        (takers rest (and_right (is_below (length protocols) v && is_below (length protocols) y) (low_block rest) low))
    takers (Put v i y rest) low =
        let here = and_left (is_below (length protocols) v && is_below (length protocols) i && is_below (length protocols) y) (low_block rest) low in
        let both = and_left (is_below (length protocols) v && is_below (length protocols) i) (is_below (length protocols) y) here in
        takes_more (read_step l (Stmt-F.Put v i y)) (each (read_step l) rest)
        ∙ ap₂ (λ (a b : Bool). a || b)
        (ap₂ (λ (a b : Bool). a || b) (kept_is v (and_left (is_below (length protocols) v) (is_below (length protocols) i) both))
        (two_kept i y (and_right (is_below (length protocols) v) (is_below (length protocols) i) both) (and_right (is_below (length protocols) v && is_below (length protocols) i) (is_below (length protocols) y) here))
        ∙ grouped (at v) (at i) (at y))
        (takers rest (and_right (is_below (length protocols) v && is_below (length protocols) i && is_below (length protocols) y) (low_block rest) low))
    takers (Output y k offset rest) low =
        takes_more (read_step l (Stmt-F.Output y k offset)) (each (read_step l) rest)
        ∙ ap₂ (λ (a b : Bool). a || b)
        (ap₂ (λ (a b : Bool). a || b) (or_false (same_host h k) ∙ same_turned h.0 k.0) (one_kept y (and_left (is_below (length protocols) y) (low_block rest) low)))
        (takers rest (and_right (is_below (length protocols) y) (low_block rest) low))
    takers (If x t e offset rest) low =
        let here = and_left (is_below (length protocols) x && low_block t && low_block e) (low_block rest) low in
        let first = and_left (is_below (length protocols) x && low_block t) (low_block e) here in
        let ts = each (read_step l) t in
        let es = each (read_step l) e in
        takes_more (read_step l (Stmt-F.If x ts es offset)) (each (read_step l) rest)
        ∙ ap₂ (λ (a b : Bool). a || b)
        (ap₂ (λ (a b : Bool). a || (kept x || b)) (list_any-append (same_host h) (all_told ts) (all_told es)) (list_any-append kept (all_named ts) (all_named es))
        ∙ branched (list_any (same_host h) (all_told ts)) (list_any (same_host h) (all_told es)) (kept x) (list_any kept (all_named ts)) (list_any kept (all_named es))
        ∙ ap₂ (λ (a b : Bool). a || b)
        (ap₂ (λ (a b : Bool). a || b) (kept_is x (and_left (is_below (length protocols) x) (low_block t) first)) (takers t (and_right (is_below (length protocols) x) (low_block t) first)))
        (takers e (and_right (is_below (length protocols) x && low_block t) (low_block e) here)))
        (takers rest (and_right (is_below (length protocols) x && low_block t && low_block e) (low_block rest) low))
    takers (For count body rest) low =
        takes_more (read_step l (Stmt-F.For count (each (read_step l) body))) (each (read_step l) rest)
        ∙ ap₂ (λ (a b : Bool). a || b) (takers body (and_left (low_block body) (low_block rest) low)) (takers rest (and_right (low_block body) (low_block rest) low))

    -- the guard is told to exactly the hosts that take part
    pub part_is : (x : SlotId) (t e : Block) → low_block t ≡ true → low_block e ≡ true
        → is_part protocols h x (each (heard_step protocols h l) t) (each (heard_step protocols h l) e) ≡ ((emits t).takes_part h.0 || (emits e).takes_part h.0)
    part_is x t e low low' =
        ap₂ (λ (xs ys : List Read). takes (xs ++ ys)) (reads_each t) (reads_each e) ∙ takes_both (each (read_step l) t) (each (read_step l) e) ∙ ap₂ (λ (a b : Bool). a || b) (takers t low) (takers e low')
