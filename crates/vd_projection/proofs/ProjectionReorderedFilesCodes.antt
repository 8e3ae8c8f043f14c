-- The code of a host that stands in a file where another one does, and is not longer.
use Rattle.std.proofs.Common.{◌≡◌, ℕ, zero, suc, ◌+◌, ◌*◌, ◌-◌, ◌≤◌, max, nat_eq, nat_le, Bool, true, false, ◌&&◌, if◌then◌else◌, List, [], ◌∷◌, ◌++◌, length, map, Option, Some, None, mul-le-mul_left, refl, sym, ap, ◌∙◌, subst, arith}
use Rattle.std.proofs.lemmas.List.{length-append}
use Rattle.std.specs.List.{list_all, AllByRecursion}
use Rattle.vd_base.specs.HostSets.{host}
use Rattle.vd_base.specs.Words.{IsWord}
use Rattle.vd_base.specs.declared.ids.HostId.{HostId}
use Rattle.vd_execution.specs.declared.instructions.Reg.{Reg}
use Rattle.vd_execution.specs.declared.instructions.Instr.{Instr}
use Rattle.vd_execution.specs.declared.instructions.Instr.TheVariants as instr
use Rattle.vd_execution.specs.Code.{Code, Finished, Then, Send, Recv, Choose, Repeat, weight}
use Rattle.vd_execution.specs.Joint.{Part, if_part}
use Rattle.vd_execution.specs.Ranges.{depth}
use Rattle.vd_reorder.specs.Hastening.{Piece, Acts, Sends, Awaits, before, Place, Here, Behind, InFirst, InOther, InBody, BehindBranch, BehindLoop, with_code, Stretch, One, Branch, Loop, stretch_before, IsExchanged, Exchanges, IsHastened}
use Rattle.vd_hostcode.specs.Lines.{HasNumbers}
use Rattle.vd_hostcode.specs.Ranges.{is_register, is_peer, packet_is_within}
use Rattle.vd_projection.proofs.Numbers.{both, is_at_most}
use Rattle.vd_projection.proofs.Bulk.{code_bulk}
use Rattle.vd_projection.proofs.Instrs.{CanStand, AllCanStand}

-- ---- two packets that share

parts : (a b : Bool) → (a && b) ≡ true → (a ≡ true) × (b ≡ true)
parts true b e = (refl, e)
parts false b e = absurd cc

registers_both : (rs qs : List Reg) → list_all is_register rs ≡ true → list_all is_register qs ≡ true → list_all is_register (rs ++ qs) ≡ true
registers_both [] qs e f = f
registers_both (r ∷ rs) qs e f =
    let w = parts (is_register r) (list_all is_register rs) e in both (is_register r) (list_all is_register (rs ++ qs)) w.0 (registers_both rs qs w.1 f)

words_both : (rs qs : List Reg) → AllByRecursion IsWord (map (λ r. r.0) rs) → AllByRecursion IsWord (map (λ r. r.0) qs) → AllByRecursion IsWord (map (λ r. r.0) (rs ++ qs))
words_both [] qs a b = b
words_both (r ∷ rs) qs a b = (a.0, words_both rs qs a.1 b)

length_of : (rs : List Reg) → length (map (λ r. r.0) rs) ≡ length rs
length_of [] = refl
length_of (r ∷ rs) = ap suc (length_of rs)

packet_both : (hosts : ℕ) (me p : HostId) (rs qs : List Reg) → packet_is_within hosts me p rs ≡ true → packet_is_within hosts me p qs ≡ true → length (rs ++ qs) ≤ 16
    → packet_is_within hosts me p (rs ++ qs) ≡ true
packet_both hosts me p rs qs e f le =
    let one = parts (is_peer hosts me p) (nat_le (length rs) 16 && list_all is_register rs) e in
    let two = parts (is_peer hosts me p) (nat_le (length qs) 16 && list_all is_register qs) f in
    let first = parts (nat_le (length rs) 16) (list_all is_register rs) one.1 in
    let second = parts (nat_le (length qs) 16) (list_all is_register qs) two.1 in
    both (is_peer hosts me p) (nat_le (length (rs ++ qs)) 16 && list_all is_register (rs ++ qs)) one.0
    (both (nat_le (length (rs ++ qs)) 16) (list_all is_register (rs ++ qs)) (is_at_most (length (rs ++ qs)) 16 le) (registers_both rs qs first.1 second.1))

enough_both : (rs qs : List Reg) → 2 ≤ suc (length (map (λ r. r.0) rs)) → 2 ≤ suc (length (map (λ r. r.0) (rs ++ qs)))
enough_both rs qs le =
    let one = length_of rs in
    let two = length_of (rs ++ qs) in
    let all = length-append rs qs in
    omega (arith, le, one, two, all)

module _ (hosts h : ℕ) where
  send_both : (p : ℕ) (rs qs : List Reg) → CanStand hosts h (instr.Send (host p) rs) → CanStand hosts h (instr.Send (host p) qs) → length (rs ++ qs) ≤ 16
      → CanStand hosts h (instr.Send (host p) (rs ++ qs))
  send_both p rs qs s t le = record {
    within = packet_both hosts (host h) (host p) rs qs s.within t.within le;
    numbers = record { words = (s.numbers.words.0, words_both rs qs s.numbers.words.1 t.numbers.words.1); enough = enough_both rs qs s.numbers.enough; exactly = λ e. cc };
  }

  recv_both : (p : ℕ) (rs qs : List Reg) → CanStand hosts h (instr.Recv (host p) rs) → CanStand hosts h (instr.Recv (host p) qs) → length (rs ++ qs) ≤ 16
      → CanStand hosts h (instr.Recv (host p) (rs ++ qs))
  recv_both p rs qs s t le = record {
    within = packet_both hosts (host h) (host p) rs qs s.within t.within le;
    numbers = record { words = (s.numbers.words.0, words_both rs qs s.numbers.words.1 t.numbers.words.1); enough = enough_both rs qs s.numbers.enough; exactly = λ e. cc };
  }

  -- ---- no more than another code

  pub record IsNoMore (c d : Code) : Type 0 where
    pub stands : AllCanStand hosts h c → AllCanStand hosts h d
    pub steps : weight d ≤ weight c
    pub bulk : code_bulk d ≤ code_bulk c
    pub blocks : depth d ≤ depth c

  pub itself : (c : Code) → IsNoMore c c
  itself c = record { stands = λ s. s; steps = omega arith; bulk = omega arith; blocks = omega arith }

  pub same_code : (c d : Code) → c ≡ d → IsNoMore c d
  same_code c d e = subst (IsNoMore c) e (itself c)

  pub onwards : (c d e : Code) → IsNoMore c d → IsNoMore d e → IsNoMore c e
  onwards c d e x y = record {
    stands = λ s. y.stands (x.stands s);
    steps = least _ _ _ x.steps y.steps;
    bulk = least _ _ _ x.bulk y.bulk;
    blocks = least _ _ _ x.blocks y.blocks;
  }
    where
      least : (k m n : ℕ) → m ≤ k → n ≤ m → n ≤ k
      least k m n le more = omega (arith, le, more)

  -- ---- one instruction before it

  abbrev StandsAlone : Piece → Type 0
  StandsAlone (Acts a) = CanStand hosts h (instr.Do a)
  StandsAlone (Sends p rs) = CanStand hosts h (instr.Send (host p) rs)
  StandsAlone (Awaits p rs) = CanStand hosts h (instr.Recv (host p) rs)

  abbrev size : Piece → ℕ
  size (Acts a) = 1
  size (Sends p rs) = length rs
  size (Awaits p rs) = length rs

  record Counted (p : Piece) (c : Code) : Type 0 where
    apart : AllCanStand hosts h (before p c) → StandsAlone p × AllCanStand hosts h c
    together : StandsAlone p → AllCanStand hosts h c → AllCanStand hosts h (before p c)
    steps_are : weight (before p c) ≡ suc (weight c)
    bulk_is : code_bulk (before p c) ≡ size p + code_bulk c
    blocks_are : depth (before p c) ≡ depth c

  counted : (p : Piece) (c : Code) → Counted p c
  counted (Acts a) c = record { apart = λ s. s; together = λ s t. (s, t); steps_are = refl; bulk_is = refl; blocks_are = refl }
  counted (Sends p rs) c = record { apart = λ s. s; together = λ s t. (s, t); steps_are = refl; bulk_is = refl; blocks_are = refl }
  counted (Awaits p rs) c = record { apart = λ s. s; together = λ s t. (s, t); steps_are = refl; bulk_is = refl; blocks_are = refl }

  piece_then : (p : Piece) (c d : Code) → IsNoMore c d → IsNoMore (before p c) (before p d)
  piece_then p c d x =
      let m = counted p c in
      let n = counted p d in
      record {
        stands = λ s. let w = m.apart s in n.together w.0 (x.stands w.1);
        steps = one _ _ _ _ m.steps_are n.steps_are x.steps;
        bulk = sums (size p) _ _ _ _ m.bulk_is n.bulk_is x.bulk;
        blocks = same _ _ _ _ m.blocks_are n.blocks_are x.blocks;
      }
    where
      one : (a b k l : ℕ) → a ≡ suc k → b ≡ suc l → l ≤ k → b ≤ a
      one a b k l e f le = omega (arith, e, f, le)

      sums : (n a b k l : ℕ) → a ≡ n + k → b ≡ n + l → l ≤ k → b ≤ a
      sums n a b k l e f le = omega (arith, e, f, le)

      same : (a b k l : ℕ) → a ≡ k → b ≡ l → l ≤ k → b ≤ a
      same a b k l e f le = omega (arith, e, f, le)

  pieces_swap : (p q : Piece) (c : Code) → IsNoMore (before p (before q c)) (before q (before p c))
  pieces_swap p q c =
      let m = counted p (before q c) in
      let n = counted q c in
      let k = counted q (before p c) in
      let l = counted p c in
      record {
        stands = λ s. let w = m.apart s in let v = n.apart w.1 in k.together v.0 (l.together w.0 v.1);
        steps = two _ _ _ _ _ m.steps_are n.steps_are k.steps_are l.steps_are;
        bulk = sums (size p) (size q) _ _ _ _ _ m.bulk_is n.bulk_is k.bulk_is l.bulk_is;
        blocks = same _ _ _ _ _ m.blocks_are n.blocks_are k.blocks_are l.blocks_are;
      }
    where
      two : (a b d e c : ℕ) → a ≡ suc b → b ≡ suc c → d ≡ suc e → e ≡ suc c → d ≤ a
      two a b d e c f g i j = omega (arith, f, g, i, j)

      sums : (p q a b d e c : ℕ) → a ≡ p + b → b ≡ q + c → d ≡ q + e → e ≡ p + c → d ≤ a
      sums p q a b d e c f g i j = omega (arith, f, g, i, j)

      same : (a b d e c : ℕ) → a ≡ b → b ≡ c → d ≡ e → e ≡ c → d ≤ a
      same a b d e c f g i j = omega (arith, f, g, i, j)

  -- one instruction, or none
  abbrev pub maybe : Option Piece → Code → Code
  maybe None c = c
  maybe (Some p) c = before p c

  pub maybe_then : (p : Option Piece) (c d : Code) → IsNoMore c d → IsNoMore (maybe p c) (maybe p d)
  maybe_then None c d x = x
  maybe_then (Some p) c d x = piece_then p c d x

  pub maybe_swap : (p q : Option Piece) (c : Code) → IsNoMore (maybe p (maybe q c)) (maybe q (maybe p c))
  maybe_swap None q c = itself (maybe q c)
  maybe_swap (Some p) None c = itself (before p c)
  maybe_swap (Some p) (Some q) c = pieces_swap p q c

  -- ---- blocks before it

  pub choose_then : (g : ℕ) (x y c u v d : Code) → IsNoMore x u → IsNoMore y v → IsNoMore c d → IsNoMore (Choose g x y c) (Choose g u v d)
  choose_then g x y c u v d k l m = record {
    stands = λ s. (s.0, (k.stands s.1.0, (l.stands s.1.1.0, m.stands s.1.1.1)));
    steps = sums (weight x) (weight y) (weight c) (weight u) (weight v) (weight d) k.steps l.steps m.steps;
    bulk = three (code_bulk x) (code_bulk y) (code_bulk c) (code_bulk u) (code_bulk v) (code_bulk d) k.bulk l.bulk m.bulk;
    blocks = most (depth x) (depth y) (depth c) (depth u) (depth v) (depth d) k.blocks l.blocks m.blocks;
  }
    where
      sums : (x y c u v d : ℕ) → u ≤ x → v ≤ y → d ≤ c → suc (u + v + d) ≤ suc (x + y + c)
      sums x y c u v d p q r = omega (arith, p, q, r)

      three : (x y c u v d : ℕ) → u ≤ x → v ≤ y → d ≤ c → 3 + (u + (v + d)) ≤ 3 + (x + (y + c))
      three x y c u v d p q r = omega (arith, p, q, r)

      most : (x y c u v d : ℕ) → u ≤ x → v ≤ y → d ≤ c → max (suc (max u v)) d ≤ max (suc (max x y)) c
      most x y c u v d p q r = omega (arith, p, q, r)

  pub repeat_then : (r turn count : ℕ) (x c u d : Code) → IsNoMore x u → IsNoMore c d → IsNoMore (Repeat r turn count x c) (Repeat r turn count u d)
  repeat_then r turn count x c u d k m = record {
    stands = λ s. (s.0, (k.stands s.1.0, m.stands s.1.1));
    steps = scaled (weight x) (weight c) (weight u) (weight d) k.steps m.steps;
    bulk = two (code_bulk x) (code_bulk c) (code_bulk u) (code_bulk d) k.bulk m.bulk;
    blocks = most (depth x) (depth c) (depth u) (depth d) k.blocks m.blocks;
  }
    where
      scaled : (x c u d : ℕ) → u ≤ x → d ≤ c → (count - turn) * suc u + suc d ≤ (count - turn) * suc x + suc c
      scaled x c u d p q =
          let one : suc u ≤ suc x = omega (arith, p) in
          let times : (count - turn) * suc u ≤ (count - turn) * suc x = mul-le-mul_left (count - turn) one in
          sums ((count - turn) * suc u) ((count - turn) * suc x) times q
        where
          sums : (a b : ℕ) → a ≤ b → d ≤ c → a + suc d ≤ b + suc c
          sums a b le more = omega (arith, le, more)

      two : (x c u d : ℕ) → u ≤ x → d ≤ c → 2 + (u + d) ≤ 2 + (x + c)
      two x c u d p q = omega (arith, p, q)

      most : (x c u d : ℕ) → u ≤ x → d ≤ c → max (suc u) d ≤ max (suc x) c
      most x c u d p q = omega (arith, p, q)

  -- what a host has of a block
  pub part_then : (ps : List Part) (f g : ℕ → Code) (c d : Code) → ((r : ℕ) → IsNoMore (f r) (g r)) → IsNoMore c d → IsNoMore (if_part ps h f c) (if_part ps h g d)
  part_then [] f g c d each x = x
  part_then (p ∷ ps) f g c d each x = at (nat_eq h p.0) (part_then ps f g c d each x)
    where
      at : (b : Bool) → IsNoMore (if_part ps h f c) (if_part ps h g d) → IsNoMore (if b then f p.1 else if_part ps h f c) (if b then g p.1 else if_part ps h g d)
      at true rest = each p.1
      at false rest = rest

  -- ---- exchanges in the code of a host

  piece_past : (x : Stretch) (y : Piece) (c : Code) → IsNoMore (stretch_before x (before y c)) (before y (stretch_before x c))
  piece_past (One x) y c = pieces_swap x y c
  piece_past (Branch g first other) y c =
      let m = counted y c in
      let n = counted y (Choose g first other c) in
      record {
        stands = λ s. let w = m.apart s.1.1.1 in n.together w.0 (s.0, (s.1.0, (s.1.1.0, w.1)));
        steps = same_steps (weight first + weight other) _ _ _ m.steps_are n.steps_are;
        bulk = same_bulk (size y) (code_bulk first) (code_bulk other) _ _ _ m.bulk_is n.bulk_is;
        blocks = same_blocks (suc (max (depth first) (depth other))) _ _ _ m.blocks_are n.blocks_are;
      }
    where
      same_steps : (b k l c : ℕ) → k ≡ suc c → l ≡ suc (suc (b + c)) → l ≤ suc (b + k)
      same_steps b k l c e f = omega (arith, e, f)

      same_bulk : (n b o k l c : ℕ) → k ≡ n + c → l ≡ n + (3 + (b + (o + c))) → l ≤ 3 + (b + (o + k))
      same_bulk n b o k l c e f = omega (arith, e, f)

      same_blocks : (b k l c : ℕ) → k ≡ c → l ≡ max b c → l ≤ max b k
      same_blocks b k l c e f = omega (arith, e, f)
  piece_past (Loop r turn count body) y c =
      let m = counted y c in
      let n = counted y (Repeat r turn count body c) in
      record {
        stands = λ s. let w = m.apart s.1.1 in n.together w.0 (s.0, (s.1.0, w.1));
        steps = same_steps ((count - turn) * suc (weight body)) _ _ _ m.steps_are n.steps_are;
        bulk = same_bulk (size y) (code_bulk body) _ _ _ m.bulk_is n.bulk_is;
        blocks = same_blocks (suc (depth body)) _ _ _ m.blocks_are n.blocks_are;
      }
    where
      same_steps : (b k l c : ℕ) → k ≡ suc c → l ≡ suc (b + suc c) → l ≤ b + suc k
      same_steps b k l c e f = omega (arith, e, f)

      same_bulk : (n b k l c : ℕ) → k ≡ n + c → l ≡ n + (2 + (b + c)) → l ≤ 2 + (b + k)
      same_bulk n b k l c e f = omega (arith, e, f)

      same_blocks : (b k l c : ℕ) → k ≡ c → l ≡ max b c → l ≤ max b k
      same_blocks b k l c e f = omega (arith, e, f)

  at_place : (p : Place) (c d : Code) → IsNoMore c d → IsNoMore (with_code p c) (with_code p d)
  at_place Here c d x = x
  at_place (Behind y p) c d x = piece_then y (with_code p c) (with_code p d) (at_place p c d x)
  at_place (InFirst g p other rest) c d x =
      choose_then g (with_code p c) other rest (with_code p d) other rest (at_place p c d x) (itself other) (itself rest)
  at_place (InOther g first p rest) c d x =
      choose_then g first (with_code p c) rest first (with_code p d) rest (itself first) (at_place p c d x) (itself rest)
  at_place (InBody r t n p rest) c d x = repeat_then r t n (with_code p c) rest (with_code p d) rest (at_place p c d x) (itself rest)
  at_place (BehindBranch g first other p) c d x =
      choose_then g first other (with_code p c) first other (with_code p d) (itself first) (itself other) (at_place p c d x)
  at_place (BehindLoop r t n body p) c d x = repeat_then r t n body (with_code p c) body (with_code p d) (itself body) (at_place p c d x)

  one_exchanged : (c d : Code) → IsExchanged c d → IsNoMore c d
  one_exchanged c d x =
      let old : Code = stretch_before x.first (before x.second x.rest) in
      let new : Code = before x.second (stretch_before x.first x.rest) in
      subst (λ k. IsNoMore k d) (sym x.old)
      (subst (IsNoMore (with_code x.place old)) (sym x.new) (at_place x.place old new (piece_past x.first x.second x.rest)))

  all_exchanged : (n : ℕ) (c d : Code) → Exchanges n c d → IsNoMore c d
  all_exchanged zero c d x = same_code c d x
  all_exchanged (suc n) c d x = onwards c x.0 d (one_exchanged c x.0 x.1) (all_exchanged n x.0 d x.2)

  pub hastened_is_no_more : (c d : Code) → IsHastened c d → IsNoMore c d
  hastened_is_no_more c d x = all_exchanged x.0 c d x.1

  -- ---- packets that share

  pub sends_share : (p : ℕ) (rs qs : List Reg) (c : Code) → length (rs ++ qs) ≤ 16 → IsNoMore (Send p rs (Send p qs c)) (Send p (rs ++ qs) c)
  sends_share p rs qs c le = record {
    stands = λ s. (send_both p rs qs s.0 s.1.0 le, s.1.1);
    steps = omega arith;
    bulk = let all = length-append rs qs in sums _ _ _ _ all;
    blocks = omega arith;
  }
    where
      sums : (a b k n : ℕ) → n ≡ a + b → n + k ≤ a + (b + k)
      sums a b k n e = omega (arith, e)

  pub receives_share : (p : ℕ) (rs qs : List Reg) (c : Code) → length (rs ++ qs) ≤ 16 → IsNoMore (Recv p rs (Recv p qs c)) (Recv p (rs ++ qs) c)
  receives_share p rs qs c le = record {
    stands = λ s. (recv_both p rs qs s.0 s.1.0 le, s.1.1);
    steps = omega arith;
    bulk = let all = length-append rs qs in sums _ _ _ _ all;
    blocks = omega arith;
  }
    where
      sums : (a b k n : ℕ) → n ≡ a + b → n + k ≤ a + (b + k)
      sums a b k n e = omega (arith, e)
