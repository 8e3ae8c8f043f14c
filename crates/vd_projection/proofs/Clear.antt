-- What hosts do for words in clear takes few registers.
use Rattle.std.proofs.Common.{ℕ, suc, ◌+◌, ◌*◌, ◌<◌, ◌≤◌, nat_eq, Bool, true, false, if◌then◌else◌, List, [], ◌∷◌, ◌++◌, length, map, arith}
use Rattle.vd_base.specs.declared.ids.HostId.{HostId}
use Rattle.vd_base.specs.declared.operations.Op.{Op}
use Rattle.vd_base.specs.declared.operations.Op.TheVariants as op
use Rattle.vd_base.specs.Holders.{is_among}
use Rattle.vd_execution.specs.declared.instructions.Reg.{Reg}
use Rattle.vd_execution.specs.declared.instructions.Binary.{Binary}
use Rattle.vd_execution.specs.declared.instructions.Binary.TheVariants as binary
use Rattle.vd_execution.specs.declared.instructions.Action.{Action}
use Rattle.vd_execution.specs.declared.instructions.Action.TheVariants as action
use Rattle.vd_execution.specs.Gadgets.{Alone, Tells}
use Rattle.vd_execution.specs.Ranges.{ActionFits}
use Rattle.vd_duet.specs.Builder.{next_at, taken}
use Rattle.vd_duet.specs.Calls.{Places, hosts_of, Made, register_of}
use Rattle.vd_duet.specs.Laws.{Each}
use Rattle.vd_clear.specs.Copies.{written_by, with_number, passed, adopted, first_of, after_first, operated, applied_at, told, compared, first_register, shown, each_made, renewed}
use Rattle.vd_projection.specs.Fits.{IsLow, GadgetFits, PlacesFit}
use Rattle.vd_projection.proofs.Bounds.{low_more, taken_low, one_fits, gadgets_fit, places_more, RegFits, PlacesMade}

module _ (hosts N : ℕ) where
  -- ---- a register of a place

  pub register_fits : (size n : ℕ) (x : Places) (h : ℕ) → size ≤ n → PlacesFit hosts size n x → (register_of x h).0 + size ≤ n
  register_fits size n [] h le f = omega (arith, le)
  register_fits size n (q ∷ x) h le f = at (nat_eq h q.0.0) (register_fits size n x h le f.1)
    where
      at : (b : Bool) → (register_of x h).0 + size ≤ n → (let r : Reg = if b then q.1 else register_of x h in r.0 + size ≤ n)
      at true e = f.0.1
      at false e = e

  -- ---- one host, with the next free registers at most m

  pub written_fits : (h : HostId) (a : Reg → Action) (m n : ℕ) (next : List ℕ) → m + 1 ≤ n → IsLow m next → ((r : Reg) → r.0 ≤ m → ActionFits N (a r)) → RegFits hosts N 1 n (written_by h a next)
  written_fits h a m n next le low f =
      let p = low h.0 in
      record {
        low = low_more (m + 1) n (taken h 1 next) le (taken_low h 1 m next low);
        given = omega (arith, p, le);
        gadgets = ((f (next_at next h) p, tt), tt);
      }

  pub passed_fits : (a : HostId) (x : Reg) (b : HostId) (m n : ℕ) (next : List ℕ) → a.0 < hosts → b.0 < hosts → x.0 ≤ m → m + 1 ≤ n → n ≤ N → IsLow m next → RegFits hosts N 1 n (passed a x b next)
  passed_fits a x b m n next from to le more most low = at (nat_eq a.0 b.0)
    where
      at : (z : Bool) → RegFits hosts N 1 n (if z then record { given = x; gadgets = []; next = next } else record { given = next_at next b; gadgets = Tells a (x ∷ []) b (next_at next b ∷ []) ∷ []; next = taken b 1 next })
      at true = record { low = low_more m n next (omega (arith, more)) low; given = omega (arith, le, more); gadgets = tt }
      at false =
          let p = low b.0 in
          record {
            low = low_more (m + 1) n (taken b 1 next) more (taken_low b 1 m next low);
            given = omega (arith, p, more);
            gadgets = (((from, to, one_fits N x (omega (arith, le, more, most)), one_fits N (next_at next b) (omega (arith, p, more, most))), tt), tt);
          }

  pub adopted_fits : (x : Places) (h : HostId) (m n : ℕ) (next : List ℕ) → PlacesFit hosts 0 m x → m + 1 ≤ n → IsLow m next → RegFits hosts N 1 n (adopted x h next)
  adopted_fits x h m n next f le low =
      let p = register_fits 0 m x h.0 (omega arith) f in record { low = low_more m n next (omega (arith, le)) low; given = omega (arith, p, le); gadgets = tt }

  number_fits : (h : HostId) (k : ℕ) (o : Binary) (x : Reg) (m n : ℕ) (next : List ℕ) → x.0 ≤ m → m + 2 ≤ n → n ≤ N → IsLow m next → RegFits hosts N 1 n (with_number h k o x next)
  number_fits h k o x m n next le more most low =
      let p = low h.0 in
      record {
        low = low_more (m + 2) n (taken h 2 next) more (taken_low h 2 m next low);
        given = omega (arith, p, more);
        gadgets = ((omega (arith, p, more, most), tt), (((omega (arith, p, more, most), omega (arith, le, more, most), omega (arith, p, more, most)), tt), tt));
      }

  operated_fits : (o : Op) (x y z : Reg) (h : HostId) (m n : ℕ) (next : List ℕ) → x.0 ≤ m → y.0 ≤ m → z.0 ≤ m → m + 2 ≤ n → n ≤ N → IsLow m next → RegFits hosts N 1 n (operated o x y z h next)
  operated_fits o x y z h m n next ex ey ez more most low = at o
    where
      two : (o : Binary) → RegFits hosts N 1 n (written_by h (λ r. action.Apply o r x y) next)
      two o = written_fits h (λ r. action.Apply o r x y) m n next (omega (arith, more)) low (λ r e. (omega (arith, e, more, most), omega (arith, ex, more, most), omega (arith, ey, more, most)))

      at : (o : Op) → RegFits hosts N 1 n (operated o x y z h next)
      at op.Add = two binary.Add
      at op.Sub = two binary.Sub
      at op.Mul = two binary.Mul
      at (op.Scale k) = number_fits h k binary.Mul x m n next ex more most low
      at op.Div = two binary.Div
      at op.Rem = two binary.Rem
      at op.And = two binary.And
      at op.Or = two binary.Or
      at op.Xor = two binary.Xor
      at op.Not = number_fits h 4294967295 binary.Xor x m n next ex more most low
      at op.Flip = number_fits h 1 binary.Xor x m n next ex more most low
      at (op.Shl k) = written_fits h (λ r. action.Shl r x k) m n next (omega (arith, more)) low (λ r e. (omega (arith, e, more, most), omega (arith, ex, more, most)))
      at (op.Shr k) = written_fits h (λ r. action.Shr r x k) m n next (omega (arith, more)) low (λ r e. (omega (arith, e, more, most), omega (arith, ex, more, most)))
      at op.Eq = two binary.Eq
      at op.Ne = two binary.Ne
      at op.Lt = two binary.Lt
      at op.Le = two binary.Le
      at op.Min = two binary.Min
      at op.Max = two binary.Max
      at op.Mux =
          written_fits h (λ r. action.Mux r x y z) m n next (omega (arith, more)) low
          (λ r e. (omega (arith, e, more, most), omega (arith, ex, more, most), omega (arith, ey, more, most), omega (arith, ez, more, most)))

  first_fits : (xs : List Places) (h : HostId) (m : ℕ) → Each (PlacesFit hosts 0 m) xs → (first_of xs h).0 ≤ m
  first_fits [] h m f = omega arith
  first_fits (x ∷ xs) h m f = let p = register_fits 0 m x h.0 (omega arith) f.0 in omega (arith, p)

  rest_fits : (xs : List Places) (m : ℕ) → Each (PlacesFit hosts 0 m) xs → Each (PlacesFit hosts 0 m) (after_first xs)
  rest_fits [] m f = tt
  rest_fits (x ∷ xs) m f = f.1

  pub applied_fits : (o : Op) (xs : List Places) (h : HostId) (m n : ℕ) (next : List ℕ) → Each (PlacesFit hosts 0 m) xs → m + 2 ≤ n → n ≤ N → IsLow m next → RegFits hosts N 1 n (applied_at o xs h next)
  applied_fits o xs h m n next f more most low =
      let g = rest_fits xs m f in
      operated_fits o (first_of xs h) (first_of (after_first xs) h) (first_of (after_first (after_first xs)) h) h m n next
      (first_fits xs h m f) (first_fits (after_first xs) h m g) (first_fits (after_first (after_first xs)) h m (rest_fits (after_first xs) m g)) more most low

  -- ---- copies that are told

  record ToldFit (n : ℕ) (made : Made (List Reg)) : Type 0 where
    low : IsLow n made.next
    given : Each (λ (r : Reg). r.0 < n) made.given
    gadgets : Each (GadgetFits hosts N) made.gadgets

  regs_wider : (m n : ℕ) (rs : List Reg) → m ≤ n → Each (λ (r : Reg). r.0 < m) rs → Each (λ (r : Reg). r.0 < n) rs
  regs_wider m n [] le f = tt
  regs_wider m n (r ∷ rs) le f = (let p = f.0 in omega (arith, p, le), regs_wider m n rs le f.1)

  told_fits : (x : Places) (to : HostId) (k m n : ℕ) (next : List ℕ) → to.0 < hosts → PlacesFit hosts 0 k x → k ≤ m → m + length x ≤ n → 0 < length x → n ≤ N → IsLow m next → ToldFit n (told x to next)
  told_fits [] to k m n next here f le more some most low = absurd (omega (arith, some))
  told_fits (q ∷ []) to k m n next here f le more some most low =
      let p = low to.0 in
      let r = f.0.1 in
      record {
        low = low_more (m + 1) n (taken to 1 next) more (taken_low to 1 m next low);
        given = (omega (arith, p, more), tt);
        gadgets = (((f.0.0, here, one_fits N q.1 (omega (arith, r, le, more, most)), one_fits N (next_at next to) (omega (arith, p, more, most))), tt), tt);
      }
  told_fits (q ∷ s ∷ x) to k m n next here f le more some most low =
      let p = low to.0 in
      let r = f.0.1 in
      let rest = told_fits (s ∷ x) to k (m + 1) n (taken to 1 next) here f.1 (omega (arith, le)) (omega (arith, more)) (omega arith) most (taken_low to 1 m next low) in
      record {
        low = rest.low;
        given = (omega (arith, p, more), rest.given);
        gadgets = (((f.0.0, here, one_fits N q.1 (omega (arith, r, le, more, most)), one_fits N (next_at next to) (omega (arith, p, more, most))), tt), rest.gadgets);
      }

  compared_each : (h : HostId) (r : Reg) (rs : List Reg) → r.0 < N → Each (λ (s : Reg). s.0 < N) rs → Each (GadgetFits hosts N) (map (λ s. Alone h (action.Same r s)) rs)
  compared_each h r [] lt f = tt
  compared_each h r (s ∷ rs) lt f = (((lt, f.0), tt), compared_each h r rs lt f.1)

  compared_fits : (h : HostId) (rs : List Reg) → Each (λ (s : Reg). s.0 < N) rs → Each (GadgetFits hosts N) (compared h rs)
  compared_fits h [] f = tt
  compared_fits h (r ∷ rs) f = compared_each h r rs f.0 f.1

  first_low : (n : ℕ) (rs : List Reg) → 1 ≤ n → Each (λ (r : Reg). r.0 < n) rs → (first_register rs).0 + 1 ≤ n
  first_low n [] le f = omega (arith, le)
  first_low n (r ∷ rs) le f = let p = f.0 in omega (arith, p)

  pub shown_fits : (x : Places) (h : HostId) (k m n : ℕ) (next : List ℕ) → h.0 < hosts → PlacesFit hosts 0 k x → length x ≤ 17 → k ≤ m → m + 17 ≤ n → n ≤ N → IsLow m next → RegFits hosts N 1 n (shown x h next)
  shown_fits x h k m n next here f few le more most low = at (is_among (hosts_of x) h.0)
    where
      heard : (y : Places) → PlacesFit hosts 0 k y → length y ≤ 17 → ToldFit n (told y h next)
      heard [] g e = record { low = low_more m n next (omega (arith, more)) low; given = tt; gadgets = tt }
      heard (q ∷ y) g e = told_fits (q ∷ y) h k m n next here g le (omega (arith, e, more)) (omega arith) most low

      at : (b : Bool) → RegFits hosts N 1 n (if b then adopted x h next else record {
        given = first_register (told x h next).given;
        gadgets = (told x h next).gadgets ++ compared h (told x h next).given;
        next = (told x h next).next;
      })
      at true = adopted_fits x h m n next (places_more hosts 0 k m x le f) (omega (arith, more)) low
      at false =
          let all = heard x f few in
          record {
            low = all.low;
            given = first_low n (told x h next).given (omega (arith, more)) all.given;
            gadgets = gadgets_fit hosts N (told x h next).gadgets (compared h (told x h next).given) all.gadgets (compared_fits h (told x h next).given (regs_wider n N (told x h next).given most all.given));
          }

  -- ---- each of some hosts

  pub each_fits : (f : HostId → List ℕ → Made Reg) (size k low_from : ℕ)
      → ((h : HostId) → h.0 < hosts → (m n : ℕ) (next : List ℕ) → low_from ≤ m → m + k ≤ n → n ≤ N → IsLow m next → RegFits hosts N size n (f h next))
      → (hs : List HostId) → Each (λ (h : HostId). h.0 < hosts) hs → (m n : ℕ) (next : List ℕ) → low_from ≤ m → m + k * length hs ≤ n → n ≤ N → IsLow m next
      → PlacesMade hosts N size n (each_made f hs next)
  each_fits f size k from law [] known m n next le more most low = record { low = low_more m n next (none k m n more) low; given = tt; gadgets = tt }
    where
      none : (k m n : ℕ) → m + k * 0 ≤ n → m ≤ n
      none k m n e = omega (arith, e)
  each_fits f size k from law (h ∷ hs) known m n next le more most low =
      let one = law h known.0 m (m + k) next le (omega arith) (first k (length hs) m n more most) low in
      let rest = each_fits f size k from law hs known.1 (m + k) n (f h next).next (omega (arith, le)) (others k (length hs) m n more) most one.low in
      record {
        low = rest.low;
        given = ((known.0, wide k (length hs) m n _ more one.given), rest.given);
        gadgets = gadgets_fit hosts N (f h next).gadgets (each_made f hs (f h next).next).gadgets one.gadgets rest.gadgets;
      }
    where
      first : (k l m n : ℕ) → m + k * suc l ≤ n → n ≤ N → m + k ≤ N
      first k l m n e most = omega (arith, e, most)

      others : (k l m n : ℕ) → m + k * suc l ≤ n → m + k + k * l ≤ n
      others k l m n e = omega (arith, e)

      wide : (k l m n r : ℕ) → m + k * suc l ≤ n → r ≤ m + k → r ≤ n
      wide k l m n r e g = omega (arith, e, g)

  -- each copy is written over
  pub renewed_fits : (kept x : Places) (n : ℕ) → PlacesFit hosts 0 n kept → PlacesFit hosts 0 n x → n < N → Each (GadgetFits hosts N) (renewed kept x)
  renewed_fits [] x n f g lt = tt
  renewed_fits (q ∷ kept) x n f g lt =
      let p = f.0.1 in let r = register_fits 0 n x q.0.0 (omega arith) g in
      (((omega (arith, p, lt), omega (arith, r, lt)), tt), renewed_fits kept x n f.1 g lt)
